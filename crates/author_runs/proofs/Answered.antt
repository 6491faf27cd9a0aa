-- Choices that answer each draw of a run as it was answered there give the same run.
use Rattle.std.proofs.Common.{◌≡◌, ℕ, zero, suc, ℤ, pos, Bool, true, false, cond, List, [], ◌∷◌, ◌++◌, length, reverse, Option, Some, None, refl, sym, ◌∙◌, ap, subst, nat_le, not, take, ◌+◌, ◌-◌, slice_get, append_assoc}
use Rattle.std.proofs.lemmas.List.{append_cancel_left, append-nil}
use Rattle.c_core.specs.Types.{fit, is_zero, number_of}
use Rattle.c_core.specs.Operators.{apply_of, apply_one_of}
use Rattle.c_core.specs.Tree.{Program, Function}
use Rattle.c_core.specs.declared.number.DataModel.{DataModel}
use Rattle.c_core.specs.declared.number.IntType.{IntType}
use Rattle.c_core.specs.declared.number.Spot.{Spot}
use Rattle.c_core.specs.declared.number.Done.{Done}
use Rattle.c_core.specs.declared.number.Done.TheVariants.{Value, Overflow, Undefined as NoValue}
use Rattle.c_core.specs.declared.number.Property.{Property}
use Rattle.c_core.specs.declared.number.Property.TheVariants.{UnreachCall, NoOverflow}
use Rattle.c_core.specs.declared.tree.Label.{Label as ArmLabel}
use Rattle.c_meaning.specs.declared.run.End.{End}
use Rattle.c_meaning.specs.declared.run.End.TheVariants.{Ended, Undefined, Violated, Deep}
use Rattle.c_meaning.specs.declared.run.Event.{Event}
use Rattle.c_meaning.specs.declared.run.Event.TheVariants.{At, Branch, Enter, Return, Fail}
use Rattle.c_meaning.specs.declared.run.Way.TheVariants.{Truth}
use Rattle.c_meaning.specs.declared.run.Draw.{Draw}
use Rattle.c_meaning.specs.declared.run.DrawKind.{DrawKind}
use Rattle.c_meaning.specs.declared.run.Choices.{Choices}
use Rattle.c_meaning.specs.declared.run.Run.{Run as GivenRun}
use Rattle.c_meaning.specs.Cells.{Key, Cell}
use Rattle.c_meaning.specs.Objects.{size_of_object, columns_of_object}
use Rattle.c_meaning.specs.Meaning.{Where, Site, Loop}
use Rattle.c_meaning.specs.Acts.{Res, Go, Stop, Flow, Next, Broken, Again, Gave, bind, go_on, turned, continuing, held, given}
use Rattle.c_meaning.specs.Acts as acts
use Rattle.c_meaning.specs.Run as run
use Rattle.c_meaning.specs.Run.{Run, Moments, State, Moment, Here, Head, real, cell_among, arm_for, way_for, cells_of, with_cells, state_of, chosen, after_draw, or_zero, one_if_none}
use Rattle.c_meaning.specs.Exec.{run_in, run_if, call_of}
use Rattle.c_meaning.specs.Related.{Units, Relation, Preserves}
use Rattle.c_meaning.proofs.Fundamental.{same_values, related_body, related_call, Free, all_fit_params, all_fit}

-- what is left to choose, and how many draws took no choice
pub record Left : Type 0 where
  pub choices : Choices
  pub unfixed : ℕ

-- what a draw leaves
abbrev pub after_one : Draw → Left → Left
after_one d l = record {
  choices = after_draw d.from d.spot l.choices;
  unfixed = l.unfixed + one_if_none (chosen d.from d.spot l.choices);
}

-- what draws leave, one after the other
abbrev pub after_all : List Draw → Left → Left
after_all [] l = l
after_all (d ∷ ds) l = after_all ds (after_one d l)

-- the choices answer these draws with their values, one after the other
abbrev pub Answers : DataModel → List Draw → Left → Type 0
Answers m [] l = Unit {0}
Answers m (d ∷ ds) l =
    (fit m d.ty (or_zero (chosen d.from d.spot l.choices)) ≡ d.value) × Answers m ds (after_one d l)

after_both : (ds es : List Draw) (l : Left) → after_all (ds ++ es) l ≡ after_all es (after_all ds l)
after_both [] es l = refl
after_both (d ∷ ds) es l = after_both ds es (after_one d l)

answers_join : (m : DataModel) (ds es : List Draw) (l : Left) → Answers m ds l → Answers m es (after_all ds l)
    → Answers m (ds ++ es) l
answers_join m [] es l h k = k
answers_join m (d ∷ ds) es l h k = (h.0, answers_join m ds es (after_one d l) h.1 k)

answers_split : (m : DataModel) (ds es : List Draw) (l : Left) → Answers m (ds ++ es) l
    → Answers m ds l × Answers m es (after_all ds l)
answers_split m [] es l h = (tt, h)
answers_split m (d ∷ ds) es l h = let k = answers_split m ds es (after_one d l) h.1 in ((h.0, k.0), k.1)

module _ (p : Program) (S : Type 0) (see : Moment → S → S) where
  abbrev Result : Type 0 → Type 0
  Result A = Res End (State S) A

  abbrev Act : Type 0 → Type 0
  Act A = State S → Result A

  abbrev Equal : {A : Type 0} → A → A → Type 0
  Equal a b = a ≡ b

  abbrev left_of : State S → Left
  left_of s = record { choices = s.choices; unfixed = s.unfixed }

  -- the same state with this left to choose
  abbrev with_left : Left → State S → State S
  with_left l s = record {
    steps = s.steps;
    cells = s.cells;
    active = s.active;
    choices = l.choices;
    draws = s.draws;
    unfixed = l.unfixed;
    seen = s.seen;
  }

  abbrev Same : {A B : Type 0} → (A → B → Type 0) → Left → Result A → Result B → Type 0
  Same R l (Go a s) (Go b t) = R a b × (with_left l s ≡ t)
  Same R l (Go a s) (Stop e t) = ⊥
  Same R l (Stop e s) (Go b t) = ⊥
  Same R l (Stop e s) (Stop f t) = (e ≡ f) × (with_left l s ≡ t)

  -- the draws made, and what they left
  abbrev drawing_of : {A : Type 0} → Result A → List Draw × Left
  drawing_of r = ((state_of r).draws, left_of (state_of r))

  -- the first's own choices answer the new draws that it makes; where others answer them too, the second does the same
  pub record Replays {A B : Type 0} (R : A → B → Type 0) (m : Act A) (n : Act B) : Type 0 where
    pub new : State S → List Draw
    pub drew : (s : State S) → drawing_of (m s) ≡ (s.draws ++ new s, after_all (new s) (left_of s))
    pub own : (s : State S) → Answers p.model (new s) (left_of s)
    pub at : (s : State S) (l : Left) → Answers p.model (new s) l
        → Same R (after_all (new s) l) (m s) (n (with_left l s))

  -- without draws
  still : {A B : Type 0} (R : A → B → Type 0) (m : Act A) (n : Act B)
      → ((s : State S) → drawing_of (m s) ≡ (s.draws, left_of s))
      → ((s : State S) (l : Left) → Same R l (m s) (n (with_left l s))) → Replays R m n
  still R m n d f = record {
    new = λ s. [];
    drew = λ s. d s ∙ ap (λ ds. (ds, left_of s)) (sym (append-nil s.draws));
    own = λ s. tt;
    at = λ s l h. f s l;
  }

  -- one part after the other
  module _ {A B C D : Type 0} (R : A → B → Type 0) (Q : C → D → Type 0) (k : A → Act C) (l : B → Act D)
      (f : (a : A) (b : B) → R a b → Replays Q (k a) (l b)) where
    -- the draws of the second part, where the first came to a result
    new_after : (x : Left) (r : Result A) (q : Result B) → Same R x r q → List Draw
    new_after x (Go a s) (Go b t) o = (f a b o.0).new s
    new_after x (Go a s) (Stop e t) o = absurd o
    new_after x (Stop e s) (Go b t) o = absurd o
    new_after x (Stop e s) (Stop e' t) o = []

    drew_on : (ds n1 : List Draw) (y x : Left) (r : Result A) (q : Result B) (o : Same R x r q)
        → drawing_of r ≡ (ds ++ n1, after_all n1 y)
        → drawing_of (bind r k) ≡ (ds ++ (n1 ++ new_after x r q o), after_all (n1 ++ new_after x r q o) y)
    unfolding new_after
    drew_on ds n1 y x (Go a s) (Go b t) o e =
        let n2 = (f a b o.0).new s in
        (f a b o.0).drew s ∙ ap (λ z. (z.0 ++ n2, after_all n2 z.1)) e
        ∙ ap (λ z. (z, after_all n2 (after_all n1 y))) (append_assoc ds n1 n2)
        ∙ ap (λ z. (ds ++ (n1 ++ n2), z)) (sym (after_both n1 n2 y))
    drew_on ds n1 y x (Go a s) (Stop e' t) o e = absurd o
    drew_on ds n1 y x (Stop e' s) (Go b t) o e = absurd o
    drew_on ds n1 y x (Stop e' s) (Stop e2 t) o e = e ∙ ap (λ z. (ds ++ z, after_all z y)) (sym (append-nil n1))

    own_on : (ds n1 : List Draw) (y x : Left) (r : Result A) (q : Result B) (o : Same R x r q)
        → drawing_of r ≡ (ds ++ n1, after_all n1 y) → Answers p.model n1 y → Answers p.model (n1 ++ new_after x r q o) y
    unfolding new_after
    own_on ds n1 y x (Go a s) (Go b t) o e h =
        let g = f a b o.0 in
        answers_join p.model n1 (g.new s) y h (subst (λ z. Answers p.model (g.new s) z) (ap (λ z. z.1) e) (g.own s))
    own_on ds n1 y x (Go a s) (Stop e' t) o e h = absurd o
    own_on ds n1 y x (Stop e' s) (Go b t) o e h = absurd o
    own_on ds n1 y x (Stop e' s) (Stop e2 t) o e h = subst (λ z. Answers p.model z y) (sym (append-nil n1)) h

    -- the draws of a part are the same ones, whatever it is compared with
    goes_on : (a : A) (s : State S) (n2 : List Draw) → (state_of (k a s)).draws ≡ s.draws ++ n2
        → (x : Left) → Answers p.model n2 x → (q : Result B) → Same R x (Go a s) q
        → Same Q (after_all n2 x) (k a s) (bind q l)
    goes_on a s n2 e x h (Go b t) o =
        let g = f a b o.0 in
        let drew : s.draws ++ g.new s ≡ s.draws ++ n2 = sym (ap (λ z. z.0) (g.drew s)) ∙ e in
        subst (λ ds. Answers p.model ds x → Same Q (after_all ds x) (k a s) (bind (Go b t) l))
        (append_cancel_left s.draws (g.new s) n2 drew)
        (λ h'. subst (λ u. Same Q (after_all (g.new s) x) (k a s) (l b u)) o.1 (g.at s x h')) h
    goes_on a s n2 e x h (Stop e' t) o = absurd o

    stops : (e : End) (s : State S) (x : Left) (q : Result B) → Same R x (Stop e s) q → Same Q x (Stop e s) (bind q l)
    stops e s x (Go b t) o = absurd o
    stops e s x (Stop e' t) o = o

    -- q2: what the second does with this left to choose
    same_on : (n1 : List Draw) (x : Left) (r : Result A) (q : Result B) (o : Same R x r q) (y : Left) (q2 : Result B)
        → (Answers p.model n1 y → Same R (after_all n1 y) r q2)
        → Answers p.model (n1 ++ new_after x r q o) y
        → Same Q (after_all (n1 ++ new_after x r q o) y) (bind r k) (bind q2 l)
    unfolding new_after
    same_on n1 x (Go a s) (Go b t) o y q2 i h =
        let n2 = (f a b o.0).new s in
        let both = answers_split p.model n1 n2 y h in
        subst (λ z. Same Q z (k a s) (bind q2 l)) (sym (after_both n1 n2 y))
        (goes_on a s n2 (ap (λ z. z.0) ((f a b o.0).drew s)) (after_all n1 y) both.1 q2 (i both.0))
    same_on n1 x (Go a s) (Stop e t) o y q2 i h = absurd o
    same_on n1 x (Stop e s) (Go b t) o y q2 i h = absurd o
    same_on n1 x (Stop e s) (Stop e' t) o y q2 i h =
        subst (λ z. Same Q (after_all z y) (Stop e s) (bind q2 l)) (sym (append-nil n1))
        (stops e s (after_all n1 y) q2 (i (answers_split p.model n1 [] y h).0))

  replays_then : {A B C D : Type 0} (R : A → B → Type 0) (Q : C → D → Type 0) (m : Act A) (n : Act B)
      (k : A → Act C) (l : B → Act D) → Replays R m n → ((a : A) (b : B) → R a b → Replays Q (k a) (l b))
      → Replays Q (λ s. bind (m s) k) (λ s. bind (n s) l)
  replays_then R Q m n k l g f = record {
    new = λ s. g.new s ++ new_after R Q k l f (left s) (m s) (n s) (same s);
    drew = λ s. drew_on R Q k l f s.draws (g.new s) (left_of s) (left s) (m s) (n s) (same s) (g.drew s);
    own = λ s. own_on R Q k l f s.draws (g.new s) (left_of s) (left s) (m s) (n s) (same s) (g.drew s) (g.own s);
    at = λ s y. same_on R Q k l f (g.new s) (left s) (m s) (n s) (same s) y (n (with_left y s)) (g.at s y);
  }
    where
      -- from the same state both do the same
      left : State S → Left
      left s = after_all (g.new s) (left_of s)

      same : (s : State S) → Same R (left s) (m s) (n s)
      same s = g.at s (left_of s) (g.own s)

  -- ---- the parts of a run

  abbrev ret : {A : Type 0} → A → Act A
  ret a = run.ret p S see a

  abbrev stop : {A : Type 0} → End → Act A
  stop e = run.stop p S see e

  abbrev tell : Event → Act (Unit {0})
  tell e = run.tell p S see e

  abbrev scoped : {A : Type 0} → Act A → Act A
  scoped m = acts.scoped End (State S) cells_of with_cells m

  abbrev look : Key → Act ℤ
  look k = acts.look End (State S) cells_of with_cells k

  abbrev write : Key → ℤ → Act (Unit {0})
  write k v = acts.write End (State S) cells_of with_cells k v

  abbrev key_of : Spot → ℕ → Option ℕ → Act Key
  key_of spot o i = run.key_of p S see spot o i

  abbrev answered : Where → Spot → Done → Act ℤ
  answered at spot d = run.answered p S see at spot d

  abbrev branched : {A : Type 0} → Spot → Bool → Act A → Act A → Act A
  branched spot t a b = run.branched p S see spot t a b

  abbrev turns : ℕ → Spot → Loop → List Cell → Act Flow → Act Flow
  turns n at l arrived m = run.turns p S see n at l arrived m

  -- parts that depend on equal values
  along : {X A : Type 0} (R : A → A → Type 0) (k : X → Act A) (x y : X) → x ≡ y → Replays R (k x) (k x)
      → Replays R (k x) (k y)
  along R k x y e f = subst (λ z. Replays R (k x) (k z)) e f

  replays_ret : {A B : Type 0} (R : A → B → Type 0) (a : A) (b : B) → R a b → Replays R (ret a) (ret b)
  replays_ret R a b q = still R _ _ (λ s. refl) (λ s l. (q, refl))

  replays_stop : {A B : Type 0} (R : A → B → Type 0) (e : End) → Replays R (stop {A = A} e) (stop {A = B} e)
  replays_stop R e = still R _ _ (λ s. refl) (λ s l. (refl, refl))

  replays_tell : (e : Event) → Replays Units (tell e) (tell e)
  replays_tell e = still Units _ _ (λ s. refl) (λ s l. (tt, refl))

  -- a moment with the cells of now
  abbrev noted : (List Cell → Moment) → Act (Unit {0})
  noted f s = run.note p S see (f s.cells) s

  replays_noted : {A B : Type 0} (R : A → B → Type 0) (f : List Cell → Moment) (k : Act A) (l : Act B)
      → Replays R k l → Replays R (λ s. bind (noted f s) (λ _. k)) (λ s. bind (noted f s) (λ _. l))
  replays_noted R f k l g =
      let moment = still Units (noted f) (noted f) (λ s. refl) (λ s l. (tt, refl)) in
      replays_then Units R (noted f) (noted f) (λ _. k) (λ _. l) moment (λ _ _ _. g)

  replays_after : {A B : Type 0} (R : A → B → Type 0) (e : Event) (k : Act A) (l : Act B) → Replays R k l
      → Replays R (λ s. bind (tell e s) (λ _. k)) (λ s. bind (tell e s) (λ _. l))
  replays_after R e k l f = replays_then Units R (tell e) (tell e) (λ _. k) (λ _. l) (replays_tell e) (λ _ _ _. f)

  -- acts that do the same in every state
  same_act : {A B : Type 0} (R : A → B → Type 0) (m : Act A) (n : Act B) → Replays R m n
      → Replays R (λ s. m s) (λ s. n s)
  same_act R m n f = record { new = λ s. f.new s; drew = λ s. f.drew s; own = λ s. f.own s; at = λ s. f.at s }

  replays_cond : {A B : Type 0} (R : A → B → Type 0) (t : Bool) (a b : Act A) (a' b' : Act B)
      → Replays R a a' → Replays R b b' → Replays R (λ s. cond t a b s) (λ s. cond t a' b' s)
  replays_cond R true a b a' b' f g = same_act R a a' f
  replays_cond R false a b a' b' f g = same_act R b b' g

  tick_draws : (n : ℕ) (s : State S) → drawing_of (run.tick_from p S see n s) ≡ (s.draws, left_of s)
  tick_draws zero s = refl
  tick_draws (suc n) s = refl

  tick_same : (n : ℕ) (s : State S) (l : Left)
      → Same Units l (run.tick_from p S see n s) (run.tick_from p S see n (with_left l s))
  tick_same zero s l = (refl, refl)
  tick_same (suc n) s l = (tt, refl)

  replays_tick : Replays Units (λ s. run.tick_from p S see s.steps s) (λ s. run.tick_from p S see s.steps s)
  replays_tick = still Units _ _ (λ s. tick_draws s.steps s) (λ s l. tick_same s.steps s l)

  abbrev if_room : Bool → State S → Result (Unit {0})
  if_room b s = cond b (Go tt s) (Stop Deep s)

  abbrev has_room : ℕ → State S → Bool
  has_room n s = nat_le (length s.cells + s.active + n) run.most_cells

  room_draws : (b : Bool) (s : State S) → drawing_of (if_room b s) ≡ (s.draws, left_of s)
  room_draws true s = refl
  room_draws false s = refl

  room_same : (b : Bool) (s : State S) (l : Left) → Same Units l (if_room b s) (if_room b (with_left l s))
  room_same true s l = (tt, refl)
  room_same false s l = (refl, refl)

  replays_room : (n : ℕ) → Replays Units (run.room p S see n) (run.room p S see n)
  replays_room n = still Units _ _ (λ s. room_draws (has_room n s) s) (λ s l. room_same (has_room n s) s l)

  -- after a draw of this value
  abbrev draw_with : DrawKind → Spot → IntType → Left → State S → ℤ → State S
  draw_with kind spot ty l s v = record (with_left l s) {
    draws = s.draws ++ record { spot = spot; ty = ty; value = v; from = kind } ∷ [];
  }

  replays_draw : (kind : DrawKind) (spot : Spot) (ty : IntType)
      → Replays Equal (run.draw p S see kind spot ty) (run.draw p S see kind spot ty)
  replays_draw kind spot ty = record {
    new = λ s. made s ∷ [];
    drew = λ s. refl;
    own = λ s. (refl, tt);
    at = λ s l h. (sym h.0, ap (draw_with kind spot ty (after_one (made s) l) s) (sym h.0));
  }
    where
      value : State S → ℤ
      value s = fit p.model ty (or_zero (chosen kind spot s.choices))

      made : State S → Draw
      made s = record { spot = spot; ty = ty; value = value s; from = kind }

  replays_key : (spot : Spot) (o : ℕ) (i : Option ℕ) → Replays Equal (key_of spot o i) (key_of spot o i)
  replays_key spot o None = replays_stop _ _
  replays_key spot o (Some i) = replays_ret _ _ _ refl

  replays_violated : {A B : Type 0} (R : A → B → Type 0) (at : Where) (spot : Spot) (call : Option Spot)
      → Replays R (run.violated p S see {A = A} at spot call) (run.violated p S see {A = B} at spot call)
  replays_violated R at spot call =
      let violation = Violated spot in
      replays_after R (Fail at.statement at.full call) (stop violation) (stop violation) (replays_stop R violation)

  replays_overflowed : (q : Property) (at : Where) (spot : Spot) (v : ℤ)
      → Replays Equal (run.overflowed p S see q at spot v) (run.overflowed p S see q at spot v)
  replays_overflowed NoOverflow at spot v = replays_violated _ at spot None
  replays_overflowed UnreachCall at spot v = replays_ret _ _ _ refl

  replays_answered : (at : Where) (spot : Spot) (d : Done) → Replays Equal (answered at spot d) (answered at spot d)
  replays_answered at spot (Value v) = replays_ret _ _ _ refl
  replays_answered at spot (Overflow v) = replays_overflowed p.property at spot v
  replays_answered at spot NoValue = replays_stop _ _

  replays_reached : (q : Property) (at : Where) (site : Site)
      → Replays Equal (run.reached p S see q at site) (run.reached p S see q at site)
  replays_reached UnreachCall at site = replays_violated _ at site.spot (Some site.spot)
  replays_reached NoOverflow at site = replays_stop _ _

  replays_branched : {A B : Type 0} (R : A → B → Type 0) (spot : Spot) (t : Bool) (a b : Act A) (a' b' : Act B)
      → Replays R a a' → Replays R b b' → Replays R (branched spot t a b) (branched spot t a' b')
  replays_branched R spot t a b a' b' f g =
      replays_after R (Branch spot (Truth t)) (λ s. cond t a b s) (λ s. cond t a' b' s) (replays_cond R t a b a' b' f g)

  replays_selected : (at : Spot) (v : ℤ) (ls : List ArmLabel)
      → Replays Equal (run.selected p S see at v ls) (run.selected p S see at v ls)
  replays_selected at v ls =
      let arm = arm_for v ls in
      replays_after Equal (Branch at (way_for v ls)) (ret arm) (ret arm) (replays_ret Equal arm arm refl)

  replays_returned : (site : Site) (v : Option ℤ)
      → Replays Equal (run.returned p S see site v) (run.returned p S see site v)
  replays_returned site (Some v) =
      replays_after Equal (Return site.close (Some v)) (ret v) (ret v) (replays_ret Equal v v refl)
  replays_returned site None =
      let none : Act ℤ = λ s. cond site.needed (stop (Undefined site.spot)) (ret (pos 0)) s in
      replays_after Equal (Return site.close None) none none
      (replays_cond Equal site.needed _ _ _ _ (replays_stop Equal (Undefined site.spot)) (replays_ret Equal _ _ refl))

  abbrev cut : {A : Type 0} → ℕ → Result A → Result A
  cut n r = acts.cut End (State S) cells_of with_cells n r

  cut_draws : {A : Type 0} (n : ℕ) (r : Result A) → drawing_of (cut n r) ≡ drawing_of r
  cut_draws n (Go a s) = refl
  cut_draws n (Stop e s) = refl

  cut_same : {A B : Type 0} (R : A → B → Type 0) (n : ℕ) (l : Left) (r : Result A) (q : Result B)
      → Same R l r q → Same R l (cut n r) (cut n q)
  cut_same R n l (Go a s) (Go b t) o = (o.0, ap (λ u. with_cells (take n (cells_of u)) u) o.1)
  cut_same R n l (Go a s) (Stop e t) o = absurd o
  cut_same R n l (Stop e s) (Go b t) o = absurd o
  cut_same R n l (Stop e s) (Stop f t) o = o

  replays_scoped : {A B : Type 0} (R : A → B → Type 0) (m : Act A) (n : Act B) → Replays R m n
      → Replays R (scoped m) (scoped n)
  replays_scoped R m n f = record {
    new = λ s. f.new s;
    drew = λ s. cut_draws (length s.cells) (m s) ∙ f.drew s;
    own = λ s. f.own s;
    at = λ s l h. cut_same R (length s.cells) (after_all (f.new s) l) (m s) (n (with_left l s)) (f.at s l h);
  }

  replays_go_on : (k l : Act Flow) → Replays Equal k l → (f : Flow) → Replays Equal (go_on k f) (go_on l f)
  replays_go_on k l g Next = same_act Equal k l g
  replays_go_on k l g Broken = still Equal _ _ (λ s. refl) (λ s l. (refl, refl))
  replays_go_on k l g Again = still Equal _ _ (λ s. refl) (λ s l. (refl, refl))
  replays_go_on k l g (Gave v) = still Equal _ _ (λ s. refl) (λ s l. (refl, refl))

  replays_turned : (k l : Act Flow) → Replays Equal k l → (f : Flow) → Replays Equal (turned k f) (turned l f)
  replays_turned k l g Next = same_act Equal k l g
  replays_turned k l g Broken = still Equal _ _ (λ s. refl) (λ s l. (refl, refl))
  replays_turned k l g Again = still Equal _ _ (λ s. refl) (λ s l. (refl, refl))
  replays_turned k l g (Gave v) = still Equal _ _ (λ s. refl) (λ s l. (refl, refl))

  -- one statement, then what follows by the way that it is left
  replays_flows : {A : Type 0} (R : A → A → Type 0) (m n : Act Flow) (k l : Flow → Act A) → Replays Equal m n
      → ((f : Flow) → Replays R (k f) (l f)) → Replays R (λ s. bind (m s) k) (λ s. bind (n s) l)
  replays_flows R m n k l g h = replays_then Equal R m n k l g (λ f f' e. subst (λ x. Replays R (k f) (l x)) e (h f))

  replays_turns : (n : ℕ) (at : Spot) (l : Loop) (arrived : List Cell) (m k : Act Flow)
      → Replays Equal m k → Replays Equal (turns n at l arrived m) (turns n at l arrived k)
  replays_turns zero at l arrived m k f = replays_stop _ _
  replays_turns (suc n) at l arrived m k f =
      let more = turned (turns n at l arrived m) in
      let more' = turned (turns n at l arrived k) in
      replays_noted Equal (Head at l arrived) (λ s. bind (m s) more) (λ s. bind (k s) more')
      (replays_flows Equal m k more more' f (replays_turned _ _ (replays_turns n at l arrived m k f)))

  replays_loop : (at : Spot) (l : Loop) (m k : Act Flow) → Replays Equal m k
      → Replays Equal (run.loop p S see at l m) (run.loop p S see at l k)
  replays_loop at l m k f = record {
    new = λ s. (by s).new s;
    drew = λ s. (by s).drew s;
    own = λ s. (by s).own s;
    at = λ s. (by s).at s;
  }
    where
      by : (s : State S) → Replays Equal (turns (suc s.steps) at l s.cells m) (turns (suc s.steps) at l s.cells k)
      by s = replays_turns (suc s.steps) at l s.cells m k f

  replays_called : (site : Site) (a b : Act Flow) → Replays Equal a b
      → Replays Equal (run.called p S see site a) (run.called p S see site b)
  replays_called site a b f =
      let deeper = run.deeper p S see in
      let shallower = run.shallower p S see in
      let goes_deeper = still Units deeper deeper (λ s. refl) (λ s l. (tt, refl)) in
      let comes_back = still Units shallower shallower (λ s. refl) (λ s l. (tt, refl)) in
      replays_then Units Equal deeper deeper _ _ goes_deeper (λ _ _ _.
      replays_flows Equal _ _ _ _ (replays_scoped Equal a b f) (λ g.
      replays_then Units Equal shallower shallower _ _ comes_back (λ _ _ _. replays_returned site (given g))))

  -- ---- the traversal

  replayed_parts : Relation (real p S see) (real p S see)
  replayed_parts = record {
    Scope = Unit {0};
    more = λ L o. L;
    Entry = λ L. Unit {0};
    Values = λ ty v w. v ≡ w;
    Truths = λ t u. t ≡ u;
    Targets = λ o x y. x ≡ y;
    Acts = λ L R m n. Replays R m n;
    Dones = λ ty L M a b. Replays Equal a b;
    Agree = λ a b. Unit {0};
    IsConst = λ ty v. Unit {0};
    HasCell = λ o i. Unit {0};
    HasSize = λ o n. Unit {0};
    MayRead = λ L o. Unit {0};
    MayWrite = λ L o. Unit {0};
    MayCall = λ f. Unit {0};
    MayLoop = λ L at l. Unit {0};
  }

  replayed_keeps : Preserves p replayed_parts
  unfolding replayed_parts
  replayed_keeps = record {
    ret = λ L R a b q. replays_ret R a b q;
    bind = λ L R Q m n k l g f. replays_then R Q m n k l g f;
    using = λ ty L M R m n k l g f. replays_then R Equal m n k l g f;
    tick = λ L t. replays_tick;
    room = λ L n. replays_room n;
    retype = λ a b v w _ q. q;
    retyped = λ L a b m n _ q. q;
    const = λ ty v _. refl;
    digit = λ b. refl;
    convert = λ L from to v w q. replays_ret _ _ _ (ap (fit p.model to) q);
    test = λ L ty v w q. replays_ret _ _ _ (ap (λ x. not (is_zero x)) q);
    truth = λ t u q. ap number_of q;
    draw = λ L kind spot ty. replays_draw kind spot ty;
    cell = λ o i _. refl;
    element = λ L spot o vs ws q.
        let cell_at : List (ℤ × IntType) → Option ℕ = cell_among (size_of_object p o) (columns_of_object p o) in
        along Equal (λ js. key_of spot o (cell_at js)) vs ws (same_values vs ws q) (replays_key spot o (cell_at vs));
    look = λ L o x y _ q. along Equal look x y q (still Equal _ _ (λ s. refl) (λ s l. (refl, refl)));
    write = λ L o x y v w m t q.
        subst (λ z. Replays Units (write x v) (write z w)) t
        (along Units (write x) v w q (still Units _ _ (λ s. refl) (λ s l. (tt, refl))));
    answer = λ L at spot op ty x x' right y y' q r.
        let by : ℤ → ℤ → Act ℤ = λ a b. answered at spot (apply_of p.model op ty a b) in
        subst (λ z. Replays Equal (by x y) (by z y')) q
        (along Equal (by x) y y' r (replays_answered at spot (apply_of p.model op ty x y)));
    answer_one = λ L at spot op ty x x' q.
        along Equal (λ a. answered at spot (apply_one_of p.model op ty a)) x x' q
        (replays_answered at spot (apply_one_of p.model op ty x));
    choose = λ ty L t u a a' b b' q f g.
        subst (λ z. Replays Equal (λ s. cond t a b s) (λ s. cond z a' b' s)) q (replays_cond Equal t a b a' b' f g);
    pick = λ ty L mark t u a a' b b' q f g.
        subst (λ z. Replays Equal (branched mark t a b) (branched mark z a' b')) q
        (replays_branched Equal mark t a b a' b' f g);
    enter = λ L site. replays_tell (Enter site.close);
    came_back = λ L site ty v w q.
        along Units (λ z. tell (Return site.close (Some z))) v w q (replays_tell (Return site.close (Some v)));
    reach = λ L at site. replays_reached p.property at site;
    ending = λ L. replays_stop _ _;
    called = λ ty L site a b end f. replays_called site a b (f tt tt);
    missing = λ L. replays_stop _ _;
    here = λ L at. replays_noted Units (Here at) (tell (At at)) (tell (At at)) (replays_tell (At at));
    declare = λ ty L o n _. still Equal _ _ (λ s. refl) (λ s l. (refl, refl));
    own = λ L o. tt;
    branch = λ ty L M at t u a a' b b' q f g.
        subst (λ z. Replays Equal (branched at t a b) (branched at z a' b')) q
        (replays_branched Equal at t a b a' b' f g);
    select = λ L at ty v w ls q. along Equal (λ x. run.selected p S see at x ls) v w q (replays_selected at v ls);
    next = λ ty L. replays_ret _ _ _ refl;
    leave = λ ty L. replays_ret _ _ _ refl;
    again = λ ty L. replays_ret _ _ _ refl;
    give = λ ty L v w q. replays_ret _ _ _ (ap (λ x. Gave (Some x)) q);
    give_none = λ ty L q. replays_ret _ _ _ refl;
    seq = λ ty L M N a a' b b' f g. replays_flows Equal a a' (go_on b) (go_on b') f (replays_go_on b b' g);
    scoped = λ ty L M a b f. replays_scoped Equal a b f;
    continued = λ ty L M a b f.
        replays_flows Equal _ _ _ _ (replays_scoped Equal a b f)
        (λ x. replays_ret Equal (continuing x) (continuing x) refl);
    breaks = λ ty L M a b f.
        replays_flows Equal _ _ _ _ (replays_scoped Equal a b f) (λ x. replays_ret Equal (held x) (held x) refl);
  }

  free : Free replayed_parts
  unfolding replayed_parts
  free = record {
    agree = λ a b. tt;
    const = λ ty v. tt;
    cell = λ o i. tt;
    size = λ o n. tt;
    read = λ L o. tt;
    write = λ L o. tt;
    call = λ f. tt;
    loop = λ L at l. tt;
  }

  -- calls at most n deep
  replays_run : (n : ℕ) (f : Function) → Replays Equal (run_in p (real p S see) n f) (run_in p (real p S see) n f)
  unfolding replayed_parts
  replays_run zero f = replays_stop _ _
  replays_run (suc n) f =
      let M = real p S see in
      related_body p replayed_parts replayed_keeps
      (λ site g vs. call_of p M (run_in p M n) site (slice_get p.functions g) vs)
      (λ site g vs. call_of p M (run_in p M n) site (slice_get p.functions g) vs)
      (λ L site g vs ws m q. related_call p replayed_parts replayed_keeps (run_in p M n) (run_in p M n) site
      (slice_get p.functions g) (λ fn e. (all_fit_params p replayed_parts free fn.params, λ E z. replays_run n fn))
      L vs ws q)
      (λ L at result l m g. replays_scoped Equal _ _ (replays_loop at l _ _ g))
      f.result tt f.body (all_fit p replayed_parts free f.result tt f.body)

  replays_if : (n : ℕ) (f : Option Function) → Replays Equal (run_if p (real p S see) n f) (run_if p (real p S see) n f)
  replays_if n None = replays_ret _ _ _ refl
  replays_if n (Some f) = replays_run n f

  -- `main` from a state
  abbrev main_from : ℕ → State S → Result Flow
  main_from N s = run_if p (real p S see) (suc N) (slice_get p.functions p.main) s

  -- whoever watches
  answered_main : (N : ℕ) (s : State S) → s.draws ≡ [] → (l : Left) → Answers p.model (state_of (main_from N s)).draws l
      → Same Equal (after_all (state_of (main_from N s)).draws l) (main_from N s) (main_from N (with_left l s))
  answered_main N s none l =
      let f = replays_if (suc N) (slice_get p.functions p.main) in
      let drew = ap (λ z. z.0) (f.drew s) ∙ ap (λ ds. ds ++ f.new s) none in
      subst (λ ds. Answers p.model ds l → Same Equal (after_all ds l) (main_from N s) (main_from N (with_left l s)))
      (sym drew) (f.at s l)

-- ---- runs with all their moments

abbrev keep : Moment → List Moment → List Moment
keep x xs = x ∷ xs

abbrev Whole : Type 0
Whole = Res End (State (List Moment)) Flow

abbrev run_with : ℕ → End → State (List Moment) → GivenRun
run_with N e s = record { end = e; steps = N - s.steps; draws = s.draws; unfixed = s.unfixed }

-- the same end and the same state, but for what is left to choose
abbrev AreSame : Program → Left → Whole → Whole → Type 0
AreSame p l r q = Same p (List Moment) keep (λ a b. a ≡ b) l r q

same_run : (p : Program) (N : ℕ) (l : Left) (r q : Whole) → AreSame p l r q
    → run.run_of N q ≡ record (run.run_of N r) { unfixed = l.unfixed }
same_run p N l (Go a s) (Go b t) o = sym (ap (run_with N Ended) o.1)
same_run p N l (Go a s) (Stop f t) o = absurd o
same_run p N l (Stop e s) (Go b t) o = absurd o
same_run p N l (Stop e s) (Stop f t) o =
    sym (ap (λ x. run_with N x (with_left p (List Moment) keep l s)) o.0 ∙ ap (run_with N f) o.1)

same_seen : (p : Program) (l : Left) (r q : Whole) → AreSame p l r q → (state_of q).seen ≡ (state_of r).seen
same_seen p l (Go a s) (Go b t) o = sym (ap (λ u. u.seen) o.1)
same_seen p l (Go a s) (Stop f t) o = absurd o
same_seen p l (Stop e s) (Go b t) o = absurd o
same_seen p l (Stop e s) (Stop f t) o = sym (ap (λ u. u.seen) o.1)

-- choices before any draw
abbrev pub untouched : Choices → Left
untouched c = record { choices = c; unfixed = 0 }

-- choices that answer each draw of a run as it was answered give the run once more
pub answered_run : (p : Program) (c d : Choices) (N : ℕ) → Answers p.model (Run p c N).draws (untouched d)
    → (Run p d N ≡ record (Run p c N) { unfixed = (after_all (Run p c N).draws (untouched d)).unfixed })
    × (Moments p d N ≡ Moments p c N)
answered_run p c d N h =
    let l = after_all (Run p c N).draws (untouched d) in
    let same : AreSame p l (run.Whole p c N) (run.Whole p d N) =
    answered_main p (List Moment) keep N (run.first_state p (List Moment) [] c N) refl (untouched d) h in (
      same_run p N l (run.Whole p c N) (run.Whole p d N) same,
      ap reverse (same_seen p l (run.Whole p c N) (run.Whole p d N) same),
    )
