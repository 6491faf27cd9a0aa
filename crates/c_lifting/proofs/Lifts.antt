-- A part of a real run follows a part of a havoc run: where that can't fail, no violation comes, and what the real part gives some values give there too.
use Rattle.std.proofs.Common.{◌≡◌, ◌+◌, ◌-◌, ℕ, zero, suc, ℤ, pos, Bool, true, false, cond, not, ◌&&◌, nat_le, IsTrue, List, [], ◌∷◌, ◌++◌, length, Option, Some, None, refl, sym, ap, ◌∙◌, subst, true≢false, append_assoc}
use Rattle.std.specs.List.{All}
use Rattle.std.proofs.lemmas.List.Elements.{All-nil, All-cons, All-head, All-tail}
use Rattle.c_core.specs.Types.{fit}
use Rattle.c_core.specs.Tree.{Program}
use Rattle.c_core.specs.declared.number.IntType.{IntType}
use Rattle.c_core.specs.declared.number.Spot.{Spot}
use Rattle.c_core.specs.declared.number.Done.{Done}
use Rattle.c_core.specs.declared.number.Done.TheVariants.{Value, Overflow, Undefined as NoValue}
use Rattle.c_core.specs.declared.number.Property.{Property}
use Rattle.c_core.specs.declared.number.Property.TheVariants.{UnreachCall, NoOverflow}
use Rattle.c_core.proofs.Fits.{fit_in_range}
use Rattle.c_meaning.specs.declared.run.End.{End}
use Rattle.c_meaning.specs.declared.run.End.TheVariants.{Ended, Undefined, Violated, Spent, Deep}
use Rattle.c_meaning.specs.declared.run.Event.{Event}
use Rattle.c_meaning.specs.declared.run.Event.TheVariants.{At, Return}
use Rattle.c_meaning.specs.declared.run.Draw.{Draw}
use Rattle.c_meaning.specs.declared.run.DrawKind.{DrawKind}
use Rattle.c_meaning.specs.declared.run.Duty.{Duty}
use Rattle.c_meaning.specs.declared.run.DutyKind.{DutyKind}
use Rattle.c_meaning.specs.declared.run.DutyKind.TheVariants.{Location, Entry, Kept, Property as AProperty}
use Rattle.c_meaning.specs.Cells.{Key, Cell, read, put}
use Rattle.c_meaning.specs.Objects.{type_of_object}
use Rattle.c_meaning.specs.Meaning.{Where, Site, Loop}
use Rattle.c_meaning.specs.Acts.{Res, Go, Stop, Flow, Next, Broken, Again, Gave, bind, go_on, turned, continuing, held, given}
use Rattle.c_meaning.specs.Acts as acts
use Rattle.c_meaning.specs.Changed.{changed_by}
use Rattle.c_meaning.specs.Duties.{Placed, duty}
use Rattle.c_meaning.specs.Fitting.{IsOf, FitCells}
use Rattle.c_meaning.specs.Havoc as havoc
use Rattle.c_meaning.specs.Havoc.{Stopped, Passes, Dismisses, Fails, Left, cells_left, with_cells_left, stands}
use Rattle.c_meaning.specs.Related.{Units}
use Rattle.c_meaning.specs.Run as run
use Rattle.c_meaning.specs.Run.{State, Moment, Told, Here, Head, cells_of, with_cells, chosen, after_draw, or_zero, one_if_none}
use Rattle.c_meaning.specs.Value.{holds}
use Rattle.c_meaning.proofs.FittingCells.{nought_value, read_fits, put_fits, declared_fits, cut_fits}
use Rattle.c_meaning.proofs.Stateful.{IsDone}
use Rattle.c_frames.specs.Frames.{SameBut}
use Rattle.c_frames.proofs.CellLaws.{same_refl, same_trans}
use Rattle.c_frames.proofs.Heads.{Seen, keep}
use Rattle.c_frames.proofs.Framing.{names}
use Rattle.c_lifting.specs.Lifting.{HoldsAt, AllHold, IsLifted}
use Rattle.c_lifting.proofs.Restoring.{at, values_at, Comes, redrawn}

abbrev pub Tries : Type 0 → Type 0
Tries A = Left → Res Stopped Left A

abbrev pub Does : Type 0 → Type 0
Does A = State Seen → Res End (State Seen) A

-- no values make it fail, from these cells on
pub record Safe {A : Type 0} (K : Tries A) (c : List Cell) (ds : List Draw) : Type 0 where
  pub never : (w : List ℤ) (d : Duty) (x : Left) → K (at c w ds) ≡ Stop (Fails d) x → ⊥

-- by some values it gives this and these cells, whatever is drawn later
pub record Can {A : Type 0} (K : Tries A) (c : List Cell) (a : A) (c' : List Cell) : Type 0 where
  pub values : List ℤ
  pub made : List Draw → List Draw
  pub by : (w : List ℤ) (ds : List Draw) → K (at c (values ++ w) ds) ≡ Go a (at c' w (made ds))

abbrev pub Then : {A B : Type 0} → Tries A → (A → Tries B) → Tries B
Then K L x = bind (K x) L

abbrev pub IsFine : End → Type 0
IsFine (Violated spot) = ⊥
IsFine Ended = Unit {0}
IsFine (Undefined spot) = Unit {0}
IsFine Spent = Unit {0}
IsFine Deep = Unit {0}

pub safe_first : {A B : Type 0} (K : Tries A) (L : A → Tries B) (c : List Cell) (ds : List Draw) → Safe (Then K L) c ds → Safe K c ds
safe_first K L c ds safe = record { never = λ w d x e. safe.never w d x (ap (λ r. bind r L) e) }

pub safe_next : {A B : Type 0} (K : Tries A) (L : A → Tries B) (c : List Cell) (ds : List Draw) (a : A) (c' : List Cell) (can : Can K c a c') → Safe (Then K L) c ds → Safe (L a) c' (can.made ds)
safe_next K L c ds a c' can safe = record { never = λ w d x e. safe.never (can.values ++ w) d x (ap (λ r. bind r L) (can.by w ds) ∙ e) }

pub can_same : {A : Type 0} (K : Tries A) (c : List Cell) (a : A) (c' : List Cell) → ((w : List ℤ) (ds : List Draw) → K (at c w ds) ≡ Go a (at c' w ds)) → Can K c a c'
can_same K c a c' h = record { values = []; made = λ ds. ds; by = λ w ds. h w ds }

pub can_then : {A B : Type 0} (K : Tries A) (L : A → Tries B) (c : List Cell) (a : A) (c' : List Cell) (b : B) (c'' : List Cell) → Can K c a c' → Can (L a) c' b c'' → Can (Then K L) c b c''
can_then K L c a c' b c'' f g = record {
  values = f.values ++ g.values;
  made = λ ds. g.made (f.made ds);
  by = λ w ds. ap (λ vs. bind (K (at c vs ds)) L) (append_assoc f.values g.values w) ∙ ap (λ r. bind r L) (f.by (g.values ++ w) ds) ∙ g.by w (f.made ds);
}

module _ (p : Program) (I : List Placed) where
  abbrev P : Moment → Type 0
  P m = IsLifted p I m

  abbrev pub Follows : {A B : Type 0} → (A → B → Type 0) → Tries A → List Cell → Res End (State Seen) B → Type 0
  Follows {A = A} S K c (Go b t) = (a : A) × S a b × Can K c a t.cells × FitCells p t.cells × All P t.seen
  Follows S K c (Stop e t) = IsFine e × All P t.seen

  pub record Lifts {A B : Type 0} (S : A → B → Type 0) (K : Tries A) (k : Does B) : Type 0 where
    pub by : (s : State Seen) (ds : List Draw) → FitCells p s.cells → All P s.seen → Safe K s.cells ds → Follows S K s.cells (k s)

  pub lifts_ret : {A B : Type 0} (S : A → B → Type 0) (a : A) (b : B) → S a b → Lifts S (havoc.ret p I a) (run.ret p Seen keep b)
  lifts_ret S a b q = record { by = λ s ds f g safe. (a, q, can_same _ _ _ _ (λ w ds. refl), f, g) }

  pub lifts_stop : {A B : Type 0} (S : A → B → Type 0) (K : Tries A) (e : End) → IsFine e → Lifts S K (run.stop p Seen keep {A = B} e)
  lifts_stop S K e q = record { by = λ s ds f g safe. (q, g) }

  then_follows : {A B C D : Type 0} (S : A → B → Type 0) (T : C → D → Type 0) (K : Tries A) (L : A → Tries C) (l : B → Does D) → ((a : A) (b : B) → S a b → Lifts T (L a) (l b)) → (c : List Cell) (ds : List Draw) → Safe (Then K L) c ds → (r : Res End (State Seen) B) → Follows S K c r → Follows T (Then K L) c (bind r l)
  then_follows S T K L l h c ds safe (Stop e t) f = f
  then_follows S T K L l h c ds safe (Go b t) f = on (l b t) ((h f.0 b f.1).by t (f.2.made ds) f.3 f.4 (safe_next K L c ds f.0 t.cells f.2 safe))
    where
      on : (r : Res End (State Seen) _) → Follows T (L f.0) t.cells r → Follows T (Then K L) c r
      on (Stop e u) g = g
      on (Go d u) g = (g.0, g.1, can_then K L c f.0 t.cells g.0 u.cells f.2 g.2, g.3, g.4)

  pub lifts_then : {A B C D : Type 0} (S : A → B → Type 0) (T : C → D → Type 0) (K : Tries A) (k : Does B) (L : A → Tries C) (l : B → Does D) → Lifts S K k → ((a : A) (b : B) → S a b → Lifts T (L a) (l b)) → Lifts T (Then K L) (λ s. bind (k s) l)
  lifts_then S T K k L l g h = record { by = λ s ds f q safe. then_follows S T K L l h s.cells ds safe (k s) (g.by s ds f q (safe_first K L s.cells ds safe)) }

  -- what a real run does besides, and a havoc run doesn't
  pub lifts_besides : {A B : Type 0} (S : A → B → Type 0) (K : Tries A) (k : Does B) (f : State Seen → State Seen) → ((s : State Seen) → (f s).cells ≡ s.cells) → ((s : State Seen) → All P s.seen → All P (f s).seen) → Lifts S K k → Lifts S K (λ s. k (f s))
  lifts_besides S K k f e g h = record { by = λ s ds q z safe. subst (λ c. Follows S K c (k (f s))) (e s) (h.by (f s) ds (subst (FitCells p) (sym (e s)) q) (g s z) (subst (λ c. Safe K c ds) (sym (e s)) safe)) }

  told : (e : Event) (s : State Seen) → All P s.seen → All P (Told e s.cells ∷ s.seen)
  told e s g = All-cons P (Told e s.cells) s.seen tt g

  pub lifts_tell : {A B : Type 0} (S : A → B → Type 0) (K : Tries A) (e : Event) (k : Does B) → Lifts S K k → Lifts S K (λ s. bind (run.tell p Seen keep e s) (λ _. k))
  lifts_tell S K e k h = lifts_besides S K k (λ s. record s { seen = Told e s.cells ∷ s.seen }) (λ s. refl) (λ s g. told e s g) h

  pub lifts_told : (e : Event) → Lifts Units (havoc.ret p I tt) (run.tell p Seen keep e)
  lifts_told e = record { by = λ s ds f g safe. (tt, tt, can_same _ _ _ _ (λ w ds. refl), f, told e s g) }

  pub lifts_tick : Lifts Units (havoc.ret p I tt) (λ s. run.tick_from p Seen keep s.steps s)
  lifts_tick = record { by = λ s ds f g safe. ticked s.steps s f g }
    where
      ticked : (n : ℕ) (s : State Seen) → FitCells p s.cells → All P s.seen → Follows Units (havoc.ret p I tt) s.cells (run.tick_from p Seen keep n s)
      ticked zero s f g = (tt, g)
      ticked (suc n) s f g = (tt, tt, can_same _ _ _ _ (λ w ds. refl), f, g)

  pub lifts_room : (n : ℕ) → Lifts Units (havoc.ret p I tt) (run.room p Seen keep n)
  lifts_room n = record { by = λ s ds f g safe. roomy (nat_le (length s.cells + s.active + n) run.most_cells) s f g }
    where
      roomy : (b : Bool) (s : State Seen) → FitCells p s.cells → All P s.seen → Follows {B = Unit {0}} Units (havoc.ret p I tt) s.cells (cond b (Go tt s) (Stop Deep s))
      roomy true s f g = (tt, tt, can_same _ _ _ _ (λ w ds. refl), f, g)
      roomy false s f g = (tt, g)

  -- one value, of a type
  abbrev pub Same : Option IntType → ℤ → ℤ → Type 0
  Same ty v w = (v ≡ w) × IsOf p.model ty w

  pub lifts_draw : (kind : DrawKind) (spot : Spot) (ty : IntType) → Lifts (Same (Some ty)) (havoc.draw p I kind spot ty) (run.draw p Seen keep kind spot ty)
  lifts_draw kind spot ty = record {
    by = λ s ds f g safe. let v = or_zero (chosen kind spot s.choices) in (
      fit p.model ty v,
      (refl, fit_in_range p.model ty v),
      record { values = v ∷ []; made = λ ds. ds ++ record { spot = spot; ty = ty; value = fit p.model ty v; from = kind } ∷ []; by = λ w ds. refl },
      f,
      g,
    );
  }

  -- one cell, of an object
  abbrev pub OneOf : ℕ → Key → Key → Type 0
  OneOf o x y = (x ≡ y) × (y.object ≡ o)

  pub lifts_look : (o : ℕ) (x y : Key) → OneOf o x y → Lifts (Same (Some (type_of_object p o))) (acts.look Stopped Left cells_left with_cells_left x) (acts.look End (State Seen) cells_of with_cells y)
  lifts_look o x y q = record {
    by = λ s ds f g safe. (
      read x s.cells,
      (ap (λ k. read k s.cells) q.0, subst (λ z. IsOf p.model (Some (type_of_object p z)) (read y s.cells)) q.1 (read_fits p y s.cells f)),
      can_same _ _ _ _ (λ w ds. refl),
      f,
      g,
    );
  }

  pub lifts_write : (o : ℕ) (x y : Key) (v w : ℤ) → OneOf o x y → Same (Some (type_of_object p o)) v w → Lifts Units (acts.write Stopped Left cells_left with_cells_left x v) (acts.write End (State Seen) cells_of with_cells y w)
  lifts_write o x y v w q r = record {
    by = λ s ds f g safe. (
      tt,
      tt,
      can_same _ _ _ _ (λ u ds. ap (λ cs. Go tt (at cs u ds)) (ap (λ k. put k v s.cells) q.0 ∙ ap (λ z. put y z s.cells) r.0)),
      put_fits p y w s.cells (subst (λ z. IsOf p.model (Some (type_of_object p z)) w) (sym q.1) r.1) f,
      g,
    );
  }

  -- a flow, with a value of the function's result
  abbrev pub IsFlow : Option IntType → Flow → Type 0
  IsFlow ty Next = Unit {0}
  IsFlow ty Broken = Unit {0}
  IsFlow ty Again = Unit {0}
  IsFlow ty (Gave None) = Unit {0}
  IsFlow ty (Gave (Some v)) = IsOf p.model ty v

  abbrev pub SameFlow : Option IntType → Flow → Flow → Type 0
  SameFlow ty f g = (f ≡ g) × IsFlow ty g

  pub lifts_declare : (ty : Option IntType) (o n : ℕ) → Lifts (SameFlow ty) (acts.declare Stopped Left cells_left with_cells_left o n) (acts.declare End (State Seen) cells_of with_cells o n)
  lifts_declare ty o n = record { by = λ s ds f g safe. (Next, (refl, tt), can_same _ _ _ _ (λ w ds. refl), declared_fits p o n s.cells f, g) }

  cut_safe : {A : Type 0} (K : Tries A) (c : List Cell) (ds : List Draw) → Safe (acts.scoped Stopped Left cells_left with_cells_left K) c ds → Safe K c ds
  cut_safe K c ds safe = record { never = λ w d x e. safe.never w d x (ap (acts.cut Stopped Left cells_left with_cells_left (length c)) e) }

  pub lifts_scoped : {A B : Type 0} (S : A → B → Type 0) (K : Tries A) (k : Does B) → Lifts S K k → Lifts S (acts.scoped Stopped Left cells_left with_cells_left K) (acts.scoped End (State Seen) cells_of with_cells k)
  lifts_scoped S K k h = record { by = λ s ds f g safe. cut s (k s) (h.by s ds f g (cut_safe K s.cells ds safe)) }
    where
      cut : (s : State Seen) (r : Res End (State Seen) _) → Follows S K s.cells r → Follows S (acts.scoped Stopped Left cells_left with_cells_left K) s.cells (acts.cut End (State Seen) cells_of with_cells (length s.cells) r)
      cut s (Stop e t) q = q
      cut s (Go b t) q = (
        q.0,
        q.1,
        record { values = q.2.values; made = q.2.made; by = λ w ds. ap (acts.cut Stopped Left cells_left with_cells_left (length s.cells)) (q.2.by w ds) },
        cut_fits p (length s.cells) t.cells q.3,
        q.4,
      )

  pub lifts_cond : {A B : Type 0} (S : A → B → Type 0) (t : Bool) (K L : Tries A) (k l : Does B) → Lifts S K k → Lifts S L l → Lifts S (λ x. cond t K L x) (λ s. cond t k l s)
  lifts_cond S true K L k l g h = record { by = λ s. g.by s }
  lifts_cond S false K L k l g h = record { by = λ s. h.by s }

  pub lifts_key : (spot : Spot) (o : ℕ) (i : Option ℕ) → Lifts (OneOf o) (havoc.key_of p I o i) (run.key_of p Seen keep spot o i)
  lifts_key spot o None = lifts_stop _ _ (Undefined spot) tt
  lifts_key spot o (Some i) = let k : Key = record { object = o; index = i } in lifts_ret (OneOf o) k k (refl, refl)

  -- a violation is a failure
  pub lifts_violated : {A B : Type 0} (S : A → B → Type 0) (at' : Where) (spot : Spot) (call : Option Spot) → Lifts S (havoc.violated p I {A = A} at') (run.violated p Seen keep {A = B} at' spot call)
  lifts_violated S at' spot call = record { by = λ s ds f g safe. absurd (safe.never [] (duty at'.full AProperty None) (at s.cells [] ds) refl) }

  lifts_overflowed : (q : Property) (at' : Where) (spot : Spot) (ty : IntType) (v : ℤ) → IsOf p.model (Some ty) v → Lifts (Same (Some ty)) (havoc.overflowed p I q at' v) (run.overflowed p Seen keep q at' spot v)
  lifts_overflowed NoOverflow at' spot ty v h = lifts_violated _ at' spot None
  lifts_overflowed UnreachCall at' spot ty v h = lifts_ret _ v v (refl, h)

  pub lifts_answered : (at' : Where) (spot : Spot) (ty : IntType) (d : Done) → IsDone (IsOf p.model) ty d → Lifts (Same (Some ty)) (havoc.answered p I at' d) (run.answered p Seen keep at' spot d)
  lifts_answered at' spot ty (Value v) h = lifts_ret _ v v (refl, h)
  lifts_answered at' spot ty (Overflow v) h = lifts_overflowed p.property at' spot ty v h
  lifts_answered at' spot ty NoValue h = lifts_stop _ _ (Undefined spot) tt

  pub lifts_reached : (q : Property) (at' : Where) (site : Site) → Lifts (Same None) (havoc.reached p I q at') (run.reached p Seen keep q at' site)
  lifts_reached UnreachCall at' site = lifts_violated _ at' site.spot (Some site.spot)
  lifts_reached NoOverflow at' site = lifts_stop _ _ Ended tt

  lifts_returned : (ty : Option IntType) (site : Site) (f : Flow) → IsFlow ty f → Lifts (Same ty) (havoc.returned p I site (given f)) (run.returned p Seen keep site (given f))
  lifts_returned ty site f h = by f h
    where
      none : Lifts (Same ty) (havoc.returned p I site None) (run.returned p Seen keep site None)
      none = lifts_tell (Same ty) _ (Return site.close None) (λ s. cond site.needed (run.stop p Seen keep (Undefined site.spot)) (run.ret p Seen keep (pos 0)) s)
          (lifts_cond (Same ty) site.needed _ _ _ _ (lifts_stop (Same ty) (havoc.stop p I Passes) (Undefined site.spot) tt) (lifts_ret (Same ty) (pos 0) (pos 0) (refl, nought_value p.model ty)))

      by : (f : Flow) → IsFlow ty f → Lifts (Same ty) (havoc.returned p I site (given f)) (run.returned p Seen keep site (given f))
      by Next h = none
      by Broken h = none
      by Again h = none
      by (Gave None) h = none
      by (Gave (Some v)) h = lifts_tell (Same ty) _ (Return site.close (Some v)) (run.ret p Seen keep v) (lifts_ret (Same ty) v v (refl, h))

  pub lifts_called : (ty : Option IntType) (site : Site) (K : Tries Flow) (k : Does Flow) → Lifts (SameFlow ty) K k
      → Lifts (Same ty) (Then (acts.scoped Stopped Left cells_left with_cells_left K) (λ flow. havoc.returned p I site (given flow))) (run.called p Seen keep site k)
  lifts_called ty site K k h =
      lifts_besides (Same ty) _ (λ s. bind (acts.scoped End (State Seen) cells_of with_cells k s) (λ flow s. bind (run.shallower p Seen keep s) (λ _. run.returned p Seen keep site (given flow)))) (λ s. record s { active = suc s.active }) (λ s. refl) (λ s g. g)
      (lifts_then (SameFlow ty) (Same ty) _ _ _ _ (lifts_scoped (SameFlow ty) K k h) (λ f g q.
      lifts_besides (Same ty) _ (run.returned p Seen keep site (given g)) (λ s. record s { active = s.active - 1 }) (λ s. refl) (λ s z. z) (subst (λ x. Lifts (Same ty) (havoc.returned p I site (given x)) (run.returned p Seen keep site (given g))) (sym q.0) (lifts_returned ty site g q.1))))

  pub lifts_go_on : (ty : Option IntType) (K : Tries Flow) (k : Does Flow) → Lifts (SameFlow ty) K k → (f g : Flow) → SameFlow ty f g → Lifts (SameFlow ty) (go_on K f) (go_on k g)
  lifts_go_on ty K k h f g q = subst (λ x. Lifts (SameFlow ty) (go_on K x) (go_on k g)) (sym q.0) (by g q.1)
    where
      by : (g : Flow) → IsFlow ty g → Lifts (SameFlow ty) (go_on K g) (go_on k g)
      by Next i = record { by = λ s. h.by s }
      by Broken i = lifts_ret (SameFlow ty) Broken Broken (refl, i)
      by Again i = lifts_ret (SameFlow ty) Again Again (refl, i)
      by (Gave v) i = lifts_ret (SameFlow ty) (Gave v) (Gave v) (refl, i)

  continued_same : (ty : Option IntType) (f g : Flow) → SameFlow ty f g → SameFlow ty (continuing f) (continuing g)
  continued_same ty f g q = (ap continuing q.0, by g q.1)
    where
      by : (g : Flow) → IsFlow ty g → IsFlow ty (continuing g)
      by Next i = tt
      by Broken i = tt
      by Again i = tt
      by (Gave v) i = i

  pub lifts_continued : (ty : Option IntType) (K : Tries Flow) (k : Does Flow) → Lifts (SameFlow ty) K k → Lifts (SameFlow ty) (acts.continued Stopped Left cells_left with_cells_left K) (acts.continued End (State Seen) cells_of with_cells k)
  lifts_continued ty K k h = lifts_then (SameFlow ty) (SameFlow ty) _ _ _ _ (lifts_scoped (SameFlow ty) K k h) (λ f g q. lifts_ret (SameFlow ty) (continuing f) (continuing g) (continued_same ty f g q))

  held_same : (ty : Option IntType) (f g : Flow) → SameFlow ty f g → SameFlow ty (held f) (held g)
  held_same ty f g q = (ap held q.0, by g q.1)
    where
      by : (g : Flow) → IsFlow ty g → IsFlow ty (held g)
      by Next i = tt
      by Broken i = tt
      by Again i = tt
      by (Gave v) i = i

  pub lifts_breaks : (ty : Option IntType) (K : Tries Flow) (k : Does Flow) → Lifts (SameFlow ty) K k → Lifts (SameFlow ty) (acts.breaks Stopped Left cells_left with_cells_left K) (acts.breaks End (State Seen) cells_of with_cells k)
  lifts_breaks ty K k h = lifts_then (SameFlow ty) (SameFlow ty) _ _ _ _ (lifts_scoped (SameFlow ty) K k h) (λ f g q. lifts_ret (SameFlow ty) (held f) (held g) (held_same ty f g q))

  -- ---- invariants

  abbrev Hold : Bool → Spot → List Placed → List Cell → Type 0
  Hold at_loop spot xs c = All (λ x. HoldsAt p I at_loop spot x c) xs

  fails_not : (b h : Bool) → (IsTrue b → IsTrue h) → (b && not h) ≡ false
  fails_not false h f = refl
  fails_not true h f = ap not (f refl)

  holds_if : (b h : Bool) → (b && not h) ≡ false → IsTrue b → IsTrue h
  holds_if true true e i = refl
  holds_if true false e i = absurd (true≢false e)
  holds_if false h e i = absurd (true≢false (sym i))

  tests_pass : (i : ℕ) (xs : List Placed) (at_loop : Bool) (spot : Spot) (kind : DutyKind) (c : List Cell) (w : List ℤ) (ds : List Draw) → Hold at_loop spot xs c → havoc.test_from p I i xs at_loop spot kind (at c w ds) ≡ Go tt (at c w ds)
  tests_pass i [] at_loop spot kind c w ds h = refl
  tests_pass i (x ∷ xs) at_loop spot kind c w ds h =
      ap (λ b. cond b (Stop (Fails (duty spot kind (Some i))) (at c w ds)) (havoc.test_from p I (suc i) xs at_loop spot kind (at c w ds))) (fails_not (stands p I at_loop spot x) (holds p x.test c) (All-head (λ x. HoldsAt p I at_loop spot x c) x xs h))
      ∙ tests_pass (suc i) xs at_loop spot kind c w ds (All-tail (λ x. HoldsAt p I at_loop spot x c) x xs h)

  assumed : (xs : List Placed) (spot : Spot) (c : List Cell) (w : List ℤ) (ds : List Draw) → Hold true spot xs c → havoc.assume_all p I xs spot (at c w ds) ≡ Go tt (at c w ds)
  assumed [] spot c w ds h = refl
  assumed (x ∷ xs) spot c w ds h =
      ap (λ b. cond b (Stop Dismisses (at c w ds)) (havoc.assume_all p I xs spot (at c w ds))) (fails_not (stands p I true spot x) (holds p x.test c) (All-head (λ x. HoldsAt p I true spot x c) x xs h))
      ∙ assumed xs spot c w ds (All-tail (λ x. HoldsAt p I true spot x c) x xs h)

  -- a test that can't fail holds
  tests_hold : (i : ℕ) (xs : List Placed) (at_loop : Bool) (spot : Spot) (kind : DutyKind) (c : List Cell) (ds : List Draw) → Safe (havoc.test_from p I i xs at_loop spot kind) c ds → Hold at_loop spot xs c
  tests_hold i [] at_loop spot kind c ds safe = All-nil (λ x. HoldsAt p I at_loop spot x c)
  tests_hold i (x ∷ xs) at_loop spot kind c ds safe = by (stands p I at_loop spot x && not (holds p x.test c)) refl (λ safer. tests_hold (suc i) xs at_loop spot kind c ds safer)
    where
      by : (b : Bool) → (stands p I at_loop spot x && not (holds p x.test c)) ≡ b → (Safe (havoc.test_from p I (suc i) xs at_loop spot kind) c ds → Hold at_loop spot xs c) → Hold at_loop spot (x ∷ xs) c
      by true e f = absurd (safe.never [] (duty spot kind (Some i)) (at c [] ds) (ap (λ b. cond b (Stop (Fails (duty spot kind (Some i))) (at c [] ds)) (havoc.test_from p I (suc i) xs at_loop spot kind (at c [] ds))) e))
      by false e f =
          All-cons (λ x. HoldsAt p I at_loop spot x c) x xs (holds_if (stands p I at_loop spot x) (holds p x.test c) e)
          (f (record { never = λ w d y g. safe.never w d y (ap (λ b. cond b (Stop (Fails (duty spot kind (Some i))) (at c w ds)) (havoc.test_from p I (suc i) xs at_loop spot kind (at c w ds))) e ∙ g) }))

  pub lifts_here : (spot : Spot) → Lifts Units (havoc.test_from p I 0 I false spot Location) (λ s. bind (run.note p Seen keep (Here spot s.cells) s) (λ _. run.tell p Seen keep (At spot)))
  lifts_here spot = record {
    by = λ s ds f g safe. let h = tests_hold 0 I false spot Location s.cells ds safe in (
      tt,
      tt,
      can_same _ _ _ _ (λ w ds. tests_pass 0 I false spot Location s.cells w ds h),
      f,
      All-cons P (Told (At spot) s.cells) (Here spot s.cells ∷ s.seen) tt (All-cons P (Here spot s.cells) s.seen h g),
    );
  }

  -- ---- loops

  module _ (ty : Option IntType) (spot : Spot) (l : Loop) (T : Tries Flow) (t : Does Flow) (lifts : Lifts (SameFlow ty) T t) (framed : (s u : State Seen) → t s ≡ Go Next u → SameBut p (changed_by p l) s.cells u.cells) where
    abbrev os : List ℕ
    os = changed_by p l

    abbrev L : Tries Flow
    L = havoc.loop p I spot l T

    abbrev close : Flow → Tries Flow
    close = havoc.close p I spot

    -- at the head again, as the run that draws what its cells hold there
    module _ (c : List Cell) (hc : AllHold p I true spot c) (ds0 : List Draw) (safe : Safe L c ds0) where
      abbrev AtHead : List Cell → Type 0
      AtHead d = SameBut p os c d × FitCells p d × AllHold p I true spot d

      drawn : (d : List Cell) → AtHead d → Comes (havoc.redraw p I spot os) c (values_at (names p os) d) d
      drawn d h = redrawn p I spot d h.1 os c h.0

      at_head : (d : List Cell) (h : AtHead d) (w : List ℤ) (ds : List Draw) → L (at c (values_at (names p os) d ++ w) ds) ≡ bind (T (at d w ((drawn d h).made ds))) close
      at_head d h w ds =
          let v = values_at (names p os) d ++ w in
          ap (λ r. bind r (λ _ x. bind (havoc.redraw p I spot os x) (λ _ x. bind (havoc.assume_all p I I spot x) (λ _ x. bind (T x) close)))) (tests_pass 0 I true spot Entry c v ds hc)
          ∙ ap (λ r. bind r (λ _ x. bind (havoc.assume_all p I I spot x) (λ _ x. bind (T x) close))) ((drawn d h).by w ds)
          ∙ ap (λ r. bind r (λ _ x. bind (T x) close)) (assumed I spot d w ((drawn d h).made ds) h.2)

      turn_safe : (d : List Cell) (h : AtHead d) → Safe (Then T close) d ((drawn d h).made ds0)
      turn_safe d h = record { never = λ w u x e. safe.never (values_at (names p os) d ++ w) u x (at_head d h w ds0 ∙ e) }

      left : (d : List Cell) (h : AtHead d) (f g : Flow) (d1 : List Cell) → ((x : Left) → close f x ≡ Go g x) → Can T d f d1 → Can L c g d1
      left d h f g d1 e can = record {
        values = values_at (names p os) d ++ can.values;
        made = λ ds. can.made ((drawn d h).made ds);
        by = λ w ds.
            ap (λ vs. L (at c vs ds)) (append_assoc (values_at (names p os) d) can.values w) ∙ at_head d h (can.values ++ w) ds
            ∙ ap (λ r. bind r close) (can.by w ((drawn d h).made ds)) ∙ e (at d1 w (can.made ((drawn d h).made ds)));
      }

      abbrev Goes : Does Flow → Type 0
      Goes next = (s : State Seen) → All P s.seen → AtHead s.cells → Follows (SameFlow ty) L c (next s)

      kept : (d : List Cell) (h : AtHead d) (d1 : List Cell) → Can T d Next d1 → AllHold p I true spot d1
      kept d h d1 can =
          tests_hold 0 I true spot Kept d1 (can.made ((drawn d h).made ds0))
          (safe_first (havoc.test_from p I 0 I true spot Kept) (λ _. havoc.stop p I {A = Flow} Passes) d1 (can.made ((drawn d h).made ds0)) (safe_next T close d ((drawn d h).made ds0) Next d1 can (turn_safe d h)))

      on : (d : List Cell) (h : AtHead d) (next : Does Flow) → Goes next → (g : Flow) (s : State Seen) → IsFlow ty g → (g ≡ Next → SameBut p os d s.cells) → Can T d g s.cells → FitCells p s.cells → All P s.seen → Follows (SameFlow ty) L c (turned next g s)
      on d h next goes Next s i keeps can fits good = goes s good (same_trans p os c d s.cells h.0 (keeps refl), fits, kept d h s.cells can)
      on d h next goes Broken s i keeps can fits good = (Next, (refl, tt), left d h Broken Next s.cells (λ x. refl) can, fits, good)
      on d h next goes Again s i keeps can fits good = (Again, (refl, tt), left d h Again Again s.cells (λ x. refl) can, fits, good)
      on d h next goes (Gave v) s i keeps can fits good = (Gave v, (refl, i), left d h (Gave v) (Gave v) s.cells (λ x. refl) can, fits, good)

      turn_follows : (d : List Cell) (h : AtHead d) (next : Does Flow) → Goes next → (r : Res End (State Seen) Flow) → ((u : State Seen) → r ≡ Go Next u → SameBut p os d u.cells) → Follows (SameFlow ty) T d r → Follows (SameFlow ty) L c (bind r (turned next))
      turn_follows d h next goes (Stop e s) keeps f = f
      turn_follows d h next goes (Go g s) keeps f = on d h next goes g s f.1.1 (λ e. keeps s (ap (λ x. Go x s) e)) (subst (λ x. Can T d x s.cells) f.1.0 f.2) f.3 f.4

      turns_follow : (n : ℕ) → Goes (run.turns p Seen keep n spot l c t)
      turns_follow zero s good h = (tt, good)
      turns_follow (suc n) s good h =
          let s0 : State Seen = record s { seen = Head spot l c s.cells ∷ s.seen } in
          turn_follows s.cells h (run.turns p Seen keep n spot l c t) (turns_follow n) (t s0) (λ u e. framed s0 u e)
          (lifts.by s0 ((drawn s.cells h).made ds0) h.1 (All-cons P (Head spot l c s.cells) s.seen h.2 good) (safe_first T close s.cells ((drawn s.cells h).made ds0) (turn_safe s.cells h)))

    pub lifts_loop : Lifts (SameFlow ty) (acts.scoped Stopped Left cells_left with_cells_left L) (acts.scoped End (State Seen) cells_of with_cells (run.loop p Seen keep spot l t))
    lifts_loop = lifts_scoped (SameFlow ty) L (run.loop p Seen keep spot l t) (record {
      by = λ s ds fits good safe.
          let hc = tests_hold 0 I true spot Entry s.cells ds (safe_first (havoc.test_from p I 0 I true spot Entry) (λ _ x. bind (havoc.redraw p I spot os x) (λ _ x. bind (havoc.assume_all p I I spot x) (λ _ x. bind (T x) close))) s.cells ds safe) in
          turns_follow s.cells hc ds safe (suc s.steps) s good (same_refl p os s.cells, fits, hc);
    })
