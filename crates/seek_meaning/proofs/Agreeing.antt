-- A run with a bound goes beyond it, or it is the run.
use Rattle.std.proofs.Common.{◌≡◌, ◌≤◌, ◌<◌, ◌+◌, arith, ℕ, zero, suc, ℤ, Bool, true, false, cond, List, [], ◌∷◌, length, take, refl, ap, subst, Option, Some, None, slice_get}
use Rattle.c_core.specs.Tree.{Function, Program}
use Rattle.c_core.specs.Types.{number_of}
use Rattle.c_core.specs.declared.number.Spot.{Spot}
use Rattle.c_meaning.specs.declared.run.End.{End}
use Rattle.c_meaning.specs.declared.run.End.TheVariants.{Spent}
use Rattle.c_meaning.specs.declared.run.Event.TheVariants.{Branch}
use Rattle.c_meaning.specs.declared.run.Way.TheVariants.{Truth}
use Rattle.c_meaning.specs.declared.run.Choices.{Choices}
use Rattle.c_meaning.specs.Cells.{Cell}
use Rattle.c_meaning.specs.Objects.{size_of_object, columns_of_object}
use Rattle.c_meaning.specs.Meaning.{Site, Loop, Calls}
use Rattle.c_meaning.specs.Acts.{Res, Go, Stop, Flow, Next, Broken, Again, Gave, bind, go_on, turned, continuing, held, given}
use Rattle.c_meaning.specs.Acts as acts
use Rattle.c_meaning.specs.Exec.{turn, run_in, run_if, call_of}
use Rattle.c_meaning.specs.Run as run
use Rattle.c_meaning.specs.Run.{State, Head, real, cells_of, with_cells, first_state, state_of, end_of, Whole}
use Rattle.c_meaning.specs.Related.{Units, Same, Relation, Preserves}
use Rattle.c_meaning.proofs.Fundamental.{same_values, related_body, related_call, Free, all_fit_params, all_fit}
use Rattle.c_bounds.specs.Bounds as free_bounds
use Rattle.c_bounds.specs.Bounds.{Seen, keep, Bounds, turns_to, AreNeverMet}
use Rattle.seek_meaning.specs.Bounded as b
use Rattle.seek_meaning.specs.Bounded.{BoundedEnd, Within, Beyond, within, bounded, bounded_end, StaysWithin, WholeBounded}
use Rattle.seek_meaning.specs.Sought.{IsTheRun}

abbrev Equal : {A : Type 0} → A → A → Type 0
Equal x y = x ≡ y

abbrev Result : Type 0 → Type 0
Result A = Res End (State Seen) A

abbrev Ending : Type 0 → Type 0
Ending A = Res BoundedEnd (State Seen) A

-- the second went beyond its bound, or it is the first
pub data On {A B : Type 0} (R : A → B → Type 0) : Result A → Ending B → Type 0 where
  over : (r : Result A) (s : State Seen) → On R r (Stop Beyond s)
  goes : (x : A) (y : B) (s : State Seen) → R x y → On R (Go x s) (Go y s)
  stops : (e : End) (s : State Seen) → On R (Stop e s) (Stop (Within e) s)

record Like {A B : Type 0} (R : A → B → Type 0) (m : State Seen → Result A) (n : State Seen → Ending B) : Type 0 where
  at : (s : State Seen) → On R (m s) (n s)

on_then : {A B C D : Type 0} (R : A → B → Type 0) (Q : C → D → Type 0) (f : A → State Seen → Result C) (g : B → State Seen → Ending D) (r : Result A) (q : Ending B) → On R r q
    → ((x : A) (y : B) → R x y → Like Q (f x) (g y)) → On Q (bind r f) (bind q g)
on_then R Q f g _ _ (over r s) h = over (bind r f) s
on_then R Q f g _ _ (goes x y s e) h = (h x y e).at s
on_then R Q f g _ _ (stops e s) h = stops e s

then : {A B C D : Type 0} (R : A → B → Type 0) (Q : C → D → Type 0) (m : State Seen → Result A) (n : State Seen → Ending B) (f : A → State Seen → Result C) (g : B → State Seen → Ending D)
    → Like R m n → ((x : A) (y : B) → R x y → Like Q (f x) (g y)) → Like Q (λ s. bind (m s) f) (λ s. bind (n s) g)
then R Q m n f g l h = record { at = λ s. on_then R Q f g (m s) (n s) (l.at s) h }

like_ret : {A B : Type 0} (R : A → B → Type 0) (x : A) (y : B) → R x y → Like R (λ s. Go x s) (λ s. Go y s)
like_ret R x y e = record { at = λ s. goes x y s e }

like_over : {A B : Type 0} (R : A → B → Type 0) (m : State Seen → Result A) → Like R m (λ s. Stop Beyond s)
like_over R m = record { at = λ s. over (m s) s }

on_run : {A : Type 0} (R : A → A → Type 0) → ((x : A) → R x x) → (r : Result A) → On R r (within r)
on_run R same (Go x s) = goes x x s (same x)
on_run R same (Stop e s) = stops e s

-- a part that does as a run does
as_it_is : {A : Type 0} (R : A → A → Type 0) → ((x : A) → R x x) → (m : State Seen → Result A) → Like R m (λ s. within (m s))
as_it_is R same m = record { at = λ s. on_run R same (m s) }

like_cond : {A B : Type 0} (R : A → B → Type 0) (t : Bool) (a a' : State Seen → Result A) (x x' : State Seen → Ending B) → Like R a x → Like R a' x' → Like R (cond t a a') (cond t x x')
like_cond R true a a' x x' g h = g
like_cond R false a a' x x' g h = h

on_cut : {A B : Type 0} (R : A → B → Type 0) (n : ℕ) (r : Result A) (q : Ending B) → On R r q → On R (acts.cut End (State Seen) cells_of with_cells n r) (acts.cut BoundedEnd (State Seen) cells_of with_cells n q)
on_cut R n _ _ (over r s) = over (acts.cut End (State Seen) cells_of with_cells n r) s
on_cut R n _ _ (goes x y s e) = goes x y (record s { cells = take n s.cells }) e
on_cut R n _ _ (stops e s) = stops e s

like_scoped : {A B : Type 0} (R : A → B → Type 0) (m : State Seen → Result A) (n : State Seen → Ending B) → Like R m n → Like R (acts.scoped End (State Seen) cells_of with_cells m) (acts.scoped BoundedEnd (State Seen) cells_of with_cells n)
like_scoped R m n g = record { at = λ s. on_cut R (length s.cells) (m s) (n s) (g.at s) }

like_go_on : (a : State Seen → Result Flow) (x : State Seen → Ending Flow) → Like Equal a x → (f : Flow) → Like Equal (go_on a f) (go_on x f)
like_go_on a x g Next = record { at = λ s. g.at s }
like_go_on a x g Broken = like_ret Equal Broken Broken refl
like_go_on a x g Again = like_ret Equal Again Again refl
like_go_on a x g (Gave v) = like_ret Equal (Gave v) (Gave v) refl

like_turned : (a : State Seen → Result Flow) (x : State Seen → Ending Flow) → Like Equal a x → (f : Flow) → Like Equal (turned a f) (turned x f)
like_turned a x g Next = record { at = λ s. g.at s }
like_turned a x g Broken = like_ret Equal Next Next refl
like_turned a x g Again = like_ret Equal Again Again refl
like_turned a x g (Gave v) = like_ret Equal (Gave v) (Gave v) refl

module _ (p : Program) (k : ℕ) where
  -- more turns than steps left, and more than the bound has
  abbrev larger : Bounds
  larger = record { turns = λ n. suc (n + k); enough = λ n. omega arith; no_turn_left = run.stop p Seen keep Spent; no_call_left = run.stop p Seen keep Spent }

  like_branched : (spot : Spot) (t : Bool) {A : Type 0} (a a' : State Seen → Result A) (x x' : State Seen → Ending A) → Like Equal a x → Like Equal a' x' → Like Equal (run.branched p Seen keep spot t a a') (b.branched p Seen keep k spot t x x')
  like_branched spot t a a' x x' g h = then Units Equal _ _ _ _ (as_it_is Units (λ _. tt) (run.tell p Seen keep (Branch spot (Truth t)))) (λ _ _ _. like_cond Equal t a a' x x' g h)

  like_back : (site : Site) (f : Flow) → Like Equal (λ s. bind (run.shallower p Seen keep s) (λ _. run.returned p Seen keep site (given f))) (λ s. bind (within (run.shallower p Seen keep s)) (λ _ t. within (run.returned p Seen keep site (given f) t)))
  like_back site f = then Units Equal _ _ _ _ (as_it_is Units (λ _. tt) (run.shallower p Seen keep)) (λ _ _ _. as_it_is Equal (λ _. refl) (run.returned p Seen keep site (given f)))

  like_called : (site : Site) (a : State Seen → Result Flow) (x : State Seen → Ending Flow) → Like Equal a x → Like Equal (run.called p Seen keep site a) (b.called p Seen keep k site x)
  like_called site a x g =
      let back : Flow → State Seen → Result ℤ = λ f s. bind (run.shallower p Seen keep s) (λ _. run.returned p Seen keep site (given f)) in
      let back' : Flow → State Seen → Ending ℤ = λ f s. bind (within (run.shallower p Seen keep s)) (λ _ t. within (run.returned p Seen keep site (given f) t)) in
      then Units Equal _ _ _ _ (as_it_is Units (λ _. tt) (run.deeper p Seen keep))
      (λ _ _ _. then Equal Equal (acts.scoped End (State Seen) cells_of with_cells a) (acts.scoped BoundedEnd (State Seen) cells_of with_cells x) back back' (like_scoped Equal a x g) (λ f f' e. subst (λ z. Like Equal (back f) (back' z)) e (like_back site f)))

  module _ (at : Spot) (l : Loop) (arrived : List Cell) (a : State Seen → Result Flow) (x : b.Turn p Seen keep k) (g : (may : Bool) → Like Equal a (x may)) where
    abbrev long : ℕ → State Seen → Result Flow
    long n = turns_to p (run.stop p Seen keep Spent) n at l arrived a

    -- one turn, then what is alike
    one_turn : (may : Bool) (m : State Seen → Result Flow) (n : State Seen → Ending Flow) → Like Equal m n
        → Like Equal (λ s. bind (run.note p Seen keep (Head at l arrived s.cells) s) (λ _ t. bind (a t) (turned m))) (λ s. bind (within (run.note p Seen keep (Head at l arrived s.cells) s)) (λ _ t. bind (x may t) (turned n)))
    one_turn may m n h = record {
      at = λ s. (then Equal Equal a (x may) (turned m) (turned n) (g may) (λ f f' e. rw e (like_turned m n h f'))).at (record s { seen = Head at l arrived s.cells ∷ s.seen });
    }

    like_turns : (r n : ℕ) → r < n → Like Equal (long n) (b.turns p Seen keep k r at l arrived x)
    like_turns r zero e = absurd (omega (arith, e))
    like_turns zero (suc n) e = one_turn false (long n) (b.beyond p Seen keep k) (like_over Equal (long n))
    like_turns (suc r) (suc n) e = one_turn true (long n) (b.turns p Seen keep k r at l arrived x) (like_turns r n (omega (arith, e)))

  like_loop : (at : Spot) (l : Loop) (a : State Seen → Result Flow) (x : b.Turn p Seen keep k) → ((may : Bool) → Like Equal a (x may))
      → Like Equal (λ s. turns_to p (run.stop p Seen keep Spent) (suc (s.steps + k)) at l s.cells a s) (λ s. b.turns p Seen keep k k at l s.cells x s)
  like_loop at l a x g = record { at = λ s. (like_turns at l s.cells a x g k (suc (s.steps + k)) (omega arith)).at s }

  like_body : (may : Bool) (a : State Seen → Result Flow) (x : b.Turn p Seen keep k) → ((may : Bool) → Like Equal a (x may)) → Like Equal (acts.continued End (State Seen) cells_of with_cells a) (b.body_of p Seen keep k may x)
  like_body false a x g = like_over Equal _
  like_body true a x g = then Equal Equal _ _ _ _ (like_scoped Equal a (x true) (g true)) (λ f f' e. like_ret Equal _ _ (ap continuing e))

  bounds : Relation (free_bounds.bounded p larger) (bounded p Seen keep k)
  bounds = record {
    Scope = Unit {0};
    more = λ L o. L;
    Entry = λ L. Unit {0};
    Values = λ ty v w. v ≡ w;
    Truths = λ t u. t ≡ u;
    Targets = λ o x y. x ≡ y;
    Acts = λ L R m n. Like R m n;
    Dones = λ ty L M a x. (may : Bool) → Like Equal a (x may);
    Agree = λ a c. Unit {0};
    IsConst = λ ty v. Unit {0};
    HasCell = λ o i. Unit {0};
    HasSize = λ o n. Unit {0};
    MayRead = λ L o. Unit {0};
    MayWrite = λ L o. Unit {0};
    MayCall = λ f. Unit {0};
    MayLoop = λ L at l. Unit {0};
  }

  bounds_keep : Preserves p bounds
  unfolding bounds
  bounds_keep = record {
    ret = λ L R x y e. like_ret R x y e;
    bind = λ L R Q m n f g l h. then R Q m n f g l h;
    using = λ ty L M R m n f g l h may. then R Equal m n f (λ y. g y may) l (λ x y e. h x y e may);
    tick = λ L t. as_it_is Units (λ _. tt) ((real p Seen keep).tick t);
    room = λ L n. as_it_is Units (λ _. tt) ((real p Seen keep).room n);
    retype = λ a c v w _ q. q;
    retyped = λ L a c m n _ q. q;
    const = λ ty v _. refl;
    digit = λ t. refl;
    convert = λ L from to v w q. rw q (as_it_is Equal (λ _. refl) ((real p Seen keep).convert from to w));
    test = λ L ty v w q. rw q (as_it_is Equal (λ _. refl) ((real p Seen keep).test ty w));
    truth = λ t u q. ap number_of q;
    draw = λ L kind spot ty. as_it_is Equal (λ _. refl) ((real p Seen keep).draw kind spot ty);
    cell = λ o i _. refl;
    element = λ L spot o vs ws q. rw (same_values vs ws q) (as_it_is Equal (λ _. refl) ((real p Seen keep).element spot o (size_of_object p o) (columns_of_object p o) ws));
    look = λ L o x y _ q. rw q (as_it_is Equal (λ _. refl) ((real p Seen keep).look y));
    write = λ L o x y v w m t q. rw (t, q) (as_it_is Units (λ _. tt) ((real p Seen keep).write y w));
    answer = λ L at spot op ty x x' right y y' q r. rw (q, r) (as_it_is Equal (λ _. refl) ((real p Seen keep).answer at spot op ty x' right y'));
    answer_one = λ L at spot op ty x x' q. rw q (as_it_is Equal (λ _. refl) ((real p Seen keep).answer_one at spot op ty x'));
    choose = λ ty L t u a a' x x' q g h. rw q (like_cond Equal u a x a' x' g h);
    pick = λ ty L mark t u a a' x x' q g h. rw q (like_branched mark u a x a' x' g h);
    enter = λ L site. as_it_is Units (λ _. tt) ((real p Seen keep).enter site);
    came_back = λ L site ty v w q. rw q (as_it_is Units (λ _. tt) ((real p Seen keep).came_back site w));
    reach = λ L at site. as_it_is Equal (λ _. refl) ((real p Seen keep).reach at site);
    ending = λ L. as_it_is Equal (λ _. refl) (real p Seen keep).ending;
    called = λ ty L site a x end g. like_called site a (x true) (g tt tt true);
    missing = λ L. as_it_is Equal (λ _. refl) (real p Seen keep).missing;
    here = λ L at. as_it_is Units (λ _. tt) ((real p Seen keep).here at);
    declare = λ ty L o n _ may. as_it_is Equal (λ _. refl) ((real p Seen keep).declare o n);
    own = λ L o. tt;
    branch = λ ty L M at t u a a' x x' q g h may. rw q (like_branched at u a x (a' may) (x' may) (g may) (h may));
    select = λ L at ty v w ls q. rw q (as_it_is Same (λ _. refl) ((real p Seen keep).select at ty w ls));
    next = λ ty L may. like_ret Equal Next Next refl;
    leave = λ ty L may. like_ret Equal Broken Broken refl;
    again = λ ty L may. like_ret Equal Again Again refl;
    give = λ ty L v w q may. like_ret Equal _ _ (ap (λ z. Gave (Some z)) q);
    give_none = λ ty L q may. like_ret Equal (Gave None) (Gave None) refl;
    seq = λ ty L M N a a' x x' g h may. then Equal Equal _ _ _ _ (g may) (λ f f' e. rw e (like_go_on x (x' may) (h may) f'));
    scoped = λ ty L M a x g may. like_scoped Equal a (x may) (g may);
    continued = λ ty L M a x g may. like_body may a x g;
    breaks = λ ty L M a x g may. then Equal Equal _ _ _ _ (like_scoped Equal a (x may) (g may)) (λ f f' e. like_ret Equal _ _ (ap held e));
  }

  free : Free bounds
  unfolding bounds
  free = record {
    agree = λ a c. tt;
    const = λ ty v. tt;
    cell = λ o i. tt;
    size = λ o n. tt;
    read = λ L o. tt;
    write = λ L o. tt;
    call = λ f. tt;
    loop = λ L at l. tt;
  }

  -- calls at most m deep, and at most n deep with the bound
  like_run : (n m : ℕ) → n ≤ m → (f : Function) (may : Bool) → Like Equal (run_in p (free_bounds.bounded p larger) m f) (run_in p (bounded p Seen keep k) n f may)
  unfolding bounds
  like_run zero m e f may = like_over Equal (run_in p (free_bounds.bounded p larger) m f)
  like_run (suc n) zero e f may = absurd (omega (arith, e))
  like_run (suc n) (suc m) e f may =
      let call : Calls (free_bounds.bounded p larger) = λ site g vs. call_of p (free_bounds.bounded p larger) (run_in p (free_bounds.bounded p larger) m) site (slice_get p.functions g) vs in
      let other : Calls (bounded p Seen keep k) = λ site g vs. call_of p (bounded p Seen keep k) (run_in p (bounded p Seen keep k) n) site (slice_get p.functions g) vs in
      related_body p bounds bounds_keep call other
      (λ L site g vs ws may q. related_call p bounds bounds_keep (run_in p (free_bounds.bounded p larger) m) (run_in p (bounded p Seen keep k) n) site (slice_get p.functions g) (λ fn z. (all_fit_params p bounds free fn.params, λ E y. like_run n m (omega (arith, e)) fn)) L vs ws q)
      (λ L at result l may g t. like_scoped Equal _ _ (like_loop at l (turn p (free_bounds.bounded p larger) call result at l) (turn p (bounded p Seen keep k) other result at l) g))
      f.result tt f.body (all_fit p bounds free f.result tt f.body) may

  like_main : (n m : ℕ) → n ≤ m → (f : Option Function) → Like Equal (run_if p (free_bounds.bounded p larger) m f) (run_if p (bounded p Seen keep k) n f true)
  like_main n m e None = like_ret Equal Next Next refl
  like_main n m e (Some f) = like_run n m e f true

  pub on_whole : AreNeverMet p → (c : Choices) (N : ℕ) → On Equal (Whole p c N) (WholeBounded p k c N)
  on_whole never c N =
      subst (λ r. On Equal r (WholeBounded p k c N)) (never.run larger (suc (N + k)) c N (omega arith))
      ((like_main (suc k) (suc (N + k)) (omega arith) (slice_get p.functions p.main)).at (first_state p Seen [] c N))

same_end : (r : Result Flow) (q : Ending Flow) → On Equal r q → (bounded_end q ≡ Beyond → ⊥) → (bounded_end q ≡ Within (end_of r)) × (state_of q ≡ state_of r)
same_end _ _ (over r s) h = absurd (h refl)
same_end _ _ (goes x y s e) h = (refl, refl)
same_end _ _ (stops e s) h = (refl, refl)

pub agrees : (p : Program) → AreNeverMet p → (k : ℕ) (c : Choices) (N : ℕ) → StaysWithin p k c N → IsTheRun p k c N
agrees p never k c N h = let s = same_end (Whole p c N) (WholeBounded p k c N) (on_whole p k never c N) h in record { end = s.0; state = s.1 }
