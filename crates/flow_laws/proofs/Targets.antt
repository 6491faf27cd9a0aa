-- The targets of assignments: cells, and elements whose cells the machine finds.
use Rattle.std.proofs.Common.{◌≡◌, ℕ, zero, suc, ◌+◌, ◌≤◌, ◌<◌, ℤ, pos, nat_lt, Bool, true, false, cond, List, [], ◌∷◌, Option, Some, None, slice_get, refl, sym, ap, ◌∙◌, subst, arith}
use Rattle.std.specs.List.{All}
use Rattle.std.proofs.lemmas.Bool.{lt-ltb}
use Rattle.std.proofs.lemmas.List.Elements.{All-head, All-tail}
use Rattle.c_core.specs.Types.{fit}
use Rattle.c_core.specs.Tree.{Exp, Expr, Node, Index, Exps, Program}
use Rattle.c_core.specs.declared.number.IntType.{IntType}
use Rattle.c_core.specs.declared.number.Spot.{Spot}
use Rattle.c_core.specs.declared.tree.Object.{Object}
use Rattle.c_meaning.specs.declared.run.End.{End}
use Rattle.c_meaning.specs.declared.run.Event.{Event}
use Rattle.c_meaning.specs.Cells.{Cell, Key, read, put}
use Rattle.c_meaning.specs.Acts.{Res, Go, Stop, bind}
use Rattle.c_meaning.specs.Meaning.{AStatement}
use Rattle.c_meaning.specs.Objects.{size_in, size_of_object, columns_of_object}
use Rattle.c_meaning.specs.Eval.{target, place}
use Rattle.c_meaning.specs.Exec.{ticks}
use Rattle.c_meaning.specs.Run.{State, cell_among, with_cells}
use Rattle.c_meaning.specs.Run as run
use Rattle.c_meaning.specs.Watching.{seen_by}
use Rattle.c_meaning.proofs.Indexes.{among_is}
use Rattle.run_state.specs.Interpreting.{where_of}
use Rattle.run_state.specs.declared.machine.Around.{Around}
use Rattle.flow_code.specs.declared.code.Place.{Place}
use Rattle.flow_code.specs.declared.code.Then.{Then}
use Rattle.flow_code.specs.declared.code.Action.TheVariants.{Aim}
use Rattle.flow_code.specs.declared.code.Code.{Code}
use Rattle.flow_code.specs.Preparing.{only, stored_in}
use Rattle.flow_code.specs.Sizes.{size_of_place}
use Rattle.flow_code.specs.Expressions.{place_code}
use Rattle.flow_code.specs.Words.{native}
use Rattle.flow_laws.specs.Machines.{Control}
use Rattle.flow_laws.specs.Acting.{cell, index_of, key_at, stack_at, finished, passed_on, aimed}
use Rattle.flow_laws.specs.inside.Simulating.{HasCode, control_at, meaning, calls, paying}
use Rattle.flow_laws.proofs.Values.{fit_native}
use Rattle.flow_laws.proofs.Operations.{Gives, bind_behind, standing, Comes, comes_on, paying_alike, paying_behind, paying_more}
use Rattle.flow_laws.proofs.Operands.{ticked, goes_to}
use Rattle.flow_laws.proofs.Answering.{aim_takes}
use Rattle.flow_laws.proofs.Invoking.{ArgsOf, InArgs}
use Rattle.flow_laws.proofs.Elements.{gives_behind, element_found}

-- the number of cells of each object fits 32 bits
abbrev pub AreSmall : Program → Type 0
AreSmall p = All (λ (o : Object). o.cells < 4294967296) p.objects

size_small : (os : List Object) (i : ℕ) → All (λ (o : Object). o.cells < 4294967296) os → size_in (slice_get os i) < 4294967296
size_small [] i h = omega arith
size_small (o ∷ os) zero h = All-head (λ (x : Object). x.cells < 4294967296) o os h
size_small (o ∷ os) (suc i) h = size_small os i (All-tail (λ (x : Object). x.cells < 4294967296) o os h)

pub object_small : (p : Program) (o : ℕ) → AreSmall p → size_of_object p o < 4294967296
object_small p o h = size_small p.objects o h

-- the key of an element whose index was found is the one that a machine has from the stack
abbrev pub IsFound : ℕ → Key → Type 0
IsFound o key = cell o (index_of (pos key.index)) ≡ key

index_same : (o i : ℕ) (b : Bool) → nat_lt i 4294967296 ≡ b → i < 4294967296 → cell o (cond b i 0) ≡ cell o i
index_same o i true e h = refl
index_same o i false e h = let t = lt-ltb i 4294967296 h in absurd (cc)

module _ (p : Program) (c : Code) (S : Type 0) (after : Event → List Cell → S → S) (n : ℕ) where
  -- the cell that a target means
  abbrev pub TargetOf : Around → Exp → State S → Res End (State S) Key
  TargetOf at e s = target p (meaning p c S after) (calls p c S after n) (where_of at) e s

  abbrev pub PlaceOf : Around → Spot → Node → State S → Res End (State S) Key
  PlaceOf at spot x s = place p (meaning p c S after) (calls p c S after n) (where_of at) spot x s

  found_at : (spot : Spot) (o size : ℕ) (x : Option ℕ) (t : State S) → ((k : ℕ) → x ≡ Some k → k < size) → size < 4294967296 → Gives (IsFound o) (run.key_of p S (seen_by after) spot o x t)
  found_at spot o size (Some k) t f h = let l = f k refl in index_same o k (nat_lt k 4294967296) refl (omega (arith, l, h))
  found_at spot o size None t f h = tt

  found : (spot : Spot) (o size columns : ℕ) (r : Res End (State S) (List (ℤ × IntType))) → size < 4294967296 → Gives (IsFound o) (bind r (λ js t. run.key_of p S (seen_by after) spot o (cell_among size columns js) t))
  found spot o size columns (Go js t) h = found_at spot o size (cell_among size columns js) t (among_is size columns js) h
  found spot o size columns (Stop e t) h = tt

  -- the cell of an element, and what the machine does after it
  pub aim_then : (o : ℕ) (is : Exps) → InArgs p c S after n is → AreSmall p → (at : Around) (i k : ℕ) (spot : Spot) (reads : Bool) (κ : Control) (s : State S)
      → HasCode c i (place_code p at i k spot (Index o is) reads).ops → s.steps ≤ n
      → (f : Key → State S → Res End (State S) Control)
      → ((key : Key) (u : State S) → IsFound o key → u.steps ≤ n
      → Comes p c S after (standing (record κ { stack = cond reads (read key u.cells ∷ pos key.index ∷ κ.stack) (pos key.index ∷ κ.stack) }) (i + size_of_place (Index o is)) u) (f key u))
      → Comes p c S after (standing κ i s) (paying p c S after k (λ u. bind (PlaceOf at spot (Index o is) u) f) s)
  aim_then o is ih small at i k spot reads κ s h below f g =
      let l = size_of_object p o in
      let to = λ (x : Key) (u : State S). control_at (record κ { stack = cond reads (read x u.cells ∷ pos x.index ∷ κ.stack) (pos x.index ∷ κ.stack) }) (i + size_of_place (Index o is)) in
      let r = paying p c S after k (PlaceOf at spot (Index o is)) s in
      let reached = element_found p c S after n o (λ y. Aim o l y spot reads) (λ x κ u. aimed c S after reads x κ.stack κ u) at spot (aim_takes p c S after n o l spot reads) is ih i k κ s h below in
      let placed : Comes p c S after (standing κ i s) (bind r (λ x u. Go (to x u) u)) =
      subst (Comes p c S after (standing κ i s)) (sym (paying_behind p c S after k (PlaceOf at spot (Index o is)) (λ x w. Go (to x w) w) s)) reached in
      subst (Comes p c S after (standing κ i s)) (paying_behind p c S after k (PlaceOf at spot (Index o is)) f s)
      (comes_on p c S after (IsFound o) (standing κ i s) r to (λ x u. u) f
      (gives_behind p c S after n (IsFound o) (ticks p (meaning p c S after) AStatement k s) (PlaceOf at spot (Index o is))
      (λ u. found spot o l (columns_of_object p o) (ArgsOf p c S after n at is u) (object_small p o small)))
      placed (λ x u q d. g x u q (omega (arith, d, below))))

  -- a target's own step is one more in front of what it means
  pub target_steps : (at : Around) (spot : Spot) (ty : Option IntType) (x : Node) (k : ℕ) (s : State S) (f : Key → State S → Res End (State S) Control)
      → paying p c S after (k + 1) (λ u. bind (PlaceOf at spot x u) f) s ≡ paying p c S after k (λ u. bind (TargetOf at (Expr spot ty x) u) f) s
  target_steps at spot ty x k s f =
      paying_more p c S after k (λ u. bind (PlaceOf at spot x u) f) s
      ∙ paying_alike p c S after k (λ u. bind (ticked p c S after n u) (λ _ w. bind (PlaceOf at spot x w) f)) (λ u. bind (TargetOf at (Expr spot ty x) u) f) s
      (λ u. sym (bind_behind (ticked p c S after n u) (λ _ w. PlaceOf at spot x w) f))

  -- a value is stored in the cell of a key, and goes on
  pub stores : (pl : Place) (key : Key) (ty : IntType) (old : Bool) (then : Then) (v z : ℤ) (κ : Control) (vs : List ℤ) (j : ℕ) (u : State S) → key_at pl vs ≡ key → stack_at pl vs ≡ κ.stack
      → finished c S after v z (stored_in pl (native p.model ty) old then) (control_at (record κ { stack = vs }) j) u
      ≡ goes_to p c S after n κ j (only then) (cond old v (fit p.model ty z)) (with_cells (put key (fit p.model ty z) u.cells) u)
  stores pl key ty old then v z κ vs j u hk hs =
      ap (λ w. passed_on c S after (cond old v w) then (control_at (record κ { stack = stack_at pl vs }) j) (with_cells (put (key_at pl vs) w u.cells) u)) (fit_native p.model ty z)
      ∙ ap (λ q. passed_on c S after (cond old v (fit p.model ty z)) then (control_at (record κ { stack = stack_at pl vs }) j) (with_cells (put q (fit p.model ty z) u.cells) u)) hk
      ∙ ap (λ q. passed_on c S after (cond old v (fit p.model ty z)) then (control_at (record κ { stack = q }) j) (with_cells (put key (fit p.model ty z) u.cells) u)) hs

  -- what is known of a target by its parts
  abbrev pub InPlace : Node → Type 0
  InPlace (Index o is) = InArgs p c S after n is
  InPlace _ = Unit {0}

  abbrev pub InTarget : Exp → Type 0
  InTarget (Expr spot ty x) = InPlace x
