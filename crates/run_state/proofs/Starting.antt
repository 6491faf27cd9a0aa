-- The state in which a run starts.
use Rattle.std.proofs.Common.{◌≡◌, ℕ, zero, suc, ◌+◌, ◌-◌, ◌%◌, ◌<◌, ◌≤◌, ℤ, Bool, true, false, cond, ◌&&◌, nat_le, nat_eq, IsTrue, List, [], ◌∷◌, ◌++◌, length, reverse, drop, get_or, Option, Some, None, slice_get, refl, sym, ap, ◌∙◌, arith, drop-cons}
use Rattle.std.proofs.lemmas.List.{append_assoc, reverse-append, reverse-reverse}
use Rattle.std.proofs.lemmas.List.Sums.{sum_by-cons}
use Rattle.std.specs.List.{list_all, sum_by}
use Rattle.std.proofs.lemmas.Bool.Decides.{nat_tests}
use Rattle.c_core.specs.Tree as t
use Rattle.c_core.specs.Program.{shape_fits, object_fits, most_declared_cells, IsProgram}
use Rattle.c_core.specs.View.{function_view, functions_view}
use Rattle.c_core.specs.declared.tree.Object.{Object}
use Rattle.c_core.specs.declared.tree.Start.{Start}
use Rattle.c_core.specs.declared.tree.Function.{Function}
use Rattle.c_core.specs.declared.number.Spot.{Spot}
use Rattle.c_meaning.specs.declared.run.Given.{Given as GivenAt}
use Rattle.run_state.specs.declared.machine.LeftAt.{LeftAt}
use Rattle.run_state.specs.Interpreting.{given_left, givens_left}
use Rattle.c_meaning.specs.Cells.{Cell, cells_from}
use Rattle.c_meaning.specs.Run.{static_cells, start_values}

-- one value more of a list from its end
pub reversed_more : (vs : List ℤ) (i : ℕ) (v d : ℤ) (out : List ℤ) → i < length vs → out ≡ reverse (drop (length vs - i) vs) → v ≡ get_or vs (length vs - 1 - i) d
    → out ++ v ∷ [] ≡ reverse (drop (length vs - (i + 1)) vs)
reversed_more vs i v d out h e w =
    let k : length vs - (i + 1) ≡ length vs - 1 - i = omega arith in
    let l : length vs - 1 - i < length vs = omega arith in
    let n : suc (length vs - 1 - i) ≡ length vs - i = omega arith in
    rw (k, drop-cons vs (length vs - 1 - i) d l, n, e, w) (sym (reverse-append (get_or vs (length vs - 1 - i) d ∷ []) (drop (length vs - i) vs)))

-- the cells that stand, and those of the objects that are left
module _ (starts : List Start) where
  pub objects_left : (objects : List Object) (i : ℕ) (x : Object) (held more : List Cell) (whole : List Cell) → drop i objects ≡ x ∷ drop (suc i) objects
      → held ++ static_cells starts i (drop i objects) ≡ whole
      → more ≡ held ++ cond x.fixed (cells_from i 0 x.cells (start_values i starts)) []
      → more ++ static_cells starts (suc i) (drop (suc i) objects) ≡ whole
  objects_left objects i x held more whole d e m =
      ap (λ cs. cs ++ static_cells starts (suc i) (drop (suc i) objects)) m
      ∙ append_assoc held (cond x.fixed (cells_from i 0 x.cells (start_values i starts)) []) (static_cells starts (suc i) (drop (suc i) objects))
      ∙ ap (λ os. held ++ static_cells starts i os) (sym d) ∙ e

both : (a b : Bool) → IsTrue (a && b) → IsTrue a × IsTrue b
both true b h = (refl, h)
both false b h = absurd (cc)

one_cell : (dims cells columns : ℕ) → IsTrue (shape_fits dims cells columns) → 1 ≤ cells
one_cell zero cells columns h = let e = (both (nat_eq cells 1) (nat_eq columns 1) h).0 in grind (arith, nat_tests)
one_cell (suc zero) cells columns h = let e = (both (nat_le 1 cells) (nat_eq columns 1) h).0 in grind (arith, nat_tests)
one_cell (suc (suc zero)) cells columns h = let e = (both (nat_le 1 cells) (nat_le 1 columns && nat_eq (cells % columns) 0) h).0 in grind (arith, nat_tests)
one_cell (suc (suc (suc n))) cells columns h = absurd (cc)

-- each object has a cell
pub no_more_objects : (os : List Object) → IsTrue (list_all object_fits os) → length os ≤ sum_by (λ o. o.cells) os
no_more_objects [] h = omega arith
no_more_objects (o ∷ os) h =
    let b = both (object_fits o) (list_all object_fits os) h in
    let one = one_cell o.dims o.cells o.columns b.0 in
    let rest = no_more_objects os b.1 in
    let sum : sum_by (λ o. o.cells) (o ∷ os) ≡ o.cells + sum_by (λ o. o.cells) os = sum_by-cons (λ o. o.cells) o os in
    omega arith

pub function_at : (fs : List Function) (i : ℕ) (f : Function) → slice_get fs i ≡ Some f → slice_get (functions_view fs) i ≡ Some (function_view f)
function_at [] i f h = cc
function_at (g ∷ fs) zero f h = ap (λ x. viewed x) h
  where
    viewed : Option Function → Option t.Function
    viewed None = None
    viewed (Some f) = Some (function_view f)
function_at (g ∷ fs) (suc i) f h = function_at fs i f h

pub no_function_at : (fs : List Function) (i : ℕ) → slice_get fs i ≡ None → slice_get (functions_view fs) i ≡ None
no_function_at [] i h = refl
no_function_at (g ∷ fs) zero h = cc
no_function_at (g ∷ fs) (suc i) h = no_function_at fs i h

-- a checked program has few objects
pub few_objects : (p : t.Program) → IsProgram p → length p.objects ≤ most_declared_cells
few_objects p h =
    let few = no_more_objects p.objects h.objects in
    let most = h.cells in
    grind (arith, nat_tests)

givens_appended : (ls : List LeftAt) (l : LeftAt) → givens_left (ls ++ l ∷ []) ≡ givens_left ls ++ given_left l ∷ []
givens_appended [] l = refl
givens_appended (k ∷ ls) l = ap (λ gs. given_left k ∷ gs) (givens_appended ls l)

-- the lists of values at places that are turned round, and those that are left
pub givens_more : (ls ms : List LeftAt) (l : LeftAt) (gs : List GivenAt) (i : ℕ) (g : GivenAt) → drop i gs ≡ g ∷ drop (suc i) gs → givens_left ls ++ drop i gs ≡ gs
    → ms ≡ ls ++ l ∷ [] → given_left l ≡ g → givens_left ms ++ drop (suc i) gs ≡ gs
givens_more ls ms l gs i g d e m h =
    ap (λ xs. givens_left xs ++ drop (suc i) gs) m ∙ ap (λ xs. xs ++ drop (suc i) gs) (givens_appended ls l) ∙ append_assoc (givens_left ls) (given_left l ∷ []) (drop (suc i) gs)
    ∙ ap (λ x. givens_left ls ++ x ∷ drop (suc i) gs) h ∙ ap (λ xs. givens_left ls ++ xs) (sym d) ∙ e

pub turned_round : (spot : Spot) (vs : List ℤ) (l : LeftAt) → l.spot ≡ spot → l.values.items ≡ reverse vs → given_left l ≡ record { spot = spot; values = vs }
turned_round spot vs l s h = ap (λ x. record { spot = x; values = reverse l.values.items }) s ∙ ap (λ xs. record { spot = spot; values = reverse xs }) h ∙ ap (λ xs. record { spot = spot; values = xs }) (reverse-reverse vs)
