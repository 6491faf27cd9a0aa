-- A checked program has few objects.
use Rattle.std.proofs.Common.{ℕ, zero, suc, ◌≤◌, ◌%◌, refl, true, false, Bool, ◌&&◌, List, [], ◌∷◌, length, IsTrue, nat_le, nat_eq, arith}
use Rattle.std.proofs.lemmas.Bool.{false≢true}
use Rattle.std.specs.List.{list_all, sum_by}
use Rattle.std.proofs.lemmas.Bool.Decides.{nat_tests}
use Rattle.std.proofs.lemmas.List.Sums.{sum_by-cons}
use Rattle.c_core.specs.Tree.{Program}
use Rattle.c_core.specs.Program.{IsProgram, object_fits, shape_fits}
use Rattle.c_core.specs.declared.tree.Object.{Object}

both_true : (a b : Bool) → IsTrue (a && b) → IsTrue a × IsTrue b
both_true true b h = (refl, h)
both_true false b h = absurd (false≢true h)

one_at_least : (dims cells columns : ℕ) → IsTrue (shape_fits dims cells columns) → 1 ≤ cells
one_at_least zero cells columns h = let e = (both_true (nat_eq cells 1) (nat_eq columns 1) h).0 in grind (arith, nat_tests)
one_at_least (suc zero) cells columns h = let e = (both_true (nat_le 1 cells) (nat_eq columns 1) h).0 in grind (arith, nat_tests)
one_at_least (suc (suc zero)) cells columns h = let e = (both_true (nat_le 1 cells) (nat_le 1 columns && nat_eq (cells % columns) 0) h).0 in grind (arith, nat_tests)
one_at_least (suc (suc (suc n))) cells columns h = absurd (false≢true h)

few : (os : List Object) → IsTrue (list_all object_fits os) → length os ≤ sum_by (λ o. o.cells) os
few [] h = omega arith
few (o ∷ os) h =
    let t = both_true (object_fits o) (list_all object_fits os) h in
    let one : 1 ≤ o.cells = one_at_least o.dims o.cells o.columns t.0 in
    let rest : length os ≤ sum_by (λ x. x.cells) os = few os t.1 in
    omega (arith, sum_by-cons (λ x. x.cells) o os)

within : (n : ℕ) → IsTrue (nat_le n 100000) → n ≤ 100000
within n h = grind (arith, nat_tests)

pub few_objects : (p : Program) → IsProgram p → length p.objects ≤ 100000
few_objects p h =
    let a : length p.objects ≤ sum_by (λ o. o.cells) p.objects = few p.objects h.objects in
    let b : sum_by (λ o. o.cells) p.objects ≤ 100000 = within (sum_by (λ o. o.cells) p.objects) h.cells in
    omega arith
