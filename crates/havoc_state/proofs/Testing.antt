-- Invariants in turn.
use Rattle.std.proofs.Common.{◌≡◌, ℕ, suc, Bool, true, false, cond, List, ◌∷◌, drop, Some, sym, ap, ◌∙◌}
use Rattle.c_core.specs.Tree.{Program}
use Rattle.c_core.specs.declared.number.Spot.{Spot}
use Rattle.c_meaning.specs.declared.run.DutyKind.{DutyKind}
use Rattle.c_meaning.specs.declared.run.PlacedInvariant.{PlacedInvariant}
use Rattle.c_meaning.specs.Acts.{Res, Stop}
use Rattle.c_meaning.specs.Duties.{Placed, duty}
use Rattle.c_meaning.specs.Havoc as h
use Rattle.c_meaning.specs.Havoc.{Stopped, Left, Fails, Dismisses}
use Rattle.c_meaning.specs.Placing.{placed, placed_view}
use Rattle.havoc_state.specs.Havocking.{broken}

module _ (p : Program) (I : List Placed) (spot : Spot) (xs : List PlacedInvariant) (i : ℕ) (x : PlacedInvariant) (behind : drop i xs ≡ x ∷ drop (suc i) xs) (s : Left) (whole : Res Stopped Left (Unit {0})) where
  -- the invariants that are left do what all do
  module _ (at_loop : Bool) (kind : DutyKind) (rest : h.test_from p I i (placed_view (drop i xs)) at_loop spot kind s ≡ whole) where
    next_test : cond (broken p at_loop spot (placed x) s.cells) (Stop (Fails (duty spot kind (Some i))) s) (h.test_from p I (suc i) (placed_view (drop (suc i) xs)) at_loop spot kind s) ≡ whole
    next_test = ap (λ ys. h.test_from p I i (placed_view ys) at_loop spot kind s) (sym behind) ∙ rest

    pub test_on : broken p at_loop spot (placed x) s.cells ≡ false → h.test_from p I (suc i) (placed_view (drop (suc i) xs)) at_loop spot kind s ≡ whole
    test_on b = sym (ap (λ t. cond t (Stop (Fails (duty spot kind (Some i))) s) (h.test_from p I (suc i) (placed_view (drop (suc i) xs)) at_loop spot kind s)) b) ∙ next_test

  module _ (rest : h.assume_all p I (placed_view (drop i xs)) spot s ≡ whole) where
    next_assumed : cond (broken p true spot (placed x) s.cells) (Stop Dismisses s) (h.assume_all p I (placed_view (drop (suc i) xs)) spot s) ≡ whole
    next_assumed = ap (λ ys. h.assume_all p I (placed_view ys) spot s) (sym behind) ∙ rest

    pub assumed_not : broken p true spot (placed x) s.cells ≡ true → whole ≡ Stop Dismisses s
    assumed_not b = sym next_assumed ∙ ap (λ t. cond t (Stop Dismisses s) (h.assume_all p I (placed_view (drop (suc i) xs)) spot s)) b

    pub assume_on : broken p true spot (placed x) s.cells ≡ false → h.assume_all p I (placed_view (drop (suc i) xs)) spot s ≡ whole
    assume_on b = sym (ap (λ t. cond t (Stop Dismisses s) (h.assume_all p I (placed_view (drop (suc i) xs)) spot s)) b) ∙ next_assumed
