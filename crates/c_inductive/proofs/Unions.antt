-- Two inductive sets of invariants are inductive together.
use Rattle.std.proofs.Common.{◌≡◌, ◌<◌, ℕ, true, false, ◌||◌, List, length, Some, slice_get, get_or, eq-eqb, nat_eq, refl, ap, ◌∙◌, arith}
use Rattle.std.proofs.lemmas.List.Folds.{list_any_at}
use Rattle.std.proofs.lemmas.Option.{slice_get-get_or}
use Rattle.c_core.specs.Tree.{Program}
use Rattle.c_meaning.specs.Duties.{Placed}
use Rattle.c_inductive.specs.Inductive.{UnionsAreInductive}
use Rattle.c_inductive.specs.Picking.{picked}
use Rattle.c_core.specs.Scope.{is_in}
use Rattle.c_inductive.proofs.Dropping.{failures_drop}
use Rattle.c_inductive.proofs.Numbered.{duties_name_invariants}
use Rattle.c_inductive.proofs.Selected.{as_many}

-- what fails would be of an invariant that neither has
pub unions : (p : Program) (I : List Placed) → UnionsAreInductive p I
unions p I ms ns all some others both u holds hold index d at kind w ended =
    let named = duties_name_invariants p (picked all I) index d at kind in
    let many : length (picked all I) ≡ length all = as_many I all both in
    let below : named.number < length all = let l = named.within in omega (arith, l, many) in
    let n : ℕ = get_or all named.number 0 in
    let is : slice_get all named.number ≡ Some n = slice_get-get_or all named.number 0 below in
    let drops = (λ (xs : List ℕ). failures_drop p I all xs w index named.number n d both ended at named.named is) in
    let first : is_in n ms ≡ false = drops ms some u.first holds in
    let second : is_in n ns ≡ false = drops ns others u.second hold in
    let there : is_in n all ≡ true = list_any_at (nat_eq n) all named.number 0 below (eq-eqb n n refl) in
    let one : is_in n ms || is_in n ns ≡ true = u.no_other n there in
    let none : is_in n ms || is_in n ns ≡ false = ap (λ b. b || is_in n ns) first ∙ second in
    absurd (cc)
