-- What walks take of the arms of a switch, arm by arm.
use Rattle.std.proofs.Common.{◌≡◌, ℕ, ◌+◌, ◌<◌, refl, ap, ◌∙◌, false, cond, List, [], ◌∷◌, ◌++◌, length, drop, get_or, Some}
use Rattle.c_core.specs.Tree.{Exp, Stm, Stms, NoStm, MoreStm, MoreCase}
use Rattle.c_core.specs.Parts.{same_spot, spot_of_statement, statements_of, statements_of_block}
use Rattle.c_core.specs.Places.{before_in, begins_at, places_of_block, places_of_statement}
use Rattle.c_core.specs.View.{joined, stmts_view, switch_view}
use Rattle.c_core.specs.declared.number.Spot.{Spot}
use Rattle.c_core.specs.declared.tree.Arm.{Arm, out-Arm}
use Rattle.c_core.proofs.ArmLaws.{all_from, arms_from}
use Rattle.c_core.proofs.View.{arm_views}
use Rattle.way_places.specs.Neighbours.{pair_of, pairs_in}
use Rattle.way_places.specs.Seeking.{or_else}
use Rattle.way_places.specs.Sought.{each_in, each_in_block}
use Rattle.way_places.proofs.FirstLaws.{both_by}

-- no arm begins with a statement of its own place
no_statement : (spot : Spot) (arms : List Arm) → begins_at spot (switch_view arms) ≡ false
no_statement spot [] = refl
no_statement spot (a ∷ rest) = ap (begins_at spot) (arm_views a (switch_view rest))

no_pair : (s : Stm) (arms : List Arm) → pair_of s (switch_view arms) ≡ []
no_pair s [] = refl
no_pair s (a ∷ rest) = ap (pair_of s) (arm_views a (switch_view rest))

pairs_joined : (b c : Stms) → ((s : Stm) → pair_of s c ≡ []) → pairs_in (joined b c) ≡ pairs_in b ++ pairs_in c
pairs_joined NoStm c h = refl
pairs_joined (MoreStm s NoStm) c h = ap (λ xs. xs ++ pairs_in c) (h s)
pairs_joined (MoreStm s (MoreStm behind b)) c h = ap (λ xs. (spot_of_statement behind, s) ∷ xs) (pairs_joined (MoreStm behind b) c h)
pairs_joined (MoreStm s (MoreCase spot l b)) c h = pairs_joined b c h
pairs_joined (MoreCase spot l b) c h = pairs_joined b c h

before_joined : (spot : Spot) (b c : Stms) → begins_at spot c ≡ false → before_in spot (joined b c) ≡ or_else (before_in spot b) (before_in spot c)
before_joined spot NoStm c h = refl
before_joined spot (MoreStm s NoStm) c h = ap (λ t. cond t (Some s) (before_in spot c)) h
before_joined spot (MoreStm s (MoreStm behind b)) c h =
    both_by (same_spot (spot_of_statement behind) spot) s (before_in spot (joined (MoreStm behind b) c)) (before_in spot (MoreStm behind b)) (before_in spot c)
    (before_joined spot (MoreStm behind b) c h)
before_joined spot (MoreStm s (MoreCase at l b)) c h = before_joined spot b c h
before_joined spot (MoreCase at l b) c h = before_joined spot b c h

-- of the arms from one on
module _ (arms : List Arm) (i : ℕ) (a : Arm) (inside : i < length arms) (is : a ≡ get_or arms i a) where
  pub places_from : places_of_block (switch_view (drop i arms)) ≡ places_of_block (stmts_view (out-Arm a).body) ++ places_of_block (switch_view (drop (i + 1) arms))
  places_from = all_from places_of_statement places_of_block refl (λ s b. refl) (λ b spot l. refl) arms i a inside is

  pub each_from : {A : Type 0} (f : Exp → List A) → each_in_block f (switch_view (drop i arms)) ≡ each_in_block f (stmts_view (out-Arm a).body) ++ each_in_block f (switch_view (drop (i + 1) arms))
  each_from f = all_from (each_in f) (each_in_block f) refl (λ s b. refl) (λ b spot l. refl) arms i a inside is

  pub statements_from : statements_of_block (switch_view (drop i arms)) ≡ statements_of_block (stmts_view (out-Arm a).body) ++ statements_of_block (switch_view (drop (i + 1) arms))
  statements_from = all_from statements_of statements_of_block refl (λ s b. refl) (λ b spot l. refl) arms i a inside is

  pub pairs_from : pairs_in (switch_view (drop i arms)) ≡ pairs_in (stmts_view (out-Arm a).body) ++ pairs_in (switch_view (drop (i + 1) arms))
  pairs_from = ap pairs_in (arms_from arms i a inside is) ∙ pairs_joined (stmts_view (out-Arm a).body) (switch_view (drop (i + 1) arms)) (λ s. no_pair s (drop (i + 1) arms))

  pub before_from : (spot : Spot) → before_in spot (switch_view (drop i arms)) ≡ or_else (before_in spot (stmts_view (out-Arm a).body)) (before_in spot (switch_view (drop (i + 1) arms)))
  before_from spot = ap (before_in spot) (arms_from arms i a inside is) ∙ before_joined spot (stmts_view (out-Arm a).body) (switch_view (drop (i + 1) arms)) (no_statement spot (drop (i + 1) arms))
