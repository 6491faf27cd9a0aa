-- What is listed of the arms of a switch, arm by arm.
use Rattle.std.proofs.Common.{◌≡◌, ℕ, ◌+◌, ◌<◌, List, ◌++◌, length, drop, get_or, refl}
use Rattle.c_core.specs.Parts.{statements_of, statements_of_block}
use Rattle.c_core.specs.View.{stmts_view, switch_view}
use Rattle.c_core.specs.declared.tree.Arm.{Arm, out-Arm}
use Rattle.c_core.proofs.ArmLaws.{all_from}
use Rattle.c_meaning.specs.Parts.{declared_in, declared_in_block}
use Rattle.c_calls.specs.Uses.{uses_of_statement, uses_of_block}
use Rattle.c_calls.specs.declared.uses.Use.{Use}

pub uses_from : (arms : List Arm) (i : ℕ) (a : Arm) → i < length arms → a ≡ get_or arms i a → uses_of_block (switch_view (drop i arms)) ≡ uses_of_block (stmts_view (out-Arm a).body) ++ uses_of_block (switch_view (drop (i + 1) arms))
uses_from arms i a l e = all_from uses_of_statement uses_of_block refl (λ s b. refl) (λ b spot l. refl) arms i a l e

pub declared_from : (arms : List Arm) (i : ℕ) (a : Arm) → i < length arms → a ≡ get_or arms i a → declared_in_block (switch_view (drop i arms)) ≡ declared_in_block (stmts_view (out-Arm a).body) ++ declared_in_block (switch_view (drop (i + 1) arms))
declared_from arms i a l e = all_from declared_in declared_in_block refl (λ s b. refl) (λ b spot l. refl) arms i a l e

pub statements_from : (arms : List Arm) (i : ℕ) (a : Arm) → i < length arms → a ≡ get_or arms i a → statements_of_block (switch_view (drop i arms)) ≡ statements_of_block (stmts_view (out-Arm a).body) ++ statements_of_block (switch_view (drop (i + 1) arms))
statements_from arms i a l e = all_from statements_of statements_of_block refl (λ s b. refl) (λ b spot l. refl) arms i a l e
