-- A walk over the arms of a switch, arm by arm.
use Rattle.std.proofs.Common.{◌≡◌, ℕ, ◌+◌, ◌<◌, refl, ap, ◌∙◌, List, length, drop, get_or, Option}
use Rattle.c_core.specs.Tree.{Stms, NoStm, MoreStm, MoreCase}
use Rattle.c_core.specs.Parts.{declared_by}
use Rattle.c_core.specs.View.{joined, stmts_view, switch_view}
use Rattle.c_core.specs.declared.tree.Arm.{Arm, out-Arm}
use Rattle.c_core.proofs.ArmLaws.{arms_from}
use Rattle.way_names.specs.Walk.{Walk, innermost, scope_behind, walked, walked_block, with_names}

walked_joined : (w : Walk) (scope : Option ℕ) (b c : Stms) → walked_block w scope (joined b c) ≡ walked_block (walked_block w scope b) (scope_behind w scope b) c
walked_joined w scope NoStm c = refl
walked_joined w scope (MoreStm s b) c = walked_joined (with_names (walked w scope s) scope (declared_by s)) (innermost (walked w scope s) scope (declared_by s)) b c
walked_joined w scope (MoreCase spot l b) c = walked_joined w scope b c

-- the arms from one on
pub walked_from : (w : Walk) (scope : Option ℕ) (arms : List Arm) (i : ℕ) (a : Arm) → i < length arms → a ≡ get_or arms i a
    → walked_block w scope (switch_view (drop i arms))
    ≡ walked_block (walked_block w scope (stmts_view (out-Arm a).body)) (scope_behind w scope (stmts_view (out-Arm a).body)) (switch_view (drop (i + 1) arms))
walked_from w scope arms i a l e = ap (walked_block w scope) (arms_from arms i a l e) ∙ walked_joined w scope (stmts_view (out-Arm a).body) (switch_view (drop (i + 1) arms))
