-- The labels of the arms of a switch: those of the first arm, then those of the others.
use Rattle.std.proofs.Common.{◌≡◌, ℕ, ◌+◌, ◌<◌, List, [], ◌∷◌, drop, get_or, length, refl, ap, ◌∙◌}
use Rattle.c_core.specs.Tree.{Stms}
use Rattle.c_core.specs.Typing.{labels_in}
use Rattle.c_core.specs.View.{joined, stmts_view, switch_view}
use Rattle.c_core.specs.declared.tree.Arm.{Arm, out-Arm}
use Rattle.c_core.specs.declared.tree.Stmt.{Stmt}
use Rattle.c_core.proofs.ArmLaws.{arms_from}

-- the statements of an arm hold no label of its switch
pub labels_behind : (body : List Stmt) (b : Stms) → labels_in (joined (stmts_view body) b) ≡ labels_in b
labels_behind [] b = refl
labels_behind (s ∷ body) b = labels_behind body b

pub labels_from : (arms : List Arm) (i : ℕ) (a : Arm) → i < length arms → a ≡ get_or arms i a
    → labels_in (switch_view (drop i arms)) ≡ (out-Arm a).label ∷ labels_in (switch_view (drop (i + 1) arms))
labels_from arms i a l e = ap labels_in (arms_from arms i a l e) ∙ ap (λ ls. (out-Arm a).label ∷ ls) (labels_behind (out-Arm a).body (switch_view (drop (i + 1) arms)))
