-- The labels of the arms of a switch, arm by arm.
use Rattle.std.proofs.Common.{◌≡◌, ℕ, suc, ◌+◌, ◌<◌, List, [], ◌∷◌, ◌++◌, length, map, take, drop, get_or, refl, sym, ◌∙◌, ap, arith}
use Rattle.std.proofs.Math.Seq.{take-suc}
use Rattle.std.proofs.lemmas.List.{map-append}
use Rattle.c_core.specs.Tree.{Stms}
use Rattle.c_core.specs.Typing.{labels_in}
use Rattle.c_core.specs.View.{joined, stmts_view, switch_view}
use Rattle.c_core.specs.declared.tree.Arm.{Arm, out-Arm}
use Rattle.c_core.specs.declared.tree.Label.{Label as ArmLabel}
use Rattle.c_core.specs.declared.tree.Stmt.{Stmt}
use Rattle.c_core.proofs.ArmLaws.{item_first}
use Rattle.c_core.proofs.View.{arm_views}

abbrev pub label_of : Arm → ArmLabel
label_of a = (out-Arm a).label

-- the statements of an arm hold no label of its switch
labels_behind : (body : List Stmt) (b : Stms) → labels_in (joined (stmts_view body) b) ≡ labels_in b
labels_behind [] b = refl
labels_behind (s ∷ body) b = labels_behind body b

pub labels_are : (arms : List Arm) → labels_in (switch_view arms) ≡ map label_of arms
labels_are [] = refl
labels_are (a ∷ arms) =
    ap labels_in (arm_views a (switch_view arms)) ∙ ap (λ ls. label_of a ∷ ls) (labels_behind (out-Arm a).body (switch_view arms) ∙ labels_are arms)

module _ (arms : List Arm) (k : ℕ) (a : Arm) (h : k < length arms) (e : a ≡ get_or arms k a) where
  -- the arms before an index, and one more
  pub arms_more : take (k + 1) arms ≡ take k arms ++ a ∷ []
  arms_more = let n : k + 1 ≡ suc k = omega arith in ap (λ j. take j arms) n ∙ take-suc arms k a h ∙ ap (λ x. take k arms ++ x ∷ []) (sym e)

  pub labels_more : labels_in (switch_view (take (k + 1) arms)) ≡ labels_in (switch_view (take k arms)) ++ label_of a ∷ []
  labels_more = labels_are (take (k + 1) arms) ∙ ap (map label_of) arms_more ∙ map-append label_of (take k arms) (a ∷ []) ∙ ap (λ ls. ls ++ label_of a ∷ []) (sym (labels_are (take k arms)))

  -- the arms from an index on
  pub labels_from : labels_in (switch_view (drop k arms)) ≡ label_of a ∷ labels_in (switch_view (drop (k + 1) arms))
  labels_from = labels_are (drop k arms) ∙ ap (map label_of) (item_first arms k a h e) ∙ ap (λ ls. label_of a ∷ ls) (sym (labels_are (drop (k + 1) arms)))
