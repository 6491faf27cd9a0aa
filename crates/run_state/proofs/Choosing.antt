-- The labels of arms, looked at one after another.
use Rattle.std.proofs.Common.{◌≡◌, ℕ, suc, ◌+◌, ◌<◌, Bool, true, false, cond, ◌||◌, List, [], ◌∷◌, length, drop, get_or, refl, sym, ap, ◌∙◌, arith}
use Rattle.std.specs.List.{list_any}
use Rattle.c_core.specs.Tree.{Stms}
use Rattle.c_core.specs.Typing.{labels_in}
use Rattle.c_core.specs.View.{joined, stmts_view, switch_view}
use Rattle.c_core.specs.declared.tree.Arm.{Arm, out-Arm}
use Rattle.c_core.specs.declared.tree.Label.{Label}
use Rattle.c_core.specs.declared.tree.Stmt.{Stmt}
use Rattle.c_core.proofs.ArmLaws.{arms_from}
use Rattle.c_meaning.specs.Run.{first_label}

-- statements in front of arms have no labels
labels_behind : (body : List Stmt) (b : Stms) → labels_in (joined (stmts_view body) b) ≡ labels_in b
labels_behind [] b = refl
labels_behind (s ∷ body) b = labels_behind body b

-- the labels of the arms from one on
pub labels_from : (arms : List Arm) (i : ℕ) (a : Arm) → i < length arms → a ≡ get_or arms i a → labels_in (switch_view (drop i arms)) ≡ (out-Arm a).label ∷ labels_in (switch_view (drop (i + 1) arms))
labels_from arms i a l e = ap labels_in (arms_from arms i a l e) ∙ ap (λ ls. (out-Arm a).label ∷ ls) (labels_behind (stmts_view_of a) (switch_view (drop (i + 1) arms)))
  where
    stmts_view_of : Arm → List Stmt
    stmts_view_of a = (out-Arm a).body

-- of the labels of all arms the first i are not like that
pub record NoneBefore (q : Label → Bool) (arms : List Arm) (i : ℕ) : Type 0 where
  pub any : list_any q (labels_in (switch_view arms)) ≡ list_any q (labels_in (switch_view (drop i arms)))
  pub first : first_label q (labels_in (switch_view arms)) ≡ i + first_label q (labels_in (switch_view (drop i arms)))

module _ (q : Label → Bool) (arms : List Arm) (i : ℕ) (a : Arm) (inside : i < length arms) (here : a ≡ get_or arms i a) (before : NoneBefore q arms i) where
  pub none_yet : q (out-Arm a).label ≡ false → NoneBefore q arms (i + 1)
  none_yet f =
      let e = labels_from arms i a inside here in
      let rest = labels_in (switch_view (drop (i + 1) arms)) in
      let n : i + suc (first_label q rest) ≡ i + 1 + first_label q rest = omega arith in
      record {
        any = before.any ∙ ap (list_any q) e ∙ ap (λ b. b || list_any q rest) f;
        first = before.first ∙ ap (λ ls. i + first_label q ls) e ∙ ap (λ b. i + cond b 0 (suc (first_label q rest))) f ∙ n;
      }

  pub found_any : q (out-Arm a).label ≡ true → list_any q (labels_in (switch_view arms)) ≡ true
  found_any f = before.any ∙ ap (list_any q) (labels_from arms i a inside here) ∙ ap (λ b. b || list_any q (labels_in (switch_view (drop (i + 1) arms)))) f

  pub found_first : q (out-Arm a).label ≡ true → i ≡ first_label q (labels_in (switch_view arms))
  found_first f =
      let rest = labels_in (switch_view (drop (i + 1) arms)) in
      let n : i ≡ i + 0 = omega arith in
      n ∙ sym (before.first ∙ ap (λ ls. i + first_label q ls) (labels_from arms i a inside here) ∙ ap (λ b. i + cond b 0 (suc (first_label q rest))) f)
