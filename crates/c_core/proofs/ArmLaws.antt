-- What is listed of the arms of a switch, arm by arm.
use Rattle.std.proofs.Common.{◌≡◌, ℕ, suc, ◌+◌, ◌<◌, List, [], ◌∷◌, ◌++◌, length, drop, drop-cons, add-one, get_or, ap, ◌∙◌, append_assoc, sym}
use Rattle.c_core.specs.Tree.{Stm, Stms, NoStm, MoreStm, MoreCase}
use Rattle.c_core.specs.View.{joined, stmts_view, switch_view}
use Rattle.c_core.specs.declared.tree.Arm.{Arm, out-Arm}
use Rattle.c_core.proofs.View.{arm_views}

-- the item at an index, and those after it
pub item_first : {A : Type 0} (xs : List A) (i : ℕ) (x : A) → i < length xs → x ≡ get_or xs i x → drop i xs ≡ x ∷ drop (i + 1) xs
item_first xs i x inside is = drop-cons xs i x inside ∙ ap (λ y. y ∷ drop (suc i) xs) (sym is) ∙ ap (λ n. x ∷ drop n xs) (sym (add-one i))

-- the arms from one on: its label, its statements, the later arms
pub arms_from : (arms : List Arm) (i : ℕ) (a : Arm) → i < length arms → a ≡ get_or arms i a
    → switch_view (drop i arms) ≡ MoreCase (out-Arm a).spot (out-Arm a).label (joined (stmts_view (out-Arm a).body) (switch_view (drop (i + 1) arms)))
arms_from arms i a l e = ap switch_view (item_first arms i a l e) ∙ arm_views a (switch_view (drop (i + 1) arms))

-- a list of the parts of statements, of which labels have none
module _ {A : Type 0} (of : Stm → List A) (all : Stms → List A) (none : all NoStm ≡ []) (more : (s : Stm) (b : Stms) → all (MoreStm s b) ≡ of s ++ all b) (label : (b : Stms) (spot : _) (l : _) → all (MoreCase spot l b) ≡ all b) where
  pub all_joined : (b c : Stms) → all (joined b c) ≡ all b ++ all c
  all_joined NoStm c = ap (λ xs. xs ++ all c) (sym none)
  all_joined (MoreStm s b) c = more s (joined b c) ∙ ap (λ xs. of s ++ xs) (all_joined b c) ∙ sym (append_assoc (of s) (all b) (all c)) ∙ ap (λ xs. xs ++ all c) (sym (more s b))
  all_joined (MoreCase spot l b) c = label (joined b c) spot l ∙ all_joined b c ∙ ap (λ xs. xs ++ all c) (sym (label b spot l))

  -- of the arms from one on
  pub all_from : (arms : List Arm) (i : ℕ) (a : Arm) → i < length arms → a ≡ get_or arms i a
      → all (switch_view (drop i arms)) ≡ all (stmts_view (out-Arm a).body) ++ all (switch_view (drop (i + 1) arms))
  all_from arms i a l e =
      ap all (arms_from arms i a l e) ∙ label _ _ _ ∙ all_joined (stmts_view (out-Arm a).body) (switch_view (drop (i + 1) arms))
