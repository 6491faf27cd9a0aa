-- One label more of an arm.
use Rattle.std.proofs.Common.{◌≡◌, ◌||◌, ◌++◌, ◌∷◌, [], Bool, true, false, cond, List, ℤ, Option, Ordering, Less, Equal, Greater, refl, ap, ◌∙◌}
use Rattle.std.specs.List.{list_any}
use Rattle.std.specs.Ordering.{int_cmp, int_eq, is_eq, ordering_reverse}
use Rattle.std.proofs.lemmas.Cmp.{int_cmp_total}
use Rattle.std.proofs.lemmas.List.Folds.{list_any-append}
use Rattle.c_core.specs.declared.tree.Label.{Label as ArmLabel}
use Rattle.check_rules.specs.Codes.{same_label}

reversed : (o : Ordering) → is_eq (ordering_reverse o) ≡ is_eq o
reversed Less = refl
reversed Equal = refl
reversed Greater = refl

same_both_ways : (c d : ℤ) → int_eq c d ≡ int_eq d c
same_both_ways c d = ap is_eq (int_cmp_total.antisymm c d) ∙ reversed (int_cmp d c)

pub constant_put : (c q : ℤ) (old : Bool) → cond (int_eq c q) true old ≡ (old || int_eq q c)
constant_put c q old = by_test (int_eq c q) old ∙ ap (λ b. old || b) (same_both_ways c q)
  where
    by_test : (b o : Bool) → cond b true o ≡ (o || b)
    by_test true true = refl
    by_test true false = refl
    by_test false true = refl
    by_test false false = refl

pub last_one : (b : Bool) → (b || false) ≡ b
last_one true = refl
last_one false = refl

pub one_more : (l : ArmLabel) (before : List (Option ArmLabel)) (x : Option ArmLabel)
    → list_any (same_label l) (before ++ x ∷ []) ≡ (list_any (same_label l) before || same_label l x)
one_more l before x = list_any-append (same_label l) before (x ∷ []) ∙ ap (λ b. list_any (same_label l) before || b) (last_one (same_label l x))

pub or_true : (b : Bool) → true ≡ (b || true)
or_true true = refl
or_true false = refl
