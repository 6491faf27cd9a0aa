-- The text that an input call comes back with a value is bound to a test that this value meets.
use Rattle.std.proofs.Common.{◌≡◌, ◌<◌, ◌≤◌, ◌-◌, ◌^◌, inl, inr, ◌∙◌, ℕ, zero, suc, ℤ, pos, negsuc, ◌≤ℤ◌, Bool, true, false, cond, nat_lt, List, [], ◌++◌, Some, Result, Ok, Err, codes, decimal, refl, sym, ap, subst, arith}
use Rattle.std.proofs.lemmas.Int.{ints}
use Rattle.std.proofs.lemmas.Bool.{false≢true}
use Rattle.std.proofs.lemmas.Bool.Decides.{Decides-int_eq, nat_tests}
use Rattle.c_core.specs.Operators.{truth}
use Rattle.c_core.specs.Tree.{Program}
use Rattle.c_core.specs.Types.{common_of, fit}
use Rattle.c_core.specs.declared.number.BinOp.TheVariants.{Eq}
use Rattle.c_core.specs.declared.number.DataModel.{DataModel}
use Rattle.c_core.specs.declared.number.IntType.{IntType}
use Rattle.c_meaning.specs.Objects.{type_of}
use Rattle.c_meaning.specs.Value.{and_then, is_true, wrapping}
use Rattle.c_parser.specs.Tree.{Exp}
use Rattle.c_parser.specs.Witness.{IsResultTest}
use Rattle.c_tokens.specs.declared.place.Place.{Place}
use Rattle.check_rules.specs.Typed.{typed}
use Rattle.way_bind.specs.Binding.{BindsTest}
use Rattle.way_bind.specs.declared.fault.Unbound.{Unbound}
use Rattle.way_bind.specs.declared.fault.Unbound.TheVariants.{NoPlace, Expression, Scope, OutOfMemory}
use Rattle.way_constraint.specs.Constraints.{in_scope, is_refused}
use Rattle.way_match.specs.Passing.{compared, constant_of, meets}
use Rattle.way_match.specs.Points.{ReturnTest}
use Rattle.author_binding.specs.ConstantTests.{IsEqualTo, IsTestFor}
use Rattle.wv_author.specs.Authored.{constant_text, result_text}
use Rattle.author_binding.proofs.ConstantTokens.{SpellsConstant, constant_place, least_spelled, least_tree, negative_spelled, negative_tree, number_spelled, number_tree, result_test, wide_spelled, zero_spelled}
use Rattle.author_binding.proofs.ConstantTypes.{breaks_none, least_fits, negative_fits, plain_fits, wide_fits, zero_fits}
use Rattle.author_binding.proofs.ConstantValues.{least_value, negative_value, number_value, value_in}

-- the text is a constant of this value alone, and it types
record IsConstant (v : ℤ) (text : List ℕ) : Type 0 where
  tree : Place → Exp
  spelled : SpellsConstant text tree
  scope : (at : Place) → in_scope [] (tree at) ≡ true
  fits : (m : DataModel) (at : Place) → breaks_none m (tree at)
  value : (p : Program) (at : Place) → value_in p (tree at) ≡ Some v

-- ---- the text of each value

-- below 2^63
plain : (n : ℕ) → n < 2 ^ 63 → IsConstant (pos n) (decimal n ++ [])
plain zero small = record {
  tree = number_tree 0 false false 0;
  spelled = zero_spelled;
  scope = λ at. refl;
  fits = zero_fits;
  value = λ p at. number_value p 0 false false 0 at;
}
plain (suc n) small = record {
  tree = number_tree (suc n) true false 0;
  spelled = number_spelled (suc n) (omega arith) (omega arith);
  scope = λ at. refl;
  fits = λ m at. plain_fits m (suc n) at small;
  value = λ p at. number_value p (suc n) true false 0 at;
}

-- from 2^63 on
wide : (n : ℕ) → 2 ^ 63 ≤ n → n < 2 ^ 64 → IsConstant (pos n) (decimal n ++ codes "ULL")
wide n large small = record {
  tree = number_tree n true true 2;
  spelled = wide_spelled n (omega arith) small;
  scope = λ at. refl;
  fits = λ m at. wide_fits m n at small;
  value = λ p at. number_value p n true true 2 at;
}

-- below 0
negative : (n : ℕ) → n < 2 ^ 63 - 1 → IsConstant (negsuc n) (codes "-" ++ decimal (suc n))
negative n small = record {
  tree = negative_tree (suc n);
  spelled = negative_spelled (suc n) (omega arith) (omega arith);
  scope = λ at. refl;
  fits = λ m at. negative_fits m (suc n) at (omega arith);
  value = λ p at. negative_value p n at (omega arith);
}

-- -2^63
least : IsConstant (negsuc 9223372036854775807) (codes "-9223372036854775807 - 1")
least = record {
  tree = least_tree;
  spelled = least_spelled;
  scope = λ at. refl;
  fits = least_fits;
  value = least_value;
}

not_below : (n k : ℕ) → k ≤ n → nat_lt n k ≡ false
not_below n k high = grind (arith, nat_tests)

natural : (n : ℕ) → n < 2 ^ 64 → (low : Bool) → nat_lt n (2 ^ 63) ≡ low →
    IsConstant (pos n) (decimal n ++ cond low [] (codes "ULL"))
natural n small true e = plain n (grind (arith, nat_tests))
natural n small false e = wide n (grind (arith, nat_tests)) small

below_zero : (n : ℕ) → n < 2 ^ 63 → (low : Bool) → nat_lt n (2 ^ 63 - 1) ≡ low →
    IsConstant (negsuc n) (cond low (codes "-" ++ decimal (suc n)) (codes "-9223372036854775807 - 1"))
below_zero n small true e = negative n (grind (arith, nat_tests))
below_zero n small false e =
    let only : 9223372036854775807 ≡ n = grind (arith, nat_tests) in
    subst (λ k. IsConstant (negsuc k) (codes "-9223372036854775807 - 1")) only least

is_constant : (v : ℤ) → negsuc (2 ^ 63 - 1) ≤ℤ v → v ≤ℤ pos (2 ^ 64 - 1) → IsConstant v (constant_text v)
is_constant (pos n) low high = natural n (omega (arith, ints)) (nat_lt n (2 ^ 63)) refl
is_constant (negsuc n) low high = below_zero n (omega (arith, ints)) (nat_lt n (2 ^ 63 - 1)) refl

-- ---- what the text is bound to

never : (b : Bool) → b ≡ true → b ≡ false → ⊥
never b h k = false≢true (sym k ∙ h)

-- both sides are converted to one type
compared_same : (m : DataModel) (a b : IntType) (v : ℤ) → is_true (wrapping (compared m Eq a v b v)) ≡ true
compared_same m a b v =
    let x = fit m (common_of m a b) v in
    ap (λ same. is_true (wrapping (truth same))) ((Decides-int_eq x x).1 refl)

equal_met : (p : Program) (v : ℤ) (t : ReturnTest) → Eq ≡ t.op → constant_of p t.constant ≡ Some v →
    (ty : IntType) → meets p t ty v ≡ true
equal_met p v t same value ty =
    ap (λ o. is_true (and_then o (λ w. wrapping (compared p.model t.op ty v (type_of t.constant) w)))) value
    ∙ ap (λ o. is_true (wrapping (compared p.model o ty v (type_of t.constant) v))) (sym same)
    ∙ compared_same p.model ty (type_of t.constant) v

module _ (p : Program) (v : ℤ) (h : IsConstant v (constant_text v)) where
  abbrev e : Exp
  e = h.tree constant_place

  spelled : IsResultTest (result_text v) Eq e
  unfolding result_text
  spelled = result_test (constant_text v) h.tree h.spelled

  test_is : (t : ReturnTest) → BindsTest p true (result_text v) (Ok t) → IsEqualTo p v t
  test_is t bound =
      let same = (bound.1).only Eq e spelled in
      let tree : t.constant ≡ typed p.model [] [] e = (bound.3).made ∙ ap (typed p.model [] []) (sym same.1) in
      let value : constant_of p t.constant ≡ Some v = ap (constant_of p) tree ∙ h.value p constant_place in
      record { compares = sym same.0; value = value; met = λ ty range. equal_met p v t same.0 value ty }

  test_stands : (lack : Unbound) → BindsTest p true (result_text v) (Err lack) → IsTestFor p v (Err lack)
  test_stands NoPlace bound = bound
  test_stands Expression (inl none) = none Eq e spelled
  test_stands Expression (inr bound) =
      let same : e ≡ bound.1 = ((bound.2).only Eq e spelled).1 in
      let refused : is_refused p.model [] e ≡ true = ap (is_refused p.model []) same ∙ (bound.4).typing in
      never (is_refused p.model [] e) refused (h.fits p.model constant_place)
  test_stands Scope bound =
      let same : e ≡ bound.1 = ((bound.2).only Eq e spelled).1 in
      elim (bound.3) [
        | inl none ↦ never true refl none
        | inr strange ↦ never (in_scope [] e) (h.scope constant_place) (ap (in_scope []) same ∙ strange)
      ]
  test_stands OutOfMemory bound = tt

  bound_to : (answer : Result ReturnTest Unbound) → BindsTest p true (result_text v) answer → IsTestFor p v answer
  bound_to (Ok t) bound = test_is t bound
  bound_to (Err lack) bound = test_stands lack bound

pub constant_bound : (p : Program) (v : ℤ) (answer : Result ReturnTest Unbound) →
    negsuc (2 ^ 63 - 1) ≤ℤ v → v ≤ℤ pos (2 ^ 64 - 1) → BindsTest p true (result_text v) answer → IsTestFor p v answer
constant_bound p v answer low high bound = bound_to p v (is_constant v low high) answer bound
