-- Expressions that aren't refused are well typed.
use Rattle.std.proofs.Common.{◌≡◌, ℕ, zero, suc, drop, Bool, true, false, cond, not, pos, List, [], ◌∷◌, ◌++◌, length, nat_eq, arith, refl, sym, ap, ◌∙◌, subst, Option, Some, None, is_some, is_none}
use Rattle.std.proofs.lemmas.Bool.{false≢true}
use Rattle.std.proofs.lemmas.Bool.Decides.{nat_tests}
use Rattle.std.specs.List.{flat_map, list_all, slice_get}
use Rattle.c_core.specs.Types.{in_range, promote_of, common_of}
use Rattle.c_core.specs.Tree as t
use Rattle.c_core.specs.Parts.{type_of, exps_in, every_argument}
use Rattle.c_core.specs.Typing.{same_type, same_types, is_constant, has_value, are_values, is_scalar, is_element, is_unary, binary_type, is_binary, is_choice, is_cast, is_target, exp_fits, is_typed}
use Rattle.c_core.specs.declared.number.IntType.{IntType}
use Rattle.c_core.specs.declared.number.DataModel.{DataModel}
use Rattle.c_core.specs.declared.number.Spot.{Spot}
use Rattle.c_core.specs.declared.number.BinOp.{BinOp}
use Rattle.c_core.specs.declared.number.UnOp.{UnOp}
use Rattle.c_core.specs.declared.number.UnOp.TheVariants.{Plus, Neg, BitNot, Not}
use Rattle.c_parser.specs.Tree as raw
use Rattle.c_parser.specs.Tree.{Exp, Expr, Node, Number, Char, Var, Index, Unary, Cast, Step, Binary, Logic, Choose, Comma, Assign, Call, Exps, NoExp, MoreExp}
use Rattle.check_rules.specs.Constants.{ranks, of_rank, first_that_holds, constant_type, valued}
use Rattle.check_rules.specs.Names as kind
use Rattle.check_rules.specs.Names.{Kind, Entry, named}
use Rattle.check_rules.specs.Typed.{typed, typed_node, typed_all, number_named, type_named, unary_type, choice_type}
use Rattle.check_rules.specs.Parts.{Role, Value, Target, Effect, Part, Expression, of_cast, parts, parts_in, parts_of, bodies_of}
use Rattle.check_rules.specs.Codes.{is_among, count, is_no_scalar, is_no_element, is_one_void}
use Rattle.check_wellformed.proofs.Lists.{AllOf, both, all_front, all_behind, first_fails, second_fails}
use Rattle.check_wellformed.proofs.Entries.{AreAgreed, same_type-refl, same_types-refl}
use Rattle.check_wellformed.proofs.Known.{IsThere}
use Rattle.check_wellformed.proofs.Good.{IsGood, IsCalled, If, IsObject, named_object, value_of_part, target_of_part}
use Rattle.check_wellformed.proofs.Calls.{argument_count, argument_values, call_fits}

-- ---- constants

IsOperated : IntType → Type 0
IsOperated ty = same_type ty (promote_of ty) ≡ true

holding_by : (m : DataModel) (v : ℕ) (ty : IntType) (o : Option IntType) (b : Bool) → in_range m ty (pos v) ≡ b → IsOperated ty → (is_none o ≡ false → is_constant m (Some (valued o)) (pos v) ≡ true) → is_none (cond b (Some ty) o) ≡ false → is_constant m (Some (valued (cond b (Some ty) o))) (pos v) ≡ true
unfolding IsOperated
holding_by m v ty o true e h k n = both h e
holding_by m v ty o false e h k n = k n

holding : (m : DataModel) (v : ℕ) (tys : List IntType) → AllOf IsOperated tys → is_none (first_that_holds m v tys) ≡ false → is_constant m (Some (valued (first_that_holds m v tys))) (pos v) ≡ true
holding m v [] h n = absurd (false≢true (sym n))
holding m v (ty ∷ tys) h n = holding_by m v ty (first_that_holds m v tys) (in_range m ty (pos v)) refl h.0 (holding m v tys h.1) n

none_left : (decimal unsigned : Bool) (n : ℕ) → AllOf IsOperated (flat_map (of_rank decimal unsigned) (drop n []))
none_left decimal unsigned zero = tt
none_left decimal unsigned (suc n) = tt

ranks_operated : (decimal unsigned : Bool) (longs : ℕ) → AllOf IsOperated (flat_map (of_rank decimal unsigned) (drop longs ranks))
unfolding IsOperated
ranks_operated true true zero = (refl, (refl, (refl, tt)))
ranks_operated true true (suc zero) = (refl, (refl, tt))
ranks_operated true true (suc (suc zero)) = (refl, tt)
ranks_operated true true (suc (suc (suc n))) = none_left true true n
ranks_operated true false zero = (refl, (refl, (refl, tt)))
ranks_operated true false (suc zero) = (refl, (refl, tt))
ranks_operated true false (suc (suc zero)) = (refl, tt)
ranks_operated true false (suc (suc (suc n))) = none_left true false n
ranks_operated false true zero = (refl, (refl, (refl, tt)))
ranks_operated false true (suc zero) = (refl, (refl, tt))
ranks_operated false true (suc (suc zero)) = (refl, tt)
ranks_operated false true (suc (suc (suc n))) = none_left false true n
ranks_operated false false zero = (refl, (refl, (refl, (refl, (refl, (refl, tt))))))
ranks_operated false false (suc zero) = (refl, (refl, (refl, (refl, tt))))
ranks_operated false false (suc (suc zero)) = (refl, (refl, tt))
ranks_operated false false (suc (suc (suc n))) = none_left false false n

number_is : (m : DataModel) (v : ℕ) (decimal unsigned : Bool) (longs : ℕ) → is_none (constant_type m v decimal unsigned longs) ≡ false → is_constant m (Some (valued (constant_type m v decimal unsigned longs))) (pos v) ≡ true
number_is m v decimal unsigned longs n = holding m v _ (ranks_operated decimal unsigned longs) n

-- ---- operators

operand : (o : Option IntType) → is_some o ≡ true → o ≡ Some (valued o)
operand None h = absurd (false≢true h)
operand (Some ty) h = refl

unary_is : (op : UnOp) (o : Option IntType) → is_some o ≡ true → is_unary op (Some (unary_type op (valued o))) o ≡ true
unary_is op None h = absurd (false≢true h)
unary_is Plus (Some ty) h = same_type-refl (promote_of ty)
unary_is Neg (Some ty) h = same_type-refl (promote_of ty)
unary_is BitNot (Some ty) h = same_type-refl (promote_of ty)
unary_is Not (Some ty) h = refl

binary_is : (m : DataModel) (op : BinOp) (a b : Option IntType) → is_some a ≡ true → is_some b ≡ true → is_binary m op (Some (binary_type m op (valued a) (valued b))) a b ≡ true
binary_is m op None b h k = absurd (false≢true h)
binary_is m op (Some x) None h k = absurd (false≢true k)
binary_is m op (Some x) (Some y) h k = same_type-refl (binary_type m op x y)

choice_is : (m : DataModel) (a b : Option IntType) → is_one_void a b ≡ false → is_choice m (choice_type m a b) a b ≡ true
choice_is m None None h = refl
choice_is m None (Some y) h = absurd (false≢true (sym h))
choice_is m (Some x) None h = absurd (false≢true (sym h))
choice_is m (Some x) (Some y) h = same_type-refl (common_of m x y)

valued_is : (o : Option IntType) → is_some o ≡ true → same_types o (Some (valued o)) ≡ true
valued_is None h = absurd (false≢true h)
valued_is (Some ty) h = same_type-refl ty

-- ---- objects

abbrev is_array_of : ℕ → Bool
is_array_of dims = not (nat_eq dims 0)

-- as many indexes as dimensions
as_many : (dims m n : ℕ) → m ≡ n → not (nat_eq dims n) ≡ false → nat_eq m dims ≡ true
as_many dims m n e h = grind (arith, nat_tests)

module _ (p : t.Program) (items : List raw.Item) (entries : List Entry) where
  scalar_there : (n : ℕ) (ty : IntType) (dims : ℕ) (fixed : Bool) → IsThere p.objects n ty dims fixed → not (nat_eq dims 0) ≡ false → is_scalar (Some ty) (slice_get p.objects n) ≡ true
  scalar_there n ty dims fixed h e =
      rw h.at (both (ap not (ap (λ d. not (nat_eq d 0)) h.dims ∙ e)) (subst (λ x. same_type x ty ≡ true) (sym h.type) (same_type-refl ty)))

  element_there : (n : ℕ) (ty : IntType) (dims : ℕ) (fixed : Bool) (is : t.Exps) → IsThere p.objects n ty dims fixed → is_array_of dims ≡ true → are_values dims is ≡ true → is_element (Some ty) is (slice_get p.objects n) ≡ true
  element_there n ty dims fixed is h e v =
      rw h.at (both (ap is_array_of h.dims ∙ e) (both (ap (λ d. are_values d is) h.dims ∙ v) (subst (λ x. same_type x ty ≡ true) (sym h.type) (same_type-refl ty))))

  scalar_named : (o : Option Kind) → If (IsObject p items entries) o → is_none o ≡ false → is_no_scalar o ≡ false → is_scalar (Some (type_named o)) (slice_get p.objects (number_named o)) ≡ true
  scalar_named None h n s = absurd (false≢true (sym n))
  scalar_named (Some (kind.Object k ty dims fixed)) h n s = scalar_there k ty dims fixed h s
  scalar_named (Some (kind.Function result stated has_body)) h n s = absurd (false≢true (sym s))
  scalar_named (Some kind.Closed) h n s = absurd (false≢true (sym s))

  element_named : (o : Option Kind) (is : t.Exps) (n : ℕ) → If (IsObject p items entries) o → is_none o ≡ false → is_no_element n o ≡ false → length (exps_in is) ≡ n → list_all has_value (exps_in is) ≡ true
      → is_element (Some (type_named o)) is (slice_get p.objects (number_named o)) ≡ true
  element_named None is n h k s e v = absurd (false≢true (sym k))
  element_named (Some (kind.Object o ty dims fixed)) is n h k s e v =
      element_there o ty dims fixed is h (ap not (first_fails (nat_eq dims 0) _ s)) (both (as_many dims (length (exps_in is)) n e (second_fails (nat_eq dims 0) _ s)) v)
  element_named (Some (kind.Function result stated has_body)) is n h k s e v = absurd (false≢true (sym s))
  element_named (Some kind.Closed) is n h k s e v = absurd (false≢true (sym s))

  -- ---- expressions

  module _ (agreed : AreAgreed entries) (functions : (f : List ℕ) → is_among (bodies_of items) f ≡ true → IsCalled p items entries f) where
    abbrev Goods : List Part → Type 0
    Goods ps = AllOf (IsGood p items entries) ps

    abbrev as_typed : List Entry → Exp → t.Exp
    as_typed es e = typed p.model (bodies_of items) es e

    of_cast_fits : (es : List Entry) (to : Option IntType) (a : Exp) → Goods (parts es (of_cast to) a) → is_cast to (as_typed es a) ≡ true
    of_cast_fits es None a h = refl
    of_cast_fits es (Some ty) a h = value_of_part p items entries es a h

    target_type : (es : List Entry) (a : Exp) → is_target (as_typed es a) ≡ true → is_some (type_of (as_typed es a)) ≡ true
    target_type es (Expr q (Var x w)) h = refl
    target_type es (Expr q (Index x w is)) h = refl
    target_type es (Expr q (Number v decimal unsigned longs)) h = refl
    target_type es (Expr q (Char v)) h = refl
    target_type es (Expr q (Unary op a)) h = refl
    target_type es (Expr q (Cast to a)) h = absurd (false≢true h)
    target_type es (Expr q (Step op a)) h = refl
    target_type es (Expr q (Binary op a b)) h = refl
    target_type es (Expr q (Logic both' a b)) h = refl
    target_type es (Expr q (Choose mark e a b)) h = absurd (false≢true h)
    target_type es (Expr q (Comma a b)) h = absurd (false≢true h)
    target_type es (Expr q (Assign op a b)) h = refl
    target_type es (Expr q (Call f w gs close)) h = absurd (false≢true h)

    mutual
      pub typed_fits : (es : List Entry) (r : Role) (e : Exp) → Goods (parts es r e) → is_typed p (as_typed es e) ≡ true
      typed_fits es r (Expr q n) h = node_fits es r q n h.0 h.1

      node_fits : (es : List Entry) (r : Role) (q : Spot) (n : Node) → IsGood p items entries (Expression es r (Expr q n)) → Goods (parts_in es n) → is_typed p (typed_node p.model (bodies_of items) es q n) ≡ true
      node_fits es r q (Number v decimal unsigned longs) g h = both (number_is p.model v decimal unsigned longs (first_fails _ _ g.fair.typed)) refl
      node_fits es r q (Char v) g h = both g.character refl
      node_fits es r q (Var x w) g h = both (scalar_named (named es x) (named_object p items entries x es g.knows) g.fair.named (first_fails _ _ g.fair.typed)) refl
      node_fits es r q (Index x w is) g h =
          both (element_named (named es x) (typed_all p.model (bodies_of items) es is) (count is) (named_object p items entries x es g.knows) g.fair.named (first_fails _ _ g.fair.typed)
          (argument_count p items entries agreed functions es is) (argument_values p items entries agreed functions es is h))
          (arguments_fit es is h)
      node_fits es r q (Unary op a) g h = both (unary_is op (type_of (as_typed es a)) (value_of_part p items entries es a h)) (typed_fits es Value a h)
      node_fits es r q (Cast to a) g h = both (of_cast_fits es to a h) (typed_fits es (of_cast to) a h)
      node_fits es r q (Step op a) g h =
          let place = target_of_part p items entries es a h in
          both (both place (valued_is (type_of (as_typed es a)) (target_type es a place))) (typed_fits es Target a h)
      node_fits es r q (Binary op a b) g h =
          let ha = all_front (IsGood p items entries) (parts es Value a) _ h in
          let hb = all_behind (IsGood p items entries) (parts es Value a) _ h in
          both (binary_is p.model op (type_of (as_typed es a)) (type_of (as_typed es b)) (value_of_part p items entries es a ha) (value_of_part p items entries es b hb)) (both (typed_fits es Value a ha) (typed_fits es Value b hb))
      node_fits es r q (Logic both' a b) g h =
          let ha = all_front (IsGood p items entries) (parts es Value a) _ h in
          let hb = all_behind (IsGood p items entries) (parts es Value a) _ h in
          both (both (value_of_part p items entries es a ha) (both (value_of_part p items entries es b hb) refl)) (both (typed_fits es Value a ha) (typed_fits es Value b hb))
      node_fits es r q (Choose mark e a b) g h =
          let hea = all_front (IsGood p items entries) (parts es Value e ++ parts es Effect a) _ h in
          let hb = all_behind (IsGood p items entries) (parts es Value e ++ parts es Effect a) _ h in
          let he = all_front (IsGood p items entries) (parts es Value e) _ hea in
          let ha = all_behind (IsGood p items entries) (parts es Value e) _ hea in
          both (both (value_of_part p items entries es e he) (choice_is p.model (type_of (as_typed es a)) (type_of (as_typed es b)) (first_fails _ _ g.fair.typed)))
          (both (typed_fits es Value e he) (both (typed_fits es Effect a ha) (typed_fits es Effect b hb)))
      node_fits es r q (Comma a b) g h =
          let ha = all_front (IsGood p items entries) (parts es Effect a) _ h in
          let hb = all_behind (IsGood p items entries) (parts es Effect a) _ h in
          both (same_types-refl (type_of (as_typed es b))) (both (typed_fits es Effect a ha) (typed_fits es Effect b hb))
      node_fits es r q (Assign op a b) g h =
          let ha = all_front (IsGood p items entries) (parts es Target a) _ h in
          let hb = all_behind (IsGood p items entries) (parts es Target a) _ h in
          let place = target_of_part p items entries es a ha in
          both (both place (both (value_of_part p items entries es b hb) (both g.assignment (valued_is (type_of (as_typed es a)) (target_type es a place)))))
          (both (typed_fits es Target a ha) (typed_fits es Value b hb))
      node_fits es r q (Call f w gs close) g h = both (call_fits p items entries agreed functions es r q f w gs close g h) (arguments_fit es gs h)

      pub arguments_fit : (es : List Entry) (gs : Exps) → Goods (parts_of es gs) → every_argument (exp_fits p) (typed_all p.model (bodies_of items) es gs) ≡ true
      arguments_fit es NoExp h = refl
      arguments_fit es (MoreExp e gs) h =
          both (typed_fits es Value e (all_front (IsGood p items entries) (parts es Value e) _ h)) (arguments_fit es gs (all_behind (IsGood p items entries) (parts es Value e) _ h))
