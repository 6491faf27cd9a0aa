-- Tests of parts, and of what the parts do.
use Rattle.std.proofs.Common.{◌≡◌, inl, inr, ℕ, ◌<◌, Bool, true, false, ◌||◌, cond, List, [], ◌∷◌, ◌++◌, Option, Some, None, refl, ap, sym, subst, ◌∙◌, arith}
use Rattle.std.specs.Prelude.{slice_get, nat_eq, nat_lt, is_some, ◌&&◌}
use Rattle.std.specs.List.{list_any}
use Rattle.std.proofs.lemmas.Bool.{false≢true, eqb-true}
use Rattle.std.proofs.lemmas.Bool.Decides.{nat_tests}
use Rattle.c_core.specs.declared.number.DataModel.{DataModel}
use Rattle.c_core.specs.declared.tree.Callee.{Callee}
use Rattle.c_core.specs.declared.tree.Callee.TheVariants as callee
use Rattle.c_core.specs.declared.tree.Object.{Object}
use Rattle.c_parser.specs.Tree as raw
use Rattle.c_parser.specs.Tree.{Exp, Expr, Node, Number, Char, Var, Index, Unary, Cast, Step, Binary, Logic, Choose, Comma, Assign, Call, Exps, NoExp, MoreExp}
use Rattle.check_rules.specs.Names as kind
use Rattle.check_rules.specs.Names.{Kind, Entry, named, is_function}
use Rattle.check_rules.specs.Typed.{callee_for, callee_of, no_object, number_named, typed}
use Rattle.check_rules.specs.Parts.{Value, Target, Effect as ForEffect, Part, Expression, Declaring, Naming, Initializing, Returning, Leaving, Labelling, bodies_of, ArmLabelling, CaseConstant}
use Rattle.check_rules.specs.Order as order
use Rattle.check_rules.specs.Order.{SomeOf, This, Other, is_object, is_static, has_number, calls_function}
use Rattle.check_sequencing.specs.declared.effect.Effect.{Effect}
use Rattle.check_sequencing.specs.declared.effect.Effect.TheVariants as does
use Rattle.check_sequencing.specs.Effects.{calls, changes, is_fixed, is_fixed_if, reads}
use Rattle.check_sequencing.specs.Typed.{on_call, on_object, own, to_object}
use Rattle.check_sequencing.proofs.MarkLaws.{either, or_left, or_right}
use Rattle.check_unsequenced.specs.PartEffects.{AreListed, AreListedParts, OnePart, HasStorage, IsListed, IsListedPart, count, effects_of_part, effects_of_parts, is_stored, node_of}

pub or_none : (b : Bool) → b ≡ (b || false)
or_none true = refl
or_none false = refl

pub any_append : (g : Effect → Bool) (xs ys : List Effect) → list_any g (xs ++ ys) ≡ (list_any g xs || list_any g ys)
any_append g [] ys = refl
any_append g (x ∷ xs) ys = either_way (g x) (list_any g xs) (list_any g ys) (list_any g (xs ++ ys)) (any_append g xs ys)
  where
    either_way : (a b c d : Bool) → d ≡ (b || c) → (a || d) ≡ ((a || b) || c)
    either_way true b c d e = refl
    either_way false b c d e = e

-- ---- the tests of one part

-- effects of an object of the list
module _ (objects : List Object) (n k : ℕ) where
  changed_there : (g : Option Object) → (is_some g ≡ true) → nat_eq n k ≡ list_any (changes k) (cond (is_some g) (does.Changes n ∷ []) [])
  changed_there None h = absurd (false≢true h)
  changed_there (Some o) h = or_none (nat_eq n k)

  read_there : (g : Option Object) → (is_some g ≡ true) → nat_eq n k ≡ list_any (reads k) (cond (is_some g) (does.Reads n ∷ []) [])
  read_there None h = absurd (false≢true h)
  read_there (Some o) h = or_none (nat_eq n k)

no_change_by_read : (b : Bool) (n k : ℕ) → list_any (changes k) (cond b (does.Reads n ∷ []) []) ≡ false
no_change_by_read true n k = refl
no_change_by_read false n k = refl

no_read_by_change : (b : Bool) (n k : ℕ) → list_any (reads k) (cond b (does.Changes n ∷ []) []) ≡ false
no_read_by_change true n k = refl
no_read_by_change false n k = refl

there_is : (fixed : Bool) (g : Option Object) → HasStorage fixed g → is_some g ≡ true
there_is fixed None h = absurd h
there_is fixed (Some o) h = refl

no_call_by : (stored b : Bool) (n k : ℕ) → list_any (calls k) (cond b (to_object stored n ∷ []) []) ≡ false
no_call_by true true n k = refl
no_call_by true false n k = refl
no_call_by false true n k = refl
no_call_by false false n k = refl

call_changes_nothing : (objects : List Object) (n k : ℕ) (c : Callee) → list_any (changes k) (on_call objects n c) ≡ false
call_changes_nothing objects n k (callee.Defined j) = none (nat_lt j n)
  where
    none : (b : Bool) → list_any (changes k) (cond b (does.Calls j ∷ []) []) ≡ false
    none true = refl
    none false = refl
call_changes_nothing objects n k (callee.Input ty) = refl
call_changes_nothing objects n k callee.ReachError = refl
call_changes_nothing objects n k callee.Abort = refl
call_changes_nothing objects n k callee.Exit = refl

call_reads_nothing : (objects : List Object) (n k : ℕ) (c : Callee) → list_any (reads k) (on_call objects n c) ≡ false
call_reads_nothing objects n k (callee.Defined j) = none (nat_lt j n)
  where
    none : (b : Bool) → list_any (reads k) (cond b (does.Calls j ∷ []) []) ≡ false
    none true = refl
    none false = refl
call_reads_nothing objects n k (callee.Input ty) = refl
call_reads_nothing objects n k callee.ReachError = refl
call_reads_nothing objects n k callee.Abort = refl
call_reads_nothing objects n k callee.Exit = refl

module _ (m : DataModel) (items : List raw.Item) (objects : List Object) (absent : slice_get objects no_object ≡ None) where
  abbrev bound : ℕ
  bound = count m items objects

  no_object_changed : (k : ℕ) → false ≡ list_any (changes k) (on_object objects bound true no_object)
  no_object_changed k = rw absent refl

  no_object_read : (k : ℕ) → false ≡ list_any (reads k) (on_object objects bound false no_object)
  no_object_read k = rw absent refl

  changed_object : (k : ℕ) (o : Option Kind) → IsListed objects o → is_object k o ≡ list_any (changes k) (on_object objects bound true (number_named o))
  changed_object k None h = no_object_changed k
  changed_object k (Some (kind.Object n ty dims fixed)) h = changed_there objects n k (slice_get objects n) (there_is fixed (slice_get objects n) h)
  changed_object k (Some (kind.Function result stated has_body)) h = no_object_changed k
  changed_object k (Some kind.Closed) h = no_object_changed k

  read_object : (k : ℕ) (o : Option Kind) → IsListed objects o → is_object k o ≡ list_any (reads k) (on_object objects bound false (number_named o))
  read_object k None h = no_object_read k
  read_object k (Some (kind.Object n ty dims fixed)) h = read_there objects n k (slice_get objects n) (there_is fixed (slice_get objects n) h)
  read_object k (Some (kind.Function result stated has_body)) h = no_object_read k
  read_object k (Some kind.Closed) h = no_object_read k

  -- what a part changes
  target_changes : (k : ℕ) (es : List Entry) (e : Exp) → AreListed objects es → order.changes (is_object k) (Expression es Target e) ≡ list_any (changes k) (effects_of_part m items objects (Expression es Target e))
  target_changes k es (Expr p (Var x w)) h = changed_object k (named es x) (h x)
  target_changes k es (Expr p (Index x w is)) h = changed_object k (named es x) (h x)
  target_changes k es (Expr p (Call f w gs close)) h = sym (call_changes_nothing objects bound k (callee_for (is_function (named es f)) (bodies_of items) f))
  target_changes k es (Expr p (Number v decimal unsigned longs)) h = refl
  target_changes k es (Expr p (Char v)) h = refl
  target_changes k es (Expr p (Unary op a)) h = refl
  target_changes k es (Expr p (Cast to a)) h = refl
  target_changes k es (Expr p (Step op a)) h = refl
  target_changes k es (Expr p (Binary op a b)) h = refl
  target_changes k es (Expr p (Logic both a b)) h = refl
  target_changes k es (Expr p (Choose mark e a b)) h = refl
  target_changes k es (Expr p (Comma a b)) h = refl
  target_changes k es (Expr p (Assign op a b)) h = refl

  value_changes_nothing : (k : ℕ) (es : List Entry) (e : Exp) → false ≡ list_any (changes k) (own objects bound false (node_of (typed m (bodies_of items) es e)))
  value_changes_nothing k es (Expr p (Var x w)) = sym (no_change_by_read (is_some (slice_get objects (number_named (named es x)))) (number_named (named es x)) k)
  value_changes_nothing k es (Expr p (Index x w is)) = sym (no_change_by_read (is_some (slice_get objects (number_named (named es x)))) (number_named (named es x)) k)
  value_changes_nothing k es (Expr p (Call f w gs close)) = sym (call_changes_nothing objects bound k (callee_for (is_function (named es f)) (bodies_of items) f))
  value_changes_nothing k es (Expr p (Number v decimal unsigned longs)) = refl
  value_changes_nothing k es (Expr p (Char v)) = refl
  value_changes_nothing k es (Expr p (Unary op a)) = refl
  value_changes_nothing k es (Expr p (Cast to a)) = refl
  value_changes_nothing k es (Expr p (Step op a)) = refl
  value_changes_nothing k es (Expr p (Binary op a b)) = refl
  value_changes_nothing k es (Expr p (Logic both a b)) = refl
  value_changes_nothing k es (Expr p (Choose mark e a b)) = refl
  value_changes_nothing k es (Expr p (Comma a b)) = refl
  value_changes_nothing k es (Expr p (Assign op a b)) = refl

  pub part_changes : (k : ℕ) (part : Part) → IsListedPart objects part → order.changes (is_object k) part ≡ list_any (changes k) (effects_of_part m items objects part)
  part_changes k (Expression es Target e) h = target_changes k es e h
  part_changes k (Expression es Value e) h = value_changes_nothing k es e
  part_changes k (Expression es ForEffect e) h = value_changes_nothing k es e
  part_changes k (Declaring fixed s d) h = refl
  part_changes k (Naming s e p) h = refl
  part_changes k (Initializing fixed s e) h = refl
  part_changes k (Returning ty p b) h = refl
  part_changes k (Leaving b p) h = refl
  part_changes k (Labelling ls l p) h = refl
  part_changes k (ArmLabelling before l p) h = refl
  part_changes k (CaseConstant es e) h = refl

  -- what a part reads
  target_reads_nothing : (k : ℕ) (es : List Entry) (e : Exp) → false ≡ list_any (reads k) (own objects bound true (node_of (typed m (bodies_of items) es e)))
  target_reads_nothing k es (Expr p (Var x w)) = sym (no_read_by_change (is_some (slice_get objects (number_named (named es x)))) (number_named (named es x)) k)
  target_reads_nothing k es (Expr p (Index x w is)) = sym (no_read_by_change (is_some (slice_get objects (number_named (named es x)))) (number_named (named es x)) k)
  target_reads_nothing k es (Expr p (Call f w gs close)) = sym (call_reads_nothing objects bound k (callee_for (is_function (named es f)) (bodies_of items) f))
  target_reads_nothing k es (Expr p (Number v decimal unsigned longs)) = refl
  target_reads_nothing k es (Expr p (Char v)) = refl
  target_reads_nothing k es (Expr p (Unary op a)) = refl
  target_reads_nothing k es (Expr p (Cast to a)) = refl
  target_reads_nothing k es (Expr p (Step op a)) = refl
  target_reads_nothing k es (Expr p (Binary op a b)) = refl
  target_reads_nothing k es (Expr p (Logic both a b)) = refl
  target_reads_nothing k es (Expr p (Choose mark e a b)) = refl
  target_reads_nothing k es (Expr p (Comma a b)) = refl
  target_reads_nothing k es (Expr p (Assign op a b)) = refl

  value_reads : (k : ℕ) (es : List Entry) (e : Exp) → AreListed objects es → order.reads (is_object k) (Expression es Value e) ≡ list_any (reads k) (effects_of_part m items objects (Expression es Value e))
  value_reads k es (Expr p (Var x w)) h = read_object k (named es x) (h x)
  value_reads k es (Expr p (Index x w is)) h = read_object k (named es x) (h x)
  value_reads k es (Expr p (Call f w gs close)) h = sym (call_reads_nothing objects bound k (callee_for (is_function (named es f)) (bodies_of items) f))
  value_reads k es (Expr p (Number v decimal unsigned longs)) h = refl
  value_reads k es (Expr p (Char v)) h = refl
  value_reads k es (Expr p (Unary op a)) h = refl
  value_reads k es (Expr p (Cast to a)) h = refl
  value_reads k es (Expr p (Step op a)) h = refl
  value_reads k es (Expr p (Binary op a b)) h = refl
  value_reads k es (Expr p (Logic both a b)) h = refl
  value_reads k es (Expr p (Choose mark e a b)) h = refl
  value_reads k es (Expr p (Comma a b)) h = refl
  value_reads k es (Expr p (Assign op a b)) h = refl

  pub part_reads : (k : ℕ) (part : Part) → IsListedPart objects part → order.reads (is_object k) part ≡ list_any (reads k) (effects_of_part m items objects part)
  part_reads k (Expression es Target e) h = target_reads_nothing k es e
  part_reads k (Expression es Value e) h = value_reads k es e h
  part_reads k (Expression es ForEffect (Expr p n)) h = value_reads k es (Expr p n) h
  part_reads k (Declaring fixed s d) h = refl
  part_reads k (Naming s e p) h = refl
  part_reads k (Initializing fixed s e) h = refl
  part_reads k (Returning ty p b) h = refl
  part_reads k (Leaving b p) h = refl
  part_reads k (Labelling ls l p) h = refl
  part_reads k (ArmLabelling before l p) h = refl
  part_reads k (CaseConstant es e) h = refl

-- ---- objects of static storage

module _ (objects : List Object) where
  storage_is : (fixed : Bool) (g : Option Object) → HasStorage fixed g → fixed ≡ is_fixed_if g
  storage_is fixed None h = absurd h
  storage_is fixed (Some o) h = sym h

  both_same : (a b c : Bool) → (a ≡ true → b ≡ c) → (a && b) ≡ (a && c)
  both_same true b c h = h refl
  both_same false b c h = refl

  static_object : (k : ℕ) (o : Option Kind) → IsListed objects o → is_static k o ≡ (is_object k o && is_fixed objects k)
  static_object k None h = refl
  static_object k (Some (kind.Object n ty dims fixed)) h =
      both_same (nat_eq n k) fixed (is_fixed objects k) (λ e. storage_is fixed (slice_get objects n) h ∙ ap (is_fixed objects) (eqb-true n k e))
  static_object k (Some (kind.Function result stated has_body)) h = refl
  static_object k (Some kind.Closed) h = refl

  named_listed : (es : List Entry) (n : Node) → AreListed objects es → IsListed objects (order.object_named es n)
  named_listed es (Var x w) h = h x
  named_listed es (Index x w is) h = h x
  named_listed es (Call f w gs close) h = refl
  named_listed es (Number v decimal unsigned longs) h = refl
  named_listed es (Char v) h = refl
  named_listed es (Unary op a) h = refl
  named_listed es (Cast to a) h = refl
  named_listed es (Step op a) h = refl
  named_listed es (Binary op a b) h = refl
  named_listed es (Logic both a b) h = refl
  named_listed es (Choose mark e a b) h = refl
  named_listed es (Comma a b) h = refl
  named_listed es (Assign op a b) h = refl

  pub static_changes : (k : ℕ) (part : Part) → IsListedPart objects part → order.changes (is_static k) part ≡ (order.changes (is_object k) part && is_fixed objects k)
  static_changes k (Expression es Target (Expr p n)) h = static_object k (order.object_named es n) (named_listed es n h)
  static_changes k (Expression es Value e) h = refl
  static_changes k (Expression es ForEffect e) h = refl
  static_changes k (Declaring fixed s d) h = refl
  static_changes k (Naming s e p) h = refl
  static_changes k (Initializing fixed s e) h = refl
  static_changes k (Returning ty p b) h = refl
  static_changes k (Leaving b p) h = refl
  static_changes k (Labelling ls l p) h = refl
  static_changes k (ArmLabelling before l p) h = refl
  static_changes k (CaseConstant es e) h = refl

  pub static_reads : (k : ℕ) (part : Part) → IsListedPart objects part → order.reads (is_static k) part ≡ (order.reads (is_object k) part && is_fixed objects k)
  static_reads k (Expression es Target e) h = refl
  static_reads k (Expression es Value (Expr p n)) h = static_object k (order.object_named es n) (named_listed es n h)
  static_reads k (Expression es ForEffect (Expr p n)) h = static_object k (order.object_named es n) (named_listed es n h)
  static_reads k (Declaring fixed s d) h = refl
  static_reads k (Naming s e p) h = refl
  static_reads k (Initializing fixed s e) h = refl
  static_reads k (Returning ty p b) h = refl
  static_reads k (Leaving b p) h = refl
  static_reads k (Labelling ls l p) h = refl
  static_reads k (ArmLabelling before l p) h = refl
  static_reads k (CaseConstant es e) h = refl

-- ---- calls

not_below : (j k n : ℕ) → nat_lt j n ≡ false → k < n → nat_eq j k ≡ false
not_below j k n h l = grind (arith, nat_tests)

below_itself : (n : ℕ) → nat_lt n n ≡ false
below_itself n = grind (arith, nat_tests)

below_if : (j n : ℕ) → nat_lt j n ≡ true → j < n
below_if j n h = grind (arith, nat_tests)

call_if_below : (j k n : ℕ) (b : Bool) → nat_lt j n ≡ b → k < n → nat_eq j k ≡ list_any (calls k) (cond b (does.Calls j ∷ []) [])
call_if_below j k n true e l = or_none (nat_eq j k)
call_if_below j k n false e l = not_below j k n e l

no_call_if : (j k : ℕ) (b : Bool) → b ≡ false → false ≡ list_any (calls k) (cond b (does.Calls j ∷ []) [])
no_call_if j k true e = absurd (false≢true (sym e))
no_call_if j k false e = refl

called_below : (j k n : ℕ) (b : Bool) → nat_lt j n ≡ b → list_any (calls k) (cond b (does.Calls j ∷ []) []) ≡ true → k < n
called_below j k n true e h = subst (λ x. x < n) (eqb-true j k (or_none (nat_eq j k) ∙ h)) (below_if j n e)
called_below j k n false e h = absurd (false≢true h)

module _ (m : DataModel) (items : List raw.Item) (objects : List Object) where
  abbrev many : ℕ
  many = count m items objects

  call_number : (k : ℕ) (c : Callee) → k < many → has_number k c ≡ list_any (calls k) (on_call objects many c)
  call_number k (callee.Defined j) l = call_if_below j k many (nat_lt j many) refl l
  call_number k (callee.Input ty) l = refl
  call_number k callee.ReachError l = refl
  call_number k callee.Abort l = refl
  call_number k callee.Exit l = refl

  call_of_function : (k : ℕ) (f : List ℕ) (b : Bool) → k < many → (b && has_number k (callee_of (bodies_of items) f)) ≡ list_any (calls k) (on_call objects many (callee_for b (bodies_of items) f))
  call_of_function k f true l = call_number k (callee_of (bodies_of items) f) l
  call_of_function k f false l = no_call_if many k (nat_lt many many) (below_itself many)

  pub part_calls : (k : ℕ) → k < many → (part : Part) → calls_function m items k part ≡ list_any (calls k) (effects_of_part m items objects part)
  part_calls k l (Expression es r (Expr p (Call f w gs close))) = call_of_function k f (is_function (named es f)) l
  part_calls k l (Expression es r (Expr p (Var x w))) = sym (no_call_by (is_stored r) (is_some (slice_get objects (number_named (named es x)))) (number_named (named es x)) k)
  part_calls k l (Expression es r (Expr p (Index x w is))) = sym (no_call_by (is_stored r) (is_some (slice_get objects (number_named (named es x)))) (number_named (named es x)) k)
  part_calls k l (Expression es r (Expr p (Number v decimal unsigned longs))) = refl
  part_calls k l (Expression es r (Expr p (Char v))) = refl
  part_calls k l (Expression es r (Expr p (Unary op a))) = refl
  part_calls k l (Expression es r (Expr p (Cast to a))) = refl
  part_calls k l (Expression es r (Expr p (Step op a))) = refl
  part_calls k l (Expression es r (Expr p (Binary op a b))) = refl
  part_calls k l (Expression es r (Expr p (Logic both a b))) = refl
  part_calls k l (Expression es r (Expr p (Choose mark e a b))) = refl
  part_calls k l (Expression es r (Expr p (Comma a b))) = refl
  part_calls k l (Expression es r (Expr p (Assign op a b))) = refl
  part_calls k l (Declaring fixed s d) = refl
  part_calls k l (Naming s e p) = refl
  part_calls k l (Initializing fixed s e) = refl
  part_calls k l (Returning ty p b) = refl
  part_calls k l (Leaving b p) = refl
  part_calls k l (Labelling ls x p) = refl
  part_calls k l (ArmLabelling before x p) = refl
  part_calls k l (CaseConstant es e) = refl

  callee_below : (k : ℕ) (c : Callee) → list_any (calls k) (on_call objects many c) ≡ true → k < many
  callee_below k (callee.Defined j) h = called_below j k many (nat_lt j many) refl h
  callee_below k (callee.Input ty) h = absurd (false≢true h)
  callee_below k callee.ReachError h = absurd (false≢true h)
  callee_below k callee.Abort h = absurd (false≢true h)
  callee_below k callee.Exit h = absurd (false≢true h)

  no_call_by_object : (k n : ℕ) (stored : Bool) → list_any (calls k) (on_object objects many stored n) ≡ true → k < many
  no_call_by_object k n stored h = absurd (false≢true (sym (no_call_by stored (is_some (slice_get objects n)) n k) ∙ h))

  -- only functions with a body are called
  part_call_below : (k : ℕ) (part : Part) → list_any (calls k) (effects_of_part m items objects part) ≡ true → k < many
  part_call_below k (Expression es r (Expr p (Call f w gs close))) h = callee_below k (callee_for (is_function (named es f)) (bodies_of items) f) h
  part_call_below k (Expression es r (Expr p (Var x w))) h = no_call_by_object k (number_named (named es x)) (is_stored r) h
  part_call_below k (Expression es r (Expr p (Index x w is))) h = no_call_by_object k (number_named (named es x)) (is_stored r) h
  part_call_below k (Expression es r (Expr p (Number v decimal unsigned longs))) h = absurd (false≢true h)
  part_call_below k (Expression es r (Expr p (Char v))) h = absurd (false≢true h)
  part_call_below k (Expression es r (Expr p (Unary op a))) h = absurd (false≢true h)
  part_call_below k (Expression es r (Expr p (Cast to a))) h = absurd (false≢true h)
  part_call_below k (Expression es r (Expr p (Step op a))) h = absurd (false≢true h)
  part_call_below k (Expression es r (Expr p (Binary op a b))) h = absurd (false≢true h)
  part_call_below k (Expression es r (Expr p (Logic both a b))) h = absurd (false≢true h)
  part_call_below k (Expression es r (Expr p (Choose mark e a b))) h = absurd (false≢true h)
  part_call_below k (Expression es r (Expr p (Comma a b))) h = absurd (false≢true h)
  part_call_below k (Expression es r (Expr p (Assign op a b))) h = absurd (false≢true h)
  part_call_below k (Declaring fixed s d) h = absurd (false≢true h)
  part_call_below k (Naming s e p) h = absurd (false≢true h)
  part_call_below k (Initializing fixed s e) h = absurd (false≢true h)
  part_call_below k (Returning ty p b) h = absurd (false≢true h)
  part_call_below k (Leaving b p) h = absurd (false≢true h)
  part_call_below k (Labelling ls l p) h = absurd (false≢true h)
  part_call_below k (ArmLabelling before l p) h = absurd (false≢true h)
  part_call_below k (CaseConstant es e) h = absurd (false≢true h)

  -- ---- lists of parts

  abbrev effs : List Part → List Effect
  effs ps = effects_of_parts m items objects ps

  abbrev eff : Part → List Effect
  eff p = effects_of_part m items objects p

  pub call_below : (k : ℕ) (ps : List Part) → list_any (calls k) (effs ps) ≡ true → k < many
  call_below k [] h = absurd (false≢true h)
  call_below k (p ∷ ps) h = elim (either (list_any (calls k) (eff p)) (list_any (calls k) (effs ps)) (sym (any_append (calls k) (eff p) (effs ps)) ∙ h)) as (λ _. k < many) [
    | inl a ↦ part_call_below k p a
    | inr b ↦ call_below k ps b
  ]

  module _ (f : Part → Bool) (g : Effect → Bool) (same : (p : Part) → IsListedPart objects p → f p ≡ list_any g (effects_of_part m items objects p)) where
    pub some_any : (ps : List Part) → AreListedParts objects ps → SomeOf f ps → list_any g (effs ps) ≡ true
    some_any [] h s = elim s [ ]
    some_any (p ∷ ps) (OnePart h hs) (This t) = any_append g (eff p) (effs ps) ∙ or_left (list_any g (eff p)) (list_any g (effs ps)) (sym (same p h) ∙ t)
    some_any (p ∷ ps) (OnePart h hs) (Other s) = any_append g (eff p) (effs ps) ∙ or_right (list_any g (eff p)) (list_any g (effs ps)) (some_any ps hs s)

    pub any_some : (ps : List Part) → AreListedParts objects ps → list_any g (effs ps) ≡ true → SomeOf f ps
    any_some [] h a = absurd (false≢true a)
    any_some (p ∷ ps) (OnePart h hs) a = elim (either (list_any g (eff p)) (list_any g (effs ps)) (sym (any_append g (eff p) (effs ps)) ∙ a)) as (λ _. SomeOf f (p ∷ ps)) [
      | inl x ↦ This (same p h ∙ x)
      | inr x ↦ Other (any_some ps hs x)
    ]
