-- Of the names in scope an expression reads no more than what they make of its words.
use Rattle.std.proofs.Common.{◌≡◌, ℕ, Bool, true, ◌||◌, ◌&&◌, List, [], ◌++◌, Option, Some, None, is_none, refl, ap, sym, ◌∙◌}
use Rattle.std.specs.List.{list_any}
use Rattle.std.proofs.lemmas.List.Folds.{list_any-append}
use Rattle.c_core.specs.Tree as t
use Rattle.c_core.specs.Parts.{type_of}
use Rattle.c_core.specs.Typing.{binary_type}
use Rattle.c_core.specs.declared.number.DataModel.{DataModel}
use Rattle.c_core.specs.declared.number.IntType.TheVariants.{Int}
use Rattle.c_core.specs.declared.number.Spot.{Spot}
use Rattle.c_core.specs.declared.tree.Callee.{Callee}
use Rattle.c_parser.specs.Formed.{every_node, every_part, every_argument}
use Rattle.c_parser.specs.Tree.{Exp, Expr, Node, Number, Char, Var, Index, Unary, Cast, Step, Binary, Logic, Choose, Comma, Assign, Call, Exps, NoExp, MoreExp}
use Rattle.check_rules.specs.Codes.{word_of, mistyped, misused, miscalled, unfit, count, count_for, count_stated, count_defined, or_else, is_not, is_no_scalar, is_no_element, is_one_void}
use Rattle.check_rules.specs.Constants.{valued}
use Rattle.check_rules.specs.Names.{Kind, Object, Function, Closed, Entry, named, built_in, is_function}
use Rattle.check_rules.specs.Parts.{Role, Value, Target, Effect, Part, Expression, of_cast, parts, parts_in, parts_of}
use Rattle.check_rules.specs.Typed.{typed, typed_node, typed_all, type_named, number_named, result_named, unary_type, choice_type, callee_for}
use Rattle.way_constraint.specs.Constraints.{is_among, in_scope, is_refused}
use Rattle.way_constraint.specs.Words.{passes}
use Rattle.way_constraint.proofs.PartLaws.{left_of, right_of}

two : {A B C : Type 0} (f : A → B → C) {a a' : A} {b b' : B} → a ≡ a' → b ≡ b' → f a b ≡ f a' b'
two f e h = cc

three : {A B C D : Type 0} (f : A → B → C → D) {a a' : A} {b b' : B} {c c' : C} → a ≡ a' → b ≡ b' → c ≡ c' → f a b c ≡ f a' b' c'
three f e h k = cc

-- ---- two tests of nodes

module _ (reads q q' : Node → Bool) (same : (n : Node) → reads n ≡ true → q n ≡ q' n) where
  abbrev read : Exp → Bool
  read e = every_node reads e

  both_same : (a b : Exp) → (read a ≡ true → every_node q a ≡ every_node q' a) → (read b ≡ true → every_node q b ≡ every_node q' b) → (read a && read b) ≡ true
      → (every_node q a && every_node q b) ≡ (every_node q' a && every_node q' b)
  both_same a b x y h = two (λ c d. c && d) (x (left_of (read a) _ h)) (y (right_of (read a) _ h))

  mutual
    pub every_same : (e : Exp) → every_node reads e ≡ true → every_node q e ≡ every_node q' e
    every_same (Expr p n) h = two (λ c d. c && d) (same n (left_of (reads n) _ h)) (same_in n (right_of (reads n) _ h))

    same_in : (n : Node) → every_part reads n ≡ true → every_part q n ≡ every_part q' n
    same_in (Number v decimal unsigned longs) h = refl
    same_in (Char v) h = refl
    same_in (Var x w) h = refl
    same_in (Index x w is) h = same_arguments is h
    same_in (Unary op a) h = every_same a h
    same_in (Cast to a) h = every_same a h
    same_in (Step op a) h = every_same a h
    same_in (Binary op a b) h = both_same a b (every_same a) (every_same b) h
    same_in (Logic both' a b) h = both_same a b (every_same a) (every_same b) h
    same_in (Choose mark e a b) h = two (λ c d. c && d) (every_same e (left_of (read e) _ h)) (both_same a b (every_same a) (every_same b) (right_of (read e) _ h))
    same_in (Comma a b) h = both_same a b (every_same a) (every_same b) h
    same_in (Assign op a b) h = both_same a b (every_same a) (every_same b) h
    same_in (Call f w gs close) h = same_arguments gs h

    same_arguments : (gs : Exps) → every_argument reads gs ≡ true → every_argument q gs ≡ every_argument q' gs
    same_arguments NoExp h = refl
    same_arguments (MoreExp e gs) h = two (λ c d. c && d) (every_same e (left_of (read e) _ h)) (same_arguments gs (right_of (read e) _ h))

-- ---- two lists of names that make the same of the words of a test

module _ (m : DataModel) (w : List ℕ → Bool) (es es' : List Entry) (same : (x : List ℕ) → w x ≡ true → named es x ≡ named es' x)
    (stated : (x : List ℕ) → w x ≡ true → count_stated es x ≡ count_stated es' x) where
  abbrev known : Node → Bool
  known n = passes w (word_of n)

  abbrev knows : Exp → Bool
  knows e = every_node known e

  mutual
    pub same_typed : (e : Exp) → every_node known e ≡ true → typed m [] es e ≡ typed m [] es' e
    same_typed (Expr p n) h = same_node p n (left_of (known n) _ h) (right_of (known n) _ h)

    same_node : (p : Spot) (n : Node) → known n ≡ true → every_part known n ≡ true → typed_node m [] es p n ≡ typed_node m [] es' p n
    same_node p (Number v decimal unsigned longs) k h = refl
    same_node p (Char v) k h = refl
    same_node p (Var x v) k h = ap (λ o. t.Expr p (Some (type_named o)) (t.Var (number_named o))) (same x k)
    same_node p (Index x v is) k h = two (λ o gs. t.Expr p (Some (type_named o)) (t.Index (number_named o) gs)) (same x k) (same_all is h)
    same_node p (Unary op a) k h = ap (λ x. t.Expr p (Some (unary_type op (valued (type_of x)))) (t.Unary op x)) (same_typed a h)
    same_node p (Cast to a) k h = ap (λ x. t.Expr p to (t.Cast x)) (same_typed a h)
    same_node p (Step op a) k h = ap (λ x. t.Expr p (Some (valued (type_of x))) (t.Step op x)) (same_typed a h)
    same_node p (Binary op a b) k h =
        two (λ x y. t.Expr p (Some (binary_type m op (valued (type_of x)) (valued (type_of y)))) (t.Binary op x y))
        (same_typed a (left_of (knows a) _ h)) (same_typed b (right_of (knows a) _ h))
    same_node p (Logic both' a b) k h =
        two (λ x y. t.Expr p (Some Int) (t.Logic both' x y)) (same_typed a (left_of (knows a) _ h)) (same_typed b (right_of (knows a) _ h))
    same_node p (Choose mark e a b) k h =
        let g = right_of (knows e) _ h in
        three (λ z x y. t.Expr p (choice_type m (type_of x) (type_of y)) (t.Choose mark z x y))
        (same_typed e (left_of (knows e) _ h)) (same_typed a (left_of (knows a) _ g)) (same_typed b (right_of (knows a) _ g))
    same_node p (Comma a b) k h =
        two (λ x y. t.Expr p (type_of y) (t.Comma x y)) (same_typed a (left_of (knows a) _ h)) (same_typed b (right_of (knows a) _ h))
    same_node p (Assign op a b) k h =
        two (λ x y. t.Expr p (Some (valued (type_of x))) (t.Assign op x y)) (same_typed a (left_of (knows a) _ h)) (same_typed b (right_of (knows a) _ h))
    same_node p (Call f v gs close) k h = two (λ o xs. t.Expr p (result_named o) (t.Call (callee_for (is_function o) [] f) xs close)) (same f k) (same_all gs h)

    same_all : (gs : Exps) → every_argument known gs ≡ true → typed_all m [] es gs ≡ typed_all m [] es' gs
    same_all NoExp h = refl
    same_all (MoreExp e gs) h = two (λ x xs. t.MoreExp x xs) (same_typed e (left_of (knows e) _ h)) (same_all gs (right_of (knows e) _ h))

  counted_same : (f : List ℕ) (built : Option Callee) → count_stated es f ≡ count_stated es' f → count_for m [] built es f ≡ count_for m [] built es' f
  counted_same f None e = ap (λ c. or_else c (count_defined [] f)) e
  counted_same f (Some built) e = refl

  called_same : (f : List ℕ) (n : ℕ) (k : Option Kind) → count_stated es f ≡ count_stated es' f → miscalled m [] es f n k ≡ miscalled m [] es' f n k
  called_same f n None e = refl
  called_same f n (Some (Object o ty dims fixed)) e = refl
  called_same f n (Some (Function result types has_body)) e = ap (is_not n) (counted_same f (built_in f) e)
  called_same f n (Some Closed) e = ap (is_not n) (counted_same f (built_in f) e)

  same_misused : (n : Node) → known n ≡ true → every_part known n ≡ true → misused m [] es n ≡ misused m [] es' n
  same_misused (Number v decimal unsigned longs) k h = refl
  same_misused (Char v) k h = refl
  same_misused (Var x v) k h = ap is_no_scalar (same x k)
  same_misused (Index x v is) k h = ap (is_no_element (count is)) (same x k)
  same_misused (Unary op a) k h = refl
  same_misused (Cast to a) k h = refl
  same_misused (Step op a) k h = refl
  same_misused (Binary op a b) k h = refl
  same_misused (Logic both' a b) k h = refl
  same_misused (Choose mark e a b) k h =
      let g = right_of (knows e) _ h in
      two (λ x y. is_one_void (type_of x) (type_of y)) (same_typed a (left_of (knows a) _ g)) (same_typed b (right_of (knows a) _ g))
  same_misused (Comma a b) k h = refl
  same_misused (Assign op a b) k h = refl
  same_misused (Call f v gs close) k h = called_same f (count gs) (named es f) (stated f k) ∙ ap (miscalled m [] es' f (count gs)) (same f k)

  same_unfit : (r : Role) (e : Exp) → knows e ≡ true → unfit m [] r es e ≡ unfit m [] r es' e
  same_unfit Value e h = ap (λ x. is_none (type_of x)) (same_typed e h)
  same_unfit Target (Expr p n) h = refl
  same_unfit Effect e h = refl

  own : (r : Role) (p : Spot) (n : Node) → knows (Expr p n) ≡ true → mistyped m [] (Expression es r (Expr p n)) ≡ mistyped m [] (Expression es' r (Expr p n))
  own r p n h = two (λ x y. x || y) (same_misused n (left_of (known n) _ h) (right_of (known n) _ h)) (same_unfit r (Expr p n) h)

  abbrev Alike : List Part → List Part → Type 0
  Alike ps qs = list_any (mistyped m []) ps ≡ list_any (mistyped m []) qs

  alike_both : (ps ps' qs qs' : List Part) → Alike ps ps' → Alike qs qs' → Alike (ps ++ qs) (ps' ++ qs')
  alike_both ps ps' qs qs' e f =
      list_any-append (mistyped m []) ps qs ∙ two (λ x y. x || y) e f ∙ sym (list_any-append (mistyped m []) ps' qs')

  alike_two : (r s : Role) (a b : Exp) → (knows a ≡ true → Alike (parts es r a) (parts es' r a)) → (knows b ≡ true → Alike (parts es s b) (parts es' s b)) → (knows a && knows b) ≡ true
      → Alike (parts es r a ++ parts es s b) (parts es' r a ++ parts es' s b)
  alike_two r s a b x y h = alike_both (parts es r a) (parts es' r a) (parts es s b) (parts es' s b) (x (left_of (knows a) _ h)) (y (right_of (knows a) _ h))

  mutual
    alike : (r : Role) (e : Exp) → every_node known e ≡ true → Alike (parts es r e) (parts es' r e)
    alike r (Expr p n) h = two (λ x y. x || y) (own r p n h) (alike_in n (right_of (known n) _ h))

    alike_in : (n : Node) → every_part known n ≡ true → Alike (parts_in es n) (parts_in es' n)
    alike_in (Number v decimal unsigned longs) h = refl
    alike_in (Char v) h = refl
    alike_in (Var x v) h = refl
    alike_in (Index x v is) h = alike_all is h
    alike_in (Unary op a) h = alike Value a h
    alike_in (Cast to a) h = alike (of_cast to) a h
    alike_in (Step op a) h = alike Target a h
    alike_in (Binary op a b) h = alike_two Value Value a b (alike Value a) (alike Value b) h
    alike_in (Logic both' a b) h = alike_two Value Value a b (alike Value a) (alike Value b) h
    alike_in (Choose mark e a b) h =
        let g = right_of (knows e) _ h in
        alike_both (parts es Value e ++ parts es Effect a) (parts es' Value e ++ parts es' Effect a) (parts es Effect b) (parts es' Effect b)
        (alike_both (parts es Value e) (parts es' Value e) (parts es Effect a) (parts es' Effect a) (alike Value e (left_of (knows e) _ h)) (alike Effect a (left_of (knows a) _ g)))
        (alike Effect b (right_of (knows a) _ g))
    alike_in (Comma a b) h = alike_two Effect Effect a b (alike Effect a) (alike Effect b) h
    alike_in (Assign op a b) h = alike_two Target Value a b (alike Target a) (alike Value b) h
    alike_in (Call f v gs close) h = alike_all gs h

    alike_all : (gs : Exps) → every_argument known gs ≡ true → Alike (parts_of es gs) (parts_of es' gs)
    alike_all NoExp h = refl
    alike_all (MoreExp e gs) h = alike_both (parts es Value e) (parts es' Value e) (parts_of es gs) (parts_of es' gs) (alike Value e (left_of (knows e) _ h)) (alike_all gs (right_of (knows e) _ h))

  pub same_refused : (e : Exp) → every_node known e ≡ true → is_refused m es e ≡ is_refused m es' e
  same_refused e h = alike Value e h

module _ (w : List ℕ → Bool) (es es' : List Entry) (among : (x : List ℕ) → w x ≡ true → is_among es (Some x) ≡ is_among es' (Some x)) where
  same_among : (x : Option (List ℕ)) → passes w x ≡ true → is_among es x ≡ is_among es' x
  same_among None h = refl
  same_among (Some x) h = among x h

  pub same_scope : (e : Exp) → every_node (λ n. passes w (word_of n)) e ≡ true → in_scope es e ≡ in_scope es' e
  same_scope e h = every_same (λ n. passes w (word_of n)) (λ n. is_among es (word_of n)) (λ n. is_among es' (word_of n)) (λ n k. same_among (word_of n) k) e h
