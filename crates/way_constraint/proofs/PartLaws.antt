-- Where every word is an object, the refusals of an expression are those of types.
use Rattle.std.proofs.Common.{◌≡◌, ℕ, Bool, true, false, ◌||◌, ◌&&◌, List, ◌++◌, Option, Some, None, refl, ap, sym, ◌∙◌}
use Rattle.std.specs.List.{list_any}
use Rattle.std.proofs.lemmas.List.Folds.{list_any-append}
use Rattle.c_core.specs.declared.number.DataModel.{DataModel}
use Rattle.c_core.specs.declared.number.Spot.{Spot}
use Rattle.c_parser.specs.Formed.{every_node, every_part, every_argument}
use Rattle.c_parser.specs.Tree.{Exp, Expr, Node, Number, Char, Var, Index, Unary, Cast, Step, Binary, Logic, Choose, Comma, Assign, Call, Exps, NoExp, MoreExp, Item}
use Rattle.check_rules.specs.Names.{Entry, named}
use Rattle.check_rules.specs.Parts.{Role, Value, Target, Effect, Part, Expression, of_cast, parts, parts_in, parts_of}
use Rattle.check_rules.specs.Codes.{word_of, names_nothing, calls_bodiless, mistyped, is_bodiless}
use Rattle.way_constraint.specs.Known.{stands_for_object, word_is_object}
use Rattle.way_constraint.proofs.NameLaws.{object_named, object_uncalled}
use Rattle.way_constraint.proofs.NoteLaws.{refused}

pub left_of : (a b : Bool) → (a && b) ≡ true → a ≡ true
left_of true b h = refl
left_of false b h = h

pub right_of : (a b : Bool) → (a && b) ≡ true → b ≡ true
right_of true b h = h
right_of false b h = cc

alone : (b : Bool) → (((((false || false) || b) || false) || false) || false) ≡ b
alone true = refl
alone false = refl

named_something : (es : List Entry) (n : Node) → stands_for_object es n ≡ true → names_nothing es (word_of n) ≡ false
unfolding stands_for_object
named_something es n h = by_word (word_of n) h
  where
    by_word : (w : Option (List ℕ)) → word_is_object es w ≡ true → names_nothing es w ≡ false
    by_word None h = refl
    by_word (Some x) h = object_named (named es x) h

module _ (m : DataModel) (items : List Item) (es : List Entry) where
  calls_none : (n : Node) → stands_for_object es n ≡ true → calls_bodiless m items es n ≡ false
  unfolding stands_for_object
  calls_none (Call f w gs close) h = ap (λ b. b && is_bodiless m items f) (object_uncalled (named es f) h)
  calls_none (Number v decimal unsigned longs) h = refl
  calls_none (Char v) h = refl
  calls_none (Var x w) h = refl
  calls_none (Index x w is) h = refl
  calls_none (Unary op a) h = refl
  calls_none (Cast to a) h = refl
  calls_none (Step op a) h = refl
  calls_none (Binary op a b) h = refl
  calls_none (Logic both a b) h = refl
  calls_none (Choose mark e a b) h = refl
  calls_none (Comma a b) h = refl
  calls_none (Assign op a b) h = refl

  own : (r : Role) (p : Spot) (n : Node) → stands_for_object es n ≡ true → refused m items (Expression es r (Expr p n)) ≡ mistyped m items (Expression es r (Expr p n))
  own r p n h =
      let t = mistyped m items (Expression es r (Expr p n)) in
      ap (λ x. ((((x || false) || t) || false) || calls_bodiless m items es n) || false) (named_something es n h)
      ∙ ap (λ x. ((((false || false) || t) || false) || x) || false) (calls_none n h)
      ∙ alone t

  -- two tests agree on two lists
  abbrev Agree : List Part → Type 0
  Agree ps = list_any (refused m items) ps ≡ list_any (mistyped m items) ps

  agree_both : (ps qs : List Part) → Agree ps → Agree qs → Agree (ps ++ qs)
  agree_both ps qs e f =
      list_any-append (refused m items) ps qs
      ∙ ap (λ x. x || list_any (refused m items) qs) e
      ∙ ap (λ x. list_any (mistyped m items) ps || x) f
      ∙ sym (list_any-append (mistyped m items) ps qs)

  abbrev stands : Node → Bool
  stands n = stands_for_object es n

  abbrev stand : Exp → Bool
  stand e = every_node stands e

  agree_two : (r t : Role) (a b : Exp) → (stand a ≡ true → Agree (parts es r a)) → (stand b ≡ true → Agree (parts es t b)) → (stand a && stand b) ≡ true → Agree (parts es r a ++ parts es t b)
  agree_two r t a b x y h = agree_both (parts es r a) (parts es t b) (x (left_of (stand a) _ h)) (y (right_of (stand a) _ h))

  mutual
    pub refused_by_types : (r : Role) (e : Exp) → stand e ≡ true → Agree (parts es r e)
    refused_by_types r (Expr p n) h =
        ap (λ x. x || list_any (refused m items) (parts_in es n)) (own r p n (left_of (stands n) _ h))
        ∙ ap (λ x. mistyped m items (Expression es r (Expr p n)) || x) (in_node n (right_of (stands n) _ h))

    in_node : (n : Node) → every_part stands n ≡ true → Agree (parts_in es n)
    in_node (Number v decimal unsigned longs) h = refl
    in_node (Char v) h = refl
    in_node (Var x w) h = refl
    in_node (Index x w is) h = in_arguments is h
    in_node (Unary op a) h = refused_by_types Value a h
    in_node (Cast to a) h = refused_by_types (of_cast to) a h
    in_node (Step op a) h = refused_by_types Target a h
    in_node (Binary op a b) h = agree_two Value Value a b (refused_by_types Value a) (refused_by_types Value b) h
    in_node (Logic both a b) h = agree_two Value Value a b (refused_by_types Value a) (refused_by_types Value b) h
    in_node (Choose mark e a b) h =
        let k = right_of (stand e) _ h in
        agree_both (parts es Value e ++ parts es Effect a) (parts es Effect b)
        (agree_both (parts es Value e) (parts es Effect a) (refused_by_types Value e (left_of (stand e) _ h)) (refused_by_types Effect a (left_of (stand a) _ k)))
        (refused_by_types Effect b (right_of (stand a) _ k))
    in_node (Comma a b) h = agree_two Effect Effect a b (refused_by_types Effect a) (refused_by_types Effect b) h
    in_node (Assign op a b) h = agree_two Target Value a b (refused_by_types Target a) (refused_by_types Value b) h
    in_node (Call f w gs close) h = in_arguments gs h

    in_arguments : (gs : Exps) → every_argument stands gs ≡ true → Agree (parts_of es gs)
    in_arguments NoExp h = refl
    in_arguments (MoreExp e gs) h =
        agree_both (parts es Value e) (parts_of es gs) (refused_by_types Value e (left_of (stand e) _ h)) (in_arguments gs (right_of (stand e) _ h))
