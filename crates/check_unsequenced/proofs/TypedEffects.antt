-- What the parts of an expression do is what its typed tree does.
use Rattle.std.proofs.Common.{◌≡◌, Bool, true, false, List, ◌++◌, Some, None, refl, ap, ◌∙◌}
use Rattle.std.proofs.lemmas.Grind.{flat_map-append}
use Rattle.c_core.specs.declared.number.DataModel.{DataModel}
use Rattle.c_core.specs.declared.tree.Object.{Object}
use Rattle.c_parser.specs.Tree as raw
use Rattle.c_parser.specs.Tree.{Exp, Expr, Node, Number, Char, Var, Index, Unary, Cast, Step, Binary, Logic, Choose, Comma, Assign, Call, Exps, NoExp, MoreExp}
use Rattle.check_rules.specs.Names.{Entry}
use Rattle.check_rules.specs.Typed.{typed, typed_all}
use Rattle.check_rules.specs.Parts.{Value, Target, Effect as ForEffect, Role, Part, Expression, bodies_of, parts, parts_of}
use Rattle.check_sequencing.specs.declared.effect.Effect.{Effect}
use Rattle.check_sequencing.specs.Typed.{effects, effects_all}
use Rattle.check_unsequenced.specs.PartEffects.{count, effects_of_part, effects_of_parts, is_stored}

module _ (m : DataModel) (items : List raw.Item) (objects : List Object) (es : List Entry) where
  abbrev listed : List Part → List Effect
  listed ps = effects_of_parts m items objects ps

  abbrev done : Bool → Exp → List Effect
  done stored e = effects objects (count m items objects) stored (typed m (bodies_of items) es e)

  -- two parts, one behind the other
  pub two : (ps qs : List Part) (xs ys : List Effect) → listed ps ≡ xs → listed qs ≡ ys → listed (ps ++ qs) ≡ xs ++ ys
  two ps qs xs ys e f = flat_map-append (effects_of_part m items objects) ps qs ∙ ap (λ zs. zs ++ listed qs) e ∙ ap (λ zs. xs ++ zs) f

  abbrev mine : Role → Exp → List Effect
  mine r e = effects_of_part m items objects (Expression es r e)

  mutual
    pub effects_of_expression : (r : Role) (e : Exp) → listed (parts es r e) ≡ done (is_stored r) e
    effects_of_expression r (Expr p (Number v decimal unsigned longs)) = refl
    effects_of_expression r (Expr p (Char v)) = refl
    effects_of_expression r (Expr p (Var x w)) = refl
    effects_of_expression r (Expr p (Index x w is)) = ap (λ zs. mine r (Expr p (Index x w is)) ++ zs) (effects_of_all is)
    effects_of_expression r (Expr p (Unary op a)) = effects_of_expression Value a
    effects_of_expression r (Expr p (Cast None a)) = effects_of_expression ForEffect a
    effects_of_expression r (Expr p (Cast (Some ty) a)) = effects_of_expression Value a
    effects_of_expression r (Expr p (Step op a)) = effects_of_expression Target a
    effects_of_expression r (Expr p (Binary op a b)) = two (parts es Value a) (parts es Value b) (done false a) (done false b) (effects_of_expression Value a) (effects_of_expression Value b)
    effects_of_expression r (Expr p (Logic both a b)) = two (parts es Value a) (parts es Value b) (done false a) (done false b) (effects_of_expression Value a) (effects_of_expression Value b)
    effects_of_expression r (Expr p (Choose mark e a b)) =
        two (parts es Value e ++ parts es ForEffect a) (parts es ForEffect b) (done false e ++ done false a) (done false b)
        (two (parts es Value e) (parts es ForEffect a) (done false e) (done false a) (effects_of_expression Value e) (effects_of_expression ForEffect a)) (effects_of_expression ForEffect b)
    effects_of_expression r (Expr p (Comma a b)) = two (parts es ForEffect a) (parts es ForEffect b) (done false a) (done false b) (effects_of_expression ForEffect a) (effects_of_expression ForEffect b)
    effects_of_expression r (Expr p (Assign op a b)) = two (parts es Target a) (parts es Value b) (done true a) (done false b) (effects_of_expression Target a) (effects_of_expression Value b)
    effects_of_expression r (Expr p (Call f w gs close)) = ap (λ zs. mine r (Expr p (Call f w gs close)) ++ zs) (effects_of_all gs)

    pub effects_of_all : (gs : Exps) → listed (parts_of es gs) ≡ effects_all objects (count m items objects) (typed_all m (bodies_of items) es gs)
    effects_of_all NoExp = refl
    effects_of_all (MoreExp e gs) =
        two (parts es Value e) (parts_of es gs) (done false e) (effects_all objects (count m items objects) (typed_all m (bodies_of items) es gs)) (effects_of_expression Value e) (effects_of_all gs)
