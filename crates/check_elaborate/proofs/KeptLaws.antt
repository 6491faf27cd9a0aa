-- What is kept of the parts of expressions, declarators and initializers.
use Rattle.std.proofs.Common.{◌≡◌, ◌++◌, ◌-◌, ◌∷◌, [], ℕ, Bool, true, List, length, Option, Some, None, refl, ap, sym, ◌∙◌}
use Rattle.std.proofs.lemmas.List.{append-nil}
use Rattle.std.proofs.lemmas.Grind.{flat_map-append}
use Rattle.c_core.specs.declared.number.DataModel.{DataModel}
use Rattle.c_core.specs.Tree as typ
use Rattle.c_parser.specs.Tree as raw
use Rattle.c_parser.specs.Tree.{Exp, Expr, Node, Number, Char, Var, Index, Unary, Cast, Step, Binary, Logic, Choose, Comma, Assign, Call, Exps, NoExp, MoreExp, exps}
use Rattle.check_rules.specs.declared.fault.Refusal.{Refusal}
use Rattle.check_rules.specs.Kept.{Kept, kept, kept_of_part, kept_of_parts, kept_sizes}
use Rattle.check_rules.specs.Names.{Entry}
use Rattle.check_rules.specs.Noting.{noted_part, noted_parts}
use Rattle.check_rules.specs.Parts.{Part, Role, Value, Target, Effect, Declaring, Initializing, CaseConstant, of_cast, parts, parts_in, parts_of, parts_if, parts_of_value, bodies_of}
use Rattle.check_rules.specs.Scopes.{Scope, seen}
use Rattle.check_rules.specs.Typed.{typed}
use Rattle.check_elaborate.specs.Walks.{Found, found, with_parts, declarator}
use Rattle.check_elaborate.proofs.FoundLaws.{same_found}
use Rattle.check_elaborate.proofs.NotedLaws.{noted_behind}

module _ (m : DataModel) (bodies : List (List ℕ)) where
  neither : (ps qs : List Part) → kept_of_parts m bodies ps ≡ [] → kept_of_parts m bodies qs ≡ [] → kept_of_parts m bodies (ps ++ qs) ≡ []
  neither ps qs e f = flat_map-append (kept_of_part m bodies) ps qs ∙ ap (λ (x : List Kept). x ++ kept_of_parts m bodies qs) e ∙ f

  module _ (es : List Entry) where
    mutual
      pub kept_of_expression : (r : Role) (e : Exp) → kept_of_parts m bodies (parts es r e) ≡ []
      kept_of_expression r (Expr p n) = kept_in_node n

      kept_in_node : (n : Node) → kept_of_parts m bodies (parts_in es n) ≡ []
      kept_in_node (Number v decimal unsigned longs) = refl
      kept_in_node (Char v) = refl
      kept_in_node (Var x w) = refl
      kept_in_node (Index x w is) = kept_of_arguments is
      kept_in_node (Unary op a) = kept_of_expression Value a
      kept_in_node (Cast to a) = kept_of_expression (of_cast to) a
      kept_in_node (Step op a) = kept_of_expression Target a
      kept_in_node (Binary op a b) = neither (parts es Value a) (parts es Value b) (kept_of_expression Value a) (kept_of_expression Value b)
      kept_in_node (Logic both a b) = neither (parts es Value a) (parts es Value b) (kept_of_expression Value a) (kept_of_expression Value b)
      kept_in_node (Choose mark e a b) =
          neither (parts es Value e ++ parts es Effect a) (parts es Effect b)
          (neither (parts es Value e) (parts es Effect a) (kept_of_expression Value e) (kept_of_expression Effect a)) (kept_of_expression Effect b)
      kept_in_node (Comma a b) = neither (parts es Effect a) (parts es Effect b) (kept_of_expression Effect a) (kept_of_expression Effect b)
      kept_in_node (Assign op a b) = neither (parts es Target a) (parts es Value b) (kept_of_expression Target a) (kept_of_expression Value b)
      kept_in_node (Call f w gs close) = kept_of_arguments gs

      pub kept_of_arguments : (gs : Exps) → kept_of_parts m bodies (parts_of es gs) ≡ []
      kept_of_arguments NoExp = refl
      kept_of_arguments (MoreExp e gs) = neither (parts es Value e) (parts_of es gs) (kept_of_expression Value e) (kept_of_arguments gs)

    pub kept_of_if : (r : Role) (e : Option Exp) → kept_of_parts m bodies (parts_if es r e) ≡ []
    kept_of_if r None = refl
    kept_of_if r (Some e) = kept_of_expression r e

  -- of a declarator the sizes are kept
  pub kept_of_declarator : (fixed : Bool) (s : Scope) (d : raw.Declared) → kept_of_parts m bodies (declarator fixed s d) ≡ kept_sizes m bodies (seen s) d.sizes
  kept_of_declarator fixed s d =
      flat_map-append (kept_of_part m bodies) (parts_of (seen s) (exps d.sizes)) (Declaring fixed s d ∷ [])
      ∙ ap (λ (x : List Kept). x ++ (kept_sizes m bodies (seen s) d.sizes ++ [])) (kept_of_arguments (seen s) (exps d.sizes))
      ∙ append-nil (kept_sizes m bodies (seen s) d.sizes)

-- a value of an object of static storage: its own part may be looked at behind its expression, and it is kept
pub value_found : (m : DataModel) (items : List raw.Item) (b f : Found) (s t : Scope) (e : Exp) (best : Option Refusal) (ks : List Kept) (n : ℕ) (x : typ.Exp)
    → f ≡ with_parts m items b (parts (seen s) Value e) → t ≡ s → best ≡ noted_part m items f.best (Initializing true t e)
    → n ≡ length s.objects - 1 → x ≡ typed m (bodies_of items) (seen s) e → ks ≡ f.kept ++ kept (Some n) x ∷ []
    → found best ks ≡ with_parts m items b (parts_of_value true s e)
value_found m items b f s t e best ks n x ef et eb en ex ek =
    let bodies = bodies_of items in
    let none : kept_of_parts m bodies (parts (seen s) Value e) ≡ [] = kept_of_expression m bodies (seen s) Value e in
    let same : f.kept ≡ b.kept = ap (λ (y : Found). y.kept) ef ∙ ap (λ (y : List Kept). b.kept ++ y) none ∙ append-nil b.kept in
    let last = length s.objects - 1 in
    let tree = typed m bodies (seen s) e in
    same_found best (noted_parts m items b.best (parts_of_value true s e)) ks (b.kept ++ kept_of_parts m bodies (parts_of_value true s e))
    (noted_behind m items b.best f.best best (parts (seen s) Value e) (Initializing true s e) (ap (λ (y : Found). y.best) ef)
    (eb ∙ ap (λ (y : Scope). noted_part m items f.best (Initializing true y e)) et))
    (ek ∙ ap (λ (y : List Kept). y ++ kept (Some n) x ∷ []) same ∙ ap (λ (y : ℕ). b.kept ++ kept (Some y) x ∷ []) en
    ∙ ap (λ (y : typ.Exp). b.kept ++ kept (Some last) y ∷ []) ex ∙ ap (λ (y : List Kept). b.kept ++ kept (Some last) tree ∷ y) (sym none))

-- a case constant: its own part may be looked at behind its expression, and it is kept
pub constant_found : (m : DataModel) (items : List raw.Item) (b f : Found) (s t : Scope) (e : Exp) (best : Option Refusal) (ks : List Kept) (x : typ.Exp)
    → f ≡ with_parts m items b (parts (seen s) Value e) → t ≡ s → best ≡ noted_part m items f.best (CaseConstant (seen t) e)
    → x ≡ typed m (bodies_of items) (seen s) e → ks ≡ f.kept ++ kept None x ∷ []
    → found best ks ≡ with_parts m items b (CaseConstant (seen s) e ∷ parts (seen s) Value e)
constant_found m items b f s t e best ks x ef et eb ex ek =
    let bodies = bodies_of items in
    let none : kept_of_parts m bodies (parts (seen s) Value e) ≡ [] = kept_of_expression m bodies (seen s) Value e in
    let same : f.kept ≡ b.kept = ap (λ (y : Found). y.kept) ef ∙ ap (λ (y : List Kept). b.kept ++ y) none ∙ append-nil b.kept in
    let tree = typed m bodies (seen s) e in
    let all = CaseConstant (seen s) e ∷ parts (seen s) Value e in
    same_found best (noted_parts m items b.best all) ks (b.kept ++ kept_of_parts m bodies all)
    (noted_behind m items b.best f.best best (parts (seen s) Value e) (CaseConstant (seen s) e) (ap (λ (y : Found). y.best) ef)
    (eb ∙ ap (λ (y : Scope). noted_part m items f.best (CaseConstant (seen y) e)) et))
    (ek ∙ ap (λ (y : List Kept). y ++ kept None x ∷ []) same
    ∙ ap (λ (y : typ.Exp). b.kept ++ kept None y ∷ []) ex ∙ ap (λ (y : List Kept). b.kept ++ kept None tree ∷ y) (sym none))
