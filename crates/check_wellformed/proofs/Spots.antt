-- The places of the typed tree are those of the source, but for the sizes of arrays.
use Rattle.std.proofs.Common.{◌≡◌, ℕ, Bool, true, false, cond, List, [], ◌∷◌, ◌++◌, map, refl, sym, ap, ◌∙◌, subst, Option, Some, None, nat_eq, eqb-true}
use Rattle.c_core.specs.Parts.{same_spot, type_of}
use Rattle.c_core.specs.TextOrder as core
use Rattle.c_core.specs.TextOrder.{whole, rises, spots_of_objects}
use Rattle.c_core.proofs.TextOrderLaws.{IsPart, ends, skips, takes, part_none, part_all, part_append, part_behind}
use Rattle.c_core.specs.declared.number.IntType.{IntType}
use Rattle.c_core.specs.declared.number.DataModel.{DataModel}
use Rattle.std.specs.List.{flat_map}
use Rattle.check_rules.specs.Arms.{switch_type}
use Rattle.c_core.specs.declared.number.Spot.{Spot}
use Rattle.c_parser.specs.Tree as raw
use Rattle.c_parser.specs.Tree.{Exp, Expr, Node, Number, Char, Var, Index, Unary, Cast, Step, Binary, Logic, Choose, Comma, Assign, Call, Exps, NoExp, MoreExp, exps}
use Rattle.c_parser.specs.TextOrder.{spots_of, spots_of_node, spots_of_all, spots_if, spots_of_init, spots_of_declared, spots_of_first, spots_of_statement, spots_of_form, spots_of_else, spots_of_block, spots_of_params, spots_of_items, spots_of_rows, spots_of_label}
use Rattle.check_rules.specs.Names.{Entry}
use Rattle.check_wellformed.proofs.Lists.{left, right}
use Rattle.check_rules.specs.Typed.{typed, typed_node, typed_all}
use Rattle.check_rules.specs.Scopes.{Scope, seen, opened, closed, after_name, after_first, after_statement, after_item, after_parameters, inside, statements_of}
use Rattle.check_rules.specs.Checked.{typed_if, typed_init, typed_names, typed_first, typed_statement, typed_form, typed_else, typed_block, body_place, functions_of, typed_arms}

module _ (m : DataModel) (bodies : List (List ℕ)) (es : List Entry) where
  mutual
    pub typed_spots : (e : Exp) → core.spots_of (typed m bodies es e) ≡ spots_of e
    typed_spots (Expr p n) = node_spots p n

    node_spots : (p : Spot) (n : Node) → core.spots_of (typed_node m bodies es p n) ≡ spots_of_node p n
    node_spots p (Number v decimal unsigned longs) = refl
    node_spots p (Char v) = refl
    node_spots p (Var x w) = refl
    node_spots p (Index x w is) = rw (arguments_spots is) refl
    node_spots p (Unary op a) = rw (typed_spots a) refl
    node_spots p (Cast to a) = rw (typed_spots a) refl
    node_spots p (Step op a) = rw (typed_spots a) refl
    node_spots p (Binary op a b) = rw (typed_spots a, typed_spots b) refl
    node_spots p (Logic both a b) = rw (typed_spots a, typed_spots b) refl
    node_spots p (Choose mark e a b) = rw (typed_spots e, typed_spots a, typed_spots b) refl
    node_spots p (Comma a b) = rw (typed_spots a, typed_spots b) refl
    node_spots p (Assign op a b) = rw (typed_spots a, typed_spots b) refl
    node_spots p (Call f w gs close) = rw (arguments_spots gs) refl

    pub arguments_spots : (gs : Exps) → core.spots_of_arguments (typed_all m bodies es gs) ≡ spots_of_all gs
    arguments_spots NoExp = refl
    arguments_spots (MoreExp e gs) = rw (typed_spots e, arguments_spots gs) refl

same_place : (a b : Spot) → same_spot a b ≡ true → a ≡ b
same_place a b h =
    let l : a.line ≡ b.line = eqb-true a.line b.line (left _ _ h) in
    let c : a.column ≡ b.column = eqb-true a.column b.column (right (nat_eq a.line b.line) _ h) in
    ap (λ n. record { line = n; column = a.column }) l ∙ ap (λ n. record { line = b.line; column = n }) c

head_by : (b : Bool) (a f : Spot) (ss : List Spot) → same_spot a f ≡ b → IsPart (a ∷ []) (cond b (f ∷ ss) (a ∷ f ∷ ss))
head_by true a f ss e =
    let P : Spot → Type 0 = λ s. IsPart (s ∷ []) (f ∷ ss) in subst P (sym (same_place a f e)) (takes f [] ss (part_none ss))
head_by false a f ss e = takes a [] (f ∷ ss) (part_none (f ∷ ss))

-- a whole begins at its place
head_of_whole : (a : Spot) (ss : List Spot) → IsPart (a ∷ []) (whole a ss)
head_of_whole a [] = takes a [] [] ends
head_of_whole a (f ∷ ss) = head_by (same_spot a f) a f ss refl

same_part : (xs ys : List Spot) → xs ≡ ys → IsPart xs ys
same_part xs ys e = subst (λ l. IsPart xs l) e (part_all xs)

module _ (m : DataModel) (bodies : List (List ℕ)) where
  expression_part : (es : List Entry) (e : Exp) → IsPart (core.spots_of (typed m bodies es e)) (spots_of e)
  expression_part es e = same_part _ _ (typed_spots m bodies es e)

  if_part : (es : List Entry) (e : Option Exp) → IsPart (core.spots_if (typed_if m bodies es e)) (spots_if e)
  if_part es None = ends
  if_part es (Some e) = expression_part es e

  rows_part : (es : List Entry) (rows : List Exps) → IsPart (flat_map core.spots_of_arguments (map (typed_all m bodies es) rows)) (spots_of_rows rows)
  rows_part es [] = ends
  rows_part es (row ∷ rows) = part_append _ _ _ _ (same_part _ _ (arguments_spots m bodies es row)) (rows_part es rows)

  init_part : (es : List Entry) (i : raw.Init) → IsPart (core.spots_of_init (typed_init m bodies es i)) (spots_of_init i)
  init_part es raw.Absent = ends
  init_part es (raw.One e) = expression_part es e
  init_part es (raw.Many gs) = same_part _ _ (arguments_spots m bodies es gs)
  init_part es (raw.Rows rows) = rows_part es rows

  names_part : (s : Scope) (ds : List raw.Declared) → IsPart (core.spots_of_declarators (typed_names m bodies s ds)) (spots_of_declared ds)
  names_part s [] = ends
  names_part s (d ∷ ds) =
      let s' = after_name m bodies false s d in
      takes d.spot _ _ (part_append _ _ _ _ (part_behind (spots_of_all (exps d.sizes)) _ _ (init_part (seen s') d.init)) (names_part s' ds))

  first_part : (s : Scope) (i : raw.First) → IsPart (core.spots_of_first (typed_first m bodies s i)) (spots_of_first i)
  first_part s raw.NoFirst = ends
  first_part s (raw.FirstExp e) = expression_part (seen s) e
  first_part s (raw.FirstDeclared ds) = names_part s ds

  mutual
    pub statement_part : (s : Scope) (x : raw.Stm) → IsPart (core.spots_of_statement (typed_statement m bodies s x)) (spots_of_statement x)
    statement_part s (raw.Stmt p f) = form_part s p f

    form_part : (s : Scope) (p : Spot) (f : raw.Form) → IsPart (core.spots_of_form p (typed_form m bodies s f)) (spots_of_form p f)
    form_part s p raw.Empty = part_all _
    form_part s p (raw.Do e) = same_part _ _ (ap (whole p) (typed_spots m bodies (seen s) e))
    form_part s p (raw.Declare ds) = takes p _ _ (names_part s ds)
    form_part s p (raw.Block b) = takes p _ _ (block_part (opened s) b)
    form_part s p (raw.If e a b) =
        takes p _ _ (part_append _ _ _ _ (part_append _ _ _ _ (expression_part (seen s) e) (statement_part (opened s) a))
        (else_part (closed s (after_statement m bodies (opened s) a)) b))
    form_part s p (raw.While e a) = takes p _ _ (part_append _ _ _ _ (expression_part (seen s) e) (statement_part (opened s) a))
    form_part s p (raw.DoWhile a e) = takes p _ _ (part_append _ _ _ _ (statement_part (opened s) a) (expression_part (seen s) e))
    form_part s p (raw.For i e u a) =
        let t = after_first m bodies (opened s) i in
        takes p _ _ (part_append _ _ _ _ (part_append _ _ _ _ (part_append _ _ _ _ (first_part (opened s) i) (if_part (seen t) e)) (if_part (seen t) u)) (statement_part (opened t) a))
    form_part s p raw.Break = part_all _
    form_part s p raw.Continue = part_all _
    form_part s p (raw.Return e) = takes p _ _ (if_part (seen s) e)
    form_part s p (raw.Label w a) = takes p _ _ (statement_part (opened s) a)
    form_part s p (raw.Switch e b) = takes p _ _ (part_append _ _ _ _ (expression_part (seen s) e) (arms_part (switch_type (type_of (typed m bodies (seen s) e))) s b))

    else_part : (s : Scope) (b : raw.Else) → IsPart (core.spots_of_else (typed_else m bodies s b)) (spots_of_else b)
    else_part s raw.NoElse = ends
    else_part s (raw.OrElse b) = statement_part (opened s) b

    pub block_part : (s : Scope) (b : raw.Stms) → IsPart (core.spots_of_block (typed_block m bodies s b)) (spots_of_block b)
    block_part s raw.NoStm = ends
    block_part s (raw.MoreStm x b) = part_append _ _ _ _ (statement_part s x) (block_part (after_statement m bodies s x) b)
    block_part s (raw.MoreCase p l b) = skips p _ _ (part_behind (spots_of_label l) _ _ (block_part s b))

    arms_part : (ty : IntType) (s : Scope) (b : raw.Stms) → IsPart (core.spots_of_block (typed_arms m bodies ty s b)) (spots_of_block b)
    arms_part ty s raw.NoStm = ends
    arms_part ty s (raw.MoreStm x b) = part_append _ _ _ _ (statement_part (opened s) x) (arms_part ty (closed s (after_statement m bodies (opened s) x)) b)
    arms_part ty s (raw.MoreCase p l b) = takes p _ _ (part_behind (spots_of_label l) _ _ (arms_part ty s b))

  body_part : (s : Scope) (body : raw.Stm) → IsPart (body_place m bodies body ∷ core.spots_of_block (typed_block m bodies s (statements_of body))) (spots_of_statement body)
  body_part s (raw.Stmt p (raw.Block b)) = takes p _ _ (block_part s b)
  body_part s (raw.Stmt p raw.Empty) = part_all _
  body_part s (raw.Stmt p (raw.Do e)) = head_of_whole p (spots_of e)
  body_part s (raw.Stmt p (raw.Declare ds)) = takes p _ _ (part_none _)
  body_part s (raw.Stmt p (raw.If e a b)) = takes p _ _ (part_none _)
  body_part s (raw.Stmt p (raw.While e a)) = takes p _ _ (part_none _)
  body_part s (raw.Stmt p (raw.DoWhile a e)) = takes p _ _ (part_none _)
  body_part s (raw.Stmt p (raw.For i e u a)) = takes p _ _ (part_none _)
  body_part s (raw.Stmt p raw.Break) = part_all _
  body_part s (raw.Stmt p raw.Continue) = part_all _
  body_part s (raw.Stmt p (raw.Return e)) = takes p _ _ (part_none _)
  body_part s (raw.Stmt p (raw.Label w a)) = takes p _ _ (part_none _)
  body_part s (raw.Stmt p (raw.Switch e b)) = takes p _ _ (part_none _)

  -- the bodies of functions stand in the order of the text
  pub functions_part : (s : Scope) (xs : List raw.Item) → IsPart (core.spots_of_functions (functions_of m bodies s xs)) (spots_of_items xs)
  functions_part s [] = ends
  functions_part s (raw.Function p name result ys body ∷ xs) =
      part_append _ (p ∷ spots_of_params ys ++ spots_of_statement body) _ _ (skips p _ _ (part_behind (spots_of_params ys) _ _ (body_part (after_parameters (inside s name result ys) ys) body)))
      (functions_part (after_item m bodies s (raw.Function p name result ys body)) xs)
  functions_part s (raw.Prototype p name result types ∷ xs) = part_behind (p ∷ []) _ _ (functions_part (after_item m bodies s (raw.Prototype p name result types)) xs)
  functions_part s (raw.Global ds ∷ xs) = part_behind (spots_of_declared ds) _ _ (functions_part (after_item m bodies s (raw.Global ds)) xs)
  functions_part s (raw.Closed p name ∷ xs) = part_behind (p ∷ []) _ _ (functions_part (after_item m bodies s (raw.Closed p name)) xs)
