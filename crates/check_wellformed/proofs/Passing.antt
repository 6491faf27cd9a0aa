-- A test that each node of a source passes is passed by the node of each part that is an expression.
use Rattle.std.proofs.Common.{◌≡◌, ℕ, Bool, true, false, ◌&&◌, List, [], ◌∷◌, ◌++◌, Option, Some, None}
use Rattle.std.specs.List.{list_all, flat_map}
use Rattle.c_core.specs.declared.number.IntType.{IntType}
use Rattle.c_core.specs.declared.number.DataModel.{DataModel}
use Rattle.c_core.specs.declared.number.Spot.{Spot}
use Rattle.c_core.specs.Parts.{type_of}
use Rattle.c_core.specs.declared.tree.Label.{Label as ArmLabel}
use Rattle.check_rules.specs.Typed.{typed}
use Rattle.check_rules.specs.Arms.{switch_type, label_of}
use Rattle.c_parser.specs.Tree as raw
use Rattle.c_parser.specs.Tree.{Exp, Expr, Node, Number, Char, Var, Index, Unary, Cast, Step, Binary, Logic, Choose, Comma, Assign, Call, Exps, NoExp, MoreExp, exps}
use Rattle.c_parser.specs.Formed.{every_node, every_part, every_argument, every_if, every_in_init, every_in_declared, every_in_first, every_in_statement, every_in_form, every_in_else, every_in_block, every_in_item, every_in_rows, every_in_label}
use Rattle.check_rules.specs.Names.{Entry}
use Rattle.check_rules.specs.Scopes.{Scope, seen, opened, closed, with_object, after_name, after_first, after_statement, after_item, after_parameters, inside, parameter, statements_of}
use Rattle.check_rules.specs.declared.within.Within.{Within}
use Rattle.check_rules.specs.Parts.{Role, Value, Target, Effect, Part, Expression, Label, of_cast, parts, parts_in, parts_of, parts_if, parts_of_values, parts_of_init, parts_of_name, parts_of_names, parts_of_first, parts_of_statement, parts_of_form, parts_of_else, parts_of_block, labels_of, parts_of_labels, parts_of_parameters, parts_of_item, parts_of_items, in_loop, in_body, parts_of_label, parts_of_arms, in_switch}
use Rattle.check_wellformed.proofs.Lists.{AllOf, all_then, left, right}

module _ (q : Node → Bool) where
  abbrev pub Passes : Part → Type 0
  Passes (Expression es r (Expr p n)) = q n ≡ true
  Passes part = Unit {0}

  two_pass : (es : List Entry) (r t : Role) (a b : Exp) → (every_node q a ≡ true → AllOf Passes (parts es r a)) → (every_node q b ≡ true → AllOf Passes (parts es t b)) → (every_node q a && every_node q b) ≡ true → AllOf Passes (parts es r a ++ parts es t b)
  two_pass es r t a b x y h = all_then Passes (parts es r a) _ (x (left (every_node q a) _ h)) (y (right (every_node q a) _ h))

  mutual
    parts_pass : (es : List Entry) (r : Role) (e : Exp) → every_node q e ≡ true → AllOf Passes (parts es r e)
    parts_pass es r (Expr p n) h = (left (q n) _ h, node_passes es n (right (q n) _ h))

    node_passes : (es : List Entry) (n : Node) → every_part q n ≡ true → AllOf Passes (parts_in es n)
    node_passes es (Number v decimal unsigned longs) h = tt
    node_passes es (Char v) h = tt
    node_passes es (Var x w) h = tt
    node_passes es (Index x w is) h = arguments_pass es is h
    node_passes es (Unary op a) h = parts_pass es Value a h
    node_passes es (Cast to a) h = parts_pass es (of_cast to) a h
    node_passes es (Step op a) h = parts_pass es Target a h
    node_passes es (Binary op a b) h = two_pass es Value Value a b (parts_pass es Value a) (parts_pass es Value b) h
    node_passes es (Logic both a b) h = two_pass es Value Value a b (parts_pass es Value a) (parts_pass es Value b) h
    node_passes es (Choose mark e a b) h =
        let k = right (every_node q e) _ h in
        all_then Passes (parts es Value e ++ parts es Effect a) _
        (all_then Passes (parts es Value e) _ (parts_pass es Value e (left (every_node q e) _ h)) (parts_pass es Effect a (left (every_node q a) _ k)))
        (parts_pass es Effect b (right (every_node q a) _ k))
    node_passes es (Comma a b) h = two_pass es Effect Effect a b (parts_pass es Effect a) (parts_pass es Effect b) h
    node_passes es (Assign op a b) h = two_pass es Target Value a b (parts_pass es Target a) (parts_pass es Value b) h
    node_passes es (Call f w gs close) h = arguments_pass es gs h

    arguments_pass : (es : List Entry) (gs : Exps) → every_argument q gs ≡ true → AllOf Passes (parts_of es gs)
    arguments_pass es NoExp h = tt
    arguments_pass es (MoreExp e gs) h = all_then Passes (parts es Value e) _ (parts_pass es Value e (left (every_node q e) _ h)) (arguments_pass es gs (right (every_node q e) _ h))

  option_passes : (es : List Entry) (r : Role) (e : Option Exp) → every_if q e ≡ true → AllOf Passes (parts_if es r e)
  option_passes es r None h = tt
  option_passes es r (Some e) h = parts_pass es r e h

  values_pass : (fixed : Bool) (s : Scope) (gs : Exps) → every_argument q gs ≡ true → AllOf Passes (parts_of_values fixed s gs)
  values_pass fixed s NoExp h = tt
  values_pass fixed s (MoreExp e gs) h =
      (tt, all_then Passes (parts (seen s) Value e) _ (parts_pass (seen s) Value e (left (every_node q e) _ h)) (values_pass fixed s gs (right (every_node q e) _ h)))

  rows_pass : (fixed : Bool) (s : Scope) (rows : List Exps) → every_in_rows q rows ≡ true → AllOf Passes (flat_map (parts_of_values fixed s) rows)
  rows_pass fixed s [] h = tt
  rows_pass fixed s (row ∷ rows) h =
      all_then Passes (parts_of_values fixed s row) _ (values_pass fixed s row (left (every_argument q row) _ h)) (rows_pass fixed s rows (right (every_argument q row) _ h))

  label_passes : (es : List Entry) (l : raw.ArmLabel) → every_in_label q l ≡ true → AllOf Passes (parts_of_label es l)
  label_passes es (raw.Case e) h = (tt, parts_pass es Value e h)
  label_passes es raw.Default h = tt

  init_passes : (fixed : Bool) (s : Scope) (i : raw.Init) → every_in_init q i ≡ true → AllOf Passes (parts_of_init fixed s i)
  init_passes fixed s raw.Absent h = tt
  init_passes fixed s (raw.One e) h = (tt, parts_pass (seen s) Value e h)
  init_passes fixed s (raw.Many gs) h = values_pass fixed s gs h
  init_passes fixed s (raw.Rows rows) h = rows_pass fixed s rows h

  module _ (m : DataModel) (bodies : List (List ℕ)) where
    names_pass : (fixed : Bool) (s : Scope) (ds : List raw.Declared) → every_in_declared q ds ≡ true → AllOf Passes (parts_of_names m bodies fixed s ds)
    names_pass fixed s [] h = tt
    names_pass fixed s (d ∷ ds) h =
        let s' = after_name m bodies fixed s d in
        let k = right (every_argument q (exps d.sizes)) _ h in
        all_then Passes (parts_of_name m bodies fixed s d) _
        (all_then Passes (parts_of (seen s) (exps d.sizes)) _ (arguments_pass (seen s) (exps d.sizes) (left (every_argument q (exps d.sizes)) _ h))
        (tt, init_passes fixed s' d.init (left (every_in_init q d.init) _ k)))
        (names_pass fixed s' ds (right (every_in_init q d.init) _ k))

    first_passes : (s : Scope) (i : raw.First) → every_in_first q i ≡ true → AllOf Passes (parts_of_first m bodies s i)
    first_passes s raw.NoFirst h = tt
    first_passes s (raw.FirstExp e) h = parts_pass (seen s) Effect e h
    first_passes s (raw.FirstDeclared ds) h = names_pass false s ds h

    module _ (result : Option IntType) where
      mutual
        statement_passes : (within : Within) (s : Scope) (x : raw.Stm) → every_in_statement q x ≡ true → AllOf Passes (parts_of_statement m bodies result within s x)
        statement_passes within s (raw.Stmt p f) h = form_passes within s p f h

        form_passes : (within : Within) (s : Scope) (p : Spot) (f : raw.Form) → every_in_form q f ≡ true → AllOf Passes (parts_of_form m bodies result within s p f)
        form_passes within s p raw.Empty h = tt
        form_passes within s p (raw.Do e) h = parts_pass (seen s) Effect e h
        form_passes within s p (raw.Declare ds) h = names_pass false s ds h
        form_passes within s p (raw.Block b) h = block_passes within (opened s) b h
        form_passes within s p (raw.If e a b) h =
            let k = right (every_node q e) _ h in
            all_then Passes (parts (seen s) Value e ++ parts_of_statement m bodies result within (opened s) a) _
            (all_then Passes (parts (seen s) Value e) _ (parts_pass (seen s) Value e (left (every_node q e) _ h)) (statement_passes within (opened s) a (left (every_in_statement q a) _ k)))
            (else_passes within (closed s (after_statement m bodies (opened s) a)) b (right (every_in_statement q a) _ k))
        form_passes within s p (raw.While e a) h =
            all_then Passes (parts (seen s) Value e) _ (parts_pass (seen s) Value e (left (every_node q e) _ h)) (statement_passes in_loop (opened s) a (right (every_node q e) _ h))
        form_passes within s p (raw.DoWhile a e) h =
            all_then Passes (parts_of_statement m bodies result in_loop (opened s) a) _ (statement_passes in_loop (opened s) a (left (every_in_statement q a) _ h))
            (parts_pass (seen s) Value e (right (every_in_statement q a) _ h))
        form_passes within s p (raw.For i e u a) h =
            let t = after_first m bodies (opened s) i in
            let k = right (every_in_first q i) _ h in
            let l = right (every_if q e) _ k in
            let pi = parts_of_first m bodies (opened s) i in
            let pe = parts_if (seen t) Value e in
            let pu = parts_if (seen t) Effect u in
            all_then Passes (pi ++ pe ++ pu) _
            (all_then Passes (pi ++ pe) _
            (all_then Passes pi _ (first_passes (opened s) i (left (every_in_first q i) _ h)) (option_passes (seen t) Value e (left (every_if q e) _ k)))
            (option_passes (seen t) Effect u (left (every_if q u) _ l)))
            (statement_passes in_loop (opened t) a (right (every_if q u) _ l))
        form_passes within s p raw.Break h = (tt, tt)
        form_passes within s p raw.Continue h = (tt, tt)
        form_passes within s p (raw.Return e) h = (tt, option_passes (seen s) Value e h)
        form_passes within s p (raw.Label w a) h = statement_passes within (opened s) a h
        form_passes within s p (raw.Switch e b) h =
            all_then Passes (parts (seen s) Value e) _ (parts_pass (seen s) Value e (left (every_node q e) _ h))
            (arms_pass (in_switch within) (switch_type (type_of (typed m bodies (seen s) e))) [] s b (right (every_node q e) _ h))

        else_passes : (within : Within) (s : Scope) (b : raw.Else) → every_in_else q b ≡ true → AllOf Passes (parts_of_else m bodies result within s b)
        else_passes within s raw.NoElse h = tt
        else_passes within s (raw.OrElse b) h = statement_passes within (opened s) b h

        block_passes : (within : Within) (s : Scope) (b : raw.Stms) → every_in_block q b ≡ true → AllOf Passes (parts_of_block m bodies result within s b)
        block_passes within s raw.NoStm h = tt
        block_passes within s (raw.MoreStm x b) h =
            all_then Passes (parts_of_statement m bodies result within s x) _ (statement_passes within s x (left (every_in_statement q x) _ h))
            (block_passes within (after_statement m bodies s x) b (right (every_in_statement q x) _ h))
        block_passes within s (raw.MoreCase p l b) h = block_passes within s b (right (every_in_label q l) _ h)

        arms_pass : (within : Within) (ty : IntType) (before : List (Option ArmLabel)) (s : Scope) (b : raw.Stms) → every_in_block q b ≡ true
            → AllOf Passes (parts_of_arms m bodies result within ty before s b)
        arms_pass within ty before s raw.NoStm h = tt
        arms_pass within ty before s (raw.MoreStm x b) h =
            all_then Passes (parts_of_statement m bodies result within (opened s) x) _ (statement_passes within (opened s) x (left (every_in_statement q x) _ h))
            (arms_pass within ty before (closed s (after_statement m bodies (opened s) x)) b (right (every_in_statement q x) _ h))
        arms_pass within ty before s (raw.MoreCase p l b) h = (
          tt,
          all_then Passes (parts_of_label (seen s) l) _ (label_passes (seen s) l (left (every_in_label q l) _ h))
              (arms_pass within ty (before ++ label_of m bodies (seen s) ty l ∷ []) s b (right (every_in_label q l) _ h)),
        )

      body_passes : (s : Scope) (body : raw.Stm) → every_in_statement q body ≡ true → AllOf Passes (parts_of_block m bodies result in_body s (statements_of body))
      body_passes s (raw.Stmt p (raw.Block b)) h = block_passes in_body s b h
      body_passes s (raw.Stmt p raw.Empty) h = tt
      body_passes s (raw.Stmt p (raw.Do e)) h = tt
      body_passes s (raw.Stmt p (raw.Declare ds)) h = tt
      body_passes s (raw.Stmt p (raw.If e a b)) h = tt
      body_passes s (raw.Stmt p (raw.While e a)) h = tt
      body_passes s (raw.Stmt p (raw.DoWhile a e)) h = tt
      body_passes s (raw.Stmt p (raw.For i e u a)) h = tt
      body_passes s (raw.Stmt p raw.Break) h = tt
      body_passes s (raw.Stmt p raw.Continue) h = tt
      body_passes s (raw.Stmt p (raw.Return e)) h = tt
      body_passes s (raw.Stmt p (raw.Label w a)) h = tt
      body_passes s (raw.Stmt p (raw.Switch e b)) h = tt

    parameters_pass : (s : Scope) (xs : List raw.Param) → AllOf Passes (parts_of_parameters s xs)
    parameters_pass s [] = tt
    parameters_pass s (x ∷ xs) = (tt, parameters_pass (with_object s (parameter x)) xs)

    labels_pass : (before : List (List ℕ)) (ls : List Label) → AllOf Passes (parts_of_labels before ls)
    labels_pass before [] = tt
    labels_pass before (l ∷ ls) = (tt, labels_pass (before ++ l.name ∷ []) ls)

    item_passes : (s : Scope) (x : raw.Item) → every_in_item q x ≡ true → AllOf Passes (parts_of_item m bodies s x)
    item_passes s (raw.Function p name result xs body) h =
        let t = inside s name result xs in
        let ps = parts_of_parameters t xs in
        let bs = parts_of_block m bodies result in_body (after_parameters t xs) (statements_of body) in
        (tt, all_then Passes (ps ++ bs) _ (all_then Passes ps _ (parameters_pass t xs) (body_passes result (after_parameters t xs) body h)) (labels_pass [] (labels_of body)))
    item_passes s (raw.Prototype p name result types) h = (tt, tt)
    item_passes s (raw.Global ds) h = names_pass true s ds h
    item_passes s (raw.Closed p name) h = tt

    pub items_pass : (s : Scope) (xs : List raw.Item) → list_all (every_in_item q) xs ≡ true → AllOf Passes (parts_of_items m bodies s xs)
    items_pass s [] h = tt
    items_pass s (x ∷ xs) h =
        all_then Passes (parts_of_item m bodies s x) _ (item_passes s x (left (every_in_item q x) _ h)) (items_pass (after_item m bodies s x) xs (right (every_in_item q x) _ h))
