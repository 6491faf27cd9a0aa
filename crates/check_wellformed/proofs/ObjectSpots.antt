-- Objects are declared in the order of the text.
use Rattle.std.proofs.Common.{◌≡◌, ℕ, Bool, true, false, List, [], ◌∷◌, ◌++◌, refl, sym, ap, ◌∙◌, subst, Option, Some, None}
use Rattle.c_core.specs.TextOrder.{spots_of_objects}
use Rattle.c_core.proofs.TextOrderLaws.{IsPart, skips, part_none, part_all, part_append}
use Rattle.c_core.specs.declared.number.IntType.{IntType}
use Rattle.c_core.specs.declared.number.DataModel.{DataModel}
use Rattle.c_core.specs.declared.number.Spot.{Spot}
use Rattle.c_core.specs.declared.tree.Object.{Object}
use Rattle.c_core.specs.Parts.{type_of}
use Rattle.c_core.specs.declared.tree.Label.{Label as ArmLabel}
use Rattle.check_rules.specs.Typed.{typed}
use Rattle.check_rules.specs.Arms.{switch_type, label_of}
use Rattle.c_parser.specs.Tree as raw
use Rattle.c_parser.specs.Tree.{exps}
use Rattle.c_parser.specs.TextOrder.{spots_of, spots_if, spots_of_init, spots_of_declared, spots_of_first, spots_of_statement, spots_of_form, spots_of_else, spots_of_block, spots_of_params, spots_of_item, spots_of_items, spots_of_all, spots_of_label}
use Rattle.check_rules.specs.Names.{Entry}
use Rattle.check_rules.specs.Scopes.{Scope, seen, opened, closed, with_object, after_name, after_first, after_statement, after_item, after_parameters, inside, parameter, statements_of, entry_of_function}
use Rattle.check_rules.specs.declared.within.Within.{Within}
use Rattle.check_rules.specs.Parts.{Role, Value, Effect, Part, Declaring, Naming, Returning, Leaving, parts, parts_if, parts_of_init, parts_of_name, parts_of_names, parts_of_first, parts_of_statement, parts_of_form, parts_of_else, parts_of_block, labels_of, parts_of_labels, parts_of_parameters, parts_of_item, parts_of_items, in_loop, in_body, ArmLabelling, parts_of, parts_of_label, parts_of_arms, in_switch}
use Rattle.check_wellformed.proofs.Lists.{AllOf, append-nil}
use Rattle.check_wellformed.proofs.Threads.{declared, declared-append, IsQuiet, none_declared, expression_quiet, option_quiet, init_quiet, labels_quiet, arguments_quiet, label_quiet}

spots_append : (xs ys : List Object) → spots_of_objects (xs ++ ys) ≡ spots_of_objects xs ++ spots_of_objects ys
spots_append [] ys = refl
spots_append (x ∷ xs) ys = ap (λ l. x.spot ∷ l) (spots_append xs ys)

module _ (m : DataModel) (bodies : List (List ℕ)) where
  -- what these parts declare stands at some of these places, in order
  pub record StandsIn (ps : List Part) (ss : List Spot) : Type 0 where
    pub part : IsPart (spots_of_objects (declared m bodies ps)) ss

  stands_then : {ps qs : List Part} {ss ts : List Spot} → StandsIn ps ss → StandsIn qs ts → StandsIn (ps ++ qs) (ss ++ ts)
  stands_then {ps} {qs} {ss} {ts} x y =
      let e = ap spots_of_objects (declared-append m bodies ps qs) ∙ spots_append (declared m bodies ps) (declared m bodies qs) in
      record { part = subst (λ l. IsPart l (ss ++ ts)) (sym e) (part_append _ _ _ _ x.part y.part) }

  stands_behind : {ps : List Part} {ss : List Spot} (p : Spot) → StandsIn ps ss → StandsIn ps (p ∷ ss)
  stands_behind p x = record { part = skips p _ _ x.part }

  stands_nowhere : (ps : List Part) (ss : List Spot) → AllOf IsQuiet ps → StandsIn ps ss
  stands_nowhere ps ss h = record { part = subst (λ l. IsPart (spots_of_objects l) ss) (sym (none_declared m bodies ps h)) (part_none ss) }

  stands_there : (fixed : Bool) (s : Scope) (d : raw.Declared) → StandsIn (Declaring fixed s d ∷ []) (d.spot ∷ [])
  stands_there fixed s d = record { part = part_all _ }

  expression_stands : (es : List Entry) (r : Role) (e : raw.Exp) (ss : List Spot) → StandsIn (parts es r e) ss
  expression_stands es r e ss = stands_nowhere (parts es r e) ss (expression_quiet es r e)

  option_stands : (es : List Entry) (r : Role) (e : Option raw.Exp) (ss : List Spot) → StandsIn (parts_if es r e) ss
  option_stands es r e ss = stands_nowhere (parts_if es r e) ss (option_quiet es r e)

  name_stands : (fixed : Bool) (s : Scope) (d : raw.Declared) → StandsIn (parts_of_name m bodies fixed s d) (d.spot ∷ spots_of_all (exps d.sizes) ++ spots_of_init d.init)
  name_stands fixed s d =
      stands_then {ss = []} (stands_nowhere (parts_of (seen s) (exps d.sizes)) [] (arguments_quiet (seen s) (exps d.sizes)))
      (stands_then (stands_there fixed s d) (stands_nowhere (parts_of_init fixed (after_name m bodies fixed s d) d.init) (spots_of_all (exps d.sizes) ++ spots_of_init d.init) (init_quiet fixed (after_name m bodies fixed s d) d.init)))

  names_stand : (fixed : Bool) (s : Scope) (ds : List raw.Declared) → StandsIn (parts_of_names m bodies fixed s ds) (spots_of_declared ds)
  names_stand fixed s [] = stands_nowhere [] [] tt
  names_stand fixed s (d ∷ ds) = stands_then {ss = d.spot ∷ spots_of_all (exps d.sizes) ++ spots_of_init d.init} (name_stands fixed s d) (names_stand fixed (after_name m bodies fixed s d) ds)

  first_stands : (s : Scope) (i : raw.First) → StandsIn (parts_of_first m bodies s i) (spots_of_first i)
  first_stands s raw.NoFirst = stands_nowhere [] [] tt
  first_stands s (raw.FirstExp e) = expression_stands (seen s) Effect e (spots_of e)
  first_stands s (raw.FirstDeclared ds) = names_stand false s ds

  module _ (result : Option IntType) where
    mutual
      statement_stands : (within : Within) (s : Scope) (x : raw.Stm) → StandsIn (parts_of_statement m bodies result within s x) (spots_of_statement x)
      statement_stands within s (raw.Stmt p f) = form_stands within s p f

      form_stands : (within : Within) (s : Scope) (p : Spot) (f : raw.Form) → StandsIn (parts_of_form m bodies result within s p f) (spots_of_form p f)
      form_stands within s p raw.Empty = stands_nowhere [] _ tt
      form_stands within s p (raw.Do e) = expression_stands (seen s) Effect e _
      form_stands within s p (raw.Declare ds) = stands_behind p (names_stand false s ds)
      form_stands within s p (raw.Block b) = stands_behind p (block_stands within (opened s) b)
      form_stands within s p (raw.If e a b) =
          stands_behind p (stands_then (stands_then (expression_stands (seen s) Value e (spots_of e)) (statement_stands within (opened s) a))
          (else_stands within (closed s (after_statement m bodies (opened s) a)) b))
      form_stands within s p (raw.While e a) = stands_behind p (stands_then (expression_stands (seen s) Value e (spots_of e)) (statement_stands in_loop (opened s) a))
      form_stands within s p (raw.DoWhile a e) = stands_behind p (stands_then (statement_stands in_loop (opened s) a) (expression_stands (seen s) Value e (spots_of e)))
      form_stands within s p (raw.For i e u a) =
          let t = after_first m bodies (opened s) i in
          stands_behind p (stands_then (stands_then (stands_then (first_stands (opened s) i) (option_stands (seen t) Value e (spots_if e))) (option_stands (seen t) Effect u (spots_if u)))
          (statement_stands in_loop (opened t) a))
      form_stands within s p raw.Break = stands_nowhere (Leaving within.breaks p ∷ []) _ (tt, tt)
      form_stands within s p raw.Continue = stands_nowhere (Leaving within.continues p ∷ []) _ (tt, tt)
      form_stands within s p (raw.Return None) = stands_nowhere (Returning result p false ∷ []) _ (tt, tt)
      form_stands within s p (raw.Return (Some e)) = stands_nowhere (Returning result p true ∷ parts (seen s) Value e) _ (tt, expression_quiet (seen s) Value e)
      form_stands within s p (raw.Label w a) = stands_behind p (statement_stands within (opened s) a)
      form_stands within s p (raw.Switch e b) =
          stands_behind p (stands_then (expression_stands (seen s) Value e (spots_of e)) (arms_stand (in_switch within) (switch_type (type_of (typed m bodies (seen s) e))) [] s b))

      else_stands : (within : Within) (s : Scope) (b : raw.Else) → StandsIn (parts_of_else m bodies result within s b) (spots_of_else b)
      else_stands within s raw.NoElse = stands_nowhere [] [] tt
      else_stands within s (raw.OrElse b) = statement_stands within (opened s) b

      block_stands : (within : Within) (s : Scope) (b : raw.Stms) → StandsIn (parts_of_block m bodies result within s b) (spots_of_block b)
      block_stands within s raw.NoStm = stands_nowhere [] [] tt
      block_stands within s (raw.MoreStm x b) = stands_then (statement_stands within s x) (block_stands within (after_statement m bodies s x) b)
      block_stands within s (raw.MoreCase p l b) = stands_behind p (stands_then {ps = []} (stands_nowhere [] (spots_of_label l) tt) (block_stands within s b))

      arms_stand : (within : Within) (ty : IntType) (before : List (Option ArmLabel)) (s : Scope) (b : raw.Stms) → StandsIn (parts_of_arms m bodies result within ty before s b) (spots_of_block b)
      arms_stand within ty before s raw.NoStm = stands_nowhere [] [] tt
      arms_stand within ty before s (raw.MoreStm x b) =
          stands_then (statement_stands within (opened s) x) (arms_stand within ty before (closed s (after_statement m bodies (opened s) x)) b)
      arms_stand within ty before s (raw.MoreCase p l b) =
          let label = label_of m bodies (seen s) ty l in
          stands_then {ss = p ∷ []} (stands_nowhere (ArmLabelling before label p ∷ []) (p ∷ []) (tt, tt))
          (stands_then (stands_nowhere (parts_of_label (seen s) l) (spots_of_label l) (label_quiet (seen s) l)) (arms_stand within ty (before ++ label ∷ []) s b))

    body_stands : (s : Scope) (body : raw.Stm) → StandsIn (parts_of_block m bodies result in_body s (statements_of body)) (spots_of_statement body)
    body_stands s (raw.Stmt p (raw.Block b)) = stands_behind p (block_stands in_body s b)
    body_stands s (raw.Stmt p raw.Empty) = stands_nowhere [] _ tt
    body_stands s (raw.Stmt p (raw.Do e)) = stands_nowhere [] _ tt
    body_stands s (raw.Stmt p (raw.Declare ds)) = stands_nowhere [] _ tt
    body_stands s (raw.Stmt p (raw.If e a b)) = stands_nowhere [] _ tt
    body_stands s (raw.Stmt p (raw.While e a)) = stands_nowhere [] _ tt
    body_stands s (raw.Stmt p (raw.DoWhile a e)) = stands_nowhere [] _ tt
    body_stands s (raw.Stmt p (raw.For i e u a)) = stands_nowhere [] _ tt
    body_stands s (raw.Stmt p raw.Break) = stands_nowhere [] _ tt
    body_stands s (raw.Stmt p raw.Continue) = stands_nowhere [] _ tt
    body_stands s (raw.Stmt p (raw.Return e)) = stands_nowhere [] _ tt
    body_stands s (raw.Stmt p (raw.Label w a)) = stands_nowhere [] _ tt
    body_stands s (raw.Stmt p (raw.Switch e b)) = stands_nowhere [] _ tt

  parameters_stand : (s : Scope) (xs : List raw.Param) → StandsIn (parts_of_parameters s xs) (spots_of_params xs)
  parameters_stand s [] = stands_nowhere [] [] tt
  parameters_stand s (x ∷ xs) = stands_then {ss = x.spot ∷ []} (stands_there false s _) (parameters_stand (with_object s (parameter x)) xs)

  -- the labels are told behind the body
  labelled : {ps : List Part} (qs : List Part) {ss : List Spot} → StandsIn ps ss → AllOf IsQuiet qs → StandsIn (ps ++ qs) ss
  labelled {ps} qs {ss} x quiet = subst (λ l. StandsIn (ps ++ qs) l) (append-nil ss) (stands_then x (stands_nowhere qs [] quiet))

  inside_stands : (result : Option IntType) (t : Scope) (xs : List raw.Param) (body : raw.Stm) → StandsIn (parts_of_parameters t xs ++ parts_of_block m bodies result in_body (after_parameters t xs) (statements_of body) ++ parts_of_labels [] (labels_of body)) (spots_of_params xs ++ spots_of_statement body)
  inside_stands result t xs body =
      labelled _ (stands_then (parameters_stand t xs) (body_stands result (after_parameters t xs) body)) (labels_quiet [] (labels_of body))

  item_stands : (s : Scope) (x : raw.Item) → StandsIn (parts_of_item m bodies s x) (spots_of_item x)
  item_stands s (raw.Function p name result xs body) =
      let t = inside s name result xs in
      stands_then {ss = p ∷ []} (stands_nowhere (Naming s (entry_of_function name result xs) p ∷ []) (p ∷ []) (tt, tt)) (inside_stands result t xs body)
  item_stands s (raw.Prototype p name result types) = stands_nowhere (Naming s _ p ∷ []) _ (tt, tt)
  item_stands s (raw.Global ds) = names_stand true s ds
  item_stands s (raw.Closed p name) = stands_nowhere [] _ tt

  pub items_stand : (s : Scope) (xs : List raw.Item) → StandsIn (parts_of_items m bodies s xs) (spots_of_items xs)
  items_stand s [] = stands_nowhere [] [] tt
  items_stand s (x ∷ xs) = stands_then (item_stands s x) (items_stand (after_item m bodies s x) xs)

  -- objects stand in the order of their declarations
  pub objects_part : (s : Scope) (xs : List raw.Item) → IsPart (spots_of_objects (declared m bodies (parts_of_items m bodies s xs))) (spots_of_items xs)
  objects_part s xs = (items_stand s xs).part
