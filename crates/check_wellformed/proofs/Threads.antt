-- The objects that parts declare, in their order, are those of the scope behind them.
use Rattle.std.proofs.Common.{◌≡◌, ℕ, Bool, true, false, List, [], ◌∷◌, ◌++◌, refl, sym, ap, ◌∙◌, subst, Option, Some, None}
use Rattle.std.specs.List.{flat_map}
use Rattle.c_core.specs.declared.number.IntType.{IntType}
use Rattle.c_core.specs.declared.number.DataModel.{DataModel}
use Rattle.c_core.specs.declared.number.Spot.{Spot}
use Rattle.c_core.specs.declared.tree.Object.{Object}
use Rattle.c_core.specs.Parts.{type_of}
use Rattle.c_core.specs.declared.tree.Label.{Label as ArmLabel}
use Rattle.check_rules.specs.Typed.{typed}
use Rattle.check_rules.specs.Arms.{switch_type, label_of}
use Rattle.c_parser.specs.Tree as raw
use Rattle.c_parser.specs.Tree.{Exp, Expr, Node, Number, Char, Var, Index, Unary, Cast, Step, Binary, Logic, Choose, Comma, Assign, Call, Exps, NoExp, MoreExp, exps}
use Rattle.check_rules.specs.Names.{Entry}
use Rattle.check_rules.specs.Scopes.{Scope, seen, opened, closed, with_object, object_of, after_name, after_names, after_first, after_statement, after_form, after_else, after_block, after_item, after_items, after_parameters, inside, parameter, statements_of, entry_of_function, after_arms}
use Rattle.check_rules.specs.declared.within.Within.{Within}
use Rattle.check_rules.specs.Parts.{Role, Value, Target, Effect, Part, Expression, Declaring, Naming, Initializing, Returning, Leaving, Labelling, Label, of_cast, parts, parts_in, parts_of, parts_if, parts_of_values, parts_of_init, parts_of_name, parts_of_names, parts_of_first, parts_of_statement, parts_of_form, parts_of_else, parts_of_block, labels_of, parts_of_labels, parts_of_parameters, parts_of_item, parts_of_items, in_loop, in_body, ArmLabelling, CaseConstant, parts_of_label, parts_of_arms, in_switch}
use Rattle.check_wellformed.proofs.Lists.{AllOf, all_then, append-nil, append-assoc}

-- ---- parts of expressions

-- an expression with these names in scope
abbrev pub Sees : List Entry → Part → Type 0
Sees es (Expression es' r e) = es' ≡ es
Sees es part = ⊥

mutual
  pub parts_see : (es : List Entry) (r : Role) (e : Exp) → AllOf (Sees es) (parts es r e)
  parts_see es r (Expr p n) = (refl, node_sees es n)

  node_sees : (es : List Entry) (n : Node) → AllOf (Sees es) (parts_in es n)
  node_sees es (Number v decimal unsigned longs) = tt
  node_sees es (Char v) = tt
  node_sees es (Var x w) = tt
  node_sees es (Index x w is) = arguments_see es is
  node_sees es (Unary op a) = parts_see es Value a
  node_sees es (Cast to a) = parts_see es (of_cast to) a
  node_sees es (Step op a) = parts_see es Target a
  node_sees es (Binary op a b) = all_then (Sees es) (parts es Value a) _ (parts_see es Value a) (parts_see es Value b)
  node_sees es (Logic both a b) = all_then (Sees es) (parts es Value a) _ (parts_see es Value a) (parts_see es Value b)
  node_sees es (Choose mark e a b) =
      all_then (Sees es) (parts es Value e ++ parts es Effect a) _ (all_then (Sees es) (parts es Value e) _ (parts_see es Value e) (parts_see es Effect a)) (parts_see es Effect b)
  node_sees es (Comma a b) = all_then (Sees es) (parts es Effect a) _ (parts_see es Effect a) (parts_see es Effect b)
  node_sees es (Assign op a b) = all_then (Sees es) (parts es Target a) _ (parts_see es Target a) (parts_see es Value b)
  node_sees es (Call f w gs close) = arguments_see es gs

  pub arguments_see : (es : List Entry) (gs : Exps) → AllOf (Sees es) (parts_of es gs)
  arguments_see es NoExp = tt
  arguments_see es (MoreExp e gs) = all_then (Sees es) (parts es Value e) _ (parts_see es Value e) (arguments_see es gs)

-- declares nothing
abbrev pub IsQuiet : Part → Type 0
IsQuiet (Declaring fixed s d) = ⊥
IsQuiet part = Unit {0}

quiet_of_sees : (es : List Entry) (ps : List Part) → AllOf (Sees es) ps → AllOf IsQuiet ps
quiet_of_sees es [] h = tt
quiet_of_sees es (Expression es' r e ∷ ps) h = (tt, quiet_of_sees es ps h.1)
quiet_of_sees es (Declaring fixed s d ∷ ps) h = absurd h.0
quiet_of_sees es (Naming s e p ∷ ps) h = absurd h.0
quiet_of_sees es (Initializing fixed s e ∷ ps) h = absurd h.0
quiet_of_sees es (Returning result p given ∷ ps) h = absurd h.0
quiet_of_sees es (Leaving may p ∷ ps) h = absurd h.0
quiet_of_sees es (Labelling before w p ∷ ps) h = absurd h.0
quiet_of_sees es (ArmLabelling before l p ∷ ps) h = absurd h.0
quiet_of_sees es (CaseConstant es' e ∷ ps) h = absurd h.0

pub expression_quiet : (es : List Entry) (r : Role) (e : Exp) → AllOf IsQuiet (parts es r e)
expression_quiet es r e = quiet_of_sees es (parts es r e) (parts_see es r e)

pub option_quiet : (es : List Entry) (r : Role) (e : Option Exp) → AllOf IsQuiet (parts_if es r e)
option_quiet es r None = tt
option_quiet es r (Some e) = expression_quiet es r e

pub arguments_quiet : (es : List Entry) (gs : Exps) → AllOf IsQuiet (parts_of es gs)
arguments_quiet es gs = quiet_of_sees es (parts_of es gs) (arguments_see es gs)

pub label_quiet : (es : List Entry) (l : raw.ArmLabel) → AllOf IsQuiet (parts_of_label es l)
label_quiet es (raw.Case e) = (tt, expression_quiet es Value e)
label_quiet es raw.Default = tt

values_quiet : (fixed : Bool) (s : Scope) (gs : Exps) → AllOf IsQuiet (parts_of_values fixed s gs)
values_quiet fixed s NoExp = tt
values_quiet fixed s (MoreExp e gs) = (tt, all_then IsQuiet (parts (seen s) Value e) _ (expression_quiet (seen s) Value e) (values_quiet fixed s gs))

rows_quiet : (fixed : Bool) (s : Scope) (rows : List Exps) → AllOf IsQuiet (flat_map (parts_of_values fixed s) rows)
rows_quiet fixed s [] = tt
rows_quiet fixed s (row ∷ rows) = all_then IsQuiet (parts_of_values fixed s row) _ (values_quiet fixed s row) (rows_quiet fixed s rows)

pub init_quiet : (fixed : Bool) (s : Scope) (i : raw.Init) → AllOf IsQuiet (parts_of_init fixed s i)
init_quiet fixed s raw.Absent = tt
init_quiet fixed s (raw.One e) = (tt, expression_quiet (seen s) Value e)
init_quiet fixed s (raw.Many gs) = values_quiet fixed s gs
init_quiet fixed s (raw.Rows rows) = rows_quiet fixed s rows

pub labels_quiet : (before : List (List ℕ)) (ls : List Label) → AllOf IsQuiet (parts_of_labels before ls)
labels_quiet before [] = tt
labels_quiet before (l ∷ ls) = (tt, labels_quiet (before ++ l.name ∷ []) ls)

-- ---- objects

module _ (m : DataModel) (bodies : List (List ℕ)) where
  abbrev pub objects_of_part : Part → List Object
  objects_of_part (Declaring fixed s d) = object_of m bodies fixed (seen s) d ∷ []
  objects_of_part part = []

  abbrev pub declared : List Part → List Object
  declared [] = []
  declared (part ∷ ps) = objects_of_part part ++ declared ps

  pub declared-append : (ps qs : List Part) → declared (ps ++ qs) ≡ declared ps ++ declared qs
  declared-append [] qs = refl
  declared-append (part ∷ ps) qs = ap (λ l. objects_of_part part ++ l) (declared-append ps qs) ∙ sym (append-assoc (objects_of_part part) (declared ps) (declared qs))

  -- a declaration stands behind these objects
  abbrev pub IsBehind : List Object → Part → Type 0
  IsBehind os (Declaring fixed s d) = s.objects ≡ os
  IsBehind os part = Unit {0}

  abbrev pub AreBehind : List Object → List Part → Type 0
  AreBehind os [] = Unit {0}
  AreBehind os (part ∷ ps) = IsBehind os part × AreBehind (os ++ objects_of_part part) ps

  behind_then : (os : List Object) (ps qs : List Part) → AreBehind os ps → AreBehind (os ++ declared ps) qs → AreBehind os (ps ++ qs)
  behind_then os [] qs h k = subst (λ l. AreBehind l qs) (append-nil os) k
  behind_then os (part ∷ ps) qs h k =
      (h.0, behind_then (os ++ objects_of_part part) ps qs h.1 (subst (λ l. AreBehind l qs) (sym (append-assoc os (objects_of_part part) (declared ps))) k))

  -- these parts lead from the objects a to the objects b
  pub record Leads (a b : List Object) (ps : List Part) : Type 0 where
    pub are : b ≡ a ++ declared ps
    pub behind : AreBehind a ps

  pub leads_none : {a : List Object} → Leads a a []
  leads_none {a} = record { are = sym (append-nil a); behind = tt }

  pub leads_then : {a b c : List Object} {ps qs : List Part} → Leads a b ps → Leads b c qs → Leads a c (ps ++ qs)
  leads_then {a} {b} {c} {ps} {qs} x y = record {
    are = y.are ∙ ap (λ l. l ++ declared qs) x.are ∙ append-assoc a (declared ps) (declared qs) ∙ ap (λ l. a ++ l) (sym (declared-append ps qs));
    behind = behind_then a ps qs x.behind (subst (λ l. AreBehind l qs) x.are y.behind);
  }

  pub none_declared : (ps : List Part) → AllOf IsQuiet ps → declared ps ≡ []
  none_declared [] h = refl
  none_declared (Expression es' r e ∷ ps) h = none_declared ps h.1
  none_declared (Declaring fixed s d ∷ ps) h = absurd h.0
  none_declared (Naming s e p ∷ ps) h = none_declared ps h.1
  none_declared (Initializing fixed s e ∷ ps) h = none_declared ps h.1
  none_declared (Returning result p given ∷ ps) h = none_declared ps h.1
  none_declared (Leaving may p ∷ ps) h = none_declared ps h.1
  none_declared (Labelling before w p ∷ ps) h = none_declared ps h.1
  none_declared (ArmLabelling before l p ∷ ps) h = none_declared ps h.1
  none_declared (CaseConstant es e ∷ ps) h = none_declared ps h.1

  behind_quiet : (os : List Object) (ps : List Part) → AllOf IsQuiet ps → AreBehind os ps
  behind_quiet os [] h = tt
  behind_quiet os (Expression es' r e ∷ ps) h = (tt, behind_quiet (os ++ []) ps h.1)
  behind_quiet os (Declaring fixed s d ∷ ps) h = absurd h.0
  behind_quiet os (Naming s e p ∷ ps) h = (tt, behind_quiet (os ++ []) ps h.1)
  behind_quiet os (Initializing fixed s e ∷ ps) h = (tt, behind_quiet (os ++ []) ps h.1)
  behind_quiet os (Returning result p given ∷ ps) h = (tt, behind_quiet (os ++ []) ps h.1)
  behind_quiet os (Leaving may p ∷ ps) h = (tt, behind_quiet (os ++ []) ps h.1)
  behind_quiet os (Labelling before w p ∷ ps) h = (tt, behind_quiet (os ++ []) ps h.1)
  behind_quiet os (ArmLabelling before l p ∷ ps) h = (tt, behind_quiet (os ++ []) ps h.1)
  behind_quiet os (CaseConstant es e ∷ ps) h = (tt, behind_quiet (os ++ []) ps h.1)

  pub leads_quiet : (a : List Object) (ps : List Part) → AllOf IsQuiet ps → Leads a a ps
  leads_quiet a ps h = record { are = sym (append-nil a) ∙ ap (λ l. a ++ l) (sym (none_declared ps h)); behind = behind_quiet a ps h }

  pub expression_leads : (a : List Object) (es : List Entry) (r : Role) (e : Exp) → Leads a a (parts es r e)
  expression_leads a es r e = leads_quiet a (parts es r e) (expression_quiet es r e)

  pub option_leads : (a : List Object) (es : List Entry) (r : Role) (e : Option Exp) → Leads a a (parts_if es r e)
  option_leads a es r e = leads_quiet a (parts_if es r e) (option_quiet es r e)

  pub arguments_lead : (a : List Object) (es : List Entry) (gs : Exps) → Leads a a (parts_of es gs)
  arguments_lead a es gs = leads_quiet a (parts_of es gs) (arguments_quiet es gs)

  part_leads : (a b : List Object) (part : Part) (ps : List Part) → IsQuiet part → Leads a b ps → Leads a b (part ∷ ps)
  part_leads a b part ps quiet h = leads_then (leads_quiet a (part ∷ []) (quiet, tt)) h

  pub init_leads : (a : List Object) (fixed : Bool) (s : Scope) (i : raw.Init) → Leads a a (parts_of_init fixed s i)
  init_leads a fixed s i = leads_quiet a (parts_of_init fixed s i) (init_quiet fixed s i)

  pub declaring_leads : (fixed : Bool) (s : Scope) (d : raw.Declared) → Leads s.objects (s.objects ++ object_of m bodies fixed (seen s) d ∷ []) (Declaring fixed s d ∷ [])
  declaring_leads fixed s d = record { are = refl; behind = (refl, tt) }

  pub name_leads : (fixed : Bool) (s : Scope) (d : raw.Declared) → Leads s.objects (after_name m bodies fixed s d).objects (parts_of_name m bodies fixed s d)
  name_leads fixed s d =
      leads_then (arguments_lead s.objects (seen s) (exps d.sizes))
      (leads_then (declaring_leads fixed s d) (init_leads (after_name m bodies fixed s d).objects fixed (after_name m bodies fixed s d) d.init))

  pub names_lead : (fixed : Bool) (s : Scope) (ds : List raw.Declared) → Leads s.objects (after_names m bodies fixed s ds).objects (parts_of_names m bodies fixed s ds)
  names_lead fixed s [] = leads_none
  names_lead fixed s (d ∷ ds) = leads_then (name_leads fixed s d) (names_lead fixed (after_name m bodies fixed s d) ds)

  pub first_leads : (s : Scope) (i : raw.First) → Leads s.objects (after_first m bodies s i).objects (parts_of_first m bodies s i)
  first_leads s raw.NoFirst = leads_none
  first_leads s (raw.FirstExp e) = expression_leads s.objects (seen s) Effect e
  first_leads s (raw.FirstDeclared ds) = names_lead false s ds

  mutual
    pub statement_leads : (result : Option IntType) (within : Within) (s : Scope) (x : raw.Stm) → Leads s.objects (after_statement m bodies s x).objects (parts_of_statement m bodies result within s x)
    statement_leads result within s (raw.Stmt p f) = form_leads result within s p f

    pub form_leads : (result : Option IntType) (within : Within) (s : Scope) (p : Spot) (f : raw.Form) → Leads s.objects (after_form m bodies s f).objects (parts_of_form m bodies result within s p f)
    form_leads result within s p raw.Empty = leads_none
    form_leads result within s p (raw.Do e) = expression_leads s.objects (seen s) Effect e
    form_leads result within s p (raw.Declare ds) = names_lead false s ds
    form_leads result within s p (raw.Block b) = block_leads result within (opened s) b
    form_leads result within s p (raw.If e a b) =
        leads_then (leads_then (expression_leads s.objects (seen s) Value e) (statement_leads result within (opened s) a))
        (else_leads result within (closed s (after_statement m bodies (opened s) a)) b)
    form_leads result within s p (raw.While e a) = leads_then (expression_leads s.objects (seen s) Value e) (statement_leads result in_loop (opened s) a)
    form_leads result within s p (raw.DoWhile a e) = leads_then (statement_leads result in_loop (opened s) a) (expression_leads _ (seen s) Value e)
    form_leads result within s p (raw.For i e u a) =
        let t = after_first m bodies (opened s) i in
        leads_then (leads_then (leads_then (first_leads (opened s) i) (option_leads t.objects (seen t) Value e)) (option_leads t.objects (seen t) Effect u))
        (statement_leads result in_loop (opened t) a)
    form_leads result within s p raw.Break = leads_quiet s.objects (Leaving within.breaks p ∷ []) (tt, tt)
    form_leads result within s p raw.Continue = leads_quiet s.objects (Leaving within.continues p ∷ []) (tt, tt)
    form_leads result within s p (raw.Return None) = leads_quiet s.objects (Returning result p false ∷ []) (tt, tt)
    form_leads result within s p (raw.Return (Some e)) = part_leads s.objects s.objects (Returning result p true) _ tt (expression_leads s.objects (seen s) Value e)
    form_leads result within s p (raw.Label w a) = statement_leads result within (opened s) a
    form_leads result within s p (raw.Switch e b) =
        leads_then (expression_leads s.objects (seen s) Value e) (arms_lead result (in_switch within) (switch_type (type_of (typed m bodies (seen s) e))) [] s b)

    pub else_leads : (result : Option IntType) (within : Within) (s : Scope) (b : raw.Else) → Leads s.objects (after_else m bodies s b).objects (parts_of_else m bodies result within s b)
    else_leads result within s raw.NoElse = leads_none
    else_leads result within s (raw.OrElse b) = statement_leads result within (opened s) b

    pub block_leads : (result : Option IntType) (within : Within) (s : Scope) (b : raw.Stms) → Leads s.objects (after_block m bodies s b).objects (parts_of_block m bodies result within s b)
    block_leads result within s raw.NoStm = leads_none
    block_leads result within s (raw.MoreStm x b) = leads_then (statement_leads result within s x) (block_leads result within (after_statement m bodies s x) b)
    block_leads result within s (raw.MoreCase p l b) = block_leads result within s b

    pub arms_lead : (result : Option IntType) (within : Within) (ty : IntType) (before : List (Option ArmLabel)) (s : Scope) (b : raw.Stms)
        → Leads s.objects (after_arms m bodies s b).objects (parts_of_arms m bodies result within ty before s b)
    arms_lead result within ty before s raw.NoStm = leads_none
    arms_lead result within ty before s (raw.MoreStm x b) =
        leads_then (statement_leads result within (opened s) x) (arms_lead result within ty before (closed s (after_statement m bodies (opened s) x)) b)
    arms_lead result within ty before s (raw.MoreCase p l b) =
        let label = label_of m bodies (seen s) ty l in
        part_leads s.objects _ (ArmLabelling before label p) _ tt
        (leads_then (leads_quiet s.objects (parts_of_label (seen s) l) (label_quiet (seen s) l)) (arms_lead result within ty (before ++ label ∷ []) s b))

  pub parameter_leads : (s : Scope) (x : raw.Param) (d : raw.Declared) → object_of m bodies false (seen s) d ≡ parameter x → Leads s.objects (s.objects ++ parameter x ∷ []) (Declaring false s d ∷ [])
  parameter_leads s x d e = record { are = ap (λ o. s.objects ++ o ∷ []) (sym e); behind = (refl, tt) }

  pub parameters_lead : (s : Scope) (xs : List raw.Param) → Leads s.objects (after_parameters s xs).objects (parts_of_parameters s xs)
  parameters_lead s [] = leads_none
  parameters_lead s (x ∷ xs) = leads_then (parameter_leads s x _ refl) (parameters_lead (with_object s (parameter x)) xs)

  pub item_leads : (s : Scope) (x : raw.Item) → Leads s.objects (after_item m bodies s x).objects (parts_of_item m bodies s x)
  item_leads s (raw.Function p name result xs body) =
      let t = inside s name result xs in let b = after_parameters t xs in
      part_leads s.objects _ (Naming s (entry_of_function name result xs) p) _ tt
      (leads_then (leads_then (parameters_lead t xs) (block_leads result in_body b (statements_of body))) (leads_quiet _ (parts_of_labels [] (labels_of body)) (labels_quiet [] (labels_of body))))
  item_leads s (raw.Prototype p name result types) = leads_quiet s.objects _ (tt, tt)
  item_leads s (raw.Global ds) = names_lead true s ds
  item_leads s (raw.Closed p name) = leads_none

  pub items_lead : (s : Scope) (xs : List raw.Item) → Leads s.objects (after_items m bodies s xs).objects (parts_of_items m bodies s xs)
  items_lead s [] = leads_none
  items_lead s (x ∷ xs) = leads_then (item_leads s x) (items_lead (after_item m bodies s x) xs)
