-- The parts of a source, each with what it sees. A refusal is always one of a part.
use Rattle.std.specs.Prelude.{ℕ, Bool, true, false, List, [], ◌∷◌, ◌++◌, Option, Some, None, is_some}
use Rattle.std.specs.List.{flat_map}
use Rattle.c_core.specs.declared.number.IntType.{IntType}
use Rattle.c_core.specs.declared.number.DataModel.{DataModel}
use Rattle.c_core.specs.declared.number.Spot.{Spot}
use Rattle.c_parser.specs.Tree as raw
use Rattle.c_core.specs.Parts.{type_of}
use Rattle.c_core.specs.declared.tree.Label.{Label as ArmLabel}
use Rattle.check_rules.specs.Typed.{typed}
use Rattle.check_rules.specs.Arms.{switch_type, label_of}
use Rattle.c_parser.specs.Tree.{Exp, Expr, Node, Number, Char, Var, Index, Unary, Cast, Step, Binary, Logic, Choose, Comma, Assign, Call, Exps, NoExp, MoreExp, exps}
use Rattle.check_rules.specs.declared.within.Within.{Within}
use Rattle.check_rules.specs.Names.{Entry}
use Rattle.check_rules.specs.Scopes.{Scope, seen, opened, closed, with_object, after_name, after_first, after_statement, after_item, after_parameters, inside, parameter, statements_of, entry_of_function, entry_of_prototype, outermost}

-- what an expression is there for: its value, what is stored to it, or its effect, where it may be void
pub data Role : Type 0 where
  Value : Role
  Target : Role
  Effect : Role

-- what a rule is asked of, with all that it needs of what is around it
pub data Part : Type 0 where
  -- an expression, with the names that it sees
  Expression : List Entry → Role → Exp → Part
  -- a declared name, with the scope before it; `fixed`: outside of functions
  Declaring : Bool → Scope → raw.Declared → Part
  -- a function or a prototype as an entry, with the scope before it
  Naming : Scope → Entry → Spot → Part
  -- a value of the last name of the scope; `fixed`: of static storage
  Initializing : Bool → Scope → Exp → Part
  -- `return` in a function of this result; is there a value?
  Returning : Option IntType → Spot → Bool → Part
  -- `break` or `continue`; may it stand there?
  Leaving : Bool → Spot → Part
  -- a label, with those before it in its function
  Labelling : List (List ℕ) → List ℕ → Spot → Part
  -- the label of an arm, with those before it in its `switch`; what is no constant is none
  ArmLabelling : List (Option ArmLabel) → Option ArmLabel → Spot → Part
  -- a case constant, with the names that it sees
  CaseConstant : List Entry → Exp → Part

-- a cast to void wants no value of its operand
abbrev pub of_cast : Option IntType → Role
of_cast None = Effect
of_cast (Some ty) = Value

-- around the body of a function
abbrev pub in_body : Within
in_body = record { breaks = false; continues = false }

-- around the body of a loop
abbrev pub in_loop : Within
in_loop = record { breaks = true; continues = true }

-- around the arms of a `switch`
abbrev pub in_switch : Within → Within
in_switch within = record { breaks = true; continues = within.continues }

-- every expression in an expression
module _ (es : List Entry) where
  abbrev mutual
    -- an expression and the expressions in it, with what is asked of each
    pub parts : Role → Exp → List Part
    parts r (Expr p n) = Expression es r (Expr p n) ∷ parts_in n

    -- the parts of a node, with what is asked of each
    pub parts_in : Node → List Part
    parts_in (Index x w is) = parts_of is
    parts_in (Unary op a) = parts Value a
    parts_in (Cast to a) = parts (of_cast to) a
    parts_in (Step op a) = parts Target a
    parts_in (Binary op a b) = parts Value a ++ parts Value b
    parts_in (Logic both a b) = parts Value a ++ parts Value b
    -- the arms, and the right side of a comma, may be void
    parts_in (Choose mark e a b) = parts Value e ++ parts Effect a ++ parts Effect b
    parts_in (Comma a b) = parts Effect a ++ parts Effect b
    parts_in (Assign op a b) = parts Target a ++ parts Value b
    parts_in (Call f w gs close) = parts_of gs
    parts_in _ = []

    -- the parts of arguments, each of which has a value
    pub parts_of : Exps → List Part
    parts_of NoExp = []
    parts_of (MoreExp e gs) = parts Value e ++ parts_of gs

-- the parts of a case constant
abbrev pub parts_of_label : List Entry → raw.ArmLabel → List Part
parts_of_label es (raw.Case e) = CaseConstant es e ∷ parts es Value e
parts_of_label es raw.Default = []

-- the parts of it, where there is one
abbrev pub parts_if : List Entry → Role → Option Exp → List Part
parts_if es r None = []
parts_if es r (Some e) = parts es r e

-- an initializer of the last name of the scope s, whose storage is static where `fixed`
abbrev pub parts_of_value : Bool → Scope → Exp → List Part
parts_of_value fixed s e = Initializing fixed s e ∷ parts (seen s) Value e

-- the parts of the values of a list
abbrev pub parts_of_values : Bool → Scope → Exps → List Part
parts_of_values fixed s NoExp = []
parts_of_values fixed s (MoreExp e gs) = parts_of_value fixed s e ++ parts_of_values fixed s gs

-- the parts of an initializer
abbrev pub parts_of_init : Bool → Scope → raw.Init → List Part
parts_of_init fixed s raw.Absent = []
parts_of_init fixed s (raw.One e) = parts_of_value fixed s e
parts_of_init fixed s (raw.Many gs) = parts_of_values fixed s gs
parts_of_init fixed s (raw.Rows rows) = flat_map (parts_of_values fixed s) rows

module _ (m : DataModel) (bodies : List (List ℕ)) where
  -- the parts of a declared name: its sizes, itself, its initializer
  abbrev pub parts_of_name : Bool → Scope → raw.Declared → List Part
  parts_of_name fixed s d = parts_of (seen s) (exps d.sizes) ++ Declaring fixed s d ∷ parts_of_init fixed (after_name m bodies fixed s d) d.init

  -- the parts of declared names, each in the scope after the one before
  abbrev pub parts_of_names : Bool → Scope → List raw.Declared → List Part
  parts_of_names fixed s [] = []
  parts_of_names fixed s (d ∷ ds) = parts_of_name fixed s d ++ parts_of_names fixed (after_name m bodies fixed s d) ds

  -- the parts of the first part of `for (`
  abbrev pub parts_of_first : Scope → raw.First → List Part
  parts_of_first s raw.NoFirst = []
  parts_of_first s (raw.FirstExp e) = parts (seen s) Effect e
  parts_of_first s (raw.FirstDeclared ds) = parts_of_names false s ds

  -- in a function of this result; `within`: what stands around the statement
  module _ (result : Option IntType) where
    abbrev mutual
      -- the parts of a statement, in the scope before it
      pub parts_of_statement : Within → Scope → raw.Stm → List Part
      parts_of_statement within s (raw.Stmt p f) = parts_of_form within s p f

      -- the parts of a statement by its form
      pub parts_of_form : Within → Scope → Spot → raw.Form → List Part
      parts_of_form within s p (raw.Do e) = parts (seen s) Effect e
      parts_of_form within s p (raw.Declare ds) = parts_of_names false s ds
      parts_of_form within s p (raw.Block b) = parts_of_block within (opened s) b
      parts_of_form within s p (raw.If e a b) =
          parts (seen s) Value e ++ parts_of_statement within (opened s) a ++ parts_of_else within (closed s (after_statement m bodies (opened s) a)) b
      parts_of_form within s p (raw.While e a) = parts (seen s) Value e ++ parts_of_statement in_loop (opened s) a
      parts_of_form within s p (raw.DoWhile a e) = parts_of_statement in_loop (opened s) a ++ parts (seen s) Value e
      parts_of_form within s p (raw.For i e u a) =
          parts_of_first (opened s) i ++ parts_if (seen (after_first m bodies (opened s) i)) Value e ++ parts_if (seen (after_first m bodies (opened s) i)) Effect u ++
          parts_of_statement in_loop (opened (after_first m bodies (opened s) i)) a
      parts_of_form within s p raw.Break = Leaving within.breaks p ∷ []
      parts_of_form within s p raw.Continue = Leaving within.continues p ∷ []
      parts_of_form within s p (raw.Return e) = Returning result p (is_some e) ∷ parts_if (seen s) Value e
      parts_of_form within s p (raw.Label w a) = parts_of_statement within (opened s) a
      parts_of_form within s p (raw.Switch e b) =
          parts (seen s) Value e ++ parts_of_arms (in_switch within) (switch_type (type_of (typed m bodies (seen s) e))) [] s b
      parts_of_form within s p raw.Empty = []

      -- the parts of the second arm, a block of its own
      pub parts_of_else : Within → Scope → raw.Else → List Part
      parts_of_else within s raw.NoElse = []
      parts_of_else within s (raw.OrElse b) = parts_of_statement within (opened s) b

      -- the parts of a block's statements, each in the scope after the one before
      pub parts_of_block : Within → Scope → raw.Stms → List Part
      parts_of_block within s raw.NoStm = []
      parts_of_block within s (raw.MoreStm x b) = parts_of_statement within s x ++ parts_of_block within (after_statement m bodies s x) b
      parts_of_block within s (raw.MoreCase p l b) = parts_of_block within s b

      -- the parts of the arms of a `switch`, whose constants are of the type ty, after these labels
      pub parts_of_arms : Within → IntType → List (Option ArmLabel) → Scope → raw.Stms → List Part
      parts_of_arms within ty before s raw.NoStm = []
      parts_of_arms within ty before s (raw.MoreStm x b) =
          parts_of_statement within (opened s) x ++ parts_of_arms within ty before (closed s (after_statement m bodies (opened s) x)) b
      parts_of_arms within ty before s (raw.MoreCase p l b) =
          ArmLabelling before (label_of m bodies (seen s) ty l) p ∷ parts_of_label (seen s) l ++ parts_of_arms within ty (before ++ label_of m bodies (seen s) ty l ∷ []) s b

-- the labels of a statement, in the order of the text
pub record Label : Type 0 where
  pub name : List ℕ
  pub spot : Spot

abbrev mutual
  -- the labels of a statement, in the order of the text
  pub labels_of : raw.Stm → List Label
  labels_of (raw.Stmt p f) = labels_in p f

  -- the labels of a statement by its form
  pub labels_in : Spot → raw.Form → List Label
  labels_in p (raw.Block b) = labels_of_block b
  labels_in p (raw.If e a b) = labels_of a ++ labels_of_else b
  labels_in p (raw.While e a) = labels_of a
  labels_in p (raw.DoWhile a e) = labels_of a
  labels_in p (raw.For i e u a) = labels_of a
  labels_in p (raw.Label w a) = record { name = w; spot = p } ∷ labels_of a
  labels_in p (raw.Switch e b) = labels_of_block b
  labels_in p _ = []

  -- the labels of the second arm
  pub labels_of_else : raw.Else → List Label
  labels_of_else raw.NoElse = []
  labels_of_else (raw.OrElse b) = labels_of b

  -- the labels of a block's statements, or of those in arms
  pub labels_of_block : raw.Stms → List Label
  labels_of_block raw.NoStm = []
  labels_of_block (raw.MoreStm x b) = labels_of x ++ labels_of_block b
  labels_of_block (raw.MoreCase p l b) = labels_of_block b

-- each label, with those before it
abbrev pub parts_of_labels : List (List ℕ) → List Label → List Part
parts_of_labels before [] = []
parts_of_labels before (l ∷ ls) = Labelling before l.name l.spot ∷ parts_of_labels (before ++ l.name ∷ []) ls

-- the parts of parameters, each in the scope after the one before
abbrev pub parts_of_parameters : Scope → List raw.Param → List Part
parts_of_parameters s [] = []
parts_of_parameters s (x ∷ xs) = Declaring false s (plain x) ∷ parts_of_parameters (with_object s (parameter x)) xs
  where
    -- a parameter is declared as an object without sizes and initializer is
    plain : raw.Param → raw.Declared
    plain x = record { spot = x.spot; name = x.name; ty = x.ty; sizes = []; init = raw.Absent }

module _ (m : DataModel) (bodies : List (List ℕ)) where
  -- what stands in a function's body
  abbrev pub parts_of_body : Scope → List ℕ → Option IntType → List raw.Param → raw.Stm → List Part
  parts_of_body s name result xs body = parts_of_block m bodies result in_body (after_parameters (inside s name result xs) xs) (statements_of body)

  -- the parts of an item, in the scope before it
  abbrev pub parts_of_item : Scope → raw.Item → List Part
  parts_of_item s (raw.Function p name result xs body) =
      Naming s (entry_of_function name result xs) p ∷ parts_of_parameters (inside s name result xs) xs ++ parts_of_body s name result xs body ++ parts_of_labels [] (labels_of body)
  parts_of_item s (raw.Prototype p name result types) = Naming s (entry_of_prototype name result types) p ∷ []
  parts_of_item s (raw.Global ds) = parts_of_names m bodies true s ds
  parts_of_item s (raw.Closed p name) = []

  -- the parts of items, each in the scope after the one before
  abbrev pub parts_of_items : Scope → List raw.Item → List Part
  parts_of_items s [] = []
  parts_of_items s (x ∷ xs) = parts_of_item s x ++ parts_of_items (after_item m bodies s x) xs

-- the names of the functions with a body, in the order of the source
abbrev pub bodies_of : List raw.Item → List (List ℕ)
bodies_of [] = []
bodies_of (raw.Function p name result xs body ∷ items) = name ∷ bodies_of items
bodies_of (item ∷ items) = bodies_of items

-- every part of a source
abbrev pub parts_of_source : DataModel → List raw.Item → List Part
parts_of_source m items = parts_of_items m (bodies_of items) outermost items
