-- The refusals of a part, but for the order of operands: when each holds, and at which place it is reported.
use Rattle.std.specs.Prelude.{ℕ, ◌+◌, ◌*◌, nat_eq, nat_lt, nat_le, Bool, true, false, cond, not, ◌&&◌, ◌||◌, List, [], ◌∷◌, length, Option, Some, None, is_some, is_none}
use Rattle.std.specs.List.{list_any, sum_by}
use Rattle.std.specs.Str.{bytes_eq}
use Rattle.std.specs.Ordering.{int_eq}
use Rattle.c_core.specs.Parts.{type_of}
use Rattle.c_core.specs.Typing.{same_type, same_types}
use Rattle.c_core.specs.Program.{most_declared_cells}
use Rattle.c_core.specs.declared.number.IntType.{IntType}
use Rattle.c_core.specs.declared.number.DataModel.{DataModel}
use Rattle.c_core.specs.declared.number.Spot.{Spot}
use Rattle.c_core.specs.declared.tree.Label.{Label as ArmLabel}
use Rattle.c_core.specs.declared.tree.Label.TheVariants.{Case, Default}
use Rattle.c_core.specs.declared.tree.Object.{Object}
use Rattle.c_core.specs.declared.tree.Callee.{Callee}
use Rattle.c_core.specs.declared.tree.Callee.TheVariants as callee
use Rattle.c_parser.specs.Tree as raw
use Rattle.c_parser.specs.Tree.{Exp, Expr, Node, Number, Char, Var, Index, Unary, Cast, Step, Binary, Logic, Choose, Comma, Assign, Call, Exps, NoExp, MoreExp}
use Rattle.check_rules.specs.declared.sizes.Sizes.{Sizes}
use Rattle.check_rules.specs.declared.sizes.Sizes.TheVariants.{Scalar, Array, Table}
use Rattle.check_rules.specs.Names as kind
use Rattle.check_rules.specs.Names.{Kind, Entry, entry, built_in, named, is_function, result_of_callee, parameters_of_callee}
use Rattle.check_rules.specs.Constants.{constant, constant_type}
use Rattle.check_rules.specs.Typed.{typed}
use Rattle.check_rules.specs.Scopes.{Scope, seen, most_cells, dims_of, object_of, sizes_of}
use Rattle.check_rules.specs.Parts.{Role, Value, Target, Effect, Part, Expression, Declaring, Naming, Initializing, Returning, Leaving, Labelling, ArmLabelling, CaseConstant, bodies_of}

-- one of these names
abbrev pub is_among : List (List ℕ) → List ℕ → Bool
is_among names x = list_any (bytes_eq x) names

-- how many arguments, indexes or values
abbrev pub count : Exps → ℕ
count NoExp = 0
count (MoreExp e gs) = count gs + 1

-- where an expression begins
abbrev pub start : Exp → Spot
start (Expr p n) = p

-- ---- a word names nothing

-- the word that an expression uses, and its place
abbrev pub word_of : Node → Option (List ℕ)
word_of (Var x w) = Some x
word_of (Index x w is) = Some x
word_of (Call f w gs close) = Some f
word_of _ = None

-- where the node's own word stands
abbrev pub place_of_word : Spot → Node → Spot
place_of_word p (Var x w) = w
place_of_word p (Index x w is) = w
place_of_word p (Call f w gs close) = w
place_of_word p _ = p

-- a word that names nothing in scope
abbrev pub names_nothing : List Entry → Option (List ℕ) → Bool
names_nothing es None = false
names_nothing es (Some x) = is_none (named es x)

-- refused as `check-name`: an unknown name
abbrev pub nameless : Part → Bool
nameless (Expression es r (Expr p n)) = names_nothing es (word_of n)
nameless _ = false

-- ---- a name is declared again in one scope

-- the same types in the same order
abbrev pub same_lists : List IntType → List IntType → Bool
same_lists [] [] = true
same_lists [] (t ∷ ts) = false
same_lists (t ∷ ts) [] = false
same_lists (t ∷ ts) (u ∷ us) = same_type t u && same_lists ts us

-- parameters that both state are the same
abbrev pub agree : Option (List IntType) → Option (List IntType) → Bool
agree None types = true
agree (Some ts) None = true
agree (Some ts) (Some us) = same_lists ts us

-- two declarations of one name in one scope: prototypes and one definition may agree, and a closed item is no declaration here
abbrev pub clashes : Kind → Kind → Bool
clashes kind.Closed k = false
clashes k kind.Closed = false
clashes (kind.Function result stated has_body) (kind.Function result' stated' has_body') =
    not (same_types result result') || (not (agree stated stated') || (has_body && has_body'))
clashes _ _ = true

-- an entry of the innermost scope and a new one of the same name clash
abbrev pub is_again : Scope → Entry → Bool
is_again s e = list_any (λ earlier. bytes_eq earlier.name e.name && clashes earlier.kind e.kind) s.inner

-- a built-in function but `reach_error` has no body, and its own result
abbrev pub alters : Option Callee → Kind → Bool
alters None k = false
alters (Some callee.ReachError) k = false
alters (Some built) (kind.Function result stated has_body) = has_body || not (same_types (result_of_callee built) result)
alters _ _ = false

-- what a declared object is called, and what it is
abbrev pub entry_of : Bool → Scope → raw.Declared → Entry
entry_of fixed s d = entry d.name (kind.Object (length s.objects) d.ty (dims_of d.sizes) fixed)

-- they are of one constant, or both `default`; what is no constant differs from all
abbrev pub same_label : ArmLabel → Option ArmLabel → Bool
same_label l None = false
same_label (Case c) (Some (Case d)) = int_eq c d
same_label (Case c) (Some Default) = false
same_label Default (Some (Case d)) = false
same_label Default (Some Default) = true

-- one of these labels
abbrev pub is_chosen : List (Option ArmLabel) → Option ArmLabel → Bool
is_chosen before None = false
is_chosen before (Some l) = list_any (same_label l) before

-- refused as `check-again`: declared twice, or a label set twice, also that of an arm
abbrev pub doubled : Part → Bool
doubled (Declaring fixed s d) = is_again s (entry_of fixed s d)
doubled (Naming s e p) = is_again s e || alters (built_in e.name) e.kind
doubled (Labelling before w p) = is_among before w
doubled (ArmLabelling before l p) = is_chosen before l
doubled _ = false

-- an array without index, or a function without a call
abbrev pub is_no_scalar : Option Kind → Bool
is_no_scalar None = false
is_no_scalar (Some (kind.Object n ty dims fixed)) = not (nat_eq dims 0)
is_no_scalar (Some (kind.Function result stated has_body)) = true
is_no_scalar (Some kind.Closed) = true

-- an index on a scalar or on a function, or fewer or more indexes than dimensions
abbrev pub is_no_element : ℕ → Option Kind → Bool
is_no_element n None = false
is_no_element n (Some (kind.Object o ty dims fixed)) = nat_eq dims 0 || not (nat_eq dims n)
is_no_element n (Some (kind.Function result stated has_body)) = true
is_no_element n (Some kind.Closed) = true

-- how many parameters a declaration states
abbrev pub count_in : Kind → Option ℕ
count_in (kind.Object n ty dims fixed) = None
count_in (kind.Function result None has_body) = None
count_in (kind.Function result (Some types) has_body) = Some (length types)
count_in kind.Closed = None

-- the first of the two that there is
abbrev pub or_else : Option ℕ → Option ℕ → Option ℕ
or_else None o = o
or_else (Some n) o = Some n

-- how many the first declaration in scope states that states them
abbrev pub count_stated : List Entry → List ℕ → Option ℕ
count_stated [] f = None
count_stated (e ∷ es) f = or_else (cond (bytes_eq e.name f) (count_in e.kind) None) (count_stated es f)

-- how many the definition has, wherever it stands
abbrev pub count_defined : List raw.Item → List ℕ → Option ℕ
count_defined [] f = None
count_defined (raw.Function p name result xs body ∷ rest) f = cond (bytes_eq name f) (Some (length xs)) (count_defined rest f)
count_defined (item ∷ rest) f = count_defined rest f

-- there is a number, and it is another
abbrev pub is_not : ℕ → Option ℕ → Bool
is_not n None = false
is_not n (Some k) = not (nat_eq n k)

-- one is void and the other has a value
abbrev pub is_one_void : Option IntType → Option IntType → Bool
is_one_void None b = is_some b
is_one_void (Some a) b = is_none b

-- an object or an element (C11 6.3.2.1p1)
abbrev pub is_place : Node → Bool
is_place (Var x w) = true
is_place (Index x w is) = true
is_place _ = false

-- a list for a scalar, though C11 6.7.9p11 allows braces there; a single value for an array (C11 6.7.9p16); rows for other than two
-- dimensions
abbrev pub is_wrong_init : ℕ → raw.Init → Bool
is_wrong_init dims raw.Absent = false
is_wrong_init dims (raw.One e) = not (nat_eq dims 0)
is_wrong_init dims (raw.Many gs) = nat_eq dims 0
is_wrong_init dims (raw.Rows rows) = not (nat_eq dims 2)

-- a value in a void function, or none in another (C11 6.8.6.4p1)
abbrev pub is_wrong_return : Option IntType → Bool → Bool
is_wrong_return None given = given
is_wrong_return (Some ty) given = not given

-- how many values an initializer has, or rows
abbrev pub count_of_init : raw.Init → ℕ
count_of_init raw.Absent = 0
count_of_init (raw.One e) = 1
count_of_init (raw.Many gs) = count gs
count_of_init (raw.Rows rows) = length rows

-- no constant from 1 to 1,024, or fewer elements than initializers
abbrev pub is_too_small : ℕ → Option ℕ → Bool
is_too_small n None = true
is_too_small n (Some size) = nat_lt size n

-- more values than this many rows of this many columns have room for: in a list without rows they fill cell by cell
abbrev pub overfills : ℕ → ℕ → raw.Init → Bool
overfills a b raw.Absent = false
overfills a b (raw.One e) = false
overfills a b (raw.Many gs) = nat_lt (a * b) (count gs)
overfills a b (raw.Rows rows) = nat_lt a (length rows) || list_any (λ row. nat_lt b (count row)) rows

-- no two constants from 1 to 1,024, more cells than an array may have, or fewer than initializers
abbrev pub is_wrong_table : Option ℕ → Option ℕ → raw.Init → Bool
is_wrong_table None b init = true
is_wrong_table (Some a) None init = true
is_wrong_table (Some a) (Some b) init = nat_lt most_cells (a * b) || overfills a b init

-- a size that is none, too many cells, or fewer than initializers
abbrev pub is_wrong_size : Sizes → raw.Init → Bool
is_wrong_size Scalar init = false
is_wrong_size (Array a) init = is_too_small (count_of_init init) a
is_wrong_size (Table a b) init = is_wrong_table a b init

-- the names of closed items
abbrev pub closed_names : List raw.Item → List (List ℕ)
closed_names [] = []
closed_names (raw.Closed p name ∷ rest) = name ∷ closed_names rest
closed_names (item ∷ rest) = closed_names rest

-- the cells of objects together
abbrev pub cells_of_all : List Object → ℕ
cells_of_all objects = sum_by (λ o. o.cells) objects

-- the limit on cells is passed with this object
abbrev pub passes_limit : ℕ → ℕ → Bool
passes_limit before cells = nat_le before most_declared_cells && nat_lt most_declared_cells (before + cells)

-- it was passed before, or is passed with this object
abbrev pub is_over_limit : ℕ → ℕ → Bool
is_over_limit before cells = nat_lt most_declared_cells before || passes_limit before cells

module _ (m : DataModel) (items : List raw.Item) where
  -- ---- types

  -- how many arguments a call wants, if anything says it
  abbrev pub count_for : Option Callee → List Entry → List ℕ → Option ℕ
  count_for None es f = or_else (count_stated es f) (count_defined items f)
  count_for (Some built) es f = Some (length (parameters_of_callee built))

  -- an object is called, or a function with another number of arguments
  abbrev pub miscalled : List Entry → List ℕ → ℕ → Option Kind → Bool
  miscalled es f n None = false
  miscalled es f n (Some (kind.Object o ty dims fixed)) = true
  miscalled es f n (Some k) = is_not n (count_for (built_in f) es f)

  -- the type of an expression where these names are seen
  abbrev pub type_in : List Entry → Exp → Option IntType
  type_in es e = type_of (typed m (bodies_of items) es e)

  -- a constant without type, a word or a call of the wrong kind, a choice with one void arm
  abbrev pub misused : List Entry → Node → Bool
  misused es (Number v decimal unsigned longs) = is_none (constant_type m v decimal unsigned longs)
  misused es (Var x w) = is_no_scalar (named es x)
  misused es (Index x w is) = is_no_element (count is) (named es x)
  misused es (Choose mark e a b) = is_one_void (type_in es a) (type_in es b)
  misused es (Call f w gs close) = miscalled es f (count gs) (named es f)
  misused es _ = false

  -- void where a value is needed, or something to store to that is no place
  abbrev pub unfit : Role → List Entry → Exp → Bool
  unfit Value es e = is_none (type_in es e)
  unfit Target es (Expr p n) = not (is_place n)
  unfit Effect es e = false

  -- refused as `check-typing`
  abbrev pub mistyped : Part → Bool
  mistyped (Expression es r (Expr p n)) = misused es n || unfit r es (Expr p n)
  mistyped (Declaring fixed s d) = is_wrong_init (dims_of d.sizes) d.init
  mistyped (Initializing fixed s e) = fixed && is_none (constant m (typed m (bodies_of items) (seen s) e))
  mistyped (Returning result p given) = is_wrong_return result given
  mistyped (Leaving may p) = not may
  mistyped (CaseConstant es e) = is_none (constant m (typed m (bodies_of items) es e))
  mistyped _ = false

  -- ---- sizes

  -- refused as `check-size`
  abbrev pub missized : Part → Bool
  missized (Declaring fixed s d) = is_wrong_size (sizes_of m (bodies_of items) (seen s) d.sizes) d.init
  missized _ = false

  -- ---- functions without a body

  -- a closed item of that name stands somewhere, or it is neither built in nor has a body
  abbrev pub is_bodiless : List ℕ → Bool
  is_bodiless f = is_among (closed_names items) f || (is_none (built_in f) && not (is_among (bodies_of items) f))

  -- a call of a function without a body
  abbrev pub calls_bodiless : List Entry → Node → Bool
  calls_bodiless es (Call f w gs close) = is_function (named es f) && is_bodiless f
  calls_bodiless es _ = false

  -- refused as `check-body`
  abbrev pub bodiless : Part → Bool
  bodiless (Expression es r (Expr p n)) = calls_bodiless es n
  bodiless _ = false

  -- ---- the sum of all cells

  -- the declaration that brings the sum over the limit
  abbrev pub crowded : Part → Bool
  crowded (Declaring fixed s d) = passes_limit (cells_of_all s.objects) (object_of m (bodies_of items) fixed (seen s) d).cells
  crowded _ = false

-- ---- places

-- where a part begins: an expression, an initializer, a case constant, a statement; a declared name, a label, the word of an arm
abbrev pub place_of : Part → Spot
place_of (Expression es r e) = start e
place_of (Declaring fixed s d) = d.spot
place_of (Naming s e p) = p
place_of (Initializing fixed s e) = start e
place_of (Returning result p given) = p
place_of (Leaving may p) = p
place_of (Labelling before w p) = p
place_of (ArmLabelling before l p) = p
place_of (CaseConstant es e) = start e

-- that a word names nothing is reported at the word
abbrev pub place_of_name : Part → Spot
place_of_name (Expression es r (Expr p n)) = place_of_word p n
place_of_name part = place_of part
