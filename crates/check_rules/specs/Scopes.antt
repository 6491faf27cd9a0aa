-- Scopes, and what is declared after each part of a source (C11 6.2.1, 6.8p3).
use Rattle.std.specs.Prelude.{ℕ, ◌*◌, nat_le, Bool, true, false, cond, ◌&&◌, ℤ, pos, negsuc, List, [], ◌∷◌, ◌++◌, length, map, Option, Some, None}
use Rattle.c_core.specs.declared.number.IntType.{IntType}
use Rattle.c_core.specs.declared.number.DataModel.{DataModel}
use Rattle.c_core.specs.declared.tree.Object.{Object}
use Rattle.c_parser.specs.Tree as raw
use Rattle.check_rules.specs.declared.sizes.Sizes.{Sizes}
use Rattle.check_rules.specs.declared.sizes.Sizes.TheVariants.{Scalar, Array, Table}
use Rattle.check_rules.specs.Names as kind
use Rattle.check_rules.specs.Names.{Kind, Entry, entry, built_in, is_input}
use Rattle.check_rules.specs.Constants.{constant}
use Rattle.check_rules.specs.Typed.{typed}

-- the names of the scopes around, those of the innermost scope, and the objects of the source so far
pub record Scope : Type 0 where
  pub outer : List Entry
  pub inner : List Entry
  pub objects : List Object

-- what is in scope, innermost last
abbrev pub seen : Scope → List Entry
seen s = s.outer ++ s.inner

-- what is seen outside, what is declared here, and the objects so far
abbrev pub scope : List Entry → List Entry → List Object → Scope
scope outer inner objects = record { outer = outer; inner = inner; objects = objects }

-- a scope in a scope begins
abbrev pub opened : Scope → Scope
opened s = scope (seen s) [] s.objects

-- the scope s again, after a scope in it that ended as t
abbrev pub closed : Scope → Scope → Scope
closed s t = scope s.outer s.inner t.objects

-- with one name more
abbrev pub with_entry : Scope → Entry → Scope
with_entry s e = scope s.outer (s.inner ++ e ∷ []) s.objects

-- objects are numbered in the order of their declarations
abbrev pub with_object : Scope → Object → Scope
with_object s o =
    scope s.outer (s.inner ++ entry o.name (kind.Object (length s.objects) o.ty o.dims o.fixed) ∷ []) (s.objects ++ o ∷ [])

-- the most cells of an array
abbrev pub most_cells : ℕ
most_cells = 1024

-- a size is from 1 to that
abbrev pub in_bounds : ℕ → Option ℕ
in_bounds n = cond (nat_le 1 n && nat_le n most_cells) (Some n) None

-- a value as a size, if it is one
abbrev pub as_size : Option ℤ → Option ℕ
as_size None = None
as_size (Some (pos n)) = in_bounds n
as_size (Some (negsuc n)) = None

-- as many dimensions as sizes
abbrev pub dims_of : List raw.Exp → ℕ
dims_of [] = 0
dims_of (e ∷ []) = 1
dims_of (e ∷ f ∷ more) = 2

-- a size that is none counts as 1; a product over the limit counts as it is, since Size comes first at its place
abbrev pub cells_or_one : Option ℕ → ℕ
cells_or_one None = 1
cells_or_one (Some n) = n

-- all cells: those of all rows
abbrev pub cells_in : Sizes → ℕ
cells_in Scalar = 1
cells_in (Array a) = cells_or_one a
cells_in (Table a b) = cells_or_one a * cells_or_one b

-- the cells of a row; without rows each cell is one
abbrev pub columns_in : Sizes → ℕ
columns_in Scalar = 1
columns_in (Array a) = 1
columns_in (Table a b) = cells_or_one b

module _ (m : DataModel) (bodies : List (List ℕ)) where
  -- the size of an array: a constant from 1 to 1,024
  abbrev pub size_of : List Entry → raw.Exp → Option ℕ
  size_of es e = as_size (constant m (typed m bodies es e))

  -- the sizes that a declared name states
  abbrev pub sizes_of : List Entry → List raw.Exp → Sizes
  sizes_of es [] = Scalar
  sizes_of es (e ∷ []) = Array (size_of es e)
  sizes_of es (e ∷ f ∷ more) = Table (size_of es e) (size_of es f)

  abbrev pub cells_of : List Entry → List raw.Exp → ℕ
  cells_of es sizes = cells_in (sizes_of es sizes)

  abbrev pub columns_of : List Entry → List raw.Exp → ℕ
  columns_of es sizes = columns_in (sizes_of es sizes)

  -- the object of a declared name; `fixed`: outside of functions
  abbrev pub object_of : Bool → List Entry → raw.Declared → Object
  object_of fixed es d = record { name = d.name; ty = d.ty; cells = cells_of es d.sizes; columns = columns_of es d.sizes; dims = dims_of d.sizes; fixed = fixed; spot = d.spot }

  -- a name is in scope after its declarator, its initializer included (C11 6.2.1p7)
  abbrev pub after_name : Bool → Scope → raw.Declared → Scope
  after_name fixed s d = with_object s (object_of fixed (seen s) d)

  -- the scope after declared names
  abbrev pub after_names : Bool → Scope → List raw.Declared → Scope
  after_names fixed s [] = s
  after_names fixed s (d ∷ ds) = after_names fixed (after_name fixed s d) ds

  -- the scope after the first part of `for (`
  abbrev pub after_first : Scope → raw.First → Scope
  after_first s raw.NoFirst = s
  after_first s (raw.FirstExp e) = s
  after_first s (raw.FirstDeclared ds) = after_names false s ds

  -- what is declared after a statement; a part of a statement is a block (C11 6.8.4p3, 6.8.5p5)
  abbrev mutual
    pub after_statement : Scope → raw.Stm → Scope
    after_statement s (raw.Stmt p f) = after_form s f

    pub after_form : Scope → raw.Form → Scope
    after_form s (raw.Declare ds) = after_names false s ds
    after_form s (raw.Block b) = closed s (after_block (opened s) b)
    after_form s (raw.If e a b) = after_else (closed s (after_statement (opened s) a)) b
    after_form s (raw.While e a) = closed s (after_statement (opened s) a)
    after_form s (raw.DoWhile a e) = closed s (after_statement (opened s) a)
    after_form s (raw.For i e u a) = closed s (after_statement (opened (after_first (opened s) i)) a)
    after_form s (raw.Label w a) = closed s (after_statement (opened s) a)
    after_form s (raw.Switch e b) = after_arms s b
    after_form s _ = s

    pub after_else : Scope → raw.Else → Scope
    after_else s raw.NoElse = s
    after_else s (raw.OrElse b) = closed s (after_statement (opened s) b)

    pub after_block : Scope → raw.Stms → Scope
    after_block s raw.NoStm = s
    after_block s (raw.MoreStm x b) = after_block (after_statement s x) b
    after_block s (raw.MoreCase p l b) = after_block s b

    -- each statement of an arm is a block
    pub after_arms : Scope → raw.Stms → Scope
    after_arms s raw.NoStm = s
    after_arms s (raw.MoreStm x b) = after_arms (closed s (after_statement (opened s) x)) b
    after_arms s (raw.MoreCase p l b) = after_arms s b

-- the object of a parameter
abbrev pub parameter : raw.Param → Object
parameter x = record { name = x.name; ty = x.ty; cells = 1; columns = 1; dims = 0; fixed = false; spot = x.spot }

-- the scope after parameters
abbrev pub after_parameters : Scope → List raw.Param → Scope
after_parameters s [] = s
after_parameters s (x ∷ xs) = after_parameters (with_object s (parameter x)) xs

-- the statements of a body
abbrev pub statements_of : raw.Stm → raw.Stms
statements_of (raw.Stmt p (raw.Block b)) = b
statements_of _ = raw.NoStm

-- prototypes of input functions are compared by their results alone
abbrev pub stated_by : List ℕ → Option (List IntType) → Option (List IntType)
stated_by name types = cond (is_input (built_in name)) None types

-- the types of parameters
abbrev pub types_of : List raw.Param → List IntType
types_of xs = map (λ x. x.ty) xs

-- what a function with a body is called, and what it is
abbrev pub entry_of_function : List ℕ → Option IntType → List raw.Param → Entry
entry_of_function name result xs = entry name (kind.Function result (Some (types_of xs)) true)

-- what a prototype is called, and what it is
abbrev pub entry_of_prototype : List ℕ → Option IntType → Option (List IntType) → Entry
entry_of_prototype name result types = entry name (kind.Function result (stated_by name types) false)

-- where a function's parameters begin; they and its body's outermost block are one scope (C11 6.2.1p4)
abbrev pub inside : Scope → List ℕ → Option IntType → List raw.Param → Scope
inside s name result xs = opened (with_entry s (entry_of_function name result xs))

module _ (m : DataModel) (bodies : List (List ℕ)) where
  -- the scope after an item
  abbrev pub after_item : Scope → raw.Item → Scope
  after_item s (raw.Function p name result xs body) =
      closed (with_entry s (entry_of_function name result xs)) (after_block m bodies (after_parameters (inside s name result xs) xs) (statements_of body))
  after_item s (raw.Prototype p name result types) = with_entry s (entry_of_prototype name result types)
  after_item s (raw.Global ds) = after_names m bodies true s ds
  after_item s (raw.Closed p name) = with_entry s (entry name kind.Closed)

  -- the scope after items
  abbrev pub after_items : Scope → List raw.Item → Scope
  after_items s [] = s
  after_items s (x ∷ xs) = after_items (after_item s x) xs

-- the scope before the first item
abbrev pub outermost : Scope
outermost = scope [] [] []
