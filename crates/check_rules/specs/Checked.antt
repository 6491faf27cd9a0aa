-- The checked program of a source.
use Rattle.std.specs.Prelude.{◌≡◌, ℕ, ◌+◌, ◌-◌, true, false, cond, ◌||◌, ℤ, pos, List, [], ◌∷◌, ◌++◌, length, map, replicate, Option, Some, None, codes}
use Rattle.std.specs.List.{position_or_len, flat_map}
use Rattle.std.specs.Str.{bytes_eq}
use Rattle.c_core.specs.Types.{fit}
use Rattle.c_core.specs.Tree as t
use Rattle.c_core.specs.Parts.{type_of}
use Rattle.c_core.specs.declared.number.IntType.{IntType}
use Rattle.c_core.specs.declared.number.DataModel.{DataModel}
use Rattle.c_core.specs.declared.number.Property.{Property}
use Rattle.c_core.specs.declared.number.Spot.{Spot}
use Rattle.c_core.specs.declared.tree.Label.{Label as ArmLabel}
use Rattle.c_core.specs.declared.tree.Label.TheVariants.{Case}
use Rattle.c_core.specs.declared.tree.Start.{Start}
use Rattle.c_parser.specs.Tree as raw
use Rattle.check_rules.specs.declared.sizes.Sizes.{Sizes}
use Rattle.check_rules.specs.declared.sizes.Sizes.TheVariants.{Scalar}
use Rattle.check_rules.specs.Names.{Entry}
use Rattle.check_rules.specs.Constants.{constant}
use Rattle.check_rules.specs.Typed.{typed, typed_all}
use Rattle.check_rules.specs.Arms.{switch_type, label_of}
use Rattle.check_rules.specs.Scopes.{Scope, seen, opened, closed, cells_in, columns_in, sizes_of, after_name, after_first, after_statement, after_item, after_items, after_parameters, inside, statements_of, outermost}
use Rattle.check_rules.specs.Parts.{bodies_of}
use Rattle.check_rules.specs.Codes.{cells_of_all, is_over_limit, is_wrong_size}
use Rattle.check_rules.specs.First.{IsUnrefused, wrong_main}

-- values, and zeros for the cells that are left (C11 6.7.9p10, p21)
abbrev pub padded : ℕ → List ℤ → List ℤ
padded cells values = values ++ replicate (cells - length values) (pos 0)

-- the sizes to which values are filled, after this many cells: of one cell where they are refused or over the limit
abbrev pub filled_sizes : ℕ → raw.Init → Sizes → Sizes
filled_sizes before init sizes = cond (is_wrong_size sizes init || is_over_limit before (cells_in sizes)) Scalar sizes

-- 0 where there is no value
abbrev pub or_zero : Option ℤ → ℤ
or_zero None = pos 0
or_zero (Some v) = v

-- what is no constant counts as 0
abbrev pub label_or_zero : Option ArmLabel → ArmLabel
label_or_zero None = Case (pos 0)
label_or_zero (Some l) = l

module _ (m : DataModel) (bodies : List (List ℕ)) where
  -- a typed expression, where there is one
  abbrev pub typed_if : List Entry → Option raw.Exp → Option t.Exp
  typed_if es None = None
  typed_if es (Some e) = Some (typed m bodies es e)

  -- a typed initializer
  abbrev pub typed_init : List Entry → raw.Init → t.Init
  typed_init es raw.Absent = t.Absent
  typed_init es (raw.One e) = t.One (typed m bodies es e)
  typed_init es (raw.Many gs) = t.Many (typed_all m bodies es gs)
  typed_init es (raw.Rows rows) = t.Rows (map (typed_all m bodies es) rows)

  -- declared names, each with the number of its object
  abbrev pub typed_names : Scope → List raw.Declared → t.Names
  typed_names s [] = t.NoName
  typed_names s (d ∷ ds) =
      t.MoreName d.spot (length s.objects) (typed_init (seen (after_name m bodies false s d)) d.init) (typed_names (after_name m bodies false s d) ds)

  -- the typed first part of `for (`
  abbrev pub typed_first : Scope → raw.First → t.First
  typed_first s raw.NoFirst = t.NoFirst
  typed_first s (raw.FirstExp e) = t.FirstExp (typed m bodies (seen s) e)
  typed_first s (raw.FirstDeclared ds) = t.FirstNames (typed_names s ds)

  -- the label of an arm
  abbrev pub typed_label : List Entry → IntType → raw.ArmLabel → ArmLabel
  typed_label es ty l = label_or_zero (label_of m bodies es ty l)

  abbrev mutual
    -- a typed statement in the scope before it
    pub typed_statement : Scope → raw.Stm → t.Stm
    typed_statement s (raw.Stmt p f) = t.Stmt p (typed_form s f)

    -- a typed statement by its form
    pub typed_form : Scope → raw.Form → t.Form
    typed_form s raw.Empty = t.Empty
    typed_form s (raw.Do e) = t.Do (typed m bodies (seen s) e)
    typed_form s (raw.Declare ds) = t.Declare (typed_names s ds)
    typed_form s (raw.Block b) = t.Block (typed_block (opened s) b)
    typed_form s (raw.If e a b) = t.If (typed m bodies (seen s) e) (typed_statement (opened s) a) (typed_else (closed s (after_statement m bodies (opened s) a)) b)
    typed_form s (raw.While e a) = t.While (typed m bodies (seen s) e) (typed_statement (opened s) a)
    typed_form s (raw.DoWhile a e) = t.DoWhile (typed_statement (opened s) a) (typed m bodies (seen s) e)
    typed_form s (raw.For i e u a) =
        t.For (typed_first (opened s) i) (typed_if (seen (after_first m bodies (opened s) i)) e) (typed_if (seen (after_first m bodies (opened s) i)) u)
        (typed_statement (opened (after_first m bodies (opened s) i)) a)
    typed_form s raw.Break = t.Break
    typed_form s raw.Continue = t.Continue
    typed_form s (raw.Return e) = t.Return (typed_if (seen s) e)
    typed_form s (raw.Label w a) = t.Label (typed_statement (opened s) a)
    typed_form s (raw.Switch e b) = t.Switch (typed m bodies (seen s) e) (typed_arms (switch_type (type_of (typed m bodies (seen s) e))) s b)

    -- the typed second arm, a block of its own
    pub typed_else : Scope → raw.Else → t.Else
    typed_else s raw.NoElse = t.NoElse
    typed_else s (raw.OrElse b) = t.OrElse (typed_statement (opened s) b)

    -- the typed statements of a block, each in the scope after the one before
    pub typed_block : Scope → raw.Stms → t.Stms
    typed_block s raw.NoStm = t.NoStm
    typed_block s (raw.MoreStm x b) = t.MoreStm (typed_statement s x) (typed_block (after_statement m bodies s x) b)
    typed_block s (raw.MoreCase p l b) = typed_block s b

    -- the typed arms of a `switch`, whose constants are of the type ty; each statement of an arm is a block
    pub typed_arms : IntType → Scope → raw.Stms → t.Stms
    typed_arms ty s raw.NoStm = t.NoStm
    typed_arms ty s (raw.MoreStm x b) = t.MoreStm (typed_statement (opened s) x) (typed_arms ty (closed s (after_statement m bodies (opened s) x)) b)
    typed_arms ty s (raw.MoreCase p l b) = t.MoreCase p (typed_label (seen s) ty l) (typed_arms ty s b)

  -- the numbers of the next objects
  abbrev pub numbers_from : ℕ → List raw.Param → List ℕ
  numbers_from n [] = []
  numbers_from n (x ∷ xs) = n ∷ numbers_from (n + 1) xs

  -- where a body begins
  abbrev pub body_place : raw.Stm → Spot
  body_place (raw.Stmt p f) = p

  -- the typed function of an item
  abbrev pub typed_function : Scope → List ℕ → Option IntType → List raw.Param → raw.Stm → t.Function
  typed_function s name result xs body = record {
    result = result;
    params = numbers_from (length s.objects) xs;
    body = t.Stmt (body_place body) (t.Block (typed_block (after_parameters (inside s name result xs) xs) (statements_of body)));
  }

  -- the typed functions with bodies, in the order of the text
  abbrev pub functions_of : Scope → List raw.Item → List t.Function
  functions_of s [] = []
  functions_of s (raw.Function p name result xs body ∷ items) =
      typed_function s name result xs body ∷ functions_of (after_item m bodies s (raw.Function p name result xs body)) items
  functions_of s (item ∷ items) = functions_of (after_item m bodies s item) items

  -- the value of a constant, converted to the type of the object that starts with it (C11 6.7.9p4, p11)
  abbrev pub start_value : List Entry → IntType → raw.Exp → ℤ
  start_value es ty e = fit m ty (or_zero (constant m (typed m bodies es e)))

  -- the values of a list
  abbrev pub start_values : List Entry → IntType → raw.Exps → List ℤ
  start_values es ty raw.NoExp = []
  start_values es ty (raw.MoreExp e gs) = start_value es ty e ∷ start_values es ty gs

  -- the values of rows, each with zeros to its end
  abbrev pub row_values : List Entry → IntType → ℕ → List raw.Exps → List ℤ
  row_values es ty columns rows = flat_map (λ row. padded columns (start_values es ty row)) rows

  -- an object's initial values
  abbrev pub start : ℕ → List ℤ → Start
  start n values = record { object = n; values = values }

  -- the initial values of a static object, filled to these sizes, if it is initialized
  abbrev pub start_of_init : List Entry → ℕ → IntType → Sizes → raw.Init → List Start
  start_of_init es n ty sizes raw.Absent = []
  start_of_init es n ty sizes (raw.One e) = start n (start_value es ty e ∷ []) ∷ []
  start_of_init es n ty sizes (raw.Many gs) = start n (padded (cells_in sizes) (start_values es ty gs)) ∷ []
  start_of_init es n ty sizes (raw.Rows rows) = start n (padded (cells_in sizes) (row_values es ty (columns_in sizes) rows)) ∷ []

  -- the sizes to which the values of a declared name are filled
  abbrev pub filled_for : Scope → raw.Declared → Sizes
  filled_for s d = filled_sizes (cells_of_all s.objects) d.init (sizes_of m bodies (seen s) d.sizes)

  -- the initial values of a declared name, which is in scope in its initializer
  abbrev pub start_of_name : Scope → raw.Declared → List Start
  start_of_name s d = start_of_init (seen (after_name m bodies true s d)) (length s.objects) d.ty (filled_for s d) d.init

  -- the objects of static storage that have an initializer
  abbrev pub starts_of_names : Scope → List raw.Declared → List Start
  starts_of_names s [] = []
  starts_of_names s (d ∷ ds) = start_of_name s d ++ starts_of_names (after_name m bodies true s d) ds

  -- all initial values of a source
  abbrev pub starts_of : Scope → List raw.Item → List Start
  starts_of s [] = []
  starts_of s (raw.Global ds ∷ items) = starts_of_names s ds ++ starts_of (after_item m bodies s (raw.Global ds)) items
  starts_of s (item ∷ items) = starts_of (after_item m bodies s item) items

-- the program of a source that isn't refused
abbrev pub program_of : DataModel → Property → List raw.Item → t.Program
program_of m property items = record {
  model = m;
  property = property;
  objects = (after_items m (bodies_of items) outermost items).objects;
  starts = starts_of m (bodies_of items) outermost items;
  functions = functions_of m (bodies_of items) outermost items;
  main = position_or_len (bytes_eq (codes "main")) (bodies_of items);
}

-- the source has this program, whose functions have these names: no part is refused, and `main` fits
pub record HasProgram (m : DataModel) (property : Property) (items : List raw.Item) (p : t.Program) (names : List (List ℕ)) : Type 0 where
  pub unrefused : IsUnrefused m items
  pub main : wrong_main items ≡ None
  pub is : p ≡ program_of m property items
  pub named : names ≡ bodies_of items
