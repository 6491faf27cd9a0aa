-- What the walk of a statement onto a net is to give.
--
-- For each form one function; its contract is that of the whole: what `exec p (judged p W)` does to each run that is here, no more
-- and-nodes than the statement weighs, no more inputs than it draws.
use Rattle.std.specs.Prelude.{◌≡◌, ℕ, ◌+◌, ◌<◌, ◌^◌, ◌&&◌, not, length, List, Option, IsTrue, slice_get, true}
use Rattle.std.specs.List.{list_all, flat_map}
use Rattle.c_core.specs.Tree.{Program, Exp, Exps, Init, Names, First, Stm, Stmt, Form, Else, Stms}
use Rattle.c_core.specs.Parts.{exps_in, fulls_of_init, fulls_of_names, fulls_of_first, every_statement, every_statement_else, every_statement_of}
use Rattle.c_core.specs.Types.{is_zero}
use Rattle.c_core.specs.Typing.{is_typed, row_fits, init_fits, declarators_fit, first_fits, has_value, statement_fits}
use Rattle.c_core.specs.declared.number.IntType.{IntType}
use Rattle.c_core.specs.declared.number.Spot.{Spot}
use Rattle.c_meaning.specs.declared.run.Event.TheVariants.{Branch}
use Rattle.c_meaning.specs.declared.run.Way.TheVariants.{Truth}
use Rattle.c_meaning.specs.Acts.{Go, Next, bind, scoped}
use Rattle.c_meaning.specs.Exec.{full, first, declare, initials, row_initials, initial, exec, form, otherwise, execs}
use Rattle.c_meaning.specs.Fitting.{calls_in}
use Rattle.c_meaning.specs.Havoc.{Stopped}
use Rattle.sym_meaning.specs.Mode.{JudgedState, cells_judged, with_cells_judged, Mode}
use Rattle.sym_meaning.specs.Judged.{judged, tell}
use Rattle.c_meaning.specs.Meaning.{Used, Calls}
use Rattle.c_meaning.specs.Objects.{type_or_int, columns_of_object}
use Rattle.circuits.specs.declared.net.Bit.{Bit}
use Rattle.circuits.specs.Net.{holds, IsIn}
use Rattle.sym_state.specs.declared.state.Sym.{Sym}
use Rattle.sym_state.specs.Standing.{IsState}
use Rattle.sym_state.specs.Following.{Follows}
use Rattle.sym_flow.specs.Leaving.{Runs}
use Rattle.sym_scale.specs.Cost as cost
use Rattle.sym_scale.specs.Cost.{nodes, bits}

-- and-nodes of a form besides its weight: paid by the weight of its statement
abbrev pub form_glue : ℕ
form_glue = 8

-- calls at most n deep
module _ (p : Program) (W : Mode) (n : ℕ) where
  abbrev pub calls : Calls (judged p W)
  calls = calls_in p (judged p W) n

  -- ---- controlling expressions
  abbrev pub weight_of_control : Spot → Exp → ℕ
  weight_of_control at e = cost.control p (nodes p W.scale n) at e

  abbrev pub bits_of_control : Spot → Exp → ℕ
  bits_of_control at e = cost.control p (bits p W.scale n) at e

  -- a controlling expression of the statement at a place can be evaluated from a state
  pub record ControlReady (at : Spot) (s : Sym) (e : Exp) : Type 0 where
    pub fits : IsState p s
    pub types : IsTrue (is_typed p e)
    pub value : IsTrue (has_value e)
    pub room : length s.net + (weight_of_control at e + bits_of_control at e) < 2 ^ 27

  -- its event was told, and its value is other than zero where the bit is true
  pub record Decides (at : Spot) (e : Exp) (old new : Sym) (bit : Bit) : Type 0 where
    pub bit_in : IsIn new.net bit
    pub follows : Follows W.duties p (weight_of_control at e) (bits_of_control at e) old new (λ v t. t ≡ holds v new.net bit)
        (λ v s. bind (full p (judged p W) calls at Used e s) (λ z s. bind (tell p W (Branch at (Truth (not (is_zero z)))) s) (λ u s. Go (not (is_zero z)) s)))

  -- ---- declarations, in a function of any result
  abbrev pub weight_of_initials : ℕ → Exps → ℕ
  weight_of_initials o es = cost.initials p (nodes p W.scale n) o es

  abbrev pub bits_of_initials : ℕ → Exps → ℕ
  bits_of_initials o es = cost.initials p (bits p W.scale n) o es

  -- the values of an object's initializer can be stored from a state
  pub record InitialsReady (o : ℕ) (s : Sym) (es : Exps) : Type 0 where
    pub fits : IsState p s
    pub types : IsTrue (list_all (is_typed p) (exps_in es))
    pub values : IsTrue (list_all has_value (exps_in es))
    pub room : length s.net + (weight_of_initials o es + bits_of_initials o es) < 2 ^ 27

  -- from an index on
  abbrev pub InitialsDo : Spot → ℕ → ℕ → Exps → Sym → Sym → Type 0
  InitialsDo at o i es old new = Follows W.duties p (weight_of_initials o es) (bits_of_initials o es) old new (λ v u. Unit {0}) (λ v. initials p (judged p W) calls at o i es)

  abbrev pub weight_of_rows : ℕ → List Exps → ℕ
  weight_of_rows o rows = cost.row_initials p (nodes p W.scale n) o rows

  abbrev pub bits_of_rows : ℕ → List Exps → ℕ
  bits_of_rows o rows = cost.row_initials p (bits p W.scale n) o rows

  -- the rows of an object's initializer can be stored from a state
  pub record RowsReady (o : ℕ) (s : Sym) (rows : List Exps) : Type 0 where
    pub fits : IsState p s
    pub types : IsTrue (list_all (is_typed p) (flat_map exps_in rows))
    pub values : IsTrue (list_all (row_fits (columns_of_object p o)) rows)
    pub room : length s.net + (weight_of_rows o rows + bits_of_rows o rows) < 2 ^ 27

  abbrev pub RowsDo : Spot → ℕ → List Exps → Sym → Sym → Type 0
  RowsDo at o rows old new = Follows W.duties p (weight_of_rows o rows) (bits_of_rows o rows) old new (λ v u. Unit {0}) (λ v. row_initials p (judged p W) calls at o 0 rows)

  abbrev pub weight_of_initial : ℕ → Init → ℕ
  weight_of_initial o i = cost.initialised p (nodes p W.scale n) o i

  abbrev pub bits_of_initial : ℕ → Init → ℕ
  bits_of_initial o i = cost.initialised p (bits p W.scale n) o i

  -- an object's cells can get their values from a state
  pub record InitialReady (o : ℕ) (s : Sym) (i : Init) : Type 0 where
    pub fits : IsState p s
    pub types : IsTrue (init_fits (slice_get p.objects o) i && list_all (is_typed p) (fulls_of_init i))
    pub room : length s.net + (weight_of_initial o i + bits_of_initial o i) < 2 ^ 27

  -- of an object declared at a place, in the statement at another
  abbrev pub InitialDoes : Spot → Spot → ℕ → Init → Sym → Sym → Type 0
  InitialDoes at spot o i old new = Follows W.duties p (weight_of_initial o i) (bits_of_initial o i) old new (λ v u. Unit {0}) (λ v. initial p (judged p W) calls at spot o i)

  abbrev pub weight_of_names : Names → ℕ
  weight_of_names ns = cost.declared p (nodes p W.scale n) ns

  abbrev pub bits_of_names : Names → ℕ
  bits_of_names ns = cost.declared p (bits p W.scale n) ns

  -- names can be declared from a state
  pub record NamesReady (s : Sym) (ns : Names) : Type 0 where
    pub fits : IsState p s
    pub types : IsTrue (declarators_fit p ns && list_all (is_typed p) (fulls_of_names ns))
    pub room : length s.net + (weight_of_names ns + bits_of_names ns) < 2 ^ 27

  abbrev pub NamesDo : Spot → Names → Sym → Sym → Type 0
  NamesDo at ns old new = (gives : Option IntType) → Runs W.duties p gives (weight_of_names ns) (bits_of_names ns) old new (λ v. declare p (judged p W) calls at ns true)

  abbrev pub weight_of_first : First → ℕ
  weight_of_first i = cost.first p (nodes p W.scale n) i

  abbrev pub bits_of_first : First → ℕ
  bits_of_first i = cost.first p (bits p W.scale n) i

  -- the first part of `for (` can be done from a state
  pub record FirstReady (s : Sym) (i : First) : Type 0 where
    pub fits : IsState p s
    pub types : IsTrue (first_fits p i && list_all (is_typed p) (fulls_of_first i))
    pub room : length s.net + (weight_of_first i + bits_of_first i) < 2 ^ 27

  -- with nothing after it
  abbrev pub FirstDoes : Spot → First → Sym → Sym → Type 0
  FirstDoes at i old new = (gives : Option IntType) → Runs W.duties p gives (weight_of_first i) (bits_of_first i) old new (λ v. first p (judged p W) calls at i (λ may s. Go Next s) true)

  -- ---- statements, in a function of this result
  module _ (gives : Option IntType) where
    abbrev pub weight_of : Stm → ℕ
    weight_of x = cost.statement p (nodes p W.scale n) gives x

    abbrev pub bits_of : Stm → ℕ
    bits_of x = cost.statement p (bits p W.scale n) gives x

    -- a statement can be walked from a state
    pub record Ready (s : Sym) (x : Stm) : Type 0 where
      pub fits : IsState p s
      pub result : s.result ≡ type_or_int gives
      pub types : IsTrue (every_statement (statement_fits p gives) x)
      pub room : length s.net + (weight_of x + bits_of x) < 2 ^ 27

    abbrev pub Does : Stm → Sym → Sym → Type 0
    Does x old new = Runs W.duties p gives (weight_of x) (bits_of x) old new (λ v. exec p (judged p W) calls gives x true)

    -- a statement that is a scope of its own: after it there are as many cells as before
    pub record ScopeDoes (x : Stm) (old new : Sym) : Type 0 where
      pub runs : Runs W.duties p gives (weight_of x) (bits_of x) old new (λ v. scoped Stopped JudgedState cells_judged with_cells_judged (exec p (judged p W) calls gives x true))
      pub level : length new.cells.items ≡ length old.cells.items

    abbrev pub weight_of_form : Spot → Form → ℕ
    weight_of_form at f = cost.form p (nodes p W.scale n) gives at f

    abbrev pub bits_of_form : Spot → Form → ℕ
    bits_of_form at f = cost.form p (bits p W.scale n) gives at f

    -- a form of statement, at a place
    pub record FormReady (at : Spot) (s : Sym) (f : Form) : Type 0 where
      pub fits : IsState p s
      pub result : s.result ≡ type_or_int gives
      pub types : IsTrue (every_statement (statement_fits p gives) (Stmt at f))
      pub room : length s.net + (form_glue + weight_of_form at f + bits_of_form at f) < 2 ^ 27

    abbrev pub FormDoes : Spot → Form → Sym → Sym → Type 0
    FormDoes at f old new = Runs W.duties p gives (form_glue + weight_of_form at f) (bits_of_form at f) old new (λ v. form p (judged p W) calls gives at f true)

    abbrev pub weight_of_else : Else → ℕ
    weight_of_else x = cost.otherwise p (nodes p W.scale n) gives x

    abbrev pub bits_of_else : Else → ℕ
    bits_of_else x = cost.otherwise p (bits p W.scale n) gives x

    -- the arm after `else`, if there is one
    pub record ElseReady (s : Sym) (x : Else) : Type 0 where
      pub fits : IsState p s
      pub result : s.result ≡ type_or_int gives
      pub types : IsTrue (every_statement_else (statement_fits p gives) x)
      pub room : length s.net + (weight_of_else x + bits_of_else x) < 2 ^ 27

    -- it is a scope of its own
    pub record ElseDoes (x : Else) (old new : Sym) : Type 0 where
      pub runs : Runs W.duties p gives (weight_of_else x) (bits_of_else x) old new (λ v. otherwise p (judged p W) calls gives x true)
      pub level : length new.cells.items ≡ length old.cells.items

    abbrev pub weight_of_block : Stms → ℕ
    weight_of_block b = cost.statements p (nodes p W.scale n) gives b

    abbrev pub bits_of_block : Stms → ℕ
    bits_of_block b = cost.statements p (bits p W.scale n) gives b

    -- the statements of a block
    pub record BlockReady (s : Sym) (b : Stms) : Type 0 where
      pub fits : IsState p s
      pub result : s.result ≡ type_or_int gives
      pub types : IsTrue (every_statement_of (statement_fits p gives) b)
      pub room : length s.net + (weight_of_block b + bits_of_block b) < 2 ^ 27

    abbrev pub BlockDoes : Stms → Sym → Sym → Type 0
    BlockDoes b old new = Runs W.duties p gives (weight_of_block b) (bits_of_block b) old new (λ v. execs p (judged p W) calls gives b true)
