-- Pure trees of a source as it is written.
use Rattle.std.specs.Prelude.{ℕ, ℤ, Bool, List, [], ◌∷◌, Option}
use Rattle.c_core.specs.declared.number.IntType.{IntType}
use Rattle.c_core.specs.declared.number.Spot.{Spot}
use Rattle.c_core.specs.declared.number.BinOp.{BinOp}
use Rattle.c_core.specs.declared.number.UnOp.{UnOp}
use Rattle.c_core.specs.declared.number.StepOp.{StepOp}

mutual
  -- its place, its node
  pub data Exp : Type 0 where
    Expr : Spot → Node → Exp

  -- a name is its spelling and its place
  pub data Node : Type 0 where
    -- value, decimal, unsigned, letters `l` of its suffix
    Number : ℕ → Bool → Bool → ℕ → Node
    Char : ℤ → Node
    Var : List ℕ → Spot → Node
    -- with the indexes that are written, one or two
    Index : List ℕ → Spot → Exps → Node
    Unary : UnOp → Exp → Node
    -- to a type, or to void
    Cast : Option IntType → Exp → Node
    Step : StepOp → Exp → Node
    Binary : BinOp → Exp → Exp → Node
    -- both: `&&`
    Logic : Bool → Exp → Exp → Node
    -- at the mark `?`
    Choose : Spot → Exp → Exp → Exp → Node
    Comma : Exp → Exp → Node
    Assign : Option BinOp → Exp → Exp → Node
    -- with its closing parenthesis
    Call : List ℕ → Spot → Exps → Spot → Node

  -- arguments, indexes, or the values of a list or row
  pub data Exps : Type 0 where
    NoExp : Exps
    MoreExp : Exp → Exps → Exps

-- no initializer, one value, a list of values, or a list of rows
pub data Init : Type 0 where
  Absent : Init
  One : Exp → Init
  Many : Exps → Init
  Rows : List Exps → Init

-- a declared name at its place, with the sizes that an array states; a scalar has none
pub record Declared : Type 0 where
  pub spot : Spot
  pub name : List ℕ
  pub ty : IntType
  pub sizes : List Exp
  pub init : Init

-- the first part of `for (`
pub data First : Type 0 where
  NoFirst : First
  FirstExp : Exp → First
  FirstDeclared : List Declared → First

-- what chooses an arm of a `switch`
pub data ArmLabel : Type 0 where
  Case : Exp → ArmLabel
  Default : ArmLabel

mutual
  -- its place, its form
  pub data Stm : Type 0 where
    Stmt : Spot → Form → Stm

  -- a statement by its form and its parts (C11 6.8)
  pub data Form : Type 0 where
    Empty : Form
    Do : Exp → Form
    Declare : List Declared → Form
    Block : Stms → Form
    If : Exp → Stm → Else → Form
    While : Exp → Stm → Form
    DoWhile : Stm → Exp → Form
    For : First → Option Exp → Option Exp → Stm → Form
    Break : Form
    Continue : Form
    Return : Option Exp → Form
    Label : List ℕ → Stm → Form
    -- the arms one after the other, each after its label
    Switch : Exp → Stms → Form

  -- the second arm of `if`
  pub data Else : Type 0 where
    NoElse : Else
    OrElse : Stm → Else

  -- the statements of a block, or those of the arms of a `switch`, with its labels at their words
  pub data Stms : Type 0 where
    NoStm : Stms
    MoreStm : Stm → Stms → Stms
    MoreCase : Spot → ArmLabel → Stms → Stms

-- an arm of a `switch`: its label at its word, its statements
pub record Arm : Type 0 where
  pub spot : Spot
  pub label : ArmLabel
  pub body : List Stm

-- a parameter with its name
pub record Param : Type 0 where
  pub spot : Spot
  pub name : List ℕ
  pub ty : IntType

-- a result of no type is void
pub data Item : Type 0 where
  -- the place of its name, its name, result, parameters and body
  Function : Spot → List ℕ → Option IntType → List Param → Stm → Item
  -- the same with the types of the parameters, where it states them
  Prototype : Spot → List ℕ → Option IntType → Option (List IntType) → Item
  Global : List Declared → Item
  Closed : Spot → List ℕ → Item

-- expressions as arguments
abbrev pub exps : List Exp → Exps
exps [] = NoExp
exps (e ∷ es) = MoreExp e (exps es)

-- statements as a block's
abbrev pub stms : List Stm → Stms
stms [] = NoStm
stms (s ∷ ss) = MoreStm s (stms ss)

-- statements, and then others
abbrev pub joined : Stms → Stms → Stms
joined NoStm c = c
joined (MoreStm s b) c = MoreStm s (joined b c)
joined (MoreCase p l b) c = MoreCase p l (joined b c)

-- the arms of a `switch` in their order
abbrev pub arms : List Arm → Stms
arms [] = NoStm
arms (a ∷ rest) = MoreCase a.spot a.label (joined (stms a.body) (arms rest))

-- the same expression in parentheses that begin here
abbrev pub moved : Spot → Exp → Exp
moved p (Expr q n) = Expr p n
