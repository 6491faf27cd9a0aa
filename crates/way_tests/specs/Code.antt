-- Constraints as lists of steps, and what the steps answer in a memory.
use Rattle.std.specs.Prelude.{ℕ, zero, suc, ◌+◌, ℤ, Bool, true, false, cond, List, [], ◌∷◌, ◌++◌, length, Option, Some, None}
use Rattle.std.specs.declared.vec.Vec.{Vec}
use Rattle.std.specs.declared.alloc.Global.{Global}
use Rattle.c_core.specs.Operators.{is_comparison}
use Rattle.c_core.specs.Types.{fit, common_of}
use Rattle.c_core.specs.Tree.{Exp, Expr, Node, Const, Var, Unary, Binary, Logic, Program}
use Rattle.c_core.specs.declared.number.BinOp.{BinOp}
use Rattle.c_core.specs.declared.number.UnOp.{UnOp}
use Rattle.c_core.specs.declared.number.DataModel.{DataModel}
use Rattle.c_core.specs.declared.number.IntType.{IntType}
use Rattle.c_meaning.specs.Cells.{Cell as LiveCell, found}
use Rattle.c_meaning.specs.Objects.{type_of, type_of_object}
use Rattle.c_meaning.specs.Value.{and_then, operated_one}
use Rattle.way_tests.specs.Truth.{is_so, truth_in}
use Rattle.way_tests.specs.declared.step.Operand.{Operand}
use Rattle.way_tests.specs.declared.step.Operand.TheVariants.{Cell, Number}
use Rattle.way_tests.specs.declared.step.Test.{Test}
use Rattle.way_tests.specs.declared.step.Test.TheVariants.{Truth, Compare}
use Rattle.way_tests.specs.declared.step.Step.{Step}

-- ---- what steps answer

-- the value of an operand, where its cell is live
abbrev pub read_by : DataModel → Operand → List LiveCell → Option ℤ
read_by m (Cell o ty) cs = and_then (found (record { object = o; index = 0 }) cs) (λ v. Some (fit m ty v))
read_by m (Number v) cs = Some v

abbrev pub compared_by : DataModel → BinOp → IntType → Operand → Operand → List LiveCell → Option Bool
compared_by m op ty a b cs = and_then (read_by m a cs) (λ x. and_then (read_by m b cs) (λ y. Some (is_so op (fit m ty x) (fit m ty y))))

abbrev pub answer_of : DataModel → Test → List LiveCell → Option Bool
answer_of m (Truth a) cs = truth_in (read_by m a cs)
answer_of m (Compare op ty a b) cs = compared_by m op ty a b cs

-- the steps after the first n, with the last answer; none once something is undefined
abbrev pub taken : DataModel → List LiveCell → ℕ → Bool → List Step → Option Bool
taken m cs n t [] = Some t
taken m cs (suc n) t (s ∷ ss) = taken m cs n t ss
taken m cs zero t (s ∷ ss) = and_then (answer_of m s.test cs) (λ b. taken m cs (cond b s.yes s.no) b ss)

abbrev pub is_yes : Option Bool → Bool
is_yes None = false
is_yes (Some b) = b

-- ---- the steps of a constraint

abbrev pub number_if : Option ℤ → Option Operand
number_if None = None
number_if (Some v) = Some (Number v)

-- an operator over a constant
abbrev pub operand_one : Program → UnOp → Exp → Option Operand
operand_one p op (Expr spot ty (Const v)) = number_if (operated_one p op (type_of (Expr spot ty (Const v))) v)
operand_one p op (Expr spot ty _) = None

abbrev pub operand_in : Program → Node → Option Operand
operand_in p (Const v) = Some (Number v)
operand_in p (Var o) = Some (Cell o (type_of_object p o))
operand_in p (Unary op a) = operand_one p op a
operand_in p _ = None

-- an object or a constant
abbrev pub operand_of : Program → Exp → Option Operand
operand_of p (Expr spot ty n) = operand_in p n

abbrev pub compare_if : BinOp → IntType → Option Operand → Option Operand → Option Test
compare_if op ty a b = and_then a (λ x. and_then b (λ y. Some (Compare op ty x y)))

-- a comparison of objects and constants
abbrev pub compare_of : Program → BinOp → Exp → Exp → Option Test
compare_of p op a b = cond (is_comparison op) (compare_if op (common_of p.model (type_of a) (type_of b)) (operand_of p a) (operand_of p b)) None

-- a test as the only step
abbrev pub step_if : ℕ → ℕ → Option Test → Option (List Step)
step_if y n None = None
step_if y n (Some t) = Some (record { test = t; yes = y; no = n } ∷ [])

abbrev pub followed : List Step → Option (List Step) → Option (List Step)
followed ys None = None
followed ys (Some xs) = Some (xs ++ ys)

-- the right side follows the left one, and is passed over where that one decides
abbrev pub joined : Bool → ℕ → ℕ → Option (List Step) → (ℕ → ℕ → Option (List Step)) → Option (List Step)
joined both y n None left = None
joined true y n (Some ys) left = followed ys (left 0 (length ys + n))
joined false y n (Some ys) left = followed ys (left (length ys + y) 0)

abbrev mutual
  -- the steps, before others of which so many are passed over where the constraint holds, and where it doesn't; none where it is no such constraint
  pub code_of : Program → ℕ → ℕ → Exp → Option (List Step)
  code_of p y n (Expr spot ty node) = code_in p y n node

  pub code_in : Program → ℕ → ℕ → Node → Option (List Step)
  code_in p y n (Const v) = step_if y n (Some (Truth (Number v)))
  code_in p y n (Var o) = step_if y n (Some (Truth (Cell o (type_of_object p o))))
  code_in p y n (Binary op a b) = step_if y n (compare_of p op a b)
  code_in p y n (Logic both a b) = joined both y n (code_of p y n b) (λ i j. code_of p i j a)
  code_in p y n _ = None

abbrev pub items_if : Option (Vec Step Global) → Option (List Step)
items_if None = None
items_if (Some steps) = Some steps.items
