-- Operations, and operands that are ready for one.
use Rattle.std.specs.Prelude.{ℕ, zero, suc, ◌+◌, Bool, cond, List, [], ◌∷◌, ◌++◌, length, Option, Some, None}
use Rattle.c_core.specs.declared.number.IntType.{IntType}
use Rattle.flow_code.specs.declared.code.Operand.{Operand}
use Rattle.flow_code.specs.declared.code.Operand.TheVariants.{Top}
use Rattle.flow_code.specs.declared.code.Place.{Place}
use Rattle.flow_code.specs.declared.code.Then.{Then}
use Rattle.flow_code.specs.declared.code.Then.TheVariants.{Push}
use Rattle.flow_code.specs.declared.code.Into.{Into}
use Rattle.flow_code.specs.declared.code.Action.{Action}
use Rattle.flow_code.specs.declared.code.Action.TheVariants.{Give, Open, Close}
use Rattle.flow_code.specs.declared.code.Op.{Op}

-- operations that begin at an address, and the ones behind them, which depend on where they begin
abbrev pub followed : ℕ → List Op → (ℕ → List Op) → List Op
followed i ops f = ops ++ f (i + length ops)

-- an action and its steps
abbrev pub op : ℕ → Action → Op
op steps action = record { steps = steps; action = action }

-- a value that is stored nowhere
abbrev pub only : Then → Into
only then = record { store = None; then = then }

-- a value that is converted to a type and stored; behind it comes the old value, or the new one
abbrev pub stored_in : Place → IntType → Bool → Then → Into
stored_in place ty old then = record { store = Some (record { place = place; ty = ty; old = old }); then = then }

-- an operand goes where it is said
abbrev pub give : ℕ → Operand → Then → Op
give steps x then = op steps (Give x (only then))

-- operations that make operands ready, the operands, and the steps that the operation which takes them has to take
pub record Ready : Type 0 where
  pub ops : List Op
  pub operand : Operand
  pub steps : ℕ

-- the same for two operands
pub record ReadyPair : Type 0 where
  pub ops : List Op
  pub left : Operand
  pub right : Operand
  pub steps : ℕ

-- an expression that is an operand by itself takes its step with the operation; another is evaluated, its value on the stack
abbrev pub prepared : Option Operand → ℕ → List Op → Ready
prepared (Some x) k ops = record { ops = []; operand = x; steps = k + 1 }
prepared None k ops = record { ops = ops; operand = Top; steps = 0 }

-- an operand that is ready, and the operation that takes it
abbrev pub taken : Ready → (Operand → Action) → List Op
taken r f = r.ops ++ op r.steps (f r.operand) ∷ []

-- two operands that are ready, and the operation that takes them
abbrev pub taken_both : ReadyPair → (Operand → Operand → Action) → List Op
taken_both r f = r.ops ++ op r.steps (f r.left r.right) ∷ []

-- an operand, and the operation that takes it
abbrev pub with_operand : Option Operand → ℕ → List Op → (Operand → Action) → List Op
with_operand y k ops f = taken (prepared y k ops) f

-- operations that put a left operand on the stack, unless it is there
abbrev pub kept : Operand → ℕ → List Op
kept Top k = []
kept x k = give k x Push ∷ []

-- the steps that are left behind these
abbrev pub rest : Operand → ℕ → ℕ
rest Top k = k
rest x k = 0

-- a right operand, beside a left one that is ready
abbrev pub paired : Operand → ℕ → Option Operand → List Op → ReadyPair
paired x k (Some y) ops = record { ops = []; left = x; right = y; steps = k + 1 }
paired x k None ops = record { ops = kept x k ++ ops; left = Top; right = Top; steps = 0 }

-- a pair behind other operations
abbrev pub behind : List Op → ReadyPair → ReadyPair
behind ops p = record p { ops = ops ++ p.ops }

-- the right operand behind a left one that is ready, where its code depends on where it begins and on the steps that are left
abbrev pub paired_at : ℕ → Ready → Option Operand → (ℕ → ℕ → List Op) → ReadyPair
paired_at i j y f = behind j.ops (paired j.operand j.steps y (f (i + length j.ops + length (kept j.operand j.steps)) (rest j.operand j.steps)))

-- a scope begins, where it is there
abbrev pub opened : Bool → List Op
opened b = cond b (op 0 Open ∷ []) []

-- a scope ends, where it is there
abbrev pub closed : Bool → List Op
closed b = cond b (op 0 Close ∷ []) []

-- a scope around operations, where it is there
abbrev pub scope : Bool → ℕ → (ℕ → List Op) → List Op
scope b i f = followed i (opened b) f ++ closed b

-- so many scopes end
abbrev pub all_closed : ℕ → List Op
all_closed zero = []
all_closed (suc n) = op 0 Close ∷ all_closed n
