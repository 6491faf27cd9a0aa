-- What values of parts are as bits, and what operators do to the runs that are here.
--
-- An operator's circuit gives its value, its overflow and its undefined bit. A run that is here ends where the operator is undefined.
-- Where an overflow is the violation, a run ends there, and fails the obligation of its full expression where that counts; else the value
-- wraps.
use Rattle.std.specs.Prelude.{◌≡◌, ℕ, suc, ◌+◌, Bool, ℤ, List, Option}
use Rattle.c_core.specs.Tree.{Program}
use Rattle.c_core.specs.Types.{fit, promote_of}
use Rattle.c_core.specs.Operators.{apply_one_of}
use Rattle.c_core.specs.declared.number.IntType.{IntType}
use Rattle.c_core.specs.declared.number.BinOp.{BinOp}
use Rattle.c_core.specs.declared.number.UnOp.{UnOp}
use Rattle.c_core.specs.declared.number.Spot.{Spot}
use Rattle.c_core.specs.declared.number.Property.{Property}
use Rattle.c_core.specs.declared.number.Property.TheVariants.{UnreachCall, NoOverflow}
use Rattle.c_core.specs.declared.number.DataModel.{DataModel}
use Rattle.c_meaning.specs.declared.run.Event.TheVariants.{Fail}
use Rattle.c_meaning.specs.Meaning.{Where}
use Rattle.sym_meaning.specs.Mode.{Mode}
use Rattle.sym_meaning.specs.Judged.{judged as meaning, answered}
use Rattle.c_meaning.specs.Duties.{number_among}
use Rattle.c_meaning.specs.Eval.{operate}
use Rattle.circuits.specs.declared.net.Bit.{Bit}
use Rattle.circuits.specs.Net.{Means}
use Rattle.circuits.specs.Numbers.{typed, AreTyped}
use Rattle.circuits.specs.Outcome.{conversion_cost, binary_cost, one_cost}
use Rattle.c_core.specs.Operators.{type_for, right_type_for}
use Rattle.sym_state.specs.declared.state.Sym.{Sym}
use Rattle.sym_state.specs.declared.state.Around.{Around}
use Rattle.sym_state.specs.Standing.{Stand, stand, stopped, violated, Turned}
use Rattle.sym_state.specs.Following.{Deed, Evaluates}

abbrev pub where_of : Around → Where
where_of a = record { statement = a.statement; full = a.full }

-- a run that is here: an overflow fails its obligation where that counts, or wraps, and what is undefined ends it
abbrev pub judged : Property → ℕ → Bool → Bool → Bool → Stand → Stand
judged NoOverflow k counts overflow undefined s = stopped undefined (violated k overflow counts s)
judged UnreachCall k counts overflow undefined s = stopped undefined s

-- a value of bits of the state: nothing changes but the net
pub record Reckoned (p : Program) (ands : ℕ) (old new : Sym) (ty : IntType) (bits : List Bit) (value : (ℕ → Bool) → ℤ) : Type 0 where
  pub turned : Turned p ands 0 old new (λ v s. s)
  pub bits_in : AreTyped p.model ty new.net bits
  pub is : (v : ℕ → Bool) → typed p.model ty v new.net bits ≡ value v

-- a truth value of the state
pub record Decided (p : Program) (ands : ℕ) (old new : Sym) (bit : Bit) (value : (ℕ → Bool) → Bool) : Type 0 where
  pub turned : Turned p ands 0 old new (λ v s. s)
  pub means : Means new.net bit value

-- and-nodes of an operator with the conversions of its sides, and of the ends of runs
abbrev pub operated_cost : DataModel → BinOp → IntType → IntType → ℕ
operated_cost m op a b = 5 + (conversion_cost m a (type_for m op a b) + (conversion_cost m b (right_type_for op (type_for m op a b) b) + binary_cost m op (type_for m op a b)))

abbrev pub operated_one_cost : DataModel → UnOp → IntType → ℕ
operated_one_cost m op a = 5 + (conversion_cost m a (promote_of a) + one_cost m op (promote_of a))

-- W: the mode
module _ (p : Program) (W : Mode) where
  -- a violation in this full expression that counts fails the duty of the number that comes after `duty`; beyond the
  -- last there is none
  abbrev pub IsDutyAt : Around → Type 0
  IsDutyAt at = number_among (W.duty_at (where_of at)) W.duties ≡ suc at.duty

  -- a bit that says in which runs a violation in this full expression counts: in a call, or in an operator
  abbrev pub CountsWhere : Around → Option Spot → Sym → Bit → Type 0
  CountsWhere at call s b = Means s.net b (λ v. W.counts (Fail at.statement at.full call) (stand p v s).cells (stand p v s).completed)

  abbrev pub Gives : ℕ → ℕ → Sym → Sym → Option IntType → List Bit → Deed ℤ → Type 0
  Gives ands inputs old new ty bits deed = Evaluates W.duties p ands inputs old new ty bits deed

  abbrev pub operated : Around → Spot → BinOp → IntType → List Bit → IntType → List Bit → Sym → Deed ℤ
  operated at spot op a x b y old v s = operate p (meaning p W) (where_of at) spot op a (typed p.model a v old.net x) b (typed p.model b v old.net y) s

  abbrev pub operated_one : Around → UnOp → IntType → List Bit → Sym → Deed ℤ
  operated_one at op a x old v s = answered p W (where_of at) (apply_one_of p.model op (promote_of a) (fit p.model (promote_of a) (typed p.model a v old.net x))) s
