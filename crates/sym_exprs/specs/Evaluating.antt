-- What the evaluation of an expression onto a net is to give.
--
-- For each form one function; its contract is that of the whole: what `eval p (judged p W)` does to each run that is here, its value as bits
-- in the expression's type, no more and-nodes than the expression weighs, no more inputs than it draws.
use Rattle.std.specs.Prelude.{◌≡◌, ℕ, ◌+◌, ◌<◌, ◌^◌, Bool, true, false, length, ℤ, List, Option, IsTrue, cond, pos}
use Rattle.c_core.specs.Tree.{Program, Exp}
use Rattle.c_core.specs.Parts.{type_of, every_exp}
use Rattle.c_core.specs.Typing.{exp_fits}
use Rattle.c_core.specs.declared.number.DataModel.{DataModel}
use Rattle.c_core.specs.declared.number.IntType.{IntType}
use Rattle.c_meaning.specs.Meaning.{Use, Used, Unused}
use Rattle.c_meaning.specs.Acts.{Go}
use Rattle.c_meaning.specs.Eval.{eval}
use Rattle.c_meaning.specs.Fitting.{calls_in}
use Rattle.sym_meaning.specs.Mode.{Mode}
use Rattle.sym_meaning.specs.Judged.{judged}
use Rattle.circuits.specs.declared.net.Bit.{Bit}
use Rattle.circuits.specs.declared.net.NetNode.{NetNode}
use Rattle.circuits.specs.Net.{holds, IsIn}
use Rattle.sym_state.specs.declared.state.Sym.{Sym}
use Rattle.sym_state.specs.declared.state.Around.{Around}
use Rattle.sym_state.specs.Standing.{IsState}
use Rattle.sym_state.specs.Following.{Deed, Follows, AreOf, IsNumber}
use Rattle.sym_values.specs.Valuing.{where_of, IsDutyAt}
use Rattle.sym_scale.specs.Cost.{expression, nodes, bits}

abbrev pub use_of : Bool → Use
use_of true = Used
use_of false = Unused

-- where the value is used, the bits' number under inputs is the value; elsewhere nothing is asked of it
abbrev pub IsWanted : Use → DataModel → Option IntType → List NetNode → List Bit → (ℕ → Bool) → ℤ → Type 0
IsWanted Used m ty net bits v z = IsNumber m ty net bits v z
IsWanted Unused m ty net bits v z = Unit {0}

-- calls at most n deep
module _ (p : Program) (W : Mode) (n : ℕ) where
  abbrev pub weight_of : Exp → ℕ
  weight_of e = expression p (nodes p W.scale n) e

  abbrev pub bits_of : Exp → ℕ
  bits_of e = expression p (bits p W.scale n) e

  abbrev pub evaluated : Around → Use → Exp → Deed ℤ
  evaluated at want e v s = eval p (judged p W) (calls_in p (judged p W) n) (where_of at) want e s

  module _ (at : Around) where
    -- an expression can be evaluated from a state
    pub record Ready (s : Sym) (e : Exp) : Type 0 where
      pub fits : IsState p s
      pub types : IsTrue (every_exp (exp_fits p) e)
      pub duty : IsDutyAt p W at
      pub room : length s.net + (weight_of e + bits_of e) < 2 ^ 27

    -- it was evaluated; the bits are its value, where that is used
    pub record Values (want : Use) (e : Exp) (old new : Sym) (bits : List Bit) : Type 0 where
      pub bits_in : AreOf p.model (type_of e) new.net bits
      pub follows : Follows W.duties p (weight_of e) (bits_of e) old new (IsWanted want p.model (type_of e) new.net bits) (evaluated at want e)

    -- the same, where a bit of the state says so; elsewhere the run goes on at once
    abbrev pub evaluated_where : Bit → Exp → Sym → Deed ℤ
    evaluated_where go e old v s = cond (holds v old.net go) (evaluated at Used e v s) (Go (pos 0) s)

    -- its bits are its value there
    pub record ValuesWhere (go : Bit) (e : Exp) (old new : Sym) (bits : List Bit) : Type 0 where
      pub bits_in : AreOf p.model (type_of e) new.net bits
      pub follows : Follows W.duties p (3 + weight_of e) (bits_of e) old new (λ v z. holds v old.net go ≡ true → IsNumber p.model (type_of e) new.net bits v z) (evaluated_where go e old)

    pub record ReadyWhere (go : Bit) (s : Sym) (e : Exp) : Type 0 where
      pub fits : IsState p s
      pub go_in : IsIn s.net go
      pub types : IsTrue (every_exp (exp_fits p) e)
      pub duty : IsDutyAt p W at
      pub room : length s.net + (3 + weight_of e + bits_of e) < 2 ^ 27
