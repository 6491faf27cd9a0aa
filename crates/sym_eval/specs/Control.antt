-- What full expressions of statements are to give onto a net, and what a loop does by its controlling expression.
use Rattle.std.specs.Prelude.{ℕ, ◌+◌, ◌<◌, ◌^◌, Bool, true, ◌&&◌, not, ◌||◌, length, List, Option, Some, None, IsTrue}
use Rattle.c_core.specs.Tree.{Program, Exp}
use Rattle.c_core.specs.Parts.{type_of}
use Rattle.c_core.specs.Typing.{is_typed, has_value}
use Rattle.c_core.specs.declared.number.IntType.{IntType}
use Rattle.c_core.specs.declared.number.Spot.{Spot}
use Rattle.c_meaning.specs.Acts.{Go, Next, Broken}
use Rattle.c_meaning.specs.Exec.{full, full_if, control, going}
use Rattle.sym_meaning.specs.Mode.{Mode}
use Rattle.sym_meaning.specs.Judged.{judged}
use Rattle.c_meaning.specs.Meaning.{Use}
use Rattle.circuits.specs.declared.net.Bit.{Bit}
use Rattle.sym_state.specs.declared.state.Sym.{Sym}
use Rattle.sym_state.specs.Standing.{Stand, IsState}
use Rattle.sym_state.specs.Following.{Follows, AreOf}
use Rattle.sym_flow.specs.Leaving.{Runs}
use Rattle.sym_scale.specs.Cost as cost
use Rattle.sym_scale.specs.Cost.{nodes, bits}
use Rattle.sym_exprs.specs.Evaluating.{IsWanted, weight_of, bits_of}
use Rattle.sym_eval.specs.Doing.{calls, weight_of_control, bits_of_control}

-- a run that is here goes on where the test holds, and leaves the loop elsewhere
abbrev pub parting : Bool → Stand → Stand
parting test s = record s { live = s.live && test; broken = s.broken || (s.live && not test) }

-- and-nodes of that
abbrev pub test_glue : ℕ
test_glue = 3

module _ (p : Program) where
  -- typed, where there is an expression
  abbrev pub is_typed_if : Option Exp → Bool
  is_typed_if None = true
  is_typed_if (Some e) = is_typed p e

  -- a controlling expression has a value too (C11 6.8.5p2)
  abbrev pub is_test : Option Exp → Bool
  is_test None = true
  is_test (Some e) = has_value e && is_typed p e

-- calls at most n deep
module _ (p : Program) (W : Mode) (n : ℕ) where
  -- a full expression can be evaluated from a state
  pub record FullReady (s : Sym) (e : Exp) : Type 0 where
    pub fits : IsState p s
    pub types : IsTrue (is_typed p e)
    pub room : length s.net + (weight_of p W n e + bits_of p W n e) < 2 ^ 27

  -- it was evaluated; the bits are its value, where that is used
  pub record FullGives (at : Spot) (want : Use) (e : Exp) (old new : Sym) (bits : List Bit) : Type 0 where
    pub bits_in : AreOf p.model (type_of e) new.net bits
    pub follows : Follows W.duties p (weight_of p W n e) (bits_of p W n e) old new (IsWanted want p.model (type_of e) new.net bits) (λ v. full p (judged p W) (calls p W n) at want e)

  -- a loop can be tested from a state
  pub record TestReady (at : Spot) (s : Sym) (e : Exp) : Type 0 where
    pub fits : IsState p s
    pub types : IsTrue (is_typed p e)
    pub value : IsTrue (has_value e)
    pub room : length s.net + (test_glue + (weight_of_control p W n at e + bits_of_control p W n at e)) < 2 ^ 27

  -- it goes on, or is left, in a function of any result
  abbrev pub TestDoes : Spot → Exp → Sym → Sym → Type 0
  TestDoes at e old new = (gives : Option IntType) → Runs W.duties p gives (test_glue + weight_of_control p W n at e) (bits_of_control p W n at e) old new
      (λ v. control p (judged p W) (calls p W n) at e (λ may s. Go Next s) (λ may s. Go Broken s) true)

  -- ---- the parts of a `for`, which may be missing
  abbrev pub weight_of_test : Spot → Option Exp → ℕ
  weight_of_test at e = cost.control_if p (nodes p W.scale n) at e

  abbrev pub bits_of_test : Spot → Option Exp → ℕ
  bits_of_test at e = cost.control_if p (bits p W.scale n) at e

  abbrev pub weight_of_step : Option Exp → ℕ
  weight_of_step e = cost.expression_if p (nodes p W.scale n) e

  abbrev pub bits_of_step : Option Exp → ℕ
  bits_of_step e = cost.expression_if p (bits p W.scale n) e

  pub record TestIfReady (at : Spot) (s : Sym) (e : Option Exp) : Type 0 where
    pub fits : IsState p s
    pub types : IsTrue (is_test p e)
    pub room : length s.net + (test_glue + (weight_of_test at e + bits_of_test at e)) < 2 ^ 27

  abbrev pub TestIfDoes : Spot → Option Exp → Sym → Sym → Type 0
  TestIfDoes at e old new = (gives : Option IntType) → Runs W.duties p gives (test_glue + weight_of_test at e) (bits_of_test at e) old new (λ v. going p (judged p W) (calls p W n) at e (λ may s. Go Next s) true)

  -- the last part of `for (..)`
  pub record StepReady (s : Sym) (e : Option Exp) : Type 0 where
    pub fits : IsState p s
    pub types : IsTrue (is_typed_if p e)
    pub room : length s.net + (weight_of_step e + bits_of_step e) < 2 ^ 27

  abbrev pub StepDoes : Spot → Option Exp → Sym → Sym → Type 0
  StepDoes at e old new = (gives : Option IntType) → Runs W.duties p gives (weight_of_step e) (bits_of_step e) old new (λ v. full_if p (judged p W) (calls p W n) at e (λ may s. Go Next s) true)
