-- What the state after main's body says of all judged runs of a program in a mode.
use Rattle.std.specs.Prelude.{ℕ, suc, ◌+◌, ◌≤◌, Bool, List, true}
use Rattle.c_core.specs.Tree.{Program}
use Rattle.c_meaning.specs.Duties.{Placed}
use Rattle.c_meaning.specs.Exec.{run_main}
use Rattle.sym_meaning.specs.Mode.{Mode}
use Rattle.sym_meaning.specs.Judged.{judged}
use Rattle.c_meaning.specs.Run.{first_cells}
use Rattle.circuits.specs.Net.{IsNet, count_ands, count_inputs}
use Rattle.sym_scale.specs.Cost.{function, nodes, bits}
use Rattle.sym_state.specs.Standing.{IsState}
use Rattle.sym_state.specs.declared.state.Sym.{Sym}
use Rattle.sym_duties.specs.declared.obligations.Obligations.{Obligations}
use Rattle.sym_duties.specs.Promise.{AreObligations}
use Rattle.sym_weight.specs.Weight.{Weight, Bits, most_weight}
use Rattle.sym_whole.specs.Deciding.{Decides}

-- calls at most n deep
module _ (p : Program) (W : Mode) (n : ℕ) where
  -- what main's body costs: and-nodes, and drawn bits
  abbrev pub weight_of_main : ℕ
  weight_of_main = function p (nodes p W.scale n) p.main

  abbrev pub bits_of_main : ℕ
  bits_of_main = function p (bits p W.scale n) p.main

  -- it isn't too heavy
  abbrev pub IsLight : Type 0
  IsLight = weight_of_main + bits_of_main ≤ most_weight + most_weight

  -- the state tells of each judged run with these segments completed before all events, and its net is no larger
  pub record IsWhole (before : List Bool) (s : Sym) : Type 0 where
    pub fits : IsState p s
    pub fine : IsNet s.net
    pub decides : Decides W.duties p (first_cells p) before s (run_main p (judged p W) (suc n) true)
    pub gates : count_ands s.net ≤ weight_of_main
    pub feeds : count_inputs s.net ≤ bits_of_main

-- a program with its invariants isn't too heavy
abbrev pub IsLightEnough : Program → List Placed → Type 0
IsLightEnough p I = Weight p I ≤ most_weight

-- the obligations of a program as a net, within its weight and bits
abbrev pub AreMade : Program → List Placed → Obligations → Type 0
AreMade p I o = AreObligations p I (Weight p I) (Bits p) o
