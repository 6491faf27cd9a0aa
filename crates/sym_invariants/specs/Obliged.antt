-- A program with its obligations, as contracts see it, and what tests of invariants do.
use Rattle.std.specs.Prelude.{◌≡◌, ◌+◌, ◌<◌, ◌^◌, ℕ, Bool, true, false, List, length}
use Rattle.std.specs.List.{All}
use Rattle.c_core.specs.Tree.{Program}
use Rattle.c_core.specs.View.{program_view}
use Rattle.c_core.specs.declared.number.Spot.{Spot}
use Rattle.c_meaning.specs.Duties.{Placed, Duties}
use Rattle.c_meaning.specs.Havoc.{stands}
use Rattle.sym_meaning.specs.Mode.{Mode}
use Rattle.sym_meaning.specs.Obliging.{test_from, assume_all, obliging}
use Rattle.c_meaning.specs.declared.run.DutyKind.{DutyKind}
use Rattle.sym_state.specs.Following.{Follows}
use Rattle.sym_state.specs.declared.state.Sym.{Sym}
use Rattle.c_meaning.specs.Placing.{IsInvariant, placed_view}
use Rattle.sym_weight.specs.Weight.{placed_weight}
use Rattle.sym_invariants.specs.declared.obliged.Obliged.{Obliged}

abbrev pub program_of : Obliged → Program
program_of w = program_view w.program.now

-- the invariants in witness order
abbrev pub invariants_of : Obliged → List Placed
invariants_of w = placed_view w.mode.invariants.now

-- what is judged
abbrev pub mode_of : Obliged → Mode
mode_of w = obliging (program_of w) (invariants_of w)

-- the obligations are the program's, and their numbers have 32 bits
pub record IsObliged (w : Obliged) : Type 0 where
  pub duties : w.mode.duties.now ≡ Duties (program_of w) (invariants_of w)
  pub numbered : length w.mode.duties.now < 2 ^ 32
  pub invariants : All (IsInvariant (program_of w)) (invariants_of w)

-- no invariant of a loop (true) or a statement (false) is at a place
abbrev pub NoneStands : Obliged → Bool → Spot → Type 0
NoneStands w at_loop spot = All (λ x. stands (program_of w) (invariants_of w) at_loop spot x ≡ false) (invariants_of w)

-- ---- of the invariants xs, those of a loop (true) or a statement (false) at a place
module _ (w : Obliged) where
  -- the net has room for their tests
  abbrev pub HasRoom : List Placed → Bool → Spot → Sym → Type 0
  HasRoom xs at_loop spot s = length s.net + placed_weight (program_of w) xs at_loop spot < 2 ^ 27

  -- they are tested in turn, numbered from i on
  abbrev pub Tests : ℕ → List Placed → Bool → Spot → DutyKind → Sym → Sym → Type 0
  Tests i xs at_loop spot kind old new =
      Follows (Duties (program_of w) (invariants_of w)) (program_of w) (placed_weight (program_of w) xs at_loop spot) 0 old new (λ v u. Unit {0}) (λ v. test_from (program_of w) (invariants_of w) i xs at_loop spot kind)

  -- those of a loop are assumed
  abbrev pub Assumes : List Placed → Spot → Sym → Sym → Type 0
  Assumes xs spot old new =
      Follows (Duties (program_of w) (invariants_of w)) (program_of w) (placed_weight (program_of w) xs true spot) 0 old new (λ v u. Unit {0}) (λ v. assume_all (program_of w) (invariants_of w) xs spot)
