-- A statement, followed through all judged runs at once.
--
-- A statement takes each run that is here to where the definition takes it: on, to the statement after it; out of a loop's body, a
-- loop or a function, where the run stands at the bit `again`, `broken` or `gave` and nowhere else; or to its end. A run that isn't
-- here stays as it is, whatever the statement does.
--
-- The three bits are those of the innermost loop and function around a part. Who enters a loop, its body or a function keeps the bits
-- of what is around it, goes on with bits that are false, and puts the kept ones back where the ways come together again. No run that
-- is inside stands at the kept bits, and no run at the kept bits is inside, so that this costs no node.
use Rattle.std.specs.Prelude.{◌≡◌, ℕ, ◌≤◌, Bool, true, false, ℤ, List, ◌++◌, length, Option, Some, None}
use Rattle.c_core.specs.Tree.{Program}
use Rattle.c_core.specs.declared.number.IntType.{IntType}
use Rattle.c_meaning.specs.declared.run.Duty.{Duty}
use Rattle.c_meaning.specs.Cells.{Cell}
use Rattle.c_meaning.specs.Acts.{Res, Go, Stop, Flow, Next, Broken, Again, Gave}
use Rattle.c_meaning.specs.Havoc.{Stopped}
use Rattle.sym_meaning.specs.Mode.{JudgedState}
use Rattle.sym_state.specs.declared.state.Sym.{Sym}
use Rattle.sym_state.specs.Standing.{Stand, stand, IsState, Added, Moves, IsHere, IsOver, marks}
use Rattle.sym_state.specs.Following.{left_of, Taken, Deed}

-- a run on its way out, which failed nothing: it stands at one of the three bits. Its cells are those that it had when it set out, of
-- which this many stood before the statement; what is declared meanwhile stands after them
pub record IsAway (ds : List Duty) (out on back : Bool) (around : ℕ) (rest : List ℤ) (s : JudgedState) (new : Stand) : Type 0 where
  pub live : new.live ≡ false
  pub broken : new.broken ≡ out
  pub again : new.again ≡ on
  pub gave : new.gave ≡ back
  pub failing : new.failing ≡ marks 0 (length ds)
  pub values : s.values ≡ rest
  pub draws : s.draws ≡ new.draws
  pub completed : s.completed ≡ new.completed
  pub least : around ≤ length s.cells
  pub junk : List Cell
  pub cells : new.cells ≡ s.cells ++ junk

-- what a function gave: a value of its result, or none where it has none (C11 6.8.6.4p1)
abbrev pub IsGiven : Option IntType → Stand → Option ℤ → Type 0
IsGiven None new None = Unit {0}
IsGiven None new (Some z) = ⊥
IsGiven (Some ty) new None = ⊥
IsGiven (Some ty) new (Some z) = z ≡ new.given

-- where a statement of a function of this result took a run; this many cells stood before it
module _ (ds : List Duty) (gives : Option IntType) (around : ℕ) where
  abbrev pub Went : Stand → List ℤ → Res Stopped JudgedState Flow → Type 0
  Went new rest (Go Next s) = IsHere (length ds) new × (s ≡ left_of new rest)
  Went new rest (Go Broken s) = IsAway ds true false false around rest s new
  Went new rest (Go Again s) = IsAway ds false true false around rest s new
  Went new rest (Go (Gave v) s) = IsAway ds false false true around rest s new × IsGiven gives new v
  Went new rest (Stop e s) = IsOver ds e new × (s.values ≡ rest) × (s.draws ≡ new.draws)

-- for all inputs: what the statement does from here; what it declares stands after the cells of before
pub record Runs (ds : List Duty) (p : Program) (gives : Option IntType) (ands inputs : ℕ) (old new : Sym) (deed : Deed Flow) : Type 0 where
  pub fits : IsState p new
  pub added : Added ands inputs old.net new.net
  pub grows : length old.cells.items ≤ length new.cells.items
  pub result : new.result ≡ old.result
  pub moves : (v : ℕ → Bool) → Moves (stand p v old) (stand p v new)
  pub does : (v : ℕ → Bool) → IsHere (length ds) (stand p v old) → (vs rest : List ℤ) → Taken p.model (moves v).more vs rest
      → Went ds gives (length old.cells.items) (stand p v new) rest (deed v (left_of (stand p v old) vs))
