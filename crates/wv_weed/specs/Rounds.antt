-- A round of weeding: the obligations of the invariants that are left, one after the other.
use Rattle.std.specs.Prelude.{◌≡◌, ℕ, suc, ◌+◌, ◌<◌, ◌≤◌, Bool, true, false, List, length, Option, Some, None, IfSome, slice_get, Result, Ok, Err}
use Rattle.c_core.specs.Tree.{Program}
use Rattle.c_core.specs.View.{program_view}
use Rattle.c_inductive.specs.Inductive.{AreInductive, HasEveryInductive, is_of_invariant}
use Rattle.c_inductive.specs.Picking.{picked, IsSelection}
use Rattle.c_core.specs.Scope.{is_in}
use Rattle.c_meaning.specs.declared.run.Duty.{Duty}
use Rattle.c_meaning.specs.Duties.{Duties, Placed}
use Rattle.c_meaning.specs.Havoc.{ObligationHolds}
use Rattle.c_meaning.specs.Placing.{placed_view}
use Rattle.circuits.specs.declared.net.Bit.{Bit}
use Rattle.circuits.specs.declared.net.NetNode.{NetNode}
use Rattle.clauses.specs.declared.log.SpentAt.{SpentAt}
use Rattle.bit_answers.specs.Deciding.{IsNeverTrue}
use Rattle.judge_obligations.specs.Verdicts.{AreObligationsOf}
use Rattle.sym_duties.specs.Answers.{CanBeJudged, IsFault}
use Rattle.sym_duties.specs.declared.fault.SymFault.{SymFault}
use Rattle.sym_duties.specs.declared.obligations.Obligations.{Obligations}
use Rattle.wv_weed.specs.Known.{AreNever}
use Rattle.wv_weed.specs.Numbers.{IsSet}
use Rattle.wv_weed.specs.Weeded.{IsOpenAt}
use Rattle.wv_weed.specs.declared.rounds.Found.{Found}
use Rattle.wv_weed.specs.declared.rounds.Found.TheVariants.{Holds, Fails, Spent}
use Rattle.wv_weed.specs.declared.rounds.Open.{Open}
use Rattle.wv_weed.specs.declared.rounds.Round.{Round}
use Rattle.wv_weed.specs.declared.rounds.Trial.{Trial}
use Rattle.wv_weed.specs.declared.weeding.Turn.{Turn}

-- the obligations with the invariants that are left, or why there are none
abbrev pub AnswersWith : Program → List (List ℕ) → List Placed → List ℕ → Result Obligations SymFault → Type 0
AnswersWith p names I left (Ok o) = CanBeJudged p (picked left I) × AreObligationsOf p (picked left I) o
AnswersWith p names I left (Err fault) = IsFault p names I fault

-- what is left holds every inductive set
pub record AreLeft (p : Program) (I : List Placed) (left : List ℕ) : Type 0 where
  pub selection : IsSelection (length I) left
  pub holding : HasEveryInductive p I left

abbrev pub program_of : Trial → Program
program_of t = program_view t.program.now

-- the invariants in witness order
abbrev pub invariants_of : Trial → List Placed
invariants_of t = placed_view t.invariants.now

-- those that are left, in witness order
abbrev pub left_of : Trial → List Placed
left_of t = picked t.left.now (invariants_of t)

-- the obligations are those of the program with the invariants that are left; the budget is one
pub record IsTrial (t : Trial) : Type 0 where
  pub left : AreLeft (program_of t) (invariants_of t) t.left.now
  pub promised : AreObligationsOf (program_of t) (left_of t) t.obligations.now
  pub some : 1 ≤ t.conflicts
  pub bounded : t.conflicts ≤ 1000000

-- the obligation at an index is of the k-th invariant, counted from 0
pub record IsDutyOf (list : List Duty) (at k : ℕ) : Type 0 where
  pub duty : Duty
  pub named : slice_get list at ≡ Some duty
  pub of_invariant : is_of_invariant duty.kind ≡ true
  pub numbered : duty.invariant ≡ Some k

-- the invariant that the obligation at an index is of; none for the property
abbrev pub IsPlaceOf : List Duty → ℕ → Option ℕ → Type 0
IsPlaceOf list at (Some k) = IsDutyOf list at k
IsPlaceOf list at None = (d : Duty) → slice_get list at ≡ Some d → is_of_invariant d.kind ≡ true → d.invariant ≡ None

-- an open obligation, by its index and what is kept of it
pub record IsOpen (at : ℕ) (spent : SpentAt) (first : Option Open) : Type 0 where
  pub added : Open
  pub is : first ≡ Some added
  pub number : added.number ≡ at + 1
  pub kept : added.at ≡ spent

-- the first open obligation stays; where there was none, it is this
abbrev pub IsKeptFirst : Option Open → ℕ → SpentAt → Option Open → Type 0
IsKeptFirst (Some was) at spent first = first ≡ Some was
IsKeptFirst None at spent first = IsOpen at spent first

-- ---- with the invariants that are left, and a budget of N
module _ (N : ℕ) (p : Program) (I : List Placed) (left : List ℕ) where
  -- the obligation at an index holds if it is of an invariant
  abbrev pub IsPassed : ℕ → Type 0
  IsPassed at = (d : Duty) → slice_get (Duties p (picked left I)) at ≡ Some d → is_of_invariant d.kind ≡ true
      → ObligationHolds p (picked left I) (suc at)

  -- no inductive set has the k-th of these invariants, counted from 0
  abbrev pub IsLost : ℕ → Type 0
  IsLost k = (ms : List ℕ) (n : ℕ) → IsSelection (length I) ms → AreInductive p (picked ms I)
      → slice_get left k ≡ Some n → is_in n ms ≡ false

  -- what the solver says of the obligation at an index, of the k-th invariant, by its failing bit
  abbrev pub IsFoundAs : List NetNode → ℕ → ℕ → Bit → Found → Type 0
  IsFoundAs net at k b Holds = IsNeverTrue net b
  IsFoundAs net at k b Fails = IsLost k
  IsFoundAs net at k b (Spent s) = IsOpenAt N p I left (suc at) s

  -- of the first n obligations: an invariant whose flag is set is lost; where no flag is set and none is open, those of
  -- invariants hold. So a round that drops an invariant needn't look at all of them
  pub record IsRound (n : ℕ) (flags : List Bool) (first : Option Open) : Type 0 where
    pub many : length flags ≡ length left
    pub lost : (k : ℕ) → IsSet flags k → IsLost k
    pub passed : ((k : ℕ) → IsSet flags k → ⊥) → first ≡ None → (at : ℕ) → at < n → IsPassed at
    pub spent : IfSome first (λ x. IsOpenAt N p I left x.number x.at)

  -- a whole round, or why there is none
  abbrev pub Rounds : List (List ℕ) → Result Turn SymFault → Type 0
  Rounds names (Ok r) =
      CanBeJudged p (picked left I) × IsRound (length (Duties p (picked left I))) r.dropped.items r.first
      × AreNever r.known.net r.known.never.items
  Rounds names (Err fault) = IsFault p names I fault

abbrev pub net_of : Trial → List NetNode
net_of t = t.obligations.now.net

-- the round of a trial so far
pub record IsRoundOf (t : Trial) (n : ℕ) (r : Round) : Type 0 where
  pub round : IsRound t.conflicts (program_of t) (invariants_of t) t.left.now n r.dropped.items r.first
  -- where the solver found that an obligation fails, an invariant is dropped
  pub failed : 0 < r.failed → (k : ℕ) × IsSet r.dropped.items k
  pub known : AreNever (net_of t) r.never.items

-- what the solver says of the obligation at an index of a trial, of the k-th invariant, by its failing bit
abbrev pub IsFoundIn : Trial → ℕ → ℕ → Bit → Found → Type 0
IsFoundIn t at k b found = IsFoundAs t.conflicts (program_of t) (invariants_of t) t.left.now (net_of t) at k b found
