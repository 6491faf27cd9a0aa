-- Circuits of what an event completes.
use Rattle.std.specs.Prelude.{◌≡◌, ℕ, ◌*◌, Bool, false, ◌||◌, cond, List, length, map}
use Rattle.std.specs.List.{All}
use Rattle.circuits.specs.Net.{holds, Grown, Means, IsIn}
use Rattle.circuits.specs.declared.net.Bit.{Bit}
use Rattle.circuits.specs.declared.net.NetNode.{NetNode}
use Rattle.seek_events.specs.Passed.{Passed, stays, completes, completed_from, completes_from}
use Rattle.seek_events.specs.declared.segment.Passing.{Passing}
use Rattle.seek_events.specs.declared.segment.Moved.{Moved}

-- the bits of a segment are bits of the net
pub record IsHere (net : List NetNode) (x : Passing) : Type 0 where
  pub avoided : IsIn net x.avoided
  pub followed : IsIn net x.followed

-- what is passed under an input
abbrev pub passed_in : List NetNode → (ℕ → Bool) → Passing → Passed
passed_in net v x = record { avoided = holds v net x.avoided; followed = holds v net x.followed; assumes = x.assumes }

-- the values of bits under an input
abbrev pub values_in : List NetNode → (ℕ → Bool) → List Bit → List Bool
values_in net v bits = map (holds v net) bits

-- the segments before this one stay completed
abbrev pub stays_in : List NetNode → Passing → Bit → (ℕ → Bool) → Bool
stays_in net x b v = stays (passed_in net v x) (holds v net b)

-- the event completes this segment too
abbrev pub completes_in : List NetNode → Bit → Bool → Passing → Bit → (ℕ → Bool) → Bool
completes_in net came assumes x b v = completes (holds v net came) assumes (passed_in net v x) (holds v net b)

-- a bit that says so, in at most 3 nodes
pub record IsCompletion (old new : List NetNode) (came : Bit) (assumes : Bool) (x : Passing) (b r : Bit) : Type 0 where
  pub grown : Grown 3 old new
  pub value : Means new r (completes_in old came assumes x b)

-- after the event, where the run is here: the segments before this one are completed; the event completes this one too
pub record IsMoved (old new : List NetNode) (here came : Bit) (assumes : Bool) (x : Passing) (b : Bit) (r : Moved) : Type 0 where
  pub grown : Grown 8 old new
  pub completed : Means new r.completed (λ v. cond (holds v old here) (stays_in old x b v || holds v old came) (holds v old b))
  pub passed : Means new r.came (completes_in old came assumes x b)

-- the bits of all segments, after an event of a run that is here, in at most 8 nodes a segment
pub record AreAfter (old new : List NetNode) (here : Bit) (xs : List Passing) (bits after : List Bit) : Type 0 where
  pub grown : Grown (8 * length xs) old new
  pub inside : All (IsIn new) after
  pub values : (v : ℕ → Bool) → values_in new v after
      ≡ cond (holds v old here) (completed_from false false (map (passed_in old v) xs) (values_in old v bits)) (values_in old v bits)

-- whether the event completes all segments, in at most 3 nodes a segment
pub record IsAll (old new : List NetNode) (xs : List Passing) (bits : List Bit) (r : Bit) : Type 0 where
  pub grown : Grown (3 * length xs) old new
  pub value : Means new r (λ v. completes_from false false (map (passed_in old v) xs) (values_in old v bits))
