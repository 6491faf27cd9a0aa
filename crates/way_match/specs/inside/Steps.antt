-- The segments that some fitting positions have completed, event by event.
use Rattle.std.specs.Prelude.{ℕ, ◌+◌, Bool, true, false, List, [], ◌∷◌, length, replicate, Option, Some, None, ◌&&◌, ◌||◌, not}
use Rattle.c_core.specs.Tree as tree
use Rattle.c_core.specs.View.{program_view}
use Rattle.c_core.specs.declared.program.Program.{Program}
use Rattle.c_meaning.specs.declared.run.Event.{Event}
use Rattle.c_meaning.specs.Cells.{Cell}
use Rattle.way_match.specs.Points.{BoundSegment}
use Rattle.way_match.specs.Passing.{passes, passes_any, is_assumption}
use Rattle.way_match.specs.Matching.{Seen}
use Rattle.way_match.specs.View.{segments_view}
use Rattle.way_match.specs.declared.point.Bound.{Bound}

abbrev pub is_there : {A : Type 0} → Option A → Bool
is_there None = false
is_there (Some w) = true

abbrev pub only_if : {A : Type 0} → Bool → Option A → Option A
only_if true w = w
only_if false w = None

-- the way that stays, or else the one that comes, with this event
abbrev pub way_now : ℕ → Option (List ℕ) → Option (List ℕ) → Option (List ℕ)
way_now n (Some w) came = Some w
way_now n None (Some w) = Some (n ∷ w)
way_now n None None = None

-- the ways after event number n; `came` is a way of the segments before, where the event passes the follow there
abbrev pub step : tree.Program → Seen → ℕ → Option (List ℕ) → Bool → List BoundSegment → List (Option (List ℕ)) → List (Option (List ℕ))
step p e n came assumes (s ∷ ss) (w ∷ ws) =
    let stays : Option (List ℕ) = only_if (not (passes_any p s.avoids e.event e.cells)) w in
    way_now n stays came ∷
    step p e n (only_if (passes p s.follow e.event e.cells && (is_there stays || (assumes && is_assumption s.follow))) (way_now n stays came)) (is_assumption s.follow) ss ws
step p e n came assumes [] (w ∷ ws) = way_now n None came ∷ []
step p e n came assumes [] [] = []
step p e n came assumes (s ∷ ss) [] = []

-- what a matcher knows: the number of events, and for each number of segments a way of these, the last position first
pub record Matching : Type 0 where
  pub program : Program
  pub bound : Bound
  pub count : ℕ
  pub ways : List (Option (List ℕ))

abbrev pub begun : Program → Bound → Matching
begun program bound = record { program = program; bound = bound; count = 0; ways = Some [] ∷ replicate (length (segments_view bound)) None }

-- one more event
abbrev pub after : Event → List Cell → Matching → Matching
after e cells m = record m {
  count = m.count + 1;
  ways = step (program_view m.program) (record { event = e; cells = cells }) m.count None false (segments_view m.bound) m.ways;
}

abbrev pub after_all : Matching → List Seen → Matching
after_all m [] = m
after_all m (e ∷ es) = after_all (after e.event e.cells m) es

abbrev pub last_way : List (Option (List ℕ)) → Option (List ℕ)
last_way [] = None
last_way (w ∷ []) = w
last_way (w ∷ v ∷ ws) = last_way (v ∷ ws)

-- the second list reversed, onto the first
abbrev pub onto : {A : Type 0} → List A → List A → List A
onto xs [] = xs
onto xs (y ∷ ys) = onto (y ∷ xs) ys

-- the positions of a way, the first position first
abbrev pub positions_of : Option (List ℕ) → Option (List ℕ)
positions_of None = None
positions_of (Some w) = Some (onto [] w)
