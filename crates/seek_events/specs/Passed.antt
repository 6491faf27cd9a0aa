-- What an event that passes these waypoints completes, segment by segment, over truth values.
use Rattle.std.specs.Prelude.{Bool, false, not, ◌&&◌, ◌||◌, List, [], ◌∷◌}

-- of one segment: the event passes a waypoint to avoid, and the one to follow; that one is an assumption
pub record Passed : Type 0 where
  pub avoided : Bool
  pub followed : Bool
  pub assumes : Bool

-- the segments before this one stay completed
abbrev pub stays : Passed → Bool → Bool
stays x completed = completed && not x.avoided

-- the event completes this segment too: the segments before it stay completed, or it has just completed them (came)
-- where the follow there (assumes) and the follow here are assumptions
abbrev pub completes : Bool → Bool → Passed → Bool → Bool
completes came assumes x completed = x.followed && (stays x completed || (assumes && (x.assumes && came)))

-- which numbers of segments are completed after the event
abbrev pub completed_from : Bool → Bool → List Passed → List Bool → List Bool
completed_from came assumes (x ∷ xs) (b ∷ bs) =
    (stays x b || came) ∷ completed_from (completes came assumes x b) x.assumes xs bs
completed_from came assumes [] bs = []
completed_from came assumes (x ∷ xs) [] = []

-- the event completes all of these
abbrev pub completes_from : Bool → Bool → List Passed → List Bool → Bool
completes_from came assumes (x ∷ xs) (b ∷ bs) = completes_from (completes came assumes x b) x.assumes xs bs
completes_from came assumes [] bs = came
completes_from came assumes (x ∷ xs) [] = false
