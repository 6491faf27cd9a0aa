-- What a watcher has seen.
use Rattle.std.specs.Prelude.{List, [], ◌∷◌, Option, Some, None}
use Rattle.c_core.specs.declared.number.Spot.{Spot}
use Rattle.c_meaning.specs.declared.run.Event.{Event}
use Rattle.c_meaning.specs.declared.run.Event.TheVariants as event
use Rattle.c_meaning.specs.Cells.{Cell}
use Rattle.c_meaning.specs.Run.{Moment, Told, Here, Head}

-- the place of an event; a failure has none of its own
abbrev pub event_spot : Event → Option Spot
event_spot (event.At at) = Some at
event_spot (event.Enter at) = Some at
event_spot (event.Return at v) = Some at
event_spot (event.Branch at taken) = Some at
event_spot (event.Fail statement full call) = None

-- a watcher sees the events alone
abbrev pub seen_by : {S : Type 0} → (Event → List Cell → S → S) → Moment → S → S
seen_by after (Told e cs) s = after e cs s
seen_by after (Here spot cs) s = s
seen_by after (Head at l arrived cs) s = s

-- the state that follows a state by moments in order
abbrev pub seen_after : {S : Type 0} → (Event → List Cell → S → S) → S → List Moment → S
seen_after after s [] = s
seen_after after s (m ∷ ms) = seen_after after (seen_by after m s) ms
