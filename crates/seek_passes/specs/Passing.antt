-- Which waypoints an event of symbolic runs passes, as bits.
use Rattle.std.specs.Prelude.{◌≡◌, ℕ, ◌+◌, ◌<◌, ◌^◌, Bool, IsTrue, List, map, length, Option, Some, None}
use Rattle.std.specs.List.{All}
use Rattle.c_core.specs.Tree.{Program}
use Rattle.c_core.specs.Operators.{is_comparison}
use Rattle.c_core.specs.Typing.{is_typed, has_value}
use Rattle.circuits.specs.declared.net.Bit.{Bit}
use Rattle.way_match.specs.Points.{ReturnTest, Point, Assume, Return, BoundSegment}
use Rattle.way_match.specs.Passing.{passes, passes_any}
use Rattle.sym_state.specs.declared.state.Sym.{Sym}
use Rattle.sym_state.specs.Standing.{stand, IsState, Turned}
use Rattle.sym_values.specs.Valuing.{Decided}
use Rattle.seek_events.specs.declared.segment.Passing.{Passing}
use Rattle.seek_events.specs.Events.{IsHere, passed_in}
use Rattle.seek_events.specs.Laws.{passed_by}
use Rattle.seek_passes.specs.declared.event.SymEvent.{SymEvent}
use Rattle.seek_passes.specs.Event.{event_in, IsEvent}
use Rattle.seek_passes.specs.Charges.{point_weight, any_weight, segment_weight, segments_weight}

-- a constraint on `\result`, if there is one, compares it
abbrev pub IsTest : Option ReturnTest → Type 0
IsTest None = Unit {0}
IsTest (Some t) = IsTrue (is_comparison t.op)

module _ (p : Program) where
  -- a waypoint's expression is a typed one that has a value
  abbrev pub IsPoint : Point → Type 0
  IsPoint (Assume spot test) = IsTrue (is_typed p test) × IsTrue (has_value test)
  IsPoint (Return close test) = IsTest test
  IsPoint _ = Unit {0}

  -- the same of all waypoints of a segment
  pub record IsSegment (s : BoundSegment) : Type 0 where
    pub avoids : All IsPoint s.avoids
    pub follow : IsPoint s.follow

module _ (p : Program) (e : SymEvent) where
  -- an event of this state can be told with at most this many nodes
  pub record CanTell (s : Sym) (ands : ℕ) : Type 0 where
    pub fits : IsState p s
    pub event : IsEvent p s.net e
    pub room : length s.net + ands < 2 ^ 27

  -- a bit that says which runs pass a waypoint
  abbrev pub PassesPoint : Point → Sym → Sym → Bit → Type 0
  PassesPoint x old new r =
      Decided p (point_weight p e x) old new r (λ v. passes p x (event_in p old.net e v) (stand p v old).cells)

  -- the same of one of several
  abbrev pub PassesAny : List Point → Sym → Sym → Bit → Type 0
  PassesAny xs old new r =
      Decided p (any_weight p e xs) old new r (λ v. passes_any p xs (event_in p old.net e v) (stand p v old).cells)

  -- what the event passes of a segment
  pub record PassesSegment (s : BoundSegment) (old new : Sym) (r : Passing) : Type 0 where
    pub turned : Turned p (segment_weight p e s) 0 old new (λ v s. s)
    pub here : IsHere new.net r
    pub is : (v : ℕ → Bool) → passed_in new.net v r ≡ passed_by p (event_in p old.net e v) (stand p v old).cells s

  -- of all segments
  pub record PassesSegments (ss : List BoundSegment) (old new : Sym) (rs : List Passing) : Type 0 where
    pub turned : Turned p (segments_weight p e ss) 0 old new (λ v s. s)
    pub here : All (IsHere new.net) rs
    pub are : (v : ℕ → Bool) → map (passed_in new.net v) rs
        ≡ map (passed_by p (event_in p old.net e v) (stand p v old).cells) ss
