-- Segment by segment, what the circuits follow is what an event completes.
use Rattle.std.proofs.Common.{◌≡◌, ◌||◌, Bool, List, [], ◌∷◌, map, refl, ap}
use Rattle.c_core.specs.Tree.{Program}
use Rattle.c_meaning.specs.declared.run.Event.{Event}
use Rattle.c_meaning.specs.Cells.{Cell}
use Rattle.way_match.specs.Points.{BoundSegment}
use Rattle.way_match.specs.Passing.{is_assumption}
use Rattle.seek_meaning.specs.Progress as progress
use Rattle.seek_events.specs.Passed.{completed_from, completes_from}
use Rattle.seek_events.specs.Laws.{AreFollowed, passed_by}

module _ (p : Program) (e : Event) (cells : List Cell) where
  after_from : (came assumes : Bool) (ss : List BoundSegment) (bs : List Bool) → completed_from came assumes (map (passed_by p e cells) ss) bs ≡ progress.completed_from p e cells came assumes ss bs
  after_from came assumes [] bs = refl
  after_from came assumes (s ∷ ss) [] = refl
  after_from came assumes (s ∷ ss) (b ∷ bs) =
      ap (λ xs. (progress.stays p e cells s b || came) ∷ xs) (after_from (progress.completes p e cells came assumes s b) (is_assumption s.follow) ss bs)

  all_from : (came assumes : Bool) (ss : List BoundSegment) (bs : List Bool) → completes_from came assumes (map (passed_by p e cells) ss) bs ≡ progress.completes_from p e cells came assumes ss bs
  all_from came assumes [] bs = refl
  all_from came assumes (s ∷ ss) [] = refl
  all_from came assumes (s ∷ ss) (b ∷ bs) = all_from (progress.completes p e cells came assumes s b) (is_assumption s.follow) ss bs

pub followed : (p : Program) (ss : List BoundSegment) (e : Event) (cells : List Cell) (bs : List Bool) → AreFollowed p ss e cells bs
followed p ss e cells bs = record {
  after = after_from p e cells _ _ ss bs;
  all = all_from p e cells _ _ ss bs;
}
