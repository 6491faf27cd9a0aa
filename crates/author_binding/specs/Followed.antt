-- Segments that give back what inputs drew, and then meet the violation.
use Rattle.std.specs.Prelude.{◌≡◌, List, [], ◌∷◌, Some}
use Rattle.c_core.specs.Tree.{Program}
use Rattle.c_core.specs.declared.number.Spot.{Spot}
use Rattle.way_match.specs.Points.{At, BoundSegment, Point, Return, ReturnTest, Target}
use Rattle.author_runs.specs.Returning.{CameBack}
use Rattle.author_binding.specs.ConstantTests.{IsEqualTo}

-- a segment without avoids
abbrev pub follows_alone : Point → BoundSegment
follows_alone x = record { avoids = []; follow = x }

-- a segment follows the return of an input with its value
pub record FollowsReturn (p : Program) (b : CameBack) (s : BoundSegment) : Type 0 where
  pub test : ReturnTest
  pub is : s ≡ follows_alone (Return b.close (Some test))
  pub tests : IsEqualTo p b.value test

-- a segment for each input, then that of the violation in a statement
abbrev pub FollowEach : Program → Spot → List CameBack → List BoundSegment → Type 0
FollowEach p statement [] ss = ss ≡ follows_alone (Target (At statement)) ∷ []
FollowEach p statement (b ∷ bs) [] = ⊥
FollowEach p statement (b ∷ bs) (s ∷ ss) = FollowsReturn p b s × FollowEach p statement bs ss
