use Rattle.std.proofs.Common.{◌≡◌, ℕ, ◌<◌, false, slice_get, Some}
use Rattle.c_core.specs.View.{program_view}
use Rattle.way_match.specs.Passing.{passes}
use Rattle.way_match.specs.Points.{Point}
use Rattle.way_match.specs.declared.avoided.Avoided.{Avoided}
use Rattle.way_match.specs.inside.Avoided.{avoid_at}
use Rattle.way_match.specs.inside.Turning.{sighted}
use Rattle.way_match.proofs.resting.avoids_none.Given as goal

-- none of those before is passed
abbrev pub invariant-loop-avoided : goal.invariant-loop-avoided
invariant-loop-avoided l = (j : ℕ) (a : Avoided) → j < l.avoided-index → slice_get l.there j ≡ Some a → a.segment < l.reach → (x : Point) →
    avoid_at (sighted l.sight) a.segment a.at ≡ Some x → passes (program_view l.sight.program.now) x l.sight.event l.sight.memory.now.cells ≡ false
