use Rattle.std.proofs.Common.{◌&&◌, not, ◌∙◌, ap, ap₂}
use Rattle.c_meaning.specs.declared.run.Event.TheVariants.{Fail}
use Rattle.way_match.specs.Passing.{passes_any}
use Rattle.way_match.specs.View.{points_view}
use Rattle.seek_passes.proofs.violation.completes.Goals as goal

pub returns : goal.returns
returns c = λ p cells.
    c.both.ensures ∙ ap₂ (λ a b. a && not b) (c.fails_at-follows.ensures p cells)
    (c.fails_at_any-avoids.ensures p cells ∙ ap (λ xs. passes_any p (points_view xs) (Fail c.args.at.statement c.args.at.full c.args.at.call) cells) c.as_slice.ensures)
