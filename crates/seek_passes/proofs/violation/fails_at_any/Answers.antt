use Rattle.std.proofs.Common.{◌||◌, ◌+◌, drop, refl, sym, ◌∙◌, ap, arith}
use Rattle.std.proofs.lemmas.List.{at_drop_all}
use Rattle.c_meaning.specs.declared.run.Event.TheVariants.{Fail}
use Rattle.way_match.specs.Passing.{passes_any}
use Rattle.way_match.specs.View.{points_view}
use Rattle.seek_passes.proofs.Failing.{any_first}
use Rattle.seek_passes.proofs.violation.fails_at_any.Goals as goal

pub loop-point-init : goal.loop-point-init
loop-point-init c = λ p cells. refl

pub loop-point-preserved : goal.loop-point-preserved
loop-point-preserved c = λ p cells.
    let E = Fail c.args.at.statement c.args.at.full c.args.at.call in
    let xs = c.args.points.now in
    let i = c.loop-point.point-index in
    sym (any_first p E cells xs i c.point-item.result c.loop-point-test.true c.point-item.is ∙ ap (λ b. b || passes_any p (points_view (drop (i + 1) xs)) E cells) (sym (c.fails_at.ensures p cells) ∙ c.if-fails_at.false))
    ∙ c.loop-point.invariant p cells

pub returns-then-fails_at : goal.returns-then-fails_at
returns-then-fails_at c = λ p cells.
    let E = Fail c.args.at.statement c.args.at.full c.args.at.call in
    let xs = c.args.points.now in
    let i = c.loop-point.point-index in
    sym (sym (c.loop-point.invariant p cells) ∙ any_first p E cells xs i c.point-item.result c.loop-point-test.true c.point-item.is ∙ ap (λ b. b || passes_any p (points_view (drop (i + 1) xs)) E cells) (sym (c.fails_at.ensures p cells) ∙ c.if-fails_at.true))

pub returns : goal.returns
returns c = λ p cells.
    sym (at_drop_all (λ ys. passes_any p (points_view ys) (Fail c.args.at.statement c.args.at.full c.args.at.call) cells) c.args.points.now c.loop-point.point-index (omega (arith, c.loop-point-test.false))) ∙ c.loop-point.invariant p cells
