use Rattle.std.proofs.Common.{length, sym, ◌∙◌, subst, arith}
use Rattle.circuits.proofs.Nets.{opp}
use Rattle.way_match.specs.View.{each_segment_view}
use Rattle.seek_passes.specs.Telling.{Counts}
use Rattle.seek_passes.proofs.Failing.{counts_where, counts_nowhere, none_counts}
use Rattle.seek_passes.proofs.violation.counts.Goals as goal

pub returns-then-many-eq0 : goal.returns-then-many-eq0
returns-then-many-eq0 c = λ p. none_counts p c.args.at.statement c.args.at.full c.args.at.call c.args.sym.now c.args.segments.now c.not.result (omega arith) (opp c.not.ensures c.yes.ensures)

pub returns-then-completes : goal.returns-then-completes
returns-then-completes c = λ p.
    subst (Counts p (each_segment_view c.args.segments.now) c.args.at.statement c.args.at.full c.args.at.call c.args.sym.now) (sym c.index.ensures)
    (counts_where p c.args.at.statement c.args.at.full c.args.at.call c.args.sym.now c.args.segments.now (length c.args.segments.now) c.index-segments-many.result c.requires.one_each (omega arith) (omega arith) c.index-segments-many.is c.index.result.now c.requires.completed_in
    (λ cells. sym c.if-completes.true ∙ c.completes.ensures p cells))

pub returns : goal.returns
returns c = λ p.
    counts_nowhere p c.args.at.statement c.args.at.full c.args.at.call c.args.sym.now c.args.segments.now (length c.args.segments.now) c.index-segments-many.result c.requires.one_each (omega arith) (omega arith) c.index-segments-many.is c.not-2.result (opp c.not-2.ensures c.yes-2.ensures)
    (λ cells. sym c.if-completes.false ∙ c.completes.ensures p cells)
