use Rattle.std.proofs.Common.{◌∙◌, refl, sym, subst}
use Rattle.std.specs.List.{All}
use Rattle.c_core.specs.View.{program_view}
use Rattle.seek_mode.specs.SeekingMode.{seeking_mode}
use Rattle.seek_passes.specs.Passing.{IsSegment}
use Rattle.sym_eval.specs.Whole.{IsLight, IsWhole}
use Rattle.sym_whole.specs.Starting.{at_start}
use Rattle.way_match.specs.View.{each_segment_view, segments_view}
use Rattle.seek_walk.proofs.WholeRuns.{as_many, light_enough, is_whole_sought}
use Rattle.seek_walk.proofs.walk.sought.Goals as goal

pub whole-requires-clause-walk : goal.whole-requires-clause-walk
whole-requires-clause-walk c =
    subst (λ xs. All (IsSegment (program_view c.args.program.now)) (each_segment_view xs)) (sym c.as_slice-segments.ensures) c.requires.segments

-- the hit is the one duty
pub whole-requires-clause-duties : goal.whole-requires-clause-duties
whole-requires-clause-duties c = refl

pub whole-requires-clause-light : goal.whole-requires-clause-light
whole-requires-clause-light c =
    let p = program_view c.args.program.now in
    let ss = segments_view c.args.bound.now in
    let k = c.args.turns in
    let cost = c.runs_that_seek_cost_their_weight_at_most.ensures p ss k k p.main in
    subst (λ xs. IsLight p (seeking_mode p (each_segment_view xs) k) k) (sym c.as_slice-segments.ensures) (light_enough p ss k cost (c.draws_are_light.ensures p ss k) c.requires.light)

pub returns : goal.returns
returns c =
    let p = program_view c.args.program.now in
    let ss = segments_view c.args.bound.now in
    let k = c.args.turns in
    let cost = c.runs_that_seek_cost_their_weight_at_most.ensures p ss k k p.main in
    let many = c.in_ok-count.ensures ∙ c.len.ensures ∙ sym (as_many c.args.bound.now.segments) in
    is_whole_sought p ss k cost many
    (subst (λ xs. IsWhole p (seeking_mode p (each_segment_view xs) k) k (at_start c.in_ok-count.count) c.in_ok-sym.sym) c.as_slice-segments.ensures c.in_ok-sym.ensures)
