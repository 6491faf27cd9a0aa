use Rattle.c_core.specs.View.{program_view}
use Rattle.way_match.specs.View.{segments_view}
use Rattle.wv_seek.proofs.Searched.{promised, are_brief, decided_beyond}
use Rattle.wv_seek.proofs.seeking.seek.Goals as goal

pub answer-requires-clause-promised : goal.answer-requires-clause-promised
answer-requires-clause-promised c = promised (program_view c.args.program.now) (segments_view c.args.bound.now) c.args.turns c.in_ok-reach.reach c.in_ok-reach.ensures

pub answer-requires-clause-brief : goal.answer-requires-clause-brief
answer-requires-clause-brief c =
    let p = program_view c.args.program.now in
    let ss = segments_view c.args.bound.now in
    let k = c.args.turns in
    let checked = c.args.program.now.checked in
    are_brief p ss k c.in_ok-reach.reach c.in_ok-reach.ensures checked (c.steps_are_light.ensures p checked ss k)

pub returns : goal.returns
returns c =
    let p = program_view c.args.program.now in
    let ss = segments_view c.args.bound.now in
    let k = c.args.turns in
    record {
      reach = c.in_ok-reach.reach;
      unrolled = c.in_ok-reach.ensures;
      right = c.in_ok-found.ensures.right;
      decided = λ more. c.in_ok-found.ensures.decided (decided_beyond p ss k c.in_ok-reach.reach c.in_ok-reach.ensures more);
    }
