use Rattle.seek_answer.proofs.Turns.{one_more}
use Rattle.seek_answer.proofs.answering.in_turn.Goals as goal

pub loop-draw-preserved : goal.loop-draw-preserved
loop-draw-preserved c =
    one_more c.args.draws.now c.loop-draw.draw-index _ c.loop-draw.values c.push_value.new.values c.loop-draw-test.true c.loop-draw.invariant c.in_ok-push_value.ensures
