use Rattle.wv_author.proofs.ValueLines.{no_feed_more, no_line}
use Rattle.wv_author.proofs.values.line_size.Goals as goal

pub loop-size-preserved : goal.loop-size-preserved
loop-size-preserved c = no_feed_more c.args.text.now c.loop-size.size c.loop-size.invariant c.loop-size-test.true c.if-text-size-eq10.false

pub returns : goal.returns
returns c = no_line c.args.text.now c.loop-size.size c.loop-size.invariant c.loop-size-test.false
