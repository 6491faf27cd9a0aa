use Rattle.std.proofs.Common.{◌<◌, ◌∙◌, length, sym, arith}
use Rattle.run_state.proofs.Drawing.{none_more}
use Rattle.run_state.proofs.choices.place_of.Goals as goal

pub loop-index-preserved : goal.loop-index-preserved
loop-index-preserved c =
    let h : c.loop-index.index < length c.args.givens.now = omega arith in
    none_more c.args.spot c.args.givens.now c.loop-index.index c.index-givens-index.result c.loop-index.invariant h c.index-givens-index.is
    (sym c.is_at.ensures ∙ c.if-is_at.false)
