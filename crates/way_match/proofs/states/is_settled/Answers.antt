use Rattle.std.proofs.Common.{sym, ◌∙◌, arith}
use Rattle.way_match.proofs.Views.{settles}
use Rattle.way_match.proofs.states.is_settled.Goals as goal

pub returns-then-len-eq0 : goal.returns-then-len-eq0
returns-then-len-eq0 c = λ e.
    (settles c.args.segments.now c.args.i c.index-segments-i.result (omega arith) c.index-segments-i.is (sym c.len.ensures ∙ c.if-len-eq0.true), sym c.is_some.ensures ∙ e)
