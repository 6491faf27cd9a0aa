use Rattle.std.proofs.Common.{sym, ◌∙◌, arith}
use Rattle.way_match.proofs.Views.{settles}
use Rattle.way_match.proofs.states.is_passed.Goals as goal

pub returns-then-len-eq0-clause-passed : goal.returns-then-len-eq0-clause-passed
returns-then-len-eq0-clause-passed c = λ e.
    (settles c.args.segments.now c.args.i c.index-segments-i.result (omega arith) c.index-segments-i.is (sym c.len.ensures ∙ c.if-len-eq0.true), c.is_settled.ensures e)
