use Rattle.std.proofs.Common.{◌≡◌, ◌-◌, ◌∙◌, sym, false, length, take, drop}
use Rattle.c_tokens.specs.Gaps.{closes}
use Rattle.c_tokens.proofs.Closes.{close_later}
use Rattle.c_tokens.proofs.gap.close_length.Goals as goal

pub loop-at-preserved : goal.loop-at-preserved
loop-at-preserved c =
    let text = c.args.text.now in
    let open_here : closes (take (length text - c.loop-at.at) (drop c.loop-at.at text)) ≡ false = sym c.closes.ensures.here ∙ c.if-closes.false in
    c.loop-at.invariant ∙ close_later text c.loop-at.at c.loop-at-test.true open_here
