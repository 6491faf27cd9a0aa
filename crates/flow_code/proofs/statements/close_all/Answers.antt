use Rattle.std.proofs.Common.{◌≡◌, ◌++◌, rules, ap, ◌∙◌}
use Rattle.flow_code.specs.Preparing.{all_closed}
use Rattle.flow_code.proofs.Gluing.{closed_on, nothing_more}
use Rattle.flow_code.proofs.statements.close_all.Goals as goal

pub loop-index-init : goal.loop-index-init
loop-index-init c = nothing_more c.args.ops.now

pub loop-index-preserved : goal.loop-index-preserved
loop-index-preserved c = closed_on c.loop-index.index c.args.ops.now c.loop-index.ops c.emit.new.ops c.loop-index.invariant c.in_ok-emit.ensures

pub returns : goal.returns
returns c =
    let e : c.loop-index.index ≡ c.args.count = search rules in
    c.loop-index.invariant ∙ ap (λ n. c.args.ops.now ++ all_closed n) e
