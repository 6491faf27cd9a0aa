use Rattle.std.proofs.Common.{◌≡◌, length, arith, rules}
use Rattle.sat_core.proofs.Models.{values_of_first}
use Rattle.sat_core.proofs.plain.model.Goals as goal

pub returns : goal.returns
returns c =
    let k : c.len-variable-end.result ≡ length c.args.trail.now.values.items = search rules in
    values_of_first c.args.trail.now.values.items c.loop-variable.variable c.loop-variable.values (omega (arith, c.loop-variable-test.false, c.loop-variable.auto.variable-end)) c.loop-variable.invariant
