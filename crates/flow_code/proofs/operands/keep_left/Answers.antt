use Rattle.std.proofs.Common.{refl}
use Rattle.flow_code.proofs.Gluing.{nothing_more}
use Rattle.flow_code.proofs.Readying.{kept_other, no_rest}
use Rattle.flow_code.proofs.operands.keep_left.Goals as goal

pub returns-in-Top-clause-put : goal.returns-in-Top-clause-put
returns-in-Top-clause-put c = rw c.in-Top.is (nothing_more c.args.ops.now)

pub returns-in-Top-clause-due : goal.returns-in-Top-clause-due
returns-in-Top-clause-due c = rw c.in-Top.is refl

pub returns-in_ok-give-in_default-clause-put : goal.returns-in_ok-give-in_default-clause-put
returns-in_ok-give-in_default-clause-put c = kept_other c.args.left c.args.steps c.args.ops.now c.give.new.ops c.in_default.not-Top c.in_ok-give-in_default.ensures

pub returns-in_ok-give-in_default-clause-due : goal.returns-in_ok-give-in_default-clause-due
returns-in_ok-give-in_default-clause-due c = no_rest c.args.left c.args.steps c.in_default.not-Top
