use Rattle.std.proofs.Common.{◌∷◌, []}
use Rattle.flow_code.specs.declared.code.Action.TheVariants.{Leave}
use Rattle.flow_code.specs.Preparing.{op, all_closed}
use Rattle.flow_code.proofs.Gluing.{behind_it}
use Rattle.flow_code.proofs.statements.leave.Goals as goal

pub returns : goal.returns
returns c = behind_it c.args.ops.now (all_closed c.args.scopes) c.close_all.new.ops c.emit.new.ops (op 0 Leave ∷ []) c.in_ok-close_all.ensures c.in_ok-emit.ensures
