use Rattle.std.proofs.Common.{◌++◌, ◌∷◌, [], ap, ◌∙◌, slice_get}
use Rattle.c_core.specs.View.{functions_view}
use Rattle.flow_code.specs.declared.code.Action.TheVariants.{Input}
use Rattle.flow_code.specs.declared.code.Operand.TheVariants.{Top}
use Rattle.flow_code.specs.Expressions.{call_of}
use Rattle.flow_code.specs.Preparing.{op, give}
use Rattle.flow_code.proofs.Gluing.{behind_it}
use Rattle.flow_code.proofs.calls.called.Goals as goal

pub returns-in_ok-give-in-Defined : goal.returns-in_ok-give-in-Defined
returns-in_ok-give-in-Defined c =
    let f = c.in-Defined.function in
    rw c.in-Defined.is (behind_it c.args.ops.now (call_of f c.args.arguments c.args.site (slice_get (functions_view c.args.program.now.functions) f) ∷ []) c.call_function.new.ops c.give.new.ops
    (give 0 Top c.args.then ∷ []) c.in_ok-call_function-in-Defined.ensures c.in_ok-give-in-Defined.ensures)

pub returns-in_ok-emit-in-Input : goal.returns-in_ok-emit-in-Input
returns-in_ok-emit-in-Input c =
    rw c.in-Input.is (c.in_ok-emit-in-Input.ensures ∙ ap (λ x. c.args.ops.now ++ op 0 (Input c.args.site.spot c.args.site.close c.in-Input.ty x) ∷ []) c.only-into.ensures)

pub returns-in_ok-emit-in-ReachError : goal.returns-in_ok-emit-in-ReachError
returns-in_ok-emit-in-ReachError c = rw c.in-ReachError.is c.in_ok-emit-in-ReachError.ensures

pub returns-in_ok-emit-in-Abort : goal.returns-in_ok-emit-in-Abort
returns-in_ok-emit-in-Abort c = rw c.in-Abort.is c.in_ok-emit-in-Abort.ensures

pub returns-in_ok-emit-in-Exit : goal.returns-in_ok-emit-in-Exit
returns-in_ok-emit-in-Exit c = rw c.in-Exit.is c.in_ok-emit-in-Exit.ensures
