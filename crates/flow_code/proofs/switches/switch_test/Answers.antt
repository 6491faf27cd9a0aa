use Rattle.std.proofs.Common.{◌++◌, length, ap, ◌∙◌}
use Rattle.c_core.specs.Types.{promote_of}
use Rattle.c_core.specs.View.{program_view, expr_view}
use Rattle.c_meaning.specs.Meaning.{Used}
use Rattle.c_meaning.specs.Objects.{type_of}
use Rattle.flow_code.specs.declared.code.Action.TheVariants.{Convert}
use Rattle.flow_code.specs.declared.code.Operand.{Operand}
use Rattle.flow_code.specs.declared.code.Then.TheVariants.{Push}
use Rattle.flow_code.specs.Expressions.{code}
use Rattle.flow_code.specs.Preparing.{only, prepared, taken}
use Rattle.flow_code.specs.Sizes.{operand_of}
use Rattle.flow_code.specs.Words.{native}
use Rattle.flow_code.proofs.Readying.{taken_is}
use Rattle.flow_code.proofs.switches.switch_test.Goals as goal

pub returns : goal.returns
returns c =
    let p = program_view c.args.program.now in
    let e = expr_view c.args.test.now in
    let old = c.args.ops.now in
    let converts = λ (y : Operand). Convert (native p.model (promote_of (type_of e))) y (only Push) in
    let made = taken_is old c.prepare.new.ops c.emit.new.ops c.in_ok-value.value (prepared (operand_of e) 0 (code p c.full_of-around.result (length old) 0 Used e Push)) _ converts c.in_ok-value.ensures c.in_ok-emit.ensures cc in
    made ∙ ap (λ a. old ++ taken (prepared (operand_of e) 0 (code p a (length old) 0 Used e Push)) converts) c.full_of-around.ensures
