use Rattle.std.proofs.Common.{rules, ◌<◌, length, sym, ◌∙◌, drop, drop-cons, get_or, arith}
use mir.Val.{SFits}
use mir.Syntax.{w128}
use Rattle.std.proofs.lemmas.Int.{to_z-of_z}
use Rattle.c_core.specs.declared.number.IntType.TheVariants.{Bool}
use Rattle.flow_code.specs.declared.code.Parameter.{Parameter}
use Rattle.flow_machine.proofs.Passed.{next_parameter, none_left}
use Rattle.flow_machine.proofs.Lasting.{one_longer}
use Rattle.flow_machine.proofs.calling.set_parameters.Goals as goal

pub loop-index-preserved : goal.loop-index-preserved
loop-index-preserved c =
    let i = c.loop-index.invariant in
    let d : Parameter = record { object = 0; ty = Bool } in
    let z : SFits w128 c.argument.result = search rules in
    let a = rw (to_z-of_z w128 c.argument.result z, c.argument.ensures) at c.in_ok-add.ensures.ok in
    let more = one_longer c.loop-index.memory.cells c.add.new.self.cells _ a in
    record {
      cells = sym (next_parameter c.args.parameters.now c.args.values.now c.loop-index.index (get_or c.args.parameters.now c.loop-index.index d) c.loop-index.memory.cells c.add.new.self.cells
          (drop-cons c.args.parameters.now c.loop-index.index d c.loop-index-test.true) a)
          ∙ i.cells;
      count = omega (arith, i.count, more);
      room = omega (arith, i.room, c.add.ensures.kept);
    }

pub returns-in_err-add-clause-lasting : goal.returns-in_err-add-clause-lasting
returns-in_err-add-clause-lasting c = λ h.
    let i = c.loop-index.invariant in
    let room : length c.loop-index.memory.cells < c.loop-index.memory.room = omega (arith, h, i.count, i.room, c.loop-index-test.true) in
    let no = c.in_err-add.ensures.within room in
    absurd (cc)

pub returns-clause-cells : goal.returns-clause-cells
returns-clause-cells c =
    sym (none_left c.args.parameters.now (drop c.loop-index.index c.args.values.now) c.loop-index.index c.loop-index.memory.cells c.loop-index-test.false) ∙ c.loop-index.invariant.cells
