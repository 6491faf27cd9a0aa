use Rattle.c_core.specs.Typing.{labels_in}
use Rattle.c_core.specs.View.{program_view, switch_view}
use Rattle.std.proofs.Common.{◌+◌, take}
use Rattle.sym_choices.proofs.CaseLaws.{no_cases, cases_more, case_room, label_at}
use Rattle.sym_choices.proofs.Labels.{label_of, labels_more}
use Rattle.sym_choices.proofs.cases.case_bits.Goals as goal

pub loop-arm-init : goal.loop-arm-init
loop-arm-init c = no_cases (program_view c.args.program.now) c.args.sym.now c.args.ty c.args.x.now.bits _ c.requires.fits c.new-out.ensures.items

pub case_bit-requires-clause-label_in : goal.case_bit-requires-clause-label_in
case_bit-requires-clause-label_in c =
    label_at (program_view c.args.program.now) c.args.ty c.args.arms.now c.loop-arm.arm-index c.arm-item.result c.loop-arm-test.true c.arm-item.is c.requires.labels_in

pub case_bit-requires-clause-room : goal.case_bit-requires-clause-room
case_bit-requires-clause-room c =
    case_room (program_view c.args.program.now) c.args.ty c.args.x.now.bits c.args.arms.now c.loop-arm.arm-index c.arm-item.result c.loop-arm-test.true c.arm-item.is c.loop-arm.out.items c.loop-arm.invariant c.requires.room

pub loop-arm-preserved : goal.loop-arm-preserved
loop-arm-preserved c =
    let i = c.loop-arm.arm-index in
    let arms = c.args.arms.now in
    cases_more (program_view c.args.program.now) c.args.ty c.args.x.now.bits (labels_in (switch_view (take i arms))) (labels_in (switch_view (take (i + 1) arms))) (label_of c.arm-item.result)
    (labels_more arms i c.arm-item.result c.loop-arm-test.true c.arm-item.is) c.loop-arm.out.items _ c.in_ok-bit.bit c.requires.x_in c.loop-arm.invariant c.in_ok-bit.ensures c.in_ok-push.ensures.items
