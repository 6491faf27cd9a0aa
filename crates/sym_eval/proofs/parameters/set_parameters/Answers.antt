use Rattle.std.proofs.Common.{◌+◌, [], None, refl, subst, arith}
use Rattle.std.proofs.lemmas.List.{take_all}
use Rattle.c_core.specs.View.{program_view}
use Rattle.sym_meaning.specs.Obliging.{obliging}
use Rattle.sym_eval.specs.Calling.{Sets}
use Rattle.sym_eval.proofs.Setting.{arguments_added, none_set, next_set, room_to_set}
use Rattle.sym_eval.proofs.parameters.set_parameters.Goals as goal

pub loop-index-init : goal.loop-index-init
loop-index-init c = none_set (program_view c.args.program.now) c.args.sym.now c.args.params.now c.args.arguments.now c.requires.fits

pub set_parameter-requires-clause-fits : goal.set_parameter-requires-clause-fits
set_parameter-requires-clause-fits c = (c.loop-index.invariant (obliging (program_view c.args.program.now) []) None).fits

pub set_parameter-requires-clause-arguments_in : goal.set_parameter-requires-clause-arguments_in
set_parameter-requires-clause-arguments_in c = arguments_added (program_view c.args.program.now) (c.loop-index.invariant (obliging (program_view c.args.program.now) []) None).added c.args.arguments.now c.requires.arguments_in

pub set_parameter-requires-clause-room : goal.set_parameter-requires-clause-room
set_parameter-requires-clause-room c =
    room_to_set (program_view c.args.program.now) c.args.params.now c.loop-index.index _ 0 c.args.arguments.now c.loop-index-test.true refl c.loop-index.invariant c.requires.room

pub loop-index-preserved : goal.loop-index-preserved
loop-index-preserved c =
    next_set (program_view c.args.program.now) c.args.params.now c.loop-index.index (c.loop-index.index + 1) _ 0 c.args.arguments.now c.loop-index-test.true (omega arith) refl c.requires.arguments_in c.loop-index.invariant c.in_ok-set_parameter.ensures

pub returns : goal.returns
returns c =
    subst (λ z. Sets (program_view c.args.program.now) z c.args.arguments.now c.args.sym.now c.loop-index.sym) (take_all c.loop-index.index c.args.params.now c.loop-index-test.false) c.loop-index.invariant
