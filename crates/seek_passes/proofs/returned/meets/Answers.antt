use mir.Val.{SFits}
use mir.Syntax.{w128}
use Rattle.std.proofs.Common.{rules}
use Rattle.std.proofs.lemmas.Int.{to_z-of_z}
use Rattle.c_core.specs.View.{program_view}
use Rattle.circuits.proofs.Nets.{opp}
use Rattle.way_match.specs.View.{test_view}
use Rattle.seek_passes.proofs.Constraints.{meets_some, meets_none, meets_room}
use Rattle.seek_passes.proofs.returned.meets.Goals as goal

pub compared-requires-clause-room : goal.compared-requires-clause-room
compared-requires-clause-room c =
    meets_room (program_view c.args.program.now) c.args.close (test_view c.args.test.now) _ _ _ c.type_of_call-from.ensures c.type_of.ensures c.common_type-common.ensures.value _ c.requires.room

pub returns-in_ok-met-in-Some : goal.returns-in_ok-met-in-Some
returns-in_ok-met-in-Some c =
    let fits : SFits w128 c.in-Some.value = search rules in
    let met = rw (to_z-of_z w128 c.in-Some.value fits) at c.in_ok-met-in-Some.ensures in
    meets_some (program_view c.args.program.now) c.args.close (test_view c.args.test.now) _ _ _ c.in-Some.value _ c.type_of_call-from.ensures c.type_of.ensures c.common_type-common.ensures.value c.in-Some.ensures met

pub returns-in-None : goal.returns-in-None
returns-in-None c =
    meets_none (program_view c.args.program.now) c.args.close (test_view c.args.test.now) c.args.sym.now c.not.result _ c.requires.fits c.in-None.ensures (opp c.not.ensures c.yes.ensures)
