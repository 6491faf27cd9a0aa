use Rattle.std.proofs.Common.{suc, sym}
use Rattle.c_core.specs.View.{program_view, function_view}
use Rattle.run_state.proofs.Starting.{function_at, no_function_at}
use Rattle.c_meaning.specs.Placing.{placed_view}
use Rattle.havoc_state.specs.Havocking.{left_of}
use Rattle.c_havoc.proofs.Calling.{main_is, no_main}
use Rattle.c_havoc.proofs.run.run_main.Goals as goal

pub returns-in-Some : goal.returns-in-Some
returns-in-Some c =
    let h = function_at c.args.program.now.functions c.args.program.now.main c.in-Some.function.now (sym c.in-Some.ensures.item) in
    let k = main_is (program_view c.args.program.now) (placed_view c.args.invariants.now) (suc c.args.depth) (function_view c.in-Some.function.now) (left_of c.args.machine.now) h in
    rw k c.body.ensures

pub returns-in-None : goal.returns-in-None
returns-in-None c =
    no_main (program_view c.args.program.now) (placed_view c.args.invariants.now) (suc c.args.depth) (left_of c.args.machine.now) (no_function_at c.args.program.now.functions c.args.program.now.main (sym c.in-None.ensures.item))
