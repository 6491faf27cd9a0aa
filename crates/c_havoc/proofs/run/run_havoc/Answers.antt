use Rattle.c_core.specs.View.{program_view}
use Rattle.c_meaning.specs.Duties.{Duties}
use Rattle.c_meaning.specs.Placing.{placed_view}
use Rattle.havoc_state.specs.Havocking.{left_of}
use Rattle.c_havoc.proofs.Ending.{run_ends, as_many}
use Rattle.c_havoc.proofs.run.run_havoc.Goals as goal

pub returns : goal.returns
returns c =
    let p = program_view c.args.program.now in
    let I = placed_view c.args.invariants.now in
    let h = rw (c.as_slice-2.ensures, c.in_ok-machine.ensures, c.as_slice.ensures, c.len-depth.ensures, as_many c.args.program.now.functions) at c.run_main-outcome.ensures in
    run_ends (Duties p I) c.run_main-outcome.result c.in_ok-end.end (left_of c.run_main-outcome.new.machine) _ c.in_ok-end.ensures h
