use Rattle.c_core.specs.View.{program_view}
use Rattle.sym_invariants.proofs.Deciding.{pick_decides}
use Rattle.sym_invariants.proofs.seen.pick.Goals as goal

pub returns : goal.returns
returns c =
    pick_decides (program_view c.args.program.now) c.args.sym.now c.and.new.self c.and-2.new.self c.and-3.new.self c.args.go c.args.yes c.args.no c.not.result c.in_ok-taken.taken c.in_ok-left.left c.not-2.result c.not-3.result c.in_ok-neither.neither c.not-4.result
    c.requires.fits c.requires.go_in c.requires.yes_in c.requires.no_in c.in_ok-taken.ensures.grown c.in_ok-taken.ensures.value c.not.ensures c.in_ok-left.ensures.grown c.in_ok-left.ensures.value
    c.not-2.ensures c.not-3.ensures c.in_ok-neither.ensures.grown c.in_ok-neither.ensures.value c.not-4.ensures
