use Rattle.c_core.specs.View.{program_view}
use Rattle.sym_invariants.proofs.Sides.{some_side, typed_side, void_side}
use Rattle.sym_invariants.proofs.seen.as_type.Goals as goal

pub converted-requires-clause-x_in : goal.converted-requires-clause-x_in
converted-requires-clause-x_in c = some_side (program_view c.args.program.now) c.args.ty c.args.from c.in-Some.to c.in-Some.is c.requires.x_in

pub returns-in_ok-r-in-Some : goal.returns-in_ok-r-in-Some
returns-in_ok-r-in-Some c f x = typed_side (program_view c.args.program.now) c.args.ty c.args.from c.in-Some.to c.in-Some.is c.in_ok-r-in-Some.ensures f x

pub returns-in-None : goal.returns-in-None
returns-in-None c f x = void_side (program_view c.args.program.now) c.args.ty c.args.from c.in-None.is c.requires.fits f x
