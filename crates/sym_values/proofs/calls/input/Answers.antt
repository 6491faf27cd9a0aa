use Rattle.c_core.specs.View.{program_view}
use Rattle.sym_values.proofs.Ending.{input_gives}
use Rattle.sym_values.proofs.calls.input.Goals as goal

pub returns : goal.returns
returns c W = input_gives (program_view c.args.program.now) W c.args.spot c.args.ty c.args.sym.now c.draw.new.sym c.in_ok-bits.bits.bits c.in_ok-bits.ensures
