use Rattle.std.proofs.Common.{arith}
use Rattle.c_core.specs.View.{program_view}
use Rattle.sym_elements.proofs.Picked.{picked_all}
use Rattle.sym_elements.proofs.reading.read_element.Goals as goal

pub returns : goal.returns
returns c W =
    picked_all (program_view c.args.program.now) c.args.object W c.args.places.now c.requires.typed c.len-count.ensures c.requires.places_of (rw c.as_slice-digits.ensures at c.in_ok-value.ensures)
