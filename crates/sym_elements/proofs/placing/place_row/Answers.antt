use Rattle.std.proofs.Common.{length, arith, refl}
use Rattle.std.proofs.Math.Nat.{div-mul-le_self}
use Rattle.c_core.specs.View.{program_view}
use Rattle.c_meaning.specs.Objects.{size_of_object, columns_of_object}
use Rattle.sym_elements.proofs.Placed.{placed_within}
use Rattle.sym_elements.proofs.placing.place_row.Goals as goal

pub returns : goal.returns
returns c =
    let cells = size_of_object (program_view c.args.program.now) c.args.object in
    record {
      few = div-mul-le_self cells (columns_of_object (program_view c.args.program.now) c.args.object);
      placed = placed_within (length c.args.row.now) (length c.args.column.now) cells refl (omega (arith, c.if-cells-columns.false, c.size_of_object-cells.ensures, c.columns_of_object-columns.ensures))
          (rw (c.size_of_object-cells.ensures, c.columns_of_object-columns.ensures) at c.in_ok-places.ensures);
    }
