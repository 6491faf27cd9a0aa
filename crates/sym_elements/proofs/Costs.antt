-- What elements cost, beside what an element weighs.
use Rattle.std.proofs.Common.{ℕ, ◌+◌, ◌*◌, ◌≤◌, arith}
use Rattle.c_core.specs.Tree.{Program}
use Rattle.c_core.specs.declared.number.IntType.{IntType}
use Rattle.c_meaning.specs.Objects.{size_of_object}
use Rattle.circuits.proofs.Multiplied.{width_few}
use Rattle.sym_elements.specs.Elements.{width_of_element, found_cost, found_row_cost, read_cost, written_cost}

-- an element of one dimension, by its index
module _ (p : Program) (ty : IntType) (o : ℕ) where
  -- that is read
  pub found_and_read : found_cost p ty o + read_cost p o ≤ size_of_object p o * (4 * width_of_element p o + 16) + 256
  found_and_read = omega (arith, width_few p.model ty)

  -- that is written
  pub found_and_written : found_cost p ty o + written_cost p o ≤ size_of_object p o * (4 * width_of_element p o + 16) + 256
  found_and_written = omega (arith, width_few p.model ty)

  -- that is read and written, once each
  pub found_read_and_written : found_cost p ty o + (read_cost p o + written_cost p o) ≤ 2 * (size_of_object p o * (4 * width_of_element p o + 16) + 256)
  found_read_and_written = omega (arith, width_few p.model ty)

-- an element of two dimensions, by its row and its column
module _ (p : Program) (row column : IntType) (o : ℕ) where
  -- that is read
  pub found_row_and_read : found_row_cost p row column o + read_cost p o ≤ size_of_object p o * (4 * width_of_element p o + 16) + 512
  found_row_and_read = omega (arith, width_few p.model row, width_few p.model column)

  -- that is written
  pub found_row_and_written : found_row_cost p row column o + written_cost p o ≤ size_of_object p o * (4 * width_of_element p o + 16) + 512
  found_row_and_written = omega (arith, width_few p.model row, width_few p.model column)

  -- that is read and written, once each
  pub found_row_read_and_written : found_row_cost p row column o + (read_cost p o + written_cost p o) ≤ 2 * (size_of_object p o * (4 * width_of_element p o + 16) + 512)
  found_row_read_and_written = omega (arith, width_few p.model row, width_few p.model column)
