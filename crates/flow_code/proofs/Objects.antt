-- The objects of a checked program have few cells.
use Rattle.std.proofs.Common.{◌<◌, arith}
use Rattle.std.proofs.lemmas.List.Sums.{get_or-le-sum_by}
use Rattle.std.proofs.lemmas.Bool.Decides.{nat_tests}
use Rattle.std.specs.List.{All}
use Rattle.c_core.specs.Tree.{Program}
use Rattle.c_core.specs.Program.{IsProgram}

-- a number of 32 bits counts the cells of each
pub small_objects : (p : Program) → IsProgram p → All (λ o. o.cells < 4294967296) p.objects
small_objects p h k d below =
    let one = get_or-le-sum_by (λ o. o.cells) p.objects k d below in
    let most = h.cells in
    grind (arith, nat_tests)
