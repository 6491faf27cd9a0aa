use Rattle.std.proofs.Common.{sym, arith}
use Rattle.c_meaning.specs.Cells.{Key}
use Rattle.c_meaning.proofs.Layouts.{has_number, no_object, beyond_object}
use Rattle.c_meaning.proofs.layout.number.Goals as goal

pub returns-then-at-starts : goal.returns-then-at-starts
returns-then-at-starts c = sym (no_object c.args.starts.now (record { object = c.args.object; index = c.args.index }) (omega arith))

pub returns-then-index-size : goal.returns-then-index-size
returns-then-index-size c =
    let k : Key = record { object = c.args.object; index = c.args.index } in
    sym (has_number c.args.starts.now k (omega arith) (omega arith))

pub returns-else-index-size : goal.returns-else-index-size
returns-else-index-size c =
    let k : Key = record { object = c.args.object; index = c.args.index } in
    sym (beyond_object c.args.starts.now k (omega arith) (omega arith))
