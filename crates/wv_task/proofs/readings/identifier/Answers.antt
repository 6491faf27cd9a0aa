use Rattle.std.proofs.Common.{◌≡◌, None, refl}
use Rattle.uuid.specs.Text.{parsed}
use Rattle.wv_task.proofs.Identifiers.{none_read}
use Rattle.wv_task.proofs.readings.identifier.Goals as goal

pub returns-in-Err : goal.returns-in-Err
returns-in-Err c =
    let none : parsed c.args.uuid.now ≡ None = none_read c.parse_str.result c.in-Err.field-0 (parsed c.args.uuid.now) c.in-Err.is (rw c.as_str.ensures at c.parse_str.ensures.ok) in
    rw none refl
