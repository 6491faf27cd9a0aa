use Rattle.witval.specs.Replies.{CanonicalIn}
use Rattle.witval.proofs.Judged.{canonical_if}
use Rattle.witval.proofs.OfBytes.{long_alone}
use Rattle.witval.proofs.answer.normalise.Goals as goal

pub returns-in-Ok-clause-right : goal.returns-in-Ok-clause-right
returns-in-Ok-clause-right g c = canonical_if _ _ _ c.in-Ok.bytes.items _ c.in-Ok.ensures.within c.in-Ok.ensures.witness (rw c.deref.ensures.value at c.canonical.ensures)

pub returns-in_ok-refuse_too_long-in-Err-TooLong-clause-right : goal.returns-in_ok-refuse_too_long-in-Err-TooLong-clause-right
returns-in_ok-refuse_too_long-in-Err-TooLong-clause-right g c =
    long_alone CanonicalIn _ _ _ _ _ _ c.in-Err-TooLong.field-0-is c.in_ok-refuse_too_long-in-Err-TooLong.ensures c.in-Err-TooLong.ensures.stop
