use Rattle.witval.specs.Replies.{SummaryIn}
use Rattle.witval.proofs.Judged.{shown_if}
use Rattle.witval.proofs.OfBytes.{long_alone}
use Rattle.witval.proofs.answer.show.Goals as goal

pub returns-in-Ok-clause-right : goal.returns-in-Ok-clause-right
returns-in-Ok-clause-right g c = shown_if _ _ _ c.in-Ok.bytes.items _ c.in-Ok.ensures.within c.in-Ok.ensures.witness (rw c.deref.ensures.value at c.shown.ensures)

pub returns-in_ok-refuse_too_long-in-Err-TooLong-clause-right : goal.returns-in_ok-refuse_too_long-in-Err-TooLong-clause-right
returns-in_ok-refuse_too_long-in-Err-TooLong-clause-right g c =
    long_alone SummaryIn _ _ _ _ _ _ c.in-Err-TooLong.field-0-is c.in_ok-refuse_too_long-in-Err-TooLong.ensures c.in-Err-TooLong.ensures.stop
