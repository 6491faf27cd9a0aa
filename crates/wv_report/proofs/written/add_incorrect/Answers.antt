use Rattle.std.proofs.Common.{append_assoc, refl}
use Rattle.wv_report.proofs.Objects.{incorrect_text}
use Rattle.wv_report.proofs.written.add_incorrect.Goals as goal

pub returns : goal.returns
returns c =
    rw (
      incorrect_text c.args.index c.args.duty c.args.draws.now,
      c.in_ok-push_str-2.ensures.bytes,
      c.in_ok-add_draws.ensures,
      c.in_ok-write-2.ensures.bytes,
      c.in_ok-add_kind.ensures,
      c.in_ok-write.ensures.bytes,
      c.in_ok-push_str.ensures.bytes,
    ) (simp append_assoc refl)
