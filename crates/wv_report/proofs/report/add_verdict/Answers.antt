use Rattle.std.proofs.Common.{append_assoc, refl}
use Rattle.wv_report.proofs.report.add_verdict.Goals as goal

pub returns-in_ok-add_segments-in-ViolationConfirmed : goal.returns-in_ok-add_segments-in-ViolationConfirmed
returns-in_ok-add_segments-in-ViolationConfirmed c =
    rw (
      c.in-ViolationConfirmed.is,
      c.in_ok-add_segments-in-ViolationConfirmed.ensures,
      c.in_ok-add_values-in-ViolationConfirmed.ensures,
      c.in_ok-push_str-in-ViolationConfirmed.ensures.bytes,
      c.as_slice.ensures,
      c.as_slice-in-ViolationConfirmed.ensures,
    ) (simp append_assoc refl)
