use Rattle.std.proofs.Common.{append_assoc, refl}
use Rattle.wv_report.proofs.report.add_found.Goals as goal

pub returns : goal.returns
returns c = rw (c.in_ok-add_segments.ensures, c.in_ok-add_values.ensures, c.in_ok-push_str.ensures.bytes) (simp append_assoc refl)
