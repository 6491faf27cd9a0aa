use Rattle.std.proofs.Common.{append_assoc, refl}
use Rattle.wv_report.proofs.Objects.{confirmed_text}
use Rattle.wv_report.proofs.written.add_confirmed.Goals as goal

pub returns : goal.returns
returns c =
    rw (
      confirmed_text c.args.draws.now c.args.positions.now,
      c.in_ok-push_str-3.ensures.bytes,
      c.in_ok-add_draws.ensures,
      c.in_ok-push_str-2.ensures.bytes,
      c.in_ok-add_positions.ensures,
      c.in_ok-push_str.ensures.bytes,
    ) (simp append_assoc refl)
