use Rattle.std.proofs.Common.{append_assoc}
use Rattle.wv_cert.proofs.writing.add_log_line.Goals as goal

pub returns : goal.returns
returns c = let h = c.in_ok-write.ensures.bytes in rw h (simp append_assoc)
