use Rattle.clauses.specs.Accepted.{AreRefuted}
use Rattle.wv_cert.specs.Accepted.{AreNeverTrue}
use Rattle.wv_cert.proofs.checking.recheck_bits.Given as goal

abbrev pub invariant-loop-at : goal.invariant-loop-at
invariant-loop-at l = record {
  refuted : AreRefuted l.net l.failing l.logs l.at;
  none : AreNeverTrue l.net l.failing l.at;
}
