use Rattle.std.proofs.Common.{◌≡◌, ◌+◌, length, arith, sym, subst, ◌∙◌}
use Rattle.wv_cert.specs.Accepted.{AreNeverTrue}
use Rattle.wv_cert.proofs.Digits.{never}
use Rattle.wv_cert.proofs.Refuted.{accepted, inside, never_more, refused_at, refuted_more}
use Rattle.wv_cert.proofs.checking.recheck_bits.Goals as goal

pub refutes-requires-clause-bit_in : goal.refutes-requires-clause-bit_in
refutes-requires-clause-bit_in c = inside c.args.net.now c.args.failing.now c.requires.bits_in c.loop-at.at c.bit_at-bit.result (sym c.bit_at-bit.ensures)

pub returns-then-not-refuted-clause-exact : goal.returns-then-not-refuted-clause-exact
returns-then-not-refuted-clause-exact c =
    refused_at c.args.net.now c.args.failing.now c.args.logs.now c.loop-at.at (c.loop-at.at + 1) c.bit_at-bit.result c.log_at-log.result.now (omega arith) (omega arith)
    c.loop-at.invariant.refuted (sym c.bit_at-bit.ensures) (sym c.log_at-log.ensures)
    (λ h. never (sym c.if-not-refuted.true ∙ c.in_ok-refuted.ensures.exact.1 h))

pub loop-at-preserved : goal.loop-at-preserved
loop-at-preserved c =
    record {
      refuted = refuted_more c.args.net.now c.args.failing.now c.args.logs.now c.loop-at.at c.bit_at-bit.result c.log_at-log.result.now c.loop-at.invariant.refuted
          (sym c.bit_at-bit.ensures) (sym c.log_at-log.ensures) (c.in_ok-refuted.ensures.exact.0 c.if-not-refuted.false);
      none = never_more c.args.net.now c.args.failing.now c.loop-at.at c.bit_at-bit.result c.loop-at.invariant.none (sym c.bit_at-bit.ensures)
          (c.in_ok-refuted.ensures.sound c.if-not-refuted.false);
    }

pub returns-clause-exact : goal.returns-clause-exact
returns-clause-exact c =
    let end : c.loop-at.at ≡ length c.args.failing.now = omega arith in
    (omega arith, accepted c.args.net.now c.args.failing.now c.args.logs.now c.loop-at.at end (omega arith) c.loop-at.invariant.refuted)

pub returns-clause-sound : goal.returns-clause-sound
returns-clause-sound c =
    let end : c.loop-at.at ≡ length c.args.failing.now = omega arith in
    subst (AreNeverTrue c.args.net.now c.args.failing.now) end c.loop-at.invariant.none
