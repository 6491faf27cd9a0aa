use Rattle.std.proofs.Common.{◌≡◌, ◌≤◌, ◌+◌, length, string_bytes, arith, refl, ap}
use Rattle.wv_cert.specs.Text.{IsLog, certificate_text}
use Rattle.wv_cert.proofs.Chains.{fine_all, fine_more}
use Rattle.wv_cert.proofs.Logs.{logs_all_written, logs_written}
use Rattle.wv_cert.proofs.writing.certify.Goals as goal

pub loop-index-preserved : goal.loop-index-preserved
loop-index-preserved c =
    record {
      text = logs_written c.as_slice-log-items.result.now c.args.logs.now c.loop-index.index c.log-item.result (string_bytes c.loop-index.out) _
          (string_bytes c.add_log.new.out) c.as_slice-log-items.ensures c.loop-index-test.true c.log-item.is c.loop-index.invariant.text c.in_ok-add_log.ensures.text;
      fine = fine_more IsLog c.as_slice-log-items.result.now c.args.logs.now c.loop-index.index c.log-item.result c.as_slice-log-items.ensures c.loop-index-test.true
          c.log-item.is c.loop-index.invariant.fine c.in_ok-add_log.ensures.fine;
    }

pub returns : goal.returns
returns c =
    let past : length c.args.logs.now ≤ c.loop-index.index = omega (arith, ap length c.as_slice-log-items.ensures) in
    let done : string_bytes c.loop-index.out ≡ certificate_text c.args.logs.now =
    logs_all_written c.args.logs.now c.loop-index.index (c.loop-index.index + 1) (string_bytes c.loop-index.out) (certificate_text c.args.logs.now) past c.loop-index.invariant.text in
    record {
      many = omega arith;
      fine = fine_all IsLog c.args.logs.now c.args.logs.now c.loop-index.index refl past c.loop-index.invariant.fine;
      text = rw c.into_bytes.ensures.value done;
    }
