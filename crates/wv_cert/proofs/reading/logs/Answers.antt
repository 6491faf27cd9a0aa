use Rattle.std.proofs.Common.{◌≡◌, ◌++◌, ◌+◌, Err, length, rules, arith, sym, ap, ◌∙◌}
use Rattle.std.proofs.lemmas.List.{length_push}
use Rattle.wv_cert.specs.Reading.{HasLogs}
use Rattle.wv_cert.specs.Text.{IsLog, log_text, log_texts}
use Rattle.wv_cert.proofs.Chains.{row_fine}
use Rattle.wv_cert.proofs.Faults.{failed}
use Rattle.wv_cert.proofs.Logs.{logs_read, logs_stuck}
use Rattle.wv_cert.proofs.reading.logs.Goals as goal

pub returns-in_err-log : goal.returns-in_err-log
returns-in_err-log c =
    let e : c.from_residual.result ≡ Err c.in_err-log.field-0.0 = search rules in
    let at = c.loop-index.index + 1 in
    let all = failed IsLog (log_text at) (HasLogs c.args.count) (log_texts 1) c.args.text.now c.loop-index.text c.log.new.text c.log.new.text c.in_err-log.field-0.0 c.in_err-log.ensures
    (λ none these rest has is. logs_stuck 1 at c.loop-index.logs these c.loop-index.text rest (omega (arith, has.many)) (omega (arith, c.loop-index.invariant.many))
    c.loop-index.invariant.fine has.fine (omega (arith, has.many)) (c.loop-index.invariant.so_far ∙ is) none) in
    rw e all

pub loop-index-preserved : goal.loop-index-preserved
loop-index-preserved c =
    let read = c.in_ok-log.ensures in
    record {
      many = ap length c.in_ok-push.ensures.ok ∙ length_push c.loop-index.logs c.in_ok-log.log ∙ omega (arith, c.loop-index.invariant.many);
      fine = row_fine IsLog c.loop-index.logs c.push.new.self c.in_ok-log.log c.in_ok-push.ensures.ok c.loop-index.invariant.fine read.0;
      so_far = ap (λ list. log_texts 1 list ++ c.log.new.text) c.in_ok-push.ensures.ok
          ∙ logs_read c.args.text.now c.loop-index.text c.log.new.text 1 (c.loop-index.index + 1) c.loop-index.logs c.in_ok-log.log (omega (arith, c.loop-index.invariant.many))
          c.loop-index.invariant.so_far read.1;
    }

pub returns : goal.returns
returns c = (record { many = omega (arith, c.loop-index.invariant.many); fine = c.loop-index.invariant.fine }, sym c.loop-index.invariant.so_far)
