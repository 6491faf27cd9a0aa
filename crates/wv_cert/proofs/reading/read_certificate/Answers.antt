use Rattle.std.proofs.Common.{◌≡◌, Err, length, rules, refl, sym, ◌∙◌}
use Rattle.wv_cert.specs.Reading.{HasLogs}
use Rattle.wv_cert.specs.Text.{log_texts}
use Rattle.wv_cert.proofs.Faults.{failed_at_all}
use Rattle.wv_cert.proofs.Logs.{at_end, no_logs, no_more, no_top, not_at_end, read}
use Rattle.wv_cert.proofs.reading.read_certificate.Goals as goal

pub between-requires : goal.between-requires
between-requires c = λ rest. refl

pub returns-in_default : goal.returns-in_default
returns-in_default c = no_top c.args.bytes.now (λ n rest small is. c.in_default.ensures n rest small (c.of-text.ensures ∙ is))

pub returns-in_err-logs : goal.returns-in_err-logs
returns-in_err-logs c =
    let e : c.from_residual.result ≡ Err c.in_err-logs.field-0.0 = search rules in
    let top = c.in-Some.ensures in
    let all = failed_at_all (HasLogs c.in-Some.count) (log_texts 1) c.args.bytes.now c.between.new.text c.logs.new.text c.in_err-logs.field-0.0 c.in_err-logs.ensures
    (no_logs c.args.bytes.now c.between.new.text c.in-Some.count top.0 (sym c.of-text.ensures ∙ top.1)) in
    rw e all

pub returns-then-not-is_at_end : goal.returns-then-not-is_at_end
returns-then-not-is_at_end c =
    let top = c.in-Some.ensures in
    let logs = c.in_ok-logs.ensures in
    no_more c.args.bytes.now c.between.new.text c.logs.new.text c.in-Some.count c.in_ok-logs.logs top.0 (sym c.of-text.ensures ∙ top.1) logs.0 logs.1
    (not_at_end (length c.logs.new.text) (sym c.is_at_end.ensures ∙ c.if-not-is_at_end.true))

pub returns : goal.returns
returns c =
    let top = c.in-Some.ensures in
    let logs = c.in_ok-logs.ensures in
    read c.args.bytes.now c.between.new.text c.logs.new.text c.in-Some.count c.in_ok-logs.logs top.0 (sym c.of-text.ensures ∙ top.1) logs.0 logs.1
    (at_end (length c.logs.new.text) (sym c.is_at_end.ensures ∙ c.if-not-is_at_end.false))
