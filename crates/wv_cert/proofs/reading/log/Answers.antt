use Rattle.std.proofs.Common.{◌≡◌, Err, arith, rules}
use Rattle.std.specs.List.{flat_map}
use Rattle.wv_cert.specs.Reading.{HasChains}
use Rattle.wv_cert.specs.Text.{IsLog, chain_line, log_text}
use Rattle.wv_cert.proofs.Faults.{failed}
use Rattle.wv_cert.proofs.Logs.{log_read, no_chains, no_log}
use Rattle.wv_cert.proofs.reading.log.Goals as goal

pub returns-in_default : goal.returns-in_default
returns-in_default c = no_log c.args.text.now c.args.obligation c.in_default.ensures

pub returns-in_err-chains : goal.returns-in_err-chains
returns-in_err-chains c =
    let e : c.from_residual.result ≡ Err c.in_err-chains.field-0.0 = search rules in
    let line = c.in-Some.ensures in
    let all = failed (HasChains c.in-Some.count) (flat_map chain_line) IsLog (log_text c.args.obligation) c.args.text.now c.heading.new.text c.chains.new.text c.chains.new.text c.in_err-chains.field-0.0
    c.in_err-chains.ensures (no_chains c.args.text.now c.heading.new.text c.args.obligation c.in-Some.count (omega arith) line.0 line.1) in
    rw e all

pub returns : goal.returns
returns c =
    let line = c.in-Some.ensures in
    let chains = c.in_ok-chains.ensures in
    log_read c.args.text.now c.heading.new.text c.chains.new.text c.args.obligation c.in-Some.count (record { chains = c.in_ok-chains.chains }) line.0 line.1 chains.0 chains.1
