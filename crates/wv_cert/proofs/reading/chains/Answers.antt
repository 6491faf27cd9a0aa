use Rattle.std.proofs.Common.{◌≡◌, Err, length, rules, arith, sym, ap, ◌∙◌}
use Rattle.std.specs.List.{flat_map}
use Rattle.std.proofs.lemmas.List.{length_push}
use Rattle.wv_cert.specs.Reading.{HasChains}
use Rattle.wv_cert.specs.Text.{IsChain, chain_line}
use Rattle.wv_cert.proofs.Chains.{lines_read, one_chain, row_fine}
use Rattle.wv_cert.proofs.Faults.{failed}
use Rattle.wv_cert.proofs.Items.{lines_stuck}
use Rattle.wv_cert.proofs.reading.chains.Goals as goal

pub returns-in_err-chain : goal.returns-in_err-chain
returns-in_err-chain c =
    let e : c.from_residual.result ≡ Err c.in_err-chain.field-0.0 = search rules in
    let all = failed IsChain chain_line (HasChains c.args.count) (flat_map chain_line) c.args.text.now c.loop-read.text c.chain.new.text c.chain.new.text c.in_err-chain.field-0.0 c.in_err-chain.ensures
    (λ none these rest has is. lines_stuck IsChain chain_line one_chain c.loop-read.chains these c.loop-read.text rest c.loop-read.invariant.fine has.fine
    (omega (arith, has.many)) (c.loop-read.invariant.so_far ∙ is) none) in
    rw e all

pub loop-read-preserved : goal.loop-read-preserved
loop-read-preserved c =
    let read = c.in_ok-chain.ensures in
    record {
      many = ap length c.in_ok-push.ensures.ok ∙ length_push c.loop-read.chains c.in_ok-chain.chain ∙ omega (arith, c.loop-read.invariant.many);
      fine = row_fine IsChain c.loop-read.chains c.push.new.self c.in_ok-chain.chain c.in_ok-push.ensures.ok c.loop-read.invariant.fine read.0;
      so_far = lines_read chain_line c.loop-read.chains c.push.new.self c.in_ok-chain.chain c.args.text.now c.loop-read.text c.chain.new.text c.in_ok-push.ensures.ok
          c.loop-read.invariant.so_far read.1;
    }

pub returns : goal.returns
returns c = (record { many = omega (arith, c.loop-read.invariant.many); fine = c.loop-read.invariant.fine }, sym c.loop-read.invariant.so_far)
