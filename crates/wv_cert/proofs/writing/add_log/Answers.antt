use Rattle.std.proofs.Common.{string_bytes, arith, refl}
use Rattle.wv_cert.specs.Text.{IsChain, chain_line}
use Rattle.wv_cert.proofs.Chains.{fine_all, fine_more, item_written}
use Rattle.wv_cert.proofs.Logs.{log_begun}
use Rattle.wv_cert.proofs.writing.add_log.Goals as goal

pub loop-chain-preserved : goal.loop-chain-preserved
loop-chain-preserved c =
    record {
      text = item_written chain_line c.as_slice-chain-items.result.now c.loop-chain.chain-index c.chain-item.result (string_bytes c.loop-chain.out) _
          (string_bytes c.add_chain.new.out) c.loop-chain-test.true c.chain-item.is c.loop-chain.invariant.text c.in_ok-add_chain.ensures.text;
      fine = fine_more IsChain c.as_slice-chain-items.result.now c.as_slice-chain-items.result.now c.loop-chain.chain-index c.chain-item.result refl c.loop-chain-test.true
          c.chain-item.is c.loop-chain.invariant.fine c.in_ok-add_chain.ensures.fine;
    }

pub loop-chain-init : goal.loop-chain-init
loop-chain-init c =
    record {
      text = log_begun (string_bytes c.args.out.now) (string_bytes c.add_log_line.new.out) c.as_slice-chain-items.result.now c.args.obligation c.len-chains.result
          c.args.log.now c.in_ok-add_log_line.ensures c.len-chains.ensures c.as_slice-chain-items.ensures;
      fine = λ k d past. absurd (omega arith);
    }

pub returns-clause-fine : goal.returns-clause-fine
returns-clause-fine c =
    record {
      many = omega (arith, c.len-chains.ensures);
      chains = fine_all IsChain c.as_slice-chain-items.result.now c.args.log.now.chains c.loop-chain.chain-index c.as_slice-chain-items.ensures c.loop-chain-test.false
          c.loop-chain.invariant.fine;
    }
