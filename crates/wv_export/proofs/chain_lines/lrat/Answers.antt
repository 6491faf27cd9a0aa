use Rattle.std.proofs.Common.{◌≡◌, ◌+◌, ◌≤◌, length, string_bytes, ap, arith}
use Rattle.wv_export.specs.Lrat.{lrat_text}
use Rattle.wv_export.proofs.Texts.{lines_done, lines_more}
use Rattle.wv_export.proofs.chain_lines.lrat.Goals as goal

pub loop-index-preserved : goal.loop-index-preserved
loop-index-preserved c =
    lines_more c.as_slice-chain-items.result.now c.args.log.now.chains c.loop-index.index (c.args.clauses + c.loop-index.index + 1) (c.args.clauses + (c.loop-index.index + 1) + 1) c.chain-item.result
    (string_bytes c.loop-index.out) _ (string_bytes c.add_line.new.out) (omega arith) c.as_slice-chain-items.ensures c.loop-index-test.true c.chain-item.is c.loop-index.invariant
    c.in_ok-add_line.ensures

pub returns : goal.returns
returns c =
    let chains = c.args.log.now.chains in
    let past : length chains ≤ c.loop-index.index = omega (arith, ap length c.as_slice-chain-items.ensures) in
    let done : string_bytes c.loop-index.out ≡ lrat_text c.args.clauses chains =
    lines_done chains c.loop-index.index (c.args.clauses + c.loop-index.index + 1) (string_bytes c.loop-index.out) (lrat_text c.args.clauses chains) past c.loop-index.invariant in
    rw c.into_bytes.ensures.value done
