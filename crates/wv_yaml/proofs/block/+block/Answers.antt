use Rattle.std.proofs.Common.{rules, arith, ◌<◌, ◌+◌, length, sym, ap, ◌∙◌, subst, Option}
use Rattle.wv_yaml.specs.declared.tree.Tree.{Tree}
use Rattle.wv_yaml.specs.Block.{is_pair, pair, block}
use Rattle.wv_yaml.specs.Inline.{key_bytes, inline}
use Rattle.yaml_lines.specs.Marks.{dash, quiet}
use Rattle.yaml_scalars.specs.Gives.{Gives}
use Rattle.wv_yaml.proofs.Entries.{on_to_next}
use Rattle.wv_yaml.proofs.Heads.{small_from, small_at, block_dash, block_loud}
use Rattle.wv_yaml.proofs.block.+block.Goals as goal

pub below_of-block_of-requires : goal.below_of-block_of-requires
below_of-block_of-requires t c =
    let all = small_from c.quiet_len.result c.args.body.now c.lines_from-lines.result.now c.requires.columns c.lines_from-lines.ensures in
    (search rules, (c.requires.depth, (small_at _ 0 c.index-lines-0.result all (grind arith) c.index-lines-0.is, small_from 1 _ _ all c.lines_from-others.ensures)))

pub block_of-returns-then-is_dash : goal.block_of-returns-then-is_dash
block_of-returns-then-is_dash t c =
    let P : Option Tree → Type 0 = λ o. Gives (λ (u : Tree). u) c.sequence_of.result o in
    subst P (sym (block_dash c.args.depth c.args.first.now c.args.rest.now (omega arith) (ap dash (sym c.text.ensures) ∙ sym c.is_dash.ensures ∙ c.if-is_dash.true))) c.sequence_of.ensures

pub block_of-returns-else-is_quiet : goal.block_of-returns-else-is_quiet
block_of-returns-else-is_quiet t c =
    let P : Option Tree → Type 0 = λ o. Gives (λ (u : Tree). u) c.mapping_of.result o in
    subst P (sym (block_loud c.args.depth c.args.first.now c.args.rest.now (omega arith) (ap dash (sym c.text.ensures) ∙ sym c.is_dash.ensures ∙ c.if-is_dash.false)
    (ap quiet (sym c.text-else-is_dash.ensures) ∙ sym c.is_quiet.ensures ∙ c.if-is_quiet.false))) c.mapping_of.ensures

pub mapping_of-loop-pairs-preserved : goal.mapping_of-loop-pairs-preserved
mapping_of-loop-pairs-preserved t c =
    let len = c.next_pair-len.result in
    let left = c.loop-pairs.left.now in
    let l = c.index-left-len.result in
    let lt : len < length left = omega arith in
    record {
      here = ap (is_pair c.args.indent) c.index-left-len.is ∙ c.next_pair-len.ensures.next lt l;
      column = small_at left len l c.loop-pairs.invariant.columns lt c.index-left-len.is;
      columns = small_from (len + 1) left _ c.loop-pairs.invariant.columns c.lines_from-left.ensures;
      same = on_to_next (is_pair c.args.indent) (pair (inline c.args.depth) key_bytes (block inline key_bytes c.args.depth) c.args.indent) c.loop-pairs.head.now l left c.lines_to.result.now c.lines_from-left.result.now len c.loop-pairs.pairs c.push.new.self c.in_ok-pair.pair l
          c.loop-pairs.invariant.here c.next_pair-len.ensures.front c.next_pair-len.ensures.others c.lines_to.ensures c.in_ok-pair.ensures lt (sym c.index-left-len.is) c.lines_from-left.ensures c.in_ok-push.ensures.ok
          ∙ c.loop-pairs.invariant.same;
    }
