use Rattle.std.proofs.Common.{refl, string_bytes}
use Rattle.wv_export.proofs.Texts.{hints_more, hints_none}
use Rattle.wv_export.proofs.chain_lines.add_hints.Goals as goal

pub loop-at-init : goal.loop-at-init
loop-at-init c = hints_none (string_bytes c.args.out.now) c.args.steps.now

pub loop-at-preserved : goal.loop-at-preserved
loop-at-preserved c =
    hints_more (string_bytes c.args.out.now) (string_bytes c.loop-at.out) (string_bytes c.add_hint.new.out) c.args.steps.now c.loop-at.at _ _ c.loop-at-test.true refl c.loop-at.invariant
    c.in_ok-add_hint.ensures
