use Rattle.std.proofs.Common.{◌≡◌, ◌++◌, drop, map}
use Rattle.c_parser.specs.SourceView.{stmt_view}
use Rattle.c_parser.specs.Tree.{stms, arms}
use Rattle.c_parser.specs.StatementParts.{raw_arm_view}
use Rattle.check_rules.specs.Parts.{labels_of_block}
use Rattle.check_elaborate.specs.Walks.{labels_seen}
use Rattle.check_elaborate.proofs.labels.+gather.Given as goal

abbrev pub invariant-gather_block-loop-s : goal.invariant-gather_block-loop-s
invariant-gather_block-loop-s l =
    (labels_seen l.all.items ++ labels_of_block (stms (map stmt_view (drop l.s-index l.ss))) ≡ labels_seen l.fn.all.items ++ labels_of_block (stms (map stmt_view l.ss)))

abbrev pub invariant-gather_arms-loop-arm : goal.invariant-gather_arms-loop-arm
invariant-gather_arms-loop-arm l =
    (labels_seen l.all.items ++ labels_of_block (arms (map raw_arm_view (drop l.arm-index l.arms))) ≡ labels_seen l.fn.all.items ++ labels_of_block (arms (map raw_arm_view l.arms)))
