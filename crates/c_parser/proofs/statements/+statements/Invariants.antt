use Rattle.std.proofs.Common.{◌≡◌, ◌+◌, ◌*◌, ◌-◌, map, length, true}
use Rattle.c_parser.specs.SourceView.{stmt_view}
use Rattle.c_parser.specs.StatementParts.{statement_in, arm_in, raw_arm_view}
use Rattle.c_parser.specs.ReadStatements.{elements, until, ends_arm, statement_level, braced_within, armed_within}
use Rattle.c_parser.proofs.ListLaws.{following}
use Rattle.c_parser.proofs.statements.+statements.Given as goal

abbrev pub decreases-statement_at : goal.decreases-statement_at
decreases-statement_at l = 8 * l.height

abbrev pub decreases-form_at : goal.decreases-form_at
decreases-form_at l = 8 * l.height + 7

abbrev pub decreases-braced_at : goal.decreases-braced_at
decreases-braced_at l = 8 * l.height + 1

abbrev pub decreases-block_at : goal.decreases-block_at
decreases-block_at l = 8 * l.height + 6

abbrev pub decreases-if_at : goal.decreases-if_at
decreases-if_at l = 8 * l.height + 2

abbrev pub decreases-else_at : goal.decreases-else_at
decreases-else_at l = 8 * l.height + 1

abbrev pub decreases-while_at : goal.decreases-while_at
decreases-while_at l = 8 * l.height + 1

abbrev pub decreases-do_at : goal.decreases-do_at
decreases-do_at l = 8 * l.height + 1

abbrev pub decreases-for_at : goal.decreases-for_at
decreases-for_at l = 8 * l.height + 1

abbrev pub decreases-label_at : goal.decreases-label_at
decreases-label_at l = 8 * l.height + 1

abbrev pub invariant-braced_at-loop-more : goal.invariant-braced_at-loop-more
invariant-braced_at-loop-more l =
    following (map stmt_view l.stmts) (elements (statement_level (l.brackets - 1) (braced_within (l.brackets - 1)) (armed_within (l.brackets - 1)) l.height true) l.more l.rest)
    ≡ elements (statement_level (l.brackets - 1) (braced_within (l.brackets - 1)) (armed_within (l.brackets - 1)) l.height true) (length l.tokens) l.tokens

abbrev pub decreases-braced_at-loop-more : goal.decreases-braced_at-loop-more
decreases-braced_at-loop-more l = l.more

abbrev pub decreases-switch_at : goal.decreases-switch_at
decreases-switch_at l = 8 * l.height + 5

abbrev pub decreases-arms_in_braces : goal.decreases-arms_in_braces
decreases-arms_in_braces l = 8 * l.height + 4

abbrev pub decreases-armed_at : goal.decreases-armed_at
decreases-armed_at l = 8 * l.height + 3

abbrev pub decreases-arm_at : goal.decreases-arm_at
decreases-arm_at l = 8 * l.height + 2

abbrev pub decreases-body_of_arm : goal.decreases-body_of_arm
decreases-body_of_arm l = 8 * l.height + 1

abbrev pub invariant-armed_at-loop-more : goal.invariant-armed_at-loop-more
invariant-armed_at-loop-more l =
    following (map raw_arm_view l.arms) (elements (arm_in (l.brackets - 1) l.height) l.more l.rest)
    ≡ elements (arm_in (l.brackets - 1) l.height) (length l.tokens) l.tokens

abbrev pub decreases-armed_at-loop-more : goal.decreases-armed_at-loop-more
decreases-armed_at-loop-more l = l.more

abbrev pub invariant-body_of_arm-loop-more : goal.invariant-body_of_arm-loop-more
invariant-body_of_arm-loop-more l =
    following (map stmt_view l.stmts) (until ends_arm (statement_in l.brackets l.height) l.more l.rest)
    ≡ until ends_arm (statement_in l.brackets l.height) (length l.tokens) l.tokens

abbrev pub decreases-body_of_arm-loop-more : goal.decreases-body_of_arm-loop-more
decreases-body_of_arm-loop-more l = l.more
