use Rattle.std.proofs.Common.{◌≡◌, [], drop, map}
use Rattle.c_parser.specs.SourceView.{stmt_view}
use Rattle.c_parser.specs.Tree.{stms, arms}
use Rattle.c_parser.specs.StatementParts.{raw_arm_view}
use Rattle.check_rules.specs.Checked.{typed_block, typed_arms}
use Rattle.check_rules.specs.Parts.{parts_of_block, parts_of_arms}
use Rattle.check_rules.specs.Scopes.{after_block, after_arms}
use Rattle.check_elaborate.specs.ArmLabels.{AreFound}
use Rattle.check_elaborate.specs.InArms.{typed_in_arm, after_in_arm, parts_in_arm}
use Rattle.check_elaborate.specs.Walks.{scope_at, items_in, bodies_in, found_at, with_parts}
use Rattle.check_elaborate.proofs.ArmLaws.{arms_before}
use Rattle.check_elaborate.proofs.BlockLaws.{statements_before}
use Rattle.check_elaborate.proofs.statements.+statement.Given as goal

abbrev pub invariant-statements-loop-s : goal.invariant-statements-loop-s
invariant-statements-loop-s l = record {
  typed : statements_before l.all (typed_block l.context.model (bodies_in l.context) (scope_at l.walk) (stms (map stmt_view (drop l.s-index l.ss)))) ≡ typed_block l.context.model (bodies_in l.context) (scope_at l.fn.walk) (stms (map stmt_view l.ss));
  scope : after_block l.context.model (bodies_in l.context) (scope_at l.walk) (stms (map stmt_view (drop l.s-index l.ss))) ≡ after_block l.context.model (bodies_in l.context) (scope_at l.fn.walk) (stms (map stmt_view l.ss));
  noted : with_parts l.context.model (items_in l.context) (found_at l.walk) (parts_of_block l.context.model (bodies_in l.context) l.gives l.within (scope_at l.walk) (stms (map stmt_view (drop l.s-index l.ss)))) ≡ with_parts l.context.model (items_in l.context) (found_at l.fn.walk) (parts_of_block l.context.model (bodies_in l.context) l.gives l.within (scope_at l.fn.walk) (stms (map stmt_view l.ss)));
}

abbrev pub invariant-in_arm-loop-s : goal.invariant-in_arm-loop-s
invariant-in_arm-loop-s l = record {
  typed : statements_before l.all (typed_in_arm l.context.model (bodies_in l.context) (scope_at l.walk) (map stmt_view (drop l.s-index l.ss))) ≡ typed_in_arm l.context.model (bodies_in l.context) (scope_at l.fn.walk) (map stmt_view l.ss);
  scope : after_in_arm l.context.model (bodies_in l.context) (scope_at l.walk) (map stmt_view (drop l.s-index l.ss)) ≡ after_in_arm l.context.model (bodies_in l.context) (scope_at l.fn.walk) (map stmt_view l.ss);
  noted : with_parts l.context.model (items_in l.context) (found_at l.walk) (parts_in_arm l.context.model (bodies_in l.context) l.gives l.within (scope_at l.walk) (map stmt_view (drop l.s-index l.ss))) ≡ with_parts l.context.model (items_in l.context) (found_at l.fn.walk) (parts_in_arm l.context.model (bodies_in l.context) l.gives l.within (scope_at l.fn.walk) (map stmt_view l.ss));
}

abbrev pub invariant-arms-loop-arm : goal.invariant-arms-loop-arm
invariant-arms-loop-arm l = record {
  found : AreFound l.before;
  typed : arms_before l.all (typed_arms l.context.model (bodies_in l.context) l.ty (scope_at l.walk) (arms (map raw_arm_view (drop l.arm-index l.arms)))) ≡ typed_arms l.context.model (bodies_in l.context) l.ty (scope_at l.fn.walk) (arms (map raw_arm_view l.arms));
  scope : after_arms l.context.model (bodies_in l.context) (scope_at l.walk) (arms (map raw_arm_view (drop l.arm-index l.arms))) ≡ after_arms l.context.model (bodies_in l.context) (scope_at l.fn.walk) (arms (map raw_arm_view l.arms));
  noted : with_parts l.context.model (items_in l.context) (found_at l.walk) (parts_of_arms l.context.model (bodies_in l.context) l.gives l.within l.ty l.before.all (scope_at l.walk) (arms (map raw_arm_view (drop l.arm-index l.arms)))) ≡ with_parts l.context.model (items_in l.context) (found_at l.fn.walk) (parts_of_arms l.context.model (bodies_in l.context) l.gives l.within l.ty [] (scope_at l.fn.walk) (arms (map raw_arm_view l.arms)));
}
