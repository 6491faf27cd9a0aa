use Rattle.check_unsequenced.proofs.SameUnordered.{initializer_from, initializer_to, unordered_from, unordered_to}
use Rattle.check_unsequenced.proofs.TypedEffects.{effects_of_expression}
use Rattle.check_unsequenced.proofs.laws.typed_trees_keep_order.Goals as goal

pub returns : goal.returns
returns c = record {
  effects = effects_of_expression;
  expressions = λ m items objects list es h r e. (unordered_to m items objects list es h r e, unordered_from m items objects list es h r e);
  initializers = λ m items objects list fixed s h e. (initializer_to m items objects list s e h, initializer_from m items objects list s e h);
}
