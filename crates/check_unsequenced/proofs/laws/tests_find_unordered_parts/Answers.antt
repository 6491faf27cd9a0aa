use Rattle.check_unsequenced.proofs.SameTests.{listed_from, listed_to, same_both, same_expression, same_initializer, same_none, same_other}
use Rattle.check_unsequenced.proofs.laws.tests_find_unordered_parts.Goals as goal

pub returns : goal.returns
returns c = record {
  expression = same_expression;
  initializer = same_initializer;
  none = same_none;
  both = same_both;
  other = same_other;
  listed_to = listed_to;
  listed_from = listed_from;
}
