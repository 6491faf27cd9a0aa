use Rattle.std.proofs.Common.{◌∙◌, sym, length, true, false}
use Rattle.wv_yaml.specs.Flow.{closer}
use Rattle.wv_yaml.proofs.FlowSteps.{closed_is, true_is}
use Rattle.yaml_lines.proofs.Places.{some_left}
use Rattle.wv_yaml.proofs.flow.is_closed.Goals as goal

pub returns-then-not-is_empty-clause-closed : goal.returns-then-not-is_empty-clause-closed
returns-then-not-is_empty-clause-closed c = λ h.
    closed_is (closer c.args.is_list) c.args.tokens.now c.index-tokens-tokens.result true (some_left (length c.args.tokens.now) (sym c.is_empty.ensures ∙ c.if-not-is_empty.true)) c.index-tokens-tokens.is (sym c.does_close.ensures ∙ true_is c.does_close.result h)

pub returns-then-not-is_empty-clause-other : goal.returns-then-not-is_empty-clause-other
returns-then-not-is_empty-clause-other c = λ h.
    closed_is (closer c.args.is_list) c.args.tokens.now c.index-tokens-tokens.result false (some_left (length c.args.tokens.now) (sym c.is_empty.ensures ∙ c.if-not-is_empty.true)) c.index-tokens-tokens.is (sym c.does_close.ensures ∙ h)
