use Rattle.std.proofs.Common.{◌∙◌, ap, sym, ◌∷◌}
use Rattle.yaml_lines.specs.Marks.{begins_with}
use Rattle.yaml_scalars.proofs.TokenSteps.{step_return}
use Rattle.yaml_scalars.proofs.tokens.push_token.Goals as goal

pub returns-then-c-eq13-clause-value : goal.returns-then-c-eq13-clause-value
returns-then-c-eq13-clause-value c =
    step_return c.args.is_behind c.first-c.result c.rest-rest.result c.args.text.now c.args.out.now.items
    (c.first-c.ensures ∙ ap (λ xs. c.first-c.result ∷ xs) (sym c.rest-rest.ensures.value)) c.if-c-eq13.true
    (ap (begins_with 35) (sym c.without_gap.ensures) ∙ sym c.does_begin_with.ensures ∙ c.if-not-does_begin_with.false)
