use Rattle.std.proofs.Common.{arith, ◌∙◌, ap, sym, length, length-drop, ◌+◌}
use Rattle.yaml_scalars.specs.Tokens.{tokens}
use Rattle.yaml_lines.proofs.Places.{some_left}
use Rattle.yaml_scalars.proofs.TokenSteps.{together, tokens_on, tokens_fail}
use Rattle.yaml_scalars.proofs.tokens.read_tokens.Goals as goal

pub loop-left-preserved : goal.loop-left-preserved
loop-left-preserved c =
    let left = c.loop-left.left in
    record {
      small = omega (arith, c.loop-left.invariant.small, ap length c.from_place-left.ensures.value, length-drop (1 + c.in-Ok.more) left);
      same = ap (λ xs. together c.push_token.new.out.items (tokens c.in-Ok.is_behind_next 0 xs)) c.from_place-left.ensures.value
          ∙ tokens_on c.loop-left.is_behind c.in-Ok.is_behind_next left c.in-Ok.more c.loop-left.out.items c.push_token.new.out.items (some_left _ (sym c.is_empty.ensures ∙ c.loop-left-test.true)) c.in-Ok.ensures.value
          ∙ c.loop-left.invariant.same;
    }

pub returns-in-Err : goal.returns-in-Err
returns-in-Err c =
    tokens_fail c.in-Err.fault c.loop-left.is_behind c.args.text.now c.loop-left.left c.loop-left.out.items (some_left _ (sym c.is_empty.ensures ∙ c.loop-left-test.true)) c.loop-left.invariant.same c.in-Err.ensures.value
