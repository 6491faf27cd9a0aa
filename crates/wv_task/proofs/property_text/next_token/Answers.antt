use Rattle.std.proofs.Common.{◌≡◌, ◌∙◌, ◌∷◌, take, drop, refl, sym, ap}
use Rattle.std.specs.List.{prefix_len}
use Rattle.wv_task.specs.Tokens.{is_blank, tokens, token_length}
use Rattle.wv_task.proofs.FirstToken.{past_blanks, no_token, first_token}
use Rattle.wv_task.proofs.property_text.next_token.Goals as goal

pub returns-then-length-eq0-clause-token : goal.returns-then-length-eq0-clause-token
returns-then-length-eq0-clause-token c =
    let left : c.split_at.result.1.now ≡ past_blanks c.args.text.now = c.split_at.ensures.back ∙ ap (λ n. drop n c.args.text.now) c.blank_run.ensures.run in
    no_token c.args.text.now (ap token_length (sym left) ∙ sym c.token_length-length.ensures.length ∙ c.if-length-eq0.true)

pub returns-else-length-eq0-clause-token : goal.returns-else-length-eq0-clause-token
returns-else-length-eq0-clause-token c =
    let left : c.split_at.result.1.now ≡ past_blanks c.args.text.now = c.split_at.ensures.back ∙ ap (λ n. drop n c.args.text.now) c.blank_run.ensures.run in
    let long : c.token_length-length.result ≡ token_length (past_blanks c.args.text.now) = c.token_length-length.ensures.length ∙ ap token_length left in
    let some = first_token c.args.text.now (λ none. c.if-length-eq0.false (long ∙ none)) in
    rw (c.split_at-else-length-eq0.ensures.front, c.split_at-else-length-eq0.ensures.back, left, long) some
