use Rattle.std.proofs.Common.{◌∙◌, ap, sym, ◌+◌, length, take, refl}
use Rattle.std.specs.String.{string_bytes}
use Rattle.std.proofs.lemmas.Str.{IsUtf8-string_bytes}
use Rattle.yaml_lines.specs.Marks.{gap}
use Rattle.yaml_scalars.specs.Gives.{with_text}
use Rattle.yaml_scalars.specs.Tokens.{first_word}
use Rattle.yaml_scalars.proofs.TokenSteps.{scalar_is, key_by, token_by, word_by}
use Rattle.yaml_scalars.proofs.tokens.scalar_token.Goals as goal

pub returns-then-does_make_key-clause-value : goal.returns-then-does_make_key-clause-value
returns-then-does_make_key-clause-value c =
    let text = c.args.text.now in
    let out = string_bytes c.push_word.new.out in
    let count = c.in_ok-count.count in
    token_by text out c.in_ok-value.value c.does_make_key.result _ _ _
    (scalar_is text out count c.does_make_key.result (ap (λ f. with_text f (first_word text)) (sym c.new-out.ensures.bytes) ∙ c.in_ok-count.ensures.value) (IsUtf8-string_bytes c.push_word.new.out)
    (key_by c.does_make_key.result c.is_quoted_start.result (take count text) c.as_str-2.result.now c.from_place-rest.result text out count c.does_make_key.ensures.value refl c.as_str-2.ensures.value c.is_quoted_start.ensures c.from_place-rest.ensures.value))
    c.if-does_make_key.true (c.in_ok-value.ensures ∙ c.as_str.ensures.value) (ap (λ n. count + n) (c.gap_len.ensures.count ∙ ap (λ xs. length (gap xs)) c.from_place-rest.ensures.value))

pub returns-clause-value : goal.returns-clause-value
returns-clause-value c =
    let text = c.args.text.now in
    let out = string_bytes c.push_word.new.out in
    let count = c.in_ok-count.count in
    word_by text out c.in_ok-value.value c.does_make_key.result _ _ _
    (scalar_is text out count c.does_make_key.result (ap (λ f. with_text f (first_word text)) (sym c.new-out.ensures.bytes) ∙ c.in_ok-count.ensures.value) (IsUtf8-string_bytes c.push_word.new.out)
    (key_by c.does_make_key.result c.is_quoted_start.result (take count text) c.as_str-2.result.now c.from_place-rest.result text out count c.does_make_key.ensures.value refl c.as_str-2.ensures.value c.is_quoted_start.ensures c.from_place-rest.ensures.value))
    c.if-does_make_key.false (c.in_ok-value.ensures ∙ c.as_str.ensures.value) c.saturating_sub.ensures
