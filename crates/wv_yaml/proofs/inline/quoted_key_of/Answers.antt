use Rattle.std.proofs.Common.{◌∙◌, ap, sym, Some, drop}
use Rattle.std.specs.String.{string_bytes}
use Rattle.std.proofs.lemmas.Str.{IsUtf8-string_bytes}
use Rattle.yaml_scalars.specs.Quoted.{quoted, step_in}
use Rattle.yaml_scalars.specs.Gives.{with_text}
use Rattle.wv_yaml.proofs.KeySteps.{quoted_key_gives, ends_key, given, refused, key_place}
use Rattle.wv_yaml.proofs.inline.quoted_key_of.Goals as goal

pub returns-then-not-does_end_key-clause-value : goal.returns-then-not-does_end_key-clause-value
returns-then-not-does_end_key-clause-value c =
    let out = string_bytes c.push_quoted.new.out in
    let rest = c.from_place.result in
    refused c.does_end_key.result _ _
    (quoted_key_gives c.args.is_double c.args.text.now out c.from_place-after.result rest c.in_ok-count.count c.does_end_key.result
    (ap (λ f. with_text f (quoted (step_in c.args.is_double) 0 c.args.text.now)) (sym c.new-out.ensures.bytes) ∙ c.in_ok-count.ensures.value) (IsUtf8-string_bytes c.push_quoted.new.out)
    c.from_place-after.ensures.value (c.from_place.ensures.value ∙ c.gap_len-gap.ensures.rest) (c.does_end_key.ensures.value ∙ ap (λ v. ends_key v rest) c.as_str.ensures.value))
    c.if-not-does_end_key.true

pub returns-clause-value : goal.returns-clause-value
returns-clause-value c =
    let out = string_bytes c.push_quoted.new.out in
    let rest = c.from_place.result in
    given c.does_end_key.result _ _
    (quoted_key_gives c.args.is_double c.args.text.now out c.from_place-after.result rest c.in_ok-count.count c.does_end_key.result
    (ap (λ f. with_text f (quoted (step_in c.args.is_double) 0 c.args.text.now)) (sym c.new-out.ensures.bytes) ∙ c.in_ok-count.ensures.value) (IsUtf8-string_bytes c.push_quoted.new.out)
    c.from_place-after.ensures.value (c.from_place.ensures.value ∙ c.gap_len-gap.ensures.rest) (c.does_end_key.ensures.value ∙ ap (λ v. ends_key v rest) c.as_str.ensures.value))
    c.if-not-does_end_key.false
    ∙ ap (λ xs. Some (xs, drop 1 rest)) (sym (c.in_ok-name.ensures ∙ c.as_str-2.ensures.value))
    ∙ ap (λ xs. Some (c.in_ok-name.name, xs)) (key_place c.args.text.now c.from_place-after.result rest c.in_ok-count.count c.gap_len-gap.result c.from_place-after.ensures.value c.from_place.ensures.value)
