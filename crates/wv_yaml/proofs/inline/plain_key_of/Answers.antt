use Rattle.std.proofs.Common.{◌∙◌, ap, sym, ◌++◌, Some, drop, take}
use Rattle.std.specs.String.{string_bytes}
use Rattle.std.specs.Str.{encode_utf8_all}
use Rattle.std.proofs.lemmas.Str.{IsUtf8-string_bytes}
use Rattle.std.proofs.lemmas.List.{drop-drop}
use Rattle.yaml_lines.specs.Marks.{without_end}
use Rattle.wv_yaml.proofs.KeySteps.{plain_key_gives, plain_key_off, ends_key, given, refused}
use Rattle.wv_yaml.proofs.inline.plain_key_of.Goals as goal

pub returns-then-not-is_colon_text-clause-value : goal.returns-then-not-is_colon_text-clause-value
returns-then-not-is_colon_text-clause-value c =
    plain_key_off c.args.text.now c.from_place-rest.result (sym c.is_plain_start.ensures ∙ c.if-not-is_plain_start.false) (c.from_place-rest.ensures.value ∙ c.cut_len-len.ensures.rest)
    (sym c.is_colon_text.ensures.value ∙ c.if-not-is_colon_text.true)

pub returns-then-not-does_end_key-clause-value : goal.returns-then-not-does_end_key-clause-value
returns-then-not-does_end_key-clause-value c =
    let out = string_bytes c.push_chars.new.out in
    let rest = c.from_place-rest.result in
    refused c.does_end_key.result _ _
    (plain_key_gives c.args.text.now (take c.len_without_end.result c.args.text.now) out rest c.does_end_key.result (sym c.is_plain_start.ensures ∙ c.if-not-is_plain_start.false)
    (c.len_without_end.ensures.value ∙ ap without_end c.cut_len-len.ensures.front) (c.from_place-rest.ensures.value ∙ c.cut_len-len.ensures.rest)
    (c.in_ok-push_chars.ensures ∙ ap (λ xs. xs ++ encode_utf8_all (take c.len_without_end.result c.args.text.now)) c.new-out.ensures.bytes) (IsUtf8-string_bytes c.push_chars.new.out)
    (c.does_end_key.ensures.value ∙ ap (λ v. ends_key v rest) c.as_str.ensures.value))
    c.if-not-does_end_key.true

pub returns-clause-value : goal.returns-clause-value
returns-clause-value c =
    let out = string_bytes c.push_chars.new.out in
    let rest = c.from_place-rest.result in
    given c.does_end_key.result _ _
    (plain_key_gives c.args.text.now (take c.len_without_end.result c.args.text.now) out rest c.does_end_key.result (sym c.is_plain_start.ensures ∙ c.if-not-is_plain_start.false)
    (c.len_without_end.ensures.value ∙ ap without_end c.cut_len-len.ensures.front) (c.from_place-rest.ensures.value ∙ c.cut_len-len.ensures.rest)
    (c.in_ok-push_chars.ensures ∙ ap (λ xs. xs ++ encode_utf8_all (take c.len_without_end.result c.args.text.now)) c.new-out.ensures.bytes) (IsUtf8-string_bytes c.push_chars.new.out)
    (c.does_end_key.ensures.value ∙ ap (λ v. ends_key v rest) c.as_str.ensures.value))
    c.if-not-does_end_key.false
    ∙ ap (λ xs. Some (xs, drop 1 rest)) (sym (c.in_ok-name.ensures ∙ c.as_str-2.ensures.value))
    ∙ ap (λ xs. Some (c.in_ok-name.name, xs)) (ap (drop 1) c.from_place-rest.ensures.value ∙ drop-drop 1 c.cut_len-len.result c.args.text.now)
