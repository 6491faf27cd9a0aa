use Rattle.std.proofs.Common.{◌∙◌, ap, sym, drop}
use Rattle.std.specs.Str.{chars}
use Rattle.std.proofs.lemmas.Str.{chars_past_char}
use Rattle.yaml_lines.proofs.characters.rest_of.Goals as goal

pub returns-in-Some : goal.returns-in-Some
returns-in-Some c =
    ap chars c.as_str.ensures
    ∙ sym (ap (drop 1) (chars_past_char c.args.text.now _ c.in-Some.field-0 c.utf8.text (sym c.chars-left.ensures.rest ∙ c.in-Some.ensures.steps.0)))
