use Rattle.std.proofs.Common.{◌∙◌, ◌++◌, ap, sym}
use Rattle.std.specs.String.{string_bytes}
use Rattle.std.specs.Str.{chars}
use Rattle.std.proofs.lemmas.Str.{encodes-chars}
use Rattle.yaml_scalars.proofs.Rows.{row_out}
use Rattle.yaml_scalars.proofs.block_scalar.push_row.Goals as goal

pub returns : goal.returns
returns c =
    let text = c.args.text.now in
    let front = string_bytes c.push_spaces.new.out in
    row_out c.args.extra (chars text) (string_bytes c.args.out.now) front (string_bytes c.push_str.new.self) c.in_ok-push_spaces.ensures (c.in_ok-push_str.ensures.bytes ∙ ap (λ xs. front ++ xs) (sym (encodes-chars text c.utf8.text)))
