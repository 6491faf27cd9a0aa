use Rattle.std.proofs.Common.{arith, ap, length, append-nil, ◌≡◌, []}
use Rattle.std.specs.Str.{chars}
use Rattle.yaml_lines.specs.Lines.{joined}
use Rattle.yaml_lines.proofs.Texts.{chars_few}
use Rattle.yaml_lines.proofs.characters.Characters.of.Goals as goal

pub invariant_of-result : goal.invariant_of-result
invariant_of-result c =
    let text = c.args.text.now in
    let all : length (joined 0 (chars text) []) ≡ length (chars text) = ap length (append-nil (chars text)) in
    omega (arith, all, chars_few text c.utf8.text, c.type_inv.text)
