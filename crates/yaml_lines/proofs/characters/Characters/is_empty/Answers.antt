use Rattle.std.proofs.Common.{◌∙◌, ap, sym, length, ◌==◌, List, ℕ}
use Rattle.yaml_lines.proofs.Texts.{lines_left}
use Rattle.yaml_lines.proofs.characters.Characters.is_empty.Goals as goal

pub returns-then-is_end : goal.returns-then-is_end
returns-then-is_end c =
    c.is_empty.ensures ∙ lines_left c.self.inside.column _ c.self.inside.lines.now (sym c.is_end.ensures ∙ c.if-is_end.true)
    ∙ ap (λ (xs : List ℕ). length xs == 0) c.self.view_is
