use Rattle.std.proofs.Common.{ap₂, ◌∙◌}
use mir.Syntax.{w128}
use Rattle.std.proofs.lemmas.Int.{to_z-of_z}
use Rattle.flow_code.specs.Tables.{address_in}
use Rattle.flow_code.proofs.tables.Table.get.Goals as goal

pub returns : goal.returns
returns c =
    c.copied.ensures ∙ c.get.ensures.value
    ∙ ap₂ (λ t v. address_in t v) c.self.view_is (to_z-of_z w128 c.args.value c.ranges.value)
