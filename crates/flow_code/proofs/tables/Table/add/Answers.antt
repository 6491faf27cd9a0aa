use Rattle.std.proofs.Common.{ap, ap₂, ◌∙◌}
use mir.Syntax.{w128}
use Rattle.std.proofs.lemmas.Int.{to_z-of_z}
use Rattle.std.specs.BTreeMap.{insert_entry}
use Rattle.std.specs.Option.{unwrap_or}
use Rattle.std.specs.Ordering.{int_cmp}
use Rattle.flow_code.specs.Tables.{address_in}
use Rattle.flow_code.proofs.tables.Table.add.Goals as goal

pub returns : goal.returns
returns c =
    let same = to_z-of_z w128 c.args.value c.ranges.value in
    let first = c.unwrap_or-first.ensures ∙ ap (λ o. unwrap_or o c.args.to) (c.get.ensures ∙ ap (λ v. address_in c.args.self.now v) same) in
    c.in_ok-insert.ensures.entries
    ∙ ap (λ v. insert_entry int_cmp c.self.inside.addresses.entries v c.unwrap_or-first.result) same
    ∙ ap₂ (λ t n. insert_entry int_cmp t c.args.value n) c.self.view_is first
