use Rattle.std.proofs.Common.{◌≡◌, List, ℕ, sym, subst, ap, ◌∙◌}
use Rattle.std.specs.List.Sorted.{IsPartitionedBy}
use Rattle.c_core.specs.TextOrder.{is_before}
use Rattle.c_core.specs.View.{program_view}
use Rattle.c_core.specs.declared.number.Spot.{Spot}
use Rattle.way_names.specs.Versions.{behind, look, numbers_of}
use Rattle.way_names.proofs.NamedLaws.{static_looked, parted}
use Rattle.way_names.proofs.named.NamedObjects.static_of.Goals as goal

pub count_before-count-requires : goal.count_before-count-requires
count_before-count-requires c =
    let self = c.args.self.now in
    parted (program_view self.program.now) self.statics.items c.as_slice.result.now self.program.now.checked self.named.statics c.as_slice.ensures.value c.args.spot

pub returns : goal.returns
returns c =
    let self = c.args.self.now in
    c.look.ensures ∙ ap (λ s. look self.before s c.args.key) c.behind.ensures
    ∙ static_looked (program_view self.program.now) self.statics.items self.before self.nested self.statements self.loops self.named c.args.key c.requires self.program.now.checked c.args.spot
    c.as_slice.result.now c.as_slice.ensures.value c.count_before-count.result c.count_before-count.ensures.within c.count_before-count.ensures.front
