use Rattle.std.proofs.Common.{None, Some, sym, ap, ◌∙◌}
use Rattle.c_core.specs.View.{program_view}
use Rattle.way_places.specs.Seeking.{or_else}
use Rattle.way_names.specs.Keys.{has_key, last_of}
use Rattle.way_names.specs.Versions.{look}
use Rattle.way_names.proofs.NamedLaws.{local_found, local_or_static}
use Rattle.way_names.proofs.named.NamedObjects.object_of.Goals as goal

pub returns-in-Some : goal.returns-in-Some
returns-in-Some c =
    let self = c.args.self.now in
    local_or_static (program_view self.program.now) c.args.kind c.args.spot (has_key self.program.now.objects c.args.key) (Some c.in-Some.object)
    (sym c.in-Some.is ∙ c.look.ensures ∙ ap (λ s. look self.nested s c.args.key) c.scope_of-scope.ensures
    ∙ local_found (program_view self.program.now) self.statics.items self.before self.nested self.statements self.loops self.named c.args.key c.requires.known c.args.kind c.args.spot c.requires.there)

pub returns-in-None : goal.returns-in-None
returns-in-None c =
    let self = c.args.self.now in
    c.static_of.ensures
    ∙ local_or_static (program_view self.program.now) c.args.kind c.args.spot (has_key self.program.now.objects c.args.key) None
    (sym c.in-None.is ∙ c.look.ensures ∙ ap (λ s. look self.nested s c.args.key) c.scope_of-scope.ensures
    ∙ local_found (program_view self.program.now) self.statics.items self.before self.nested self.statements self.loops self.named c.args.key c.requires.known c.args.kind c.args.spot c.requires.there)
