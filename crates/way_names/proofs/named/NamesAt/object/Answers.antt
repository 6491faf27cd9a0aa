use Rattle.std.proofs.Common.{◌≡◌, Some, None, List, ℕ, sym, ap, ◌∙◌}
use Rattle.c_core.specs.View.{program_view}
use Rattle.c_core.specs.declared.tree.Object.{Object}
use Rattle.way_names.specs.Keys.{key_of}
use Rattle.way_names.specs.Visible.{names_at}
use Rattle.way_names.proofs.KeyLaws.{key_within, last_by_key, none_by_key}
use Rattle.way_names.proofs.named.NamesAt.object.Goals as goal

pub object_of-requires-clause-known : goal.object_of-requires-clause-known
object_of-requires-clause-known c =
    let named = c.args.self.now.names.now in
    key_within named.program.now.objects c.args.name.now c.in-Some.key
    (ap (λ (os : List Object). key_of os c.args.name.now) (sym named.keyed) ∙ sym c.key.ensures ∙ c.in-Some.is)

pub returns-in-Some : goal.returns-in-Some
returns-in-Some c =
    let at = c.args.self.now in
    let named = at.names.now in
    c.object_of.ensures
    ∙ last_by_key named.program.now.objects c.args.name.now c.in-Some.key (ap (λ (os : List Object). key_of os c.args.name.now) (sym named.keyed) ∙ sym c.key.ensures ∙ c.in-Some.is)
    (names_at (program_view named.program.now) at.kind at.spot)

pub returns-in-None : goal.returns-in-None
returns-in-None c =
    let at = c.args.self.now in
    let named = at.names.now in
    sym (none_by_key named.program.now.objects c.args.name.now (ap (λ (os : List Object). key_of os c.args.name.now) (sym named.keyed) ∙ sym c.key.ensures ∙ c.in-None.is)
    (names_at (program_view named.program.now) at.kind at.spot))
