use Rattle.std.proofs.Common.{◌<◌, length, sym, ◌∙◌, arith}
use Rattle.std.specs.Prelude.{slice_get}
use Rattle.way_names.proofs.KeyLaws.{object_key_within}
use Rattle.way_names.proofs.VersionLaws.{put_keyed, put_nothing}
use Rattle.way_names.proofs.versions.put_object.Goals as goal

pub put-requires-clause-small : goal.put-requires-clause-small
put-requires-clause-small c =
    let objects = c.args.keys.now.objects.now in
    let known : c.in-Some.key < length objects = object_key_within objects (slice_get objects c.args.object) c.in-Some.key (sym c.key_of_object.ensures ∙ c.in-Some.is) in
    omega (arith, known, c.requires.wide)

pub returns-in-None : goal.returns-in-None
returns-in-None c =
    put_nothing c.args.keys.now.objects.now c.args.nodes.now.items c.args.bits c.args.at c.args.object (sym c.in-None.is ∙ c.key_of_object.ensures) c.requires.stands

pub returns-in_ok-root-in-Some : goal.returns-in_ok-root-in-Some
returns-in_ok-root-in-Some c =
    put_keyed c.args.keys.now.objects.now c.args.nodes.now.items _ c.args.bits c.args.at c.in-Some.key c.args.object c.in_ok-root-in-Some.root (sym c.in-Some.is ∙ c.key_of_object.ensures) c.in_ok-root-in-Some.ensures
