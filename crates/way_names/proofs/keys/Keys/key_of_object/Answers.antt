use Rattle.std.proofs.Common.{◌∙◌}
use Rattle.way_names.proofs.KeyLaws.{key_read}
use Rattle.way_names.proofs.keys.Keys.key_of_object.Goals as goal

pub returns : goal.returns
returns c = c.read_key.ensures ∙ key_read c.args.self.now.objects.now c.args.self.now.of_objects.items c.args.number c.args.self.now.keyed
