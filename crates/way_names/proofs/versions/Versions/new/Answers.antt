use Rattle.way_names.proofs.VersionLaws.{none_stand}
use Rattle.way_names.proofs.versions.Versions.new.Goals as goal

pub returns-clause-stand : goal.returns-clause-stand
returns-clause-stand c = none_stand c.new-nodes.result.items c.bits_of-bits.result c.new-roots.result.items c.new-roots.ensures.items
