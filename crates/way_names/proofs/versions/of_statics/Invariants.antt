use Rattle.way_names.proofs.VersionLaws.{FindStatics}
use Rattle.way_names.proofs.versions.of_statics.Given as goal

abbrev pub invariant-loop-index : goal.invariant-loop-index
invariant-loop-index l = FindStatics l.keys.objects.now l.statics l.versions l.index
