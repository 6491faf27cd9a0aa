use Rattle.std.proofs.Common.{ap, ◌∙◌}
use Rattle.check_rules.specs.Names.{named}
use Rattle.check_scope.specs.InScope.{all_of}
use Rattle.way_constraint.specs.Known.{means_object}
use Rattle.way_constraint.proofs.NameLaws.{object_meant}
use Rattle.way_constraint.proofs.known.is_object.Goals as goal

pub returns : goal.returns
returns c = c.means_object.ensures ∙ ap means_object c.meaning.ensures ∙ object_meant (named (all_of c.args.table.now) c.args.name.now)
