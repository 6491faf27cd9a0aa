use Rattle.std.proofs.Common.{ap, ◌∙◌}
use Rattle.check_scope.specs.InScope.{all_of}
use Rattle.way_constraint.specs.Known.{stands_for_object, word_is_object}
use Rattle.way_constraint.proofs.known.names_object.Goals as goal

pub returns-in-Some : goal.returns-in-Some
unfolding stands_for_object
returns-in-Some c = c.is_object.ensures ∙ ap (word_is_object (all_of c.args.table.now)) c.in-Some.ensures

pub returns-in-None : goal.returns-in-None
unfolding stands_for_object
returns-in-None c = ap (word_is_object (all_of c.args.table.now)) c.in-None.ensures
