use Rattle.std.proofs.Common.{◌≡◌, ◌++◌, length, drop, map}
use Rattle.c_parser.specs.SourceView.{param_view}
use Rattle.check_rules.specs.Checked.{numbers_from}
use Rattle.check_rules.specs.Noting.{noted_parts}
use Rattle.check_rules.specs.Parts.{parts_of_parameters}
use Rattle.check_rules.specs.Scopes.{after_parameters}
use Rattle.check_elaborate.specs.Items.{kept_views}
use Rattle.check_elaborate.specs.Walks.{scope_at, items_in, bodies_in}
use Rattle.check_elaborate.proofs.parameters.parameters.Given as goal

abbrev pub invariant-loop-x : goal.invariant-loop-x
invariant-loop-x l = record {
  numbers : l.numbers ++ numbers_from l.context.model (bodies_in l.context) (length l.walk.objects) (map param_view (drop l.x-index l.xs)) ≡ numbers_from l.context.model (bodies_in l.context) (length l.fn.walk.objects) (map param_view l.xs);
  scope : after_parameters (scope_at l.walk) (map param_view (drop l.x-index l.xs)) ≡ after_parameters (scope_at l.fn.walk) (map param_view l.xs);
  noted : noted_parts l.context.model (items_in l.context) l.walk.best (parts_of_parameters (scope_at l.walk) (map param_view (drop l.x-index l.xs))) ≡ noted_parts l.context.model (items_in l.context) l.fn.walk.best (parts_of_parameters (scope_at l.fn.walk) (map param_view l.xs));
  kept : kept_views l.walk.kept ≡ kept_views l.fn.walk.kept;
}
