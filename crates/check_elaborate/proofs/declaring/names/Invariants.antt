use Rattle.std.proofs.Common.{◌≡◌, drop, map, false}
use Rattle.c_parser.specs.SourceView.{declared_view}
use Rattle.check_rules.specs.Checked.{typed_names}
use Rattle.check_rules.specs.Parts.{parts_of_names}
use Rattle.check_rules.specs.Scopes.{after_names}
use Rattle.check_elaborate.specs.Walks.{scope_at, items_in, bodies_in, found_at, with_parts}
use Rattle.check_elaborate.proofs.NameLaws.{names_before}
use Rattle.check_elaborate.proofs.declaring.names.Given as goal

abbrev pub invariant-loop-d : goal.invariant-loop-d
invariant-loop-d l = record {
  typed : names_before l.all (typed_names l.context.model (bodies_in l.context) (scope_at l.walk) (map declared_view (drop l.d-index l.ds))) ≡ typed_names l.context.model (bodies_in l.context) (scope_at l.fn.walk) (map declared_view l.ds);
  scope : after_names l.context.model (bodies_in l.context) false (scope_at l.walk) (map declared_view (drop l.d-index l.ds)) ≡ after_names l.context.model (bodies_in l.context) false (scope_at l.fn.walk) (map declared_view l.ds);
  noted : with_parts l.context.model (items_in l.context) (found_at l.walk) (parts_of_names l.context.model (bodies_in l.context) false (scope_at l.walk) (map declared_view (drop l.d-index l.ds))) ≡ with_parts l.context.model (items_in l.context) (found_at l.fn.walk) (parts_of_names l.context.model (bodies_in l.context) false (scope_at l.fn.walk) (map declared_view l.ds));
}
