use Rattle.std.proofs.Common.{◌≡◌, ◌++◌, drop, map, true}
use Rattle.std.specs.List.{flat_map}
use Rattle.c_parser.specs.SourceView.{values_view}
use Rattle.check_rules.specs.Checked.{row_values}
use Rattle.check_rules.specs.Parts.{parts_of_values}
use Rattle.check_rules.specs.Scopes.{seen}
use Rattle.check_elaborate.specs.Walks.{scope_at, items_in, bodies_in, found_at, with_parts}
use Rattle.check_elaborate.proofs.globals.row_values.Given as goal

abbrev pub invariant-loop-row : goal.invariant-loop-row
invariant-loop-row l = record {
  values : l.all ++ row_values l.context.model (bodies_in l.context) (seen (scope_at l.fn.walk)) l.ty l.columns (map values_view (drop l.row-index l.rows)) ≡ row_values l.context.model (bodies_in l.context) (seen (scope_at l.fn.walk)) l.ty l.columns (map values_view l.rows);
  scope : scope_at l.walk ≡ scope_at l.fn.walk;
  noted : with_parts l.context.model (items_in l.context) (found_at l.walk) (flat_map (parts_of_values true (scope_at l.fn.walk)) (map values_view (drop l.row-index l.rows))) ≡ with_parts l.context.model (items_in l.context) (found_at l.fn.walk) (flat_map (parts_of_values true (scope_at l.fn.walk)) (map values_view l.rows));
}
