use Rattle.std.proofs.Common.{◌≡◌, ◌++◌, drop, map}
use Rattle.c_core.specs.View.{functions_view}
use Rattle.c_parser.specs.SourceView.{item_view}
use Rattle.check_rules.specs.Checked.{starts_of, functions_of}
use Rattle.check_rules.specs.Noting.{noted_parts}
use Rattle.check_rules.specs.Parts.{bodies_of, parts_of_items}
use Rattle.check_rules.specs.Scopes.{after_items}
use Rattle.check_rules.specs.Kept.{kept_outside}
use Rattle.check_elaborate.specs.Items.{names_of, kept_lists, kept_views}
use Rattle.check_elaborate.proofs.ItemLaws.{kept_of_items}
use Rattle.check_elaborate.specs.Walks.{scope_at, items_in, bodies_in}
use Rattle.check_elaborate.proofs.items.items.Given as goal

abbrev pub invariant-loop-x : goal.invariant-loop-x
invariant-loop-x l = record {
  starts : l.starts ++ starts_of l.context.model (bodies_in l.context) (scope_at l.walk) (map item_view (drop l.x-index l.items)) ≡ l.fn.starts ++ starts_of l.context.model (bodies_in l.context) (scope_at l.fn.walk) (map item_view l.items);
  functions : functions_view l.functions ++ functions_of l.context.model (bodies_in l.context) (scope_at l.walk) (map item_view (drop l.x-index l.items)) ≡ functions_view l.fn.functions ++ functions_of l.context.model (bodies_in l.context) (scope_at l.fn.walk) (map item_view l.items);
  kept : kept_lists l.kept ++ kept_of_items l.context.model (bodies_in l.context) (scope_at l.walk) (map item_view (drop l.x-index l.items)) ≡ kept_lists l.fn.kept ++ kept_of_items l.context.model (bodies_in l.context) (scope_at l.fn.walk) (map item_view l.items);
  outside : kept_views l.walk.kept ++ kept_outside l.context.model (bodies_in l.context) (scope_at l.walk) (map item_view (drop l.x-index l.items)) ≡ kept_views l.fn.walk.kept ++ kept_outside l.context.model (bodies_in l.context) (scope_at l.fn.walk) (map item_view l.items);
  names : names_of l.functions ++ bodies_of (map item_view (drop l.x-index l.items)) ≡ names_of l.fn.functions ++ bodies_of (map item_view l.items);
  scope : after_items l.context.model (bodies_in l.context) (scope_at l.walk) (map item_view (drop l.x-index l.items)) ≡ after_items l.context.model (bodies_in l.context) (scope_at l.fn.walk) (map item_view l.items);
  noted : noted_parts l.context.model (items_in l.context) l.walk.best (parts_of_items l.context.model (bodies_in l.context) (scope_at l.walk) (map item_view (drop l.x-index l.items))) ≡ noted_parts l.context.model (items_in l.context) l.fn.walk.best (parts_of_items l.context.model (bodies_in l.context) (scope_at l.fn.walk) (map item_view l.items));
}
