-- What the items so far say, and what those that are left add.
use Rattle.std.proofs.Common.{◌≡◌, ℕ, ◌+◌, ◌||◌, List, drop, length, map}
use Rattle.c_parser.specs.SourceView.{item_view}
use Rattle.check_rules.specs.Parts.{bodies_of}
use Rattle.check_rules.specs.Codes.{closed_names, is_among}
use Rattle.check_scope.specs.Bodies.{body_in, first_body, has_name, or_first}
use Rattle.check_scope.proofs.functions.Functions.of.Given as goal

abbrev pub invariant-loop-item : goal.invariant-loop-item
invariant-loop-item l = record {
  found : (w : List ℕ) → or_first (body_in l.bodies w) (first_body l.count (map item_view (drop l.item-index l.items)) w) ≡ first_body 0 (map item_view l.items) w;
  shut : (w : List ℕ) → (has_name l.closed w || is_among (closed_names (map item_view (drop l.item-index l.items))) w) ≡ is_among (closed_names (map item_view l.items)) w;
  counted : l.count + length (bodies_of (map item_view (drop l.item-index l.items))) ≡ length (bodies_of (map item_view l.items));
}
