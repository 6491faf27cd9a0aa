use Rattle.std.proofs.Common.{◌≡◌, [], List, ℕ, drop, take}
use Rattle.check_rules.specs.Codes.{is_among}
use Rattle.check_rules.specs.Noting.{noted_parts}
use Rattle.check_rules.specs.Parts.{parts_of_labels}
use Rattle.check_scope.specs.Bodies.{has_name}
use Rattle.check_elaborate.specs.Walks.{items_in, labels_seen}
use Rattle.check_elaborate.proofs.LabelLaws.{names_seen}
use Rattle.check_elaborate.proofs.labels.first_doubled.Given as goal

abbrev pub invariant-loop-label : goal.invariant-loop-label
invariant-loop-label l = record {
  known : (w : List ℕ) → has_name l.names w ≡ is_among (names_seen (take l.label-index l.labels)) w;
  noted : noted_parts l.context.model (items_in l.context) l.best (parts_of_labels (names_seen (take l.label-index l.labels)) (labels_seen (drop l.label-index l.labels))) ≡ noted_parts l.context.model (items_in l.context) l.fn.best (parts_of_labels [] (labels_seen l.labels));
}
