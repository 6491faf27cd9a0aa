use Rattle.std.proofs.Common.{rules}
use Rattle.std.proofs.lemmas.List.Sorted.{answers_always}
use Rattle.c_core.specs.TextOrder.{is_before}
use Rattle.way_places.proofs.TextLaws.{follow_sorted, text_order}
use Rattle.way_places.proofs.order.sort_spots.Goals as goal

pub returns-clause-ordered : goal.returns-clause-ordered
returns-clause-ordered c =
    follow_sorted (λ s. s) _ (c.in_ok-sort_by.ensures.sorted (λ a b. is_before a b) (text_order (λ s. s)) (answers_always _ _ _ (λ f a r g h. search rules)))
