use Rattle.std.proofs.Common.{rules}
use Rattle.std.proofs.lemmas.List.Sorted.{answers_always}
use Rattle.c_core.specs.TextOrder.{is_before}
use Rattle.way_places.proofs.TextLaws.{first_stable, follow_sorted, text_order}
use Rattle.way_places.proofs.order.sort_by_spot.Goals as goal

pub returns-clause-ordered : goal.returns-clause-ordered
returns-clause-ordered g c =
    follow_sorted (λ e. e.0) _ (c.in_ok-sort_by.ensures.sorted (λ a b. is_before a.0 b.0) (text_order (λ e. e.0)) (answers_always _ _ _ (λ f a r h k. search rules)))

pub returns-clause-same : goal.returns-clause-same
returns-clause-same g c =
    first_stable _ _ (c.sort_by.ensures.stable (λ a b. is_before a.0 b.0) (text_order (λ e. e.0)) (answers_always _ _ _ (λ f a r h k. search rules)))
