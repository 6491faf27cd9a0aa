use Rattle.std.proofs.Common.{subst, rules, Bool}
use Rattle.std.specs.List.Sorted.{IsSortedBy, IsStableBy}
use Rattle.std.proofs.lemmas.List.Sorted.{answers_always}
use Rattle.c_meaning.specs.declared.run.Duty.{Duty}
use Rattle.c_duties.proofs.Order.{key, before_is_less}
use Rattle.c_duties.proofs.Stable.{stable_is_sorted}
use Rattle.c_duties.proofs.sorting.sort.Goals as goal

pub returns : goal.returns
returns c =
    stable_is_sorted _ _
    (subst (λ (lt : Duty → Duty → Bool). IsSortedBy lt c.sort_by_key.new.self.items) before_is_less (c.in_ok-sort_by_key.ensures.sorted key (answers_always _ _ _ (λ f a r g h. search rules))))
    (subst (λ (lt : Duty → Duty → Bool). IsStableBy lt c.args.list.now.items c.sort_by_key.new.self.items) before_is_less (c.in_ok-sort_by_key.ensures.stable key (answers_always _ _ _ (λ f a r g h. search rules))))
