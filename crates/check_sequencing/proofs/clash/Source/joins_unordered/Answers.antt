use Rattle.std.proofs.Common.{subst, ◌∙◌}
use Rattle.check_sequencing.specs.Deciding.{Tells, bodies_of, objects_of}
use Rattle.check_sequencing.specs.Effects.{Meets, OneOf}
use Rattle.check_sequencing.specs.Walking.{AreUnsequencedBy}
use Rattle.check_sequencing.proofs.ClashLaws.{met_is_unsequenced, unsequenced_is_met}
use Rattle.check_sequencing.proofs.clash.Source.joins_unordered.Goals as goal

pub returns-clause-told : goal.returns-clause-told
returns-clause-told c =
    let s = c.args.self.now in
    let before = c.args.before.now.items in
    let es = c.in_ok-effects.effects.items in
    let met = subst (λ xs. Tells c.in_ok-told.told (OneOf (Meets (bodies_of s) (objects_of s) xs) es)) c.as_slice.ensures.value
    (subst (λ xs. Tells c.in_ok-told.told (OneOf (Meets (bodies_of s) (objects_of s) c.as_slice.result.now) xs)) c.as_slice-2.ensures.value c.in_ok-told.ensures.told) in
    subst (λ xs. Tells c.in_ok-told.told (AreUnsequencedBy s before xs)) c.in_ok-effects.ensures
    (λ h. met_is_unsequenced (bodies_of s) (objects_of s) before es (met.0 h), λ u. met.1 (unsequenced_is_met (bodies_of s) (objects_of s) before es u))
