-- Operands that only read have an order.
use Rattle.std.proofs.Common.{◌≡◌, ◌⊎◌, inl, inr, ℕ, zero, suc, ◌<◌, Bool, true, false, List, [], ◌∷◌, length, refl, sym, ap, ◌∙◌, arith}
use Rattle.std.specs.Prelude.{get_or, ◌&&◌}
use Rattle.std.specs.List.{list_all, list_any, Contains}
use Rattle.std.proofs.lemmas.Bool.{false≢true}
use Rattle.c_core.specs.declared.tree.Object.{Object}
use Rattle.check_sequencing.specs.declared.effect.Effect.{Effect}
use Rattle.check_sequencing.specs.declared.effect.Effect.TheVariants as does
use Rattle.check_sequencing.specs.Effects.{AreUnsequenced, Changes, IsCallThatDoes, Meets, OneOf, Through, changes, is_quiet, is_read}
use Rattle.check_sequencing.proofs.Lists.{all_of}
use Rattle.check_sequencing.proofs.ClashLaws.{one_that_passes, unsequenced_is_met}

module _ (bodies : List (List Effect)) (objects : List Object) where
  pub unchanged : (es : List Effect) (o : ℕ) → is_quiet es ≡ true → Changes bodies objects o es → ⊥
  unchanged es o q (inl d) = let e = one_that_passes (changes o) es d in change e.effect e.holds (all_of is_read es e.effect e.among q)
    where
      change : (e : Effect) → changes o e ≡ true → is_read e ≡ true → ⊥
      change (does.Reads n) c r = false≢true c
      change (does.Changes n) c r = false≢true r
      change (does.Calls k) c r = false≢true r
  unchanged es o q (inr t) = call t.effect t.holds (all_of is_read es t.effect t.among q)
    where
      call : (e : Effect) → IsCallThatDoes bodies objects changes o e → is_read e ≡ true → ⊥
      call (does.Reads n) c r = c
      call (does.Changes n) c r = c
      call (does.Calls k) c r = false≢true r

  pub quiet_is_ordered : (es fs : List Effect) → is_quiet es ≡ true → is_quiet fs ≡ true → AreUnsequenced bodies objects es fs → ⊥
  quiet_is_ordered es fs p q u = let o = unsequenced_is_met bodies objects es fs u in met o.effect o.holds (all_of is_read fs o.effect o.among q)
    where
      met : (e : Effect) → Meets bodies objects es e → is_read e ≡ true → ⊥
      met (does.Reads n) m r = unchanged es n p m
      met (does.Changes n) m r = false≢true r
      met (does.Calls k) m r = false≢true r
