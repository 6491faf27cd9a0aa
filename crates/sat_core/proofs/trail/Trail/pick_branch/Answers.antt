use Rattle.std.proofs.Common.{◌≡◌, ℕ, ◌∙◌, ap, subst, Some, refl, arith, length, inl, inr}
use Rattle.std.proofs.lemmas.Bool.{cases_lt}
use Rattle.std.proofs.lemmas.Option.{slice_get_read}
use Rattle.sat_core.specs.Trail.{HasValue}
use Rattle.sat_core.proofs.Table.{value_of}
use Rattle.sat_core.proofs.trail.Trail.pick_branch.Goals as goal

pub loop-variable-preserved : goal.loop-variable-preserved
loop-variable-preserved c = λ v real lt.
    let t = c.args.self.now.entries.items in
    let values = c.args.self.now.values.items in
    elim (cases_lt v c.loop-variable.variable) as (λ _. HasValue t (length t) v) [
      | inl l ↦ c.loop-variable.invariant v real l
      | inr g ↦ let same : c.loop-variable.variable ≡ v = omega arith in
          subst (λ (u : ℕ). HasValue t (length t) u) same
          (value_of t c.loop-variable.variable c.in-Some.field-0 (c.requires.told.from c.loop-variable.variable c.in-Some.field-0 (slice_get_read values _ c.loop-variable.variable c.index.result.now refl (omega arith) c.index.ensures ∙ ap Some c.in-Some.is)))
    ]
