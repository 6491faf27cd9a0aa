use Rattle.std.proofs.Common.{rules, arith, ◌≡◌, ◌+◌, true, false, ◌&&◌, suc, drop, length, is_none, ap, sym, ◌∙◌}
use Rattle.std.specs.Prelude.{slice_get}
use Rattle.c_core.specs.Typing
use Rattle.check_rules.specs.Codes.{same_lists}
use Rattle.check_scope.specs.Kinds.{types_in}
use Rattle.check_scope.proofs.AgreeLaws.{same_heads, same_ends}
use Rattle.check_scope.proofs.BodyLaws.{none_is}
use Rattle.check_scope.proofs.agreeing.same_types.Goals as goal

pub returns-then-not-same_result : goal.returns-then-not-same_result
returns-then-not-same_result c =
    let ts = types_in c.args.one in
    let us = types_in c.args.other in
    let i = c.loop-at.at in
    let differ : Typing.same_types (slice_get ts i) (slice_get us i) ≡ false = search rules in
    sym (c.loop-at.invariant ∙ same_heads i ts us ∙ ap (λ b. b && same_lists (drop (suc i) ts) (drop (suc i) us)) differ)

pub loop-at-preserved : goal.loop-at-preserved
loop-at-preserved c =
    let ts = types_in c.args.one in
    let us = types_in c.args.other in
    let i = c.loop-at.at in
    let same : Typing.same_types (slice_get ts i) (slice_get us i) ≡ true = search rules in
    let e : i + 1 ≡ suc i = omega arith in
    rw e (c.loop-at.invariant ∙ same_heads i ts us ∙ ap (λ b. b && same_lists (drop (suc i) ts) (drop (suc i) us)) same)

pub returns : goal.returns
returns c =
    let ts = types_in c.args.one in
    let us = types_in c.args.other in
    let n : c.loop-at.at ≡ c.count-count.result = omega (arith, c.loop-at-test.false, c.loop-at.auto.at-end) in
    let at : c.loop-at.at ≡ length ts = n ∙ c.count-count.ensures in
    let none = none_is c.type_at-2.result c.is_none.result c.is_none.ensures ∙ ap is_none (c.type_at-2.ensures ∙ ap (slice_get us) c.count-count.ensures) in
    none ∙ sym (c.loop-at.invariant ∙ ap (λ k. same_lists (drop k ts) (drop k us)) at ∙ same_ends ts us)
