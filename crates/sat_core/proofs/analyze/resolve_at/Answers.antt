use Rattle.std.proofs.Common.{◌≡◌, ℕ, ◌<◌, ◌+◌, sym, ◌∙◌, ap, subst, refl, arith, length, Some, List, false, ℤ, ◌-◌}
use Rattle.std.specs.Prelude.{slice_get, slice_set}
use Rattle.std.proofs.lemmas.Bool.{both_ways}
use Rattle.std.proofs.lemmas.Option.{slice_get_read, slice_get_within, same_Some}
use Rattle.clauses.specs.declared.log.Resolve.{Resolve}
use Rattle.sat_newness.specs.Clauses.{clauses_of}
use Rattle.sat_core.specs.Trail.{number, Implied, AreNumbersOf}
use Rattle.sat_core.specs.Derived.{IsAnalyzed, AreMarked}
use Rattle.sat_core.proofs.Kept.{implied_of}
use Rattle.sat_core.proofs.Scans.{one_numbers, clauses_many}
use Rattle.sat_core.proofs.Running.{analyzed_passed, analyzed_step}
use Rattle.sat_core.proofs.analyze.resolve_at.Goals as goal

pub bounds-seen-entry : goal.bounds-seen-entry
bounds-seen-entry c =
    let i : slice_get c.args.trail.now.entries.items c.args.at ≡ Some c.index-entry.result.now = slice_get_read c.args.trail.now.entries.items _ c.args.at c.index-entry.result.now refl c.requires.within c.index-entry.ensures in
    let lt : c.index-entry.result.now.variable < length c.args.trail.now.values.items = (c.requires.state.trail.each c.args.at c.index-entry.result.now i).within in
    omega (arith, c.requires.sized)

pub returns-then-not-seen-entry : goal.returns-then-not-seen-entry
returns-then-not-seen-entry c = λ start h.
    let e = c.index-entry.result.now in
    let i : slice_get c.args.trail.now.entries.items c.args.at ≡ Some e = slice_get_read c.args.trail.now.entries.items _ c.args.at e refl c.requires.within c.index-entry.ensures in
    analyzed_passed _ _ c.args.trail.now.entries.items start c.args.at c.args.steps.now.items c.args.seen.now e i (λ f. absurd (both_ways _ c.if-not-seen-entry.true f)) h

pub clause_at-requires : goal.clause_at-requires
clause_at-requires c =
    let F = clauses_of c.args.given.now c.args.chains.now in
    let e = c.index-entry.result.now in
    let i : slice_get c.args.trail.now.entries.items c.args.at ≡ Some e = slice_get_read c.args.trail.now.entries.items _ c.args.at e refl c.requires.within c.index-entry.ensures in
    let m = implied_of F _ _ c.requires.state.trail c.args.at e c.in-Some.reason i c.in-Some.is in
    omega (arith, slice_get_within F c.in-Some.reason m.clause m.named, clauses_many c.args.given.now c.args.chains.now)

pub mark-requires : goal.mark-requires
mark-requires c =
    let F = clauses_of c.args.given.now c.args.chains.now in
    one_numbers _ F c.in-Some.reason c.clause_at.result.now (subst (λ (k : ℕ). AreNumbersOf k F) (sym c.requires.sized) c.requires.state.numbers) c.clause_at.ensures

pub overflow_add-reason : goal.overflow_add-reason
overflow_add-reason c =
    let F = clauses_of c.args.given.now c.args.chains.now in
    omega (arith, slice_get_within F c.in-Some.reason c.clause_at.result.now c.clause_at.ensures, clauses_many c.args.given.now c.args.chains.now, c.requires.few, c.requires.few_more)

pub returns-in-None : goal.returns-in-None
returns-in-None c = λ start h.
    let e = c.index-entry.result.now in
    let i : slice_get c.args.trail.now.entries.items c.args.at ≡ Some e = slice_get_read c.args.trail.now.entries.items _ c.args.at e refl c.requires.within c.index-entry.ensures in
    analyzed_passed _ _ c.args.trail.now.entries.items start c.args.at c.args.steps.now.items c.args.seen.now e i (λ f. c.in-None.is) h

pub returns-in_ok-push-in-Some : goal.returns-in_ok-push-in-Some
returns-in_ok-push-in-Some c = λ start h.
    let F = clauses_of c.args.given.now c.args.chains.now in
    let size = length c.args.trail.now.values.items in
    let t = c.args.trail.now.entries.items in
    let e = c.index-entry.result.now in
    let r = c.in-Some.reason in
    let i : slice_get t c.args.at ≡ Some e = slice_get_read t _ c.args.at e refl c.requires.within c.index-entry.ensures in
    let m : Implied F t c.args.at (number e) r = implied_of F size t c.requires.state.trail c.args.at e r i c.in-Some.is in
    let same : c.clause_at.result.now ≡ m.clause = same_Some c.clause_at.result.now m.clause (sym c.clause_at.ensures ∙ m.named) in
    let s : Resolve = record { with = r + 1; on = e.variable } in
    let back : r + 1 - 1 ≡ r = omega arith in
    let long : length c.mark.new.seen ≡ size = c.mark.auto.seen ∙ c.requires.sized in
    let marks : AreMarked c.args.seen.now m.clause c.mark.new.seen = subst (λ (l : List ℤ). AreMarked c.args.seen.now l c.mark.new.seen) same c.mark.ensures in
    subst (λ (ss : List Resolve). IsAnalyzed F size t start c.args.at ss (slice_set c.mark.new.seen e.variable false)) (sym c.in_ok-push-in-Some.ensures.items)
    (analyzed_step F size t c.requires.state.trail c.requires.state.numbers start c.args.at c.args.steps.now.items c.args.seen.now c.mark.new.seen e s m.clause i c.if-not-seen-entry.false refl (omega arith, ap (slice_get F) back ∙ m.named) m.held m.others long marks h)
