use Rattle.std.proofs.Common.{◌≡◌, ℕ, ◌<◌, ◌+◌, ◌-◌, sym, ◌∙◌, ap, subst, arith, length, replicate, List, Bool, false, ℤ, vec_len, rules}
use Rattle.std.proofs.lemmas.List.{length-replicate}
use Rattle.std.proofs.lemmas.Option.{same_Some}
use Rattle.clauses.specs.declared.log.Resolve.{Resolve}
use Rattle.sat_newness.specs.Clauses.{clauses_of}
use Rattle.sat_core.specs.Trail.{AreNumbersOf}
use Rattle.sat_core.specs.Derived.{IsAnalyzed, AreMarked}
use Rattle.sat_core.proofs.Scans.{one_numbers}
use Rattle.sat_core.proofs.Flags.{lent, none_flagged}
use Rattle.sat_core.proofs.Running.{analyzed_first}
use Rattle.sat_core.proofs.analyze.analyze.Goals as goal

pub mark-requires : goal.mark-requires
mark-requires c =
    let F = clauses_of c.args.given.now c.args.chains.now in
    let items : c.deref_mut.result.now ≡ c.in_ok-seen.seen.items = c.deref_mut.ensures.value in
    let count : c.len.result ≡ length c.args.trail.now.values.items = search rules in
    let size : length c.deref_mut.result.now ≡ length c.args.trail.now.values.items = ap length items ∙ ap length c.in_ok-seen.ensures ∙ length-replicate c.len.result false ∙ count in
    one_numbers _ F c.args.conflict c.clause_at.result.now (subst (λ (k : ℕ). AreNumbersOf k F) (sym size) c.requires.state.numbers) c.clause_at.ensures

pub loop-back-init : goal.loop-back-init
loop-back-init c =
    let F = clauses_of c.args.given.now c.args.chains.now in
    let t = c.args.trail.now.entries.items in
    let size = length c.args.trail.now.values.items in
    let count : c.len.result ≡ size = search rules in
    let items : c.deref_mut.result.now ≡ c.in_ok-seen.seen.items = c.deref_mut.ensures.value in
    let k = c.requires.conflict in
    let same : c.clause_at.result.now ≡ k.clause = same_Some c.clause_at.result.now k.clause (sym c.clause_at.ensures ∙ k.named) in
    let unseen : c.in_ok-seen.seen.items ≡ replicate c.len.result false = c.in_ok-seen.ensures in
    let marks : AreMarked (replicate c.len.result false) k.clause c.mark.new.seen = subst (λ (l : List ℤ). AreMarked (replicate c.len.result false) l c.mark.new.seen) same (subst (λ (l : List Bool). AreMarked l c.clause_at.result.now c.mark.new.seen) (items ∙ unseen) c.mark.ensures) in
    let long : length c.mark.new.seen ≡ size = c.mark.auto.seen ∙ ap length (items ∙ unseen) ∙ length-replicate c.len.result false ∙ count in
    let held : vec_len c.in_ok-seen.seen ≡ length c.in_ok-seen.seen.items = search rules in
    let back = lent (vec_len c.in_ok-seen.seen) c.in_ok-seen.seen.items c.mark.new.seen held (c.mark.auto.seen ∙ ap length items) in
    let start : length t - 0 ≡ length t = omega arith in
    subst (λ (l : List Bool). IsAnalyzed F size t c.args.conflict (length t - 0) c.new-steps.result.items l) (sym back)
    (subst (λ (n : ℕ). IsAnalyzed F size t c.args.conflict n c.new-steps.result.items c.mark.new.seen) (sym start)
    (subst (λ (ss : List Resolve). IsAnalyzed F size t c.args.conflict (length t) ss c.mark.new.seen) (sym c.new-steps.ensures.items)
    (analyzed_first F size t c.requires.state.numbers c.args.conflict k (replicate c.len.result false) c.mark.new.seen (none_flagged c.len.result) long c.requires.state.trail marks)))

pub loop-back-preserved : goal.loop-back-preserved
loop-back-preserved c =
    let F = clauses_of c.args.given.now c.args.chains.now in
    let t = c.args.trail.now.entries.items in
    let size = length c.args.trail.now.values.items in
    let b = c.loop-back.back in
    let items : c.deref_mut-in-loop-back.result.now ≡ c.loop-back.seen.items = c.deref_mut-in-loop-back.ensures.value in
    let count : c.len-count.result ≡ length t = search rules in
    let lt : b < c.len-count.result = c.loop-back-test.true in
    let e1 : c.len-count.result - 1 - b + 1 ≡ length t - b = omega arith in
    let e2 : c.len-count.result - 1 - b ≡ length t - (b + 1) = omega arith in
    let held : vec_len c.loop-back.seen ≡ length c.loop-back.seen.items = search rules in
    let put = lent (vec_len c.loop-back.seen) c.loop-back.seen.items c.resolve_at.new.seen held (c.resolve_at.auto.seen ∙ ap length items) in
    subst (λ (l : List Bool). IsAnalyzed F size t c.args.conflict (length t - (b + 1)) c.resolve_at.new.steps.items l) (sym put)
    (subst (λ (n : ℕ). IsAnalyzed F size t c.args.conflict n c.resolve_at.new.steps.items c.resolve_at.new.seen) e2
    (c.in_ok-resolve_at.ensures c.args.conflict
    (subst (λ (n : ℕ). IsAnalyzed F size t c.args.conflict n c.loop-back.steps.items c.deref_mut-in-loop-back.result.now) (sym e1)
    (subst (λ (l : List Bool). IsAnalyzed F size t c.args.conflict (length t - b) c.loop-back.steps.items l) (sym items) c.loop-back.invariant))))
