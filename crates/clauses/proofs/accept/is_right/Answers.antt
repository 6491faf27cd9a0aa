use Rattle.std.proofs.Common.{◌∙◌, ◌++◌, ap, refl, map, unsigned_abs}
use Rattle.clauses.specs.Table.{written}
use Rattle.clauses.proofs.Chains.{left_at, none_left, clause_fits, when_resolved, when_refused, reached_first, reached_next, no_clause, no_resolvent, at_end}
use Rattle.clauses.proofs.accept.is_right.Goals as goal

pub loop-step-init : goal.loop-step-init
loop-step-init c =
    let same = c.numbers.ensures.same in
    reached_first _ c.args.chain.now c.args.cells.now c.add.new.cells c.new-touched.result.items c.add.new.touched.items c.in-Some.first.now c.requires.clear c.numbers.ensures.fine
    (clause_fits c.args.cells.now c.args.cells.now _ c.args.chain.now.start c.in-Some.first.now c.in-Some.first.now c.requires.within c.in-Some.ensures refl refl)
    c.in-Some.ensures c.new-touched.ensures.items
    (c.in_ok-add.ensures.cells ∙ ap (written c.args.cells.now) same) (c.in_ok-add.ensures.touched ∙ ap (λ l. c.new-touched.result.items ++ map unsigned_abs l) same)

pub returns-in_default-clause_at : goal.returns-in_default-clause_at
returns-in_default-clause_at c =
    no_clause _ c.args.chain.now c.loop-step.cells c.loop-step.touched.items c.loop-step.step-index _ _ (left_at _ _ _ (record { with = 0; on = 0 }) c.as_slice-step-items.ensures c.loop-step-test.true) c.in_default-clause_at.ensures c.loop-step.invariant

pub resolve-requires-clause-within : goal.resolve-requires-clause-within
resolve-requires-clause-within c =
    clause_fits c.args.cells.now c.loop-step.cells _ _ c.in-Some-clause_at.clause.now _ c.requires.within c.in-Some-clause_at.ensures c.numbers-in-loop-step.ensures.same (c.loop-step.auto.cells ∙ c.add.auto.cells)

pub returns-then-not-resolved : goal.returns-then-not-resolved
returns-then-not-resolved c =
    no_resolvent _ c.args.chain.now c.loop-step.cells c.loop-step.touched.items c.loop-step.step-index _ _ c.in-Some-clause_at.clause.now (left_at _ _ _ (record { with = 0; on = 0 }) c.as_slice-step-items.ensures c.loop-step-test.true) c.in-Some-clause_at.ensures
    c.loop-step.invariant
    (when_refused c.in_ok-resolved.resolved c.loop-step.cells c.resolve.new.cells c.loop-step.touched.items c.resolve.new.touched.items _ _ _ c.if-not-resolved.true c.numbers-in-loop-step.ensures.same c.in_ok-resolved.ensures c.loop-step.invariant.now c.loop-step.invariant.holds)

pub loop-step-preserved : goal.loop-step-preserved
loop-step-preserved c =
    reached_next _ c.args.chain.now c.loop-step.cells c.resolve.new.cells c.loop-step.touched.items c.resolve.new.touched.items c.loop-step.step-index _ _ c.in-Some-clause_at.clause.now
    (left_at _ _ _ (record { with = 0; on = 0 }) c.as_slice-step-items.ensures c.loop-step-test.true) refl c.in-Some-clause_at.ensures c.loop-step.invariant
    (when_resolved c.in_ok-resolved.resolved c.loop-step.cells c.resolve.new.cells c.loop-step.touched.items c.resolve.new.touched.items _ _ _ c.if-not-resolved.false c.numbers-in-loop-step.ensures.same c.in_ok-resolved.ensures c.loop-step.invariant.now c.loop-step.invariant.holds)

pub returns : goal.returns
returns c =
    at_end _ c.args.chain.now c.args.cells.now c.loop-step.cells c.matches_clause-same.new.cells c.loop-step.touched.items _ _ c.loop-step.step-index c.matches_clause-same.result (none_left _ _ _ c.as_slice-step-items.ensures c.loop-step-test.false)
    (c.loop-step.auto.cells ∙ c.add.auto.cells) c.as_slice.ensures.value c.numbers-2.ensures.same c.loop-step.invariant c.matches_clause-same.ensures
