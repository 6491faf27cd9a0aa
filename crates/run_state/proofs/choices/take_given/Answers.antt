use Rattle.std.proofs.Common.{refl}
use Rattle.run_state.specs.declared.machine.LeftAt.{LeftAt}
use Rattle.run_state.proofs.Drawing.{at_none, after_none, at_first, after_first}
use Rattle.run_state.proofs.choices.take_given.Goals as goal

pub returns-in-Some-clause-value : goal.returns-in-Some-clause-value
returns-in-Some-clause-value c =
    let left : LeftAt = record { spot = c.index_mut.result.now.spot; values = c.pop.new.self } in
    at_first c.args.spot c.args.givens.now.items c.in-Some.at c.index_mut.result.now left c.pop.result
    (rw c.deref.ensures.value at c.in-Some.ensures) c.index_mut.ensures.value c.pop.ensures.items c.pop.ensures.cases

pub returns-in-Some-clause-left : goal.returns-in-Some-clause-left
returns-in-Some-clause-left c =
    let left : LeftAt = record { spot = c.index_mut.result.now.spot; values = c.pop.new.self } in
    after_first c.args.spot c.args.givens.now.items c.in-Some.at c.index_mut.result.now left c.pop.result
    (rw c.deref.ensures.value at c.in-Some.ensures) c.index_mut.ensures.value c.pop.ensures.items c.pop.ensures.cases refl

pub returns-in-None-clause-value : goal.returns-in-None-clause-value
returns-in-None-clause-value c = at_none c.args.spot c.args.givens.now.items (rw c.deref.ensures.value at c.in-None.ensures)

pub returns-in-None-clause-left : goal.returns-in-None-clause-left
returns-in-None-clause-left c = after_none c.args.spot c.args.givens.now.items (rw c.deref.ensures.value at c.in-None.ensures)
