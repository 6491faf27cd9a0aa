use Rattle.std.proofs.Common.{arith}
use Rattle.clauses.proofs.Listed.{variable_small}
use Rattle.clauses.proofs.Reached.{flags_closed}
use Rattle.clauses.proofs.Pushed.{number_passed}
use Rattle.clauses.proofs.Made.{describes, fulfils, propagates, few, within, numbered_by, number_read, clauses_of}
use Rattle.clauses.proofs.cnf.cnf_of.Goals as goal

pub listed-requires-clause-closed : goal.listed-requires-clause-closed
listed-requires-clause-closed c = rw c.deref-2.ensures.value (flags_closed c.nodes.ensures.fine c.in_ok-flags.ensures)

pub number-last-requires : goal.number-last-requires
number-last-requires c =
    let m = numbered_by c.deref.ensures.value c.in_ok-numbered.ensures in
    let k = number_read c.in_ok-numbered.numbered.numbers.items c.args.bit.node c.index.ensures (omega (arith, m.each.many, c.requires.bit_in)) in
    omega (arith, k, m.each.is c.args.bit.node c.requires.bit_in, variable_small c.in_ok-flags.flags.items c.args.net.now c.nodes.ensures.fine c.requires.room c.args.bit.node c.requires.bit_in)

pub one-requires : goal.one-requires
one-requires c =
    let m = numbered_by c.deref.ensures.value c.in_ok-numbered.ensures in
    number_passed _ _ c.nodes.ensures.fine c.requires.room m.each c.args.bit.node c.requires.bit_in c.args.bit.negated _ (number_read c.in_ok-numbered.numbered.numbers.items c.args.bit.node c.index.ensures (omega (arith, m.each.many, c.requires.bit_in))) c.number-last.ensures

pub invariant_of-result : goal.invariant_of-result
invariant_of-result c =
    let made = clauses_of c.nodes.ensures.fine c.requires.room c.requires.bit_in c.in_ok-flags.ensures (numbered_by c.deref.ensures.value c.in_ok-numbered.ensures) c.deref-2.ensures.value c.in_ok-clauses.ensures c.in_ok-push.ensures.ok c.one.ensures c.number-last.ensures c.index.ensures in
    record { within = within c.nodes.ensures.fine c.requires.bit_in made }

pub returns-clause-exact : goal.returns-clause-exact
returns-clause-exact c =
    clauses_of c.nodes.ensures.fine c.requires.room c.requires.bit_in c.in_ok-flags.ensures (numbered_by c.deref.ensures.value c.in_ok-numbered.ensures) c.deref-2.ensures.value c.in_ok-clauses.ensures c.in_ok-push.ensures.ok c.one.ensures c.number-last.ensures c.index.ensures

pub returns-clause-few : goal.returns-clause-few
returns-clause-few c =
    few c.requires.room (clauses_of c.nodes.ensures.fine c.requires.room c.requires.bit_in c.in_ok-flags.ensures (numbered_by c.deref.ensures.value c.in_ok-numbered.ensures) c.deref-2.ensures.value c.in_ok-clauses.ensures c.in_ok-push.ensures.ok c.one.ensures c.number-last.ensures c.index.ensures)

pub returns-clause-describes : goal.returns-clause-describes
returns-clause-describes c =
    describes c.nodes.ensures.fine c.requires.bit_in (clauses_of c.nodes.ensures.fine c.requires.room c.requires.bit_in c.in_ok-flags.ensures (numbered_by c.deref.ensures.value c.in_ok-numbered.ensures) c.deref-2.ensures.value c.in_ok-clauses.ensures c.in_ok-push.ensures.ok c.one.ensures c.number-last.ensures c.index.ensures)

pub returns-clause-fulfils : goal.returns-clause-fulfils
returns-clause-fulfils c =
    fulfils c.nodes.ensures.fine c.requires.bit_in (clauses_of c.nodes.ensures.fine c.requires.room c.requires.bit_in c.in_ok-flags.ensures (numbered_by c.deref.ensures.value c.in_ok-numbered.ensures) c.deref-2.ensures.value c.in_ok-clauses.ensures c.in_ok-push.ensures.ok c.one.ensures c.number-last.ensures c.index.ensures)

pub returns-clause-propagates : goal.returns-clause-propagates
returns-clause-propagates c =
    propagates c.nodes.ensures.fine (clauses_of c.nodes.ensures.fine c.requires.room c.requires.bit_in c.in_ok-flags.ensures (numbered_by c.deref.ensures.value c.in_ok-numbered.ensures) c.deref-2.ensures.value c.in_ok-clauses.ensures c.in_ok-push.ensures.ok c.one.ensures c.number-last.ensures c.index.ensures)
