use Rattle.std.proofs.Common.{◌<◌, not, refl, arith, length}
use Rattle.clauses.proofs.Nodes.{and_arguments}
use Rattle.clauses.proofs.Listed.{variable_small}
use Rattle.clauses.proofs.Pushed.{told, literal_passed, number_passed, joins_at, constant_pushed, input_pushed, unflagged_pushed, flagged_pushed}
use Rattle.clauses.proofs.cnf.push_node.Goals as goal

pub number-requires : goal.number-requires
number-requires c =
    let r = c.requires in
    omega (arith, r.numbered.is c.args.at r.within, variable_small c.args.flags.now c.args.net.now c.nodes.ensures.fine r.room c.args.at r.within)

pub one-requires : goal.one-requires
one-requires c =
    let r = c.requires in
    number_passed c.args.flags.now c.args.net.now c.nodes.ensures.fine r.room r.numbered c.args.at r.within (not c.in-Constant.c) _ refl c.number.ensures

pub bounds-numbers-a : goal.bounds-numbers-a
bounds-numbers-a c =
    let r = c.requires in
    let k = and_arguments _ c.nodes.ensures.fine c.args.at c.in-And.a c.in-And.b r.within (told _ c.args.at _ c.node.ensures c.in-And.is) in
    omega (arith, r.numbered.many, k.left.1)

pub bounds-numbers-b : goal.bounds-numbers-b
bounds-numbers-b c =
    let r = c.requires in
    let k = and_arguments _ c.nodes.ensures.fine c.args.at c.in-And.a c.in-And.b r.within (told _ c.args.at _ c.node.ensures c.in-And.is) in
    omega (arith, r.numbered.many, k.right.1)

pub number-left-requires : goal.number-left-requires
number-left-requires c =
    let r = c.requires in
    let k = and_arguments _ c.nodes.ensures.fine c.args.at c.in-And.a c.in-And.b r.within (told _ c.args.at _ c.node.ensures c.in-And.is) in
    let lt : c.in-And.a.node < length c.args.net.now = omega (arith, k.left.1) in
    omega (arith, r.numbered.is c.in-And.a.node lt, variable_small c.args.flags.now c.args.net.now c.nodes.ensures.fine r.room c.in-And.a.node lt)

pub number-right-requires : goal.number-right-requires
number-right-requires c =
    let r = c.requires in
    let k = and_arguments _ c.nodes.ensures.fine c.args.at c.in-And.a c.in-And.b r.within (told _ c.args.at _ c.node.ensures c.in-And.is) in
    let lt : c.in-And.b.node < length c.args.net.now = omega (arith, k.right.1) in
    omega (arith, r.numbered.is c.in-And.b.node lt, variable_small c.args.flags.now c.args.net.now c.nodes.ensures.fine r.room c.in-And.b.node lt)

pub push_gate-requires : goal.push_gate-requires
push_gate-requires c =
    let r = c.requires in
    let fine = c.nodes.ensures.fine in
    let q = told _ c.args.at _ c.node.ensures c.in-And.is in
    let k = and_arguments _ fine c.args.at c.in-And.a c.in-And.b r.within q in
    joins_at c.args.flags.now c.args.net.now fine r.closed r.room c.args.at c.in-And.a c.in-And.b r.within q c.if-flags-at.true (r.numbered.is c.args.at r.within)
    (literal_passed c.args.flags.now c.args.net.now fine r.room r.numbered c.in-And.a.node (omega (arith, k.left.1)) c.in-And.a.negated _ refl c.number-left.ensures)
    (literal_passed c.args.flags.now c.args.net.now fine r.room r.numbered c.in-And.b.node (omega (arith, k.right.1)) c.in-And.b.negated _ refl c.number-right.ensures)

pub returns-in_ok-push-in-Constant : goal.returns-in_ok-push-in-Constant
returns-in_ok-push-in-Constant c =
    let r = c.requires in
    constant_pushed _ c.args.flags.now c.args.net.now c.args.at c.in-Constant.c _ (told _ c.args.at _ c.node.ensures c.in-Constant.is) c.in_ok-push-in-Constant.ensures.ok c.one.ensures
    (literal_passed c.args.flags.now c.args.net.now c.nodes.ensures.fine r.room r.numbered c.args.at r.within (not c.in-Constant.c) _ refl c.number.ensures)

pub returns-in-Input : goal.returns-in-Input
returns-in-Input c = input_pushed _ c.args.flags.now c.args.net.now c.args.at _ (told _ c.args.at _ c.node.ensures c.in-Input.is)

pub returns-in_ok-push_gate-in-And : goal.returns-in_ok-push_gate-in-And
returns-in_ok-push_gate-in-And c =
    let r = c.requires in
    let fine = c.nodes.ensures.fine in
    let q = told _ c.args.at _ c.node.ensures c.in-And.is in
    let k = and_arguments _ fine c.args.at c.in-And.a c.in-And.b r.within q in
    flagged_pushed _ c.args.flags.now c.args.net.now c.args.at c.in-And.a c.in-And.b q c.if-flags-at.true (r.numbered.is c.args.at r.within)
    (literal_passed c.args.flags.now c.args.net.now fine r.room r.numbered c.in-And.a.node (omega (arith, k.left.1)) c.in-And.a.negated _ refl c.number-left.ensures)
    (literal_passed c.args.flags.now c.args.net.now fine r.room r.numbered c.in-And.b.node (omega (arith, k.right.1)) c.in-And.b.negated _ refl c.number-right.ensures)
    c.in_ok-push_gate-in-And.ensures

pub returns-else-flags-at : goal.returns-else-flags-at
returns-else-flags-at c = unflagged_pushed _ c.args.flags.now c.args.net.now c.args.at c.in-And.a c.in-And.b (told _ c.args.at _ c.node.ensures c.in-And.is) c.if-flags-at.false
