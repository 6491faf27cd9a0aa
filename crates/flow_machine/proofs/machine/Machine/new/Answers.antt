use Rattle.std.proofs.Common.{[], refl, arith}
use Rattle.flow_machine.proofs.Advancing.{begun, begun_in_order}
use Rattle.flow_machine.proofs.machine.Machine.new.Goals as goal

pub invariant_of-result : goal.invariant_of-result
invariant_of-result c = record {
  paced = c.code.invariant;
  at_rest = λ whole. record {
    told = [];
    rests = begun c.code.inside.operations c.args.choices.now _ (rw (c.new.ensures.items, c.new-2.ensures.items, c.new-3.ensures.items, c.new-4.ensures.items, c.in_ok-memory.ensures, c.in_ok-left.ensures));
  };
  in_order = λ whole none. begun_in_order c.code.inside.operations c.args.choices.now _ (rw (c.new.ensures.items, c.new-2.ensures.items, c.new-3.ensures.items, c.new-4.ensures.items, c.in_ok-memory.ensures, c.in_ok-left.ensures));
  reached = λ whole none. (0, rw (c.new.ensures.items, c.new-2.ensures.items, c.new-3.ensures.items) refl);
  counted = λ whole none. omega arith;
  room = λ reserved. absurd (cc);
}
