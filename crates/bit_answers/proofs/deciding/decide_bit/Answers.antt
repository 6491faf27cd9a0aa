use Rattle.std.proofs.Common.{◌∙◌, subst}
use Rattle.sat_core.specs.Answers.{IsAnswer}
use Rattle.bit_answers.proofs.Found.{constant_is, refuted_never}
use Rattle.bit_answers.specs.Deciding.{inputs_of}
use Rattle.bit_answers.proofs.deciding.decide_bit.Goals as goal

pub returns-then-not-bit : goal.returns-then-not-bit
returns-then-not-bit c = constant_is c.args.net.now c.args.bit (inputs_of c.new.result) c.nodes.ensures.fine c.if-bit-eq0.true ∙ c.if-not-bit.true

pub returns-in-Refuted : goal.returns-in-Refuted
returns-in-Refuted c =
    let k = c.in_ok-clauses.clauses in
    let right = subst (IsAnswer k.variables k.clauses c.args.conflicts) c.in-Refuted.is c.in_ok-values.ensures in
    record {
      never = refuted_never c.args.net.now c.args.bit c.in_ok-clauses.ensures.fulfils k.within right.refutes;
      refutes = record { variables = k.variables; clauses = k.clauses; are = c.in_ok-clauses.ensures.exact; refuted = right.refutes };
      short = record { few = right.few; once = right.once };
    }
