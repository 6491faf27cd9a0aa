use Rattle.c_core.specs.View.{program_view}
use Rattle.c_meaning.specs.Placing.{placed_view}
use Rattle.wv_cert.proofs.Obliged.{certified, numbered, small}
use Rattle.wv_cert.proofs.rechecking.recheck.Goals as goal

pub recheck_bits-requires : goal.recheck_bits-requires
recheck_bits-requires c =
    let p = program_view c.args.program.now in
    let I = placed_view c.args.invariants.now in
    record {
      bits_in = c.requires.promised.2.failing_in;
      room = small p I c.args.obligations.now c.requires.promised c.nodes.ensures.fine;
      numbered = numbered p I c.args.obligations.now c.requires.promised;
    }

pub returns-clause-sound : goal.returns-clause-sound
returns-clause-sound c =
    let p = program_view c.args.program.now in
    let I = placed_view c.args.invariants.now in
    certified p I c.args.obligations.now c.in_ok-answer.answer c.requires.promised
    (λ h. c.runs_are_lifted.ensures p c.args.program.now.checked c.requires.straight I h) c.in_ok-answer.ensures.sound
