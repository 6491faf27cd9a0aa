use Rattle.std.proofs.Common.{◌∙◌, true}
use Rattle.c_calls.specs.Loops.{loop_of}
use Rattle.c_core.specs.View.{form_view}
use Rattle.c_meaning.specs.Duties.{Duties}
use Rattle.sym_weight.specs.Weight.{placed_weight}
use Rattle.sym_invariants.specs.Obliged.{program_of, invariants_of}
use Rattle.sym_eval.proofs.Turns.{head_does, draws_room, assumed_room}
use Rattle.sym_eval.proofs.loops.head.Goals as goal

pub redraw-requires-clause-fits : goal.redraw-requires-clause-fits
redraw-requires-clause-fits c = c.in_ok-test_all.ensures.fits

pub redraw-requires-clause-room : goal.redraw-requires-clause-room
redraw-requires-clause-room c =
    let p = program_of c.args.obliged.now in
    let w = placed_weight p (invariants_of c.args.obliged.now) true c.args.at in
    draws_room p w (loop_of (form_view c.args.f.now)) c.as_slice.result.now (c.as_slice.ensures ∙ c.in_ok-changed.ensures) c.args.sym.now.net c.test_all.new.sym.net c.in_ok-test_all.ensures.added c.requires.room

pub assume_all-requires-clause-fits : goal.assume_all-requires-clause-fits
assume_all-requires-clause-fits c =
    let p = program_of c.args.obliged.now in
    let I = invariants_of c.args.obliged.now in
    (c.in_ok-redraw.ensures (Duties p I) I).fits

pub assume_all-requires-clause-room : goal.assume_all-requires-clause-room
assume_all-requires-clause-room c =
    let p = program_of c.args.obliged.now in
    let I = invariants_of c.args.obliged.now in
    let w = placed_weight p I true c.args.at in
    assumed_room p w (loop_of (form_view c.args.f.now)) c.as_slice.result.now (c.as_slice.ensures ∙ c.in_ok-changed.ensures) c.args.sym.now.net c.test_all.new.sym.net c.redraw.new.sym.net c.in_ok-test_all.ensures.added (c.in_ok-redraw.ensures (Duties p I) I).added c.requires.room

pub returns : goal.returns
returns c =
    let p = program_of c.args.obliged.now in
    let I = invariants_of c.args.obliged.now in
    head_does p I c.args.at (loop_of (form_view c.args.f.now)) c.as_slice.result.now (c.as_slice.ensures ∙ c.in_ok-changed.ensures) c.in_ok-test_all.ensures (c.in_ok-redraw.ensures (Duties p I) I) c.in_ok-assume_all.ensures
