use Rattle.std.proofs.Common.{length, sym, ◌∙◌, subst, ap, arith}
use Rattle.std.specs.List.{All}
use Rattle.c_core.specs.View.{program_view}
use Rattle.circuits.specs.Net.{IsIn}
use Rattle.seek_events.specs.Events.{AreAfter, IsHere}
use Rattle.sym_state.proofs.Nets.{longer_by}
use Rattle.way_match.specs.View.{each_segment_view}
use Rattle.seek_passes.specs.Charges.{segments_weight, told_weight}
use Rattle.seek_passes.proofs.Kept.{can_less}
use Rattle.seek_passes.proofs.Several.{segments_length}
use Rattle.seek_passes.proofs.Told.{level_before, one_each, told}
use Rattle.seek_passes.proofs.telling.tell.Goals as goal

pub passes_segments-requires-clause-ready : goal.passes_segments-requires-clause-ready
passes_segments-requires-clause-ready c =
    let p = program_view c.args.program.now in
    let ss = each_segment_view c.args.segments.now in
    can_less (told_weight p c.args.event.now ss) (segments_weight p c.args.event.now ss) c.requires.ready (omega arith)

pub after-requires-clause-here_in : goal.after-requires-clause-here_in
after-requires-clause-here_in c = c.in_ok-passings.ensures.turned.fits.live

pub after-requires-clause-passings_in : goal.after-requires-clause-passings_in
after-requires-clause-passings_in c = subst (λ xs. All (IsHere c.passes_segments.new.sym.net) xs) (sym c.as_slice.ensures.value) c.in_ok-passings.ensures.here

pub after-requires-clause-completed_in : goal.after-requires-clause-completed_in
after-requires-clause-completed_in c = subst (λ xs. All (IsIn c.passes_segments.new.sym.net) xs) (sym c.as_slice-2.ensures.value) c.in_ok-passings.ensures.turned.fits.completed

pub after-requires-clause-same : goal.after-requires-clause-same
after-requires-clause-same c =
    let p = program_view c.args.program.now in
    let ss = each_segment_view c.args.segments.now in
    omega (arith, ap length c.as_slice.ensures.value, ap length c.as_slice-2.ensures.value, level_before p ss c.args.event.now c.in_ok-passings.ensures, one_each p ss c.args.event.now c.in_ok-passings.ensures, c.requires.one_each, segments_length c.args.segments.now)

pub after-requires-clause-room : goal.after-requires-clause-room
after-requires-clause-room c =
    let p = program_view c.args.program.now in
    let ss = each_segment_view c.args.segments.now in
    omega (arith, ap length c.as_slice.ensures.value, one_each p ss c.args.event.now c.in_ok-passings.ensures, c.requires.ready.room, (longer_by c.in_ok-passings.ensures.turned.added).1)

pub returns : goal.returns
returns c =
    let p = program_view c.args.program.now in
    let ss = each_segment_view c.args.segments.now in
    let b = c.passes_segments.new.sym in
    let one = subst (λ xs. AreAfter b.net c.after.new.net b.live xs c.as_slice-2.result.now c.in_ok-completed.completed.items) c.as_slice.ensures.value c.in_ok-completed.ensures in
    let two = subst (λ bs. AreAfter b.net c.after.new.net b.live c.in_ok-passings.passings.items bs c.in_ok-completed.completed.items) c.as_slice-2.ensures.value one in
    told p ss c.args.event.now c.args.sym.now b c.after.new.net c.in_ok-passings.passings.items c.in_ok-completed.completed c.in_ok-passings.ensures two (c.requires.one_each ∙ sym (segments_length c.args.segments.now)) (c.events_are_followed.ensures p ss)
