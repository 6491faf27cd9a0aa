use Rattle.std.proofs.Common.{arith}
use Rattle.circuits.proofs.Nets.{own, kept, grown_then, three}
use Rattle.circuits.proofs.Composing.{or_of, pick_of}
use Rattle.seek_events.proofs.Bits.{here_later, stays_kept}
use Rattle.seek_events.proofs.segment.segment_after.Goals as goal

pub stays-requires-clause-here : goal.stays-requires-clause-here
stays-requires-clause-here c = here_later c.args.passing c.in_ok-next.ensures.grown c.requires.passing_in

pub returns : goal.returns
returns c =
    let a = c.in_ok-next.ensures in
    let b = c.in_ok-stays.ensures in
    let d = c.in_ok-now.ensures in
    let e = c.in_ok-kept.ensures in
    let here = kept d.grown (kept b.grown (kept a.grown (own _ _ c.requires.here_in))) in
    let completed = kept d.grown (kept b.grown (kept a.grown (own _ _ c.requires.completed_in))) in
    let came = kept b.grown (kept a.grown (own _ _ c.requires.came_in)) in
    let stay = stays_kept _ _ _ c.args.passing c.args.completed _ a.grown c.requires.passing_in c.requires.completed_in b.value in
    record {
      grown = grown_then 5 3 8 _ _ _ (three 5 a.grown b.grown d.grown (omega arith)) e.grown (omega arith);
      completed = pick_of e.value here (or_of d.value stay came) completed;
      passed = kept e.grown (kept d.grown (kept b.grown a.value));
    }
