use Rattle.std.proofs.Common.{◌≡◌, ℕ, Bool, ◌+◌, ◌-◌, ◌<◌, ◌≤◌, false, length, get_or, Option, sym, ◌∙◌, ap, arith}
use Rattle.c_core.specs.View.{program_view}
use Rattle.way_match.specs.inside.Turning.{assumes_at, outcome, seen_by, sighted}
use Rattle.way_match.specs.declared.point.BoundSegment.{BoundSegment}
use Rattle.way_match.proofs.Skips.{shares_free, shares_last}
use Rattle.way_match.proofs.Turn.{none_of}
use Rattle.way_match.proofs.Views.{assumes_of, segments_length}
use Rattle.way_match.proofs.states.States.carry.Goals as goal

pub returns-then-i-sight-clause-value : goal.returns-then-i-sight-clause-value
returns-then-i-sight-clause-value c =
    let l = segments_length c.args.sight.now.segments.now in
    let h : length (sighted c.args.sight.now) ≤ c.loop-came.i = omega (arith, l, c.if-i-sight.true) in
    shares_last (program_view c.args.sight.now.program.now) (seen_by c.args.sight.now) c.args.sight.now.count c.loop-came.self.nodes.items (sighted c.args.sight.now)
    c.loop-came.self.live.items c.loop-came.i c.loop-came.came false (assumes_at c.args.sight.now (c.loop-came.i - 1)) h ∙ c.loop-came.invariant.value

pub loop-came-preserved : goal.loop-came-preserved
loop-came-preserved c =
    let z : c.loop-came.i + 1 - 1 ≡ c.loop-came.i = omega arith in
    let before : c.loop-came.i - 1 < length c.args.sight.now.segments.now = omega (arith, c.loop-came.invariant.within, c.loop-came.invariant.more) in
    let s : BoundSegment = get_or c.args.sight.now.segments.now (c.loop-came.i - 1) c.index-sight-i.result in
    let q : s ≡ get_or c.args.sight.now.segments.now (c.loop-came.i - 1) s = ap (get_or c.args.sight.now.segments.now (c.loop-came.i - 1)) c.index-sight-i.is in
    let shares = c.is_assumption-shares.ensures ∙ sym (assumes_of c.args.sight.now.segments.now (c.loop-came.i - 1) s before q) in
    let value = c.turn-came-in-loop-came.ensures.value ∙
    ap (λ (b : Bool). outcome c.args.sight.now c.loop-came.self.nodes.items c.loop-came.self.live.items c.loop-came.i c.loop-came.came b) shares ∙ c.loop-came.invariant.value in
    record {
      low = c.turn-came-in-loop-came.ensures.low ∙ c.loop-came.invariant.low;
      more = omega (arith, c.loop-came.invariant.more);
      within = omega (arith, c.loop-came.invariant.within, c.if-i-sight.false);
      states = c.turn-came-in-loop-came.ensures.states ∙ c.loop-came.invariant.states;
      room = omega (arith, c.loop-came.invariant.room, c.turn-came-in-loop-came.ensures.len, c.turn-came-in-loop-came.ensures.capacity);
      from = c.turn-came-in-loop-came.ensures.from;
      value = rw z value;
    }

pub returns-clause-value : goal.returns-clause-value
returns-clause-value c =
    let none = none_of c.loop-came.came c.is_some.result c.is_some.ensures c.loop-came-test.false in
    let shares : Bool = assumes_at c.args.sight.now (c.loop-came.i - 1) in
    ap (λ (o : Option ℕ). outcome c.args.sight.now c.loop-came.self.nodes.items c.loop-came.self.live.items c.loop-came.i o false) none ∙
    shares_free (program_view c.args.sight.now.program.now) (seen_by c.args.sight.now) c.args.sight.now.count c.loop-came.self.nodes.items (sighted c.args.sight.now)
    c.loop-came.self.live.items c.loop-came.i false shares ∙
    sym (ap (λ (o : Option ℕ). outcome c.args.sight.now c.loop-came.self.nodes.items c.loop-came.self.live.items c.loop-came.i o shares) none) ∙ c.loop-came.invariant.value
