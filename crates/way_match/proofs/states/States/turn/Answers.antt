use Rattle.std.proofs.Common.{◌≡◌, ◌+◌, ◌<◌, ◌&&◌, ◌||◌, length, get_or, None, refl, ◌∙◌, ap, arith}
use Rattle.c_core.specs.View.{program_view}
use Rattle.way_match.specs.Passing.{passes, is_assumption}
use Rattle.way_match.specs.inside.Steps.{is_there, only_if}
use Rattle.way_match.specs.inside.Turning.{seen_by, sighted}
use Rattle.way_match.specs.View.{segment_view}
use Rattle.way_match.specs.declared.point.BoundSegment.{BoundSegment}
use Rattle.way_match.proofs.Skips.{settled}
use Rattle.way_match.proofs.Turn.{turned, turned_from, turned_held, kept_held, blank_set, or_none}
use Rattle.way_match.proofs.Views.{assumes_of, prepared_length, prepared_there, segment_at, segments_length}
use Rattle.way_match.proofs.states.States.turn.Goals as goal

pub bounds-sight-i-2 : goal.bounds-sight-i-2
bounds-sight-i-2 c =
    let e : length c.args.sight.now.prepared.now ≡ length c.args.sight.now.segments.now =
    ap length c.args.sight.now.prepares ∙ prepared_length (program_view c.args.sight.now.program.now) c.args.sight.now.segments.now in
    omega (arith, c.requires.within, e)

pub stays-kept-requires : goal.stays-kept-requires
stays-kept-requires c =
    prepared_there (program_view c.args.sight.now.program.now) c.args.sight.now.segments.now c.args.sight.now.prepared.now c.args.i c.index-sight-i.result c.index-sight-i-2.result
    c.args.sight.now.prepares c.requires.within c.index-sight-i.is

pub goes-requires : goal.goes-requires
goes-requires c =
    prepared_there (program_view c.args.sight.now.program.now) c.args.sight.now.segments.now c.args.sight.now.prepared.now c.args.i c.index-sight-i.result c.index-sight-i-2.result
    c.args.sight.now.prepares c.requires.within c.index-sight-i.is

pub invariant_of-self : goal.invariant_of-self
invariant_of-self c =
    let lt : c.args.i < length c.args.self.now.live.items = omega (arith, c.requires.within, c.requires.states) in
    let was = or_none c.args.self.now.live.items c.args.i c.index-was.result.now lt c.index-was.ensures in
    let k = kept_held c.args.self.now.nodes.items c.args.self.now.live.items c.args.i _ c.index-was.result.now c.stays-kept.result c.args.self.now.held lt was c.stays-kept.ensures in
    let h = c.arrives-now.ensures.held c.args.i k c.requires.from in
    record {
      held = turned_held c.args.self.now.nodes.items c.arrives-now.new.nodes.items c.args.self.now.live.items c.args.i c.arrives-now.result c.args.self.now.held c.arrives-now.ensures.grown h;
      blank = blank_set c.args.self.now.live.items c.args.i c.arrives-now.result c.args.self.now.reach c.reached-self.result lt c.args.self.now.blank c.reached-self.ensures.more c.reached-self.ensures.this;
    }

pub returns-then-is_settled-clause-value : goal.returns-then-is_settled-clause-value
returns-then-is_settled-clause-value c =
    let segments = c.args.sight.now.segments.now in
    let lt : c.args.i < length c.args.self.now.live.items = omega (arith, c.requires.within, c.requires.states) in
    let l = segments_length segments in
    let ls : c.args.i < length (sighted c.args.sight.now) = omega (arith, l, c.requires.within) in
    let s : BoundSegment = get_or segments c.args.i c.index-sight-i.result in
    let q : s ≡ get_or segments c.args.i s = ap (get_or segments c.args.i) c.index-sight-i.is in
    let was = or_none c.args.self.now.live.items c.args.i c.index-was.result.now lt c.index-was.ensures in
    let k = kept_held c.args.self.now.nodes.items c.args.self.now.live.items c.args.i _ c.index-was.result.now c.stays-kept.result c.args.self.now.held lt was c.stays-kept.ensures in
    let e = seen_by c.args.sight.now in
    let p = program_view c.args.sight.now.program.now in
    let h = rw c.as_slice.ensures.value at (c.is_settled.ensures c.if-is_settled.true) in
    settled p e c.args.sight.now.count c.arrives-now.new.nodes.items (sighted c.args.sight.now) _ (c.args.i + 1) None _ _ (is_assumption (segment_view s).follow) h ∙
    turned p e c.args.sight.now.count c.args.self.now.nodes.items c.arrives-now.new.nodes.items (sighted c.args.sight.now) c.args.self.now.live.items c.args.i (segment_view s)
    c.index-was.result.now c.stays-kept.result c.args.came c.arrives-now.result
    (only_if (passes p (segment_view s).follow e.event e.cells && (is_there c.stays-kept.result || (c.args.shares && is_assumption (segment_view s).follow))) c.arrives-now.result)
    c.args.shares c.args.self.now.held lt was ls (segment_at segments c.args.i s c.requires.within q) c.arrives-now.ensures.grown c.stays-kept.ensures
    (c.arrives-now.ensures.way c.args.i k c.requires.from) refl

pub returns-else-is_settled-clause-value : goal.returns-else-is_settled-clause-value
returns-else-is_settled-clause-value c =
    let segments = c.args.sight.now.segments.now in
    let lt : c.args.i < length c.args.self.now.live.items = omega (arith, c.requires.within, c.requires.states) in
    let l = segments_length segments in
    let ls : c.args.i < length (sighted c.args.sight.now) = omega (arith, l, c.requires.within) in
    let s : BoundSegment = get_or segments c.args.i c.index-sight-i.result in
    let q : s ≡ get_or segments c.args.i s = ap (get_or segments c.args.i) c.index-sight-i.is in
    let was = or_none c.args.self.now.live.items c.args.i c.index-was.result.now lt c.index-was.ensures in
    let k = kept_held c.args.self.now.nodes.items c.args.self.now.live.items c.args.i _ c.index-was.result.now c.stays-kept.result c.args.self.now.held lt was c.stays-kept.ensures in
    let t = turned (program_view c.args.sight.now.program.now) (seen_by c.args.sight.now) c.args.sight.now.count c.args.self.now.nodes.items c.arrives-now.new.nodes.items
    (sighted c.args.sight.now) c.args.self.now.live.items c.args.i (segment_view s)
    c.index-was.result.now c.stays-kept.result c.args.came c.arrives-now.result c.goes.result
    c.args.shares c.args.self.now.held lt was ls (segment_at segments c.args.i s c.requires.within q) c.arrives-now.ensures.grown c.stays-kept.ensures
    (c.arrives-now.ensures.way c.args.i k c.requires.from) c.goes.ensures in
    rw (assumes_of segments c.args.i s c.requires.within q) t

pub returns-else-is_settled-clause-from : goal.returns-else-is_settled-clause-from
returns-else-is_settled-clause-from c =
    let lt : c.args.i < length c.args.self.now.live.items = omega (arith, c.requires.within, c.requires.states) in
    let was = or_none c.args.self.now.live.items c.args.i c.index-was.result.now lt c.index-was.ensures in
    let k = kept_held c.args.self.now.nodes.items c.args.self.now.live.items c.args.i _ c.index-was.result.now c.stays-kept.result c.args.self.now.held lt was c.stays-kept.ensures in
    let h = c.arrives-now.ensures.held c.args.i k c.requires.from in
    turned_from c.arrives-now.new.nodes.items c.args.i _ c.arrives-now.result c.goes.result h c.goes.ensures
