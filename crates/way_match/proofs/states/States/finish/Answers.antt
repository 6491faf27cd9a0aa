use Rattle.std.proofs.Common.{◌≡◌, ◌+◌, ◌<◌, length, sym, arith}
use Rattle.c_core.specs.View.{program_view}
use Rattle.way_match.specs.inside.Turning.{seen_by, sighted}
use Rattle.way_match.proofs.Turn.{blank_set, finished, turned_held}
use Rattle.way_match.proofs.Views.{segments_length}
use Rattle.way_match.proofs.states.States.finish.Goals as goal

pub invariant_of-self : goal.invariant_of-self
invariant_of-self c =
    let lt : length c.args.sight.now.segments.now < length c.args.self.now.live.items = omega (arith, c.requires.states) in
    let h = c.arrives-now.ensures.held (length c.args.sight.now.segments.now) tt c.requires.from in
    record {
      held = turned_held c.args.self.now.nodes.items c.arrives-now.new.nodes.items c.args.self.now.live.items (length c.args.sight.now.segments.now) c.arrives-now.result c.args.self.now.held c.arrives-now.ensures.grown h;
      blank = blank_set c.args.self.now.live.items (length c.args.sight.now.segments.now) c.arrives-now.result c.args.self.now.reach c.reached-self.result lt c.args.self.now.blank c.reached-self.ensures.more c.reached-self.ensures.this;
    }

pub returns-clause-ways : goal.returns-clause-ways
returns-clause-ways c =
    let l = segments_length c.args.sight.now.segments.now in
    let ll : length c.args.self.now.live.items ≡ length (sighted c.args.sight.now) + 1 = omega (arith, l, c.requires.states) in
    finished (program_view c.args.sight.now.program.now) (seen_by c.args.sight.now) c.args.sight.now.count c.args.self.now.nodes.items c.arrives-now.new.nodes.items (sighted c.args.sight.now)
    c.args.self.now.live.items (length c.args.sight.now.segments.now) c.args.came c.arrives-now.result _ c.args.self.now.held (sym l) ll c.arrives-now.ensures.grown
    (c.arrives-now.ensures.way (length c.args.sight.now.segments.now) tt c.requires.from)
