use Rattle.std.proofs.Common.{◌≡◌, ℕ, ◌+◌, List, [], length, Option, Some, sym, ◌∙◌, ap, arith, rules}
use Rattle.c_core.specs.View.{program_view}
use Rattle.c_meaning.specs.Watching.{event_spot}
use Rattle.way_match.specs.inside.Arena.{ways_of}
use Rattle.way_match.specs.inside.ByPlace.{moved}
use Rattle.way_match.specs.inside.Steps.{after}
use Rattle.way_match.specs.View.{each_segment_view}
use Rattle.way_match.proofs.Views.{segments_length}
use Rattle.way_match.proofs.matcher.MatcherWatcher.skips.Goals as goal

pub invariant_of-self : goal.invariant_of-self
invariant_of-self c =
    let l = segments_length c.self.inside.bound.now.segments in
    let states : length c.self.inside.states.live.items ≡ length (each_segment_view c.self.inside.bound.now.segments) + 1 = omega (arith, l, c.self.invariant.states_each) in
    record {
      prepares = c.self.invariant.prepares;
      places = c.self.invariant.places;
      clear = c.self.invariant.clear;
      covers = c.self.invariant.covers;
      states_each = c.pass_by.ensures.states ∙ c.self.invariant.states_each;
      rooms = c.self.invariant.rooms;
      passed = c.pass_by.ensures.passed (each_segment_view c.self.inside.bound.now.segments) states c.self.invariant.passed;
      still = c.pass_by.ensures.still c.self.invariant.still;
    }

pub returns-clause-taken : goal.returns-clause-taken
returns-clause-taken c taken event cells at =
    let ss = each_segment_view c.self.inside.bound.now.segments in
    let l = segments_length c.self.inside.bound.now.segments in
    let states : length c.self.inside.states.live.items ≡ length ss + 1 = omega (arith, l, c.self.invariant.states_each) in
    let none : moved (event_spot event) 0 ss ≡ [] = ap (λ s. moved s 0 ss) at ∙ sym (c.self.invariant.places (Some c.args.spot)) ∙ c.is_watched.ensures c.if-is_watched.false in
    let one : c.in-Some.count ≡ c.self.inside.count + 1 = search rules in
    let ways = c.pass_by.ensures.ways (program_view c.self.inside.program.now) (record { event = event; cells = cells }) c.self.inside.count ss states none in
    ap (λ (k : ℕ). record { program = c.self.inside.program.now; bound = c.self.inside.bound.now; count = k; ways = ways_of c.pass_by.new.self.nodes.items 0 c.pass_by.new.self.live.items }) one ∙
    ap (λ (ws : List (Option (List ℕ))). record { program = c.self.inside.program.now; bound = c.self.inside.bound.now; count = c.self.inside.count + 1; ways = ws }) ways ∙
    ap (after event cells) c.self.view_is
