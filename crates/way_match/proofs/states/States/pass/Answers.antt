use Rattle.std.proofs.Common.{◌≡◌, ◌+◌, [], length, sym, ◌∙◌, ap, arith}
use Rattle.c_core.specs.View.{program_view}
use Rattle.c_meaning.specs.Watching.{event_spot}
use Rattle.way_match.specs.inside.ByPlace.{moved}
use Rattle.way_match.specs.View.{each_segment_view}
use Rattle.way_match.proofs.Passed.{stay_passed}
use Rattle.way_match.proofs.PassedBy.{none_there}
use Rattle.way_match.proofs.Views.{segments_length}
use Rattle.way_match.proofs.states.States.pass.Goals as goal

pub raise-requires-clause-passed : goal.raise-requires-clause-passed
raise-requires-clause-passed c =
    stay_passed (program_view c.args.program.now) (record { event = c.args.event; cells = c.args.memory.now.cells }) c.args.count c.reserve.new.self.items c.advance.new.self.nodes.items
    (each_segment_view c.args.segments.now) c.args.self.now.live.items c.advance.new.self.live.items c.args.self.now.low c.advance.new.self.low c.requires.passed
    c.advance.ensures.low c.advance.ensures.ways

pub returns-then-is_empty-clause-ways : goal.returns-then-is_empty-clause-ways
returns-then-is_empty-clause-ways c =
    let l = segments_length c.args.segments.now in
    let states : length c.args.self.now.live.items ≡ length (each_segment_view c.args.segments.now) + 1 = omega (arith, l, c.requires.states) in
    let empty : c.numbers-numbers.result.now ≡ [] = none_there c.numbers-numbers.result.now (sym c.is_empty.ensures ∙ c.if-is_empty.true) in
    let none : moved (event_spot c.args.event) 0 (each_segment_view c.args.segments.now) ≡ [] = sym c.requires.places ∙ sym c.numbers-numbers.ensures ∙ empty in
    c.pass_by.ensures.ways (program_view c.args.program.now) (record { event = c.args.event; cells = c.args.memory.now.cells }) c.args.count (each_segment_view c.args.segments.now) states none

pub returns-then-is_empty-clause-passed : goal.returns-then-is_empty-clause-passed
returns-then-is_empty-clause-passed c =
    let l = segments_length c.args.segments.now in
    let states : length c.args.self.now.live.items ≡ length (each_segment_view c.args.segments.now) + 1 = omega (arith, l, c.requires.states) in
    c.pass_by.ensures.passed (each_segment_view c.args.segments.now) states c.requires.passed

pub returns-then-rests-clause-ways : goal.returns-then-rests-clause-ways
returns-then-rests-clause-ways c =
    let l = segments_length c.args.segments.now in
    let states : length c.args.self.now.live.items ≡ length (each_segment_view c.args.segments.now) + 1 = omega (arith, l, c.requires.states) in
    c.pass_by-then-rests.ensures.rested (program_view c.args.program.now) (record { event = c.args.event; cells = c.args.memory.now.cells }) c.args.count (each_segment_view c.args.segments.now) states
    (c.rests.ensures c.if-rests.true)

pub returns-then-rests-clause-passed : goal.returns-then-rests-clause-passed
returns-then-rests-clause-passed c =
    let l = segments_length c.args.segments.now in
    let states : length c.args.self.now.live.items ≡ length (each_segment_view c.args.segments.now) + 1 = omega (arith, l, c.requires.states) in
    c.pass_by-then-rests.ensures.passed (each_segment_view c.args.segments.now) states c.requires.passed

pub returns-clause-still : goal.returns-clause-still
returns-clause-still c =
    let l = segments_length c.args.segments.now in
    let same : length c.raise.new.self.live.items ≡ length c.advance.new.self.live.items = ap length c.raise.ensures.live in
    let states : length c.raise.new.self.live.items ≡ length (each_segment_view c.args.segments.now) + 1 = omega (arith, l, same, c.advance.ensures.states, c.requires.states) in
    c.calm.ensures.still (each_segment_view c.args.segments.now) states c.raise.ensures.passed

pub calm-requires : goal.calm-requires
calm-requires c =
    let same : length c.raise.new.self.live.items ≡ length c.advance.new.self.live.items = ap length c.raise.ensures.live in
    omega (arith, same, c.advance.ensures.states, c.requires.states)
