use Rattle.std.proofs.Common.{◌≡◌, inl, ℕ, ◌+◌, ◌<◌, List, [], length, get_or, drop, None, refl, sym, ◌∙◌, subst, arith}
use Rattle.c_core.specs.View.{program_view}
use Rattle.c_meaning.specs.Watching.{event_spot}
use Rattle.way_match.specs.inside.Turning.{seen_by, sighted}
use Rattle.way_match.proofs.Numbers.{Ahead, ahead_between, ahead_from, ahead_more, all_ahead, idle_if, idle_on, next_ahead}
use Rattle.way_match.proofs.Passed.{passed_to, passed_within}
use Rattle.way_match.proofs.Skips.{skipped_all, skipped_to}
use Rattle.way_match.proofs.Turn.{drop_past, from_none}
use Rattle.way_match.proofs.Views.{segments_length}
use Rattle.way_match.proofs.states.States.advance.Goals as goal
use Rattle.way_match.proofs.states.States.advance.Goals.{then-number-next, else-number-next}

pub loop-number-init : goal.loop-number-init
loop-number-init c =
    let l = segments_length c.args.sight.now.segments.now in
    let ss = sighted c.args.sight.now in
    let at = event_spot c.args.sight.now.event in
    let within = passed_within ss c.args.self.now.live.items c.args.self.now.low c.requires.passed in
    let lt : c.args.self.now.low < length c.args.self.now.live.items = omega (arith, within, l, c.requires.states) in
    record {
      low = refl;
      within = omega (arith, within, l);
      ends = λ h. refl;
      states = c.requires.states;
      room = omega (arith, c.requires.room);
      from = from_none c.args.self.now.nodes.items c.args.self.now.low;
      ahead = ahead_from at ss c.args.self.now.low c.args.numbers.now (subst (λ (ns : List ℕ). Ahead at ss 0 ns) (sym c.requires.moved) (all_ahead at ss));
      value = sym (passed_to (program_view c.args.sight.now.program.now) (seen_by c.args.sight.now) c.args.sight.now.count c.args.self.now.nodes.items ss c.args.self.now.live.items c.args.self.now.low lt c.requires.passed);
    }

pub returns-then-number-self-clause-ways : goal.returns-then-number-self-clause-ways
returns-then-number-self-clause-ways c =
    let l = segments_length c.args.sight.now.segments.now in
    let inv = c.loop-number.invariant in
    let p = program_view c.args.sight.now.program.now in
    let e = seen_by c.args.sight.now in
    let ss = sighted c.args.sight.now in
    let ahead = next_ahead (event_spot c.args.sight.now.event) ss c.loop-number.next c.loop-number.number-index c.args.numbers.now c.loop-number-test.true inv.ahead in
    let states : length c.loop-number.self.live.items ≡ length ss + 1 = omega (arith, l, inv.states) in
    c.finish.ensures.ways ∙
    sym (skipped_all p e c.args.sight.now.count c.loop-number.self.nodes.items ss c.loop-number.self.live.items c.loop-number.next
    (length c.args.sight.now.segments.now) c.loop-number.came inv.within (sym l) states (λ h. inv.ends (omega (arith, l, h)))
    (idle_on p e ss c.loop-number.self.live.items c.loop-number.next _ c.loop-number.self.reach _ ahead c.loop-number.self.blank c.if-number-self.true)) ∙ inv.value

pub carry-requires-clause-within : goal.carry-requires-clause-within
carry-requires-clause-within c =
    let l = segments_length c.args.sight.now.segments.now in
    let ahead = next_ahead (event_spot c.args.sight.now.event) (sighted c.args.sight.now) c.loop-number.next c.loop-number.number-index c.args.numbers.now c.loop-number-test.true
    c.loop-number.invariant.ahead in
    omega (arith, l, ahead.2.0)

pub loop-number-preserved : goal.loop-number-preserved
loop-number-preserved c =
    let l = segments_length c.args.sight.now.segments.now in
    let inv = c.loop-number.invariant in
    let p = program_view c.args.sight.now.program.now in
    let e = seen_by c.args.sight.now in
    let ss = sighted c.args.sight.now in
    let at = event_spot c.args.sight.now.event in
    let number : ℕ = get_or c.args.numbers.now c.loop-number.number-index 0 in
    let rest : List ℕ = drop (c.loop-number.number-index + 1) c.args.numbers.now in
    let ahead = next_ahead at ss c.loop-number.next c.loop-number.number-index c.args.numbers.now c.loop-number-test.true inv.ahead in
    let states : length c.loop-number.self.live.items ≡ length ss + 1 = omega (arith, l, inv.states) in
    elim c.if-number-next.branch [
      | then-number-next w ↦
          let lt : c.loop-number.next < length ss = omega (arith, w.if-number-next.true, ahead.2.0) in
          let skip = skipped_to p e c.args.sight.now.count c.loop-number.self.nodes.items ss c.loop-number.self.live.items c.loop-number.next number c.loop-number.came
          w.if-number-next.true (omega (arith, ahead.2.0)) states (λ h. inv.ends (omega (arith, l, h)))
          (λ k a b. idle_if p e ss k (get_or c.loop-number.self.live.items k None) (omega (arith, b, ahead.2.0)) (inl (ahead_between at ss c.loop-number.next number rest ahead k a b))) lt in
          rw (w.self-is, w.next-is, w.came-is) (record {
            low = w.carry.ensures.low ∙ inv.low;
            within = w.carry.ensures.within;
            ends = w.carry.ensures.ends;
            states = w.carry.ensures.states ∙ inv.states;
            room = w.carry.ensures.room;
            from = w.carry.ensures.from;
            ahead = ahead_more at ss c.loop-number.next w.carry.result.0 number rest ahead (omega (arith, w.if-number-next.true, w.carry.ensures.more)) w.carry.ensures.more;
            value = w.carry.ensures.value ∙ sym skip ∙ inv.value;
          })
      | else-number-next w ↦
          rw (w.self-is, w.next-is, w.came-is) (record {
            low = inv.low;
            within = inv.within;
            ends = inv.ends;
            states = inv.states;
            room = inv.room;
            from = inv.from;
            ahead = ahead_more at ss c.loop-number.next c.loop-number.next number rest ahead (omega arith) w.if-number-next.false;
            value = inv.value;
          })
    ]

pub returns-clause-ways : goal.returns-clause-ways
returns-clause-ways c =
    let l = segments_length c.args.sight.now.segments.now in
    let inv = c.loop-number.invariant in
    let none : drop c.loop-number.number-index c.args.numbers.now ≡ [] = drop_past c.loop-number.number-index c.args.numbers.now (omega arith) in
    let ahead = subst (λ (ns : List ℕ). Ahead (event_spot c.args.sight.now.event) (sighted c.args.sight.now) c.loop-number.next ns) none inv.ahead in
    let states : length c.loop-number.self.live.items ≡ length (sighted c.args.sight.now) + 1 = omega (arith, l, inv.states) in
    let p = program_view c.args.sight.now.program.now in
    let e = seen_by c.args.sight.now in
    c.finish-2.ensures.ways ∙
    sym (skipped_all p e c.args.sight.now.count c.loop-number.self.nodes.items (sighted c.args.sight.now) c.loop-number.self.live.items c.loop-number.next
    (length c.args.sight.now.segments.now) c.loop-number.came inv.within (sym l) states (λ h. inv.ends (omega (arith, l, h)))
    (λ k a b. idle_if p e (sighted c.args.sight.now) k (get_or c.loop-number.self.live.items k None) b (inl (ahead.0 k a tt)))) ∙ inv.value
