use Rattle.std.proofs.Common.{◌≡◌, ◌+◌, length, ap, arith, ◌∙◌, None, Some, rules}
use Rattle.way_match.specs.inside.Steps.{Matching}
use Rattle.way_match.proofs.Done.{answer_some, answer_none, last_held, exact_of, whole_room}
use Rattle.way_match.proofs.matcher.Matcher.done.Goals as goal

pub fill-requires : goal.fill-requires
fill-requires c =
    let r : c.len.result ≡ length c.self.inside.room.items = search rules in
    let l : length c.self.inside.states.live.items ≡ c.len.result + 1 = omega (arith, c.self.invariant.states_each, c.self.invariant.rooms, r) in
    let h = last_held c.self.inside.states.nodes.items c.self.inside.states.live.items c.len.result c.in-Some.last c.index.result.now l c.self.inside.states.held c.index.ensures c.in-Some.is in
    rw (c.as_slice.ensures.value, c.as_mut_slice.ensures.value, ← r) h

pub returns-clause-answer : goal.returns-clause-answer
returns-clause-answer c =
    let r : c.len.result ≡ length c.self.inside.room.items = search rules in
    let l : length c.self.inside.states.live.items ≡ c.len.result + 1 = omega (arith, c.self.invariant.states_each, c.self.invariant.rooms, r) in
    answer_none c.self.inside.states.nodes.items c.self.inside.states.live.items c.len.result c.index.result.now c.args.self.ways
    (ap (λ (m : Matching). m.ways) c.self.view_is) l c.index.ensures c.in-None.is

pub returns-clause-exact : goal.returns-clause-exact
returns-clause-exact c = exact_of c.args.self None (returns-clause-answer c)

pub returns-in-Some-clause-answer : goal.returns-in-Some-clause-answer
returns-in-Some-clause-answer c =
    let r : c.len.result ≡ length c.self.inside.room.items = search rules in
    let l : length c.self.inside.states.live.items ≡ c.len.result + 1 = omega (arith, c.self.invariant.states_each, c.self.invariant.rooms, r) in
    let f = rw (c.as_slice.ensures.value, c.as_mut_slice.ensures.value, ← r) at c.fill.ensures in
    answer_some c.self.inside.states.nodes.items c.self.inside.states.live.items c.len.result c.in-Some.last c.index.result.now c.args.self.ways c.from_vec.result
    (ap (λ (m : Matching). m.ways) c.self.view_is) l c.index.ensures c.in-Some.is
    (whole_room c.from_vec.result c.fill.new.room _ c.self.inside.room.len (omega (arith, r, c.fill.auto.room, c.as_mut_slice.ensures.len)) c.from_vec.ensures ∙ f)

pub returns-in-Some-clause-exact : goal.returns-in-Some-clause-exact
returns-in-Some-clause-exact c = exact_of c.args.self (Some c.from_vec.result) (returns-in-Some-clause-answer c)
