use Rattle.std.proofs.Common.{rules, ◌≡◌, ◌+◌, ◌<◌, ◌^◌, true, false, None, Some, ap, ◌∙◌, subst, arith}
use Rattle.c_core.specs.Tree.{Program}
use Rattle.c_meaning.specs.declared.run.End.TheVariants.{Spent}
use Rattle.c_meaning.specs.declared.run.Run.{Run as GivenRun}
use Rattle.flow_code.specs.Programs.{IsCodeOf}
use Rattle.flow_machine.specs.Fronts.{BreaksOff}
use Rattle.flow_machine.specs.Runs.{Advances, Held, Rests, Waits}
use Rattle.flow_machine.specs.Views.{machine_of}
use Rattle.flow_machine.proofs.Advancing.{rests_on, rests_still, comes_short, comes_to_end, now_rests, went_on, fewer_left, in_order_with, spent_in_order, end_at, run_at_rest}
use Rattle.flow_machine.proofs.Breaking.{breaks_off}
use Rattle.flow_machine.proofs.Reserving.{stays_within, still_reserved, spent_reached, spent_counted}
use Rattle.flow_machine.proofs.machine.Machine.advance.Goals as goal

pub go-halt-requires-clause-order : goal.go-halt-requires-clause-order
go-halt-requires-clause-order g c =
    let m = c.self.inside in
    let whole : m.whole ≡ true = search rules in
    in_order_with m.code.now c.self.invariant.paced g.W.Watcher.Seen g.W.Watcher.after c.args.steps m.control m.control m.run m.run (g.W.Watcher.seen c.args.watcher.now) (g.W.Watcher.seen c.args.watcher.now) m.choices.now
    (c.self.invariant.in_order whole c.in_default.is)

pub invariant_of-self : goal.invariant_of-self
invariant_of-self g c =
    let m = c.self.inside in
    let i = c.self.invariant in
    let lost : m.whole ≡ false = search rules in
    record {
      paced = i.paced;
      at_rest = λ whole. absurd (cc);
      in_order = λ whole none. absurd (cc);
      reached = λ whole none. absurd (cc);
      counted = λ whole none. absurd (cc);
      room = i.room;
    }

pub invariant_of-self-in-Some : goal.invariant_of-self-in-Some
invariant_of-self-in-Some g c =
    let m = c.self.inside in
    let i = c.self.invariant in
    record {
      paced = i.paced;
      at_rest = λ whole. rests_on m.code.now m.choices.now m.sum m.taken m.ended m.control m.run (i.at_rest whole) c.in-Some.end c.in-Some.is c.args.steps;
      in_order = i.in_order;
      reached = i.reached;
      counted = i.counted;
      room = i.room;
    }

pub returns-in-Some-clause-run : goal.returns-in-Some-clause-run
returns-in-Some-clause-run g c =
    let m = c.self.inside in
    let x = g.W.Watcher.seen c.args.watcher.now in
    subst (λ (v : Held). v.whole ≡ true → (p : Program) → IsCodeOf p v.code → Advances p v.choices v.sum (m.sum + c.args.steps) g.W.Watcher.after x x c.in-Some.end) c.self.view_is
    (λ whole p h. rests_still m.code.now m.choices.now m.sum m.taken m.ended m.control m.run (c.self.invariant.at_rest whole) c.in-Some.end c.in-Some.is c.args.steps
    p (c.code_is_simulated.ensures p m.code.now h) (c.larger_budget_continues.ensures p m.choices.now m.sum (m.sum + c.args.steps) (omega arith)) g.W.Watcher.after x)

pub overflow_sub-steps : goal.overflow_sub-steps
overflow_sub-steps g c =
    let m = c.self.inside in
    let y = c.go-halt.new in
    let w = g.W.Watcher.seen in
    fewer_left m.code.now m.choices.now g.W.Watcher.Seen g.W.Watcher.after c.args.steps m.control y.control m.run y.run (w c.args.watcher.now) (w y.watcher) c.in-Ends.end c.in-Ends.ensures.halts

pub invariant_of-self-in-NoMemory : goal.invariant_of-self-in-NoMemory
invariant_of-self-in-NoMemory g c =
    let m = c.self.inside in
    let i = c.self.invariant in
    record {
      paced = i.paced;
      at_rest = λ whole. absurd (cc);
      in_order = λ whole none. absurd (cc);
      reached = λ whole none. absurd (cc);
      counted = λ whole none. absurd (cc);
      room = λ reserved. still_reserved m.code.now m.control c.go-halt.new.control c.go-halt.ensures.kept (i.room reserved);
    }

pub returns-in-NoMemory-clause-front : goal.returns-in-NoMemory-clause-front
returns-in-NoMemory-clause-front g c =
    let m = c.self.inside in
    let old = g.W.Watcher.seen c.args.watcher.now in
    let new = g.W.Watcher.seen c.go-halt.new.watcher in
    subst (λ (v : Held). v.whole ≡ true → (p : Program) → IsCodeOf p v.code → BreaksOff p v.choices v.sum (m.sum + c.args.steps) g.W.Watcher.after old new) c.self.view_is
    (λ whole p h.
    breaks_off p m.code.now m.choices.now (c.code_is_simulated.ensures p m.code.now h) g.W.Watcher.after m.sum m.taken c.args.steps m.ended m.control m.run old new c.in_default.is
    (c.larger_budget_continues.ensures p m.choices.now m.sum (m.sum + c.args.steps) (omega arith)) (c.self.invariant.at_rest whole) c.in-NoMemory.ensures.front)

pub returns-in-NoMemory-clause-enough : goal.returns-in-NoMemory-clause-enough
returns-in-NoMemory-clause-enough g c =
    let m = c.self.inside in
    let i = c.self.invariant in
    rw (← c.self.view_is) (λ sure reserved whole p is once needs.
    let rest = i.at_rest whole in
    let waits : Waits m.code.now m.choices.now m.sum m.taken (machine_of m.control m.run rest.told) =
    subst (λ o. Rests m.code.now m.choices.now m.sum m.taken o (machine_of m.control m.run rest.told)) c.in_default.is rest.rests in
    absurd (c.in-NoMemory.ensures.lasting sure
    (stays_within m.code.now g.W.Watcher.Seen g.W.Watcher.after p (c.rooms_are_kept.ensures p m.code.now is)
    (λ l room. c.rooms_are_bounded.ensures p m.code.now l is (c.chains_are_bounded.ensures p m.code.now is once) room)
    m.choices.now m.sum m.taken c.args.steps rest.told m.control m.run (g.W.Watcher.seen c.args.watcher.now) waits
    (i.reached whole c.in_default.is) (i.counted whole c.in_default.is) (i.room reserved) needs)))

pub returns-in-NoMemory-clause-again : goal.returns-in-NoMemory-clause-again
returns-in-NoMemory-clause-again g c =
    let m = c.self.inside in
    rw (← c.self.view_is) (λ whole p is late.
    let i = c.self.invariant.at_rest whole in
    let run = run_at_rest p m.code.now m.choices.now (c.code_is_simulated.ensures p m.code.now is) is.checked m.sum m.taken m.ended (machine_of m.control m.run i.told) i.rests in
    absurd (late (ap (λ (r : GivenRun). r.end) run ∙ ap end_at c.in_default.is)))

pub invariant_of-self-in-Spent : goal.invariant_of-self-in-Spent
invariant_of-self-in-Spent g c =
    let m = c.self.inside in
    let y = c.go-halt.new in
    let e = c.in-Ends.end in
    let old = g.W.Watcher.seen c.args.watcher.now in
    let new = g.W.Watcher.seen y.watcher in
    let t = c.saturating_add-self-inside in
    let few : m.sum + c.args.steps < 2 ^ 64 = omega (arith, c.requires.within, ap (λ (v : Held). v.sum) c.self.view_is) in
    let sound = c.self.invariant in
    record {
      paced = sound.paced;
      at_rest = λ whole.
          let i = sound.at_rest whole in
          let went = comes_short m.code.now m.choices.now m.sum m.taken m.ended m.control m.run i c.in_default.is g.W.Watcher.Seen g.W.Watcher.after c.args.steps t.result y.control y.run old new few
          e c.in-Spent.is t.ensures c.in-Ends.ensures.halts in
          rw c.in_default.is (now_rests m.code.now m.choices.now m.sum m.taken m.ended m.control m.run i g.W.Watcher.Seen g.W.Watcher.after old new (m.sum + c.args.steps) t.result None y.control y.run Spent went);
      in_order = λ whole none.
          spent_in_order m.code.now sound.paced g.W.Watcher.Seen g.W.Watcher.after c.args.steps m.control y.control m.run y.run old new m.choices.now e c.in-Spent.is (sound.in_order whole c.in_default.is) c.in-Ends.ensures.halts;
      reached = λ whole none. spent_reached m.code.now g.W.Watcher.Seen g.W.Watcher.after c.args.steps m.control y.control m.run y.run old new e c.in-Spent.is (sound.reached whole c.in_default.is) c.in-Ends.ensures.halts;
      counted = λ whole none. spent_counted m.code.now g.W.Watcher.Seen g.W.Watcher.after c.args.steps m.control y.control m.run y.run old new e c.in-Spent.is (sound.counted whole c.in_default.is) c.in-Ends.ensures.halts;
      room = λ reserved. still_reserved m.code.now m.control y.control c.go-halt.ensures.kept (sound.room reserved);
    }

pub returns-in-Spent-clause-run : goal.returns-in-Spent-clause-run
returns-in-Spent-clause-run g c =
    let m = c.self.inside in
    let y = c.go-halt.new in
    let old = g.W.Watcher.seen c.args.watcher.now in
    let new = g.W.Watcher.seen y.watcher in
    let t = c.saturating_add-self-inside in
    let few : m.sum + c.args.steps < 2 ^ 64 = omega (arith, c.requires.within, ap (λ (v : Held). v.sum) c.self.view_is) in
    subst (λ (v : Held). v.whole ≡ true → (p : Program) → IsCodeOf p v.code → Advances p v.choices v.sum (m.sum + c.args.steps) g.W.Watcher.after old new Spent) c.self.view_is
    (λ whole p h.
    let i = c.self.invariant.at_rest whole in
    let went = comes_short m.code.now m.choices.now m.sum m.taken m.ended m.control m.run i c.in_default.is g.W.Watcher.Seen g.W.Watcher.after c.args.steps t.result y.control y.run old new few
    c.in-Ends.end c.in-Spent.is t.ensures c.in-Ends.ensures.halts in
    went_on m.code.now m.choices.now m.sum m.taken m.ended m.control m.run i p (c.code_is_simulated.ensures p m.code.now h) (m.sum + c.args.steps) t.result
    (c.larger_budget_continues.ensures p m.choices.now m.sum (m.sum + c.args.steps) (omega arith)) g.W.Watcher.Seen g.W.Watcher.after old new None y.control y.run Spent went)

pub invariant_of-self-in_default-end : goal.invariant_of-self-in_default-end
invariant_of-self-in_default-end g c =
    let m = c.self.inside in
    let y = c.go-halt.new in
    let e = c.in-Ends.end in
    let old = g.W.Watcher.seen c.args.watcher.now in
    let new = g.W.Watcher.seen y.watcher in
    let t = c.saturating_add-self-inside in
    let few : m.sum + c.args.steps < 2 ^ 64 = omega (arith, c.requires.within, ap (λ (v : Held). v.sum) c.self.view_is) in
    let sound = c.self.invariant in
    record {
      paced = sound.paced;
      at_rest = λ whole.
          let i = sound.at_rest whole in
          let went = comes_to_end m.code.now m.choices.now m.sum m.taken m.ended m.control m.run i c.in_default.is g.W.Watcher.Seen g.W.Watcher.after c.args.steps t.result y.control y.run old new few
          e c.in_default-end.not-Spent t.ensures c.in-Ends.ensures.halts in
          now_rests m.code.now m.choices.now m.sum m.taken m.ended m.control m.run i g.W.Watcher.Seen g.W.Watcher.after old new (m.sum + c.args.steps) t.result (Some e) y.control y.run e went;
      in_order = λ whole none. absurd (cc);
      reached = λ whole none. absurd (cc);
      counted = λ whole none. absurd (cc);
      room = λ reserved. still_reserved m.code.now m.control y.control c.go-halt.ensures.kept (sound.room reserved);
    }

pub returns-in_default-end-clause-run : goal.returns-in_default-end-clause-run
returns-in_default-end-clause-run g c =
    let m = c.self.inside in
    let y = c.go-halt.new in
    let e = c.in-Ends.end in
    let old = g.W.Watcher.seen c.args.watcher.now in
    let new = g.W.Watcher.seen y.watcher in
    let t = c.saturating_add-self-inside in
    let few : m.sum + c.args.steps < 2 ^ 64 = omega (arith, c.requires.within, ap (λ (v : Held). v.sum) c.self.view_is) in
    subst (λ (v : Held). v.whole ≡ true → (p : Program) → IsCodeOf p v.code → Advances p v.choices v.sum (m.sum + c.args.steps) g.W.Watcher.after old new e) c.self.view_is
    (λ whole p h.
    let i = c.self.invariant.at_rest whole in
    let went = comes_to_end m.code.now m.choices.now m.sum m.taken m.ended m.control m.run i c.in_default.is g.W.Watcher.Seen g.W.Watcher.after c.args.steps t.result y.control y.run old new few
    e c.in_default-end.not-Spent t.ensures c.in-Ends.ensures.halts in
    went_on m.code.now m.choices.now m.sum m.taken m.ended m.control m.run i p (c.code_is_simulated.ensures p m.code.now h) (m.sum + c.args.steps) t.result
    (c.larger_budget_continues.ensures p m.choices.now m.sum (m.sum + c.args.steps) (omega arith)) g.W.Watcher.Seen g.W.Watcher.after old new (Some e) y.control y.run e went)
