use Rattle.std.proofs.Common.{◌≡◌, ◌++◌, [], refl, ap, sym, subst, ◌∙◌, arith}
use Rattle.c_core.specs.View.{program_view}
use Rattle.c_meaning.specs.Run as runs
use Rattle.c_meaning.specs.Watching.{seen_after}
use Rattle.run_state.specs.Fronts.{SawFront}
use Rattle.flow_code.specs.Programs.{IsCodeOf}
use Rattle.flow_laws.proofs.Beginning.{nothing_seen}
use Rattle.flow_machine.proofs.Fronting.{on_err, saw_none}
use Rattle.flow_machine.proofs.running.run_machine.Goals as goal

pub returns-clause-run : goal.returns-clause-run
returns-clause-run g c =
    let p = program_view c.args.program.now in
    let made = c.in_ok-machine.ensures in
    let same = c.advance.ensures.same in
    let a = c.advance.new.self in
    let sum : a.sum ≡ c.args.steps = omega (arith, same.3, made.2) in
    c.finish.ensures p (subst (IsCodeOf p) (sym (same.0 ∙ made.0)) c.in_ok-code.ensures) (c.in_ok-advance.ensures.whole ∙ made.3)
    ∙ ap (λ x. runs.Run p x a.sum) (same.1 ∙ made.1) ∙ ap (runs.Run p c.args.choices.now) sum

pub returns-clause-seen : goal.returns-clause-seen
returns-clause-seen g c =
    let p = program_view c.args.program.now in
    let made = c.in_ok-machine.ensures in
    let same = c.advance.ensures.same in
    let m = c.in_ok-machine.machine in
    let a = c.advance.new.self in
    let sum : a.sum ≡ c.args.steps = omega (arith, same.3, made.2) in
    let went = (c.in_ok-advance.ensures.run made.3 p (subst (IsCodeOf p) (sym made.0) c.in_ok-code.ensures)).follows in
    let none : runs.Moments p m.choices m.sum ≡ [] = ap (runs.Moments p m.choices) made.2 ∙ nothing_seen p m.choices in
    let all : runs.Moments p c.args.choices.now c.args.steps ≡ went.more =
    ap (λ x. runs.Moments p x c.args.steps) (sym made.1) ∙ ap (runs.Moments p m.choices) (sym sum) ∙ went.continues ∙ ap (λ ms. ms ++ went.more) none in
    went.seen ∙ ap (seen_after g.W.Watcher.after (g.W.Watcher.seen c.args.watcher.now)) (sym all)

pub returns-in_err-code-clause-front : goal.returns-in_err-code-clause-front
returns-in_err-code-clause-front g c = on_err c.from_residual.result (saw_none g.W.Watcher.after _ _ _ refl)

pub returns-in_err-machine-clause-front : goal.returns-in_err-machine-clause-front
returns-in_err-machine-clause-front g c = on_err c.from_residual-in_err-machine.result (saw_none g.W.Watcher.after _ _ _ refl)

pub returns-in_err-advance-clause-front : goal.returns-in_err-advance-clause-front
returns-in_err-advance-clause-front g c =
    let p = program_view c.args.program.now in
    let made = c.in_ok-machine.ensures in
    let same = c.advance.ensures.same in
    let m = c.in_ok-machine.machine in
    let a = c.advance.new.self in
    let sum : a.sum ≡ c.args.steps = omega (arith, same.3, made.2) in
    let broken = c.in_err-advance.ensures.front made.3 p (subst (IsCodeOf p) (sym made.0) c.in_ok-code.ensures) in
    let none : runs.Moments p m.choices m.sum ≡ [] = ap (runs.Moments p m.choices) made.2 ∙ nothing_seen p m.choices in
    let all : runs.Moments p c.args.choices.now c.args.steps ≡ broken.more =
    ap (λ x. runs.Moments p x c.args.steps) (sym made.1) ∙ ap (runs.Moments p m.choices) (sym sum) ∙ broken.continues ∙ ap (λ ms. ms ++ broken.more) none in
    on_err c.from_residual-in_err-advance.result
    (subst (λ ms. SawFront g.W.Watcher.after ms (g.W.Watcher.seen c.args.watcher.now) (g.W.Watcher.seen c.advance.new.watcher)) (sym all) broken.front)
