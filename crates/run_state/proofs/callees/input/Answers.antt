use Rattle.std.proofs.Common.{rules, ◌≡◌, Err}
use mir.Val.{SFits}
use mir.Syntax.{w128}
use Rattle.std.proofs.lemmas.Int.{to_z-of_z}
use Rattle.c_core.specs.View.{program_view}
use Rattle.run_state.specs.Interpreting.{site_of, state_of}
use Rattle.run_state.proofs.Evaluating.{input_halted, drawn}
use Rattle.run_state.proofs.callees.input.Goals as goal

pub returns-in_err-value-clause-gives : goal.returns-in_err-value-clause-gives
returns-in_err-value-clause-gives g c =
    let e : c.from_residual.result ≡ Err c.in_err-value.field-0.0 = search rules in
    let x = g.W.Watcher.seen c.args.watcher.now in
    rw e (input_halted (program_view c.args.program.now) g.W.Watcher.Seen g.W.Watcher.after 0 (site_of c.args.site) c.args.ty (state_of c.args.machine.now x) (state_of c.draw.new.machine x) c.in_err-value.field-0.0 (c.in_err-value.ensures.gives x))

pub returns-clause-gives : goal.returns-clause-gives
returns-clause-gives g c =
    let x = g.W.Watcher.seen c.args.watcher.now in
    let z : SFits w128 c.in_ok-value.value = search rules in
    let h = rw (to_z-of_z w128 c.in_ok-value.value z) at c.hand_back.ensures.gives in
    drawn (program_view c.args.program.now) g.W.Watcher.Seen g.W.Watcher.after 0 (site_of c.args.site) c.args.ty (state_of c.args.machine.now x) (state_of c.draw.new.machine x)
    (state_of c.draw.new.machine (g.W.Watcher.seen c.hand_back.new.watcher)) c.in_ok-value.value c.hand_back.result (c.in_ok-value.ensures.gives x) h
