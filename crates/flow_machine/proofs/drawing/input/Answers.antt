use Rattle.std.proofs.Common.{rules, Ok, Some, ap, sym}
use mir.Val.{SFits}
use mir.Syntax.{w128}
use Rattle.std.proofs.lemmas.Int.{to_z-of_z}
use Rattle.c_meaning.specs.declared.run.Event.TheVariants.{Return as Returned}
use Rattle.c_meaning.specs.declared.run.DrawKind.TheVariants.{Input}
use Rattle.c_meaning.specs.Acts.{Go, bind}
use Rattle.c_meaning.specs.Run as runs
use Rattle.c_meaning.specs.Watching.{seen_by}
use Rattle.run_state.specs.Interpreting.{same}
use Rattle.flow_laws.specs.Acting.{program_in, tell}
use Rattle.flow_machine.specs.Views.{state_of}
use Rattle.flow_machine.proofs.Giving.{goes}
use Rattle.flow_machine.proofs.drawing.input.Goals as goal

pub returns-clause-gives : goal.returns-clause-gives
returns-clause-gives g c =
    let x = g.W.Watcher.seen c.args.watcher.now in
    let z : SFits w128 c.in_ok-value.value = search rules in
    let told = rw (to_z-of_z w128 c.in_ok-value.value z) at (c.in_ok-show.ensures.seen) in
    rw (to_z-of_z w128 c.in_ok-value.value z)
    (goes same same c.in_ok-value.value (state_of c.draw.new.run x) (state_of c.draw.new.run (g.W.Watcher.seen c.show.new.watcher))
    (runs.draw (program_in c.args.code.now) g.W.Watcher.Seen (seen_by g.W.Watcher.after) Input c.args.spot c.args.ty (state_of c.args.run.now x))
    (λ v u. bind (tell c.args.code.now g.W.Watcher.Seen g.W.Watcher.after (Returned c.args.close (Some v)) u) (λ _ w. Go v w)) (Ok c.in_ok-value.value)
    (c.in_ok-value.ensures.gives x) (ap (λ w. Go c.in_ok-value.value (state_of c.draw.new.run w)) (sym told)))
