use Rattle.std.proofs.Common.{rules, ◌∙◌, sym, ap, subst, to_z, arith}
use mir.Val.{SFits}
use mir.Syntax.{w128}
use Rattle.std.proofs.lemmas.Int.{to_z-of_z}
use Rattle.c_meaning.specs.Run.{with_cells}
use Rattle.flow_machine.specs.Views.{control_of, state_of}
use Rattle.flow_machine.specs.Rooms.{HasSpare, KeepsStacks}
use Rattle.flow_machine.specs.declared.control.Control.{Control as Here}
use Rattle.flow_machine.proofs.Lasting.{same_stacks, stacks_kept}
use Rattle.flow_machine.proofs.Stored.{not_stored, is_stored, acts_alike}
use Rattle.flow_machine.proofs.results.finish.Goals as goal
use Rattle.flow_machine.proofs.results.finish.Goals.{in-None, in-Some}

pub returns-clause-acts : goal.returns-clause-acts
returns-clause-acts g c = λ code.
    let S = g.W.Watcher.Seen in
    let x = g.W.Watcher.seen c.args.watcher.now in
    let z : SFits w128 c.args.value = search rules in
    let y : SFits w128 c.args.left = search rules in
    acts_alike c.pass.result (control_of c.pass.new.control) (state_of c.match-into.run (g.W.Watcher.seen c.pass.new.watcher)) _ _
    (elim c.match-into.branch [
      | in-None w ↦ not_stored code S g.W.Watcher.after c.args.left c.args.value (to_z w128 c.match-into.value-bits) c.args.into.now.then (control_of c.args.control.now) (control_of c.match-into.control)
          (state_of c.args.run.now x) (state_of c.match-into.run x) c.args.into.now.store w.in-None.is (w.value-is ∙ to_z-of_z w128 c.args.value z) (ap control_of w.control-is) (ap (λ r. state_of r x) w.run-is)
      | in-Some w ↦
          let h = rw (to_z-of_z w128 c.args.value z, to_z-of_z w128 c.args.left y) at w.store-value.ensures.value in
          let p = rw (to_z-of_z w128 c.args.value z) at w.store-value.ensures.cells in
          let q : SFits w128 w.store-value.result = search rules in
          is_stored code S g.W.Watcher.after c.args.left c.args.value (to_z w128 c.match-into.value-bits) c.args.into.now.then (control_of c.args.control.now) (control_of c.match-into.control)
          (state_of c.args.run.now x) (state_of c.match-into.run x) c.args.into.now.store w.in-Some.found w.in-Some.is (w.value-is ∙ to_z-of_z w128 w.store-value.result q ∙ h)
          (ap control_of w.control-is ∙ w.store-value.ensures.control) (ap (λ r. state_of r x) w.run-is ∙ ap (λ cs. with_cells cs (state_of c.args.run.now x)) p)
    ])
    (c.pass.ensures.acts code)

pub returns-clause-kept : goal.returns-clause-kept
returns-clause-kept g c =
    let k : KeepsStacks c.args.control.now c.match-into.control =
    elim c.match-into.branch [
      | in-None w ↦ same_stacks c.args.control.now c.match-into.control w.control-is
      | in-Some w ↦ subst (λ (l : Here). KeepsStacks c.args.control.now l) (sym w.control-is) w.store-value.ensures.kept
    ] in
    stacks_kept c.args.control.now c.match-into.control c.pass.new.control k c.pass.ensures.kept

pub returns-clause-rooms : goal.returns-clause-rooms
returns-clause-rooms g c =
    elim c.match-into.branch [
      | in-None w ↦ rw w.run-is (omega arith, omega arith)
      | in-Some w ↦ rw w.run-is (w.store-value.ensures.room, omega arith)
    ]

pub returns-clause-lasting : goal.returns-clause-lasting
returns-clause-lasting g c = λ sure spare.
    let s : HasSpare c.match-into.control =
    elim c.match-into.branch [
      | in-None w ↦ subst HasSpare (sym w.control-is) spare
      | in-Some w ↦ subst HasSpare (sym w.control-is) (w.store-value.ensures.spare spare)
    ] in
    c.pass.ensures.lasting sure s
