use Rattle.std.proofs.Common.{rules, sym, ◌∙◌, arith}
use mir.Val.{SFits}
use mir.Syntax.{w128}
use Rattle.std.proofs.lemmas.Int.{to_z-of_z}
use Rattle.flow_laws.specs.Acting.{cells_drawn}
use Rattle.flow_machine.specs.Views.{state_of}
use Rattle.flow_machine.proofs.Drawn.{drawn_on, drawn_out}
use Rattle.flow_machine.proofs.drawing.draw_cells.Goals as goal

pub loop-index-preserved : goal.loop-index-preserved
loop-index-preserved g c =
    let i = c.loop-index.invariant in
    let n = c.in_ok-value.ensures.counts in
    let z : SFits w128 c.in_ok-value.value = search rules in
    let p = rw (to_z-of_z w128 c.in_ok-value.value z) at c.set.ensures.cells in
    record {
      gives = λ x.
          drawn_on c.args.code.now g.W.Watcher.Seen g.W.Watcher.after c.args.spot c.args.object c.args.ty c.loop-index.index c.args.size c.loop-index-test.true
          (state_of c.loop-index.run x) (state_of c.draw.new.run x) c.in_ok-value.value c.set.new.self.cells
          (cells_drawn c.args.code.now g.W.Watcher.Seen g.W.Watcher.after c.args.spot c.args.object c.args.ty 0 c.args.size (state_of c.args.run.now x)) (i.gives x) (c.in_ok-value.ensures.gives x) p;
      rooms = (omega (arith, i.rooms.0, c.draw.ensures.rooms.0, c.set.ensures.kept), omega (arith, i.rooms.1, c.draw.ensures.rooms.1));
      draws = omega (arith, i.draws, n.0);
      counted = λ h. let j = i.counted h in omega (arith, j, n.0, n.1);
    }

pub returns-clause-gives : goal.returns-clause-gives
returns-clause-gives g c = λ x.
    sym (c.loop-index.invariant.gives x)
    ∙ drawn_out c.args.code.now g.W.Watcher.Seen g.W.Watcher.after c.args.spot c.args.object c.args.ty c.loop-index.index c.args.size c.loop-index-test.false (state_of c.loop-index.run x)
