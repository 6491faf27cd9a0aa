use Rattle.std.proofs.Common.{◌≡◌, ◌++◌, drop, string_bytes}
use Rattle.witval.specs.Demos.{drawn_values}
use Rattle.witval.proofs.demonstration.add_values.Given as goal

abbrev pub invariant-loop-draw : goal.invariant-loop-draw
invariant-loop-draw l = string_bytes l.out ++ drawn_values (drop l.draw-index l.draws) ≡ string_bytes l.fn.out ++ drawn_values l.draws
