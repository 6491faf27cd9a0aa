use Rattle.std.proofs.Common.{arith}
use Rattle.circuits.proofs.Nets.{grown_then, three}
use Rattle.sym_flow.proofs.Calls.{four_means}
use Rattle.sym_flow.proofs.calling.all_ways.Goals as goal

pub returns-in_err-three-clause-grown : goal.returns-in_err-three-clause-grown
returns-in_err-three-clause-grown c = grown_then 1 1 3 c.args.net.now c.together.new.self c.together-2.new.self c.in_ok-two.ensures.grown c.in_err-three.ensures.grown (omega arith)

pub returns-in_err-four-clause-grown : goal.returns-in_err-four-clause-grown
returns-in_err-four-clause-grown c = three 3 c.in_ok-two.ensures.grown c.in_ok-three.ensures.grown c.in_err-four.ensures.grown (omega arith)

pub returns-clause-grown : goal.returns-clause-grown
returns-clause-grown c = three 3 c.in_ok-two.ensures.grown c.in_ok-three.ensures.grown c.in_ok-four.ensures.grown (omega arith)

pub returns-clause-value : goal.returns-clause-value
returns-clause-value c =
    four_means c.args.net.now c.together.new.self c.together-2.new.self c.together-3.new.self c.args.live c.args.broken c.args.again c.args.gave c.in_ok-two.two c.in_ok-three.three c.in_ok-four.four
    c.requires.live_in c.requires.broken_in c.requires.again_in c.requires.gave_in c.in_ok-two.ensures.grown c.in_ok-three.ensures.grown c.in_ok-four.ensures.grown c.in_ok-two.ensures.value c.in_ok-three.ensures.value c.in_ok-four.ensures.value
