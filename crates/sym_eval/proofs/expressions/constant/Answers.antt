use mir.Val.{SFits}
use mir.Syntax.{w128}
use Rattle.std.proofs.lemmas.Int.{to_z-of_z}
use Rattle.std.proofs.Common.{rules}
use Rattle.sym_walk.specs.Walking.{program_of, mode_of}
use Rattle.sym_exprs.proofs.Forms.{const_step}
use Rattle.sym_eval.proofs.expressions.constant.Goals as goal

pub returns : goal.returns
returns c =
    let z : SFits w128 c.args.value = search rules in
    let k = rw (to_z-of_z w128 c.args.value z) at c.in_ok-r.ensures in
    const_step (program_of c.args.walk.now) (mode_of c.args.walk.now) c.args.depth c.args.at c.args.sym.now c.in_ok-r.r.bits c.args.e.now.spot c.args.e.now.ty c.args.value c.type_of.result c.type_of.ensures c.requires.ready k
