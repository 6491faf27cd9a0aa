use Rattle.std.proofs.Common.{◌∙◌, sym, ap}
use Rattle.c_meaning.specs.Objects.{type_or_int}
use Rattle.sym_walk.specs.Walking.{program_of, mode_of}
use Rattle.sym_exprs.proofs.Typed.{scalar_parts}
use Rattle.sym_exprs.proofs.Forms.{var_step}
use Rattle.sym_eval.proofs.expressions.scalar.Goals as goal

pub look-requires-clause-typed : goal.look-requires-clause-typed
look-requires-clause-typed c =
    let q = scalar_parts (program_of c.args.walk.now) c.args.e.now.spot c.args.e.now.ty c.args.object c.requires.ready.types in
    c.type_of.ensures ∙ ap type_or_int (sym q)

pub returns : goal.returns
returns c =
    var_step (program_of c.args.walk.now) (mode_of c.args.walk.now) c.args.depth c.args.at c.args.sym.now c.in_ok-r.r.bits c.args.e.now.spot c.args.e.now.ty c.args.object c.type_of.result c.type_of.ensures c.requires.ready c.in_ok-r.ensures
