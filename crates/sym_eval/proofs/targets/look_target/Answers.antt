use Rattle.std.proofs.Common.{◌∙◌, ◌+◌, ◌<◌, ◌^◌, sym, ap, subst, Some, length}
use Rattle.c_core.specs.View.{program_view}
use Rattle.c_meaning.specs.Objects.{type_of_object}
use Rattle.sym_values.specs.Valuing.{Gives}
use Rattle.sym_exprs.specs.Targeting.{looked_at}
use Rattle.sym_eval.specs.Targets.{object_of, keys_of, IsTarget, reading}
use Rattle.sym_eval.proofs.Found.{look_scalar}
use Rattle.sym_eval.proofs.targets.look_target.Goals as goal

pub look-requires-clause-typed : goal.look-requires-clause-typed
look-requires-clause-typed c = c.requires.typed ∙ ap (λ t. type_of_object (program_view c.args.program.now) (object_of t)) c.in-Scalar.is

pub read_element-requires-clause-typed : goal.read_element-requires-clause-typed
read_element-requires-clause-typed c = c.requires.typed ∙ ap (λ t. type_of_object (program_view c.args.program.now) (object_of t)) c.in-Element.is

pub read_element-requires-clause-places_of : goal.read_element-requires-clause-places_of
read_element-requires-clause-places_of c = subst (IsTarget (program_view c.args.program.now) c.args.sym.now) c.in-Element.is c.requires.is

pub read_element-requires-clause-room : goal.read_element-requires-clause-room
read_element-requires-clause-room c = subst (λ t. length c.args.sym.now.net + reading (program_view c.args.program.now) t < 2 ^ 28) c.in-Element.is c.requires.room

pub returns-in_ok-r-in-Scalar : goal.returns-in_ok-r-in-Scalar
returns-in_ok-r-in-Scalar c W =
    let p = program_view c.args.program.now in
    let s = c.args.sym.now in
    subst (λ t. Gives p W (reading p t) 0 s s (Some c.args.ty) c.in_ok-r-in-Scalar.r.bits (looked_at p W (keys_of t s.net))) (sym c.in-Scalar.is) (look_scalar p W s c.in-Scalar.object c.args.ty c.in_ok-r-in-Scalar.r.bits c.requires.fits c.in_ok-r-in-Scalar.ensures)

pub returns-in_ok-r-in-Element : goal.returns-in_ok-r-in-Element
returns-in_ok-r-in-Element c W =
    let p = program_view c.args.program.now in
    let s = c.args.sym.now in
    subst (λ t. Gives p W (reading p t) 0 s c.read_element.new.sym (Some c.args.ty) c.in_ok-r-in-Element.r.bits (looked_at p W (keys_of t s.net))) (sym c.in-Element.is) (c.in_ok-r-in-Element.ensures W)
