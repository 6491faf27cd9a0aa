use Rattle.std.proofs.Common.{◌≡◌, refl, Some, slice_get}
use Rattle.std.proofs.lemmas.Option.{slice_get_read, slice_get_past}
use Rattle.c_core.specs.View.{program_view}
use Rattle.sym_eval.proofs.Setting.{lacking_set, stored_set}
use Rattle.sym_eval.proofs.parameters.set_parameter.Goals as goal

pub returns-in_ok-store-in-Some : goal.returns-in_ok-store-in-Some
returns-in_ok-store-in-Some c =
    let x = c.in-Some.argument.now in
    let q : slice_get c.args.arguments.now c.args.index ≡ Some x = slice_get_read c.args.arguments.now _ c.args.index x refl c.in-Some.ensures.lookup.3.0 c.in-Some.ensures.lookup.1 in
    stored_set (program_view c.args.program.now) c.args.object c.args.index c.type_of_object-ty.result x c.args.arguments.now c.type_of_object-ty.ensures q c.requires.arguments_in c.in_ok-declare.ensures c.in_ok-store-in-Some.ensures

pub returns-in-None : goal.returns-in-None
returns-in-None c =
    lacking_set (program_view c.args.program.now) c.args.object c.args.index c.args.arguments.now (slice_get_past c.args.arguments.now c.args.index c.in-None.ensures.lookup.3) c.in_ok-declare.ensures
