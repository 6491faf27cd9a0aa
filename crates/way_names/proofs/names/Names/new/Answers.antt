-- What the walk notes is put in order.
use Rattle.std.proofs.Common.{◌≡◌, ◌≤◌, ap, length, ◌∙◌, arith}
use Rattle.c_core.specs.View.{functions_view, program_view}
use Rattle.way_names.specs.Scopes.{statics_from}
use Rattle.way_names.specs.Walk.{start, walked_functions}
use Rattle.way_names.proofs.ObjectLaws.{few_objects}
use Rattle.way_names.proofs.WalkLaws.{loops_given, statements_given}
use Rattle.way_names.proofs.names.Names.new.Goals as goal

pub statics-requires : goal.statics-requires
statics-requires c =
    let few : length c.args.program.now.objects ≤ 100000 = few_objects (program_view c.args.program.now) c.args.program.now.checked in
    let same : length c.as_slice.result.now ≡ length c.args.program.now.objects = ap length c.as_slice.ensures in
    omega arith

pub invariant_of-result : goal.invariant_of-result
invariant_of-result c =
    let walked = c.in_ok-walk.ensures ∙ ap (λ fs. walked_functions start (functions_view fs)) c.as_slice-2.ensures in
    record {
      statics = c.in_ok-statics.ensures ∙ ap (statics_from 0) c.as_slice.ensures;
      statements = statements_given c.in_ok-walk.walk (functions_view c.args.program.now.functions) c.in_ok-statements.statements walked c.in_ok-statements.ensures;
      loops = loops_given c.in_ok-walk.walk (functions_view c.args.program.now.functions) c.in_ok-loops.loops walked c.in_ok-loops.ensures;
    }
