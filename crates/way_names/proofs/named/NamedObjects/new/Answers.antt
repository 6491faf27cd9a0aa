-- What the walk notes is put in order.
use Rattle.std.proofs.Common.{◌≡◌, ◌≤◌, ap, sym, subst, length, ◌∙◌, arith}
use Rattle.c_core.specs.View.{functions_view, program_view}
use Rattle.c_core.specs.declared.place.PlaceKind.TheVariants.{Loop, Statement}
use Rattle.way_names.specs.Scopes.{locals_at, scope_at, statics_from}
use Rattle.way_names.specs.Walk.{start, walked_functions}
use Rattle.way_names.proofs.NamedLaws.{found_in_scopes, found_in_statics}
use Rattle.way_names.proofs.ObjectLaws.{few_objects}
use Rattle.way_names.proofs.WalkLaws.{loops_given, statements_given}
use Rattle.way_names.proofs.named.NamedObjects.new.Goals as goal

pub statics-requires : goal.statics-requires
statics-requires c =
    let few : length c.args.program.now.objects ≤ 100000 = few_objects (program_view c.args.program.now) c.args.program.now.checked in
    let same : length c.as_slice-2.result.now ≡ length c.args.program.now.objects = ap length c.as_slice-2.ensures in
    omega arith

pub of_statics-requires : goal.of_statics-requires
of_statics-requires c =
    let few : length c.args.program.now.objects ≤ 100000 = few_objects (program_view c.args.program.now) c.args.program.now.checked in
    let same : length c.in_ok-keys.keys.objects.now ≡ length c.args.program.now.objects = ap length (c.in_ok-keys.ensures ∙ c.as_slice.ensures) in
    omega arith

pub of_scopes-requires : goal.of_scopes-requires
of_scopes-requires c =
    let few : length c.args.program.now.objects ≤ 100000 = few_objects (program_view c.args.program.now) c.args.program.now.checked in
    let same : length c.in_ok-keys.keys.objects.now ≡ length c.args.program.now.objects = ap length (c.in_ok-keys.ensures ∙ c.as_slice.ensures) in
    omega arith

pub invariant_of-result-clause-named : goal.invariant_of-result-clause-named
invariant_of-result-clause-named c =
    let program = c.args.program.now in
    let p = program_view program in
    let walked = c.in_ok-walk.ensures ∙ ap (λ fs. walked_functions start (functions_view fs)) c.as_slice-3.ensures in
    let one = c.in_ok-keys.ensures ∙ c.as_slice.ensures in
    let found = found_in_scopes c.in_ok-keys.keys.objects.now program.objects c.in_ok-nested.nested c.as_slice-5.result.now c.in_ok-walk.walk.scopes.items one c.as_slice-5.ensures.value c.in_ok-nested.ensures in
    record {
      statics = c.in_ok-statics.ensures ∙ ap (statics_from 0) c.as_slice-2.ensures;
      before = found_in_statics c.in_ok-keys.keys.objects.now program.objects c.in_ok-before.before c.as_slice-4.result.now c.in_ok-statics.statics.items one c.as_slice-4.ensures.value c.in_ok-before.ensures;
      statements = λ spot.
          found (scope_at c.in_ok-statements.statements spot) (locals_at p Statement spot)
          (statements_given c.in_ok-walk.walk (functions_view program.functions) c.in_ok-statements.statements walked c.in_ok-statements.ensures spot);
      loops = λ spot.
          found (scope_at c.in_ok-loops.loops spot) (locals_at p Loop spot)
          (loops_given c.in_ok-walk.walk (functions_view program.functions) c.in_ok-loops.loops walked c.in_ok-loops.ensures spot);
    }
