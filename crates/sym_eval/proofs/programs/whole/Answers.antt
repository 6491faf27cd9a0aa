use Rattle.std.proofs.Common.{rules, refl, ap, subst, arith}
use Rattle.std.specs.Prelude.{length}
use Rattle.c_core.specs.View.{program_view, form_view}
use Rattle.sym_flow.specs.Calling.{Enters}
use Rattle.sym_walk.specs.Walking.{mode_of}
use Rattle.sym_eval.proofs.Wholly.{main_within, function_at, main_ready, main_whole}
use Rattle.sym_eval.proofs.programs.whole.Goals as goal

pub bounds-as_slice-program : goal.bounds-as_slice-program
bounds-as_slice-program c =
    let program = c.args.walk.now.program.now in
    let within = main_within (program_view program) program.functions refl program.checked in
    omega (arith, within, ap length c.as_slice.ensures)

pub form-requires-clause-ready : goal.form-requires-clause-ready
form-requires-clause-ready c =
    let program = c.args.walk.now.program.now in
    let p = program_view program in
    let main = c.index-as_slice-program.result in
    let within = main_within p program.functions refl program.checked in
    let found = function_at program.functions program.main main within (search rules) in
    let entered = subst (λ ty. Enters p ty c.in_ok-sym.sym c.enter.new.sym) c.type_or_int.ensures c.in_ok-_caller.ensures.enters in
    main_ready p (mode_of c.args.walk.now) c.args.depth main.result main.params main.body.spot (form_view main.body.form) found c.in_ok-sym.ensures entered program.checked c.requires.light

pub returns : goal.returns
returns c =
    let program = c.args.walk.now.program.now in
    let p = program_view program in
    let main = c.index-as_slice-program.result in
    let within = main_within p program.functions refl program.checked in
    let found = function_at program.functions program.main main within (search rules) in
    let entered = subst (λ ty. Enters p ty c.in_ok-sym.sym c.enter.new.sym) c.type_or_int.ensures c.in_ok-_caller.ensures.enters in
    main_whole p (mode_of c.args.walk.now) c.args.depth main.result main.params main.body.spot (form_view main.body.form) found c.in_ok-sym.ensures entered c.requires.duties c.nodes.ensures.fine c.in_ok-form.ensures
