use Rattle.std.proofs.Common.{ℕ, ◌+◌, ◌++◌, List, drop, length, refl, ap, ap₂, sym, ◌∙◌}
use Rattle.std.proofs.lemmas.List.{drop_all}
use Rattle.c_core.specs.View.{program_view, function_view, functions_view}
use Rattle.flow_code.specs.declared.code.Body.{Body}
use Rattle.flow_code.specs.declared.code.Parameter.{Parameter}
use Rattle.flow_code.specs.Programs.{function_code, functions_code, bodies, parameters_of}
use Rattle.flow_code.proofs.Gluing.{next_item, walk_on, walk_done}
use Rattle.flow_code.proofs.Listing.{bodies_on, listed_done}
use Rattle.flow_code.proofs.compiled.functions.Goals as goal

pub loop-function-preserved : goal.loop-function-preserved
loop-function-preserved c =
    let p = program_view c.args.program.now in
    let fs = c.args.program.now.functions in
    let i = c.loop-function.function-index in
    let f = c.function-item.result in
    let lt = rw c.as_slice-function-items.ensures at c.loop-function-test.true in
    let is = rw c.as_slice-function-items.ensures at c.function-item.is in
    let d = next_item fs i f lt is in
    let made : ℕ → List Parameter → Body = λ n ps. record { entry = n; parameters = ps } in
    record {
      code = walk_on fs i f c.loop-function.ops c.add_body.new.ops _ (λ j xs. functions_code p j (functions_view xs)) (λ j xs. functions_code p j (functions_view xs))
          (λ j. function_code p j (function_view f)) d (λ j. refl) c.loop-function.invariant.code c.in_ok-add_body.ensures;
      found = bodies_on p (function_view f) (functions_view (drop (i + 1) fs)) (made c.in_ok-entry.entry c.in_ok-parameters.parameters) c.loop-function.ops c.add_body.new.ops c.loop-function.found c.push.new.self _
          (ap₂ made c.in_ok-entry.ensures (c.in_ok-parameters.ensures ∙ ap (parameters_of p) c.as_slice.ensures)) c.in_ok-add_body.ensures c.in_ok-push.ensures.ok
          (ap (λ xs. c.loop-function.found ++ bodies p (length c.loop-function.ops) (functions_view xs)) (sym d) ∙ c.loop-function.invariant.found);
    }

pub returns-clause-code : goal.returns-clause-code
returns-clause-code c =
    let le = rw c.as_slice-function-items.ensures at c.loop-function-test.false in
    walk_done c.args.program.now.functions c.loop-function.function-index c.loop-function.ops _ (λ j xs. functions_code (program_view c.args.program.now) j (functions_view xs))
    (drop_all c.loop-function.function-index c.args.program.now.functions le) refl c.loop-function.invariant.code

pub returns-clause-found : goal.returns-clause-found
returns-clause-found c =
    let le = rw c.as_slice-function-items.ensures at c.loop-function-test.false in
    listed_done c.args.program.now.functions c.loop-function.function-index c.loop-function.found _ (λ xs. bodies (program_view c.args.program.now) (length c.loop-function.ops) (functions_view xs))
    (drop_all c.loop-function.function-index c.args.program.now.functions le) refl c.loop-function.invariant.found
