use Rattle.std.proofs.Common.{ℕ, ◌+◌, ◌++◌, ◌∷◌, [], Option, length, ap, ap₂, ◌∙◌}
use Rattle.c_core.specs.View.{program_view, function_view, form_view}
use Rattle.c_core.specs.declared.number.IntType.{IntType}
use Rattle.flow_code.specs.declared.code.Action.TheVariants.{Rest, Leave}
use Rattle.flow_code.specs.declared.sizes.Depth.{Depth}
use Rattle.flow_code.specs.declared.statements.Inside.{Inside}
use Rattle.flow_code.specs.Preparing.{followed, op}
use Rattle.flow_code.specs.Sizes.{outermost, size_of_form}
use Rattle.flow_code.specs.Statements.{form_code}
use Rattle.flow_code.specs.Programs.{in_function}
use Rattle.flow_code.proofs.Gluing.{glued, behind_it}
use Rattle.flow_code.proofs.compiled.add_body.Goals as goal

pub returns : goal.returns
returns c =
    let p = program_view c.args.program.now in
    let old = c.args.ops.now in
    let f = c.args.function.now in
    let x = form_view f.body.form in
    let at = f.body.spot in
    let made : Depth → ℕ → Option IntType → Inside = λ d n ty. record { broken = n; again = n; depth = d; result = ty } in
    let here = length c.emit.new.ops in
    let size = c.in_ok-size.ensures ∙ ap (λ d. size_of_form d x) c.outermost-depth.ensures in
    let inside = ap (λ d. made d c.in_ok-leave.leave c.native_if-result.result) c.outermost-depth.ensures ∙ ap₂ (made outermost) (c.in_ok-leave.ensures ∙ ap (λ n. here + n) size) c.native_if-result.ensures in
    let body = λ (j : ℕ). form_code p j (in_function p.model (j + size_of_form outermost x) (function_view f)) at x in
    let inner = glued old (op 1 Rest ∷ []) c.emit.new.ops c.form.new.ops body c.in_ok-emit.ensures (c.in_ok-form.ensures ∙ ap (λ w. c.emit.new.ops ++ form_code p here w at x) inside) in
    behind_it old (followed (length old) (op 1 Rest ∷ []) body) c.form.new.ops c.emit-2.new.ops (op 0 Leave ∷ []) inner c.in_ok-emit-2.ensures
