use Rattle.std.proofs.Common.{◌≡◌, ◌<◌, [], ◌∷◌, length, List, ℕ, ap, ◌∙◌, subst, arith}
use Rattle.c_core.specs.View.{program_view}
use Rattle.c_calls.specs.Calling.{HasReached}
use Rattle.c_calls.specs.Marks.{added}
use Rattle.c_calls.proofs.RecursionLaws.{main_added, main_within}
use Rattle.c_calls.proofs.UsesLaws.{as_many}
use Rattle.c_calls.proofs.recursion.from_main.Goals as goal

pub returns-clause-members : goal.returns-clause-members
returns-clause-members c =
    let p = program_view c.args.program.now in
    let main = c.args.program.now.main in
    let count : length c.in_ok-found.found.marks.items ≡ length c.args.program.now.functions = c.in_ok-found.ensures.count ∙ c.len.ensures in
    let many = as_many c.args.program.now.functions in
    let known = main_within p c.args.program.now.checked.main in
    let inside : main < length c.args.program.now.functions = omega arith in
    let same : c.add.new.found.order.items ≡ main ∷ [] =
    c.in_ok-add.ensures.order ∙ ap (λ n. added n c.in_ok-found.found.order.items main) count ∙ ap (λ l. added (length c.args.program.now.functions) l main) c.in_ok-found.ensures.order
    ∙ main_added (length c.args.program.now.functions) main inside in
    subst (λ (l : List ℕ). HasReached p l c.spread.new.found.order.items) same c.in_ok-spread.ensures.members
