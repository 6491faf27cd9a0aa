use Rattle.std.proofs.Common.{◌≡◌, [], length, List, ℕ, sym, ap, ◌∙◌, subst}
use Rattle.c_core.specs.View.{program_view}
use Rattle.c_calls.specs.Calling.{HasReached}
use Rattle.c_calls.specs.Marks.{all_added}
use Rattle.c_calls.proofs.SpreadLaws.{called_by_search}
use Rattle.c_calls.proofs.UsesLaws.{as_many}
use Rattle.c_calls.proofs.search.called.Goals as goal

pub returns-clause-members : goal.returns-clause-members
returns-clause-members c es e =
    let p = program_view c.args.program.now in
    let all = c.spread.new.found.order.items in
    let count : length c.in_ok-found.found.marks.items ≡ length p.functions = c.in_ok-found.ensures.count ∙ c.len.ensures ∙ sym (as_many c.args.program.now.functions) in
    let same : c.add_called.new.found.order.items ≡ all_added (length p.functions) [] c.args.uses.now = c.in_ok-add_called.ensures.order ∙ ap (λ n. all_added n c.in_ok-found.found.order.items c.args.uses.now) count ∙ ap (λ l. all_added (length p.functions) l c.args.uses.now) c.in_ok-found.ensures.order in
    called_by_search p es c.args.uses.now all e (subst (λ (l : List ℕ). HasReached p l all) same c.in_ok-spread.ensures.members)
