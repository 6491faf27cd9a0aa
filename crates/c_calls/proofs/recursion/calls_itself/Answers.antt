use Rattle.std.proofs.Common.{List, Bool, sym, ap, ◌∙◌, subst}
use Rattle.std.specs.Prelude.{IsTrue}
use Rattle.c_core.specs.View.{program_view}
use Rattle.c_meaning.specs.Parts.{is_in}
use Rattle.c_calls.specs.Calling.{IsFirstOnCycle}
use Rattle.c_calls.specs.Marks.{is_marked}
use Rattle.c_calls.proofs.RecursionLaws.{first_recursion, marked_within}
use Rattle.c_calls.proofs.UsesLaws.{as_many}
use Rattle.c_calls.proofs.recursion.calls_itself.Goals as goal

pub first_on_cycle-requires-clause-listed : goal.first_on_cycle-requires-clause-listed
first_on_cycle-requires-clause-listed c f m =
    let found = c.in_ok-found.found in
    let marked : IsTrue (is_marked found.marks.items f) = ap (λ l. is_marked l f) (sym c.as_slice-3.ensures.value) ∙ m in
    ap (is_in f) c.as_slice-2.ensures.value ∙ sym (found.agree f (marked_within found.marks.items f marked)) ∙ marked

pub returns : goal.returns
returns c =
    let p = program_view c.args.program.now in
    let found = c.in_ok-found.found in
    first_recursion p found.order.items found.marks.items c.args.program.now.checked.main found.agree (c.in_ok-found.ensures.count ∙ sym (as_many c.args.program.now.functions)) c.in_ok-found.ensures.members c.in_ok-first.first
    (subst (λ (l : List Bool). IsFirstOnCycle p (is_marked l) c.in_ok-first.first) c.as_slice-3.ensures.value c.in_ok-first.ensures)
