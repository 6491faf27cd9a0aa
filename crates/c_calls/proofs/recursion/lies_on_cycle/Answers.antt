use Rattle.std.proofs.Common.{◌≡◌, ◌+◌, nat_le, refl, sym, ap, ◌∙◌}
use Rattle.std.specs.Prelude.{IsTrue}
use Rattle.c_core.specs.View.{program_view}
use Rattle.c_meaning.specs.Parts.{fulls_of_function}
use Rattle.c_calls.specs.Levels.{each_call, level_of}
use Rattle.c_calls.specs.Marks.{is_marked}
use Rattle.c_calls.specs.Uses.{uses_of_function}
use Rattle.c_calls.proofs.Listing.{not_both}
use Rattle.c_calls.proofs.RecursionLaws.{marked_on_cycle, no_cycle}
use Rattle.c_calls.proofs.UsesLaws.{as_many, of_function}
use Rattle.c_calls.proofs.recursion.lies_on_cycle.Goals as goal

pub returns-then-are_at_least : goal.returns-then-are_at_least
returns-then-are_at_least c =
    let p = program_view c.args.program.now in
    let f = c.args.function in
    let levels = c.args.levels.now in
    let above : IsTrue (each_call (λ g. nat_le (level_of levels f + 1) (level_of levels g)) (uses_of_function p f)) =
    ap (λ n. each_call (λ g. nat_le (n + 1) (level_of levels g)) (uses_of_function p f)) (sym c.level_of.ensures)
    ∙ ap (each_call (λ g. nat_le (c.level_of.result + 1) (level_of levels g))) (sym (c.as_slice.ensures.value ∙ c.in_ok-uses.ensures))
    ∙ sym c.are_at_least.ensures ∙ c.if-are_at_least.true in
    (λ e. not_both _ refl e, λ r. absurd (no_cycle p levels (c.requires c.if-levelled.true) f above r))

pub returns : goal.returns
returns c =
    let p = program_view c.args.program.now in
    let f = c.args.function in
    let found = c.in_ok-found.found in
    let called = c.in_ok-found.ensures.members (fulls_of_function p f) (c.as_slice-2.ensures.value ∙ c.in_ok-uses.ensures ∙ of_function p f) in
    let h = marked_on_cycle p f found.order.items found.marks.items found.agree (c.in_ok-found.ensures.count ∙ sym (as_many c.args.program.now.functions)) called in
    let same : c.has_mark.result ≡ is_marked found.marks.items f = c.has_mark.ensures ∙ ap (λ m. is_marked m f) c.as_slice-3.ensures.value in
    (λ m. h.0 (sym same ∙ m), λ r. same ∙ h.1 r)
