use Rattle.std.proofs.Common.{◌≡◌, ◌++◌, ap, ◌∙◌, arith}
use Rattle.c_core.specs.View.{form_view, program_view}
use Rattle.c_meaning.specs.Parts.{some_of}
use Rattle.c_calls.specs.Marks.{is_marked}
use Rattle.c_calls.specs.Uses.{is_change, uses_of_function, uses_of_loop}
use Rattle.c_calls.proofs.ChangedLaws.{all_changed}
use Rattle.c_calls.proofs.ObjectLaws.{few_objects}
use Rattle.c_calls.proofs.loop_changes.changed_in.Goals as goal

pub collect-requires : goal.collect-requires
collect-requires c = few_objects (program_view c.args.program.now) c.args.program.now.checked

pub returns : goal.returns
returns c =
    let p = program_view c.args.program.now in
    let f = form_view c.args.form.now in
    let listed : c.push_loop.new.uses.items ≡ uses_of_loop f = c.in_ok-push_loop.ensures ∙ ap (λ l. l ++ uses_of_loop f) c.new-uses.ensures.items in
    let order = c.in_ok-functions.functions.order.items in
    c.from_vec.ensures ∙ c.in_ok-objects.ensures
    ∙ all_changed p f order c.as_slice-4.result.now c.as_slice-5.result.now c.as_slice-6.result.now
    (λ es e. c.in_ok-functions.ensures.members es (c.as_slice.ensures.value ∙ listed ∙ e))
    (λ o inside. ap (λ m. is_marked m o) c.as_slice-4.ensures.value ∙ c.in_ok-here.ensures o (omega arith) ∙ ap (some_of (is_change o)) (c.as_slice-2.ensures.value ∙ listed))
    (λ o inside. ap (λ m. is_marked m o) c.as_slice-5.ensures.value ∙ c.in_ok-inside.ensures o (omega arith))
    (λ o inside. ap (λ m. is_marked m o) c.as_slice-6.ensures.value ∙ c.in_ok-there.ensures o (omega arith) ∙ ap (some_of (λ g. some_of (is_change o) (uses_of_function p g))) c.as_slice-3.ensures.value)
