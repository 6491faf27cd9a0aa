use Rattle.std.proofs.Common.{◌≡◌, ◌++◌, ap, ◌∙◌}
use Rattle.c_core.specs.View.{program_view}
use Rattle.c_core.specs.declared.program.Program.{Program}
use Rattle.c_meaning.specs.declared.run.Choices.TheVariants.{Given}
use Rattle.way_places.specs.Inputs.{calls_view}
use Rattle.way_match.specs.inside.Gathered.{choices_for, choices_in, gathered, values_view}
use Rattle.way_match.specs.Given.{input_calls}
use Rattle.way_match.specs.View.{each_segment_view, segments_view}
use Rattle.way_match.proofs.GatherLaws.{given_is_gathered}
use Rattle.way_match.proofs.ValueLaws.{choices_same}
use Rattle.way_match.proofs.given_values.given_over.Goals as goal

pub returns : goal.returns
returns c =
    let p = program_view c.args.index.now in
    let follows : values_view c.as_slice-2.result.now ≡ gathered p (segments_view c.args.bound.now) =
    ap values_view c.as_slice-2.ensures.value ∙ c.in_ok-gathered.ensures
    ∙ ap (λ ss. gathered p (each_segment_view ss)) c.as_slice.ensures in
    let calls : calls_view c.as_slice-3.result.now ≡ input_calls p =
    ap calls_view c.as_slice-3.ensures.value ∙ c.in_ok-calls.ensures ∙ ap (λ (q : Program). input_calls (program_view q)) c.program.ensures in
    ap Given
    (c.in_ok-push_choices.ensures
    ∙ ap (λ l. l ++ choices_in c.in_ok-values.values (calls_view c.as_slice-3.result.now)) c.new-list.ensures
    ∙ choices_same c.in_ok-values.values (values_view c.as_slice-2.result.now) (calls_view c.as_slice-3.result.now) c.in_ok-values.ensures
    ∙ ap (λ g. choices_for g (calls_view c.as_slice-3.result.now)) follows
    ∙ ap (λ k. choices_for (gathered p (segments_view c.args.bound.now)) k) calls)
    ∙ given_is_gathered p (segments_view c.args.bound.now)
