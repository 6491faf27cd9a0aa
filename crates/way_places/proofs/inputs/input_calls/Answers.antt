use Rattle.std.proofs.Common.{◌++◌, ap, ◌∙◌}
use Rattle.std.specs.List.{filter_map, flat_map}
use Rattle.c_core.specs.Parts.{exps_of, exps_of_program}
use Rattle.c_core.specs.View.{program_view}
use Rattle.way_places.specs.Calls.{call_of, ends_view, fulls_view}
use Rattle.way_places.specs.Inputs.{calls_view, inputs_among}
use Rattle.way_places.proofs.CallLaws.{inputs_of_calls}
use Rattle.way_places.proofs.inputs.input_calls.Goals as goal

pub returns : goal.returns
returns c =
    c.in_ok-push_inputs.ensures
    ∙ ap (λ l. calls_view l ++ inputs_among (ends_view c.as_slice-2.result.now)) c.new-list.ensures.items
    ∙ ap (λ l. inputs_among (ends_view l)) c.as_slice-2.ensures.value
    ∙ ap inputs_among (c.in_ok-calls.ensures
    ∙ ap (λ l. filter_map call_of (flat_map exps_of (fulls_view l))) c.as_slice.ensures.value
    ∙ ap (λ es. filter_map call_of (flat_map exps_of es)) c.in_ok-fulls.ensures)
    ∙ inputs_of_calls (exps_of_program (program_view c.args.program.now))
