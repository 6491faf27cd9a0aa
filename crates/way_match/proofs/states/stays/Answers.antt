use Rattle.std.proofs.Common.{length, sym, ◌∙◌, ap}
use Rattle.c_core.specs.View.{program_view}
use Rattle.way_match.specs.declared.prepared.Prepared.{Prepared}
use Rattle.way_match.proofs.Views.{ready_length}
use Rattle.way_match.proofs.states.stays.Goals as goal

pub passes_any-requires-clause-one_each : goal.passes_any-requires-clause-one_each
passes_any-requires-clause-one_each c =
    ap length c.as_slice-then-is_some.ensures ∙ ap (λ (x : Prepared). length x.avoids) c.requires ∙
    ready_length (program_view c.args.sight.now.program.now) c.args.segment.now.avoids ∙ sym (ap length c.as_slice.ensures)
