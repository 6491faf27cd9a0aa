use Rattle.std.proofs.Common.{◌≡◌, ◌++◌, drop, string_bytes, take}
use Rattle.std.specs.List.{All, flat_map}
use Rattle.wv_cert.specs.Text.{IsStep, step_text}
use Rattle.wv_cert.proofs.writing.add_steps.Given as goal

abbrev pub invariant-loop-step : goal.invariant-loop-step
invariant-loop-step l = record {
  text : string_bytes l.out ++ flat_map step_text (drop l.step-index l.steps) ≡ string_bytes l.fn.out ++ flat_map step_text l.steps;
  fine : All IsStep (take l.step-index l.steps);
}
