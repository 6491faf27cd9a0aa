use Rattle.std.proofs.Common.{◌≡◌, ◌++◌, length}
use Rattle.std.specs.List.{All, flat_map}
use Rattle.wv_cert.specs.Text.{IsStep, step_text}
use Rattle.wv_cert.proofs.Items.{Ends}
use Rattle.wv_cert.proofs.reading.steps.Given as goal

abbrev pub invariant-loop-text : goal.invariant-loop-text
invariant-loop-text l = record {
  fine : All IsStep l.steps;
  ends : Ends l.steps l.text;
  so_far : flat_map step_text l.steps ++ l.text ≡ l.fn.text;
}

abbrev pub decreases-loop-text : goal.decreases-loop-text
decreases-loop-text l = length l.text
