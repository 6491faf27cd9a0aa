use Rattle.std.proofs.Common.{◌≡◌, drop}
use Rattle.yaml_scalars.specs.BlockScalar.{no_deeper}
use Rattle.yaml_scalars.proofs.block_scalar.are_no_deeper.Given as goal

abbrev pub invariant-loop-line : goal.invariant-loop-line
invariant-loop-line l = no_deeper l.column (drop l.line-index l.lines) ≡ no_deeper l.column l.lines
