-- Which outputs are reports.
use Rattle.witval.specs.declared.output.Output.{Output}
use Rattle.witval.specs.Stages.{Reports}

-- the output is the report of some reply
abbrev pub IsReport : Output → Type 0
IsReport output = Reports (λ reply. Unit {0}) output
