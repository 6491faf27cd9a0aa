-- What is written of a witness that is made: its canonical text, unless that is too long.
use Rattle.std.specs.Prelude.{◌≡◌, ℕ, List, length, nat_lt, if◌then◌else◌, codes}
use Rattle.wv_schema.specs.Canonical.{tree_of}
use Rattle.wv_schema.specs.declared.witness.Witness.{Witness}
use Rattle.wv_yaml.specs.Canon.{canon}
use Rattle.witval.specs.Inputs.{limit_of}
use Rattle.witval.specs.Refusals.{plain}
use Rattle.witval.specs.declared.input.File.TheVariants.{Witness as WitnessFile}
use Rattle.witval.specs.declared.output.Output.{Output}
use Rattle.witval.specs.declared.output.Output.TheVariants.{Report, Canonical}

-- a witness that is longer than one that is read may be
abbrev pub too_large : Output
too_large = Report (plain (codes "too-large"))

-- a canonical text, within the limit of a witness that is read
abbrev pub written_text : List ℕ → Output
written_text text = if nat_lt (limit_of WitnessFile) (length text) then too_large else Canonical text

-- a witness in its canonical form
abbrev pub written : Witness → Output
written witness = written_text (canon (tree_of witness))

abbrev pub IsWritten : Witness → Output → Type 0
IsWritten witness output = output ≡ written witness
