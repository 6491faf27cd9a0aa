-- Texts and their checked programs.
use Rattle.std.specs.Prelude.{ℕ, List}
use Rattle.c_core.specs.Tree.{Program}
use Rattle.c_core.specs.declared.number.DataModel.{DataModel}
use Rattle.c_core.specs.declared.number.Property.{Property}
use Rattle.c_parser.specs.Sources.{IsSource}
use Rattle.c_parser.specs.Tree.{Item}
use Rattle.c_tokens.specs.Reading.{Tokens, Whole}
use Rattle.c_tokens.specs.declared.token.Token.{Token}
use Rattle.check_rules.specs.Checked.{HasProgram}

-- as many bytes as a source may have
abbrev pub most_bytes : ℕ
most_bytes = 1048576

-- the text is tokens, which spell a source, whose checked program is this one
pub record IsTextOf (m : DataModel) (property : Property) (text : List ℕ) (p : Program) : Type 0 where
  pub tokens : List Token
  pub items : List Item
  pub names : List (List ℕ)
  pub spelled : Tokens text tokens Whole
  pub source : IsSource tokens items
  pub checked : HasProgram m property items p names
