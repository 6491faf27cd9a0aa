-- The witness that is made of segments.
use Rattle.std.specs.Prelude.{ℕ, List, codes}
use Rattle.c_core.specs.declared.number.DataModel.{DataModel}
use Rattle.c_core.specs.declared.number.Property.{Property}
use Rattle.wv_schema.specs.Canonical.{tree_of}
use Rattle.wv_schema.specs.declared.witness.Content.TheVariants.{Violation}
use Rattle.wv_schema.specs.declared.witness.Segment.{Segment}
use Rattle.wv_schema.specs.declared.witness.Witness.{Witness}
use Rattle.wv_yaml.specs.Canon.{Fits, IsCollection}
use Rattle.wv_yaml.specs.Document.{max_depth}
use Rattle.wv_yaml.specs.Repeats.{Repeats}
use Rattle.wv_author.specs.Witnesses.{witness_about}
use Rattle.wv_author.specs.declared.witnesses.Details.{Details}

-- what it says of its task and of its making
abbrev pub authored_details : List ℕ → Property → DataModel → List ℕ → List ℕ → Details
authored_details file property model uuid time = record {
  uuid = uuid;
  creation_time = time;
  producer = codes "witval";
  file = file;
  property = property;
  model = model;
}

-- the violation witness with these segments about the program of one file
abbrev pub authored : List ℕ → List ℕ → List Segment → Property → DataModel → List ℕ → List ℕ → Witness
authored program file segments property model uuid time =
    witness_about (authored_details file property model uuid time) program (Violation segments)

-- a witness whose tree has a canonical text
pub record HasText (witness : Witness) : Type 0 where
  pub collection : IsCollection (tree_of witness)
  pub fits : Fits max_depth (tree_of witness)
  pub no_repeats : Repeats (tree_of witness) → ⊥
