-- What the demo of a number is made of.
use Rattle.std.specs.Prelude.{ℕ, ◌≤◌, length}
use Rattle.wv_schema.specs.Canonical.{tree_of}
use Rattle.wv_schema.specs.Rules.{MeetsSchema}
use Rattle.wv_schema.specs.declared.witness.Witness.{Witness}
use Rattle.wv_yaml.specs.Canon.{Fits, IsCollection}
use Rattle.wv_yaml.specs.Document.{max_depth}
use Rattle.wv_yaml.specs.Repeats.{Repeats}
use Rattle.wv_author.specs.Programs.{correct_program, faulty_program}
use Rattle.wv_author.specs.Witnesses.{invariants, violation}
use Rattle.wv_author.specs.declared.making.Made.{Made}

-- two programs, and a witness about each with its own program's hash
unfoldable pub demo_of : ℕ → Made
demo_of n = record {
  correct = correct_program n;
  faulty = faulty_program n;
  invariants = invariants n (correct_program n);
  violation = violation n (faulty_program n);
}

-- the programs are within the length that a validator reads, in bytes
pub record AreWithin (made : Made) : Type 0 where
  pub correct_within : length made.correct ≤ 1048576
  pub faulty_within : length made.faulty ≤ 1048576

-- a witness that the schema knows, and whose tree has a canonical text
pub record CanBeWritten (witness : Witness) : Type 0 where
  pub meets : MeetsSchema witness
  pub collection : IsCollection (tree_of witness)
  pub fits : Fits max_depth (tree_of witness)
  pub no_repeats : Repeats (tree_of witness) → ⊥

-- both witnesses are such
pub record AreWritable (made : Made) : Type 0 where
  pub invariants_writable : CanBeWritten made.invariants
  pub violation_writable : CanBeWritten made.violation
