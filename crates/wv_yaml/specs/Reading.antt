-- What the reader answers.
use Rattle.std.specs.Prelude.{◌≡◌, ℕ, List, Bool, true, false, Option, Some, None, Result, Ok, Err}
use Rattle.wv_yaml.specs.declared.tree.Tree.{Tree}
use Rattle.yaml_scalars.specs.declared.fault.YamlFault.{YamlFault}
use Rattle.yaml_scalars.specs.declared.fault.YamlFault.TheVariants.{Bytes, Grammar, Duplicate, OutOfMemory}
use Rattle.wv_yaml.specs.Document.{Characters, Spelled}
use Rattle.wv_yaml.specs.Repeats.{Repeats}

-- The answer to bytes: the tree that they spell, where none of its maps repeats a key; that they are no characters which may
-- stand; that they are, and spell no tree; or that they spell a tree with a repeated key. Each answer comes exactly where its
-- condition holds, since no two of them hold together; out of memory may be answered at any time.
abbrev pub IsAnswer : List ℕ → Result Tree YamlFault → Type 0
IsAnswer bytes (Ok t) = Spelled t bytes × (Repeats t → ⊥)
IsAnswer bytes (Err Bytes) = (cs : List ℕ) → Characters bytes cs → ⊥
IsAnswer bytes (Err Grammar) = ((cs : List ℕ) × Characters bytes cs) × ((t : Tree) → Spelled t bytes → ⊥)
IsAnswer bytes (Err Duplicate) = (t : Tree) × Spelled t bytes × Repeats t
IsAnswer bytes (Err OutOfMemory) = Unit {0}

-- the same of what the definitions compute: whether the characters may stand, and the tree, if there is one
abbrev pub IsReading : Bool → Option Tree → Result Tree YamlFault → Type 0
IsReading fit given (Ok t) = (fit ≡ true) × (given ≡ Some t) × (Repeats t → ⊥)
IsReading fit given (Err Bytes) = fit ≡ false
IsReading fit given (Err Grammar) = (fit ≡ true) × (given ≡ None)
IsReading fit given (Err Duplicate) = (fit ≡ true) × ((t : Tree) × (given ≡ Some t) × Repeats t)
IsReading fit given (Err OutOfMemory) = Unit {0}
