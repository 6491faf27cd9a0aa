-- What a call answers, by what a definition gives.
use Rattle.std.specs.Str.{encode_utf8_all}
use Rattle.std.specs.Prelude.{◌≡◌, ℕ, List, ◌++◌, Option, Some, None, Result, Ok, Err}
use Rattle.yaml_scalars.specs.Quoted.{Step, Refused, Closed, Stands}
use Rattle.yaml_scalars.specs.declared.fault.YamlFault.{YamlFault}
use Rattle.yaml_scalars.specs.declared.fault.YamlFault.TheVariants.{Bytes, Grammar, Duplicate, OutOfMemory}

-- a refusal where nothing is given; out of memory may be answered at any time
abbrev pub Fails : {Y : Type 0} → YamlFault → Option Y → Type 0
Fails Bytes given = ⊥
Fails Grammar given = given ≡ None
Fails Duplicate given = ⊥
Fails OutOfMemory given = Unit {0}

abbrev pub Gives : {X Y : Type 0} → (X → Y) → Result X YamlFault → Option Y → Type 0
Gives view (Ok x) given = given ≡ Some (view x)
Gives view (Err e) given = Fails e given

-- a text that is written after another
abbrev pub behind : List ℕ → Option (List ℕ) → Option (List ℕ)
behind front None = None
behind front (Some more) = Some (front ++ encode_utf8_all more)

-- a step within quotes: the text so far, and how many more characters it takes; or that the scalar ends
abbrev pub stepped : List ℕ → Step → Option (Option ℕ × List ℕ)
stepped front Refused = None
stepped front Closed = Some (None, front)
stepped front (Stands v more) = Some (Some more, front ++ encode_utf8_all v)

-- a value that is written after another text, and the characters that it takes
abbrev pub with_text : List ℕ → Option (List ℕ × ℕ) → Option (List ℕ × ℕ)
with_text front None = None
with_text front (Some r) = Some (front ++ encode_utf8_all r.0, r.1)
