-- What depends on whether something is there.
use Rattle.std.specs.Prelude.{Option, Some, None}

-- the first where nothing is there, else what follows from it
abbrev pub by_some : {A B : Type 0} → Option A → B → (A → B) → B
by_some None b f = b
by_some (Some a) b f = f a
