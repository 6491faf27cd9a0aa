-- Levels of functions by which cycles are ruled out.
use Rattle.std.specs.Prelude.{◌<◌, ℕ, nat_le, Bool, true, ◌&&◌, List, [], ◌∷◌, length, IsTrue, slice_index_or}
use Rattle.c_core.specs.Tree.{Program}
use Rattle.c_calls.specs.Uses.{uses_of_function}
use Rattle.c_calls.specs.declared.uses.Use.{Use}
use Rattle.c_calls.specs.declared.uses.Use.TheVariants.{Changes, Calls}

-- a function of the program has a level; a number beyond has the highest
abbrev pub level_of : List ℕ → ℕ → ℕ
level_of levels f = slice_index_or levels f 4294967295

-- a test holds of each function called there
abbrev pub each_call : (ℕ → Bool) → List Use → Bool
each_call q [] = true
each_call q (Changes o ∷ uses) = each_call q uses
each_call q (Calls f ∷ uses) = q f && each_call q uses

-- no call leads to a lower level
abbrev pub IsLevelled : Program → List ℕ → Type 0
IsLevelled p levels = (f : ℕ) → f < length p.functions → IsTrue (each_call (λ g. nat_le (level_of levels f) (level_of levels g)) (uses_of_function p f))
