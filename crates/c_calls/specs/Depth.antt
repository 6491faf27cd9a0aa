-- How deep calls go.
use Rattle.std.specs.Prelude.{◌≡◌, ◌≤◌, ℕ, List, [], ◌∷◌, length}
use Rattle.c_core.specs.Tree.{Program}
use Rattle.c_meaning.specs.Acts.{Flow}
use Rattle.c_meaning.specs.Duties.{Placed}
use Rattle.c_meaning.specs.Exec.{run_main}
use Rattle.c_meaning.specs.Havoc.{Act, havoc}
use Rattle.c_meaning.specs.Parts.{fulls_of_function}
use Rattle.c_calls.specs.Calling.{IsCalledIn}

-- each of these functions has a call of the one after it
abbrev pub IsChainFrom : Program → ℕ → List ℕ → Type 0
IsChainFrom p f [] = Unit {0}
IsChainFrom p f (g ∷ gs) = IsCalledIn p (fulls_of_function p f) g × IsChainFrom p g gs

-- a chain of calls from main has at most as many functions, main among them, as the program
abbrev pub ChainsAreShort : Program → Type 0
ChainsAreShort p = (gs : List ℕ) → IsChainFrom p p.main gs → length (p.main ∷ gs) ≤ length p.functions

-- a bound on the depth of calls that no havoc run meets: whatever stood beneath it, the run would be the same
abbrev pub IsNeverMet : Program → List Placed → ℕ → Type 0
IsNeverMet p I n = (deep : Act p I Flow) → run_main p (record (havoc p I) { deep = deep }) n ≡ run_main p (havoc p I) n
