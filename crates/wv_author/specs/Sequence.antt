-- The bounds of a demo's loops: they are drawn from a linear congruential sequence that begins with the demo's number.
use Rattle.std.specs.Prelude.{ℕ, zero, suc, ◌+◌, ◌*◌, ◌/◌, ◌%◌, ◌^◌, List, [], ◌∷◌, ◌++◌}

-- the number after this one
abbrev pub next : ℕ → ℕ
next s = (1103515245 * s + 12345) % 2 ^ 31

-- the k-th number after n
unfoldable pub sequence : ℕ → ℕ → ℕ
sequence n zero = n
sequence n (suc k) = next (sequence n k)

-- the bound that a number gives, from 1 to 100
abbrev pub bound : ℕ → ℕ
bound s = 1 + (s / 65536) % 100

-- the bounds of the first k loops of the demo of n
unfoldable pub bounds : ℕ → ℕ → List ℕ
bounds n zero = []
bounds n (suc k) = bounds n k ++ bound (sequence n (suc k)) ∷ []

-- a demo has this many loops
abbrev pub loop_count : ℕ
loop_count = 40
