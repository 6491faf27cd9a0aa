-- The last of the live cells is the innermost of its object.
use Rattle.std.proofs.Common.{◌≡◌, ℕ, ℤ, true, List, [], ◌∷◌, ◌++◌, length, take, refl, ap, ◌∙◌, eq-eqb}
use Rattle.std.proofs.Math.Bool.{or-true}
use Rattle.c_meaning.specs.Cells.{Key, Cell, same_key, live, read, put}

-- an object's only cell
abbrev pub key : ℕ → Key
key o = record { object = o; index = 0 }

abbrev pub cell : ℕ → ℤ → Cell
cell o v = record { key = key o; value = v }

live_last : (o : ℕ) (v : ℤ) (cs : List Cell) → live (key o) (cs ++ cell o v ∷ []) ≡ true
live_last o v [] = rw (eq-eqb o o refl) refl
live_last o v (d ∷ cs) = rw (live_last o v cs) (or-true (same_key d.key (key o)))

pub read_last : (o : ℕ) (v : ℤ) (cs : List Cell) → read (key o) (cs ++ cell o v ∷ []) ≡ v
read_last o v [] = rw (eq-eqb o o refl) refl
read_last o v (d ∷ cs) = rw (live_last o v cs) (read_last o v cs)

pub put_last : (o : ℕ) (v w : ℤ) (cs : List Cell) → put (key o) w (cs ++ cell o v ∷ []) ≡ cs ++ cell o w ∷ []
put_last o v w [] = rw (eq-eqb o o refl) refl
put_last o v w (d ∷ cs) = rw (live_last o v cs) (ap (λ r. d ∷ r) (put_last o v w cs))

pub take_last : (o : ℕ) (v w : ℤ) (cs : List Cell) → take (length (cs ++ cell o v ∷ [])) (cs ++ cell o w ∷ []) ≡ cs ++ cell o w ∷ []
take_last o v w [] = refl
take_last o v w (d ∷ cs) = ap (λ r. d ∷ r) (take_last o v w cs)

-- a value is stored in the innermost cell, and two scopes are left
pub stored_last : (o : ℕ) (v w : ℤ) (cs : List Cell) →
    take (length (cs ++ cell o v ∷ [])) (take (length (cs ++ cell o v ∷ [])) (put (key o) w (cs ++ cell o v ∷ []))) ≡ cs ++ cell o w ∷ []
stored_last o v w cs =
    ap (λ ds. take (length (cs ++ cell o v ∷ [])) (take (length (cs ++ cell o v ∷ [])) ds)) (put_last o v w cs)
    ∙ ap (take (length (cs ++ cell o v ∷ []))) (take_last o v w cs) ∙ take_last o v w cs
