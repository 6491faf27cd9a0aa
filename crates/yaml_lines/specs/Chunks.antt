-- Lists in chunks: a head, and what stands up to the next head.
use Rattle.std.specs.Prelude.{◌≡◌, List, [], ◌∷◌, ◌++◌, Bool, true, false, Option, Some, None}

-- no element passes the test
abbrev pub NoneOf : {X : Type 0} → (X → Bool) → List X → Type 0
NoneOf p [] = Unit {0}
NoneOf p (x ∷ xs) = (p x ≡ false) × NoneOf p xs

-- each element passes the test
abbrev pub Each : {X : Type 0} → (X → Bool) → List X → Type 0
Each p [] = Unit {0}
Each p (x ∷ xs) = (p x ≡ true) × Each p xs

-- the elements of two lists are related, one by one
abbrev pub Pairwise : {X Y : Type 0} → (X → Y → Type 0) → List X → List Y → Type 0
Pairwise R [] [] = Unit {0}
Pairwise R (x ∷ xs) (y ∷ ys) = R x y × Pairwise R xs ys
Pairwise R [] (y ∷ ys) = ⊥
Pairwise R (x ∷ xs) [] = ⊥

-- the elements of chunks, in a row
abbrev pub unchunked : {X : Type 0} → List (X × List X) → List X
unchunked [] = []
unchunked (c ∷ cs) = c.0 ∷ (c.1 ++ unchunked cs)

-- each chunk is a head, and others that are none
abbrev pub AreChunks : {X : Type 0} → (X → Bool) → List (X × List X) → Type 0
AreChunks head [] = Unit {0}
AreChunks head (c ∷ cs) = (head c.0 ≡ true) × NoneOf head c.1 × AreChunks head cs

-- The chunks, found from the end: what stands before the first head, and the chunks from there on.
abbrev pub onto : {X : Type 0} → Bool → X → List X × List (X × List X) → List X × List (X × List X)
onto true x (front, cs) = ([], (x, front) ∷ cs)
onto false x (front, cs) = (x ∷ front, cs)

abbrev pub chunked : {X : Type 0} → (X → Bool) → List X → List X × List (X × List X)
chunked head [] = ([], [])
chunked head (x ∷ xs) = onto (head x) x (chunked head xs)

infixl 10 ◌>>=◌
-- what f gives of the value, if there is one
abbrev pub ◌>>=◌ : {A B : Type 0} → Option A → (A → Option B) → Option B
None >>= f = None
(Some x) >>= f = f x

-- what each element gives, if each gives something
abbrev pub collected : {A B : Type 0} → (A → Option B) → List A → Option (List B)
collected f [] = Some []
collected f (x ∷ xs) = f x >>= λ y. collected f xs >>= λ ys. Some (y ∷ ys)

-- a value where a test passes
abbrev pub provided : {A : Type 0} → Bool → Option A → Option A
provided true x = x
provided false x = None
