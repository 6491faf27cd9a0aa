-- Distinct lists of Booleans that are all short are few.
use Rattle.std.proofs.Common.{◌≡◌, ℕ, zero, suc, ◌+◌, ◌-◌, ◌^◌, ◌<◌, ◌≤◌, inl, inr, Bool, true, false, List, [], ◌∷◌, ◌++◌, length, get_or, refl, ap, arith, add-one, ◌∙◌, ◌*◌}
use Rattle.std.proofs.Math.Nat.{pow-suc}
use Rattle.std.specs.List.{All, Contains}
use Rattle.std.proofs.lemmas.List.Elements.{All-contains, Contains-append_cases, Contains-get_or}
use Rattle.clauses.proofs.Members.{here, there, first_or_rest, none_in}

-- no list comes twice
abbrev pub AreDistinct : List (List Bool) → Type 0
AreDistinct [] = Unit {0}
AreDistinct (x ∷ xs) = (Contains xs x → ⊥) × AreDistinct xs

abbrev pub AreShort : ℕ → List (List Bool) → Type 0
AreShort k xs = All (λ x. length x < k) xs

-- what follows this first item
tail_of : Bool → List Bool → List (List Bool)
tail_of b [] = []
tail_of true (true ∷ x) = x ∷ []
tail_of true (false ∷ x) = []
tail_of false (true ∷ x) = []
tail_of false (false ∷ x) = x ∷ []

tails : Bool → List (List Bool) → List (List Bool)
tails b [] = []
tails b (x ∷ xs) = tail_of b x ++ tails b xs

empty : List Bool → ℕ
empty [] = 1
empty (b ∷ x) = 0

empties : List (List Bool) → ℕ
empties [] = 0
empties (x ∷ xs) = empty x + empties xs

-- each list is empty or has a first item
parted : (xs : List (List Bool)) → length xs ≡ empties xs + length (tails true xs) + length (tails false xs)
unfolding tail_of tails empty empties
parted [] = refl
parted ([] ∷ xs) = omega (arith, parted xs)
parted ((true ∷ x) ∷ xs) = omega (arith, parted xs)
parted ((false ∷ x) ∷ xs) = omega (arith, parted xs)

none_empty : (xs : List (List Bool)) → (Contains xs [] → ⊥) → empties xs ≡ 0
unfolding empty empties
none_empty [] h = refl
none_empty ([] ∷ xs) h = absurd (h (here [] xs))
none_empty ((b ∷ x) ∷ xs) h = omega (arith, none_empty xs (λ i. h (there (b ∷ x) xs [] i)))

one_empty : (xs : List (List Bool)) → AreDistinct xs → empties xs ≤ 1
unfolding empty empties
one_empty [] d = omega arith
one_empty ([] ∷ xs) d = omega (arith, none_empty xs d.0)
one_empty ((b ∷ x) ∷ xs) d = omega (arith, one_empty xs d.1)

behind : (b : Bool) (x y : List Bool) → Contains (tail_of b x) y → x ≡ b ∷ y
unfolding tail_of
behind b [] y i = absurd (none_in y i)
behind true (true ∷ x) y i = elim (first_or_rest x [] y i) [ inl e ↦ ap (λ l. true ∷ l) e | inr j ↦ absurd (none_in y j) ]
behind true (false ∷ x) y i = absurd (none_in y i)
behind false (true ∷ x) y i = absurd (none_in y i)
behind false (false ∷ x) y i = elim (first_or_rest x [] y i) [ inl e ↦ ap (λ l. false ∷ l) e | inr j ↦ absurd (none_in y j) ]

of_tails : (b : Bool) (xs : List (List Bool)) (y : List Bool) → Contains (tails b xs) y → Contains xs (b ∷ y)
unfolding tails
of_tails b [] y i = absurd (none_in y i)
of_tails b (x ∷ xs) y i = elim (Contains-append_cases (tail_of b x) (tails b xs) y i) [
  | inl j ↦ (0, omega arith, behind b x y j)
  | inr j ↦ there x xs (b ∷ y) (of_tails b xs y j)
]

distinct_tails : (b : Bool) (xs : List (List Bool)) → AreDistinct xs → AreDistinct (tails b xs)
unfolding tail_of tails
distinct_tails b [] d = tt
distinct_tails b ([] ∷ xs) d = distinct_tails b xs d.1
distinct_tails true ((true ∷ x) ∷ xs) d = (λ i. d.0 (of_tails true xs x i), distinct_tails true xs d.1)
distinct_tails true ((false ∷ x) ∷ xs) d = distinct_tails true xs d.1
distinct_tails false ((true ∷ x) ∷ xs) d = distinct_tails false xs d.1
distinct_tails false ((false ∷ x) ∷ xs) d = (λ i. d.0 (of_tails false xs x i), distinct_tails false xs d.1)

short_tails : (k : ℕ) (b : Bool) (xs : List (List Bool)) → AreShort (suc k) xs → AreShort k (tails b xs)
short_tails k b xs h i d lt =
    let y = get_or (tails b xs) i d in
    let less : length (b ∷ y) < suc k = All-contains (λ x. length x < suc k) xs (b ∷ y) h (of_tails b xs y (Contains-get_or (tails b xs) i d lt)) in
    omega arith

-- there are at most 2^k - 1 lists of fewer than k items
pub short_are_few : (k : ℕ) (xs : List (List Bool)) → AreShort k xs → AreDistinct xs → length xs + 1 ≤ 2 ^ k
short_are_few zero [] h d = omega arith
short_are_few zero (x ∷ xs) h d = let no : length x < 0 = h 0 x (omega arith) in absurd (omega arith)
short_are_few (suc k) xs h d =
    let t = short_are_few k (tails true xs) (short_tails k true xs h) (distinct_tails true xs d) in
    let f = short_are_few k (tails false xs) (short_tails k false xs h) (distinct_tails false xs d) in
    omega (arith, t, f, parted xs, one_empty xs d, pow-suc 2 k)

-- so they are within the bound of a spent log
pub short_within : (k : ℕ) (xs : List (List Bool)) → AreShort k xs → AreDistinct xs → length xs ≤ 2 ^ (k + 1) - 2
short_within k xs h d =
    let e : 2 ^ (k + 1) ≡ 2 ^ k * 2 = ap (λ j. 2 ^ j) (add-one k) ∙ pow-suc 2 k in
    omega (arith, short_are_few k xs h d, e)
