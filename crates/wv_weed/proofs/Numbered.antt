-- All numbers up to a count.
use Rattle.std.proofs.Common.{◌≡◌, ℕ, zero, suc, ◌+◌, ◌<◌, ◌≤◌, true, List, [], ◌∷◌, ◌++◌, length, ◌∙◌, ap, arith, inl, inr}
use Rattle.std.specs.Prelude.{nat_eq}
use Rattle.std.specs.List.{All}
use Rattle.std.proofs.lemmas.Bool.{cases_eq, eq-eqb, eqb-true, or_cases}
use Rattle.std.proofs.lemmas.List.Elements.{All-head, All-tail}
use Rattle.c_core.specs.Tree.{Program}
use Rattle.c_inductive.specs.Picking.{Rise, AllArePicked}
use Rattle.c_core.specs.Scope.{is_in}
use Rattle.c_meaning.specs.Duties.{Placed}
use Rattle.c_meaning.specs.Parts.{numbers_from}
use Rattle.wv_weed.specs.Rounds.{AreLeft}
use Rattle.wv_weed.proofs.Spared.{false_true, or_first, or_second}

pub one_more : (i n : ℕ) → numbers_from i n ++ (i + n) ∷ [] ≡ numbers_from i (suc n)
one_more i zero = let e : i + 0 ≡ i = omega arith in ap (λ m. m ∷ []) e
one_more i (suc n) =
    let e : i + suc n ≡ suc i + n = omega arith in
    ap (λ m. i ∷ (numbers_from (suc i) n ++ m ∷ [])) e ∙ ap (λ ms. i ∷ ms) (one_more (suc i) n)

-- of numbers that rise, each is above the last before
above : (last n : ℕ) (ms : List ℕ) → Rise last ms → is_in n ms ≡ true → last < n
above last n [] rise among = absurd (false_true among)
above last n (m ∷ ms) rise among =
    let less : last < m = rise.0 in
    elim (or_cases (nat_eq n m) (is_in n ms) among) as (λ _. last < n) [
      | inl here ↦ omega (arith, less, eqb-true n m here)
      | inr later ↦ omega (arith, less, above m n ms rise.1 later)
    ]

within : (count n : ℕ) (ms : List ℕ) → All (λ m. m ≤ count) ms → is_in n ms ≡ true → n ≤ count
within count n [] all among = absurd (false_true among)
within count n (m ∷ ms) all among = elim (or_cases (nat_eq n m) (is_in n ms) among) as (λ _. n ≤ count) [
  | inl here ↦ let le : m ≤ count = All-head (λ k. k ≤ count) m ms all in omega (arith, le, eqb-true n m here)
  | inr later ↦ within count n ms (All-tail (λ k. k ≤ count) m ms all) later
]

among_all : (i count n : ℕ) → i ≤ n → n < i + count → is_in n (numbers_from i count) ≡ true
among_all i zero n from to = absurd (omega (arith, from, to))
among_all i (suc count) n from to = elim (cases_eq n i) as (λ _. is_in n (i ∷ numbers_from (suc i) count) ≡ true) [
  | inl e ↦ or_first (nat_eq n i) (is_in n (numbers_from (suc i) count)) (eq-eqb n i e)
  | inr other ↦
      or_second (nat_eq n i) (is_in n (numbers_from (suc i) count))
      (among_all (suc i) count n (omega (arith, from, other)) (omega (arith, to)))
]

-- every set is part of all
pub all_left : (p : Program) (I : List Placed) → AllArePicked I → AreLeft p I (numbers_from 1 (length I))
all_left p I all = record {
  selection = all.selection;
  holding = λ ms selection inductive n among.
      let from : 0 < n = above 0 n ms selection.rising among in
      let to : n ≤ length I = within (length I) n ms selection.within among in
      among_all 1 (length I) n (omega (arith, from)) (omega (arith, to));
}

pub next_number : (before number : ℕ) (ns after : List ℕ) → ns ≡ numbers_from 1 before → number ≡ before + 1
    → after ≡ ns ++ number ∷ [] → after ≡ numbers_from 1 (before + 1)
next_number before number ns after so_far e pushed =
    let here : number ≡ 1 + before = omega (arith, e) in
    let there : suc before ≡ before + 1 = omega arith in
    pushed ∙ ap (λ ms. ms ++ number ∷ []) so_far ∙ ap (λ m. numbers_from 1 before ++ m ∷ []) here ∙ one_more 1 before
    ∙ ap (numbers_from 1) there
