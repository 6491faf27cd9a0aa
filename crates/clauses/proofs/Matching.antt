-- Whether a table holds a clause.
use Rattle.std.proofs.Common.{◌≡◌, ◌≢◌, ◌∙◌, ℕ, ◌⊎◌, inl, inr, ◌↔◌, Bool, true, false, List, [], ◌∷◌, length, get_or, slice_set, ℤ, pos, unsigned_abs, ap, sym, refl, subst, arith}
use Rattle.std.proofs.lemmas.List.{get_or-set_same, get_or-set_other, get_or_past, length-set}
use Rattle.std.proofs.lemmas.List.Elements.{Contains-get_or, All-contains}
use Rattle.std.proofs.lemmas.Bool.{cases_lt}
use Rattle.std.specs.Bool.{IsTrue, MatchBool}
use Rattle.std.specs.List.{All, Contains}
use Rattle.clauses.specs.Clause.{IsNumber}
use Rattle.clauses.specs.Log.{AreSame}
use Rattle.clauses.specs.Table.{cell, Fits, AreHeld, AreBlank, IsIn, IsClear, Holds, erased}
use Rattle.clauses.proofs.Members.{here, there, first_or_rest, none_in}
use Rattle.clauses.proofs.Integers.{same_place, int_decide, sized}
use Rattle.clauses.proofs.Tables.{in_filled, in_within}

emptied : (cells : List ℤ) (i n : ℕ) → n ≡ i → get_or (slice_set cells i (pos 0)) n (pos 0) ≡ pos 0
emptied cells i n q = elim (cases_lt i (length cells)) [
  | inl l ↦ ap (λ k. get_or (slice_set cells i (pos 0)) k (pos 0)) q ∙ get_or-set_same cells i (pos 0) (pos 0) l
  | inr g ↦ get_or_past (slice_set cells i (pos 0)) n (pos 0) (omega (arith, length-set cells i (pos 0)))
]

-- a clause was taken out: a cell is 0, where the clause has a number of its variable, or as before
record Emptied (clause cells : List ℤ) (n : ℕ) : Type 0 where
  pub empty : get_or (erased cells clause) n (pos 0) ≡ pos 0
  pub number : ℤ
  pub held : Contains clause number
  pub own : unsigned_abs number ≡ n

record Left (clause cells : List ℤ) (n : ℕ) : Type 0 where
  pub as_before : get_or (erased cells clause) n (pos 0) ≡ get_or cells n (pos 0)
  pub none : (y : ℤ) → Contains clause y → unsigned_abs y ≢ n

after_erase : (clause cells : List ℤ) (n : ℕ) → Emptied clause cells n ⊎ Left clause cells n
after_erase [] cells n = inr (record { as_before = refl; none = λ y i. absurd (none_in y i) })
after_erase (y ∷ ys) cells n = elim (after_erase ys (slice_set cells (unsigned_abs y) (pos 0)) n) [
  | inl e ↦ inl (record { empty = e.empty; number = e.number; held = there y ys e.number e.held; own = e.own })
  | inr s ↦ elim (same_place n (unsigned_abs y)) [
    | inl q ↦ inl (record { empty = s.as_before ∙ emptied cells (unsigned_abs y) n q; number = y; held = here y ys; own = sym q })
    | inr d ↦ inr (record {
      as_before = s.as_before ∙ get_or-set_other cells (unsigned_abs y) n (pos 0) (pos 0) d;
      none = λ z i. elim (first_or_rest y ys z i) [ inl e ↦ (λ q. d (sym q ∙ ap unsigned_abs (sym e))) | inr j ↦ s.none z j ];
    })
  ]
]

pub then_held : (cells : List ℤ) (touched : List ℕ) (now clause : List ℤ) → Holds cells touched now → AreSame now clause → AreHeld cells clause
then_held cells touched now clause h same k d lt =
    let i = (h.numbers (get_or clause k d)).1 ((same (get_or clause k d)).1 (Contains-get_or clause k d lt)) in
    (in_within cells (get_or clause k d) i, i.1)

-- the same clause leaves a clear table
then_clear : (cells : List ℤ) (touched : List ℕ) (now clause : List ℤ) → Holds cells touched now → AreSame now clause → IsClear (erased cells clause)
then_clear cells touched now clause h same n = elim (after_erase clause cells n) [
  | inl e ↦ e.empty
  | inr s ↦ elim (int_decide (get_or cells n (pos 0)) (pos 0)) [
    | inl z ↦ s.as_before ∙ z
    | inr f ↦
        let x = get_or cells n (pos 0) in
        let own = h.own n f in
        let i : IsIn cells x = (sized x f, ap (λ k. get_or cells k (pos 0)) own) in
        absurd (s.none x ((same x).0 ((h.numbers x).0 i)) own)
  ]
]

then_blank : (cells : List ℤ) (touched : List ℕ) (now clause : List ℤ) → Holds cells touched now → AreSame now clause → AreBlank (erased cells clause) touched
then_blank cells touched now clause h same k d lt = then_clear cells touched now clause h same (get_or touched k d)

found : (cells clause : List ℤ) (y : ℤ) → AreHeld cells clause → IsIn cells y → get_or (erased cells clause) (unsigned_abs y) (pos 0) ≡ pos 0 → Emptied clause cells (unsigned_abs y) ⊎ Left clause cells (unsigned_abs y) → Contains clause y
found cells clause y held i blank (inl e) =
    let at = All-contains (λ z. Fits cells z × (cell cells z ≡ z)) clause e.number held e.held in
    subst (Contains clause) (sym at.1 ∙ ap (λ n. get_or cells n (pos 0)) e.own ∙ i.1) e.held
found cells clause y held i blank (inr s) = absurd (in_filled cells y i (sym s.as_before ∙ blank))

-- a clear table that held all numbers of the clause held no others
then_same : (cells : List ℤ) (touched : List ℕ) (now clause : List ℤ) → Holds cells touched now → All IsNumber clause → AreHeld cells clause → AreBlank (erased cells clause) touched → AreSame now clause
then_same cells touched now clause h real held blank y = (
  (λ i.
      let inside = (h.numbers y).1 i in
      let touch = h.covered (unsigned_abs y) (in_filled cells y inside) in
      found cells clause y held inside (All-contains (λ n. get_or (erased cells clause) n (pos 0) ≡ pos 0) touched (unsigned_abs y) blank touch) (after_erase clause cells (unsigned_abs y))),
  (λ i. (h.numbers y).0 ((All-contains IsNumber clause y real i).0, (All-contains (λ z. Fits cells z × (cell cells z ≡ z)) clause y held i).1)),
)

held_fits : (cells clause : List ℤ) → AreHeld cells clause → All (Fits cells) clause
held_fits cells clause held k d lt = (held k d lt).0

pub matched : (b : Bool) (cells cells_after : List ℤ) (touched : List ℕ) (now clause : List ℤ) → Holds cells touched now → All IsNumber clause → AreHeld cells clause → cells_after ≡ erased cells clause → (IsTrue b ↔ AreBlank cells_after touched)
    → MatchBool b (AreSame now clause × IsClear cells_after × All (Fits cells) clause) (AreSame now clause → ⊥)
matched true cells cells_after touched now clause h real held e test =
    let same = then_same cells touched now clause h real held (subst (λ l. AreBlank l touched) e (test.0 refl)) in
    (same, subst IsClear (sym e) (then_clear cells touched now clause h same), held_fits cells clause held)
matched false cells cells_after touched now clause h real held e test =
    λ same. let t : false ≡ true = test.1 (subst (λ l. AreBlank l touched) (sym e) (then_blank cells touched now clause h same)) in cc
