-- Steps of the loops over a table.
use Rattle.std.proofs.Common.{rules, ◌≡◌, ◌∙◌, ℕ, zero, suc, ◌+◌, ◌^◌, ◌<◌, ◌≤◌, List, length, get_or, take, ℤ, pos, negsuc, neg_ℤ, ◌-ℤ◌, unsigned_abs, FitsSigned, to_z, of_z, w32, ap, sym, refl, subst, arith}
use Rattle.std.proofs.lemmas.Int.{ints, to_z-of_z}
use Rattle.std.proofs.lemmas.List.{take_all}
use Rattle.std.proofs.lemmas.List.Elements.{All-more}
use Rattle.std.specs.List.{All}
use Rattle.clauses.specs.Clause.{IsClause, IsNumber}
use Rattle.clauses.specs.Within.{IsOf}
use Rattle.clauses.specs.Table.{Fits, cell, AreApart, AreHeld, AreBlank}

pub zero_minus : (x : ℤ) → pos 0 -ℤ x ≡ neg_ℤ x
zero_minus (pos zero) = refl
zero_minus (pos (suc n)) = omega (arith, ints)
zero_minus (negsuc n) = omega (arith, ints)

pub apart_next : (cells clause : List ℤ) (i n : ℕ) (z : ℤ) → z ≡ get_or clause i (pos 0) → n ≡ unsigned_abs z → i < length clause → (of_z w32 (get_or cells n (pos 0)) ≡ of_z w32 (pos 0 -ℤ z) → ⊥)
    → AreApart cells (take i clause) → AreApart cells (take (i + 1) clause)
apart_next cells clause i n z ez en lt apart before =
    All-more (λ y. cell cells y ≡ neg_ℤ y → ⊥) clause i (pos 0) lt before
    (λ q. apart (ap (of_z w32) (ap (λ k. get_or cells k (pos 0)) (en ∙ ap unsigned_abs ez) ∙ q ∙ ap neg_ℤ (sym ez) ∙ sym (zero_minus z))))

pub same_bits : (x y : ℤ) → FitsSigned w32 x → FitsSigned w32 y → of_z w32 x ≡ of_z w32 y → x ≡ y
same_bits x y fx fy e = sym (to_z-of_z w32 x fx) ∙ ap (to_z w32) e ∙ to_z-of_z w32 y fy

pub held_next : (cells clause : List ℤ) (i n : ℕ) (z : ℤ) → z ≡ get_or clause i (pos 0) → n ≡ unsigned_abs z → i < length clause → n < length cells
    → FitsSigned w32 (get_or cells n (pos 0)) → FitsSigned w32 (get_or clause i (pos 0)) → of_z w32 (get_or cells n (pos 0)) ≡ of_z w32 (get_or clause i (pos 0))
    → AreHeld cells (take i clause) → AreHeld cells (take (i + 1) clause)
held_next cells clause i n z ez en lt within fc fy e before =
    let at : n ≡ unsigned_abs (get_or clause i (pos 0)) = en ∙ ap unsigned_abs ez in
    All-more (λ y. Fits cells y × (cell cells y ≡ y)) clause i (pos 0) lt before
    (omega arith, ap (λ k. get_or cells k (pos 0)) (sym at) ∙ same_bits (get_or cells n (pos 0)) (get_or clause i (pos 0)) fc fy e)

pub blank_next : (cells : List ℤ) (variables : List ℕ) (i : ℕ) → i < length variables → get_or cells (get_or variables i 0) (pos 0) ≡ pos 0 → AreBlank cells (take i variables) → AreBlank cells (take (i + 1) variables)
blank_next cells variables i lt e before = All-more (λ n. get_or cells n (pos 0) ≡ pos 0) variables i 0 lt before e

pub All-whole : {X : Type 0} (P : X → Type 0) (n : ℕ) (xs : List X) → length xs ≤ n → All P (take n xs) → All P xs
All-whole P n xs h all = subst (All P) (take_all n xs h) all

pub is_zero : (x : ℤ) → FitsSigned w32 x → of_z w32 x ≡ 0 → x ≡ pos 0
is_zero x f e = sym (to_z-of_z w32 x f) ∙ ap (to_z w32) e

pub real_next : (numbers : List ℤ) (i n : ℕ) (z : ℤ) → z ≡ get_or numbers i (pos 0) → n ≡ unsigned_abs z → i < length numbers → (n ≡ 0 → ⊥) → n < 2 ^ 31 → All IsNumber (take i numbers) → All IsNumber (take (i + 1) numbers)
real_next numbers i n z ez en lt some small before =
    let e : n ≡ unsigned_abs (get_or numbers i (pos 0)) = en ∙ ap unsigned_abs ez in
    All-more IsNumber numbers i (pos 0) lt before (omega arith, omega arith)

pub neg_fits : (x : ℤ) → IsNumber x → FitsSigned w32 (neg_ℤ x)
neg_fits x h = search (rules, h.1)

pub of_next : (variables : ℕ) (clause items : List ℤ) (i n : ℕ) (z : ℤ) → items ≡ clause → IsClause clause → z ≡ get_or items i (pos 0) → n ≡ unsigned_abs z → i < length items → n ≤ variables → All (IsOf variables) (take i clause) → All (IsOf variables) (take (i + 1) clause)
of_next variables clause items i n z same fine ez en lt small before =
    let less : i < length clause = subst (λ l. i < length l) same lt in
    let e : n ≡ unsigned_abs (get_or clause i (pos 0)) = en ∙ ap unsigned_abs (ez ∙ ap (λ l. get_or l i (pos 0)) same) in
    All-more (IsOf variables) clause i (pos 0) less before ((fine.real i (pos 0) less).0, omega arith)
