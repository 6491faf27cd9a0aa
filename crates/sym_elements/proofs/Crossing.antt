-- The places of rows and columns: those of which the row's mark is true, and the column's.
use Rattle.std.proofs.Common.{◌≡◌, ℕ, zero, suc, ◌+◌, ◌*◌, ◌/◌, ◌%◌, ◌<◌, ◌≤◌, Bool, true, false, ◌&&◌, nat_eq, eqb-true, List, [], ◌∷◌, ◌++◌, length, get_or, map, Option, Some, None, refl, sym, ◌∙◌, ap, ap₂, arith, length-append}
use Rattle.std.proofs.Math.Dec.{eqb-suc-suc, eqb-zero-suc}
use Rattle.std.proofs.lemmas.Bool.{eqb-false, eq-eqb, ne_eqb}
use Rattle.std.proofs.lemmas.List.{map-append, get_or-map}
use Rattle.std.proofs.lemmas.List.Elements.{All-append, All-cons, All-nil}
use Rattle.std.proofs.lemmas.Nat.{div-mul-add, mod-mul-add, div-add-mod', div_below, mod_below}
use Rattle.c_meaning.specs.Run.{in_row}
use Rattle.circuits.specs.declared.net.Bit.{Bit}
use Rattle.circuits.specs.declared.net.NetNode.{NetNode}
use Rattle.circuits.specs.Net.{holds, IsIn, Grown, Means}
use Rattle.circuits.specs.Numbers.{AreIn}
use Rattle.circuits.proofs.Nets.{grown_not, grown_then, kept, own, and_of}
use Rattle.circuits.proofs.Counting.{are_in_later}
use Rattle.sym_state.specs.Standing.{marks}
use Rattle.sym_values.proofs.Judging.{and_no}
use Rattle.sym_elements.specs.Marks.{crossing, AreCrossed}
use Rattle.sym_elements.specs.Placing.{mark_of}
use Rattle.sym_elements.proofs.Marking.{marks_more, none_at, mark_at}
use Rattle.sym_elements.proofs.Decoding.{all_stay, at_in}

-- ---- of marks
-- a cell is that of its row and its column
same_cell : (i j k c : ℕ) → j < c → (nat_eq i (k / c) && nat_eq j (k % c)) ≡ nat_eq (i * c + j) k
same_cell i j k c l = by_case (nat_eq i (k / c)) (nat_eq j (k % c)) refl refl
  where
    whole : k / c * c + k % c ≡ k
    whole = div-add-mod' k c

    other_row : (i ≡ k / c → ⊥) → i * c + j ≡ k → ⊥
    other_row d e = d (sym (div-mul-add i c j l) ∙ ap (λ n. n / c) e)

    other_column : (j ≡ k % c → ⊥) → i * c + j ≡ k → ⊥
    other_column d e = d (sym (mod-mul-add i c j l) ∙ ap (λ n. n % c) e)

    by_case : (s t : Bool) → nat_eq i (k / c) ≡ s → nat_eq j (k % c) ≡ t → (s && t) ≡ nat_eq (i * c + j) k
    by_case true true x y = sym (eq-eqb (i * c + j) k (ap₂ (λ a b. a * c + b) (eqb-true i (k / c) x) (eqb-true j (k % c) y) ∙ whole))
    by_case true false x y = sym (ne_eqb (i * c + j) k (other_column (eqb-false j (k % c) y)))
    by_case false t x y = sym (ne_eqb (i * c + j) k (other_row (eqb-false i (k / c) x)))

crossed_at : (a b : Option ℕ) (r c k : ℕ) → ((i : ℕ) → a ≡ Some i → i < r) → ((j : ℕ) → b ≡ Some j → j < c)
    → (get_or (marks (mark_of a) r) (k / c) false && get_or (marks (mark_of b) c) (k % c) false) ≡ nat_eq (mark_of (in_row c a b)) (suc k)
crossed_at None b r c k f g = ap (λ t. t && get_or (marks (mark_of b) c) (k % c) false) (none_at r (k / c)) ∙ sym (eqb-zero-suc k)
crossed_at (Some i) None r c k f g =
    ap (λ t. get_or (marks (suc i) r) (k / c) false && t) (none_at c (k % c)) ∙ and_no (get_or (marks (suc i) r) (k / c) false) ∙ sym (eqb-zero-suc k)
crossed_at (Some i) (Some j) r c k f g =
    ap₂ (λ s t. s && t) (mark_at i r (k / c) (f i refl)) (mark_at j c (k % c) (g j refl)) ∙ same_cell i j k c (g j refl) ∙ sym (eqb-suc-suc (i * c + j) k)

-- the mark of a row and that of a column give the mark of their cell
pub crossing_marks : (a b : Option ℕ) (r c : ℕ) → ((i : ℕ) → a ≡ Some i → i < r) → ((j : ℕ) → b ≡ Some j → j < c) → (k : ℕ)
    → crossing (marks (mark_of a) r) (marks (mark_of b) c) c k ≡ marks (mark_of (in_row c a b)) k
crossing_marks a b r c f g zero = refl
crossing_marks a b r c f g (suc k) = ap₂ (λ l t. l ++ t ∷ []) (crossing_marks a b r c f g k) (crossed_at a b r c k f g) ∙ sym (marks_more (mark_of (in_row c a b)) k)

-- ---- the circuit, cell by cell
pub crossed_none : {net : List NetNode} {out : List Bit} (rows columns : List Bit) → out ≡ [] → AreCrossed net net rows columns 0 out
crossed_none {net} {out} rows columns e = rw e (record { grown = grown_not 0 net; inside = All-nil (λ b. IsIn net b); wide = refl; is = λ v. refl })

pub row_below : (i r c : ℕ) → 0 < c → i < r * c → i / c < r
row_below i r c some h = div_below i c r some h

pub crossed_next : {old mid new : List NetNode} {out now : List Bit} {x y b : Bit} {i : ℕ} (rows columns : List Bit) (d : Bit) → AreCrossed old mid rows columns i out → AreIn old rows → AreIn old columns
    → 0 < length columns → i < length rows * length columns → x ≡ get_or rows (i / length columns) d → y ≡ get_or columns (i % length columns) d
    → Grown 1 mid new → Means new b (λ v. holds v mid x && holds v mid y) → now ≡ out ++ b ∷ [] → AreCrossed old new rows columns (i + 1) now
crossed_next {old} {mid} {new} {out} {now} {x} {y} {b} {i} rows columns d a hr hc some lt ex ey g m e =
    let c = length columns in
    let row : i / c < length rows = row_below i (length rows) c some lt in
    let column : i % c < c = mod_below i c some in
    let of_row : Means mid x (λ v. holds v old (get_or rows (i / c) d)) = rw ex (kept a.grown (own old (get_or rows (i / c) d) (at_in old rows (i / c) d hr row))) in
    let of_column : Means mid y (λ v. holds v old (get_or columns (i % c) d)) = rw ey (kept a.grown (own old (get_or columns (i % c) d) (at_in old columns (i % c) d hc column))) in
    let both : Means new b (λ v. holds v old (get_or rows (i / c) d) && holds v old (get_or columns (i % c) d)) = and_of m of_row of_column in
    rw e (record {
      grown = grown_then i 1 (i + 1) old mid new a.grown g (omega arith);
      inside = All-append (λ b. IsIn new b) out (b ∷ []) (are_in_later 1 mid new out g a.inside) (All-cons (λ b. IsIn new b) b [] both.inside (All-nil (λ b. IsIn new b)));
      wide = omega (arith, a.wide, length-append out (b ∷ []));
      is = λ v.
          map-append (holds v new) out (b ∷ [])
          ∙ ap₂ (λ l t. l ++ t ∷ []) (all_stay v out g a.inside ∙ a.is v)
          (both.is v ∙ ap₂ (λ s t. s && t) (sym (get_or-map (holds v old) rows (i / c) d false row)) (sym (get_or-map (holds v old) columns (i % c) d false column)))
          ∙ ap (crossing (map (holds v old) rows) (map (holds v old) columns) c) (let q : suc i ≡ i + 1 = omega arith in q);
    })
