-- What digits spell of which the first are a column's and the others a row's.
use Rattle.std.proofs.Common.{◌≡◌, ℕ, suc, ◌+◌, ◌-◌, ◌*◌, ◌^◌, ◌<◌, ◌≤◌, Bool, true, false, cond, nat_lt, List, [], length, get_or, take, drop, refl, sym, ◌∙◌, ap, ap₂, subst, arith, length-drop}
use Rattle.std.proofs.Math.Nat.{mul-le-mul_left}
use Rattle.std.proofs.lemmas.Bool.{ltb-true, ltb-false}
use Rattle.std.proofs.lemmas.List.{take_more, take_all, take-take, length-take, length-take-le, drop_all, drop-take, get_or-drop}
use Rattle.std.proofs.lemmas.List.Elements.{All-take, All-drop}
use Rattle.circuits.specs.declared.net.Bit.{Bit}
use Rattle.circuits.specs.declared.net.NetNode.{NetNode}
use Rattle.circuits.specs.Net.{holds, IsIn}
use Rattle.circuits.specs.Numbers.{number, digit, AreIn}
use Rattle.circuits.proofs.Counting.{snoc, number_lt, split_at}
use Rattle.sym_state.specs.Standing.{Added}
use Rattle.sym_state.proofs.Nets.{number_added}
use Rattle.sym_elements.specs.declared.placing.Places.{Places}
use Rattle.sym_elements.specs.Placing.{cell_number, told_by, Spells}

-- a row above and a column below a cell
within_rows : (a b c q : ℕ) → a < c → b < q → a + c * b < c * q
within_rows a b c q h l =
    let m : c * suc b ≤ c * q = mul-le-mul_left c (omega (arith, l)) in
    omega (arith, m, h)

spread : (a c n m q x : ℕ) → n ≡ m + q * x → a + c * n ≡ a + c * m + c * q * x
spread a c n m q x e = rw e (omega arith)

module _ (v : ℕ → Bool) (net : List NetNode) where
  prefix_less : (k : ℕ) (ds : List Bit) → number v net (take k ds) ≤ number v net ds
  prefix_less k ds = by_case (nat_lt k (length ds)) refl
    where
      by_case : (t : Bool) → nat_lt k (length ds) ≡ t → number v net (take k ds) ≤ number v net ds
      by_case true e = let h : k < length ds = ltb-true k (length ds) e in omega (arith, split_at v net k ds (omega (arith, h)))
      by_case false e = let h : length ds ≤ k = ltb-false k (length ds) e in omega (arith, ap (number v net) (take_all k ds h))

  -- the first k digits spell no larger column
  pub column_less : (inner k : ℕ) (ds : List Bit) → number v net (take inner (take k ds)) ≤ number v net (take inner ds)
  column_less inner k ds = by_case (nat_lt k inner) refl
    where
      by_case : (t : Bool) → nat_lt k inner ≡ t → number v net (take inner (take k ds)) ≤ number v net (take inner ds)
      by_case true e =
          let h : k < inner = ltb-true k inner e in
          omega (arith, ap (number v net) (take_all inner (take k ds) (omega (arith, h, length-take k ds)) ∙ sym (take-take k inner ds (omega (arith, h)))), prefix_less k (take inner ds))
      by_case false e =
          let h : inner ≤ k = ltb-false k inner e in
          omega (arith, ap (number v net) (take-take inner k ds h))

  -- the number of k + 1 digits, the highest apart
  highest_apart : (k : ℕ) (ds : List Bit) (d : Bit) → length ds ≡ k + 1 → number v net ds ≡ number v net (take k ds) + 2 ^ k * digit (holds v net (get_or ds k d))
  highest_apart k ds d e = ap (number v net) (sym (take_all (k + 1) ds (omega (arith, e))) ∙ take_more ds k d (omega (arith, e))) ∙ snoc v net (take k ds) (get_or ds k d) k (length-take-le k ds (omega (arith, e)))

  module _ (inner c : ℕ) where
    -- of a column alone
    column_alone : (ds : List Bit) → length ds ≤ inner → cell_number v net inner c ds ≡ number v net ds
    unfolding number
    column_alone ds h = ap₂ (λ xs ys. number v net xs + c * number v net ys) (take_all inner ds h) (drop_all inner ds h) ∙ (let e : number v net ds + c * 0 ≡ number v net ds = omega arith in e)

    -- the cell of k + 1 digits, the highest apart
    pub cell_apart : (k : ℕ) (ds : List Bit) (d : Bit) → length ds ≡ k + 1 → cell_number v net inner c ds ≡ cell_number v net inner c (take k ds) + told_by inner c k * digit (holds v net (get_or ds k d))
    cell_apart k ds d e = by_case (nat_lt k inner) refl
      where
        by_case : (t : Bool) → nat_lt k inner ≡ t → cell_number v net inner c ds ≡ cell_number v net inner c (take k ds) + cond t (2 ^ k) (c * 2 ^ (k - inner)) * digit (holds v net (get_or ds k d))
        by_case true q =
            let h : k < inner = ltb-true k inner q in
            column_alone ds (omega (arith, e, h)) ∙ highest_apart k ds d e
            ∙ ap (λ n. n + 2 ^ k * digit (holds v net (get_or ds k d))) (sym (column_alone (take k ds) (omega (arith, h, length-take k ds))))
        by_case false q =
            let h : inner ≤ k = ltb-false k inner q in
            let rows = drop inner ds in
            let many : inner + (k - inner) ≡ k = omega (arith, h) in
            let top : get_or rows (k - inner) d ≡ get_or ds k d = get_or-drop inner ds (k - inner) d ∙ ap (λ j. get_or ds j d) many in
            let rest : take (k - inner) rows ≡ drop inner (take k ds) = sym (drop-take inner (k - inner) ds) ∙ ap (λ j. drop inner (take j ds)) many in
            ap (λ xs. number v net xs + c * number v net rows) (sym (take-take inner k ds h))
            ∙ spread (number v net (take inner (take k ds))) c (number v net rows) (number v net (drop inner (take k ds))) (2 ^ (k - inner)) (digit (holds v net (get_or ds k d)))
            (highest_apart (k - inner) rows d (omega (arith, e, h, length-drop inner ds)) ∙ ap₂ (λ xs b. number v net xs + 2 ^ (k - inner) * digit (holds v net b)) rest top)

    -- the digits below tell no more cells apart
    pub cell_below : (k : ℕ) (ds : List Bit) → length ds ≡ k + 1 → number v net (take inner ds) < c → cell_number v net inner c (take k ds) < told_by inner c k
    cell_below k ds e few = by_case (nat_lt k inner) refl
      where
        wide : length (take k ds) ≡ k
        wide = length-take-le k ds (omega (arith, e))

        by_case : (t : Bool) → nat_lt k inner ≡ t → cell_number v net inner c (take k ds) < cond t (2 ^ k) (c * 2 ^ (k - inner))
        by_case true q =
            let h : k < inner = ltb-true k inner q in
            omega (arith, column_alone (take k ds) (omega (arith, h, wide)), subst (λ n. number v net (take k ds) < 2 ^ n) wide (number_lt v net (take k ds)))
        by_case false q =
            let h : inner ≤ k = ltb-false k inner q in
            let rows = drop inner (take k ds) in
            let high : length rows ≡ k - inner = omega (arith, h, wide, length-drop inner (take k ds)) in
            within_rows (number v net (take inner (take k ds))) (number v net rows) c (2 ^ (k - inner)) (omega (arith, few, ap (number v net) (take-take inner k ds h))) (subst (λ n. number v net rows < 2 ^ n) high (number_lt v net rows))

    -- no digit
    pub cell_of_none : (ds : List Bit) → ds ≡ [] → cell_number v net inner c ds ≡ 0
    unfolding number
    cell_of_none ds e = column_alone ds (omega (arith, ap length e)) ∙ ap (number v net) e

-- in a larger net they spell the same
pub cell_added : {i j : ℕ} {old new : List NetNode} (v : ℕ → Bool) (inner c : ℕ) (ds : List Bit) → Added i j old new → AreIn old ds → cell_number v new inner c ds ≡ cell_number v old inner c ds
cell_added {old = old} v inner c ds g h = ap₂ (λ a b. a + c * b) (number_added g v (take inner ds) (All-take (λ b. IsIn old b) inner ds h)) (number_added g v (drop inner ds) (All-drop (λ b. IsIn old b) inner ds h))

pub spells_added : {i j : ℕ} {old new : List NetNode} {places : Places} {k : ℕ} (v : ℕ → Bool) → Added i j old new → AreIn old places.digits → Spells v old places k → Spells v new places k
spells_added {old = old} {places = places} v g h x = record {
  column = omega (arith, x.column, number_added g v (take places.inner places.digits) (All-take (λ b. IsIn old b) places.inner places.digits h));
  is = cell_added v places.inner places.columns places.digits g h ∙ x.is;
}
