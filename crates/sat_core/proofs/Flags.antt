-- Flags of variables, and the clause that they stand for.
use Rattle.std.proofs.Common.{◌≡◌, ℕ, ◌+◌, ◌<◌, ◌≤◌, ◌^◌, ◌⊎◌, inl, inr, Bool, true, false, Some, List, [], ◌∷◌, ◌++◌, length, take, drop, ℤ, pos, ◌<ℤ◌, sym, ◌∙◌, ap, subst, arith}
use Rattle.std.specs.Prelude.{slice_get, slice_set, unsigned_abs, replicate}
use Rattle.std.specs.List.{Contains}
use Rattle.std.proofs.lemmas.Bool.{cases_lt, cases_eq, both_ways}
use Rattle.std.proofs.lemmas.Int.{ints}
use Rattle.std.proofs.lemmas.Option.{same_Some, slice_get_within}
use Rattle.std.proofs.lemmas.List.{get_or-set_same, get_or-set_other, get_or_past, get_or-replicate, length-replicate, drop_all, append-nil, take_all}
use Rattle.std.proofs.lemmas.List.Elements.{Contains-append_left, Contains-push, Contains-push_cases}
use Rattle.clauses.specs.Clause.{Rises, RisesFrom}
use Rattle.clauses.specs.Tseitin.{flag_at}
use Rattle.sat_core.specs.Derived.{AreMarked, AreMarkedUpTo, AreFlagged, AreTwo}
use Rattle.sat_newness.proofs.Lists.{contains_at, at_contains, cons_here, cons_there}
use Rattle.sat_core.proofs.Seen.{rises_less}

pub none_flagged : (n v : ℕ) → flag_at (replicate n false) v ≡ true → ⊥
none_flagged n v h = elim (cases_lt v n) as (λ _. ⊥) [
  | inl l ↦ both_ways (flag_at (replicate n false) v) (get_or-replicate n v false false l) h
  | inr g ↦ both_ways (flag_at (replicate n false) v) (get_or_past (replicate n false) v false (rw (length-replicate n false) g)) h
]

pub flag_set : (marks : List Bool) (v w : ℕ) → w < length marks → flag_at marks v ≡ true → flag_at (slice_set marks w true) v ≡ true
flag_set marks v w lt h = elim (cases_eq v w) as (λ _. flag_at (slice_set marks w true) v ≡ true) [
  | inl e ↦ ap (flag_at (slice_set marks w true)) e ∙ get_or-set_same marks w true false lt
  | inr ne ↦ get_or-set_other marks w v true false ne ∙ h
]

pub marked_more : (seen : List Bool) (c : List ℤ) (n : ℕ) (marks : List Bool) (y : ℤ) → slice_get c n ≡ Some y → unsigned_abs y < length marks → AreMarkedUpTo seen c n marks → AreMarkedUpTo seen c (n + 1) (slice_set marks (unsigned_abs y) true)
marked_more seen c n marks y q lt h =
    let w = unsigned_abs y in
    record {
      stays = λ v f. flag_set marks v w lt (h.stays v f);
      set = λ k x l i. elim (cases_lt k n) as (λ _. flag_at (slice_set marks w true) (unsigned_abs x) ≡ true) [
        | inl less ↦ flag_set marks (unsigned_abs x) w lt (h.set k x less i)
        | inr g ↦ let same : n ≡ k = omega arith in
            ap (λ z. flag_at (slice_set marks w true) (unsigned_abs z)) (sym (same_Some y x (sym q ∙ ap (slice_get c) same ∙ i))) ∙ get_or-set_same marks w true false lt
      ];
      from = λ v f. elim (cases_eq v w) as (λ _. (flag_at seen v ≡ true) ⊎ ((x : ℤ) × Contains c x × (unsigned_abs x ≡ v))) [
        | inl e ↦ inr (y, contains_at c n y q, sym e)
        | inr ne ↦ h.from v (sym (get_or-set_other marks w v true false ne) ∙ f)
      ];
    }

pub marked_all : (seen : List Bool) (c : List ℤ) (n : ℕ) (marks : List Bool) → length c ≤ n → AreMarkedUpTo seen c n marks → AreMarked seen c marks
marked_all seen c n marks le h = record { stays = h.stays; set = λ x i. let a = at_contains c x i in h.set a.0 x (omega (arith, slice_get_within c a.0 x a.1)) a.1; from = h.from }

-- ---- the flagged variables as numbers
pos_less : (u v : ℕ) → u < v → pos u <ℤ pos v
pos_less u v h = omega (arith, ints)

less_pos : (u v : ℕ) → pos u <ℤ pos v → u < v
less_pos u v h = omega (arith, ints)

rises_from_push : (x : ℤ) (ys : List ℤ) (z : ℤ) → RisesFrom x ys → x <ℤ z → ((y : ℤ) → Contains ys y → y <ℤ z) → RisesFrom x (ys ++ z ∷ [])
rises_from_push x [] z h l k = (l, tt)
rises_from_push x (y ∷ ys) z h l k = (h.0, rises_from_push y ys z h.1 (k y (cons_here y ys)) (λ w i. k w (cons_there y w ys i)))

rises_push : (ys : List ℤ) (z : ℤ) → Rises ys → ((y : ℤ) → Contains ys y → y <ℤ z) → Rises (ys ++ z ∷ [])
rises_push [] z h k = tt
rises_push (y ∷ ys) z h k = rises_from_push y ys z h (k y (cons_here y ys)) (λ w i. k w (cons_there y w ys i))

pub flagged_push : (seen : List Bool) (numbers : List ℤ) (v : ℕ) → flag_at seen v ≡ true → AreFlagged seen numbers v → AreFlagged seen (numbers ++ pos v ∷ []) (v + 1)
flagged_push seen numbers v f h = record {
  rising = rises_push numbers (pos v) h.rising (λ y i. let a = h.from y i in subst (λ (z : ℤ). z <ℤ pos v) (sym a.3) (pos_less a.0 v a.1));
  onto = λ u lt g. elim (cases_lt u v) as (λ _. Contains (numbers ++ pos v ∷ []) (pos u)) [
    | inl l ↦ Contains-append_left numbers (pos v ∷ []) (pos u) (h.onto u l g)
    | inr ge ↦ let same : v ≡ u = omega arith in subst (λ (w : ℕ). Contains (numbers ++ pos v ∷ []) (pos w)) same (Contains-push numbers (pos v))
  ];
  from = λ y i. elim (Contains-push_cases numbers (pos v) y i) as (λ _. (u : ℕ) × (u < v + 1) × (flag_at seen u ≡ true) × (y ≡ pos u)) [
    | inl j ↦ let a = h.from y j in (a.0, omega (arith, a.1), a.2, a.3)
    | inr e ↦ (v, omega arith, f, sym e)
  ];
}

pub flagged_skip : (seen : List Bool) (numbers : List ℤ) (v : ℕ) → flag_at seen v ≡ false → AreFlagged seen numbers v → AreFlagged seen numbers (v + 1)
flagged_skip seen numbers v f h = record {
  rising = h.rising;
  onto = λ u lt g. elim (cases_lt u v) as (λ _. Contains numbers (pos u)) [
    | inl l ↦ h.onto u l g
    | inr ge ↦ let same : v ≡ u = omega arith in absurd (both_ways (flag_at seen u) (ap (flag_at seen) (sym same) ∙ f) g)
  ];
  from = λ y i. let a = h.from y i in (a.0, omega (arith, a.1), a.2, a.3);
}

pub two_of : (c : List ℤ) (i j : ℕ) (x y : ℤ) (above : ℕ) → Rises c → ((z : ℤ) → Contains c z → (v : ℕ) × (v < 2 ^ 31) × (z ≡ pos v)) → i < j → slice_get c i ≡ Some x → slice_get c j ≡ Some y → above ≡ unsigned_abs x → AreTwo c above
two_of c i j x y above r p lt a b e =
    let px = p x (contains_at c i x a) in
    let py = p y (contains_at c j y b) in
    let is : above ≡ px.0 = e ∙ ap unsigned_abs px.2 in
    let less : pos px.0 <ℤ pos py.0 = subst (λ (z : ℤ). z <ℤ pos py.0) px.2 (subst (λ (z : ℤ). x <ℤ z) py.2 (rises_less c i j x y r lt a b)) in
    record {
      other = py.0;
      less = subst (λ (k : ℕ). k < py.0) (sym is) (less_pos px.0 py.0 less);
      held = subst (λ (z : ℤ). Contains c z) (px.2 ∙ ap pos (sym is)) (contains_at c i x a);
      held_other = subst (λ (z : ℤ). Contains c z) py.2 (contains_at c j y b);
    }

-- a slice that was lent out of a list, put back
pub lent : {A : Type 0} (n : ℕ) (xs ys : List A) → n ≡ length xs → length ys ≡ length xs → take n (ys ++ drop (length ys) xs) ≡ ys
lent n xs ys e h =
    let rest : drop (length ys) xs ≡ [] = drop_all (length ys) xs (omega arith) in
    ap (λ zs. take n (ys ++ zs)) rest ∙ ap (take n) (append-nil ys) ∙ take_all n ys (omega arith)
