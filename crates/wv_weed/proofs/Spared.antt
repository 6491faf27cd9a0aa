-- The numbers that are left where flags drop others.
use Rattle.std.proofs.Common.{◌≡◌, ℕ, zero, suc, ◌<◌, ◌≤◌, Bool, true, false, List, [], ◌∷◌, length, refl, sym, ◌∙◌, ap, arith, inl, inr, Some}
use Rattle.std.specs.Prelude.{slice_get, replicate, nat_eq, ◌||◌}
use Rattle.std.specs.List.{All}
use Rattle.std.proofs.lemmas.Bool.{cases_lt, eqb-true, or_cases}
use Rattle.std.proofs.lemmas.List.{get_or-replicate, get_or_past, length-replicate}
use Rattle.std.proofs.lemmas.List.Elements.{All-cons, All-head, All-tail}
use Rattle.c_inductive.specs.Picking.{Rise, IsSelection}
use Rattle.c_core.specs.Scope.{is_in}
use Rattle.wv_weed.specs.Numbers.{unflagged, IsSet}
use Rattle.wv_weed.proofs.Picked.{rise_weaker}

pub false_true : false ≡ true → ⊥
false_true e = cc

-- no flag is set of those that are made
pub none_replicated : (n k : ℕ) → IsSet (replicate n false) k → ⊥
none_replicated n k on = elim (cases_lt k n) as (λ _. ⊥) [
  | inl lt ↦ false_true (sym (get_or-replicate n k false false lt) ∙ on)
  | inr ge ↦
      false_true (sym (get_or_past (replicate n false) k false (omega (arith, length-replicate n false, ge))) ∙ on)
]

pub or_first : (a b : Bool) → a ≡ true → (a || b) ≡ true
or_first true b p = refl
or_first false b p = absurd (false_true p)

pub or_second : (a b : Bool) → b ≡ true → (a || b) ≡ true
or_second true b p = refl
or_second false b p = p

rise_spared : (last : ℕ) (flags : List Bool) (ns : List ℕ) → Rise last ns → Rise last (unflagged flags ns)
rise_spared last flags [] rise = tt
rise_spared last [] (n ∷ ns) rise = rise
rise_spared last (true ∷ flags) (n ∷ ns) rise =
    let less : last < n = rise.0 in
    rise_weaker last n (unflagged flags ns) (omega (arith, less)) (rise_spared n flags ns rise.1)
rise_spared last (false ∷ flags) (n ∷ ns) rise = (rise.0, rise_spared n flags ns rise.1)

all_spared : (P : ℕ → Type 0) (flags : List Bool) (ns : List ℕ) → All P ns → All P (unflagged flags ns)
all_spared P flags [] all = all
all_spared P [] (n ∷ ns) all = all
all_spared P (true ∷ flags) (n ∷ ns) all = all_spared P flags ns (All-tail P n ns all)
all_spared P (false ∷ flags) (n ∷ ns) all =
    All-cons P n (unflagged flags ns) (All-head P n ns all) (all_spared P flags ns (All-tail P n ns all))

pub spared_selected : (count : ℕ) (flags : List Bool) (ns : List ℕ) → IsSelection count ns
    → IsSelection count (unflagged flags ns)
spared_selected count flags ns selection = record {
  rising = rise_spared 0 flags ns selection.rising;
  within = all_spared (λ n. n ≤ count) flags ns selection.within;
}

pub no_longer : (flags : List Bool) (ns : List ℕ) → length (unflagged flags ns) ≤ length ns
no_longer flags [] = omega arith
no_longer [] (n ∷ ns) = omega arith
no_longer (true ∷ flags) (n ∷ ns) = let le = no_longer flags ns in omega (arith, le)
no_longer (false ∷ flags) (n ∷ ns) = let le = no_longer flags ns in omega (arith, le)

-- where as many are left, no flag is set
pub none_set : (flags : List Bool) (ns : List ℕ) (k : ℕ) → length flags ≡ length ns
    → length ns ≤ length (unflagged flags ns) → IsSet flags k → ⊥
none_set [] ns k many le on = false_true on
none_set (flag ∷ flags) [] k many le on = absurd (omega (arith, many))
none_set (true ∷ flags) (n ∷ ns) k many le on = let less = no_longer flags ns in omega (arith, le, less)
none_set (false ∷ flags) (n ∷ ns) zero many le on = false_true on
none_set (false ∷ flags) (n ∷ ns) (suc k) many le on = none_set flags ns k (omega (arith, many)) (omega (arith, le)) on

-- a number at whose places no flag is set is left
pub is_spared : (flags : List Bool) (ns : List ℕ) (m : ℕ) → is_in m ns ≡ true
    → ((k : ℕ) → IsSet flags k → slice_get ns k ≡ Some m → ⊥) → is_in m (unflagged flags ns) ≡ true
is_spared flags [] m among none = among
is_spared [] (n ∷ ns) m among none = among
is_spared (true ∷ flags) (n ∷ ns) m among none =
    elim (or_cases (nat_eq m n) (is_in m ns) among) as (λ _. is_in m (unflagged flags ns) ≡ true) [
      | inl here ↦ absurd (none 0 refl (ap Some (sym (eqb-true m n here))))
      | inr later ↦ is_spared flags ns m later (λ k on there. none (suc k) on there)
    ]
is_spared (false ∷ flags) (n ∷ ns) m among none =
    elim (or_cases (nat_eq m n) (is_in m ns) among)
    as (λ _. (nat_eq m n || is_in m (unflagged flags ns)) ≡ true) [
      | inl here ↦ or_first (nat_eq m n) (is_in m (unflagged flags ns)) here
      | inr later ↦
          or_second (nat_eq m n) (is_in m (unflagged flags ns))
          (is_spared flags ns m later (λ k on there. none (suc k) on there))
    ]
