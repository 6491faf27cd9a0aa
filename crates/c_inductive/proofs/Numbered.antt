-- An obligation of an invariant names one of the invariants.
use Rattle.std.proofs.Common.{◌≡◌, ◌<◌, ◌+◌, ◌⊎◌, inl, inr, ℕ, zero, suc, Bool, true, false, cond, List, [], ◌∷◌, length, Some, None, slice_get, sym, ap, arith}
use Rattle.std.specs.List.{Contains}
use Rattle.std.proofs.lemmas.List.Elements.{Contains-append_cases}
use Rattle.std.proofs.lemmas.Option.{get_or_from_slice_get, slice_get_within}
use Rattle.std.proofs.lemmas.List.Sorted.{Contains-permutation, IsPermutation-sym}
use Rattle.c_core.specs.Tree.{Exp, Function, Program}
use Rattle.c_core.specs.declared.number.Spot.{Spot}
use Rattle.c_meaning.specs.declared.run.Duty.{Duty}
use Rattle.c_meaning.specs.declared.run.DutyKind.TheVariants.{Location, Entry, Kept, Property}
use Rattle.c_meaning.specs.Duties.{Placed, Duties, duty, may_violate, property_duties, function_duties, invariant_duties}
use Rattle.c_core.specs.Parts.{spot_of}
use Rattle.c_meaning.specs.Parts.{some_node, fulls_of}
use Rattle.c_duties.specs.Ordered.{unsorted}
use Rattle.c_duties.proofs.Stable.{sorted_moves}
use Rattle.c_inductive.specs.Inductive.{is_of_invariant, NamesInvariant, DutiesNameInvariants}

found : (xs : List Duty) (k : ℕ) (d : Duty) → slice_get xs k ≡ Some d → Contains xs d
found xs k d e = (k, slice_get_within xs k d e, get_or_from_slice_get xs k d d e)

only : (x d : Duty) → Contains (x ∷ []) d → x ≡ d
only x d (zero, l, e) = e
only x d (suc k, l, e) = absurd (omega arith)

-- ---- obligations of invariants

abbrev of_one : Bool → Spot → ℕ → List Duty
of_one b spot i = cond b (duty spot Entry (Some i) ∷ duty spot Kept (Some i) ∷ []) (duty spot Location (Some i) ∷ [])

own_number : (b : Bool) (spot : Spot) (i : ℕ) (d : Duty) → Contains (of_one b spot i) d → d.invariant ≡ Some i
own_number true spot i d (zero, l, e) = sym (ap (λ (x : Duty). x.invariant) e)
own_number true spot i d (suc zero, l, e) = sym (ap (λ (x : Duty). x.invariant) e)
own_number true spot i d (suc (suc k), l, e) = absurd (omega arith)
own_number false spot i d (zero, l, e) = sym (ap (λ (x : Duty). x.invariant) e)
own_number false spot i d (suc k, l, e) = absurd (omega arith)

-- the number of an invariant's duty, below a bound
record HasNumber (bound : ℕ) (d : Duty) : Type 0 where
  number : ℕ
  below : number < bound
  is : d.invariant ≡ Some number

numbered : (i : ℕ) (xs : List Placed) (d : Duty) → Contains (invariant_duties i xs) d → HasNumber (i + length xs) d
numbered i [] d c = let l = c.1 in absurd (omega arith)
numbered i (x ∷ xs) d c =
    by (Contains-append_cases (of_one x.at_loop x.spot i) (invariant_duties (suc i) xs) d c) (numbered (suc i) xs d)
  where
    by : Contains (of_one x.at_loop x.spot i) d ⊎ Contains (invariant_duties (suc i) xs) d
        → (Contains (invariant_duties (suc i) xs) d → HasNumber (suc i + length xs) d)
        → HasNumber (i + length (x ∷ xs)) d
    by (inl a) f = record { number = i; below = omega arith; is = own_number x.at_loop x.spot i d a }
    by (inr a) f =
        let h = f a in
        let l : h.number < suc i + length xs = h.below in
        record { number = h.number; below = omega (arith, l); is = h.is }

-- ---- obligations of the property

module _ (p : Program) where
  of_property : (es : List Exp) (d : Duty) → Contains (property_duties p es) d → d.kind ≡ Property
  of_property [] d c = let l = c.1 in absurd (omega arith)
  of_property (e ∷ es) d c =
      let b : Bool = some_node (may_violate p.property p.model) e in
      let own : List Duty = cond b (duty (spot_of e) Property None ∷ []) [] in
      by b (Contains-append_cases own (property_duties p es) d c) (of_property es d)
    where
      by : (b : Bool) → Contains (cond b (duty (spot_of e) Property None ∷ []) []) d ⊎ Contains (property_duties p es) d
          → (Contains (property_duties p es) d → d.kind ≡ Property) → d.kind ≡ Property
      by true (inl a) f = sym (ap (λ (x : Duty). x.kind) (only (duty (spot_of e) Property None) d a))
      by false (inl a) f = let l = a.1 in absurd (omega arith)
      by b (inr a) f = f a

  of_functions : (fs : List Function) (d : Duty) → Contains (function_duties p fs) d → d.kind ≡ Property
  of_functions [] d c = let l = c.1 in absurd (omega arith)
  of_functions (f ∷ fs) d c =
      by (Contains-append_cases (property_duties p (fulls_of f.body)) (function_duties p fs) d c) (of_functions fs d)
    where
      by : Contains (property_duties p (fulls_of f.body)) d ⊎ Contains (function_duties p fs) d
          → (Contains (function_duties p fs) d → d.kind ≡ Property) → d.kind ≡ Property
      by (inl a) g = of_property (fulls_of f.body) d a
      by (inr a) g = g a

  -- the order of the obligations leaves them the same
  before_order : (I : List Placed) (d : Duty) → Contains (Duties p I) d → Contains (unsorted p I) d
  before_order I d c =
      Contains-permutation (Duties p I) (unsorted p I) d
      (IsPermutation-sym (unsorted p I) (Duties p I) (sorted_moves (unsorted p I))) c

  pub duties_name_invariants : (I : List Placed) → DutiesNameInvariants p I
  duties_name_invariants I index d e k =
      by (Contains-append_cases (invariant_duties 0 I) (function_duties p p.functions) d
      (before_order I d (found (Duties p I) index d e)))
    where
      by : Contains (invariant_duties 0 I) d ⊎ Contains (function_duties p p.functions) d → NamesInvariant I d
      by (inl c) =
          let h = numbered 0 I d c in
          let l = h.below in
          record { number = h.number; within = omega (arith, l); named = h.is }
      by (inr c) =
          let of_none : is_of_invariant d.kind ≡ false = ap is_of_invariant (of_functions p.functions d c) in
          absurd (cc)
