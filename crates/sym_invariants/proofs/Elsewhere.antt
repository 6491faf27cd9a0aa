-- Where no obligation of an invariant stands, no invariant does, and nothing is tested.
use Rattle.std.proofs.Common.{◌≡◌, ℕ, zero, suc, ◌<◌, ◌≤◌, Bool, true, false, nat_lt, ltb-true, ltb-false, cond, not, List, [], ◌∷◌, ◌++◌, length, get_or, Option, Some, None, refl, sym, ◌∙◌, ap, subst, arith, true≢false}
use Rattle.std.specs.List.{All, Contains}
use Rattle.std.specs.List.Sorted.{IsPartitionPoint, IsSortedBy}
use Rattle.std.proofs.lemmas.List.Elements.{Contains-append_left, Contains-append_right}
use Rattle.std.proofs.lemmas.List.Sorted.{Contains-permutation, sorted_far}
use Rattle.c_core.specs.Tree.{Program}
use Rattle.c_core.specs.declared.number.Spot.{Spot}
use Rattle.c_meaning.specs.Acts.{Go}
use Rattle.c_meaning.specs.Duties.{Placed, Duties, duty, function_duties, invariant_duties, is_less}
use Rattle.c_meaning.specs.Havoc.{stands}
use Rattle.sym_meaning.specs.Mode.{JudgedState}
use Rattle.sym_meaning.specs.Obliging.{test_from, assume_all}
use Rattle.c_core.specs.Parts.{same_spot}
use Rattle.c_meaning.specs.declared.run.Duty.{Duty}
use Rattle.c_meaning.specs.declared.run.DutyKind.{DutyKind}
use Rattle.c_meaning.specs.declared.run.DutyKind.TheVariants.{Location, Entry, Kept}
use Rattle.c_duties.proofs.Order.{duties_ordered}
use Rattle.c_duties.proofs.Safe.{first, second, same_place}
use Rattle.c_duties.proofs.Stable.{sorted_moves}
use Rattle.sym_flow.proofs.Draws.{nothing_follows}
use Rattle.sym_flow.proofs.Tests.{test_passed, assume_passed}
use Rattle.sym_invariants.proofs.Numbering.{either, not_itself}
use Rattle.sym_state.proofs.Composed.{follows_as}
use Rattle.sym_state.specs.Following.{Follows}
use Rattle.sym_state.specs.Standing.{IsState}
use Rattle.sym_state.specs.declared.state.Sym.{Sym}

-- an invariant's first obligation
abbrev own_duty : ℕ → Placed → Duty
own_duty n x = cond x.at_loop (duty x.spot Entry (Some n)) (duty x.spot Location (Some n))

own_first : (b : Bool) (e k l : Duty) → Contains (cond b (e ∷ k ∷ []) (l ∷ [])) (cond b e l)
own_first true e k l = (0, omega arith, refl)
own_first false e k l = (0, omega arith, refl)

obliged : (i : ℕ) (xs : List Placed) (k : ℕ) (d : Placed) → k < length xs → (n : ℕ) × Contains (invariant_duties i xs) (own_duty n (get_or xs k d))
obliged i [] k d l = absurd (omega (arith, l))
obliged i (x ∷ xs) zero d l =
    let own = cond x.at_loop (duty x.spot Entry (Some i) ∷ duty x.spot Kept (Some i) ∷ []) (duty x.spot Location (Some i) ∷ []) in
    (i, Contains-append_left own (invariant_duties (suc i) xs) (own_duty i x) (own_first x.at_loop (duty x.spot Entry (Some i)) (duty x.spot Kept (Some i)) (duty x.spot Location (Some i))))
obliged i (x ∷ xs) (suc k) d l =
    let own = cond x.at_loop (duty x.spot Entry (Some i) ∷ duty x.spot Kept (Some i) ∷ []) (duty x.spot Location (Some i) ∷ []) in
    let later = obliged (suc i) xs k d (omega (arith, l)) in
    (later.0, Contains-append_right own (invariant_duties (suc i) xs) (own_duty later.0 (get_or xs k d)) later.1)

same_kinds : (a b : Bool) → cond a b (not b) ≡ true → (spot : Spot) (n : Option ℕ) → cond b (duty spot Entry n) (duty spot Location n) ≡ duty spot (cond a Entry Location) n
same_kinds true true h spot n = refl
same_kinds false false h spot n = refl
same_kinds true false h spot n = absurd (cc)
same_kinds false true h spot n = absurd (cc)

-- of an invariant at the place it stands there
own_at : (p : Program) (I : List Placed) (at_loop : Bool) (spot : Spot) (x : Placed) (n : ℕ) → stands p I at_loop spot x ≡ true → own_duty n x ≡ duty spot (cond at_loop Entry Location) (Some n)
own_at p I at_loop spot x n h =
    let place : x.spot ≡ spot = same_place x.spot spot (first (same_spot x.spot spot) (cond at_loop x.at_loop (not x.at_loop)) h) in
    let kind : cond at_loop x.at_loop (not x.at_loop) ≡ true = second (same_spot x.spot spot) (cond at_loop x.at_loop (not x.at_loop)) h in
    same_kinds at_loop x.at_loop kind x.spot (Some n) ∙ ap (λ (s : Spot). duty s (cond at_loop Entry Location) (Some n)) place

level : (spot : Spot) (kind : DutyKind) (a b : Option ℕ) → is_less (duty spot kind a) (duty spot kind b) ≡ false
level spot kind a b = either (is_less (duty spot kind b) (duty spot kind b)) (not_itself (duty spot kind b))

pub not_no : (b : Bool) → not b ≡ false → b ≡ true
not_no true h = refl
not_no false h = absurd (cc)

-- no obligation of that place and kind stands where it would
module _ (ds : List Duty) (rise : IsSortedBy is_less ds) (probe : Duty) (start : ℕ) (point : IsPartitionPoint (λ x. is_less x probe ≡ true) (λ x. is_less x probe ≡ false) ds start)
    (later : (z : Duty) → start < length ds → is_less probe (get_or ds start z) ≡ true) where
  none_level : (y : Duty) → is_less y probe ≡ false → is_less probe y ≡ false → Contains ds y → ⊥
  none_level y a b (j, within, is) = by (nat_lt j start) refl
    where
      by : (q : Bool) → nat_lt j start ≡ q → ⊥
      by true e = true≢false (sym (point.0 j y (omega arith) (ltb-true j start e)) ∙ ap (λ z. is_less z probe) is ∙ a)
      by false e =
          let l : start ≤ j = ltb-false j start e in
          let far : is_less y (get_or ds start y) ≡ false = ap (λ z. is_less z (get_or ds start y)) (sym is) ∙ sorted_far is_less duties_ordered ds rise start j y l within in
          true≢false (sym (later y (omega (arith, l, within))) ∙ duties_ordered.chain probe y (get_or ds start y) b far)

module _ (p : Program) (I : List Placed) (at_loop : Bool) (spot : Spot) where
  -- so no invariant is at the place
  pub none_stands : (ds : List Duty) → ds ≡ Duties p I → (rise : IsSortedBy is_less ds) (kind : DutyKind) → kind ≡ cond at_loop Entry Location → (start : ℕ)
      → IsPartitionPoint (λ x. is_less x (duty spot kind None) ≡ true) (λ x. is_less x (duty spot kind None) ≡ false) ds start → ((z : Duty) → start < length ds → is_less (duty spot kind None) (get_or ds start z) ≡ true)
      → All (λ x. stands p I at_loop spot x ≡ false) I
  none_stands ds same rise kind of start point later k d l =
      either (stands p I at_loop spot (get_or I k d))
      (λ here.
      let own = obliged 0 I k d l in
      let y = duty spot kind (Some own.0) in
      let among : Contains (Duties p I) (own_duty own.0 (get_or I k d)) = Contains-permutation _ (Duties p I) _ (sorted_moves (invariant_duties 0 I ++ function_duties p p.functions)) (Contains-append_left (invariant_duties 0 I) (function_duties p p.functions) _ own.1) in
      let found : Contains ds y = subst (λ z. Contains z y) (sym same) (subst (Contains (Duties p I)) (own_at p I at_loop spot (get_or I k d) own.0 here ∙ ap (λ q. duty spot q (Some own.0)) (sym of)) among) in
      none_level ds rise (duty spot kind None) start point later y (level spot kind (Some own.0) None) (level spot kind None (Some own.0)) found)

  tests_nothing : (kind : DutyKind) (i : ℕ) (xs : List Placed) → All (λ x. stands p I at_loop spot x ≡ false) xs → (s : JudgedState) → test_from p I i xs at_loop spot kind s ≡ Go tt s
  tests_nothing kind i [] h s = refl
  tests_nothing kind i (x ∷ xs) h s =
      sym (test_passed p I i x xs at_loop spot kind s (h 0 x (omega arith))) ∙ tests_nothing kind (suc i) xs (λ k d l. h (suc k) d (omega (arith, l))) s

  pub nothing_tested : (ds : List Duty) (kind : DutyKind) (a : Sym) (n : ℕ) → IsState p a → All (λ x. stands p I at_loop spot x ≡ false) I
      → Follows ds p n 0 a a (λ v u. Unit {0}) (λ v. test_from p I 0 I at_loop spot kind)
  nothing_tested ds kind a n fits h = follows_as p ds (nothing_follows p ds a fits) (λ v u t. t) (λ v s. sym (tests_nothing kind 0 I h s)) (omega arith) (omega arith)

module _ (p : Program) (I : List Placed) (spot : Spot) where
  assumes_nothing : (xs : List Placed) → All (λ x. stands p I true spot x ≡ false) xs → (s : JudgedState) → assume_all p I xs spot s ≡ Go tt s
  assumes_nothing [] h s = refl
  assumes_nothing (x ∷ xs) h s = sym (assume_passed p I x xs spot s (h 0 x (omega arith))) ∙ assumes_nothing xs (λ k d l. h (suc k) d (omega (arith, l))) s

  pub nothing_assumed : (ds : List Duty) (a : Sym) (n : ℕ) → IsState p a → All (λ x. stands p I true spot x ≡ false) I → Follows ds p n 0 a a (λ v u. Unit {0}) (λ v. assume_all p I I spot)
  nothing_assumed ds a n fits h = follows_as p ds (nothing_follows p ds a fits) (λ v u t. t) (λ v s. sym (assumes_nothing I h s)) (omega arith) (omega arith)
