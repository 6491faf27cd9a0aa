-- The number of a duty among duties.
use Rattle.std.proofs.Common.{◌≡◌, ◌<◌, ◌⊎◌, inl, inr, ℕ, zero, suc, ℤ, Bool, true, false, cond, ◌&&◌, nat_eq, eqb-true, eq-eqb, List, [], ◌∷◌, length, Option, Some, None, slice_get, refl, sym, ap, ◌∙◌, arith}
use Rattle.std.specs.List.{Contains}
use Rattle.std.proofs.lemmas.List.Elements.{Contains-append_cases}
use Rattle.std.proofs.lemmas.List.Sorted.{Contains-permutation}
use Rattle.c_core.specs.Program.{IsProgram}
use Rattle.c_core.specs.Tree.{Program}
use Rattle.c_core.specs.declared.number.Spot.{Spot}
use Rattle.c_meaning.specs.declared.run.DutyKind.{DutyKind}
use Rattle.c_meaning.specs.declared.run.DutyKind.TheVariants.{Location, Entry, Kept, Property}
use Rattle.c_meaning.specs.declared.run.Duty.{Duty}
use Rattle.c_meaning.specs.declared.run.HavocEnd.TheVariants.{Failed}
use Rattle.c_meaning.specs.Acts.{Res, Go, Stop, Flow}
use Rattle.c_core.specs.Parts.{same_spot}
use Rattle.c_meaning.specs.Duties.{Placed, Duties, duty, kind_rank, number_among, same_duty, same_number}
use Rattle.c_meaning.specs.Havoc.{Stopped, Passes, Dismisses, Fails, Left, havoc_in, havoc_run}
use Rattle.c_duties.specs.Failing.{FailsAtDuties, IsFirstAt, IsFailure, TellsEach, TellsObligations}
use Rattle.c_duties.specs.Ordered.{unsorted}
use Rattle.c_duties.proofs.Differ.{all_differ}
use Rattle.c_duties.proofs.Failing.{fails_at_one}
use Rattle.c_duties.proofs.Safe.{first, second, same_place}
use Rattle.c_duties.proofs.Stable.{sorted_moves}

same_kinds : (a b : DutyKind) → kind_rank a ≡ kind_rank b → a ≡ b
same_kinds Location Location h = refl
same_kinds Entry Entry h = refl
same_kinds Kept Kept h = refl
same_kinds Property Property h = refl
same_kinds Location Entry h = absurd (omega arith)
same_kinds Location Kept h = absurd (omega arith)
same_kinds Location Property h = absurd (omega arith)
same_kinds Entry Location h = absurd (omega arith)
same_kinds Entry Kept h = absurd (omega arith)
same_kinds Entry Property h = absurd (omega arith)
same_kinds Kept Location h = absurd (omega arith)
same_kinds Kept Entry h = absurd (omega arith)
same_kinds Kept Property h = absurd (omega arith)
same_kinds Property Location h = absurd (omega arith)
same_kinds Property Entry h = absurd (omega arith)
same_kinds Property Kept h = absurd (omega arith)

same_numbers : (a b : Option ℕ) → same_number a b ≡ true → a ≡ b
same_numbers None None h = refl
same_numbers None (Some j) h = absurd (cc)
same_numbers (Some i) None h = absurd (cc)
same_numbers (Some i) (Some j) h = ap Some (eqb-true i j h)

-- the test of duties decides whether they are one
pub same_duties : (a b : Duty) → same_duty a b ≡ true → a ≡ b
same_duties a b h =
    let rest = second (same_spot a.spot b.spot) (nat_eq (kind_rank a.kind) (kind_rank b.kind) && same_number a.invariant b.invariant) h in
    let s : a.spot ≡ b.spot = same_place a.spot b.spot (first (same_spot a.spot b.spot) _ h) in
    let k : a.kind ≡ b.kind = same_kinds a.kind b.kind (eqb-true _ _ (first (nat_eq (kind_rank a.kind) (kind_rank b.kind)) (same_number a.invariant b.invariant) rest)) in
    let n : a.invariant ≡ b.invariant = same_numbers a.invariant b.invariant (second (nat_eq (kind_rank a.kind) (kind_rank b.kind)) (same_number a.invariant b.invariant) rest) in
    ap (λ (x : Spot). duty x a.kind a.invariant) s ∙ ap (λ (x : DutyKind). duty b.spot x a.invariant) k ∙ ap (λ (x : Option ℕ). duty b.spot b.kind x) n

both_hold : (a b : Bool) → a ≡ true → b ≡ true → a && b ≡ true
both_hold a b h g = ap (λ x. x && b) h ∙ g

number_itself : (n : Option ℕ) → same_number n n ≡ true
number_itself None = refl
number_itself (Some i) = eq-eqb i i refl

duty_itself : (d : Duty) → same_duty d d ≡ true
duty_itself d = both_hold _ _ (both_hold _ _ (eq-eqb d.spot.line d.spot.line refl) (eq-eqb d.spot.column d.spot.column refl)) (both_hold _ _ (eq-eqb (kind_rank d.kind) (kind_rank d.kind) refl) (number_itself d.invariant))

-- the index of the first that is d, and its number
pub record Counted (d : Duty) (ds : List Duty) : Type 0 where
  pub index : ℕ
  pub number : number_among d ds ≡ suc index
  pub at : IsFirstAt ds d index

counted_first : (d x : Duty) (xs : List Duty) → same_duty x d ≡ true → Counted d (x ∷ xs)
counted_first d x xs e = record {
  index = 0;
  number = ap (λ b. cond b 1 (suc (number_among d xs))) e;
  at = record { within = omega arith; is = ap Some (same_duties x d e); first = λ j l h. absurd (omega arith) };
}

not_before : (d x : Duty) (xs : List Duty) (index : ℕ) → same_duty x d ≡ false → IsFirstAt xs d index → (j : ℕ) → j < suc index → slice_get (x ∷ xs) j ≡ Some d → ⊥
not_before d x xs index e h zero l is =
    let same : x ≡ d = cc in
    let yes : same_duty x d ≡ true = ap (λ (y : Duty). same_duty y d) same ∙ duty_itself d in
    cc
not_before d x xs index e h (suc j) l is = h.first j (omega arith) is

counted_later : (d x : Duty) (xs : List Duty) → same_duty x d ≡ false → Counted d xs → Counted d (x ∷ xs)
counted_later d x xs e h = record {
  index = suc h.index;
  number = ap (λ b. cond b 1 (suc (number_among d xs))) e ∙ ap suc h.number;
  at = record { within = let l = h.at.within in omega arith; is = h.at.is; first = not_before d x xs h.index e h.at };
}

pub counted : (ds : List Duty) (d : Duty) → Contains ds d → Counted d ds
counted [] d h = let l = h.1 in absurd (omega arith)
counted (x ∷ xs) d h = by (same_duty x d) refl (Contains-append_cases (x ∷ []) xs d h) (counted xs d)
  where
    only : Contains (x ∷ []) d → x ≡ d
    only (zero, l, e) = e
    only (suc k, l, e) = absurd (omega arith)

    by : (b : Bool) → same_duty x d ≡ b → Contains (x ∷ []) d ⊎ Contains xs d → (Contains xs d → Counted d xs) → Counted d (x ∷ xs)
    by true e c f = counted_first d x xs e
    by false e (inl c) f =
        let yes : same_duty x d ≡ true = ap (λ (y : Duty). same_duty y d) (only c) ∙ duty_itself d in
        absurd (cc)
    by false e (inr c) f = counted_later d x xs e (f c)

module _ (p : Program) (I : List Placed) where
  pub fails_at_duties : FailsAtDuties p I
  fails_at_duties n w d s e = Contains-permutation (unsorted p I) (Duties p I) d (sorted_moves (unsorted p I)) (fails_at_one p I n w d s e)

  told : (w : List ℤ) (number : ℕ) (r : Res Stopped Left Flow) → havoc_in p I (suc (length p.functions)) w ≡ r → (havoc_run (Duties p I) r).end ≡ Failed number → IsFailure p I w number
  told w number (Go f s) e h = absurd (cc)
  told w number (Stop Passes s) e h = absurd (cc)
  told w number (Stop Dismisses s) e h = absurd (cc)
  told w number (Stop (Fails d) s) e h =
      let c = counted (Duties p I) d (fails_at_duties (suc (length p.functions)) w d s e) in
      let same : number_among d (Duties p I) ≡ number = cc in
      record { failed = d; left = s; run = e; index = c.index; counted = sym same ∙ c.number; at = c.at }

  pub tells_obligations : TellsObligations p I
  tells_obligations w number h = told w number (havoc_in p I (suc (length p.functions)) w) refl h

  pub tells_each : IsProgram p → TellsEach p I
  tells_each h w d s index e is =
      let c = counted (Duties p I) d (fails_at_duties (suc (length p.functions)) w d s e) in
      let same : c.index ≡ index = all_differ p h I c.index index d c.at.is is in
      ap (λ r. (havoc_run (Duties p I) r).end) e ∙ ap Failed (c.number ∙ ap suc same)
