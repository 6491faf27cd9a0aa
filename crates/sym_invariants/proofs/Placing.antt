-- The invariants of a place, one after another.
use Rattle.std.proofs.Common.{◌≡◌, ℕ, suc, ◌+◌, ◌<◌, ◌≤◌, ◌^◌, Bool, true, false, cond, List, [], ◌∷◌, ◌++◌, length, take, drop, get_or, refl, sym, ◌∙◌, ap, subst, arith, Some, length-append}
use Rattle.std.proofs.Math.Seq.{take-suc}
use Rattle.std.specs.List.{All}
use Rattle.std.proofs.lemmas.List.Elements.{All-get_or}
use Rattle.std.proofs.lemmas.List.{get_or-map, length-map, length-take-le, map-append, take-append-drop}
use Rattle.std.proofs.lemmas.List.Sorted.{length_permutation}
use Rattle.c_core.specs.Tree.{Program}
use Rattle.c_core.specs.declared.number.Spot.{Spot}
use Rattle.c_meaning.specs.Acts.{Res, Go, Stop, bind}
use Rattle.c_meaning.specs.Duties.{Placed, Duties, duty, function_duties, invariant_duties}
use Rattle.c_meaning.specs.Havoc.{Stopped, Dismisses, Fails, stands}
use Rattle.sym_meaning.specs.Mode.{JudgedState}
use Rattle.sym_meaning.specs.Obliging.{test_from, assume_all}
use Rattle.c_meaning.specs.Value as value
use Rattle.c_meaning.specs.declared.run.Duty.{Duty}
use Rattle.c_meaning.specs.declared.run.DutyKind.{DutyKind}
use Rattle.c_meaning.specs.declared.run.DutyKind.TheVariants.{Location, Entry, Kept}
use Rattle.c_meaning.specs.declared.run.PlacedInvariant.{PlacedInvariant}
use Rattle.c_duties.proofs.Stable.{sorted_moves}
use Rattle.circuits.specs.Net.{Means}
use Rattle.circuits.specs.declared.net.Bit.{Bit}
use Rattle.sym_flow.proofs.Draws.{nothing_follows}
use Rattle.sym_flow.proofs.Tests.{invariant_follows, test_next, test_passed, tests_snoc, assume_next, assume_passed, assumes_snoc}
use Rattle.sym_flow.specs.Testing.{tested, invariant_tested}
use Rattle.sym_state.proofs.Composed.{follows_as, follows_then, net_follows}
use Rattle.sym_state.proofs.Nets.{longer_by}
use Rattle.sym_state.specs.Following.{Follows}
use Rattle.sym_state.specs.Standing.{stand, IsState}
use Rattle.sym_state.specs.declared.state.Sym.{Sym}
use Rattle.sym_values.specs.Valuing.{Decided}
use Rattle.sym_weight.specs.Table as table
use Rattle.c_meaning.specs.Placing.{IsInvariant, placed, placed_view}
use Rattle.sym_weight.specs.Weight.{evaluation, placed_weight}
use Rattle.sym_invariants.specs.Valued.{Holds, weight_of}

-- ---- how many, and how much they weigh
kinds_few : (b : Bool) (x y z : Duty) (ds : List Duty) → suc (length ds) ≤ length (cond b (x ∷ y ∷ []) (z ∷ []) ++ ds)
kinds_few true x y z ds = omega arith
kinds_few false x y z ds = omega arith

own_duties : (i : ℕ) (xs : List Placed) → length xs ≤ length (invariant_duties i xs)
own_duties i [] = omega arith
own_duties i (x ∷ xs) = omega (arith, own_duties (suc i) xs, kinds_few x.at_loop (duty x.spot Entry (Some i)) (duty x.spot Kept (Some i)) (duty x.spot Location (Some i)) (invariant_duties (suc i) xs))

-- each invariant has an obligation
pub few_invariants : (p : Program) (xs : List Placed) → length xs ≤ length (Duties p xs)
few_invariants p xs =
    let ds = invariant_duties 0 xs ++ function_duties p p.functions in
    omega (arith, own_duties 0 xs, length-append (invariant_duties 0 xs) (function_duties p p.functions), length_permutation ds (Duties p xs) (sorted_moves ds))

weight_over : (b : Bool) (e n m k : ℕ) → n ≡ m + k → cond b (e + n) n ≡ cond b (e + m) m + k
weight_over true e n m k h = omega (arith, h)
weight_over false e n m k h = h

-- the invariants up to an index, and the one there
pub taken_more : (xs : List PlacedInvariant) (k : ℕ) (x : PlacedInvariant) → k < length xs → x ≡ get_or xs k x → placed_view (take (k + 1) xs) ≡ placed_view (take k xs) ++ placed x ∷ []
taken_more xs k x h e =
    let m : suc k ≡ k + 1 = omega arith in
    ap (λ j. placed_view (take j xs)) (sym m) ∙ ap placed_view (take-suc xs k x h) ∙ ap (λ y. placed_view (take k xs ++ y ∷ [])) (sym e) ∙ map-append placed (take k xs) (x ∷ [])

pub taken_length : (xs : List PlacedInvariant) (k : ℕ) → k ≤ length xs → length (placed_view (take k xs)) ≡ k
taken_length xs k h = length-map (take k xs) placed ∙ length-take-le k xs h

pub invariant_at : (p : Program) (xs : List PlacedInvariant) (k : ℕ) (x : PlacedInvariant) → k < length xs → x ≡ get_or xs k x → All (IsInvariant p) (placed_view xs) → IsInvariant p (placed x)
invariant_at p xs k x h e all =
    subst (IsInvariant p) (get_or-map placed xs k x (placed x) h ∙ ap placed (sym e)) (All-get_or (IsInvariant p) (placed_view xs) k (placed x) (omega (arith, h, length-map xs placed)) all)

module _ (p : Program) (at_loop : Bool) (spot : Spot) where
  pub weight_append : (xs ys : List Placed) → placed_weight p (xs ++ ys) at_loop spot ≡ placed_weight p xs at_loop spot + placed_weight p ys at_loop spot
  weight_append [] ys = omega arith
  weight_append (x ∷ xs) ys = weight_over (stands p [] at_loop spot x) (evaluation p x.test) _ _ _ (weight_append xs ys)

  pub weight_more : (xs : List PlacedInvariant) (k : ℕ) (x : PlacedInvariant) → k < length xs → x ≡ get_or xs k x
      → placed_weight p (placed_view (take (k + 1) xs)) at_loop spot ≡ placed_weight p (placed_view (take k xs)) at_loop spot + placed_weight p (placed x ∷ []) at_loop spot
  weight_more xs k x h e = ap (λ z. placed_weight p z at_loop spot) (taken_more xs k x h e) ∙ weight_append (placed_view (take k xs)) (placed x ∷ [])

  -- those up to an index, and the one there, weigh no more than all
  pub weight_within : (xs : List PlacedInvariant) (k : ℕ) (x : PlacedInvariant) → k < length xs → x ≡ get_or xs k x
      → placed_weight p (placed_view (take k xs)) at_loop spot + placed_weight p (placed x ∷ []) at_loop spot ≤ placed_weight p (placed_view xs) at_loop spot
  weight_within xs k x h e =
      let all = ap (λ z. placed_weight p (placed_view z) at_loop spot) (sym (take-append-drop (k + 1) xs)) ∙ ap (λ z. placed_weight p z at_loop spot) (map-append placed (take (k + 1) xs) (drop (k + 1) xs)) ∙ weight_append (placed_view (take (k + 1) xs)) (placed_view (drop (k + 1) xs)) in
      omega (arith, all, weight_more xs k x h e)

  pub weight_here : (I : List Placed) (x : Placed) → stands p I at_loop spot x ≡ true → placed_weight p (x ∷ []) at_loop spot ≡ evaluation p x.test
  weight_here I x h = ap (λ b. cond b (evaluation p x.test + 0) 0) h ∙ (let e : evaluation p x.test + 0 ≡ evaluation p x.test = omega arith in e)

-- ---- room
module _ (p : Program) (I : List Placed) (at_loop : Bool) (spot : Spot) (x : Placed) (at : stands p I at_loop spot x ≡ true) where
  pub room_here : (n : ℕ) → n + placed_weight p (x ∷ []) at_loop spot < 2 ^ 27 → n + (1 + (weight_of p x.test + table.tested p.model x.test)) < 2 ^ 27
  room_here n room = omega (arith, room, weight_here p at_loop spot I x at)

  pub room_behind : {a b : Sym} {test : Bit} → Holds p x.test a b test → length a.net + placed_weight p (x ∷ []) at_loop spot < 2 ^ 27 → length b.net < 2 ^ 27
  room_behind d room = omega (arith, room, weight_here p at_loop spot I x at, (longer_by d.turned.added).1)

alone : (r : Res Stopped JudgedState (Unit {0})) → bind r (λ u s. Go tt s) ≡ r
alone (Go tt s) = refl
alone (Stop e s) = refl

module _ (p : Program) (I : List Placed) (ds : List Duty) where
  -- an invariant whose bit is tested
  bit_tested : {k l : ℕ} {a b c : Sym} (x : Placed) (e : Stopped) (test : Bit) → Decided p k a b test (λ v. value.holds p x.test (stand p v a).cells)
      → Follows ds p l 0 b c (λ v u. Unit {0}) (tested b test e) → (n : ℕ) → k + l ≤ n → Follows ds p n 0 a c (λ v u. Unit {0}) (λ v. invariant_tested p x e)
  bit_tested {k} {l} {a} {b} {c} x e test d y n few =
      let m : Means b.net test (λ v. value.holds p x.test (stand p v b).cells) = record { inside = d.means.inside; is = λ v. d.means.is v ∙ ap (λ z. value.holds p x.test z.cells) (sym (d.turned.is v)) } in
      let nothing : (ℕ → Bool) → Unit {0} = λ v. tt in
      let before : Follows ds p k 0 a b (λ v u. Unit {0}) (λ v s. Go tt s) = net_follows p ds nothing d.turned nothing in
      follows_then p ds n 0 (λ v u. invariant_tested p x e) before (invariant_follows p ds x e test m y) (λ v u t s. refl) few (omega arith)

  -- ---- tests
  module _ (at_loop : Bool) (spot : Spot) (kind : DutyKind) where
    pub one_elsewhere : (i : ℕ) (x : Placed) (a : Sym) → IsState p a → stands p I at_loop spot x ≡ false
        → Follows ds p (placed_weight p (x ∷ []) at_loop spot) 0 a a (λ v u. Unit {0}) (λ v. test_from p I i (x ∷ []) at_loop spot kind)
    one_elsewhere i x a fits h = follows_as p ds (nothing_follows p ds a fits) (λ v u t. t) (λ v s. test_passed p I i x [] at_loop spot kind s h) (omega arith) (omega arith)

    pub one_tested : {k l : ℕ} {a b c : Sym} (i : ℕ) (x : Placed) (test : Bit) → stands p I at_loop spot x ≡ true → Decided p k a b test (λ v. value.holds p x.test (stand p v a).cells)
        → Follows ds p l 0 b c (λ v u. Unit {0}) (tested b test (Fails (duty spot kind (Some i)))) → k + l ≤ evaluation p x.test
        → Follows ds p (placed_weight p (x ∷ []) at_loop spot) 0 a c (λ v u. Unit {0}) (λ v. test_from p I i (x ∷ []) at_loop spot kind)
    one_tested i x test h d y few =
        follows_as p ds (bit_tested x (Fails (duty spot kind (Some i))) test d y (evaluation p x.test) few) (λ v u t. t)
        (λ v s. sym (alone (invariant_tested p x (Fails (duty spot kind (Some i))) s)) ∙ test_next p I i x [] at_loop spot kind s h) (omega (arith, weight_here p at_loop spot I x h)) (omega arith)

    pub none_tested : (a : Sym) → IsState p a → Follows ds p 0 0 a a (λ v u. Unit {0}) (λ v. test_from p I 0 [] at_loop spot kind)
    none_tested a fits = nothing_follows p ds a fits

    -- the next one is tested
    pub more_tested : (xs : List PlacedInvariant) (k : ℕ) (x : PlacedInvariant) (a b c : Sym) → k < length xs → x ≡ get_or xs k x
        → Follows ds p (placed_weight p (placed_view (take k xs)) at_loop spot) 0 a b (λ v u. Unit {0}) (λ v. test_from p I 0 (placed_view (take k xs)) at_loop spot kind)
        → Follows ds p (placed_weight p (placed x ∷ []) at_loop spot) 0 b c (λ v u. Unit {0}) (λ v. test_from p I k (placed x ∷ []) at_loop spot kind)
        → Follows ds p (placed_weight p (placed_view (take (k + 1) xs)) at_loop spot) 0 a c (λ v u. Unit {0}) (λ v. test_from p I 0 (placed_view (take (k + 1) xs)) at_loop spot kind)
    more_tested xs k x a b c h e y z =
        let before = placed_view (take k xs) in
        let number : 0 + length before ≡ k = omega (arith, taken_length xs k (omega (arith, h))) in
        follows_as p ds (follows_then p ds (placed_weight p (placed_view (take (k + 1) xs)) at_loop spot) 0 (λ v u. test_from p I k (placed x ∷ []) at_loop spot kind) y z (λ v u t s. refl) (omega (arith, weight_more p at_loop spot xs k x h e)) (omega arith))
        (λ v u t. t)
        (λ v s.
        ap (λ j. bind (test_from p I 0 before at_loop spot kind s) (λ u. test_from p I j (placed x ∷ []) at_loop spot kind)) (sym number) ∙ sym (tests_snoc p I before 0 (placed x) at_loop spot kind s)
        ∙ ap (λ q. test_from p I 0 q at_loop spot kind s) (sym (taken_more xs k x h e)))
        (omega arith) (omega arith)

  -- ---- assumptions
  module _ (spot : Spot) where
    pub one_assumed_elsewhere : (x : Placed) (a : Sym) → IsState p a → stands p I true spot x ≡ false
        → Follows ds p (placed_weight p (x ∷ []) true spot) 0 a a (λ v u. Unit {0}) (λ v. assume_all p I (x ∷ []) spot)
    one_assumed_elsewhere x a fits h = follows_as p ds (nothing_follows p ds a fits) (λ v u t. t) (λ v s. assume_passed p I x [] spot s h) (omega arith) (omega arith)

    pub one_assumed : {k l : ℕ} {a b c : Sym} (x : Placed) (test : Bit) → stands p I true spot x ≡ true → Decided p k a b test (λ v. value.holds p x.test (stand p v a).cells)
        → Follows ds p l 0 b c (λ v u. Unit {0}) (tested b test Dismisses) → k + l ≤ evaluation p x.test
        → Follows ds p (placed_weight p (x ∷ []) true spot) 0 a c (λ v u. Unit {0}) (λ v. assume_all p I (x ∷ []) spot)
    one_assumed x test h d y few =
        follows_as p ds (bit_tested x Dismisses test d y (evaluation p x.test) few) (λ v u t. t) (λ v s. sym (alone (invariant_tested p x Dismisses s)) ∙ assume_next p I x [] spot s h)
        (omega (arith, weight_here p true spot I x h)) (omega arith)

    pub more_assumed : (xs : List PlacedInvariant) (k : ℕ) (x : PlacedInvariant) (a b c : Sym) → k < length xs → x ≡ get_or xs k x
        → Follows ds p (placed_weight p (placed_view (take k xs)) true spot) 0 a b (λ v u. Unit {0}) (λ v. assume_all p I (placed_view (take k xs)) spot)
        → Follows ds p (placed_weight p (placed x ∷ []) true spot) 0 b c (λ v u. Unit {0}) (λ v. assume_all p I (placed x ∷ []) spot)
        → Follows ds p (placed_weight p (placed_view (take (k + 1) xs)) true spot) 0 a c (λ v u. Unit {0}) (λ v. assume_all p I (placed_view (take (k + 1) xs)) spot)
    more_assumed xs k x a b c h e y z =
        let before = placed_view (take k xs) in
        follows_as p ds (follows_then p ds (placed_weight p (placed_view (take (k + 1) xs)) true spot) 0 (λ v u. assume_all p I (placed x ∷ []) spot) y z (λ v u t s. refl) (omega (arith, weight_more p true spot xs k x h e)) (omega arith))
        (λ v u t. t) (λ v s. sym (assumes_snoc p I before (placed x) spot s) ∙ ap (λ q. assume_all p I q spot s) (sym (taken_more xs k x h e))) (omega arith) (omega arith)
