-- Fewer invariants weigh no more: what is too big with some of them is too big with all.
use Rattle.std.proofs.Common.{ℕ, zero, suc, ◌+◌, ◌*◌, ◌<◌, ◌≤◌, inl, inr, Bool, true, false, cond, List, [], ◌∷◌, arith}
use Rattle.c_core.specs.Tree.{Program}
use Rattle.c_core.specs.declared.number.Spot.{Spot}
use Rattle.c_meaning.specs.Duties.{Placed}
use Rattle.c_meaning.specs.Havoc.{stands}
use Rattle.c_inductive.specs.Picking.{picked, picked_from}
use Rattle.c_core.specs.Scope.{is_in}
use Rattle.sym_weight.specs.Weight.{weighing, evaluation, placed_weight, weight_in, most_active, Weight, IsTooBig, most_weight}
use Rattle.sym_weight.proofs.Relating.{Relates, related_function}

-- one more of both lists
both_more : (here : Bool) (w some all : ℕ) → some ≤ all → cond here (w + some) some ≤ cond here (w + all) all
both_more true w some all l = omega (arith, l)
both_more false w some all l = l

-- one more of all of them
all_more : (here : Bool) (w some all : ℕ) → some ≤ all → some ≤ cond here (w + all) all
all_more true w some all l = omega (arith, l)
all_more false w some all l = l

-- an invariant in front, among the picked ones or not
front_lighter : (p : Program) (at_loop : Bool) (spot : Spot) (x : Placed) (some all : List Placed) (kept : Bool)
    → placed_weight p some at_loop spot ≤ placed_weight p all at_loop spot
    → placed_weight p (cond kept (x ∷ some) some) at_loop spot ≤ placed_weight p (x ∷ all) at_loop spot
front_lighter p at_loop spot x some all true l =
    both_more (stands p [] at_loop spot x) (evaluation p x.test)
    (placed_weight p some at_loop spot) (placed_weight p all at_loop spot) l
front_lighter p at_loop spot x some all false l =
    all_more (stands p [] at_loop spot x) (evaluation p x.test)
    (placed_weight p some at_loop spot) (placed_weight p all at_loop spot) l

-- the picked invariants of a place weigh at most as much as all of the place
placed_lighter : (p : Program) (ns : List ℕ) (at_loop : Bool) (spot : Spot) (i : ℕ) (I : List Placed)
    → placed_weight p (picked_from i ns I) at_loop spot ≤ placed_weight p I at_loop spot
placed_lighter p ns at_loop spot i [] = omega arith
placed_lighter p ns at_loop spot i (x ∷ xs) =
    front_lighter p at_loop spot x (picked_from (suc i) ns xs) xs (is_in i ns)
    (placed_lighter p ns at_loop spot (suc i) xs)

-- amounts that are at most the others stay so
less_relates : (one other : ℕ → ℕ) → ((f : ℕ) → one f ≤ other f)
    → Relates (weighing one) (weighing other) (λ a b. a ≤ b)
less_relates one other l = record {
  none = omega arith;
  both = λ a b c d k l. omega (arith, k, l);
  part = λ weight bits fits. omega arith;
  body = l;
}

statement_less : (a b : ℕ) → a ≤ b → 64 + a ≤ 64 + b
statement_less a b l = omega (arith, l)

head_less : (a b bits : ℕ) → a ≤ b → 3 * a + 4 * bits ≤ 3 * b + 4 * bits
head_less a b bits l = omega (arith, l)

-- where the invariants of each place weigh at most as much, so does each function with them
function_lighter : (p : Program) (J I : List Placed)
    → ((at_loop : Bool) (spot : Spot) → placed_weight p J at_loop spot ≤ placed_weight p I at_loop spot)
    → (n f : ℕ) → weight_in p J n f ≤ weight_in p I n f
function_lighter p J I less zero f = omega arith
function_lighter p J I less (suc n) f =
    related_function p (weighing (weight_in p J n)) (weighing (weight_in p I n)) (λ a b. a ≤ b)
    (less_relates (weight_in p J n) (weight_in p I n) (function_lighter p J I less n))
    (placed_weight p J) (placed_weight p I)
    (λ at. statement_less (placed_weight p J false at) (placed_weight p I false at) (less false at))
    (λ at bits. head_less (placed_weight p J true at) (placed_weight p I true at) bits (less true at)) f

picked_lighter : (p : Program) (ns : List ℕ) (I : List Placed) → Weight p (picked ns I) ≤ Weight p I
picked_lighter p ns I =
    function_lighter p (picked ns I) I (λ at_loop spot. placed_lighter p ns at_loop spot 1 I) (most_active p) p.main

above : (limit a b : ℕ) → limit < a → a ≤ b → limit < b
above limit a b big l = omega (arith, big, l)

pub still_too_big : (p : Program) (ns : List ℕ) (I : List Placed) → IsTooBig p (picked ns I) → IsTooBig p I
still_too_big p ns I (inl long) = inl long
still_too_big p ns I (inr heavy) =
    inr (above most_weight (Weight p (picked ns I)) (Weight p I) heavy (picked_lighter p ns I))
