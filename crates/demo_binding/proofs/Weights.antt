-- A demo's program with its invariants is light: each loop weighs as much, and one invariant stands at its head.
use Rattle.std.proofs.Common.{◌≡◌, ◌<◌, ◌≤◌, inl, inr, ◌∙◌, ℕ, zero, suc, ◌+◌, ◌*◌, nat_eq, Bool, true, false, ◌&&◌, ◌||◌, cond, List, [], ◌∷◌, length, slice_get, Some, refl, sym, ap, subst, arith}
use Rattle.std.proofs.lemmas.Bool.Decides.{nat_tests}
use Rattle.c_core.specs.Tree.{Exp, Program, Stm, Stms}
use Rattle.c_core.specs.declared.number.IntType.TheVariants.{Int}
use Rattle.c_core.specs.declared.number.Spot.{Spot}
use Rattle.c_meaning.specs.Changed.{changed_by, changed_here, changed_there}
use Rattle.c_meaning.specs.Duties.{Placed}
use Rattle.c_meaning.specs.Meaning.{WhileLoop}
use Rattle.c_meaning.specs.Objects.{size_in, type_in}
use Rattle.c_meaning.specs.Parts.{numbers_from, object_numbers, those}
use Rattle.c_core.specs.Parts.{same_spot}
use Rattle.demo_laws.specs.Bounds.{AreBounds}
use Rattle.demo_laws.specs.Source.{declared_at, ended_at, line_behind, looped_at, tested_at}
use Rattle.demo_run.specs.Typed.{correct_typed, loop_objects, loops, operation, step_block}
use Rattle.c_core.specs.declared.number.BinOp.TheVariants as op
use Rattle.sym_weight.specs.Sum.{statements}
use Rattle.sym_weight.specs.Table.{bits_of_object, bits_of_objects}
use Rattle.sym_weight.specs.Weight.{Chain, IsTooBig, Weight, chain_in, chaining, evaluation, nowhere, placed_weight, weight_in, weighing}
use Rattle.demo_binding.specs.Correct.{placed_ranges, range_at, range_test}
use Rattle.demo_binding.proofs.Suffixes.{last}

-- ---- objects

int_objects : (l k : ℕ) (bs : List ℕ) (o : ℕ) → type_in (slice_get (loop_objects l k bs) o) ≡ Int
int_objects l k [] o = refl
int_objects l k (b ∷ bs) zero = refl
int_objects l k (b ∷ bs) (suc o) = int_objects (l + 1 + 1 + 1 + 1 + 1 + 1 + 1) (k + 1) bs o

one_cell : (l k : ℕ) (bs : List ℕ) (o : ℕ) → size_in (slice_get (loop_objects l k bs) o) ≤ 1
one_cell l k [] o = omega arith
one_cell l k (b ∷ bs) zero = omega arith
one_cell l k (b ∷ bs) (suc o) = one_cell (l + 1 + 1 + 1 + 1 + 1 + 1 + 1) (k + 1) bs o

objects_count : (l k : ℕ) (bs : List ℕ) → length (loop_objects l k bs) ≡ length bs
objects_count l k [] = refl
objects_count l k (b ∷ bs) = ap suc (objects_count (l + 1 + 1 + 1 + 1 + 1 + 1 + 1) (k + 1) bs)

numbers_count : (i n : ℕ) → length (numbers_from i n) ≡ n
numbers_count i zero = refl
numbers_count i (suc n) = ap suc (numbers_count (suc i) n)

and_false : (b : Bool) → (b && false) ≡ false
and_false true = refl
and_false false = refl

differs : (a b : ℕ) → b < a → nat_eq a b ≡ false
differs a b low = grind (arith, nat_tests)

same_number : (a b : ℕ) → nat_eq a b ≡ true → a ≡ b
same_number a b e = grind (arith, nat_tests)

module _ (bs : List ℕ) where
  abbrev p : Program
  p = correct_typed bs

  abbrev I : List Placed
  I = placed_ranges 4 1 0 bs

  few_bits : (o : ℕ) → bits_of_object p o ≤ 32
  few_bits o = let size = one_cell 4 1 bs o in rw (int_objects 4 1 bs o) (omega (arith, size))

  more_bits : (b : Bool) (o n : ℕ) (os : List ℕ) → bits_of_objects p os ≤ 32 * n → bits_of_objects p (cond b (o ∷ os) os) ≤ 32 * suc n
  more_bits true o n os few = let here = few_bits o in omega (arith, here, few)
  more_bits false o n os few = omega (arith, few)

  bits_of_those : (q : ℕ → Bool) (os : List ℕ) → bits_of_objects p (those q os) ≤ 32 * length os
  bits_of_those q [] = omega arith
  bits_of_those q (o ∷ os) = more_bits (q o) o (length os) (those q os) (bits_of_those q os)

  changed_bits : (e : Exp) (b : Stm) → bits_of_objects p (changed_by p (WhileLoop e b)) ≤ 32 * length bs
  changed_bits e b =
      let count = numbers_count 0 (length p.objects) in
      let objects = objects_count 4 1 bs in
      let all = bits_of_those (λ o. changed_here (WhileLoop e b) o || changed_there p (WhileLoop e b) o) (object_numbers p) in
      omega (arith, count, objects, all)

  -- ---- invariants

  abbrev most : ℕ
  most = 1500

  range_weighs : (o b : ℕ) (at : ℕ → Spot) → evaluation p (range_test o b at) ≤ most
  range_weighs o b at = omega arith

  none_at_statements : (l k o : ℕ) (cs : List ℕ) (at : Spot) → placed_weight p (placed_ranges l k o cs) false at ≡ 0
  none_at_statements l k o [] at = refl
  none_at_statements l k o (b ∷ cs) at =
      let m = l + 1 + 1 + 1 + 1 + 1 + 1 + 1 in
      let others = placed_weight p (placed_ranges m (k + 1) (o + 1) cs) false at in
      ap (λ t. cond t (evaluation p (range_test o b (range_at k b)) + others) others) (and_false (same_spot (looped_at (l + 1) k b 0) at)) ∙ none_at_statements m (k + 1) (o + 1) cs at

  none_behind : (l k o : ℕ) (cs : List ℕ) (at : Spot) → at.line ≤ l → placed_weight p (placed_ranges l k o cs) true at ≡ 0
  none_behind l k o [] at low = refl
  none_behind l k o (b ∷ cs) at low =
      let m = l + 1 + 1 + 1 + 1 + 1 + 1 + 1 in
      let others = placed_weight p (placed_ranges m (k + 1) (o + 1) cs) true at in
      ap (λ t. cond ((t && nat_eq (looped_at (l + 1) k b 0).column at.column) && true) (evaluation p (range_test o b (range_at k b)) + others) others) (differs (l + 1) at.line (omega arith))
      ∙ none_behind m (k + 1) (o + 1) cs at (omega arith)

  at_most : (b : Bool) (w r : ℕ) → w ≤ most → r ≡ 0 → cond b (w + r) r ≤ most
  at_most true w r light none = omega arith
  at_most false w r light none = omega arith

  by_line : (t : Bool) (l k o b : ℕ) (cs : List ℕ) (at : Spot) → nat_eq (l + 1) at.line ≡ t
      → placed_weight p (placed_ranges (l + 1 + 1 + 1 + 1 + 1 + 1 + 1) (k + 1) (o + 1) cs) true at ≤ most → placed_weight p (placed_ranges l k o (b ∷ cs)) true at ≤ most
  by_line true l k o b cs at e more =
      let line = same_number (l + 1) at.line e in
      at_most (same_spot (looped_at (l + 1) k b 0) at && true) (evaluation p (range_test o b (range_at k b))) (placed_weight p (placed_ranges (l + 1 + 1 + 1 + 1 + 1 + 1 + 1) (k + 1) (o + 1) cs) true at)
      (range_weighs o b (range_at k b)) (none_behind (l + 1 + 1 + 1 + 1 + 1 + 1 + 1) (k + 1) (o + 1) cs at (omega (arith, line)))
  by_line false l k o b cs at e more =
      let others = placed_weight p (placed_ranges (l + 1 + 1 + 1 + 1 + 1 + 1 + 1) (k + 1) (o + 1) cs) true at in
      subst (λ t. cond ((t && nat_eq (looped_at (l + 1) k b 0).column at.column) && true) (evaluation p (range_test o b (range_at k b)) + others) others ≤ most) (sym e) more

  one_at_loops : (l k o : ℕ) (cs : List ℕ) (at : Spot) → placed_weight p (placed_ranges l k o cs) true at ≤ most
  one_at_loops l k o [] at = omega arith
  one_at_loops l k o (b ∷ cs) at = by_line (nat_eq (l + 1) at.line) l k o b cs at refl (one_at_loops (l + 1 + 1 + 1 + 1 + 1 + 1 + 1) (k + 1) (o + 1) cs at)

  -- ---- loops

  abbrev weight : Stms → ℕ
  weight b = statements p (weighing (weight_in p I 1)) (placed_weight p I) (Some Int) b

  loop_weighs : (l k o b : ℕ) (rest : Stms) → length bs ≤ 40 → weight (loops l k o (b ∷ []) rest) ≤ 14000 + weight rest
  loop_weighs l k o b rest few =
      let declared = declared_at l k in
      let looped = looped_at (l + 1) k b in
      let tested = tested_at (l + 1 + 1 + 1 + 1) k b in
      let a0 = none_at_statements 4 1 0 bs (declared 0) in
      let a1 = none_at_statements 4 1 0 bs (looped 0) in
      let a2 = none_at_statements 4 1 0 bs (looped 6) in
      let a3 = none_at_statements 4 1 0 bs (looped 7) in
      let a4 = none_at_statements 4 1 0 bs (tested 0) in
      let a5 = none_at_statements 4 1 0 bs (tested 6) in
      let a6 = none_at_statements 4 1 0 bs (tested 7) in
      let head = one_at_loops 4 1 0 bs (looped 0) in
      let changed = changed_bits (operation op.Lt o b (looped 2) (looped 4)) (step_block o looped) in
      let size = one_cell 4 1 bs o in
      rw (int_objects 4 1 bs o) (omega (arith, a0, a1, a2, a3, a4, a5, a6, head, changed, size, few))

  loops_weigh : (l k o : ℕ) (cs : List ℕ) (rest : Stms) → length bs ≤ 40 → weight (loops l k o cs rest) ≤ 14000 * length cs + weight rest
  loops_weigh l k o [] rest few = omega arith
  loops_weigh l k o (b ∷ cs) rest few =
      let m = l + 1 + 1 + 1 + 1 + 1 + 1 + 1 in
      let one = loop_weighs l k o b (loops m (k + 1) (o + 1) cs rest) few in
      let others = loops_weigh m (k + 1) (o + 1) cs rest few in
      omega (arith, one, others)

  light : length bs ≤ 40 → Weight p I ≤ 2000000
  light few =
      let body = loops_weigh 4 1 0 bs (last bs) few in
      let none = none_at_statements 4 1 0 bs (ended_at (line_behind 4 bs) 0) in
      omega (arith, body, few, none)

  abbrev chain : Stms → ℕ
  chain b = statements p (chaining (chain_in p 1)) nowhere (Some Int) b

  loops_chain : (l k o : ℕ) (cs : List ℕ) (rest : Stms) → chain rest ≡ 0 → chain (loops l k o cs rest) ≡ 0
  loops_chain l k o [] rest none = none
  loops_chain l k o (b ∷ cs) rest none =
      let more = loops_chain (l + 1 + 1 + 1 + 1 + 1 + 1 + 1) (k + 1) (o + 1) cs rest none in omega (arith, more)

  no_chain : Chain p ≡ 0
  no_chain = let body = loops_chain 4 1 0 bs (last bs) refl in omega (arith, body)

  not_too_big : length bs ≤ 40 → IsTooBig p I → ⊥
  not_too_big few (inl long) = let short = no_chain in absurd (omega (arith, short, long))
  not_too_big few (inr heavy) = let fits = light few in absurd (omega (arith, fits, heavy))

pub demo_is_light : (bs : List ℕ) → AreBounds bs → IsTooBig (correct_typed bs) (placed_ranges 4 1 0 bs) → ⊥
demo_is_light bs bounds = let few : length bs ≤ 40 = bounds.few in not_too_big bs few
