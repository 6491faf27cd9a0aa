-- All invariants of a demo are bound, in their order.
use Rattle.std.proofs.Common.{◌≡◌, ◌<◌, ◌≤◌, ◌^◌, ◌∙◌, ℕ, ◌+◌, List, [], ◌∷◌, ◌++◌, length, Result, Ok, Err, refl, sym, ap, subst, arith, append-nil}
use Rattle.std.specs.List.{AllByRecursion}
use Rattle.c_meaning.specs.Duties.{Placed}
use Rattle.c_meaning.specs.Placing.{placed_view}
use Rattle.c_meaning.specs.declared.run.PlacedInvariant.{PlacedInvariant}
use Rattle.demo_laws.specs.Bounds.{IsBound}
use Rattle.demo_laws.proofs.Bounds.{bounds_fit}
use Rattle.way_bind.specs.InOrder.{AllBound, Each, IsLeast, TellsLeast}
use Rattle.way_bind.specs.declared.fault.BindFault.{BindFault}
use Rattle.way_bind.specs.declared.fault.BindFault.TheVariants as fault
use Rattle.way_bind.specs.declared.fault.Unbound.{Unbound}
use Rattle.way_bind.specs.declared.fault.Unbound.TheVariants.{NoPlace, Expression, Scope, OutOfMemory}
use Rattle.way_invariants.specs.Invariants.{BindsInvariant, BindsInvariants}
use Rattle.wv_author.specs.Sequence.{bounds, loop_count}
use Rattle.wv_author.specs.Witnesses.{invariants, ranges}
use Rattle.wv_schema.specs.declared.witness.Invariant.{Invariant}
use Rattle.demo_run.specs.Typed.{correct_typed}
use Rattle.demo_binding.specs.Bound.{ArePlaced}
use Rattle.demo_binding.specs.Correct.{placed_ranges}
use Rattle.demo_binding.proofs.Ranges.{IsBoundTo, range_bound}
use Rattle.demo_binding.proofs.Suffixes.{IsSuffix, next, whole}

module _ (bs : List ℕ) where
  each_bound : (l k o : ℕ) (cs : List ℕ) → IsSuffix bs l k o cs → k + length cs < 2 ^ 31 → AllByRecursion IsBound cs → Each (IsBoundTo bs) (ranges k cs) (placed_ranges l k o cs)
  each_bound l k o [] h low fit = tt
  each_bound l k o (b ∷ cs) h low fit = (
    range_bound bs l k o b cs h (omega arith) (omega (arith, (fit.0).few)),
    each_bound (l + 1 + 1 + 1 + 1 + 1 + 1 + 1) (k + 1) (o + 1) cs (next bs l k o b cs h) (omega arith) fit.1,
  )

  only_these : (vs : List Invariant) (xs ys : List Placed) → Each (IsBoundTo bs) vs xs → AllBound (BindsInvariant (correct_typed bs)) vs ys → ys ≡ xs
  only_these [] [] [] h k = refl
  only_these [] [] (y ∷ ys) h k = absurd k
  only_these [] (x ∷ xs) ys h k = absurd h
  only_these (v ∷ vs) [] ys h k = absurd h
  only_these (v ∷ vs) (x ∷ xs) [] h k = absurd k
  only_these (v ∷ vs) (x ∷ xs) (y ∷ ys) h k = ap (λ z. z ∷ ys) ((h.0).only y k.0) ∙ ap (λ zs. x ∷ zs) (only_these vs xs ys h.1 k.1)

  -- one of them is bound
  record HasPlace (v : Invariant) : Type 0 where
    point : Placed
    its : IsBoundTo bs v point

  one_of_these : (before behind : List Invariant) (v : Invariant) (xs : List Placed) → Each (IsBoundTo bs) (before ++ v ∷ behind) xs → HasPlace v
  one_of_these [] behind v [] h = absurd h
  one_of_these [] behind v (x ∷ xs) h = record { point = x; its = h.0 }
  one_of_these (u ∷ before) behind v [] h = absurd h
  one_of_these (u ∷ before) behind v (x ∷ xs) h = one_of_these before behind v xs h.1

  no_least : (vs : List Invariant) (xs : List Placed) (n : ℕ) (lack : Unbound) → Each (IsBoundTo bs) vs xs → (lack ≡ OutOfMemory → ⊥) → IsLeast (BindsInvariant (correct_typed bs)) 1 vs n lack → ⊥
  no_least vs xs n lack h other least =
      let one = one_of_these least.before least.behind least.at xs (subst (λ us. Each (IsBoundTo bs) us xs) least.in_order h) in
      (one.its).stands lack other least.fails

  -- what an answer says of invariants in their order
  abbrev AnswersInOrder : List Invariant → Result (List PlacedInvariant) BindFault → Type 0
  AnswersInOrder vs (Ok ys) = AllBound (BindsInvariant (correct_typed bs)) vs (placed_view ys)
  AnswersInOrder vs (Err f) = TellsLeast (BindsInvariant (correct_typed bs)) 1 vs f

  all_bound : (vs : List Invariant) (xs : List Placed) (answer : Result (List PlacedInvariant) BindFault) → Each (IsBoundTo bs) vs xs → AnswersInOrder vs answer → ArePlaced xs answer
  all_bound vs xs (Ok ys) h k = only_these vs xs (placed_view ys) h k
  all_bound vs xs (Err (fault.NoPlace n)) h k = no_least vs xs n NoPlace h (λ e. cc) k
  all_bound vs xs (Err (fault.Expression n)) h k = no_least vs xs n Expression h (λ e. cc) k
  all_bound vs xs (Err (fault.Scope n)) h k = no_least vs xs n Scope h (λ e. cc) k
  all_bound vs xs (Err fault.OutOfMemory) h k = tt

pub sets_bound : (n : ℕ) (text : List ℕ) (answer : Result (List PlacedInvariant) BindFault) → BindsInvariants (correct_typed (bounds n loop_count)) (invariants n text) answer →
    ArePlaced (placed_ranges 4 1 0 (bounds n loop_count)) answer
sets_bound n text answer h =
    let bs = bounds n loop_count in
    let fit = bounds_fit n in
    let few : length bs ≤ 40 = fit.few in
    let each = each_bound bs 4 1 0 bs (whole bs) (omega (arith, few)) fit.each in
    all_bound bs (ranges 1 bs ++ []) (placed_ranges 4 1 0 bs) answer (subst (λ vs. Each (IsBoundTo bs) vs (placed_ranges 4 1 0 bs)) (sym (append-nil (ranges 1 bs))) each) h
