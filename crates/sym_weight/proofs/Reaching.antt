-- Without the heads of loops a total is no more than the whole; with the heads of the functions that main comes to, main's total is the whole.
use Rattle.std.proofs.Common.{◌≡◌, ◌≤◌, ◌<◌, ℕ, zero, suc, ◌+◌, max, Bool, true, false, cond, ◌&&◌, List, [], ◌∷◌, length, get_or, Option, Some, None, slice_get, ⊎_elim, refl, sym, ap, ◌∙◌, subst, arith}
use Rattle.std.specs.Prelude.{IsTrue, nat_le, map}
use Rattle.std.specs.List.{list_all}
use Rattle.std.specs.Option.{option_map}
use Rattle.std.proofs.lemmas.Bool.{cases_lt, false≢true, leb-true, le-leb}
use Rattle.std.proofs.lemmas.Option.{slice_get-map, slice_get_past, slice_get_read}
use Rattle.sym_weight.specs.declared.cost.Tally as rust
use Rattle.sym_weight.specs.declared.totals.Total.{Total}
use Rattle.sym_weight.specs.Reached.{IsClosed, calls_in, is_wanted}
use Rattle.sym_weight.specs.Tally.{AreTallied, IsTallied, IsTalliedIf, Tally, capped, tallies_view, tally_view}
use Rattle.sym_weight.specs.Totals.{called_chain, called_weight, longest_over, next_total, sum_over, total_at, total_in, totals_after}
use Rattle.sym_weight.specs.Weighed.{judged}
use Rattle.sym_weight.proofs.Rounds.{total_is}

-- no more weight, and chains as long
pub record IsBelow (least whole : Total) : Type 0 where
  pub weight : least.weight ≤ whole.weight
  pub chain : least.chain ≡ whole.chain

more : (a b s t : ℕ) → a ≤ b → s ≤ t → a + s ≤ b + t
more a b s t h k = omega arith

sum_below : (least whole : ℕ → ℕ) → ((g : ℕ) → least g ≤ whole g) → (fs : List ℕ) → sum_over least fs ≤ sum_over whole fs
sum_below least whole h [] = omega arith
sum_below least whole h (f ∷ fs) = more (least f) (whole f) (sum_over least fs) (sum_over whole fs) (h f) (sum_below least whole h fs)

longest_same : (a b : ℕ → ℕ) → ((g : ℕ) → a g ≡ b g) → (fs : List ℕ) → longest_over a fs ≡ longest_over b fs
longest_same a b h [] = refl
longest_same a b h (f ∷ fs) = ap (λ n. max (suc n) (longest_over a fs)) (h f) ∙ ap (λ n. max (suc (b f)) n) (longest_same a b h fs)

with_calls : (c d s t : ℕ) → c ≤ d → s ≤ t → capped (c + capped s) ≤ capped (d + capped t)
with_calls c d s t h k = omega arith

next_below : (S T : List Total) → ((g : ℕ) → IsBelow (total_at S g) (total_at T g)) → (heads : Bool) (t w : Tally) → IsTallied heads t w → IsBelow (next_total S t) (next_total T w)
next_below S T h heads t w k = record {
  weight = with_calls t.cost.weight w.cost.weight (called_weight S t.calls) (called_weight T w.calls) k.cost.below
      (subst (λ fs. called_weight S t.calls ≤ called_weight T fs) k.calls (sum_below (λ g. (total_at S g).weight) (λ g. (total_at T g).weight) (λ g. (h g).weight) t.calls));
  chain = ap capped (longest_same (λ g. (total_at S g).chain) (λ g. (total_at T g).chain) (λ g. (h g).chain) t.calls ∙ ap (called_chain T) k.calls);
}

below_if : (S T : List Total) → ((g : ℕ) → IsBelow (total_at S g) (total_at T g)) → (heads : Bool) (t w : Option Tally) → IsTalliedIf heads t w
    → IsBelow (total_in (option_map (next_total S) t)) (total_in (option_map (next_total T) w))
below_if S T h heads None None k = record { weight = omega arith; chain = refl }
below_if S T h heads (Some t) (Some w) k = next_below S T h heads t w k
below_if S T h heads None (Some w) k = absurd k
below_if S T h heads (Some t) None k = absurd k

-- after each round
pub below_after : (q : ℕ → Bool) (light whole : List Tally) → AreTallied q light whole → (n f : ℕ) → IsBelow (total_at (totals_after light n) f) (total_at (totals_after whole n) f)
below_after q light whole h zero f = record { weight = omega arith; chain = refl }
below_after q light whole h (suc n) f =
    let S = totals_after light n in
    let T = totals_after whole n in
    subst (λ x. IsBelow x (total_at (map (next_total T) whole) f)) (sym (ap total_in (slice_get-map (next_total S) light f)))
    (subst (λ x. IsBelow (total_in (option_map (next_total S) (slice_get light f))) x) (sym (ap total_in (slice_get-map (next_total T) whole f)))
    (below_if S T (below_after q light whole h n) (q f) (slice_get light f) (slice_get whole f) (h f)))

some_is_none : (t : Total) → Some t ≡ None → ⊥
some_is_none t e = false≢true (sym (ap is_some e))
  where
    is_some : Option Total → Bool
    is_some None = false
    is_some (Some x) = true

at_most : (a b n : ℕ) → a ≤ b → b ≤ n → a ≤ n
at_most a b n h k = omega arith

-- what is too big without them is too big with them
pub still_too_big : (least whole : Total) → IsBelow least whole → judged least ≡ None → judged whole ≡ None
still_too_big least whole h e = by_tests (nat_le whole.chain 32) (nat_le whole.weight 2000000) refl refl
  where
    fits : nat_le whole.chain 32 ≡ true → nat_le whole.weight 2000000 ≡ true → judged least ≡ Some least
    fits a b =
        ap (λ x. cond (x && nat_le least.weight 2000000) (Some least) None) (ap (λ n. nat_le n 32) h.chain ∙ a)
        ∙ ap (λ x. cond (true && x) (Some least) None) (le-leb least.weight 2000000 (at_most least.weight whole.weight 2000000 h.weight (leb-true whole.weight 2000000 b)))

    by_tests : (x y : Bool) → nat_le whole.chain 32 ≡ x → nat_le whole.weight 2000000 ≡ y → cond (x && y) (Some whole) None ≡ None
    by_tests true true a b = absurd (some_is_none least (sym (fits a b) ∙ e))
    by_tests true false a b = refl
    by_tests false y a b = refl

both_true : (a b : Bool) → IsTrue (a && b) → IsTrue a × IsTrue b
both_true true b h = (refl, h)
both_true false b h = absurd (false≢true h)

module _ (q : ℕ → Bool) (S T : List Total) (h : (g : ℕ) → IsTrue (q g) → total_at S g ≡ total_at T g) where
  sum_same : (part : Total → ℕ) (fs : List ℕ) → IsTrue (list_all q fs) → sum_over (λ g. part (total_at S g)) fs ≡ sum_over (λ g. part (total_at T g)) fs
  sum_same part [] m = refl
  sum_same part (f ∷ fs) m =
      let both = both_true (q f) (list_all q fs) m in
      ap (λ n. n + sum_over (λ g. part (total_at S g)) fs) (ap part (h f both.0)) ∙ ap (λ n. part (total_at T f) + n) (sum_same part fs both.1)

  chain_same : (fs : List ℕ) → IsTrue (list_all q fs) → called_chain S fs ≡ called_chain T fs
  chain_same [] m = refl
  chain_same (f ∷ fs) m =
      let both = both_true (q f) (list_all q fs) m in
      ap (λ n. max (suc n) (called_chain S fs)) (ap (λ t. t.chain) (h f both.0)) ∙ ap (λ n. max (suc (total_at T f).chain) n) (chain_same fs both.1)

  next_same : (w : Tally) → IsTrue (list_all q w.calls) → next_total S w ≡ next_total T w
  next_same w m =
      total_is _ _ _ _ _ _ (ap (λ n. capped (w.cost.weight + capped n)) (sum_same (λ t. t.weight) w.calls m)) (ap (λ n. capped (w.cost.bits + capped n)) (sum_same (λ t. t.bits) w.calls m)) (ap capped (chain_same w.calls m))

  tallied_same : (t w : Tally) → IsTallied true t w → next_total S t ≡ next_total S w
  tallied_same t w k = ap (λ c. next_total S (record { cost = c; calls = t.calls })) (k.cost.all refl) ∙ ap (λ fs. next_total S (record { cost = w.cost; calls = fs })) k.calls

  same_if : (light t w : Option Tally) → IsTalliedIf false light w → IsTalliedIf true t w → IsTrue (list_all q (calls_in light)) → total_in (option_map (next_total S) t) ≡ total_in (option_map (next_total T) w)
  same_if None None None l k m = refl
  same_if (Some light) (Some t) (Some w) l k m = tallied_same t w k ∙ next_same w (subst (λ fs. IsTrue (list_all q fs)) l.calls m)
  same_if None None (Some w) l k m = absurd l
  same_if None (Some t) (Some w) l k m = absurd l
  same_if (Some light) None None l k m = absurd l
  same_if (Some light) (Some t) None l k m = absurd l
  same_if None (Some t) None l k m = absurd k
  same_if (Some light) None (Some w) l k m = absurd k

module _ (marks : List Bool) (main : ℕ) (light some whole : List Tally) (l : AreTallied (λ f. false) light whole) (c : IsClosed marks light main) (s : AreTallied (is_wanted marks) some whole) where
  same_after : (n f : ℕ) → IsTrue (is_wanted marks f) → total_at (totals_after some n) f ≡ total_at (totals_after whole n) f
  same_after zero f m = refl
  same_after (suc n) f m =
      let S = totals_after some n in
      let T = totals_after whole n in
      ap total_in (slice_get-map (next_total S) some f)
      ∙ same_if (is_wanted marks) S T (same_after n) (slice_get light f) (slice_get some f) (slice_get whole f) (l f) (subst (λ b. IsTalliedIf b (slice_get some f) (slice_get whole f)) m (s f)) (c.calls f m)
      ∙ sym (ap total_in (slice_get-map (next_total T) whole f))

  pub main_same : (n : ℕ) → total_at (totals_after some n) main ≡ total_at (totals_after whole n) main
  main_same n = same_after n main c.marked

-- what holds of the functions so far, and of one more
one_more : (P : ℕ → Type 0) (n : ℕ) → ((f : ℕ) → f < n → P f) → P n → (f : ℕ) → f < n + 1 → P f
one_more P n h k f l = ⊎_elim (h f) (λ m. subst P (same m) k) (cases_lt f n)
  where
    same : n ≤ f → n ≡ f
    same m = omega (arith, l, m)

module _ (marks : List Bool) (tallies : List rust.Tally) where
  -- marked, it calls marked ones alone
  abbrev pub KeepsCalls : ℕ → Type 0
  KeepsCalls f = IsTrue (is_wanted marks f) → IsTrue (list_all (is_wanted marks) (calls_in (slice_get (tallies_view tallies) f)))

  pub one_more_keeps : (n : ℕ) (t : rust.Tally) → n < length tallies → t ≡ get_or tallies n t → (IsTrue (is_wanted marks n) → IsTrue (list_all (is_wanted marks) t.calls))
      → ((f : ℕ) → f < n → KeepsCalls f) → (f : ℕ) → f < n + 1 → KeepsCalls f
  one_more_keeps n t l e k h = one_more KeepsCalls n h (λ m. subst (λ o. IsTrue (list_all (is_wanted marks) (calls_in o))) (sym at) (k m))
    where
      at : slice_get (tallies_view tallies) n ≡ Some (tally_view t)
      at = slice_get-map tally_view tallies n ∙ ap (option_map tally_view) (slice_get_read tallies (length tallies) n t refl l e)

  pub all_keep : (n : ℕ) → length tallies ≤ n → ((f : ℕ) → f < n → KeepsCalls f) → (f : ℕ) → KeepsCalls f
  all_keep n l h f = ⊎_elim (h f) (λ m w. subst (λ o. IsTrue (list_all (is_wanted marks) (calls_in o))) (sym (none m)) refl) (cases_lt f n)
    where
      none : n ≤ f → slice_get (tallies_view tallies) f ≡ None
      none m = slice_get-map tally_view tallies f ∙ ap (option_map tally_view) (slice_get_past tallies f (omega (arith, l, m)))

-- an empty list marks all functions
all_wanted : (fs : List ℕ) → IsTrue (list_all (is_wanted []) fs)
all_wanted [] = refl
all_wanted (f ∷ fs) = all_wanted fs

pub all_closed : (marks : List Bool) (tallies : List Tally) (main : ℕ) → marks ≡ [] → IsClosed marks tallies main
all_closed marks tallies main e = subst (λ m. IsClosed m tallies main) (sym e) (record { marked = refl; calls = λ f m. all_wanted (calls_in (slice_get tallies f)) })

weaker : (heads : Bool) (t w : Option Tally) → IsTalliedIf heads t w → IsTalliedIf false t w
weaker heads None None h = tt
weaker heads (Some t) (Some w) h = record { cost = record { all = λ e. absurd (false≢true e); below = h.cost.below }; calls = h.calls }
weaker heads None (Some w) h = absurd h
weaker heads (Some t) None h = absurd h

-- in any case without heads
pub all_weaker : (q : ℕ → Bool) (light whole : List Tally) → AreTallied q light whole → AreTallied (λ f. false) light whole
all_weaker q light whole h f = weaker (q f) (slice_get light f) (slice_get whole f) (h f)
