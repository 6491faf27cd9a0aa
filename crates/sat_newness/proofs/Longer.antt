-- A log of new clauses grows.
use Rattle.std.proofs.Common.{◌≡◌, ℕ, zero, suc, ◌+◌, ◌≤◌, Some, List, [], ◌∷◌, ◌++◌, length, ℤ, sym, ◌∙◌, ap, subst, arith}
use Rattle.std.specs.Prelude.{slice_get, replicate}
use Rattle.std.proofs.lemmas.Option.{none-some, same_Some, slice_get_within}
use Rattle.std.proofs.lemmas.List.{length-append, length-map, length_push, length-replicate}
use Rattle.clauses.specs.declared.log.Chain.{Chain}
use Rattle.clauses.specs.Log.{given}
use Rattle.clauses.specs.Spent.{AreNew}
use Rattle.sat_newness.specs.declared.pairs.Pair.{Pair}
use Rattle.sat_newness.specs.Clauses.{clauses_of}
use Rattle.sat_newness.specs.Pairs.{ArePairs}
use Rattle.sat_newness.specs.Kept.{IsNewLog, IsLonger}
use Rattle.sat_newness.proofs.Lists.{get_front}
use Rattle.sat_newness.proofs.Logs.{given_more, clauses_more}
use Rattle.sat_newness.proofs.Settled.{pairs_more, no_pair}

-- the pairs of the first clauses are those of the first of more
pairs_before : (clauses : List (List ℤ)) (pairs : List Pair) (c : List ℤ) → length pairs ≤ length clauses → ArePairs clauses pairs → ArePairs (clauses ++ c ∷ []) pairs
pairs_before clauses pairs c le h = record {
  each = λ k d p i j. h.each k d p (get_front clauses (c ∷ []) k d (omega (arith, le, slice_get_within pairs k p j)) i) j;
}

pub longer : (clauses : List (List ℤ)) (chains after : List Chain) (chain : Chain) (pairs pairs_after : List Pair) (none : Pair) → none.one ≡ none.other → length pairs ≡ length clauses + length chains → ArePairs (clauses_of clauses chains) pairs → AreNew clauses (given chains ++ chain.gives ∷ []) → after ≡ chains ++ chain ∷ [] → pairs_after ≡ pairs ++ none ∷ [] → IsLonger clauses chains after pairs_after
longer clauses chains after chain pairs pairs_after none e many h new more pairs_more_is =
    let F = clauses_of clauses chains in
    let all : length F ≡ length clauses + length chains = length-append clauses (given chains) ∙ ap (λ n. length clauses + n) (length-map chains (λ x. x.gives)) in
    let one : length after ≡ length chains + 1 = ap length more ∙ length_push chains chain in
    let same : clauses_of clauses after ≡ F ++ chain.gives ∷ [] = ap (clauses_of clauses) more ∙ clauses_more clauses chains chain in
    let held : ArePairs (F ++ chain.gives ∷ []) (pairs ++ none ∷ []) = pairs_more (F ++ chain.gives ∷ []) pairs none e (pairs_before F pairs chain.gives (omega (arith, all, many)) h) in
    record {
      more = one;
      log = record {
        many = omega (arith, ap length pairs_more_is, length_push pairs none, many, one);
        held = subst (λ (ps : List Pair). ArePairs (clauses_of clauses after) ps) (sym pairs_more_is) (subst (λ (cs : List (List ℤ)). ArePairs cs (pairs ++ none ∷ [])) (sym same) held);
        fresh = subst (λ (gs : List (List ℤ)). AreNew clauses gs) (sym (ap given more ∙ given_more chains chain)) new;
      };
    }

-- before the first chain
none_at : (n : ℕ) (x : Pair) (k : ℕ) (p : Pair) → slice_get (replicate n x) k ≡ Some p → x ≡ p
none_at zero x k p e = absurd (none-some p e)
none_at (suc n) x zero p e = same_Some x p e
none_at (suc n) x (suc k) p e = none_at n x k p e

pub first_log : (clauses : List (List ℤ)) (chains : List Chain) (n : ℕ) (pairs : List Pair) (none : Pair) → none.one ≡ none.other → n ≡ length clauses → pairs ≡ replicate n none → chains ≡ [] → IsNewLog clauses chains pairs
first_log clauses chains n pairs none e same all empty = record {
  many = omega (arith, ap length all, length-replicate n none, same, ap length empty);
  held = record {
    each = λ k c p i j.
        let is : none ≡ p = none_at n none k p (subst (λ (ps : List Pair). slice_get ps k ≡ Some p) all j) in
        no_pair c p (sym (ap (λ (x : Pair). x.one) is) ∙ e ∙ ap (λ (x : Pair). x.other) is);
  };
  fresh = subst (λ (cs : List Chain). AreNew clauses (given cs)) (sym empty) tt;
}
