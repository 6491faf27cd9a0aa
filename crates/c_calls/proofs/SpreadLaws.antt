-- A search that takes one found function after the other finds all that these come to.
use Rattle.std.proofs.Common.{◌≡◌, ℕ, ◌+◌, ◌<◌, ◌≤◌, List, [], ◌∷◌, ◌++◌, length, get_or, take, refl, sym, ap, ◌∙◌, subst, ⊎_elim, arith}
use Rattle.std.specs.Prelude.{IsTrue}
use Rattle.std.proofs.lemmas.List.{take_more, take_all, take-append-le}
use Rattle.c_core.specs.Tree.{Exp, Program}
use Rattle.c_meaning.specs.Parts.{some_of, some_node, is_in, calls, fulls_of_function}
use Rattle.c_calls.specs.Calling.{IsCalledIn, IsCalledFrom, directly, further, ComesFrom, itself, calling, HasCalled, HasReached}
use Rattle.c_calls.specs.Marks.{all_added}
use Rattle.c_calls.specs.Uses.{uses_of_all, uses_of_function, is_call}
use Rattle.c_calls.specs.declared.uses.Use.{Use}
use Rattle.c_calls.proofs.Listing.{at_index, not_both}
use Rattle.c_calls.proofs.FoundLaws.{in_back, all_still_in, all_now_in, all_was_in, all_behind}
use Rattle.c_calls.proofs.UsesLaws.{calls_listed, of_function}

module _ (p : Program) where
  abbrev count : ℕ
  count = length p.functions

  -- so far: what was there at first, what these come to alone, and all that the first functions call
  pub record IsSpread (fs now : List ℕ) (next : ℕ) : Type 0 where
    pub kept : (f : ℕ) → IsTrue (is_in f fs) → IsTrue (is_in f now)
    pub reached : (f : ℕ) → IsTrue (is_in f now) → ComesFrom p fs f
    pub closed : (f g : ℕ) → IsTrue (is_in f (take next now)) → IsCalledIn p (fulls_of_function p f) g → IsTrue (is_in g now)

  pub spread_begins : (fs : List ℕ) → IsSpread fs fs 0
  spread_begins fs = record {
    kept = λ f m. m;
    reached = itself;
    closed = λ f g m. not_both _ refl m;
  }

  pub listed_call : (f g : ℕ) → IsTrue (some_of (some_node (calls g)) (fulls_of_function p f)) → IsTrue (some_of (is_call g) (uses_of_function p f))
  listed_call f g h = ap (some_of (is_call g)) (of_function p f) ∙ sym (calls_listed g (fulls_of_function p f)) ∙ h

  pub call_listed : (f g : ℕ) → IsTrue (some_of (is_call g) (uses_of_function p f)) → IsTrue (some_of (some_node (calls g)) (fulls_of_function p f))
  call_listed f g h = calls_listed g (fulls_of_function p f) ∙ sym (ap (some_of (is_call g)) (of_function p f)) ∙ h

  pub spread_goes_on : (fs now : List ℕ) (next f : ℕ) → next < length now → f ≡ get_or now next f → IsSpread fs now next → IsSpread fs (all_added count now (uses_of_function p f)) (next + 1)
  spread_goes_on fs now next f inside at s = record {
    kept = λ g m. all_still_in count (uses_of_function p f) now g (s.kept g m);
    reached = λ g m. ⊎_elim (s.reached g) (λ c. calling f g (s.reached f here) (c.0, call_listed f g c.1)) (all_was_in count (uses_of_function p f) now g m);
    closed = λ g h m c. ⊎_elim
        (λ k. all_still_in count (uses_of_function p f) now h (s.closed g h k c))
        (λ e. all_now_in count (uses_of_function p f) now h c.0 (listed_call f h (subst (λ x. IsTrue (some_of (some_node (calls h)) (fulls_of_function p x))) (e ∙ sym at) c.1)))
        (in_back g (get_or now next f) (take next now) (subst (λ l. IsTrue (is_in g l)) front m));
  }
    where
      here : IsTrue (is_in f now)
      here = subst (λ x. IsTrue (is_in x now)) (sym at) (at_index now next f inside)

      front : take (next + 1) (all_added count now (uses_of_function p f)) ≡ take next now ++ get_or now next f ∷ []
      front = let b = all_behind count (uses_of_function p f) now in ap (take (next + 1)) b.1 ∙ take-append-le (next + 1) now b.0 (omega arith) ∙ take_more now next f inside

  complete : (fs now : List ℕ) (next : ℕ) → length now ≤ next → IsSpread fs now next → (f : ℕ) → ComesFrom p fs f → IsTrue (is_in f now)
  complete fs now next all s _ (itself f m) = s.kept f m
  complete fs now next all s _ (calling f g c h) = s.closed f g (subst (λ l. IsTrue (is_in f l)) (sym (take_all next now all)) (complete fs now next all s f c)) h

  pub spread_ends : (fs now : List ℕ) (next : ℕ) → length now ≤ next → IsSpread fs now next → HasReached p fs now
  spread_ends fs now next all s = record { members = λ f. (s.reached f, complete fs now next all s f) }

  -- where a search begins with the functions that are called directly
  pub called_by_search : (es : List Exp) (us : List Use) (all : List ℕ) → us ≡ uses_of_all es → HasReached p (all_added count [] us) all → HasCalled p es all
  called_by_search es us all e h = record { members = λ f. (λ m. to f ((h.members f).0 m), λ c. (h.members f).1 (from f c)) }
    where
      direct : (f : ℕ) → IsTrue (is_in f (all_added count [] us)) → IsCalledIn p es f
      direct f m = ⊎_elim (λ n. not_both _ refl n) (λ c. (c.0, calls_listed f es ∙ sym (ap (some_of (is_call f)) e) ∙ c.1)) (all_was_in count us [] f m)

      to : (f : ℕ) → ComesFrom p (all_added count [] us) f → IsCalledFrom p es f
      to _ (itself f m) = directly f (direct f m)
      to _ (calling f g c i) = further f g (to f c) i

      from : (f : ℕ) → IsCalledFrom p es f → ComesFrom p (all_added count [] us) f
      from _ (directly f c) = itself f (all_now_in count us [] f c.0 (ap (some_of (is_call f)) e ∙ sym (calls_listed f es) ∙ c.1))
      from _ (further f g c i) = calling f g (from f c) i
