-- The function `main` among items, and among the names of functions.
use Rattle.std.proofs.Common.{arith, ◌≡◌, ◌<◌, ◌+◌, ℕ, Bool, true, false, cond, not, List, ◌∷◌, length, drop, get_or, codes, refl, ap, sym, ◌∙◌}
use Rattle.std.proofs.lemmas.List.{drop_more}
use Rattle.std.proofs.lemmas.Slice.Eq.{bytes_eq-Decides}
use Rattle.std.proofs.lemmas.Bool.{false≢true}
use Rattle.std.specs.List.{position_or_len}
use Rattle.std.specs.Str.{bytes_eq}
use Rattle.c_core.specs.declared.tree.Function.{Function as TypedFunction}
use Rattle.c_check.specs.Checking.{names_of}

same_both_ways : (s t : List ℕ) (b : Bool) → bytes_eq s t ≡ b → bytes_eq t s ≡ b
same_both_ways s t true e = (bytes_eq-Decides t s).1 (sym ((bytes_eq-Decides s t).0 e))
same_both_ways s t false e = by_test (bytes_eq t s) refl
  where
    by_test : (b : Bool) → bytes_eq t s ≡ b → bytes_eq t s ≡ false
    by_test true g = absurd (false≢true (sym e ∙ (bytes_eq-Decides s t).1 (sym ((bytes_eq-Decides t s).0 g))))
    by_test false g = g

abbrev is_main : List ℕ → Bool
is_main name = bytes_eq (codes "main") name

-- so many names were passed, and `main` is not among them
abbrev pub number_behind : ℕ → List TypedFunction → ℕ
number_behind n fs = n + position_or_len (bytes_eq (codes "main")) (names_of fs)

at_head : (n : ℕ) (f : TypedFunction) (fs : List TypedFunction) (b : Bool) → is_main f.name ≡ b
    → number_behind n (f ∷ fs) ≡ n + cond (not b) (1 + position_or_len (bytes_eq (codes "main")) (names_of fs)) 0
at_head n f fs b h = rw h refl

functions-next : (fs : List TypedFunction) (i n : ℕ) (f : TypedFunction) → i < length fs → f ≡ get_or fs i f
    → number_behind n (drop i fs) ≡ number_behind n (f ∷ drop (i + 1) fs)
functions-next fs i n f h e =
    ap (number_behind n) (drop_more fs i f h ∙ ap (λ (y : TypedFunction). y ∷ drop (i + 1) fs) (sym e))

pub number_next : (fs : List TypedFunction) (i n : ℕ) (f : TypedFunction) → i < length fs → f ≡ get_or fs i f → bytes_eq f.name (codes "main") ≡ false
    → number_behind (n + 1) (drop (i + 1) fs) ≡ number_behind n (drop i fs)
number_next fs i n f h e t =
    sym (functions-next fs i n f h e ∙ at_head n f (drop (i + 1) fs) false (same_both_ways f.name (codes "main") false t)
    ∙ last n (position_or_len (bytes_eq (codes "main")) (names_of (drop (i + 1) fs))))
  where
    last : (n k : ℕ) → n + (1 + k) ≡ n + 1 + k
    last n k = omega arith
