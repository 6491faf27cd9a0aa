-- Elements of lists, and tests of all of them.
use Rattle.std.proofs.Common.{◌≡◌, ℕ, zero, suc, ◌<◌, Bool, true, false, ◌||◌, List, [], ◌∷◌, length, refl, sym, ap, ◌∙◌, arith}
use Rattle.std.specs.Prelude.{get_or, ◌&&◌}
use Rattle.std.specs.List.{list_all, Contains}
use Rattle.std.proofs.lemmas.Bool.{false≢true}

pub left_of : (a : Bool) → (a || false) ≡ true → a ≡ true
left_of true h = refl
left_of false h = h

pub here : {A : Type 0} (e : A) (es : List A) → Contains (e ∷ es) e
here e es = (0, omega arith, refl)

pub there : {A : Type 0} (d e : A) (es : List A) → Contains es e → Contains (d ∷ es) e
there d e es c = (suc c.0, omega (arith, c.1), c.2)

pub first_of : (a b : Bool) → (a && b) ≡ true → a ≡ true
first_of true b h = refl
first_of false b h = absurd (false≢true h)

pub rest_of : (a b : Bool) → (a && b) ≡ true → b ≡ true
rest_of true b h = h
rest_of false b h = absurd (false≢true h)

all_at : {A : Type 0} (test : A → Bool) (xs : List A) (n : ℕ) (x : A) → n < length xs → get_or xs n x ≡ x → list_all test xs ≡ true → test x ≡ true
all_at test [] n x l g q = absurd (omega (arith, l))
all_at test (y ∷ xs) zero x l g q = sym (ap test g) ∙ first_of (test y) (list_all test xs) q
all_at test (y ∷ xs) (suc n) x l g q = all_at test xs n x (omega (arith, l)) g (rest_of (test y) (list_all test xs) q)

pub all_of : {A : Type 0} (test : A → Bool) (xs : List A) (x : A) → Contains xs x → list_all test xs ≡ true → test x ≡ true
all_of test xs x c q = all_at test xs c.0 x c.1 c.2 q
