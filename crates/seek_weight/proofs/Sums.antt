-- Sums and products that stop at the end of a type.
use Rattle.std.proofs.Common.{◌≡◌, ◌≤◌, ◌<◌, ℕ, zero, suc, ◌+◌, ◌*◌, Bool, true, false, refl, ap, ◌∙◌, arith}
use Rattle.std.proofs.lemmas.Bool.{leb-true, leb-false}
use Rattle.std.specs.Prelude.{nat_le}
use Rattle.sym_weight.specs.Tally.{capped}

-- a sum of parts that were counted
pub sum_of : (a b x y r : ℕ) → a ≡ capped x → b ≡ capped y → r ≡ capped (a + b) → r ≡ capped (x + y)
sum_of a b x y r h k e = omega arith

pub sum_of_three : (a b c x y z s r : ℕ) → a ≡ capped x → b ≡ capped y → c ≡ capped z → s ≡ capped (b + c) → r ≡ capped (a + s) → r ≡ capped (x + (y + z))
sum_of_three a b c x y z s r h k l e f = omega arith

pub sum_of_four : (a b c d w x y z s t r : ℕ) → a ≡ capped w → b ≡ capped x → c ≡ capped y → d ≡ capped z → s ≡ capped (c + d) → t ≡ capped (b + s) → r ≡ capped (a + t) → r ≡ capped (w + (x + (y + z)))
sum_of_four a b c d w x y z s t r h k l m e f g = omega arith

-- one part more of what is left
pub sum_on : (sum part x rest new whole : ℕ) → part ≡ capped x → new ≡ capped (sum + part) → capped (sum + (x + rest)) ≡ whole → capped (new + rest) ≡ whole
sum_on sum part x rest new whole h e w = omega arith

capped_small : (x m : ℕ) → x ≤ 18446744073709551615 → capped (m * capped x) ≡ capped (m * x)
capped_small x m l = let e : capped x ≡ x = omega arith in ap (λ y. capped (m * y)) e

both_over : (a b : ℕ) → 18446744073709551615 ≤ a → 18446744073709551615 ≤ b → capped a ≡ capped b
both_over a b h k = omega arith

capped_big : (x m : ℕ) → 18446744073709551615 < x → capped (m * capped x) ≡ capped (m * x)
capped_big x zero l = omega arith
capped_big x (suc m) l =
    let e : 18446744073709551615 ≤ capped x = omega arith in
    both_over (suc m * capped x) (suc m * x)
    (let d : suc m * capped x ≡ capped x + m * capped x = omega arith in omega arith)
    (let d : suc m * x ≡ x + m * x = omega arith in omega arith)

times_by : (t : Bool) (x m : ℕ) → nat_le x 18446744073709551615 ≡ t → capped (m * capped x) ≡ capped (m * x)
times_by true x m e = capped_small x m (leb-true x 18446744073709551615 e)
times_by false x m e = capped_big x m (leb-false x 18446744073709551615 e)

pub times_capped : (m x : ℕ) → capped (m * capped x) ≡ capped (m * x)
times_capped m x = times_by (nat_le x 18446744073709551615) x m refl

two_capped : (p q s t : ℕ) → capped p ≡ capped s → capped q ≡ capped t → capped (p + q) ≡ capped (s + t)
two_capped p q s t h k = omega arith

-- the turns of a loop, of a test and a rest that were counted
pub turns_of : (k a b x y r : ℕ) → a ≡ capped x → b ≡ capped y → r ≡ capped (suc k * a + k * b) → r ≡ capped (suc k * x + k * y)
turns_of k a b x y r h e f =
    f ∙ two_capped (suc k * a) (k * b) (suc k * x) (k * y) (ap (λ z. capped (suc k * z)) h ∙ times_capped (suc k) x) (ap (λ z. capped (k * z)) e ∙ times_capped k y)

-- a toll: what each pays, and what is placed there
pub toll_of : (a w p q r : ℕ) → a ≡ capped p → capped w ≡ capped q → r ≡ capped (a + w) → r ≡ capped (p + q)
toll_of a w p q r h k e = omega arith
