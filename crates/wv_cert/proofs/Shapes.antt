-- Texts of the parts of a certificate, and what they begin with.
use Rattle.std.proofs.Common.{◌≡◌, ◌<◌, ◌^◌, ℕ, List, [], ◌∷◌, ◌++◌, ℤ, pos, negsuc, unsigned_abs, Bool, true, false, zero, suc, Option, Some, None, SomeIff, length, codes, decimal, append_assoc, arith, refl, sym, ap, subst, ◌∙◌}
use Rattle.std.specs.Char.{is_ascii_digit}
use Rattle.std.specs.Fmt.{signed_decimal}
use Rattle.std.specs.Str.{all_ascii_digits}
use Rattle.std.proofs.lemmas.Fmt.{digits_decimal, decimal_nonempty}
use Rattle.clauses.specs.Clause.{IsNumber}
use Rattle.clauses.specs.Tseitin.{number_of}
use Rattle.clauses.specs.declared.log.Resolve.{Resolve}
use Rattle.wv_cert.specs.Reading.{EndsNumber, Passes, Reads}
use Rattle.wv_cert.specs.Text.{IsSmall, IsStep, number_text, step_text}
use Rattle.wv_cert.proofs.Digits.{own, each_is_digit, never, one_number}
use Rattle.wv_cert.proofs.Items.{AreItems}

pub tail_same : (b c : ℕ) (x y : List ℕ) → b ∷ x ≡ c ∷ y → x ≡ y
tail_same b c x y e = cc

head_same : (b c : ℕ) (x y : List ℕ) → b ∷ x ≡ c ∷ y → b ≡ c
head_same b c x y e = cc

digits_first : (b : ℕ) (ds x y : List ℕ) → all_ascii_digits ds ≡ true → 0 < length ds → is_ascii_digit b ≡ false → b ∷ x ≡ ds ++ y → ⊥
digits_first b [] x y all some blank e = omega arith
digits_first b (d ∷ ds) x y all some blank e =
    let first : is_ascii_digit d ≡ true = each_is_digit (d ∷ ds) 0 all (omega arith) in
    never (sym blank ∙ ap is_ascii_digit (head_same b d x (ds ++ y) e) ∙ first)

pub passed_not : (word before after : List ℕ) (b : Bool) → b ≡ false → Passes word before b after → Passes word before false after
passed_not word before after b e h = subst (λ t. Passes word before t after) e h

pub passed : (word before after : List ℕ) (b : Bool) → b ≡ true → Passes word before b after → before ≡ word ++ after
passed word before after b e h = subst (λ t. Passes word before t after) e h

-- a number begins with a digit
pub not_first : (b n : ℕ) (x y : List ℕ) → n < 2 ^ 64 → is_ascii_digit b ≡ false → b ∷ x ≡ decimal n ++ y → ⊥
not_first b n x y small blank e = digits_first b (decimal n) x y (digits_decimal own n small) (decimal_nonempty n small) blank e

-- ---- numbers that are too large for their type

pub too_many : (before after : List ℕ) (m : ℕ) → m < 2 ^ 64 → before ≡ decimal m ++ after → EndsNumber after → (IsSmall m → ⊥)
    → (n : ℕ) (rest : List ℕ) → IsSmall n → EndsNumber rest → before ≡ decimal n ++ rest → ⊥
too_many before after m fits is ends large n rest small stops spelled =
    let same = one_number m n after rest fits (omega arith) ends stops (sym is ∙ spelled) in
    large (omega (arith, same.0, small))

-- ---- numbers of a clause

pub literal_fine : (negated : Bool) (size : ℕ) → (size ≡ 0 → ⊥) → size < 2 ^ 31 → IsNumber (number_of negated size)
literal_fine true zero some small = absurd (some refl)
literal_fine true (suc n) some small = (omega arith, small)
literal_fine false size some small = (omega arith, small)

pub literal_read : (before mid after : List ℕ) (negated : Bool) (size : ℕ) → Passes (codes "-") before negated mid → (size ≡ 0 → ⊥) → mid ≡ decimal size ++ after
    → before ≡ signed_decimal (number_of negated size) ++ after
literal_read before mid after true zero passed some is = absurd (some refl)
literal_read before mid after true (suc n) passed some is = passed ∙ ap (λ t. 45 ∷ t) is
literal_read before mid after false size passed some is = passed.0 ∙ is

pub literal_is : (before mid after : List ℕ) (negated : Bool) (size : ℕ) (z : ℤ) → Passes (codes "-") before negated mid → mid ≡ decimal size ++ after → EndsNumber after
    → (0 < size) × (size < 2 ^ 31) → z ≡ number_of negated size → IsNumber z × (before ≡ signed_decimal z ++ after) × EndsNumber after
literal_is before mid after negated size z passed is ends few same =
    let some : size ≡ 0 → ⊥ = λ none. omega (arith, few.0, none) in
    let P : ℤ → Type 0 = λ x. IsNumber x × (before ≡ signed_decimal x ++ after) × EndsNumber after in
    subst P (sym same) (literal_fine negated size some few.1, literal_read before mid after negated size passed some is, ends)

-- what stands after the sign of a number that is spelled
pub literal_left : (before mid rest : List ℕ) (negated : Bool) (z : ℤ) → Passes (codes "-") before negated mid → IsNumber z → before ≡ signed_decimal z ++ rest
    → mid ≡ decimal (unsigned_abs z) ++ rest
literal_left before mid rest true (pos n) passed fine is = absurd (not_first 45 n mid rest (omega (arith, fine.1)) refl (sym passed ∙ is))
literal_left before mid rest true (negsuc n) passed fine is = tail_same 45 45 mid (decimal (suc n) ++ rest) (sym passed ∙ is)
literal_left before mid rest false (pos n) passed fine is = sym passed.0 ∙ is
literal_left before mid rest false (negsuc n) passed fine is = absurd (passed.1 (decimal (suc n) ++ rest) is)

-- no number of a clause stands where none of 64 bits does
pub no_literal : (before mid : List ℕ) (negated : Bool) → Passes (codes "-") before negated mid
    → ((n : ℕ) (rest : List ℕ) → n < 2 ^ 64 → EndsNumber rest → mid ≡ decimal n ++ rest → ⊥)
    → (z : ℤ) (rest : List ℕ) → IsNumber z → EndsNumber rest → before ≡ signed_decimal z ++ rest → ⊥
no_literal before mid negated passed none z rest fine ends is =
    none (unsigned_abs z) rest (omega (arith, fine.1)) ends (literal_left before mid rest negated z passed fine is)

-- nor where one of another size does
pub other_size : (before mid after : List ℕ) (negated : Bool) (size : ℕ) → Passes (codes "-") before negated mid → size < 2 ^ 64 → mid ≡ decimal size ++ after
    → EndsNumber after → ((0 < size) × (size < 2 ^ 31) → ⊥) → (z : ℤ) (rest : List ℕ) → IsNumber z → EndsNumber rest → before ≡ signed_decimal z ++ rest → ⊥
other_size before mid after negated size passed fits is ends other z rest fine stops spelled =
    let same = one_number size (unsigned_abs z) after rest fits (omega (arith, fine.1)) ends stops
    (sym is ∙ literal_left before mid rest negated z passed fine spelled) in
    other (omega (arith, same.0, fine.0), omega (arith, same.0, fine.1))

-- what is read of a sign and a size
pub literal_answer : (before mid after : List ℕ) (negated : Bool) (size : ℕ) (r : Option ℤ) → Passes (codes "-") before negated mid → size < 2 ^ 64
    → mid ≡ decimal size ++ after → EndsNumber after → SomeIff r ((0 < size) × (size < 2 ^ 31)) (number_of negated size) → Reads IsNumber signed_decimal before r after
literal_answer before mid after negated size None passed fits is ends none = other_size before mid after negated size passed fits is ends none
literal_answer before mid after negated size (Some z) passed fits is ends read = literal_is before mid after negated size z passed is ends read.0 read.1

-- and of a blank and that
pub number_answer : (before mid after : List ℕ) (r : Option ℤ) → before ≡ 32 ∷ mid → Reads IsNumber signed_decimal mid r after → Reads IsNumber number_text before r after
number_answer before mid after None blank none = λ z rest fine ends is.
    none z rest fine ends (tail_same 32 32 mid (signed_decimal z ++ rest) (sym blank ∙ is))
number_answer before mid after (Some z) blank read = (read.0, blank ∙ ap (λ t. 32 ∷ t) read.1, read.2)

one_literal : (a b : ℤ) (x y : List ℕ) → IsNumber a → IsNumber b → EndsNumber x → EndsNumber y → signed_decimal a ++ x ≡ signed_decimal b ++ y → (a ≡ b) × (x ≡ y)
one_literal (pos m) (pos n) x y fine good ends stops is =
    let same = one_number m n x y (omega (arith, fine.1)) (omega (arith, good.1)) ends stops is in (ap pos same.0, same.1)
one_literal (pos m) (negsuc n) x y fine good ends stops is = absurd (not_first 45 m (decimal (suc n) ++ y) x (omega (arith, fine.1)) refl (sym is))
one_literal (negsuc m) (pos n) x y fine good ends stops is = absurd (not_first 45 n (decimal (suc m) ++ x) y (omega (arith, good.1)) refl is)
one_literal (negsuc m) (negsuc n) x y fine good ends stops is =
    let same = one_number (suc m) (suc n) x y (omega (arith, fine.1)) (omega (arith, good.1)) ends stops (tail_same 45 45 _ _ is) in
    let less : m ≡ n = omega (arith, same.0) in
    (ap negsuc less, same.1)

pub numbers_are : AreItems IsNumber number_text (codes "\n")
numbers_are = record {
  one = λ a b x y fine good ends stops is. one_literal a b x y fine good ends stops (tail_same 32 32 (signed_decimal a ++ x) (signed_decimal b ++ y) is);
  parted = λ a x. refl;
  ended = λ x. refl;
  apart = λ a x y fine is. let e : 10 ≡ 32 = head_same 10 32 x (signed_decimal a ++ y) is in omega (arith, e);
}

-- ---- resolutions

shape : (a b rest : List ℕ) → ((a ++ 58 ∷ []) ++ b) ++ rest ≡ a ++ (58 ∷ (b ++ rest))
shape a b rest = ap (λ t. t ++ rest) (append_assoc a (58 ∷ []) b) ∙ append_assoc a (58 ∷ b) rest

pub step_shape : (s : Resolve) (rest : List ℕ) → step_text s ++ rest ≡ 32 ∷ (decimal s.with ++ (58 ∷ (decimal s.on ++ rest)))
step_shape s rest = ap (λ t. 32 ∷ t) (shape (decimal s.with) (decimal s.on) rest)

-- after the blank, after the clause, after the colon
pub step_first : (before mid rest : List ℕ) (s : Resolve) → before ≡ 32 ∷ mid → before ≡ step_text s ++ rest → mid ≡ decimal s.with ++ (58 ∷ (decimal s.on ++ rest))
step_first before mid rest s passed is = tail_same 32 32 mid (decimal s.with ++ (58 ∷ (decimal s.on ++ rest))) (sym passed ∙ is ∙ step_shape s rest)

pub step_second : (before mid after rest : List ℕ) (s : Resolve) (w : ℕ) → before ≡ 32 ∷ mid → IsSmall w → mid ≡ decimal w ++ after → EndsNumber after → IsStep s
    → before ≡ step_text s ++ rest → after ≡ 58 ∷ (decimal s.on ++ rest)
step_second before mid after rest s w passed small is ends fine spelled =
    (one_number w s.with after (58 ∷ (decimal s.on ++ rest)) (omega (arith, small)) (omega (arith, fine.0)) ends refl
    (sym is ∙ step_first before mid rest s passed spelled)).1

pub step_read : (before mid after colon rest : List ℕ) (s : Resolve) → before ≡ 32 ∷ mid → mid ≡ decimal s.with ++ after → after ≡ 58 ∷ colon → colon ≡ decimal s.on ++ rest
    → before ≡ step_text s ++ rest
step_read before mid after colon rest s blank clause middle variable =
    blank ∙ ap (λ t. 32 ∷ t) (clause ∙ ap (λ t. decimal s.with ++ t) (middle ∙ ap (λ t. 58 ∷ t) variable)) ∙ sym (step_shape s rest)

same_step : (s t : Resolve) → s.with ≡ t.with → s.on ≡ t.on → s ≡ t
same_step s t w o =
    let left : s ≡ record { with = t.with; on = s.on } = ap (λ (n : ℕ). record { with = n; on = s.on }) w in
    let right : record { with = t.with; on = s.on } ≡ t = ap (λ (n : ℕ). record { with = t.with; on = n }) o in
    left ∙ right

one_step : (s t : Resolve) (x y : List ℕ) → IsStep s → IsStep t → EndsNumber x → EndsNumber y → step_text s ++ x ≡ step_text t ++ y → (s ≡ t) × (x ≡ y)
one_step s t x y fine good ends stops is =
    let mid = step_first (step_text s ++ x) (decimal s.with ++ (58 ∷ (decimal s.on ++ x))) y t (step_shape s x) is in
    let clause = one_number s.with t.with (58 ∷ (decimal s.on ++ x)) (58 ∷ (decimal t.on ++ y)) (omega (arith, fine.0)) (omega (arith, good.0)) refl refl mid in
    let variable = one_number s.on t.on x y (omega (arith, fine.1)) (omega (arith, good.1)) ends stops (tail_same 58 58 _ _ clause.1) in
    (same_step s t clause.0 variable.0, variable.1)

pub steps_are : AreItems IsStep step_text (codes " =")
steps_are = record {
  one = one_step;
  parted = λ s x. refl;
  ended = λ x. refl;
  apart = λ s x y fine is. not_first 61 s.with x (58 ∷ (decimal s.on ++ y)) (omega (arith, fine.0)) refl (tail_same 32 32 _ _ (is ∙ step_shape s y));
}
