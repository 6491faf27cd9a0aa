-- Digits and the number that they spell.
use Rattle.std.proofs.Common.{◌≡◌, ◌<◌, ◌≤◌, ◌^◌, ◌+◌, ◌*◌, ◌-◌, ℕ, List, [], ◌∷◌, ◌++◌, ◌&&◌, Bool, true, false, cond, zero, suc, length, get_or, take, drop, decimal, arith, refl, sym, ap, subst, ◌∙◌}
use Rattle.std.specs.Int.{IsInRange}
use Rattle.std.specs.Str.{all_ascii_digits}
use Rattle.std.specs.Str.Parse.{digits_value}
use Rattle.std.specs.Char.{is_ascii_digit, digit_value}
use Rattle.std.specs.List.{prefix_len}
use Rattle.std.proofs.lemmas.Str.Parse.{IsNumeralModel, numerals_by_value, tells_all_ascii_digits, digits_value-take-le}
use Rattle.std.proofs.lemmas.Str.{digit_value_digit}
use Rattle.std.proofs.lemmas.Int.Digits.{digits_value_more}
use Rattle.std.proofs.lemmas.List.{append_cancel_left, length-take-le, take-append-drop, take_at}
use Rattle.std.proofs.lemmas.List.Sums.{prefix_len-le-length}
use Rattle.std.proofs.lemmas.Fmt.{digits_decimal, digits_value-decimal, decimal_nonempty, first_decimal, decimal-digits_value, decimal_injective, decimal_digit}
use Rattle.wv_cert.specs.Reading.{EndsNumber}

pub own : IsNumeralModel (λ ds. all_ascii_digits ds ≡ true) (digits_value 10)
own = numerals_by_value _ tells_all_ascii_digits

pub never : {P : Type 0} → false ≡ true → P
never h = absurd (cc)

and_left : (a b : Bool) → (a && b) ≡ true → a ≡ true
and_left true b h = refl
and_left false b h = h

and_right : (a b : Bool) → (a && b) ≡ true → b ≡ true
and_right true b h = h
and_right false b h = absurd (cc)

pub each_is_digit : (ds : List ℕ) (i : ℕ) → all_ascii_digits ds ≡ true → i < length ds → is_ascii_digit (get_or ds i 0) ≡ true
each_is_digit [] i all h = absurd (omega arith)
each_is_digit (d ∷ ds) zero all h = and_left (is_ascii_digit d) (all_ascii_digits ds) all
each_is_digit (d ∷ ds) (suc i) all h = each_is_digit ds i (and_right (is_ascii_digit d) (all_ascii_digits ds) all) (omega arith)

in_range : (d : ℕ) → is_ascii_digit d ≡ true → IsInRange 48 57 d
in_range d h = let one : all_ascii_digits (d ∷ []) ≡ true = rw h refl in (tells_all_ascii_digits.parts d [] one).0

-- one more digit
pub one_more : (ds : List ℕ) (i n : ℕ) → all_ascii_digits ds ≡ true → i < length ds → n ≡ digits_value 10 (take i ds)
    → digits_value 10 (take (i + 1) ds) ≡ n * 10 + (get_or ds i 0 - 48)
one_more ds i n all h e =
    let digit : IsInRange 48 57 (get_or ds i 0) = in_range (get_or ds i 0) (each_is_digit ds i all h) in
    let value : digit_value (get_or ds i 0) + 48 ≡ get_or ds i 0 = digit_value_digit _ digit in
    let more = digits_value_more 10 ds i h in
    omega (arith, more, value, e, digit.0)

-- a number that is too large after one digit is too large after all
pub too_large : (ds : List ℕ) (i n limit : ℕ) → all_ascii_digits ds ≡ true → i < length ds → n ≡ digits_value 10 (take i ds)
    → limit ≤ n * 10 + (get_or ds i 0 - 48) → limit ≤ digits_value 10 ds
too_large ds i n limit all h e large =
    let least = digits_value-take-le 10 ds (i + 1) (omega arith) in
    omega (arith, least, one_more ds i n all h e, large)

-- ---- the digits at the front of a text

and_both : (a b : Bool) → a ≡ true → b ≡ true → (a && b) ≡ true
and_both true b h k = k
and_both false b h k = h

cond_true : (t : Bool) (x y : ℕ) → t ≡ true → cond t x y ≡ x
cond_true true x y h = refl
cond_true false x y h = absurd (cc)

cond_false : (t : Bool) (x y : ℕ) → t ≡ false → cond t x y ≡ y
cond_false true x y h = absurd (cc)
cond_false false x y h = refl

digits_step : (b : ℕ) (text : List ℕ) (n : ℕ) (t : Bool) → is_ascii_digit b ≡ t → all_ascii_digits (take n text) ≡ true
    → all_ascii_digits (take (cond t (1 + n) 0) (b ∷ text)) ≡ true
digits_step b text n true e h =
    let more : suc n ≡ 1 + n = omega arith in
    let P : ℕ → Type 0 = λ k. all_ascii_digits (take k (b ∷ text)) ≡ true in
    subst P more (and_both (is_ascii_digit b) (all_ascii_digits (take n text)) e h)
digits_step b text n false e h = refl

pub front_digits : (text : List ℕ) → all_ascii_digits (take (prefix_len is_ascii_digit text) text) ≡ true
front_digits [] = refl
front_digits (b ∷ text) = digits_step b text (prefix_len is_ascii_digit text) (is_ascii_digit b) refl (front_digits text)

ends_step : (b : ℕ) (text : List ℕ) (n : ℕ) (t : Bool) → is_ascii_digit b ≡ t → EndsNumber (drop n text) → EndsNumber (drop (cond t (1 + n) 0) (b ∷ text))
ends_step b text n true e h =
    let more : suc n ≡ 1 + n = omega arith in
    let P : ℕ → Type 0 = λ k. EndsNumber (drop k (b ∷ text)) in
    subst P more h
ends_step b text n false e h = e

pub front_ends : (text : List ℕ) → EndsNumber (drop (prefix_len is_ascii_digit text) text)
front_ends [] = tt
front_ends (b ∷ text) = ends_step b text (prefix_len is_ascii_digit text) (is_ascii_digit b) refl (front_ends text)

none_at_end : (rest : List ℕ) → EndsNumber rest → prefix_len is_ascii_digit rest ≡ 0
none_at_end [] ends = refl
none_at_end (b ∷ rest) ends = cond_false (is_ascii_digit b) (1 + prefix_len is_ascii_digit rest) 0 ends

-- where digits stand at the front and no more of them, there are so many
pub front_is : (ds rest : List ℕ) → all_ascii_digits ds ≡ true → EndsNumber rest → prefix_len is_ascii_digit (ds ++ rest) ≡ length ds
front_is [] rest all ends = none_at_end rest ends
front_is (d ∷ ds) rest all ends =
    let one = and_left (is_ascii_digit d) (all_ascii_digits ds) all in
    let more = front_is ds rest (and_right (is_ascii_digit d) (all_ascii_digits ds) all) ends in
    let first = cond_true (is_ascii_digit d) (1 + prefix_len is_ascii_digit (ds ++ rest)) 0 one in
    omega (arith, first, more)

-- ---- numbers at the front of a text

-- where a number stands at the front, its digits are the front
pub front_of : (text : List ℕ) (n : ℕ) (rest : List ℕ) → n < 2 ^ 64 → EndsNumber rest → text ≡ decimal n ++ rest
    → (prefix_len is_ascii_digit text ≡ length (decimal n)) × (take (prefix_len is_ascii_digit text) text ≡ decimal n)
front_of text n rest small ends is =
    let many : prefix_len is_ascii_digit text ≡ length (decimal n)
    = ap (prefix_len is_ascii_digit) is ∙ front_is (decimal n) rest (digits_decimal own n small) ends in
    (many, ap (λ k. take k text) many ∙ ap (take (length (decimal n))) is ∙ take_at (decimal n) rest _ refl)

-- a text begins with one number at most
pub one_number : (m n : ℕ) (x y : List ℕ) → m < 2 ^ 64 → n < 2 ^ 64 → EndsNumber x → EndsNumber y → decimal m ++ x ≡ decimal n ++ y → (m ≡ n) × (x ≡ y)
one_number m n x y small few ends stops is =
    let left = front_of (decimal m ++ x) m x small ends refl in
    let right = front_of (decimal m ++ x) n y few stops is in
    let same : decimal m ≡ decimal n = sym left.1 ∙ right.1 in
    let rest : decimal n ++ x ≡ decimal n ++ y = ap (λ ds. ds ++ x) (sym same) ∙ is in
    (decimal_injective m n small few same, append_cancel_left (decimal n) x y rest)

-- the digits at the front are a number where no zero stands before others
pub number_read : (text : List ℕ) (count n : ℕ) → count ≡ prefix_len is_ascii_digit text → 0 < count → (get_or (take count text) 0 0 ≡ 48 → count ≡ 1)
    → n < 2 ^ 64 → n ≡ digits_value 10 (take count text) → (text ≡ decimal n ++ drop count text) × EndsNumber (drop count text)
number_read text count n is some zero_alone small value =
    let P : ℕ → Type 0 = λ k. all_ascii_digits (take k text) ≡ true in
    let Q : ℕ → Type 0 = λ k. EndsNumber (drop k text) in
    let digits : all_ascii_digits (take count text) ≡ true = subst P (sym is) (front_digits text) in
    let within = prefix_len-le-length is_ascii_digit text in
    let many : length (take count text) ≡ count = length-take-le count text (omega arith) in
    let spelled : decimal (digits_value 10 (take count text)) ≡ take count text =
    decimal-digits_value own (take count text) digits (omega (arith, many)) (λ h. many ∙ zero_alone h) (omega arith) in
    (sym (take-append-drop count text) ∙ ap (λ ds. ds ++ drop count text) (sym spelled ∙ ap decimal (sym value)), subst Q (sym is) (front_ends text))

one_alone : (n : ℕ) → 0 < n → (1 < n → ⊥) → n ≡ 1
one_alone n some few = omega arith

pub number_left : (text before after : List ℕ) (count n : ℕ) → text ≡ before → after ≡ drop count text → count ≡ prefix_len is_ascii_digit text → (count ≡ 0 → ⊥)
    → (1 < length (take count text) → get_or (take count text) 0 0 ≡ 48 → ⊥) → n < 2 ^ 64 → n ≡ digits_value 10 (take count text)
    → (n < 2 ^ 64) × (before ≡ decimal n ++ after) × EndsNumber after
number_left text before after count n same rest is some no_zero small value =
    let within = prefix_len-le-length is_ascii_digit text in
    let many : length (take count text) ≡ count = length-take-le count text (omega arith) in
    let read = number_read text count n is (omega arith) (λ zero_first. one_alone count (omega arith) (λ more. no_zero (omega (arith, many)) zero_first)) small value in
    let Q : List ℕ → Type 0 = λ left. EndsNumber left in
    (small, sym same ∙ read.0 ∙ ap (λ left. decimal n ++ left) (sym rest), subst Q (sym rest) read.1)

-- a number has a digit
pub no_digit : (text : List ℕ) (count : ℕ) → count ≡ prefix_len is_ascii_digit text → count ≡ 0
    → (n : ℕ) (rest : List ℕ) → n < 2 ^ 64 → EndsNumber rest → text ≡ decimal n ++ rest → ⊥
no_digit text count is none n rest small ends spelled =
    let front = front_of text n rest small ends spelled in
    omega (arith, front.0, decimal_nonempty n small)

-- a number of several digits doesn't begin with a zero
one_zero : (n : ℕ) → n < 2 ^ 64 → 1 < length (decimal n) → get_or (decimal n) 0 0 ≡ 48 → ⊥
one_zero zero small many first = let one : length (decimal 0) ≡ 1 = ap length (decimal_digit 0 (omega arith)) in omega (arith, one)
one_zero (suc n) small many first = omega (arith, first_decimal (suc n) (omega arith) small)

pub no_zero_first : (text : List ℕ) (count : ℕ) → count ≡ prefix_len is_ascii_digit text → 1 < length (take count text) → get_or (take count text) 0 0 ≡ 48
    → (n : ℕ) (rest : List ℕ) → n < 2 ^ 64 → EndsNumber rest → text ≡ decimal n ++ rest → ⊥
no_zero_first text count is many zero_first n rest small ends spelled =
    let front = front_of text n rest small ends spelled in
    let same : take count text ≡ decimal n = ap (λ k. take k text) is ∙ front.1 in
    let longer : 1 < length (decimal n) = omega (arith, ap length same) in
    one_zero n small longer (sym (ap (λ ds. get_or ds 0 0) same) ∙ zero_first)

-- a number that is spelled is that of its digits
pub no_large : (text : List ℕ) (count : ℕ) → count ≡ prefix_len is_ascii_digit text → (digits_value 10 (take count text) < 2 ^ 64 → ⊥)
    → (n : ℕ) (rest : List ℕ) → n < 2 ^ 64 → EndsNumber rest → text ≡ decimal n ++ rest → ⊥
no_large text count is large n rest small ends spelled =
    let front = front_of text n rest small ends spelled in
    let value : digits_value 10 (take count text) ≡ n =
    ap (λ k. digits_value 10 (take k text)) is ∙ ap (digits_value 10) front.1 ∙ digits_value-decimal own n small in
    large (omega (arith, value))
