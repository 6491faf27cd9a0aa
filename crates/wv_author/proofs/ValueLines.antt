-- Lines of values: how a text is cut into them, and what stands on one.
use Rattle.std.proofs.Common.{◌≡◌, ◌<◌, ◌≤◌, ◌^◌, ◌+◌, ◌*◌, ◌-◌, inl, inr, ℕ, ℤ, pos, List, [], ◌∷◌, ◌++◌, ◌&&◌, Bool, true, false, zero, suc, length, get_or, take, drop, arith, refl, sym, ap, subst, ◌∙◌}
use Rattle.std.specs.Prelude.{neg_ℤ, option_map, Option, Some, None, SomeIff}
use Rattle.std.specs.Str.{all_ascii_digits}
use Rattle.std.specs.Str.Parse.{digits_value}
use Rattle.std.specs.Char.{is_ascii_digit}
use Rattle.std.specs.Char.{digit_value}
use Rattle.std.specs.Int.{IsInRange}
use Rattle.std.proofs.Common.{append_assoc}
use Rattle.std.proofs.Math.Nat.{pow-le-pow_right}
use Rattle.std.proofs.Math.Seq.{drop-cons}
use Rattle.std.proofs.lemmas.Str.Parse.{IsNumeralModel, numerals_by_value, tells_all_ascii_digits}
use Rattle.std.proofs.lemmas.Str.{digit_value_digit}
use Rattle.std.proofs.lemmas.Int.Digits.{digits_more, digits_value-lt, digits_value_more}
use Rattle.std.proofs.lemmas.List.{append-nil, length-take-le, take-append-drop, take_all, take_more}
use Rattle.wv_author.specs.Values.{AreDigits, AreValues, HasNoFeed, IsLine, IsNumber, ReadsNumber}

-- ---- no line feed stands in a number

and_left : (a b : Bool) → (a && b) ≡ true → a ≡ true
and_left true b h = refl
and_left false b h = h

and_right : (a b : Bool) → (a && b) ≡ true → b ≡ true
and_right true b h = h
and_right false b h = absurd (cc)

no_feed : (d : ℕ) → is_ascii_digit d ≡ true → d ≡ 10 → ⊥
no_feed d digit feed = let wrong : is_ascii_digit 10 ≡ true = sym (ap is_ascii_digit feed) ∙ digit in absurd (cc)

no_feed_among : (ds : List ℕ) → all_ascii_digits ds ≡ true → HasNoFeed ds
no_feed_among [] all = tt
no_feed_among (d ∷ ds) all = (no_feed d (and_left (is_ascii_digit d) (all_ascii_digits ds) all), no_feed_among ds (and_right (is_ascii_digit d) (all_ascii_digits ds) all))

minus_is_no_feed : (n : ℕ) → n ≡ 45 → n ≡ 10 → ⊥
minus_is_no_feed n a b = omega arith

pub number_has_no_feed : (v : ℤ) (line : List ℕ) → IsNumber v line → HasNoFeed line
number_has_no_feed v line (ds, are, inl is) = subst HasNoFeed (sym is.0) (no_feed_among ds are.decimal)
number_has_no_feed v line (ds, are, inr is) = subst HasNoFeed (sym is.0) (minus_is_no_feed 45 refl, no_feed_among ds are.decimal)

-- ---- a text has one first line

line_past : (d : ℕ) (xs : List ℕ) (x y : List ℕ) → HasNoFeed (d ∷ xs) → 10 ∷ x ≡ d ∷ y → ⊥
line_past d xs x y none e = let same : 10 ≡ d = cc in none.0 (sym same)

one_line : (xs ys x y : List ℕ) → HasNoFeed xs → HasNoFeed ys → xs ++ 10 ∷ x ≡ ys ++ 10 ∷ y → (xs ≡ ys) × (x ≡ y)
one_line [] [] x y none clear e = let same : x ≡ y = cc in (refl, same)
one_line [] (d ∷ ys) x y none clear e = absurd (line_past d ys x (ys ++ 10 ∷ y) clear e)
one_line (b ∷ xs) [] x y none clear e = absurd (line_past b xs y (xs ++ 10 ∷ x) none (sym e))
one_line (b ∷ xs) (d ∷ ys) x y none clear e =
    let first : b ≡ d = cc in
    let others : xs ++ 10 ∷ x ≡ ys ++ 10 ∷ y = cc in
    let more = one_line xs ys x y none.1 clear.1 others in
    (ap (λ k. k ∷ xs) first ∙ ap (λ k. d ∷ k) more.0, more.1)

-- ---- a line writes one number

signed_is_unsigned : (ds es : List ℕ) → all_ascii_digits ds ≡ true → ds ≡ 45 ∷ es → ⊥
signed_is_unsigned ds es all e = let wrong : all_ascii_digits (45 ∷ es) ≡ true = sym (ap all_ascii_digits e) ∙ all in absurd (cc)

tails : (a b : ℕ) (xs ys : List ℕ) → a ∷ xs ≡ b ∷ ys → xs ≡ ys
tails a b xs ys e = cc

one_number : (v w : ℤ) (line : List ℕ) → IsNumber v line → IsNumber w line → v ≡ w
one_number v w line (ds, are, inl a) (es, be, inl b) = a.1 ∙ ap (λ k. pos (digits_value 10 k)) (sym a.0 ∙ b.0) ∙ sym b.1
one_number v w line (ds, are, inl a) (es, be, inr b) = absurd (signed_is_unsigned ds es are.decimal (sym a.0 ∙ b.0))
one_number v w line (ds, are, inr a) (es, be, inl b) = absurd (signed_is_unsigned es ds be.decimal (sym b.0 ∙ a.0))
one_number v w line (ds, are, inr a) (es, be, inr b) = a.1 ∙ ap (λ k. neg_ℤ (pos (digits_value 10 k))) (tails 45 45 ds es (sym a.0 ∙ b.0)) ∙ sym b.1

-- the bytes after a first one
from_first : (line : List ℕ) → 0 < length line → get_or line 0 0 ≡ 45 → line ≡ 45 ∷ drop 1 line
from_first [] some first = absurd (omega arith)
from_first (b ∷ line) some first = ap (λ k. k ∷ line) first

unsigned_read : (line : List ℕ) (n : ℕ) → AreDigits line → n ≡ digits_value 10 line → IsNumber (pos n) line
unsigned_read line n are value = (line, are, inl (refl, ap pos value))

signed_read : (line : List ℕ) (n : ℕ) → 0 < length line → get_or line 0 0 ≡ 45 → AreDigits (drop 1 line) → n ≡ digits_value 10 (drop 1 line) → IsNumber (neg_ℤ (pos n)) line
signed_read line n some first are value = (drop 1 line, are, inr (from_first line some first, ap (λ k. neg_ℤ (pos k)) value))

first_of : (line ds : List ℕ) → line ≡ 45 ∷ ds → (0 < length line) × (get_or line 0 0 ≡ 45)
first_of line ds e = (omega (arith, ap length e), ap (λ l. get_or l 0 0) e)

unsigned_none : (line : List ℕ) → (0 < length line → get_or line 0 0 ≡ 45 → ⊥) → (AreDigits line → ⊥) → (v : ℤ) → IsNumber v line → ⊥
unsigned_none line bare none v (ds, are, inl is) = none (subst AreDigits (sym is.0) are)
unsigned_none line bare none v (ds, are, inr is) = let at = first_of line ds is.0 in bare at.0 at.1

signed_none : (line : List ℕ) → 0 < length line → get_or line 0 0 ≡ 45 → (AreDigits (drop 1 line) → ⊥) → (v : ℤ) → IsNumber v line → ⊥
signed_none line some first none v (ds, are, inl is) = signed_is_unsigned ds (drop 1 line) are.decimal (sym is.0 ∙ from_first line some first)
signed_none line some first none v (ds, are, inr is) = none (subst AreDigits (sym (ap (drop 1) is.0)) are)

pub signed_reads : (line : List ℕ) (o : Option ℕ) → 0 < length line → get_or line 0 0 ≡ 45 → SomeIff o (AreDigits (drop 1 line)) (digits_value 10 (drop 1 line))
    → ReadsNumber line (option_map (λ n. neg_ℤ (pos n)) o)
signed_reads line (Some n) some first read = signed_read line n some first read.0 read.1
signed_reads line None some first none = signed_none line some first none

pub unsigned_reads : (line : List ℕ) (o : Option ℕ) → (0 < length line → get_or line 0 0 ≡ 45 → ⊥) → SomeIff o (AreDigits line) (digits_value 10 line)
    → ReadsNumber line (option_map (λ n. pos n) o)
unsigned_reads line (Some n) bare read = unsigned_read line n read.0 read.1
unsigned_reads line None bare none = unsigned_none line bare none

-- ---- the number that digits write

own : IsNumeralModel (λ ds. all_ascii_digits ds ≡ true) (digits_value 10)
own = numerals_by_value _ tells_all_ascii_digits

in_range : (d : ℕ) → is_ascii_digit d ≡ true → IsInRange 48 57 d
in_range d h = let one : all_ascii_digits (d ∷ []) ≡ true = rw h refl in (tells_all_ascii_digits.parts d [] one).0

digit_below : (d : ℕ) → is_ascii_digit d ≡ true → (digit_value d < 10) × (digit_value d ≡ d - 48)
digit_below d h =
    let within : IsInRange 48 57 d = in_range d h in
    let value : digit_value d + 48 ≡ d = digit_value_digit d within in
    (omega (arith, value, within.0, within.1), omega (arith, value))

-- the digits read so far, and their number
pub record AreRead (ds : List ℕ) (i n : ℕ) : Type 0 where
  pub decimal : all_ascii_digits (take i ds) ≡ true
  pub value : n ≡ digits_value 10 (take i ds)

pub none_read : (ds : List ℕ) → AreRead ds 0 0
none_read ds = record { decimal = refl; value = refl }

pub read_small : (ds : List ℕ) (i n k : ℕ) → AreRead ds i n → i ≤ length ds → i ≤ k → n < 10 ^ k
read_small ds i n k are within few =
    let many : length (take i ds) ≡ i = length-take-le i ds within in
    let least : digits_value 10 (take i ds) < 10 ^ length (take i ds) = digits_value-lt 10 (take i ds) (own.to (take i ds) are.decimal) in
    let most : 10 ^ length (take i ds) ≤ 10 ^ k = pow-le-pow_right {n = 10} (omega arith) (omega (arith, many)) in
    omega (arith, are.value, least, most)

pub one_more_read : (ds : List ℕ) (i n m : ℕ) → AreRead ds i n → i < length ds → is_ascii_digit (get_or ds i 0) ≡ true → m ≡ n * 10 + (get_or ds i 0 - 48) → AreRead ds (i + 1) m
one_more_read ds i n m are within digit more =
    let below = digit_below (get_or ds i 0) digit in
    let whole = digits_more 10 ds i within (own.to (take i ds) are.decimal) below.0 in
    record {
      decimal = own.from (take (i + 1) ds) whole;
      value = omega (arith, digits_value_more 10 ds i within, are.value, below.1, more);
    }

each_is_digit : (ds : List ℕ) (i : ℕ) → all_ascii_digits ds ≡ true → i < length ds → is_ascii_digit (get_or ds i 0) ≡ true
each_is_digit [] i all h = absurd (omega arith)
each_is_digit (d ∷ ds) zero all h = and_left (is_ascii_digit d) (all_ascii_digits ds) all
each_is_digit (d ∷ ds) (suc i) all h = each_is_digit ds i (and_right (is_ascii_digit d) (all_ascii_digits ds) all) (omega arith)

pub no_digits : (ds : List ℕ) (i : ℕ) → i < length ds → is_ascii_digit (get_or ds i 0) ≡ false → AreDigits ds → ⊥
no_digits ds i within other are = let digit : is_ascii_digit (get_or ds i 0) ≡ true = each_is_digit ds i are.decimal within in let wrong : true ≡ false = sym digit ∙ other in absurd (cc)

pub digits_read : (ds : List ℕ) (i n : ℕ) → AreRead ds i n → length ds ≤ i → 1 ≤ length ds → length ds ≤ 20 → AreDigits ds × (n ≡ digits_value 10 ds)
digits_read ds i n are all some few =
    let whole : take i ds ≡ ds = take_all i ds all in
    (record { some = some; few = few; decimal = subst (λ k. all_ascii_digits k ≡ true) whole are.decimal }, are.value ∙ ap (digits_value 10) whole)

-- ---- the first line of a text

feed_among : (line rest : List ℕ) → HasNoFeed (line ++ 10 ∷ rest) → ⊥
feed_among [] rest none = none.0 refl
feed_among (b ∷ line) rest none = feed_among line rest none.1

no_feed_push : (bs : List ℕ) (b : ℕ) → HasNoFeed bs → (b ≡ 10 → ⊥) → HasNoFeed (bs ++ b ∷ [])
no_feed_push [] b none other = (other, tt)
no_feed_push (d ∷ bs) b none other = (none.0, no_feed_push bs b none.1 other)

pub no_feed_more : (text : List ℕ) (i : ℕ) → HasNoFeed (take i text) → i < length text → (get_or text i 0 ≡ 10 → ⊥) → HasNoFeed (take (i + 1) text)
no_feed_more text i none within other = subst HasNoFeed (sym (take_more text i 0 within)) (no_feed_push (take i text) (get_or text i 0) none other)

pub line_here : (text : List ℕ) (i : ℕ) → HasNoFeed (take i text) → i < length text → get_or text i 0 ≡ 10 → IsLine text i
line_here text i none within feed =
    let next : suc i ≡ i + 1 = omega arith in
    let here : drop i text ≡ 10 ∷ drop (i + 1) text = drop-cons text i 0 within ∙ ap (λ k. k ∷ drop (suc i) text) feed ∙ ap (λ k. 10 ∷ drop k text) next in
    record { within = within; ended = sym (take-append-drop i text) ∙ ap (λ k. take i text ++ k) here; first = none }

pub no_line : (text : List ℕ) (i : ℕ) → HasNoFeed (take i text) → length text ≤ i → (line rest : List ℕ) → text ≡ line ++ 10 ∷ rest → ⊥
no_line text i none all line rest cut = feed_among line rest (subst HasNoFeed (take_all i text all ∙ cut) none)

-- ---- a text has one list of values

no_line_at_end : (line rest : List ℕ) → [] ≡ line ++ 10 ∷ rest → ⊥
no_line_at_end [] rest e = absurd (cc)
no_line_at_end (b ∷ line) rest e = absurd (cc)

pub one_list : (text : List ℕ) (these those : List ℤ) → AreValues these text → AreValues those text → these ≡ those
one_list text [] [] a b = refl
one_list text [] (w ∷ ws) a (line, rest, is, cut, more) = absurd (no_line_at_end line rest (sym a ∙ cut))
one_list text (v ∷ vs) [] (line, rest, is, cut, more) b = absurd (no_line_at_end line rest (sym b ∙ cut))
one_list text (v ∷ vs) (w ∷ ws) (line, rest, is, cut, more) (line', rest', is', cut', more') =
    let same = one_line line line' rest rest' (number_has_no_feed v line is) (number_has_no_feed w line' is') (sym cut ∙ cut') in
    let first : v ≡ w = one_number v w line' (subst (λ l. IsNumber v l) same.0 is) is' in
    let others : vs ≡ ws = one_list rest' vs ws (subst (λ r. AreValues vs r) same.1 more) more' in
    ap (λ k. k ∷ vs) first ∙ ap (λ k. w ∷ k) others

-- ---- values read line by line

-- values that were read, and the text left after their lines
pub record AreBefore (bytes : List ℕ) (vs : List ℤ) (text : List ℕ) : Type 0 where
  pub whole : (ws : List ℤ) → AreValues ws text → AreValues (vs ++ ws) bytes
  pub only : (us : List ℤ) → AreValues us bytes → (ws : List ℤ) × (us ≡ vs ++ ws) × AreValues ws text

pub none_before : (bytes : List ℕ) → AreBefore bytes [] bytes
none_before bytes = record { whole = λ ws a. a; only = λ us a. (us, refl, a) }

empty_text : (text : List ℕ) → text ≡ [] → 0 < length text → ⊥
empty_text text e some = omega (arith, ap length e)

next_of : (text : List ℕ) (size : ℕ) (v : ℤ) (vs us : List ℤ) → IsLine text size → IsNumber v (take size text) → (ws : List ℤ) → us ≡ vs ++ ws → AreValues ws text
    → (others : List ℤ) × (us ≡ (vs ++ v ∷ []) ++ others) × AreValues others (drop (size + 1) text)
next_of text size v vs us at is [] e a = absurd (empty_text text a (omega (arith, at.within)))
next_of text size v vs us at is (w ∷ ws) e (line, rest, is', cut, more) =
    let same = one_line (take size text) line (drop (size + 1) text) rest at.first (number_has_no_feed w line is') (sym at.ended ∙ cut) in
    let first : w ≡ v = one_number w v line is' (subst (λ l. IsNumber v l) same.0 is) in
    (ws, e ∙ ap (λ k. vs ++ k ∷ ws) first ∙ sym (append_assoc vs (v ∷ []) ws), subst (λ r. AreValues ws r) (sym same.1) more)

pub one_more_before : (bytes text left : List ℕ) (size : ℕ) (v : ℤ) (vs us : List ℤ) → us ≡ vs ++ v ∷ [] → left ≡ drop (size + 1) text → AreBefore bytes vs text → IsLine text size
    → IsNumber v (take size text) → AreBefore bytes us left
one_more_before bytes text left size v vs us e f before at is =
    let next : AreBefore bytes (vs ++ v ∷ []) (drop (size + 1) text) = record {
      whole = λ ws a. subst (λ k. AreValues k bytes) (sym (append_assoc vs (v ∷ []) ws)) (before.whole (v ∷ ws) (take size text, drop (size + 1) text, is, at.ended, a));
      only = λ us a. let rest = before.only us a in next_of text size v vs us at is rest.0 rest.1 rest.2;
    } in
    subst (λ k. AreBefore bytes k left) (sym e) (subst (λ k. AreBefore bytes (vs ++ v ∷ []) k) (sym f) next)

none_at : (text : List ℕ) → 0 < length text → ((line rest : List ℕ) (v : ℤ) → IsNumber v line → text ≡ line ++ 10 ∷ rest → ⊥) → (ws : List ℤ) → AreValues ws text → ⊥
none_at text some none [] a = empty_text text a some
none_at text some none (w ∷ ws) (line, rest, is, cut, more) = none line rest w is cut

pub no_line_left : (bytes text : List ℕ) (vs : List ℤ) → AreBefore bytes vs text → 0 < length text → ((line rest : List ℕ) → text ≡ line ++ 10 ∷ rest → ⊥)
    → (us : List ℤ) → AreValues us bytes → ⊥
no_line_left bytes text vs before some none us a =
    let rest = before.only us a in none_at text some (λ line more v is cut. none line more cut) rest.0 rest.2

pub no_number_left : (bytes text : List ℕ) (size : ℕ) (vs : List ℤ) → AreBefore bytes vs text → IsLine text size → ((v : ℤ) → IsNumber v (take size text) → ⊥)
    → (us : List ℤ) → AreValues us bytes → ⊥
no_number_left bytes text size vs before at none us a =
    let rest = before.only us a in
    none_at text (omega (arith, at.within)) (λ line more v is cut.
    let same = one_line (take size text) line (drop (size + 1) text) more at.first (number_has_no_feed v line is) (sym at.ended ∙ cut) in
    none v (subst (λ l. IsNumber v l) (sym same.0) is)) rest.0 rest.2

nothing_left : (text : List ℕ) → length text ≡ 0 → text ≡ []
nothing_left [] e = refl
nothing_left (b ∷ text) e = absurd (omega arith)

pub all_read : (bytes text : List ℕ) (vs : List ℤ) → AreBefore bytes vs text → length text ≡ 0 → AreValues vs bytes
all_read bytes text vs before none = subst (λ k. AreValues k bytes) (append-nil vs) (before.whole [] (nothing_left text none))

pub never : {P : Type 0} → false ≡ true → P
never h = absurd (cc)

-- what isn't empty has a first byte
pub some_left : (n : ℕ) → (n ≡ 0 → ⊥) → 0 < n
some_left n h = omega arith
