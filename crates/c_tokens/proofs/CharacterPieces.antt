-- Characters: the scanner finds one exactly where it stands.
use Rattle.std.proofs.Common.{◌≡◌, ◌≤◌, ◌<◌, ◌+◌, ◌∙◌, ℕ, Bool, true, false, cond, not, ◌&&◌, ◌==◌, nat_lt, nat_le, List, [], ◌∷◌, ◌++◌, length, take, drop, Option, Some, None, refl, sym, ap, subst, arith, inl, inr}
use Rattle.std.specs.Option.{option_map}
use Rattle.std.specs.List.{prefix_len, list_all}
use Rattle.std.proofs.lemmas.Bool.{eqb-true, ltb-true, leb-true}
use Rattle.std.proofs.lemmas.Bool.Decides.{nat_tests}
use Rattle.std.proofs.lemmas.List.Folds.{length-prefix_len}
use Rattle.std.proofs.Math.Seq.{take-append_seam, drop-append_seam}
use Rattle.std.proofs.lemmas.List.{take-append-drop}
use Rattle.c_tokens.specs.Bytes.{is_plain, is_octal_digit, is_hexadecimal_digit, digit_value, quote, backslash, small_x}
use Rattle.c_tokens.specs.Numbers.{number_in}
use Rattle.c_tokens.specs.Characters.{simple_escapes, Pairs, Character, Plain, Simple, Octal, Hexadecimal}
use Rattle.c_tokens.specs.Scan.{value_among, closed_after, byte_in, digits_escape, escape_end, character_end}
use Rattle.c_tokens.proofs.Choices.{both, not_true, some_pair, second_choice, pair_passes}
use Rattle.c_tokens.proofs.Runs.{run_passes, run_exact}

-- Each character is found.

plain_itself : (b : ℕ) → is_plain b ≡ true → (b == backslash) ≡ false
plain_itself b e = grind (arith, nat_tests)

octal_digit : (b : ℕ) → is_octal_digit b ≡ true → (b == small_x) ≡ false
octal_digit b e = grind (arith, nat_tests)

hexadecimal_value : (b : ℕ) → is_hexadecimal_digit b ≡ true → digit_value b < 16
hexadecimal_value b e = grind (arith, nat_tests)

less_true : (a b : ℕ) → a < b → nat_lt a b ≡ true
less_true a b h = grind (arith, nat_tests)

at_most_true : (a b : ℕ) → a ≤ b → nat_le a b ≡ true
at_most_true a b h = grind (arith, nat_tests)

is_value : Option ℕ → ℕ → Bool
is_value None v = false
is_value (Some x) v = x == v

value_of : (o : Option ℕ) (v : ℕ) → is_value o v ≡ true → o ≡ Some v
unfolding is_value
value_of None v e = absurd (cc)
value_of (Some x) v e = ap Some (eqb-true x v e)

is_simple : ℕ → ℕ → Bool
is_simple b v = not (b == small_x) && (not (is_octal_digit b) && is_value (value_among simple_escapes b) v)

simple_rows : list_all (λ row. is_simple row.0 row.1) simple_escapes ≡ true
unfolding is_simple is_value
simple_rows = refl

simple_whole : (b v : ℕ) → Pairs simple_escapes b v → (rest : List ℕ) → escape_end (b ∷ quote ∷ rest) ≡ Some (3, v)
unfolding is_simple
simple_whole b v h rest =
    let all = pair_passes is_simple simple_escapes simple_rows b v h in
    let first = both (not (b == small_x)) _ all in
    let second = both (not (is_octal_digit b)) _ first.1 in
    rw (not_true (b == small_x) first.0, not_true (is_octal_digit b) second.0, value_of (value_among simple_escapes b) v second.1) refl

byte_whole : (radix most : ℕ) (digits : List ℕ) → 1 ≤ length digits → length digits ≤ most → number_in radix digits < 256 → byte_in radix most digits ≡ Some (number_in radix digits)
byte_whole radix most digits some few small =
    rw (less_true 0 (length digits) some, at_most_true (length digits) most few, less_true (number_in radix digits) 256 small) refl

digits_whole : (radix : ℕ) (p : ℕ → Bool) (most before : ℕ) (digits rest : List ℕ) → list_all p digits ≡ true → p quote ≡ false →
    1 ≤ length digits → length digits ≤ most → number_in radix digits < 256 →
    digits_escape radix p most before (digits ++ quote ∷ rest) ≡ Some (before + length digits + 1, number_in radix digits)
digits_whole radix p most before digits rest all other some few small =
    rw (run_exact p digits quote rest all other, drop-append_seam digits (quote ∷ rest), take-append_seam digits (quote ∷ rest), byte_whole radix most digits some few small) refl

two_digits : (digits : List ℕ) → list_all is_hexadecimal_digit digits ≡ true → length digits ≤ 2 → number_in 16 digits < 256
two_digits [] all few = omega arith
two_digits (a ∷ []) all few = let h = hexadecimal_value a (both (is_hexadecimal_digit a) _ all).0 in omega (arith, h)
two_digits (a ∷ b ∷ []) all few =
    let first = both (is_hexadecimal_digit a) _ all in
    let h = hexadecimal_value a first.0 in
    let k = hexadecimal_value b (both (is_hexadecimal_digit b) _ first.1).0 in
    omega (arith, h, k)
two_digits (a ∷ b ∷ c ∷ digits) all few = absurd (omega arith)

octal_whole : (digits : List ℕ) → list_all is_octal_digit digits ≡ true → 1 ≤ length digits → length digits ≤ 3 → number_in 8 digits < 256 → (rest : List ℕ) →
    escape_end (digits ++ quote ∷ rest) ≡ Some (1 + length digits + 1, number_in 8 digits)
octal_whole [] all some few small rest = absurd (omega arith)
octal_whole (d ∷ digits) all some few small rest =
    let here = (both (is_octal_digit d) _ all).0 in
    let text = digits ++ quote ∷ rest in
    second_choice (d == small_x) (is_octal_digit d) (digits_escape 16 is_hexadecimal_digit 2 2 text) (digits_escape 8 is_octal_digit 3 1 (d ∷ text)) (closed_after 2 text (value_among simple_escapes d))
    (octal_digit d here) here ∙ digits_whole 8 is_octal_digit 3 1 (d ∷ digits) rest all refl some few small

pub character_whole : {text : List ℕ} {v : ℕ} → Character text v → (rest : List ℕ) → character_end (text ++ quote ∷ rest) ≡ Some (length text + 1, v)
character_whole (Plain {b = b} plain) rest = rw (plain_itself b plain, plain) refl
character_whole (Simple {b = b} {value = v} h) rest = simple_whole b v h rest
character_whole (Octal {digits = digits} all some few small) rest =
    octal_whole digits all some few small rest ∙ ap (λ n. Some (n, number_in 8 digits)) (omega arith)
character_whole (Hexadecimal {digits = digits} all some few) rest =
    digits_whole 16 is_hexadecimal_digit 2 2 digits rest all refl some few (two_digits digits all few) ∙ ap (λ n. Some (n, number_in 16 digits)) (omega arith)

-- What is found is a character.

pub record CharacterHere (text : List ℕ) (n v : ℕ) : Type 0 where
  pub inside : List ℕ
  pub rest : List ℕ
  pub character : Character inside v
  pub parts : text ≡ inside ++ quote ∷ rest
  pub size : length inside + 1 ≡ n

record Closed (m : ℕ) (text : List ℕ) (value : Option ℕ) (n v : ℕ) : Type 0 where
  pub rest : List ℕ
  pub parts : text ≡ quote ∷ rest
  pub valued : value ≡ Some v
  pub size : m + 1 ≡ n

closed_case : (m c : ℕ) (rest : List ℕ) (value : Option ℕ) (n v : ℕ) (here : Bool) → (c == quote) ≡ here →
    cond here (option_map {U = ℕ × ℕ} (λ x. (m + 1, x)) value) None ≡ Some (n, v) → Closed m (c ∷ rest) value n v
closed_case m c rest value n v false q e = absurd (cc)
closed_case m c rest None n v true q e = absurd (cc)
closed_case m c rest (Some x) n v true q e = record {
  rest = rest;
  parts = ap (λ b. b ∷ rest) (eqb-true c quote q);
  valued = ap Some (some_pair e).1;
  size = (some_pair e).0;
}

closed_from : (m : ℕ) (text : List ℕ) (value : Option ℕ) (n v : ℕ) → closed_after m text value ≡ Some (n, v) → Closed m text value n v
closed_from m [] value n v e = absurd (cc)
closed_from m (c ∷ rest) value n v e = closed_case m c rest value n v (c == quote) refl e

record Digits (radix most v : ℕ) (digits : List ℕ) : Type 0 where
  pub some : 1 ≤ length digits
  pub few : length digits ≤ most
  pub small : number_in radix digits < 256
  pub value : number_in radix digits ≡ v

byte_case : (radix most v : ℕ) (digits : List ℕ) (fits : Bool) → (nat_lt 0 (length digits) && (nat_le (length digits) most && nat_lt (number_in radix digits) 256)) ≡ fits →
    cond fits (Some (number_in radix digits)) None ≡ Some v → Digits radix most v digits
byte_case radix most v digits false t e = absurd (cc)
byte_case radix most v digits true t e =
    let first = both (nat_lt 0 (length digits)) _ t in
    let second = both (nat_le (length digits) most) _ first.1 in
    record {
      some = ltb-true 0 (length digits) first.0;
      few = leb-true (length digits) most second.0;
      small = ltb-true (number_in radix digits) 256 second.1;
      value = cc;
    }

pairs_case : (b v : ℕ) (x y : ℕ) (rows : List (ℕ × ℕ)) (here : Bool) → (b == x) ≡ here → cond here (Some y) (value_among rows b) ≡ Some v →
    (value_among rows b ≡ Some v → Pairs rows b v) → Pairs ((x, y) ∷ rows) b v
pairs_case b v x y rows true t e later = inl (sym (eqb-true b x t), cc)
pairs_case b v x y rows false t e later = inr (later e)

pairs_from : (rows : List (ℕ × ℕ)) (b v : ℕ) → value_among rows b ≡ Some v → Pairs rows b v
pairs_from [] b v e = absurd (cc)
pairs_from ((x, y) ∷ rows) b v e = pairs_case b v x y rows (b == x) refl e (pairs_from rows b v)

-- an escape of digits
digits_here : (radix : ℕ) (p : ℕ → Bool) (most before : ℕ) (text : List ℕ) (n v : ℕ) → digits_escape radix p most before text ≡ Some (n, v) →
    (digits : List ℕ) × ((rest : List ℕ) × (Digits radix most v digits × ((list_all p digits ≡ true) × ((text ≡ digits ++ quote ∷ rest) × (before + length digits + 1 ≡ n)))))
digits_here radix p most before text n v e =
    let m = prefix_len p text in
    let end = closed_from (before + m) (drop m text) (byte_in radix most (take m text)) n v e in
    let size : length (take m text) ≡ m = length-prefix_len p text in (
      take m text,
      (
        end.rest,
        (
          byte_case radix most v (take m text) (nat_lt 0 (length (take m text)) && (nat_le (length (take m text)) most && nat_lt (number_in radix (take m text)) 256)) refl end.valued,
          (run_passes p text, (sym (take-append-drop m text) ∙ ap (λ t. take m text ++ t) end.parts, (let k = end.size in omega (arith, k, size)))),
        ),
      ),
    )

escape_case : (b : ℕ) (text : List ℕ) (n v : ℕ) (x octal : Bool) → (b == small_x) ≡ x → is_octal_digit b ≡ octal →
    cond x (digits_escape 16 is_hexadecimal_digit 2 2 text) (cond octal (digits_escape 8 is_octal_digit 3 1 (b ∷ text)) (closed_after 2 text (value_among simple_escapes b))) ≡ Some (n, v) →
    CharacterHere (backslash ∷ b ∷ text) n v
escape_case b text n v true octal ex eo e =
    let found = digits_here 16 is_hexadecimal_digit 2 2 text n v e in
    let digits = found.0 in
    let size = found.1.1.1.1.1 in
    let which = found.1.1.0 in
    record {
      inside = backslash ∷ small_x ∷ digits;
      rest = found.1.0;
      character = subst (Character (backslash ∷ small_x ∷ digits)) which.value (Hexadecimal found.1.1.1.0 which.some which.few);
      parts = ap (λ t. backslash ∷ b ∷ t) found.1.1.1.1.0 ∙ ap (λ c. backslash ∷ c ∷ (digits ++ quote ∷ found.1.0)) (eqb-true b small_x ex);
      size = omega (arith, size);
    }
escape_case b text n v false true ex eo e =
    let found = digits_here 8 is_octal_digit 3 1 (b ∷ text) n v e in
    let digits = found.0 in
    let size = found.1.1.1.1.1 in
    let which = found.1.1.0 in
    record {
      inside = backslash ∷ digits;
      rest = found.1.0;
      character = subst (Character (backslash ∷ digits)) which.value (Octal found.1.1.1.0 which.some which.few which.small);
      parts = ap (λ t. backslash ∷ t) found.1.1.1.1.0;
      size = omega (arith, size);
    }
escape_case b text n v false false ex eo e =
    let end = closed_from 2 text (value_among simple_escapes b) n v e in
    record {
      inside = backslash ∷ b ∷ [];
      rest = end.rest;
      character = Simple (pairs_from simple_escapes b v end.valued);
      parts = ap (λ t. backslash ∷ b ∷ t) end.parts;
      size = end.size;
    }

escape_from : (text : List ℕ) (n v : ℕ) → escape_end text ≡ Some (n, v) → CharacterHere (backslash ∷ text) n v
escape_from [] n v e = absurd (cc)
escape_from (b ∷ text) n v e = escape_case b text n v (b == small_x) (is_octal_digit b) refl refl e

character_case : (b : ℕ) (text : List ℕ) (n v : ℕ) (escape plain : Bool) → (b == backslash) ≡ escape → is_plain b ≡ plain →
    cond escape (escape_end text) (cond plain (closed_after 1 text (Some b)) None) ≡ Some (n, v) → CharacterHere (b ∷ text) n v
character_case b text n v true plain eb ep e =
    subst (λ c. CharacterHere (c ∷ text) n v) (sym (eqb-true b backslash eb)) (escape_from text n v e)
character_case b text n v false true eb ep e =
    let end = closed_from 1 text (Some b) n v e in
    record {
      inside = b ∷ [];
      rest = end.rest;
      character = let same : b ≡ v = (let w = end.valued in cc) in subst (Character (b ∷ [])) same (Plain ep);
      parts = ap (λ t. b ∷ t) end.parts;
      size = end.size;
    }
character_case b text n v false false eb ep e = absurd (cc)

pub character_here : (text : List ℕ) (n v : ℕ) → character_end text ≡ Some (n, v) → CharacterHere text n v
character_here [] n v e = absurd (cc)
character_here (b ∷ text) n v e = character_case b text n v (b == backslash) (is_plain b) refl refl e
