-- Strings: the scanner finds one exactly where it stands.
use Rattle.std.proofs.Common.{◌≡◌, ◌+◌, ℕ, Bool, true, false, cond, not, ◌&&◌, ◌==◌, List, [], ◌∷◌, ◌++◌, length, Some, None, refl, sym, ap, subst, arith}
use Rattle.std.specs.Option.{option_map}
use Rattle.std.proofs.lemmas.Bool.{eqb-true, eqb-false}
use Rattle.c_tokens.specs.Bytes.{double_quote, backslash, line_feed}
use Rattle.c_tokens.specs.Characters.{StringText, Nothing, Byte, Passed}
use Rattle.c_tokens.specs.Scan.{string_end}
use Rattle.c_tokens.proofs.Choices.{mapped, test_false}

pub string_whole : {text : List ℕ} → StringText text → (rest : List ℕ) → string_end false (text ++ double_quote ∷ rest) ≡ Some (length text + 1)
string_whole Nothing rest = refl
string_whole (Byte {b = b} {text = text} quoted escape line more) rest =
    let later = string_whole more rest in
    rw (test_false b line_feed line, test_false b double_quote quoted, test_false b backslash escape, later) (ap Some (omega arith))
string_whole (Passed {b = b} {text = text} line more) rest =
    let later = string_whole more rest in
    rw (test_false b line_feed line, later) (ap Some (omega arith))

-- what is left of a string behind a byte that passes the next one, or behind another
Left : Bool → List ℕ → Type 0
Left false text = StringText text
Left true text = StringText (backslash ∷ text)

record StringFound (passing : Bool) (text : List ℕ) (n : ℕ) : Type 0 where
  pub inside : List ℕ
  pub rest : List ℕ
  pub string : Left passing inside
  pub parts : text ≡ inside ++ double_quote ∷ rest
  pub size : length inside + 1 ≡ n

one_byte : (passing : Bool) (b n : ℕ) (text : List ℕ) → (b == line_feed) ≡ false → (not passing && (b == double_quote)) ≡ false →
    StringFound (not passing && (b == backslash)) text n → StringFound passing (b ∷ text) (n + 1)
unfolding Left
one_byte true b n text line quoted found = record {
  inside = b ∷ found.inside;
  rest = found.rest;
  string = Passed (eqb-false b line_feed line) found.string;
  parts = ap (λ t. b ∷ t) found.parts;
  size = let e = found.size in omega (arith, e);
}
one_byte false b n text line quoted found = by (b == backslash) refl found
  where
    by : (v : Bool) → (b == backslash) ≡ v → StringFound v text n → StringFound false (b ∷ text) (n + 1)
    by true e found = record {
      inside = b ∷ found.inside;
      rest = found.rest;
      string = subst (λ c. StringText (c ∷ found.inside)) (sym (eqb-true b backslash e)) found.string;
      parts = ap (λ t. b ∷ t) found.parts;
      size = let e = found.size in omega (arith, e);
    }
    by false e found = record {
      inside = b ∷ found.inside;
      rest = found.rest;
      string = Byte (eqb-false b double_quote quoted) (eqb-false b backslash e) (eqb-false b line_feed line) found.string;
      parts = ap (λ t. b ∷ t) found.parts;
      size = let e = found.size in omega (arith, e);
    }

string_case : (passing : Bool) (b n : ℕ) (text : List ℕ) (line quoted : Bool) → (b == line_feed) ≡ line → (not passing && (b == double_quote)) ≡ quoted →
    cond line None (cond quoted (Some 1) (option_map (λ n. n + 1) (string_end (not passing && (b == backslash)) text))) ≡ Some n →
    ((m : ℕ) → string_end (not passing && (b == backslash)) text ≡ Some m → StringFound (not passing && (b == backslash)) text m) → StringFound passing (b ∷ text) n
unfolding Left
string_case passing b n text true quoted l q e again = absurd (cc)
string_case true b n text false true l q e again = absurd (cc)
string_case false b n text false true l q e again = record {
  inside = [];
  rest = text;
  string = Nothing;
  parts = ap (λ c. c ∷ text) (eqb-true b double_quote q);
  size = let one : 1 ≡ n = cc in one;
}
string_case passing b n text false false l q e again =
    let last = mapped (λ m. m + 1) (string_end (not passing && (b == backslash)) text) n e in
    subst (StringFound passing (b ∷ text)) last.1.1 (one_byte passing b last.0 text l q (again last.0 last.1.0))

string_from : (passing : Bool) (text : List ℕ) (n : ℕ) → string_end passing text ≡ Some n → StringFound passing text n
string_from passing [] n e = absurd (cc)
string_from passing (b ∷ text) n e = string_case passing b n text (b == line_feed) (not passing && (b == double_quote)) refl refl e (string_from (not passing && (b == backslash)) text)

-- the string that the scanner finds
pub record StringHere (text : List ℕ) (n : ℕ) : Type 0 where
  pub inside : List ℕ
  pub rest : List ℕ
  pub string : StringText inside
  pub parts : text ≡ inside ++ double_quote ∷ rest
  pub size : length inside + 1 ≡ n

pub string_here : (text : List ℕ) (n : ℕ) → string_end false text ≡ Some n → StringHere text n
unfolding Left
string_here text n e =
    let found = string_from false text n e in
    record { inside = found.inside; rest = found.rest; string = found.string; parts = found.parts; size = found.size }
