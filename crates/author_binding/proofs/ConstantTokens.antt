-- The texts of constants as tokens, and the trees that these spell.
use Rattle.std.proofs.Common.{◌≡◌, ℕ, ◌^◌, ◌<◌, ◌≤◌, Bool, true, false, List, [], ◌∷◌, ◌++◌, drop, take, Some, codes, decimal, refl, sym, subst, arith, append-nil}
use Rattle.std.specs.Fmt.{digits}
use Rattle.c_core.specs.declared.number.BinOp.TheVariants.{Eq, Sub}
use Rattle.c_core.specs.declared.number.UnOp.TheVariants.{Neg}
use Rattle.c_tokens.specs.declared.gap.Gap.TheVariants.{Absent}
use Rattle.c_tokens.specs.declared.place.Place.{Place}
use Rattle.c_tokens.specs.declared.token.Punct.TheVariants.{Equal, Minus}
use Rattle.c_tokens.specs.declared.token.Token.{Token}
use Rattle.c_tokens.specs.declared.token.TokenKind.{TokenKind}
use Rattle.c_tokens.specs.declared.token.TokenKind.TheVariants as kind
use Rattle.c_tokens.specs.Bytes.{is_digit}
use Rattle.c_tokens.specs.Gaps.{gap}
use Rattle.c_tokens.specs.Pieces.{Longest}
use Rattle.c_tokens.specs.Reading.{AToken, AtEnd, Between, NoLead, Reads, Whole, past, start, token}
use Rattle.c_tokens.specs.Scan.{scan}
use Rattle.c_tokens.proofs.Scanned.{longest_found}
use Rattle.c_parser.specs.Expressions.{ANumber, Joined, Signed, Spells, Stronger}
use Rattle.c_parser.specs.Heights.{height}
use Rattle.c_parser.specs.Signs.{sign_token, unary}
use Rattle.c_parser.specs.Sources.{max_brackets, max_height}
use Rattle.c_parser.specs.Tree.{Exp, Expr, Binary, Number, Unary}
use Rattle.c_parser.specs.Witness.{IsResultTest, is_nameless, shift}
use Rattle.author_binding.proofs.Decimals.{IsDecimal, is_decimal}
use Rattle.author_binding.proofs.NumberTokens.{digit_not, last_read, no_suffix, number_read, wide_suffix}

-- wherever the text stands, its tokens are an expression of constants, which may stand behind `==`
pub record SpellsConstant (text : List ℕ) (tree : Place → Exp) : Type 0 where
  pub tokens : Place → List Token
  pub read : (at : Place) → Reads false at text (tokens at) Whole
  pub spells : (at : Place) → Spells max_brackets shift (tokens at) (tree at) []
  pub low : (at : Place) → height (tree at) ≤ max_height
  pub nameless : (at : Place) → is_nameless (tree at) ≡ true

-- ---- numbers

abbrev number_token : ℕ → Bool → Bool → ℕ → Place → Token
number_token n decimal unsigned longs at = token (kind.Number n decimal unsigned longs) at

abbrev pub number_tree : ℕ → Bool → Bool → ℕ → Place → Exp
number_tree n decimal unsigned longs at = Expr at.spot (Number n decimal unsigned longs)

number_spells : (n : ℕ) (decimal unsigned : Bool) (longs : ℕ) (text : List ℕ) →
    ((at : Place) → Reads false at text (number_token n decimal unsigned longs at ∷ []) Whole) →
    SpellsConstant text (number_tree n decimal unsigned longs)
number_spells n decimal unsigned longs text read = record {
  tokens = λ at. number_token n decimal unsigned longs at ∷ [];
  read = read;
  spells = λ at. Stronger (Stronger (Stronger (Stronger (Stronger (Stronger ANumber)))));
  low = λ at. omega arith;
  nameless = λ at. refl;
}

pub zero_spelled : SpellsConstant (decimal 0 ++ []) (number_tree 0 false false 0)
unfolding digits
zero_spelled =
    number_spells 0 false false 0 (decimal 0 ++ [])
    (λ at. last_read at (48 ∷ []) (kind.Number 0 false false 0) refl refl)

pub number_spelled : (n : ℕ) → 0 < n → n < 2 ^ 64 → SpellsConstant (decimal n ++ []) (number_tree n true false 0)
number_spelled n some small =
    number_spells n true false 0 (decimal n ++ [])
    (number_read n (decimal n) [] false 0 (is_decimal n some small) no_suffix small)

pub wide_spelled : (n : ℕ) → 0 < n → n < 2 ^ 64 → SpellsConstant (decimal n ++ codes "ULL") (number_tree n true true 2)
wide_spelled n some small =
    number_spells n true true 2 (decimal n ++ codes "ULL")
    (number_read n (decimal n) (codes "ULL") true 2 (is_decimal n some small) wide_suffix small)

-- ---- negative numbers

-- behind the sign
abbrev signed : Place → Place
signed at = past at (codes "-")

abbrev pub negative_tree : ℕ → Place → Exp
negative_tree n at = Expr at.spot (Unary Neg (number_tree n true false 0 (signed at)))

minus_found : (d : ℕ) (ds : List ℕ) → is_digit d ≡ true → scan (45 ∷ d ∷ ds) ≡ Some (1, Some (kind.Punct Minus))
minus_found d ds digit = rw (digit_not d 45 digit refl, digit_not d 61 digit refl, digit_not d 62 digit refl) refl

minus_read : (at : Place) (text : List ℕ) (ts : List Token) (n : ℕ) → IsDecimal n text →
    Reads false (signed at) text ts Whole →
    Reads false at (codes "-" ++ text) (sign_token Minus at.spot ∷ ts) Whole
minus_read at text ts n h behind =
    let long : Longest (45 ∷ []) (Some (kind.Punct Minus)) (45 ∷ h.first ∷ h.others) (h.first ∷ h.others) =
    longest_found (45 ∷ h.first ∷ h.others) 1 (Some (kind.Punct Minus)) (minus_found h.first h.others h.digit) in
    subst (λ t. Reads false at (45 ∷ t) (sign_token Minus at.spot ∷ ts) Whole) (sym h.spelled)
    (AToken refl long (subst (λ t. Reads false (signed at) t ts Whole) h.spelled behind))

pub negative_spelled : (n : ℕ) → 0 < n → n < 2 ^ 64 → SpellsConstant (codes "-" ++ decimal n) (negative_tree n)
negative_spelled n some small =
    let are = is_decimal n some small in
    let number : Place → List Token = λ at. number_token n true false 0 at ∷ [] in
    let read : (at : Place) → Reads false at (decimal n) (number at) Whole =
    λ at. subst (λ t. Reads false at t (number at) Whole) (append-nil (decimal n))
    (number_read n (decimal n) [] false 0 are no_suffix small at) in
    record {
      tokens = λ at. sign_token Minus at.spot ∷ number (signed at);
      read = λ at. minus_read at (decimal n) (number (signed at)) n are (read (signed at));
      spells = λ at. Stronger (Stronger (Stronger (Stronger (Signed refl (Stronger (Stronger (Stronger ANumber)))))));
      low = λ at. omega arith;
      nameless = λ at. refl;
    }

-- ---- the least number

-- where its second number stands
abbrev last : Place → Place
last at = past at (codes "-9223372036854775807 - ")

abbrev pub least_tree : Place → Exp
least_tree at = Expr at.spot (Binary Sub (negative_tree 9223372036854775807 at) (number_tree 1 true false 0 (last at)))

-- a token at the front of a given text
token_read : (at : Place) (text : List ℕ) (n : ℕ) (k : TokenKind) (ts : List Token) →
    gap false text ≡ Absent → scan text ≡ Some (n, Some k) →
    Reads false (past at (take n text)) (drop n text) ts Whole → Reads false at text (token k at ∷ ts) Whole
token_read at text n k ts no_gap found behind = AToken no_gap (longest_found text n (Some k) found) behind

abbrev least_tokens : Place → List Token
least_tokens at =
    sign_token Minus at.spot ∷ number_token 9223372036854775807 true false 0 (signed at) ∷
    sign_token Minus (past at (codes "-9223372036854775807 ")).spot ∷ number_token 1 true false 0 (last at) ∷ []

least_read : (at : Place) → Reads false at (codes "-9223372036854775807 - 1") (least_tokens at) Whole
least_read at =
    token_read at _ 1 (kind.Punct Minus) _ refl refl
    (token_read _ _ 19 (kind.Number 9223372036854775807 true false 0) _ refl refl
    (Between {n = 1} refl
    (token_read _ _ 1 (kind.Punct Minus) _ refl refl
    (Between {n = 1} refl
    (token_read _ _ 1 (kind.Number 1 true false 0) _ refl refl AtEnd)))))

least_spells : (at : Place) → Spells max_brackets shift (least_tokens at) (least_tree at) []
least_spells at =
    let minus = sign_token Minus (past at (codes "-9223372036854775807 ")).spot in
    let one = number_token 1 true false 0 (last at) ∷ [] in
    let first : Spells max_brackets unary (least_tokens at) (negative_tree 9223372036854775807 at) (minus ∷ one) =
    Signed {s = Minus} refl (Stronger (Stronger (Stronger ANumber))) in
    let second : Spells max_brackets 13 one (number_tree 1 true false 0 (last at)) [] =
    Stronger (Stronger (Stronger (Stronger ANumber))) in
    Stronger (Joined {s = Minus} refl (Stronger (Stronger (Stronger first))) second)

pub least_spelled : SpellsConstant (codes "-9223372036854775807 - 1") least_tree
least_spelled = record {
  tokens = least_tokens;
  read = least_read;
  spells = least_spells;
  low = λ at. omega arith;
  nameless = λ at. refl;
}

-- ---- behind `\result ==`

-- where the constant stands
abbrev pub constant_place : Place
constant_place = past start (codes "\\result == ")

equal_read : (at : Place) (text : List ℕ) (ts : List Token) → Reads false (past at (codes " == ")) text ts Whole →
    Reads false at (codes " == " ++ text) (sign_token Equal (past at (codes " ")).spot ∷ ts) Whole
equal_read at text ts behind =
    Between {n = 1} refl
    (token_read _ (61 ∷ 61 ∷ 32 ∷ text) 2 (kind.Punct Equal) ts refl refl (Between {n = 1} refl behind))

pub result_test : (text : List ℕ) (tree : Place → Exp) → SpellsConstant text tree →
    IsResultTest (codes "\\result == " ++ text) Eq (tree constant_place)
result_test text tree h = record {
  parens = 0;
  place = start;
  behind = codes " == " ++ text;
  opens = NoLead;
  s = Equal;
  mark = (past start (codes "\\result ")).spot;
  constant = h.tokens constant_place;
  closing = [];
  are_tokens = equal_read (past start (codes "\\result")) text (h.tokens constant_place) (h.read constant_place);
  few = omega arith;
  compares = refl;
  spells = h.spells constant_place;
  all_closed = refl;
  matching = refl;
  low = h.low constant_place;
  nameless = h.nameless constant_place;
}
