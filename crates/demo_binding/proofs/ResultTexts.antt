-- The text `\result == n` is a comparison of what a call gave with the number n.
use Rattle.std.proofs.Common.{◌≡◌, ◌<◌, ◌≤◌, ◌^◌, ℕ, ◌+◌, true, false, not, nat_eq, List, [], ◌∷◌, ◌++◌, length, codes, decimal, refl, ap, subst, arith, append-nil, length-append}
use Rattle.std.proofs.lemmas.Fmt.{length-decimal-le}
use Rattle.c_core.specs.declared.number.BinOp.TheVariants as op
use Rattle.c_core.specs.declared.number.Spot.{Spot}
use Rattle.c_tokens.specs.declared.gap.Gap.TheVariants.{Absent}
use Rattle.c_tokens.specs.declared.token.Token.{Token}
use Rattle.c_tokens.specs.declared.token.TokenKind.TheVariants.{Number as ANumber, Punct as Sign}
use Rattle.c_tokens.specs.declared.token.Punct.TheVariants as sign
use Rattle.c_tokens.specs.Gaps.{gap}
use Rattle.c_tokens.specs.Reading.{NoLead, Reads, Whole, past, start}
use Rattle.c_parser.specs.Expressions.{ANumber as SpellsNumber, Spells, Stronger}
use Rattle.c_parser.specs.Sources.{max_brackets}
use Rattle.c_parser.specs.Tree.{Exp, Expr, Number}
use Rattle.c_parser.specs.Witness.{IsResultTest, shift}
use Rattle.demo_laws.specs.DemoLines.{mark, number}
use Rattle.demo_laws.specs.Lines.{Piece, Stands, place, spot}
use Rattle.wv_author.specs.Witnesses.{result_text}
use Rattle.demo_binding.proofs.Ending.{number_ends}
use Rattle.demo_binding.proofs.Pieces.{pieces_text, reads_pieces}

-- a number that may be octal
abbrev pub number_token : ℕ → Spot → Token
number_token v at = record { kind = ANumber v (not (nat_eq v 0)) false 0; spot = at }

abbrev pub number_exp : ℕ → Spot → Exp
number_exp v at = Expr at (Number v (not (nat_eq v 0)) false 0)

-- it is as strong as a primary expression
number_spelled : (v : ℕ) (at : Spot) → Spells max_brackets shift (number_token v at ∷ []) (number_exp v at) []
number_spelled v at = Stronger (Stronger (Stronger (Stronger (Stronger (Stronger SpellsNumber)))))

-- ` == n`
abbrev pieces : ℕ → List Piece
pieces n = mark 1 (codes "==") sign.Equal ∷ number 1 n ∷ []

equal_stands : (rest : List ℕ) → Stands (mark 1 (codes "==") sign.Equal) (32 ∷ rest)
equal_stands rest = record { found = refl; no_gap = λ fresh. elim fresh as (λ f. gap f (61 ∷ 61 ∷ 32 ∷ rest) ≡ Absent) [ true ↦ refl | false ↦ refl ]; one_line = refl }

module _ (n : ℕ) (small : n < 2 ^ 31) where
  short : length (decimal n) ≤ 10
  short = length-decimal-le 10 n (omega arith) (omega arith) (omega arith)

  text_is : pieces_text (pieces n) ≡ codes " == " ++ decimal n
  text_is = ap (λ t. codes " == " ++ t) (append-nil (decimal n))

  size : length (codes " == " ++ decimal n) ≡ 4 + length (decimal n)
  size = length-append (codes " == ") (decimal n)

  behind_read : Reads false (past start (codes "\\result")) (codes " == " ++ decimal n) (record { kind = Sign sign.Equal; spot = spot 1 9 } ∷ number_token n (spot 1 12) ∷ []) Whole
  behind_read =
      let few = short in
      let long = size in
      let same = ap length text_is in
      subst (λ t. Reads false (place 1 8 false) t (record { kind = Sign sign.Equal; spot = spot 1 9 } ∷ number_token n (spot 1 12) ∷ []) Whole) text_is
      (reads_pieces false 1 8 false (pieces n) (equal_stands (decimal n ++ []), (number_ends 1 n (omega arith), tt)) (omega (arith, few, long, same)))

  pub result_test : IsResultTest (result_text n) op.Eq (number_exp n (spot 1 12))
  result_test = record {
    parens = 0;
    place = start;
    behind = codes " == " ++ decimal n;
    opens = NoLead;
    s = sign.Equal;
    mark = spot 1 9;
    constant = number_token n (spot 1 12) ∷ [];
    closing = [];
    are_tokens = behind_read;
    few = omega arith;
    compares = refl;
    spells = number_spelled n (spot 1 12);
    all_closed = refl;
    matching = refl;
    low = omega arith;
    nameless = refl;
  }
