-- The text `0 <= xk && xk <= b` is an expression of a witness.
use Rattle.std.proofs.Common.{◌≡◌, ◌<◌, ◌≤◌, ◌^◌, ◌∙◌, ℕ, true, false, List, [], ◌∷◌, ◌++◌, length, codes, decimal, refl, sym, ap, subst, arith, append_assoc, append-nil, length-append}
use Rattle.std.specs.Fmt.{digits}
use Rattle.std.proofs.lemmas.Fmt.{length-decimal-le}
use Rattle.c_core.specs.declared.number.BinOp.TheVariants as op
use Rattle.c_core.specs.declared.number.Spot.{Spot}
use Rattle.c_tokens.specs.declared.gap.Gap.TheVariants.{Absent}
use Rattle.c_tokens.specs.declared.token.Token.{Token}
use Rattle.c_tokens.specs.declared.token.TokenKind.TheVariants.{Word, Punct as Sign}
use Rattle.c_tokens.specs.declared.token.Punct.{Punct}
use Rattle.c_tokens.specs.declared.token.Punct.TheVariants as sign
use Rattle.c_tokens.specs.Gaps.{gap}
use Rattle.c_tokens.specs.Reading.{PlainTokens, Reads, Whole, start}
use Rattle.c_parser.specs.Expressions.{AName, ANumber as SpellsNumber, Joined, Spells, Stronger}
use Rattle.c_parser.specs.Signs.{conditional}
use Rattle.c_parser.specs.Sources.{max_brackets}
use Rattle.c_parser.specs.Tree.{Exp, Expr, Var, Binary, Logic}
use Rattle.c_parser.specs.Witness.{IsWitnessExpression}
use Rattle.demo_laws.specs.DemoLines.{mark, name, number}
use Rattle.demo_laws.specs.Lines.{Stands, line_tokens, spot}
use Rattle.demo_laws.proofs.Standing.{name_stands}
use Rattle.wv_author.specs.Witnesses.{range_text}
use Rattle.demo_binding.specs.Correct.{range_at, range_pieces}
use Rattle.demo_binding.proofs.Ending.{number_ends}
use Rattle.demo_binding.proofs.Pieces.{PiecesStand, pieces_text, reads_pieces}
use Rattle.demo_binding.proofs.ResultTexts.{number_exp, number_token}

abbrev name_token : List ℕ → Spot → Token
name_token x at = record { kind = Word x; spot = at }

abbrev sign_token : Punct → Spot → Token
sign_token s at = record { kind = Sign s; spot = at }

-- its tokens and its tree, over any places
abbrev range_tokens : List ℕ → ℕ → (ℕ → Spot) → List Token
range_tokens x b at =
    number_token 0 (at 0) ∷ sign_token sign.LessEqual (at 1) ∷ name_token x (at 2) ∷ sign_token sign.AmpersandAmpersand (at 3) ∷
    name_token x (at 4) ∷ sign_token sign.LessEqual (at 5) ∷ number_token b (at 6) ∷ []

abbrev pub range_exp : List ℕ → ℕ → (ℕ → Spot) → Exp
range_exp x b at =
    Expr (at 0) (Logic true (Expr (at 0) (Binary op.Le (number_exp 0 (at 0)) (Expr (at 2) (Var x (at 2))))) (Expr (at 4) (Binary op.Le (Expr (at 4) (Var x (at 4))) (number_exp b (at 6)))))

-- a number and a name are as strong as any operand
number_operand : (v : ℕ) (at : Spot) (rest : List Token) → Spells max_brackets 11 (number_token v at ∷ rest) (number_exp v at) rest
number_operand v at rest = Stronger (Stronger (Stronger (Stronger (Stronger (Stronger SpellsNumber)))))

name_operand : (k : List ℕ) (at : Spot) (rest : List Token) → Spells max_brackets 11 (name_token (120 ∷ k) at ∷ rest) (Expr at (Var (120 ∷ k) at)) rest
name_operand k at rest = Stronger (Stronger (Stronger (Stronger (Stronger (Stronger (AName refl))))))

range_spelled : (k : List ℕ) (b : ℕ) (at : ℕ → Spot) → Spells max_brackets conditional (range_tokens (120 ∷ k) b at) (range_exp (120 ∷ k) b at) []
range_spelled k b at =
    let behind = name_token (120 ∷ k) (at 4) ∷ sign_token sign.LessEqual (at 5) ∷ number_token b (at 6) ∷ [] in
    let low : Spells max_brackets 10 (range_tokens (120 ∷ k) b at) (Expr (at 0) (Binary op.Le (number_exp 0 (at 0)) (Expr (at 2) (Var (120 ∷ k) (at 2))))) (sign_token sign.AmpersandAmpersand (at 3) ∷ behind) =
    Joined {s = sign.LessEqual} refl (Stronger (number_operand 0 (at 0) _)) (name_operand k (at 2) (sign_token sign.AmpersandAmpersand (at 3) ∷ behind)) in
    let high : Spells max_brackets 10 behind (Expr (at 4) (Binary op.Le (Expr (at 4) (Var (120 ∷ k) (at 4))) (number_exp b (at 6)))) [] =
    Joined {s = sign.LessEqual} refl (Stronger (name_operand k (at 4) _)) (number_operand b (at 6) []) in
    Stronger (Stronger (Joined {s = sign.AmpersandAmpersand} refl (Stronger (Stronger (Stronger (Stronger (Stronger low))))) (Stronger (Stronger (Stronger (Stronger high))))))

zero_stands : (rest : List ℕ) → Stands (number 0 0) (32 ∷ rest)
unfolding digits
zero_stands rest = record { found = refl; no_gap = λ fresh. elim fresh as (λ f. gap f (decimal 0 ++ 32 ∷ rest) ≡ Absent) [ true ↦ refl | false ↦ refl ]; one_line = refl }

low_stands : (rest : List ℕ) → Stands (mark 1 (codes "<=") sign.LessEqual) (32 ∷ rest)
low_stands rest = record { found = refl; no_gap = λ fresh. elim fresh as (λ f. gap f (60 ∷ 61 ∷ 32 ∷ rest) ≡ Absent) [ true ↦ refl | false ↦ refl ]; one_line = refl }

and_stands : (rest : List ℕ) → Stands (mark 1 (codes "&&") sign.AmpersandAmpersand) (32 ∷ rest)
and_stands rest = record { found = refl; no_gap = λ fresh. elim fresh as (λ f. gap f (38 ∷ 38 ∷ 32 ∷ rest) ≡ Absent) [ true ↦ refl | false ↦ refl ]; one_line = refl }

module _ (k b : ℕ) (low : k < 2 ^ 31) (small : b < 2 ^ 31) where
  nested : range_text k b ≡ codes "0 <= x" ++ (decimal k ++ (codes " && x" ++ (decimal k ++ (codes " <= " ++ decimal b))))
  unfolding range_text
  nested = simp append_assoc

  text_is : pieces_text (range_pieces k b) ≡ range_text k b
  unfolding digits
  text_is = ap (λ t. codes "0 <= x" ++ (decimal k ++ (codes " && x" ++ (decimal k ++ (codes " <= " ++ t))))) (append-nil (decimal b)) ∙ sym nested

  text_short : length (range_text k b) ≤ 100
  text_short =
      let name : length (decimal k) ≤ 10 = length-decimal-le 10 k (omega arith) (omega arith) (omega arith) in
      let bound : length (decimal b) ≤ 10 = length-decimal-le 10 b (omega arith) (omega arith) (omega arith) in
      let last = codes " <= " ++ decimal b in
      let sizes = length-append (codes " <= ") (decimal b) in
      let sizes_behind = length-append (decimal k) last in
      let sizes_of_rest = length-append (decimal k) (codes " && x" ++ (decimal k ++ last)) in
      let sizes_of_middle = length-append (codes " && x") (decimal k ++ last) in
      let sizes_of_all = length-append (codes "0 <= x") (decimal k ++ (codes " && x" ++ (decimal k ++ last))) in
      let whole = ap length nested in
      omega (arith, whole, name, bound, sizes, sizes_behind, sizes_of_rest, sizes_of_middle, sizes_of_all)

  pieces_stand : PiecesStand (range_pieces k b)
  unfolding digits
  pieces_stand = (
    zero_stands _,
    (low_stands _, (name_stands 1 k 32 _ (omega arith) refl, (and_stands _, (name_stands 1 k 32 _ (omega arith) refl, (low_stands _, (number_ends 1 b (omega arith), tt)))))),
  )

  tokens_read : PlainTokens (range_text k b) (range_tokens (name k) b (range_at k b))
  tokens_read =
      let short = text_short in
      let same = ap length text_is in
      subst (λ t. Reads false start t (line_tokens 1 1 (range_pieces k b)) Whole) text_is (reads_pieces false 1 1 true (range_pieces k b) pieces_stand (omega (arith, short, same)))

  pub range_is : IsWitnessExpression (range_text k b) (range_exp (name k) b (range_at k b))
  range_is = record {
    tokens = range_tokens (name k) b (range_at k b);
    are_tokens = tokens_read;
    spells = range_spelled (decimal k) b (range_at k b);
    low = omega arith;
    effectless = refl;
  }
