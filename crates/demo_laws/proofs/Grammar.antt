-- The loops of a demo are read, one behind another.
use Rattle.std.proofs.Common.{◌≡◌, ℕ, suc, ◌+◌, ◌∙◌, Bool, true, false, List, [], ◌∷◌, ◌++◌, Some, None, codes, refl, sym, ap, append_assoc}
use Rattle.c_core.specs.declared.number.Spot.{Spot}
use Rattle.c_tokens.specs.declared.token.Token.{Token}
use Rattle.c_tokens.specs.declared.token.Punct.TheVariants as sign
use Rattle.c_parser.specs.Signs.{◌>>=◌, is_sign, is_word}
use Rattle.c_parser.specs.Tree.{Stm}
use Rattle.c_parser.specs.ReadExpressions.{Read, level, within}
use Rattle.c_parser.specs.ReadStatements.{elements, statement_level, braced_within, armed_within, header_within, rows_within}
use Rattle.demo_laws.specs.DemoLines.{name, loop_pieces, loops_pieces}
use Rattle.demo_laws.specs.Lines.{Piece, tokens_from}
use Rattle.demo_laws.specs.Shapes.{while_tokens, while_statement, test_tokens, test_statement, declaration_tokens, declaration_statement}
use Rattle.demo_laws.specs.Source.{declared_at, looped_at, tested_at, loop_tokens, loops_tokens, loop_statements, line_behind}

-- a statement of a function's body
abbrev pub one : List Token → Read Stm
one = statement_level 199 (braced_within 199) (armed_within 199) 199 true

while_read : (k : List ℕ) (b : ℕ) (at : ℕ → Spot) (rest : List Token) → one (while_tokens (120 ∷ k) b at ++ rest) ≡ Some (while_statement (120 ∷ k) b at, rest)
unfolding statement_level braced_within header_within rows_within level within
while_read k b at rest = refl

declaration_read : (k : List ℕ) (at : ℕ → Spot) (rest : List Token) → one (declaration_tokens (120 ∷ k) at ++ rest) ≡ Some (declaration_statement (120 ∷ k) at, rest)
unfolding statement_level braced_within header_within rows_within level within
declaration_read k at rest = refl

-- no `else` follows
test_read : (k : List ℕ) (b : ℕ) (at : ℕ → Spot) (rest : List Token) → is_word (codes "else") rest ≡ false →
    one (test_tokens (120 ∷ k) b at ++ rest) ≡ Some (test_statement (120 ∷ k) b at, rest)
unfolding statement_level braced_within header_within rows_within level within
test_read k b at rest other = rw other refl

-- statements before those that are read
unfoldable pub onto : (List Stm → List Stm) → Read (List Stm) → Read (List Stm)
onto f None = None
onto f (Some r) = Some (f r.0, r.1)

-- a statement, and what is read behind it
same : (s : Stm) (o : Read (List Stm)) → (o >>= λ r. Some (s ∷ r.0, r.1)) ≡ onto (λ ss. s ∷ ss) o
unfolding onto
same s None = refl
same s (Some r) = refl

chosen : (n : ℕ) (ts rest : List Token) (s : Stm) (b : Bool) (o : Read Stm) → b ≡ false → o ≡ Some (s, rest) →
    elim b as (λ x. Read (List Stm)) [ true ↦ Some ([], ts) | false ↦ (o >>= λ x. elements one n x.1 >>= λ r. Some (x.0 ∷ r.0, r.1)) ] ≡ onto (λ ss. s ∷ ss) (elements one n rest)
chosen n ts rest s b o e f = rw (e, f) (same s (elements one n rest))

pub one_more : (n : ℕ) (ts rest : List Token) (s : Stm) → is_sign sign.BraceClose ts ≡ false → one ts ≡ Some (s, rest) → elements one (suc n) ts ≡ onto (λ ss. s ∷ ss) (elements one n rest)
one_more n ts rest s e f = chosen n ts rest s (is_sign sign.BraceClose ts) (one ts) e f

thrice : (a b c : Stm) (o : Read (List Stm)) → onto (λ ss. a ∷ ss) (onto (λ ss. b ∷ ss) (onto (λ ss. c ∷ ss) o)) ≡ onto (λ ss. a ∷ b ∷ c ∷ ss) o
unfolding onto
thrice a b c None = refl
thrice a b c (Some r) = refl

pub loop_read : (n l k b : ℕ) (rest : List Token) → is_word (codes "else") rest ≡ false →
    elements one (suc (suc (suc n))) (loop_tokens l k b ++ rest) ≡ onto (loop_statements l k b) (elements one n rest)
loop_read n l k b rest other =
    let tested = test_tokens (name k) b (tested_at (l + 1 + 1 + 1 + 1) k b) ++ rest in
    let looped = while_tokens (name k) b (looped_at (l + 1) k b) ++ tested in
    let declare : Stm = declaration_statement (name k) (declared_at l k) in
    let loop : Stm = while_statement (name k) b (looped_at (l + 1) k b) in
    let test : Stm = test_statement (name k) b (tested_at (l + 1 + 1 + 1 + 1) k b) in
    let first = one_more (suc (suc n)) (declaration_tokens (name k) (declared_at l k) ++ looped) looped declare refl (declaration_read _ (declared_at l k) looped) in
    let second = one_more (suc n) looped tested loop refl (while_read _ b (looped_at (l + 1) k b) tested) in
    let third = one_more n tested rest test refl (test_read _ b (tested_at (l + 1 + 1 + 1 + 1) k b) rest other) in
    first ∙ ap (onto (λ ss. declare ∷ ss)) second ∙ ap (λ o. onto (λ ss. declare ∷ ss) (onto (λ ss. loop ∷ ss) o)) third
    ∙ thrice declare loop test (elements one n rest)

-- the tokens of loops' lines
loop_lexed : (l k b : ℕ) (lines : List (List Piece)) → tokens_from l (loop_pieces k b ++ lines) ≡ loop_tokens l k b ++ tokens_from (l + 1 + 1 + 1 + 1 + 1 + 1 + 1) lines
loop_lexed l k b lines = refl

pub loops_lexed : (l k : ℕ) (bs : List ℕ) (lines : List (List Piece)) → tokens_from l (loops_pieces k bs ++ lines) ≡ loops_tokens l k bs ++ tokens_from (line_behind l bs) lines
loops_lexed l k [] lines = refl
loops_lexed l k (b ∷ bs) lines =
    let m = l + 1 + 1 + 1 + 1 + 1 + 1 + 1 in
    ap (tokens_from l) (append_assoc (loop_pieces k b) (loops_pieces (k + 1) bs) lines) ∙ loop_lexed l k b (loops_pieces (k + 1) bs ++ lines)
    ∙ ap (λ ts. loop_tokens l k b ++ ts) (loops_lexed m (k + 1) bs lines) ∙ sym (append_assoc (loop_tokens l k b) (loops_tokens m (k + 1) bs) (tokens_from (line_behind m bs) lines))
