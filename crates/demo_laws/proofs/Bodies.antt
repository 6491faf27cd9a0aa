-- The bodies of a demo's programs are read, and their sources.
use Rattle.std.proofs.Common.{◌≡◌, ℕ, suc, ◌+◌, ◌*◌, ◌∙◌, false, List, [], ◌∷◌, ◌++◌, length, Some, codes, refl, ap, arith, append_assoc, length-append}
use Rattle.c_tokens.specs.declared.token.Token.{Token}
use Rattle.c_parser.specs.Signs.{is_word}
use Rattle.c_parser.specs.Tree.{Stm}
use Rattle.c_parser.specs.ReadStatements.{elements}
use Rattle.demo_laws.specs.Source.{loop_tokens, loops_tokens, loop_statements, loops_statements}
use Rattle.demo_laws.proofs.Grammar.{one, onto, loop_read}

-- what follows loops is no `else`
behind_no_else : (l k : ℕ) (bs : List ℕ) (rest : List Token) → is_word (codes "else") rest ≡ false → is_word (codes "else") (loops_tokens l k bs ++ rest) ≡ false
behind_no_else l k [] rest other = other
behind_no_else l k (b ∷ bs) rest other = refl

pub loops_read : (n l k : ℕ) (bs : List ℕ) (rest : List Token) (ss : List Stm) (left : List Token) → is_word (codes "else") rest ≡ false → elements one n rest ≡ Some (ss, left) →
    elements one (3 * length bs + n) (loops_tokens l k bs ++ rest) ≡ Some (loops_statements l k bs ss, left)
unfolding onto
loops_read n l k [] rest ss left other read = let none : 3 * 0 + n ≡ n = omega arith in ap (λ m. elements one m rest) none ∙ read
loops_read n l k (b ∷ bs) rest ss left other read =
    let m = l + 1 + 1 + 1 + 1 + 1 + 1 + 1 in
    let fuel : 3 * length (b ∷ bs) + n ≡ suc (suc (suc (3 * length bs + n))) = omega arith in
    let tail = loops_tokens m (k + 1) bs ++ rest in
    let more = loops_read n m (k + 1) bs rest ss left other read in
    ap (λ ts. elements one (3 * length (b ∷ bs) + n) ts) (append_assoc (loop_tokens l k b) (loops_tokens m (k + 1) bs) rest)
    ∙ ap (λ f. elements one f (loop_tokens l k b ++ tail)) fuel
    ∙ loop_read (3 * length bs + n) l k b tail (behind_no_else m (k + 1) bs rest other)
    ∙ ap (onto (loop_statements l k b)) more

-- each loop has 31 tokens
loop_size : (l k b : ℕ) → length (loop_tokens l k b) ≡ 31
loop_size l k b = refl

pub loops_size : (l k : ℕ) (bs : List ℕ) → length (loops_tokens l k bs) ≡ 31 * length bs
loops_size l k [] = refl
loops_size l k (b ∷ bs) =
    let m = l + 1 + 1 + 1 + 1 + 1 + 1 + 1 in
    let size = loops_size m (k + 1) bs in
    length-append (loop_tokens l k b) (loops_tokens m (k + 1) bs) ∙ omega (arith, size)
