-- The sources of a demo's programs are read from their tokens.
use Rattle.std.proofs.Common.{◌≡◌, ℕ, suc, ◌+◌, ◌*◌, ◌-◌, ◌≤◌, ◌∙◌, Bool, false, not, nat_eq, List, [], ◌∷◌, ◌++◌, length, Option, Some, None, Result, Ok, Err, codes, refl, sym, ap, subst, arith, length-append}
use Rattle.c_core.specs.declared.number.Spot.{Spot}
use Rattle.c_tokens.specs.declared.token.Token.{Token}
use Rattle.c_tokens.specs.declared.token.Punct.TheVariants as sign
use Rattle.c_parser.specs.Signs.{is_word}
use Rattle.c_parser.specs.Parsing.{Answers, IsFound, source_view}
use Rattle.c_parser.specs.Sources.{IsSource, IsSyntax}
use Rattle.c_parser.specs.Tree.{Stm, Item}
use Rattle.c_parser.specs.ReadExpressions.{Read, level, within}
use Rattle.c_parser.specs.ReadItems.{Outcome, Source, Syntax, onto_outcome, read_item, read_items}
use Rattle.c_parser.specs.ReadStatements.{elements, statement_level, braced_within, header_within, rows_within}
use Rattle.c_parser.specs.declared.item.Source.{Source as Parsed}
use Rattle.c_parser.specs.declared.fault.ParseFault.{ParseFault}
use Rattle.c_parser.specs.declared.fault.ParseFault.TheVariants.{Syntax as Refused, OutOfMemory}
use Rattle.c_parser.proofs.ParsingLaws.{all_found}
use Rattle.demo_laws.specs.DemoLines.{closing_pieces, input_pieces, correct_pieces, faulty_pieces}
use Rattle.demo_laws.specs.Lines.{tokens_from}
use Rattle.demo_laws.specs.Shapes.{word, mark, end_tokens, return_statement, input_tokens, input_statement, chosen_tokens, chosen_statement, reach_tokens, prototype_tokens, prototype_item, main_tokens, main_item}
use Rattle.demo_laws.specs.Source.{loops_tokens, loops_statements, line_behind, ended_at, drawn_at, chosen_at, reached_at, prototype_at, main_at, correct_end, faulty_end, correct_last, faulty_last, program_tokens, program_items, correct_items, faulty_items}
use Rattle.demo_laws.proofs.Bodies.{loops_read, loops_size}
use Rattle.demo_laws.proofs.Grammar.{one, one_more, onto, loops_lexed}

-- ---- the statements behind the loops

end_read : (at : ℕ → Spot) → one (end_tokens at) ≡ Some (return_statement at, mark sign.BraceClose (at 3) ∷ [])
unfolding statement_level braced_within header_within rows_within level within
end_read at = refl

input_read : (at : ℕ → Spot) (rest : List Token) → one (input_tokens at ++ rest) ≡ Some (input_statement at, rest)
unfolding statement_level braced_within header_within rows_within level within
input_read at rest = refl

chosen_read : (n : ℕ) (d : Bool) (at : ℕ → Spot) (rest : List Token) → is_word (codes "else") rest ≡ false → one (chosen_tokens n d at ++ rest) ≡ Some (chosen_statement n d at, rest)
unfolding statement_level braced_within header_within rows_within level within
chosen_read n d at rest other = rw other refl

-- nothing stands before the brace that closes
none_read : (m : ℕ) (p : Spot) → elements one (suc m) (mark sign.BraceClose p ∷ []) ≡ Some ([], mark sign.BraceClose p ∷ [])
none_read m p = refl

ends_read : (m : ℕ) (at : ℕ → Spot) → elements one (suc (suc m)) (end_tokens at) ≡ Some (return_statement at ∷ [], mark sign.BraceClose (at 3) ∷ [])
unfolding onto
ends_read m at =
    one_more (suc m) (end_tokens at) (mark sign.BraceClose (at 3) ∷ []) (return_statement at) refl (end_read at)
    ∙ ap (onto (λ ss. return_statement at ∷ ss)) (none_read m (at 3))

input_ends_read : (m n : ℕ) (d : Bool) (a b c : ℕ → Spot) →
    elements one (suc (suc (suc (suc m)))) (input_tokens a ++ (chosen_tokens n d b ++ end_tokens c))
    ≡ Some (input_statement a ∷ chosen_statement n d b ∷ return_statement c ∷ [], mark sign.BraceClose (c 3) ∷ [])
unfolding onto
input_ends_read m n d a b c =
    one_more (suc (suc (suc m))) (input_tokens a ++ (chosen_tokens n d b ++ end_tokens c)) (chosen_tokens n d b ++ end_tokens c) (input_statement a) refl (input_read a (chosen_tokens n d b ++ end_tokens c))
    ∙ ap (onto (λ ss. input_statement a ∷ ss)) (one_more (suc (suc m)) (chosen_tokens n d b ++ end_tokens c) (end_tokens c) (chosen_statement n d b) refl (chosen_read n d b (end_tokens c) refl))
    ∙ ap (λ o. onto (λ ss. input_statement a ∷ ss) (onto (λ ss. chosen_statement n d b ∷ ss) o)) (ends_read m c)

-- ---- the body of main

-- what stands behind the loops is read as these statements
record Ends (end : List Token) (last : List Stm) (p : Spot) : Type 0 where
  other : is_word (codes "else") end ≡ false
  long : 4 ≤ length end
  read : (m : ℕ) → elements one (suc (suc (suc (suc m)))) end ≡ Some (last, mark sign.BraceClose p ∷ [])

body_read : (bs : List ℕ) (end : List Token) (last : List Stm) (p : Spot) → Ends end last p →
    elements one (length (loops_tokens 4 1 bs ++ end)) (loops_tokens 4 1 bs ++ end) ≡ Some (loops_statements 4 1 bs last, mark sign.BraceClose p ∷ [])
body_read bs end last p h =
    let m : ℕ = 28 * length bs + (length end - 4) in
    let size = loops_size 4 1 bs in
    let long = h.long in
    let fuel : length (loops_tokens 4 1 bs ++ end) ≡ 3 * length bs + suc (suc (suc (suc m))) = length-append (loops_tokens 4 1 bs) end ∙ omega (arith, size, long) in
    ap (λ f. elements one f (loops_tokens 4 1 bs ++ end)) fuel ∙ loops_read (suc (suc (suc (suc m)))) 4 1 bs end last (mark sign.BraceClose p ∷ []) h.other (h.read m)

-- ---- items

reach_read : (at : ℕ → Spot) (rest : List Token) → read_item 200 200 (reach_tokens at ++ rest) ≡ Some (None, rest)
reach_read at rest = refl

prototype_read : (at : ℕ → Spot) (rest : List Token) → read_item 200 200 (prototype_tokens at ++ rest) ≡ Some (Some (prototype_item at), rest)
prototype_read at rest = refl

braced : (ts : List Token) → braced_within 200 199 ts ≡ elements one (length ts) ts
unfolding braced_within
braced ts = refl

main_read : (at : ℕ → Spot) (body : List Token) (ss : List Stm) (p : Spot) → elements one (length body) body ≡ Some (ss, mark sign.BraceClose p ∷ []) →
    read_item 200 200 (main_tokens at ++ body) ≡ Some (Some (main_item at ss), [])
unfolding braced_within
main_read at body ss p h = let e : braced_within 200 199 body ≡ Some (ss, mark sign.BraceClose p ∷ []) = braced body ∙ h in rw e refl

-- an item, and those behind it
item_read : (n : ℕ) (t : Token) (ts rest : List Token) (x : Option Item) → read_item 200 200 (t ∷ ts) ≡ Some (x, rest) → read_items 200 200 (suc n) (t ∷ ts) ≡ onto_outcome x (read_items 200 200 n rest)
item_read n t ts rest x e = ap (λ o. elim o as (λ (o : Read (Option Item)). Outcome) [ None ↦ Syntax t.spot | Some r ↦ onto_outcome r.0 (read_items 200 200 n r.1) ]) e

no_item : (n : ℕ) → read_items 200 200 n [] ≡ Source []
no_item n = refl

-- the tokens behind the first
abbrev rest_of : List Token → List Token
rest_of [] = []
rest_of (t ∷ ts) = ts

items_read : (n : ℕ) (body : List Token) (ss : List Stm) (p : Spot) → elements one (length body) body ≡ Some (ss, mark sign.BraceClose p ∷ []) →
    read_items 200 200 (suc (suc (suc n))) (reach_tokens reached_at ++ (prototype_tokens prototype_at ++ (main_tokens main_at ++ body)))
    ≡ Source (prototype_item prototype_at ∷ main_item main_at ss ∷ [])
items_read n body ss p h =
    let behind_main = main_tokens main_at ++ body in
    let behind_reach = prototype_tokens prototype_at ++ behind_main in
    let main : read_items 200 200 (suc n) behind_main ≡ Source (main_item main_at ss ∷ []) =
    item_read n (word (codes "int") (main_at 0)) (rest_of (main_tokens main_at) ++ body) [] (Some (main_item main_at ss)) (main_read main_at body ss p h)
    ∙ ap (onto_outcome (Some (main_item main_at ss))) (no_item n) in
    item_read (suc (suc n)) (word (codes "void") (reached_at 0)) (rest_of (reach_tokens reached_at) ++ behind_reach) behind_reach None (reach_read reached_at behind_reach)
    ∙ item_read (suc n) (word (codes "int") (prototype_at 0)) (rest_of (prototype_tokens prototype_at) ++ behind_main) behind_main (Some (prototype_item prototype_at)) (prototype_read prototype_at behind_main)
    ∙ ap (onto_outcome (Some (prototype_item prototype_at))) main

program_read : (bs : List ℕ) (end : List Token) (last : List Stm) (p : Spot) → Ends end last p → IsSource (program_tokens bs end) (program_items bs last)
program_read bs end last p h =
    let body = loops_tokens 4 1 bs ++ end in
    let ss = loops_statements 4 1 bs last in
    let fuel : length (program_tokens bs end) ≡ suc (suc (suc (13 + length body))) = omega arith in
    all_found (program_items bs last) 0 (program_tokens bs end) [] refl
    (sym (ap (λ n. read_items 200 200 n (program_tokens bs end)) fuel ∙ items_read (13 + length body) body ss p (body_read bs end last p h)))

-- ---- both programs

correct_ends : (l : ℕ) → Ends (correct_end l) (correct_last l) (ended_at l 3)
correct_ends l = record { other = refl; long = omega arith; read = λ m. ends_read (suc (suc m)) (ended_at l) }

faulty_ends : (l n : ℕ) → Ends (faulty_end l n) (faulty_last l n) (ended_at (l + 1 + 1 + 1 + 1) 3)
faulty_ends l n = record {
  other = refl;
  long = omega arith;
  read = λ m. input_ends_read m n (not (nat_eq n 0)) (drawn_at l) (chosen_at (l + 1) n) (ended_at (l + 1 + 1 + 1 + 1));
}

-- the lines of a program are these tokens
correct_lexed : (bs : List ℕ) → tokens_from 1 (correct_pieces bs) ≡ program_tokens bs (correct_end (line_behind 4 bs))
correct_lexed bs = ap (λ ts. reach_tokens reached_at ++ (prototype_tokens prototype_at ++ (main_tokens main_at ++ ts))) (loops_lexed 4 1 bs closing_pieces)

faulty_lexed : (n : ℕ) (bs : List ℕ) → tokens_from 1 (faulty_pieces n bs) ≡ program_tokens bs (faulty_end (line_behind 4 bs) n)
faulty_lexed n bs = ap (λ ts. reach_tokens reached_at ++ (prototype_tokens prototype_at ++ (main_tokens main_at ++ ts))) (loops_lexed 4 1 bs (input_pieces n ++ closing_pieces))

pub correct_source : (bs : List ℕ) → IsSource (tokens_from 1 (correct_pieces bs)) (correct_items bs)
correct_source bs =
    subst (λ ts. IsSource ts (correct_items bs)) (sym (correct_lexed bs))
    (program_read bs (correct_end (line_behind 4 bs)) (correct_last (line_behind 4 bs)) _ (correct_ends (line_behind 4 bs)))

pub faulty_source : (n : ℕ) (bs : List ℕ) → IsSource (tokens_from 1 (faulty_pieces n bs)) (faulty_items n bs)
faulty_source n bs =
    subst (λ ts. IsSource ts (faulty_items n bs)) (sym (faulty_lexed n bs))
    (program_read bs (faulty_end (line_behind 4 bs) n) (faulty_last (line_behind 4 bs) n) _ (faulty_ends (line_behind 4 bs) n))

-- ---- what the parser answers

-- tokens spell one source
abbrev pub OneSource : Type 0
OneSource = (ts : List Token) (xs ys : List Item) → IsSource ts xs → IsSource ts ys → xs ≡ ys

-- tokens that spell a source have no first item that fits no form
abbrev pub SourceOrSyntax : Type 0
SourceOrSyntax = (ts : List Token) (xs : List Item) (p : Spot) → IsSource ts xs → IsSyntax ts p → ⊥

pub found_by : OneSource → SourceOrSyntax → (ts : List Token) (xs : List Item) → IsSource ts xs → (answer : Result Parsed ParseFault) → Answers ts answer → IsFound answer xs
found_by one either ts xs is (Ok s) found = one ts (source_view s) xs found is
found_by one either ts xs is (Err (Refused line column)) found = either ts xs (record { line = line; column = column }) is found
found_by one either ts xs is (Err OutOfMemory) found = tt

pub correct_found : OneSource → SourceOrSyntax → (bs : List ℕ) (answer : Result Parsed ParseFault) → Answers (tokens_from 1 (correct_pieces bs)) answer → IsFound answer (correct_items bs)
correct_found one either bs = found_by one either (tokens_from 1 (correct_pieces bs)) (correct_items bs) (correct_source bs)

pub faulty_found : OneSource → SourceOrSyntax → (n : ℕ) (bs : List ℕ) (answer : Result Parsed ParseFault) → Answers (tokens_from 1 (faulty_pieces n bs)) answer → IsFound answer (faulty_items n bs)
faulty_found one either n bs = found_by one either (tokens_from 1 (faulty_pieces n bs)) (faulty_items n bs) (faulty_source n bs)
