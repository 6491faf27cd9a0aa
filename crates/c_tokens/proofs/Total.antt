-- Each text has an outcome.
use Rattle.std.proofs.Common.{◌≡◌, ◌≤◌, ◌+◌, ℕ, zero, suc, Bool, true, false, cond, List, [], ◌∷◌, length, take, drop, Option, Some, None, refl, subst, arith, ◌==◌, ◌||◌, ◌&&◌}
use Rattle.std.proofs.lemmas.List.{length-drop}
use Rattle.c_tokens.specs.declared.token.Token.{Token}
use Rattle.c_tokens.specs.declared.token.TokenKind.{TokenKind}
use Rattle.c_tokens.specs.declared.gap.Gap.{Gap}
use Rattle.c_tokens.specs.declared.gap.Gap.TheVariants.{Space, Refused, Unclosed, Absent}
use Rattle.c_tokens.specs.declared.place.Place.{Place}
use Rattle.c_tokens.specs.Bytes.{is_blank, line_feed, form_feed, carriage_return, hash, slash, star}
use Rattle.c_tokens.specs.Gaps.{begins_with, line_length, close_length, closed, comment, is_passed_over, directive, gap}
use Rattle.c_tokens.specs.Scan.{scan}
use Rattle.c_tokens.specs.Reading.{Ending, Whole, NoToken, BadDirective, start, past, token, Reads, AtEnd, Between, AToken, RefusedDirective, UnclosedComment, BadNumber, BadByte, Tokens}
use Rattle.c_tokens.proofs.Scanned.{longest_found, none_found, found_within}

-- a gap takes a byte at least
Taking : Gap → Type 0
Taking (Space n) = 1 ≤ n
Taking Refused = Unit {0}
Taking Unclosed = Unit {0}
Taking Absent = Unit {0}

directive_takes : (text : List ℕ) (over : Bool) → Taking (cond over (Space (line_length text + 1)) Refused)
unfolding Taking
directive_takes text true = omega arith
directive_takes text false = tt

closed_takes : (n : Option ℕ) → Taking (closed n)
unfolding Taking
closed_takes None = tt
closed_takes (Some n) = omega arith

comment_case : (text : List ℕ) (line block : Bool) → Taking (cond line (Space (line_length text + 2)) (cond block (closed (close_length text)) Absent))
unfolding Taking
comment_case text true block = omega arith
comment_case text false true = closed_takes (close_length text)
comment_case text false false = tt

comment_takes : (text : List ℕ) → Taking (comment text)
unfolding Taking
comment_takes [] = tt
comment_takes (b ∷ text) = comment_case text (b == slash) (b == star)

gap_case : (text : List ℕ) (blank line sharp begun : Bool) → Taking (cond blank (Space 1) (cond line (Space 2) (cond sharp (directive text) (cond begun (comment text) Absent))))
unfolding Taking
gap_case text true line sharp begun = omega arith
gap_case text false true sharp begun = omega arith
gap_case text false false true begun = directive_takes text (is_passed_over text)
gap_case text false false false true = comment_takes text
gap_case text false false false false = tt

gap_takes : (fresh : Bool) (text : List ℕ) (g : Gap) → gap fresh text ≡ g → Taking g
unfolding Taking
gap_takes fresh [] g e = subst Taking e tt
gap_takes fresh (b ∷ text) g e =
    subst Taking e (gap_case text (is_blank b || ((b == line_feed) || (b == form_feed))) ((b == carriage_return) && begins_with line_feed text) (fresh && (b == hash)) (b == slash))

-- some tokens and some ending
Some_reading : Place → List ℕ → Type 0
Some_reading at text = (ts : List Token) × ((end : Ending) × Reads true at text ts end)

reading_case : (fuel : ℕ) → ((at : Place) (text : List ℕ) → length text ≤ fuel → Some_reading at text) → (at : Place) (b : ℕ) (text : List ℕ) → length (b ∷ text) ≤ suc fuel →
    (g : Gap) → gap at.fresh (b ∷ text) ≡ g → (found : Option (ℕ × Option TokenKind)) → scan (b ∷ text) ≡ found → Some_reading at (b ∷ text)
unfolding Taking Some_reading
reading_case fuel again at b text size (Space n) e found s =
    let some : 1 ≤ n = gap_takes at.fresh (b ∷ text) (Space n) e in
    let left = length-drop n (b ∷ text) in
    let later = again (past at (take n (b ∷ text))) (drop n (b ∷ text)) (omega (arith, left)) in
    (later.0, (later.1.0, Between e later.1.1))
reading_case fuel again at b text size Refused e found s = ([], (BadDirective at.spot.line, RefusedDirective e))
reading_case fuel again at b text size Unclosed e found s = ([], (NoToken at.spot, UnclosedComment e))
reading_case fuel again at b text size Absent e None s = ([], (NoToken at.spot, BadByte e (none_found (b ∷ text) s)))
reading_case fuel again at b text size Absent e (Some (n, None)) s = ([], (NoToken at.spot, BadNumber e (longest_found (b ∷ text) n None s)))
reading_case fuel again at b text size Absent e (Some (n, Some kind)) s =
    let some = (found_within (b ∷ text) n (Some kind) s).0 in
    let left = length-drop n (b ∷ text) in
    let later = again (past at (take n (b ∷ text))) (drop n (b ∷ text)) (omega (arith, left, some)) in
    (token kind at ∷ later.0, (later.1.0, AToken e (longest_found (b ∷ text) n (Some kind) s) later.1.1))

some_reading : (fuel : ℕ) (at : Place) (text : List ℕ) → length text ≤ fuel → Some_reading at text
unfolding Some_reading
some_reading fuel at [] size = ([], (Whole, AtEnd))
some_reading zero at (b ∷ text) size = absurd (omega arith)
some_reading (suc fuel) at (b ∷ text) size = reading_case fuel (some_reading fuel) at b text size (gap at.fresh (b ∷ text)) refl (scan (b ∷ text)) refl

pub some_outcome : (text : List ℕ) → (ts : List Token) × ((end : Ending) × Tokens text ts end)
unfolding Some_reading
some_outcome text = some_reading (length text) start text (omega arith)
