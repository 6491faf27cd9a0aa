-- A text has at most as many tokens as bytes.
use Rattle.std.proofs.Common.{◌≡◌, ◌≤◌, ◌+◌, ◌∙◌, ℕ, Bool, true, List, length, take, drop, Some, ap, arith, length-append}
use Rattle.std.proofs.lemmas.List.{length-drop}
use Rattle.c_tokens.specs.declared.place.Place.{Place}
use Rattle.c_tokens.specs.declared.token.Token.{Token}
use Rattle.c_tokens.specs.Reading.{past, start, Ending, Reads, AtEnd, Between, AToken, RefusedDirective, UnclosedComment, BadNumber, BadByte, Tokens}
use Rattle.c_tokens.proofs.Scanned.{found_longest, found_within}

read_few : (directives : Bool) (at : Place) (text : List ℕ) (ts : List Token) (end : Ending) → Reads directives at text ts end → length ts ≤ length text
read_few directives at text ts end AtEnd = omega arith
read_few directives at text ts end (Between {n = n} g d) =
    let left = length-drop n text in
    let more = read_few directives (past at (take n text)) (drop n text) ts end d in
    omega (arith, left, more)
read_few directives at text ts end (AToken {w = w} {rest = rest} {kind} {ts = us} g piece d) =
    let parts : length text ≡ length w + length rest = ap length piece.parts ∙ length-append w rest in
    let some = (found_within text (length w) (Some kind) (found_longest piece)).0 in
    let more = read_few directives (past at w) rest us end d in
    omega (arith, parts, some, more)
read_few directives at text ts end (RefusedDirective g) = omega arith
read_few directives at text ts end (UnclosedComment g) = omega arith
read_few directives at text ts end (BadNumber g l) = omega arith
read_few directives at text ts end (BadByte g n) = omega arith

pub tokens_few : (text : List ℕ) (ts : List Token) (end : Ending) → Tokens text ts end → length ts ≤ length text
tokens_few text ts end d = read_few true start text ts end d
