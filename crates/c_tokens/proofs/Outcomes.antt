-- A text has one outcome.
use Rattle.std.proofs.Common.{◌≡◌, ◌∙◌, ℕ, Bool, true, ◌&&◌, List, [], ◌∷◌, ◌++◌, length, take, drop, Option, Some, None, Result, Ok, Err, refl, sym, ap, subst}
use Rattle.std.proofs.Math.Seq.{take-append_seam, drop-append_seam}
use Rattle.c_tokens.specs.declared.token.Token.{Token}
use Rattle.c_tokens.specs.declared.token.TokenKind.{TokenKind}
use Rattle.c_tokens.specs.declared.token.TokenFault.{TokenFault}
use Rattle.c_tokens.specs.declared.token.TokenFault.TheVariants.{Token as TokenAt, Directive, OutOfMemory}
use Rattle.c_tokens.specs.declared.gap.Gap.{Gap}
use Rattle.c_tokens.specs.declared.gap.Gap.TheVariants.{Space, Refused, Unclosed, Absent}
use Rattle.c_tokens.specs.declared.place.Place.{Place}
use Rattle.c_tokens.specs.Gaps.{gap}
use Rattle.c_tokens.specs.Pieces.{NoPiece}
use Rattle.c_tokens.specs.Scan.{scan}
use Rattle.c_tokens.specs.Reading.{Ending, Whole, NoToken, BadDirective, past, token, Reads, AtEnd, Between, AToken, RefusedDirective, UnclosedComment, BadNumber, BadByte, Tokens, start, AnswersFrom, IsOutcome}
use Rattle.c_tokens.proofs.Scanned.{found_longest, longest_found}

-- what is left of a reading behind its first step
Behind : Bool → Gap → Option (ℕ × Option TokenKind) → Place → List ℕ → List Token → Ending → Type 0
Behind d (Space n) found at text ts end = Reads d (past at (take n text)) (drop n text) ts end
Behind d Refused found at text ts end = (ts ≡ []) × (end ≡ BadDirective at.spot.line)
Behind d Unclosed found at text ts end = (ts ≡ []) × (end ≡ NoToken at.spot)
Behind d Absent (Some (n, Some kind)) at text ts end = (us : List Token) × ((ts ≡ token kind at ∷ us) × Reads d (past at (take n text)) (drop n text) us end)
Behind d Absent (Some (n, None)) at text ts end = (ts ≡ []) × (end ≡ NoToken at.spot)
Behind d Absent None at [] ts end = (ts ≡ []) × (end ≡ Whole)
Behind d Absent None at (b ∷ text) ts end = (ts ≡ []) × (end ≡ NoToken at.spot)

same_place : (d : Bool) (w text rest : List ℕ) (at : Place) (ts : List Token) (end : Ending) → text ≡ w ++ rest →
    Reads d (past at w) rest ts end → Reads d (past at (take (length w) text)) (drop (length w) text) ts end
same_place d w text rest at ts end parts r =
    let front : take (length w) text ≡ w = ap (take (length w)) parts ∙ take-append_seam w rest in
    let behind : drop (length w) text ≡ rest = ap (drop (length w)) parts ∙ drop-append_seam w rest in
    rw (front, behind) r

no_scan : (b : ℕ) (text : List ℕ) → NoPiece (b ∷ text) → (found : Option (ℕ × Option TokenKind)) → scan (b ∷ text) ≡ found → found ≡ None
no_scan b text none None e = refl
no_scan b text none (Some (n, kind)) e =
    let long = longest_found (b ∷ text) n kind e in
    absurd (none (take n (b ∷ text)) kind (drop n (b ∷ text)) long.piece long.parts)

behind : {d : Bool} {at : Place} {text : List ℕ} {ts : List Token} {end : Ending} → Reads d at text ts end → Behind d (gap (d && at.fresh) text) (scan text) at text ts end
unfolding Behind
behind AtEnd = (refl, refl)
behind (Between e d) = rw e d
behind {d = d} (AToken {at = at} {w = w} {text = text} {rest = rest} {ts = ts} {end = end} e long c) =
    rw (e, found_longest long) (ts, (refl, same_place d w text rest at ts end long.parts c))
behind (RefusedDirective e) = rw e (refl, refl)
behind (UnclosedComment e) = rw e (refl, refl)
behind (BadNumber e long) = rw (e, found_longest long) (refl, refl)
behind (BadByte {b = b} {text = text} e none) = rw (e, no_scan b text none (scan (b ∷ text)) refl) (refl, refl)

-- one list of tokens and one ending
pub One : List Token → Ending → List Token → Ending → Type 0
One ts end us other = (ts ≡ us) × (end ≡ other)

-- what the second reading has behind its first step, where the first step is known
second : {d : Bool} {at : Place} {text : List ℕ} {ts : List Token} {end : Ending} (g : Gap) (found : Option (ℕ × Option TokenKind)) → gap (d && at.fresh) text ≡ g → scan text ≡ found →
    Reads d at text ts end → Behind d g found at text ts end
second {d = d} {at = at} {text = text} {ts = ts} {end = end} g found eg ef r =
    subst (λ x. Behind d x found at text ts end) eg (subst (λ x. Behind d (gap (d && at.fresh) text) x at text ts end) ef (behind r))

stops : {ts us : List Token} {end other last : Ending} → (ts ≡ []) × (end ≡ last) → (us ≡ []) × (other ≡ last) → One ts end us other
unfolding One
stops a b = (a.0 ∙ sym b.0, a.1 ∙ sym b.1)

one_outcome : {d : Bool} {at : Place} {text : List ℕ} {ts us : List Token} {end other : Ending} → Reads d at text ts end → Reads d at text us other → One ts end us other
unfolding Behind One
one_outcome AtEnd d = let b = behind d in (sym b.0, sym b.1)
one_outcome (Between {text = text} {n = n} e c) d = one_outcome c (second (Space n) (scan text) e refl d)
one_outcome (AToken {at = at} {w = w} {text = text} {rest = rest} {kind = kind} e long c) d =
    let b = second Absent (Some (length w, Some kind)) e (found_longest long) d in
    let front : take (length w) text ≡ w = ap (take (length w)) long.parts ∙ take-append_seam w rest in
    let left : drop (length w) text ≡ rest = ap (drop (length w)) long.parts ∙ drop-append_seam w rest in
    let again = one_outcome c (rw (front, left) at b.1.1) in
    (ap (λ l. token kind at ∷ l) again.0 ∙ sym b.1.0, again.1)
one_outcome (RefusedDirective {text = text} e) d = let b = second Refused (scan text) e refl d in (sym b.0, sym b.1)
one_outcome (UnclosedComment {text = text} e) d = let b = second Unclosed (scan text) e refl d in (sym b.0, sym b.1)
one_outcome (BadNumber {w = w} e long) d = let b = second Absent (Some (length w, None)) e (found_longest long) d in (sym b.0, sym b.1)
one_outcome (BadByte {b = b} {text = text} e none) d =
    let c = second Absent None e (no_scan b text none (scan (b ∷ text)) refl) d in (sym c.0, sym c.1)

pub one_reading_from : (d : Bool) (at : Place) (text : List ℕ) (ts us : List Token) (end other : Ending) → Reads d at text ts end → Reads d at text us other → (ts ≡ us) × (end ≡ other)
unfolding One
one_reading_from d at text ts us end other c r = one_outcome c r

pub one_reading : (text : List ℕ) (ts us : List Token) (end other : Ending) → Tokens text ts end → Tokens text us other → (ts ≡ us) × (end ≡ other)
one_reading = one_reading_from true start

-- the answer that the text bears out is its one outcome
pub only : (directives : Bool) (at : Place) (text : List ℕ) (result : Result (List Token) TokenFault) → AnswersFrom directives at text result →
    (ts : List Token) (end : Ending) → Reads directives at text ts end → IsOutcome result ts end
only d at text (Ok found) answer ts end r = let one = one_reading_from d at text found ts Whole end answer r in (one.0, sym one.1)
only d at text (Err (TokenAt line column)) answer ts end r = sym (one_reading_from d at text answer.0 ts (NoToken (record { line = line; column = column })) end answer.1 r).1
only d at text (Err (Directive line)) answer ts end r = sym (one_reading_from d at text answer.0 ts (BadDirective line) end answer.1 r).1
only d at text (Err OutOfMemory) answer ts end r = tt
