-- A step of the scanner is a step of the reading.
use Rattle.std.proofs.Common.{◌≡◌, ◌≤◌, ◌∙◌, ℕ, Bool, ◌&&◌, List, [], ◌∷◌, ◌++◌, length, take, drop, Option, Some, None, Ok, Err, refl, sym, ap, subst, arith, inl, inr, ◌⊎◌, append_assoc, append-nil}
use Rattle.std.specs.Option.{option_to_list}
use Rattle.c_tokens.specs.declared.token.Token.{Token}
use Rattle.c_tokens.specs.declared.token.TokenKind.{TokenKind}
use Rattle.c_tokens.specs.declared.token.TokenFault.{TokenFault}
use Rattle.c_tokens.specs.declared.token.TokenFault.TheVariants.{Token as TokenAt, Directive, OutOfMemory}
use Rattle.c_tokens.specs.declared.gap.Gap.TheVariants.{Unclosed, Absent}
use Rattle.c_tokens.specs.declared.place.Place.{Place}
use Rattle.c_tokens.specs.Gaps.{gap}
use Rattle.c_tokens.specs.Scan.{scan, good, Steps, seen}
use Rattle.c_tokens.specs.Reading.{Ending, Whole, NoToken, BadDirective, past, token, Reads, AtEnd, Between, AToken, RefusedDirective, UnclosedComment, BadNumber, BadByte, AnswersFrom}
use Rattle.c_tokens.proofs.Choices.{some_pair}
use Rattle.c_tokens.proofs.Scanned.{longest_found, none_found, found_within}

pub good_found : (found : Option (ℕ × Option TokenKind)) (n : ℕ) (kind : TokenKind) → good found ≡ Some (n, kind) → found ≡ Some (n, Some kind)
good_found None n kind e = absurd (cc)
good_found (Some (m, None)) n kind e = absurd (cc)
good_found (Some (m, Some other)) n kind e =
    let same = some_pair e in ap (λ x. Some (x, Some other)) same.0 ∙ ap (λ x. Some (n, Some x)) same.1

pub good_within : (text : List ℕ) (n : ℕ) (kind : TokenKind) → good (scan text) ≡ Some (n, kind) → (1 ≤ n) × (n ≤ length text)
good_within text n kind e = found_within text n (Some kind) (good_found (scan text) n kind e)

-- a gap or a token, and what is read behind it
pub step_on : (directives : Bool) (at : Place) (text : List ℕ) (n : ℕ) (t : Option Token) → Steps (seen directives at) text (Ok (n, t)) → (ts : List Token) (end : Ending) →
    Reads directives (past at (take n text)) (drop n text) ts end → Reads directives at text (option_to_list t ++ ts) end
step_on directives at text n None h ts end d = Between h.0 d
step_on directives at text n (Some t) h ts end d =
    let long = longest_found text n (Some t.kind) (good_found (scan text) n t.kind h.1.0) in
    let same : token t.kind at ≡ t = ap (λ s. record { kind = t.kind; spot = s }) (sym h.1.1.0) in
    subst (λ x. Reads directives at text (x ∷ ts) end) same (AToken h.0 long d)

bad_scan : (directives : Bool) (at : Place) (text : List ℕ) → 1 ≤ length text → gap (directives && at.fresh) text ≡ Absent → (found : Option (ℕ × Option TokenKind)) → scan text ≡ found → good found ≡ None → Reads directives at text [] (NoToken at.spot)
bad_scan directives at [] some e found s bad = absurd (omega arith)
bad_scan directives at (b ∷ text) some e None s bad = BadByte e (none_found (b ∷ text) s)
bad_scan directives at (b ∷ text) some e (Some (n, None)) s bad = BadNumber e (longest_found (b ∷ text) n None s)
bad_scan directives at (b ∷ text) some e (Some (n, Some kind)) s bad = absurd (cc)

no_token : (directives : Bool) (at : Place) (text : List ℕ) → 1 ≤ length text → (gap (directives && at.fresh) text ≡ Unclosed) ⊎ ((gap (directives && at.fresh) text ≡ Absent) × (good (scan text) ≡ None)) → Reads directives at text [] (NoToken at.spot)
no_token directives at text some (inl e) = UnclosedComment e
no_token directives at text some (inr e) = bad_scan directives at text some e.0 (scan text) refl e.1

-- a refusal at a place, and the tokens before it
pub refused : (directives : Bool) (from : Place) (text : List ℕ) (found : List Token) (at : Place) (rest : List ℕ) (fault : TokenFault) →
    ((ts : List Token) (end : Ending) → Reads directives at rest ts end → Reads directives from text (found ++ ts) end) → 1 ≤ length rest → Steps (seen directives at) rest (Err fault) → AnswersFrom directives from text (Err fault)
refused directives from text found at rest (TokenAt line column) continued some h =
    let there : NoToken at.spot ≡ NoToken (record { line = line; column = column }) =
    ap (λ l. NoToken (record { line = l; column = at.spot.column })) (sym h.0) ∙ ap (λ c. NoToken (record { line = line; column = c })) (sym h.1.0) in
    (found ++ [], continued [] (NoToken (record { line = line; column = column })) (subst (Reads directives at rest []) there (no_token directives at rest some h.1.1)))
refused directives from text found at rest (Directive line) continued some h =
    (found ++ [], continued [] (BadDirective line) (subst (Reads directives at rest []) (ap BadDirective (sym h.0)) (RefusedDirective h.1)))
refused directives from text found at rest OutOfMemory continued some h = tt

-- one more gap or token
pub further : (directives : Bool) (from : Place) (text : List ℕ) (found more : List Token) (at : Place) (rest : List ℕ) (n : ℕ) (t : Option Token) →
    ((ts : List Token) (end : Ending) → Reads directives at rest ts end → Reads directives from text (found ++ ts) end) → Steps (seen directives at) rest (Ok (n, t)) → more ≡ found ++ option_to_list t →
    (ts : List Token) (end : Ending) → Reads directives (past at (take n rest)) (drop n rest) ts end → Reads directives from text (more ++ ts) end
further directives from text found more at rest n t continued h grown ts end d =
    let all : found ++ (option_to_list t ++ ts) ≡ more ++ ts = sym (append_assoc found (option_to_list t) ts) ∙ ap (λ x. x ++ ts) (sym grown) in
    subst (λ x. Reads directives from text x end) all (continued (option_to_list t ++ ts) end (step_on directives at rest n t h ts end d))

-- the text is read to its end
pub finished : (directives : Bool) (from : Place) (text : List ℕ) (found : List Token) (at : Place) (rest : List ℕ) →
    ((ts : List Token) (end : Ending) → Reads directives at rest ts end → Reads directives from text (found ++ ts) end) → length rest ≡ 0 → AnswersFrom directives from text (Ok found)
finished directives from text found at [] continued none = subst (λ x. Reads directives from text x Whole) (append-nil found) (continued [] Whole AtEnd)
finished directives from text found at (b ∷ rest) continued none = absurd (omega arith)
