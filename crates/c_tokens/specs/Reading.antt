-- The tokens of a text, each with its place, and where the text stops being tokens.
use Rattle.std.specs.Prelude.{◌≡◌, ◌+◌, ◌-◌, ◌^◌, min, ℕ, suc, Bool, true, false, ◌&&◌, ◌==◌, List, [], ◌∷◌, Some, None, Result, Ok, Err, take, drop, if◌then◌else◌}
use Rattle.std.specs.List.{fold}
use Rattle.c_core.specs.declared.number.Spot.{Spot}
use Rattle.c_tokens.specs.declared.token.Token.{Token}
use Rattle.c_tokens.specs.declared.token.TokenKind.{TokenKind}
use Rattle.c_tokens.specs.declared.token.TokenFault.{TokenFault}
use Rattle.c_tokens.specs.declared.token.TokenFault.TheVariants.{Token as TokenAt, Directive, OutOfMemory}
use Rattle.c_tokens.specs.declared.place.Place.{Place}
use Rattle.c_tokens.specs.Bytes.{is_blank, line_feed}
use Rattle.c_tokens.specs.declared.gap.Gap.TheVariants.{Space, Refused, Unclosed, Absent}
use Rattle.c_tokens.specs.Gaps.{gap}
use Rattle.c_tokens.specs.Pieces.{Longest, NoPiece}

-- one more line or column; a count stands still at its type's end
abbrev pub next : ℕ → ℕ
next n = min (n + 1) (2 ^ 32 - 1)

-- the first place of a text; only blanks stand before it on its line
abbrev pub start : Place
start = record { spot = record { line = 1; column = 1 }; fresh = true }

-- the place after a byte: lines part at line feeds, columns count bytes
abbrev pub after : Place → ℕ → Place
after at b =
    if b == line_feed then record { spot = record { line = next at.spot.line; column = 1 }; fresh = true }
    else record { spot = record { line = at.spot.line; column = next at.spot.column }; fresh = at.fresh && is_blank b }

-- the place after a piece of text
abbrev pub past : Place → List ℕ → Place
past at piece = fold after at piece

-- where a text stops being tokens
pub data Ending : Type 0 where
  -- nowhere: the whole text is these tokens
  Whole : Ending
  -- at a place where no token stands
  NoToken : Spot → Ending
  -- at a directive on this line that is not passed over
  BadDirective : ℕ → Ending

-- a token of a kind where it begins
abbrev pub token : TokenKind → Place → Token
token kind at = record { kind = kind; spot = at.spot }

-- the character `(`
abbrev pub paren_open : ℕ
paren_open = 40

-- the tokens of the text from this place on, each the longest that stands at its place, and where the text stops; a `#` begins
-- no directive where none may stand
pub data Reads (directives : Bool) : Place → List ℕ → List Token → Ending → Type 0 where
  AtEnd : {at : Place} → Reads directives at [] [] Whole
  Between : {at : Place} {text : List ℕ} {n : ℕ} {ts : List Token} {end : Ending} →
      gap (directives && at.fresh) text ≡ Space n → Reads directives (past at (take n text)) (drop n text) ts end → Reads directives at text ts end
  AToken : {at : Place} {w text rest : List ℕ} {kind : TokenKind} {ts : List Token} {end : Ending} →
      gap (directives && at.fresh) text ≡ Absent → Longest w (Some kind) text rest → Reads directives (past at w) rest ts end → Reads directives at text (token kind at ∷ ts) end
  RefusedDirective : {at : Place} {text : List ℕ} → gap (directives && at.fresh) text ≡ Refused → Reads directives at text [] (BadDirective at.spot.line)
  UnclosedComment : {at : Place} {text : List ℕ} → gap (directives && at.fresh) text ≡ Unclosed → Reads directives at text [] (NoToken at.spot)
  BadNumber : {at : Place} {w text rest : List ℕ} → gap (directives && at.fresh) text ≡ Absent → Longest w None text rest → Reads directives at text [] (NoToken at.spot)
  BadByte : {at : Place} {b : ℕ} {text : List ℕ} → gap (directives && at.fresh) (b ∷ text) ≡ Absent → NoPiece (b ∷ text) → Reads directives at (b ∷ text) [] (NoToken at.spot)

-- the whole text is these tokens, or stops after them there; directives may stand in it or not
abbrev pub TokensBy : Bool → List ℕ → List Token → Ending → Type 0
TokensBy directives text ts end = Reads directives start text ts end

abbrev pub Tokens : List ℕ → List Token → Ending → Type 0
Tokens = TokensBy true

-- the text is these tokens, and no line of it is a directive
abbrev pub PlainTokens : List ℕ → List Token → Type 0
PlainTokens text ts = TokensBy false text ts Whole

-- an answer that the text from this place on bears out
abbrev pub AnswersFrom : Bool → Place → List ℕ → Result (List Token) TokenFault → Type 0
AnswersFrom directives at text (Ok ts) = Reads directives at text ts Whole
AnswersFrom directives at text (Err (TokenAt line column)) = (ts : List Token) × Reads directives at text ts (NoToken (record { line = line; column = column }))
AnswersFrom directives at text (Err (Directive line)) = (ts : List Token) × Reads directives at text ts (BadDirective line)
AnswersFrom directives at text (Err OutOfMemory) = Unit {0}

-- what reading a text answers, where directives are read or not
abbrev pub AnswersBy : Bool → List ℕ → Result (List Token) TokenFault → Type 0
AnswersBy directives = AnswersFrom directives start

-- what reading a program's text answers
abbrev pub Answers : List ℕ → Result (List Token) TokenFault → Type 0
Answers = AnswersBy true

-- the answer is these tokens and this ending; only out of memory may stand in their place
abbrev pub IsOutcome : Result (List Token) TokenFault → List Token → Ending → Type 0
IsOutcome (Ok found) ts end = (found ≡ ts) × (end ≡ Whole)
IsOutcome (Err (TokenAt line column)) ts end = end ≡ NoToken (record { line = line; column = column })
IsOutcome (Err (Directive line)) ts end = end ≡ BadDirective line
IsOutcome (Err OutOfMemory) ts end = Unit {0}

-- blanks, comments and this many opening parentheses stand before the rest of the text
pub data Leads : Place → List ℕ → ℕ → Place → List ℕ → Type 0 where
  NoLead : {at : Place} {text : List ℕ} → Leads at text 0 at text
  GapLeads : {at there : Place} {text rest : List ℕ} {n k : ℕ} →
      gap false text ≡ Space n → Leads (past at (take n text)) (drop n text) k there rest → Leads at text k there rest
  ParenLeads : {at there : Place} {text rest : List ℕ} {k : ℕ} →
      Leads (past at (paren_open ∷ [])) text k there rest → Leads at (paren_open ∷ text) (suc k) there rest

-- neither a gap nor an opening parenthesis stands here
pub record LeadEnds (text : List ℕ) : Type 0 where
  pub no_gap : (n : ℕ) → gap false text ≡ Space n → ⊥
  pub no_paren : (rest : List ℕ) → text ≡ paren_open ∷ rest → ⊥
