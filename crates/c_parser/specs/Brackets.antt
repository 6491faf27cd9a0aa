-- Tokens that are passed: any, with brackets that match by kind.
use Rattle.std.specs.Prelude.{◌≡◌, ℕ, zero, suc, nat_lt, length, List, [], ◌∷◌, Option, Some, None, if◌then◌else◌}
use Rattle.c_core.specs.declared.number.Spot.{Spot}
use Rattle.c_tokens.specs.declared.token.Token.{Token}
use Rattle.c_tokens.specs.declared.token.Punct.{Punct}
use Rattle.c_tokens.specs.declared.token.Punct.TheVariants as sign
use Rattle.c_parser.specs.Signs.{◌>>=◌, sign_of, same_sign, sign_token}

-- what a token is among brackets
pub data Bracket : Type 0 where
  NoBracket : Bracket
  -- a bracket that this one closes
  Opening : Punct → Bracket
  Closing : Punct → Bracket

-- the same of a sign
abbrev pub bracket_of : Option Punct → Bracket
bracket_of None = NoBracket
bracket_of (Some sign.ParenOpen) = Opening sign.ParenClose
bracket_of (Some sign.BracketOpen) = Opening sign.BracketClose
bracket_of (Some sign.BraceOpen) = Opening sign.BraceClose
bracket_of (Some sign.ParenClose) = Closing sign.ParenClose
bracket_of (Some sign.BracketClose) = Closing sign.BracketClose
bracket_of (Some sign.BraceClose) = Closing sign.BraceClose
bracket_of (Some s) = NoBracket

-- the same of a token
abbrev pub bracket : Token → Bracket
bracket t = bracket_of (sign_of t.kind)

-- `Inner` is what is passed in one more pair of brackets
module _ (Inner : List Token → List Token → Type 0) where
  -- tokens whose brackets match are passed over
  pub data Passed : List Token → List Token → Type 0 where
    NothingPassed : {rest : List Token} → Passed rest rest
    OnePassed : {t : Token} {ts rest : List Token} → bracket t ≡ NoBracket → Passed ts rest → Passed (t ∷ ts) rest
    PairPassed : {t : Token} {ts mid rest : List Token} {c : Punct} {q : Spot} →
        bracket t ≡ Opening c → Inner ts (sign_token c q ∷ mid) → Passed mid rest → Passed (t ∷ ts) rest

-- in one more pair of brackets, where this many may be open at one place
unfoldable pub PassedWithin : ℕ → List Token → List Token → Type 0
PassedWithin zero ts rest = ⊥
PassedWithin (suc b) ts rest = Passed (PassedWithin b) ts rest

-- The same as a function, with the signs that have to close.

-- the signs that have to close after a token
abbrev pub stacked : ℕ → List Punct → Bracket → Option (List Punct)
stacked b stack NoBracket = Some stack
stacked b stack (Opening c) = if nat_lt (length stack) b then Some (c ∷ stack) else None
stacked b [] (Closing c) = None
stacked b (d ∷ stack) (Closing c) = if same_sign c d then Some stack else None

-- what stands after the signs that have to close
abbrev pub skipped : ℕ → List Punct → List Token → Option (List Token)
skipped b [] ts = Some ts
skipped b (c ∷ stack) [] = None
skipped b (c ∷ stack) (t ∷ ts) = stacked b (c ∷ stack) (bracket t) >>= λ s. skipped b s ts

-- what stands after the closing sign of a pair that was opened
abbrev pub behind : ℕ → Punct → List Token → Option (List Token)
behind b c ts = if nat_lt 0 b then skipped b (c ∷ []) ts else None
