-- What is read up to the end of the tokens, or up to closing parentheses, is what they spell.
use Rattle.std.proofs.Common.{◌≡◌, ℕ, ◌≤◌, List, [], ◌∷◌, true, refl, ap, Some, arith}
use Rattle.c_tokens.specs.declared.token.Token.{Token}
use Rattle.c_tokens.specs.declared.token.Punct.TheVariants as sign
use Rattle.c_parser.specs.Tree.{Exp}
use Rattle.c_parser.specs.Heights.{height}
use Rattle.c_parser.specs.Signs.{sign_of, is_this}
use Rattle.c_parser.specs.Expressions.{Spells}
use Rattle.c_parser.specs.ReadExpressions.{read}
use Rattle.c_parser.specs.Witness.{are_all}
use Rattle.c_parser.proofs.SignLaws.{grip, taken}
use Rattle.c_parser.proofs.WordLaws.{both_true}
use Rattle.c_parser.proofs.Complete.{read_complete}
use Rattle.c_parser.proofs.SoundExpressions.{read_sound}

-- nothing holds to what stands before a closing parenthesis
closing_grip : (ts : List Token) → are_all sign.ParenClose ts ≡ true → grip ts ≡ 0
closing_grip [] all = refl
closing_grip (t ∷ ts) all = ap grip (taken sign.ParenClose (t ∷ ts) (both_true (is_this sign.ParenClose (sign_of t.kind)) (are_all sign.ParenClose ts) all).0).1

pub constant_sound : (b h k : ℕ) (ts : List Token) (e : Exp) (rest : List Token) → 1 ≤ k → k ≤ 15 → read b h k ts ≡ Some (e, rest) → Spells b k ts e rest × (height e ≤ h)
constant_sound b h k ts e rest lo up f = let x = read_sound b h k ts (e, rest) lo up f in (x.0, x.1)

pub constant_read : (b h k : ℕ) (ts : List Token) (e : Exp) (rest : List Token) → 1 ≤ k → k ≤ 15 → are_all sign.ParenClose rest ≡ true → Spells b k ts e rest → height e ≤ h → read b h k ts ≡ Some (e, rest)
constant_read b h k ts e rest lo up all s low = let g : grip rest ≡ 0 = closing_grip rest all in read_complete b h k ts e rest lo up s low (omega (arith, g, lo))

pub whole_sound : (b h k : ℕ) (ts : List Token) (e : Exp) → 1 ≤ k → k ≤ 15 → read b h k ts ≡ Some (e, []) → Spells b k ts e [] × (height e ≤ h)
whole_sound b h k ts e lo up f = constant_sound b h k ts e [] lo up f

pub whole_read : (b h k : ℕ) (ts : List Token) (e : Exp) → 1 ≤ k → k ≤ 15 → Spells b k ts e [] → height e ≤ h → read b h k ts ≡ Some (e, [])
whole_read b h k ts e lo up s low = constant_read b h k ts e [] lo up refl s low
