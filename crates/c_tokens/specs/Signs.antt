-- The signs (C11 6.4.6).
use Rattle.std.specs.Prelude.{List, ◌∷◌, [], ℕ, codes}
use Rattle.c_tokens.specs.declared.token.Punct.{Punct}
use Rattle.c_tokens.specs.declared.token.Punct.TheVariants as sign

-- every sign with its spelling; none stands after one that is shorter
abbrev pub signs : List (List ℕ × Punct)
signs =
    (codes "...", sign.Ellipsis) ∷ (codes "<<=", sign.ShiftLeftAssign) ∷ (codes ">>=", sign.ShiftRightAssign) ∷
    (codes "->", sign.Arrow) ∷ (codes "+=", sign.PlusAssign) ∷ (codes "-=", sign.MinusAssign) ∷
    (codes "*=", sign.StarAssign) ∷ (codes "/=", sign.SlashAssign) ∷ (codes "%=", sign.PercentAssign) ∷
    (codes "&=", sign.AmpersandAssign) ∷ (codes "^=", sign.CaretAssign) ∷ (codes "|=", sign.PipeAssign) ∷
    (codes "||", sign.PipePipe) ∷ (codes "&&", sign.AmpersandAmpersand) ∷
    (codes "==", sign.Equal) ∷ (codes "!=", sign.NotEqual) ∷ (codes "<=", sign.LessEqual) ∷
    (codes ">=", sign.GreaterEqual) ∷ (codes "<<", sign.ShiftLeft) ∷ (codes ">>", sign.ShiftRight) ∷
    (codes "++", sign.PlusPlus) ∷ (codes "--", sign.MinusMinus) ∷
    (codes "(", sign.ParenOpen) ∷ (codes ")", sign.ParenClose) ∷ (codes "{", sign.BraceOpen) ∷
    (codes "}", sign.BraceClose) ∷ (codes "[", sign.BracketOpen) ∷ (codes "]", sign.BracketClose) ∷
    (codes ";", sign.Semicolon) ∷ (codes ",", sign.Comma) ∷ (codes ":", sign.Colon) ∷
    (codes "?", sign.Question) ∷ (codes ".", sign.Dot) ∷ (codes "=", sign.Assign) ∷
    (codes "|", sign.Pipe) ∷ (codes "^", sign.Caret) ∷ (codes "&", sign.Ampersand) ∷
    (codes "<", sign.Less) ∷ (codes ">", sign.Greater) ∷ (codes "+", sign.Plus) ∷
    (codes "-", sign.Minus) ∷ (codes "*", sign.Star) ∷ (codes "/", sign.Slash) ∷
    (codes "%", sign.Percent) ∷ (codes "!", sign.Exclamation) ∷ (codes "~", sign.Tilde) ∷ []
