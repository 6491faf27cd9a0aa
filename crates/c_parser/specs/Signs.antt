-- Tokens at the front of a list, and the tables of signs.
use Rattle.std.specs.Prelude.{ℕ, Bool, true, false, nat_eq, List, [], ◌∷◌, Option, Some, None}
use Rattle.c_core.specs.declared.number.Spot.{Spot}
use Rattle.c_core.specs.declared.number.BinOp.{BinOp}
use Rattle.c_core.specs.declared.number.BinOp.TheVariants as op
use Rattle.c_core.specs.declared.number.UnOp.{UnOp}
use Rattle.c_core.specs.declared.number.UnOp.TheVariants as one
use Rattle.c_core.specs.declared.number.StepOp.{StepOp}
use Rattle.c_core.specs.declared.number.StepOp.TheVariants as step
use Rattle.c_tokens.specs.declared.token.Token.{Token}
use Rattle.c_tokens.specs.declared.token.TokenKind.{TokenKind}
use Rattle.c_tokens.specs.declared.token.TokenKind.TheVariants as kind
use Rattle.c_tokens.specs.declared.token.Punct.{Punct}
use Rattle.c_tokens.specs.declared.token.Punct.TheVariants as sign
use Rattle.c_tokens.specs.Numbers.{is_spelled}
use Rattle.c_parser.specs.Tree.{Exp, Node, Binary, Logic, Comma}

-- a token of a kind at a place
abbrev pub token : TokenKind → Spot → Token
token k p = record { kind = k; spot = p }

-- a sign at a place
abbrev pub sign_token : Punct → Spot → Token
sign_token s p = token (kind.Punct s) p

-- a word at a place
abbrev pub word_token : List ℕ → Spot → Token
word_token w p = token (kind.Word w) p

-- the place of the first token
abbrev pub place : List Token → Spot
place [] = record { line = 1; column = 1 }
place (t ∷ ts) = t.spot

-- the sign that a token is, if it is one
abbrev pub sign_of : TokenKind → Option Punct
sign_of (kind.Word w) = None
sign_of (kind.Number v decimal unsigned longs) = None
sign_of (kind.Char v) = None
sign_of kind.Str = None
sign_of (kind.Punct s) = Some s

-- the word that a token is, if it is one
abbrev pub word_of : TokenKind → Option (List ℕ)
word_of (kind.Word w) = Some w
word_of (kind.Number v decimal unsigned longs) = None
word_of (kind.Char v) = None
word_of kind.Str = None
word_of (kind.Punct s) = None

-- the sign or the word that stands first
abbrev pub sign_at : List Token → Option Punct
sign_at [] = None
sign_at (t ∷ ts) = sign_of t.kind

-- the word that these tokens begin with
abbrev pub word_at : List Token → Option (List ℕ)
word_at [] = None
word_at (t ∷ ts) = word_of t.kind

-- signs by number, so that two can be compared
abbrev pub number_of_sign : Punct → ℕ
number_of_sign sign.ParenOpen = 0
number_of_sign sign.ParenClose = 1
number_of_sign sign.BraceOpen = 2
number_of_sign sign.BraceClose = 3
number_of_sign sign.BracketOpen = 4
number_of_sign sign.BracketClose = 5
number_of_sign sign.Semicolon = 6
number_of_sign sign.Comma = 7
number_of_sign sign.Colon = 8
number_of_sign sign.Question = 9
number_of_sign sign.Ellipsis = 10
number_of_sign sign.Dot = 11
number_of_sign sign.Arrow = 12
number_of_sign sign.Assign = 13
number_of_sign sign.PlusAssign = 14
number_of_sign sign.MinusAssign = 15
number_of_sign sign.StarAssign = 16
number_of_sign sign.SlashAssign = 17
number_of_sign sign.PercentAssign = 18
number_of_sign sign.ShiftLeftAssign = 19
number_of_sign sign.ShiftRightAssign = 20
number_of_sign sign.AmpersandAssign = 21
number_of_sign sign.CaretAssign = 22
number_of_sign sign.PipeAssign = 23
number_of_sign sign.AmpersandAmpersand = 24
number_of_sign sign.PipePipe = 25
number_of_sign sign.Pipe = 26
number_of_sign sign.Caret = 27
number_of_sign sign.Ampersand = 28
number_of_sign sign.Equal = 29
number_of_sign sign.NotEqual = 30
number_of_sign sign.Less = 31
number_of_sign sign.Greater = 32
number_of_sign sign.LessEqual = 33
number_of_sign sign.GreaterEqual = 34
number_of_sign sign.ShiftLeft = 35
number_of_sign sign.ShiftRight = 36
number_of_sign sign.Plus = 37
number_of_sign sign.Minus = 38
number_of_sign sign.Star = 39
number_of_sign sign.Slash = 40
number_of_sign sign.Percent = 41
number_of_sign sign.Exclamation = 42
number_of_sign sign.Tilde = 43
number_of_sign sign.PlusPlus = 44
number_of_sign sign.MinusMinus = 45

-- the same sign
abbrev pub same_sign : Punct → Punct → Bool
same_sign s r = nat_eq (number_of_sign s) (number_of_sign r)

-- it is this sign
abbrev pub is_this : Punct → Option Punct → Bool
is_this s None = false
is_this s (Some r) = same_sign s r

-- this sign stands first
abbrev pub is_sign : Punct → List Token → Bool
is_sign s ts = is_this s (sign_at ts)

-- it is this word
abbrev pub is_spelling : List ℕ → Option (List ℕ) → Bool
is_spelling w None = false
is_spelling w (Some v) = is_spelled w v

-- this word stands first
abbrev pub is_word : List ℕ → List Token → Bool
is_word w ts = is_spelling w (word_at ts)

-- How strongly the parts of an expression hold together: a whole expression is 1, an assignment 2, a conditional 3,
-- the binary operators are 4 to 13, a cast is 14, a unary expression 15, a postfix expression 16, a primary one 17.
abbrev pub expr : ℕ
expr = 1

-- strengths: an assignment (C11 6.5.16)
abbrev pub assignment : ℕ
assignment = 2

-- `?:` and what is stronger (C11 6.5.15)
abbrev pub conditional : ℕ
conditional = 3

-- the weakest binary operator, `||`
abbrev pub binary : ℕ
binary = 4

-- a cast (C11 6.5.4)
abbrev pub cast : ℕ
cast = 14

-- an operator before its operand (C11 6.5.3)
abbrev pub unary : ℕ
unary = 15

-- indices, calls and `++` or `--` after (C11 6.5.2)
abbrev pub postfix : ℕ
postfix = 16

-- constants, names and parentheses (C11 6.5.1)
abbrev pub primary : ℕ
primary = 17

-- what joins two operands
pub data Joint : Type 0 where
  Sequence : Joint
  Both : Joint
  Either : Joint
  Plain : BinOp → Joint

-- two operands joined, as the tree that it is
abbrev pub joined : Joint → Exp → Exp → Node
joined Sequence a b = Comma a b
joined Both a b = Logic true a b
joined Either a b = Logic false a b
joined (Plain o) a b = Binary o a b

-- the signs that join two operands, with their strength
abbrev pub joins : Punct → Option (ℕ × Joint)
joins sign.Comma = Some (1, Sequence)
joins sign.PipePipe = Some (4, Either)
joins sign.AmpersandAmpersand = Some (5, Both)
joins sign.Pipe = Some (6, Plain op.Or)
joins sign.Caret = Some (7, Plain op.Xor)
joins sign.Ampersand = Some (8, Plain op.And)
joins sign.Equal = Some (9, Plain op.Eq)
joins sign.NotEqual = Some (9, Plain op.Ne)
joins sign.Less = Some (10, Plain op.Lt)
joins sign.Greater = Some (10, Plain op.Gt)
joins sign.LessEqual = Some (10, Plain op.Le)
joins sign.GreaterEqual = Some (10, Plain op.Ge)
joins sign.ShiftLeft = Some (11, Plain op.Shl)
joins sign.ShiftRight = Some (11, Plain op.Shr)
joins sign.Plus = Some (12, Plain op.Add)
joins sign.Minus = Some (12, Plain op.Sub)
joins sign.Star = Some (13, Plain op.Mul)
joins sign.Slash = Some (13, Plain op.Div)
joins sign.Percent = Some (13, Plain op.Rem)
joins _ = None

-- the operators before a cast
abbrev pub signs : Punct → Option UnOp
signs sign.Plus = Some one.Plus
signs sign.Minus = Some one.Neg
signs sign.Exclamation = Some one.Not
signs sign.Tilde = Some one.BitNot
signs _ = None

-- the steps before and after their target
abbrev pub steps_before : Punct → Option StepOp
steps_before sign.PlusPlus = Some step.PreInc
steps_before sign.MinusMinus = Some step.PreDec
steps_before _ = None

-- `++` and `--` after their operand
abbrev pub steps_behind : Punct → Option StepOp
steps_behind sign.PlusPlus = Some step.PostInc
steps_behind sign.MinusMinus = Some step.PostDec
steps_behind _ = None

-- the signs of assignments, with the operator of a compound one
abbrev pub assigns : Punct → Option (Option BinOp)
assigns sign.Assign = Some None
assigns sign.PlusAssign = Some (Some op.Add)
assigns sign.MinusAssign = Some (Some op.Sub)
assigns sign.StarAssign = Some (Some op.Mul)
assigns sign.SlashAssign = Some (Some op.Div)
assigns sign.PercentAssign = Some (Some op.Rem)
assigns sign.ShiftLeftAssign = Some (Some op.Shl)
assigns sign.ShiftRightAssign = Some (Some op.Shr)
assigns sign.AmpersandAssign = Some (Some op.And)
assigns sign.CaretAssign = Some (Some op.Xor)
assigns sign.PipeAssign = Some (Some op.Or)
assigns _ = None

infixl 10 ◌>>=◌
-- what is read on, where something was read
abbrev pub ◌>>=◌ : {A B : Type 0} → Option A → (A → Option B) → Option B
None >>= f = None
(Some x) >>= f = f x
