-- Expressions of witnesses, and `\result` constraints.
use Rattle.std.specs.Prelude.{◌≡◌, ◌≤◌, ◌-◌, ℕ, Bool, true, false, ◌&&◌, is_some, length, drop, List, [], ◌∷◌, ◌++◌, Option, Some, None, Result, Ok, Err, codes}
use Rattle.std.specs.List.{list_all}
use Rattle.std.specs.Borrow.{Bor}
use Rattle.c_core.specs.declared.number.Spot.{Spot}
use Rattle.c_core.specs.declared.number.BinOp.{BinOp}
use Rattle.c_core.specs.declared.number.BinOp.TheVariants as op
use Rattle.c_tokens.specs.declared.token.Token.{Token}
use Rattle.c_tokens.specs.declared.token.Punct.{Punct}
use Rattle.c_tokens.specs.declared.token.Punct.TheVariants as sign
use Rattle.c_tokens.specs.Reading.{PlainTokens, Whole, Reads, Leads, start, past}
use Rattle.c_tokens.specs.declared.place.Place.{Place}
use Rattle.c_parser.specs.declared.tree.ResultTest.{ResultTest}
use Rattle.c_parser.specs.Tree.{Exp, Expr, Node, Number, Char, Var, Index, Unary, Cast, Step, Binary, Logic, Choose, Comma, Assign, Call, Exps, NoExp, MoreExp}
use Rattle.c_parser.specs.Heights.{height}
use Rattle.c_parser.specs.Signs.{◌>>=◌, sign_token, sign_at, sign_of, is_this, conditional}
use Rattle.c_parser.specs.Expressions.{Spells}
use Rattle.c_parser.specs.Sources.{max_height, max_brackets}
use Rattle.c_parser.specs.ReadExpressions.{read}
use Rattle.c_parser.specs.View.{expr_view}
use Rattle.c_parser.specs.declared.tree.RawExpr.{RawExpr}
use Rattle.c_parser.specs.declared.fault.ExprFault.{ExprFault}
use Rattle.c_parser.specs.declared.fault.ExprFault.TheVariants.{Expression, Scope, OutOfMemory}

-- no assignment, step, call, comma and cast to void stands in it
abbrev mutual
  pub is_effectless : Exp → Bool
  is_effectless (Expr p n) = is_effectless_node n

  pub is_effectless_node : Node → Bool
  is_effectless_node (Number v decimal unsigned longs) = true
  is_effectless_node (Char v) = true
  is_effectless_node (Var x p) = true
  is_effectless_node (Index x p es) = are_effectless es
  is_effectless_node (Unary o e) = is_effectless e
  is_effectless_node (Cast to e) = is_some to && is_effectless e
  is_effectless_node (Step o e) = false
  is_effectless_node (Binary o a b) = is_effectless a && is_effectless b
  is_effectless_node (Logic both a b) = is_effectless a && is_effectless b
  is_effectless_node (Choose mark e a b) = is_effectless e && (is_effectless a && is_effectless b)
  is_effectless_node (Comma a b) = false
  is_effectless_node (Assign o a b) = false
  is_effectless_node (Call f p es close) = false

  pub are_effectless : Exps → Bool
  are_effectless NoExp = true
  are_effectless (MoreExp e es) = is_effectless e && are_effectless es

-- the bytes spell this expression of a witness: they are C tokens, comments may stand between them and no line is a directive
pub record IsWitnessExpression (bytes : List ℕ) (e : Exp) : Type 0 where
  pub tokens : List Token
  pub are_tokens : PlainTokens bytes tokens
  pub spells : Spells max_brackets conditional tokens e []
  pub low : height e ≤ max_height
  pub effectless : is_effectless e ≡ true

-- the answer is the one expression of the text; `Expression` exactly where there is none
abbrev pub AnswersExpression : List ℕ → Result RawExpr ExprFault → Type 0
AnswersExpression bytes (Ok e) = IsWitnessExpression bytes (expr_view e) × ((u : Exp) → IsWitnessExpression bytes u → u ≡ expr_view e)
AnswersExpression bytes (Err Expression) = (e : Exp) → IsWitnessExpression bytes e → ⊥
AnswersExpression bytes (Err Scope) = ⊥
AnswersExpression bytes (Err OutOfMemory) = Unit {0}

-- the same for the conditional expression that all tokens are read as
abbrev pub WholeExpression : List Token → Result RawExpr ExprFault → Type 0
WholeExpression ts (Ok e) = read max_brackets max_height conditional ts ≡ Some (expr_view e, [])
WholeExpression ts (Err Expression) = (e : Exp) → read max_brackets max_height conditional ts ≡ Some (e, []) → ⊥
WholeExpression ts (Err Scope) = ⊥
WholeExpression ts (Err OutOfMemory) = Unit {0}

-- no name, call, step and cast to void stands in it
abbrev mutual
  pub is_nameless : Exp → Bool
  is_nameless (Expr p n) = is_nameless_node n

  pub is_nameless_node : Node → Bool
  is_nameless_node (Number v decimal unsigned longs) = true
  is_nameless_node (Char v) = true
  is_nameless_node (Var x p) = false
  is_nameless_node (Index x p es) = false
  is_nameless_node (Unary o e) = is_nameless e
  is_nameless_node (Cast to e) = is_some to && is_nameless e
  is_nameless_node (Step o e) = false
  is_nameless_node (Binary o a b) = is_nameless a && is_nameless b
  is_nameless_node (Logic both a b) = is_nameless a && is_nameless b
  is_nameless_node (Choose mark e a b) = is_nameless e && (is_nameless a && is_nameless b)
  is_nameless_node (Comma a b) = is_nameless a && is_nameless b
  is_nameless_node (Assign o a b) = is_nameless a && is_nameless b
  is_nameless_node (Call f p es close) = false

-- a sign that compares, as the operator that it is (C11 6.5.8, 6.5.9)
abbrev pub compares : Punct → Option BinOp
compares sign.Equal = Some op.Eq
compares sign.NotEqual = Some op.Ne
compares sign.Less = Some op.Lt
compares sign.LessEqual = Some op.Le
compares sign.Greater = Some op.Gt
compares sign.GreaterEqual = Some op.Ge
compares s = None

-- what binds more strongly than comparisons
abbrev pub shift : ℕ
shift = 11

-- each token is this sign
abbrev pub are_all : Punct → List Token → Bool
are_all s ts = list_all (λ (t : Token). is_this s (sign_of t.kind)) ts

-- the bytes spell `\result`, this operator and this constant, all of it in parentheses or not; blanks and comments may
-- stand between them, and no line is a directive
pub record IsResultTest (bytes : List ℕ) (comparison : BinOp) (e : Exp) : Type 0 where
  pub parens : ℕ
  pub place : Place
  pub behind : List ℕ
  pub opens : Leads start bytes parens place (codes "\\result" ++ behind)
  pub s : Punct
  pub mark : Spot
  pub constant : List Token
  pub closing : List Token
  pub are_tokens : Reads false (past place (codes "\\result")) behind (sign_token s mark ∷ constant) Whole
  pub few : parens ≤ max_brackets
  pub compares : compares s ≡ Some comparison
  pub spells : Spells (max_brackets - parens) shift constant e closing
  pub all_closed : are_all sign.ParenClose closing ≡ true
  pub matching : length closing ≡ parens
  pub low : height e ≤ max_height
  pub nameless : is_nameless e ≡ true

-- the answer is the one comparison of the text; `Expression` exactly where there is none
abbrev pub AnswersTest : List ℕ → Result ResultTest ExprFault → Type 0
AnswersTest bytes (Ok t) =
    IsResultTest bytes t.op (expr_view t.constant)
    × ((comparison : BinOp) (e : Exp) → IsResultTest bytes comparison e → (comparison ≡ t.op) × (e ≡ expr_view t.constant))
AnswersTest bytes (Err Expression) = (comparison : BinOp) (e : Exp) → IsResultTest bytes comparison e → ⊥
AnswersTest bytes (Err Scope) = ⊥
AnswersTest bytes (Err OutOfMemory) = Unit {0}

-- the comparison that stands first
abbrev pub compares_at : List Token → Option BinOp
compares_at ts = sign_at ts >>= compares

-- what the tokens after `\result` are read as, where this many parentheses have to close
pub record IsComparison (parens : ℕ) (ts : List Token) (comparison : BinOp) (e : Exp) : Type 0 where
  pub closing : List Token
  pub compares : compares_at ts ≡ Some comparison
  pub reads : read (max_brackets - parens) max_height shift (drop 1 ts) ≡ Some (e, closing)
  pub all_closed : are_all sign.ParenClose closing ≡ true
  pub matching : length closing ≡ parens
  pub nameless : is_nameless e ≡ true

abbrev pub AnswersComparison : ℕ → List Token → Result ResultTest ExprFault → Type 0
AnswersComparison parens ts (Ok t) = IsComparison parens ts t.op (expr_view t.constant)
AnswersComparison parens ts (Err Expression) = (comparison : BinOp) (e : Exp) → IsComparison parens ts comparison e → ⊥
AnswersComparison parens ts (Err Scope) = ⊥
AnswersComparison parens ts (Err OutOfMemory) = Unit {0}

-- the tokens from a place on, without directives
abbrev pub AnswersTokens : Place → List ℕ → Result (List Token) ExprFault → Type 0
AnswersTokens place bytes (Ok ts) = Reads false place bytes ts Whole × ((us : List Token) → Reads false place bytes us Whole → ts ≡ us)
AnswersTokens place bytes (Err Expression) = (ts : List Token) → Reads false place bytes ts Whole → ⊥
AnswersTokens place bytes (Err Scope) = ⊥
AnswersTokens place bytes (Err OutOfMemory) = Unit {0}

-- what stands after `\result` at the front of a text
abbrev pub IsBehindResult : List ℕ → Option (Bor (List ℕ)) → Type 0
IsBehindResult text (Some behind) = text ≡ codes "\\result" ++ behind.now
IsBehindResult text None = (behind : List ℕ) → text ≡ codes "\\result" ++ behind → ⊥
