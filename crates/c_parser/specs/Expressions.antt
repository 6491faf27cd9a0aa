-- Which expressions tokens spell (C11 6.5): `Expression .. k ts e rest` says that the front of ts up to rest spells e,
-- whose parts hold together with the strength k at least.
use Rattle.std.specs.Prelude.{◌≡◌, ℕ, ℤ, zero, suc, Bool, true, nat_lt, List, [], ◌∷◌, Option, Some, codes}
use Rattle.c_core.specs.declared.number.IntType.{IntType}
use Rattle.c_core.specs.declared.number.Spot.{Spot}
use Rattle.c_core.specs.declared.number.BinOp.{BinOp}
use Rattle.c_core.specs.declared.number.UnOp.{UnOp}
use Rattle.c_core.specs.declared.number.StepOp.{StepOp}
use Rattle.c_tokens.specs.declared.token.Token.{Token}
use Rattle.c_tokens.specs.declared.token.TokenKind.TheVariants as kind
use Rattle.c_tokens.specs.declared.token.Punct.{Punct}
use Rattle.c_tokens.specs.declared.token.Punct.TheVariants as sign
use Rattle.c_parser.specs.Tree.{Exp, Expr, exps, moved}
use Rattle.c_parser.specs.Tree as node
use Rattle.c_parser.specs.Signs.{token, sign_token, word_token, place, expr, assignment, conditional, binary, cast, unary, postfix, primary, Joint, joined, joins, signs, steps_before, steps_behind, assigns}
use Rattle.c_parser.specs.Words.{is_name, TypeWord, type_word, type_of}

-- type words and `const`
pub data NameWords : List Token → List TypeWord → List Token → Type 0 where
  NoMoreWords : {rest : List Token} → NameWords rest [] rest
  AConst : {ts rest : List Token} {words : List TypeWord} {p : Spot} → NameWords ts words rest → NameWords (word_token (codes "const") p ∷ ts) words rest
  ATypeWord : {ts rest : List Token} {w : List ℕ} {t : TypeWord} {words : List TypeWord} {p : Spot} →
      type_word w ≡ Some t → NameWords ts words rest → NameWords (word_token w p ∷ ts) (t ∷ words) rest

-- `Inside` is what may stand in square brackets
module _ (Inside : List Token → Exp → List Token → Type 0) where
  -- an index of an element, or a size of an array, in its brackets
  pub data Bracketed : List Token → Exp → List Token → Type 0 where
    InBrackets : {ts rest : List Token} {e : Exp} {p q : Spot} →
        Inside ts e (sign_token sign.BracketClose q ∷ rest) → Bracketed (sign_token sign.BracketOpen p ∷ ts) e rest

  -- one for each dimension: one or two
  pub data Dimensions : List Token → List Exp → List Token → Type 0 where
    OneDimension : {ts rest : List Token} {e : Exp} → Bracketed ts e rest → Dimensions ts (e ∷ []) rest
    TwoDimensions : {ts mid rest : List Token} {e u : Exp} → Bracketed ts e mid → Bracketed mid u rest → Dimensions ts (e ∷ u ∷ []) rest

-- `room`: one more pair of brackets may be open; `Inner k` is what may stand in it with the strength k
module _ (room : Bool) (Inner : ℕ → List Token → Exp → List Token → Type 0) where
  -- arguments parted by commas
  pub data Arguments : List Token → List Exp → List Token → Type 0 where
    LastArgument : {ts rest : List Token} {e : Exp} → Inner assignment ts e rest → Arguments ts (e ∷ []) rest
    MoreArguments : {ts mid rest : List Token} {e : Exp} {es : List Exp} {q : Spot} →
        Inner assignment ts e (sign_token sign.Comma q ∷ mid) → Arguments mid es rest → Arguments ts (e ∷ es) rest

  -- what the tokens spell at a strength, from a whole expression to a primary one (C11 6.5)
  pub data Expression : ℕ → List Token → Exp → List Token → Type 0 where
    -- what holds together more strongly
    Stronger : {k : ℕ} {ts rest : List Token} {e : Exp} → Expression (suc k) ts e rest → Expression k ts e rest
    -- operands joined by signs of one strength, each grouping to the left: whole expressions and binary ones
    Joined : {k : ℕ} {ts mid rest : List Token} {a b : Exp} {s : Punct} {j : Joint} {q : Spot} →
        joins s ≡ Some (k, j) → Expression k ts a (sign_token s q ∷ mid) → Expression (suc k) mid b rest →
        Expression k ts (Expr (place ts) (joined j a b)) rest
    Assigned : {ts mid rest : List Token} {a b : Exp} {s : Punct} {op : Option BinOp} {q : Spot} →
        assigns s ≡ Some op → Expression unary ts a (sign_token s q ∷ mid) → Expression assignment mid b rest →
        Expression assignment ts (Expr (place ts) (node.Assign op a b)) rest
    Chosen : {ts first second rest : List Token} {e a b : Exp} {q r : Spot} →
        Expression binary ts e (sign_token sign.Question q ∷ first) → Expression expr first a (sign_token sign.Colon r ∷ second) →
        Expression conditional second b rest → Expression conditional ts (Expr (place ts) (node.Choose q e a b)) rest
    SteppedBefore : {ts rest : List Token} {e : Exp} {s : Punct} {op : StepOp} {p : Spot} →
        steps_before s ≡ Some op → Expression unary ts e rest → Expression unary (sign_token s p ∷ ts) (Expr p (node.Step op e)) rest
    Signed : {ts rest : List Token} {e : Exp} {s : Punct} {op : UnOp} {p : Spot} →
        signs s ≡ Some op → Expression cast ts e rest → Expression unary (sign_token s p ∷ ts) (Expr p (node.Unary op e)) rest
    Converted : {ts mid rest : List Token} {words : List TypeWord} {to : Option IntType} {e : Exp} {p q : Spot} →
        room ≡ true → NameWords ts words (sign_token sign.ParenClose q ∷ mid) → type_of words ≡ Some to → Expression cast mid e rest →
        Expression cast (sign_token sign.ParenOpen p ∷ ts) (Expr p (node.Cast to e)) rest
    SteppedBehind : {ts rest : List Token} {e : Exp} {s : Punct} {op : StepOp} {q : Spot} →
        steps_behind s ≡ Some op → Expression postfix ts e (sign_token s q ∷ rest) → Expression postfix ts (Expr (place ts) (node.Step op e)) rest
    AName : {rest : List Token} {w : List ℕ} {p : Spot} → is_name w ≡ true → Expression primary (word_token w p ∷ rest) (Expr p (node.Var w p)) rest
    AnElement : {ts rest : List Token} {w : List ℕ} {es : List Exp} {p : Spot} →
        is_name w ≡ true → Dimensions (Inner expr) ts es rest → Expression primary (word_token w p ∷ ts) (Expr p (node.Index w p (exps es))) rest
    ABareCall : {rest : List Token} {w : List ℕ} {p q r : Spot} →
        is_name w ≡ true → room ≡ true →
        Expression primary (word_token w p ∷ sign_token sign.ParenOpen q ∷ sign_token sign.ParenClose r ∷ rest) (Expr p (node.Call w p (exps []) r)) rest
    ACall : {ts rest : List Token} {w : List ℕ} {es : List Exp} {p q r : Spot} →
        is_name w ≡ true → Arguments ts es (sign_token sign.ParenClose r ∷ rest) →
        Expression primary (word_token w p ∷ sign_token sign.ParenOpen q ∷ ts) (Expr p (node.Call w p (exps es) r)) rest
    ANumber : {rest : List Token} {v : ℕ} {decimal unsigned : Bool} {longs : ℕ} {p : Spot} →
        Expression primary (token (kind.Number v decimal unsigned longs) p ∷ rest) (Expr p (node.Number v decimal unsigned longs)) rest
    ACharacter : {rest : List Token} {v : ℤ} {p : Spot} → Expression primary (token (kind.Char v) p ∷ rest) (Expr p (node.Char v)) rest
    -- its place is the parenthesis
    AGroup : {ts rest : List Token} {e : Exp} {p r : Spot} →
        Inner expr ts e (sign_token sign.ParenClose r ∷ rest) → Expression primary (sign_token sign.ParenOpen p ∷ ts) (moved p e) rest

-- one bracket more may be open
abbrev pub has_room : ℕ → Bool
has_room b = nat_lt 0 b

-- in one more pair of brackets, where this many may be open at one place
unfoldable pub Within : ℕ → ℕ → List Token → Exp → List Token → Type 0
Within zero k ts e rest = ⊥
Within (suc b) k ts e rest = Expression (has_room b) (Within b) k ts e rest

-- with at most b brackets open at one place
abbrev pub Spells : ℕ → ℕ → List Token → Exp → List Token → Type 0
Spells b = Expression (has_room b) (Within b)
