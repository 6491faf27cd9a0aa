-- Which statements tokens spell (C11 6.8).
use Rattle.std.specs.Prelude.{◌≡◌, ℕ, zero, suc, Bool, true, false, List, [], ◌∷◌, Option, Some, None, codes}
use Rattle.c_core.specs.declared.number.Spot.{Spot}
use Rattle.c_tokens.specs.declared.token.Token.{Token}
use Rattle.c_tokens.specs.declared.token.Punct.TheVariants as sign
use Rattle.c_parser.specs.Tree.{Exp, Exps, Declared, First, NoFirst, FirstExp, FirstDeclared, Stm, Stmt, Form, Else, NoElse, OrElse, ArmLabel, Case, Default, Arm, stms, arms}
use Rattle.c_parser.specs.Tree as form
use Rattle.c_parser.specs.Signs.{sign_token, word_token, place, is_word, conditional, expr}
use Rattle.c_parser.specs.Words.{is_name}
use Rattle.c_parser.specs.Brackets.{PassedWithin}
use Rattle.c_parser.specs.Expressions.{Within, Spells}
use Rattle.c_parser.specs.Declarations.{UpToBrace, Row, Declaration}

-- what stands first in the parentheses of a `for`, its test and its step
abbrev pub Parts : Type 0
Parts = First × Option Exp × Option Exp

-- `Whole` is an expression, `Declares` a declaration
module _ (Whole : List Token → Exp → List Token → Type 0) (Declares : List Token → List Declared → List Token → Type 0) where
  -- an expression, or none
  pub data Optional : List Token → Option Exp → List Token → Type 0 where
    NoExpression : {rest : List Token} → Optional rest None rest
    AnExpression : {ts rest : List Token} {e : Exp} → Whole ts e rest → Optional ts (Some e) rest

  -- the first part of `for (`, with the `;` after it
  pub data FirstPart : List Token → First → List Token → Type 0 where
    DeclaredFirst : {ts rest : List Token} {ds : List Declared} → Declares ts ds rest → FirstPart ts (FirstDeclared ds) rest
    ExpressionFirst : {ts rest : List Token} {e : Exp} {q : Spot} → Whole ts e (sign_token sign.Semicolon q ∷ rest) → FirstPart ts (FirstExp e) rest
    NothingFirst : {rest : List Token} {q : Spot} → FirstPart (sign_token sign.Semicolon q ∷ rest) NoFirst rest

  -- up to the parenthesis that closes them
  pub data ForParts : List Token → Parts → List Token → Type 0 where
    AllParts : {ts second third rest : List Token} {first : First} {test step : Option Exp} {q r : Spot} →
        FirstPart ts first second → Optional second test (sign_token sign.Semicolon q ∷ third) →
        Optional third step (sign_token sign.ParenClose r ∷ rest) → ForParts ts (first, test, step) (sign_token sign.ParenClose r ∷ rest)

-- `Paren` is an expression in one more pair of brackets, `Header` the parts of a `for`, `Braced` what stands in the braces of
-- a block, `Armed` what stands in those of a `switch`
module _ (Whole Paren : List Token → Exp → List Token → Type 0) (Declares : List Token → List Declared → List Token → Type 0)
    (Header : List Token → Parts → List Token → Type 0) (Braced : List Token → List Stm → List Token → Type 0)
    (Armed : List Token → List Arm → List Token → Type 0) where
  -- a statement by its production (C11 6.8)
  pub data Statement : List Token → Stm → List Token → Type 0 where
    AnEmpty : {rest : List Token} {p : Spot} → Statement (sign_token sign.Semicolon p ∷ rest) (Stmt p form.Empty) rest
    AnExpressionStatement : {ts rest : List Token} {e : Exp} {q : Spot} →
        Whole ts e (sign_token sign.Semicolon q ∷ rest) → Statement ts (Stmt (place ts) (form.Do e)) rest
    ABlock : {ts rest : List Token} {ss : List Stm} {p q : Spot} →
        Braced ts ss (sign_token sign.BraceClose q ∷ rest) → Statement (sign_token sign.BraceOpen p ∷ ts) (Stmt p (form.Block (stms ss))) rest
    ABreak : {rest : List Token} {p q : Spot} → Statement (word_token (codes "break") p ∷ sign_token sign.Semicolon q ∷ rest) (Stmt p form.Break) rest
    AContinue : {rest : List Token} {p q : Spot} → Statement (word_token (codes "continue") p ∷ sign_token sign.Semicolon q ∷ rest) (Stmt p form.Continue) rest
    AReturn : {rest : List Token} {p q : Spot} → Statement (word_token (codes "return") p ∷ sign_token sign.Semicolon q ∷ rest) (Stmt p (form.Return None)) rest
    AReturnOf : {ts rest : List Token} {e : Exp} {p q : Spot} →
        Whole ts e (sign_token sign.Semicolon q ∷ rest) → Statement (word_token (codes "return") p ∷ ts) (Stmt p (form.Return (Some e))) rest
    ALabel : {ts rest : List Token} {w : List ℕ} {s : Stm} {p q : Spot} →
        is_name w ≡ true → Statement ts s rest → Statement (word_token w p ∷ sign_token sign.Colon q ∷ ts) (Stmt p (form.Label w s)) rest
    -- an `else` would belong to this one, the nearest
    AnIf : {ts mid rest : List Token} {e : Exp} {s : Stm} {p q r : Spot} →
        Paren ts e (sign_token sign.ParenClose r ∷ mid) → Statement mid s rest → is_word (codes "else") rest ≡ false →
        Statement (word_token (codes "if") p ∷ sign_token sign.ParenOpen q ∷ ts) (Stmt p (form.If e s NoElse)) rest
    AnIfElse : {ts mid last rest : List Token} {e : Exp} {s t : Stm} {p q r z : Spot} →
        Paren ts e (sign_token sign.ParenClose r ∷ mid) → Statement mid s (word_token (codes "else") z ∷ last) → Statement last t rest →
        Statement (word_token (codes "if") p ∷ sign_token sign.ParenOpen q ∷ ts) (Stmt p (form.If e s (OrElse t))) rest
    AWhile : {ts mid rest : List Token} {e : Exp} {s : Stm} {p q r : Spot} →
        Paren ts e (sign_token sign.ParenClose r ∷ mid) → Statement mid s rest →
        Statement (word_token (codes "while") p ∷ sign_token sign.ParenOpen q ∷ ts) (Stmt p (form.While e s)) rest
    ADo : {ts mid rest : List Token} {s : Stm} {e : Exp} {p q r u z : Spot} →
        Statement ts s (word_token (codes "while") q ∷ sign_token sign.ParenOpen r ∷ mid) →
        Paren mid e (sign_token sign.ParenClose u ∷ sign_token sign.Semicolon z ∷ rest) →
        Statement (word_token (codes "do") p ∷ ts) (Stmt p (form.DoWhile s e)) rest
    AFor : {ts mid rest : List Token} {first : First} {test step : Option Exp} {s : Stm} {p q r : Spot} →
        Header ts (first, test, step) (sign_token sign.ParenClose r ∷ mid) → Statement mid s rest →
        Statement (word_token (codes "for") p ∷ sign_token sign.ParenOpen q ∷ ts) (Stmt p (form.For first test step s)) rest
    ASwitch : {ts mid rest : List Token} {e : Exp} {all : List Arm} {p q r u z : Spot} →
        Paren ts e (sign_token sign.ParenClose r ∷ sign_token sign.BraceOpen u ∷ mid) → Armed mid all (sign_token sign.BraceClose z ∷ rest) →
        Statement (word_token (codes "switch") p ∷ sign_token sign.ParenOpen q ∷ ts) (Stmt p (form.Switch e (arms all))) rest

  -- what stands in a block
  pub data Element : List Token → Stm → List Token → Type 0 where
    ADeclarationStatement : {ts rest : List Token} {ds : List Declared} → Declares ts ds rest → Element ts (Stmt (place ts) (form.Declare ds)) rest
    AStatement : {ts rest : List Token} {s : Stm} → Statement ts s rest → Element ts s rest

  -- up to the brace that closes them
  pub data Elements : List Token → List Stm → List Token → Type 0 where
    NoMoreElements : {rest : List Token} {q : Spot} → Elements (sign_token sign.BraceClose q ∷ rest) [] (sign_token sign.BraceClose q ∷ rest)
    MoreElements : {ts mid rest : List Token} {s : Stm} {ss : List Stm} → Element ts s mid → Elements mid ss rest → Elements ts (s ∷ ss) rest

-- `Constant` is a case constant, `One` a statement
module _ (Constant : List Token → Exp → List Token → Type 0) (One : List Token → Stm → List Token → Type 0) where
  -- what chooses an arm, with its colon
  pub data Labelled : List Token → ArmLabel → List Token → Type 0 where
    ACase : {ts rest : List Token} {e : Exp} {p q : Spot} → Constant ts e (sign_token sign.Colon q ∷ rest) → Labelled (word_token (codes "case") p ∷ ts) (Case e) rest
    ADefault : {rest : List Token} {p q : Spot} → Labelled (word_token (codes "default") p ∷ sign_token sign.Colon q ∷ rest) Default rest

  -- the statements of an arm; a declaration is none, and a label of the `switch` begins none
  pub data Body : List Token → List Stm → List Token → Type 0 where
    NoMoreStatements : {rest : List Token} → Body rest [] rest
    MoreStatements : {ts mid rest : List Token} {s : Stm} {ss : List Stm} → One ts s mid → Body mid ss rest → Body ts (s ∷ ss) rest

  -- the arms of a `switch`, up to the brace that closes it
  pub data Arms : List Token → List Arm → List Token → Type 0 where
    NoMoreArms : {rest : List Token} {q : Spot} → Arms (sign_token sign.BraceClose q ∷ rest) [] (sign_token sign.BraceClose q ∷ rest)
    MoreArms : {ts mid last rest : List Token} {l : ArmLabel} {ss : List Stm} {more : List Arm} →
        Labelled ts l mid → Body mid ss last → Arms last more rest → Arms ts (record { spot = place ts; label = l; body = ss } ∷ more) rest

-- With at most b brackets open at one place.

-- the rows of a list, in one more pair of brackets
unfoldable pub RowsWithin : ℕ → List Token → List Exps → List Token → Type 0
RowsWithin zero ts rows rest = ⊥
RowsWithin (suc b) ts rows rest = UpToBrace Exps (Row (Within b)) ts rows rest

-- a declaration, within this many open brackets more
abbrev pub Declares : ℕ → Bool → List Token → List Declared → List Token → Type 0
Declares b outside = Declaration (PassedWithin b) (Spells b) (Within b) (RowsWithin b) outside

-- in one more pair of brackets
unfoldable pub HeaderWithin : ℕ → List Token → Parts → List Token → Type 0
HeaderWithin zero ts parts rest = ⊥
HeaderWithin (suc b) ts parts rest = ForParts (Spells b expr) (Declares b false) ts parts rest

unfoldable mutual
  -- the statements up to a block's `}`; its brace is one of the b brackets
  pub BracedWithin : ℕ → List Token → List Stm → List Token → Type 0
  BracedWithin zero ts ss rest = ⊥
  BracedWithin (suc b) ts ss rest = Elements (Spells b expr) (Within b expr) (Declares b false) (HeaderWithin b) (BracedWithin b) (ArmedWithin b) ts ss rest

  -- the arms up to the `}` of a `switch`; its brace is one of the b brackets
  pub ArmedWithin : ℕ → List Token → List Arm → List Token → Type 0
  ArmedWithin zero ts more rest = ⊥
  ArmedWithin (suc b) ts more rest =
      Arms (Spells b conditional) (Statement (Spells b expr) (Within b expr) (Declares b false) (HeaderWithin b) (BracedWithin b) (ArmedWithin b)) ts more rest
