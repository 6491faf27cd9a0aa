-- In what tokens spell each declaration stands directly in a block, and none in an arm of a `switch`.
use Rattle.std.proofs.Common.{◌≡◌, ℕ, zero, suc, List, true, false, refl}
use Rattle.c_tokens.specs.declared.token.Token.{Token}
use Rattle.c_parser.specs.Tree.{Exp, Declared, Stm, Stmt, Form, Stms, Arm, stms, joined, arms}
use Rattle.c_parser.specs.Tree as form
use Rattle.c_parser.specs.Formed.{nests, form_nests, block_nests}
use Rattle.c_parser.specs.Signs.{conditional, expr}
use Rattle.c_parser.specs.Expressions.{Within, Spells}
use Rattle.c_parser.specs.Statements.{Parts, Statement, AnEmpty, AnExpressionStatement, ABlock, ABreak, AContinue, AReturn, AReturnOf, ALabel, AnIf, AnIfElse, AWhile, ADo, AFor, ASwitch, Element, ADeclarationStatement, AStatement, Elements, NoMoreElements, MoreElements, Body, NoMoreStatements, MoreStatements, Arms, NoMoreArms, MoreArms, Declares, HeaderWithin, BracedWithin, ArmedWithin}
use Rattle.c_parser.proofs.Passing.{and_true}

-- what nests anywhere nests in a block
form_in_block : (f : Form) → form_nests false f ≡ true → form_nests true f ≡ true
form_in_block form.Empty h = refl
form_in_block (form.Do e) h = refl
form_in_block (form.Declare ds) h = refl
form_in_block (form.Block b) h = h
form_in_block (form.If e s o) h = h
form_in_block (form.While e s) h = h
form_in_block (form.DoWhile s e) h = h
form_in_block (form.For i e u s) h = h
form_in_block form.Break h = refl
form_in_block form.Continue h = refl
form_in_block (form.Return e) h = refl
form_in_block (form.Label w s) h = h
form_in_block (form.Switch e b) h = h

in_block : (s : Stm) → nests false s ≡ true → nests true s ≡ true
in_block (Stmt p f) h = form_in_block f h

module _ (Whole Paren : List Token → Exp → List Token → Type 0) (Declares : List Token → List Declared → List Token → Type 0)
    (Header : List Token → Parts → List Token → Type 0) (Braced : List Token → List Stm → List Token → Type 0) (Armed : List Token → List Arm → List Token → Type 0)
    (braced : (ts : List Token) (ss : List Stm) (rest : List Token) → Braced ts ss rest → block_nests true (stms ss) ≡ true)
    (armed : (ts : List Token) (all : List Arm) (rest : List Token) → Armed ts all rest → block_nests false (arms all) ≡ true) where
  statement_nests : (ts : List Token) (s : Stm) (rest : List Token) → Statement Whole Paren Declares Header Braced Armed ts s rest → nests false s ≡ true
  statement_nests ts s rest AnEmpty = refl
  statement_nests ts s rest (AnExpressionStatement d) = refl
  statement_nests ts s rest (ABlock d) = braced _ _ _ d
  statement_nests ts s rest ABreak = refl
  statement_nests ts s rest AContinue = refl
  statement_nests ts s rest AReturn = refl
  statement_nests ts s rest (AReturnOf d) = refl
  statement_nests ts s rest (ALabel n d) = statement_nests _ _ _ d
  statement_nests ts s rest (AnIf {s = t} d x n) = and_true (nests false t) true (statement_nests _ _ _ x) refl
  statement_nests ts s rest (AnIfElse {s = t} {t = u} d x y) = and_true (nests false t) (nests false u) (statement_nests _ _ _ x) (statement_nests _ _ _ y)
  statement_nests ts s rest (AWhile d x) = statement_nests _ _ _ x
  statement_nests ts s rest (ADo x d) = statement_nests _ _ _ x
  statement_nests ts s rest (AFor d x) = statement_nests _ _ _ x
  statement_nests ts s rest (ASwitch d x) = armed _ _ _ x

  element_nests : (ts : List Token) (s : Stm) (rest : List Token) → Element Whole Paren Declares Header Braced Armed ts s rest → nests true s ≡ true
  element_nests ts s rest (ADeclarationStatement d) = refl
  element_nests ts s rest (AStatement d) = in_block s (statement_nests _ _ _ d)

  elements_nest : (ts : List Token) (ss : List Stm) (rest : List Token) → Elements Whole Paren Declares Header Braced Armed ts ss rest → block_nests true (stms ss) ≡ true
  elements_nest ts ss rest NoMoreElements = refl
  elements_nest ts ss rest (MoreElements {s = s} {ss = more} d ds) = and_true (nests true s) (block_nests true (stms more)) (element_nests _ _ _ d) (elements_nest _ _ _ ds)

  module _ (Constant : List Token → Exp → List Token → Type 0) where
    -- the statements of an arm, and what stands after them
    body_nests : (ts : List Token) (ss : List Stm) (rest : List Token) (b : Stms) → Body Constant (Statement Whole Paren Declares Header Braced Armed) ts ss rest → block_nests false b ≡ true → block_nests false (joined (stms ss) b) ≡ true
    body_nests ts ss rest b NoMoreStatements h = h
    body_nests ts ss rest b (MoreStatements {s = s} {ss = more} d ds) h = and_true (nests false s) (block_nests false (joined (stms more) b)) (statement_nests _ _ _ d) (body_nests _ _ _ b ds h)

    arms_nest : (ts : List Token) (all : List Arm) (rest : List Token) → Arms Constant (Statement Whole Paren Declares Header Braced Armed) ts all rest → block_nests false (arms all) ≡ true
    arms_nest ts all rest NoMoreArms = refl
    arms_nest ts all rest (MoreArms l d ds) = body_nests _ _ _ _ d (arms_nest _ _ _ ds)

mutual
  unfolding BracedWithin ArmedWithin

  pub braced_nests : (b : ℕ) (ts : List Token) (ss : List Stm) (rest : List Token) → BracedWithin b ts ss rest → block_nests true (stms ss) ≡ true
  braced_nests zero ts ss rest d = absurd d
  braced_nests (suc b) ts ss rest d =
      elements_nest (Spells b expr) (Within b expr) (Declares b false) (HeaderWithin b) (BracedWithin b) (ArmedWithin b) (braced_nests b) (armed_nests b) ts ss rest d

  armed_nests : (b : ℕ) (ts : List Token) (all : List Arm) (rest : List Token) → ArmedWithin b ts all rest → block_nests false (arms all) ≡ true
  armed_nests zero ts all rest d = absurd d
  armed_nests (suc b) ts all rest d =
      arms_nest (Spells b expr) (Within b expr) (Declares b false) (HeaderWithin b) (BracedWithin b) (ArmedWithin b) (braced_nests b) (armed_nests b) (Spells b conditional) ts all rest d
