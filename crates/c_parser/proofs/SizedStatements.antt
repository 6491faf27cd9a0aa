-- Each name that tokens declare has at most two sizes.
use Rattle.std.proofs.Common.{◌≡◌, ℕ, zero, suc, List, Bool, true, false, refl, Option}
use Rattle.std.specs.List.{list_all}
use Rattle.c_core.specs.declared.number.IntType.{IntType}
use Rattle.c_tokens.specs.declared.token.Token.{Token}
use Rattle.c_parser.specs.Tree.{Exp, Declared, First, Stm, Stms, Arm, stms, joined, arms}
use Rattle.c_parser.specs.Formed.{sizes_fit, every_declared, every_declared_first, every_declared_block}
use Rattle.c_parser.specs.Signs.{conditional, expr}
use Rattle.c_parser.specs.Brackets.{PassedWithin}
use Rattle.c_parser.specs.Expressions.{OneDimension, TwoDimensions, Within, Spells}
use Rattle.c_parser.specs.Declarations.{NoSizes, SomeSizes, Declarator, ADeclarator, Declarators, LastDeclarator, MoreDeclarators, ADeclaration}
use Rattle.c_parser.specs.Statements.{FirstPart, DeclaredFirst, ExpressionFirst, NothingFirst, AllParts, Statement, AnEmpty, AnExpressionStatement, ABlock, ABreak, AContinue, AReturn, AReturnOf, ALabel, AnIf, AnIfElse, AWhile, ADo, AFor, ASwitch, Element, ADeclarationStatement, AStatement, Elements, NoMoreElements, MoreElements, Body, NoMoreStatements, MoreStatements, Arms, NoMoreArms, MoreArms, RowsWithin, Declares, HeaderWithin, BracedWithin, ArmedWithin}
use Rattle.c_parser.proofs.Passing.{and_true}

module _ (b : ℕ) where
  declarator_sized : (ty : IntType) (ts : List Token) (d : Declared) (rest : List Token) → Declarator (PassedWithin b) (Spells b) (Within b) (RowsWithin b) ty ts d rest → sizes_fit d ≡ true
  declarator_sized ty ts d rest (ADeclarator n NoSizes i) = refl
  declarator_sized ty ts d rest (ADeclarator n (SomeSizes (OneDimension x)) i) = refl
  declarator_sized ty ts d rest (ADeclarator n (SomeSizes (TwoDimensions x y)) i) = refl

  declarators_sized : (ty : IntType) (ts : List Token) (ds : List Declared) (rest : List Token) → Declarators (PassedWithin b) (Spells b) (Within b) (RowsWithin b) ty ts ds rest → list_all sizes_fit ds ≡ true
  declarators_sized ty ts ds rest (LastDeclarator {d = d} x) = and_true (sizes_fit d) true (declarator_sized _ _ _ _ x) refl
  declarators_sized ty ts ds rest (MoreDeclarators {d = d} {ds = more} x others) = and_true (sizes_fit d) (list_all sizes_fit more) (declarator_sized _ _ _ _ x) (declarators_sized _ _ _ _ others)

  pub declares_sized : (outside : Bool) (ts : List Token) (ds : List Declared) (rest : List Token) → Declares b outside ts ds rest → list_all sizes_fit ds ≡ true
  declares_sized outside ts ds rest (ADeclaration t d) = declarators_sized _ _ _ _ d

  first_sized : (ts : List Token) (first : First) (rest : List Token) → FirstPart (Spells b expr) (Declares b false) ts first rest → every_declared_first sizes_fit first ≡ true
  first_sized ts first rest (DeclaredFirst d) = declares_sized _ _ _ _ d
  first_sized ts first rest (ExpressionFirst d) = refl
  first_sized ts first rest NothingFirst = refl

header_sized : (b : ℕ) (ts : List Token) (first : First) (test step : Option Exp) (rest : List Token) → HeaderWithin b ts (first, test, step) rest → every_declared_first sizes_fit first ≡ true
unfolding HeaderWithin
header_sized zero ts first test step rest d = absurd d
header_sized (suc b) ts first test step rest (AllParts f e u) = first_sized b _ _ _ f

-- `Braced` is what stands in the braces of a block, `Armed` what stands in those of a `switch`
module _ (b : ℕ) (Braced : List Token → List Stm → List Token → Type 0) (Armed : List Token → List Arm → List Token → Type 0)
    (braced : (ts : List Token) (ss : List Stm) (rest : List Token) → Braced ts ss rest → every_declared_block sizes_fit (stms ss) ≡ true)
    (armed : (ts : List Token) (all : List Arm) (rest : List Token) → Armed ts all rest → every_declared_block sizes_fit (arms all) ≡ true) where
  abbrev One : List Token → Stm → List Token → Type 0
  One = Statement (Spells b expr) (Within b expr) (Declares b false) (HeaderWithin b) Braced Armed

  statement_sized : (ts : List Token) (s : Stm) (rest : List Token) → Statement (Spells b expr) (Within b expr) (Declares b false) (HeaderWithin b) Braced Armed ts s rest → every_declared sizes_fit s ≡ true
  statement_sized ts s rest AnEmpty = refl
  statement_sized ts s rest (AnExpressionStatement d) = refl
  statement_sized ts s rest (ABlock d) = braced _ _ _ d
  statement_sized ts s rest ABreak = refl
  statement_sized ts s rest AContinue = refl
  statement_sized ts s rest AReturn = refl
  statement_sized ts s rest (AReturnOf d) = refl
  statement_sized ts s rest (ALabel n d) = statement_sized _ _ _ d
  statement_sized ts s rest (AnIf {s = t} d x n) = and_true (every_declared sizes_fit t) true (statement_sized _ _ _ x) refl
  statement_sized ts s rest (AnIfElse {s = t} {t = u} d x y) = and_true (every_declared sizes_fit t) (every_declared sizes_fit u) (statement_sized _ _ _ x) (statement_sized _ _ _ y)
  statement_sized ts s rest (AWhile d x) = statement_sized _ _ _ x
  statement_sized ts s rest (ADo x d) = statement_sized _ _ _ x
  statement_sized ts s rest (AFor {first = first} {s = t} d x) = and_true (every_declared_first sizes_fit first) (every_declared sizes_fit t) (header_sized b _ _ _ _ _ d) (statement_sized _ _ _ x)
  statement_sized ts s rest (ASwitch d x) = armed _ _ _ x

  element_sized : (ts : List Token) (s : Stm) (rest : List Token) → Element (Spells b expr) (Within b expr) (Declares b false) (HeaderWithin b) Braced Armed ts s rest → every_declared sizes_fit s ≡ true
  element_sized ts s rest (ADeclarationStatement d) = declares_sized b _ _ _ _ d
  element_sized ts s rest (AStatement d) = statement_sized _ _ _ d

  elements_sized : (ts : List Token) (ss : List Stm) (rest : List Token) → Elements (Spells b expr) (Within b expr) (Declares b false) (HeaderWithin b) Braced Armed ts ss rest → every_declared_block sizes_fit (stms ss) ≡ true
  elements_sized ts ss rest NoMoreElements = refl
  elements_sized ts ss rest (MoreElements {s = s} {ss = more} d ds) = and_true (every_declared sizes_fit s) (every_declared_block sizes_fit (stms more)) (element_sized _ _ _ d) (elements_sized _ _ _ ds)

  -- the statements of an arm, and what stands after them
  body_sized : (ts : List Token) (ss : List Stm) (rest : List Token) (c : Stms) → Body (Spells b conditional) One ts ss rest → every_declared_block sizes_fit c ≡ true → every_declared_block sizes_fit (joined (stms ss) c) ≡ true
  body_sized ts ss rest c NoMoreStatements h = h
  body_sized ts ss rest c (MoreStatements {s = s} {ss = more} d ds) h = and_true (every_declared sizes_fit s) (every_declared_block sizes_fit (joined (stms more) c)) (statement_sized _ _ _ d) (body_sized _ _ _ c ds h)

  arms_sized : (ts : List Token) (all : List Arm) (rest : List Token) → Arms (Spells b conditional) One ts all rest → every_declared_block sizes_fit (arms all) ≡ true
  arms_sized ts all rest NoMoreArms = refl
  arms_sized ts all rest (MoreArms l d ds) = body_sized _ _ _ _ d (arms_sized _ _ _ ds)

mutual
  unfolding BracedWithin ArmedWithin

  pub braced_sized : (b : ℕ) (ts : List Token) (ss : List Stm) (rest : List Token) → BracedWithin b ts ss rest → every_declared_block sizes_fit (stms ss) ≡ true
  braced_sized zero ts ss rest d = absurd d
  braced_sized (suc b) ts ss rest d = elements_sized b (BracedWithin b) (ArmedWithin b) (braced_sized b) (armed_sized b) ts ss rest d

  armed_sized : (b : ℕ) (ts : List Token) (all : List Arm) (rest : List Token) → ArmedWithin b ts all rest → every_declared_block sizes_fit (arms all) ≡ true
  armed_sized zero ts all rest d = absurd d
  armed_sized (suc b) ts all rest d = arms_sized b (BracedWithin b) (ArmedWithin b) (braced_sized b) (armed_sized b) ts all rest d
