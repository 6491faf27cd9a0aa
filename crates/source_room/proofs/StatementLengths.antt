-- Behind a statement no more tokens stand than from its front on.
use Rattle.std.proofs.Common.{ℕ, zero, suc, ◌≤◌, List, length, false, arith}
use Rattle.c_tokens.specs.declared.token.Token.{Token}
use Rattle.c_parser.specs.Signs.{conditional, expr}
use Rattle.c_parser.specs.Tree.{Exp, Declared, Stm, Arm}
use Rattle.c_parser.specs.Expressions.{Within, Spells}
use Rattle.c_parser.specs.Statements.{Parts, Optional, NoExpression, AnExpression, FirstPart, DeclaredFirst, ExpressionFirst, NothingFirst, AllParts, Statement, AnEmpty, AnExpressionStatement, ABlock, ABreak, AContinue, AReturn, AReturnOf, ALabel, AnIf, AnIfElse, AWhile, ADo, AFor, ASwitch, Element, ADeclarationStatement, AStatement, Elements, NoMoreElements, MoreElements, Labelled, ACase, ADefault, Body, NoMoreStatements, MoreStatements, Arms, NoMoreArms, MoreArms, Declares, HeaderWithin, BracedWithin, ArmedWithin}
use Rattle.source_room.proofs.ExpressionLengths.{TakesTokens, within_takes, spells_takes}
use Rattle.source_room.proofs.DeclarationLengths.{declares_take}

module _ (Whole Paren : List Token → Exp → List Token → Type 0) (Declaring : List Token → List Declared → List Token → Type 0)
    (Header : List Token → Parts → List Token → Type 0) (Braced : List Token → List Stm → List Token → Type 0)
    (Armed : List Token → List Arm → List Token → Type 0) (whole : TakesTokens Whole) (paren : TakesTokens Paren) (declaring : TakesTokens Declaring)
    (header : TakesTokens Header) (braced : TakesTokens Braced) (armed : TakesTokens Armed) where
  pub statement_takes : TakesTokens (Statement Whole Paren Declaring Header Braced Armed)
  statement_takes ts s rest AnEmpty = omega arith
  statement_takes ts s rest (AnExpressionStatement a) = let x = whole _ _ _ a in omega arith
  statement_takes ts s rest (ABlock a) = let x = braced _ _ _ a in omega arith
  statement_takes ts s rest ABreak = omega arith
  statement_takes ts s rest AContinue = omega arith
  statement_takes ts s rest AReturn = omega arith
  statement_takes ts s rest (AReturnOf a) = let x = whole _ _ _ a in omega arith
  statement_takes ts s rest (ALabel n a) = let x = statement_takes _ _ _ a in omega arith
  statement_takes ts s rest (AnIf a b c) = let x = paren _ _ _ a in let y = statement_takes _ _ _ b in omega arith
  statement_takes ts s rest (AnIfElse a b c) = let x = paren _ _ _ a in let y = statement_takes _ _ _ b in let z = statement_takes _ _ _ c in omega arith
  statement_takes ts s rest (AWhile a b) = let x = paren _ _ _ a in let y = statement_takes _ _ _ b in omega arith
  statement_takes ts s rest (ADo a b) = let x = statement_takes _ _ _ a in let y = paren _ _ _ b in omega arith
  statement_takes ts s rest (AFor a b) = let x = header _ _ _ a in let y = statement_takes _ _ _ b in omega arith
  statement_takes ts s rest (ASwitch a b) = let x = paren _ _ _ a in let y = armed _ _ _ b in omega arith

  element_takes : TakesTokens (Element Whole Paren Declaring Header Braced Armed)
  element_takes ts s rest (ADeclarationStatement d) = declaring _ _ _ d
  element_takes ts s rest (AStatement d) = statement_takes _ _ _ d

  pub elements_take : TakesTokens (Elements Whole Paren Declaring Header Braced Armed)
  elements_take ts ss rest NoMoreElements = omega arith
  elements_take ts ss rest (MoreElements d more) = let x = element_takes _ _ _ d in let y = elements_take _ _ _ more in omega arith

module _ (b : ℕ) where
  optional_takes : TakesTokens (Optional (Spells b expr) (Declares b false))
  optional_takes ts e rest NoExpression = omega arith
  optional_takes ts e rest (AnExpression a) = spells_takes b expr _ _ _ a

  first_takes : TakesTokens (FirstPart (Spells b expr) (Declares b false))
  first_takes ts f rest (DeclaredFirst d) = declares_take b false _ _ _ d
  first_takes ts f rest (ExpressionFirst a) = let x = spells_takes b expr _ _ _ a in omega arith
  first_takes ts f rest NothingFirst = omega arith

header_takes : (b : ℕ) → TakesTokens (HeaderWithin b)
unfolding HeaderWithin
header_takes zero ts parts rest d = absurd d
header_takes (suc b) ts parts rest (AllParts f e u) = let x = first_takes b _ _ _ f in let y = optional_takes b _ _ _ e in let z = optional_takes b _ _ _ u in omega arith

module _ (b : ℕ) (One : List Token → Stm → List Token → Type 0) (one : TakesTokens One) where
  label_takes : TakesTokens (Labelled (Spells b conditional) One)
  label_takes ts l rest (ACase a) = let x = spells_takes b conditional _ _ _ a in omega arith
  label_takes ts l rest ADefault = omega arith

  body_takes : TakesTokens (Body (Spells b conditional) One)
  body_takes ts ss rest NoMoreStatements = omega arith
  body_takes ts ss rest (MoreStatements d more) = let x = one _ _ _ d in let y = body_takes _ _ _ more in omega arith

  arms_take : TakesTokens (Arms (Spells b conditional) One)
  arms_take ts all rest NoMoreArms = omega arith
  arms_take ts all rest (MoreArms l d more) = let x = label_takes _ _ _ l in let y = body_takes _ _ _ d in let z = arms_take _ _ _ more in omega arith

mutual
  unfolding BracedWithin ArmedWithin

  pub braced_takes : (b : ℕ) (ts : List Token) (ss : List Stm) (rest : List Token) → BracedWithin b ts ss rest → length rest ≤ length ts
  braced_takes zero ts ss rest d = absurd d
  braced_takes (suc b) ts ss rest d =
      elements_take (Spells b expr) (Within b expr) (Declares b false) (HeaderWithin b) (BracedWithin b) (ArmedWithin b)
      (spells_takes b expr) (within_takes b expr) (declares_take b false) (header_takes b) (braced_takes b) (armed_takes b) ts ss rest d

  armed_takes : (b : ℕ) (ts : List Token) (all : List Arm) (rest : List Token) → ArmedWithin b ts all rest → length rest ≤ length ts
  armed_takes zero ts all rest d = absurd d
  armed_takes (suc b) ts all rest d =
      arms_take b (Statement (Spells b expr) (Within b expr) (Declares b false) (HeaderWithin b) (BracedWithin b) (ArmedWithin b))
      (statement_takes (Spells b expr) (Within b expr) (Declares b false) (HeaderWithin b) (BracedWithin b) (ArmedWithin b)
      (spells_takes b expr) (within_takes b expr) (declares_take b false) (header_takes b) (braced_takes b) (armed_takes b)) ts all rest d
