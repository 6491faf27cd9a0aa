-- Small texts that the relations themselves spell, derived: nearly every production stands in one of them.
use Rattle.std.proofs.Common.{ℕ, zero, suc, List, [], ◌∷◌, true, false, refl, Bool, Option, arith}
use Rattle.std.specs.Prelude.{codes, ℤ}
use Rattle.c_tokens.specs.declared.token.Token.{Token}
use Rattle.c_parser.specs.Tree.{Exp, Item}
use Rattle.c_core.specs.declared.number.Spot.{Spot}
use Rattle.c_tokens.specs.declared.token.TokenKind.TheVariants as kind
use Rattle.c_tokens.specs.declared.token.Punct.TheVariants as sign
use Rattle.c_parser.specs.Signs.{token, sign_token, word_token}
use Rattle.c_parser.specs.Brackets.{NothingPassed, OnePassed, PairPassed, PassedWithin}
use Rattle.c_parser.specs.Expressions.{Expression, Stronger, Joined, Assigned, Chosen, SteppedBefore, Signed, Converted, SteppedBehind, AName, AnElement, ABareCall, ACall, ANumber, ACharacter, AGroup, InBrackets, OneDimension, TwoDimensions, LastArgument, MoreArguments, Within}
use Rattle.c_parser.specs.Expressions as name
use Rattle.c_parser.specs.Declarations.{NoMoreSpecifiers, ATypeWord, ASpecifier, AnAttributeBefore, NoMoreAttributes, AnAttribute, LastOne, LastAndComma, MoreOnes, NoSizes, SomeSizes, ARow, NoInitializer, OneValue, AList, AListOfRows, ADeclarator, LastDeclarator, MoreDeclarators, ADeclaration}
use Rattle.c_parser.specs.Statements.{NoExpression, AnExpression, DeclaredFirst, ExpressionFirst, NothingFirst, AllParts, AnEmpty, AnExpressionStatement, ABlock, ABreak, AContinue, AReturn, AReturnOf, ALabel, AnIf, AnIfElse, AWhile, ADo, AFor, ASwitch, ADeclarationStatement, AStatement, NoMoreElements, MoreElements, ACase, ADefault, NoMoreStatements, MoreStatements, NoMoreArms, MoreArms, RowsWithin, HeaderWithin, BracedWithin, ArmedWithin}
use Rattle.c_parser.specs.Items.{AParameter, LastParameter, NoParameters, VoidParameters, SomeParameters, Unnamed, Named, LastType, MoreTypes, Unstated, VoidTypes, StatedTypes, Reach, AReach, Function, AFunction, Prototype, APrototype, Global, AGlobal, Closed, AClosed}

-- n strengths more
abbrev more : ℕ → ℕ → ℕ
more zero k = k
more (suc n) k = suc (more n k)

-- what holds together more strongly
down : (n : ℕ) {room : Bool} {Inner : ℕ → List Token → Exp → List Token → Type 0} {k : ℕ} {ts : List Token} {e : Exp} {rest : List Token} → Expression room Inner (more n k) ts e rest → Expression room Inner k ts e rest
down zero d = d
down (suc n) d = down n (Stronger d)

-- the form spells these tokens to their end
Found : (List Token → Option Item → List Token → Type 0) → List Token → Type 0
Found Form ts = (x : Option Item) × Form ts x []

-- places don't matter here
p : Spot
p = record { line = 1; column = 1 }

call : Found (Function 9 9) (word_token (codes "int") p ∷ word_token (codes "f") p ∷ sign_token sign.ParenOpen p ∷ word_token (codes "int") p ∷ word_token (codes "a") p ∷ sign_token sign.ParenClose p ∷ sign_token sign.BraceOpen p ∷ word_token (codes "g") p ∷ sign_token sign.ParenOpen p ∷ word_token (codes "a") p ∷ sign_token sign.Comma p ∷ token (kind.Number 1 true false 0) p ∷ sign_token sign.ParenClose p ∷ sign_token sign.Semicolon p ∷ word_token (codes "if") p ∷ sign_token sign.ParenOpen p ∷ word_token (codes "a") p ∷ sign_token sign.ParenClose p ∷ sign_token sign.Semicolon p ∷ word_token (codes "else") p ∷ word_token (codes "return") p ∷ sign_token sign.Minus p ∷ word_token (codes "a") p ∷ sign_token sign.Semicolon p ∷ sign_token sign.BraceClose p ∷ [])
unfolding Found Within BracedWithin ArmedWithin RowsWithin HeaderWithin PassedWithin
call = (
  _,
  AFunction _ _ _
      (record { words = _; specifiers = ATypeWord refl NoMoreSpecifiers; spelled = refl })
      refl
      (SomeParameters (LastParameter (AParameter (record { words = _; specifiers = ATypeWord refl NoMoreSpecifiers; spelled = refl }) refl)))
      NoMoreAttributes
      (MoreElements (AStatement (AnExpressionStatement (down 16 (ACall refl (MoreArguments (down 15 (AName refl)) (LastArgument (down 15 ANumber)))))))
      (MoreElements (AStatement (AnIfElse (down 16 (AName refl)) AnEmpty (AReturnOf (down 14 (Signed refl (down 3 (AName refl)))))))
      NoMoreElements))
      (omega arith),
)

header : Found (Function 9 9) (word_token (codes "void") p ∷ word_token (codes "g") p ∷ sign_token sign.ParenOpen p ∷ word_token (codes "void") p ∷ sign_token sign.ParenClose p ∷ sign_token sign.BraceOpen p ∷ word_token (codes "for") p ∷ sign_token sign.ParenOpen p ∷ word_token (codes "int") p ∷ word_token (codes "i") p ∷ sign_token sign.Assign p ∷ token (kind.Number 0 true false 0) p ∷ sign_token sign.Comma p ∷ word_token (codes "k") p ∷ sign_token sign.BracketOpen p ∷ token (kind.Number 2 true false 0) p ∷ sign_token sign.BracketClose p ∷ sign_token sign.Assign p ∷ sign_token sign.BraceOpen p ∷ token (kind.Number 1 true false 0) p ∷ sign_token sign.Comma p ∷ token (kind.Number 2 true false 0) p ∷ sign_token sign.Comma p ∷ sign_token sign.BraceClose p ∷ sign_token sign.Semicolon p ∷ word_token (codes "i") p ∷ sign_token sign.Less p ∷ token (kind.Number 3 true false 0) p ∷ sign_token sign.Semicolon p ∷ word_token (codes "i") p ∷ sign_token sign.PlusPlus p ∷ sign_token sign.ParenClose p ∷ word_token (codes "a") p ∷ sign_token sign.Assign p ∷ sign_token sign.ParenOpen p ∷ word_token (codes "char") p ∷ sign_token sign.ParenClose p ∷ word_token (codes "b") p ∷ sign_token sign.Question p ∷ word_token (codes "c") p ∷ sign_token sign.BracketOpen p ∷ token (kind.Number 1 true false 0) p ∷ sign_token sign.BracketClose p ∷ sign_token sign.Colon p ∷ sign_token sign.ParenOpen p ∷ word_token (codes "d") p ∷ sign_token sign.Comma p ∷ word_token (codes "e") p ∷ sign_token sign.ParenClose p ∷ sign_token sign.Semicolon p ∷ sign_token sign.BraceClose p ∷ [])
unfolding Found Within BracedWithin ArmedWithin RowsWithin HeaderWithin PassedWithin
header = (
  _,
  AFunction _ _ _
      (record { words = _; specifiers = ATypeWord refl NoMoreSpecifiers; spelled = refl })
      refl
      VoidParameters
      NoMoreAttributes
      (MoreElements (AStatement (AFor
      (AllParts
      (DeclaredFirst (ADeclaration (record { words = _; specifiers = ATypeWord refl NoMoreSpecifiers; spelled = refl })
      (MoreDeclarators (ADeclarator refl NoSizes (OneValue (down 15 ANumber)))
      (LastDeclarator (ADeclarator refl (SomeSizes (OneDimension (InBrackets (down 14 ANumber)))) (AList (MoreOnes (down 15 ANumber) (LastAndComma (down 15 ANumber)))))))))
      (AnExpression (down 9 (Joined refl (down 7 (AName refl)) (down 6 ANumber))))
      (AnExpression (down 15 (SteppedBehind refl (Stronger (AName refl))))))
      (AnExpressionStatement (Stronger (Assigned refl (down 2 (AName refl))
      (Stronger (Chosen (down 10 (Converted refl (name.ATypeWord refl name.NoMoreWords) refl (down 3 (AName refl))))
      (down 16 (AnElement refl (OneDimension (InBrackets (down 16 ANumber)))))
      (down 14 (AGroup (Joined refl (down 16 (AName refl)) (down 15 (AName refl))))))))))))
      NoMoreElements)
      (omega arith),
)

loops : Found (Function 9 9) (word_token (codes "long") p ∷ word_token (codes "h") p ∷ sign_token sign.ParenOpen p ∷ sign_token sign.ParenClose p ∷ word_token (codes "__attribute__") p ∷ sign_token sign.ParenOpen p ∷ sign_token sign.ParenOpen p ∷ word_token (codes "x") p ∷ sign_token sign.ParenClose p ∷ sign_token sign.ParenClose p ∷ sign_token sign.BraceOpen p ∷ word_token (codes "l") p ∷ sign_token sign.Colon p ∷ word_token (codes "while") p ∷ sign_token sign.ParenOpen p ∷ word_token (codes "a") p ∷ sign_token sign.ParenClose p ∷ sign_token sign.BraceOpen p ∷ word_token (codes "break") p ∷ sign_token sign.Semicolon p ∷ sign_token sign.BraceClose p ∷ word_token (codes "do") p ∷ word_token (codes "continue") p ∷ sign_token sign.Semicolon p ∷ word_token (codes "while") p ∷ sign_token sign.ParenOpen p ∷ word_token (codes "f") p ∷ sign_token sign.ParenOpen p ∷ sign_token sign.ParenClose p ∷ sign_token sign.ParenClose p ∷ sign_token sign.Semicolon p ∷ word_token (codes "for") p ∷ sign_token sign.ParenOpen p ∷ word_token (codes "x") p ∷ sign_token sign.Semicolon p ∷ sign_token sign.Semicolon p ∷ sign_token sign.ParenClose p ∷ word_token (codes "return") p ∷ sign_token sign.Semicolon p ∷ word_token (codes "for") p ∷ sign_token sign.ParenOpen p ∷ sign_token sign.Semicolon p ∷ sign_token sign.Semicolon p ∷ sign_token sign.PlusPlus p ∷ word_token (codes "x") p ∷ sign_token sign.ParenClose p ∷ sign_token sign.Semicolon p ∷ word_token (codes "int") p ∷ word_token (codes "y") p ∷ sign_token sign.Semicolon p ∷ word_token (codes "if") p ∷ sign_token sign.ParenOpen p ∷ word_token (codes "b") p ∷ sign_token sign.ParenClose p ∷ sign_token sign.BraceOpen p ∷ sign_token sign.BraceClose p ∷ sign_token sign.BraceClose p ∷ [])
unfolding Found Within BracedWithin ArmedWithin RowsWithin HeaderWithin PassedWithin
loops = (
  _,
  AFunction _ _ _
      (record { words = _; specifiers = ATypeWord refl NoMoreSpecifiers; spelled = refl })
      refl
      NoParameters
      (AnAttribute refl (PairPassed refl (OnePassed refl NothingPassed) NothingPassed) NoMoreAttributes)
      (MoreElements (AStatement (ALabel refl (AWhile (down 16 (AName refl)) (ABlock (MoreElements (AStatement ABreak) NoMoreElements)))))
      (MoreElements (AStatement (ADo AContinue (down 16 (ABareCall refl refl))))
      (MoreElements (AStatement (AFor (AllParts (ExpressionFirst (down 16 (AName refl))) NoExpression NoExpression) AReturn))
      (MoreElements (AStatement (AFor (AllParts NothingFirst NoExpression (AnExpression (down 14 (SteppedBefore refl (down 2 (AName refl)))))) AnEmpty))
      (MoreElements (ADeclarationStatement (ADeclaration (record { words = _; specifiers = ATypeWord refl NoMoreSpecifiers; spelled = refl }) (LastDeclarator (ADeclarator refl NoSizes NoInitializer))))
      (MoreElements (AStatement (AnIf (down 16 (AName refl)) (ABlock NoMoreElements) refl))
      NoMoreElements))))))
      (omega arith),
)

arms : Found (Function 9 9) (word_token (codes "int") p ∷ word_token (codes "s") p ∷ sign_token sign.ParenOpen p ∷ sign_token sign.ParenClose p ∷ sign_token sign.BraceOpen p ∷ word_token (codes "switch") p ∷ sign_token sign.ParenOpen p ∷ word_token (codes "a") p ∷ sign_token sign.ParenClose p ∷ sign_token sign.BraceOpen p ∷ word_token (codes "case") p ∷ sign_token sign.Minus p ∷ token (kind.Number 1 true false 0) p ∷ sign_token sign.Colon p ∷ word_token (codes "b") p ∷ sign_token sign.BracketOpen p ∷ token (kind.Number 0 true false 0) p ∷ sign_token sign.BracketClose p ∷ sign_token sign.BracketOpen p ∷ token (kind.Number 1 true false 0) p ∷ sign_token sign.BracketClose p ∷ sign_token sign.Semicolon p ∷ word_token (codes "case") p ∷ token (kind.Number 2 true false 0) p ∷ sign_token sign.Colon p ∷ word_token (codes "default") p ∷ sign_token sign.Colon p ∷ word_token (codes "break") p ∷ sign_token sign.Semicolon p ∷ sign_token sign.BraceClose p ∷ sign_token sign.BraceClose p ∷ [])
unfolding Found Within BracedWithin ArmedWithin RowsWithin HeaderWithin PassedWithin
arms = (
  _,
  AFunction _ _ _
      (record { words = _; specifiers = ATypeWord refl NoMoreSpecifiers; spelled = refl })
      refl
      NoParameters
      NoMoreAttributes
      (MoreElements (AStatement (ASwitch (down 16 (AName refl))
      (MoreArms (ACase (down 12 (Signed refl (down 3 ANumber))))
      (MoreStatements (AnExpressionStatement (down 16 (AnElement refl (TwoDimensions (InBrackets (down 16 ANumber)) (InBrackets (down 16 ANumber)))))) NoMoreStatements)
      (MoreArms (ACase (down 14 ANumber)) NoMoreStatements
      (MoreArms ADefault (MoreStatements ABreak NoMoreStatements)
      NoMoreArms)))))
      NoMoreElements)
      (omega arith),
)

rows : Found (Global 9 9) (word_token (codes "int") p ∷ word_token (codes "r") p ∷ sign_token sign.BracketOpen p ∷ token (kind.Number 2 true false 0) p ∷ sign_token sign.BracketClose p ∷ sign_token sign.BracketOpen p ∷ token (kind.Number 2 true false 0) p ∷ sign_token sign.BracketClose p ∷ sign_token sign.Assign p ∷ sign_token sign.BraceOpen p ∷ sign_token sign.BraceOpen p ∷ token (kind.Number 1 true false 0) p ∷ sign_token sign.Comma p ∷ token (kind.Number 2 true false 0) p ∷ sign_token sign.BraceClose p ∷ sign_token sign.Comma p ∷ sign_token sign.BraceOpen p ∷ token (kind.Number 3 true false 0) p ∷ sign_token sign.Comma p ∷ sign_token sign.BraceClose p ∷ sign_token sign.Comma p ∷ sign_token sign.BraceClose p ∷ sign_token sign.Semicolon p ∷ [])
unfolding Found Within BracedWithin ArmedWithin RowsWithin HeaderWithin PassedWithin
rows = (
  _,
  AGlobal (ADeclaration (record { words = _; specifiers = ATypeWord refl NoMoreSpecifiers; spelled = refl })
      (LastDeclarator (ADeclarator refl (SomeSizes (TwoDimensions (InBrackets (down 14 ANumber)) (InBrackets (down 14 ANumber))))
      (AListOfRows (MoreOnes (ARow (MoreOnes (down 15 ANumber) (LastOne (down 15 ANumber)))) (LastAndComma (ARow (LastAndComma (down 15 ANumber)))))))))
      ((omega arith, (omega arith, tt))),
)

stated : Found (Prototype 9 9) (word_token (codes "extern") p ∷ word_token (codes "int") p ∷ word_token (codes "p") p ∷ sign_token sign.ParenOpen p ∷ word_token (codes "int") p ∷ sign_token sign.Comma p ∷ word_token (codes "const") p ∷ word_token (codes "char") p ∷ word_token (codes "c") p ∷ sign_token sign.ParenClose p ∷ word_token (codes "__asm__") p ∷ sign_token sign.ParenOpen p ∷ token kind.Str p ∷ sign_token sign.ParenClose p ∷ sign_token sign.Semicolon p ∷ [])
unfolding Found Within BracedWithin ArmedWithin RowsWithin HeaderWithin PassedWithin
stated = (
  _,
  APrototype _ _
      (record { words = _; specifiers = ASpecifier refl (ATypeWord refl NoMoreSpecifiers); spelled = refl })
      refl
      (StatedTypes (MoreTypes (Unnamed (record { words = _; specifiers = ATypeWord refl NoMoreSpecifiers; spelled = refl })) (LastType (Named (record { words = _; specifiers = ASpecifier refl (ATypeWord refl NoMoreSpecifiers); spelled = refl }) refl))))
      (AnAttribute refl (OnePassed refl NothingPassed) NoMoreAttributes),
)

unstated : Found (Prototype 9 9) (word_token (codes "int") p ∷ word_token (codes "p") p ∷ sign_token sign.ParenOpen p ∷ sign_token sign.ParenClose p ∷ sign_token sign.Semicolon p ∷ [])
unfolding Found Within BracedWithin ArmedWithin RowsWithin HeaderWithin PassedWithin
unstated = (_, APrototype _ _ (record { words = _; specifiers = ATypeWord refl NoMoreSpecifiers; spelled = refl }) refl Unstated NoMoreAttributes)

no_parameters : Found (Prototype 9 9) (word_token (codes "__attribute__") p ∷ sign_token sign.ParenOpen p ∷ sign_token sign.ParenOpen p ∷ word_token (codes "a") p ∷ sign_token sign.ParenClose p ∷ sign_token sign.ParenClose p ∷ word_token (codes "int") p ∷ word_token (codes "p") p ∷ sign_token sign.ParenOpen p ∷ word_token (codes "void") p ∷ sign_token sign.ParenClose p ∷ sign_token sign.Semicolon p ∷ [])
unfolding Found Within BracedWithin ArmedWithin RowsWithin HeaderWithin PassedWithin
no_parameters = (
  _,
  APrototype _ _
      (record { words = _; specifiers = AnAttributeBefore refl (PairPassed refl (OnePassed refl NothingPassed) NothingPassed) (ATypeWord refl NoMoreSpecifiers); spelled = refl })
      refl VoidTypes NoMoreAttributes,
)

globals : (v : ℤ) → Found (Global 9 9) (word_token (codes "static") p ∷ word_token (codes "int") p ∷ word_token (codes "x") p ∷ sign_token sign.Assign p ∷ token (kind.Char v) p ∷ sign_token sign.Comma p ∷ word_token (codes "y") p ∷ sign_token sign.BracketOpen p ∷ token (kind.Number 2 true false 0) p ∷ sign_token sign.BracketClose p ∷ sign_token sign.Comma p ∷ word_token (codes "z") p ∷ sign_token sign.BracketOpen p ∷ token (kind.Number 1 true false 0) p ∷ sign_token sign.BracketClose p ∷ sign_token sign.Assign p ∷ sign_token sign.BraceOpen p ∷ token (kind.Number 1 true false 0) p ∷ sign_token sign.BraceClose p ∷ sign_token sign.Semicolon p ∷ [])
unfolding Found Within BracedWithin ArmedWithin RowsWithin HeaderWithin PassedWithin
globals v = (
  _,
  AGlobal (ADeclaration (record { words = _; specifiers = ASpecifier refl (ATypeWord refl NoMoreSpecifiers); spelled = refl })
      (MoreDeclarators (ADeclarator refl NoSizes (OneValue (down 15 ACharacter)))
      (MoreDeclarators (ADeclarator refl (SomeSizes (OneDimension (InBrackets (down 14 ANumber)))) NoInitializer)
      (LastDeclarator (ADeclarator refl (SomeSizes (OneDimension (InBrackets (down 14 ANumber)))) (AList (LastOne (down 15 ANumber))))))))
      ((omega arith, (omega arith, (omega arith, (omega arith, (omega arith, (omega arith, tt))))))),
)

reach : Found (Reach 9 3) (word_token (codes "void") p ∷ word_token (codes "reach_error") p ∷ sign_token sign.ParenOpen p ∷ word_token (codes "struct") p ∷ word_token (codes "s") p ∷ sign_token sign.Star p ∷ sign_token sign.ParenClose p ∷ sign_token sign.BraceOpen p ∷ word_token (codes "f") p ∷ sign_token sign.ParenOpen p ∷ token kind.Str p ∷ sign_token sign.ParenClose p ∷ sign_token sign.Semicolon p ∷ sign_token sign.BracketOpen p ∷ sign_token sign.ParenOpen p ∷ sign_token sign.ParenClose p ∷ sign_token sign.BracketClose p ∷ sign_token sign.BraceClose p ∷ [])
unfolding Found Within BracedWithin ArmedWithin RowsWithin HeaderWithin PassedWithin
reach = (
  _,
  AReach _ _ (record { words = _; specifiers = ATypeWord refl NoMoreSpecifiers; spelled = refl })
      (OnePassed refl (OnePassed refl (OnePassed refl NothingPassed)))
      NoMoreAttributes
      (OnePassed refl (PairPassed refl (OnePassed refl NothingPassed) (OnePassed refl (PairPassed refl (PairPassed refl NothingPassed NothingPassed) NothingPassed)))),
)

closed : Found (Closed 9 1) (word_token (codes "extern") p ∷ word_token (codes "void") p ∷ word_token (codes "f") p ∷ sign_token sign.ParenOpen p ∷ word_token (codes "const") p ∷ word_token (codes "char") p ∷ sign_token sign.Star p ∷ sign_token sign.Comma p ∷ sign_token sign.Ellipsis p ∷ sign_token sign.ParenClose p ∷ sign_token sign.Semicolon p ∷ [])
unfolding Found Within BracedWithin ArmedWithin RowsWithin HeaderWithin PassedWithin
closed = (
  _,
  AClosed {front = word_token (codes "extern") p ∷ word_token (codes "void") p ∷ word_token (codes "f") p ∷ sign_token sign.ParenOpen p ∷ word_token (codes "const") p ∷ word_token (codes "char") p ∷ sign_token sign.Star p ∷ sign_token sign.Comma p ∷ sign_token sign.Ellipsis p ∷ sign_token sign.ParenClose p ∷ []} [] _
      (OnePassed refl (OnePassed refl (OnePassed refl (PairPassed refl (OnePassed refl (OnePassed refl (OnePassed refl (OnePassed refl (OnePassed refl NothingPassed))))) NothingPassed))))
      refl refl refl refl,
)
