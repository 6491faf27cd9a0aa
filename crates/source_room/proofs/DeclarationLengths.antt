-- Behind a declaration no more tokens stand than from its front on; each type word is one of them.
use Rattle.std.proofs.Common.{◌≡◌, ℕ, zero, suc, ◌+◌, ◌≤◌, ◌<◌, List, [], ◌∷◌, length, Bool, Option, Some, arith}
use Rattle.c_core.specs.declared.number.IntType.{IntType}
use Rattle.c_tokens.specs.declared.token.Token.{Token}
use Rattle.c_parser.specs.Signs.{assignment, conditional}
use Rattle.c_parser.specs.Tree.{Exp, Exps}
use Rattle.c_parser.specs.Words.{TypeWord, type_of}
use Rattle.c_parser.specs.Brackets.{Passed, NothingPassed, OnePassed, PairPassed, PassedWithin}
use Rattle.c_parser.specs.Expressions.{Within, Spells}
use Rattle.c_parser.specs.Declarations.{Attributes, NoMoreAttributes, AnAttribute, Specifiers, NoMoreSpecifiers, ATypeWord, ASpecifier, AnAttributeBefore, Typed, UpToBrace, LastOne, LastAndComma, MoreOnes, Sizes, NoSizes, SomeSizes, Row, ARow, Initializer, NoInitializer, OneValue, AList, AListOfRows, Declarator, ADeclarator, Declarators, LastDeclarator, MoreDeclarators, ADeclaration}
use Rattle.c_parser.specs.Statements.{RowsWithin, Declares}
use Rattle.source_room.proofs.ExpressionLengths.{TakesTokens, dimensions_take, within_takes, spells_takes}

passed_take : (Inner : List Token → List Token → Type 0) → ((ts rest : List Token) → Inner ts rest → length rest ≤ length ts) →
    (ts rest : List Token) → Passed Inner ts rest → length rest ≤ length ts
passed_take Inner inner ts rest NothingPassed = omega arith
passed_take Inner inner ts rest (OnePassed e p) = let x = passed_take Inner inner _ _ p in omega arith
passed_take Inner inner ts rest (PairPassed e i p) = let x = passed_take Inner inner _ _ p in let y = inner _ _ i in omega arith

pub pair_takes : (b : ℕ) (ts rest : List Token) → PassedWithin b ts rest → length rest ≤ length ts
unfolding PassedWithin
pair_takes zero ts rest p = absurd p
pair_takes (suc b) ts rest p = passed_take (PassedWithin b) (pair_takes b) ts rest p

module _ (b : ℕ) where
  pub attributes_take : (ts rest : List Token) → Attributes (PassedWithin b) ts rest → length rest ≤ length ts
  attributes_take ts rest NoMoreAttributes = omega arith
  attributes_take ts rest (AnAttribute e i a) = let x = pair_takes b _ _ i in let y = attributes_take _ _ a in omega arith

  specifiers_take : (outside : Bool) (ts : List Token) (words : List TypeWord) (rest : List Token) → Specifiers (PassedWithin b) outside ts words rest →
      length words + length rest ≤ length ts
  specifiers_take outside ts words rest NoMoreSpecifiers = omega arith
  specifiers_take outside ts words rest (ATypeWord e s) = let x = specifiers_take _ _ _ _ s in omega arith
  specifiers_take outside ts words rest (ASpecifier e s) = let x = specifiers_take _ _ _ _ s in omega arith
  specifiers_take outside ts words rest (AnAttributeBefore e i s) = let x = pair_takes b _ _ i in let y = specifiers_take _ _ _ _ s in omega arith

  -- a type has a word at least
  pub typed_takes : (outside : Bool) (ts : List Token) (ty : Option IntType) (rest : List Token) → Typed (PassedWithin b) outside ts ty rest → length rest < length ts
  typed_takes outside ts ty rest t = by t.words t.specifiers t.spelled
    where
      by : (words : List TypeWord) → Specifiers (PassedWithin b) outside ts words rest → type_of words ≡ Some ty → length rest < length ts
      by [] s e = absurd (cc)
      by (w ∷ words) s e = let x = specifiers_take outside ts (w ∷ words) rest s in omega (arith, x)

module _ (X : Type 0) (One : List Token → X → List Token → Type 0) (one : TakesTokens One) where
  braced_take : TakesTokens (UpToBrace X One)
  braced_take ts xs rest (LastOne a) = one _ _ _ a
  braced_take ts xs rest (LastAndComma a) = let x = one _ _ _ a in omega arith
  braced_take ts xs rest (MoreOnes a more) = let x = one _ _ _ a in let y = braced_take _ _ _ more in omega arith

module _ (Inner : ℕ → List Token → Exp → List Token → Type 0) (inner : (k : ℕ) → TakesTokens (Inner k)) where
  sizes_take : TakesTokens (Sizes Inner)
  sizes_take ts sizes rest NoSizes = omega arith
  sizes_take ts sizes rest (SomeSizes a) = dimensions_take (Inner conditional) (inner conditional) _ _ _ a

  row_takes : TakesTokens (Row Inner)
  row_takes ts row rest (ARow v) = let x = braced_take Exp (Inner assignment) (inner assignment) _ _ _ v in omega arith

rows_take : (b : ℕ) → TakesTokens (RowsWithin b)
unfolding RowsWithin
rows_take zero ts rows rest d = absurd d
rows_take (suc b) ts rows rest d = braced_take Exps (Row (Within b)) (row_takes (Within b) (within_takes b)) ts rows rest d

module _ (b : ℕ) where
  initializer_takes : TakesTokens (Initializer (PassedWithin b) (Spells b) (Within b) (RowsWithin b))
  initializer_takes ts init rest NoInitializer = omega arith
  initializer_takes ts init rest (OneValue a) = let x = spells_takes b assignment _ _ _ a in omega arith
  initializer_takes ts init rest (AList v) = let x = braced_take Exp (Within b assignment) (within_takes b assignment) _ _ _ v in omega arith
  initializer_takes ts init rest (AListOfRows v) = let x = rows_take b _ _ _ v in omega arith

  declarator_takes : (ty : IntType) → TakesTokens (Declarator (PassedWithin b) (Spells b) (Within b) (RowsWithin b) ty)
  declarator_takes ty ts d rest (ADeclarator n s i) = let x = sizes_take (Within b) (within_takes b) _ _ _ s in let y = initializer_takes _ _ _ i in omega arith

  declarators_take : (ty : IntType) → TakesTokens (Declarators (PassedWithin b) (Spells b) (Within b) (RowsWithin b) ty)
  declarators_take ty ts ds rest (LastDeclarator d) = let x = declarator_takes _ _ _ _ d in omega arith
  declarators_take ty ts ds rest (MoreDeclarators d s) = let x = declarator_takes _ _ _ _ d in let y = declarators_take _ _ _ _ s in omega arith

  pub declares_take : (outside : Bool) → TakesTokens (Declares b outside)
  declares_take outside ts ds rest (ADeclaration {mid = mid} t s) = let x = typed_takes b outside _ _ mid t in let y = declarators_take _ _ _ _ s in omega arith
