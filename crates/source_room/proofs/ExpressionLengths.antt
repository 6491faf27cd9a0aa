-- Behind an expression no more tokens stand than from its front on.
use Rattle.std.proofs.Common.{ℕ, zero, suc, ◌≤◌, List, length, Bool, arith}
use Rattle.c_tokens.specs.declared.token.Token.{Token}
use Rattle.c_parser.specs.Signs.{expr}
use Rattle.c_parser.specs.Tree.{Exp}
use Rattle.c_parser.specs.Expressions.{NameWords, NoMoreWords, AConst, ATypeWord, Bracketed, InBrackets, Dimensions, OneDimension, TwoDimensions, Arguments, LastArgument, MoreArguments, Expression, Stronger, Joined, Assigned, Chosen, SteppedBefore, Signed, Converted, SteppedBehind, AName, AnElement, ABareCall, ACall, ANumber, ACharacter, AGroup, Within, Spells, has_room}

-- what is spelled takes its tokens from the front
abbrev pub TakesTokens : {X : Type 0} → (List Token → X → List Token → Type 0) → Type 0
TakesTokens {X} Spelled = (ts : List Token) (x : X) (rest : List Token) → Spelled ts x rest → length rest ≤ length ts

words_take : TakesTokens NameWords
words_take ts words rest NoMoreWords = omega arith
words_take ts words rest (AConst n) = let x = words_take _ _ _ n in omega arith
words_take ts words rest (ATypeWord t n) = let x = words_take _ _ _ n in omega arith

module _ (Inside : List Token → Exp → List Token → Type 0) (inside : TakesTokens Inside) where
  bracketed_takes : TakesTokens (Bracketed Inside)
  bracketed_takes ts e rest (InBrackets a) = let x = inside _ _ _ a in omega arith

  pub dimensions_take : TakesTokens (Dimensions Inside)
  dimensions_take ts es rest (OneDimension a) = bracketed_takes _ _ _ a
  dimensions_take ts es rest (TwoDimensions a b) = let x = bracketed_takes _ _ _ a in let y = bracketed_takes _ _ _ b in omega arith

module _ (room : Bool) (Inner : ℕ → List Token → Exp → List Token → Type 0) (inner : (k : ℕ) → TakesTokens (Inner k)) where
  arguments_take : TakesTokens (Arguments room Inner)
  arguments_take ts es rest (LastArgument a) = inner _ _ _ _ a
  arguments_take ts es rest (MoreArguments a more) = let x = inner _ _ _ _ a in let y = arguments_take _ _ _ more in omega arith

  expression_takes : (k : ℕ) → TakesTokens (Expression room Inner k)
  expression_takes k ts e rest (Stronger a) = expression_takes _ _ _ _ a
  expression_takes k ts e rest (Joined s a b) = let x = expression_takes _ _ _ _ a in let y = expression_takes _ _ _ _ b in omega arith
  expression_takes k ts e rest (Assigned s a b) = let x = expression_takes _ _ _ _ a in let y = expression_takes _ _ _ _ b in omega arith
  expression_takes k ts e rest (Chosen a b c) =
      let x = expression_takes _ _ _ _ a in let y = expression_takes _ _ _ _ b in let z = expression_takes _ _ _ _ c in omega arith
  expression_takes k ts e rest (SteppedBefore s a) = let x = expression_takes _ _ _ _ a in omega arith
  expression_takes k ts e rest (Signed s a) = let x = expression_takes _ _ _ _ a in omega arith
  expression_takes k ts e rest (Converted r n t a) = let x = words_take _ _ _ n in let y = expression_takes _ _ _ _ a in omega arith
  expression_takes k ts e rest (SteppedBehind s a) = let x = expression_takes _ _ _ _ a in omega arith
  expression_takes k ts e rest (AName n) = omega arith
  expression_takes k ts e rest (AnElement n a) = let x = dimensions_take (Inner expr) (inner expr) _ _ _ a in omega arith
  expression_takes k ts e rest (ABareCall n r) = omega arith
  expression_takes k ts e rest (ACall n a) = let x = arguments_take _ _ _ a in omega arith
  expression_takes k ts e rest ANumber = omega arith
  expression_takes k ts e rest ACharacter = omega arith
  expression_takes k ts e rest (AGroup a) = let x = inner _ _ _ _ a in omega arith

pub within_takes : (b k : ℕ) → TakesTokens (Within b k)
unfolding Within
within_takes zero k ts e rest a = absurd a
within_takes (suc b) k ts e rest a = expression_takes (has_room b) (Within b) (within_takes b) k ts e rest a

pub spells_takes : (b k : ℕ) → TakesTokens (Spells b k)
spells_takes b = expression_takes (has_room b) (Within b) (within_takes b)
