-- The constants in what tokens spell fit, where those of the tokens do.
use Rattle.std.proofs.Common.{◌≡◌, ℕ, zero, suc, List, [], Bool, true, false, ◌&&◌, refl}
use Rattle.c_core.specs.declared.number.Spot.{Spot}
use Rattle.c_tokens.specs.Reading.{start, Whole}
use Rattle.c_tokens.specs.declared.token.Token.{Token}
use Rattle.c_parser.specs.Tree.{Exp, Expr, exps, moved}
use Rattle.c_parser.specs.Formed.{every_node, every_part, every_argument, constant_fits, constants_fit}
use Rattle.c_parser.specs.Signs.{Joint, Sequence, Both, Either, Plain, joined, conditional}
use Rattle.c_parser.specs.Words.{TypeWord}
use Rattle.c_parser.specs.Expressions.{NameWords, NoMoreWords, AConst, ATypeWord, Bracketed, InBrackets, Dimensions, OneDimension, TwoDimensions, Arguments, LastArgument, MoreArguments, Expression, Stronger, Joined, Assigned, Chosen, SteppedBefore, Signed, Converted, SteppedBehind, AName, AnElement, ABareCall, ACall, ANumber, ACharacter, AGroup, Within, has_room}
use Rattle.c_parser.specs.Sources.{max_brackets}
use Rattle.c_parser.specs.Witness.{IsWitnessExpression}
use Rattle.check_wellformed.proofs.Lists.{both, left, right}
use Rattle.way_invariants.proofs.TokenConstants.{tokens_fit}

-- where the constants of tokens fit, a test holds of the front of them, and those behind it fit too
abbrev Fits : Bool → List Token → List Token → Type 0
Fits x ts rest = constants_fit ts ≡ true → (x ≡ true) × (constants_fit rest ≡ true)

names_fit : (ts : List Token) (words : List TypeWord) (rest : List Token) → NameWords ts words rest → constants_fit ts ≡ true → constants_fit rest ≡ true
names_fit ts words rest NoMoreWords f = f
names_fit ts words rest (AConst d) f = names_fit _ _ _ d f
names_fit ts words rest (ATypeWord t d) f = names_fit _ _ _ d f

joined_fits : (j : Joint) (a b : Exp) → (every_node constant_fits a && every_node constant_fits b) ≡ true → (constant_fits (joined j a b) && every_part constant_fits (joined j a b)) ≡ true
joined_fits Sequence a b h = h
joined_fits Both a b h = h
joined_fits Either a b h = h
joined_fits (Plain op) a b h = h

moved_fits : (p : Spot) (e : Exp) → every_node constant_fits e ≡ true → every_node constant_fits (moved p e) ≡ true
moved_fits p (Expr q n) h = h

module _ (room : Bool) (Inner : ℕ → List Token → Exp → List Token → Type 0)
    (inner : (k : ℕ) (ts : List Token) (e : Exp) (rest : List Token) → Inner k ts e rest → Fits (every_node constant_fits e) ts rest) where
  in_brackets_fits : (k : ℕ) (ts : List Token) (e : Exp) (rest : List Token) → Bracketed (Inner k) ts e rest → Fits (every_node constant_fits e) ts rest
  in_brackets_fits k ts e rest (InBrackets d) f = inner _ _ _ _ d f

  dimensions_fit : (k : ℕ) (ts : List Token) (es : List Exp) (rest : List Token) → Dimensions (Inner k) ts es rest → Fits (every_argument constant_fits (exps es)) ts rest
  dimensions_fit k ts es rest (OneDimension x) f = let h = in_brackets_fits k _ _ _ x f in (both h.0 refl, h.1)
  dimensions_fit k ts es rest (TwoDimensions x y) f = let h = in_brackets_fits k _ _ _ x f in let i = in_brackets_fits k _ _ _ y h.1 in (both h.0 (both i.0 refl), i.1)

  arguments_fit : (ts : List Token) (es : List Exp) (rest : List Token) → Arguments room Inner ts es rest → Fits (every_argument constant_fits (exps es)) ts rest
  arguments_fit ts es rest (LastArgument d) f = let h = inner _ _ _ _ d f in (both h.0 refl, h.1)
  arguments_fit ts es rest (MoreArguments d ds) f = let h = inner _ _ _ _ d f in let k = arguments_fit _ _ _ ds h.1 in (both h.0 k.0, k.1)

  expression_fits : (k : ℕ) (ts : List Token) (e : Exp) (rest : List Token) → Expression room Inner k ts e rest → Fits (every_node constant_fits e) ts rest
  expression_fits k ts e rest (Stronger d) f = expression_fits _ _ _ _ d f
  expression_fits k ts e rest (Joined {a = a} {b} {j = j} s x y) f =
      let h = expression_fits _ _ _ _ x f in let i = expression_fits _ _ _ _ y h.1 in (joined_fits j a b (both h.0 i.0), i.1)
  expression_fits k ts e rest (Assigned s x y) f = let h = expression_fits _ _ _ _ x f in let i = expression_fits _ _ _ _ y h.1 in (both h.0 i.0, i.1)
  expression_fits k ts e rest (Chosen x y z) f =
      let h = expression_fits _ _ _ _ x f in let i = expression_fits _ _ _ _ y h.1 in let j = expression_fits _ _ _ _ z i.1 in (both h.0 (both i.0 j.0), j.1)
  expression_fits k ts e rest (SteppedBefore s x) f = expression_fits _ _ _ _ x f
  expression_fits k ts e rest (Signed s x) f = expression_fits _ _ _ _ x f
  expression_fits k ts e rest (Converted r w t x) f = expression_fits _ _ _ _ x (names_fit _ _ _ w f)
  expression_fits k ts e rest (SteppedBehind s x) f = expression_fits _ _ _ _ x f
  expression_fits k ts e rest (AName n) f = (refl, f)
  expression_fits k ts e rest (AnElement n x) f = dimensions_fit _ _ _ _ x f
  expression_fits k ts e rest (ABareCall n r) f = (refl, f)
  expression_fits k ts e rest (ACall n x) f = arguments_fit _ _ _ x f
  expression_fits k ts e rest ANumber f = (both (left _ _ f) refl, right _ _ f)
  expression_fits k ts e rest ACharacter f = (both (left _ _ f) refl, right _ _ f)
  expression_fits k ts e rest (AGroup {e = a} {p} x) f = let h = inner _ _ _ _ x f in (moved_fits p a h.0, h.1)

within_fits : (b k : ℕ) (ts : List Token) (e : Exp) (rest : List Token) → Within b k ts e rest → Fits (every_node constant_fits e) ts rest
unfolding Within
within_fits zero k ts e rest d = absurd d
within_fits (suc b) k ts e rest d = expression_fits (has_room b) (Within b) (within_fits b) k ts e rest d

-- the constants of a witness's expression fit
pub constants_fit_in : (text : List ℕ) (e : Exp) → IsWitnessExpression text e → every_node constant_fits e ≡ true
constants_fit_in text e h =
    (expression_fits (has_room max_brackets) (Within max_brackets) (within_fits max_brackets) conditional h.tokens e [] h.spells (tokens_fit false start text h.tokens Whole h.are_tokens)).0
