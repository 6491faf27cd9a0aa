-- Every node of an expression that tokens spell passes each test that the nodes of the grammar pass by themselves.
use Rattle.std.proofs.Common.{◌≡◌, ℕ, zero, suc, ℤ, List, [], ◌∷◌, Bool, true, false, ◌&&◌, refl, nat_le, Some}
use Rattle.c_core.proofs.TextOrderLaws.{left}
use Rattle.c_core.specs.Types.{fits_signed}
use Rattle.c_core.specs.declared.number.Spot.{Spot}
use Rattle.c_tokens.specs.declared.token.Token.{Token}
use Rattle.c_tokens.specs.declared.token.TokenKind.TheVariants as kind
use Rattle.c_tokens.specs.declared.token.Punct.{Punct}
use Rattle.c_parser.specs.Tree.{Exp, Expr, Node, exps, moved}
use Rattle.c_parser.specs.Tree as node
use Rattle.c_parser.specs.Formed.{every_node, every_part, every_argument}
use Rattle.c_parser.specs.Signs.{expr, token, Joint, Sequence, Both, Either, Plain, joined, assigns}
use Rattle.c_parser.specs.Expressions.{Bracketed, InBrackets, Dimensions, OneDimension, TwoDimensions, Arguments, LastArgument, MoreArguments, Expression, Stronger, Joined, Assigned, Chosen, SteppedBefore, Signed, Converted, SteppedBehind, AName, AnElement, ABareCall, ACall, ANumber, ACharacter, AGroup, Within, has_room, Spells}
use Rattle.c_parser.proofs.OrderedExpressions.{names_passed}
use Rattle.c_parser.proofs.Passing.{Passing, and_true, nothing_passed, past, both, up_to, from, alone, along_passing}

-- what the grammar says of a node by itself
abbrev pub IsSpelled : Node → Type 0
IsSpelled (node.Number v decimal unsigned longs) = nat_le longs 2 ≡ true
IsSpelled (node.Char v) = fits_signed 32 v ≡ true
IsSpelled (node.Assign op a b) = (s : Punct) × (assigns s ≡ Some op)
IsSpelled _ = Unit {0}

module _ (q : Node → Bool) (passes : (n : Node) → IsSpelled n → q n ≡ true) where
  of_node : {ts rest : List Token} (n : Node) → IsSpelled n → Passing (every_part q n) ts rest → Passing (q n && every_part q n) ts rest
  of_node n s x = record { holds = λ f. and_true (q n) (every_part q n) (passes n s) (x.holds f); behind = x.behind }

  of_joined : {ts rest : List Token} (j : Joint) (a b : Exp) → Passing (every_node q a && every_node q b) ts rest → Passing (q (joined j a b) && every_part q (joined j a b)) ts rest
  of_joined Sequence a b x = of_node (node.Comma a b) tt x
  of_joined Both a b x = of_node (node.Logic true a b) tt x
  of_joined Either a b x = of_node (node.Logic false a b) tt x
  of_joined (Plain op) a b x = of_node (node.Binary op a b) tt x

  of_number : (v : ℕ) (decimal unsigned : Bool) (longs : ℕ) (p : Spot) (rest : List Token) →
      Passing (every_node q (Expr p (node.Number v decimal unsigned longs))) (token (kind.Number v decimal unsigned longs) p ∷ rest) rest
  of_number v decimal unsigned longs p rest = record {
    holds = λ f. and_true (q (node.Number v decimal unsigned longs)) true (passes (node.Number v decimal unsigned longs) (left (nat_le longs 2) _ f)) refl;
    behind = λ f. (past {t = token (kind.Number v decimal unsigned longs) p} (nothing_passed {rest = rest})).behind f;
  }

  of_character : (v : ℤ) (p : Spot) (rest : List Token) → Passing (every_node q (Expr p (node.Char v))) (token (kind.Char v) p ∷ rest) rest
  of_character v p rest = record {
    holds = λ f. and_true (q (node.Char v)) true (passes (node.Char v) (left (fits_signed 32 v) _ f)) refl;
    behind = λ f. (past {t = token (kind.Char v) p} (nothing_passed {rest = rest})).behind f;
  }

  of_moved : {ts rest : List Token} (p : Spot) (e : Exp) → Passing (every_node q e) ts rest → Passing (every_node q (moved p e)) ts rest
  of_moved p (Expr r n) x = x

  -- what stands in square brackets
  module _ (Inside : List Token → Exp → List Token → Type 0) (inside : (ts : List Token) (e : Exp) (rest : List Token) → Inside ts e rest → Passing (every_node q e) ts rest) where
    bracketed_pass : (ts : List Token) (e : Exp) (rest : List Token) → Bracketed Inside ts e rest → Passing (every_node q e) ts rest
    bracketed_pass ts e rest (InBrackets d) = past (up_to (inside _ _ _ d) (past nothing_passed))

    pub dimensions_pass : (ts : List Token) (es : List Exp) (rest : List Token) → Dimensions Inside ts es rest → Passing (every_argument q (exps es)) ts rest
    dimensions_pass ts es rest (OneDimension d) = alone (bracketed_pass _ _ _ d)
    dimensions_pass ts es rest (TwoDimensions d u) = both (bracketed_pass _ _ _ d) (alone (bracketed_pass _ _ _ u))

  module _ (room : Bool) (Inner : ℕ → List Token → Exp → List Token → Type 0)
      (inner : (k : ℕ) (ts : List Token) (e : Exp) (rest : List Token) → Inner k ts e rest → Passing (every_node q e) ts rest) where
    arguments_pass : (ts : List Token) (es : List Exp) (rest : List Token) → Arguments room Inner ts es rest → Passing (every_argument q (exps es)) ts rest
    arguments_pass ts es rest (LastArgument d) = alone (inner _ _ _ _ d)
    arguments_pass ts es rest (MoreArguments d ds) = both (inner _ _ _ _ d) (past (arguments_pass _ _ _ ds))

    pub expression_pass : (k : ℕ) (ts : List Token) (e : Exp) (rest : List Token) → Expression room Inner k ts e rest → Passing (every_node q e) ts rest
    expression_pass k ts e rest (Stronger d) = expression_pass _ _ _ _ d
    expression_pass k ts e rest (Joined {a = a} {b} {j = j} s x y) = of_joined j a b (both (expression_pass _ _ _ _ x) (past (expression_pass _ _ _ _ y)))
    expression_pass k ts e rest (Assigned {a = a} {b} {s} {op} e' x y) = of_node (node.Assign op a b) (s, e') (both (expression_pass _ _ _ _ x) (past (expression_pass _ _ _ _ y)))
    expression_pass k ts e rest (Chosen {e = c} {a} {b} {q = m} x y z) =
        of_node (node.Choose m c a b) tt (both (expression_pass _ _ _ _ x) (past (both (expression_pass _ _ _ _ y) (past (expression_pass _ _ _ _ z)))))
    expression_pass k ts e rest (SteppedBefore {e = a} {op = op} s x) = of_node (node.Step op a) tt (past (expression_pass _ _ _ _ x))
    expression_pass k ts e rest (Signed {e = a} {op = op} s x) = of_node (node.Unary op a) tt (past (expression_pass _ _ _ _ x))
    expression_pass k ts e rest (Converted {to = to} {e = a} r w t x) = of_node (node.Cast to a) tt (past (from (along_passing (names_passed _ _ _ w)) (past (expression_pass _ _ _ _ x))))
    expression_pass k ts e rest (SteppedBehind {e = a} {op = op} s x) = of_node (node.Step op a) tt (up_to (expression_pass _ _ _ _ x) (past nothing_passed))
    expression_pass k ts e rest (AName {w = w} {p} n) = of_node (node.Var w p) tt (past nothing_passed)
    expression_pass k ts e rest (AnElement {w = w} {es} {p} n x) = of_node (node.Index w p (exps es)) tt (past (dimensions_pass (Inner expr) (inner expr) _ _ _ x))
    expression_pass k ts e rest (ABareCall {w = w} {p} {r = z} n f) = of_node (node.Call w p (exps []) z) tt (past (past (past nothing_passed)))
    expression_pass k ts e rest (ACall {w = w} {es} {p} {r = z} n x) = of_node (node.Call w p (exps es) z) tt (past (past (up_to (arguments_pass _ _ _ x) (past nothing_passed))))
    expression_pass k ts e rest (ANumber {v = v} {decimal} {unsigned} {longs} {p}) = of_number v decimal unsigned longs p _
    expression_pass k ts e rest (ACharacter {v = v} {p}) = of_character v p _
    expression_pass k ts e rest (AGroup {e = a} {p} x) = of_moved p a (past (up_to (inner _ _ _ _ x) (past nothing_passed)))

  pub within_pass : (b k : ℕ) (ts : List Token) (e : Exp) (rest : List Token) → Within b k ts e rest → Passing (every_node q e) ts rest
  unfolding Within
  within_pass zero k ts e rest d = absurd d
  within_pass (suc b) k ts e rest d = expression_pass (has_room b) (Within b) (within_pass b) k ts e rest d

  pub spelled_pass : (b k : ℕ) (ts : List Token) (e : Exp) (rest : List Token) → Spells b k ts e rest → Passing (every_node q e) ts rest
  spelled_pass b k ts e rest d = expression_pass (has_room b) (Within b) (within_pass b) k ts e rest d
