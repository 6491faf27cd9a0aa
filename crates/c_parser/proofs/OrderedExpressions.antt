-- The places in an expression that tokens spell are those of some of its tokens, in their order.
use Rattle.std.proofs.Common.{◌≡◌, ℕ, zero, suc, List, [], ◌∷◌, ◌++◌, Bool, true, false, cond, refl, sym, ap, ◌∙◌, subst, append-nil, append_assoc, Some}
use Rattle.c_core.specs.Operators.{is_prefix}
use Rattle.c_core.specs.TextOrder.{whole}
use Rattle.c_core.specs.declared.number.Spot.{Spot}
use Rattle.c_core.specs.declared.number.StepOp.{StepOp}
use Rattle.c_tokens.specs.declared.token.Token.{Token}
use Rattle.c_tokens.specs.declared.token.TokenKind.TheVariants as kind
use Rattle.c_tokens.specs.declared.token.Punct.{Punct}
use Rattle.c_tokens.specs.declared.token.Punct.TheVariants as sign
use Rattle.c_parser.specs.Tree.{Exp, Expr, Node, Exps, exps, moved}
use Rattle.c_parser.specs.Tree as node
use Rattle.c_parser.specs.TextOrder.{spots_of, spots_of_all}
use Rattle.c_parser.specs.Signs.{expr, token, word_token, sign_token, place, Joint, Sequence, Both, Either, Plain, joined, steps_before, steps_behind}
use Rattle.c_parser.specs.Words.{TypeWord}
use Rattle.c_parser.specs.Expressions.{NameWords, NoMoreWords, AConst, ATypeWord, Bracketed, InBrackets, Dimensions, OneDimension, TwoDimensions, Arguments, LastArgument, MoreArguments, Expression, Stronger, Joined, Assigned, Chosen, SteppedBefore, Signed, Converted, SteppedBehind, AName, AnElement, ABareCall, ACall, ANumber, ACharacter, AGroup, Within, has_room, Spells}
use Rattle.c_parser.proofs.SignLaws.{some_same}
use Rattle.c_parser.proofs.Along.{Along, AtEnd, Past, Met, then, nothing_more, Begins, begins, to_along, begins_then, begins_alone, whole_here, whole_before, one_more}

-- with its own first token, or with a parenthesis before it
pub record Ordered (e : Exp) (ts rest : List Token) : Type 0 where
  pub here : Begins (spots_of e) ts rest
  pub before : (t : Token) → Begins (spots_of (moved t.spot e)) (t ∷ ts) rest

moved_again : (p q : Spot) (e : Exp) → moved p (moved q e) ≡ moved p e
moved_again p q (Expr r n) = refl

joined_spots : (p : Spot) (j : Joint) (a b : Exp) → spots_of (Expr p (joined j a b)) ≡ whole p (spots_of a) ++ spots_of b
joined_spots p Sequence a b = refl
joined_spots p Both a b = refl
joined_spots p Either a b = refl
joined_spots p (Plain op) a b = refl

pub names_passed : (ts : List Token) (words : List TypeWord) (rest : List Token) → NameWords ts words rest → Along [] ts rest
names_passed ts words rest NoMoreWords = AtEnd
names_passed ts words rest (AConst d) = Past (names_passed _ _ _ d)
names_passed ts words rest (ATypeWord t d) = Past (names_passed _ _ _ d)

prefix_step : (s : Punct) (op : StepOp) → steps_before s ≡ Some op → is_prefix op ≡ true
prefix_step sign.PlusPlus op e = sym (ap is_prefix (some_same e))
prefix_step sign.MinusMinus op e = sym (ap is_prefix (some_same e))
prefix_step s op e = absurd (cc)

postfix_step : (s : Punct) (op : StepOp) → steps_behind s ≡ Some op → is_prefix op ≡ false
postfix_step sign.PlusPlus op e = sym (ap is_prefix (some_same e))
postfix_step sign.MinusMinus op e = sym (ap is_prefix (some_same e))
postfix_step s op e = absurd (cc)

-- behind its own sign
signed : (n : Node) (qs : List Spot) (t : Token) (ts rest : List Token) → ((p : Spot) → spots_of (Expr p n) ≡ p ∷ qs) → Along qs ts rest → Ordered (Expr t.spot n) (t ∷ ts) rest
signed n qs t ts rest same q = record {
  here = subst (λ (x : List Spot). Begins x (t ∷ ts) rest) (sym (same t.spot)) (begins t q);
  before = λ u. subst (λ (x : List Spot). Begins x (u ∷ t ∷ ts) rest) (sym (same u.spot)) (begins u (Past q));
}

-- with its first part first
led : (n : Node) (a : Exp) (qs : List Spot) (ts mid rest : List Token) → ((p : Spot) → spots_of (Expr p n) ≡ whole p (spots_of a) ++ qs) → Ordered a ts mid → Along qs mid rest → Ordered (Expr (place ts) n) ts rest
led n a qs ts mid rest same o q = record {
  here = subst (λ (x : List Spot). Begins x ts rest) (sym (same (place ts))) (begins_then (whole_here o.here) q);
  before = λ t. subst (λ (x : List Spot). Begins x (t ∷ ts) rest) (sym (same t.spot)) (begins_then (whole_before t o.here) q);
}

-- a step behind an expression
stepped : (op : StepOp) (a : Exp) (ts mid rest : List Token) → is_prefix op ≡ false → Ordered a ts mid → Along [] mid rest → Ordered (Expr (place ts) (node.Step op a)) ts rest
stepped op a ts mid rest later o q =
    led (node.Step op a) a [] ts mid rest (λ p. ap (λ (x : Bool). cond x (p ∷ spots_of a) (whole p (spots_of a))) later ∙ sym (append-nil (whole p (spots_of a)))) o q

-- what stands in square brackets
module _ (Inside : List Token → Exp → List Token → Type 0) (inside : (ts : List Token) (e : Exp) (rest : List Token) → Inside ts e rest → Along (spots_of e) ts rest) where
  bracketed_along : (ts : List Token) (e : Exp) (rest : List Token) → Bracketed Inside ts e rest → Along (spots_of e) ts rest
  bracketed_along ts e rest (InBrackets d) = Past (nothing_more (inside _ _ _ d) (Past AtEnd))

  last_along : (ts : List Token) (e : Exp) (rest : List Token) → Bracketed Inside ts e rest → Along (spots_of_all (exps (e ∷ []))) ts rest
  last_along ts e rest d = subst (λ (x : List Spot). Along x ts rest) (sym (append-nil (spots_of e))) (bracketed_along _ _ _ d)

  pub dimensions_along : (ts : List Token) (es : List Exp) (rest : List Token) → Dimensions Inside ts es rest → Along (spots_of_all (exps es)) ts rest
  dimensions_along ts es rest (OneDimension d) = last_along _ _ _ d
  dimensions_along ts es rest (TwoDimensions d u) = then (bracketed_along _ _ _ d) (last_along _ _ _ u)

module _ (room : Bool) (Inner : ℕ → List Token → Exp → List Token → Type 0)
    (inner : (k : ℕ) (ts : List Token) (e : Exp) (rest : List Token) → Inner k ts e rest → Ordered e ts rest) where
  arguments_along : (ts : List Token) (es : List Exp) (rest : List Token) → Arguments room Inner ts es rest → Along (spots_of_all (exps es)) ts rest
  arguments_along ts es rest (LastArgument {e} d) = subst (λ (x : List Spot). Along x ts rest) (sym (append-nil (spots_of e))) (to_along (inner _ _ _ _ d).here)
  arguments_along ts es rest (MoreArguments d ds) = then (to_along (inner _ _ _ _ d).here) (Past (arguments_along _ _ _ ds))

  pub expression_ordered : (k : ℕ) (ts : List Token) (e : Exp) (rest : List Token) → Expression room Inner k ts e rest → Ordered e ts rest
  expression_ordered k ts e rest (Stronger d) = expression_ordered _ _ _ _ d
  expression_ordered k ts e rest (Joined {a = a} {b} {j = j} s x y) =
      led (joined j a b) a (spots_of b) ts _ rest (λ p. joined_spots p j a b) (expression_ordered _ _ _ _ x) (Past (to_along (expression_ordered _ _ _ _ y).here))
  expression_ordered k ts e rest (Assigned {a = a} {b} {op = op} s x y) =
      led (node.Assign op a b) a (spots_of b) ts _ rest (λ p. refl) (expression_ordered _ _ _ _ x) (Past (to_along (expression_ordered _ _ _ _ y).here))
  expression_ordered k ts e rest (Chosen {e = c} {a} {b} {q} x y z) =
      led (node.Choose q c a b) c ((q ∷ spots_of a) ++ spots_of b) ts _ rest (λ p. append_assoc (whole p (spots_of c)) (q ∷ spots_of a) (spots_of b)) (expression_ordered _ _ _ _ x)
      (Met (then (to_along (expression_ordered _ _ _ _ y).here) (Past (to_along (expression_ordered _ _ _ _ z).here))))
  expression_ordered k ts e rest (SteppedBefore {e = a} {s} {op} {p} f x) =
      signed (node.Step op a) (spots_of a) (sign_token s p) _ rest (λ r. ap (λ (b : Bool). cond b (r ∷ spots_of a) (whole r (spots_of a))) (prefix_step s op f)) (to_along (expression_ordered _ _ _ _ x).here)
  expression_ordered k ts e rest (Signed {e = a} {s} {op} {p} f x) = signed (node.Unary op a) (spots_of a) (sign_token s p) _ rest (λ r. refl) (to_along (expression_ordered _ _ _ _ x).here)
  expression_ordered k ts e rest (Converted {to = to} {e = a} {p = p} r w f x) =
      signed (node.Cast to a) (spots_of a) (sign_token sign.ParenOpen p) _ rest (λ q. refl) (then (names_passed _ _ _ w) (Past (to_along (expression_ordered _ _ _ _ x).here)))
  expression_ordered k ts e rest (SteppedBehind {e = a} {s} {op} f x) = stepped op a ts _ rest (postfix_step s op f) (expression_ordered _ _ _ _ x) (Past AtEnd)
  expression_ordered k ts e rest (AName {w = w} {p} n) = signed (node.Var w p) [] (word_token w p) _ rest (λ r. refl) AtEnd
  expression_ordered k ts e rest (AnElement {w = w} {es} {p} n x) =
      signed (node.Index w p (exps es)) (spots_of_all (exps es)) (word_token w p) _ rest (λ r. refl) (dimensions_along (Inner expr) (λ us u last i. to_along (inner expr us u last i).here) _ _ _ x)
  expression_ordered k ts e rest (ABareCall {w = w} {p} {r = z} n f) = signed (node.Call w p (exps []) z) (z ∷ []) (word_token w p) _ rest (λ r. refl) (Past (Met AtEnd))
  expression_ordered k ts e rest (ACall {w = w} {es} {p} {r = z} n x) =
      signed (node.Call w p (exps es) z) (spots_of_all (exps es) ++ z ∷ []) (word_token w p) _ rest (λ r. refl) (Past (then (arguments_along _ _ _ x) (Met AtEnd)))
  expression_ordered k ts e rest (ANumber {v = v} {decimal} {unsigned} {longs} {p}) = signed (node.Number v decimal unsigned longs) [] (token (kind.Number v decimal unsigned longs) p) _ rest (λ r. refl) AtEnd
  expression_ordered k ts e rest (ACharacter {v = v} {p}) = signed (node.Char v) [] (token (kind.Char v) p) _ rest (λ r. refl) AtEnd
  expression_ordered k ts e rest (AGroup {ts = us} {e = a} {p} x) =
      let o = inner _ _ _ _ x in
      record {
        here = begins_alone (o.before (sign_token sign.ParenOpen p)) (Past AtEnd);
        before = λ t. subst (λ (y : Exp). Begins (spots_of y) (t ∷ sign_token sign.ParenOpen p ∷ us) rest) (sym (moved_again t.spot p a)) (begins_alone (one_more t (sign_token sign.ParenOpen p) (o.before t)) (Past AtEnd));
      }

pub within_ordered : (b k : ℕ) (ts : List Token) (e : Exp) (rest : List Token) → Within b k ts e rest → Ordered e ts rest
unfolding Within
within_ordered zero k ts e rest d = absurd d
within_ordered (suc b) k ts e rest d = expression_ordered (has_room b) (Within b) (within_ordered b) k ts e rest d

-- an expression with at most b brackets open
pub spelled_ordered : (b k : ℕ) (ts : List Token) (e : Exp) (rest : List Token) → Spells b k ts e rest → Ordered e ts rest
spelled_ordered b k ts e rest d = expression_ordered (has_room b) (Within b) (within_ordered b) k ts e rest d
