-- Steps of the parser, as equations of the function that reads by strength.
use Rattle.std.proofs.Common.{◌≡◌, ◌+◌, ℕ, suc, List, [], ◌∷◌, ◌++◌, drop, Bool, true, false, refl, sym, ap, ◌∙◌, arith, Option, Some, None, Result, Err, subst, max}
use Rattle.std.specs.Borrow.{Bor}
use Rattle.c_core.specs.declared.number.Spot.{Spot}
use Rattle.c_core.specs.declared.number.StepOp.{StepOp}
use Rattle.c_tokens.specs.declared.token.Punct.{Punct}
use Rattle.c_tokens.specs.declared.token.Punct.TheVariants as sign
use Rattle.c_tokens.specs.declared.token.Token.{Token}
use Rattle.c_parser.specs.declared.fault.Unread.{Unread}
use Rattle.c_parser.specs.declared.fault.Unread.TheVariants.{Unspelled, OutOfMemory}
use Rattle.c_parser.specs.declared.measured.Measured.{Measured}
use Rattle.c_parser.specs.Tree.{Exp, exps, moved, Step}
use Rattle.c_parser.specs.Heights.{height, heights}
use Rattle.c_parser.specs.Signs.{◌>>=◌, is_sign, Joint, joined, assignment, expr}
use Rattle.c_parser.specs.ReadExpressions.{Read, closing, grown, stepped, tail, joint_at, listed, grouped, full, level, within, read}
use Rattle.c_parser.specs.Expressions.{has_room}
use Rattle.c_parser.specs.Gives.{Fails, Gives, Closes, step_at}

fails_whole : {A B : Type 0} (e : Unread) (o : Option A) (w : Option B) → Fails e o → (o ≡ None → w ≡ None) → Fails e w
fails_whole Unspelled o w f g = g f
fails_whole OutOfMemory o w f g = tt

-- a part's fault is the fault of the whole
pub passed_on : {A : Type 0} (n : ℕ) (result : Result (Measured × Bor (List Token)) Unread) (e : Unread) (o : Option A) (w : Read Exp) →
    result ≡ Err e → Fails e o → (o ≡ None → w ≡ None) → Gives n result w
passed_on n result e o w r f g = subst (λ x. Gives n x w) (sym r) (fails_whole e o w f g)

pub same_read : (n : ℕ) (result : Result (Measured × Bor (List Token)) Unread) (o w : Read Exp) → w ≡ o → Gives n result o → Gives n result w
same_read n result o w e g = subst (λ x. Gives n result x) (sym e) g

module _ (room : Bool) (paren : ℕ → ℕ → List Token → Read Exp) (below : ℕ → List Token → Read Exp) (h : ℕ) where
  pub stepped_more : (m n : ℕ) (p : Spot) (e : Exp) (ts : List Token) (op : StepOp) (q : Exp × List Token) → m ≡ suc n → step_at ts ≡ Some op → grown h p (Step op e) (drop 1 ts) ≡ Some q →
      stepped room paren below h m p e ts ≡ stepped room paren below h n p q.0 q.1
  stepped_more m n p e ts op q one here low = rw (one, here, low) refl

  pub tail_more : (m n : ℕ) (p : Spot) (k : ℕ) (e : Exp) (ts : List Token) (j : ℕ × Joint) (r q : Exp × List Token) → m ≡ suc n → joint_at k ts ≡ Some j → below (suc j.0) (drop 1 ts) ≡ Some r →
      grown h p (joined j.1 e r.0) r.1 ≡ Some q → tail room paren below h m p k e ts ≡ tail room paren below h n p k q.0 q.1
  tail_more m n p k e ts j r q one here right low = rw (one, here, right, low) refl

-- what was read before, and what is read on
abbrev pub put : List Exp → Read (List Exp) → Read (List Exp)
put es o = o >>= λ q. Some (es ++ q.0, q.1)

put_none : (es : List Exp) (o : Read (List Exp)) → o ≡ None → put es o ≡ None
put_none es o e = rw e refl

module _ (room : Bool) (paren : ℕ → ℕ → List Token → Read Exp) (below : ℕ → List Token → Read Exp) (h : ℕ) where
  assoc : (es : List Exp) (e : Exp) (xs : List Exp) → es ++ (e ∷ xs) ≡ (es ++ e ∷ []) ++ xs
  assoc [] e xs = refl
  assoc (y ∷ es) e xs = ap (λ z. y ∷ z) (assoc es e xs)

  more_put : (es : List Exp) (e : Exp) (o : Read (List Exp)) → put es (o >>= λ q. Some (e ∷ q.0, q.1)) ≡ put (es ++ e ∷ []) o
  more_put es e None = refl
  more_put es e (Some q) = ap (λ z. Some (z, q.1)) (assoc es e q.0)

  -- what follows an argument, behind a comma or not
  abbrev onward : ℕ → Exp × List Token → Bool → Read (List Exp)
  onward n r b = elim b [ true ↦ (listed room paren below h n (drop 1 r.1) >>= λ q. Some (r.0 ∷ q.0, q.1)) | false ↦ Some (r.0 ∷ [], r.1) ]

  pub listed_none : (m n : ℕ) (es : List Exp) (ts : List Token) → m ≡ suc n → paren h assignment ts ≡ None → put es (listed room paren below h m ts) ≡ None
  listed_none m n es ts one none = rw (one, none) refl

  pub listed_last : (m n : ℕ) (es : List Exp) (ts : List Token) (r : Exp × List Token) → m ≡ suc n → paren h assignment ts ≡ Some r → is_sign sign.Comma r.1 ≡ false →
      put es (listed room paren below h m ts) ≡ Some (es ++ r.0 ∷ [], r.1)
  listed_last m n es ts r one here last = rw (one, here) (ap (λ b. put es (onward n r b)) last)

  pub listed_more : (m n : ℕ) (es : List Exp) (ts : List Token) (r : Exp × List Token) → m ≡ suc n → paren h assignment ts ≡ Some r → is_sign sign.Comma r.1 ≡ true →
      put es (listed room paren below h m ts) ≡ put (es ++ r.0 ∷ []) (listed room paren below h n (drop 1 r.1))
  listed_more m n es ts r one here comma = rw (one, here) (ap (λ b. put es (onward n r b)) comma) ∙ more_put es r.0 (listed room paren below h n (drop 1 r.1))

pub heights_more : (es : List Exp) (e : Exp) → heights (exps (es ++ e ∷ [])) ≡ max (heights (exps es)) (height e)
heights_more [] e = omega arith
heights_more (x ∷ es) e = let h = heights_more es e in omega (arith, h)

pub read_suc : (b h g k : ℕ) (ts : List Token) → h ≡ suc g → read b h k ts ≡ full (has_room b) (within b) (read b g) g k ts
unfolding level
read_suc b h g k ts e = ap (λ n. read b n k ts) e

unclosed : {X : Type 0} (s : Punct) (x : X) (ts : List Token) → is_sign s ts ≡ false → closing s x ts ≡ None
unclosed s x ts e = rw e refl

abbrev grouped_by : Spot → Read Exp → Read Exp
grouped_by p o = o >>= λ r. closing sign.ParenClose (moved p r.0) r.1

-- parentheses that nothing closes
pub grouped_unclosed : (room : Bool) (paren : ℕ → ℕ → List Token → Read Exp) (below : ℕ → List Token → Read Exp) (h : ℕ) (p : Spot) (ts rest : List Token) (e : Exp) (fault : Unread) →
    paren (h + 1) expr ts ≡ Some (e, rest) → Closes sign.ParenClose rest (Err fault) → Fails fault (grouped room paren below h p ts)
grouped_unclosed room paren below h p ts rest e Unspelled here wrong =
    let same : suc h ≡ h + 1 = omega arith in
    ap (λ n. grouped_by p (paren n expr ts)) same ∙ ap (grouped_by p) here ∙ unclosed sign.ParenClose (moved p e) rest wrong
grouped_unclosed room paren below h p ts rest e OutOfMemory here wrong = tt
