-- What is read as an operand is spelled by the tokens.
use Rattle.std.proofs.Common.{◌≡◌, ℕ, zero, suc, ◌≤◌, List, [], ◌∷◌, length, drop, Bool, true, refl, sym, ap, ◌∙◌, subst, inl, inr, ◌⊎◌, Option, Some, None, arith, ◌&&◌}
use Rattle.std.proofs.lemmas.Bool.{leb-true}
use Rattle.std.specs.Prelude.{nat_le, codes}
use Rattle.c_core.specs.declared.number.Spot.{Spot}
use Rattle.c_core.specs.declared.number.UnOp.{UnOp}
use Rattle.c_core.specs.declared.number.StepOp.{StepOp}
use Rattle.c_tokens.specs.Numbers.{is_spelled}
use Rattle.c_tokens.specs.declared.token.Token.{Token}
use Rattle.c_tokens.specs.declared.token.TokenKind.{TokenKind}
use Rattle.c_tokens.specs.declared.token.TokenKind.TheVariants as kind
use Rattle.c_tokens.specs.declared.token.Punct.{Punct}
use Rattle.c_tokens.specs.declared.token.Punct.TheVariants as sign
use Rattle.c_parser.specs.Tree.{Exp, Expr, exps, moved}
use Rattle.c_parser.specs.Tree as node
use Rattle.c_parser.specs.Heights.{height, heights}
use Rattle.c_parser.specs.Signs.{◌>>=◌, token, sign_token, word_token, place, sign_at, word_at, is_sign, same_sign, expr, assignment, cast, unary, postfix, primary, signs, steps_before, steps_behind}
use Rattle.c_parser.specs.Words.{is_name, TypeWord, type_word, type_of}
use Rattle.c_parser.specs.Expressions.{NameWords, NoMoreWords, AConst, ATypeWord, Bracketed, InBrackets, Dimensions, OneDimension, TwoDimensions, Arguments, LastArgument, MoreArguments, Expression, Stronger, SteppedBefore, Signed, Converted, SteppedBehind, AName, AnElement, ABareCall, ACall, ANumber, ACharacter, AGroup}
use Rattle.c_parser.specs.ReadExpressions.{Read, closing, grown, part_of_name, begins_type, onto_name, name_words, is_cast, bracketed, dimensions, listed, arguments, called, named, stepped, stepped_by, with_steps, grouped, converted, in_parens, signed, prefixed, opened, operand, operand_at}
use Rattle.c_parser.proofs.SignLaws.{some_same, same_signs, taken}
use Rattle.c_parser.proofs.WordLaws.{both_true, spelled_same}
use Rattle.c_parser.proofs.Complete.{moved_height}
use Rattle.c_parser.proofs.ReadLaws.{bind_some, chosen, parted, none_some, closed, grown_is, sign_in}

-- the words of a type name
word_named : (w : List ℕ) (p : Spot) (ts : List Token) (words : List TypeWord) (rest : List Token) (o : Option (List TypeWord)) → part_of_name (Some w) ≡ o → NameWords ts words rest →
    (let r = onto_name o (word_token w p ∷ ts) (words, rest) in NameWords (word_token w p ∷ ts) r.0 r.1)
word_named w p ts words rest None e n = NoMoreWords
word_named w p ts words rest (Some []) e n =
    chosen (is_spelled (codes "const") w) (Some []) (type_word w >>= λ t. Some (t ∷ [])) (Some []) e
    (λ f g. subst (λ (v : List ℕ). NameWords (word_token v p ∷ ts) words rest) (sym (spelled_same (codes "const") w f)) (AConst n))
    (λ f g. let t = bind_some (type_word w) _ [] g in let q : t.0 ∷ [] ≡ [] = some_same t.2 in absurd (cc))
word_named w p ts words rest (Some (t ∷ more)) e n =
    chosen (is_spelled (codes "const") w) (Some []) (type_word w >>= λ t. Some (t ∷ [])) (Some (t ∷ more)) e
    (λ f g. let q : [] ≡ t ∷ more = some_same g in absurd (cc))
    (λ f g.
    let u = bind_some (type_word w) _ (t ∷ more) g in
    let q : u.0 ∷ [] ≡ t ∷ more = some_same u.2 in
    let same : u.0 ≡ t = cc in
    ATypeWord (u.1 ∙ ap (λ (x : TypeWord). Some x) same) n)

kind_named : (k : TokenKind) (p : Spot) (ts : List Token) (words : List TypeWord) (rest : List Token) → NameWords ts words rest →
    (let r = onto_name (part_of_name (word_at (token k p ∷ ts))) (token k p ∷ ts) (words, rest) in NameWords (token k p ∷ ts) r.0 r.1)
kind_named (kind.Word w) p ts words rest n = word_named w p ts words rest (part_of_name (Some w)) refl n
kind_named (kind.Number v d u l) p ts words rest n = NoMoreWords
kind_named (kind.Char v) p ts words rest n = NoMoreWords
kind_named kind.Str p ts words rest n = NoMoreWords
kind_named (kind.Punct s) p ts words rest n = NoMoreWords

name_words_sound : (ts : List Token) → NameWords ts (name_words ts).0 (name_words ts).1
name_words_sound [] = NoMoreWords
name_words_sound (t ∷ ts) = kind_named t.kind t.spot ts (name_words ts).0 (name_words ts).1 (name_words_sound ts)

-- what stands in square brackets
module _ (Inside : List Token → Exp → List Token → Type 0) (inside : List Token → Read Exp) (h : ℕ)
    (inside_sound : (ts : List Token) (r : Exp × List Token) → inside ts ≡ Some r → Inside ts r.0 r.1 × (height r.0 ≤ h)) where
  abbrev OneBracketed : List Token → Exp × List Token → Type 0
  OneBracketed ts r = Bracketed Inside ts r.0 r.1 × (height r.0 ≤ h)

  bracketed_sound : (ts : List Token) (r : Exp × List Token) → is_sign sign.BracketOpen ts ≡ true → bracketed inside ts ≡ Some r → OneBracketed ts r
  bracketed_sound ts r f e =
      let t = taken sign.BracketOpen ts f in
      let o = bind_some (inside (drop 1 ts)) _ r e in
      let i = inside_sound (drop 1 ts) o.0 o.1 in
      let c = closed sign.BracketClose o.0.0 o.0.1 r o.2 in
      subst (λ (x : List Token). OneBracketed x r) (sym t.1)
      (subst (λ (x : Exp). OneBracketed (sign_token sign.BracketOpen t.0 ∷ drop 1 ts) (x, r.1)) c.2 (InBrackets (subst (λ (x : List Token). Inside (drop 1 ts) o.0.0 x) c.1 i.0), i.1))

  abbrev AllBracketed : List Token → List Exp × List Token → Type 0
  AllBracketed ts r = Dimensions Inside ts r.0 r.1 × (heights (exps r.0) ≤ h)

  pub dimensions_sound : (ts : List Token) (r : List Exp × List Token) → is_sign sign.BracketOpen ts ≡ true → dimensions inside ts ≡ Some r → AllBracketed ts r
  dimensions_sound ts r f e =
      let a = bind_some (bracketed inside ts) _ r e in
      let first = bracketed_sound ts a.0 f a.1 in
      let low : height a.0.0 ≤ h = first.1 in
      parted (is_sign sign.BracketOpen a.0.1) _ _ (Some r) a.2
      (λ x y.
      let b = bind_some (bracketed inside a.0.1) _ r y in
      let second = bracketed_sound a.0.1 b.0 x b.1 in
      let other : height b.0.0 ≤ h = second.1 in
      subst (AllBracketed ts) (some_same b.2) (TwoDimensions first.0 second.0, omega (arith, low, other)))
      (λ x y. subst (AllBracketed ts) (some_same y) (OneDimension first.0, omega (arith, low)))

module _ (room : Bool) (Inner : ℕ → List Token → Exp → List Token → Type 0) (paren : ℕ → ℕ → List Token → Read Exp) (below : ℕ → List Token → Read Exp) (h : ℕ)
    (paren_sound : (g k : ℕ) (ts : List Token) (r : Exp × List Token) → 1 ≤ k → k ≤ 15 → paren g k ts ≡ Some r → Inner k ts r.0 r.1 × (height r.0 ≤ g))
    (below_sound : (k : ℕ) (ts : List Token) (r : Exp × List Token) → 1 ≤ k → k ≤ 15 → below k ts ≡ Some r → Expression room Inner k ts r.0 r.1 × (height r.0 ≤ h)) where
  abbrev Listed : List Token → List Exp × List Token → Type 0
  Listed ts r = Arguments room Inner ts r.0 r.1 × (heights (exps r.0) ≤ h)

  -- spelled with this strength, of a height at most one more than h
  abbrev pub Good : ℕ → List Token → Exp × List Token → Type 0
  Good k ts r = Expression room Inner k ts r.0 r.1 × (height r.0 ≤ suc h)

  list_sound : (n : ℕ) (ts : List Token) (r : List Exp × List Token) → listed room paren below h n ts ≡ Some r → Listed ts r
  list_sound zero ts r e = none_some r e
  list_sound (suc n) ts r e =
      let o = bind_some (paren h assignment ts) _ r e in
      let a = paren_sound h assignment ts o.0 (omega arith) (omega arith) o.1 in
      let low : height o.0.0 ≤ h = a.1 in
      parted (is_sign sign.Comma o.0.1) _ _ (Some r) o.2
      (λ f g.
      let t = taken sign.Comma o.0.1 f in
      let q = bind_some (listed room paren below h n (drop 1 o.0.1)) _ r g in
      let b = list_sound n (drop 1 o.0.1) q.0 q.1 in
      let others : heights (exps q.0.0) ≤ h = b.1 in
      subst (Listed ts) (some_same q.2) (MoreArguments (subst (λ (m : List Token). Inner assignment ts o.0.0 m) t.1 a.0) b.0, omega (arith, low, others)))
      (λ f g. subst (Listed ts) (some_same g) (LastArgument a.0, omega (arith, low)))

  called_sound : (p q : Spot) (w : List ℕ) (ts : List Token) (r : Exp × List Token) → is_name w ≡ true → called room paren below h p w ts ≡ Some r → Good primary (word_token w p ∷ sign_token sign.ParenOpen q ∷ ts) r
  called_sound p q w ts r n e =
      let o = bind_some (arguments room paren below h ts) _ r e in
      let c = closed sign.ParenClose (Expr p (node.Call w p (exps o.0.0) (place o.0.1))) o.0.1 r o.2 in
      parted (is_sign sign.ParenClose ts) _ _ (Some o.0) o.1
      (λ f g.
      chosen room (Some ([], ts)) None (Some o.0) g
      (λ x y.
      let s = some_same y in
      let here : ts ≡ sign_token sign.ParenClose c.0 ∷ r.1 = ap (λ (y : List Exp × List Token). y.1) s ∙ c.1 in
      let value : Expr p (node.Call w p (exps []) c.0) ≡ r.0 =
      ap (λ (y : List Exp). Expr p (node.Call w p (exps y) c.0)) (ap (λ (y : List Exp × List Token). y.0) s)
      ∙ ap (λ (y : List Token). Expr p (node.Call w p (exps o.0.0) (place y))) (sym c.1) ∙ c.2 in
      subst (λ (y : List Token). Good primary (word_token w p ∷ sign_token sign.ParenOpen q ∷ y) r) (sym here)
      (subst (λ (y : Exp). Good primary (word_token w p ∷ sign_token sign.ParenOpen q ∷ sign_token sign.ParenClose c.0 ∷ r.1) (y, r.1)) value (ABareCall n x, omega arith)))
      (λ x y. none_some o.0 y))
      (λ f g.
      let a = list_sound (length ts) ts o.0 g in
      let low : heights (exps o.0.0) ≤ h = a.1 in
      let value : Expr p (node.Call w p (exps o.0.0) c.0) ≡ r.0 = ap (λ (y : List Token). Expr p (node.Call w p (exps o.0.0) (place y))) (sym c.1) ∙ c.2 in
      subst (λ (y : Exp). Good primary (word_token w p ∷ sign_token sign.ParenOpen q ∷ ts) (y, r.1)) value
      (ACall n (subst (λ (y : List Token). Arguments room Inner ts o.0.0 y) c.1 a.0), omega (arith, low)))

  named_sound : (p : Spot) (w : List ℕ) (ts : List Token) (r : Exp × List Token) → is_name w ≡ true → named room paren below h p w ts ≡ Some r → Good primary (word_token w p ∷ ts) r
  named_sound p w ts r n e =
      parted (is_sign sign.ParenOpen ts) _ _ (Some r) e
      (λ f g. let t = taken sign.ParenOpen ts f in subst (λ (y : List Token). Good primary (word_token w p ∷ y) r) (sym t.1) (called_sound p t.0 w (drop 1 ts) r n g))
      (λ f g.
      parted (is_sign sign.BracketOpen ts) _ _ (Some r) g
      (λ x y.
      let o = bind_some (dimensions (paren h expr) ts) _ r y in
      let i = dimensions_sound (Inner expr) (paren h expr) h (λ us q z. paren_sound h expr us q (omega arith) (omega arith) z) ts o.0 x o.1 in
      let low : heights (exps o.0.0) ≤ h = i.1 in
      subst (Good primary (word_token w p ∷ ts)) (some_same o.2) (AnElement n i.0, omega (arith, low)))
      (λ x y. subst (Good primary (word_token w p ∷ ts)) (some_same y) (AName n, omega arith)))

  step_sound : (ts : List Token) (again : Exp → List Token → Read Exp) →
      ((e : Exp) (us : List Token) (r : Exp × List Token) → Expression room Inner postfix ts e us → height e ≤ suc h → again e us ≡ Some r → Good postfix ts r) →
      (e : Exp) (us : List Token) (r : Exp × List Token) → Expression room Inner postfix ts e us → height e ≤ suc h → (o : Option StepOp) → (sign_at us >>= steps_behind) ≡ o →
      stepped_by room paren below h again (place ts) e us o ≡ Some r → Good postfix ts r
  step_sound ts again onward e us r d hi None is f = subst (Good postfix ts) (some_same f) (d, hi)
  step_sound ts again onward e us r d hi (Some op) is f =
      let s = sign_in steps_behind us op is in
      let a = bind_some (grown h (place ts) (node.Step op e) (drop 1 us)) _ r f in
      let g = grown_is h (place ts) (node.Step op e) (drop 1 us) a.0 a.1 in
      let low : height e ≤ h = g.0 in
      let one : Good postfix ts a.0 = subst (Good postfix ts) g.1 (SteppedBehind s.3 (subst (λ (y : List Token). Expression room Inner postfix ts e y) s.2 d), omega (arith, low)) in
      onward a.0.0 a.0.1 r one.0 one.1 a.2

  stepped_sound : (n : ℕ) (ts : List Token) (e : Exp) (us : List Token) (r : Exp × List Token) → Expression room Inner postfix ts e us → height e ≤ suc h → stepped room paren below h n (place ts) e us ≡ Some r → Good postfix ts r
  stepped_sound zero ts e us r d hi f = step_sound ts (λ x y. None) (λ x y q a b g. none_some q g) e us r d hi (sign_at us >>= steps_behind) refl f
  stepped_sound (suc n) ts e us r d hi f = step_sound ts (stepped room paren below h n (place ts)) (stepped_sound n ts) e us r d hi (sign_at us >>= steps_behind) refl f

  steps_sound : (ts : List Token) (o : Read Exp) (r : Exp × List Token) → ((q : Exp × List Token) → o ≡ Some q → Good primary ts q) → with_steps room paren below h (place ts) o ≡ Some r → Good unary ts r
  steps_sound ts o r good e =
      let a = bind_some o _ r e in
      let p = good a.0 a.1 in
      let q = stepped_sound h ts a.0.0 a.0.1 r (Stronger p.0) p.1 a.2 in
      (Stronger q.0, q.1)

  grouped_sound : (p : Spot) (ts : List Token) (r : Exp × List Token) → grouped room paren below h p ts ≡ Some r → Good primary (sign_token sign.ParenOpen p ∷ ts) r
  grouped_sound p ts r e =
      let o = bind_some (paren (suc h) expr ts) _ r e in
      let i = paren_sound (suc h) expr ts o.0 (omega arith) (omega arith) o.1 in
      let c = closed sign.ParenClose (moved p o.0.0) o.0.1 r o.2 in
      subst (λ (y : Exp). Good primary (sign_token sign.ParenOpen p ∷ ts) (y, r.1)) c.2
      (AGroup (subst (λ (y : List Token). Inner expr ts o.0.0 y) c.1 i.0), subst (λ (n : ℕ). n ≤ suc h) (sym (moved_height p o.0.0)) i.1)

  -- a unary expression, or a cast where the strength k allows one
  abbrev pub Operand : ℕ → List Token → Exp × List Token → Type 0
  Operand k ts r = (Expression room Inner unary ts r.0 r.1 ⊎ (Expression room Inner cast ts r.0 r.1 × (k ≤ cast) × (is_cast ts ≡ true))) × (height r.0 ≤ suc h)

  abbrev as_operand : (k : ℕ) (ts : List Token) (r : Exp × List Token) → Good unary ts r → Operand k ts r
  as_operand k ts r g = (inl g.0, g.1)

  converted_sound : (k : ℕ) (p : Spot) (ts : List Token) (r : Exp × List Token) → room ≡ true → k ≤ cast → begins_type ts ≡ true → converted room paren below h p (name_words ts) ≡ Some r → Operand k (sign_token sign.ParenOpen p ∷ ts) r
  converted_sound k p ts r some le begins e =
      let a = bind_some (closing sign.ParenClose (name_words ts).0 (name_words ts).1) _ r e in
      let c = closed sign.ParenClose (name_words ts).0 (name_words ts).1 a.0 a.1 in
      let t = bind_some (type_of a.0.0) _ r a.2 in
      let b = bind_some (below cast a.0.1) _ r t.2 in
      let g = below_sound cast a.0.1 b.0 (omega arith) (omega arith) b.1 in
      let low : height b.0.0 ≤ h = g.1 in
      let words : NameWords ts a.0.0 (sign_token sign.ParenClose c.0 ∷ a.0.1) = subst (λ (y : List TypeWord). NameWords ts y (sign_token sign.ParenClose c.0 ∷ a.0.1)) c.2 (subst (λ (y : List Token). NameWords ts (name_words ts).0 y) c.1 (name_words_sound ts)) in
      subst (Operand k (sign_token sign.ParenOpen p ∷ ts)) (some_same b.2) (inr (Converted some words t.1 g.0, le, begins), omega (arith, low))

  parens_sound : (k : ℕ) (p : Spot) (ts : List Token) (r : Exp × List Token) → in_parens room paren below h k p ts ≡ Some r → Operand k (sign_token sign.ParenOpen p ∷ ts) r
  parens_sound k p ts r e =
      parted (begins_type ts) _ _ (Some r) e
      (λ f g.
      parted (room && nat_le k cast) _ _ (Some r) g
      (λ x y. let b = both_true room (nat_le k cast) x in converted_sound k p ts r b.0 (leb-true k cast b.1) f y)
      (λ x y. none_some r y))
      (λ f g. as_operand k (sign_token sign.ParenOpen p ∷ ts) r (steps_sound (sign_token sign.ParenOpen p ∷ ts) (grouped room paren below h p ts) r (λ q x. grouped_sound p ts q x) g))

  signed_sound : (p : Spot) (s : Punct) (o : Option UnOp) → signs s ≡ o → (ts : List Token) (r : Exp × List Token) → signed room paren below h p o ts ≡ Some r → Good unary (sign_token s p ∷ ts) r
  signed_sound p s None u ts r e = none_some r e
  signed_sound p s (Some op) u ts r e =
      let a = bind_some (below cast ts) _ r e in
      let g = below_sound cast ts a.0 (omega arith) (omega arith) a.1 in
      let low : height a.0.0 ≤ h = g.1 in
      subst (Good unary (sign_token s p ∷ ts)) (some_same a.2) (Signed u g.0, omega (arith, low))

  prefixed_sound : (p : Spot) (s : Punct) (o : Option StepOp) → steps_before s ≡ o → (ts : List Token) (r : Exp × List Token) → prefixed room paren below h p o (signs s) ts ≡ Some r → Good unary (sign_token s p ∷ ts) r
  prefixed_sound p s None u ts r e = signed_sound p s (signs s) refl ts r e
  prefixed_sound p s (Some op) u ts r e =
      let a = bind_some (below unary ts) _ r e in
      let g = below_sound unary ts a.0 (omega arith) (omega arith) a.1 in
      let low : height a.0.0 ≤ h = g.1 in
      subst (Good unary (sign_token s p ∷ ts)) (some_same a.2) (SteppedBefore u g.0, omega (arith, low))

  opened_sound : (k : ℕ) (p : Spot) (s : Punct) (ts : List Token) (r : Exp × List Token) → opened room paren below h k p s ts ≡ Some r → Operand k (sign_token s p ∷ ts) r
  opened_sound k p s ts r e =
      parted (same_sign sign.ParenOpen s) _ _ (Some r) e
      (λ f g. subst (λ (y : Punct). Operand k (sign_token y p ∷ ts) r) (sym (same_signs sign.ParenOpen s f)) (parens_sound k p ts r g))
      (λ f g. as_operand k (sign_token s p ∷ ts) r (prefixed_sound p s (steps_before s) refl ts r g))

  kind_sound : (k : ℕ) (p : Spot) (t : TokenKind) (ts : List Token) (r : Exp × List Token) → operand_at room paren below h k p t ts ≡ Some r → Operand k (token t p ∷ ts) r
  kind_sound k p (kind.Word w) ts r e =
      parted (is_name w) _ _ (Some r) e
      (λ f g. as_operand k (word_token w p ∷ ts) r (steps_sound (word_token w p ∷ ts) (named room paren below h p w ts) r (λ q x. named_sound p w ts q f x) g))
      (λ f g. none_some r g)
  kind_sound k p (kind.Number v d u l) ts r e =
      as_operand k (token (kind.Number v d u l) p ∷ ts) r (steps_sound (token (kind.Number v d u l) p ∷ ts) _ r (λ q x. subst (Good primary (token (kind.Number v d u l) p ∷ ts)) (some_same x) (ANumber, omega arith)) e)
  kind_sound k p (kind.Char v) ts r e =
      as_operand k (token (kind.Char v) p ∷ ts) r (steps_sound (token (kind.Char v) p ∷ ts) _ r (λ q x. subst (Good primary (token (kind.Char v) p ∷ ts)) (some_same x) (ACharacter, omega arith)) e)
  kind_sound k p kind.Str ts r e = none_some r e
  kind_sound k p (kind.Punct s) ts r e = opened_sound k p s ts r e

  pub operand_sound : (k : ℕ) (ts : List Token) (r : Exp × List Token) → operand room paren below h k ts ≡ Some r → Operand k ts r
  operand_sound k [] r e = none_some r e
  operand_sound k (t ∷ ts) r e = kind_sound k t.spot t.kind ts r e
