-- Each expression that tokens spell is read from them.
use Rattle.std.proofs.Common.{◌≡◌, ℕ, zero, suc, ◌+◌, ◌≤◌, ◌<◌, max, List, ◌∷◌, length, Bool, true, false, refl, ap, ◌∙◌, subst, cond, inl, inr, Option, Some, None, arith, ◌&&◌, not}
use Rattle.std.proofs.lemmas.Bool.{cond-false, le-ltb, le-leb, lt-leb, and_left, and_right, and_from}
use Rattle.std.specs.Prelude.{nat_le}
use Rattle.c_core.specs.declared.number.IntType.{IntType}
use Rattle.c_core.specs.declared.number.Spot.{Spot}
use Rattle.c_core.specs.declared.number.StepOp.{StepOp}
use Rattle.c_tokens.specs.declared.token.Token.{Token}
use Rattle.c_tokens.specs.declared.token.Punct.{Punct}
use Rattle.c_tokens.specs.declared.token.Punct.TheVariants as sign
use Rattle.c_parser.specs.Tree.{Exp, Expr, Node, exps, moved}
use Rattle.c_parser.specs.Tree as node
use Rattle.c_parser.specs.Heights.{height, height_in, heights}
use Rattle.c_parser.specs.Signs.{◌>>=◌, sign_token, place, sign_at, is_sign, expr, assignment, conditional, cast, unary, postfix, Joint, Sequence, Both, Either, Plain, joined, joins, assigns, signs, steps_before, steps_behind, same_sign}
use Rattle.c_parser.specs.Words.{TypeWord, type_of}
use Rattle.c_parser.specs.Expressions.{NameWords, NoMoreWords, AConst, ATypeWord, Bracketed, InBrackets, Dimensions, OneDimension, TwoDimensions, Arguments, LastArgument, MoreArguments, Expression, Stronger, Joined, Assigned, Chosen, SteppedBefore, Signed, Converted, SteppedBehind, AName, AnElement, ABareCall, ACall, ANumber, ACharacter, AGroup, Within, has_room, Spells}
use Rattle.c_parser.specs.ReadExpressions.{Read, grown, begins_type, name_words, is_cast, joint_at, bracketed, dimensions, listed, arguments, called, named, stepped, with_steps, grouped, converted, in_parens, prefixed, opened, operand, tail, choice, stored, assign_at, full, level, within, read}
use Rattle.c_parser.proofs.SignLaws.{grip, grip_of, join_facts, step_grip, assign_grip, step_before_facts, signed_facts, no_step, no_assign, no_joint, loose, grip_gap}
use Rattle.c_parser.proofs.WordLaws.{no_part_of_name, type_part}

-- the front of the tokens is something, and no closing parenthesis or type word
pub record Front (ts rest : List Token) : Type 0 where
  pub no_close : is_sign sign.ParenClose ts ≡ false
  pub no_type : begins_type ts ≡ false
  pub some : length rest < length ts

front : (ts rest : List Token) → is_sign sign.ParenClose ts ≡ false → begins_type ts ≡ false → length rest < length ts → Front ts rest
front ts rest a b c = record { no_close = a; no_type = b; some = c }

pub height_least : (e : Exp) → 1 ≤ height e
height_least (Expr p n) = omega arith

pub moved_height : (p : Spot) (e : Exp) → height (moved p e) ≡ height e
moved_height p (Expr q n) = refl

joined_height : (j : Joint) (a b : Exp) → height_in (joined j a b) ≡ max (height a) (height b)
joined_height Sequence a b = refl
joined_height Both a b = refl
joined_height Either a b = refl
joined_height (Plain o) a b = refl

words_shorter : (ts : List Token) (words : List TypeWord) (rest : List Token) → NameWords ts words rest → length rest ≤ length ts
words_shorter ts words rest NoMoreWords = omega arith
words_shorter ts words rest (AConst h) = let x = words_shorter _ _ _ h in omega arith
words_shorter ts words rest (ATypeWord t h) = let x = words_shorter _ _ _ h in omega arith

-- what stands in square brackets
module _ (Inside : List Token → Exp → List Token → Type 0) (inside_shorter : (ts : List Token) (e : Exp) (rest : List Token) → Inside ts e rest → length rest < length ts) where
  bracketed_shorter : (ts : List Token) (e : Exp) (rest : List Token) → Bracketed Inside ts e rest → length rest < length ts
  bracketed_shorter ts e rest (InBrackets a) = let x = inside_shorter _ _ _ a in omega arith

  pub dimensions_shorter : (ts : List Token) (es : List Exp) (rest : List Token) → Dimensions Inside ts es rest → length rest < length ts
  dimensions_shorter ts es rest (OneDimension a) = bracketed_shorter _ _ _ a
  dimensions_shorter ts es rest (TwoDimensions a b) = let x = bracketed_shorter _ _ _ a in let y = bracketed_shorter _ _ _ b in omega arith

pub dimensions_begin : (Inside : List Token → Exp → List Token → Type 0) (ts : List Token) (es : List Exp) (rest : List Token) → Dimensions Inside ts es rest →
    (is_sign sign.ParenOpen ts ≡ false) × (is_sign sign.BracketOpen ts ≡ true)
dimensions_begin Inside ts es rest (OneDimension (InBrackets a)) = (refl, refl)
dimensions_begin Inside ts es rest (TwoDimensions (InBrackets a) b) = (refl, refl)

module _ (Inside : List Token → Exp → List Token → Type 0) (inside : List Token → Read Exp) (h : ℕ)
    (inside_read : (ts : List Token) (e : Exp) (q : Spot) (rest : List Token) → Inside ts e (sign_token sign.BracketClose q ∷ rest) → height e ≤ h → inside ts ≡ Some (e, sign_token sign.BracketClose q ∷ rest)) where
  bracketed_read : (ts : List Token) (e : Exp) (rest : List Token) → Bracketed Inside ts e rest → height e ≤ h → bracketed inside ts ≡ Some (e, rest)
  bracketed_read ts e rest (InBrackets a) hi = rw (inside_read _ _ _ _ a hi) refl

  bracket_first : (ts : List Token) (e : Exp) (rest : List Token) → Bracketed Inside ts e rest → is_sign sign.BracketOpen ts ≡ true
  bracket_first ts e rest (InBrackets a) = refl

  pub dimensions_read : (ts : List Token) (es : List Exp) (rest : List Token) → Dimensions Inside ts es rest → heights (exps es) ≤ h → is_sign sign.BracketOpen rest ≡ false → dimensions inside ts ≡ Some (es, rest)
  dimensions_read ts es rest (OneDimension a) hi f = rw (bracketed_read _ _ _ a (omega arith), ◌>>=◌, f) refl
  dimensions_read ts es rest (TwoDimensions a b) hi f = rw (bracketed_read _ _ _ a (omega arith), ◌>>=◌, bracket_first _ _ _ b, bracketed_read _ _ _ b (omega arith)) refl

module _ (room : Bool) (Inner : ℕ → List Token → Exp → List Token → Type 0)
    (inner_front : (k : ℕ) (ts : List Token) (e : Exp) (rest : List Token) → Inner k ts e rest → Front ts rest) where
  arguments_front : (ts : List Token) (es : List Exp) (rest : List Token) → Arguments room Inner ts es rest → Front ts rest
  arguments_front ts es rest (LastArgument h) = inner_front _ _ _ _ h
  arguments_front ts es rest (MoreArguments h a) = let x = inner_front _ _ _ _ h in let y = arguments_front _ _ _ a in let v = x.some in let w = y.some in front _ _ x.no_close x.no_type (omega arith)

  pub expression_front : (k : ℕ) (ts : List Token) (e : Exp) (rest : List Token) → Expression room Inner k ts e rest → Front ts rest
  expression_front k ts e rest (Stronger a) = expression_front _ _ _ _ a
  expression_front k ts e rest (Joined x a b) = let f = expression_front _ _ _ _ a in let g = expression_front _ _ _ _ b in let v = f.some in let w = g.some in front _ _ f.no_close f.no_type (omega arith)
  expression_front k ts e rest (Assigned x a b) = let f = expression_front _ _ _ _ a in let g = expression_front _ _ _ _ b in let v = f.some in let w = g.some in front _ _ f.no_close f.no_type (omega arith)
  expression_front k ts e rest (Chosen a b c) =
      let f = expression_front _ _ _ _ a in let g = expression_front _ _ _ _ b in let i = expression_front _ _ _ _ c in
      let v = f.some in let w = g.some in let u = i.some in front _ _ f.no_close f.no_type (omega arith)
  expression_front k ts e rest (SteppedBefore x a) = let f = expression_front _ _ _ _ a in let v = f.some in front _ _ (step_before_facts _ _ x).no_close refl (omega arith)
  expression_front k ts e rest (Signed x a) = let f = expression_front _ _ _ _ a in let v = f.some in front _ _ ((signed_facts _ _ x).0).no_close refl (omega arith)
  expression_front k ts e rest (Converted r n t a) = let f = expression_front _ _ _ _ a in let w = words_shorter _ _ _ n in let v = f.some in front _ _ refl refl (omega arith)
  expression_front k ts e rest (SteppedBehind x a) = let f = expression_front _ _ _ _ a in let v = f.some in front _ _ f.no_close f.no_type (omega arith)
  expression_front k ts e rest (AName {w = w} n) = front _ _ refl (no_part_of_name w n) (omega arith)
  expression_front k ts e rest (AnElement {w = w} n a) =
      let v = dimensions_shorter (Inner expr) (λ us u last i. (inner_front expr us u last i).some) _ _ _ a in front _ _ refl (no_part_of_name w n) (omega arith)
  expression_front k ts e rest (ABareCall {w = w} n r) = front _ _ refl (no_part_of_name w n) (omega arith)
  expression_front k ts e rest (ACall {w = w} n a) = let f = arguments_front _ _ _ a in let v = f.some in front _ _ refl (no_part_of_name w n) (omega arith)
  expression_front k ts e rest ANumber = front _ _ refl refl (omega arith)
  expression_front k ts e rest ACharacter = front _ _ refl refl (omega arith)
  expression_front k ts e rest (AGroup a) = let f = inner_front _ _ _ _ a in let v = f.some in front _ _ refl refl (omega arith)

pub within_front : (b k : ℕ) (ts : List Token) (e : Exp) (rest : List Token) → Within b k ts e rest → Front ts rest
unfolding Within
within_front zero k ts e rest h = absurd h
within_front (suc b) k ts e rest h = expression_front (has_room b) (Within b) (within_front b) k ts e rest h

words_read : (ts : List Token) (words : List TypeWord) (q : Spot) (mid : List Token) → NameWords ts words (sign_token sign.ParenClose q ∷ mid) → name_words ts ≡ (words, sign_token sign.ParenClose q ∷ mid)
words_read ts words q mid NoMoreWords = refl
words_read ts words q mid (AConst n) = rw (words_read _ _ _ _ n) refl
words_read ts words q mid (ATypeWord {w = w} {t = t} e n) = rw (type_part w t e, words_read _ _ _ _ n) refl

words_begin : (ts : List Token) (words : List TypeWord) (rest : List Token) (to : Option IntType) → NameWords ts words rest → type_of words ≡ Some to → begins_type ts ≡ true
words_begin ts words rest to NoMoreWords e = absurd (cc)
words_begin ts words rest to (AConst n) e = refl
words_begin ts words rest to (ATypeWord {w = w} {t = t} x n) e = rw (type_part w t x) refl

module _ (room : Bool) (Inner : ℕ → List Token → Exp → List Token → Type 0)
    (inner_front : (k : ℕ) (ts : List Token) (e : Exp) (rest : List Token) → Inner k ts e rest → Front ts rest)
    (paren : ℕ → ℕ → List Token → Read Exp) (below : ℕ → List Token → Read Exp) (h : ℕ)
    (paren_complete : (g k : ℕ) (ts : List Token) (e : Exp) (rest : List Token) → 1 ≤ k → k ≤ 15 → Inner k ts e rest → height e ≤ g → grip rest < k → paren g k ts ≡ Some (e, rest))
    (below_complete : (k : ℕ) (ts : List Token) (e : Exp) (rest : List Token) → 1 ≤ k → k ≤ 15 → Expression room Inner k ts e rest → height e ≤ h → grip rest < k → below k ts ≡ Some (e, rest)) where
  grown_low : (p : Spot) (n : Node) (m : List Token) → height_in n ≤ h → grown h p n m ≡ Some (Expr p n, m)
  grown_low p n m low = cond-false _ _ _ (le-ltb h (height_in n) low)

  arguments_complete : (n : ℕ) (ts : List Token) (es : List Exp) (q : Spot) (rest : List Token) → length ts ≤ n → Arguments room Inner ts es (sign_token sign.ParenClose q ∷ rest) → heights (exps es) ≤ h →
      listed room paren below h n ts ≡ Some (es, sign_token sign.ParenClose q ∷ rest)
  arguments_complete zero ts es q rest n (LastArgument a) hi = let x = (inner_front _ _ _ _ a).some in absurd (omega arith)
  arguments_complete zero ts es q rest n (MoreArguments a b) hi = let x = (inner_front _ _ _ _ a).some in absurd (omega arith)
  arguments_complete (suc m) ts es q rest n (LastArgument a) hi = rw (paren_complete h 2 _ _ _ (omega arith) (omega arith) a (omega arith) (omega arith)) refl
  arguments_complete (suc m) ts es q rest n (MoreArguments a b) hi =
      let x = (inner_front _ _ _ _ a).some in
      rw (paren_complete h 2 _ _ _ (omega arith) (omega arith) a (omega arith) (omega arith), arguments_complete m _ _ _ _ (omega arith) b (omega arith)) refl

  arguments_read : (ts : List Token) (es : List Exp) (r : Spot) (rest : List Token) → Arguments room Inner ts es (sign_token sign.ParenClose r ∷ rest) → heights (exps es) ≤ h →
      arguments room paren below h ts ≡ Some (es, sign_token sign.ParenClose r ∷ rest)
  arguments_read ts es r rest a hi = rw (arguments, (arguments_front room Inner inner_front _ _ _ a).no_close) (arguments_complete (length ts) ts es r rest (omega arith) a hi)

  called_read : (p : Spot) (w : List ℕ) (ts : List Token) (es : List Exp) (r : Spot) (rest : List Token) → arguments room paren below h ts ≡ Some (es, sign_token sign.ParenClose r ∷ rest) →
      called room paren below h p w ts ≡ Some (Expr p (node.Call w p (exps es) r), rest)
  called_read p w ts es r rest e = rw (called, e) refl

  group_read : (j : ℕ) (p : Spot) (ts : List Token) → begins_type ts ≡ false → in_parens room paren below h j p ts ≡ with_steps room paren below h p (grouped room paren below h p ts)
  group_read j p ts f = rw (in_parens, f) refl

  grouped_read : (p : Spot) (ts : List Token) (e : Exp) (r : Spot) (rest : List Token) → paren (suc h) expr ts ≡ Some (e, sign_token sign.ParenClose r ∷ rest) → grouped room paren below h p ts ≡ Some (moved p e, rest)
  grouped_read p ts e r rest f = rw (grouped, f) refl

  cast_read : (j : ℕ) (p : Spot) (ts : List Token) → begins_type ts ≡ true → (room && nat_le j cast) ≡ true → in_parens room paren below h j p ts ≡ converted room paren below h p (name_words ts)
  cast_read j p ts b r = rw (in_parens, b, r) refl

  converted_read : (p : Spot) (words : List TypeWord) (to : Option IntType) (q : Spot) (ts : List Token) (e : Exp) (rest : List Token) → type_of words ≡ Some to → below cast ts ≡ Some (e, rest) →
      converted room paren below h p (words, sign_token sign.ParenClose q ∷ ts) ≡ Some (Expr p (node.Cast to e), rest)
  converted_read p words to q ts e rest t f = rw (converted, t, f) refl

  opened_read : (j : ℕ) (p : Spot) (s : Punct) (ts : List Token) → same_sign sign.ParenOpen s ≡ false → opened room paren below h j p s ts ≡ prefixed room paren below h p (steps_before s) (signs s) ts
  opened_read j p s ts f = rw (opened, f) refl

  name_read : (p : Spot) (w : List ℕ) (rest : List Token) → grip rest < 18 → named room paren below h p w rest ≡ Some (Expr p (node.Var w p), rest)
  name_read p w rest g = rw (named, loose sign.ParenOpen rest 18 g (omega arith), loose sign.BracketOpen rest 18 g (omega arith)) refl

  element_read : (p : Spot) (w : List ℕ) (ts : List Token) (es : List Exp) (rest : List Token) → is_sign sign.ParenOpen ts ≡ false → is_sign sign.BracketOpen ts ≡ true → dimensions (paren h expr) ts ≡ Some (es, rest) →
      named room paren below h p w ts ≡ Some (Expr p (node.Index w p (exps es)), rest)
  element_read p w ts es rest a b e = rw (named, a, b, e) refl

  -- a primary expression, and what still has to be read behind it
  primary_complete : (j k : ℕ) (ts : List Token) (e : Exp) (rest : List Token) → 17 ≤ k → Expression room Inner k ts e rest → height e ≤ suc h → grip rest < 18 →
      operand room paren below h j ts ≡ stepped room paren below h h (place ts) e rest
  primary_complete j k ts e rest lo (Stronger a) hi g = primary_complete j (suc k) ts e rest (omega arith) a hi g
  primary_complete j k ts e rest lo (Joined {s = s} x a b) hi g = let f = (join_facts s _ x).greatest in absurd (omega (arith, f))
  primary_complete j k ts e rest lo (AName {w = w} {p = p} n) hi g = rw (n, name_read p w rest g) refl
  primary_complete j k ts e rest lo (AnElement {ts = m} {w = w} {es = es} {p = p} n a) hi g =
      let f = dimensions_begin (Inner expr) m es rest a in
      let d = dimensions_read (Inner expr) (paren h expr) h (λ us u q last i low. paren_complete h 1 us u _ (omega arith) (omega arith) i low (omega arith)) m es rest a (omega arith) (loose sign.BracketOpen rest 18 g (omega arith)) in
      rw (n, element_read p w m es rest f.0 f.1 d) refl
  primary_complete j k ts e rest lo (ABareCall n r) hi g = rw (n, r) refl
  primary_complete j k ts e rest lo (ACall {ts = m} {w = w} {es = es} {p = p} {q = q} {r = r} n a) hi g =
      rw (n, called_read p w m es r rest (arguments_read m es r rest a (omega arith))) refl
  primary_complete j k ts e rest lo ANumber hi g = refl
  primary_complete j k ts e rest lo ACharacter hi g = refl
  primary_complete j k ts e rest lo (AGroup {ts = m} {e = i} {p = p} a) hi g =
      let low : height i ≤ suc h = subst (λ n. n ≤ suc h) (moved_height p i) hi in
      group_read j p m (inner_front _ _ _ _ a).no_type ∙ rw (grouped_read p m i _ rest (paren_complete (suc h) 1 _ _ _ (omega arith) (omega arith) a low (omega arith))) refl
  primary_complete j k ts e rest lo d hi g = absurd (omega arith)

  -- steps behind a primary expression
  record Steps (j : ℕ) (ts : List Token) (e : Exp) (rest : List Token) : Type 0 where
    n : ℕ
    same : operand room paren below h j ts ≡ stepped room paren below h n (place ts) e rest
    enough : h < n + height e

  one_step : (n : ℕ) (p : Spot) (e : Exp) (s : Punct) (op : StepOp) (q : Spot) (rest : List Token) → steps_behind s ≡ Some op → height e ≤ h →
      stepped room paren below h (suc n) p e (sign_token s q ∷ rest) ≡ stepped room paren below h n p (Expr p (node.Step op e)) rest
  one_step n p e s op q rest x low = rw (x, grown_low p (node.Step op e) rest low) refl

  step_on : (j : ℕ) (ts : List Token) (e : Exp) (s : Punct) (op : StepOp) (q : Spot) (rest : List Token) → steps_behind s ≡ Some op → height e ≤ h → (n : ℕ) →
      operand room paren below h j ts ≡ stepped room paren below h n (place ts) e (sign_token s q ∷ rest) → h < n + height e → Steps j ts (Expr (place ts) (node.Step op e)) rest
  step_on j ts e s op q rest x low zero same enough = absurd (omega (arith, low, enough))
  step_on j ts e s op q rest x low (suc n) same enough = record { n = n; same = same ∙ one_step n (place ts) e s op q rest x low; enough = omega arith }

  steps_complete : (j k : ℕ) (ts : List Token) (e : Exp) (rest : List Token) → 16 ≤ k → Expression room Inner k ts e rest → height e ≤ suc h → grip rest < 18 → Steps j ts e rest
  steps_complete j k ts e rest lo (Stronger a) hi g = steps_complete j (suc k) ts e rest (omega arith) a hi g
  steps_complete j k ts e rest lo (SteppedBehind {e = i} {s = s} {op = op} {q = q} x a) hi g =
      let held : grip_of (Some s) ≡ 17 = step_grip s op x in
      let low : height i ≤ h = omega arith in
      let c = steps_complete j postfix ts i (sign_token s q ∷ rest) (omega arith) a (omega arith) (omega (arith, held)) in
      step_on j ts i s op q rest x low c.n c.same c.enough
  steps_complete j k ts e rest lo (Joined {s = s} x a b) hi g = let f = (join_facts s _ x).greatest in absurd (omega (arith, f))
  steps_complete j k ts e rest lo d hi g = let x = height_least e in record { n = h; same = primary_complete j k ts e rest (omega arith) d hi g; enough = omega arith }

  step_stop : (n : ℕ) (p : Spot) (e : Exp) (rest : List Token) → grip rest < 17 → stepped room paren below h n p e rest ≡ Some (e, rest)
  step_stop zero p e rest g = rw (no_step rest g) refl
  step_stop (suc n) p e rest g = rw (no_step rest g) refl

  -- the operand that a cast, a unary or a stronger expression is
  operand_complete : (j k : ℕ) (ts : List Token) (e : Exp) (rest : List Token) → j ≤ 15 → j ≤ k → 14 ≤ k → Expression room Inner k ts e rest → height e ≤ suc h → grip rest < 15 →
      operand room paren below h j ts ≡ Some (e, rest)
  operand_complete j k ts e rest few le lo (Stronger a) hi g = operand_complete j (suc k) ts e rest few (omega arith) (omega arith) a hi g
  operand_complete j k ts e rest few le lo (Joined {s = s} x a b) hi g = let f = (join_facts s _ x).greatest in absurd (omega (arith, f))
  operand_complete j k ts e rest few le lo (SteppedBefore {s = s} {op = op} x a) hi g =
      opened_read j _ s _ (step_before_facts s op x).no_open ∙ rw (x, below_complete 15 _ _ _ (omega arith) (omega arith) a (omega arith) g) refl
  operand_complete j k ts e rest few le lo (Signed {s = s} {op = op} x a) hi g =
      let f = signed_facts s op x in
      opened_read j _ s _ (f.0).no_open ∙ rw (f.1, x, below_complete 14 _ _ _ (omega arith) (omega arith) a (omega arith) (grip_gap rest (omega (arith, g)))) refl
  operand_complete j k ts e rest few le lo (Converted {ts = m} {mid = mid} {words = words} {to = to} {e = i} {p = p} {q = q} r n t a) hi g =
      let both : (room && nat_le j cast) ≡ true = and_from _ _ r (le-leb _ _ le) in
      cast_read j p m (words_begin m words _ to n t) both ∙ ap (converted room paren below h p) (words_read m words q mid n)
      ∙ converted_read p words to q mid i rest t (below_complete 14 _ _ _ (omega arith) (omega arith) a (omega arith) (grip_gap rest (omega (arith, g))))
  operand_complete j k ts e rest few le lo d hi g =
      let c = steps_complete j k ts e rest (omega arith) d hi (omega (arith, g)) in
      c.same ∙ step_stop c.n (place ts) e rest (omega (arith, g))

  -- the first operand, and what still has to be read behind a front
  record Climbed (j m : ℕ) (ts : List Token) (e : Exp) (rest : List Token) : Type 0 where
    first : Exp
    mid : List Token
    n : ℕ
    starts : operand room paren below h j ts ≡ Some (first, mid)
    no_assign : assign_at room paren below h ts j mid ≡ None
    same : tail room paren below h h (place ts) m first mid ≡ tail room paren below h n (place ts) m e rest
    enough : h < n + height e

  one_more : (n m : ℕ) (p : Spot) (k : ℕ) (s : Punct) (o : Joint) (q : Spot) (a b : Exp) (mid rest : List Token) →
      joins s ≡ Some (k, o) → m ≤ k → below (suc k) mid ≡ Some (b, rest) → height a ≤ h → height b ≤ h →
      tail room paren below h (suc n) p m a (sign_token s q ∷ mid) ≡ tail room paren below h n p m (Expr p (joined o a b)) rest
  one_more n m p k s o q a b mid rest x le r ha hb =
      let t : height_in (joined o a b) ≡ max (height a) (height b) = joined_height o a b in
      let joint : joint_at m (sign_token s q ∷ mid) ≡ Some (k, o) = rw (x) (cond-false _ _ _ (le-ltb k m le)) in
      rw (joint, r, grown_low p (joined o a b) rest (omega (arith, t, ha, hb))) refl

  grow : (j m k : ℕ) (ts : List Token) (a b : Exp) (s : Punct) (o : Joint) (q : Spot) (mid rest : List Token) →
      joins s ≡ Some (k, o) → m ≤ k → below (suc k) mid ≡ Some (b, rest) → height a ≤ h → height b ≤ h →
      (n : ℕ) (first : Exp) (r : List Token) → operand room paren below h j ts ≡ Some (first, r) → assign_at room paren below h ts j r ≡ None →
      tail room paren below h h (place ts) m first r ≡ tail room paren below h n (place ts) m a (sign_token s q ∷ mid) → h < n + height a →
      Climbed j m ts (Expr (place ts) (joined o a b)) rest
  grow j m k ts a b s o q mid rest x le r ha hb zero first f st plain same enough = absurd (omega (arith, ha, enough))
  grow j m k ts a b s o q mid rest x le r ha hb (suc n) first f st plain same enough =
      let t : height_in (joined o a b) ≡ max (height a) (height b) = joined_height o a b in
      record { first = first; mid = f; n = n; starts = st; no_assign = plain; same = same ∙ one_more n m (place ts) k s o q a b mid rest x le r ha hb; enough = omega (arith, t, enough, ha) }

  no_assign_at : (ts : List Token) (j : ℕ) (rest : List Token) → (sign_at rest >>= assigns) ≡ None → assign_at room paren below h ts j rest ≡ None
  no_assign_at ts j rest e = by (nat_le j assignment && not (is_cast ts))
    where
      by : (b : Bool) → cond b (sign_at rest >>= assigns) None ≡ None
      by true = e
      by false = refl

  climb : (j m k : ℕ) (ts : List Token) (e : Exp) (rest : List Token) → Expression room Inner k ts e rest → j ≤ 15 → j ≤ k → m ≤ k → 4 ≤ k → height e ≤ suc h →
      grip rest < suc k → grip rest < 15 → assign_at room paren below h ts j rest ≡ None → Climbed j m ts e rest
  climb j m k ts e rest (Stronger a) few le lm lo hi g g15 plain = climb j m (suc k) ts e rest a few (omega arith) (omega arith) (omega arith) hi (omega arith) g15 plain
  climb j m k ts e rest (Joined {mid = mid} {a = a} {b = b} {s = s} {j = o} {q = q} x l r) few le lm lo hi g g15 plain =
      let f = join_facts s (k, o) x in
      let t : height_in (joined o a b) ≡ max (height a) (height b) = joined_height o a b in
      let ha : height a ≤ h = omega (arith, t, hi) in
      let hb : height b ≤ h = omega (arith, t, hi) in
      let held : grip (sign_token s q ∷ mid) ≡ k = f.held in
      let most : k ≤ 13 = f.greatest in
      let c = climb j m k ts a (sign_token s q ∷ mid) l few le lm lo (omega arith) (omega (arith, held)) (omega (arith, held, most)) (no_assign_at ts j (sign_token s q ∷ mid) f.no_assign) in
      let right : below (suc k) mid ≡ Some (b, rest) = below_complete (suc k) mid b rest (omega arith) (omega (arith, most)) r hb g in
      grow j m k ts a b s o q mid rest x lm right ha hb c.n c.first c.mid c.starts c.no_assign c.same c.enough
  climb j m k ts e rest d few le lm lo hi g g15 plain =
      let x = height_least e in
      record { first = e; mid = rest; n = h; starts = operand_complete j k ts e rest few le (omega arith) d hi g15; no_assign = plain; same = refl; enough = omega arith }

  tail_stop : (n m : ℕ) (p : Spot) (e : Exp) (rest : List Token) → grip rest < m → tail room paren below h n p m e rest ≡ Some (e, rest)
  tail_stop zero m p e rest g = rw (no_joint m rest g) refl
  tail_stop (suc n) m p e rest g = rw (no_joint m rest g) refl

  -- what is read before commas
  phase : ℕ → List Token → Read Exp
  phase j ts = operand room paren below h j ts >>= λ q. stored room paren below h ts j q (assign_at room paren below h ts j q.1)

  -- operands, and what follows them where nothing is assigned
  follows : (j : ℕ) (ts : List Token) (e : Exp) (rest : List Token) → Climbed j (max j 4) ts e rest → grip rest < max j 4 →
      phase j ts ≡ choice room paren below h (place ts) j (e, rest)
  unfolding phase
  follows j ts e rest c low = rw (c.starts, c.no_assign, c.same, tail_stop c.n (max j 4) (place ts) e rest low) refl

  no_choice : (j : ℕ) (p : Spot) (e : Exp) (rest : List Token) → (nat_le j conditional && is_sign sign.Question rest) ≡ false → choice room paren below h p j (e, rest) ≡ Some (e, rest)
  no_choice j p e rest f = rw (choice, f) refl

  binary_phase : (k : ℕ) (ts : List Token) (e : Exp) (rest : List Token) → 4 ≤ k → k ≤ 15 → Expression room Inner k ts e rest → height e ≤ suc h → grip rest < k → phase k ts ≡ Some (e, rest)
  binary_phase k ts e rest lo up d hi g =
      let m : max k 4 ≡ k = omega arith in
      let plain : assign_at room paren below h ts k rest ≡ None = cond-false _ _ _ (and_left (nat_le k assignment) _ (lt-leb k 2 (omega arith))) in
      follows k ts e rest (climb k (max k 4) k ts e rest d up (omega arith) (omega (arith, m)) lo hi (omega arith) (omega arith) plain) (omega (arith, m, g))
      ∙ no_choice k (place ts) e rest (and_left (nat_le k conditional) _ (lt-leb k 3 (omega arith)))

  operands_phase : (j k : ℕ) (ts : List Token) (e : Exp) (rest : List Token) → j ≤ 3 → 4 ≤ k → Expression room Inner k ts e rest → height e ≤ suc h → grip rest < 3 →
      assign_at room paren below h ts j rest ≡ None → phase j ts ≡ Some (e, rest)
  operands_phase j k ts e rest few lo d hi g plain =
      let m : max j 4 ≡ 4 = omega arith in
      follows j ts e rest (climb j (max j 4) k ts e rest d (omega arith) (omega arith) (omega (arith, m)) lo hi (omega arith) (omega arith) plain) (omega (arith, m, g))
      ∙ no_choice j (place ts) e rest (and_right (nat_le j conditional) _ (loose sign.Question rest 3 g (omega arith)))

  -- a choice, or operands alone, where a weaker expression is asked for
  conditional_phase : (j k : ℕ) (ts : List Token) (e : Exp) (rest : List Token) → j ≤ 3 → 3 ≤ k → Expression room Inner k ts e rest → height e ≤ suc h → grip rest < 3 →
      assign_at room paren below h ts j rest ≡ None → phase j ts ≡ Some (e, rest)
  conditional_phase j k ts e rest few lo (Chosen {first = m1} {second = m2} {e = c} {a = a} {b = b} {q = q} {r = r} x y z) hi g plain =
      let m : max j 4 ≡ 4 = omega arith in
      let f = follows j ts c (sign_token sign.Question q ∷ m1) (climb j (max j 4) 4 ts c (sign_token sign.Question q ∷ m1) x (omega arith) (omega arith) (omega (arith, m)) (omega arith) (omega arith) (omega arith) (omega arith)
      (no_assign_at ts j (sign_token sign.Question q ∷ m1) refl)) (omega (arith, m)) in
      let h1 = below_complete 1 m1 a (sign_token sign.Colon r ∷ m2) (omega arith) (omega arith) y (omega arith) (omega arith) in
      let h2 = below_complete 3 m2 b rest (omega arith) (omega arith) z (omega arith) g in
      f ∙ chosen_one h1 h2
    where
      chosen_one : below 1 m1 ≡ Some (a, sign_token sign.Colon r ∷ m2) → below 3 m2 ≡ Some (b, rest) →
          choice room paren below h (place ts) j (c, sign_token sign.Question q ∷ m1) ≡ Some (Expr (place ts) (node.Choose q c a b), rest)
      chosen_one h1 h2 = rw (choice, le-leb j 3 few, h1, h2) (grown_low (place ts) (node.Choose q c a b) rest (omega (arith, hi)))
  conditional_phase j k ts e rest few lo (Stronger a) hi g plain = operands_phase j (suc k) ts e rest few (omega arith) a hi g plain
  conditional_phase j k ts e rest few lo (Joined {s = s} x l r) hi g plain =
      elim ((join_facts s _ x).apart) [ inl f ↦ absurd (omega (arith, f)) | inr f ↦ operands_phase j k ts e rest few f (Joined x l r) hi g plain ]
  conditional_phase j k ts e rest few lo d hi g plain = operands_phase j k ts e rest few (omega arith) d hi g plain

  not_cast : (k : ℕ) (ts : List Token) (e : Exp) (rest : List Token) → 15 ≤ k → Expression room Inner k ts e rest → is_cast ts ≡ false
  not_cast k ts e rest lo (Stronger a) = not_cast (suc k) ts e rest (omega arith) a
  not_cast k ts e rest lo (Joined {s = s} x a b) = let f = (join_facts s _ x).greatest in absurd (omega (arith, f))
  not_cast k ts e rest lo (SteppedBefore {s = s} {op = op} x a) = and_left _ _ (step_before_facts s op x).no_open
  not_cast k ts e rest lo (Signed {s = s} {op = op} x a) = and_left _ _ ((signed_facts s op x).0).no_open
  not_cast k ts e rest lo (SteppedBehind x a) = not_cast postfix _ _ _ (omega arith) a
  not_cast k ts e rest lo (AGroup a) = (inner_front _ _ _ _ a).no_type
  not_cast k ts e rest lo (Assigned x a b) = absurd (omega arith)
  not_cast k ts e rest lo (Chosen a b c) = absurd (omega arith)
  not_cast k ts e rest lo (Converted r n t a) = absurd (omega arith)
  not_cast k ts e rest lo d = refl

  assigned_phase : (j k : ℕ) (ts : List Token) (e : Exp) (rest : List Token) → j ≤ 2 → 2 ≤ k → Expression room Inner k ts e rest → height e ≤ suc h → grip rest < 2 → phase j ts ≡ Some (e, rest)
  unfolding phase
  assigned_phase j k ts e rest few lo (Stronger a) hi g = conditional_phase j (suc k) ts e rest (omega arith) (omega arith) a hi (omega arith) (no_assign_at ts j rest (no_assign rest g))
  assigned_phase j k ts e rest few lo (Joined {s = s} x l r) hi g =
      elim ((join_facts s _ x).apart) [ inl f ↦ absurd (omega (arith, f)) | inr f ↦ conditional_phase j k ts e rest (omega arith) (omega arith) (Joined x l r) hi (omega arith) (no_assign_at ts j rest (no_assign rest g)) ]
  assigned_phase j k ts e rest few lo (Assigned {mid = mid} {a = a} {b = b} {s = s} {op = op} {q = q} x l r) hi g =
      let held : grip (sign_token s q ∷ mid) ≡ 2 = assign_grip s op x in
      let target : operand room paren below h j ts ≡ Some (a, sign_token s q ∷ mid) = operand_complete j unary ts a (sign_token s q ∷ mid) (omega arith) (omega arith) (omega arith) l (omega arith) (omega (arith, held)) in
      let here : assign_at room paren below h ts j (sign_token s q ∷ mid) ≡ Some op = rw (le-leb j 2 few, not_cast unary ts a (sign_token s q ∷ mid) (omega arith) l) x in
      rw (target, here, below_complete 2 mid b rest (omega arith) (omega arith) r (omega arith) g) (grown_low (place ts) (node.Assign op a b) rest (omega (arith, hi)))
  assigned_phase j k ts e rest few lo d hi g = conditional_phase j k ts e rest (omega arith) (omega arith) d hi (omega arith) (no_assign_at ts j rest (no_assign rest g))

  -- what stands before the first comma, and what still has to be read
  record Begun (ts : List Token) (e : Exp) (rest : List Token) : Type 0 where
    first : Exp
    mid : List Token
    n : ℕ
    starts : phase 1 ts ≡ Some (first, mid)
    same : tail room paren below h h (place ts) 1 first mid ≡ tail room paren below h n (place ts) 1 e rest
    enough : h < n + height e

  begin : (ts : List Token) (e : Exp) (rest : List Token) → phase 1 ts ≡ Some (e, rest) → Begun ts e rest
  begin ts e rest st = let x = height_least e in record { first = e; mid = rest; n = h; starts = st; same = refl; enough = omega arith }

  append : (k : ℕ) (ts : List Token) (a b : Exp) (s : Punct) (o : Joint) (q : Spot) (mid rest : List Token) →
      joins s ≡ Some (k, o) → 1 ≤ k → below (suc k) mid ≡ Some (b, rest) → height a ≤ h → height b ≤ h →
      (n : ℕ) (first : Exp) (r : List Token) → phase 1 ts ≡ Some (first, r) →
      tail room paren below h h (place ts) 1 first r ≡ tail room paren below h n (place ts) 1 a (sign_token s q ∷ mid) → h < n + height a →
      Begun ts (Expr (place ts) (joined o a b)) rest
  append k ts a b s o q mid rest x le r ha hb zero first f st same enough = absurd (omega (arith, ha, enough))
  append k ts a b s o q mid rest x le r ha hb (suc n) first f st same enough =
      let t : height_in (joined o a b) ≡ max (height a) (height b) = joined_height o a b in
      record { first = first; mid = f; n = n; starts = st; same = same ∙ one_more n 1 (place ts) k s o q a b mid rest x le r ha hb; enough = omega (arith, t, enough, ha) }

  whole_begun : (k : ℕ) (ts : List Token) (e : Exp) (rest : List Token) → 1 ≤ k → Expression room Inner k ts e rest → height e ≤ suc h → grip rest < 2 → Begun ts e rest
  whole_begun k ts e rest lo (Stronger a) hi g = begin ts e rest (assigned_phase 1 (suc k) ts e rest (omega arith) (omega arith) a hi g)
  whole_begun k ts e rest lo (Joined {mid = mid} {a = a} {b = b} {s = s} {j = o} {q = q} x l r) hi g =
      elim ((join_facts s (k, o) x).apart) [
        | inl f ↦
            let held : grip (sign_token s q ∷ mid) ≡ k = (join_facts s (k, o) x).held in
            let t : height_in (joined o a b) ≡ max (height a) (height b) = joined_height o a b in
            let ha : height a ≤ h = omega (arith, t, hi) in
            let hb : height b ≤ h = omega (arith, t, hi) in
            let c = whole_begun k ts a (sign_token s q ∷ mid) lo l (omega arith) (omega (arith, held, f)) in
            append k ts a b s o q mid rest x lo (below_complete (suc k) mid b rest (omega arith) (omega (arith, f)) r hb (omega (arith, f, g))) ha hb c.n c.first c.mid c.starts c.same c.enough
        | inr f ↦ begin ts e rest (assigned_phase 1 k ts e rest (omega arith) (omega (arith, f)) (Joined x l r) hi g)
      ]
  whole_begun k ts e rest lo d hi g = begin ts e rest (assigned_phase 1 k ts e rest (omega arith) (omega arith) d hi g)

  regroup : {A B C : Type 0} (o : Option A) (f : A → Option B) (u : B → Option C) → (o >>= λ q. f q >>= u) ≡ ((o >>= f) >>= u)
  regroup None f u = refl
  regroup (Some x) f u = refl

  full_phase : (k : ℕ) (ts : List Token) → full room paren below h k ts ≡ (phase k ts >>= λ r. tail room paren below h h (place ts) k r.0 r.1)
  unfolding phase
  full_phase k ts = regroup (operand room paren below h k ts) _ _

  phased : (k : ℕ) (ts : List Token) (e : Exp) (rest : List Token) → phase k ts ≡ Some (e, rest) → grip rest < k → full room paren below h k ts ≡ Some (e, rest)
  phased k ts e rest p g = full_phase k ts ∙ rw p (tail_stop h k (place ts) e rest g)

  whole_complete : (ts : List Token) (e : Exp) (rest : List Token) → Expression room Inner 1 ts e rest → height e ≤ suc h → grip rest < 1 → full room paren below h 1 ts ≡ Some (e, rest)
  whole_complete ts e rest d hi g =
      let c = whole_begun 1 ts e rest (omega arith) d hi (omega arith) in
      full_phase 1 ts ∙ rw (c.starts) (c.same ∙ tail_stop c.n 1 (place ts) e rest g)

  pub full_complete : (k : ℕ) (ts : List Token) (e : Exp) (rest : List Token) → 1 ≤ k → k ≤ 15 → Expression room Inner k ts e rest → height e ≤ suc h → grip rest < k → full room paren below h k ts ≡ Some (e, rest)
  full_complete zero ts e rest lo up d hi g = absurd (omega arith)
  full_complete (suc zero) ts e rest lo up d hi g = whole_complete ts e rest d hi g
  full_complete (suc (suc zero)) ts e rest lo up d hi g = phased 2 ts e rest (assigned_phase 2 2 ts e rest (omega arith) (omega arith) d hi g) g
  full_complete (suc (suc (suc zero))) ts e rest lo up d hi g =
      phased 3 ts e rest (conditional_phase 3 3 ts e rest (omega arith) (omega arith) d hi g refl) g
  full_complete (suc (suc (suc (suc k)))) ts e rest lo up d hi g = phased (suc (suc (suc (suc k)))) ts e rest (binary_phase (suc (suc (suc (suc k)))) ts e rest (omega arith) up d hi g) g

module _ (room : Bool) (Inner : ℕ → List Token → Exp → List Token → Type 0) (inner_front : (k : ℕ) (ts : List Token) (e : Exp) (rest : List Token) → Inner k ts e rest → Front ts rest)
    (paren : ℕ → ℕ → List Token → Read Exp)
    (paren_complete : (g k : ℕ) (ts : List Token) (e : Exp) (rest : List Token) → 1 ≤ k → k ≤ 15 → Inner k ts e rest → height e ≤ g → grip rest < k → paren g k ts ≡ Some (e, rest)) where
  level_complete : (h k : ℕ) (ts : List Token) (e : Exp) (rest : List Token) → 1 ≤ k → k ≤ 15 → Expression room Inner k ts e rest → height e ≤ h → grip rest < k → level room paren h k ts ≡ Some (e, rest)
  unfolding level
  level_complete zero k ts e rest lo up d hi g = let x = height_least e in absurd (omega arith)
  level_complete (suc h) k ts e rest lo up d hi g = full_complete room Inner inner_front paren (level room paren h) h paren_complete (level_complete h) k ts e rest lo up d hi g

pub within_complete : (b h k : ℕ) (ts : List Token) (e : Exp) (rest : List Token) → 1 ≤ k → k ≤ 15 → Within b k ts e rest → height e ≤ h → grip rest < k → within b h k ts ≡ Some (e, rest)
unfolding Within within
within_complete zero h k ts e rest lo up d hi g = absurd d
within_complete (suc b) h k ts e rest lo up d hi g = level_complete (has_room b) (Within b) (within_front b) (within b) (within_complete b) h k ts e rest lo up d hi g

-- what the front of the tokens spells is read, where what follows doesn't hold to it
pub read_complete : (b h k : ℕ) (ts : List Token) (e : Exp) (rest : List Token) → 1 ≤ k → k ≤ 15 → Spells b k ts e rest → height e ≤ h → grip rest < k → read b h k ts ≡ Some (e, rest)
read_complete b h k ts e rest lo up d hi g = level_complete (has_room b) (Within b) (within_front b) (within b) (within_complete b) h k ts e rest lo up d hi g
