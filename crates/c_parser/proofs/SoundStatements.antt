-- What is read as a statement is spelled by the tokens.
use Rattle.std.proofs.Common.{◌≡◌, ℕ, suc, ◌≤◌, List, [], ◌∷◌, drop, true, refl, sym, ap, ◌∙◌, subst, Option, Some, None, arith, ◌&&◌}
use Rattle.std.specs.Prelude.{codes, is_some}
use Rattle.c_core.specs.declared.number.Spot.{Spot}
use Rattle.c_tokens.specs.declared.token.Token.{Token}
use Rattle.c_tokens.specs.declared.token.Punct.{Punct}
use Rattle.c_tokens.specs.declared.token.Punct.TheVariants as sign
use Rattle.c_parser.specs.Tree.{Exp, Declared, First, NoFirst, FirstExp, FirstDeclared, Stm, Stmt, Else, NoElse, OrElse, Arm, stms, arms}
use Rattle.c_parser.specs.Tree as form
use Rattle.c_parser.specs.Heights.{height, height_if, height_of, height_of_declared, height_of_first, height_of_block}
use Rattle.c_parser.specs.Signs.{sign_token, word_token, place, is_sign, is_word}
use Rattle.c_parser.specs.ReadExpressions.{Read, closing}
use Rattle.c_parser.specs.Declarations.{begins_declaration, name_at}
use Rattle.c_parser.specs.Statements.{Parts, Optional, NoExpression, AnExpression, FirstPart, DeclaredFirst, ExpressionFirst, NothingFirst, ForParts, AllParts, Statement, AnEmpty, AnExpressionStatement, ABlock, ABreak, AContinue, AReturn, AReturnOf, ALabel, AnIf, AnIfElse, AWhile, ADo, AFor, ASwitch}
use Rattle.c_parser.specs.ReadStatements.{Start, AtSemicolon, AtBrace, AtBreak, AtContinue, AtReturn, AtIf, AtWhile, AtDo, AtFor, AtSwitch, AtLabel, AtExpression, start, optional, first_of, first_part, for_parts, in_parens, else_part, returned, do_test, header_in_parens, arms_in_braces, statement_from}
use Rattle.c_parser.proofs.SignLaws.{some_same, taken}
use Rattle.c_parser.proofs.WordLaws.{both_true}
use Rattle.c_parser.proofs.ReadLaws.{bind_some, chosen, parted, none_some, closed, word_taken, name_in}

-- the parts of a `for`
module _ (Whole : List Token → Exp → List Token → Type 0) (Declares : List Token → List Declared → List Token → Type 0)
    (whole : List Token → Read Exp) (declaration : List Token → Read (List Declared)) (h : ℕ)
    (whole_sound : (ts : List Token) (r : Exp × List Token) → whole ts ≡ Some r → Whole ts r.0 r.1 × (height r.0 ≤ h))
    (declares_sound : (ts : List Token) (r : List Declared × List Token) → declaration ts ≡ Some r → Declares ts r.0 r.1 × (height_of_declared r.0 ≤ h)) where
  abbrev Maybe : List Token → Option Exp × List Token → Type 0
  Maybe ts r = Optional Whole Declares ts r.0 r.1 × (height_if r.0 ≤ h)

  optional_sound : (s : Punct) (ts : List Token) (r : Option Exp × List Token) → optional whole declaration s ts ≡ Some r → Maybe ts r
  optional_sound s ts r e =
      parted (is_sign s ts) _ _ (Some r) e
      (λ f g. subst (Maybe ts) (some_same g) (NoExpression, omega arith))
      (λ f g. let a = bind_some (whole ts) _ r g in let w = whole_sound ts a.0 a.1 in subst (Maybe ts) (some_same a.2) (AnExpression w.0, w.1))

  abbrev Begun : List Token → First × List Token → Type 0
  Begun ts r = FirstPart Whole Declares ts r.0 r.1 × (height_of_first r.0 ≤ h)

  first_from : (ts : List Token) (o : Option Exp) (us : List Token) (q : Spot) (rest : List Token) → Optional Whole Declares ts o us → height_if o ≤ h → us ≡ sign_token sign.Semicolon q ∷ rest →
      Begun ts (first_of whole declaration o, rest)
  first_from ts o us q rest NoExpression hi e = subst (λ (x : List Token). Begun x (NoFirst, rest)) (sym e) (NothingFirst, omega arith)
  first_from ts o us q rest (AnExpression {e = u} a) hi e = (ExpressionFirst (subst (λ (x : List Token). Whole ts u x) e a), hi)

  first_sound : (ts : List Token) (r : First × List Token) → first_part whole declaration ts ≡ Some r → Begun ts r
  first_sound ts r e =
      parted (begins_declaration ts) _ _ (Some r) e
      (λ f g. let a = bind_some (declaration ts) _ r g in let d = declares_sound ts a.0 a.1 in subst (Begun ts) (some_same a.2) (DeclaredFirst d.0, d.1))
      (λ f g.
      let a = bind_some (optional whole declaration sign.Semicolon ts) _ r g in
      let o = optional_sound sign.Semicolon ts a.0 a.1 in
      let c = closed sign.Semicolon (first_of whole declaration a.0.0) a.0.1 r a.2 in
      subst (λ (x : First). Begun ts (x, r.1)) c.2 (first_from ts a.0.0 a.0.1 c.0 r.1 o.0 o.1 c.1))

  -- up to a closing parenthesis
  abbrev Headed : List Token → Parts × List Token → Type 0
  Headed ts r = (q : Spot) (rest : List Token) → r.1 ≡ sign_token sign.ParenClose q ∷ rest →
      ForParts Whole Declares ts r.0 (sign_token sign.ParenClose q ∷ rest) × (height_of_first r.0.0 ≤ h) × (height_if r.0.1 ≤ h) × (height_if r.0.2 ≤ h)

  pub parts_sound : (ts : List Token) (r : Parts × List Token) → for_parts whole declaration ts ≡ Some r → Headed ts r
  parts_sound ts r e =
      let f = bind_some (first_part whole declaration ts) _ r e in
      let first = first_sound ts f.0 f.1 in
      let a = bind_some (optional whole declaration sign.Semicolon f.0.1) _ r f.2 in
      let test = optional_sound sign.Semicolon f.0.1 a.0 a.1 in
      let b = bind_some (closing sign.Semicolon a.0.0 a.0.1) _ r a.2 in
      let c = closed sign.Semicolon a.0.0 a.0.1 b.0 b.1 in
      let u = bind_some (optional whole declaration sign.ParenClose b.0.1) _ r b.2 in
      let step = optional_sound sign.ParenClose b.0.1 u.0 u.1 in
      let before : Optional Whole Declares f.0.1 b.0.0 (sign_token sign.Semicolon c.0 ∷ b.0.1) × (height_if b.0.0 ≤ h) =
      subst (λ (x : Option Exp). Optional Whole Declares f.0.1 x (sign_token sign.Semicolon c.0 ∷ b.0.1) × (height_if x ≤ h)) c.2 (subst (λ (x : List Token). Optional Whole Declares f.0.1 a.0.0 x) c.1 test.0, test.1) in
      subst (Headed ts) (some_same u.2) (λ q rest z. (AllParts first.0 before.0 (subst (λ (x : List Token). Optional Whole Declares b.0.1 u.0.0 x) z step.0), first.1, before.1, step.1))

-- how a statement that begins so stands there
Begins : Start → List Token → Type 0
Begins AtSemicolon ts = is_sign sign.Semicolon ts ≡ true
Begins AtBrace ts = is_sign sign.BraceOpen ts ≡ true
Begins AtBreak ts = is_word (codes "break") ts ≡ true
Begins AtContinue ts = is_word (codes "continue") ts ≡ true
Begins AtReturn ts = is_word (codes "return") ts ≡ true
Begins AtIf ts = is_word (codes "if") ts ≡ true
Begins AtWhile ts = is_word (codes "while") ts ≡ true
Begins AtDo ts = is_word (codes "do") ts ≡ true
Begins AtFor ts = is_word (codes "for") ts ≡ true
Begins AtSwitch ts = is_word (codes "switch") ts ≡ true
Begins AtLabel ts = is_sign sign.Colon (drop 1 ts) ≡ true
Begins AtExpression ts = Unit {0}

begins : (ts : List Token) (s : Start) → start ts ≡ s → Begins s ts
unfolding Begins
begins ts s e =
    chosen (is_sign sign.Semicolon ts) _ _ s e (λ f g. subst (λ (x : Start). Begins x ts) g f) (λ _ e.
    chosen (is_sign sign.BraceOpen ts) _ _ s e (λ f g. subst (λ (x : Start). Begins x ts) g f) (λ _ e.
    chosen (is_word (codes "break") ts) _ _ s e (λ f g. subst (λ (x : Start). Begins x ts) g f) (λ _ e.
    chosen (is_word (codes "continue") ts) _ _ s e (λ f g. subst (λ (x : Start). Begins x ts) g f) (λ _ e.
    chosen (is_word (codes "return") ts) _ _ s e (λ f g. subst (λ (x : Start). Begins x ts) g f) (λ _ e.
    chosen (is_word (codes "if") ts) _ _ s e (λ f g. subst (λ (x : Start). Begins x ts) g f) (λ _ e.
    chosen (is_word (codes "while") ts) _ _ s e (λ f g. subst (λ (x : Start). Begins x ts) g f) (λ _ e.
    chosen (is_word (codes "do") ts) _ _ s e (λ f g. subst (λ (x : Start). Begins x ts) g f) (λ _ e.
    chosen (is_word (codes "for") ts) _ _ s e (λ f g. subst (λ (x : Start). Begins x ts) g f) (λ _ e.
    chosen (is_word (codes "switch") ts) _ _ s e (λ f g. subst (λ (x : Start). Begins x ts) g f) (λ _ e.
    chosen (is_some (name_at ts) && is_sign sign.Colon (drop 1 ts)) AtLabel AtExpression s e
    (λ f g. subst (λ (x : Start). Begins x ts) g (both_true (is_some (name_at ts)) (is_sign sign.Colon (drop 1 ts)) f).1)
    (λ f g. subst (λ (x : Start). Begins x ts) g tt)))))))))))

module _ (Whole Paren : List Token → Exp → List Token → Type 0) (Declares : List Token → List Declared → List Token → Type 0)
    (Header : List Token → Parts → List Token → Type 0) (Braced : List Token → List Stm → List Token → Type 0) (Armed : List Token → List Arm → List Token → Type 0)
    (whole paren : List Token → Read Exp) (header : List Token → Read Parts) (braced : List Token → Read (List Stm)) (armed : List Token → Read (List Arm)) (below : List Token → Read Stm) (h : ℕ)
    (whole_sound : (ts : List Token) (r : Exp × List Token) → whole ts ≡ Some r → Whole ts r.0 r.1 × (height r.0 ≤ h))
    (paren_sound : (ts : List Token) (r : Exp × List Token) → paren ts ≡ Some r → Paren ts r.0 r.1 × (height r.0 ≤ h))
    (header_sound : (ts : List Token) (r : Parts × List Token) → header ts ≡ Some r → (q : Spot) (rest : List Token) → r.1 ≡ sign_token sign.ParenClose q ∷ rest →
    Header ts r.0 (sign_token sign.ParenClose q ∷ rest) × (height_of_first r.0.0 ≤ h) × (height_if r.0.1 ≤ h) × (height_if r.0.2 ≤ h))
    (braced_sound : (ts : List Token) (r : List Stm × List Token) → braced ts ≡ Some r → Braced ts r.0 r.1 × (height_of_block (stms r.0) ≤ h))
    (armed_sound : (ts : List Token) (r : List Arm × List Token) → armed ts ≡ Some r → Armed ts r.0 r.1 × (height_of_block (arms r.0) ≤ h))
    (below_sound : (ts : List Token) (r : Stm × List Token) → below ts ≡ Some r → Statement Whole Paren Declares Header Braced Armed ts r.0 r.1 × (height_of r.0 ≤ h)) where
  abbrev Said : List Token → Stm × List Token → Type 0
  Said ts r = Statement Whole Paren Declares Header Braced Armed ts r.0 r.1 × (height_of r.0 ≤ suc h)

  -- an expression in parentheses
  record Tested (ts : List Token) (e : Exp) (rest : List Token) : Type 0 where
    q : Spot
    r : Spot
    begun : ts ≡ sign_token sign.ParenOpen q ∷ drop 1 ts
    spelled : Paren (drop 1 ts) e (sign_token sign.ParenClose r ∷ rest)
    low : height e ≤ h

  parens_sound : (ts : List Token) (r : Exp × List Token) → in_parens whole paren header braced armed below ts ≡ Some r → Tested ts r.0 r.1
  parens_sound ts r e =
      parted (is_sign sign.ParenOpen ts) _ _ (Some r) e
      (λ f g.
      let t = taken sign.ParenOpen ts f in
      let a = bind_some (paren (drop 1 ts)) _ r g in
      let i = paren_sound (drop 1 ts) a.0 a.1 in
      let c = closed sign.ParenClose a.0.0 a.0.1 r a.2 in
      subst (λ (x : Exp). Tested ts x r.1) c.2 (record { q = t.0; r = c.0; begun = t.1; spelled = subst (λ (x : List Token). Paren (drop 1 ts) a.0.0 x) c.1 i.0; low = i.1 }))
      (λ f g. none_some r g)

  returned_sound : (p : Spot) (ts : List Token) (r : Option Exp × List Token) → returned whole paren header braced armed below ts ≡ Some r → Said (word_token (codes "return") p ∷ ts) (Stmt p (form.Return r.0), r.1)
  returned_sound p ts r e =
      parted (is_sign sign.Semicolon ts) _ _ (Some r) e
      (λ f g.
      let t = taken sign.Semicolon ts f in
      subst (λ (x : Option Exp × List Token). Said (word_token (codes "return") p ∷ ts) (Stmt p (form.Return x.0), x.1)) (some_same g)
      (subst (λ (x : List Token). Said (word_token (codes "return") p ∷ x) (Stmt p (form.Return None), drop 1 ts)) (sym t.1) (AReturn, omega arith)))
      (λ f g.
      let a = bind_some (whole ts) _ r g in
      let w = whole_sound ts a.0 a.1 in
      let low : height a.0.0 ≤ h = w.1 in
      let c = closed sign.Semicolon (Some a.0.0) a.0.1 r a.2 in
      subst (λ (x : Option Exp). Said (word_token (codes "return") p ∷ ts) (Stmt p (form.Return x), r.1)) c.2 (AReturnOf (subst (λ (x : List Token). Whole ts a.0.0 x) c.1 w.0), omega (arith, low)))

  if_sound : (p : Spot) (ts mid : List Token) (e : Exp) (s : Stm × List Token) (u : Else × List Token) → Tested ts e mid → Statement Whole Paren Declares Header Braced Armed mid s.0 s.1 → height_of s.0 ≤ h →
      else_part whole paren header braced armed below s.1 ≡ Some u → Said (word_token (codes "if") p ∷ ts) (Stmt p (form.If e s.0 u.0), u.1)
  if_sound p ts mid e s u t d hi f =
      let low : height e ≤ h = t.low in
      parted (is_word (codes "else") s.1) _ _ (Some u) f
      (λ x y.
      let w = word_taken (codes "else") s.1 x in
      let a = bind_some (below (drop 1 s.1)) _ u y in
      let b = below_sound (drop 1 s.1) a.0 a.1 in
      let other : height_of a.0.0 ≤ h = b.1 in
      let first : Statement Whole Paren Declares Header Braced Armed mid s.0 (word_token (codes "else") w.0 ∷ drop 1 s.1) = subst (λ (z : List Token). Statement Whole Paren Declares Header Braced Armed mid s.0 z) w.1 d in
      subst (λ (z : Else × List Token). Said (word_token (codes "if") p ∷ ts) (Stmt p (form.If e s.0 z.0), z.1)) (some_same a.2)
      (subst (λ (z : List Token). Said (word_token (codes "if") p ∷ z) (Stmt p (form.If e s.0 (OrElse a.0.0)), a.0.1)) (sym t.begun) (AnIfElse t.spelled first b.0, omega (arith, low, hi, other))))
      (λ x y.
      subst (λ (z : Else × List Token). Said (word_token (codes "if") p ∷ ts) (Stmt p (form.If e s.0 z.0), z.1)) (some_same y)
      (subst (λ (z : List Token). Said (word_token (codes "if") p ∷ z) (Stmt p (form.If e s.0 NoElse), s.1)) (sym t.begun) (AnIf t.spelled d x, omega (arith, low, hi))))

  do_sound : (p : Spot) (ts : List Token) (s : Stm × List Token) (e : Exp × List Token) → Statement Whole Paren Declares Header Braced Armed ts s.0 s.1 → height_of s.0 ≤ h →
      do_test whole paren header braced armed below s.1 ≡ Some e → Said (word_token (codes "do") p ∷ ts) (Stmt p (form.DoWhile s.0 e.0), e.1)
  do_sound p ts s e d hi f =
      parted (is_word (codes "while") s.1) _ _ (Some e) f
      (λ x y.
      let w = word_taken (codes "while") s.1 x in
      let a = bind_some (in_parens whole paren header braced armed below (drop 1 s.1)) _ e y in
      let t = parens_sound (drop 1 s.1) a.0 a.1 in
      let low : height a.0.0 ≤ h = t.low in
      let c = closed sign.Semicolon a.0.0 a.0.1 e a.2 in
      let first : Statement Whole Paren Declares Header Braced Armed ts s.0 (word_token (codes "while") w.0 ∷ sign_token sign.ParenOpen t.q ∷ drop 1 (drop 1 s.1)) =
      subst (λ (z : List Token). Statement Whole Paren Declares Header Braced Armed ts s.0 z) (w.1 ∙ ap (λ (z : List Token). word_token (codes "while") w.0 ∷ z) t.begun) d in
      subst (λ (z : Exp). Said (word_token (codes "do") p ∷ ts) (Stmt p (form.DoWhile s.0 z), e.1)) c.2
      (ADo first (subst (λ (z : List Token). Paren (drop 1 (drop 1 s.1)) a.0.0 (sign_token sign.ParenClose t.r ∷ z)) c.1 t.spelled), omega (arith, low, hi)))
      (λ x y. none_some e y)

  for_sound : (p : Spot) (ts : List Token) (f : Parts × List Token) (s : Stm × List Token) → header_in_parens whole paren header braced armed below ts ≡ Some f → Statement Whole Paren Declares Header Braced Armed f.1 s.0 s.1 → height_of s.0 ≤ h →
      Said (word_token (codes "for") p ∷ ts) (Stmt p (form.For f.0.0 f.0.1 f.0.2 s.0), s.1)
  for_sound p ts f s e d hi =
      parted (is_sign sign.ParenOpen ts) _ _ (Some f) e
      (λ x y.
      let t = taken sign.ParenOpen ts x in
      let a = bind_some (header (drop 1 ts)) _ f y in
      let c = closed sign.ParenClose a.0.0 a.0.1 f a.2 in
      let i = header_sound (drop 1 ts) a.0 a.1 c.0 f.1 c.1 in
      let first : height_of_first a.0.0.0 ≤ h = i.1 in
      let test : height_if a.0.0.1 ≤ h = i.2 in
      let step : height_if a.0.0.2 ≤ h = i.3 in
      subst (λ (z : List Token). Said (word_token (codes "for") p ∷ z) (Stmt p (form.For f.0.0 f.0.1 f.0.2 s.0), s.1)) (sym t.1)
      (subst (λ (z : Parts). Said (word_token (codes "for") p ∷ sign_token sign.ParenOpen t.0 ∷ drop 1 ts) (Stmt p (form.For z.0 z.1 z.2 s.0), s.1)) c.2 (AFor i.0 d, omega (arith, first, test, step, hi))))
      (λ x y. none_some f y)

  switch_sound : (p : Spot) (ts mid : List Token) (e : Exp) (a : List Arm × List Token) → Tested ts e mid → arms_in_braces whole paren header braced armed below mid ≡ Some a →
      Said (word_token (codes "switch") p ∷ ts) (Stmt p (form.Switch e (arms a.0)), a.1)
  switch_sound p ts mid e a t f =
      let low : height e ≤ h = t.low in
      parted (is_sign sign.BraceOpen mid) _ _ (Some a) f
      (λ x y.
      let u = taken sign.BraceOpen mid x in
      let o = bind_some (armed (drop 1 mid)) _ a y in
      let i = armed_sound (drop 1 mid) o.0 o.1 in
      let parts : height_of_block (arms o.0.0) ≤ h = i.1 in
      let c = closed sign.BraceClose o.0.0 o.0.1 a o.2 in
      let test : Paren (drop 1 ts) e (sign_token sign.ParenClose t.r ∷ sign_token sign.BraceOpen u.0 ∷ drop 1 mid) = subst (λ (z : List Token). Paren (drop 1 ts) e (sign_token sign.ParenClose t.r ∷ z)) u.1 t.spelled in
      subst (λ (z : List Token). Said (word_token (codes "switch") p ∷ z) (Stmt p (form.Switch e (arms a.0)), a.1)) (sym t.begun)
      (subst (λ (z : List Arm). Said (word_token (codes "switch") p ∷ sign_token sign.ParenOpen t.q ∷ drop 1 ts) (Stmt p (form.Switch e (arms z)), a.1)) c.2
      (ASwitch test (subst (λ (z : List Token). Armed (drop 1 mid) o.0.0 z) c.1 i.0), omega (arith, low, parts))))
      (λ x y. none_some a y)

  -- behind a word that stands there
  behind_word : (v : List ℕ) (F : Spot → Stm) (ts rest : List Token) → is_word v ts ≡ true → ((p : Spot) → Said (word_token v p ∷ drop 1 ts) (F p, rest)) → Said ts (F (place ts), rest)
  behind_word v F ts rest e by = let w = word_taken v ts e in subst (λ (x : List Token). Said x (F (place x), rest)) (sym w.1) (by w.0)

  behind_sign : (v : Punct) (F : Spot → Stm) (ts rest : List Token) → is_sign v ts ≡ true → ((p : Spot) → Said (sign_token v p ∷ drop 1 ts) (F p, rest)) → Said ts (F (place ts), rest)
  behind_sign v F ts rest e by = let w = taken v ts e in subst (λ (x : List Token). Said x (F (place x), rest)) (sym w.1) (by w.0)

  from_sound : (s : Start) (ts : List Token) (r : Stm × List Token) → Begins s ts → statement_from whole paren header braced armed below s ts ≡ Some r → Said ts r
  unfolding Begins
  from_sound AtSemicolon ts r b e = subst (Said ts) (some_same e) (behind_sign sign.Semicolon (λ p. Stmt p form.Empty) ts (drop 1 ts) b (λ p. (AnEmpty, omega arith)))
  from_sound AtBrace ts r b e =
      let a = bind_some (braced (drop 1 ts)) _ r e in
      let i = braced_sound (drop 1 ts) a.0 a.1 in
      let low : height_of_block (stms a.0.0) ≤ h = i.1 in
      let c = closed sign.BraceClose (Stmt (place ts) (form.Block (stms a.0.0))) a.0.1 r a.2 in
      subst (λ (x : Stm). Said ts (x, r.1)) c.2
      (behind_sign sign.BraceOpen (λ p. Stmt p (form.Block (stms a.0.0))) ts r.1 b (λ p. (ABlock (subst (λ (x : List Token). Braced (drop 1 ts) a.0.0 x) c.1 i.0), omega (arith, low))))
  from_sound AtBreak ts r b e =
      let c = closed sign.Semicolon (Stmt (place ts) form.Break) (drop 1 ts) r e in
      subst (λ (x : Stm). Said ts (x, r.1)) c.2
      (behind_word (codes "break") (λ p. Stmt p form.Break) ts r.1 b (λ p. subst (λ (x : List Token). Said (word_token (codes "break") p ∷ x) (Stmt p form.Break, r.1)) (sym c.1) (ABreak, omega arith)))
  from_sound AtContinue ts r b e =
      let c = closed sign.Semicolon (Stmt (place ts) form.Continue) (drop 1 ts) r e in
      subst (λ (x : Stm). Said ts (x, r.1)) c.2
      (behind_word (codes "continue") (λ p. Stmt p form.Continue) ts r.1 b (λ p. subst (λ (x : List Token). Said (word_token (codes "continue") p ∷ x) (Stmt p form.Continue, r.1)) (sym c.1) (AContinue, omega arith)))
  from_sound AtReturn ts r b e =
      let a = bind_some (returned whole paren header braced armed below (drop 1 ts)) _ r e in
      subst (Said ts) (some_same a.2) (behind_word (codes "return") (λ p. Stmt p (form.Return a.0.0)) ts a.0.1 b (λ p. returned_sound p (drop 1 ts) a.0 a.1))
  from_sound AtIf ts r b e =
      let a = bind_some (in_parens whole paren header braced armed below (drop 1 ts)) _ r e in
      let t = parens_sound (drop 1 ts) a.0 a.1 in
      let s = bind_some (below a.0.1) _ r a.2 in
      let d = below_sound a.0.1 s.0 s.1 in
      let u = bind_some (else_part whole paren header braced armed below s.0.1) _ r s.2 in
      subst (Said ts) (some_same u.2)
      (behind_word (codes "if") (λ p. Stmt p (form.If a.0.0 s.0.0 u.0.0)) ts u.0.1 b (λ p. if_sound p (drop 1 ts) a.0.1 a.0.0 s.0 u.0 t d.0 d.1 u.1))
  from_sound AtWhile ts r b e =
      let a = bind_some (in_parens whole paren header braced armed below (drop 1 ts)) _ r e in
      let t = parens_sound (drop 1 ts) a.0 a.1 in
      let low : height a.0.0 ≤ h = t.low in
      let s = bind_some (below a.0.1) _ r a.2 in
      let d = below_sound a.0.1 s.0 s.1 in
      let part : height_of s.0.0 ≤ h = d.1 in
      subst (Said ts) (some_same s.2)
      (behind_word (codes "while") (λ p. Stmt p (form.While a.0.0 s.0.0)) ts s.0.1 b
      (λ p. subst (λ (x : List Token). Said (word_token (codes "while") p ∷ x) (Stmt p (form.While a.0.0 s.0.0), s.0.1)) (sym t.begun) (AWhile t.spelled d.0, omega (arith, low, part))))
  from_sound AtDo ts r b e =
      let s = bind_some (below (drop 1 ts)) _ r e in
      let d = below_sound (drop 1 ts) s.0 s.1 in
      let u = bind_some (do_test whole paren header braced armed below s.0.1) _ r s.2 in
      subst (Said ts) (some_same u.2)
      (behind_word (codes "do") (λ p. Stmt p (form.DoWhile s.0.0 u.0.0)) ts u.0.1 b (λ p. do_sound p (drop 1 ts) s.0 u.0 d.0 d.1 u.1))
  from_sound AtFor ts r b e =
      let a = bind_some (header_in_parens whole paren header braced armed below (drop 1 ts)) _ r e in
      let s = bind_some (below a.0.1) _ r a.2 in
      let d = below_sound a.0.1 s.0 s.1 in
      subst (Said ts) (some_same s.2)
      (behind_word (codes "for") (λ p. Stmt p (form.For a.0.0.0 a.0.0.1 a.0.0.2 s.0.0)) ts s.0.1 b (λ p. for_sound p (drop 1 ts) a.0 s.0 a.1 d.0 d.1))
  from_sound AtSwitch ts r b e =
      let a = bind_some (in_parens whole paren header braced armed below (drop 1 ts)) _ r e in
      let t = parens_sound (drop 1 ts) a.0 a.1 in
      let s = bind_some (arms_in_braces whole paren header braced armed below a.0.1) _ r a.2 in
      subst (Said ts) (some_same s.2)
      (behind_word (codes "switch") (λ p. Stmt p (form.Switch a.0.0 (arms s.0.0))) ts s.0.1 b (λ p. switch_sound p (drop 1 ts) a.0.1 a.0.0 s.0 t s.1))
  from_sound AtLabel ts r b e =
      let w = bind_some (name_at ts) _ r e in
      let n = name_in ts w.0 w.1 in
      let t = taken sign.Colon (drop 1 ts) b in
      let s = bind_some (below (drop 2 ts)) _ r w.2 in
      let d = below_sound (drop 2 ts) s.0 s.1 in
      let part : height_of s.0.0 ≤ h = d.1 in
      subst (Said ts) (some_same s.2)
      (subst (λ (x : List Token). Said x (Stmt (place x) (form.Label w.0 s.0.0), s.0.1)) (sym (n.1 ∙ ap (λ (x : List Token). word_token w.0 n.0 ∷ x) (t.1 ∙ ap (λ (x : List Token). sign_token sign.Colon t.0 ∷ x) (dropped ts)))) (ALabel n.2 d.0, omega (arith, part)))
    where
      dropped : (ts : List Token) → drop 1 (drop 1 ts) ≡ drop 2 ts
      dropped [] = refl
      dropped (t ∷ ts) = refl
  from_sound AtExpression ts r b e =
      let a = bind_some (whole ts) _ r e in
      let w = whole_sound ts a.0 a.1 in
      let low : height a.0.0 ≤ h = w.1 in
      let c = closed sign.Semicolon (Stmt (place ts) (form.Do a.0.0)) a.0.1 r a.2 in
      subst (λ (x : Stm). Said ts (x, r.1)) c.2 (AnExpressionStatement (subst (λ (x : List Token). Whole ts a.0.0 x) c.1 w.0), omega (arith, low))

  pub statement_sound : (ts : List Token) (r : Stm × List Token) → statement_from whole paren header braced armed below (start ts) ts ≡ Some r → Statement Whole Paren Declares Header Braced Armed ts r.0 r.1 × (height_of r.0 ≤ suc h)
  statement_sound ts r e = from_sound (start ts) ts r (begins ts (start ts) refl) e
