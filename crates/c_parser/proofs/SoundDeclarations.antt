-- What is read as a declaration is spelled by the tokens.
use Rattle.std.proofs.Common.{◌≡◌, ℕ, zero, suc, ◌≤◌, max, List, [], ◌∷◌, length, drop, Bool, true, refl, sym, ap, ◌∙◌, subst, Option, Some, None, arith}
use Rattle.c_core.specs.declared.number.IntType.{IntType}
use Rattle.c_core.specs.declared.number.Spot.{Spot}
use Rattle.c_tokens.specs.declared.token.Token.{Token}
use Rattle.c_tokens.specs.declared.token.Punct.TheVariants as sign
use Rattle.c_parser.specs.Tree.{Exp, Exps, exps, Init, Many, Rows, Declared}
use Rattle.c_parser.specs.Heights.{height, heights, height_of_rows, height_of_init, height_of_declared}
use Rattle.c_parser.specs.Signs.{sign_token, word_token, place, word_at, is_sign, assignment, conditional}
use Rattle.c_parser.specs.Words.{is_attribute, may_specify, TypeWord, type_word, type_of}
use Rattle.c_parser.specs.Brackets.{PassedWithin}
use Rattle.c_parser.specs.ReadExpressions.{Read}
use Rattle.c_parser.specs.Declarations.{Attributes, NoMoreAttributes, AnAttribute, Specifiers, NoMoreSpecifiers, ATypeWord, ASpecifier, AnAttributeBefore, Typed, declared, UpToBrace, LastOne, LastAndComma, MoreOnes, Sizes, NoSizes, SomeSizes, Values, Row, ARow, Initializer, NoInitializer, OneValue, AList, AListOfRows, Declarator, ADeclarator, Declarators, LastDeclarator, MoreDeclarators, Declaration, ADeclaration, Part, NoPart, TypePart, OtherPart, AttributePart, part_of_word, part_of, part_at, name_at, is_spelled_attribute, behind_pair, behind_attributes, read_part, read_specifiers, read_type, up_to_brace, read_sizes, read_values, read_row, read_list, read_value, read_initializer, read_declarator, read_declarators, read_declaration}
use Rattle.c_parser.proofs.SignLaws.{some_same, taken}
use Rattle.c_parser.proofs.ReadLaws.{bind_some, chosen, parted, none_some, closed, word_in, name_in}
use Rattle.c_parser.proofs.SoundBrackets.{pair_sound}
use Rattle.c_parser.proofs.SoundOperands.{dimensions_sound}

-- the word of an attribute
attribute_of : (o : Option (List ℕ)) → is_spelled_attribute o ≡ true → (w : List ℕ) × (o ≡ Some w) × (is_attribute w ≡ true)
attribute_of None e = absurd (cc)
attribute_of (Some w) e = (w, refl, e)

-- what a word has to be among specifiers
Means : Bool → List ℕ → Part → Type 0
Means outside w NoPart = Unit {0}
Means outside w (TypePart t) = type_word w ≡ Some t
Means outside w OtherPart = may_specify outside w ≡ true
Means outside w AttributePart = is_attribute w ≡ true

meant_word : (outside : Bool) (w : List ℕ) (o : Option TypeWord) → type_word w ≡ o → (p : Part) → part_of_word outside w o ≡ p → Means outside w p
unfolding Means
meant_word outside w (Some t) e p f = subst (Means outside w) f e
meant_word outside w None e p f =
    chosen (may_specify outside w) _ _ p f
    (λ x y. subst (Means outside w) y x)
    (λ x y. chosen (is_attribute w) AttributePart NoPart p y (λ u v. subst (Means outside w) v u) (λ u v. subst (Means outside w) v tt))

-- the word of a part
part_word : (outside : Bool) (o : Option (List ℕ)) (p : Part) → (p ≡ NoPart → ⊥) → part_of outside o ≡ p → (w : List ℕ) × (o ≡ Some w) × Means outside w p
part_word outside None p some e = absurd (some (sym e))
part_word outside (Some w) p some e = (w, refl, meant_word outside w (type_word w) refl p e)

part_in : (outside : Bool) (ts : List Token) (p : Part) → (p ≡ NoPart → ⊥) → part_at outside ts ≡ p → (w : List ℕ) × (q : Spot) × (ts ≡ word_token w q ∷ drop 1 ts) × Means outside w p
part_in outside ts p some e = let f = part_word outside (word_at ts) p some e in let g = word_in ts f.0 f.1 in (f.0, g.0, g.1, f.2)

module _ (b : ℕ) where
  -- a word and a pair of parentheses
  attribute_pair : (P : List Token → Type 0) (ts mid : List Token) (w : List ℕ) (p : Spot) → ts ≡ word_token w p ∷ drop 1 ts → behind_pair b (drop 1 ts) ≡ Some mid →
      ((us : List Token) (q r : Spot) → PassedWithin b us (sign_token sign.ParenClose r ∷ mid) → P (word_token w p ∷ sign_token sign.ParenOpen q ∷ us)) → P ts
  attribute_pair P ts mid w p e f by =
      let s = pair_sound b (drop 1 ts) mid f in
      subst P (sym (e ∙ ap (λ (x : List Token). word_token w p ∷ x) s.2)) (by (drop 1 (drop 1 ts)) s.0 s.1 s.3)

  pub attributes_sound : (n : ℕ) (ts rest : List Token) → behind_attributes b n ts ≡ Some rest → Attributes (PassedWithin b) ts rest
  attributes_sound zero ts rest e = subst (λ (x : List Token). Attributes (PassedWithin b) ts x) (some_same e) NoMoreAttributes
  attributes_sound (suc n) ts rest e =
      parted (is_spelled_attribute (word_at ts)) _ _ (Some rest) e
      (λ f g.
      let w = attribute_of (word_at ts) f in
      let p = word_in ts w.0 w.1 in
      let m = bind_some (behind_pair b (drop 1 ts)) _ rest g in
      let others = attributes_sound n m.0 rest m.2 in
      attribute_pair (λ (x : List Token). Attributes (PassedWithin b) x rest) ts m.0 w.0 p.0 p.1 m.1 (λ us q r i. AnAttribute w.2 i others))
      (λ f g. subst (λ (x : List Token). Attributes (PassedWithin b) ts x) (some_same g) NoMoreAttributes)

  part_sound : (outside : Bool) (again : List Token → Read (List TypeWord)) (ts : List Token) →
      ((us : List Token) (r : List TypeWord × List Token) → again us ≡ Some r → Specifiers (PassedWithin b) outside us r.0 r.1) →
      (p : Part) → part_at outside ts ≡ p → (r : List TypeWord × List Token) → read_part b outside again p ts ≡ Some r → Specifiers (PassedWithin b) outside ts r.0 r.1
  unfolding Means
  part_sound outside again ts onward NoPart is r e = subst (λ (x : List TypeWord × List Token). Specifiers (PassedWithin b) outside ts x.0 x.1) (some_same e) NoMoreSpecifiers
  part_sound outside again ts onward (TypePart t) is r e =
      let w = part_in outside ts (TypePart t) (λ x. absurd (cc)) is in
      let a = bind_some (again (drop 1 ts)) _ r e in
      subst (λ (x : List TypeWord × List Token). Specifiers (PassedWithin b) outside ts x.0 x.1) (some_same a.2)
      (subst (λ (x : List Token). Specifiers (PassedWithin b) outside x (t ∷ a.0.0) a.0.1) (sym w.2) (ATypeWord w.3 (onward (drop 1 ts) a.0 a.1)))
  part_sound outside again ts onward OtherPart is r e =
      let w = part_in outside ts OtherPart (λ x. absurd (cc)) is in
      subst (λ (x : List Token). Specifiers (PassedWithin b) outside x r.0 r.1) (sym w.2) (ASpecifier w.3 (onward (drop 1 ts) r e))
  part_sound outside again ts onward AttributePart is r e =
      let w = part_in outside ts AttributePart (λ x. absurd (cc)) is in
      let m = bind_some (behind_pair b (drop 1 ts)) _ r e in
      let others = onward m.0 r m.2 in
      attribute_pair (λ (x : List Token). Specifiers (PassedWithin b) outside x r.0 r.1) ts m.0 w.0 w.1 w.2 m.1 (λ us q u i. AnAttributeBefore w.3 i others)

  specifiers_sound : (n : ℕ) (outside : Bool) (ts : List Token) (r : List TypeWord × List Token) → read_specifiers b n outside ts ≡ Some r → Specifiers (PassedWithin b) outside ts r.0 r.1
  specifiers_sound zero outside ts r e = subst (λ (x : List TypeWord × List Token). Specifiers (PassedWithin b) outside ts x.0 x.1) (some_same e) NoMoreSpecifiers
  specifiers_sound (suc n) outside ts r e = part_sound outside (read_specifiers b n outside) ts (specifiers_sound n outside) (part_at outside ts) refl r e

  pub type_sound : (outside : Bool) (ts : List Token) (r : Option IntType × List Token) → read_type b outside ts ≡ Some r → Typed (PassedWithin b) outside ts r.0 r.1
  type_sound outside ts r e =
      let a = bind_some (read_specifiers b (length ts) outside ts) _ r e in
      let t = bind_some (type_of a.0.0) _ r a.2 in
      subst (λ (x : Option IntType × List Token). Typed (PassedWithin b) outside ts x.0 x.1) (some_same t.2)
      (record { words = a.0.0; specifiers = specifiers_sound (length ts) outside ts a.0 a.1; spelled = t.1 })

-- what stands up to a brace; `most` is the greatest of what `tall` says of each
module _ (X : Type 0) (One : List Token → X → List Token → Type 0) (one : List Token → Read X) (tall : X → ℕ) (most : List X → ℕ) (h : ℕ)
    (most_none : most [] ≡ 0) (most_more : (x : X) (xs : List X) → most (x ∷ xs) ≡ max (tall x) (most xs))
    (one_sound : (ts : List Token) (r : X × List Token) → one ts ≡ Some r → One ts r.0 r.1 × (tall r.0 ≤ h)) where
  -- up to a brace that closes them
  abbrev Ended : List Token → List X × List Token → Type 0
  Ended ts r = (q : Spot) (rest : List Token) → r.1 ≡ sign_token sign.BraceClose q ∷ rest → UpToBrace X One ts r.0 (sign_token sign.BraceClose q ∷ rest) × (most r.0 ≤ h)

  pub brace_sound : (n : ℕ) (ts : List Token) (r : List X × List Token) → up_to_brace one n ts ≡ Some r → Ended ts r
  brace_sound zero ts r e = none_some r e
  brace_sound (suc n) ts r e =
      let a = bind_some (one ts) _ r e in
      let i = one_sound ts a.0 a.1 in
      let low : tall a.0.0 ≤ h = i.1 in
      let alone : most (a.0.0 ∷ []) ≡ max (tall a.0.0) (most []) = most_more a.0.0 [] in
      parted (is_sign sign.Comma a.0.1) _ _ (Some r) a.2
      (λ f g.
      let t = taken sign.Comma a.0.1 f in
      let here : One ts a.0.0 (sign_token sign.Comma t.0 ∷ drop 1 a.0.1) = subst (λ (x : List Token). One ts a.0.0 x) t.1 i.0 in
      parted (is_sign sign.BraceClose (drop 1 a.0.1)) _ _ (Some r) g
      (λ x y. subst (Ended ts) (some_same y) (λ q rest z. (LastAndComma (subst (λ (u : List Token). One ts a.0.0 (sign_token sign.Comma t.0 ∷ u)) z here), omega (arith, low, alone, most_none))))
      (λ x y.
      let m = bind_some (up_to_brace one n (drop 1 a.0.1)) _ r y in
      let others = brace_sound n (drop 1 a.0.1) m.0 m.1 in
      let all : most (a.0.0 ∷ m.0.0) ≡ max (tall a.0.0) (most m.0.0) = most_more a.0.0 m.0.0 in
      subst (Ended ts) (some_same m.2) (λ q rest z. let v = others q rest z in let w : most m.0.0 ≤ h = v.1 in (MoreOnes here v.0, omega (arith, low, w, all)))))
      (λ f g. subst (Ended ts) (some_same g) (λ q rest z. (LastOne (subst (λ (u : List Token). One ts a.0.0 u) z i.0), omega (arith, low, alone, most_none))))

-- the sizes of an array, the values of a list or row
module _ (Inner : ℕ → List Token → Exp → List Token → Type 0) (inner : ℕ → List Token → Read Exp) (h : ℕ)
    (inner_sound : (k : ℕ) (ts : List Token) (r : Exp × List Token) → 1 ≤ k → k ≤ 15 → inner k ts ≡ Some r → Inner k ts r.0 r.1 × (height r.0 ≤ h)) where
  pub sizes_sound : (ts : List Token) (r : List Exp × List Token) → read_sizes inner ts ≡ Some r → Sizes Inner ts r.0 r.1 × (heights (exps r.0) ≤ h)
  sizes_sound ts r e =
      parted (is_sign sign.BracketOpen ts) _ _ (Some r) e
      (λ f g. let d = dimensions_sound (Inner conditional) (inner conditional) h (λ us x z. inner_sound conditional us x (omega arith) (omega arith) z) ts r f g in (SomeSizes d.0, d.1))
      (λ f g. subst (λ (x : List Exp × List Token). Sizes Inner ts x.0 x.1 × (heights (exps x.0) ≤ h)) (some_same g) (NoSizes, omega arith))

  pub values_sound : (n : ℕ) (ts : List Token) (r : List Exp × List Token) → read_values inner n ts ≡ Some r → (q : Spot) (rest : List Token) → r.1 ≡ sign_token sign.BraceClose q ∷ rest →
      Values Inner ts r.0 (sign_token sign.BraceClose q ∷ rest) × (heights (exps r.0) ≤ h)
  values_sound n ts r e =
      brace_sound Exp (Inner assignment) (inner assignment) height (λ es. heights (exps es)) h refl (λ x xs. refl) (λ us x z. inner_sound assignment us x (omega arith) (omega arith) z) n ts r e

  abbrev OneRow : List Token → Exps × List Token → Type 0
  OneRow ts r = Row Inner ts r.0 r.1 × (heights r.0 ≤ h)

  pub row_sound : (ts : List Token) (r : Exps × List Token) → read_row inner ts ≡ Some r → OneRow ts r
  row_sound ts r e =
      parted (is_sign sign.BraceOpen ts) _ _ (Some r) e
      (λ f g.
      let t = taken sign.BraceOpen ts f in
      let a = bind_some (read_values inner (length ts) (drop 1 ts)) _ r g in
      let c = closed sign.BraceClose (exps a.0.0) a.0.1 r a.2 in
      let v = values_sound (length ts) (drop 1 ts) a.0 a.1 c.0 r.1 c.1 in
      subst (λ (x : List Token). OneRow x r) (sym t.1)
      (subst (λ (x : Exps). OneRow (sign_token sign.BraceOpen t.0 ∷ drop 1 ts) (x, r.1)) c.2 (ARow v.0, v.1)))
      (λ f g. none_some r g)

module _ (b : ℕ) (Whole Inner : ℕ → List Token → Exp → List Token → Type 0) (Listed : List Token → List Exps → List Token → Type 0)
    (whole inner : ℕ → List Token → Read Exp) (rows : List Token → Read (List Exps)) (h : ℕ)
    (whole_sound : (k : ℕ) (ts : List Token) (r : Exp × List Token) → 1 ≤ k → k ≤ 15 → whole k ts ≡ Some r → Whole k ts r.0 r.1 × (height r.0 ≤ h))
    (inner_sound : (k : ℕ) (ts : List Token) (r : Exp × List Token) → 1 ≤ k → k ≤ 15 → inner k ts ≡ Some r → Inner k ts r.0 r.1 × (height r.0 ≤ h))
    (rows_sound : (ts : List Token) (r : List Exps × List Token) → rows ts ≡ Some r → (q : Spot) (rest : List Token) → r.1 ≡ sign_token sign.BraceClose q ∷ rest →
    Listed ts r.0 (sign_token sign.BraceClose q ∷ rest) × (height_of_rows r.0 ≤ h)) where
  abbrev Pair : List Token → List Token → Type 0
  Pair = PassedWithin b

  abbrev Initialized : List Token → Init × List Token → Type 0
  Initialized ts r = Initializer Pair Whole Inner Listed ts r.0 r.1 × (height_of_init r.0 ≤ h)

  list_sound : (p q : Spot) (ts : List Token) (r : Init × List Token) → read_list b whole inner rows ts ≡ Some r → Initialized (sign_token sign.Assign p ∷ sign_token sign.BraceOpen q ∷ ts) r
  list_sound p q ts r e =
      parted (is_sign sign.BraceOpen ts) _ _ (Some r) e
      (λ f g.
      let a = bind_some (rows ts) _ r g in
      let c = closed sign.BraceClose (Rows a.0.0) a.0.1 r a.2 in
      let v = rows_sound ts a.0 a.1 c.0 r.1 c.1 in
      subst (λ (x : Init). Initialized (sign_token sign.Assign p ∷ sign_token sign.BraceOpen q ∷ ts) (x, r.1)) c.2 (AListOfRows v.0, v.1))
      (λ f g.
      let a = bind_some (read_values inner (length ts) ts) _ r g in
      let c = closed sign.BraceClose (Many (exps a.0.0)) a.0.1 r a.2 in
      let v = values_sound Inner inner h inner_sound (length ts) ts a.0 a.1 c.0 r.1 c.1 in
      subst (λ (x : Init). Initialized (sign_token sign.Assign p ∷ sign_token sign.BraceOpen q ∷ ts) (x, r.1)) c.2 (AList v.0, v.1))

  value_sound : (p : Spot) (ts : List Token) (r : Init × List Token) → read_value b whole inner rows ts ≡ Some r → Initialized (sign_token sign.Assign p ∷ ts) r
  value_sound p ts r e =
      parted (is_sign sign.BraceOpen ts) _ _ (Some r) e
      (λ f g. let t = taken sign.BraceOpen ts f in subst (λ (x : List Token). Initialized (sign_token sign.Assign p ∷ x) r) (sym t.1) (list_sound p t.0 (drop 1 ts) r g))
      (λ f g.
      let a = bind_some (whole assignment ts) _ r g in
      let i = whole_sound assignment ts a.0 (omega arith) (omega arith) a.1 in
      subst (Initialized (sign_token sign.Assign p ∷ ts)) (some_same a.2) (OneValue i.0, i.1))

  initializer_sound : (ts : List Token) (r : Init × List Token) → read_initializer b whole inner rows ts ≡ Some r → Initialized ts r
  initializer_sound ts r e =
      parted (is_sign sign.Assign ts) _ _ (Some r) e
      (λ f g. let t = taken sign.Assign ts f in subst (λ (x : List Token). Initialized x r) (sym t.1) (value_sound t.0 (drop 1 ts) r g))
      (λ f g. subst (Initialized ts) (some_same g) (NoInitializer, omega arith))

  abbrev OneDeclared : IntType → List Token → Declared × List Token → Type 0
  OneDeclared ty ts r = Declarator Pair Whole Inner Listed ty ts r.0 r.1 × (heights (exps r.0.sizes) ≤ h) × (height_of_init r.0.init ≤ h)

  declarator_sound : (ty : IntType) (ts : List Token) (r : Declared × List Token) → read_declarator b whole inner rows ty ts ≡ Some r → OneDeclared ty ts r
  declarator_sound ty ts r e =
      let w = bind_some (name_at ts) _ r e in
      let n = name_in ts w.0 w.1 in
      let s = bind_some (read_sizes inner (drop 1 ts)) _ r w.2 in
      let sizes = sizes_sound Inner inner h inner_sound (drop 1 ts) s.0 s.1 in
      let i = bind_some (read_initializer b whole inner rows s.0.1) _ r s.2 in
      let init = initializer_sound s.0.1 i.0 i.1 in
      subst (OneDeclared ty ts) (some_same i.2)
      (subst (λ (x : List Token). Declarator Pair Whole Inner Listed ty x (declared (place x) w.0 ty s.0.0 i.0.0) i.0.1) (sym n.1) (ADeclarator n.2 sizes.0 init.0), sizes.1, init.1)

  abbrev AllDeclared : IntType → List Token → List Declared × List Token → Type 0
  AllDeclared ty ts r = Declarators Pair Whole Inner Listed ty ts r.0 r.1 × (height_of_declared r.0 ≤ h)

  declarators_sound : (n : ℕ) (ty : IntType) (ts : List Token) (r : List Declared × List Token) → read_declarators b whole inner rows n ty ts ≡ Some r → AllDeclared ty ts r
  declarators_sound zero ty ts r e = none_some r e
  declarators_sound (suc n) ty ts r e =
      let a = bind_some (read_declarator b whole inner rows ty ts) _ r e in
      let d = declarator_sound ty ts a.0 a.1 in
      let sizes : heights (exps a.0.0.sizes) ≤ h = d.1 in
      let init : height_of_init a.0.0.init ≤ h = d.2 in
      parted (is_sign sign.Comma a.0.1) _ _ (Some r) a.2
      (λ f g.
      let t = taken sign.Comma a.0.1 f in
      let m = bind_some (read_declarators b whole inner rows n ty (drop 1 a.0.1)) _ r g in
      let others = declarators_sound n ty (drop 1 a.0.1) m.0 m.1 in
      let low : height_of_declared m.0.0 ≤ h = others.1 in
      subst (AllDeclared ty ts) (some_same m.2) (MoreDeclarators (subst (λ (x : List Token). Declarator Pair Whole Inner Listed ty ts a.0.0 x) t.1 d.0) others.0, omega (arith, sizes, init, low)))
      (λ f g.
      let c = closed sign.Semicolon (a.0.0 ∷ []) a.0.1 r g in
      subst (λ (x : List Declared). AllDeclared ty ts (x, r.1)) c.2 (LastDeclarator (subst (λ (x : List Token). Declarator Pair Whole Inner Listed ty ts a.0.0 x) c.1 d.0), omega (arith, sizes, init)))

  pub declaration_sound : (outside : Bool) (ts : List Token) (r : List Declared × List Token) → read_declaration b whole inner rows outside ts ≡ Some r →
      Declaration Pair Whole Inner Listed outside ts r.0 r.1 × (height_of_declared r.0 ≤ h)
  declaration_sound outside ts r e =
      let a = bind_some (read_type b outside ts) _ r e in
      let t = bind_some a.0.0 _ r a.2 in
      let d = declarators_sound (length ts) t.0 a.0.1 r t.2 in
      (ADeclaration (subst (λ (x : Option IntType). Typed Pair outside ts x a.0.1) t.1 (type_sound b outside ts a.0 a.1)) d.0, d.1)
