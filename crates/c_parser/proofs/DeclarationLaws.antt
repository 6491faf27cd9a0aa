-- Each declaration that tokens spell is read from them.
use Rattle.std.proofs.Common.{◌≡◌, ℕ, zero, suc, ◌≤◌, ◌<◌, max, List, [], ◌∷◌, length, Bool, true, false, refl, ap, ◌∙◌, Option, Some, arith}
use Rattle.std.proofs.lemmas.Bool.{cond-true, cond-false}
use Rattle.c_core.specs.declared.number.IntType.{IntType}
use Rattle.c_core.specs.declared.number.Spot.{Spot}
use Rattle.c_tokens.specs.declared.token.Token.{Token}
use Rattle.c_tokens.specs.declared.token.Punct.TheVariants as sign
use Rattle.c_parser.specs.Tree.{Exp, Exps, exps, Init, Declared}
use Rattle.c_parser.specs.Heights.{height, heights, height_of_rows, height_of_init, height_of_declared}
use Rattle.c_parser.specs.Signs.{sign_token, word_at, is_sign, assignment, conditional}
use Rattle.c_parser.specs.Words.{is_name, is_attribute, may_specify, TypeWord, type_word}
use Rattle.c_parser.specs.Brackets.{Passed, NothingPassed, OnePassed, PairPassed, PassedWithin}
use Rattle.c_parser.specs.ReadExpressions.{Read}
use Rattle.c_parser.specs.Declarations.{Attributes, NoMoreAttributes, AnAttribute, Specifiers, NoMoreSpecifiers, ATypeWord, ASpecifier, AnAttributeBefore, Typed, UpToBrace, LastOne, LastAndComma, MoreOnes, Sizes, NoSizes, SomeSizes, Values, Row, ARow, Initializer, NoInitializer, OneValue, AList, AListOfRows, Declarator, ADeclarator, Declarators, LastDeclarator, MoreDeclarators, Declaration, ADeclaration, NoPart, TypePart, OtherPart, AttributePart, part_of_word, part_of, part_at, is_spelled_attribute, behind_pair, behind_attributes, read_specifiers, read_type, up_to_brace, read_sizes, read_values, read_row, read_list, read_value, read_initializer, read_declarator, read_declarators, read_declaration}
use Rattle.c_parser.proofs.SignLaws.{grip}
use Rattle.c_parser.proofs.WordLaws.{no_type_word, specifier_no_type, attribute_no_type, attribute_no_specifier, name_no_specifier, name_no_attribute}
use Rattle.c_parser.proofs.BracketLaws.{behind_passed}
use Rattle.c_parser.proofs.Complete.{dimensions_shorter, dimensions_begin, dimensions_read}

-- what a word is among specifiers
pub type_is_part : (outside : Bool) (w : List ℕ) (t : TypeWord) → type_word w ≡ Some t → part_of outside (Some w) ≡ TypePart t
type_is_part outside w t e = ap (part_of_word outside w) e

pub specifier_is_part : (outside : Bool) (w : List ℕ) → may_specify outside w ≡ true → part_of outside (Some w) ≡ OtherPart
specifier_is_part outside w e = ap (part_of_word outside w) (specifier_no_type outside w e) ∙ cond-true _ _ _ e

pub attribute_is_part : (outside : Bool) (w : List ℕ) → is_attribute w ≡ true → part_of outside (Some w) ≡ AttributePart
attribute_is_part outside w e = ap (part_of_word outside w) (attribute_no_type w e) ∙ cond-false _ _ _ (attribute_no_specifier outside w e) ∙ cond-true _ _ _ e

pub name_is_no_part : (outside : Bool) (w : List ℕ) → is_name w ≡ true → part_of outside (Some w) ≡ NoPart
name_is_no_part outside w e = ap (part_of_word outside w) (no_type_word w e) ∙ cond-false _ _ _ (name_no_specifier outside w e) ∙ cond-false _ _ _ (name_no_attribute w e)

passed_shorter : (Inner : List Token → List Token → Type 0) → ((ts rest : List Token) → Inner ts rest → length rest ≤ length ts) → (ts rest : List Token) → Passed Inner ts rest → length rest ≤ length ts
passed_shorter Inner inner ts rest NothingPassed = omega arith
passed_shorter Inner inner ts rest (OnePassed e p) = let x = passed_shorter Inner inner _ _ p in omega arith
passed_shorter Inner inner ts rest (PairPassed e i p) = let x = passed_shorter Inner inner _ _ p in let y = inner _ _ i in omega arith

pub within_shorter : (b : ℕ) (ts rest : List Token) → PassedWithin b ts rest → length rest ≤ length ts
unfolding PassedWithin
within_shorter zero ts rest p = absurd p
within_shorter (suc b) ts rest p = passed_shorter (PassedWithin b) (within_shorter b) ts rest p

pub pair_read : (b : ℕ) (ts rest : List Token) (p q : Spot) → PassedWithin b ts (sign_token sign.ParenClose q ∷ rest) → behind_pair b (sign_token sign.ParenOpen p ∷ ts) ≡ Some rest
pair_read b ts rest p q h = behind_passed b sign.ParenClose ts q rest refl h

module _ (b : ℕ) where
  pub attributes_read : (n : ℕ) (ts rest : List Token) → length ts ≤ n → Attributes (PassedWithin b) ts rest → is_spelled_attribute (word_at rest) ≡ false → behind_attributes b n ts ≡ Some rest
  attributes_read zero ts rest le NoMoreAttributes f = refl
  attributes_read (suc n) ts rest le NoMoreAttributes f = rw (behind_attributes, f) refl
  attributes_read zero ts rest le (AnAttribute e p a) f = absurd (omega arith)
  attributes_read (suc n) ts rest le (AnAttribute {ts = us} {mid = mid} {p = p} {q = q} {r = r} e i a) f =
      let s = within_shorter b us (sign_token sign.ParenClose r ∷ mid) i in
      rw (e, pair_read b us mid q r i) (attributes_read n mid rest (omega arith) a f)

  specifiers_read : (n : ℕ) (outside : Bool) (ts : List Token) (words : List TypeWord) (rest : List Token) → length ts ≤ n → Specifiers (PassedWithin b) outside ts words rest → part_at outside rest ≡ NoPart →
      read_specifiers b n outside ts ≡ Some (words, rest)
  specifiers_read zero outside ts words rest le NoMoreSpecifiers f = refl
  specifiers_read (suc n) outside ts words rest le NoMoreSpecifiers f = rw (read_specifiers, f) refl
  specifiers_read zero outside ts words rest le (ATypeWord e s) f = absurd (omega arith)
  specifiers_read zero outside ts words rest le (ASpecifier e s) f = absurd (omega arith)
  specifiers_read zero outside ts words rest le (AnAttributeBefore e i s) f = absurd (omega arith)
  specifiers_read (suc n) outside ts words rest le (ATypeWord {w = w} {t = t} e s) f = rw (type_is_part outside w t e, specifiers_read n outside _ _ _ (omega arith) s f) refl
  specifiers_read (suc n) outside ts words rest le (ASpecifier {w = w} e s) f = rw (specifier_is_part outside w e) (specifiers_read n outside _ _ _ (omega arith) s f)
  specifiers_read (suc n) outside ts words rest le (AnAttributeBefore {ts = us} {mid = mid} {w = w} {q = q} {r = r} e i s) f =
      let x = within_shorter b us (sign_token sign.ParenClose r ∷ mid) i in
      rw (attribute_is_part outside w e, pair_read b us mid q r i) (specifiers_read n outside mid _ _ (omega arith) s f)

  pub specifiers_shorter : (outside : Bool) (ts : List Token) (words : List TypeWord) (rest : List Token) → Specifiers (PassedWithin b) outside ts words rest → length rest ≤ length ts
  specifiers_shorter outside ts words rest NoMoreSpecifiers = omega arith
  specifiers_shorter outside ts words rest (ATypeWord e s) = let x = specifiers_shorter _ _ _ _ s in omega arith
  specifiers_shorter outside ts words rest (ASpecifier e s) = let x = specifiers_shorter _ _ _ _ s in omega arith
  specifiers_shorter outside ts words rest (AnAttributeBefore e i s) = let x = specifiers_shorter _ _ _ _ s in let y = within_shorter b _ _ i in omega arith

  pub type_read : (outside : Bool) (ts : List Token) (ty : Option IntType) (rest : List Token) → Typed (PassedWithin b) outside ts ty rest → part_at outside rest ≡ NoPart → read_type b outside ts ≡ Some (ty, rest)
  type_read outside ts ty rest t f = rw (specifiers_read (length ts) outside ts t.words rest (omega arith) t.specifiers f, t.spelled) refl

-- what ends a declarator
pub record Ends (rest : List Token) : Type 0 where
  pub no_size : is_sign sign.BracketOpen rest ≡ false
  pub no_value : is_sign sign.Assign rest ≡ false
  pub low : grip rest < 2

-- what stands up to a brace; `most` is the greatest of what `tall` says of each
module _ (X : Type 0) (One : List Token → X → List Token → Type 0) (one : List Token → Read X) (tall : X → ℕ) (most : List X → ℕ) (h : ℕ)
    (most_more : (x : X) (xs : List X) → most (x ∷ xs) ≡ max (tall x) (most xs))
    (one_front : (ts : List Token) (x : X) (rest : List Token) → One ts x rest → (is_sign sign.BraceClose ts ≡ false) × (length rest < length ts))
    (one_read : (ts : List Token) (x : X) (rest : List Token) → One ts x rest → tall x ≤ h → grip rest < 2 → one ts ≡ Some (x, rest)) where
  brace_begins : (ts : List Token) (xs : List X) (rest : List Token) → UpToBrace X One ts xs rest → is_sign sign.BraceClose ts ≡ false
  brace_begins ts xs rest (LastOne a) = (one_front _ _ _ a).0
  brace_begins ts xs rest (LastAndComma a) = (one_front _ _ _ a).0
  brace_begins ts xs rest (MoreOnes a v) = (one_front _ _ _ a).0

  pub brace_shorter : (ts : List Token) (xs : List X) (rest : List Token) → UpToBrace X One ts xs rest → length rest < length ts
  brace_shorter ts xs rest (LastOne a) = (one_front _ _ _ a).1
  brace_shorter ts xs rest (LastAndComma a) = let x = (one_front _ _ _ a).1 in omega arith
  brace_shorter ts xs rest (MoreOnes a v) = let x = (one_front _ _ _ a).1 in let y = brace_shorter _ _ _ v in omega arith

  pub brace_read : (n : ℕ) (ts : List Token) (xs : List X) (rest : List Token) → length ts ≤ n → UpToBrace X One ts xs rest → most xs ≤ h → up_to_brace one n ts ≡ Some (xs, rest)
  brace_read zero ts xs rest le (LastOne a) hi = let x = (one_front _ _ _ a).1 in absurd (omega arith)
  brace_read zero ts xs rest le (LastAndComma a) hi = let x = (one_front _ _ _ a).1 in absurd (omega arith)
  brace_read zero ts xs rest le (MoreOnes a v) hi = let x = (one_front _ _ _ a).1 in absurd (omega arith)
  brace_read (suc n) ts xs rest le (LastOne {x = x} a) hi = let m = most_more x [] in rw (one_read _ _ _ a (omega (arith, m, hi)) (omega arith)) refl
  brace_read (suc n) ts xs rest le (LastAndComma {x = x} a) hi = let m = most_more x [] in rw (one_read _ _ _ a (omega (arith, m, hi)) (omega arith)) refl
  brace_read (suc n) ts xs rest le (MoreOnes {mid = mid} {x = x} {xs = more} a v) hi =
      let m = most_more x more in
      let u = (one_front _ _ _ a).1 in
      rw (one_read _ _ _ a (omega (arith, m, hi)) (omega arith), brace_begins mid _ _ v, brace_read n mid _ _ (omega arith) v (omega (arith, m, hi))) refl

-- the sizes of an array, the values of a list or row
module _ (Inner : ℕ → List Token → Exp → List Token → Type 0) (inner : ℕ → List Token → Read Exp) (h : ℕ)
    (inner_shorter : (k : ℕ) (ts : List Token) (e : Exp) (rest : List Token) → Inner k ts e rest → length rest < length ts)
    (inner_value : (k : ℕ) (ts : List Token) (e : Exp) (rest : List Token) → Inner k ts e rest → is_sign sign.BraceClose ts ≡ false)
    (inner_read : (k : ℕ) (ts : List Token) (e : Exp) (rest : List Token) → 1 ≤ k → k ≤ 15 → Inner k ts e rest → height e ≤ h → grip rest < k → inner k ts ≡ Some (e, rest)) where
  sizes_read : (ts : List Token) (sizes : List Exp) (rest : List Token) → Sizes Inner ts sizes rest → heights (exps sizes) ≤ h → is_sign sign.BracketOpen rest ≡ false → read_sizes inner ts ≡ Some (sizes, rest)
  sizes_read ts sizes rest NoSizes hi f = rw (read_sizes, f) refl
  sizes_read ts sizes rest (SomeSizes a) hi f =
      rw (read_sizes, (dimensions_begin (Inner conditional) ts sizes rest a).1)
      (dimensions_read (Inner conditional) (inner conditional) h (λ us u q last i low. inner_read 3 us u _ (omega arith) (omega arith) i low (omega arith)) ts sizes rest a hi f)

  sizes_shorter : (ts : List Token) (sizes : List Exp) (rest : List Token) → Sizes Inner ts sizes rest → length rest ≤ length ts
  sizes_shorter ts sizes rest NoSizes = omega arith
  sizes_shorter ts sizes rest (SomeSizes a) = let x = dimensions_shorter (Inner conditional) (inner_shorter conditional) _ _ _ a in omega arith

  value_front : (ts : List Token) (e : Exp) (rest : List Token) → Inner assignment ts e rest → (is_sign sign.BraceClose ts ≡ false) × (length rest < length ts)
  value_front ts e rest a = (inner_value _ _ _ _ a, inner_shorter _ _ _ _ a)

  value_in_read : (ts : List Token) (e : Exp) (rest : List Token) → Inner assignment ts e rest → height e ≤ h → grip rest < 2 → inner assignment ts ≡ Some (e, rest)
  value_in_read ts e rest a hi low = inner_read assignment ts e rest (omega arith) (omega arith) a hi low

  values_read : (n : ℕ) (ts : List Token) (es : List Exp) (rest : List Token) → length ts ≤ n → Values Inner ts es rest → heights (exps es) ≤ h → read_values inner n ts ≡ Some (es, rest)
  values_read n ts es rest le v hi = brace_read Exp (Inner assignment) (inner assignment) height (λ es. heights (exps es)) h (λ x xs. refl) value_front value_in_read n ts es rest le v hi

  values_shorter : (ts : List Token) (es : List Exp) (rest : List Token) → Values Inner ts es rest → length rest < length ts
  values_shorter ts es rest v = brace_shorter Exp (Inner assignment) (inner assignment) height (λ es. heights (exps es)) h (λ x xs. refl) value_front value_in_read ts es rest v

  pub row_front : (ts : List Token) (row : Exps) (rest : List Token) → Row Inner ts row rest → (is_sign sign.BraceClose ts ≡ false) × (length rest < length ts)
  row_front ts row rest (ARow v) = let x = values_shorter _ _ _ v in (refl, omega arith)

  pub row_begins : (ts : List Token) (rows : List Exps) (rest : List Token) → UpToBrace Exps (Row Inner) ts rows rest → is_sign sign.BraceOpen ts ≡ true
  row_begins ts rows rest (LastOne (ARow v)) = refl
  row_begins ts rows rest (LastAndComma (ARow v)) = refl
  row_begins ts rows rest (MoreOnes (ARow v) m) = refl

  pub row_read : (ts : List Token) (row : Exps) (rest : List Token) → Row Inner ts row rest → heights row ≤ h → read_row inner ts ≡ Some (row, rest)
  row_read ts row rest (ARow {ts = us} {es = es} {q = q} v) hi = rw (values_read (suc (length us)) us es (sign_token sign.BraceClose q ∷ rest) (omega arith) v hi) refl

module _ (b : ℕ) (Whole Inner : ℕ → List Token → Exp → List Token → Type 0) (Listed : List Token → List Exps → List Token → Type 0)
    (whole inner : ℕ → List Token → Read Exp) (rows : List Token → Read (List Exps)) (h : ℕ)
    (inner_shorter : (k : ℕ) (ts : List Token) (e : Exp) (rest : List Token) → Inner k ts e rest → length rest < length ts)
    (inner_value : (k : ℕ) (ts : List Token) (e : Exp) (rest : List Token) → Inner k ts e rest → is_sign sign.BraceClose ts ≡ false)
    (inner_open : (k : ℕ) (ts : List Token) (e : Exp) (rest : List Token) → Inner k ts e rest → is_sign sign.BraceOpen ts ≡ false)
    (whole_value : (k : ℕ) (ts : List Token) (e : Exp) (rest : List Token) → Whole k ts e rest → (is_sign sign.BraceOpen ts ≡ false) × (length rest < length ts))
    (rows_front : (ts : List Token) (all : List Exps) (rest : List Token) → Listed ts all rest → (is_sign sign.BraceOpen ts ≡ true) × (length rest < length ts))
    (whole_read : (k : ℕ) (ts : List Token) (e : Exp) (rest : List Token) → 1 ≤ k → k ≤ 15 → Whole k ts e rest → height e ≤ h → grip rest < k → whole k ts ≡ Some (e, rest))
    (inner_read : (k : ℕ) (ts : List Token) (e : Exp) (rest : List Token) → 1 ≤ k → k ≤ 15 → Inner k ts e rest → height e ≤ h → grip rest < k → inner k ts ≡ Some (e, rest))
    (rows_read : (ts : List Token) (all : List Exps) (rest : List Token) → Listed ts all rest → height_of_rows all ≤ h → rows ts ≡ Some (all, rest)) where
  abbrev Pair : List Token → List Token → Type 0
  Pair = PassedWithin b

  values_open : (ts : List Token) (es : List Exp) (rest : List Token) → Values Inner ts es rest → is_sign sign.BraceOpen ts ≡ false
  values_open ts es rest (LastOne a) = inner_open _ _ _ _ a
  values_open ts es rest (LastAndComma a) = inner_open _ _ _ _ a
  values_open ts es rest (MoreOnes a v) = inner_open _ _ _ _ a

  initializer_shorter : (ts : List Token) (init : Init) (rest : List Token) → Initializer Pair Whole Inner Listed ts init rest → length rest ≤ length ts
  initializer_shorter ts init rest NoInitializer = omega arith
  initializer_shorter ts init rest (OneValue a) = let x = (whole_value _ _ _ _ a).1 in omega arith
  initializer_shorter ts init rest (AList v) = let x = values_shorter Inner inner h inner_shorter inner_value inner_read _ _ _ v in omega arith
  initializer_shorter ts init rest (AListOfRows v) = let x = (rows_front _ _ _ v).1 in omega arith

  initializer_read : (ts : List Token) (init : Init) (rest : List Token) → Initializer Pair Whole Inner Listed ts init rest → height_of_init init ≤ h → Ends rest → read_initializer b whole inner rows ts ≡ Some (init, rest)
  initializer_read ts init rest NoInitializer hi f = rw (read_initializer, f.no_value) refl
  initializer_read ts init rest (OneValue {ts = us} a) hi f = rw (read_value, (whole_value _ _ _ _ a).0, whole_read 2 _ _ _ (omega arith) (omega arith) a hi (f.low)) refl
  initializer_read ts init rest (AList {ts = us} {es = es} {r = r} v) hi f =
      rw (read_list, values_open us es _ v, values_read Inner inner h inner_shorter inner_value inner_read (length us) us es (sign_token sign.BraceClose r ∷ rest) (omega arith) v hi) refl
  initializer_read ts init rest (AListOfRows {ts = us} {rows = all} {r = r} v) hi f = rw (read_list, (rows_front us all _ v).0, rows_read us all (sign_token sign.BraceClose r ∷ rest) v hi) refl

  initializer_begins : (ts : List Token) (init : Init) (rest : List Token) → Initializer Pair Whole Inner Listed ts init rest → Ends rest → is_sign sign.BracketOpen ts ≡ false
  initializer_begins ts init rest NoInitializer f = f.no_size
  initializer_begins ts init rest (OneValue a) f = refl
  initializer_begins ts init rest (AList v) f = refl
  initializer_begins ts init rest (AListOfRows v) f = refl

  declarator_read : (ty : IntType) (ts : List Token) (d : Declared) (rest : List Token) → Declarator Pair Whole Inner Listed ty ts d rest → heights (exps d.sizes) ≤ h → height_of_init d.init ≤ h → Ends rest → read_declarator b whole inner rows ty ts ≡ Some (d, rest)
  declarator_read ty ts d rest (ADeclarator {ts = us} {mid = mid} {sizes = sizes} {init = init} n s i) low high f =
      rw (n, sizes_read Inner inner h inner_shorter inner_value inner_read us sizes mid s low (initializer_begins mid init rest i f), initializer_read mid init rest i high f) refl

  declarator_shorter : (ty : IntType) (ts : List Token) (d : Declared) (rest : List Token) → Declarator Pair Whole Inner Listed ty ts d rest → length rest < length ts
  declarator_shorter ty ts d rest (ADeclarator n s i) = let x = sizes_shorter Inner inner h inner_shorter inner_value inner_read _ _ _ s in let y = initializer_shorter _ _ _ i in omega arith

  declarators_read : (n : ℕ) (ty : IntType) (ts : List Token) (ds : List Declared) (rest : List Token) → length ts ≤ n → Declarators Pair Whole Inner Listed ty ts ds rest → height_of_declared ds ≤ h → read_declarators b whole inner rows n ty ts ≡ Some (ds, rest)
  declarators_read zero ty ts ds rest le (LastDeclarator d) hi = let x = declarator_shorter _ _ _ _ d in absurd (omega arith)
  declarators_read zero ty ts ds rest le (MoreDeclarators d s) hi = let x = declarator_shorter _ _ _ _ d in absurd (omega arith)
  declarators_read (suc n) ty ts ds rest le (LastDeclarator {d = x} d) hi =
      rw (declarator_read ty _ x _ d (omega arith) (omega arith) (record { no_size = refl; no_value = refl; low = omega arith })) refl
  declarators_read (suc n) ty ts ds rest le (MoreDeclarators {mid = mid} {d = x} d s) hi =
      let y = declarator_shorter _ _ _ _ d in
      rw (declarator_read ty _ x _ d (omega arith) (omega arith) (record { no_size = refl; no_value = refl; low = omega arith }), declarators_read n ty mid _ _ (omega arith) s (omega arith)) refl

  declarators_shorter : (ty : IntType) (ts : List Token) (ds : List Declared) (rest : List Token) → Declarators Pair Whole Inner Listed ty ts ds rest → length rest < length ts
  declarators_shorter ty ts ds rest (LastDeclarator d) = let x = declarator_shorter _ _ _ _ d in omega arith
  declarators_shorter ty ts ds rest (MoreDeclarators d s) = let x = declarator_shorter _ _ _ _ d in let y = declarators_shorter _ _ _ _ s in omega arith

  declarators_begin : (outside : Bool) (ty : IntType) (ts : List Token) (ds : List Declared) (rest : List Token) → Declarators Pair Whole Inner Listed ty ts ds rest → part_at outside ts ≡ NoPart
  declarators_begin outside ty ts ds rest (LastDeclarator (ADeclarator {w = w} n s i)) = name_is_no_part outside w n
  declarators_begin outside ty ts ds rest (MoreDeclarators (ADeclarator {w = w} n s i) m) = name_is_no_part outside w n

  pub declaration_read : (outside : Bool) (ts : List Token) (ds : List Declared) (rest : List Token) → Declaration Pair Whole Inner Listed outside ts ds rest → height_of_declared ds ≤ h → read_declaration b whole inner rows outside ts ≡ Some (ds, rest)
  declaration_read outside ts ds rest (ADeclaration {mid = mid} {ty = ty} t s) hi =
      let x = specifiers_shorter b outside ts t.words mid t.specifiers in
      rw (type_read b outside ts (Some ty) mid t (declarators_begin outside ty mid ds rest s), declarators_read (length ts) ty mid ds rest x s hi) refl

  pub declaration_shorter : (outside : Bool) (ts : List Token) (ds : List Declared) (rest : List Token) → Declaration Pair Whole Inner Listed outside ts ds rest → length rest < length ts
  declaration_shorter outside ts ds rest (ADeclaration {mid = mid} t s) = let x = specifiers_shorter b outside ts t.words mid t.specifiers in let y = declarators_shorter _ _ _ _ s in omega arith
