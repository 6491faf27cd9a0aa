-- Which declarations tokens spell (C11 6.7).
use Rattle.std.specs.Prelude.{◌≡◌, ℕ, zero, suc, Bool, true, false, length, drop, List, [], ◌∷◌, Option, Some, None, if◌then◌else◌}
use Rattle.c_core.specs.declared.number.IntType.{IntType}
use Rattle.c_core.specs.declared.number.Spot.{Spot}
use Rattle.c_tokens.specs.declared.token.Token.{Token}
use Rattle.c_tokens.specs.declared.token.Punct.TheVariants as sign
use Rattle.c_parser.specs.Tree.{Exp, Exps, exps, Init, Absent, One, Many, Rows, Declared}
use Rattle.c_parser.specs.Signs.{◌>>=◌, sign_token, word_token, place, word_at, is_sign, assignment, conditional}
use Rattle.c_parser.specs.Words.{is_name, is_attribute, may_specify, TypeWord, type_word, type_of}
use Rattle.c_parser.specs.Brackets.{behind}
use Rattle.c_parser.specs.Expressions.{Dimensions}
use Rattle.c_parser.specs.ReadExpressions.{Read, closing, dimensions}

-- `Pair` is what is passed in one more pair of brackets
module _ (Pair : List Token → List Token → Type 0) where
  -- attributes, with whatever stands in their parentheses
  pub data Attributes : List Token → List Token → Type 0 where
    NoMoreAttributes : {rest : List Token} → Attributes rest rest
    AnAttribute : {ts mid rest : List Token} {w : List ℕ} {p q r : Spot} →
        is_attribute w ≡ true → Pair ts (sign_token sign.ParenClose r ∷ mid) → Attributes mid rest →
        Attributes (word_token w p ∷ sign_token sign.ParenOpen q ∷ ts) rest

  -- type words, other specifiers and attributes in any order; `outside`: outside of functions
  pub data Specifiers : Bool → List Token → List TypeWord → List Token → Type 0 where
    NoMoreSpecifiers : {outside : Bool} {rest : List Token} → Specifiers outside rest [] rest
    ATypeWord : {outside : Bool} {ts rest : List Token} {w : List ℕ} {t : TypeWord} {words : List TypeWord} {p : Spot} →
        type_word w ≡ Some t → Specifiers outside ts words rest → Specifiers outside (word_token w p ∷ ts) (t ∷ words) rest
    ASpecifier : {outside : Bool} {ts rest : List Token} {w : List ℕ} {words : List TypeWord} {p : Spot} →
        may_specify outside w ≡ true → Specifiers outside ts words rest → Specifiers outside (word_token w p ∷ ts) words rest
    AnAttributeBefore : {outside : Bool} {ts mid rest : List Token} {w : List ℕ} {words : List TypeWord} {p q r : Spot} →
        is_attribute w ≡ true → Pair ts (sign_token sign.ParenClose r ∷ mid) → Specifiers outside mid words rest →
        Specifiers outside (word_token w p ∷ sign_token sign.ParenOpen q ∷ ts) words rest

  -- the type that the specifiers spell
  pub record Typed (outside : Bool) (ts : List Token) (ty : Option IntType) (rest : List Token) : Type 0 where
    pub words : List TypeWord
    pub specifiers : Specifiers outside ts words rest
    pub spelled : type_of words ≡ Some ty

-- a declared name with its type, its sizes and its initializer
abbrev pub declared : Spot → List ℕ → IntType → List Exp → Init → Declared
declared p w ty sizes init = record { spot = p; name = w; ty = ty; sizes = sizes; init = init }

-- `One` is one of them
module _ (X : Type 0) (One : List Token → X → List Token → Type 0) where
  -- values or rows parted by commas, up to the brace that closes them; a comma may stand before it
  pub data UpToBrace : List Token → List X → List Token → Type 0 where
    LastOne : {ts rest : List Token} {x : X} {q : Spot} →
        One ts x (sign_token sign.BraceClose q ∷ rest) → UpToBrace ts (x ∷ []) (sign_token sign.BraceClose q ∷ rest)
    LastAndComma : {ts rest : List Token} {x : X} {p q : Spot} →
        One ts x (sign_token sign.Comma p ∷ sign_token sign.BraceClose q ∷ rest) → UpToBrace ts (x ∷ []) (sign_token sign.BraceClose q ∷ rest)
    MoreOnes : {ts mid rest : List Token} {x : X} {xs : List X} {q : Spot} →
        One ts x (sign_token sign.Comma q ∷ mid) → UpToBrace mid xs rest → UpToBrace ts (x ∷ xs) rest

-- `Inner k` is what is spelled with the strength k in one more pair of brackets
module _ (Inner : ℕ → List Token → Exp → List Token → Type 0) where
  -- the sizes of an array in their brackets, or none (C11 6.7.6.2)
  pub data Sizes : List Token → List Exp → List Token → Type 0 where
    NoSizes : {rest : List Token} → Sizes rest [] rest
    SomeSizes : {ts rest : List Token} {es : List Exp} → Dimensions (Inner conditional) ts es rest → Sizes ts es rest

  -- the values of a list or row
  abbrev pub Values : List Token → List Exp → List Token → Type 0
  Values = UpToBrace Exp (Inner assignment)

  -- a row: values in braces
  pub data Row : List Token → Exps → List Token → Type 0 where
    ARow : {ts rest : List Token} {es : List Exp} {p q : Spot} →
        Values ts es (sign_token sign.BraceClose q ∷ rest) → Row (sign_token sign.BraceOpen p ∷ ts) (exps es) rest

-- `Whole k` is what is spelled with the strength k, `Inner k` the same in one more pair of brackets, `Listed` the rows that
-- stand there
module _ (Pair : List Token → List Token → Type 0) (Whole Inner : ℕ → List Token → Exp → List Token → Type 0)
    (Listed : List Token → List Exps → List Token → Type 0) where
  -- `=` and a value, a list of values or a list of rows, or nothing (C11 6.7.9)
  pub data Initializer : List Token → Init → List Token → Type 0 where
    NoInitializer : {rest : List Token} → Initializer rest Absent rest
    OneValue : {ts rest : List Token} {e : Exp} {p : Spot} → Whole assignment ts e rest → Initializer (sign_token sign.Assign p ∷ ts) (One e) rest
    AList : {ts rest : List Token} {es : List Exp} {p q r : Spot} →
        Values Inner ts es (sign_token sign.BraceClose r ∷ rest) →
        Initializer (sign_token sign.Assign p ∷ sign_token sign.BraceOpen q ∷ ts) (Many (exps es)) rest
    AListOfRows : {ts rest : List Token} {rows : List Exps} {p q r : Spot} →
        Listed ts rows (sign_token sign.BraceClose r ∷ rest) →
        Initializer (sign_token sign.Assign p ∷ sign_token sign.BraceOpen q ∷ ts) (Rows rows) rest

  -- a declared name of a type (C11 6.7.6)
  pub data Declarator (ty : IntType) : List Token → Declared → List Token → Type 0 where
    ADeclarator : {ts mid rest : List Token} {w : List ℕ} {sizes : List Exp} {init : Init} {p : Spot} →
        is_name w ≡ true → Sizes Inner ts sizes mid → Initializer mid init rest → Declarator ty (word_token w p ∷ ts) (declared p w ty sizes init) rest

  -- parted by commas, up to the semicolon that ends them
  pub data Declarators (ty : IntType) : List Token → List Declared → List Token → Type 0 where
    LastDeclarator : {ts rest : List Token} {d : Declared} {q : Spot} →
        Declarator ty ts d (sign_token sign.Semicolon q ∷ rest) → Declarators ty ts (d ∷ []) rest
    MoreDeclarators : {ts mid rest : List Token} {d : Declared} {ds : List Declared} {q : Spot} →
        Declarator ty ts d (sign_token sign.Comma q ∷ mid) → Declarators ty mid ds rest → Declarators ty ts (d ∷ ds) rest

  -- of a type that isn't void
  pub data Declaration (outside : Bool) : List Token → List Declared → List Token → Type 0 where
    ADeclaration : {ts mid rest : List Token} {ty : IntType} {ds : List Declared} →
        Typed Pair outside ts (Some ty) mid → Declarators ty mid ds rest → Declaration outside ts ds rest

-- The same as functions.

-- what a word is among specifiers
pub data Part : Type 0 where
  NoPart : Part
  TypePart : TypeWord → Part
  OtherPart : Part
  AttributePart : Part

abbrev pub part_of_word : Bool → List ℕ → Option TypeWord → Part
part_of_word outside w (Some t) = TypePart t
part_of_word outside w None = if may_specify outside w then OtherPart else if is_attribute w then AttributePart else NoPart

abbrev pub part_of : Bool → Option (List ℕ) → Part
part_of outside None = NoPart
part_of outside (Some w) = part_of_word outside w (type_word w)

abbrev pub part_at : Bool → List Token → Part
part_at outside ts = part_of outside (word_at ts)

abbrev pub is_part : Part → Bool
is_part NoPart = false
is_part (TypePart t) = true
is_part OtherPart = true
is_part AttributePart = true

-- a declaration begins here
abbrev pub begins_declaration : List Token → Bool
begins_declaration ts = is_part (part_at false ts)

abbrev pub name_of : Option (List ℕ) → Option (List ℕ)
name_of None = None
name_of (Some w) = if is_name w then Some w else None

abbrev pub name_at : List Token → Option (List ℕ)
name_at ts = name_of (word_at ts)

abbrev pub is_spelled_attribute : Option (List ℕ) → Bool
is_spelled_attribute None = false
is_spelled_attribute (Some w) = is_attribute w

-- at most b brackets open
module _ (b : ℕ) where
  -- what stands after a pair of parentheses that begins here
  abbrev pub behind_pair : List Token → Option (List Token)
  behind_pair ts = elim (is_sign sign.ParenOpen ts) [ true ↦ behind b sign.ParenClose (drop 1 ts) | false ↦ None ]

  -- n is at least the number of tokens
  abbrev pub behind_attributes : ℕ → List Token → Option (List Token)
  behind_attributes zero ts = Some ts
  behind_attributes (suc n) ts = elim (is_spelled_attribute (word_at ts)) [ true ↦ (behind_pair (drop 1 ts) >>= behind_attributes n) | false ↦ Some ts ]

  abbrev pub read_part : Bool → (List Token → Read (List TypeWord)) → Part → List Token → Read (List TypeWord)
  read_part outside again NoPart ts = Some ([], ts)
  read_part outside again (TypePart t) ts = again (drop 1 ts) >>= λ r. Some (t ∷ r.0, r.1)
  read_part outside again OtherPart ts = again (drop 1 ts)
  read_part outside again AttributePart ts = behind_pair (drop 1 ts) >>= again

  abbrev pub read_specifiers : ℕ → Bool → List Token → Read (List TypeWord)
  read_specifiers zero outside ts = Some ([], ts)
  read_specifiers (suc n) outside ts = read_part outside (read_specifiers n outside) (part_at outside ts) ts

  abbrev pub read_type : Bool → List Token → Read (Option IntType)
  read_type outside ts = read_specifiers (length ts) outside ts >>= λ r. type_of r.0 >>= λ ty. Some (ty, r.1)

-- values or rows up to a brace; n is at least the number of tokens
abbrev pub up_to_brace : {X : Type 0} → (List Token → Read X) → ℕ → List Token → Read (List X)
up_to_brace one zero ts = None
up_to_brace one (suc n) ts = one ts >>= λ e.
    elim (is_sign sign.Comma e.1) [
      | true ↦ elim (is_sign sign.BraceClose (drop 1 e.1)) [
        | true ↦ Some (e.0 ∷ [], drop 1 e.1)
        | false ↦ (up_to_brace one n (drop 1 e.1) >>= λ r. Some (e.0 ∷ r.0, r.1))
      ]
      | false ↦ Some (e.0 ∷ [], e.1)
    ]

module _ (inner : ℕ → List Token → Read Exp) where
  abbrev pub read_sizes : List Token → Read (List Exp)
  read_sizes ts = elim (is_sign sign.BracketOpen ts) [ true ↦ dimensions (inner conditional) ts | false ↦ Some ([], ts) ]

  abbrev pub read_values : ℕ → List Token → Read (List Exp)
  read_values n ts = up_to_brace (inner assignment) n ts

  abbrev pub read_row : List Token → Read Exps
  read_row ts = elim (is_sign sign.BraceOpen ts) [
    | true ↦ (read_values (length ts) (drop 1 ts) >>= λ r. closing sign.BraceClose (exps r.0) r.1)
    | false ↦ None
  ]

  abbrev pub read_rows : ℕ → List Token → Read (List Exps)
  read_rows n ts = up_to_brace read_row n ts

module _ (b : ℕ) (whole inner : ℕ → List Token → Read Exp) (rows : List Token → Read (List Exps)) where
  -- after a brace: rows, where another one follows
  abbrev pub read_list : List Token → Read Init
  read_list ts = elim (is_sign sign.BraceOpen ts) [
    | true ↦ (rows ts >>= λ r. closing sign.BraceClose (Rows r.0) r.1)
    | false ↦ (read_values inner (length ts) ts >>= λ r. closing sign.BraceClose (Many (exps r.0)) r.1)
  ]

  abbrev pub read_value : List Token → Read Init
  read_value ts = elim (is_sign sign.BraceOpen ts) [
    | true ↦ read_list (drop 1 ts)
    | false ↦ (whole assignment ts >>= λ e. Some (One e.0, e.1))
  ]

  abbrev pub read_initializer : List Token → Read Init
  read_initializer ts = elim (is_sign sign.Assign ts) [ true ↦ read_value (drop 1 ts) | false ↦ Some (Absent, ts) ]

  abbrev pub read_declarator : IntType → List Token → Read Declared
  read_declarator ty ts = name_at ts >>= λ w. read_sizes inner (drop 1 ts) >>= λ sizes. read_initializer sizes.1 >>= λ init.
      Some (declared (place ts) w ty sizes.0 init.0, init.1)

  abbrev pub read_declarators : ℕ → IntType → List Token → Read (List Declared)
  read_declarators zero ty ts = None
  read_declarators (suc n) ty ts = read_declarator ty ts >>= λ d.
      elim (is_sign sign.Comma d.1) [
        | true ↦ (read_declarators n ty (drop 1 d.1) >>= λ r. Some (d.0 ∷ r.0, r.1))
        | false ↦ closing sign.Semicolon (d.0 ∷ []) d.1
      ]

  abbrev pub read_declaration : Bool → List Token → Read (List Declared)
  read_declaration outside ts = read_type b outside ts >>= λ t. t.0 >>= λ ty. read_declarators (length ts) ty t.1
