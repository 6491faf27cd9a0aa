-- Which items tokens spell, form by form. An item gives no tree where nothing later reads it: `reach_error`, `;`.
use Rattle.std.specs.Prelude.{◌≡◌, ◌≤◌, ℕ, zero, suc, Bool, true, false, ◌||◌, List, [], ◌∷◌, ◌++◌, Option, Some, None, if◌then◌else◌, codes}
use Rattle.std.specs.List.{list_all}
use Rattle.c_core.specs.declared.number.IntType.{IntType}
use Rattle.c_core.specs.declared.number.Spot.{Spot}
use Rattle.c_tokens.specs.Numbers.{is_spelled}
use Rattle.c_tokens.specs.declared.token.Token.{Token}
use Rattle.c_tokens.specs.declared.token.TokenKind.{TokenKind}
use Rattle.c_tokens.specs.declared.token.TokenKind.TheVariants as kind
use Rattle.c_tokens.specs.declared.token.Punct.{Punct}
use Rattle.c_tokens.specs.declared.token.Punct.TheVariants as sign
use Rattle.c_parser.specs.Tree.{Exp, exps, Declared, Init, Stm, Stmt, Block, stms, Param, Item}
use Rattle.c_parser.specs.Tree as item
use Rattle.c_parser.specs.Heights.{heights, height_of_init, height_of}
use Rattle.c_parser.specs.Signs.{sign_token, word_token, sign_of, word_of, is_this, is_sign, is_word}
use Rattle.c_parser.specs.Words.{is_name, is_attribute}
use Rattle.c_parser.specs.Brackets.{Bracket, NoBracket, Opening, Closing, bracket, Passed, PassedWithin}
use Rattle.c_parser.specs.Declarations.{Attributes, Typed}
use Rattle.c_parser.specs.Statements.{Declares, BracedWithin}

-- the name `reach_error`
abbrev pub reach_error : List ℕ
reach_error = codes "reach_error"

-- `Pair` is what is passed in one more pair of brackets
module _ (Pair : List Token → List Token → Type 0) where
  -- of a type that isn't void
  pub data Parameter : List Token → Param → List Token → Type 0 where
    AParameter : {ts rest : List Token} {ty : IntType} {w : List ℕ} {p : Spot} →
        Typed Pair true ts (Some ty) (word_token w p ∷ rest) → is_name w ≡ true →
        Parameter ts (record { spot = p; name = w; ty = ty }) rest

  -- parameters with names, separated by commas (C11 6.7.6)
  pub data ParameterList : List Token → List Param → List Token → Type 0 where
    LastParameter : {ts rest : List Token} {x : Param} → Parameter ts x rest → ParameterList ts (x ∷ []) rest
    MoreParameters : {ts mid rest : List Token} {x : Param} {xs : List Param} {q : Spot} →
        Parameter ts x (sign_token sign.Comma q ∷ mid) → ParameterList mid xs rest → ParameterList ts (x ∷ xs) rest

  -- of a definition, where `()` means none
  pub data Parameters : List Token → List Param → List Token → Type 0 where
    NoParameters : {rest : List Token} → Parameters rest [] rest
    VoidParameters : {rest : List Token} {p : Spot} → Parameters (word_token (codes "void") p ∷ rest) [] rest
    SomeParameters : {ts rest : List Token} {xs : List Param} → ParameterList ts xs rest → Parameters ts xs rest

  -- the type of a parameter, whose name may be absent in a prototype
  pub data ParameterType : List Token → IntType → List Token → Type 0 where
    Unnamed : {ts rest : List Token} {ty : IntType} → Typed Pair true ts (Some ty) rest → ParameterType ts ty rest
    Named : {ts rest : List Token} {ty : IntType} {w : List ℕ} {p : Spot} →
        Typed Pair true ts (Some ty) (word_token w p ∷ rest) → is_name w ≡ true → ParameterType ts ty rest

  -- types of parameters, separated by commas
  pub data TypeList : List Token → List IntType → List Token → Type 0 where
    LastType : {ts rest : List Token} {ty : IntType} → ParameterType ts ty rest → TypeList ts (ty ∷ []) rest
    MoreTypes : {ts mid rest : List Token} {ty : IntType} {tys : List IntType} {q : Spot} →
        ParameterType ts ty (sign_token sign.Comma q ∷ mid) → TypeList mid tys rest → TypeList ts (ty ∷ tys) rest

  -- of a prototype, where `()` says nothing of them
  pub data ParameterTypes : List Token → Option (List IntType) → List Token → Type 0 where
    Unstated : {rest : List Token} → ParameterTypes rest None rest
    VoidTypes : {rest : List Token} {p : Spot} → ParameterTypes (word_token (codes "void") p ∷ rest) (Some []) rest
    StatedTypes : {ts rest : List Token} {tys : List IntType} → TypeList ts tys rest → ParameterTypes ts (Some tys) rest

-- in one more pair of brackets
abbrev pub ParametersWithin : ℕ → List Token → List Param → List Token → Type 0
ParametersWithin zero ts xs rest = ⊥
ParametersWithin (suc b) ts xs rest = Parameters (PassedWithin b) ts xs rest

-- a prototype's parameters, within this many open brackets more
abbrev pub TypesWithin : ℕ → List Token → Option (List IntType) → List Token → Type 0
TypesWithin zero ts tys rest = ⊥
TypesWithin (suc b) ts tys rest = ParameterTypes (PassedWithin b) ts tys rest

-- a prototype of `reach_error` is passed over
abbrev pub unless_reach : List ℕ → Item → Option Item
unless_reach w i = if is_spelled reach_error w then None else Some i

-- a token that a closed item may hold
abbrev pub is_closed_sign : Punct → Bool
is_closed_sign sign.Semicolon = true
is_closed_sign sign.ParenOpen = true
is_closed_sign sign.ParenClose = true
is_closed_sign sign.BracketOpen = true
is_closed_sign sign.BracketClose = true
is_closed_sign sign.Star = true
is_closed_sign sign.Comma = true
is_closed_sign sign.Ellipsis = true
is_closed_sign s = false

-- a token that may stand in a closed item
abbrev pub may_be_closed : TokenKind → Bool
may_be_closed (kind.Word w) = true
may_be_closed (kind.Number v decimal unsigned longs) = true
may_be_closed (kind.Char v) = false
may_be_closed kind.Str = true
may_be_closed (kind.Punct s) = is_closed_sign s

-- how many brackets are open after a token
abbrev pub depth_behind : ℕ → Bracket → ℕ
depth_behind n NoBracket = n
depth_behind n (Opening c) = suc n
depth_behind zero (Closing c) = zero
depth_behind (suc n) (Closing c) = n

-- the tokens that stand outside brackets, with the brackets that open where none is open
abbrev pub outside : ℕ → List Token → List Token
outside n [] = []
outside zero (t ∷ ts) = t ∷ outside (depth_behind zero (bracket t)) ts
outside (suc n) (t ∷ ts) = outside (depth_behind (suc n) (bracket t)) ts

-- one of these tokens is `;`
abbrev pub has_semicolon : List Token → Bool
has_semicolon [] = false
has_semicolon (t ∷ ts) = is_this sign.Semicolon (sign_of t.kind) || has_semicolon ts

-- a word that may be the name of a closed item, where a parenthesis follows
abbrev pub closed_word : Bool → Option (List ℕ) → Option (List ℕ)
closed_word false w = None
closed_word true None = None
closed_word true (Some w) = if is_attribute w then None else Some w

-- this name, or one that comes later
abbrev pub or_later : Option (List ℕ) → Spot → Option (List ℕ × Spot) → Option (List ℕ × Spot)
or_later None p later = later
or_later (Some w) p later = Some (w, p)

-- the first word directly before a parenthesis that isn't `__attribute__` or `__asm__`, and its place
abbrev pub closed_name : List Token → Option (List ℕ × Spot)
closed_name [] = None
closed_name (t ∷ ts) = or_later (closed_word (is_sign sign.ParenOpen ts) (word_of t.kind)) t.spot (closed_name ts)

-- each size and initializer has at most this height
abbrev pub AreLow : ℕ → List Declared → Type 0
AreLow h [] = Unit {0}
AreLow h (d ∷ ds) = (heights (exps d.sizes) ≤ h) × ((height_of_init d.init ≤ h) × AreLow h ds)

-- With at most b brackets open at one place, and at most the height h: what the front of the tokens spells.

-- a form of item: its tokens, the item that they spell if they spell one, the tokens after it
abbrev pub ItemForm : Type 1
ItemForm = List Token → Option Item → List Token → Type 0

module _ (h b : ℕ) where
  -- `reach_error` with its body, which is no item
  pub data Reach : List Token → Option Item → List Token → Type 0 where
    AReach : {ts first second third rest : List Token} {result : Option IntType} {p q u : Spot} (r z : Spot) →
        Typed (PassedWithin b) true ts result (word_token reach_error p ∷ sign_token sign.ParenOpen q ∷ first) →
        PassedWithin b first (sign_token sign.ParenClose r ∷ second) → Attributes (PassedWithin b) second (sign_token sign.BraceOpen u ∷ third) →
        PassedWithin b third (sign_token sign.BraceClose z ∷ rest) → Reach ts None rest

  -- a function with its body (C11 6.9.1)
  pub data Function : List Token → Option Item → List Token → Type 0 where
    AFunction : {ts first second third rest : List Token} {result : Option IntType} {w : List ℕ} {xs : List Param} {p q u : Spot} (ss : List Stm) (r z : Spot) →
        Typed (PassedWithin b) true ts result (word_token w p ∷ sign_token sign.ParenOpen q ∷ first) → is_name w ≡ true →
        ParametersWithin b first xs (sign_token sign.ParenClose r ∷ second) → Attributes (PassedWithin b) second (sign_token sign.BraceOpen u ∷ third) →
        BracedWithin b third ss (sign_token sign.BraceClose z ∷ rest) → height_of (Stmt u (Block (stms ss))) ≤ h →
        Function ts (Some (item.Function p w result xs (Stmt u (Block (stms ss))))) rest

  -- a prototype (C11 6.7.6.3)
  pub data Prototype : List Token → Option Item → List Token → Type 0 where
    APrototype : {ts first second rest : List Token} {result : Option IntType} {w : List ℕ} {p q z : Spot} (tys : Option (List IntType)) (r : Spot) →
        Typed (PassedWithin b) true ts result (word_token w p ∷ sign_token sign.ParenOpen q ∷ first) → is_name w ≡ true →
        TypesWithin b first tys (sign_token sign.ParenClose r ∷ second) → Attributes (PassedWithin b) second (sign_token sign.Semicolon z ∷ rest) →
        Prototype ts (unless_reach w (item.Prototype p w result tys)) rest

  -- declarations outside of functions (C11 6.9)
  pub data Global : List Token → Option Item → List Token → Type 0 where
    AGlobal : {ts rest : List Token} {ds : List Declared} → Declares b true ts ds rest → AreLow h ds → Global ts (Some (item.Global ds)) rest

  -- up to its first `;` outside brackets
  pub data Closed : List Token → Option Item → List Token → Type 0 where
    AClosed : {front : List Token} {name : List ℕ × Spot} (rest : List Token) (q : Spot) →
        Passed (PassedWithin b) front [] → has_semicolon (outside 0 front) ≡ false → is_word (codes "typedef") front ≡ false →
        list_all (λ (t : Token). may_be_closed t.kind) front ≡ true → closed_name (outside 0 front) ≡ Some name →
        Closed (front ++ sign_token sign.Semicolon q ∷ rest) (Some (item.Closed name.1 name.0)) rest

  -- a lone `;`, which is no item
  pub data Nothing : List Token → Option Item → List Token → Type 0 where
    ASemicolon : {rest : List Token} {q : Spot} → Nothing (sign_token sign.Semicolon q ∷ rest) None rest
