-- The words of C (C11 6.4.1) and the types that they spell (C11 6.7.2).
use Rattle.std.specs.Prelude.{ℕ, suc, nat_eq, Bool, true, false, not, ◌&&◌, ◌||◌, List, [], ◌∷◌, Option, Some, None, if◌then◌else◌, codes}
use Rattle.c_core.specs.declared.number.IntType.{IntType}
use Rattle.c_core.specs.declared.number.IntType.TheVariants as ty
use Rattle.c_tokens.specs.Numbers.{is_spelled}

-- the word is one of these
abbrev pub is_among : List (List ℕ) → List ℕ → Bool
is_among [] w = false
is_among (v ∷ vs) w = is_spelled v w || is_among vs w

-- the keywords (C11 6.4.1)
abbrev pub keywords : List (List ℕ)
keywords =
    codes "auto" ∷ codes "break" ∷ codes "case" ∷ codes "char" ∷ codes "const" ∷ codes "continue" ∷ codes "default" ∷ codes "do" ∷
    codes "double" ∷ codes "else" ∷ codes "enum" ∷ codes "extern" ∷ codes "float" ∷ codes "for" ∷ codes "goto" ∷ codes "if" ∷
    codes "inline" ∷ codes "int" ∷ codes "long" ∷ codes "register" ∷ codes "restrict" ∷ codes "return" ∷ codes "short" ∷ codes "signed" ∷
    codes "sizeof" ∷ codes "static" ∷ codes "struct" ∷ codes "switch" ∷ codes "typedef" ∷ codes "union" ∷ codes "unsigned" ∷ codes "void" ∷
    codes "volatile" ∷ codes "while" ∷ codes "_Alignas" ∷ codes "_Alignof" ∷ codes "_Atomic" ∷ codes "_Bool" ∷ codes "_Complex" ∷ codes "_Generic" ∷
    codes "_Imaginary" ∷ codes "_Noreturn" ∷ codes "_Static_assert" ∷ codes "_Thread_local" ∷ []

-- words of the GNU language that are keywords here
abbrev pub gnu_keywords : List (List ℕ)
gnu_keywords =
    codes "__const" ∷ codes "__inline" ∷ codes "__inline__" ∷ codes "__extension__" ∷ codes "__attribute__" ∷ codes "__asm__" ∷ []

-- a word that may be declared
abbrev pub is_name : List ℕ → Bool
is_name w = not (is_among keywords w || is_among gnu_keywords w)

-- the words before an attribute's parentheses
abbrev pub attribute_words : List (List ℕ)
attribute_words = codes "__attribute__" ∷ codes "__asm__" ∷ []

-- it begins an attribute
abbrev pub is_attribute : List ℕ → Bool
is_attribute w = is_among attribute_words w

-- words beside the type words of a declaration
abbrev pub specifiers : List (List ℕ)
specifiers =
    codes "const" ∷ codes "__const" ∷ codes "inline" ∷ codes "__inline" ∷ codes "__inline__" ∷ codes "_Noreturn" ∷
    codes "register" ∷ codes "auto" ∷ codes "__extension__" ∷ []

-- it says something of a declaration besides its type
abbrev pub is_specifier : List ℕ → Bool
is_specifier w = is_among specifiers w

-- those that stand outside of functions alone
abbrev pub storage_words : List (List ℕ)
storage_words = codes "extern" ∷ codes "static" ∷ []

-- it is a storage word, which no declaration of a function's body has
abbrev pub is_storage : List ℕ → Bool
is_storage w = is_among storage_words w

-- `outside`: outside of functions
abbrev pub may_specify : Bool → List ℕ → Bool
may_specify outside w = is_specifier w || (outside && is_storage w)

-- the words of types (C11 6.7.2)
pub data TypeWord : Type 0 where
  Void : TypeWord
  Bool' : TypeWord
  Char : TypeWord
  Short : TypeWord
  Int : TypeWord
  Long : TypeWord
  Signed : TypeWord
  Unsigned : TypeWord

-- how they are spelled
abbrev pub type_words : List (List ℕ × TypeWord)
type_words =
    (codes "void", Void) ∷ (codes "_Bool", Bool') ∷ (codes "char", Char) ∷ (codes "short", Short) ∷ (codes "int", Int) ∷
    (codes "long", Long) ∷ (codes "signed", Signed) ∷ (codes "unsigned", Unsigned) ∷ []

-- the word of a type that is spelled so in these rows
abbrev pub type_word_among : List (List ℕ × TypeWord) → List ℕ → Option TypeWord
type_word_among [] w = None
type_word_among (row ∷ rows) w = if is_spelled row.0 w then Some row.1 else type_word_among rows w

-- the word of a type that is spelled so, if one is
abbrev pub type_word : List ℕ → Option TypeWord
type_word w = type_word_among type_words w

-- type words by number, so that two can be compared
abbrev pub number_of_word : TypeWord → ℕ
number_of_word Void = 0
number_of_word Bool' = 1
number_of_word Char = 2
number_of_word Short = 3
number_of_word Int = 4
number_of_word Long = 5
number_of_word Signed = 6
number_of_word Unsigned = 7

-- the same word
abbrev pub same_word : TypeWord → TypeWord → Bool
same_word v w = nat_eq (number_of_word v) (number_of_word w)

-- how often a word stands in a list
abbrev pub times : TypeWord → List TypeWord → ℕ
times w [] = 0
times w (v ∷ vs) = if same_word v w then suc (times w vs) else times w vs

-- the same type words in any order
abbrev pub same_words : List (List ℕ × TypeWord) → List TypeWord → List TypeWord → Bool
same_words [] row words = true
same_words (w ∷ ws) row words = nat_eq (times w.1 row) (times w.1 words) && same_words ws row words

-- every type with its words; none is void
abbrev pub types : List (List TypeWord × Option IntType)
types =
    (Void ∷ [], None) ∷
    (Bool' ∷ [], Some ty.Bool) ∷
    (Char ∷ [], Some ty.Char) ∷
    (Signed ∷ Char ∷ [], Some ty.SChar) ∷
    (Unsigned ∷ Char ∷ [], Some ty.UChar) ∷
    (Short ∷ [], Some ty.Short) ∷ (Short ∷ Int ∷ [], Some ty.Short) ∷ (Signed ∷ Short ∷ [], Some ty.Short) ∷ (Signed ∷ Short ∷ Int ∷ [], Some ty.Short) ∷
    (Unsigned ∷ Short ∷ [], Some ty.UShort) ∷ (Unsigned ∷ Short ∷ Int ∷ [], Some ty.UShort) ∷
    (Long ∷ [], Some ty.Long) ∷ (Long ∷ Int ∷ [], Some ty.Long) ∷ (Signed ∷ Long ∷ [], Some ty.Long) ∷ (Signed ∷ Long ∷ Int ∷ [], Some ty.Long) ∷
    (Unsigned ∷ Long ∷ [], Some ty.ULong) ∷ (Unsigned ∷ Long ∷ Int ∷ [], Some ty.ULong) ∷
    (Long ∷ Long ∷ [], Some ty.LongLong) ∷ (Long ∷ Long ∷ Int ∷ [], Some ty.LongLong) ∷
    (Signed ∷ Long ∷ Long ∷ [], Some ty.LongLong) ∷ (Signed ∷ Long ∷ Long ∷ Int ∷ [], Some ty.LongLong) ∷
    (Unsigned ∷ Long ∷ Long ∷ [], Some ty.ULongLong) ∷ (Unsigned ∷ Long ∷ Long ∷ Int ∷ [], Some ty.ULongLong) ∷
    (Int ∷ [], Some ty.Int) ∷ (Signed ∷ [], Some ty.Int) ∷ (Signed ∷ Int ∷ [], Some ty.Int) ∷
    (Unsigned ∷ [], Some ty.UInt) ∷ (Unsigned ∷ Int ∷ [], Some ty.UInt) ∷ []

-- the type whose row has the same words in any order, if one has
abbrev pub type_among : List (List TypeWord × Option IntType) → List TypeWord → Option (Option IntType)
type_among [] words = None
type_among (row ∷ rows) words = if same_words type_words row.0 words then Some row.1 else type_among rows words

-- the type that type words spell in any order, if they spell one
abbrev pub type_of : List TypeWord → Option (Option IntType)
type_of words = type_among types words
