-- What expressions ask of a word, as one record.
use Rattle.std.specs.Prelude.{ℕ, nat_eq, Bool, true, false, List, Option, Some, None, is_none}
use Rattle.check_rules.specs.Names.{Kind, Object, Function, Closed, Entry, named, is_function}
use Rattle.check_rules.specs.Typed.{no_object, number_named, type_named, result_named}
use Rattle.check_rules.specs.Codes.{is_no_scalar}
use Rattle.c_core.specs.declared.number.IntType.TheVariants.{Int}
use Rattle.check_scope.specs.declared.meaning.Meaning.{Meaning}
use Rattle.check_scope.specs.declared.meaning.Meaning.TheVariants as meaning
use Rattle.check_types.specs.declared.words.Word.{Word}

-- an index on a scalar, or on a function
abbrev pub is_no_array : Option Kind → Bool
is_no_array None = false
is_no_array (Some (Object n ty dims fixed)) = nat_eq dims 0
is_no_array (Some (Function result stated has_body)) = true
is_no_array (Some Closed) = true

-- of an array its dimensions
abbrev pub dims_named : Option Kind → ℕ
dims_named None = 0
dims_named (Some (Object n ty dims fixed)) = dims
dims_named (Some (Function result stated has_body)) = 0
dims_named (Some Closed) = 0

abbrev pub word_as : Option Kind → Word
word_as kind = record {
  number = number_named kind;
  ty = type_named kind;
  result = result_named kind;
  is_nameless = is_none kind;
  is_no_scalar = is_no_scalar kind;
  is_no_array = is_no_array kind;
  dims = dims_named kind;
  is_function = is_function kind;
}

-- nothing is wrong where no word stands
abbrev pub no_word : Word
no_word = record {
  number = no_object;
  ty = Int;
  result = Some Int;
  is_nameless = false;
  is_no_scalar = false;
  is_no_array = false;
  dims = 0;
  is_function = false;
}

-- by what the checker keeps of a declaration: parameters and body say nothing of a word
abbrev pub word_of : Option Meaning → Word
word_of None = word_as None
word_of (Some (meaning.Object n ty dims fixed)) = word_as (Some (Object n ty dims fixed))
word_of (Some (meaning.Function result)) = word_as (Some (Function result None false))
word_of (Some meaning.Closed) = word_as (Some Closed)

-- the word of an expression, where it has one
abbrev pub word_at : List Entry → Option (List ℕ) → Word
word_at es None = no_word
word_at es (Some x) = word_as (named es x)
