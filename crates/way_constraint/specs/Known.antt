-- Words that stand for objects.
use Rattle.std.specs.Prelude.{ℕ, Bool, true, false, List, Option, Some, None}
use Rattle.c_parser.specs.Tree.{Node}
use Rattle.check_rules.specs.Codes.{word_of}
use Rattle.check_rules.specs.Names.{Kind, Object, Function, Closed, Entry, named}
use Rattle.check_scope.specs.declared.meaning.Meaning.{Meaning}
use Rattle.check_scope.specs.declared.meaning.Meaning.TheVariants as meaning

abbrev pub is_object : Option Kind → Bool
is_object None = false
is_object (Some (Object n ty dims fixed)) = true
is_object (Some (Function result stated has_body)) = false
is_object (Some Closed) = false

-- by what the table tells of a word
abbrev pub means_object : Option Meaning → Bool
means_object None = false
means_object (Some (meaning.Object n ty dims fixed)) = true
means_object (Some (meaning.Function result)) = false
means_object (Some meaning.Closed) = false

abbrev pub word_is_object : List Entry → Option (List ℕ) → Bool
word_is_object es None = true
word_is_object es (Some x) = is_object (named es x)

-- the word of a node, where it has one, is an object
unfoldable pub stands_for_object : List Entry → Node → Bool
stands_for_object es n = word_is_object es (word_of n)
