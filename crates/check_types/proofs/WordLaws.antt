-- Words by their meanings.
use Rattle.std.proofs.Common.{◌≡◌, ◌||◌, ◌&&◌, not, nat_eq, ℕ, List, Option, Some, None, refl}
use Rattle.std.specs.Option.{option_map}
use Rattle.check_rules.specs.Names.{Kind, Object, Function, Closed, Entry}
use Rattle.check_rules.specs.Codes.{names_nothing, is_no_element}
use Rattle.check_scope.specs.Kinds.{meaning_of}
use Rattle.check_types.specs.Words.{word_of, word_as, word_at}

pub word_of_kind : (k : Option Kind) → word_of (option_map meaning_of k) ≡ word_as k
word_of_kind None = refl
word_of_kind (Some (Object n ty dims fixed)) = refl
word_of_kind (Some (Function result stated has_body)) = refl
word_of_kind (Some Closed) = refl

pub no_element : (n : ℕ) (k : Option Kind) → ((word_as k).is_no_array || (not (word_as k).is_nameless && not (nat_eq (word_as k).dims n))) ≡ is_no_element n k
no_element n None = refl
no_element n (Some (Object o ty dims fixed)) = refl
no_element n (Some (Function result stated has_body)) = refl
no_element n (Some Closed) = refl

pub nameless_word : (es : List Entry) (x : Option (List ℕ)) → (word_at es x).is_nameless ≡ names_nothing es x
nameless_word es None = refl
nameless_word es (Some x) = refl
