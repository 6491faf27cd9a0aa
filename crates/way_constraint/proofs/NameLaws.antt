-- What a word stands for among the names of objects.
use Rattle.std.proofs.Common.{◌≡◌, ℕ, nat_eq, Bool, true, false, cond, ◌||◌, List, [], ◌∷◌, ◌++◌, Option, Some, None, is_none, slice_get, eq-eqb, refl, ap}
use Rattle.std.proofs.lemmas.Bool.{or_right}
use Rattle.std.specs.List.{list_any}
use Rattle.std.specs.Str.{bytes_eq}
use Rattle.c_core.specs.Scope.{is_in}
use Rattle.c_core.specs.declared.number.IntType.{IntType}
use Rattle.c_core.specs.declared.tree.Callee.{Callee}
use Rattle.c_core.specs.declared.tree.Object as declared
use Rattle.check_rules.specs.Names.{Kind, Object, Function, Closed, Entry, later, declared_as, or_built_in, built_in, named, is_function}
use Rattle.check_rules.specs.Typed.{number_named}
use Rattle.way_constraint.specs.Constraints.{entries, entry_at, is_among}
use Rattle.std.specs.Option.{option_map}
use Rattle.check_scope.specs.Kinds.{meaning_of}
use Rattle.way_constraint.specs.Known.{is_object, means_object, word_is_object}

-- a word is none of the names, or an object of one of these numbers
data IsFound (numbers : List ℕ) : Option Kind → Bool → Type 0 where
  Nowhere : IsFound numbers None false
  There : {n : ℕ} {ty : IntType} {dims : ℕ} {fixed : Bool} → is_in n numbers ≡ true → IsFound numbers (Some (Object n ty dims fixed)) true

same_number : (n : ℕ) (b : Bool) → (nat_eq n n || b) ≡ true
same_number n b = ap (λ x. x || b) (eq-eqb n n refl)

found_wider : (n : ℕ) (ns : List ℕ) (k : Option Kind) (t : Bool) → IsFound ns k t → IsFound (n ∷ ns) k t
found_wider n ns None false Nowhere = Nowhere
found_wider n ns (Some (Object o ty dims fixed)) true (There h) = There (or_right (nat_eq o n) (is_in o ns) h)
found_wider n ns None true h = elim h [ ]
found_wider n ns (Some (Object o ty dims fixed)) false h = elim h [ ]
found_wider n ns (Some (Function result stated has_body)) t h = elim h [ ]
found_wider n ns (Some Closed) t h = elim h [ ]

found_behind : (n : ℕ) (ns : List ℕ) (ty : IntType) (dims : ℕ) (fixed : Bool) (b : Bool) (k : Option Kind) (t : Bool)
    → IsFound ns k t → IsFound (n ∷ ns) (later (cond b (Some (Object n ty dims fixed)) None) k) (b || t)
found_behind n ns ty dims fixed true None false Nowhere = There (same_number n (is_in n ns))
found_behind n ns ty dims fixed false None false Nowhere = Nowhere
found_behind n ns ty dims fixed true (Some (Object o ty' dims' fixed')) true (There h) = There (or_right (nat_eq o n) (is_in o ns) h)
found_behind n ns ty dims fixed false (Some (Object o ty' dims' fixed')) true (There h) = There (or_right (nat_eq o n) (is_in o ns) h)
found_behind n ns ty dims fixed false None true h = elim h [ ]
found_behind n ns ty dims fixed true None true h = elim h [ ]
found_behind n ns ty dims fixed false (Some (Object o ty' dims' fixed')) false h = elim h [ ]
found_behind n ns ty dims fixed true (Some (Object o ty' dims' fixed')) false h = elim h [ ]
found_behind n ns ty dims fixed false (Some (Function result stated has_body)) t h = elim h [ ]
found_behind n ns ty dims fixed true (Some (Function result stated has_body)) t h = elim h [ ]
found_behind n ns ty dims fixed false (Some Closed) t h = elim h [ ]
found_behind n ns ty dims fixed true (Some Closed) t h = elim h [ ]

module _ (x : List ℕ) where
  abbrev has_name : Entry → Bool
  has_name e = bytes_eq e.name x

  found_next : (n : ℕ) (ns : List ℕ) (o : Option declared.Object) (es : List Entry)
      → IsFound ns (declared_as es x) (list_any has_name es) → IsFound (n ∷ ns) (declared_as (entry_at n o ++ es) x) (list_any has_name (entry_at n o ++ es))
  found_next n ns None es h = found_wider n ns (declared_as es x) (list_any has_name es) h
  found_next n ns (Some o) es h = found_behind n ns o.ty o.dims o.fixed (bytes_eq o.name x) (declared_as es x) (list_any has_name es) h

  found : (objects : List declared.Object) (numbers : List ℕ) → IsFound numbers (declared_as (entries objects numbers) x) (list_any has_name (entries objects numbers))
  found objects [] = Nowhere
  found objects (n ∷ ns) = found_next n ns (slice_get objects n) (entries objects ns) (found objects ns)

-- a built-in function is no object
object_found : (numbers : List ℕ) (k : Option Kind) (t : Bool) (built : Option Callee) → IsFound numbers k t → is_object (or_built_in k built) ≡ t
object_found numbers None false None Nowhere = refl
object_found numbers None false (Some callee) Nowhere = refl
object_found numbers (Some (Object n ty dims fixed)) true built (There h) = refl
object_found numbers None true built h = elim h [ ]
object_found numbers (Some (Object n ty dims fixed)) false built h = elim h [ ]
object_found numbers (Some (Function result stated has_body)) t built h = elim h [ ]
object_found numbers (Some Closed) t built h = elim h [ ]

number_found : (numbers : List ℕ) (k : Option Kind) (t : Bool) (built : Option Callee) → IsFound numbers k t → t ≡ true → is_in (number_named (or_built_in k built)) numbers ≡ true
number_found numbers None false built Nowhere e = cc
number_found numbers (Some (Object n ty dims fixed)) true built (There h) e = h
number_found numbers None true built h e = elim h [ ]
number_found numbers (Some (Object n ty dims fixed)) false built h e = elim h [ ]
number_found numbers (Some (Function result stated has_body)) t built h e = elim h [ ]
number_found numbers (Some Closed) t built h e = elim h [ ]

module _ (objects : List declared.Object) (numbers : List ℕ) where
  pub same_words : (w : Option (List ℕ)) → word_is_object (entries objects numbers) w ≡ is_among (entries objects numbers) w
  same_words None = refl
  same_words (Some x) = object_found numbers _ _ (built_in x) (found x objects numbers)

  -- a name that is among them has a number of theirs
  pub number_among : (x : List ℕ) → is_among (entries objects numbers) (Some x) ≡ true → is_in (number_named (named (entries objects numbers) x)) numbers ≡ true
  number_among x h = number_found numbers _ _ (built_in x) (found x objects numbers) h

pub object_named : (k : Option Kind) → is_object k ≡ true → is_none k ≡ false
object_named None h = cc
object_named (Some (Object n ty dims fixed)) h = refl
object_named (Some (Function result stated has_body)) h = refl
object_named (Some Closed) h = refl

pub object_uncalled : (k : Option Kind) → is_object k ≡ true → is_function k ≡ false
object_uncalled None h = refl
object_uncalled (Some (Object n ty dims fixed)) h = refl
object_uncalled (Some (Function result stated has_body)) h = cc
object_uncalled (Some Closed) h = cc

pub object_meant : (k : Option Kind) → means_object (option_map meaning_of k) ≡ is_object k
object_meant None = refl
object_meant (Some (Object n ty dims fixed)) = refl
object_meant (Some (Function result stated has_body)) = refl
object_meant (Some Closed) = refl
