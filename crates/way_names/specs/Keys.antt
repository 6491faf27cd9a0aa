-- Objects by their names: those of one name have one key.
use Rattle.std.specs.Prelude.{ℕ, suc, nat_eq, Bool, true, false, cond, List, [], ◌∷◌, Option, Some, None, slice_get}
use Rattle.std.specs.BTreeMap.{BTreeMap, get_by}
use Rattle.std.specs.Cmp.Lexicographic.{slice_cmp}
use Rattle.std.specs.Ordering.{nat_cmp}
use Rattle.std.specs.Str.{bytes_eq}
use denote.Ref.{Bor}
use Rattle.c_core.specs.declared.tree.Object.{Object}
use Rattle.way_places.specs.Seeking.{or_else}

-- of objects numbered from n, the number of the first of a name
abbrev pub first_named : ℕ → List Object → List ℕ → Option ℕ
first_named n [] x = None
first_named n (o ∷ os) x = cond (bytes_eq o.name x) (Some n) (first_named (suc n) os x)

-- the key of a name is the number of the first object of that name
abbrev pub key_of : List Object → List ℕ → Option ℕ
key_of objects x = first_named 0 objects x

-- the key of an object's name
abbrev pub key_at : List Object → Option Object → Option ℕ
key_at objects None = None
key_at objects (Some o) = key_of objects o.name

abbrev pub is_key : Option ℕ → ℕ → Bool
is_key None key = false
is_key (Some k) key = nat_eq k key

-- the name of the object of a number has this key
abbrev pub has_key : List Object → ℕ → ℕ → Bool
has_key objects key n = is_key (key_at objects (slice_get objects n)) key

-- the object, where there is one, has this name
abbrev pub is_called : Option Object → List ℕ → Bool
is_called None x = false
is_called (Some o) x = bytes_eq o.name x

-- the last of these that passes a test
abbrev pub last_of : (ℕ → Bool) → List ℕ → Option ℕ
last_of test [] = None
last_of test (n ∷ ns) = or_else (last_of test ns) (cond (test n) (Some n) None)

-- the last of the objects of these numbers that has this name
abbrev pub last_named : List Object → List ℕ → List ℕ → Option ℕ
last_named objects ns x = last_of (λ n. is_called (slice_get objects n) x) ns

-- what a map has for a name
abbrev pub number_in : BTreeMap (Bor (List ℕ)) ℕ → List ℕ → Option ℕ
number_in m x = get_by (λ k. slice_cmp nat_cmp x k.now) m
