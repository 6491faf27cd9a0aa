-- What all declarations of a name make of it together, declaration by declaration.
use Rattle.std.specs.Prelude.{ℕ, nat_le, Bool, false, cond, ◌&&◌, ◌||◌, List, length, Option, Some, None}
use Rattle.c_core.specs.Typing.{same_types}
use Rattle.c_core.specs.declared.number.IntType.{IntType}
use Rattle.check_rules.specs.Codes.{agree, or_else}
use Rattle.check_scope.specs.declared.known.Stated.{Stated}
use Rattle.check_scope.specs.declared.known.Known.{Known}
use Rattle.check_scope.specs.declared.known.Known.TheVariants as known
use Rattle.check_scope.specs.declared.past.Past.{Past}
use Rattle.check_scope.specs.declared.past.Results.{Results}
use Rattle.check_scope.specs.declared.past.Lists.{Lists}
use Rattle.check_scope.specs.Kinds.{types_stated}

-- the place of the latest function with another result
abbrev pub other_result : Option Results → Option IntType → Option ℕ
other_result None given = None
other_result (Some latest) given = cond (same_types latest.result given) latest.other (Some latest.place)

-- the place of the latest function that states other parameters
abbrev pub other_list : Option Lists → Option (List IntType) → Option ℕ
other_list None given = None
other_list (Some latest) None = None
other_list (Some latest) (Some types) = cond (agree (types_stated latest.stated) (Some types)) latest.other (Some latest.place)

abbrev pub count_of : Option (List IntType) → Option ℕ
count_of None = None
count_of (Some types) = Some (length types)

abbrev pub lists_by : ℕ → Option Lists → Stated → Option (List IntType) → Option Lists
lists_by n lists said None = lists
lists_by n lists said (Some types) = Some (record { stated = said; place = n; other = other_list lists (Some types) })

abbrev pub lists_with : ℕ → Option Lists → Stated → Option Lists
lists_with n lists stated = lists_by n lists stated (types_stated stated)

abbrev pub with_function : ℕ → Past → Option IntType → Stated → Bool → Past
with_function n p result stated has_body = record {
  means = known.Function result stated has_body;
  count = or_else p.count (count_of (types_stated stated));
  object = p.object;
  body = cond has_body (Some n) p.body;
  results = Some (record { result = result; place = n; other = other_result p.results result });
  lists = lists_with n p.lists stated;
}

abbrev pub or_blank : Option Past → Known → Past
or_blank (Some p) k = p
or_blank None k = record { means = k; count = None; object = None; body = None; results = None; lists = None }

abbrev pub added : ℕ → Past → Known → Past
added n p known.Closed = p
added n p (known.Object number ty dims fixed) =
    record { means = known.Object number ty dims fixed; count = p.count; object = Some n; body = p.body; results = p.results; lists = p.lists }
added n p (known.Function result stated has_body) = with_function n p result stated has_body

-- with one declaration more, at a place
abbrev pub with_known : ℕ → Option Past → Known → Past
with_known n before k = added n (or_blank before k) k

-- at a place or after
abbrev pub is_since : ℕ → Option ℕ → Bool
is_since start None = false
is_since start (Some place) = nat_le start place

abbrev pub latest_function : Option Results → Option ℕ
latest_function None = None
latest_function (Some latest) = Some latest.place

abbrev pub clashes_since : ℕ → Past → Known → Bool
clashes_since start p known.Closed = false
clashes_since start p (known.Object number ty dims fixed) = is_since start p.object || is_since start (latest_function p.results)
clashes_since start p (known.Function result stated has_body) =
    is_since start p.object || (is_since start (other_result p.results result) ||
    (is_since start (other_list p.lists (types_stated stated)) || (is_since start p.body && has_body)))

-- a declaration clashes with one that stands at this place or after
abbrev pub is_clash : ℕ → Option Past → Known → Bool
is_clash start None k = false
is_clash start (Some p) k = clashes_since start p k
