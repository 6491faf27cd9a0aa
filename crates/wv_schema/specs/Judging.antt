-- The first row of a table that isn't met.
use Rattle.std.specs.Prelude.{ℕ, ℤ, ◌+◌, List, [], ◌∷◌, length, drop, cond, Bool, true, false, ◌&&◌, ◌||◌, nat_le, Option, Some, None, is_some}
use Rattle.std.specs.Str.{bytes_eq, all_ascii_digits}
use Rattle.std.specs.Str.Parse.{digits_value, signed_digits_value, starts_with_minus}
use Rattle.std.specs.Option.{option_or}
use Rattle.wv_yaml.specs.declared.tree.Tree.{Tree}
use Rattle.wv_yaml.specs.declared.tree.Pair.{Pair}
use Rattle.wv_schema.specs.declared.fault.SchemaFault.{SchemaFault}
use Rattle.wv_schema.specs.declared.fault.SchemaFault.TheVariants.{Missing, WrongKind, BadValue, Version}
use Rattle.wv_schema.specs.Paths.{text_in, items_in, pairs_in, Found, Nowhere, Lacking, There, found, item_place, place_below}
use Rattle.wv_schema.specs.Table.{Rule, AnyText, OneOf, TwoZero, Count, AWay, ways, Kind, AText, AList, AMap, Texts, TextMap, Row}

-- the text is one of these words
abbrev pub is_among : List (List ℕ) → List ℕ → Bool
is_among [] text = false
is_among (word ∷ words) text = bytes_eq text word || is_among words text

-- 1 to 7 digits, a number of at least 1
unfoldable pub is_count : List ℕ → Bool
is_count text = nat_le 1 (length text) && (nat_le (length text) 7 && (all_ascii_digits text && nat_le 1 (digits_value 10 text)))

-- 1 to 20 digits
abbrev pub is_numeral : List ℕ → Bool
is_numeral text = nat_le 1 (length text) && (nat_le (length text) 20 && all_ascii_digits text)

-- the same, with an optional `-` before them
unfoldable pub is_integer : List ℕ → Bool
is_integer text = is_numeral (cond (starts_with_minus text) (drop 1 text) text)

-- the integer that a text writes
unfoldable pub integer_in : List ℕ → Option ℤ
integer_in text = cond (is_integer text) (Some (signed_digits_value 10 text)) None

-- a text meets the rule of its row
unfoldable pub meets : Rule → List ℕ → Bool
meets AnyText text = true
meets (OneOf words) text = is_among words text
meets TwoZero text = bytes_eq text (50 ∷ 46 ∷ 48 ∷ [])
meets Count text = is_count text
meets AWay text = is_among ways text || is_integer text

-- how a rule that isn't met is reported
unfoldable pub broken : Rule → List ℕ → SchemaFault
broken AnyText path = BadValue path
broken (OneOf words) path = BadValue path
broken TwoZero path = Version
broken Count path = BadValue path
broken AWay path = BadValue path

-- the fault, where something doesn't hold
abbrev pub when_not : Bool → SchemaFault → Option SchemaFault
when_not true fault = None
when_not false fault = Some fault

-- a text is wanted that meets a rule
abbrev pub text_fault : Rule → List ℕ → Option (List ℕ) → Option SchemaFault
text_fault rule path None = Some (WrongKind path)
text_fault rule path (Some text) = when_not (meets rule text) (broken rule path)

-- the first fault of the items of a list, numbered from this number on
abbrev pub items_fault : (List ℕ → Tree → Option SchemaFault) → List ℕ → ℕ → List Tree → Option SchemaFault
items_fault fault at n [] = None
items_fault fault at n (t ∷ ts) = option_or (fault (item_place at n) t) (items_fault fault at (n + 1) ts)

-- a text is wanted, any
abbrev pub no_text_fault : List ℕ → Tree → Option SchemaFault
no_text_fault path t = when_not (is_some (text_in t)) (WrongKind path)

-- the values of these pairs are texts
abbrev pub are_texts : List Pair → Bool
are_texts [] = true
are_texts (p ∷ ps) = is_some (text_in p.value) && are_texts ps

-- a list of texts is wanted
abbrev pub list_fault : List ℕ → Option (List Tree) → Option SchemaFault
list_fault path None = Some (WrongKind path)
list_fault path (Some ts) = items_fault no_text_fault path 0 ts

-- a map of texts is wanted
abbrev pub map_fault : List ℕ → Option (List Pair) → Option SchemaFault
map_fault path None = Some (WrongKind path)
map_fault path (Some ps) = when_not (are_texts ps) (WrongKind path)

-- what a row says of the value that it finds
abbrev pub kind_fault : Kind → List ℕ → Tree → Option SchemaFault
kind_fault (AText rule) path t = text_fault rule path (text_in t)
kind_fault AList path t = when_not (is_some (items_in t)) (WrongKind path)
kind_fault AMap path t = when_not (is_some (pairs_in t)) (WrongKind path)
kind_fault Texts path t = list_fault path (items_in t)
kind_fault TextMap path t = map_fault path (pairs_in t)

-- a field below an absent map isn't judged
abbrev pub found_fault : Bool → Kind → List ℕ → Found → Option SchemaFault
found_fault is_needed kind path Nowhere = None
found_fault true kind path Lacking = Some (Missing path)
found_fault false kind path Lacking = None
found_fault is_needed kind path (There t) = kind_fault kind path t

-- what a row says of a map: the value is there where it is needed, and of its kind
unfoldable pub row_fault : List ℕ → List Pair → Row → Option SchemaFault
row_fault at ps row = found_fault row.is_needed row.kind (place_below at row.above row.key) (found row.above row.key ps)

-- the first row that isn't met, in the map that stands at this place
unfoldable pub first_fault : List ℕ → List Pair → List Row → Option SchemaFault
first_fault at ps [] = None
first_fault at ps (row ∷ rows) = option_or (row_fault at ps row) (first_fault at ps rows)

-- the same in what should be a map
abbrev pub rows_fault : List ℕ → (List Pair → List Row) → Option (List Pair) → Option SchemaFault
rows_fault at rows None = Some (WrongKind at)
rows_fault at rows (Some ps) = first_fault at ps (rows ps)
