-- What a row says of a key whose value is known.
use Rattle.std.proofs.Common.{◌≡◌, ℕ, ◌<◌, ◌≤◌, ◌^◌, List, [], ◌∷◌, length, Bool, true, false, ◌&&◌, leb, Option, Some, None, option_map, option_and_then, unwrap_or, refl, sym, ap, ◌∙◌, arith}
use Rattle.std.specs.Str.{all_ascii_digits}
use Rattle.std.specs.Str.Parse.{digits_value}
use Rattle.std.specs.Fmt.{decimal}
use Rattle.std.proofs.lemmas.Fmt.{digits_decimal, digits_value-decimal, decimal_nonempty, length-decimal-le}
use Rattle.std.proofs.lemmas.Str.Parse.{IsNumeralModel, numerals_by_value, tells_all_ascii_digits}
use Rattle.std.proofs.lemmas.Bool.Decides.{nat_tests}
use Rattle.wv_yaml.specs.declared.tree.Tree.{Tree, items_hidden-the_row-Tree-0, items_hidden-the_row-Pair-1}
use Rattle.wv_yaml.specs.declared.tree.Tree.TheVariants as tree
use Rattle.wv_yaml.specs.declared.tree.Pair.{Pair}
use Rattle.wv_schema.specs.declared.fault.SchemaFault.TheVariants.{WrongKind}
use Rattle.wv_schema.specs.Paths.{pairs_in, items_in, value_of, map_of, key_place, found_there}
use Rattle.wv_schema.specs.Table.{Rule, AnyText, Count, Kind, AText, AList, AMap, Texts, TextMap, Row, needs, may_have}
use Rattle.wv_schema.specs.Judging.{meets, is_count, broken, when_not, kind_fault, found_fault, row_fault, first_fault, rows_fault, items_fault, no_text_fault, list_fault, map_fault, are_texts}
use Rattle.wv_schema.specs.Values.{text_found, text_at, text_if, list_at, items_found, all_pairs, count_of}
use Rattle.wv_schema.specs.Rules.{IsCount, IsCountIf}

pub pairs_of_map : (ps : List Pair) → pairs_in (tree.Map ps) ≡ Some ps
pairs_of_map ps = ap Some (items_hidden-the_row-Pair-1 ps)

pub items_of_list : (ts : List Tree) → items_in (tree.List ts) ≡ Some ts
items_of_list ts = ap Some (items_hidden-the_row-Tree-0 ts)

-- a text
pub text_row : (at k : List ℕ) (ps : List Pair) (rule : Rule) (v : List ℕ) → value_of k ps ≡ Some (tree.Text v) → meets rule v ≡ true → row_fault at ps (needs k (AText rule)) ≡ None
unfolding row_fault
text_row at k ps rule v e m =
    ap (λ o. found_fault true (AText rule) (key_place at k) (found_there o)) e ∙ ap (λ b. when_not b (broken rule (key_place at k))) m

pub text_row_if : (at k : List ℕ) (ps : List Pair) (rule : Rule) (v : List ℕ) → value_of k ps ≡ Some (tree.Text v) → meets rule v ≡ true → row_fault at ps (may_have k (AText rule)) ≡ None
unfolding row_fault
text_row_if at k ps rule v e m =
    ap (λ o. found_fault false (AText rule) (key_place at k) (found_there o)) e ∙ ap (λ b. when_not b (broken rule (key_place at k))) m

pub absent_row : (at k : List ℕ) (ps : List Pair) (kind : Kind) → value_of k ps ≡ None → row_fault at ps (may_have k kind) ≡ None
unfolding row_fault
absent_row at k ps kind e = ap (λ o. found_fault false kind (key_place at k) (found_there o)) e

pub text_is : (k : List ℕ) (ps : List Pair) (v : List ℕ) → value_of k ps ≡ Some (tree.Text v) → text_at k ps ≡ v
unfolding text_at
text_is k ps v e = ap (λ o. unwrap_or (text_found (found_there o)) []) e

pub text_if_is : (k : List ℕ) (ps : List Pair) (o : Option (List ℕ)) → value_of k ps ≡ option_map tree.Text o → text_if k ps ≡ o
unfolding text_if
text_if_is k ps None e = ap (λ o. text_found (found_there o)) e
text_if_is k ps (Some v) e = ap (λ o. text_found (found_there o)) e

pub none_is : (k : List ℕ) (ps : List Pair) → value_of k ps ≡ None → map_of k ps ≡ None
unfolding map_of
none_is k ps e = ap (option_and_then pairs_in) e

-- a text that may be absent
abbrev pub MeetsIf : Rule → Option (List ℕ) → Type 0
MeetsIf rule None = Unit {0}
MeetsIf rule (Some text) = meets rule text ≡ true

pub any_met : (text : List ℕ) → meets AnyText text ≡ true
unfolding meets
any_met text = refl

pub any_if : (o : Option (List ℕ)) → MeetsIf AnyText o
any_if None = tt
any_if (Some text) = any_met text

pub texts_row_if : (at k : List ℕ) (ps : List Pair) (rule : Rule) (o : Option (List ℕ)) → value_of k ps ≡ option_map tree.Text o → MeetsIf rule o → row_fault at ps (may_have k (AText rule)) ≡ None
texts_row_if at k ps rule None e m = absent_row at k ps (AText rule) e
texts_row_if at k ps rule (Some text) e m = text_row_if at k ps rule text e m

-- a map and a list
pub map_row : (at k : List ℕ) (ps qs : List Pair) → value_of k ps ≡ Some (tree.Map qs) → row_fault at ps (needs k AMap) ≡ None
unfolding row_fault
map_row at k ps qs e = ap (λ o. found_fault true AMap (key_place at k) (found_there o)) e

pub map_row_if : (at k : List ℕ) (ps qs : List Pair) → value_of k ps ≡ Some (tree.Map qs) → row_fault at ps (may_have k AMap) ≡ None
unfolding row_fault
map_row_if at k ps qs e = ap (λ o. found_fault false AMap (key_place at k) (found_there o)) e

pub map_is : (k : List ℕ) (ps qs : List Pair) → value_of k ps ≡ Some (tree.Map qs) → map_of k ps ≡ Some qs
unfolding map_of
map_is k ps qs e = ap (option_and_then pairs_in) e ∙ pairs_of_map qs

pub list_row : (at k : List ℕ) (ps : List Pair) (ts : List Tree) → value_of k ps ≡ Some (tree.List ts) → row_fault at ps (needs k AList) ≡ None
unfolding row_fault
list_row at k ps ts e = ap (λ o. found_fault true AList (key_place at k) (found_there o)) e

pub list_is : (k : List ℕ) (ps : List Pair) (ts : List Tree) → value_of k ps ≡ Some (tree.List ts) → list_at k ps ≡ ts
unfolding list_at
list_is k ps ts e = ap (λ o. items_found (found_there o)) e ∙ ap (λ o. unwrap_or o []) (items_of_list ts)

-- a line or a column
pub own : IsNumeralModel (λ ds. all_ascii_digits ds ≡ true) (digits_value 10)
own = numerals_by_value _ tells_all_ascii_digits

pub count_meets : (n : ℕ) → IsCount n → meets Count (decimal n) ≡ true
unfolding meets is_count
count_meets n h =
    let digits = digits_decimal own n (omega (arith, h.0, h.1)) in
    let value = digits_value-decimal own n (omega (arith, h.0, h.1)) in
    let some = decimal_nonempty n (omega (arith, h.0, h.1)) in
    let few = length-decimal-le 7 n (omega arith) (omega (arith, h.1)) (omega (arith, h.1)) in
    grind (arith, nat_tests)

pub count_back : (n : ℕ) → IsCount n → count_of (decimal n) ≡ n
unfolding count_of
count_back n h = digits_value-decimal own n (omega (arith, h.0, h.1))

pub counts_row_if : (at k : List ℕ) (ps : List Pair) (o : Option ℕ) → value_of k ps ≡ option_map (λ n. tree.Text (decimal n)) o → IsCountIf o → row_fault at ps (may_have k (AText Count)) ≡ None
counts_row_if at k ps None e h = absent_row at k ps (AText Count) e
counts_row_if at k ps (Some n) e h = text_row_if at k ps Count (decimal n) e (count_meets n h)

pub count_if_is : (k : List ℕ) (ps : List Pair) (o : Option ℕ) → value_of k ps ≡ option_map (λ n. tree.Text (decimal n)) o → IsCountIf o → option_map count_of (text_if k ps) ≡ o
count_if_is k ps None e h = ap (option_map count_of) (text_if_is k ps None e)
count_if_is k ps (Some n) e h = ap (option_map count_of) (text_if_is k ps (Some (decimal n)) e) ∙ ap Some (count_back n h)

pub all_pairs_of_map : (ps : List Pair) → all_pairs (tree.Map ps) ≡ ps
unfolding all_pairs
all_pairs_of_map ps = ap (λ o. unwrap_or o []) (pairs_of_map ps)

-- the rows of a map that an item is
pub rows_of_map : (at : List ℕ) (ps : List Pair) (rows : List Pair → List Row) → first_fault at ps (rows ps) ≡ None → rows_fault at rows (pairs_in (tree.Map ps)) ≡ None
rows_of_map at ps rows h = ap (rows_fault at rows) (pairs_of_map ps) ∙ h

-- lists and maps of texts
pub texts_row : (at k : List ℕ) (ps : List Pair) (ts : List Tree) → value_of k ps ≡ Some (tree.List ts) → items_fault no_text_fault (key_place at k) 0 ts ≡ None → row_fault at ps (needs k Texts) ≡ None
unfolding row_fault
texts_row at k ps ts e h = ap (λ o. found_fault true Texts (key_place at k) (found_there o)) e ∙ ap (list_fault (key_place at k)) (items_of_list ts) ∙ h

pub text_map_row : (at k : List ℕ) (ps qs : List Pair) → value_of k ps ≡ Some (tree.Map qs) → are_texts qs ≡ true → row_fault at ps (needs k TextMap) ≡ None
unfolding row_fault
text_map_row at k ps qs e h =
    ap (λ o. found_fault true TextMap (key_place at k) (found_there o)) e ∙ ap (map_fault (key_place at k)) (pairs_of_map qs) ∙ ap (λ b. when_not b (WrongKind (key_place at k))) h
