-- What holds of the fields of a map whose rows are met.
use Rattle.std.proofs.Common.{◌≡◌, ℕ, List, [], ◌∷◌, Bool, true, false, Option, Some, None, option_and_then, unwrap_or, refl, sym, ap, subst, ◌∙◌}
use Rattle.std.specs.Option.{option_or}
use Rattle.wv_yaml.specs.declared.tree.Tree.{Tree, Text, List', Map'}
use Rattle.wv_yaml.specs.declared.tree.Pair.{Pair}
use Rattle.wv_schema.specs.declared.fault.SchemaFault.{SchemaFault}
use Rattle.wv_schema.specs.Paths.{pairs_in, value_of, map_of, key_place, found_there}
use Rattle.wv_schema.specs.Table.{Rule, AText, AMap, Row, needs, may_have, within, in_map, in_map_if}
use Rattle.wv_schema.specs.Judging.{meets, when_not, found_fault, row_fault, first_fault, rows_fault}
use Rattle.wv_schema.specs.Values.{text_found, text_at, text_if, map_at, all_pairs}
use Rattle.wv_schema.proofs.Chains.{first_more, inside, inside_if}
use Rattle.wv_schema.proofs.FieldRules.{MeetsIf}

pub first_none : (d r : Option SchemaFault) → option_or d r ≡ None → d ≡ None
first_none None r e = refl
first_none (Some f) r e = absurd (cc e)

pub rest_none : (d r : Option SchemaFault) → option_or d r ≡ None → r ≡ None
rest_none None r e = e
rest_none (Some f) r e = absurd (cc e)

pub when_met : (b : Bool) (fault : SchemaFault) → when_not b fault ≡ None → b ≡ true
when_met true fault e = refl
when_met false fault e = absurd (cc e)

text_by : (rule : Rule) (path : List ℕ) (o : Option Tree) → found_fault true (AText rule) path (found_there o) ≡ None → meets rule (unwrap_or (text_found (found_there o)) []) ≡ true
text_by rule path None e = absurd (cc e)
text_by rule path (Some (Text v)) e = when_met (meets rule v) _ e
text_by rule path (Some (List' s row)) e = absurd (cc e)
text_by rule path (Some (Map' s row)) e = absurd (cc e)

pub text_meets : (at k : List ℕ) (ps : List Pair) (rule : Rule) → row_fault at ps (needs k (AText rule)) ≡ None → meets rule (text_at k ps) ≡ true
unfolding row_fault text_at
text_meets at k ps rule e = text_by rule (key_place at k) (value_of k ps) e

text_if_by : (rule : Rule) (path : List ℕ) (o : Option Tree) → found_fault false (AText rule) path (found_there o) ≡ None → MeetsIf rule (text_found (found_there o))
text_if_by rule path None e = tt
text_if_by rule path (Some (Text v)) e = when_met (meets rule v) _ e
text_if_by rule path (Some (List' s row)) e = absurd (cc e)
text_if_by rule path (Some (Map' s row)) e = absurd (cc e)

pub text_if_meets : (at k : List ℕ) (ps : List Pair) (rule : Rule) → row_fault at ps (may_have k (AText rule)) ≡ None → MeetsIf rule (text_if k ps)
unfolding row_fault text_if
text_if_meets at k ps rule e = text_if_by rule (key_place at k) (value_of k ps) e

map_by : (path : List ℕ) (o : Option Tree) → found_fault true AMap path (found_there o) ≡ None → option_and_then pairs_in o ≡ Some (unwrap_or (option_and_then pairs_in o) [])
map_by path None e = absurd (cc e)
map_by path (Some (Text v)) e = absurd (cc e)
map_by path (Some (List' s row)) e = absurd (cc e)
map_by path (Some (Map' s row)) e = refl

map_there : (at k : List ℕ) (ps : List Pair) → row_fault at ps (needs k AMap) ≡ None → map_of k ps ≡ Some (map_at k ps)
unfolding row_fault map_of map_at
map_there at k ps e = map_by (key_place at k) (value_of k ps) e

-- the rows below a key are met by the map that stands there
pub below_meets : (at k : List ℕ) (ps : List Pair) (rows : List Row) → first_fault at ps (in_map k rows) ≡ None → first_fault (key_place at k) (map_at k ps) rows ≡ None
below_meets at k ps rows e =
    let h : row_fault at ps (needs k AMap) ≡ None = first_none _ _ (sym (first_more at ps (needs k AMap) (within k rows)) ∙ e) in
    sym (inside at k ps (map_at k ps) rows h (map_there at k ps h)) ∙ e

pub below_meets_if : (at k : List ℕ) (ps qs : List Pair) (rows : List Row) → first_fault at ps (in_map_if k rows) ≡ None → map_of k ps ≡ Some qs → first_fault (key_place at k) qs rows ≡ None
below_meets_if at k ps qs rows e m =
    let h : row_fault at ps (may_have k AMap) ≡ None = first_none _ _ (sym (first_more at ps (may_have k AMap) (within k rows)) ∙ e) in
    sym (inside_if at k ps qs rows h m) ∙ e

item_by : (at : List ℕ) (rows : List Pair → List Row) (o : Option (List Pair)) → rows_fault at rows o ≡ None → first_fault at (unwrap_or o []) (rows (unwrap_or o [])) ≡ None
item_by at rows None e = absurd (cc e)
item_by at rows (Some ps) e = e

-- and those of an item by the map that it is
pub item_meets : (at : List ℕ) (t : Tree) (rows : List Pair → List Row) → rows_fault at rows (pairs_in t) ≡ None → first_fault at (all_pairs t) (rows (all_pairs t)) ≡ None
unfolding all_pairs
item_meets at t rows e = item_by at rows (pairs_in t) e
