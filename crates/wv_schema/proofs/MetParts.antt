-- What holds of the location and the expression that stand in a map whose rows are met.
use Rattle.std.proofs.Common.{◌≡◌, ℕ, ◌≤◌, ◌<◌, ◌^◌, ◌⊎◌, inl, inr, List, [], ◌∷◌, length, Bool, true, false, ◌&&◌, ◌||◌, nat_le, Option, Some, None, option_map, codes, refl, sym, ap, subst, ◌∙◌, arith, leb-true}
use Rattle.std.specs.Str.{bytes_eq, all_ascii_digits}
use Rattle.std.specs.Str.Parse.{digits_value}
use Rattle.std.proofs.lemmas.Slice.Eq.{bytes_eq-Decides}
use Rattle.std.proofs.lemmas.Str.Parse.{digits_value_short}
use Rattle.wv_yaml.specs.declared.tree.Pair.{Pair}
use Rattle.wv_schema.specs.declared.witness.WayKind.{WayKind}
use Rattle.wv_schema.specs.declared.witness.WayKind.TheVariants.{Assumption, Target, FunctionEnter, FunctionReturn, Branching}
use Rattle.wv_schema.specs.Paths.{map_of, key_place}
use Rattle.wv_schema.specs.Table.{Rule, AnyText, OneOf, Count, AWay, AText, formats, needs, may_have, location_fields, expression_fields, way_fields, constraint_rows}
use Rattle.wv_schema.specs.Judging.{meets, is_count, is_among, row_fault, first_fault}
use Rattle.wv_schema.specs.Values.{text_at, text_if, map_at, count_of, location_in, constraint_in, way_in, constraint_of}
use Rattle.wv_schema.specs.Rules.{IsCount, IsCountIf, IsLocation, IsFormat, IsWay, Constrained}
use Rattle.wv_schema.proofs.FieldRules.{own, MeetsIf}
use Rattle.wv_schema.proofs.MetRules.{first_none, rest_none, text_meets, text_if_meets, below_meets, below_meets_if}

pub equal_texts : (xs ys : List ℕ) → bytes_eq xs ys ≡ true → xs ≡ ys
equal_texts xs ys e = (bytes_eq-Decides xs ys).0 e

pub and_first : (a b : Bool) → (a && b) ≡ true → a ≡ true
and_first true b e = refl
and_first false b e = e

pub and_rest : (a b : Bool) → (a && b) ≡ true → b ≡ true
and_rest true b e = e
and_rest false b e = absurd (cc e)

count_meets : (text : List ℕ) → meets Count text ≡ true → IsCount (count_of text)
unfolding meets is_count count_of
count_meets text e =
    let rest = and_rest (nat_le 1 (length text)) _ e in
    let digits = and_rest (nat_le (length text) 7) _ rest in
    let few : length text ≤ 7 = leb-true _ _ (and_first (nat_le (length text) 7) _ rest) in
    let one : 1 ≤ digits_value 10 text = leb-true _ _ (and_rest (all_ascii_digits text) _ digits) in
    let short : digits_value 10 text < 10 ^ 7 = digits_value_short own text 7 (and_first (all_ascii_digits text) _ digits) few in
    (one, omega arith)

count_if_meets : (o : Option (List ℕ)) → MeetsIf Count o → IsCountIf (option_map count_of o)
count_if_meets None h = tt
count_if_meets (Some text) h = count_meets text h

pub location_meets : (at : List ℕ) (ps : List Pair) → first_fault at ps location_fields ≡ None → IsLocation (location_in ps)
unfolding first_fault location_fields location_in
location_meets at ps e =
    let e2 = rest_none (row_fault at ps (may_have (codes "file_name") (AText AnyText))) _ e in
    let e3 = rest_none (row_fault at ps (needs (codes "line") (AText Count))) _ e2 in (
      count_meets _ (text_meets at (codes "line") ps Count (first_none _ _ e2)),
      count_if_meets _ (text_if_meets at (codes "column") ps Count (first_none _ _ e3)),
    )

format_meets : (o : Option (List ℕ)) → MeetsIf (OneOf formats) o → IsFormat o
unfolding meets
format_meets None h = tt
format_meets (Some text) h = h

pub expression_meets : (at : List ℕ) (ps : List Pair) → first_fault at ps expression_fields ≡ None → IsFormat (text_if (codes "format") ps)
unfolding first_fault expression_fields
expression_meets at ps e = format_meets _ (text_if_meets at (codes "format") ps (OneOf formats) (first_none _ _ (rest_none (row_fault at ps (needs (codes "value") (AText AnyText))) _ e)))

way_meets : (at : List ℕ) (ps : List Pair) → first_fault at ps way_fields ≡ None → IsWay (way_in ps)
unfolding first_fault way_fields way_in meets
way_meets at ps e = (text_meets at (codes "value") ps AWay (first_none _ _ e), refl)

pub constrained_meets : (at : List ℕ) (ps : List Pair) (kind : WayKind) → first_fault at ps (constraint_rows kind) ≡ None → Constrained kind (constraint_of kind ps)
unfolding constraint_rows constraint_of constraint_in
constrained_meets at ps Assumption e = expression_meets _ _ (below_meets at (codes "constraint") ps expression_fields e)
constrained_meets at ps Target e = refl
constrained_meets at ps FunctionEnter e = refl
constrained_meets at ps FunctionReturn e = by (map_of (codes "constraint") ps) refl
  where
    by : (o : Option (List Pair)) → map_of (codes "constraint") ps ≡ o → Constrained FunctionReturn (option_map constraint_in o)
    by None m = tt
    by (Some qs) m = expression_meets _ _ (below_meets_if at (codes "constraint") ps qs expression_fields e m)
constrained_meets at ps Branching e = way_meets _ _ (below_meets at (codes "constraint") ps way_fields e)
