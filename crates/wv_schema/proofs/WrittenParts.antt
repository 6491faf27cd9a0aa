-- The location and the expression of a witness, as they are written: the rules are met, and the same is read.
use Rattle.std.proofs.Common.{◌≡◌, ℕ, List, [], ◌∷◌, ◌++◌, ◌⊎◌, inl, inr, true, Option, Some, None, option_map, unwrap_or, codes, decimal, refl, sym, ap, ◌∙◌}
use Rattle.wv_yaml.specs.declared.tree.Tree.{Tree}
use Rattle.wv_yaml.specs.declared.tree.Tree.TheVariants as tree
use Rattle.wv_yaml.specs.declared.tree.Pair.{Pair}
use Rattle.wv_schema.specs.declared.witness.WayKind.{WayKind}
use Rattle.wv_schema.specs.declared.witness.WayKind.TheVariants.{Assumption, Target, FunctionEnter, FunctionReturn, Branching}
use Rattle.wv_schema.specs.declared.witness.Location.{Location}
use Rattle.wv_schema.specs.declared.witness.Constraint.{Constraint}
use Rattle.wv_schema.specs.Paths.{value_of, map_of, key_place}
use Rattle.wv_schema.specs.Table.{Rule, AnyText, OneOf, Count, AWay, AText, AMap, formats, in_map, in_map_if, location_fields, expression_fields, way_fields, constraint_rows}
use Rattle.wv_schema.specs.Judging.{meets, is_among, first_fault}
use Rattle.wv_schema.specs.Values.{text_at, text_if, map_at, count_of, location_in, constraint_in, way_in, constraint_of}
use Rattle.wv_schema.specs.Rules.{IsCount, IsCountIf, IsLocation, IsFormat, IsWay, Constrained}
use Rattle.wv_schema.specs.Canonical.{text_pair, texts_if, counts_if, location_pairs, expression_pairs, constraint_pairs}
use Rattle.wv_schema.proofs.Chains.{both, first_end, inside, inside_if, inside_none, map_at_there}
use Rattle.wv_schema.proofs.FieldRules.{MeetsIf, any_if, text_row, texts_row_if, counts_row_if, absent_row, text_is, text_if_is, count_if_is, map_row, map_row_if, map_is, none_is, any_met, count_meets, count_back}

abbrev written : Option (List ℕ) → ℕ → Option ℕ → Option (List ℕ) → List Pair
written f l c g = texts_if (codes "file_name") f ++ (text_pair (codes "line") (decimal l) ∷ (counts_if (codes "column") c ++ texts_if (codes "function") g))

file_name_by : (f : Option (List ℕ)) (l : ℕ) (c : Option ℕ) (g : Option (List ℕ)) → value_of (codes "file_name") (written f l c g) ≡ option_map tree.Text f
file_name_by None l None None = refl
file_name_by None l None (Some g) = refl
file_name_by None l (Some c) None = refl
file_name_by None l (Some c) (Some g) = refl
file_name_by (Some f) l c g = refl

line_by : (f : Option (List ℕ)) (l : ℕ) (c : Option ℕ) (g : Option (List ℕ)) → value_of (codes "line") (written f l c g) ≡ Some (tree.Text (decimal l))
line_by None l c g = refl
line_by (Some f) l c g = refl

column_by : (f : Option (List ℕ)) (l : ℕ) (c : Option ℕ) (g : Option (List ℕ)) → value_of (codes "column") (written f l c g) ≡ option_map (λ n. tree.Text (decimal n)) c
column_by None l None None = refl
column_by None l None (Some g) = refl
column_by None l (Some c) g = refl
column_by (Some f) l None None = refl
column_by (Some f) l None (Some g) = refl
column_by (Some f) l (Some c) g = refl

function_by : (f : Option (List ℕ)) (l : ℕ) (c : Option ℕ) (g : Option (List ℕ)) → value_of (codes "function") (written f l c g) ≡ option_map tree.Text g
function_by None l None None = refl
function_by None l None (Some g) = refl
function_by None l (Some c) None = refl
function_by None l (Some c) (Some g) = refl
function_by (Some f) l None None = refl
function_by (Some f) l None (Some g) = refl
function_by (Some f) l (Some c) None = refl
function_by (Some f) l (Some c) (Some g) = refl

pub location_met : (at : List ℕ) (v : Location) → IsLocation v → first_fault at (location_pairs v) location_fields ≡ None
unfolding first_fault location_fields location_pairs
location_met at v h =
    both _ _ (texts_row_if at (codes "file_name") _ AnyText v.file_name (file_name_by v.file_name v.line v.column v.function) (any_if v.file_name))
    (both _ _ (text_row at (codes "line") _ Count (decimal v.line) (line_by v.file_name v.line v.column v.function) (count_meets v.line h.0))
    (both _ _ (counts_row_if at (codes "column") _ v.column (column_by v.file_name v.line v.column v.function) h.1)
    (both _ _ (texts_row_if at (codes "function") _ AnyText v.function (function_by v.file_name v.line v.column v.function) (any_if v.function)) refl)))

abbrev located : Option (List ℕ) → ℕ → Option ℕ → Option (List ℕ) → Location
located f l c g = record { file_name = f; line = l; column = c; function = g }

same_location : (a b : Option (List ℕ)) (l m : ℕ) (c d : Option ℕ) (f g : Option (List ℕ)) → a ≡ b → l ≡ m → c ≡ d → f ≡ g → located a l c f ≡ located b m d g
same_location a b l m c d f g p q r s = ap (λ x. located x l c f) p ∙ ap (λ x. located b x c f) q ∙ ap (λ x. located b m x f) r ∙ ap (λ x. located b m d x) s

pub location_back : (v : Location) → IsLocation v → location_in (location_pairs v) ≡ v
unfolding location_in location_pairs
location_back v h =
    same_location _ _ _ _ _ _ _ _
    (text_if_is (codes "file_name") _ v.file_name (file_name_by v.file_name v.line v.column v.function))
    (ap count_of (text_is (codes "line") _ (decimal v.line) (line_by v.file_name v.line v.column v.function)) ∙ count_back v.line h.0)
    (count_if_is (codes "column") _ v.column (column_by v.file_name v.line v.column v.function) h.1)
    (text_if_is (codes "function") _ v.function (function_by v.file_name v.line v.column v.function))

-- an expression among other keys
pub expression_met : (at : List ℕ) (ps : List Pair) (value : List ℕ) (format : Option (List ℕ)) → value_of (codes "value") ps ≡ Some (tree.Text value) → value_of (codes "format") ps ≡ option_map tree.Text format → IsFormat format →
    first_fault at ps expression_fields ≡ None
unfolding first_fault expression_fields meets
expression_met at ps value format e d h =
    both _ _ (text_row at (codes "value") ps AnyText value e (any_met value)) (both _ _ (texts_row_if at (codes "format") ps (OneOf formats) format d (format_if format h)) refl)
  where
    format_if : (o : Option (List ℕ)) → IsFormat o → MeetsIf (OneOf formats) o
    format_if None h = tt
    format_if (Some text) h = h

pub value_by : (value : List ℕ) (format : Option (List ℕ)) → value_of (codes "value") (expression_pairs value format) ≡ Some (tree.Text value)
unfolding expression_pairs
value_by value format = refl

pub format_by : (value : List ℕ) (format : Option (List ℕ)) → value_of (codes "format") (expression_pairs value format) ≡ option_map tree.Text format
unfolding expression_pairs
format_by value None = refl
format_by value (Some format) = refl

abbrev expressed : List ℕ → Option (List ℕ) → Constraint
expressed value format = record { value = value; format = format }

pub constraint_back : (v : Constraint) → constraint_in (constraint_pairs v) ≡ v
unfolding constraint_in constraint_pairs
constraint_back v =
    ap (λ x. expressed x (text_if (codes "format") (expression_pairs v.value v.format))) (text_is (codes "value") _ v.value (value_by v.value v.format))
    ∙ ap (λ x. expressed v.value x) (text_if_is (codes "format") _ v.format (format_by v.value v.format))

constraint_met : (at : List ℕ) (v : Constraint) → IsFormat v.format → first_fault at (constraint_pairs v) expression_fields ≡ None
unfolding constraint_pairs
constraint_met at v h = expression_met at _ v.value v.format (value_by v.value v.format) (format_by v.value v.format) h

way_met : (at : List ℕ) (v : Constraint) → IsWay v → first_fault at (constraint_pairs v) way_fields ≡ None
unfolding first_fault way_fields constraint_pairs meets
way_met at v h = both _ _ (text_row at (codes "value") _ AWay v.value (value_by v.value v.format) h.0) refl

way_back : (v : Constraint) → IsWay v → way_in (constraint_pairs v) ≡ v
unfolding way_in constraint_pairs
way_back v h = ap (λ x. expressed x None) (text_is (codes "value") _ v.value (value_by v.value v.format)) ∙ ap (λ x. expressed v.value x) (sym h.1)

-- the constraint of a waypoint
abbrev pub constraint_tree : Constraint → Tree
constraint_tree v = tree.Map (constraint_pairs v)

pub constrained_met : (at : List ℕ) (ps : List Pair) (kind : WayKind) (o : Option Constraint) → value_of (codes "constraint") ps ≡ option_map constraint_tree o → Constrained kind o → first_fault at ps (constraint_rows kind) ≡ None
unfolding constraint_rows
constrained_met at ps Assumption None e h = absurd h
constrained_met at ps Assumption (Some v) e h =
    inside at (codes "constraint") ps (constraint_pairs v) expression_fields (map_row at _ ps _ e) (map_is _ ps _ e) ∙ constraint_met _ v h
constrained_met at ps Target o e h = first_end at ps
constrained_met at ps FunctionEnter o e h = first_end at ps
constrained_met at ps FunctionReturn None e h = inside_none at (codes "constraint") ps expression_fields (absent_row at _ ps AMap e) (none_is _ ps e)
constrained_met at ps FunctionReturn (Some v) e h =
    inside_if at (codes "constraint") ps (constraint_pairs v) expression_fields (map_row_if at _ ps _ e) (map_is _ ps _ e) ∙ constraint_met _ v h
constrained_met at ps Branching None e h = absurd h
constrained_met at ps Branching (Some v) e h =
    inside at (codes "constraint") ps (constraint_pairs v) way_fields (map_row at _ ps _ e) (map_is _ ps _ e) ∙ way_met _ v h

pub constrained_back : (ps : List Pair) (kind : WayKind) (o : Option Constraint) → value_of (codes "constraint") ps ≡ option_map constraint_tree o → Constrained kind o → constraint_of kind ps ≡ o
unfolding constraint_of
constrained_back ps Assumption None e h = absurd h
constrained_back ps Assumption (Some v) e h = ap (λ qs. Some (constraint_in qs)) (map_at_there _ ps _ (map_is _ ps _ e)) ∙ ap Some (constraint_back v)
constrained_back ps Target o e h = sym h
constrained_back ps FunctionEnter o e h = sym h
constrained_back ps FunctionReturn None e h = ap (option_map constraint_in) (none_is (codes "constraint") ps e)
constrained_back ps FunctionReturn (Some v) e h = ap (option_map constraint_in) (map_is (codes "constraint") ps _ e) ∙ ap Some (constraint_back v)
constrained_back ps Branching None e h = absurd h
constrained_back ps Branching (Some v) e h = ap (λ qs. Some (way_in qs)) (map_at_there _ ps _ (map_is _ ps _ e)) ∙ ap Some (way_back v h)
