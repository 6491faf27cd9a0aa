-- A waypoint of a segment, as it is written: the rules are met, and the same is read.
use Rattle.std.proofs.Common.{◌≡◌, ℕ, List, [], ◌∷◌, Bool, true, false, Option, Some, None, option_map, codes, refl, ap, ◌∙◌}
use Rattle.std.specs.Str.{bytes_eq}
use Rattle.wv_yaml.specs.declared.tree.Tree.{Tree}
use Rattle.wv_yaml.specs.declared.tree.Tree.TheVariants as tree
use Rattle.wv_yaml.specs.declared.tree.Pair.{Pair}
use Rattle.wv_schema.specs.declared.witness.WayKind.{WayKind}
use Rattle.wv_schema.specs.declared.witness.WayKind.TheVariants.{Assumption, Target, FunctionEnter, FunctionReturn, Branching}
use Rattle.wv_schema.specs.declared.witness.Location.{Location}
use Rattle.wv_schema.specs.declared.witness.Constraint.{Constraint}
use Rattle.wv_schema.specs.declared.witness.Waypoint.{Waypoint}
use Rattle.wv_schema.specs.Paths.{value_of, key_place}
use Rattle.wv_schema.specs.Table.{OneOf, waypoint_types, actions, in_map, location_fields, waypoint_fields}
use Rattle.wv_schema.specs.Judging.{meets, first_fault}
use Rattle.wv_schema.specs.Values.{text_at, map_at, way_kind, kind_at, location_in, constraint_of, waypoint_in, waypoint_pairs, step_in}
use Rattle.wv_schema.specs.Shapes.{is_follow, is_target_kind, is_target}
use Rattle.wv_schema.specs.Schema.{step_rows, step_fault}
use Rattle.wv_schema.specs.Rules.{IsWaypoint, IsTarget}
use Rattle.wv_schema.specs.Canonical.{pair, text_pair, location_pairs, way_word, constraints_if, step_tree}
use Rattle.wv_schema.proofs.Chains.{both, inside, map_at_there}
use Rattle.wv_schema.proofs.FieldChains.{waypoint_chain}
use Rattle.wv_schema.proofs.FieldRules.{text_row, text_is, map_row, map_is, all_pairs_of_map, rows_of_map}
use Rattle.wv_schema.proofs.WrittenParts.{location_met, location_back, constraint_tree, constrained_met, constrained_back}

abbrev wrote : List ℕ → Waypoint → List Pair
wrote action v =
    text_pair (codes "type") (way_word v.kind)
    ∷ text_pair (codes "action") action
    ∷ pair (codes "location") (tree.Map (location_pairs v.location))
    ∷ constraints_if v.constraint

abbrev one : List ℕ → Waypoint → List Pair
one action v = pair (codes "waypoint") (tree.Map (wrote action v)) ∷ []

type_met : (kind : WayKind) → meets (OneOf waypoint_types) (way_word kind) ≡ true
unfolding meets
type_met Assumption = refl
type_met Target = refl
type_met FunctionEnter = refl
type_met FunctionReturn = refl
type_met Branching = refl

kind_back : (kind : WayKind) → way_kind (way_word kind) ≡ kind
unfolding way_kind
kind_back Assumption = refl
kind_back Target = refl
kind_back FunctionEnter = refl
kind_back FunctionReturn = refl
kind_back Branching = refl

kind_there : (action : List ℕ) (v : Waypoint) → kind_at (wrote action v) ≡ v.kind
unfolding kind_at
kind_there action v = ap way_kind (text_is (codes "type") (wrote action v) (way_word v.kind) refl) ∙ kind_back v.kind

location_there : (action : List ℕ) (v : Waypoint) → map_at (codes "location") (wrote action v) ≡ location_pairs v.location
location_there action v = map_at_there (codes "location") (wrote action v) (location_pairs v.location) (map_is _ (wrote action v) _ refl)

constraint_there : (action : List ℕ) (v : Waypoint) (o : Option Constraint) →
    value_of (codes "constraint") (text_pair (codes "type") (way_word v.kind) ∷ text_pair (codes "action") action ∷ pair (codes "location") (tree.Map (location_pairs v.location)) ∷ constraints_if o) ≡ option_map constraint_tree o
constraint_there action v None = refl
constraint_there action v (Some c) = refl

waypoint_met : (at action : List ℕ) (v : Waypoint) → meets (OneOf actions) action ≡ true → IsWaypoint v → first_fault at (wrote action v) (waypoint_fields v.kind) ≡ None
waypoint_met at action v a h =
    waypoint_chain at (wrote action v) v.kind
    ∙ both _ _ (text_row at (codes "type") (wrote action v) (OneOf waypoint_types) (way_word v.kind) refl (type_met v.kind))
    (both _ _ (text_row at (codes "action") (wrote action v) (OneOf actions) action refl a)
    (both _ _
    (inside at (codes "location") (wrote action v) (location_pairs v.location) location_fields (map_row at _ (wrote action v) _ refl) (map_is _ (wrote action v) _ refl) ∙ location_met _ v.location h.0)
    (constrained_met at (wrote action v) v.kind v.constraint (constraint_there action v v.constraint) h.1)))

abbrev pointed : WayKind → Location → Option Constraint → Waypoint
pointed k l c = record { kind = k; location = l; constraint = c }

waypoint_back : (action : List ℕ) (v : Waypoint) → IsWaypoint v → waypoint_in (wrote action v) ≡ v
unfolding waypoint_in
waypoint_back action v h =
    ap (λ k. pointed k (location_in (map_at (codes "location") (wrote action v))) (constraint_of k (wrote action v))) (kind_there action v)
    ∙ ap (λ l. pointed v.kind l (constraint_of v.kind (wrote action v))) (ap location_in (location_there action v) ∙ location_back v.location h.0)
    ∙ ap (λ c. pointed v.kind v.location c) (constrained_back (wrote action v) v.kind v.constraint (constraint_there action v v.constraint) h.1)

-- the same as an item of a segment
inner : (action : List ℕ) (v : Waypoint) → map_at (codes "waypoint") (one action v) ≡ wrote action v
inner action v = map_at_there (codes "waypoint") (one action v) (wrote action v) (map_is _ (one action v) _ refl)

pairs_there : (action : List ℕ) (v : Waypoint) → waypoint_pairs (step_tree action v) ≡ wrote action v
unfolding waypoint_pairs step_tree
pairs_there action v = ap (map_at (codes "waypoint")) (all_pairs_of_map (one action v)) ∙ inner action v

pub step_met : (at action : List ℕ) (v : Waypoint) → meets (OneOf actions) action ≡ true → IsWaypoint v → step_fault at (step_tree action v) ≡ None
unfolding step_fault step_rows step_tree
step_met at action v a h =
    rows_of_map at (one action v) step_rows
    (ap (λ k. first_fault at (one action v) (in_map (codes "waypoint") (waypoint_fields k))) (ap kind_at (inner action v) ∙ kind_there action v)
    ∙ inside at (codes "waypoint") (one action v) (wrote action v) (waypoint_fields v.kind) (map_row at _ (one action v) _ refl) (map_is _ (one action v) _ refl)
    ∙ waypoint_met _ action v a h)

pub step_back : (action : List ℕ) (v : Waypoint) → IsWaypoint v → step_in (step_tree action v) ≡ v
unfolding step_in
step_back action v h = ap waypoint_in (pairs_there action v) ∙ waypoint_back action v h

pub follow_there : (action : List ℕ) (v : Waypoint) → is_follow (step_tree action v) ≡ bytes_eq action (codes "follow")
unfolding is_follow
follow_there action v =
    ap (λ ps. bytes_eq (text_at (codes "action") ps) (codes "follow")) (pairs_there action v)
    ∙ ap (λ text. bytes_eq text (codes "follow")) (text_is (codes "action") (wrote action v) action refl)

pub target_there : (action : List ℕ) (v : Waypoint) → is_target (step_tree action v) ≡ is_target_kind v.kind
unfolding is_target
target_there action v = ap (λ ps. is_target_kind (kind_at ps)) (pairs_there action v) ∙ ap is_target_kind (kind_there action v)

pub is_no_target : (kind : WayKind) → (kind ≡ Target → ⊥) → is_target_kind kind ≡ false
is_no_target Assumption h = refl
is_no_target Target h = absurd (h refl)
is_no_target FunctionEnter h = refl
is_no_target FunctionReturn h = refl
is_no_target Branching h = refl
