-- The segments of a violation sequence, as they are written: the rules are met, and the same is read.
use Rattle.std.proofs.Common.{◌≡◌, ℕ, ◌+◌, ◌-◌, List, [], ◌∷◌, ◌++◌, length, take, map, Bool, true, false, not, ◌&&◌, ◌||◌, Option, Some, None, option_map, codes, cond, refl, ap, ◌∙◌}
use Rattle.std.specs.Option.{option_or}
use Rattle.std.specs.List.{list_any}
use Rattle.wv_yaml.specs.declared.tree.Tree.{Tree}
use Rattle.wv_yaml.specs.declared.tree.Tree.TheVariants as tree
use Rattle.wv_yaml.specs.declared.tree.Pair.{Pair}
use Rattle.wv_schema.specs.declared.witness.Waypoint.{Waypoint}
use Rattle.wv_schema.specs.declared.witness.Segment.{Segment}
use Rattle.wv_schema.specs.Paths.{key_place, item_place}
use Rattle.wv_schema.specs.Table.{OneOf, actions, segment_fields}
use Rattle.wv_schema.specs.Judging.{meets, first_fault, items_fault}
use Rattle.wv_schema.specs.Values.{list_at, steps_in, step_in, front, last, segment_of, segment_in}
use Rattle.wv_schema.specs.Shapes.{is_end, is_follow, is_target, is_target_kind, is_misshapen, misshapen_from, shape_fault}
use Rattle.wv_schema.specs.Schema.{step_fault, segment_fault}
use Rattle.wv_schema.specs.Rules.{IsWaypoint, IsTarget, AreAvoids, AreSegments}
use Rattle.wv_schema.specs.Canonical.{pair, step_tree, segment_tree}
use Rattle.wv_schema.proofs.Chains.{both}
use Rattle.wv_schema.proofs.FieldRules.{list_row, list_is, all_pairs_of_map, rows_of_map}
use Rattle.wv_schema.proofs.Segments.{front_of, last_of}
use Rattle.wv_schema.proofs.WrittenWaypoints.{step_met, step_back, follow_there, target_there, is_no_target}

avoid_met : meets (OneOf actions) (codes "avoid") ≡ true
unfolding meets
avoid_met = refl

follow_met : meets (OneOf actions) (codes "follow") ≡ true
unfolding meets
follow_met = refl

abbrev avoided : List Waypoint → List Tree
avoided vs = map (step_tree (codes "avoid")) vs

abbrev steps : Segment → List Tree
steps v = avoided v.avoids ++ (step_tree (codes "follow") v.follow ∷ [])

abbrev one : Segment → List Pair
one v = pair (codes "segment") (tree.List (steps v)) ∷ []

steps_there : (v : Segment) → steps_in (segment_tree v) ≡ steps v
unfolding steps_in segment_tree
steps_there v = ap (list_at (codes "segment")) (all_pairs_of_map (one v)) ∙ list_is (codes "segment") (one v) (steps v) refl

steps_met : (at : List ℕ) (n : ℕ) (vs : List Waypoint) (w : Waypoint) → AreAvoids vs → IsWaypoint w → items_fault step_fault at n (avoided vs ++ (step_tree (codes "follow") w ∷ [])) ≡ None
steps_met at n [] w h k = both _ _ (step_met (item_place at n) (codes "follow") w follow_met k) refl
steps_met at n (v ∷ vs) w h k = both _ _ (step_met (item_place at n) (codes "avoid") v avoid_met h.0.0) (steps_met at (n + 1) vs w h.1 k)

list_met : (at : List ℕ) (v : Segment) → first_fault at (one v) segment_fields ≡ None
unfolding first_fault segment_fields
list_met at v = both _ _ (list_row at (codes "segment") (one v) (steps v) refl) refl

segment_met : (at : List ℕ) (v : Segment) → AreAvoids v.avoids → IsWaypoint v.follow → segment_fault at (segment_tree v) ≡ None
unfolding segment_fault segment_tree
segment_met at v h k =
    both _ _ (rows_of_map at (one v) (λ ps. segment_fields) (list_met at v))
    (ap (items_fault step_fault (key_place at (codes "segment")) 0) (steps_there v) ∙ steps_met _ 0 v.avoids v.follow h k)

avoids_back : (vs : List Waypoint) → AreAvoids vs → map step_in (avoided vs) ≡ vs
avoids_back [] h = refl
avoids_back (v ∷ vs) h = ap (λ x. x ∷ map step_in (avoided vs)) (step_back (codes "avoid") v h.0.0) ∙ ap (λ xs. v ∷ xs) (avoids_back vs h.1)

abbrev sectioned : List Waypoint → Waypoint → Segment
sectioned vs w = record { avoids = vs; follow = w }

segment_back : (v : Segment) → AreAvoids v.avoids → IsWaypoint v.follow → segment_in (segment_tree v) ≡ v
unfolding segment_in segment_of
segment_back v h k =
    ap segment_of (steps_there v)
    ∙ ap (λ ts. sectioned (map step_in ts) (step_in (last (steps v)))) (front_of (avoided v.avoids) (step_tree (codes "follow") v.follow))
    ∙ ap (λ t. sectioned (map step_in (avoided v.avoids)) (step_in t)) (last_of (avoided v.avoids) (step_tree (codes "follow") v.follow))
    ∙ ap (λ vs. sectioned vs (step_in (step_tree (codes "follow") v.follow))) (avoids_back v.avoids h)
    ∙ ap (sectioned v.avoids) (step_back (codes "follow") v.follow k)

-- the form of the segment
no_follow : (vs : List Waypoint) → list_any is_follow (avoided vs) ≡ false
no_follow [] = refl
no_follow (v ∷ vs) = ap (λ b. b || list_any is_follow (avoided vs)) (follow_there (codes "avoid") v) ∙ no_follow vs

no_target : (vs : List Waypoint) → AreAvoids vs → list_any is_target (avoided vs) ≡ false
no_target [] h = refl
no_target (v ∷ vs) h = ap (λ b. b || list_any is_target (avoided vs)) (target_there (codes "avoid") v ∙ is_no_target v.kind h.0.1) ∙ no_target vs h.1

abbrev shape_by : Bool → Bool → Bool → Bool → Bool → Bool → Bool
shape_by final end follows early stray hits = end || (not follows || (early || ((stray || (hits && not (final && follows))) || (final && not hits))))

ended : (vs : List Tree) (t : Tree) → is_end (vs ++ t ∷ []) ≡ false
ended [] t = refl
ended (v ∷ vs) t = refl

shape_met : (final : Bool) → shape_by final false true false false final ≡ false
shape_met true = refl
shape_met false = refl

shapely : (final : Bool) (v : Segment) → AreAvoids v.avoids → is_target_kind v.follow.kind ≡ final → is_misshapen final (steps v) ≡ false
unfolding is_misshapen
shapely final v h k =
    let w = step_tree (codes "follow") v.follow in
    let xs = avoided v.avoids in
    ap (λ b. shape_by final b (is_follow (last (steps v))) (list_any is_follow (front (steps v))) (list_any is_target (front (steps v))) (is_target (last (steps v)))) (ended xs w)
    ∙ ap (λ ts. shape_by final false (is_follow (last (steps v))) (list_any is_follow ts) (list_any is_target ts) (is_target (last (steps v)))) (front_of xs w)
    ∙ ap (λ t. shape_by final false (is_follow t) (list_any is_follow xs) (list_any is_target xs) (is_target t)) (last_of xs w)
    ∙ ap (λ b. shape_by final false b (list_any is_follow xs) (list_any is_target xs) (is_target w)) (follow_there (codes "follow") v.follow)
    ∙ ap (λ b. shape_by final false true b (list_any is_target xs) (is_target w)) (no_follow v.avoids)
    ∙ ap (λ b. shape_by final false true false b (is_target w)) (no_target v.avoids h)
    ∙ ap (λ b. shape_by final false true false false b) (target_there (codes "follow") v.follow ∙ k)
    ∙ shape_met final

next : (n : ℕ) (final : Bool) (v : Segment) (rest : Option ℕ) → AreAvoids v.avoids → is_target_kind v.follow.kind ≡ final → cond (is_misshapen final (steps_in (segment_tree v))) (Some n) rest ≡ rest
next n final v rest h k = ap (λ b. cond b (Some n) rest) (ap (is_misshapen final) (steps_there v) ∙ shapely final v h k)

shapes_met : (n : ℕ) (vs : List Segment) → AreSegments vs → misshapen_from n (map segment_tree vs) ≡ None
shapes_met n [] h = absurd h
shapes_met n (v ∷ []) h = next n true v None h.0 (ap is_target_kind h.2)
shapes_met n (v ∷ w ∷ vs) h =
    next n false v (misshapen_from (n + 1) (map segment_tree (w ∷ vs))) h.0.0 (is_no_target v.follow.kind h.0.2) ∙ shapes_met (n + 1) (w ∷ vs) h.1

pub shape_met_by : (vs : List Segment) → AreSegments vs → shape_fault (map segment_tree vs) ≡ None
unfolding shape_fault
shape_met_by [] h = absurd h
shape_met_by (v ∷ vs) h = ap (option_map _) (shapes_met 1 (v ∷ vs) h)

pub segments_met : (at : List ℕ) (n : ℕ) (vs : List Segment) → AreSegments vs → items_fault segment_fault at n (map segment_tree vs) ≡ None
segments_met at n [] h = absurd h
segments_met at n (v ∷ []) h = both _ _ (segment_met (item_place at n) v h.0 h.1) refl
segments_met at n (v ∷ w ∷ vs) h = both _ _ (segment_met (item_place at n) v h.0.0 h.0.1) (segments_met at (n + 1) (w ∷ vs) h.1)

pub segments_back : (vs : List Segment) → AreSegments vs → map segment_in (map segment_tree vs) ≡ vs
segments_back [] h = absurd h
segments_back (v ∷ []) h = ap (λ x. x ∷ []) (segment_back v h.0 h.1)
segments_back (v ∷ w ∷ vs) h = ap (λ x. x ∷ map segment_in (map segment_tree (w ∷ vs))) (segment_back v h.0.0 h.0.1) ∙ ap (λ xs. v ∷ xs) (segments_back (w ∷ vs) h.1)
