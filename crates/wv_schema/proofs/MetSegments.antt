-- What holds of the segments whose rows are met and whose form is right.
use Rattle.std.proofs.Common.{◌≡◌, ℕ, ◌+◌, ◌<◌, List, [], ◌∷◌, ◌++◌, length, map, Bool, true, false, not, ◌&&◌, ◌||◌, Option, Some, None, cond, codes, refl, sym, ap, ◌∙◌, arith}
use Rattle.std.specs.List.{list_any}
use Rattle.wv_yaml.specs.declared.tree.Tree.{Tree}
use Rattle.wv_yaml.specs.declared.tree.Pair.{Pair}
use Rattle.wv_schema.specs.declared.witness.WayKind.{WayKind}
use Rattle.wv_schema.specs.declared.witness.WayKind.TheVariants.{Assumption, Target, FunctionEnter, FunctionReturn, Branching}
use Rattle.wv_schema.specs.declared.witness.Segment.{Segment}
use Rattle.wv_schema.specs.Paths.{key_place, item_place}
use Rattle.wv_schema.specs.Table.{AText, OneOf, waypoint_types, actions, needs, in_map, location_fields, segment_fields, waypoint_fields}
use Rattle.wv_schema.specs.Judging.{row_fault, first_fault, rows_fault, items_fault}
use Rattle.wv_schema.specs.Values.{map_at, all_pairs, kind_at, waypoint_in, waypoint_pairs, step_in, steps_in, front, last, segment_of, segment_in}
use Rattle.wv_schema.specs.Shapes.{is_end, is_follow, is_target, is_target_kind, is_misshapen, misshapen_from}
use Rattle.wv_schema.specs.Schema.{step_rows, step_fault, segment_fault}
use Rattle.wv_schema.specs.Rules.{IsWaypoint, IsTarget, AreAvoids, AreSegments}
use Rattle.wv_schema.proofs.FieldChains.{waypoint_chain}
use Rattle.wv_schema.proofs.Segments.{items_append, parted}
use Rattle.wv_schema.proofs.MetRules.{first_none, rest_none, below_meets, item_meets}
use Rattle.wv_schema.proofs.MetParts.{location_meets, constrained_meets}

waypoint_meets : (at : List ℕ) (ps : List Pair) → first_fault at ps (waypoint_fields (kind_at ps)) ≡ None → IsWaypoint (waypoint_in ps)
unfolding waypoint_in
waypoint_meets at ps e =
    let e2 = rest_none (row_fault at ps (needs (codes "type") (AText (OneOf waypoint_types)))) _ (sym (waypoint_chain at ps (kind_at ps)) ∙ e) in
    let e3 = rest_none (row_fault at ps (needs (codes "action") (AText (OneOf actions)))) _ e2 in (
      location_meets _ _ (below_meets at (codes "location") ps location_fields (first_none _ _ e3)),
      constrained_meets at ps (kind_at ps) (rest_none (first_fault at ps (in_map (codes "location") location_fields)) _ e3),
    )

step_meets : (at : List ℕ) (t : Tree) → step_fault at t ≡ None → IsWaypoint (step_in t)
unfolding step_fault step_rows step_in waypoint_pairs
step_meets at t e =
    waypoint_meets _ _
    (below_meets at (codes "waypoint") (all_pairs t) (waypoint_fields (kind_at (map_at (codes "waypoint") (all_pairs t)))) (item_meets at t step_rows e))

or_first : (a b : Bool) → (a || b) ≡ false → a ≡ false
or_first true b e = e
or_first false b e = refl

or_rest : (a b : Bool) → (a || b) ≡ false → b ≡ false
or_rest true b e = absurd (cc e)
or_rest false b e = e

not_target : (kind : WayKind) → is_target_kind kind ≡ false → kind ≡ Target → ⊥
not_target kind e h = cc (sym (ap is_target_kind h) ∙ e)

a_target : (kind : WayKind) → is_target_kind kind ≡ true → kind ≡ Target
a_target Assumption e = absurd (cc e)
a_target Target e = refl
a_target FunctionEnter e = absurd (cc e)
a_target FunctionReturn e = absurd (cc e)
a_target Branching e = absurd (cc e)

kind_of_step : (t : Tree) → is_target t ≡ is_target_kind (step_in t).kind
unfolding is_target step_in waypoint_in
kind_of_step t = refl

avoids_meet : (at : List ℕ) (n : ℕ) (ts : List Tree) → items_fault step_fault at n ts ≡ None → list_any is_target ts ≡ false → AreAvoids (map step_in ts)
avoids_meet at n [] e h = tt
avoids_meet at n (t ∷ ts) e h = (
  (step_meets (item_place at n) t (first_none _ _ e), not_target (step_in t).kind (sym (kind_of_step t) ∙ or_first (is_target t) _ h)),
  avoids_meet at (n + 1) ts (rest_none (step_fault (item_place at n) t) _ e) (or_rest (is_target t) _ h),
)

abbrev shape_by : Bool → Bool → Bool → Bool → Bool → Bool → Bool
shape_by final end follows early stray hits = end || (not follows || (early || ((stray || (hits && not (final && follows))) || (final && not hits))))

parts : (final end follows early stray hits : Bool) → shape_by final end follows early stray hits ≡ false → (end ≡ false) × (stray ≡ false) × (hits ≡ final)
parts final true follows early stray hits e = absurd (cc e)
parts final false false early stray hits e = absurd (cc e)
parts final false true true stray hits e = absurd (cc e)
parts final false true false true hits e = absurd (cc e)
parts true false true false false true e = (refl, refl, refl)
parts true false true false false false e = absurd (cc e)
parts false false true false false true e = absurd (cc e)
parts false false true false false false e = (refl, refl, refl)

shape_parts : (final : Bool) (ts : List Tree) → is_misshapen final ts ≡ false → (is_end ts ≡ false) × (list_any is_target (front ts) ≡ false) × (is_target (last ts) ≡ final)
unfolding is_misshapen
shape_parts final ts e = parts final (is_end ts) (is_follow (last ts)) (list_any is_follow (front ts)) (list_any is_target (front ts)) (is_target (last ts)) e

some : (ts : List Tree) → is_end ts ≡ false → 0 < length ts
some [] e = absurd (cc e)
some (t ∷ ts) e = omega arith

-- a segment of the right form
abbrev Formed : Bool → Segment → Type 0
Formed final v = AreAvoids v.avoids × IsWaypoint v.follow × (is_target_kind v.follow.kind ≡ final)

steps_meet : (at : List ℕ) (final : Bool) (ts : List Tree) → items_fault step_fault at 0 ts ≡ None → is_misshapen final ts ≡ false → Formed final (segment_of ts)
unfolding segment_of
steps_meet at final ts e m =
    let p = shape_parts final ts m in
    let d = sym (items_append step_fault at 0 (front ts) (last ts ∷ [])) ∙ ap (items_fault step_fault at 0) (sym (parted ts (some ts p.0))) ∙ e in (
      avoids_meet at 0 (front ts) (first_none _ _ d) p.1,
      step_meets _ (last ts) (first_none _ _ (rest_none (items_fault step_fault at 0 (front ts)) _ d)),
      sym (kind_of_step (last ts)) ∙ p.2,
    )

segment_meets : (at : List ℕ) (final : Bool) (t : Tree) → segment_fault at t ≡ None → is_misshapen final (steps_in t) ≡ false → Formed final (segment_in t)
unfolding segment_fault segment_in
segment_meets at final t e m = steps_meet (key_place at (codes "segment")) final (steps_in t) (rest_none (rows_fault at (λ ps. segment_fields) _) _ e) m

pub pass_first : (b : Bool) (n : ℕ) (rest : Option ℕ) → cond b (Some n) rest ≡ None → b ≡ false
pass_first true n rest e = absurd (cc e)
pass_first false n rest e = refl

pub pass_rest : (b : Bool) (n : ℕ) (rest : Option ℕ) → cond b (Some n) rest ≡ None → rest ≡ None
pass_rest true n rest e = absurd (cc e)
pass_rest false n rest e = e

pub segments_meet : (at : List ℕ) (n m : ℕ) (ts : List Tree) → items_fault segment_fault at n ts ≡ None → misshapen_from m ts ≡ None → is_end ts ≡ false → AreSegments (map segment_in ts)
segments_meet at n m [] e h k = absurd (cc k)
segments_meet at n m (t ∷ []) e h k =
    let s = segment_meets (item_place at n) true t (first_none _ _ e) (pass_first (is_misshapen true (steps_in t)) m None h) in
    (s.0, s.1, a_target (segment_in t).follow.kind s.2)
segments_meet at n m (t ∷ u ∷ ts) e h k =
    let s = segment_meets (item_place at n) false t (first_none _ _ e) (pass_first (is_misshapen false (steps_in t)) m (misshapen_from (m + 1) (u ∷ ts)) h) in (
      (s.0, s.1, not_target (segment_in t).follow.kind s.2),
      segments_meet at (n + 1) (m + 1) (u ∷ ts) (rest_none (segment_fault (item_place at n) t) _ e) (pass_rest (is_misshapen false (steps_in t)) m (misshapen_from (m + 1) (u ∷ ts)) h) refl,
    )
