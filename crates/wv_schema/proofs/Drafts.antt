-- The segments that the reader has so far, and the waypoints of one.
use Rattle.std.proofs.Common.{◌≡◌, ℕ, suc, ◌+◌, ◌-◌, ◌^◌, ◌<◌, List, [], ◌∷◌, ◌++◌, length, take, drop, get_or, map, min, Bool, true, false, not, ◌&&◌, Option, Some, None, option_map, cond, refl, sym, ap, ◌∙◌, arith, append_assoc, length-drop, eqb-true}
use Rattle.std.specs.Bool.{◌==◌}
use Rattle.std.specs.Option.{option_or, option_to_list}
use Rattle.std.proofs.lemmas.Bool.Decides.{nat_tests}
use Rattle.std.proofs.lemmas.List.{get_or_default, length-take-le, append-nil}
use Rattle.wv_yaml.specs.declared.tree.Tree.{Tree, Text}
use Rattle.wv_schema.specs.declared.fault.SchemaFault.{SchemaFault}
use Rattle.wv_schema.specs.declared.fault.SchemaFault.TheVariants.{Shape}
use Rattle.wv_schema.specs.declared.witness.Waypoint.{Waypoint}
use Rattle.wv_schema.specs.declared.witness.Segment.{Segment}
use Rattle.wv_schema.specs.declared.waypoint.Step.{Step}
use Rattle.wv_schema.specs.declared.waypoint.Avoids.{Avoids}
use Rattle.wv_schema.specs.declared.segment.Drafts.{Drafts}
use Rattle.wv_schema.specs.Paths.{item_place}
use Rattle.wv_schema.specs.Judging.{items_fault}
use Rattle.wv_schema.specs.Values.{waypoint_pairs, waypoint_in, kind_at, step_in, steps_in, front, last, segment_of, segment_in}
use Rattle.wv_schema.specs.Shapes.{is_end, is_follow, is_target, is_target_kind, is_misshapen, misshapen_from, misshapen, shape_fault}
use Rattle.wv_schema.specs.Steps.{step_by, is_avoid_step, fits_end, are_avoids, avoids_in, segment_by, kept, shapely, drafts_in}
use Rattle.wv_schema.specs.Schema.{Fails, step_fault, segment_fault, content_fault}
use Rattle.wv_schema.proofs.Chains.{stops, later, both, fails_along}
use Rattle.wv_schema.proofs.Finding.{split_at}
use Rattle.wv_schema.proofs.Items.{mapped_more}
use Rattle.wv_schema.proofs.Segments.{items_append, parted, shape_is}
use Rattle.wv_schema.proofs.Entries.{none_if, some_if}
use Rattle.wv_schema.proofs.MetSegments.{pass_first, pass_rest}

-- a waypoint more
waypoint_is : (t : Tree) (s : Step) → s ≡ step_by (waypoint_pairs t) → s.waypoint ≡ step_in t
unfolding step_by step_in
waypoint_is t s e = ap (λ x. x.waypoint) e

follow_is : (t : Tree) (s : Step) → s ≡ step_by (waypoint_pairs t) → s.is_follow ≡ is_follow t
unfolding step_by is_follow
follow_is t s e = ap (λ x. x.is_follow) e

kind_is : (t : Tree) (s : Step) → s ≡ step_by (waypoint_pairs t) → s.waypoint.kind ≡ kind_at (waypoint_pairs t)
unfolding step_by waypoint_in
kind_is t s e = ap (λ x. x.waypoint.kind) e

target_is : (t : Tree) (s : Step) → s ≡ step_by (waypoint_pairs t) → is_target_kind s.waypoint.kind ≡ is_target t
unfolding is_target
target_is t s e = ap is_target_kind (kind_is t s e)

pub pushed_step : (new ws : List Waypoint) (xs : List Tree) (i : ℕ) (x : Tree) (s : Step) → i < length xs → x ≡ get_or xs i x → new ≡ ws ++ s.waypoint ∷ [] → ws ≡ map step_in (take i xs) → s ≡ step_by (waypoint_pairs x) →
    new ≡ map step_in (take (i + 1) xs)
pushed_step new ws xs i x s lt is h k e =
    h ∙ ap (λ l. l ++ s.waypoint ∷ []) k ∙ ap (λ w. map step_in (take i xs) ++ w ∷ []) (waypoint_is x s e) ∙ sym (mapped_more step_in xs i x lt is)

and_assoc : (a b c : Bool) → ((a && b) && c) ≡ (a && (b && c))
and_assoc true b c = refl
and_assoc false b c = refl

pub fit_more : (b r a : Bool) (xs : List Tree) (i : ℕ) (x : Tree) (s : Step) → i < length xs → x ≡ get_or xs i x → r ≡ (b && is_avoid_step s) → s ≡ step_by (waypoint_pairs x) → (b && are_avoids (drop i xs)) ≡ a →
    (r && are_avoids (drop (i + 1) xs)) ≡ a
fit_more b r a xs i x s lt is h e k =
    ap (λ y. y && are_avoids (drop (i + 1) xs)) h
    ∙ and_assoc b (is_avoid_step s) (are_avoids (drop (i + 1) xs))
    ∙ ap (λ f. b && ((not f && not (is_target_kind s.waypoint.kind)) && are_avoids (drop (i + 1) xs))) (follow_is x s e)
    ∙ ap (λ g. b && ((not (is_follow x) && not g) && are_avoids (drop (i + 1) xs))) (target_is x s e)
    ∙ ap (λ l. b && are_avoids l) (sym (split_at xs i x lt is))
    ∙ k

-- the waypoints of a segment: those before the last, and the last
steps_split : (at : List ℕ) (ts : List Tree) → 0 < length ts →
    items_fault step_fault at 0 ts ≡ option_or (items_fault step_fault at 0 (front ts)) (option_or (step_fault (item_place at (length ts - 1)) (last ts)) None)
steps_split at ts h =
    let size : 0 + length (front ts) ≡ length ts - 1 = omega (arith, length-take-le (length ts - 1) ts) in
    ap (items_fault step_fault at 0) (parted ts h)
    ∙ items_append step_fault at 0 (front ts) (last ts ∷ [])
    ∙ ap (λ n. option_or (items_fault step_fault at 0 (front ts)) (option_or (step_fault (item_place at n) (last ts)) None)) size

last_is : (ts : List Tree) (x : Tree) → 0 < length ts → x ≡ get_or ts (length ts - 1) x → x ≡ last ts
last_is ts x h e = e ∙ get_or_default ts (length ts - 1) x (Text []) (omega arith)

pub no_steps : (at : List ℕ) (final : Bool) (ts : List Tree) → true ≡ (length ts == 0) → (items_fault step_fault at 0 ts ≡ None) × (None ≡ segment_by final ts)
unfolding segment_by is_misshapen
no_steps at final ts h = (ap (items_fault step_fault at 0) (none_if ts h), sym (ap (segment_by final) (none_if ts h)))

pub avoids_stop : (e : SchemaFault) (at : List ℕ) (ts : List Tree) → false ≡ (length ts == 0) → Fails e (items_fault step_fault at 0 (front ts)) → Fails e (items_fault step_fault at 0 ts)
avoids_stop e at ts h k = fails_along e _ _ (sym (steps_split at ts (some_if ts h))) (stops e _ _ k)

same_last : (at place : List ℕ) (ts : List Tree) (x : Tree) → 0 < length ts → x ≡ get_or ts (length ts - 1) x → place ≡ item_place at (length ts - 1) → step_fault place x ≡ step_fault (item_place at (length ts - 1)) (last ts)
same_last at place ts x h e p = ap (λ a. step_fault a x) p ∙ ap (step_fault (item_place at (length ts - 1))) (last_is ts x h e)

pub step_stop : (e : SchemaFault) (at place : List ℕ) (ts : List Tree) (x : Tree) → false ≡ (length ts == 0) → items_fault step_fault at 0 (front ts) ≡ None → x ≡ get_or ts (length ts - 1) x → place ≡ item_place at (length ts - 1) →
    Fails e (step_fault place x) → Fails e (items_fault step_fault at 0 ts)
step_stop e at place ts x h f i p k =
    fails_along e _ _ (sym (steps_split at ts (some_if ts h))) (later e _ _ f (stops e _ _ (fails_along e _ _ (same_last at place ts x (some_if ts h) i p) k)))

pub steps_met : (at place : List ℕ) (ts : List Tree) (x : Tree) → false ≡ (length ts == 0) → items_fault step_fault at 0 (front ts) ≡ None → x ≡ get_or ts (length ts - 1) x → place ≡ item_place at (length ts - 1) →
    step_fault place x ≡ None → items_fault step_fault at 0 ts ≡ None
steps_met at place ts x h f i p k = steps_split at ts (some_if ts h) ∙ both _ _ f (both _ _ (sym (same_last at place ts x (some_if ts h) i p) ∙ k) refl)

form_is : (final w : Bool) (ts : List Tree) (x : Tree) (a : Avoids) (s : Step) → 0 < length ts → x ≡ last ts → a ≡ avoids_in (front ts) → s ≡ step_by (waypoint_pairs x) →
    w ≡ (s.is_follow && (a.are_fit && fits_end final s.waypoint.kind)) → is_misshapen final ts ≡ not w
form_is final w ts x a s h i e k t =
    shape_is final ts h
    ∙ ap not (sym (t
    ∙ ap (λ f. f && (a.are_fit && fits_end final s.waypoint.kind)) (follow_is x s k ∙ ap is_follow i)
    ∙ ap (λ b. is_follow (last ts) && (b && fits_end final s.waypoint.kind)) (ap (λ y. y.are_fit) e)
    ∙ ap (λ y. is_follow (last ts) && (are_avoids (front ts) && fits_end final y)) (kind_is x s k ∙ ap (λ y. kind_at (waypoint_pairs y)) i)))

pub misshapen_segment : (final w : Bool) (ts : List Tree) (x : Tree) (a : Avoids) (s : Step) → false ≡ (length ts == 0) → x ≡ get_or ts (length ts - 1) x → a ≡ avoids_in (front ts) → s ≡ step_by (waypoint_pairs x) →
    w ≡ (s.is_follow && (a.are_fit && fits_end final s.waypoint.kind)) → w ≡ false → None ≡ segment_by final ts
unfolding segment_by
misshapen_segment final w ts x a s h i e k t f =
    let m = form_is final w ts x a s (some_if ts h) (last_is ts x (some_if ts h) i) e k t in
    sym (ap (λ b. cond b None (Some (segment_of ts))) (m ∙ ap not f))

abbrev sectioned : List Waypoint → Waypoint → Segment
sectioned vs w = record { avoids = vs; follow = w }

pub shapely_segment : (final w : Bool) (ts : List Tree) (x : Tree) (a : Avoids) (s : Step) → false ≡ (length ts == 0) → x ≡ get_or ts (length ts - 1) x → a ≡ avoids_in (front ts) → s ≡ step_by (waypoint_pairs x) →
    w ≡ (s.is_follow && (a.are_fit && fits_end final s.waypoint.kind)) → w ≡ true → Some (sectioned a.waypoints s.waypoint) ≡ segment_by final ts
unfolding segment_by segment_of
shapely_segment final w ts x a s h i e k t f =
    let l = last_is ts x (some_if ts h) i in
    let m = form_is final w ts x a s (some_if ts h) l e k t in
    ap (λ vs. Some (sectioned vs s.waypoint)) (ap (λ y. y.waypoints) e)
    ∙ ap (λ v. Some (sectioned (map step_in (front ts)) v)) (waypoint_is x s k ∙ ap step_in l)
    ∙ sym (ap (λ b. cond b None (Some (segment_of ts))) (m ∙ ap not f))

-- a segment more
same_test : (i n : ℕ) → i < n → ((i + 1) == n) ≡ ((n - (i + 1)) == 0)
same_test i n h = grind (arith, nat_tests)

not_zero : (n : ℕ) (b : Bool) → (suc n == 0) ≡ b → b ≡ false
not_zero n true e = absurd (omega (arith, eqb-true (suc n) 0 e))
not_zero n false e = refl

end_test : {X : Type 0} (xs : List X) → (length xs == 0) ≡ is_end xs
end_test [] = refl
end_test (x ∷ xs) = not_zero (length xs) (suc (length xs) == 0) refl

pub final_is : (xs : List Tree) (i : ℕ) → i < length xs → ((i + 1) == length xs) ≡ is_end (drop (i + 1) xs)
final_is xs i h = same_test i (length xs) h ∙ ap (λ n. n == 0) (sym (length-drop (i + 1) xs)) ∙ end_test (drop (i + 1) xs)

kept_segments : (d : Drafts) (o : Option Segment) (n : ℕ) → (kept d o n).segments ≡ d.segments ++ option_to_list o
kept_segments d None n = sym (append-nil d.segments)
kept_segments d (Some s) n = refl

abbrev here : List Tree → ℕ → Tree → Option Segment
here xs i x = segment_by (is_end (drop (i + 1) xs)) (steps_in x)

pub segments_more : (new d : Drafts) (o : Option Segment) (xs : List Tree) (i : ℕ) (x : Tree) → i < length xs → x ≡ get_or xs i x → new ≡ kept d o (i + 1) → o ≡ segment_by ((i + 1) == length xs) (steps_in x) →
    (d.segments ++ shapely (drop i xs)) ≡ shapely xs → (new.segments ++ shapely (drop (i + 1) xs)) ≡ shapely xs
segments_more new d o xs i x lt is h k inv =
    let same : o ≡ here xs i x = k ∙ ap (λ b. segment_by b (steps_in x)) (final_is xs i lt) in
    ap (λ y. y.segments ++ shapely (drop (i + 1) xs)) h
    ∙ ap (λ l. l ++ shapely (drop (i + 1) xs)) (kept_segments d o (i + 1))
    ∙ append_assoc d.segments (option_to_list o) (shapely (drop (i + 1) xs))
    ∙ ap (λ y. d.segments ++ (option_to_list y ++ shapely (drop (i + 1) xs))) same
    ∙ ap (λ l. d.segments ++ shapely l) (sym (split_at xs i x lt is))
    ∙ inv

kept_first : (m : Option ℕ) (ss : List Segment) (b : Bool) (s : Segment) (n : ℕ) (r : Option ℕ) →
    option_or (kept (record { segments = ss; misshapen = m }) (cond b None (Some s)) n).misshapen r ≡ option_or m (cond b (Some n) r)
kept_first None ss true s n r = refl
kept_first (Some k) ss true s n r = refl
kept_first m ss false s n r = refl

pub first_more : (new d : Drafts) (o : Option Segment) (xs : List Tree) (i : ℕ) (x : Tree) → i < length xs → x ≡ get_or xs i x → new ≡ kept d o (i + 1) → o ≡ segment_by ((i + 1) == length xs) (steps_in x) →
    option_or d.misshapen (misshapen_from (i + 1) (drop i xs)) ≡ misshapen_from 1 xs → option_or new.misshapen (misshapen_from (i + 1 + 1) (drop (i + 1) xs)) ≡ misshapen_from 1 xs
unfolding segment_by
first_more new d o xs i x lt is h k inv =
    let same : o ≡ here xs i x = k ∙ ap (λ b. segment_by b (steps_in x)) (final_is xs i lt) in
    let rest = misshapen_from (i + 1 + 1) (drop (i + 1) xs) in
    ap (λ y. option_or y.misshapen rest) h
    ∙ ap (λ y. option_or (kept d y (i + 1)).misshapen rest) same
    ∙ kept_first d.misshapen d.segments (is_misshapen (is_end (drop (i + 1) xs)) (steps_in x)) (segment_of (steps_in x)) (i + 1) rest
    ∙ ap (λ l. option_or d.misshapen (misshapen_from (i + 1) l)) (sym (split_at xs i x lt is))
    ∙ inv

-- all segments
whole : (n : ℕ) (ts : List Tree) → misshapen_from n ts ≡ None → shapely ts ≡ map segment_in ts
unfolding segment_by segment_in
whole n [] h = refl
whole n (t ∷ ts) h =
    ap (λ b. option_to_list (cond b None (Some (segment_of (steps_in t)))) ++ shapely ts) (pass_first (is_misshapen (is_end ts) (steps_in t)) n (misshapen_from (n + 1) ts) h)
    ∙ ap (λ l. segment_of (steps_in t) ∷ l) (whole (n + 1) ts (pass_rest (is_misshapen (is_end ts) (steps_in t)) n (misshapen_from (n + 1) ts) h))

misshapen_some : (ts : List Tree) → 0 < length ts → misshapen ts ≡ misshapen_from 1 ts
misshapen_some [] h = absurd (omega (arith, h))
misshapen_some (t ∷ ts) h = refl

pub drafts_stop : (e : SchemaFault) (at : List ℕ) (ts : List Tree) → Fails e (items_fault segment_fault at 0 ts) → Fails e (content_fault at true ts)
unfolding content_fault
drafts_stop e at ts h = stops e _ _ h

pub empty_shape : (at : List ℕ) (ts : List Tree) → true ≡ (length ts == 0) → content_fault at true ts ≡ Some (Shape 1)
unfolding content_fault shape_fault
empty_shape at ts h = ap (content_fault at true) (none_if ts h)

told : (at : List ℕ) (ts : List Tree) (d : Drafts) (o : Option ℕ) → items_fault segment_fault at 0 ts ≡ None → d ≡ drafts_in ts → d.misshapen ≡ o → false ≡ (length ts == 0) →
    content_fault at true ts ≡ option_map (λ n. Shape (min n (2 ^ 32 - 1))) o
unfolding content_fault shape_fault
told at ts d o f e m h =
    ap (λ x. option_or x (shape_fault ts)) f
    ∙ ap (option_map (λ n. Shape (min n (2 ^ 32 - 1)))) (misshapen_some ts (some_if ts h) ∙ sym (ap (λ y. y.misshapen) e) ∙ m)

pub shapes_met : (at : List ℕ) (ts : List Tree) (d : Drafts) → items_fault segment_fault at 0 ts ≡ None → d ≡ drafts_in ts → d.misshapen ≡ None → false ≡ (length ts == 0) → content_fault at true ts ≡ None
shapes_met at ts d f e m h = told at ts d None f e m h

pub shape_told : (at : List ℕ) (ts : List Tree) (d : Drafts) (n r : ℕ) → items_fault segment_fault at 0 ts ≡ None → d ≡ drafts_in ts → d.misshapen ≡ Some n → false ≡ (length ts == 0) → r ≡ min n (2 ^ 32 - 1) →
    content_fault at true ts ≡ Some (Shape r)
shape_told at ts d n r f e m h k = told at ts d (Some n) f e m h ∙ ap (λ y. Some (Shape y)) (sym k)

pub segments_are : (ts : List Tree) (d : Drafts) → d ≡ drafts_in ts → d.misshapen ≡ None → d.segments ≡ map segment_in ts
segments_are ts d e m = ap (λ y. y.segments) e ∙ whole 1 ts (sym (ap (λ y. y.misshapen) e) ∙ m)
