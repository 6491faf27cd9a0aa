-- The witnesses of a demo meet the schema, and their trees have canonical texts, as that of a witness made of segments has.
use Rattle.std.proofs.Common.{◌≡◌, ℕ, suc, ◌+◌, ◌-◌, ◌*◌, ◌≤◌, List, [], ◌∷◌, ◌++◌, length, map, Option, Some, None, Bool, false, ◌||◌, codes, refl, sym, subst, ◌∙◌, arith, lit≤}
use Rattle.std.specs.List.{AllByRecursion}
use Rattle.std.specs.Str.{chars}
use lib.Utf8.{encode}
use Rattle.wv_schema.specs.declared.witness.Content.{Content}
use Rattle.wv_schema.specs.declared.witness.Content.TheVariants.{Violation, Invariants}
use Rattle.wv_schema.specs.Canonical.{pair, text_pair, texts_if, counts_if, constraints_if, way_word, location_pairs, constraint_pairs, expression_pairs, step_tree, segment_tree, invariant_tree, producer_tree, task_tree, metadata_tree, content_tree, entry_tree, tree_of}
use Rattle.wv_schema.specs.Shapes.{entries_fault}
use Rattle.wv_schema.specs.Rules.{AreInvariants, AreSegments, IsCount, MeetsSchema}
use Rattle.wv_schema.specs.declared.witness.Constraint.{Constraint}
use Rattle.wv_schema.specs.declared.witness.Location.{Location}
use Rattle.wv_schema.specs.declared.witness.Segment.{Segment}
use Rattle.wv_schema.specs.declared.witness.Waypoint.{Waypoint}
use Rattle.wv_schema.specs.declared.witness.Witness.{Witness}
use Rattle.c_core.specs.declared.number.DataModel.{DataModel}
use Rattle.c_core.specs.declared.number.Property.{Property}
use Rattle.wv_yaml.specs.declared.tree.Tree.{Tree}
use Rattle.wv_yaml.specs.declared.tree.Tree.TheVariants as tree
use Rattle.wv_yaml.specs.declared.tree.Pair.{Pair}
use Rattle.wv_yaml.specs.Canon.{Fits, PairFits}
use Rattle.wv_yaml.specs.Repeats.{repeats, repeats_after, items_repeat, values_repeat}
use Rattle.wv_yaml.proofs.FlowFits.{list_that_fits, map_that_fits}
use Rattle.wv_yaml.proofs.RepeatLaws.{repeats_false}
use Rattle.wv_yaml.proofs.RepeatSteps.{list_repeats, map_repeats, text_repeats}
use Rattle.wv_author.specs.Sequence.{bounds, loop_count}
use Rattle.wv_author.specs.Programs.{correct_program, faulty_program}
use Rattle.wv_author.specs.Witnesses.{demo_details, metadata_of, witness_about, at, range, ranges, invariants, drawn, reached, violation}
use Rattle.wv_author.specs.Written.{HasText, authored, authored_details}
use Rattle.wv_author.specs.declared.witnesses.Details.{Details}
use Rattle.wv_author.specs.declared.making.Made.{Made}
use Rattle.wv_author.specs.Demo.{CanBeWritten, AreWritable, demo_of}
use Rattle.wv_author.proofs.Bounds.{bounds_count}

-- ---- the schema

ranges_meet : (k : ℕ) (bs : List ℕ) → 1 ≤ k → k + length bs ≤ 1000 → AreInvariants (ranges k bs)
ranges_meet k [] some few = tt
ranges_meet k (b ∷ bs) some few =
    let line : IsCount (7 * k - 2) = (omega arith, omega arith) in
    (((line, (lit≤ tt, lit≤ tt)), refl), ranges_meet (k + 1) bs (omega arith) (omega arith))

invariants_meet : (n : ℕ) (program : List ℕ) → MeetsSchema (invariants n program)
unfolding entries_fault
invariants_meet n program = (((refl, ranges_meet 1 (bounds n loop_count) (lit≤ tt) (omega (arith, bounds_count n 40))), tt), refl)

violation_meets : (n : ℕ) (program : List ℕ) → MeetsSchema (violation n program)
unfolding entries_fault
violation_meets n program = (
  (
    (
      refl,
      (
        (tt, (((lit≤ tt, lit≤ tt), (lit≤ tt, lit≤ tt)), refl), λ t. cc),
        (tt, (((lit≤ tt, lit≤ tt), (lit≤ tt, lit≤ tt)), refl), refl),
      ),
    ),
    tt,
  ),
  refl,
)

-- ---- keys are short, and few levels nest

all_joined : {A : Type 0} (P : A → Type 0) (xs ys : List A) → AllByRecursion P xs → AllByRecursion P ys → AllByRecursion P (xs ++ ys)
all_joined P [] ys h k = k
all_joined P (x ∷ xs) ys h k = (h.0, all_joined P xs ys h.1 k)

text_if_fits : (e : ℕ) (key : List ℕ) (text : Option (List ℕ)) → length (chars key) ≤ 1024 → AllByRecursion (λ p. PairFits e p) (texts_if key text)
text_if_fits e key None short = tt
text_if_fits e key (Some text) short = ((short, tt), tt)

count_if_fits : (e : ℕ) (key : List ℕ) (n : Option ℕ) → length (chars key) ≤ 1024 → AllByRecursion (λ p. PairFits e p) (counts_if key n)
count_if_fits e key None short = tt
count_if_fits e key (Some n) short = ((short, tt), tt)

location_fits : (e : ℕ) (v : Location) → Fits (suc e) (tree.Map (location_pairs v))
unfolding location_pairs encode chars
location_fits e v =
    map_that_fits (location_pairs v) e
    (all_joined (λ p. PairFits e p) (texts_if (codes "file_name") v.file_name) _ (text_if_fits e (codes "file_name") v.file_name (lit≤ tt)) (
      (lit≤ tt, tt),
      all_joined (λ p. PairFits e p) (counts_if (codes "column") v.column) _ (count_if_fits e (codes "column") v.column (lit≤ tt))
          (text_if_fits e (codes "function") v.function (lit≤ tt)),
    ))

expression_fits : (e : ℕ) (value : List ℕ) (format : Option (List ℕ)) → Fits (suc e) (tree.Map (expression_pairs value format))
unfolding expression_pairs encode chars
expression_fits e value format = map_that_fits (expression_pairs value format) e ((lit≤ tt, tt), text_if_fits e (codes "format") format (lit≤ tt))

constraint_if_fits : (e : ℕ) (v : Option Constraint) → AllByRecursion (λ p. PairFits (suc e) p) (constraints_if v)
unfolding constraint_pairs encode chars
constraint_if_fits e None = tt
constraint_if_fits e (Some v) = ((lit≤ tt, expression_fits e v.value v.format), tt)

step_fits : (e : ℕ) (action : List ℕ) (v : Waypoint) → Fits (suc (suc (suc e))) (step_tree action v)
unfolding step_tree encode chars
step_fits e action v =
    map_that_fits _ (suc (suc e)) (
      (lit≤ tt, map_that_fits _ (suc e) ((lit≤ tt, tt), ((lit≤ tt, tt), ((lit≤ tt, location_fits e v.location), constraint_if_fits e v.constraint)))),
      tt,
    )

steps_fit : (e : ℕ) (avoids : List Waypoint) (follow : Waypoint)
    → AllByRecursion (λ t. Fits (suc (suc (suc e))) t) (map (step_tree (codes "avoid")) avoids ++ (step_tree (codes "follow") follow ∷ []))
steps_fit e [] follow = (step_fits e (codes "follow") follow, tt)
steps_fit e (v ∷ vs) follow = (step_fits e (codes "avoid") v, steps_fit e vs follow)

segment_fits : (e : ℕ) (s : Segment) → Fits (suc (suc (suc (suc (suc e))))) (segment_tree s)
unfolding segment_tree encode chars
segment_fits e s =
    map_that_fits _ (suc (suc (suc (suc e)))) ((lit≤ tt, list_that_fits _ (suc (suc (suc e))) (steps_fit e s.avoids s.follow)), tt)

segments_fit : (e : ℕ) (ss : List Segment) → AllByRecursion (λ t. Fits (suc (suc (suc (suc (suc e))))) t) (map segment_tree ss)
segments_fit e [] = tt
segments_fit e (s ∷ ss) = (segment_fits e s, segments_fit e ss)

range_fits : (e k b : ℕ) → Fits (suc (suc (suc e))) (invariant_tree (range k b))
unfolding invariant_tree expression_pairs encode chars
range_fits e k b =
    map_that_fits _ (suc (suc e)) (
      (
        lit≤ tt,
        map_that_fits _ (suc e)
            ((lit≤ tt, tt), ((lit≤ tt, location_fits e (at (7 * k - 2) 3)), ((lit≤ tt, tt), ((lit≤ tt, tt), tt)))),
      ),
      tt,
    )

ranges_fit : (e k : ℕ) (bs : List ℕ) → AllByRecursion (λ t. Fits (suc (suc (suc e))) t) (map invariant_tree (ranges k bs))
ranges_fit e k [] = tt
ranges_fit e k (b ∷ bs) = (range_fits e k b, ranges_fit e (k + 1) bs)

metadata_fits : (e : ℕ) (d : Details) (program : List ℕ) → length (chars d.file) ≤ 1024 → Fits (suc (suc (suc e))) (metadata_tree (metadata_of d program))
unfolding metadata_tree producer_tree task_tree encode chars
metadata_fits e d program short =
    map_that_fits _ (suc (suc e)) (
      (lit≤ tt, tt),
      (
        (lit≤ tt, tt),
        (
          (lit≤ tt, tt),
          (
            (lit≤ tt, map_that_fits _ (suc e) ((lit≤ tt, tt), ((lit≤ tt, tt), tt))),
            (
              (
                lit≤ tt,
                map_that_fits _ (suc e)
                    ((lit≤ tt, list_that_fits _ e (tt, tt)), ((lit≤ tt, map_that_fits _ e ((short, tt), tt)), ((lit≤ tt, tt), ((lit≤ tt, tt), ((lit≤ tt, tt), tt))))),
              ),
              tt,
            ),
          ),
        ),
      ),
    )

entry_fits : (e : ℕ) (d : Details) (program : List ℕ) (content : Content) → length (chars d.file) ≤ 1024 → Fits (suc (suc (suc e))) (content_tree content)
    → Fits (suc (suc (suc (suc (suc e))))) (tree_of (witness_about d program content))
unfolding tree_of entry_tree encode chars
entry_fits e d program content short h =
    list_that_fits _ (suc (suc (suc (suc e))))
    (map_that_fits _ (suc (suc (suc e))) ((lit≤ tt, tt), ((lit≤ tt, metadata_fits e d program short), ((lit≤ tt, h), tt))), tt)

demo_file_short : length (chars demo_details.file) ≤ 1024
unfolding encode chars
demo_file_short = lit≤ tt

-- ---- no map has a key twice

or_false : (a b : Bool) → a ≡ false → b ≡ false → (a || b) ≡ false
or_false a b e f = rw (e, f) refl

list_once : (xs : List Tree) → items_repeat xs ≡ false → repeats (tree.List xs) ≡ false
list_once xs e = list_repeats xs ∙ e

map_once : (ps : List Pair) → repeats_after [] ps ≡ false → values_repeat ps ≡ false → repeats (tree.Map ps) ≡ false
map_once ps e f = map_repeats ps ∙ or_false (repeats_after [] ps) (values_repeat ps) e f

-- a pair with a text, and what follows it
text_then : (v : List ℕ) (b : Bool) → b ≡ false → (repeats (tree.Text v) || b) ≡ false
text_then v b e = or_false (repeats (tree.Text v)) b (text_repeats v) e

location_by : (file : Option (List ℕ)) (line : ℕ) (column : Option ℕ) (function : Option (List ℕ))
    → repeats (tree.Map (location_pairs (record { file_name = file; line = line; column = column; function = function }))) ≡ false
unfolding location_pairs
location_by None line None None = map_once _ refl (text_then _ _ refl)
location_by None line None (Some g) = map_once _ refl (text_then _ _ (text_then _ _ refl))
location_by None line (Some c) None = map_once _ refl (text_then _ _ (text_then _ _ refl))
location_by None line (Some c) (Some g) = map_once _ refl (text_then _ _ (text_then _ _ (text_then _ _ refl)))
location_by (Some f) line None None = map_once _ refl (text_then _ _ (text_then _ _ refl))
location_by (Some f) line None (Some g) = map_once _ refl (text_then _ _ (text_then _ _ (text_then _ _ refl)))
location_by (Some f) line (Some c) None = map_once _ refl (text_then _ _ (text_then _ _ (text_then _ _ refl)))
location_by (Some f) line (Some c) (Some g) = map_once _ refl (text_then _ _ (text_then _ _ (text_then _ _ (text_then _ _ refl))))

location_once : (v : Location) → repeats (tree.Map (location_pairs v)) ≡ false
location_once v = location_by v.file_name v.line v.column v.function

expression_once : (value : List ℕ) (format : Option (List ℕ)) → repeats (tree.Map (expression_pairs value format)) ≡ false
unfolding expression_pairs
expression_once value None = map_once _ refl (text_then _ _ refl)
expression_once value (Some format) = map_once _ refl (text_then _ _ (text_then _ _ refl))

range_once : (k b : ℕ) → repeats (invariant_tree (range k b)) ≡ false
unfolding invariant_tree expression_pairs
range_once k b =
    map_once _ refl
    (or_false _ _ (map_once _ refl (text_then _ _ (or_false _ _ (location_once (at (7 * k - 2) 3)) (text_then _ _ (text_then _ _ refl))))) refl)

ranges_once : (k : ℕ) (bs : List ℕ) → items_repeat (map invariant_tree (ranges k bs)) ≡ false
ranges_once k [] = refl
ranges_once k (b ∷ bs) = or_false _ _ (range_once k b) (ranges_once (k + 1) bs)

step_by : (action word : List ℕ) (location : Location) (v : Option Constraint)
    → repeats (tree.Map (pair (codes "waypoint") (tree.Map (text_pair (codes "type") word
    ∷ text_pair (codes "action") action ∷ pair (codes "location") (tree.Map (location_pairs location)) ∷ constraints_if v)) ∷ [])) ≡ false
unfolding constraint_pairs
step_by action word location None =
    map_once _ refl (or_false _ _ (map_once _ refl (text_then _ _ (text_then _ _ (or_false _ _ (location_once location) refl)))) refl)
step_by action word location (Some v) =
    map_once _ refl
    (or_false _ _ (map_once _ refl (text_then _ _ (text_then _ _ (or_false _ _ (location_once location) (or_false _ _ (expression_once v.value v.format) refl))))) refl)

step_once : (action : List ℕ) (v : Waypoint) → repeats (step_tree action v) ≡ false
unfolding step_tree
step_once action v = step_by action (way_word v.kind) v.location v.constraint

steps_once : (avoids : List Waypoint) (follow : Waypoint) → items_repeat (map (step_tree (codes "avoid")) avoids ++ (step_tree (codes "follow") follow ∷ [])) ≡ false
steps_once [] follow = or_false _ _ (step_once (codes "follow") follow) refl
steps_once (v ∷ vs) follow = or_false _ _ (step_once (codes "avoid") v) (steps_once vs follow)

segment_once : (s : Segment) → repeats (segment_tree s) ≡ false
unfolding segment_tree
segment_once s = map_once _ refl (or_false _ _ (list_once _ (steps_once s.avoids s.follow)) refl)

segments_once : (ss : List Segment) → items_repeat (map segment_tree ss) ≡ false
segments_once [] = refl
segments_once (s ∷ ss) = or_false _ _ (segment_once s) (segments_once ss)

task_once : (d : Details) (program : List ℕ) → repeats (task_tree (metadata_of d program)) ≡ false
unfolding task_tree
task_once d program =
    map_once _ refl
    (or_false _ _ (list_once _ (text_then _ _ refl)) (or_false _ _ (map_once _ refl (text_then _ _ refl)) (text_then _ _ (text_then _ _ (text_then _ _ refl)))))

producer_once : (d : Details) (program : List ℕ) → repeats (producer_tree (metadata_of d program)) ≡ false
unfolding producer_tree
producer_once d program = map_once _ refl (text_then _ _ (text_then _ _ refl))

metadata_once : (d : Details) (program : List ℕ) → repeats (metadata_tree (metadata_of d program)) ≡ false
unfolding metadata_tree
metadata_once d program =
    map_once _ refl
    (text_then _ _ (text_then _ _ (text_then _ _ (or_false _ _ (producer_once d program) (or_false _ _ (task_once d program) refl)))))

witness_once : (d : Details) (program : List ℕ) (content : Content) → repeats (content_tree content) ≡ false → repeats (tree_of (witness_about d program content)) ≡ false
unfolding tree_of entry_tree
witness_once d program content e =
    list_once _ (or_false _ _ (map_once _ refl (text_then _ _ (or_false _ _ (metadata_once d program) (or_false _ _ e refl)))) refl)

-- ---- witnesses of segments

text_of_segments : (d : Details) (program : List ℕ) (segments : List Segment) → length (chars d.file) ≤ 1024 → HasText (witness_about d program (Violation segments))
unfolding tree_of
text_of_segments d program segments short =
    let once : repeats (content_tree (Violation segments)) ≡ false = list_once (map segment_tree segments) (segments_once segments) in
    record {
      collection = tt;
      fits = entry_fits 59 d program (Violation segments) short (list_that_fits (map segment_tree segments) 61 (segments_fit 56 segments));
      no_repeats = repeats_false (tree_of (witness_about d program (Violation segments))) (witness_once d program (Violation segments) once);
    }

sequence_meets : (d : Details) (program : List ℕ) (segments : List Segment) → AreSegments segments → MeetsSchema (witness_about d program (Violation segments))
unfolding entries_fault
sequence_meets d program segments are = (((refl, are), tt), refl)

pub authored_text : (witness : Witness) (program file : List ℕ) (segments : List Segment) (property : Property) (model : DataModel) (uuid time : List ℕ)
    → witness ≡ authored program file segments property model uuid time → length (chars file) ≤ 1024 → HasText witness
authored_text witness program file segments property model uuid time e short =
    subst HasText (sym e) (text_of_segments (authored_details file property model uuid time) program segments short)

pub authored_writable : (witness : Witness) (program file : List ℕ) (segments : List Segment) (property : Property) (model : DataModel) (uuid time : List ℕ)
    → witness ≡ authored program file segments property model uuid time → length (chars file) ≤ 1024 → AreSegments segments → CanBeWritten witness
authored_writable witness program file segments property model uuid time e short are =
    let d = authored_details file property model uuid time in
    let text = text_of_segments d program segments short in
    subst CanBeWritten (sym e) (record { meets = sequence_meets d program segments are; collection = text.collection; fits = text.fits; no_repeats = text.no_repeats })

-- ---- both witnesses of a demo

invariants_writable : (n : ℕ) (program : List ℕ) → CanBeWritten (invariants n program)
unfolding tree_of
invariants_writable n program =
    let bs = bounds n loop_count in
    let once : repeats (content_tree (Invariants (ranges 1 bs))) ≡ false = list_once (map invariant_tree (ranges 1 bs)) (ranges_once 1 bs) in
    record {
      meets = invariants_meet n program;
      collection = tt;
      fits = entry_fits 59 demo_details program (Invariants (ranges 1 bs)) demo_file_short (list_that_fits (map invariant_tree (ranges 1 bs)) 61 (ranges_fit 58 1 bs));
      no_repeats = repeats_false (tree_of (invariants n program)) (witness_once demo_details program (Invariants (ranges 1 bs)) once);
    }

violation_writable : (n : ℕ) (program : List ℕ) → CanBeWritten (violation n program)
violation_writable n program =
    let text = text_of_segments demo_details program (drawn n ∷ reached ∷ []) demo_file_short in
    record { meets = violation_meets n program; collection = text.collection; fits = text.fits; no_repeats = text.no_repeats }

pub witnesses_are_writable : (n : ℕ) → AreWritable (demo_of n)
unfolding demo_of
witnesses_are_writable n = record {
  invariants_writable = invariants_writable n (correct_program n);
  violation_writable = violation_writable n (faulty_program n);
}

pub writable_at : (n : ℕ) (made : Made) → made ≡ demo_of n → AreWritable made
writable_at n made e = subst AreWritable (sym e) (witnesses_are_writable n)
