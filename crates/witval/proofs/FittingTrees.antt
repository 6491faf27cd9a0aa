-- The tree of a witness with short keys has a canonical text: all its other keys are the schema's, and they nest no deeper than these.
use Rattle.std.proofs.Common.{◌≤◌, ℕ, suc, List, [], ◌∷◌, ◌++◌, length, map, Option, Some, None, codes, lit≤}
use lib.Utf8.{encode}
use Rattle.std.specs.List.{AllByRecursion}
use Rattle.std.specs.Str.{chars}
use Rattle.wv_schema.specs.Canonical.{constraint_pairs, constraints_if, content_tree, counts_if, entry_tree, expression_pairs, hash_pair, invariant_tree, location_pairs, metadata_tree, producer_tree, segment_tree, step_tree, task_tree, texts_if, tree_of}
use Rattle.wv_schema.specs.declared.witness.Constraint.{Constraint}
use Rattle.wv_schema.specs.declared.witness.Content.{Content}
use Rattle.wv_schema.specs.declared.witness.Content.TheVariants.{Violation, Invariants}
use Rattle.wv_schema.specs.declared.witness.Entry.{Entry}
use Rattle.wv_schema.specs.declared.witness.FileHash.{FileHash}
use Rattle.wv_schema.specs.declared.witness.Invariant.{Invariant}
use Rattle.wv_schema.specs.declared.witness.Location.{Location}
use Rattle.wv_schema.specs.declared.witness.Metadata.{Metadata}
use Rattle.wv_schema.specs.declared.witness.Segment.{Segment}
use Rattle.wv_schema.specs.declared.witness.Waypoint.{Waypoint}
use Rattle.wv_schema.specs.declared.witness.Witness.{Witness}
use Rattle.wv_yaml.specs.Canon.{Fits, IsCollection, PairFits}
use Rattle.wv_yaml.specs.Document.{max_depth}
use Rattle.wv_yaml.specs.declared.tree.Tree.{Tree}
use Rattle.wv_yaml.specs.declared.tree.Tree.TheVariants as tree
use Rattle.wv_yaml.specs.declared.tree.Pair.{Pair}
use Rattle.wv_yaml.proofs.FlowFits.{list_that_fits, map_that_fits}
use Rattle.yaml_scalars.specs.Tokens.{max_key}
use Rattle.witval.specs.inside.Keys.{AreShort, HasShortKeys, IsShort}

abbrev PairsFit : ℕ → List Pair → Type 0
PairsFit e ps = AllByRecursion (λ p. PairFits e p) ps

abbrev TreesFit : ℕ → List Tree → Type 0
TreesFit e ts = AllByRecursion (λ t. Fits e t) ts

joined : (e : ℕ) (ps qs : List Pair) → PairsFit e ps → PairsFit e qs → PairsFit e (ps ++ qs)
joined e [] qs h k = k
joined e (p ∷ ps) qs h k = (h.0, joined e ps qs h.1 k)

texts_fit : (e : ℕ) (key : List ℕ) (o : Option (List ℕ)) → length (chars key) ≤ max_key → PairsFit e (texts_if key o)
texts_fit e key None h = tt
texts_fit e key (Some text) h = ((h, tt), tt)

counts_fit : (e : ℕ) (key : List ℕ) (o : Option ℕ) → length (chars key) ≤ max_key → PairsFit e (counts_if key o)
counts_fit e key None h = tt
counts_fit e key (Some n) h = ((h, tt), tt)

location_fits : (e : ℕ) (v : Location) → Fits (suc e) (tree.Map (location_pairs v))
unfolding location_pairs encode chars
location_fits e v =
    map_that_fits (location_pairs v) e
    (joined e _ _ (texts_fit e (codes "file_name") v.file_name (lit≤ tt))
    ((lit≤ tt, tt), joined e _ _ (counts_fit e (codes "column") v.column (lit≤ tt)) (texts_fit e (codes "function") v.function (lit≤ tt))))

expression_fits : (e : ℕ) (value : List ℕ) (format : Option (List ℕ)) → PairsFit e (expression_pairs value format)
unfolding expression_pairs encode chars
expression_fits e value format = ((lit≤ tt, tt), texts_fit e (codes "format") format (lit≤ tt))

constraint_fits : (e : ℕ) (o : Option Constraint) → PairsFit (suc e) (constraints_if o)
unfolding constraint_pairs encode chars
constraint_fits e None = tt
constraint_fits e (Some v) = ((lit≤ tt, map_that_fits _ e (expression_fits e v.value v.format)), tt)

step_fits : (e : ℕ) (action : List ℕ) (v : Waypoint) → Fits (suc (suc (suc e))) (step_tree action v)
unfolding step_tree encode chars
step_fits e action v =
    map_that_fits _ (suc (suc e))
    ((lit≤ tt, map_that_fits _ (suc e) ((lit≤ tt, tt), ((lit≤ tt, tt), ((lit≤ tt, location_fits e v.location), constraint_fits e v.constraint)))), tt)

steps_fit : (e : ℕ) (avoids : List Waypoint) (follow : Waypoint)
    → TreesFit (suc (suc (suc e))) (map (step_tree (codes "avoid")) avoids ++ (step_tree (codes "follow") follow ∷ []))
steps_fit e [] follow = (step_fits e (codes "follow") follow, tt)
steps_fit e (v ∷ vs) follow = (step_fits e (codes "avoid") v, steps_fit e vs follow)

segment_fits : (e : ℕ) (v : Segment) → Fits (suc (suc (suc (suc (suc e))))) (segment_tree v)
unfolding segment_tree encode chars
segment_fits e v =
    map_that_fits _ (suc (suc (suc (suc e)))) ((lit≤ tt, list_that_fits _ (suc (suc (suc e))) (steps_fit e v.avoids v.follow)), tt)

segments_fit : (e : ℕ) (vs : List Segment) → TreesFit (suc (suc (suc (suc (suc e))))) (map segment_tree vs)
segments_fit e [] = tt
segments_fit e (v ∷ vs) = (segment_fits e v, segments_fit e vs)

invariant_fits : (e : ℕ) (v : Invariant) → Fits (suc (suc (suc e))) (invariant_tree v)
unfolding invariant_tree encode chars
invariant_fits e v =
    map_that_fits _ (suc (suc e))
    ((lit≤ tt, map_that_fits _ (suc e) ((lit≤ tt, tt), ((lit≤ tt, location_fits e v.location), expression_fits (suc e) v.value v.format))), tt)

invariants_fit : (e : ℕ) (vs : List Invariant) → TreesFit (suc (suc (suc e))) (map invariant_tree vs)
invariants_fit e [] = tt
invariants_fit e (v ∷ vs) = (invariant_fits e v, invariants_fit e vs)

files_fit : (e : ℕ) (files : List (List ℕ)) → TreesFit e (map tree.Text files)
files_fit e [] = tt
files_fit e (file ∷ files) = (tt, files_fit e files)

hashes_fit : (e : ℕ) (hashes : List FileHash) → AllByRecursion IsShort hashes → PairsFit e (map hash_pair hashes)
hashes_fit e [] h = tt
hashes_fit e (hash ∷ hashes) h = ((h.0, tt), hashes_fit e hashes h.1)

producer_fits : (e : ℕ) (v : Metadata) → Fits (suc e) (producer_tree v)
unfolding producer_tree encode chars
producer_fits e v = map_that_fits _ e ((lit≤ tt, tt), ((lit≤ tt, tt), tt))

task_fits : (e : ℕ) (v : Metadata) → AllByRecursion IsShort v.input_hashes → Fits (suc (suc e)) (task_tree v)
unfolding task_tree encode chars
task_fits e v h =
    map_that_fits _ (suc e) (
      (lit≤ tt, list_that_fits _ e (files_fit e v.input_files)),
      ((lit≤ tt, map_that_fits _ e (hashes_fit e v.input_hashes h)), ((lit≤ tt, tt), ((lit≤ tt, tt), ((lit≤ tt, tt), tt)))),
    )

metadata_fits : (e : ℕ) (v : Metadata) → AllByRecursion IsShort v.input_hashes → Fits (suc (suc (suc e))) (metadata_tree v)
unfolding metadata_tree encode chars
metadata_fits e v h =
    map_that_fits _ (suc (suc e))
    ((lit≤ tt, tt), ((lit≤ tt, tt), ((lit≤ tt, tt), ((lit≤ tt, producer_fits (suc e) v), ((lit≤ tt, task_fits e v h), tt)))))

content_fits : (e : ℕ) (content : Content) → Fits (suc (suc (suc (suc (suc (suc e)))))) (content_tree content)
content_fits e (Violation segments) = list_that_fits _ (suc (suc (suc (suc (suc e))))) (segments_fit e segments)
content_fits e (Invariants invariants) = list_that_fits _ (suc (suc (suc (suc (suc e))))) (invariants_fit (suc (suc e)) invariants)

entry_fits : (e : ℕ) (v : Entry) → AreShort v → Fits (suc (suc (suc (suc (suc (suc (suc e))))))) (entry_tree v)
unfolding entry_tree encode chars
entry_fits e v h =
    map_that_fits _ (suc (suc (suc (suc (suc (suc e))))))
    ((lit≤ tt, tt), ((lit≤ tt, metadata_fits (suc (suc (suc e))) v.metadata h), ((lit≤ tt, content_fits e v.content), tt)))

entries_fit : (e : ℕ) (vs : List Entry) → AllByRecursion AreShort vs → TreesFit (suc (suc (suc (suc (suc (suc (suc e))))))) (map entry_tree vs)
entries_fit e [] h = tt
entries_fit e (v ∷ vs) h = (entry_fits e v h.0, entries_fit e vs h.1)

pub tree_fits : (w : Witness) → HasShortKeys w → Fits max_depth (tree_of w)
unfolding tree_of
tree_fits w h = list_that_fits (map entry_tree w.entries) 63 (entries_fit 56 w.entries h)

-- it is a list
pub tree_is_collection : (w : Witness) → IsCollection (tree_of w)
unfolding tree_of
tree_is_collection w = tt
