-- A whole witness, as it is written: the rules are met, and the same is read.
use Rattle.std.proofs.Common.{◌≡◌, ℕ, ◌+◌, List, [], ◌∷◌, Bool, true, false, Option, Some, None, Result, Ok, map, unwrap_or, codes, refl, ap, ◌∙◌}
use Rattle.std.specs.Str.{bytes_eq}
use Rattle.wv_yaml.specs.declared.tree.Tree.{Tree}
use Rattle.wv_yaml.specs.declared.tree.Tree.TheVariants as tree
use Rattle.wv_yaml.specs.declared.tree.Pair.{Pair}
use Rattle.wv_schema.specs.declared.fault.SchemaFault.{SchemaFault}
use Rattle.wv_schema.specs.declared.witness.Metadata.{Metadata}
use Rattle.wv_schema.specs.declared.witness.Content.{Content}
use Rattle.wv_schema.specs.declared.witness.Content.TheVariants.{Violation, Invariants}
use Rattle.wv_schema.specs.declared.witness.Entry.{Entry}
use Rattle.wv_schema.specs.declared.witness.Witness.{Witness}
use Rattle.wv_schema.specs.Paths.{key_place, item_place}
use Rattle.wv_schema.specs.Table.{OneOf, AList, entry_types, needs, metadata_fields, entry_fields}
use Rattle.wv_schema.specs.Judging.{meets, first_fault, items_fault}
use Rattle.wv_schema.specs.Values.{text_at, list_at, map_at, metadata_in, all_pairs, is_violation, content_by, entry_by, entry_in, witness_in}
use Rattle.wv_schema.specs.Shapes.{violates, entries_fault}
use Rattle.wv_schema.specs.Schema.{content_fault, entry_fault, fault_of_items, schema_fault, judged, witness_of}
use Rattle.wv_schema.specs.Rules.{IsContent, AreEntries, MeetsSchema}
use Rattle.wv_schema.specs.Canonical.{pair, text_pair, segment_tree, invariant_tree, metadata_tree, producer_tree, task_tree, content_word, content_tree, entry_tree, tree_of}
use Rattle.wv_schema.proofs.Chains.{both, inside, first_more, first_end, map_at_there}
use Rattle.wv_schema.proofs.FieldChains.{entry_chain}
use Rattle.wv_schema.proofs.FieldRules.{items_of_list, text_row, text_is, map_row, map_is, list_row, list_is, all_pairs_of_map, rows_of_map}
use Rattle.wv_schema.proofs.WrittenMetadata.{metadata_pairs, metadata_met, metadata_back}
use Rattle.wv_schema.proofs.WrittenSegments.{shape_met_by, segments_met, segments_back}
use Rattle.wv_schema.proofs.WrittenClaims.{claims_met, claims_back}

abbrev wrote : Entry → List Pair
wrote v =
    text_pair (codes "entry_type") (content_word v.content)
    ∷ pair (codes "metadata") (tree.Map (metadata_pairs v.metadata))
    ∷ pair (codes "content") (content_tree v.content)
    ∷ []

abbrev items : Content → List Tree
items (Violation segments) = map segment_tree segments
items (Invariants invariants) = map invariant_tree invariants

content_is : (c : Content) → Some (content_tree c) ≡ Some (tree.List (items c))
content_is (Violation segments) = refl
content_is (Invariants invariants) = refl

type_met : (c : Content) → meets (OneOf entry_types) (content_word c) ≡ true
unfolding meets
type_met (Violation segments) = refl
type_met (Invariants invariants) = refl

type_back : (c : Content) → bytes_eq (content_word c) (codes "violation_sequence") ≡ violates c
type_back (Violation segments) = refl
type_back (Invariants invariants) = refl

violation_there : (v : Entry) → is_violation (wrote v) ≡ violates v.content
unfolding is_violation
violation_there v = ap (λ text. bytes_eq text (codes "violation_sequence")) (text_is (codes "entry_type") (wrote v) (content_word v.content) refl) ∙ type_back v.content

content_there : (v : Entry) → list_at (codes "content") (wrote v) ≡ items v.content
content_there v = list_is (codes "content") (wrote v) (items v.content) (content_is v.content)

content_met : (at : List ℕ) (c : Content) → IsContent c → content_fault at (violates c) (items c) ≡ None
unfolding content_fault
content_met at (Violation segments) h = both _ _ (segments_met at 0 segments h) (shape_met_by segments h)
content_met at (Invariants invariants) h = claims_met at 0 invariants h

content_back : (c : Content) → IsContent c → content_by (violates c) (items c) ≡ c
content_back (Violation segments) h = ap Violation (segments_back segments h)
content_back (Invariants invariants) h = ap Invariants (claims_back invariants h)

fields_met : (at : List ℕ) (v : Entry) → v.metadata.format_version ≡ codes "2.0" → first_fault at (wrote v) entry_fields ≡ None
fields_met at v h =
    entry_chain at (wrote v)
    ∙ both _ _ (text_row at (codes "entry_type") (wrote v) (OneOf entry_types) (content_word v.content) refl (type_met v.content))
    (both _ _
    (inside at (codes "metadata") (wrote v) (metadata_pairs v.metadata) metadata_fields (map_row at _ (wrote v) _ refl) (map_is _ (wrote v) _ refl) ∙ metadata_met _ v.metadata h)
    (first_more at (wrote v) (needs (codes "content") AList) []
    ∙ both _ _ (list_row at (codes "content") (wrote v) (items v.content) (content_is v.content)) (first_end at (wrote v))))

entry_met : (at : List ℕ) (v : Entry) → v.metadata.format_version ≡ codes "2.0" → IsContent v.content → entry_fault at (entry_tree v) ≡ None
unfolding entry_fault entry_tree metadata_tree producer_tree task_tree
entry_met at v h k =
    both _ _ (rows_of_map at (wrote v) (λ ps. entry_fields) (fields_met at v h))
    (ap (λ ps. content_fault (key_place at (codes "content")) (is_violation ps) (list_at (codes "content") ps)) (all_pairs_of_map (wrote v))
    ∙ ap (λ b. content_fault (key_place at (codes "content")) b (list_at (codes "content") (wrote v))) (violation_there v)
    ∙ ap (content_fault (key_place at (codes "content")) (violates v.content)) (content_there v)
    ∙ content_met _ v.content k)

abbrev entered : Metadata → Content → Entry
entered m c = record { metadata = m; content = c }

entry_back : (v : Entry) → IsContent v.content → entry_in (entry_tree v) ≡ v
unfolding entry_in entry_by entry_tree metadata_tree producer_tree task_tree
entry_back v k =
    ap entry_by (all_pairs_of_map (wrote v))
    ∙ ap (λ m. entered m (content_by (is_violation (wrote v)) (list_at (codes "content") (wrote v))))
    (ap metadata_in (map_at_there (codes "metadata") (wrote v) (metadata_pairs v.metadata) (map_is _ (wrote v) _ refl)) ∙ metadata_back v.metadata)
    ∙ ap (λ b. entered v.metadata (content_by b (list_at (codes "content") (wrote v)))) (violation_there v)
    ∙ ap (λ ts. entered v.metadata (content_by (violates v.content) ts)) (content_there v)
    ∙ ap (entered v.metadata) (content_back v.content k)

entries_met : (n : ℕ) (vs : List Entry) → AreEntries vs → items_fault entry_fault [] n (map entry_tree vs) ≡ None
entries_met n [] h = refl
entries_met n (v ∷ vs) h = both _ _ (entry_met (item_place [] n) v h.0.0 h.0.1) (entries_met (n + 1) vs h.1)

entries_back : (vs : List Entry) → AreEntries vs → map entry_in (map entry_tree vs) ≡ vs
entries_back [] h = refl
entries_back (v ∷ vs) h = ap (λ x. x ∷ map entry_in (map entry_tree vs)) (entry_back v h.0.1) ∙ ap (λ xs. v ∷ xs) (entries_back vs h.1)

witness_met : (v : Witness) → MeetsSchema v → schema_fault (tree_of v) ≡ None
unfolding schema_fault tree_of
witness_met v h =
    ap fault_of_items (items_of_list (map entry_tree v.entries))
    ∙ both _ _ (entries_met 0 v.entries h.0) (ap entries_fault (entries_back v.entries h.0) ∙ h.1)

abbrev listed : List Entry → Witness
listed vs = record { entries = vs }

witness_back : (v : Witness) → MeetsSchema v → witness_in (tree_of v) ≡ v
unfolding witness_in tree_of
witness_back v h =
    ap (λ o. listed (map entry_in (unwrap_or o []))) (items_of_list (map entry_tree v.entries)) ∙ ap listed (entries_back v.entries h.0)

pub read_again : (v : Witness) → MeetsSchema v → witness_of (tree_of v) ≡ Ok v
unfolding witness_of
read_again v h = ap (λ d. judged d (witness_in (tree_of v))) (witness_met v h) ∙ ap Ok (witness_back v h)
