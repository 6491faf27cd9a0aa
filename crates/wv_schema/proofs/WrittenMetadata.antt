-- The metadata of an entry, as they are written: the rules are met, and the same is read.
use Rattle.std.proofs.Common.{◌≡◌, ℕ, ◌+◌, List, [], ◌∷◌, true, Option, Some, None, map, codes, refl, ap, ◌∙◌}
use Rattle.wv_yaml.specs.declared.tree.Tree.TheVariants as tree
use Rattle.wv_yaml.specs.declared.tree.Pair.{Pair}
use Rattle.wv_schema.specs.declared.witness.FileHash.{FileHash}
use Rattle.wv_schema.specs.declared.witness.Metadata.{Metadata}
use Rattle.wv_schema.specs.Paths.{value_of, key_place}
use Rattle.wv_schema.specs.Table.{AnyText, TwoZero, producer_fields, task_fields, metadata_fields}
use Rattle.wv_schema.specs.Judging.{meets, first_fault, items_fault, no_text_fault, are_texts}
use Rattle.wv_schema.specs.Values.{text_at, list_at, map_at, text_or_empty, hash_in, metadata_in}
use Rattle.wv_schema.specs.Canonical.{pair, text_pair, hash_pair, producer_tree, task_tree}
use Rattle.wv_schema.proofs.Chains.{both, inside, map_at_there}
use Rattle.wv_schema.proofs.FieldChains.{metadata_chain}
use Rattle.wv_schema.proofs.FieldRules.{any_met, text_row, text_is, map_row, map_is, list_is, texts_row, text_map_row}

files_met : (at : List ℕ) (n : ℕ) (files : List (List ℕ)) → items_fault no_text_fault at n (map tree.Text files) ≡ None
files_met at n [] = refl
files_met at n (file ∷ files) = files_met at (n + 1) files

files_back : (files : List (List ℕ)) → map text_or_empty (map tree.Text files) ≡ files
files_back [] = refl
files_back (file ∷ files) = ap (λ fs. file ∷ fs) (files_back files)

hashes_met : (hashes : List FileHash) → are_texts (map hash_pair hashes) ≡ true
hashes_met [] = refl
hashes_met (hash ∷ hashes) = hashes_met hashes

hashes_back : (hashes : List FileHash) → map hash_in (map hash_pair hashes) ≡ hashes
hashes_back [] = refl
hashes_back (hash ∷ hashes) = ap (λ hs. hash ∷ hs) (hashes_back hashes)

abbrev producer_pairs : Metadata → List Pair
producer_pairs v = text_pair (codes "name") v.producer_name ∷ text_pair (codes "version") v.producer_version ∷ []

abbrev task_pairs : Metadata → List Pair
task_pairs v =
    pair (codes "input_files") (tree.List (map tree.Text v.input_files))
    ∷ pair (codes "input_file_hashes") (tree.Map (map hash_pair v.input_hashes))
    ∷ text_pair (codes "specification") v.specification
    ∷ text_pair (codes "data_model") v.data_model
    ∷ text_pair (codes "language") v.language
    ∷ []

abbrev pub metadata_pairs : Metadata → List Pair
metadata_pairs v =
    text_pair (codes "format_version") v.format_version
    ∷ text_pair (codes "uuid") v.uuid
    ∷ text_pair (codes "creation_time") v.creation_time
    ∷ pair (codes "producer") (tree.Map (producer_pairs v))
    ∷ pair (codes "task") (tree.Map (task_pairs v))
    ∷ []

producer_met : (at : List ℕ) (v : Metadata) → first_fault at (producer_pairs v) producer_fields ≡ None
unfolding first_fault producer_fields
producer_met at v =
    both _ _ (text_row at (codes "name") (producer_pairs v) AnyText v.producer_name refl (any_met _))
    (both _ _ (text_row at (codes "version") (producer_pairs v) AnyText v.producer_version refl (any_met _)) refl)

task_met : (at : List ℕ) (v : Metadata) → first_fault at (task_pairs v) task_fields ≡ None
unfolding first_fault task_fields
task_met at v =
    both _ _ (texts_row at (codes "input_files") (task_pairs v) (map tree.Text v.input_files) refl (files_met _ 0 v.input_files))
    (both _ _ (text_map_row at (codes "input_file_hashes") (task_pairs v) (map hash_pair v.input_hashes) refl (hashes_met v.input_hashes))
    (both _ _ (text_row at (codes "specification") (task_pairs v) AnyText v.specification refl (any_met _))
    (both _ _ (text_row at (codes "data_model") (task_pairs v) AnyText v.data_model refl (any_met _))
    (both _ _ (text_row at (codes "language") (task_pairs v) AnyText v.language refl (any_met _)) refl))))

version_met : (text : List ℕ) → text ≡ codes "2.0" → meets TwoZero text ≡ true
unfolding meets
version_met text e = ap (meets TwoZero) e

pub metadata_met : (at : List ℕ) (v : Metadata) → v.format_version ≡ codes "2.0" → first_fault at (metadata_pairs v) metadata_fields ≡ None
metadata_met at v h =
    metadata_chain at (metadata_pairs v)
    ∙ both _ _ (text_row at (codes "format_version") (metadata_pairs v) TwoZero v.format_version refl (version_met _ h))
    (both _ _ (text_row at (codes "uuid") (metadata_pairs v) AnyText v.uuid refl (any_met _))
    (both _ _ (text_row at (codes "creation_time") (metadata_pairs v) AnyText v.creation_time refl (any_met _))
    (both _ _
    (inside at (codes "producer") (metadata_pairs v) (producer_pairs v) producer_fields (map_row at _ (metadata_pairs v) _ refl) (map_is _ (metadata_pairs v) _ refl) ∙ producer_met _ v)
    (inside at (codes "task") (metadata_pairs v) (task_pairs v) task_fields (map_row at _ (metadata_pairs v) _ refl) (map_is _ (metadata_pairs v) _ refl) ∙ task_met _ v))))

abbrev noted : List ℕ → List ℕ → List ℕ → List ℕ → List ℕ → List (List ℕ) → List FileHash → List ℕ → List ℕ → List ℕ → Metadata
noted f u c n v i h s d l = record {
  format_version = f;
  uuid = u;
  creation_time = c;
  producer_name = n;
  producer_version = v;
  input_files = i;
  input_hashes = h;
  specification = s;
  data_model = d;
  language = l;
}

same_notes : (f f' u u' c c' n n' v v' : List ℕ) (i i' : List (List ℕ)) (h h' : List FileHash) (s s' d d' l l' : List ℕ) →
    f ≡ f' → u ≡ u' → c ≡ c' → n ≡ n' → v ≡ v' → i ≡ i' → h ≡ h' → s ≡ s' → d ≡ d' → l ≡ l' → noted f u c n v i h s d l ≡ noted f' u' c' n' v' i' h' s' d' l'
same_notes f f' u u' c c' n n' v v' i i' h h' s s' d d' l l' e1 e2 e3 e4 e5 e6 e7 e8 e9 e10 = cc

pub metadata_back : (v : Metadata) → metadata_in (metadata_pairs v) ≡ v
unfolding metadata_in
metadata_back v =
    let p = map_at_there (codes "producer") (metadata_pairs v) (producer_pairs v) (map_is _ (metadata_pairs v) _ refl) in
    let t = map_at_there (codes "task") (metadata_pairs v) (task_pairs v) (map_is _ (metadata_pairs v) _ refl) in
    same_notes _ _ _ _ _ _ _ _ _ _ _ _ _ _ _ _ _ _ _ _
    (text_is (codes "format_version") (metadata_pairs v) v.format_version refl)
    (text_is (codes "uuid") (metadata_pairs v) v.uuid refl)
    (text_is (codes "creation_time") (metadata_pairs v) v.creation_time refl)
    (ap (text_at (codes "name")) p ∙ text_is (codes "name") (producer_pairs v) v.producer_name refl)
    (ap (text_at (codes "version")) p ∙ text_is (codes "version") (producer_pairs v) v.producer_version refl)
    (ap (λ ps. map text_or_empty (list_at (codes "input_files") ps)) t ∙ ap (map text_or_empty) (list_is (codes "input_files") (task_pairs v) _ refl) ∙ files_back v.input_files)
    (ap (λ ps. map hash_in (map_at (codes "input_file_hashes") ps)) t
    ∙ ap (map hash_in) (map_at_there (codes "input_file_hashes") (task_pairs v) (map hash_pair v.input_hashes) (map_is _ (task_pairs v) _ refl))
    ∙ hashes_back v.input_hashes)
    (ap (text_at (codes "specification")) t ∙ text_is (codes "specification") (task_pairs v) v.specification refl)
    (ap (text_at (codes "data_model")) t ∙ text_is (codes "data_model") (task_pairs v) v.data_model refl)
    (ap (text_at (codes "language")) t ∙ text_is (codes "language") (task_pairs v) v.language refl)
