-- What holds of the witness of a tree in which every rule is met.
use Rattle.std.proofs.Common.{◌≡◌, ℕ, ◌+◌, ◌<◌, List, [], ◌∷◌, length, map, Bool, true, false, Option, Some, None, option_map, unwrap_or, codes, refl, sym, ap, ◌∙◌, arith}
use Rattle.wv_yaml.specs.declared.tree.Tree.{Tree}
use Rattle.wv_yaml.specs.declared.tree.Pair.{Pair}
use Rattle.wv_schema.specs.declared.fault.SchemaFault.{SchemaFault}
use Rattle.wv_schema.specs.declared.witness.Content.{Content}
use Rattle.wv_schema.specs.declared.witness.Entry.{Entry}
use Rattle.wv_schema.specs.Paths.{pairs_in, key_place, item_place}
use Rattle.wv_schema.specs.Table.{AText, OneOf, TwoZero, AnyText, entry_types, invariant_types, needs, in_map, metadata_fields, entry_fields, location_fields, invariant_fields}
use Rattle.wv_schema.specs.Judging.{meets, row_fault, first_fault, rows_fault, items_fault}
use Rattle.wv_schema.specs.Values.{text_at, list_at, map_at, all_pairs, metadata_in, constraint_in, invariant_in, claim_in, is_violation, content_by, entry_by, entry_in, witness_in}
use Rattle.wv_schema.specs.Shapes.{misshapen, shape_fault, entries_fault}
use Rattle.wv_schema.specs.Schema.{segment_fault, claim_fault, content_fault, entry_fault, fault_of_items, schema_fault}
use Rattle.wv_schema.specs.Rules.{IsLocation, IsFormat, AreInvariants, IsContent, AreEntries, MeetsSchema}
use Rattle.wv_schema.proofs.FieldChains.{metadata_chain, entry_chain, invariant_chain}
use Rattle.wv_schema.proofs.MetRules.{first_none, rest_none, text_meets, below_meets, item_meets}
use Rattle.wv_schema.proofs.MetParts.{equal_texts, location_meets, expression_meets}
use Rattle.wv_schema.proofs.MetSegments.{segments_meet}

invariant_meets : (at : List ℕ) (ps : List Pair) → first_fault at ps invariant_fields ≡ None → IsLocation (invariant_in ps).location × IsFormat (invariant_in ps).format
unfolding invariant_in
invariant_meets at ps e =
    let e2 = rest_none (row_fault at ps (needs (codes "type") (AText (OneOf invariant_types)))) _ (sym (invariant_chain at ps) ∙ e) in (
      location_meets _ _ (below_meets at (codes "location") ps location_fields (first_none _ _ e2)),
      expression_meets at ps (rest_none (first_fault at ps (in_map (codes "location") location_fields)) _ e2),
    )

claim_meets : (at : List ℕ) (t : Tree) → claim_fault at t ≡ None → IsLocation (claim_in t).location × IsFormat (claim_in t).format
unfolding claim_fault claim_in
claim_meets at t e =
    invariant_meets _ _ (below_meets at (codes "invariant") (all_pairs t) invariant_fields (item_meets at t (λ ps. in_map (codes "invariant") invariant_fields) e))

claims_meet : (at : List ℕ) (n : ℕ) (ts : List Tree) → items_fault claim_fault at n ts ≡ None → AreInvariants (map claim_in ts)
claims_meet at n [] e = tt
claims_meet at n (t ∷ ts) e = (claim_meets (item_place at n) t (first_none _ _ e), claims_meet at (n + 1) ts (rest_none (claim_fault (item_place at n) t) _ e))

none_inside : (f : ℕ → SchemaFault) (o : Option ℕ) → option_map f o ≡ None → o ≡ None
none_inside f None e = refl
none_inside f (Some n) e = absurd (cc e)

some_shape : (ts : List Tree) → shape_fault ts ≡ None → misshapen ts ≡ None
unfolding shape_fault
some_shape ts e = none_inside _ (misshapen ts) e

content_meets : (at : List ℕ) (is_sequence : Bool) (ts : List Tree) → content_fault at is_sequence ts ≡ None → IsContent (content_by is_sequence ts)
unfolding content_fault
content_meets at true [] e = absurd (cc (some_shape [] e))
content_meets at true (t ∷ ts) e = segments_meet at 0 1 (t ∷ ts) (first_none _ _ e) (some_shape (t ∷ ts) (rest_none (items_fault segment_fault at 0 (t ∷ ts)) _ e)) refl
content_meets at false ts e = claims_meet at 0 ts e

version_is : (at : List ℕ) (ps : List Pair) → first_fault at ps metadata_fields ≡ None → text_at (codes "format_version") ps ≡ codes "2.0"
unfolding meets
version_is at ps e = by _ (text_meets at (codes "format_version") ps TwoZero (first_none _ _ (sym (metadata_chain at ps) ∙ e)))
  where
    by : (text : List ℕ) → meets TwoZero text ≡ true → text ≡ codes "2.0"
    by text e = equal_texts text (codes "2.0") e

entry_meets : (at : List ℕ) (t : Tree) → entry_fault at t ≡ None → ((entry_in t).metadata.format_version ≡ codes "2.0") × IsContent (entry_in t).content
unfolding entry_fault entry_in entry_by metadata_in
entry_meets at t e =
    let f = sym (entry_chain at (all_pairs t)) ∙ item_meets at t (λ ps. entry_fields) (first_none _ _ e) in
    let g = rest_none (row_fault at (all_pairs t) (needs (codes "entry_type") (AText (OneOf entry_types)))) _ f in (
      version_is _ _ (below_meets at (codes "metadata") (all_pairs t) metadata_fields (first_none _ _ g)),
      content_meets _ (is_violation (all_pairs t)) (list_at (codes "content") (all_pairs t)) (rest_none (rows_fault at (λ ps. entry_fields) (pairs_in t)) _ e),
    )

entries_meet : (n : ℕ) (ts : List Tree) → items_fault entry_fault [] n ts ≡ None → AreEntries (map entry_in ts)
entries_meet n [] e = tt
entries_meet n (t ∷ ts) e = (entry_meets (item_place [] n) t (first_none _ _ e), entries_meet (n + 1) ts (rest_none (entry_fault (item_place [] n) t) _ e))

all_meet : (o : Option (List Tree)) → fault_of_items o ≡ None → AreEntries (map entry_in (unwrap_or o [])) × (entries_fault (map entry_in (unwrap_or o [])) ≡ None)
all_meet None e = absurd (cc e)
all_meet (Some ts) e = (entries_meet 0 ts (first_none _ _ e), rest_none (items_fault entry_fault [] 0 ts) _ e)

pub witness_meets : (t : Tree) → schema_fault t ≡ None → MeetsSchema (witness_in t)
unfolding schema_fault witness_in
witness_meets t e = all_meet _ e

-- there is an entry
pub some_entry : (vs : List Entry) → entries_fault vs ≡ None → 0 < length vs
unfolding entries_fault
some_entry [] e = absurd (cc e)
some_entry (v ∷ vs) e = omega arith
