-- The entries of a witness, and what is judged of them together.
use Rattle.std.proofs.Common.{◌≡◌, ℕ, ◌<◌, List, [], ◌∷◌, length, map, Bool, true, false, not, ◌&&◌, ◌||◌, Option, Some, None, is_none, unwrap_or, codes, refl, sym, ap, subst, ◌∙◌, eqb-true, arith}
use Rattle.std.specs.Bool.{◌==◌}
use Rattle.std.specs.Option.{option_or}
use Rattle.std.specs.Str.{bytes_eq}
use Rattle.wv_yaml.specs.declared.tree.Tree.{Tree}
use Rattle.wv_yaml.specs.declared.tree.Pair.{Pair}
use Rattle.wv_schema.specs.declared.fault.SchemaFault.{SchemaFault}
use Rattle.wv_schema.specs.declared.fault.SchemaFault.TheVariants.{WrongKind, Entries}
use Rattle.wv_schema.specs.declared.witness.Metadata.{Metadata}
use Rattle.wv_schema.specs.declared.witness.Content.{Content}
use Rattle.wv_schema.specs.declared.witness.Entry.{Entry}
use Rattle.wv_schema.specs.declared.witness.Witness.{Witness}
use Rattle.wv_schema.specs.Paths.{items_in, key_place}
use Rattle.wv_schema.specs.Table.{AText, AList, OneOf, entry_types, needs, in_map, metadata_fields, entry_fields}
use Rattle.wv_schema.specs.Judging.{row_fault, first_fault, items_fault, when_not}
use Rattle.wv_schema.specs.Values.{text_at, list_at, map_at, metadata_in, is_violation, content_by, entry_by, entry_in, witness_in}
use Rattle.wv_schema.specs.Shapes.{is_end, are_mixed, has_two_sequences, entries_fault}
use Rattle.wv_schema.specs.Schema.{Fails, content_fault, entry_fault, fault_of_items, schema_fault}
use Rattle.wv_schema.proofs.Chains.{stops, later, both, fails_along, first_more, first_end}
use Rattle.wv_schema.proofs.FieldChains.{entry_chain}

-- the fields of an entry, and then its content
abbrev fault_in : List ℕ → List Pair → Option SchemaFault
fault_in at ps = option_or (first_fault at ps entry_fields) (content_fault (key_place at (codes "content")) (is_violation ps) (list_at (codes "content") ps))

last_row : (at : List ℕ) (ps : List Pair) → first_fault at ps (needs (codes "content") AList ∷ []) ≡ option_or (row_fault at ps (needs (codes "content") AList)) None
last_row at ps = first_more at ps (needs (codes "content") AList) [] ∙ ap (option_or (row_fault at ps (needs (codes "content") AList))) (first_end at ps)

pub type_stops : (e : SchemaFault) (at : List ℕ) (ps : List Pair) → Fails e (row_fault at ps (needs (codes "entry_type") (AText (OneOf entry_types)))) → Fails e (fault_in at ps)
type_stops e at ps h = stops e _ _ (fails_along e _ _ (sym (entry_chain at ps)) (stops e _ _ h))

pub metadata_stops : (e : SchemaFault) (at : List ℕ) (ps : List Pair) → row_fault at ps (needs (codes "entry_type") (AText (OneOf entry_types))) ≡ None →
    Fails e (first_fault at ps (in_map (codes "metadata") metadata_fields)) → Fails e (fault_in at ps)
metadata_stops e at ps t h = stops e _ _ (fails_along e _ _ (sym (entry_chain at ps)) (later e _ _ t (stops e _ _ h)))

pub content_stops : (e : SchemaFault) (at : List ℕ) (ps : List Pair) → row_fault at ps (needs (codes "entry_type") (AText (OneOf entry_types))) ≡ None →
    first_fault at ps (in_map (codes "metadata") metadata_fields) ≡ None → Fails e (row_fault at ps (needs (codes "content") AList)) → Fails e (fault_in at ps)
content_stops e at ps t m h =
    stops e _ _ (fails_along e _ _ (sym (entry_chain at ps)) (later e _ _ t (later e _ _ m (fails_along e _ _ (sym (last_row at ps)) (stops e _ _ h)))))

fields_met : (at : List ℕ) (ps : List Pair) → row_fault at ps (needs (codes "entry_type") (AText (OneOf entry_types))) ≡ None →
    first_fault at ps (in_map (codes "metadata") metadata_fields) ≡ None → row_fault at ps (needs (codes "content") AList) ≡ None → first_fault at ps entry_fields ≡ None
fields_met at ps t m h = entry_chain at ps ∙ both _ _ t (both _ _ m (last_row at ps ∙ both _ _ h refl))

-- the type that is read is the one that stands there
violation_is : (ps : List Pair) (word : List ℕ) (b : Bool) → b ≡ bytes_eq word (codes "violation_sequence") → word ≡ text_at (codes "entry_type") ps → b ≡ is_violation ps
unfolding is_violation
violation_is ps word b e h = e ∙ ap (λ text. bytes_eq text (codes "violation_sequence")) h

same_content : (at place : List ℕ) (ps : List Pair) (word : List ℕ) (b : Bool) (items : List Tree) → place ≡ key_place at (codes "content") → b ≡ bytes_eq word (codes "violation_sequence") →
    word ≡ text_at (codes "entry_type") ps → items ≡ list_at (codes "content") ps →
    content_fault place b items ≡ content_fault (key_place at (codes "content")) (is_violation ps) (list_at (codes "content") ps)
same_content at place ps word b items p q r s =
    ap (λ a. content_fault a b items) p
    ∙ ap (λ x. content_fault (key_place at (codes "content")) x items) (violation_is ps word b q r)
    ∙ ap (λ ts. content_fault (key_place at (codes "content")) (is_violation ps) ts) s

pub inside_stops : (e : SchemaFault) (at place : List ℕ) (ps : List Pair) (word : List ℕ) (b : Bool) (items : List Tree) → row_fault at ps (needs (codes "entry_type") (AText (OneOf entry_types))) ≡ None →
    first_fault at ps (in_map (codes "metadata") metadata_fields) ≡ None → row_fault at ps (needs (codes "content") AList) ≡ None →
    place ≡ key_place at (codes "content") → b ≡ bytes_eq word (codes "violation_sequence") → word ≡ text_at (codes "entry_type") ps → items ≡ list_at (codes "content") ps →
    Fails e (content_fault place b items) → Fails e (fault_in at ps)
inside_stops e at place ps word b items t m h p q r s k =
    later e _ _ (fields_met at ps t m h) (fails_along e _ _ (same_content at place ps word b items p q r s) k)

pub entry_met : (at place : List ℕ) (ps : List Pair) (word : List ℕ) (b : Bool) (items : List Tree) → row_fault at ps (needs (codes "entry_type") (AText (OneOf entry_types))) ≡ None →
    first_fault at ps (in_map (codes "metadata") metadata_fields) ≡ None → row_fault at ps (needs (codes "content") AList) ≡ None →
    place ≡ key_place at (codes "content") → b ≡ bytes_eq word (codes "violation_sequence") → word ≡ text_at (codes "entry_type") ps → items ≡ list_at (codes "content") ps →
    content_fault place b items ≡ None → fault_in at ps ≡ None
entry_met at place ps word b items t m h p q r s k = both _ _ (fields_met at ps t m h) (sym (same_content at place ps word b items p q r s) ∙ k)

abbrev entered : Metadata → Content → Entry
entered m c = record { metadata = m; content = c }

pub entry_is : (ps : List Pair) (word : List ℕ) (b : Bool) (items : List Tree) (m : Metadata) (c : Content) → b ≡ bytes_eq word (codes "violation_sequence") → word ≡ text_at (codes "entry_type") ps →
    items ≡ list_at (codes "content") ps → m ≡ metadata_in (map_at (codes "metadata") ps) → c ≡ content_by b items → entered m c ≡ entry_by ps
unfolding entry_by
entry_is ps word b items m c q r s e k =
    ap (λ x. entered x c) e
    ∙ ap (entered (metadata_in (map_at (codes "metadata") ps)))
    (k ∙ ap (λ x. content_by x items) (violation_is ps word b q r) ∙ ap (content_by (is_violation ps)) s)

-- the entries together
pub none_if : {X : Type 0} (xs : List X) → true ≡ (length xs == 0) → xs ≡ []
none_if [] h = refl
none_if (x ∷ xs) h = absurd (omega (arith, eqb-true (length (x ∷ xs)) 0 (sym h)))

pub some_if : {X : Type 0} (xs : List X) → false ≡ (length xs == 0) → 0 < length xs
some_if [] h = absurd (cc h)
some_if (x ∷ xs) h = omega arith

some_end : {X : Type 0} (xs : List X) → 0 < length xs → is_end xs ≡ false
some_end [] h = absurd (omega (arith, h))
some_end (x ∷ xs) h = refl

fit_by : (e m t : Bool) → is_none (when_not (not (e || (m || t))) Entries) ≡ (not e && (not m && not t))
fit_by true m t = refl
fit_by false true t = refl
fit_by false false true = refl
fit_by false false false = refl

fits : (vs : List Entry) → is_none (entries_fault vs) ≡ (not (is_end vs) && (not (are_mixed vs) && not (has_two_sequences vs)))
unfolding entries_fault
fits vs = fit_by (is_end vs) (are_mixed vs) (has_two_sequences vs)

pub empty_is_unfit : (vs : List Entry) → true ≡ (length vs == 0) → false ≡ is_none (entries_fault vs)
unfolding entries_fault
empty_is_unfit vs h = sym (ap (λ xs. is_none (entries_fault xs)) (none_if vs h))

pub mixed_is_unfit : (vs : List Entry) → false ≡ (length vs == 0) → true ≡ are_mixed vs → false ≡ is_none (entries_fault vs)
mixed_is_unfit vs h k =
    sym (fits vs ∙ ap (λ e. not e && (not (are_mixed vs) && not (has_two_sequences vs))) (some_end vs (some_if vs h)) ∙ ap (λ m. not m && not (has_two_sequences vs)) (sym k))

pub fit_unless_two : (vs : List Entry) (t : Bool) → false ≡ (length vs == 0) → false ≡ are_mixed vs → t ≡ has_two_sequences vs → not t ≡ is_none (entries_fault vs)
fit_unless_two vs t h k e =
    ap not e
    ∙ sym (fits vs ∙ ap (λ x. not x && (not (are_mixed vs) && not (has_two_sequences vs))) (some_end vs (some_if vs h)) ∙ ap (λ m. not m && not (has_two_sequences vs)) (sym k))

-- the whole
pub fault_there : (t : Tree) (ts : List Tree) → Some ts ≡ items_in t → schema_fault t ≡ option_or (items_fault entry_fault [] 0 ts) (entries_fault (map entry_in ts))
unfolding schema_fault
fault_there t ts h = ap fault_of_items (sym h)

abbrev listed : List Entry → Witness
listed vs = record { entries = vs }

witness_there : (t : Tree) (ts : List Tree) → Some ts ≡ items_in t → listed (map entry_in ts) ≡ witness_in t
unfolding witness_in
witness_there t ts h = ap (λ o. listed (map entry_in (unwrap_or o []))) h

pub no_list : (e : SchemaFault) (t : Tree) → None ≡ items_in t → Fails e (Some (WrongKind (codes "witness"))) → Fails e (schema_fault t)
unfolding schema_fault
no_list e t h k = subst (λ o. Fails e (fault_of_items o)) h k

pub entries_stop : (e : SchemaFault) (t : Tree) (ts : List Tree) → Some ts ≡ items_in t → Fails e (items_fault entry_fault [] 0 ts) → Fails e (schema_fault t)
entries_stop e t ts h k = fails_along e _ _ (sym (fault_there t ts h)) (stops e _ _ k)

some_fault : (vs : List Entry) → false ≡ is_none (entries_fault vs) → entries_fault vs ≡ Some Entries
unfolding entries_fault
some_fault vs h = by (not (is_end vs || (are_mixed vs || has_two_sequences vs))) h
  where
    by : (b : Bool) → false ≡ is_none (when_not b Entries) → when_not b Entries ≡ Some Entries
    by true h = absurd (cc h)
    by false h = refl

pub unfit_entries : (t : Tree) (ts : List Tree) (vs : List Entry) → Some ts ≡ items_in t → items_fault entry_fault [] 0 ts ≡ None → vs ≡ map entry_in ts → false ≡ is_none (entries_fault vs) → schema_fault t ≡ Some Entries
unfit_entries t ts vs h k e f =
    fault_there t ts h ∙ ap (λ d. option_or d (entries_fault (map entry_in ts))) k ∙ ap entries_fault (sym e) ∙ some_fault vs f

pub no_fault : (vs : List Entry) → true ≡ is_none (entries_fault vs) → entries_fault vs ≡ None
no_fault vs h = by (entries_fault vs) h
  where
    by : (o : Option SchemaFault) → true ≡ is_none o → o ≡ None
    by None h = refl
    by (Some f) h = absurd (cc h)

pub all_met : (t : Tree) (ts : List Tree) (vs : List Entry) → Some ts ≡ items_in t → items_fault entry_fault [] 0 ts ≡ None → vs ≡ map entry_in ts → true ≡ is_none (entries_fault vs) → schema_fault t ≡ None
all_met t ts vs h k e f = fault_there t ts h ∙ both _ _ k (ap entries_fault (sym e) ∙ no_fault vs f)

pub witness_is : (t : Tree) (ts : List Tree) (vs : List Entry) → Some ts ≡ items_in t → vs ≡ map entry_in ts → listed vs ≡ witness_in t
witness_is t ts vs h e = ap listed e ∙ witness_there t ts h
