-- The invariants of an invariant set, as they are written: the rules are met, and the same is read.
use Rattle.std.proofs.Common.{◌≡◌, ℕ, ◌+◌, List, [], ◌∷◌, true, Option, Some, None, map, option_map, codes, refl, ap, ◌∙◌}
use Rattle.wv_yaml.specs.declared.tree.Tree.TheVariants as tree
use Rattle.wv_yaml.specs.declared.tree.Pair.{Pair}
use Rattle.wv_schema.specs.declared.witness.InvariantKind.{InvariantKind}
use Rattle.wv_schema.specs.declared.witness.InvariantKind.TheVariants.{Loop, Location as LocationInvariant}
use Rattle.wv_schema.specs.declared.witness.Location.{Location}
use Rattle.wv_schema.specs.declared.witness.Invariant.{Invariant}
use Rattle.wv_schema.specs.Paths.{value_of, key_place, item_place}
use Rattle.wv_schema.specs.Table.{OneOf, invariant_types, in_map, location_fields, invariant_fields}
use Rattle.wv_schema.specs.Judging.{meets, first_fault, items_fault}
use Rattle.wv_schema.specs.Values.{text_at, text_if, map_at, location_in, invariant_kind, invariant_in, claim_in}
use Rattle.wv_schema.specs.Schema.{claim_fault}
use Rattle.wv_schema.specs.Rules.{IsLocation, IsFormat, AreInvariants}
use Rattle.wv_schema.specs.Canonical.{pair, text_pair, location_pairs, expression_pairs, invariant_word, invariant_tree}
use Rattle.wv_schema.proofs.Chains.{both, inside, map_at_there}
use Rattle.wv_schema.proofs.FieldChains.{invariant_chain}
use Rattle.wv_schema.proofs.FieldRules.{text_row, text_is, text_if_is, map_row, map_is, all_pairs_of_map, rows_of_map}
use Rattle.wv_schema.proofs.WrittenParts.{location_met, location_back, expression_met, format_by}

abbrev wrote : Invariant → List Pair
wrote v = text_pair (codes "type") (invariant_word v.kind) ∷ pair (codes "location") (tree.Map (location_pairs v.location)) ∷ expression_pairs v.value v.format

abbrev one : Invariant → List Pair
one v = pair (codes "invariant") (tree.Map (wrote v)) ∷ []

type_met : (kind : InvariantKind) → meets (OneOf invariant_types) (invariant_word kind) ≡ true
unfolding meets
type_met Loop = refl
type_met LocationInvariant = refl

kind_back : (kind : InvariantKind) → invariant_kind (invariant_word kind) ≡ kind
unfolding invariant_kind
kind_back Loop = refl
kind_back LocationInvariant = refl

value_there : (v : Invariant) → value_of (codes "value") (wrote v) ≡ Some (tree.Text v.value)
unfolding expression_pairs
value_there v = refl

format_there : (v : Invariant) → value_of (codes "format") (wrote v) ≡ option_map tree.Text v.format
format_there v = format_by v.value v.format

invariant_met : (at : List ℕ) (v : Invariant) → IsLocation v.location → IsFormat v.format → first_fault at (wrote v) invariant_fields ≡ None
invariant_met at v h k =
    invariant_chain at (wrote v)
    ∙ both _ _ (text_row at (codes "type") (wrote v) (OneOf invariant_types) (invariant_word v.kind) refl (type_met v.kind))
    (both _ _
    (inside at (codes "location") (wrote v) (location_pairs v.location) location_fields (map_row at _ (wrote v) _ refl) (map_is _ (wrote v) _ refl) ∙ location_met _ v.location h)
    (expression_met at (wrote v) v.value v.format (value_there v) (format_there v) k))

abbrev claimed : InvariantKind → Location → List ℕ → Option (List ℕ) → Invariant
claimed k l x f = record { kind = k; location = l; value = x; format = f }

same_claim : (k k' : InvariantKind) (l l' : Location) (x x' : List ℕ) (f f' : Option (List ℕ)) → k ≡ k' → l ≡ l' → x ≡ x' → f ≡ f' → claimed k l x f ≡ claimed k' l' x' f'
same_claim k k' l l' x x' f f' p q r s = ap (λ y. claimed y l x f) p ∙ ap (λ y. claimed k' y x f) q ∙ ap (λ y. claimed k' l' y f) r ∙ ap (λ y. claimed k' l' x' y) s

invariant_back : (v : Invariant) → IsLocation v.location → invariant_in (wrote v) ≡ v
unfolding invariant_in
invariant_back v h =
    same_claim _ _ _ _ _ _ _ _
    (ap invariant_kind (text_is (codes "type") (wrote v) (invariant_word v.kind) refl) ∙ kind_back v.kind)
    (ap location_in (map_at_there (codes "location") (wrote v) (location_pairs v.location) (map_is _ (wrote v) _ refl)) ∙ location_back v.location h)
    (text_is (codes "value") (wrote v) v.value (value_there v))
    (text_if_is (codes "format") (wrote v) v.format (format_there v))

inner : (v : Invariant) → map_at (codes "invariant") (one v) ≡ wrote v
inner v = map_at_there (codes "invariant") (one v) (wrote v) (map_is _ (one v) _ refl)

claim_met : (at : List ℕ) (v : Invariant) → IsLocation v.location → IsFormat v.format → claim_fault at (invariant_tree v) ≡ None
unfolding claim_fault invariant_tree
claim_met at v h k =
    rows_of_map at (one v) (λ ps. in_map (codes "invariant") invariant_fields)
    (inside at (codes "invariant") (one v) (wrote v) invariant_fields (map_row at _ (one v) _ refl) (map_is _ (one v) _ refl) ∙ invariant_met _ v h k)

claim_back : (v : Invariant) → IsLocation v.location → claim_in (invariant_tree v) ≡ v
unfolding claim_in invariant_tree
claim_back v h = ap (λ ps. invariant_in (map_at (codes "invariant") ps)) (all_pairs_of_map (one v)) ∙ ap invariant_in (inner v) ∙ invariant_back v h

pub claims_met : (at : List ℕ) (n : ℕ) (vs : List Invariant) → AreInvariants vs → items_fault claim_fault at n (map invariant_tree vs) ≡ None
claims_met at n [] h = refl
claims_met at n (v ∷ vs) h = both _ _ (claim_met (item_place at n) v h.0.0 h.0.1) (claims_met at (n + 1) vs h.1)

pub claims_back : (vs : List Invariant) → AreInvariants vs → map claim_in (map invariant_tree vs) ≡ vs
claims_back [] h = refl
claims_back (v ∷ vs) h = ap (λ x. x ∷ map claim_in (map invariant_tree vs)) (claim_back v h.0.0) ∙ ap (λ xs. v ∷ xs) (claims_back vs h.1)
