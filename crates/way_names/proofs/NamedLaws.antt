-- What a name means at a place: the last of its scope's names that has its key, or else of the static objects.
use Rattle.std.proofs.Common.{◌≡◌, ◌<◌, ◌≤◌, ℕ, sym, ap, subst, ◌∙◌, Bool, List, ◌++◌, length, take, Option, Some, None, IsTrue}
use Rattle.std.specs.List.Sorted.{IsPartitionedBy}
use Rattle.std.proofs.lemmas.Bool.{false≢true}
use Rattle.c_core.specs.Tree.{Program}
use Rattle.c_core.specs.Program.{IsProgram}
use Rattle.c_core.specs.TextOrder.{is_before}
use Rattle.c_core.specs.declared.number.Spot.{Spot}
use Rattle.c_core.specs.declared.place.PlaceKind.{PlaceKind}
use Rattle.c_core.specs.declared.place.PlaceKind.TheVariants.{Statement, Loop, Branch, CallEnd}
use Rattle.way_places.specs.Seeking.{or_else}
use Rattle.way_names.specs.Keys.{has_key, last_of}
use Rattle.way_names.specs.Named.{IsNamed}
use Rattle.c_core.specs.declared.tree.Object.{Object}
use Rattle.way_names.specs.Scopes.{IsScope, front_before, locals_at, scope_of, statics_from}
use Rattle.way_names.specs.Versions.{Finds, behind, look, numbers_of}
use Rattle.way_names.specs.declared.scope.Scope.{Scope}
use Rattle.way_names.specs.Visible.{fixed_before, is_scoped, names_at}
use Rattle.way_names.specs.declared.versions.Versions.{Versions}
use Rattle.way_names.proofs.FrontLaws.{fixed_first}
use Rattle.way_names.proofs.StaticLaws.{front_is_fixed, statics_parted}
use Rattle.way_names.proofs.VersionLaws.{last_joined}
use Rattle.way_names.specs.declared.places.ScopesAt.{ScopesAt}

module _ (p : Program) (fixed : List (Spot × ℕ)) (before nested : Versions) (at_statements at_loops : ScopesAt) (h : IsNamed p fixed before nested at_statements at_loops)
    (key : ℕ) (known : key < length p.objects) where
  pub local_found : (kind : PlaceKind) (spot : Spot) → IsTrue (is_scoped p kind spot) → look nested (scope_of kind spot at_statements at_loops) key ≡ last_of (has_key p.objects key) (locals_at p kind spot)
  local_found Statement spot there = h.statements spot key known
  local_found Loop spot there = h.loops spot key known
  local_found Branch spot there = absurd (false≢true there)
  local_found CallEnd spot there = absurd (false≢true there)

  pub static_found : IsProgram p → (spot : Spot) (count : ℕ) → count ≤ length fixed → numbers_of (take count fixed) ≡ front_before spot fixed
      → look before (behind count) key ≡ last_of (has_key p.objects key) (fixed_before p spot)
  static_found checked spot count within front =
      h.before count within key known ∙ ap (last_of (has_key p.objects key)) (front ∙ ap (front_before spot) h.statics ∙ front_is_fixed p spot checked)

-- local names first
pub local_or_static : (p : Program) (kind : PlaceKind) (spot : Spot) (test : ℕ → Bool) (here : Option ℕ) → here ≡ last_of test (locals_at p kind spot)
    → or_else here (last_of test (fixed_before p spot)) ≡ last_of test (names_at p kind spot)
local_or_static p kind spot test here e =
    ap (λ o. or_else o (last_of test (fixed_before p spot))) e ∙ sym (last_joined test (fixed_before p spot) (locals_at p kind spot)) ∙ ap (last_of test) (sym (fixed_first p kind spot))

-- ---- what the code reads

pub parted : (p : Program) (fixed statics : List (Spot × ℕ)) → IsProgram p → fixed ≡ statics_from 0 p.objects → statics ≡ fixed → (spot : Spot) → IsPartitionedBy (λ (s : Spot × ℕ). is_before s.0 spot) statics
parted p fixed statics checked is same spot =
    subst (λ (l : List (Spot × ℕ)). IsPartitionedBy (λ (s : Spot × ℕ). is_before s.0 spot) l) (sym (same ∙ is)) (statics_parted spot 0 p.objects checked.numbered)

pub static_looked : (p : Program) (fixed : List (Spot × ℕ)) (before nested : Versions) (at_statements at_loops : ScopesAt) → IsNamed p fixed before nested at_statements at_loops
    → (key : ℕ) → key < length p.objects → IsProgram p → (spot : Spot) (statics : List (Spot × ℕ)) → statics ≡ fixed → (count : ℕ) → count ≤ length statics → numbers_of (take count statics) ≡ front_before spot statics
    → look before (behind count) key ≡ last_of (has_key p.objects key) (fixed_before p spot)
static_looked p fixed before nested at_statements at_loops h key known checked spot statics same count within front =
    static_found p fixed before nested at_statements at_loops h key known checked spot count
    (subst (λ (l : List (Spot × ℕ)). count ≤ length l) same within)
    (subst (λ (l : List (Spot × ℕ)). numbers_of (take count l) ≡ front_before spot l) same front)

pub found_in_scopes : (os objects : List Object) (v : Versions) (slice scopes : List Scope) → os ≡ objects → slice ≡ scopes → ((s : Option ℕ) (names : List ℕ) → IsScope slice s names → Finds os v s names)
    → (s : Option ℕ) (names : List ℕ) → IsScope scopes s names → Finds objects v s names
found_in_scopes os objects v slice scopes one same h =
    subst (λ (l : List Scope). (s : Option ℕ) (names : List ℕ) → IsScope l s names → Finds objects v s names) same
    (subst (λ (l : List Object). (s : Option ℕ) (names : List ℕ) → IsScope slice s names → Finds l v s names) one h)

pub found_in_statics : (os objects : List Object) (v : Versions) (slice statics : List (Spot × ℕ)) → os ≡ objects → slice ≡ statics
    → ((n : ℕ) → n ≤ length slice → Finds os v (behind n) (numbers_of (take n slice))) → (n : ℕ) → n ≤ length statics → Finds objects v (behind n) (numbers_of (take n statics))
found_in_statics os objects v slice statics one same h =
    subst (λ (l : List (Spot × ℕ)). (n : ℕ) → n ≤ length l → Finds objects v (behind n) (numbers_of (take n l))) same
    (subst (λ (l : List Object). (n : ℕ) → n ≤ length slice → Finds l v (behind n) (numbers_of (take n slice))) one h)
