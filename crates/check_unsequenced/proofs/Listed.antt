-- What the expressions of a source see is in its list of objects.
use Rattle.std.proofs.Common.{◌≡◌, ℕ, List, [], ◌∷◌, refl, sym, subst, ◌∙◌, Option, Some, None}
use Rattle.std.specs.Prelude.{true}
use Rattle.std.specs.Str.{bytes_eq}
use Rattle.c_core.specs.declared.number.DataModel.{DataModel}
use Rattle.c_core.specs.declared.tree.Callee.{Callee}
use Rattle.c_core.specs.declared.tree.Object.{Object}
use Rattle.c_parser.specs.Tree as raw
use Rattle.check_rules.specs.Names as kind
use Rattle.check_rules.specs.Names.{Kind, Entry, built_in, declared_as, named, or_built_in}
use Rattle.check_rules.specs.Scopes.{after_items, outermost}
use Rattle.check_rules.specs.Parts.{Part, Expression, Declaring, Naming, Initializing, Returning, Leaving, Labelling, bodies_of, parts_of_source, ArmLabelling, CaseConstant}
use Rattle.check_rules.specs.Codes.{closed_names}
use Rattle.check_unsequenced.specs.PartEffects.{AreListed, AreListedParts, NoPart, OnePart, HasStorage, IsListed}
use Rattle.check_wellformed.proofs.Lists.{AllOf}
use Rattle.check_wellformed.proofs.Threads.{items_lead}
use Rattle.check_wellformed.proofs.Known.{AreAmong, IsKind, IsSound, Knows, items_keep}
use Rattle.check_wellformed.proofs.Good.{If, declared_if}
use Rattle.check_wellformed.proofs.Law.{placed_all}

module _ (objects : List Object) (entries : List Entry) (hidden : List (List ℕ)) where
  abbrev IsListedKind : Kind → Type 0
  IsListedKind k = IsListed objects (Some k)

  listed_kind : (name : List ℕ) (k : Kind) → IsKind objects entries hidden name k → IsListedKind k
  listed_kind name (kind.Object n ty dims fixed) h = subst (HasStorage fixed) (sym h.at) h.fixed
  listed_kind name (kind.Function result stated has_body) h = refl
  listed_kind name kind.Closed h = refl

  listed_if : (d : Option Kind) → If IsListedKind d → IsListed objects d
  listed_if None h = refl
  listed_if (Some k) h = h

  listed_or : (d : Option Kind) (b : Option Callee) → IsListed objects d → IsListed objects (or_built_in d b)
  listed_or None None h = refl
  listed_or None (Some c) h = refl
  listed_or (Some (kind.Object n ty dims fixed)) b h = h
  listed_or (Some (kind.Function result stated has_body)) None h = refl
  listed_or (Some (kind.Function result stated has_body)) (Some c) h = refl
  listed_or (Some kind.Closed) None h = refl
  listed_or (Some kind.Closed) (Some c) h = refl

  each_listed : (x : List ℕ) (es : List Entry) → AllOf (IsSound objects entries hidden) es → AllOf (λ e. bytes_eq e.name x ≡ true → IsListedKind e.kind) es
  each_listed x [] h = tt
  each_listed x (e ∷ es) h = ((λ same. listed_kind e.name e.kind h.0), each_listed x es h.1)

  sound_listed : (es : List Entry) → AllOf (IsSound objects entries hidden) es → AreListed objects es
  sound_listed es h = λ x. listed_or (declared_as es x) (built_in x) (listed_if (declared_as es x) (declared_if IsListedKind es x (each_listed x es h)))

  known_listed : (ps : List Part) → AllOf (Knows objects entries hidden) ps → AreListedParts objects ps
  known_listed [] h = NoPart
  known_listed (Expression es r e ∷ ps) h = OnePart (sound_listed es h.0) (known_listed ps h.1)
  known_listed (Declaring fixed s d ∷ ps) h = OnePart refl (known_listed ps h.1)
  known_listed (Naming s e p ∷ ps) h = OnePart refl (known_listed ps h.1)
  known_listed (Initializing fixed s e ∷ ps) h = OnePart refl (known_listed ps h.1)
  known_listed (Returning result p given ∷ ps) h = OnePart refl (known_listed ps h.1)
  known_listed (Leaving may p ∷ ps) h = OnePart refl (known_listed ps h.1)
  known_listed (Labelling before w p ∷ ps) h = OnePart refl (known_listed ps h.1)
  known_listed (ArmLabelling before l p ∷ ps) h = OnePart refl (known_listed ps h.1)
  known_listed (CaseConstant es e ∷ ps) h = OnePart refl (known_listed ps h.1)

pub source_listed : (m : DataModel) (items : List raw.Item) (objects : List Object) → objects ≡ (after_items m (bodies_of items) outermost items).objects → AreListedParts objects (parts_of_source m items)
source_listed m items objects same =
    let names = bodies_of items in
    let entries = (after_items m names outermost items).inner in
    let hidden = closed_names items in
    let lead = items_lead m names outermost items in
    let among : AreAmong objects entries hidden m names outermost items = record { its_entries = λ e c. c; its_hidden = λ n h. h } in
    let placed = placed_all objects entries hidden m names [] (parts_of_source m items) lead.behind (same ∙ lead.are) in
    known_listed objects entries hidden (parts_of_source m items) ((items_keep objects entries hidden m names outermost items among).keeps tt placed).0
