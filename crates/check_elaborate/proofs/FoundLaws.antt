-- What is found along a walk is what the parts of a source give.
use Rattle.std.proofs.Common.{◌≡◌, ◌++◌, ◌∷◌, [], ℕ, List, append_assoc, Option, refl, ap, sym, ◌∙◌}
use Rattle.std.proofs.lemmas.List.{append-nil}
use Rattle.std.proofs.lemmas.Grind.{flat_map-append}
use Rattle.c_core.specs.declared.number.DataModel.{DataModel}
use Rattle.c_parser.specs.Tree.{Item}
use Rattle.check_rules.specs.declared.fault.Refusal.{Refusal}
use Rattle.check_rules.specs.Kept.{Kept, kept_of_part, kept_of_parts}
use Rattle.check_rules.specs.Noting.{noted_part, noted_parts}
use Rattle.check_rules.specs.Parts.{Part, bodies_of}
use Rattle.check_rules.specs.Scopes.{Scope}
use Rattle.check_rules.proofs.NotingLaws.{noted_parts-append, noted_part-last}
use Rattle.check_elaborate.specs.Walks.{Found, found, with_parts}

pub same_found : (b c : Option Refusal) (ks ls : List Kept) → b ≡ c → ks ≡ ls → found b ks ≡ found c ls
same_found b c ks ls e f = ap (λ (x : Option Refusal). found x ks) e ∙ ap (found c) f

module _ (m : DataModel) (items : List Item) where
  pub with_none : (f : Found) → f ≡ with_parts m items f []
  with_none f = ap (found f.best) (sym (append-nil f.kept))

  with_append : (f : Found) (ps qs : List Part) → with_parts m items f (ps ++ qs) ≡ with_parts m items (with_parts m items f ps) qs
  with_append f ps qs =
      same_found (noted_parts m items f.best (ps ++ qs)) (noted_parts m items (noted_parts m items f.best ps) qs)
      (f.kept ++ kept_of_parts m (bodies_of items) (ps ++ qs)) ((f.kept ++ kept_of_parts m (bodies_of items) ps) ++ kept_of_parts m (bodies_of items) qs)
      (noted_parts-append m items f.best ps qs)
      (ap (λ (x : List Kept). f.kept ++ x) (flat_map-append (kept_of_part m (bodies_of items)) ps qs)
      ∙ sym (append_assoc f.kept (kept_of_parts m (bodies_of items) ps) (kept_of_parts m (bodies_of items) qs)))

  -- these parts, and then those, in the scope that stands there
  pub found_then : (b c d : Found) (ps : List Part) (qs : Scope → List Part) (s t : Scope)
      → c ≡ with_parts m items b ps → t ≡ s → d ≡ with_parts m items c (qs t) → d ≡ with_parts m items b (ps ++ qs s)
  found_then b c d ps qs s t f e g =
      g ∙ ap (λ (x : Scope). with_parts m items c (qs x)) e ∙ ap (λ (x : Found). with_parts m items x (qs s)) f ∙ sym (with_append b ps (qs s))

  -- parts in a scope that was opened for them and is closed behind them
  pub found_within : (b c d e : Found) (qs : Scope → List Part) (s t : Scope)
      → c ≡ b → t ≡ s → d ≡ with_parts m items c (qs t) → e ≡ d → e ≡ with_parts m items b (qs s)
  found_within b c d e qs s t f g h k = k ∙ h ∙ ap (λ (x : Scope). with_parts m items c (qs x)) g ∙ ap (λ (x : Found). with_parts m items x (qs s)) f

  -- one step of a loop over parts: these are looked at, those are left
  pub found_on : (b c n : Found) (ps : List Part) (qs : Scope → List Part) (s t : Scope)
      → c ≡ with_parts m items b ps → t ≡ s → with_parts m items b (ps ++ qs s) ≡ n → with_parts m items c (qs t) ≡ n
  found_on b c n ps qs s t f e g =
      ap (λ (x : Scope). with_parts m items c (qs x)) e ∙ ap (λ (x : Found). with_parts m items x (qs s)) f ∙ sym (with_append b ps (qs s)) ∙ g

  -- parts of which nothing is kept
  pub quiet : (b c : Found) (ps : List Part) → c.best ≡ noted_parts m items b.best ps → c.kept ≡ b.kept → kept_of_parts m (bodies_of items) ps ≡ []
      → c ≡ with_parts m items b ps
  quiet b c ps e f g =
      same_found c.best (noted_parts m items b.best ps) c.kept (b.kept ++ kept_of_parts m (bodies_of items) ps) e
      (f ∙ sym (ap (λ (x : List Kept). b.kept ++ x) g ∙ append-nil b.kept))

  -- parts of which this is kept
  pub kept_so : (b c : Found) (ps : List Part) (ks : List Kept) → c.best ≡ noted_parts m items b.best ps → c.kept ≡ b.kept ++ ks → kept_of_parts m (bodies_of items) ps ≡ ks
      → c ≡ with_parts m items b ps
  kept_so b c ps ks e f g =
      same_found c.best (noted_parts m items b.best ps) c.kept (b.kept ++ kept_of_parts m (bodies_of items) ps) e
      (f ∙ sym (ap (λ (x : List Kept). b.kept ++ x) g))

  -- a part of which nothing is kept, and then those parts
  pub before_quiet : (b c d : Found) (p : Part) (qs : Scope → List Part) (s t : Scope)
      → c.best ≡ noted_part m items b.best p → c.kept ≡ b.kept → kept_of_part m (bodies_of items) p ≡ [] → t ≡ s → d ≡ with_parts m items c (qs t)
      → d ≡ with_parts m items b (p ∷ qs s)
  before_quiet b c d p qs s t e f g h k =
      found_then b c d (p ∷ []) qs s t (quiet b c (p ∷ []) e f (ap (λ (x : List Kept). x ++ []) g)) h k

  -- a part of which nothing is kept may be looked at behind those that follow it
  pub before_found : (b c d : Found) (p : Part) (ps : List Part)
      → c ≡ with_parts m items b ps → d.best ≡ noted_part m items c.best p → d.kept ≡ c.kept → kept_of_part m (bodies_of items) p ≡ []
      → d ≡ with_parts m items b (p ∷ ps)
  before_found b c d p ps e f g h =
      same_found d.best (noted_parts m items b.best (p ∷ ps)) d.kept (b.kept ++ kept_of_parts m (bodies_of items) (p ∷ ps))
      (f ∙ ap (λ (x : Found). noted_part m items x.best p) e ∙ noted_part-last m items b.best ps p)
      (g ∙ ap (λ (x : Found). x.kept) e ∙ sym (ap (λ (x : List Kept). b.kept ++ (x ++ kept_of_parts m (bodies_of items) ps)) h))
