-- What is noted along a walk is what the parts of a source give.
use Rattle.std.proofs.Common.{◌≡◌, ◌++◌, ◌∷◌, ℕ, Bool, List, length, Option, ap, sym, ◌∙◌}
use Rattle.c_core.specs.declared.number.DataModel.{DataModel}
use Rattle.c_parser.specs.Tree.{Item, Declared}
use Rattle.check_rules.specs.declared.fault.CheckCode.TheVariants as code
use Rattle.check_rules.specs.declared.fault.Refusal.{Refusal}
use Rattle.check_rules.specs.Codes.{is_again, entry_of, is_wrong_init, is_wrong_size, passes_limit, cells_of_all}
use Rattle.check_rules.specs.declared.sizes.Sizes.{Sizes}
use Rattle.check_rules.specs.First.{refusal}
use Rattle.check_rules.specs.Names.{Entry, entry, Object}
use Rattle.check_rules.specs.Noting.{noted, noted_part, noted_parts}
use Rattle.check_rules.specs.Parts.{Part, Declaring, bodies_of}
use Rattle.check_rules.specs.Scopes.{Scope, seen, cells_in, dims_of, sizes_of}
use Rattle.check_rules.proofs.NotingLaws.{noted_parts-append, noted_part-last}

module _ (m : DataModel) (items : List Item) where
  -- these parts, and then those, in the scope that stands there
  pub noted_then : (b c d : Option Refusal) (ps : List Part) (qs : Scope → List Part) (s t : Scope)
      → c ≡ noted_parts m items b ps → t ≡ s → d ≡ noted_parts m items c (qs t) → d ≡ noted_parts m items b (ps ++ qs s)
  noted_then b c d ps qs s t f e g =
      g ∙ ap (λ x. noted_parts m items c (qs x)) e ∙ ap (λ x. noted_parts m items x (qs s)) f ∙ sym (noted_parts-append m items b ps (qs s))

  -- parts in a scope that was opened for them and is closed behind them
  pub noted_within : (b c d e : Option Refusal) (qs : Scope → List Part) (s t : Scope)
      → c ≡ b → t ≡ s → d ≡ noted_parts m items c (qs t) → e ≡ d → e ≡ noted_parts m items b (qs s)
  noted_within b c d e qs s t f g h k = k ∙ h ∙ ap (λ x. noted_parts m items c (qs x)) g ∙ ap (λ x. noted_parts m items x (qs s)) f

  -- a part may be looked at behind those that follow it
  pub noted_behind : (b c d : Option Refusal) (ps : List Part) (p : Part)
      → c ≡ noted_parts m items b ps → d ≡ noted_part m items c p → d ≡ noted_parts m items b (p ∷ ps)
  noted_behind b c d ps p f g = g ∙ ap (λ x. noted_part m items x p) f ∙ noted_part-last m items b ps p

  -- one step of a loop over parts: these are looked at, those are left
  pub noted_on : (b c n : Option Refusal) (ps : List Part) (qs : Scope → List Part) (s t : Scope)
      → c ≡ noted_parts m items b ps → t ≡ s → noted_parts m items b (ps ++ qs s) ≡ n → noted_parts m items c (qs t) ≡ n
  noted_on b c n ps qs s t f e g =
      ap (λ x. noted_parts m items c (qs x)) e ∙ ap (λ x. noted_parts m items x (qs s)) f ∙ sym (noted_parts-append m items b ps (qs s)) ∙ g

  -- what is refused of a declared name, note by note
  pub declared_noted : (b b1 b2 b3 b4 : Option Refusal) (fixed : Bool) (s : Scope) (d : Declared) (number cells dims : ℕ) (sizes : Sizes) (again wrong small crowded : Bool)
      → number ≡ length s.objects → dims ≡ dims_of d.sizes → sizes ≡ sizes_of m (bodies_of items) (seen s) d.sizes → cells ≡ cells_in sizes
      → again ≡ is_again s (entry d.name (Object number d.ty dims fixed)) → wrong ≡ is_wrong_init dims d.init
      → small ≡ is_wrong_size sizes d.init → crowded ≡ passes_limit (cells_of_all s.objects) cells
      → b1 ≡ noted b again (refusal code.Again d.spot) → b2 ≡ noted b1 wrong (refusal code.Typing d.spot) → b3 ≡ noted b2 small (refusal code.Size d.spot) → b4 ≡ noted b3 crowded (refusal code.Cells d.spot)
      → b4 ≡ noted_part m items b (Declaring fixed s d)
  declared_noted b b1 b2 b3 b4 fixed s d number cells dims sizes again wrong small crowded en ea es ec eg ew el ed f1 f2 f3 f4 =
      let again_is = eg ∙ ap (λ x. is_again s (entry d.name (Object x d.ty dims fixed))) en ∙ ap (λ x. is_again s (entry d.name (Object (length s.objects) d.ty x fixed))) ea in
      let wrong_is = ew ∙ ap (λ x. is_wrong_init x d.init) ea in
      let small_is = el ∙ ap (λ (x : Sizes). is_wrong_size x d.init) es in
      let crowded_is = ed ∙ ap (passes_limit (cells_of_all s.objects)) (ec ∙ ap cells_in es) in
      f4 ∙ ap (λ x. noted x crowded (refusal code.Cells d.spot)) (f3 ∙ ap (λ x. noted x small (refusal code.Size d.spot)) (f2 ∙ ap (λ x. noted x wrong (refusal code.Typing d.spot)) f1))
      ∙ ap (λ x. noted (noted (noted (noted b x (refusal code.Again d.spot)) wrong (refusal code.Typing d.spot)) small (refusal code.Size d.spot)) crowded (refusal code.Cells d.spot)) again_is
      ∙ ap (λ x. noted (noted (noted (noted b (is_again s (entry_of fixed s d)) (refusal code.Again d.spot)) x (refusal code.Typing d.spot)) small (refusal code.Size d.spot)) crowded (refusal code.Cells d.spot)) wrong_is
      ∙ ap (λ x. noted (noted (noted (noted b (is_again s (entry_of fixed s d)) (refusal code.Again d.spot)) (is_wrong_init (dims_of d.sizes) d.init) (refusal code.Typing d.spot)) x (refusal code.Size d.spot)) crowded (refusal code.Cells d.spot)) small_is
      ∙ ap (λ x. noted (noted (noted (noted b (is_again s (entry_of fixed s d)) (refusal code.Again d.spot)) (is_wrong_init (dims_of d.sizes) d.init) (refusal code.Typing d.spot)) (is_wrong_size (sizes_of m (bodies_of items) (seen s) d.sizes) d.init) (refusal code.Size d.spot)) x (refusal code.Cells d.spot)) crowded_is
