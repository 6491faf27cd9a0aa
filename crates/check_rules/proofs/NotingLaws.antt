-- The first refusal so far doesn't depend on the order in which the parts are gone through.
use Rattle.std.proofs.Common.{arith, cond, ◌≡◌, ℕ, Bool, true, false, List, [], ◌∷◌, ◌++◌, get_or, Option, Some, None, refl, ap, sym, ◌∙◌}
use Rattle.std.proofs.lemmas.Bool.{false≢true, false_from_ne_true}
use Rattle.std.proofs.lemmas.Bool.Decides.{nat_tests}
use Rattle.c_core.specs.declared.number.DataModel.{DataModel}
use Rattle.c_parser.specs.Tree as raw
use Rattle.check_rules.specs.declared.fault.CheckCode.{CheckCode}
use Rattle.check_rules.specs.declared.fault.CheckCode.TheVariants as code
use Rattle.check_rules.specs.declared.fault.Refusal.{Refusal}
use Rattle.check_rules.specs.Parts.{Part}
use Rattle.check_rules.specs.Codes.{nameless, doubled, mistyped, missized, bodiless, crowded, place_of, place_of_name}
use Rattle.check_rules.specs.First.{refusal, comes_first, rank}
use Rattle.check_rules.specs.Noting.{noted, noted_part, noted_parts}

pub comes_first-not_itself : (f : Refusal) → comes_first f f ≡ false
comes_first-not_itself f = grind (arith, nat_tests)

pub comes_first-then : (f g h : Refusal) → comes_first f g ≡ true → comes_first g h ≡ true → comes_first f h ≡ true
comes_first-then f g h p q = grind (arith, nat_tests)

abbrev code_of : ℕ → CheckCode
code_of r =
    get_or (code.Name ∷ code.Again ∷ code.Typing ∷ code.Size ∷ code.Order ∷ code.Body ∷ code.Main ∷ code.Cells ∷ []) r code.Name

code_of_rank : (c : CheckCode) → code_of (rank c) ≡ c
code_of_rank code.Name = refl
code_of_rank code.Again = refl
code_of_rank code.Typing = refl
code_of_rank code.Size = refl
code_of_rank code.Order = refl
code_of_rank code.Body = refl
code_of_rank code.Main = refl
code_of_rank code.Cells = refl

same_line : (f g : Refusal) → comes_first f g ≡ false → comes_first g f ≡ false → f.spot.line ≡ g.spot.line
same_line f g p q = grind (arith, nat_tests)

same_column : (f g : Refusal) → comes_first f g ≡ false → comes_first g f ≡ false → f.spot.column ≡ g.spot.column
same_column f g p q = grind (arith, nat_tests)

same_rank : (f g : Refusal) → comes_first f g ≡ false → comes_first g f ≡ false → rank f.code ≡ rank g.code
same_rank f g p q = grind (arith, nat_tests)

same_refusal : (f g : Refusal) → f.spot.line ≡ g.spot.line → f.spot.column ≡ g.spot.column → rank f.code ≡ rank g.code → f ≡ g
same_refusal f g l k r =
    let c : f.code ≡ g.code = sym (code_of_rank f.code) ∙ ap code_of r ∙ code_of_rank g.code in
    let s : f.spot ≡ g.spot = ap (λ (x : ℕ). record { line = x; column = f.spot.column }) l ∙ ap (λ (x : ℕ). record { line = g.spot.line; column = x }) k in
    ap (λ (x : CheckCode). refusal x f.spot) c ∙ ap (refusal g.code) s

-- of two refusals one comes first, or they are the same
pub neither_first : (f g : Refusal) → comes_first f g ≡ false → comes_first g f ≡ false → f ≡ g
neither_first f g p q = same_refusal f g (same_line f g p q) (same_column f g p q) (same_rank f g p q)

two : (f g : Refusal) (a b : Bool) → comes_first g f ≡ a → comes_first f g ≡ b → cond a (Some g) (Some f) ≡ cond b (Some f) (Some g)
two f g true true p q = absurd (false≢true (sym (comes_first-not_itself g) ∙ comes_first-then g f g p q))
two f g true false p q = refl
two f g false true p q = refl
two f g false false p q = ap Some (neither_first f g q p)

-- what comes before the first of two comes before the other
not_before : (f g h : Refusal) → comes_first g h ≡ true → comes_first f h ≡ false → comes_first f g ≡ false
not_before f g h p q = false_from_ne_true _ (λ e. false≢true (sym q ∙ comes_first-then f g h e p))

three : (f g h : Refusal) (a b : Bool) → comes_first g f ≡ a → comes_first h f ≡ b
    → noted (cond a (Some g) (Some f)) true h ≡ noted (cond b (Some h) (Some f)) true g
three f g h true true p q = two g h _ _ refl refl
three f g h true false p q = rw (not_before h g f p q, p) refl
three f g h false true p q = rw (not_before g h f q p, q) refl
three f g h false false p q = rw (p, q) refl

noted-in_any_order : (b : Option Refusal) (h k : Bool) (f g : Refusal) → noted (noted b h f) k g ≡ noted (noted b k g) h f
noted-in_any_order b false false f g = refl
noted-in_any_order b false true f g = refl
noted-in_any_order b true false f g = refl
noted-in_any_order None true true f g = two f g _ _ refl refl
noted-in_any_order (Some e) true true f g = three e f g _ _ refl refl

-- a refusal, and whether it holds
record Note : Type 0 where
  holds : Bool
  refusal : Refusal

abbrev note : Bool → Refusal → Note
note h f = record { holds = h; refusal = f }

abbrev all_noted : Option Refusal → List Note → Option Refusal
all_noted b [] = b
all_noted b (n ∷ ns) = all_noted (noted b n.holds n.refusal) ns

one_then_all : (b : Option Refusal) (h : Bool) (f : Refusal) (ns : List Note) → all_noted (noted b h f) ns ≡ noted (all_noted b ns) h f
one_then_all b h f [] = refl
one_then_all b h f (n ∷ ns) =
    ap (λ c. all_noted c ns) (noted-in_any_order b h n.holds f n.refusal) ∙ one_then_all (noted b n.holds n.refusal) h f ns

all_then_all : (b : Option Refusal) (ms ns : List Note) → all_noted (all_noted b ms) ns ≡ all_noted (all_noted b ns) ms
all_then_all b [] ns = refl
all_then_all b (m ∷ ms) ns =
    all_then_all (noted b m.holds m.refusal) ms ns ∙ ap (λ c. all_noted c ms) (one_then_all b m.holds m.refusal ns)

module _ (m : DataModel) (items : List raw.Item) where
  abbrev notes : Part → List Note
  notes part =
      note (nameless part) (refusal code.Name (place_of_name part)) ∷
      note (doubled part) (refusal code.Again (place_of part)) ∷
      note (mistyped m items part) (refusal code.Typing (place_of part)) ∷
      note (missized m items part) (refusal code.Size (place_of part)) ∷
      note (bodiless m items part) (refusal code.Body (place_of part)) ∷
      note (crowded m items part) (refusal code.Cells (place_of part)) ∷ []

  pub noted_part-in_any_order : (b : Option Refusal) (p q : Part) → noted_part m items (noted_part m items b p) q ≡ noted_part m items (noted_part m items b q) p
  noted_part-in_any_order b p q = all_then_all b (notes p) (notes q)

  pub noted_parts-append : (b : Option Refusal) (ps qs : List Part) → noted_parts m items b (ps ++ qs) ≡ noted_parts m items (noted_parts m items b ps) qs
  noted_parts-append b [] qs = refl
  noted_parts-append b (p ∷ ps) qs = noted_parts-append (noted_part m items b p) ps qs

  -- a part may be looked at behind those that follow it
  pub noted_part-last : (b : Option Refusal) (ps : List Part) (p : Part) → noted_part m items (noted_parts m items b ps) p ≡ noted_parts m items b (p ∷ ps)
  noted_part-last b [] p = refl
  noted_part-last b (q ∷ qs) p =
      noted_part-last (noted_part m items b q) qs p ∙ ap (λ c. noted_parts m items c qs) (noted_part-in_any_order b q p)
