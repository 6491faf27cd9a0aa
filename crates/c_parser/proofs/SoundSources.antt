-- Each list of tokens is read as the source that it spells, or as stopping where it stops.
use Rattle.std.proofs.Common.{◌≡◌, ℕ, zero, suc, ◌≤◌, List, [], ◌∷◌, length, refl, sym, ◌∙◌, subst, inl, inr, ◌⊎◌, Option, Some, None, arith}
use Rattle.c_core.specs.declared.number.Spot.{Spot}
use Rattle.c_tokens.specs.declared.token.Token.{Token}
use Rattle.c_parser.specs.Tree.{Item}
use Rattle.c_parser.specs.ReadExpressions.{Read}
use Rattle.c_parser.specs.Items.{Reach, Function, Prototype, Global, Closed}
use Rattle.c_parser.specs.ReadItems.{read_reach, read_function, read_prototype, read_global, read_closed, read_nothing, first_form, read_item, Outcome, Source, Syntax, onto_outcome, read_items}
use Rattle.c_parser.specs.Sources.{SpellsNone, Takes, TakesReach, TakesFunction, TakesPrototype, TakesGlobal, TakesClosed, TakesNothing, Items, NoMoreItems, MoreItems, Stops, StopsHere, StopsLater, max_height, max_brackets, IsSource, IsSyntax}
use Rattle.c_parser.proofs.ReadLaws.{none_some}
use Rattle.c_parser.proofs.ItemLaws.{reach_read, function_read, prototype_read, global_read, nothing_read}
use Rattle.c_parser.proofs.ClosedLaws.{closed_read}
use Rattle.c_parser.proofs.ItemLengths.{takes_shorter}
use Rattle.c_parser.proofs.SoundItems.{reach_sound, function_sound, prototype_sound, global_sound, nothing_sound}
use Rattle.c_parser.proofs.SoundClosed.{closed_sound}

abbrev Reader : Type 0
Reader = List Token → Read (Option Item)

module _ (h b : ℕ) where
  -- the forms from this one on
  abbrev closed_on : List Reader
  closed_on = read_closed h b ∷ read_nothing h b ∷ []

  abbrev global_on : List Reader
  global_on = read_global h b ∷ closed_on

  abbrev prototype_on : List Reader
  prototype_on = read_prototype h b ∷ global_on

  abbrev function_on : List Reader
  function_on = read_function h b ∷ prototype_on

  -- by the form that gives an item
  tried_by : {Z : Type 0} (o : Read (Option Item)) (forms : List Reader) (ts : List Token) (r : Option Item × List Token) → elim o [ None ↦ first_form h b forms ts | Some x ↦ Some x ] ≡ Some r →
      (o ≡ Some r → Z) → (o ≡ None → first_form h b forms ts ≡ Some r → Z) → Z
  tried_by None forms ts r e here later = later refl e
  tried_by (Some x) forms ts r e here later = here e

  tried : {Z : Type 0} (form : Reader) (forms : List Reader) (ts : List Token) (r : Option Item × List Token) → first_form h b (form ∷ forms) ts ≡ Some r →
      (form ts ≡ Some r → Z) → (form ts ≡ None → first_form h b forms ts ≡ Some r → Z) → Z
  tried form forms ts r e here later = tried_by (form ts) forms ts r e here later

  spells_none : (Form : List Token → Option Item → List Token → Type 0) (form : Reader) (ts : List Token) → ((x : Option Item) (rest : List Token) → Form ts x rest → form ts ≡ Some (x, rest)) → form ts ≡ None → SpellsNone Form ts
  spells_none Form form ts complete e x rest d = none_some (x, rest) (sym e ∙ complete x rest d)

  no_reach : (ts : List Token) → read_reach h b ts ≡ None → SpellsNone (Reach h b) ts
  no_reach ts e = spells_none (Reach h b) (read_reach h b) ts (reach_read h b ts) e

  no_function : (ts : List Token) → read_function h b ts ≡ None → SpellsNone (Function h b) ts
  no_function ts e = spells_none (Function h b) (read_function h b) ts (function_read h b ts) e

  no_prototype : (ts : List Token) → read_prototype h b ts ≡ None → SpellsNone (Prototype h b) ts
  no_prototype ts e = spells_none (Prototype h b) (read_prototype h b) ts (prototype_read h b ts) e

  no_global : (ts : List Token) → read_global h b ts ≡ None → SpellsNone (Global h b) ts
  no_global ts e = spells_none (Global h b) (read_global h b) ts (global_read h b ts) e

  no_closed : (ts : List Token) → read_closed h b ts ≡ None → SpellsNone (Closed h b) ts
  no_closed ts e = spells_none (Closed h b) (read_closed h b) ts (closed_read h b ts) e

  -- the item that is read is taken
  pub item_sound : (ts : List Token) (r : Option Item × List Token) → read_item h b ts ≡ Some r → Takes h b ts r.0 r.1
  item_sound ts r e =
      tried (read_reach h b) function_on ts r e (λ x. TakesReach (reach_sound h b ts r x)) (λ not_reach e.
      tried (read_function h b) prototype_on ts r e (λ x. TakesFunction (no_reach ts not_reach) (function_sound h b ts r x)) (λ not_function e.
      tried (read_prototype h b) global_on ts r e (λ x. TakesPrototype (no_reach ts not_reach) (no_function ts not_function) (prototype_sound h b ts r x)) (λ not_prototype e.
      tried (read_global h b) closed_on ts r e (λ x. TakesGlobal (no_reach ts not_reach) (no_function ts not_function) (no_prototype ts not_prototype) (global_sound h b ts r x)) (λ not_global e.
      tried (read_closed h b) (read_nothing h b ∷ []) ts r e (λ x. TakesClosed (no_reach ts not_reach) (no_function ts not_function) (no_prototype ts not_prototype) (no_global ts not_global) (closed_sound h b ts r x)) (λ not_closed e.
      tried (read_nothing h b) [] ts r e (λ x. TakesNothing (no_reach ts not_reach) (no_function ts not_function) (no_prototype ts not_prototype) (no_global ts not_global) (no_closed ts not_closed) (nothing_sound h b ts r x)) (λ not_nothing e. none_some r e))))))

  untried_by : (o : Read (Option Item)) (forms : List Reader) (ts : List Token) → ◌≡◌ {A = Read (Option Item)} (elim o [ None ↦ first_form h b forms ts | Some x ↦ Some x ]) None → (o ≡ None) × (first_form h b forms ts ≡ None)
  untried_by None forms ts e = (refl, e)
  untried_by (Some x) forms ts e = none_some x (sym e)

  -- no form gives an item
  untried : (form : Reader) (forms : List Reader) (ts : List Token) → first_form h b (form ∷ forms) ts ≡ None → (form ts ≡ None) × (first_form h b forms ts ≡ None)
  untried form forms ts e = untried_by (form ts) forms ts e

  -- where none is read, none is taken
  pub item_unread : (ts : List Token) (x : Option Item) (rest : List Token) → read_item h b ts ≡ None → Takes h b ts x rest → ⊥
  item_unread ts x rest e d = by x rest d
    where
      one : (read_reach h b ts ≡ None) × (first_form h b function_on ts ≡ None)
      one = untried (read_reach h b) function_on ts e

      two : (read_function h b ts ≡ None) × (first_form h b prototype_on ts ≡ None)
      two = untried (read_function h b) prototype_on ts one.1

      three : (read_prototype h b ts ≡ None) × (first_form h b global_on ts ≡ None)
      three = untried (read_prototype h b) global_on ts two.1

      four : (read_global h b ts ≡ None) × (first_form h b closed_on ts ≡ None)
      four = untried (read_global h b) closed_on ts three.1

      five : (read_closed h b ts ≡ None) × (first_form h b (read_nothing h b ∷ []) ts ≡ None)
      five = untried (read_closed h b) (read_nothing h b ∷ []) ts four.1

      by : (x : Option Item) (rest : List Token) → Takes h b ts x rest → ⊥
      by x rest (TakesReach d) = no_reach ts one.0 x rest d
      by x rest (TakesFunction d0 d) = no_function ts two.0 x rest d
      by x rest (TakesPrototype d0 d1 d) = no_prototype ts three.0 x rest d
      by x rest (TakesGlobal d0 d1 d2 d) = no_global ts four.0 x rest d
      by x rest (TakesClosed d0 d1 d2 d3 d) = no_closed ts five.0 x rest d
      by x rest (TakesNothing d0 d1 d2 d3 d4 d) = none_some (x, rest) (sym (untried (read_nothing h b) [] ts five.1).0 ∙ nothing_read h b ts x rest d)

  -- what the tokens then are
  abbrev Judged : List Token → Outcome → Type 0
  Judged ts (Source xs) = Items h b ts xs
  Judged ts (Syntax p) = Stops h b ts p

  onto_judged : (x : Option Item) (o : Outcome) (ts rest : List Token) → Takes h b ts x rest → Judged rest o → Judged ts (onto_outcome x o)
  onto_judged None (Source xs) ts rest d j = MoreItems d j
  onto_judged None (Syntax p) ts rest d j = StopsLater d j
  onto_judged (Some i) (Source xs) ts rest d j = MoreItems d j
  onto_judged (Some i) (Syntax p) ts rest d j = StopsLater d j

  judged : (n : ℕ) (ts : List Token) → length ts ≤ n → Judged ts (read_items h b n ts)
  judged n [] le = NoMoreItems
  judged zero (t ∷ ts) le = absurd (omega arith)
  judged (suc n) (t ∷ ts) le = by (judged n) (read_item h b (t ∷ ts)) refl
    where
      by : ((us : List Token) → length us ≤ n → Judged us (read_items h b n us)) → (o : Read (Option Item)) → read_item h b (t ∷ ts) ≡ o →
          Judged (t ∷ ts) (elim o [ None ↦ Syntax t.spot | Some r ↦ onto_outcome r.0 (read_items h b n r.1) ])
      by again None e = StopsHere (λ x rest d. item_unread (t ∷ ts) x rest e d)
      by again (Some r) e =
          let d = item_sound (t ∷ ts) r e in
          let s = takes_shorter h b (t ∷ ts) r.0 r.1 d in
          onto_judged r.0 (read_items h b n r.1) (t ∷ ts) r.1 d (again r.1 (omega (arith, s)))

outcome_judged : (ts : List Token) (o : Outcome) → read_items max_height max_brackets (length ts) ts ≡ o → Judged max_height max_brackets ts o
outcome_judged ts o e = subst (Judged max_height max_brackets ts) e (judged max_height max_brackets (length ts) ts (omega arith))

pub source_sound : (ts : List Token) (xs : List Item) → read_items max_height max_brackets (length ts) ts ≡ Source xs → IsSource ts xs
source_sound ts xs e = outcome_judged ts (Source xs) e

pub syntax_sound : (ts : List Token) (p : Spot) → read_items max_height max_brackets (length ts) ts ≡ Syntax p → IsSyntax ts p
syntax_sound ts p e = outcome_judged ts (Syntax p) e

outcome_by : (ts : List Token) (o : Outcome) → Judged max_height max_brackets ts o → ((xs : List Item) × IsSource ts xs) ⊎ ((p : Spot) × IsSyntax ts p)
outcome_by ts (Source xs) d = inl (xs, d)
outcome_by ts (Syntax p) d = inr (p, d)

-- each list of tokens is a source or has a first item that fits no form
pub some_outcome : (ts : List Token) → ((xs : List Item) × IsSource ts xs) ⊎ ((p : Spot) × IsSyntax ts p)
some_outcome ts = outcome_by ts (read_items max_height max_brackets (length ts) ts) (outcome_judged ts (read_items max_height max_brackets (length ts) ts) refl)
