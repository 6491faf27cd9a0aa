-- Events of symbolic runs over a net that grows.
use Rattle.std.proofs.Common.{◌≡◌, ℕ, ◌+◌, ◌≤◌, Bool, not, List, [], ◌∷◌, map, refl, sym, ◌∙◌, ap, ap₂, arith}
use Rattle.std.specs.List.{list_any}
use Rattle.std.proofs.lemmas.List.Elements.{All-head, All-tail}
use Rattle.c_core.specs.Tree.{Program}
use Rattle.c_core.specs.Typing.{labels_in}
use Rattle.c_core.specs.View.{switch_view}
use Rattle.c_core.specs.declared.number.DataModel.{DataModel}
use Rattle.c_core.specs.declared.number.IntType.{IntType}
use Rattle.c_core.specs.declared.tree.Arm.{Arm}
use Rattle.c_meaning.specs.Cells.{Cell}
use Rattle.c_meaning.specs.declared.run.Event.{Event as RunEvent}
use Rattle.c_meaning.specs.declared.run.Event.TheVariants as event
use Rattle.c_meaning.specs.declared.run.Way.TheVariants.{Truth}
use Rattle.c_meaning.specs.Run.{is_case, way_for}
use Rattle.circuits.specs.declared.net.Bit.{Bit}
use Rattle.circuits.specs.declared.net.NetNode.{NetNode}
use Rattle.circuits.specs.Net.{holds, Means, IsIn}
use Rattle.circuits.specs.Numbers.{AreIn}
use Rattle.sym_state.specs.declared.state.Sym.{Sym}
use Rattle.sym_state.specs.Standing.{stand, Added, IsState, Turned}
use Rattle.sym_state.proofs.Nets.{unchanged, longer_by, in_added, holds_added, all_added, typed_added, are_typed_added}
use Rattle.sym_values.specs.Valuing.{Decided}
use Rattle.seek_passes.specs.declared.event.SymEvent.{SymEvent}
use Rattle.seek_passes.specs.declared.event.SymEvent.TheVariants.{At, Enter, Return, Branch, Select}
use Rattle.seek_passes.specs.Event.{given_if, IsSelection, event_in, IsEvent}
use Rattle.seek_passes.specs.Passing.{CanTell}

-- nothing changes
pub same_turned : (k : ℕ) (p : Program) (s : Sym) → IsState p s → Turned p k 0 s s (λ v z. z)
same_turned k p s h = record { fits = h; added = unchanged k s.net; level = refl; result = refl; is = λ v. refl }

pub same_decided : (k : ℕ) (p : Program) (s : Sym) (r : Bit) (f : (ℕ → Bool) → Bool) → IsState p s → Means s.net r f → Decided p k s s r f
same_decided k p s r f h m = record { turned = same_turned k p s h; means = m }

pub means_added : {i j : ℕ} {old new : List NetNode} {b : Bit} {f : (ℕ → Bool) → Bool} → Added i j old new → Means old b f → Means new b f
means_added {b = b} g m = record { inside = in_added g b m.inside; is = λ v. holds_added g v b m.inside ∙ m.is v }

module _ {i j : ℕ} {old new : List NetNode} (g : Added i j old new) where
  all_held : (v : ℕ → Bool) (bs : List Bit) → AreIn old bs → map (holds v new) bs ≡ map (holds v old) bs
  all_held v [] h = refl
  all_held v (b ∷ bs) h = ap₂ (λ x y. x ∷ y) (holds_added g v b (All-head (λ b. IsIn old b) b bs h)) (all_held v bs (All-tail (λ b. IsIn old b) b bs h))

  selection_later : (m : DataModel) (ty : IntType) (value : List Bit) (arms : List Arm) (cases : List Bit) (none : Bit) → IsSelection m old ty value arms cases none → IsSelection m new ty value arms cases none
  selection_later m ty value arms cases none h =
      let ls = labels_in (switch_view arms) in
      let same = λ (v : ℕ → Bool). sym (typed_added g m ty v value h.value_in) in
      record {
        value_in = are_typed_added g h.value_in;
        cases_in = all_added g cases h.cases_in;
        cases_are = λ v. all_held v cases h.cases_in ∙ h.cases_are v ∙ ap (λ z. map (is_case z) ls) (same v);
        none_in = in_added g none h.none_in;
        none_is = λ v. holds_added g v none h.none_in ∙ h.none_is v ∙ ap (λ z. not (list_any (is_case z) ls)) (same v);
      }

  module _ (p : Program) where
    -- it is the same event
    pub event_kept : (e : SymEvent) → IsEvent p old e → (v : ℕ → Bool) → event_in p new e v ≡ event_in p old e v
    event_kept (At spot) h v = refl
    event_kept (Enter close) h v = refl
    event_kept (Return close ty bits gave) h v = ap₂ (λ t z. event.Return close (given_if t z)) (holds_added g v gave h.gave_in) (typed_added g p.model ty v bits.now.bits h.bits_in)
    event_kept (Branch spot truth) h v = ap (λ t. event.Branch spot (Truth t)) (holds_added g v truth h)
    event_kept (Select spot ty value arms cases none) h v = ap (λ z. event.Branch spot (way_for z (labels_in (switch_view arms.now)))) (typed_added g p.model ty v value.now.bits h.value_in)

    pub event_later : (e : SymEvent) → IsEvent p old e → IsEvent p new e
    event_later (At spot) h = tt
    event_later (Enter close) h = tt
    event_later (Return close ty bits gave) h = record { bits_in = are_typed_added g h.bits_in; gave_in = in_added g gave h.gave_in }
    event_later (Branch spot truth) h = in_added g truth h
    event_later (Select spot ty value arms cases none) h = selection_later p.model ty value.now.bits arms.now cases.now none h

module _ {k : ℕ} (p : Program) (e : SymEvent) {s t : Sym} (x : Turned p k 0 s t (λ v z. z)) (h : IsEvent p s.net e) where
  -- what is said of the event and of the cells then, is said of those before
  pub at_first : {A : Type 0} (f : RunEvent → List Cell → A) (v : ℕ → Bool) → f (event_in p t.net e v) (stand p v t).cells ≡ f (event_in p s.net e v) (stand p v s).cells
  at_first f v = ap₂ f (event_kept x.added p e h v) (ap (λ z. z.cells) (x.is v))

-- with fewer nodes left
pub can_later : {p : Program} {e : SymEvent} {k : ℕ} {s t : Sym} (n m : ℕ) → CanTell p e s n → Turned p k 0 s t (λ v z. z) → k + m ≤ n → CanTell p e t m
can_later {p} {e} {k} {s} {t} n m h x le = record {
  fits = x.fits;
  event = event_later x.added p e h.event;
  room = omega (arith, h.room, (longer_by x.added).1, le);
}

pub can_less : {p : Program} {e : SymEvent} {s : Sym} (n m : ℕ) → CanTell p e s n → m ≤ n → CanTell p e s m
can_less {p} {e} {s} n m h le = record { fits = h.fits; event = h.event; room = omega (arith, h.room, le) }
