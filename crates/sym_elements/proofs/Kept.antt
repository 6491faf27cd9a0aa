-- Places stay good while the net grows and runs end.
use Rattle.std.proofs.Common.{◌≡◌, ℕ, Bool, true, false, List, length, map, refl, sym, ◌∙◌, ap, subst, true≢false}
use Rattle.c_core.specs.Tree.{Program}
use Rattle.c_meaning.specs.declared.run.Duty.{Duty}
use Rattle.circuits.specs.declared.net.Bit.{Bit}
use Rattle.circuits.specs.declared.net.NetNode.{NetNode}
use Rattle.circuits.specs.Net.{holds}
use Rattle.circuits.specs.Numbers.{AreIn}
use Rattle.sym_state.specs.declared.state.Sym.{Sym}
use Rattle.sym_state.specs.Places.{key}
use Rattle.sym_state.specs.Standing.{Stand, stand, Added, Moves}
use Rattle.sym_state.specs.Following.{Deed, Follows}
use Rattle.sym_state.proofs.Nets.{all_added}
use Rattle.sym_elements.specs.declared.placing.Places.{Places}
use Rattle.sym_elements.specs.Marks.{HasOne, first_true}
use Rattle.sym_elements.specs.Placing.{Spells}
use Rattle.sym_elements.specs.Elements.{key_at, ArePlaces}
use Rattle.sym_elements.proofs.Marking.{first_of_marks}
use Rattle.sym_elements.proofs.Decoding.{bools_added}
use Rattle.sym_elements.proofs.Spelling.{spells_added}

-- the cell that bits tell of is the same in a larger net
pub key_kept : {i j : ℕ} {old new : List NetNode} (places : List Bit) (o : ℕ) (v : ℕ → Bool) → Added i j old new → AreIn old places → key_at o v new places ≡ key_at o v old places
key_kept places o v g h = ap (λ bs. key o (first_true bs)) (bools_added v places g h)

-- a run that is here was here before
pub live_before : {a b : Stand} → Moves a b → b.live ≡ true → a.live ≡ true
live_before {a} {b} x h = by_case a.live refl
  where
    by_case : (l : Bool) → a.live ≡ l → l ≡ true
    by_case true e = refl
    by_case false e = absurd (true≢false (sym h ∙ (x.still e).live ∙ e))

module _ (p : Program) (o : ℕ) (places : Places) where
  pub places_moved : {i j : ℕ} {s t : Sym} → ArePlaces p s o places → Added i j s.net t.net → ((v : ℕ → Bool) → (stand p v t).live ≡ true → (stand p v s).live ≡ true) → ArePlaces p t o places
  places_moved {s = s} {t = t} x g m = record {
    inside = all_added g places.bits x.inside;
    few = x.few;
    some = x.some;
    one = λ v live. subst (λ bs. HasOne (length places.bits) bs) (sym (bools_added v places.bits g x.inside)) (x.one v (m v live));
    digits_in = all_added g places.digits x.digits_in;
    told = λ v live. subst (λ bs. Spells v t.net places (first_true bs)) (sym (bools_added v places.bits g x.inside)) (spells_added v g x.digits_in (x.told v (m v live)));
  }

  -- across any part of a program, as the right side of an assignment
  pub places_follow : {A : Type 0} {ds : List Duty} {i j : ℕ} {s t : Sym} {S : (ℕ → Bool) → A → Type 0} {deed : Deed A} → ArePlaces p s o places → Follows ds p i j s t S deed → ArePlaces p t o places
  places_follow x f = places_moved x f.added (λ v live. live_before (f.moves v) live)

  pub key_follows : {A : Type 0} {ds : List Duty} {i j : ℕ} {s t : Sym} {S : (ℕ → Bool) → A → Type 0} {deed : Deed A} → ArePlaces p s o places → Follows ds p i j s t S deed → (v : ℕ → Bool)
      → key_at o v t.net places.bits ≡ key_at o v s.net places.bits
  key_follows x f v = key_kept places.bits o v f.added x.inside

-- of the places exactly one is true: its number
pub first_is : {n : ℕ} {bs : List Bool} (one : HasOne n bs) → first_true bs ≡ one.0
first_is {n} one = ap first_true one.2 ∙ first_of_marks one.0 n one.1

-- the place of a run that is here
pub place_is : {n : ℕ} (o : ℕ) (places : List Bit) (s : Sym) (v : ℕ → Bool) (one : HasOne n (map (holds v s.net) places)) → key_at o v s.net places ≡ key o one.0
place_is o places s v one = ap (key o) (first_is one)
