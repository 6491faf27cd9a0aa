-- A part that is done in the runs in which a bit is true: they part from the others, and come together with them again.
use Rattle.std.proofs.Common.{◌≡◌, ℕ, ◌+◌, Bool, true, false, cond, not, ◌&&◌, ◌||◌, ℤ, List, ◌++◌, length, refl, sym, ◌∙◌, ap, ap₂, subst, arith, true≢false}
use Rattle.std.proofs.lemmas.List.{length-map}
use Rattle.c_core.specs.Tree.{Program}
use Rattle.c_core.specs.declared.number.DataModel.{DataModel}
use Rattle.c_meaning.specs.declared.run.Duty.{Duty}
use Rattle.c_meaning.specs.Acts.{Res, Go}
use Rattle.c_meaning.specs.Havoc.{Stopped}
use Rattle.sym_meaning.specs.Mode.{JudgedState}
use Rattle.circuits.specs.declared.net.Bit.{Bit}
use Rattle.circuits.specs.declared.net.NetNode.{NetNode}
use Rattle.circuits.specs.Net.{holds, Grown, Means, IsIn, opposite}
use Rattle.circuits.proofs.Nets.{holds-opposite}
use Rattle.sym_state.specs.declared.state.Sym.{Sym}
use Rattle.sym_state.specs.Standing.{Stand, stand, cell_at, IsState, IsHere, Moves, Turned, with_live}
use Rattle.sym_state.specs.Following.{left_of, Taken, Deed, Came, Follows}
use Rattle.sym_state.proofs.Nets.{added_of, added_then, holds_added, stand_grown}
use Rattle.sym_state.proofs.Composed.{kept_same, same_kept, none_taken, came_as}

and_no : (b : Bool) → (b && false) ≡ false
and_no true = refl
and_no false = refl

and_yes : (b : Bool) → (b && true) ≡ b
and_yes true = refl
and_yes false = refl

both_ways : (l t : Bool) → ((l && not t) || (l && t)) ≡ l
both_ways true true = refl
both_ways true false = refl
both_ways false t = refl

-- from a the runs in which t is true go from b to c; f is where all are together again
pub record Guarded (t : Bool) (a b c f : Stand) : Type 0 where
  pub first : b ≡ with_live (a.live && t) a
  pub moves : Moves b c
  pub level : length c.cells ≡ length b.cells
  pub last : f ≡ with_live ((a.live && not t) || c.live) c

module _ {t : Bool} {a b c f : Stand} (x : Guarded t a b c f) where
  -- where no run went
  pub untouched : b.live ≡ false → f ≡ a
  untouched h =
      x.last ∙ ap (λ z. with_live ((a.live && not t) || z.live) z) (kept_same (x.moves.still h) x.level ∙ x.first)
      ∙ (λ i. record a { live = both_ways a.live t i })

  pub dead_first : a.live ≡ false → b.live ≡ false
  dead_first h = ap (λ s. s.live) x.first ∙ ap (λ l. l && t) h

  abbrev pub guarded_moves : Moves a f
  guarded_moves = record {
    more = x.moves.more;
    draws = ap (λ s. s.draws) x.last ∙ x.moves.draws ∙ ap (λ s. s.draws ++ x.moves.more) x.first;
    still = λ h. same_kept (untouched (dead_first h));
  }

module _ (m : DataModel) (ds : List Duty) {A : Type 0} (S : A → Type 0) (d : A) where
  guarded_does : (t : Bool) {a b c f : Stand} (x : Guarded t a b c f) (D : JudgedState → Res Stopped JudgedState A)
      → (IsHere (length ds) b → (vs rest : List ℤ) → Taken m x.moves.more vs rest → Came ds S c rest (D (left_of b vs)))
      → IsHere (length ds) a → (vs rest : List ℤ) → Taken m x.moves.more vs rest → Came ds (λ z. t ≡ true → S z) f rest (cond t (D (left_of a vs)) (Go d (left_of a vs)))
  guarded_does true {a} {b} {c} {f} x D does here vs rest k =
      let eb : b ≡ a = x.first ∙ (λ i. record a { live = and_yes a.live i }) in
      let ef : f ≡ c = x.last ∙ (λ i. record c { live = ap (λ l. l || c.live) (and_no a.live) i }) in
      came_as m ds S (λ z. true ≡ true → S z) f rest (D (left_of a vs)) (λ z s _. s)
      (subst (λ z. Came ds S z rest (D (left_of a vs))) (sym ef) (subst (λ z. Came ds S c rest (D (left_of z vs))) eb (does (subst (IsHere (length ds)) (sym eb) here) vs rest k)))
  guarded_does false {a} {b} {c} {f} x D does here vs rest k =
      let dead : b.live ≡ false = ap (λ s. s.live) x.first ∙ and_no a.live in
      let ef : f ≡ a = untouched x dead in
      let taken : vs ≡ rest = none_taken m x.moves dead k in
      (subst (IsHere (length ds)) (sym ef) here, ap₂ left_of (sym ef) taken, (λ h. absurd (true≢false (sym h))))

module _ (p : Program) (ds : List Duty) {A : Type 0} (d : A) where
  cells_level : (v : ℕ → Bool) (b c : Sym) → length c.cells.items ≡ length b.cells.items → length (stand p v c).cells ≡ length (stand p v b).cells
  cells_level v b c h = length-map c.cells.items (cell_at p v c.net) ∙ h ∙ sym (length-map b.cells.items (cell_at p v b.net))

  pub guard_follows : {i j : ℕ} (a b c f : Sym) (net : List NetNode) (go other skipped : Bit) {S : (ℕ → Bool) → A → Type 0} {deed : Deed A} → IsState p a → IsIn a.net go → other ≡ opposite go
      → Grown 1 a.net net → Means net skipped (λ v. holds v a.net a.live && holds v a.net other)
      → Turned p 1 0 (record a { net = net }) b (λ v. with_live (holds v net a.live && holds v net go)) → Follows ds p i j b c S deed
      → Turned p 1 0 c f (λ v. with_live (holds v c.net skipped || holds v c.net c.live))
      → Follows ds p (3 + i) j a f (λ v x. holds v a.net go ≡ true → S v x) (λ v s. cond (holds v a.net go) (deed v s) (Go d s))
  guard_follows {i} {j} a b c f net go other skipped {S} {deed} h go_in eo g m x y z =
      let one = added_of g in
      let later = added_then (1 + i) j x.added y.added (omega arith) (omega arith) in
      let guarded : (v : ℕ → Bool) → Guarded (holds v a.net go) (stand p v a) (stand p v b) (stand p v c) (stand p v f) = λ v. record {
        first = x.is v ∙ ap₂ (λ l s. with_live l s) (ap₂ (λ l r. l && r) (holds_added one v a.live h.live) (holds_added one v go go_in)) (stand_grown p v g h);
        moves = y.moves v;
        level = cells_level v b c y.level;
        last = z.is v ∙ ap (λ l. with_live (l || holds v c.net c.live) (stand p v c)) (holds_added later v skipped m.inside ∙ m.is v ∙ ap (λ r. holds v a.net a.live && r) (ap (holds v a.net) eo ∙ holds-opposite v a.net go));
      } in
      record {
        fits = z.fits;
        added = added_then (3 + i) j (added_then (2 + i) j one later (omega arith) (omega arith)) z.added (omega arith) (omega arith);
        level = z.level ∙ y.level ∙ x.level;
        result = z.result ∙ y.result ∙ x.result;
        moves = λ v. record { more = (y.moves v).more; draws = (guarded_moves (guarded v)).draws; still = (guarded_moves (guarded v)).still };
        does = λ v here vs rest t. guarded_does p.model ds (S v) d (holds v a.net go) (guarded v) (deed v) (y.does v) here vs rest t;
      }
