-- Scopes: `Open` and `Close` around code do what a scope of the meaning does, and where no name is declared neither is needed.
use Rattle.std.proofs.Common.{◌≡◌, ℕ, suc, ◌+◌, Bool, true, false, ℤ, List, [], ◌∷◌, ◌++◌, length, take, Some, None, refl, sym, ap, ap₂, ◌∙◌, subst, arith}
use Rattle.std.proofs.lemmas.List.{append-nil}
use Rattle.c_core.specs.Tree.{Program}
use Rattle.c_meaning.specs.declared.run.End.{End}
use Rattle.c_meaning.specs.declared.run.Event.{Event}
use Rattle.c_meaning.specs.Acts.{Res, Go, Stop, Flow, Next, Broken, Again, Gave, cut, scoped}
use Rattle.c_meaning.specs.Cells.{Cell}
use Rattle.c_meaning.specs.Run.{State, cells_of, with_cells}
use Rattle.flow_code.specs.declared.code.Action.TheVariants.{Close, Jump, Leave, Return as ReturnOf}
use Rattle.flow_code.specs.declared.code.Code.{Code}
use Rattle.flow_code.specs.declared.code.Op.{Op}
use Rattle.flow_code.specs.declared.statements.Inside.{Inside}
use Rattle.flow_code.specs.Preparing.{op, scope, all_closed}
use Rattle.flow_code.specs.Sizes.{with_scope}
use Rattle.flow_code.specs.Statements.{deeper}
use Rattle.flow_laws.specs.Machines.{Control, Machine}
use Rattle.flow_laws.specs.Stepping.{Does}
use Rattle.flow_laws.specs.inside.Simulating.{HasCode, control_at, LeavesAs}
use Rattle.flow_laws.proofs.Reaching.{does_from}
use Rattle.flow_laws.proofs.Neutral.{Neutral, no_scope}
use Rattle.flow_laws.proofs.Operations.{standing, code_split}
use Rattle.flow_laws.proofs.Standing.{does_so, reaches_made, opens, closes}

-- inside no scope more
same_inside : (w : Inside) → deeper false w ≡ w
same_inside w =
    let a : w.depth.inner + 0 ≡ w.depth.inner = omega arith in
    let b : w.depth.turn + 0 ≡ w.depth.turn = omega arith in
    let d : w.depth.scopes + 0 ≡ w.depth.scopes = omega arith in
    ap₂ (λ x y. record w { depth = record { inner = x; turn = y; scopes = w.depth.scopes + 0 } }) a b ∙ ap (λ x. record w { depth = record w.depth { scopes = x } }) d

module _ (p : Program) (c : Code) (S : Type 0) (after : Event → List Cell → S → S) where
  -- before the way out of one scope more
  one_closed : (n i : ℕ) (os : List Op) → HasCode c i (all_closed (n + 1) ++ os) → HasCode c i (op 0 Close ∷ all_closed n ++ os)
  one_closed n i os h = let e : n + 1 ≡ suc n = omega arith in subst (λ k. HasCode c i (all_closed k ++ os)) e h

  -- a scope ends, however it is left
  closed_leaves : (w : Inside) (k : Control) (j n : ℕ) (f : Flow) (u : State S) (y : Machine S)
      → LeavesAs p c S after (deeper true w) (record k { scopes = n ∷ k.scopes }) j f u y → HasCode c j (op 0 Close ∷ [])
      → Does c S after y (Go f (with_cells (take n u.cells) u)) (LeavesAs p c S after w k (j + 1))
  closed_leaves w k j n Next u y h o =
      let v = with_cells (take n u.cells) u in
      let e : suc j ≡ j + 1 = omega arith in
      (standing k (suc j) v, reaches_made c S after y (standing k (suc j) v) (control_at (record k { scopes = n ∷ k.scopes }) j) u h.0 h.1 (closes c S after p j n k u o.0), (refl, ap (control_at k) e))
  closed_leaves w k j n Broken u y h o =
      let v = with_cells (take n u.cells) u in
      let i = h.1.0 in
      let q = one_closed w.depth.inner i (op 0 (Jump w.broken) ∷ []) h.1.2 in
      (standing k (suc i) v, reaches_made c S after y (standing k (suc i) v) (control_at (record k { scopes = n ∷ k.scopes }) i) u h.0 h.1.1 (closes c S after p i n k u q.0), (refl, (suc i, refl, q.1)))
  closed_leaves w k j n Again u y h o =
      let v = with_cells (take n u.cells) u in
      let i = h.1.0 in
      let q = one_closed w.depth.turn i (op 0 (Jump w.again) ∷ []) h.1.2 in
      (standing k (suc i) v, reaches_made c S after y (standing k (suc i) v) (control_at (record k { scopes = n ∷ k.scopes }) i) u h.0 h.1.1 (closes c S after p i n k u q.0), (refl, (suc i, refl, q.1)))
  closed_leaves w k j n (Gave None) u y h o =
      let v = with_cells (take n u.cells) u in
      let i = h.1.0 in
      let q = one_closed w.depth.scopes i (op 0 Leave ∷ []) h.1.2 in
      (standing k (suc i) v, reaches_made c S after y (standing k (suc i) v) (control_at (record k { scopes = n ∷ k.scopes }) i) u h.0 h.1.1 (closes c S after p i n k u q.0), (refl, (suc i, refl, q.1)))
  closed_leaves w k j n (Gave (Some x)) u y h o =
      let v = with_cells (take n u.cells) u in
      let i = h.1.0 in
      let z = h.1.1 in
      let l = record k { stack = z ∷ k.stack } in
      let q = one_closed w.depth.scopes i (op 0 (ReturnOf w.result) ∷ []) h.1.4 in
      (standing l (suc i) v, reaches_made c S after y (standing l (suc i) v) (control_at (record l { scopes = n ∷ k.scopes }) i) u h.0 h.1.3 (closes c S after p i n l u q.0), (refl, (suc i, z, h.1.2, refl, q.1)))

  -- a part, and then its scope's end
  cut_does : (Q : ℕ → Type 0) (x : Machine S) (n : ℕ) (r : Res End (State S) Flow) (K L : Flow → State S → Machine S → Type 0)
      → Does c S after x r (λ f u y. K f u y × Q u.steps) → ((f : Flow) (u : State S) (y : Machine S) → K f u y → Does c S after y (Go f (with_cells (take n u.cells) u)) L)
      → Does c S after x (cut End (State S) cells_of with_cells n r) (λ f u y. L f u y × Q u.steps)
  cut_does Q x n (Go f u) K L d g =
      let h = g f u d.0 d.2.0 in
      let v = with_cells (take n u.cells) u in
      does_from c S after x d.0 (Go f v) (λ f u y. L f u y × Q u.steps) d.1 (h.0, h.1, (h.2, d.2.1))
  cut_does Q x n (Stop e u) K L d g = d

  -- code in a scope does what its part does in a scope, where values that the part takes are on the stack; where the scope isn't there, the
  -- part leaves as many cells as it finds
  pub scope_takes : (Q : ℕ → Type 0) (b : Bool) (w : Inside) (k : Control) (vs : List ℤ) (i z : ℕ) (f : ℕ → List Op) (part : State S → Res End (State S) Flow) (s : State S)
      → HasCode c i (scope b i f) → ((j : ℕ) → length (f j) ≡ z) → (b ≡ false → Neutral S part)
      → ((j : ℕ) (l : Control) → l.stack ≡ k.stack → HasCode c j (f j) → Does c S after (standing (record l { stack = vs }) j s) (part s) (λ g u y. LeavesAs p c S after (deeper b w) l (j + z) g u y × Q u.steps))
      → Does c S after (standing (record k { stack = vs }) i s) (scoped End (State S) cells_of with_cells part s) (λ g u y. LeavesAs p c S after w k (i + with_scope b z) g u y × Q u.steps)
  scope_takes Q true w k vs i z f part s o e t d =
      let a : i + 1 ≡ suc i = omega arith in
      let q = code_split c (suc i) (f (suc i)) (op 0 Close ∷ []) (subst (λ j. HasCode c (suc i) (f j ++ op 0 Close ∷ [])) a o.1) in
      let l = record k { scopes = length s.cells ∷ k.scopes } in
      let j = suc i + z in
      let last = subst (λ n. HasCode c (suc i + n) (op 0 Close ∷ [])) (e (suc i)) q.1 in
      let m = record l { stack = vs } in
      let h = cut_does Q (standing m (suc i) s) (length s.cells) (part s) (LeavesAs p c S after (deeper true w) l j) (LeavesAs p c S after w k (j + 1))
      (d (suc i) l refl q.0) (λ g u y left. closed_leaves w k j (length s.cells) g u y left last) in
      let b : j + 1 ≡ i + (z + 2) = omega arith in
      does_from c S after (standing (record k { stack = vs }) i s) (standing m (suc i) s) (scoped End (State S) cells_of with_cells part s) (λ g u y. LeavesAs p c S after w k (i + (z + 2)) g u y × Q u.steps)
      (opens c S after p i (record k { stack = vs }) s o.0) (subst (λ n. Does c S after (standing m (suc i) s) (scoped End (State S) cells_of with_cells part s) (λ g u y. LeavesAs p c S after w k n g u y × Q u.steps)) b h)
  scope_takes Q false w k vs i z f part s o e t d =
      let a : i + 0 ≡ i = omega arith in
      let q = subst (λ j. HasCode c i (f j)) a (subst (λ os. HasCode c i os) (append-nil (f (i + 0))) o) in
      let h = subst (λ x. Does c S after (standing (record k { stack = vs }) i s) (part s) (λ g u y. LeavesAs p c S after x k (i + z) g u y × Q u.steps)) (same_inside w) (d i k refl q) in
      subst (λ r. Does c S after (standing (record k { stack = vs }) i s) r (λ g u y. LeavesAs p c S after w k (i + z) g u y × Q u.steps)) (sym (no_scope S part s (t refl))) h

  -- the same, where it takes none
  pub scope_does : (Q : ℕ → Type 0) (b : Bool) (w : Inside) (k : Control) (i z : ℕ) (f : ℕ → List Op) (part : State S → Res End (State S) Flow) (s : State S)
      → HasCode c i (scope b i f) → ((j : ℕ) → length (f j) ≡ z) → (b ≡ false → Neutral S part)
      → ((j : ℕ) (l : Control) → HasCode c j (f j) → Does c S after (standing l j s) (part s) (λ g u y. LeavesAs p c S after (deeper b w) l (j + z) g u y × Q u.steps))
      → Does c S after (standing k i s) (scoped End (State S) cells_of with_cells part s) (λ g u y. LeavesAs p c S after w k (i + with_scope b z) g u y × Q u.steps)
  scope_does Q b w k i z f part s o e t d =
      scope_takes Q b w k k.stack i z f part s o e t
      (λ j l m q. subst (λ vs. Does c S after (standing (record l { stack = vs }) j s) (part s) (λ g u y. LeavesAs p c S after (deeper b w) l (j + z) g u y × Q u.steps)) m (d j l q))

  -- the same, where nothing is to be known of the steps
  pub scope_leaves : (b : Bool) (w : Inside) (k : Control) (i z : ℕ) (f : ℕ → List Op) (part : State S → Res End (State S) Flow) (s : State S)
      → HasCode c i (scope b i f) → ((j : ℕ) → length (f j) ≡ z) → (b ≡ false → Neutral S part)
      → ((j : ℕ) (l : Control) → HasCode c j (f j) → Does c S after (standing l j s) (part s) (LeavesAs p c S after (deeper b w) l (j + z)))
      → Does c S after (standing k i s) (scoped End (State S) cells_of with_cells part s) (LeavesAs p c S after w k (i + with_scope b z))
  scope_leaves b w k i z f part s o e t d =
      does_so c S after (standing k i s) (scoped End (State S) cells_of with_cells part s)
      (λ g u y. LeavesAs p c S after w k (i + with_scope b z) g u y × Unit {0}) (LeavesAs p c S after w k (i + with_scope b z))
      (scope_does (λ _. Unit {0}) b w k i z f part s o e t
      (λ j l q. does_so c S after (standing l j s) (part s) (LeavesAs p c S after (deeper b w) l (j + z)) (λ g u y. LeavesAs p c S after (deeper b w) l (j + z) g u y × Unit {0})
      (d j l q) (λ g u y h r m. (m, tt))))
      (λ g u y h r m. m.0)
