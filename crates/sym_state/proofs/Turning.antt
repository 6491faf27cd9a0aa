-- What calls of the code do to a state.
use Rattle.std.proofs.Common.{◌≡◌, ℕ, zero, suc, ◌+◌, ◌≤◌, Bool, true, false, not, ◌&&◌, ◌||◌, List, [], ◌∷◌, length, map, get_or, set, refl, sym, ◌∙◌, ap, ap₂, arith}
use Rattle.std.specs.Vec.{with_item}
use Rattle.std.proofs.lemmas.List.{map-set}
use Rattle.std.proofs.lemmas.List.Elements.{All-set}
use Rattle.c_core.specs.Tree.{Program}
use Rattle.circuits.specs.declared.net.Bit.{Bit}
use Rattle.circuits.specs.declared.net.NetNode.{NetNode}
use Rattle.circuits.specs.Net.{holds, Grown, Means, IsIn, opposite}
use Rattle.circuits.proofs.Nets.{own, opp, and_of, means_by, grown_then}
use Rattle.sym_state.specs.declared.state.Sym.{Sym}
use Rattle.sym_state.specs.Standing.{Stand, stand, IsState, Turned, stopped, failed, violated, marked, marking, with_live}
use Rattle.sym_state.proofs.Nets.{added_of, added_then, unchanged, holds_added, state_grown, stand_grown}

module _ (p : Program) where
  pub turned_as : {i j : ℕ} {a b : Sym} {f : (ℕ → Bool) → Stand → Stand} (g : (ℕ → Bool) → Stand → Stand) → Turned p i j a b f → ((v : ℕ → Bool) → f v (stand p v a) ≡ g v (stand p v a)) → Turned p i j a b g
  turned_as g x e = record { fits = x.fits; added = x.added; level = x.level; result = x.result; is = λ v. x.is v ∙ e v }

  pub turned_then : {i j k l : ℕ} {a b c : Sym} {f g : (ℕ → Bool) → Stand → Stand} (m n : ℕ) → Turned p i j a b f → Turned p k l b c g → i + k ≤ m → j + l ≤ n → Turned p m n a c (λ v s. g v (f v s))
  turned_then {g = g} m n x y h q = record { fits = y.fits; added = added_then m n x.added y.added h q; level = y.level ∙ x.level; result = y.result ∙ x.result; is = λ v. y.is v ∙ ap (g v) (x.is v) }

  -- another `live`
  pub turned_live : {k : ℕ} (s : Sym) (net : List NetNode) (r : Bit) (f : (ℕ → Bool) → Bool) → IsState p s → Grown k s.net net → Means net r f
      → Turned p k 0 s (record s { net = net; live = r }) (λ v. with_live (f v))
  turned_live s net r f h g m =
      let w = state_grown p g h in
      record {
        fits = record { live = m.inside; broken = w.broken; again = w.again; gave = w.gave; given = w.given; failing = w.failing; completed = w.completed; cells = w.cells; sites = w.sites };
        added = added_of g;
        level = refl;
        result = refl;
        is = λ v. let q = stand_grown p v g h in λ i. record (q i) { live = m.is v i };
      }

  pub stop_turned : (s : Sym) (net : List NetNode) (bad x r : Bit) → IsState p s → IsIn s.net bad → Grown 1 s.net net → x ≡ opposite bad → Means net r (λ v. holds v s.net s.live && holds v s.net x)
      → Turned p 1 0 s (record s { net = net; live = r }) (λ v. stopped (holds v s.net bad))
  stop_turned s net bad x r h b g e m =
      turned_as (λ v. stopped (holds v s.net bad)) (turned_live s net r (λ v. holds v s.net s.live && not (holds v s.net bad)) h g
      (and_of {a = s.live} {b = x} {f = λ v. holds v s.net s.live} {g = λ v. not (holds v s.net bad)} m (own s.net s.live h.live) (opp e (own s.net bad b)))) (λ v. refl)

  either : (a b : Bool) → not (not a && not b) ≡ (a || b)
  either true b = refl
  either false true = refl
  either false false = refl

  -- the opposite of what two opposites both are
  pub or_means : (old new : List NetNode) (a b x y r z : Bit) → IsIn old a → IsIn old b → x ≡ opposite a → y ≡ opposite b → Means new r (λ v. holds v old x && holds v old y) → z ≡ opposite r
      → Means new z (λ v. holds v old a || holds v old b)
  or_means old new a b x y r z ha hb ex ey m ez =
      means_by new z (λ v. not (not (holds v old a) && not (holds v old b))) (λ v. holds v old a || holds v old b)
      (opp ez (and_of {a = x} {b = y} {f = λ v. not (holds v old a)} {g = λ v. not (holds v old b)} m (opp ex (own old a ha)) (opp ey (own old b hb)))) (λ v. either (holds v old a) (holds v old b))

  set_marked : (fs : List Bool) (k : ℕ) (b d : Bool) → set fs k (get_or fs k d || b) ≡ marked k b fs
  set_marked [] k b d = refl
  set_marked (f ∷ fs) zero b d = refl
  set_marked (f ∷ fs) (suc k) b d = ap (λ z. f ∷ z) (set_marked fs k b d)

  past_marked : (fs : List Bool) (k : ℕ) (b : Bool) → length fs ≤ k → marked k b fs ≡ fs
  past_marked [] k b h = refl
  past_marked (f ∷ fs) zero b h = absurd (omega (arith, h))
  past_marked (f ∷ fs) (suc k) b h = ap (λ z. f ∷ z) (past_marked fs k b (omega (arith, h)))

  get_or-map : {A B : Type 0} (f : A → B) (xs : List A) (k : ℕ) (d : A) → get_or (map f xs) k (f d) ≡ f (get_or xs k d)
  get_or-map f [] k d = refl
  get_or-map f (x ∷ xs) zero d = refl
  get_or-map f (x ∷ xs) (suc k) d = get_or-map f xs k d

  length-map : {A B : Type 0} (f : A → B) (xs : List A) → length (map f xs) ≡ length xs
  length-map f [] = refl
  length-map f (x ∷ xs) = ap suc (length-map f xs)

  -- a failing bit is true in more runs
  pub mark_turned : (s : Sym) (net : List NetNode) (at : ℕ) (here r d : Bit) → IsState p s → Grown 1 s.net net → Means net r (λ v. holds v s.net (get_or s.failing.items at d) || holds v s.net here)
      → Turned p 1 0 s (record s { net = net; failing = with_item s.failing at r }) (λ v. marking at (holds v s.net here))
  mark_turned s net at here r d h g m =
      let w = state_grown p g h in
      record {
        fits = record { live = w.live; broken = w.broken; again = w.again; gave = w.gave; given = w.given; failing = All-set (λ b. IsIn net b) s.failing.items at r m.inside w.failing; completed = w.completed; cells = w.cells; sites = w.sites };
        added = added_of g;
        level = refl;
        result = refl;
        is = λ v.
            let q = stand_grown p v g h in
            let fs = map (holds v s.net) s.failing.items in
            let e : map (holds v net) (set s.failing.items at r) ≡ marked at (holds v s.net here) fs =
            map-set (holds v net) s.failing.items at r ∙ ap₂ (λ x y. set x at y) (ap (λ z. z.failing) q) (m.is v ∙ ap (λ z. z || holds v s.net here) (sym (get_or-map (holds v s.net) s.failing.items at d)))
            ∙ set_marked fs at (holds v s.net here) (holds v s.net d) in
            λ i. record (q i) { failing = e i };
      }

  pub unmarked_turned : (s : Sym) (at : ℕ) (here : Bit) → IsState p s → length s.failing.items ≤ at → Turned p 1 0 s s (λ v. marking at (holds v s.net here))
  unmarked_turned s at here h l = record {
    fits = h;
    added = unchanged 1 s.net;
    level = refl;
    result = refl;
    is = λ v. let fs = map (holds v s.net) s.failing.items in λ i. record (stand p v s) { failing = sym (past_marked fs at (holds v s.net here) (omega (arith, l, length-map (holds v s.net) s.failing.items))) i };
  }

  -- a run that is here fails an obligation: its bit is marked, and then the run ends
  pub fail_turned : (s t n : Sym) (net : List NetNode) (bad here : Bit) (at : ℕ) → IsState p s → IsIn s.net bad → Grown 1 s.net net → Means net here (λ v. holds v s.net s.live && holds v s.net bad)
      → Turned p 1 0 (record s { net = net }) t (λ v. marking at (holds v net here)) → Turned p 1 0 t n (λ v. stopped (holds v t.net bad)) → Turned p 3 0 s n (λ v. failed at (holds v s.net bad))
  fail_turned s t n net bad here at h b g m x y =
      let one = added_then 2 0 (added_of g) x.added (omega arith) (omega arith) in
      record {
        fits = y.fits;
        added = added_then 3 0 one y.added (omega arith) (omega arith);
        level = y.level ∙ x.level;
        result = y.result ∙ x.result;
        is = λ v.
            y.is v ∙ ap (λ z. stopped z (stand p v t)) (holds_added one v bad b) ∙ ap (stopped (holds v s.net bad)) (x.is v)
            ∙ ap₂ (λ l z. stopped (holds v s.net bad) (marking at l z)) (m.is v) (stand_grown p v g h);
      }

  -- the same, where a bit says whether it counts
  pub violate_turned : (s t n : Sym) (one net : List NetNode) (bad counts both here : Bit) (at : ℕ) → IsState p s → IsIn s.net bad → Grown 1 s.net one → Means one both (λ v. holds v s.net bad && holds v s.net counts)
      → Grown 1 one net → Means net here (λ v. holds v one s.live && holds v one both)
      → Turned p 1 0 (record s { net = net }) t (λ v. marking at (holds v net here)) → Turned p 1 0 t n (λ v. stopped (holds v t.net bad)) → Turned p 4 0 s n (λ v. violated at (holds v s.net bad) (holds v s.net counts))
  violate_turned s t n one net bad counts both here at h b g m k q x y =
      let grown = grown_then 1 1 2 s.net one net g k (omega arith) in
      let first = added_then 3 0 (added_of grown) x.added (omega arith) (omega arith) in
      record {
        fits = y.fits;
        added = added_then 4 0 first y.added (omega arith) (omega arith);
        level = y.level ∙ x.level;
        result = y.result ∙ x.result;
        is = λ v.
            y.is v ∙ ap (λ z. stopped z (stand p v t)) (holds_added first v bad b) ∙ ap (stopped (holds v s.net bad)) (x.is v)
            ∙ ap₂ (λ l z. stopped (holds v s.net bad) (marking at l z)) (q.is v ∙ ap₂ (λ l c. l && c) (holds_added (added_of g) v s.live h.live) (m.is v)) (stand_grown p v grown h);
      }
