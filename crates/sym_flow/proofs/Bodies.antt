-- Scopes, bodies of loops, and loops: where ways come together.
use Rattle.std.proofs.Common.{◌≡◌, ℕ, ◌+◌, ◌≤◌, Bool, false, ◌||◌, ℤ, List, [], ◌++◌, length, take, refl, sym, ◌∙◌, ap, ap₂, subst, arith, append-nil, Option}
use Rattle.std.proofs.lemmas.List.{take_at, take-append-le, length-take-le}
use Rattle.c_core.specs.Tree.{Program}
use Rattle.c_core.specs.declared.number.IntType.{IntType}
use Rattle.c_meaning.specs.declared.run.Duty.{Duty}
use Rattle.c_meaning.specs.Cells.{Cell}
use Rattle.c_meaning.specs.Acts.{Res, Go, Stop, Flow, Next, Broken, Again, Gave, bind, cut, scoped, continued, continuing}
use Rattle.c_meaning.specs.Havoc.{Stopped}
use Rattle.sym_meaning.specs.Mode.{JudgedState, cells_judged, with_cells_judged}
use Rattle.sym_state.specs.declared.state.Sym.{Sym}
use Rattle.sym_state.specs.Standing.{Stand, stand, IsState, Kept, IsHere}
use Rattle.sym_state.specs.Following.{left_of, Deed}
use Rattle.sym_flow.specs.Leaving.{IsAway, Went, Runs}
use Rattle.sym_flow.specs.Ways.{Became, cut_to, fresh_again, fresh_broken, behind_body, behind_loop}
use Rattle.sym_flow.proofs.Bools.{or_no, count_cells, here_as, over_as, same_level, front_level}
use Rattle.sym_flow.proofs.Statements.{given_then}
use Rattle.sym_flow.proofs.Around.{Frames, same_became, around_runs}

-- after a loop: who left it goes on behind it
abbrev pub out_of_loop : Flow → Flow
out_of_loop Next = Next
out_of_loop Broken = Next
out_of_loop Again = Again
out_of_loop (Gave v) = Gave v

-- the state behind a scope around which are n cells
abbrev pub cut_left : ℕ → JudgedState → JudgedState
cut_left n s = with_cells_judged (take n s.cells) s

-- the same cells, up to those of around
module _ (n : ℕ) (cs xs junk : List Cell) (e : xs ≡ cs ++ junk) (h : n ≤ length cs) where
  same_front : take n xs ≡ take n cs
  same_front = ap (take n) e ∙ take-append-le n cs junk h

  long_front : n ≤ length (take n cs)
  long_front = omega (arith, length-take-le n cs h)

-- behind a part whose cells are cut to those of around, whichever bit a run stands at
cut_away : {ds : List Duty} {x y z : Bool} {n : ℕ} {rest : List ℤ} {s : JudgedState} {b c : Stand} → IsAway ds x y z n rest s b → c.live ≡ false → c.broken ≡ x → c.again ≡ y → c.gave ≡ z → c.failing ≡ b.failing → c.draws ≡ b.draws → c.completed ≡ b.completed
    → c.cells ≡ take n b.cells → IsAway ds x y z n rest (cut_left n s) c
cut_away {n = n} {s = s} {b = b} o l x y z f d h k = record {
  live = l;
  broken = x;
  again = y;
  gave = z;
  failing = f ∙ o.failing;
  values = o.values;
  draws = o.draws ∙ sym d;
  completed = o.completed ∙ sym h;
  least = long_front n s.cells b.cells o.junk o.cells o.least;
  junk = [];
  cells = k ∙ same_front n s.cells b.cells o.junk o.cells o.least ∙ sym (append-nil (take n s.cells));
}

-- a run that was on its way out and goes on behind the part
pub cut_here : {ds : List Duty} {x y z : Bool} {n : ℕ} {rest : List ℤ} {s : JudgedState} {b : Stand} (c : Stand) → IsAway ds x y z n rest s b → c.draws ≡ b.draws → c.completed ≡ b.completed → c.cells ≡ take n b.cells → cut_left n s ≡ left_of c rest
cut_here {n = n} {s = s} {b = b} c o d h k =
    let cells : take n s.cells ≡ c.cells = sym (same_front n s.cells b.cells o.junk o.cells o.least) ∙ sym k in
    let draws : s.draws ≡ c.draws = o.draws ∙ sym d in
    λ i. record { cells = cells i; values = o.values i; draws = draws i; completed = (o.completed ∙ sym h) i }

pub kept_cells : {a b : Stand} (n : ℕ) → Kept a b → length a.cells ≡ n → take n b.cells ≡ a.cells ++ []
kept_cells {a} {b} n k e = ap (take n) k.cells ∙ take_at a.cells k.junk n e ∙ sym (append-nil a.cells)

module _ (p : Program) (ds : List Duty) (result : Option IntType) where
  -- ---- scopes
  scope_went : (n : ℕ) (b : Stand) (rest : List ℤ) (r : Res Stopped JudgedState Flow) → Went ds result n b rest r → Went ds result n (cut_to n b) rest (cut Stopped JudgedState cells_judged with_cells_judged n r)
  scope_went n b rest (Go Next s) w = (here_as w.0 w.0.live refl refl refl refl, ap (cut_left n) w.1)
  scope_went n b rest (Go Broken s) w = cut_away w w.live w.broken w.again w.gave refl refl refl refl
  scope_went n b rest (Go Again s) w = cut_away w w.live w.broken w.again w.gave refl refl refl refl
  scope_went n b rest (Go (Gave v) s) w = (cut_away w.0 w.0.live w.0.broken w.0.again w.0.gave refl refl refl refl, given_then result b (cut_to n b) v w.1 refl)
  scope_went n b rest (Stop e s) w = (over_as w.0 w.0.live w.0.broken w.0.again w.0.gave refl, w.1, w.2)

  scope_frames : (n : ℕ) → Frames (λ v s. s) (λ v. cut_to n)
  scope_frames n = record { live = λ v s. refl; cells = λ v s. refl; draws = λ v s. refl; draws_after = λ v s. refl }

  -- behind a part with fresh bits as many cells stand as before it
  pub behind_level : {i j k l : ℕ} {a b c d : Sym} {m : Deed Flow} (before after : (ℕ → Bool) → Stand → Stand) → Became p k a b before → ((v : ℕ → Bool) (s : Stand) → (before v s).cells ≡ s.cells) → Runs ds p result i j b c m → Became p l c d after
      → ((v : ℕ → Bool) (s : Stand) → (after v s).cells ≡ take (length a.cells.items) s.cells) → length d.cells.items ≡ length a.cells.items
  behind_level {a = a} {b = b} {c = c} {d = d} before after x e y z f = front_level {b = c} {c = d} p (length a.cells.items) after z f (omega (arith, y.grows, same_level {a = a} {b = b} p before x e))

  -- the same of a scope
  pub scope_level : {i j k : ℕ} {a b c : Sym} {m : Deed Flow} → Runs ds p result i j a b m → Became p k b c (λ v. cut_to (length a.cells.items)) → length c.cells.items ≡ length a.cells.items
  scope_level {a = a} {b = b} {c = c} x y = front_level {b = b} {c = c} p (length a.cells.items) (λ v. cut_to (length a.cells.items)) y (λ v s. refl) x.grows

  pub scoped_runs : {i j : ℕ} {a b c : Sym} {m : Deed Flow} → IsState p a → Runs ds p result i j a b m → Became p 0 b c (λ v. cut_to (length a.cells.items))
      → Runs ds p result i j a c (λ v. scoped Stopped JudgedState cells_judged with_cells_judged (m v))
  scoped_runs {i = i} {a = a} {b = b} {c = c} {m = m} h x y =
      let n = length a.cells.items in
      around_runs p ds result i (λ v s. s) (λ v. cut_to n) (λ v s r. cut Stopped JudgedState cells_judged with_cells_judged (length s.cells) r) (scope_frames n) (same_became p a h) x y
      (λ v d k. record { live = k.live; broken = k.broken; again = k.again; gave = k.gave; given = k.given; failing = k.failing; completed = k.completed; draws = k.draws; junk = []; cells = kept_cells n k (count_cells p v a) })
      (λ v q. refl) (omega (arith, scope_level {a = a} {b = b} {c = c} x y))
      (λ v q vs rest r w.
      subst (λ z. Went ds result n (cut_to n (stand p v b)) rest (cut Stopped JudgedState cells_judged with_cells_judged z r)) (sym (count_cells p v a)) (scope_went n (stand p v b) rest r w))
      (omega arith)

  -- ---- bodies of loops
  body_went : (n : ℕ) (a b : Stand) (rest : List ℤ) (r : Res Stopped JudgedState Flow) → IsHere (length ds) a → Went ds result n b rest r
      → Went ds result n (behind_body a.again n b) rest (bind (cut Stopped JudgedState cells_judged with_cells_judged n r) (λ f s. Go (continuing f) s))
  body_went n a b rest (Go Next s) q w = (here_as w.0 (ap (λ l. l || b.again) w.0.live) refl (q.again ∙ sym w.0.again) refl refl, ap (cut_left n) w.1)
  body_went n a b rest (Go Broken s) q w = cut_away w (ap₂ (λ x y. x || y) w.live w.again) w.broken q.again w.gave refl refl refl refl
  body_went n a b rest (Go Again s) q w =
      (record { live = ap₂ (λ x y. x || y) w.live w.again; broken = w.broken; again = q.again; gave = w.gave; failing = w.failing }, cut_here (behind_body a.again n b) w refl refl refl)
  body_went n a b rest (Go (Gave v) s) q w = (cut_away w.0 (ap₂ (λ x y. x || y) w.0.live w.0.again) w.0.broken q.again w.0.gave refl refl refl refl, given_then result b (behind_body a.again n b) v w.1 refl)
  body_went n a b rest (Stop e s) q w = (over_as w.0 (ap₂ (λ x y. x || y) w.0.live w.0.again) w.0.broken q.again w.0.gave refl, w.1, w.2)

  pub continued_runs : {i j : ℕ} {a b c d : Sym} {m : Deed Flow} → Became p 0 a b (λ v. fresh_again) → Runs ds p result i j b c m → Became p 1 c d (λ v. behind_body (stand p v a).again (length a.cells.items)) → Runs ds p result (i + 1) j a d (λ v. continued Stopped JudgedState cells_judged with_cells_judged (m v))
  continued_runs {i = i} {a = a} {b = b} {c = c} {d = d} x y z =
      let n = length a.cells.items in
      let l = behind_level {a = a} {b = b} {c = c} {d = d} (λ v. fresh_again) (λ v. behind_body (stand p v a).again n) x (λ v s. refl) y z (λ v s. refl) in
      around_runs p ds result (i + 1) (λ v. fresh_again) (λ v. behind_body (stand p v a).again n) (λ v s r. bind (cut Stopped JudgedState cells_judged with_cells_judged (length s.cells) r) (λ f t. Go (continuing f) t))
      (record { live = λ v s. refl; cells = λ v s. refl; draws = λ v s. refl; draws_after = λ v s. refl }) x y z
      (λ v d k. record { live = ap₂ (λ x y. x || y) k.live k.again ∙ or_no (stand p v a).live; broken = k.broken; again = refl; gave = k.gave; given = k.given; failing = k.failing; completed = k.completed; draws = k.draws; junk = []; cells = kept_cells n k (count_cells p v a) })
      (λ v q. λ i. record (stand p v a) { again = sym q.again i }) (omega (arith, l))
      (λ v q vs rest r w.
      subst (λ z. Went ds result n (behind_body (stand p v a).again n (stand p v c)) rest (bind (cut Stopped JudgedState cells_judged with_cells_judged z r) (λ f t. Go (continuing f) t))) (sym (count_cells p v a))
      (body_went n (stand p v a) (stand p v c) rest r q w))
      (omega arith)

  -- ---- loops
  loop_went : (n : ℕ) (a b : Stand) (rest : List ℤ) (r : Res Stopped JudgedState Flow) → IsHere (length ds) a → Went ds result n b rest r
      → Went ds result n (behind_loop a.broken n b) rest (cut Stopped JudgedState cells_judged with_cells_judged n (bind r (λ f s. Go (out_of_loop f) s)))
  loop_went n a b rest (Go Next s) q w = (here_as w.0 (ap (λ l. l || b.broken) w.0.live) (q.broken ∙ sym w.0.broken) refl refl refl, ap (cut_left n) w.1)
  loop_went n a b rest (Go Broken s) q w =
      (record { live = ap₂ (λ x y. x || y) w.live w.broken; broken = q.broken; again = w.again; gave = w.gave; failing = w.failing }, cut_here (behind_loop a.broken n b) w refl refl refl)
  loop_went n a b rest (Go Again s) q w = cut_away w (ap₂ (λ x y. x || y) w.live w.broken) q.broken w.again w.gave refl refl refl refl
  loop_went n a b rest (Go (Gave v) s) q w = (cut_away w.0 (ap₂ (λ x y. x || y) w.0.live w.0.broken) q.broken w.0.again w.0.gave refl refl refl refl, given_then result b (behind_loop a.broken n b) v w.1 refl)
  loop_went n a b rest (Stop e s) q w = (over_as w.0 (ap₂ (λ x y. x || y) w.0.live w.0.broken) q.broken w.0.again w.0.gave refl, w.1, w.2)

  -- behind a part out of which runs break
  pub broken_runs : {i j : ℕ} {a b c d : Sym} {m : Deed Flow} → Became p 0 a b (λ v. fresh_broken) → Runs ds p result i j b c m → Became p 1 c d (λ v. behind_loop (stand p v a).broken (length a.cells.items)) → Runs ds p result (i + 1) j a d (λ v. scoped Stopped JudgedState cells_judged with_cells_judged (λ s. bind (m v s) (λ f t. Go (out_of_loop f) t)))
  broken_runs {i = i} {a = a} {b = b} {c = c} {d = d} x y z =
      let n = length a.cells.items in
      let l = behind_level {a = a} {b = b} {c = c} {d = d} (λ v. fresh_broken) (λ v. behind_loop (stand p v a).broken n) x (λ v s. refl) y z (λ v s. refl) in
      around_runs p ds result (i + 1) (λ v. fresh_broken) (λ v. behind_loop (stand p v a).broken n) (λ v s r. cut Stopped JudgedState cells_judged with_cells_judged (length s.cells) (bind r (λ f t. Go (out_of_loop f) t)))
      (record { live = λ v s. refl; cells = λ v s. refl; draws = λ v s. refl; draws_after = λ v s. refl }) x y z
      (λ v d k. record { live = ap₂ (λ x y. x || y) k.live k.broken ∙ or_no (stand p v a).live; broken = refl; again = k.again; gave = k.gave; given = k.given; failing = k.failing; completed = k.completed; draws = k.draws; junk = []; cells = kept_cells n k (count_cells p v a) })
      (λ v q. λ i. record (stand p v a) { broken = sym q.broken i }) (omega (arith, l))
      (λ v q vs rest r w.
      subst (λ z. Went ds result n (behind_loop (stand p v a).broken n (stand p v c)) rest (cut Stopped JudgedState cells_judged with_cells_judged z (bind r (λ f t. Go (out_of_loop f) t)))) (sym (count_cells p v a))
      (loop_went n (stand p v a) (stand p v c) rest r q w))
      (omega arith)
