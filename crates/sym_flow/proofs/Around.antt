-- A part with fresh bits around it, and what comes together behind it.
use Rattle.std.proofs.Common.{◌≡◌, ℕ, ◌+◌, ◌≤◌, Bool, false, ℤ, List, ◌++◌, length, refl, sym, ◌∙◌, ap, subst, arith, Option}
use Rattle.c_core.specs.Tree.{Program}
use Rattle.c_core.specs.declared.number.IntType.{IntType}
use Rattle.c_meaning.specs.declared.run.Duty.{Duty}
use Rattle.c_meaning.specs.Acts.{Res, Flow}
use Rattle.c_meaning.specs.Havoc.{Stopped}
use Rattle.sym_meaning.specs.Mode.{JudgedState}
use Rattle.sym_state.specs.declared.state.Sym.{Sym}
use Rattle.sym_state.specs.Standing.{Stand, stand, IsState, Kept, IsHere}
use Rattle.sym_state.specs.Following.{left_of, Deed}
use Rattle.sym_state.proofs.Nets.{added_then, unchanged}
use Rattle.sym_flow.specs.Leaving.{Went, Runs}
use Rattle.sym_flow.specs.Ways.{Became}
use Rattle.sym_flow.proofs.Bools.{count_cells, became_count}

-- what a call does before a part, and another behind it
pub record Frames (before after : (ℕ → Bool) → Stand → Stand) : Type 0 where
  pub live : (v : ℕ → Bool) (s : Stand) → (before v s).live ≡ s.live
  pub cells : (v : ℕ → Bool) (s : Stand) → (before v s).cells ≡ s.cells
  pub draws : (v : ℕ → Bool) (s : Stand) → (before v s).draws ≡ s.draws
  pub draws_after : (v : ℕ → Bool) (s : Stand) → (after v s).draws ≡ s.draws

pub same_became : (p : Program) (a : Sym) → IsState p a → Became p 0 a a (λ v s. s)
same_became p a h = record { fits = h; added = unchanged 0 a.net; result = refl; is = λ v. refl }

module _ (p : Program) (ds : List Duty) (result : Option IntType) where
  pub around_runs : {g i j k : ℕ} {a b c d : Sym} {m : Deed Flow} (n : ℕ) (before after : (ℕ → Bool) → Stand → Stand) (next : (ℕ → Bool) → JudgedState → Res Stopped JudgedState Flow → Res Stopped JudgedState Flow)
      → Frames before after → Became p g a b before → Runs ds p result i j b c m → Became p k c d after
      → ((v : ℕ → Bool) → (stand p v a).live ≡ false → Kept (before v (stand p v a)) (stand p v c) → Kept (stand p v a) (after v (stand p v c)))
      → ((v : ℕ → Bool) → IsHere (length ds) (stand p v a) → before v (stand p v a) ≡ stand p v a)
      → length a.cells.items ≤ length d.cells.items
      → ((v : ℕ → Bool) → IsHere (length ds) (stand p v a) → (vs rest : List ℤ) (r : Res Stopped JudgedState Flow) → Went ds result (length a.cells.items) (stand p v c) rest r
      → Went ds result (length a.cells.items) (after v (stand p v c)) rest (next v (left_of (stand p v a) vs) r))
      → g + (i + k) ≤ n → Runs ds p result n j a d (λ v s. next v s (m v s))
  around_runs {g} {i} {j} {k} {a} {b} {c} {d} {m} n before after next fr x y z dead here grown went le = record {
    fits = z.fits;
    added = added_then n j x.added (added_then (i + k) j y.added z.added (omega arith) (omega arith)) le (omega arith);
    grows = grown;
    result = z.result ∙ y.result ∙ x.result;
    moves = λ v.
        let A = stand p v a in
        record {
          more = (y.moves v).more;
          draws = ap (λ s. s.draws) (z.is v) ∙ fr.draws_after v (stand p v c) ∙ (y.moves v).draws ∙ ap (λ s. s.draws ++ (y.moves v).more) (x.is v) ∙ ap (λ w. w ++ (y.moves v).more) (fr.draws v A);
          still = λ q.
              let was : (stand p v b).live ≡ false = ap (λ s. s.live) (x.is v) ∙ fr.live v A ∙ q in
              subst (Kept A) (sym (z.is v)) (dead v q (subst (λ s. Kept s (stand p v c)) (x.is v) ((y.moves v).still was)));
        };
    does = λ v h vs rest t.
        let A = stand p v a in
        let e : stand p v b ≡ A = x.is v ∙ here v h in
        let count : length b.cells.items ≡ length a.cells.items = became_count {a = a} {b = b} p before x v ∙ ap length (fr.cells v A) ∙ count_cells p v a in
        subst (λ s. Went ds result (length a.cells.items) s rest (next v (left_of A vs) (m v (left_of A vs)))) (sym (z.is v))
        (went v h vs rest (m v (left_of A vs))
        (subst (λ w. Went ds result w (stand p v c) rest (m v (left_of A vs))) count
        (subst (λ s. Went ds result (length b.cells.items) (stand p v c) rest (m v (left_of s vs))) e
        (y.does v (subst (IsHere (length ds)) (sym e) h) vs rest t))));
  }
