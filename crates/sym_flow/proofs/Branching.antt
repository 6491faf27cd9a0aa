-- Both arms of a branch, one after the other.
use Rattle.std.proofs.Common.{◌≡◌, ℕ, ◌+◌, ◌≤◌, Bool, true, false, cond, not, ◌&&◌, ◌||◌, ℤ, List, [], ◌++◌, length, refl, sym, ◌∙◌, ap, subst, arith, append_assoc, append-nil, Option}
use Rattle.c_core.specs.Tree.{Program}
use Rattle.c_core.specs.declared.number.IntType.{IntType}
use Rattle.c_core.specs.declared.number.DataModel.{DataModel}
use Rattle.c_meaning.specs.declared.run.Duty.{Duty}
use Rattle.c_meaning.specs.Acts.{Res, Flow}
use Rattle.c_meaning.specs.Havoc.{Stopped}
use Rattle.sym_meaning.specs.Mode.{JudgedState}
use Rattle.circuits.specs.declared.net.Bit.{Bit}
use Rattle.circuits.specs.Net.{holds, IsIn, opposite}
use Rattle.circuits.proofs.Nets.{holds-opposite}
use Rattle.sym_state.specs.declared.state.Sym.{Sym}
use Rattle.sym_state.specs.Standing.{Stand, stand, IsState, Kept, Moves, IsHere, Turned, with_live}
use Rattle.sym_state.specs.Following.{left_of, Taken, Deed}
use Rattle.sym_state.proofs.Nets.{added_then, holds_added}
use Rattle.sym_state.proofs.Composed.{same_kept, kept_same, none_drawn}
use Rattle.sym_flow.specs.Leaving.{Went, Runs}
use Rattle.sym_flow.proofs.Bools.{and_no, and_yes, or_no, count_cells}
use Rattle.sym_flow.proofs.Statements.{went_of}

-- from a, by the first arm from b to c, and by the second from d to e, to f
pub record Arms (t : Bool) (a b c d e f : Stand) : Type 0 where
  pub first : b ≡ record a { live = a.live && t }
  pub one : Moves b c
  pub one_level : length c.cells ≡ length b.cells
  pub second : d ≡ record c { live = a.live && not t }
  pub two : Moves d e
  pub two_level : length e.cells ≡ length d.cells
  pub last : f ≡ record e { live = c.live || e.live }

module _ {t : Bool} {a b c d e f : Stand} (x : Arms t a b c d e f) where
  -- where the second arm isn't taken
  pub skip_second : (a.live && not t) ≡ false → f ≡ c
  skip_second h =
      let dead : d.live ≡ false = ap (λ s. s.live) x.second ∙ h in
      let ed : e ≡ d = kept_same (x.two.still dead) x.two_level in
      let live : (c.live || e.live) ≡ c.live = ap (λ b. c.live || b) (ap (λ s. s.live) ed ∙ dead) ∙ or_no c.live in
      let same : e ≡ record c { live = a.live && not t } = ed ∙ x.second in
      x.last ∙ (λ i. record (same i) { live = live i })

  -- where the first arm isn't taken
  pub skip_first : (a.live && t) ≡ false → d ≡ record a { live = a.live && not t }
  skip_first h =
      let dead : b.live ≡ false = ap (λ s. s.live) x.first ∙ h in
      let cb : c ≡ record a { live = a.live && t } = kept_same (x.one.still dead) x.one_level ∙ x.first in
      x.second ∙ (λ i. record (cb i) { live = a.live && not t })

  pub first_dead : (a.live && t) ≡ false → c.live ≡ false
  first_dead h = (x.one.still (ap (λ s. s.live) x.first ∙ h)).live ∙ ap (λ s. s.live) x.first ∙ h

  abbrev pub arms_move : Moves a f
  arms_move = record {
    more = x.one.more ++ x.two.more;
    draws =
        ap (λ s. s.draws) x.last ∙ x.two.draws ∙ ap (λ s. s.draws ++ x.two.more) x.second
        ∙ ap (λ z. z ++ x.two.more) (x.one.draws ∙ ap (λ s. s.draws ++ x.one.more) x.first) ∙ append_assoc a.draws x.one.more x.two.more;
    still = λ h.
        let n1 : (a.live && t) ≡ false = ap (λ l. l && t) h in
        let n2 : (a.live && not t) ≡ false = ap (λ l. l && not t) h in
        let cb = kept_same (x.one.still (ap (λ s. s.live) x.first ∙ n1)) x.one_level in
        same_kept (skip_second n2 ∙ cb ∙ x.first ∙ (λ i. record a { live = (n1 ∙ sym h) i }));
  }

here_again : (a : Stand) → record a { live = a.live && true } ≡ a
here_again a = λ i. record a { live = and_yes a.live i }

module _ (m : DataModel) (ds : List Duty) (result : Option IntType) (n : ℕ) where
  pub arms_do : (t : Bool) {a b c d e f : Stand} (x : Arms t a b c d e f) (A B : JudgedState → Res Stopped JudgedState Flow)
      → (IsHere (length ds) b → (vs rest : List ℤ) → Taken m x.one.more vs rest → Went ds result n c rest (A (left_of b vs)))
      → (IsHere (length ds) d → (vs rest : List ℤ) → Taken m x.two.more vs rest → Went ds result n e rest (B (left_of d vs)))
      → IsHere (length ds) a → (vs rest : List ℤ) → Taken m (x.one.more ++ x.two.more) vs rest → Went ds result n f rest (cond t (A (left_of a vs)) (B (left_of a vs)))
  arms_do true {a} {b} {c} {d} {e} {f} x A B da db here vs rest t =
      let q : (a.live && false) ≡ false = and_no a.live in
      let eb : b ≡ a = x.first ∙ here_again a in
      let none : x.two.more ≡ [] = none_drawn x.two (ap (λ s. s.live) x.second ∙ q) in
      let u : Taken m x.one.more vs rest = subst (λ z. Taken m z vs rest) (ap (λ z. x.one.more ++ z) none ∙ append-nil x.one.more) t in
      subst (λ z. Went ds result n z rest (A (left_of a vs))) (sym (skip_second x q))
      (subst (λ z. Went ds result n c rest (A (left_of z vs))) eb (da (subst (IsHere (length ds)) (sym eb) here) vs rest u))
  arms_do false {a} {b} {c} {d} {e} {f} x A B da db here vs rest t =
      let q : (a.live && false) ≡ false = and_no a.live in
      let ed : d ≡ a = skip_first x q ∙ here_again a in
      let dead : c.live ≡ false = first_dead x q in
      let fe : f ≡ e = x.last ∙ (λ i. record e { live = dead i || e.live }) in
      let none : x.one.more ≡ [] = none_drawn x.one (ap (λ s. s.live) x.first ∙ q) in
      let u : Taken m x.two.more vs rest = subst (λ z. Taken m (z ++ x.two.more) vs rest) none t in
      subst (λ z. Went ds result n z rest (B (left_of a vs))) (sym fe)
      (subst (λ z. Went ds result n e rest (B (left_of z vs))) ed (db (subst (IsHere (length ds)) (sym ed) here) vs rest u))

at_once : {A : Type 0} (t : Bool) (f g : JudgedState → A) (s : JudgedState) → (cond t f g) s ≡ cond t (f s) (g s)
at_once true f g s = refl
at_once false f g s = refl

module _ (p : Program) (ds : List Duty) (result : Option IntType) where
  -- from a, where the bit `test` decides; both arms leave as many cells as there were
  pub arms_run : {i j k l : ℕ} {a b c d e f : Sym} {A B : Deed Flow} (n m : ℕ) (test : Bit) → IsState p a → IsIn a.net test
      → Turned p 1 0 a b (λ v. with_live (holds v a.net a.live && holds v a.net test)) → Runs ds p result i k b c A → length c.cells.items ≡ length b.cells.items
      → Turned p 1 0 c d (λ v. with_live (holds v c.net a.live && holds v c.net (opposite test))) → Runs ds p result j l d e B → length e.cells.items ≡ length d.cells.items
      → Turned p 1 0 e f (λ v. with_live (holds v e.net c.live || holds v e.net e.live)) → 3 + (i + j) ≤ n → k + l ≤ m
      → Runs ds p result n m a f (λ v s. cond (holds v a.net test) (A v s) (B v s))
  arms_run {i} {j} {k} {l} {a} {b} {c} {d} {e} {f} {A} {B} n m test h it n1 ra la n2 rb lb n3 g1 g2 =
      let ac = added_then (1 + i) k n1.added ra.added (omega arith) (omega arith) in
      let ce = added_then (1 + j) l n2.added rb.added (omega arith) (omega arith) in
      let cells : (v : ℕ → Bool) (x y : Sym) → length y.cells.items ≡ length x.cells.items → length (stand p v y).cells ≡ length (stand p v x).cells = λ v x y q. count_cells p v y ∙ q ∙ sym (count_cells p v x) in
      let arms : (v : ℕ → Bool) → Arms (holds v a.net test) (stand p v a) (stand p v b) (stand p v c) (stand p v d) (stand p v e) (stand p v f) = λ v. record {
        first = n1.is v;
        one = ra.moves v;
        one_level = cells v b c la;
        second = n2.is v ∙ ap (λ x. with_live (x && holds v c.net (opposite test)) (stand p v c)) (holds_added ac v a.live h.live)
            ∙ ap (λ x. with_live (holds v a.net a.live && x) (stand p v c)) (holds-opposite v c.net test ∙ ap not (holds_added ac v test it));
        two = rb.moves v;
        two_level = cells v d e lb;
        last = n3.is v ∙ ap (λ x. with_live (x || holds v e.net e.live) (stand p v e)) (holds_added ce v c.live ra.fits.live);
      } in
      let bs : length b.cells.items ≡ length a.cells.items = n1.level in
      let es : length d.cells.items ≡ length a.cells.items = n2.level ∙ la ∙ bs in
      record {
        fits = n3.fits;
        added = added_then n m (added_then (2 + (i + j)) (k + l) ac ce (omega arith) (omega arith)) n3.added (omega (arith, g1)) (omega (arith, g2));
        grows = omega (arith, n3.level, lb, es);
        result = n3.result ∙ rb.result ∙ n2.result ∙ ra.result ∙ n1.result;
        moves = λ v. record { more = (ra.moves v).more ++ (rb.moves v).more; draws = (arms_move (arms v)).draws; still = (arms_move (arms v)).still };
        does = λ v here vs rest t.
            arms_do p.model ds result (length a.cells.items) (holds v a.net test) (arms v) (A v) (B v)
            (λ q us out w. subst (λ z. Went ds result z (stand p v c) out (A v (left_of (stand p v b) us))) bs (ra.does v q us out w))
            (λ q us out w. subst (λ z. Went ds result z (stand p v e) out (B v (left_of (stand p v d) us))) es (rb.does v q us out w)) here vs rest t;
      }

  -- where nothing changed but the net, and then a statement
  pub quiet_runs : {i k l : ℕ} {a b c : Sym} {m : Deed Flow} (n : ℕ) → Turned p i 0 a b (λ v s. s) → Runs ds p result k l b c m → i + k ≤ n → Runs ds p result n l a c m
  quiet_runs {l = l} {a = a} {b = b} {c = c} {m = m} n x y h =
      record {
        fits = y.fits;
        added = added_then n l x.added y.added h (omega arith);
        grows = omega (arith, x.level, y.grows);
        result = y.result ∙ x.result;
        moves = λ v. record {
          more = (y.moves v).more;
          draws = (y.moves v).draws ∙ ap (λ s. s.draws ++ (y.moves v).more) (x.is v);
          still = λ d. subst (λ s. Kept s (stand p v c)) (x.is v) ((y.moves v).still (ap (λ s. s.live) (x.is v) ∙ d));
        };
        does = λ v here vs rest t.
            subst (λ s. Went ds result (length a.cells.items) (stand p v c) rest (m v (left_of s vs))) (x.is v)
            (went_of ds result (length a.cells.items) (length b.cells.items) (stand p v c) rest (omega (arith, x.level)) _ (y.does v (subst (IsHere (length ds)) (sym (x.is v)) here) vs rest t));
      }
