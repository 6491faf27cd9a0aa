-- Events, one after another with parts that give values.
use Rattle.std.proofs.Common.{◌≡◌, ℕ, Bool, true, false, cond, ℤ, List, refl, sym, ap}
use Rattle.c_core.specs.Tree.{Program}
use Rattle.c_meaning.specs.declared.run.Event.{Event}
use Rattle.c_meaning.specs.Cells.{Cell}
use Rattle.c_meaning.specs.Acts.{Res, Go, Stop, bind}
use Rattle.c_meaning.specs.Havoc.{Stopped}
use Rattle.sym_meaning.specs.Mode.{Mode, JudgedState}
use Rattle.sym_meaning.specs.Judged.{tell}
use Rattle.sym_state.specs.declared.state.Sym.{Sym}
use Rattle.sym_state.specs.Standing.{Stand, stand, IsState, Turned}
use Rattle.sym_state.specs.Following.{left_of, Deed, Came, Follows}
use Rattle.sym_state.specs.Telling.{telling}
use Rattle.sym_state.proofs.Nets.{unchanged}
use Rattle.sym_state.proofs.Composed.{turned_follows}
use Rattle.sym_state.proofs.Turning.{turned_as}

module _ (p : Program) (W : Mode) where
  untold : (e : Event) (a : Stand) → a.live ≡ false → telling W e a ≡ a
  untold e a d = λ i. record a { completed = ap (λ l. cond l (W.next e a.cells a.completed) a.completed) d i }

  -- an event, which may depend on the inputs
  pub told_follows : {k : ℕ} {a b : Sym} (e : (ℕ → Bool) → Event) → Turned p k 0 a b (λ v. telling W (e v)) → Follows W.duties p k 0 a b (λ v u. Unit {0}) (λ v. tell p W (e v))
  told_follows {a = a} e x =
      turned_follows p W.duties (λ v. telling W (e v)) x (λ v. refl) (λ v d. untold (e v) (stand p v a) d)
      (λ v here rest.
      let s = stand p v a in (
        record { live = here.live; broken = here.broken; again = here.again; gave = here.gave; failing = here.failing },
        (λ i. record { cells = s.cells; values = rest; draws = s.draws; completed = ap (λ l. cond l (W.next (e v) s.cells s.completed) s.completed) (sym here.live) i }),
        tt,
      ))

  came_map : {A B : Type 0} (S : A → Type 0) (T : B → Type 0) (h : A → B) (b : Stand) (rest : List ℤ) (r : Res Stopped JudgedState A) → ((x : A) → S x → T (h x)) → Came W.duties S b rest r → Came W.duties T b rest (bind r (λ x k. Go (h x) k))
  came_map S T h b rest (Go x s) f q = (q.0, q.1, f x q.2)
  came_map S T h b rest (Stop e s) f q = q

  -- what is made of a value
  pub follows_map : {A B : Type 0} {i j : ℕ} {a b : Sym} {S : (ℕ → Bool) → A → Type 0} {T : (ℕ → Bool) → B → Type 0} {m : Deed A} (h : (ℕ → Bool) → A → B) → Follows W.duties p i j a b S m → ((v : ℕ → Bool) (x : A) → S v x → T v (h v x))
      → Follows W.duties p i j a b T (λ v s. bind (m v s) (λ x k. Go (h v x) k))
  follows_map {a = a} {b = b} {S = S} {T = T} {m = m} h x f = record {
    fits = x.fits;
    added = x.added;
    level = x.level;
    result = x.result;
    moves = x.moves;
    does = λ v here vs rest t. came_map (S v) (T v) (h v) (stand p v b) rest (m v (left_of (stand p v a) vs)) (f v) (x.does v here vs rest t);
  }

  -- the same event by another name
  pub told_as : {k : ℕ} {a b : Sym} {e : (ℕ → Bool) → Event} (f : (ℕ → Bool) → Event) → Turned p k 0 a b (λ v. telling W (e v)) → ((v : ℕ → Bool) → e v ≡ f v) → Turned p k 0 a b (λ v. telling W (f v))
  told_as {a = a} f x h = turned_as p (λ v. telling W (f v)) x (λ v. ap (λ e. telling W e (stand p v a)) (h v))

  -- where a mode follows no events, an event leaves each state as it is
  pub untold_turned : ((e : Event) (cells : List Cell) (completed : List Bool) → W.next e cells completed ≡ completed) → (a : Sym) (e : (ℕ → Bool) → Event) → IsState p a → Turned p 0 0 a a (λ v. telling W (e v))
  untold_turned h a e f = record {
    fits = f;
    added = unchanged 0 a.net;
    level = refl;
    result = refl;
    is = λ v. let s = stand p v a in λ i. record s { completed = sym (same s.live (W.next (e v) s.cells s.completed) s.completed (h (e v) s.cells s.completed)) i };
  }
    where
      same : (b : Bool) (x y : List Bool) → x ≡ y → cond b x y ≡ y
      same true x y q = q
      same false x y q = refl
