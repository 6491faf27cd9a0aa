-- Declarations and parameters: cells that come, and what they hold.
use Rattle.std.proofs.Common.{◌≡◌, ℕ, zero, suc, ◌+◌, ◌≤◌, Bool, false, ℤ, List, [], ◌∷◌, ◌++◌, map, refl, sym, ◌∙◌, ap, subst, arith, append-nil, length-append, Option}
use Rattle.std.specs.declared.vec.Vec.{Vec}
use Rattle.std.specs.declared.alloc.Global.{Global}
use Rattle.std.specs.List.{All}
use Rattle.std.proofs.Math.Seq.{drop-nil}
use Rattle.std.proofs.lemmas.List.Elements.{All-head, All-tail, All-cons, All-nil}
use Rattle.c_core.specs.Tree.{Program, Exp, Exps, MoreExp, Init, Names, MoreName}
use Rattle.c_core.specs.Types.{fit}
use Rattle.c_core.specs.declared.number.IntType.{IntType}
use Rattle.c_core.specs.declared.number.Spot.{Spot}
use Rattle.c_meaning.specs.declared.run.Duty.{Duty}
use Rattle.c_meaning.specs.Acts.{Go, bind, go_on, write}
use Rattle.c_meaning.specs.Acts as acts
use Rattle.c_meaning.specs.Cells.{cells_from}
use Rattle.c_meaning.specs.Exec.{ticks, full, initial, initials, declare, with_params}
use Rattle.c_meaning.specs.Havoc.{Stopped}
use Rattle.sym_meaning.specs.Mode.{Mode, Turn, JudgedState, cells_judged, with_cells_judged}
use Rattle.sym_meaning.specs.Judged.{judged}
use Rattle.c_meaning.specs.Meaning.{Tick, ACell, Used, Calls}
use Rattle.c_meaning.specs.Objects.{type_of_object, size_of_object}
use Rattle.circuits.specs.Numbers.{typed, Reads}
use Rattle.circuits.proofs.Nets.{grown_not, own}
use Rattle.run_state.proofs.Taking.{appended}
use Rattle.sym_state.specs.declared.state.Sym.{Sym}
use Rattle.sym_state.specs.declared.state.SymCell.{SymCell}
use Rattle.sym_state.specs.Places.{key}
use Rattle.sym_state.specs.Standing.{stand, cell_at, IsCell, IsState}
use Rattle.sym_state.specs.Following.{Follows}
use Rattle.sym_state.proofs.Composed.{follows_then}
use Rattle.sym_flow.specs.Leaving.{Runs}
use Rattle.sym_flow.specs.Ways.{Became, declaring, with_cell}
use Rattle.sym_flow.proofs.Bools.{count_cells, became_count}
use Rattle.sym_flow.proofs.Statements.{became_runs, runs_then, runs_as, follows_runs}
use Rattle.sym_flow.proofs.Around.{same_became}
use Rattle.sym_flow.proofs.Becoming.{became, became_then, became_as}

-- ---- one cell more
all_snoc : {A : Type 0} (P : A → Type 0) (xs : List A) (x : A) → All P xs → P x → All P (xs ++ x ∷ [])
all_snoc P [] x h q = All-cons P x [] q (All-nil P)
all_snoc P (y ∷ ys) x h q = All-cons P y (ys ++ x ∷ []) (All-head P y ys h) (all_snoc P ys x (All-tail P y ys h) q)

map_snoc : {A B : Type 0} (f : A → B) (xs : List A) (x : A) → map f (xs ++ x ∷ []) ≡ map f xs ++ f x ∷ []
map_snoc f [] x = refl
map_snoc f (y ∷ ys) x = ap (λ z. f y ∷ z) (map_snoc f ys x)

module _ (p : Program) where
  pub cell_became : (s : Sym) (o i : ℕ) (z : ℤ) (ty : IntType) (c : SymCell) (cells : Vec SymCell Global) → IsState p s → ty ≡ type_of_object p o → c.object ≡ o → c.index ≡ i → Reads p.model ty s.net c.bits.bits (λ v. z) → cells.items ≡ s.cells.items ++ c ∷ []
      → Became p 0 s (record s { cells = cells }) (λ v x. record x { cells = x.cells ++ record { key = key o i; value = z } ∷ [] })
  cell_became s o i z ty c cells h t eo ei r e =
      let own_ty : ty ≡ type_of_object p c.object = t ∙ ap (type_of_object p) (sym eo) in
      let one : IsCell p s.net c = subst (λ t. IsCell p s.net c) own_ty (rw (sym own_ty) r.bits_in) in
      became p s s.net s.live s.broken s.again s.gave s.given cells (λ v x. record x { cells = x.cells ++ record { key = key o i; value = z } ∷ [] }) h (grown_not 0 s.net)
      (record {
        live_is = own s.net s.live h.live;
        broken_is = own s.net s.broken h.broken;
        again_is = own s.net s.again h.again;
        gave_is = own s.net s.gave h.gave;
        given_in = h.given;
        given_is = λ v. refl;
        cells_in = rw e (all_snoc (IsCell p s.net) s.cells.items c h.cells one);
        cells_are = λ v.
            let new : cell_at p v s.net c ≡ record { key = record { object = o; index = i }; value = z } =
            λ j. record { key = record { object = eo j; index = ei j }; value = (ap (λ t. typed p.model t v s.net c.bits.bits) (sym own_ty) ∙ r.is v) j } in
            ap (map (cell_at p v s.net)) e ∙ map_snoc (cell_at p v s.net) s.cells.items c ∙ ap (λ z. map (cell_at p v s.net) s.cells.items ++ z ∷ []) new;
        failing = λ v. refl;
        completed = λ v. refl;
        draws = λ v. refl;
      })

  -- no cell, and one more
  pub none_declared : (s : Sym) (o : ℕ) → IsState p s → Became p 0 s s (λ v. declaring o 0)
  none_declared s o h = became_as p (λ v. declaring o 0) (same_became p s h) (λ v i. record (stand p v s) { cells = sym (append-nil (stand p v s).cells) i })

  pub one_declared : (a b c : Sym) (o n : ℕ) → Became p 0 a b (λ v. declaring o n) → Became p 0 b c (λ v. with_cell o n) → Became p 0 a c (λ v. declaring o (n + 1))
  one_declared a b c o n x y =
      became_as p (λ v. declaring o (n + 1)) (became_then p 0 x y (omega arith))
      (λ v.
      let cs = (stand p v a).cells in
      let ds = cs ++ cells_from o 0 n [] in
      let e : ds ++ cells_from o n 1 [] ≡ cs ++ cells_from o 0 (n + 1) [] = appended cs ds (ds ++ cells_from o n 1 []) o n [] refl (ap (λ z. ds ++ cells_from o n 1 z) (sym (drop-nil n))) in
      λ i. record (stand p v a) { cells = e i })

module _ (p : Program) (ds : List Duty) (result : Option IntType) where
  pub declare_runs : {a b : Sym} (o n : ℕ) → Became p 0 a b (λ v. declaring o n) → Runs ds p result 0 0 a b (λ v. acts.declare Stopped JudgedState cells_judged with_cells_judged o n)
  declare_runs {a = a} {b = b} o n x =
      let v0 : ℕ → Bool = λ k. false in
      became_runs p ds result (λ v. declaring o n) x (omega (arith, became_count {a = a} {b = b} p (λ v. declaring o n) x v0, length-append (stand p v0 a).cells (cells_from o 0 n []), count_cells p v0 a)) (λ v. refl)
      (λ v d. record { live = refl; broken = refl; again = refl; gave = refl; given = refl; failing = refl; completed = refl; draws = refl; junk = cells_from o 0 n []; cells = refl })
      (λ v here rest. (record { live = here.live; broken = here.broken; again = here.again; gave = here.gave; failing = here.failing }, refl))

module _ (p : Program) (W : Mode) where
  -- no judged run counts steps
  pub no_ticks : (t : Tick) (n : ℕ) (s : JudgedState) → ticks p (judged p W) t n s ≡ Go tt s
  no_ticks t zero s = refl
  no_ticks t (suc n) s = no_ticks t n s

  module _ (ds : List Duty) (result : Option IntType) (call : Calls (judged p W)) (may : Bool) where
    -- C11 6.7p1: an object's cells, what its initializer or its draws make of them, and the other names
    pub names_run : {i j k l : ℕ} {a b c d : Sym} (n m : ℕ) (at spot : Spot) (o : ℕ) (x : Init) (ns : Names) → Became p 0 a b (λ v. declaring o (size_of_object p o))
        → Follows ds p i j b c (λ v u. Unit {0}) (λ v. initial p (judged p W) call at spot o x) → Runs ds p result k l c d (λ v. declare p (judged p W) call at ns may) → i + k ≤ n → j + l ≤ m
        → Runs ds p result n m a d (λ v. declare p (judged p W) call at (MoreName spot o x ns) may)
    names_run {i} {j} {k} {l} n m at spot o x ns y f r h q =
        let rest = follows_runs p ds result (i + k) (j + l) (λ v u. declare p (judged p W) call at ns may) f r (λ v u w s. refl) (omega arith) (omega arith) in
        runs_as p ds result (runs_then p ds result n m (declare_runs p ds result o (size_of_object p o) y) rest (omega (arith, h)) (omega (arith, q)))
        (λ v s. ap (λ z. bind z (λ u s. bind (acts.declare Stopped JudgedState cells_judged with_cells_judged o (size_of_object p o) s) (go_on (λ s. bind (initial p (judged p W) call at spot o x s) (λ u. declare p (judged p W) call at ns may))))) (sym (no_ticks ACell (size_of_object p o) s)))
        (omega arith) (omega arith)

    -- C11 6.7.9p11: one value of an initializer, and the others
    pub initials_next : {S : (ℕ → Bool) → ℤ → Type 0} {i1 i2 i3 j1 j2 j3 : ℕ} {a b c d : Sym} (n m : ℕ) (at : Spot) (o i : ℕ) (e : Exp) (es : Exps) (w : (ℕ → Bool) → ℤ)
        → Follows ds p i1 j1 a b S (λ v. full p (judged p W) call at Used e) → ((v : ℕ → Bool) (z : ℤ) → S v z → fit p.model (type_of_object p o) z ≡ w v)
        → Follows ds p i2 j2 b c (λ v u. Unit {0}) (λ v. write Stopped JudgedState cells_judged with_cells_judged (key o i) (w v)) → Follows ds p i3 j3 c d (λ v u. Unit {0}) (λ v. initials p (judged p W) call at o (suc i) es)
        → i1 + (i2 + i3) ≤ n → j1 + (j2 + j3) ≤ m → Follows ds p n m a d (λ v u. Unit {0}) (λ v. initials p (judged p W) call at o i (MoreExp e es))
    initials_next {i2 = i2} {i3 = i3} {j2 = j2} {j3 = j3} n m at o i e es w x fits y z h q =
        let rest = follows_then p ds (i2 + i3) (j2 + j3) (λ v u. initials p (judged p W) call at o (suc i) es) y z (λ v u t s. refl) (omega arith) (omega arith) in
        follows_then p ds n m (λ v z s. bind (write Stopped JudgedState cells_judged with_cells_judged (key o i) (fit p.model (type_of_object p o) z) s) (λ u. initials p (judged p W) call at o (suc i) es)) x rest
        (λ v z t s. ap (λ w. bind (write Stopped JudgedState cells_judged with_cells_judged (key o i) w s) (λ u. initials p (judged p W) call at o (suc i) es)) (fits v z t)) h q

  -- ---- parameters (C11 6.5.2.2p4, p7)
  module _ (ds : List Duty) (result : Option IntType) (may : Bool) where
    -- without one it is 0
    pub params_lack : {k l : ℕ} {a b d : Sym} (o : ℕ) (os : List ℕ) (body : Turn) → Became p 0 a b (λ v. declaring o 1) → Runs ds p result k l b d (λ v. with_params p (judged p W) os [] body may)
        → Runs ds p result k l a d (λ v. with_params p (judged p W) (o ∷ os) [] body may)
    params_lack {k} {l} o os body y r = runs_then p ds result k l (declare_runs p ds result o 1 y) r (omega arith) (omega arith)
