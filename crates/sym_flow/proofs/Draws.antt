-- Cells that draw their values in turn.
use Rattle.std.proofs.Common.{◌≡◌, ℕ, zero, suc, ◌+◌, ◌*◌, ◌≤◌, ◌<◌, ◌^◌, Bool, false, cond, ℤ, List, [], ◌∷◌, ◌++◌, length, take, drop, get_or, refl, sym, ◌∙◌, ap, subst, arith, append-nil}
use Rattle.std.proofs.Math.Nat.{mul-le-mul_right}
use Rattle.std.proofs.Math.Seq.{take-suc}
use Rattle.std.proofs.lemmas.List.{take-append-drop}
use Rattle.c_core.specs.Tree.{Program}
use Rattle.c_core.specs.Types.{width_of}
use Rattle.c_core.specs.declared.number.IntType.{IntType}
use Rattle.c_core.specs.declared.number.Spot.{Spot}
use Rattle.c_meaning.specs.declared.run.Draw.{Draw}
use Rattle.c_meaning.specs.declared.run.DrawKind.{DrawKind}
use Rattle.c_meaning.specs.declared.run.DrawKind.TheVariants.{Havoc as AHavocDraw, Cell as ACellDraw}
use Rattle.c_meaning.specs.declared.run.Duty.{Duty}
use Rattle.c_meaning.specs.Acts.{Res, Go, Stop, bind, write}
use Rattle.c_meaning.specs.Cells.{Key, put}
use Rattle.c_meaning.specs.Duties.{Placed}
use Rattle.c_meaning.specs.Exec as exec
use Rattle.c_meaning.specs.Havoc.{Stopped}
use Rattle.sym_meaning.specs.Mode.{JudgedState, cells_judged, with_cells_judged, Mode}
use Rattle.sym_meaning.specs.Judged.{draw, judged}
use Rattle.sym_meaning.specs.Obliging.{redraw_cells, redraw}
use Rattle.c_meaning.specs.Meaning.{Calls}
use Rattle.c_meaning.specs.Objects.{type_of_object, size_of_object}
use Rattle.circuits.specs.declared.net.Bit.{Bit}
use Rattle.circuits.specs.declared.net.NetNode.{NetNode}
use Rattle.circuits.specs.Net.{holds}
use Rattle.circuits.specs.Numbers.{typed}
use Rattle.sym_state.specs.declared.state.Sym.{Sym}
use Rattle.sym_state.specs.Drawn.{draw_of, IsDrawn}
use Rattle.sym_state.specs.Places.{key}
use Rattle.sym_state.specs.Standing.{Stand, stand, IsState, Turned, drawing, stored}
use Rattle.sym_state.specs.Following.{left_of, Taken, Deed, Came, Follows}
use Rattle.sym_state.proofs.Nets.{unchanged}
use Rattle.sym_state.proofs.Composed.{same_kept, follows_then, follows_as, turned_follows}
use Rattle.sym_flow.specs.Drawing.{cell_drawn, cells_drawn, bits_of_cells, bits_of_objects}

undrawn : (d : Draw) (a : Stand) → a.live ≡ false → drawing d a ≡ a
undrawn d a h = λ i. record a { draws = (ap (λ l. a.draws ++ cond l (d ∷ []) []) h ∙ append-nil a.draws) i }

dead_store : (k : Key) (z : ℤ) (a : Stand) (b : Bool) → b ≡ false → stored b k z a ≡ a
dead_store k z a b h = λ i. record a { cells = cond (h i) (put k z a.cells) a.cells }

module _ (p : Program) (ds : List Duty) where
  abbrev pub nothing : Deed (Unit {0})
  nothing v s = Go tt s

  pub nothing_follows : (a : Sym) → IsState p a → Follows ds p 0 0 a a (λ v u. Unit {0}) nothing
  nothing_follows a h = record {
    fits = h;
    added = unchanged 0 a.net;
    level = refl;
    result = refl;
    moves = λ v. record { more = []; draws = sym (append-nil (stand p v a).draws); still = λ d. same_kept refl };
    does = λ v here vs rest t. (here, ap (λ w. left_of (stand p v a) w) t, tt);
  }

  -- a draw's bits are its value, from whatever list it is taken
  pub drawn_follows : (from : DrawKind) (spot : Spot) (ty : IntType) (s n : Sym) (bits : List Bit) → IsDrawn p from spot ty s n bits
      → Follows ds p 0 (width_of p.model ty) s n (λ v z. z ≡ typed p.model ty v n.net bits) (λ v. draw p from spot ty)
  drawn_follows from spot ty s n bits x =
      let d : (ℕ → Bool) → Draw = λ v. draw_of p from spot ty v n.net bits in
      record {
        fits = x.turned.fits;
        added = x.turned.added;
        level = x.turned.level;
        result = x.turned.result;
        moves = λ v. record { more = cond (stand p v s).live (d v ∷ []) []; draws = ap (λ z. z.draws) (x.turned.is v); still = λ h. same_kept (x.turned.is v ∙ undrawn (d v) (stand p v s) h) };
        does = λ v here vs rest t.
            let a = stand p v s in
            let u : Taken p.model (d v ∷ []) vs rest = subst (λ l. Taken p.model (cond l (d v ∷ []) []) vs rest) here.live t in
            subst (λ z. Came ds (λ w. w ≡ (d v).value) z rest (draw p from spot ty (left_of a vs))) (sym (x.turned.is v)) (
              record { live = here.live; broken = here.broken; again = here.again; gave = here.gave; failing = here.failing },
              (λ i. record { cells = a.cells; completed = a.completed; values = u.1 i; draws = (ap (λ q. a.draws ++ record { spot = spot; ty = ty; value = q; from = from } ∷ []) u.0 ∙ ap (λ l. a.draws ++ cond l (d v ∷ []) []) (sym here.live)) i }),
              u.0,
            );
      }

  -- a value is written where a run is here
  pub stored_follows : {i : ℕ} (k : Key) (z : (ℕ → Bool) → ℤ) (s n : Sym) → Turned p i 0 s n (λ v. stored (holds v s.net s.live) k (z v))
      → Follows ds p i 0 s n (λ v u. Unit {0}) (λ v. write Stopped JudgedState cells_judged with_cells_judged k (z v))
  stored_follows k z s n x =
      turned_follows p ds (λ v. stored (holds v s.net s.live) k (z v)) x (λ v. refl) (λ v d. dead_store k (z v) (stand p v s) (holds v s.net s.live) d)
      (λ v here rest.
      let a = stand p v s in (
        record { live = here.live; broken = here.broken; again = here.again; gave = here.gave; failing = here.failing },
        (λ i. record { cells = cond (sym here.live i) (put k (z v) a.cells) a.cells; values = rest; draws = a.draws; completed = a.completed }),
        tt,
      ))

  pub cell_follows : (from : DrawKind) (spot : Spot) (o j : ℕ) (a b c : Sym) (ty : IntType) (bits : List Bit) (here : Bit) → ty ≡ type_of_object p o → here ≡ b.live → IsDrawn p from spot ty a b bits
      → Turned p (4 * width_of p.model (type_of_object p o)) 0 b c (λ v. stored (holds v b.net here) (key o j) (typed p.model (type_of_object p o) v b.net bits))
      → Follows ds p (4 * width_of p.model (type_of_object p o)) (width_of p.model (type_of_object p o)) a c (λ v u. Unit {0}) (λ v. cell_drawn p from spot o j)
  cell_follows from spot o j a b c ty bits here e l x y =
      let own = type_of_object p o in
      let x' : IsDrawn p from spot own a b bits = subst (λ t. IsDrawn p from spot t a b bits) e x in
      let y' : Turned p (4 * width_of p.model own) 0 b c (λ v. stored (holds v b.net b.live) (key o j) (typed p.model own v b.net bits)) =
      subst (λ h. Turned p (4 * width_of p.model own) 0 b c (λ v. stored (holds v b.net h) (key o j) (typed p.model own v b.net bits))) l y in
      follows_then p ds (4 * width_of p.model own) (width_of p.model own) (λ v z. write Stopped JudgedState cells_judged with_cells_judged (key o j) z) (drawn_follows from spot own a b bits x')
      (stored_follows (key o j) (λ v. typed p.model own v b.net bits) b c y') (λ v z q s. ap (λ w. write Stopped JudgedState cells_judged with_cells_judged (key o j) w s) q) (omega arith) (omega arith)

-- ---- one cell more
module _ (p : Program) (from : DrawKind) (spot : Spot) (o : ℕ) where
  pub cells_snoc : (n i : ℕ) (s : JudgedState) → cells_drawn p from spot o i (suc n) s ≡ bind (cells_drawn p from spot o i n s) (λ u. cell_drawn p from spot o (i + n))
  cells_snoc zero i s = let e : i + 0 ≡ i = omega arith in rw e refl
  cells_snoc (suc n) i s = let e : suc i + n ≡ i + suc n = omega arith in cells_snoc n (suc i) _ ∙ ap (λ k. bind (cells_drawn p from spot o i (suc n) s) (λ u. cell_drawn p from spot o k)) e

  -- those of so many cells, and one more
  pub cells_more : (ds : List Duty) (n : ℕ) (a b c : Sym) → Follows ds p (4 * bits_of_cells p o n) (bits_of_cells p o n) a b (λ v u. Unit {0}) (λ v. cells_drawn p from spot o 0 n)
      → Follows ds p (4 * width_of p.model (type_of_object p o)) (width_of p.model (type_of_object p o)) b c (λ v u. Unit {0}) (λ v. cell_drawn p from spot o n)
      → Follows ds p (4 * bits_of_cells p o (n + 1)) (bits_of_cells p o (n + 1)) a c (λ v u. Unit {0}) (λ v. cells_drawn p from spot o 0 (n + 1))
  cells_more ds n a b c x y =
      let w = width_of p.model (type_of_object p o) in
      let m : suc n ≡ n + 1 = omega arith in
      let front : 0 + n ≡ n = omega arith in
      let k : (n + 1) * w ≡ n * w + w = omega arith in
      let g : 4 * (n * w) + 4 * w ≤ 4 * ((n + 1) * w) = omega (arith, k) in
      let h : n * w + w ≤ (n + 1) * w = omega (arith, k) in
      follows_as p ds (follows_then p ds (4 * ((n + 1) * w)) ((n + 1) * w) (λ v u. cell_drawn p from spot o n) x y (λ v u q s. refl) g h) (λ v u q. q)
      (λ v s. ap (λ j. bind (cells_drawn p from spot o 0 n s) (λ u. cell_drawn p from spot o j)) (sym front) ∙ sym (cells_snoc n 0 s) ∙ ap (λ z. cells_drawn p from spot o 0 z s) m) (omega arith) (omega arith)

  pub none_drawn : (ds : List Duty) (a : Sym) → IsState p a → Follows ds p (4 * bits_of_cells p o 0) (bits_of_cells p o 0) a a (λ v u. Unit {0}) (λ v. cells_drawn p from spot o 0 0)
  none_drawn ds a h = follows_as p ds (nothing_follows p ds a h) (λ v u q. q) (λ v s. refl) (omega arith) (omega arith)

  -- there is room for the next cell
  pub room_cell : (n k : ℕ) (old new : List NetNode) → n ≤ k → length new ≤ length old + (4 * bits_of_cells p o n + bits_of_cells p o n) → length old + 5 * bits_of_cells p o k < 2 ^ 27 → length new < 2 ^ 27
  room_cell n k old new h few room = omega (arith, mul-le-mul_right (width_of p.model (type_of_object p o)) h, few, room)

-- at a loop's head, and where an object is declared
pub redrawn : (p : Program) (I : List Placed) (spot : Spot) (o n i : ℕ) (s : JudgedState) → cells_drawn p AHavocDraw spot o i n s ≡ redraw_cells p I spot o i n s
redrawn p I spot o zero i s = refl
redrawn p I spot o (suc n) i s = redrawn p I spot o n (suc i) _

pub declared_drawn : (p : Program) (W : Mode) (call : Calls (judged p W)) (spot : Spot) (o n i : ℕ) (s : JudgedState) → cells_drawn p ACellDraw spot o i n s ≡ exec.draw_cells p (judged p W) call spot o i n s
declared_drawn p W call spot o zero i s = refl
declared_drawn p W call spot o (suc n) i s = declared_drawn p W call spot o n (suc i) _

-- ---- the objects that a loop changes
module _ (p : Program) where
  right_unit : (r : Res Stopped JudgedState (Unit {0})) → r ≡ bind r (λ u s. Go tt s)
  right_unit (Go tt s) = refl
  right_unit (Stop e s) = refl

  pub after_both : {A B C : Type 0} (r : Res Stopped JudgedState A) (k : A → JudgedState → Res Stopped JudgedState B) (l : B → JudgedState → Res Stopped JudgedState C) → bind r (λ x s. bind (k x s) l) ≡ bind (bind r k) l
  after_both (Go x s) k l = refl
  after_both (Stop e s) k l = refl

  pub redraw_snoc : (I : List Placed) (spot : Spot) (os : List ℕ) (o : ℕ) (s : JudgedState) → redraw p I spot (os ++ o ∷ []) s ≡ bind (redraw p I spot os s) (λ u. redraw_cells p I spot o 0 (size_of_object p o))
  redraw_snoc I spot [] o s = sym (right_unit (redraw_cells p I spot o 0 (size_of_object p o) s))
  redraw_snoc I spot (x ∷ xs) o s =
      ap (bind (redraw_cells p I spot x 0 (size_of_object p x) s)) (λ i u t. redraw_snoc I spot xs o t i)
      ∙ after_both (redraw_cells p I spot x 0 (size_of_object p x) s) (λ u. redraw p I spot xs) (λ u. redraw_cells p I spot o 0 (size_of_object p o))

  pub bits_append : (xs ys : List ℕ) → bits_of_objects p (xs ++ ys) ≡ bits_of_objects p xs + bits_of_objects p ys
  bits_append [] ys = omega arith
  bits_append (x ∷ xs) ys = omega (arith, bits_append xs ys)

  pub objects_more : (ds : List Duty) (I : List Placed) (spot : Spot) (os : List ℕ) (k o : ℕ) (a b c : Sym) → k < length os → o ≡ get_or os k 0
      → Follows ds p (4 * bits_of_objects p (take k os)) (bits_of_objects p (take k os)) a b (λ v u. Unit {0}) (λ v. redraw p I spot (take k os))
      → Follows ds p (4 * bits_of_cells p o (size_of_object p o)) (bits_of_cells p o (size_of_object p o)) b c (λ v u. Unit {0}) (λ v. cells_drawn p AHavocDraw spot o 0 (size_of_object p o))
      → Follows ds p (4 * bits_of_objects p (take (k + 1) os)) (bits_of_objects p (take (k + 1) os)) a c (λ v u. Unit {0}) (λ v. redraw p I spot (take (k + 1) os))
  objects_more ds I spot os k o a b c h e x y =
      let m : suc k ≡ k + 1 = omega arith in
      let t : take (k + 1) os ≡ take k os ++ o ∷ [] = ap (λ j. take j os) (sym m) ∙ take-suc os k 0 h ∙ ap (λ z. take k os ++ z ∷ []) (sym e) in
      let bits : bits_of_objects p (take (k + 1) os) ≡ bits_of_objects p (take k os) + bits_of_cells p o (size_of_object p o) = omega (arith, ap (bits_of_objects p) t, bits_append (take k os) (o ∷ [])) in
      follows_as p ds (follows_then p ds (4 * bits_of_objects p (take (k + 1) os)) (bits_of_objects p (take (k + 1) os)) (λ v u. cells_drawn p AHavocDraw spot o 0 (size_of_object p o)) x y (λ v u q s. refl) (omega (arith, bits)) (omega (arith, bits)))
      (λ v u q. q)
      (λ v s. ap (bind (redraw p I spot (take k os) s)) (λ i u z. redrawn p I spot o (size_of_object p o) 0 z i) ∙ sym (redraw_snoc I spot (take k os) o s) ∙ ap (λ z. redraw p I spot z s) (sym t)) (omega arith) (omega arith)

  pub none_redrawn : (ds : List Duty) (I : List Placed) (spot : Spot) (a : Sym) (os : List ℕ) → IsState p a → os ≡ [] → Follows ds p (4 * bits_of_objects p os) (bits_of_objects p os) a a (λ v u. Unit {0}) (λ v. redraw p I spot os)
  none_redrawn ds I spot a os h e =
      subst (λ z. Follows ds p (4 * bits_of_objects p z) (bits_of_objects p z) a a (λ v u. Unit {0}) (λ v. redraw p I spot z)) (sym e)
      (follows_as p ds (nothing_follows p ds a h) (λ v u q. q) (λ v s. refl) (omega arith) (omega arith))

  -- there is room for the next object's cells
  pub room_next : (os : List ℕ) (k o : ℕ) (old new : List NetNode) → k < length os → o ≡ get_or os k 0 → length new ≤ length old + (4 * bits_of_objects p (take k os) + bits_of_objects p (take k os))
      → length old + 5 * bits_of_objects p os < 2 ^ 27 → length new + 5 * bits_of_cells p o (size_of_object p o) < 2 ^ 27
  room_next os k o old new h e few room =
      let m : suc k ≡ k + 1 = omega arith in
      let t : take (suc k) os ≡ take k os ++ o ∷ [] = take-suc os k 0 h ∙ ap (λ z. take k os ++ z ∷ []) (sym e) in
      let all : bits_of_objects p os ≡ bits_of_objects p (take (suc k) os) + bits_of_objects p (drop (suc k) os) = ap (bits_of_objects p) (sym (take-append-drop (suc k) os)) ∙ bits_append (take (suc k) os) (drop (suc k) os) in
      omega (arith, all, ap (bits_of_objects p) t, bits_append (take k os) (o ∷ []), few, room)
