-- Where a run ends at an operator.
use Rattle.std.proofs.Common.{◌≡◌, ℕ, zero, suc, ◌+◌, Bool, true, false, not, ◌&&◌, ◌||◌, ℤ, List, [], ◌∷◌, length, refl, sym, ◌∙◌, ap, ap₂, subst, arith, cond, Option, Some, None}
use Rattle.c_core.specs.Tree.{Program}
use Rattle.c_core.specs.Types.{fit, is_signed, promote_of, width_of}
use Rattle.c_core.specs.Operators.{apply_of, apply_one_of, type_for, right_type_for}
use Rattle.c_core.specs.declared.number.IntType.{IntType}
use Rattle.c_core.specs.declared.number.BinOp.{BinOp}
use Rattle.c_core.specs.declared.number.UnOp.{UnOp}
use Rattle.c_core.specs.declared.number.Spot.{Spot}
use Rattle.c_core.specs.declared.number.Property.{Property}
use Rattle.c_core.specs.declared.number.Property.TheVariants.{UnreachCall, NoOverflow}
use Rattle.c_core.specs.declared.number.DataModel.{DataModel}
use Rattle.c_core.specs.declared.number.Done.{Done}
use Rattle.c_core.specs.declared.number.Done.TheVariants.{Value, Overflow, Undefined}
use Rattle.sym_meaning.specs.Mode.{Mode}
use Rattle.c_meaning.specs.declared.run.Event.TheVariants.{Fail}
use Rattle.c_meaning.specs.Eval.{operate}
use Rattle.c_meaning.specs.Havoc.{Passes, Fails}
use Rattle.sym_meaning.specs.Judged.{judged as meaning, answered, overflowed}
use Rattle.circuits.specs.declared.net.Bit.{Bit}
use Rattle.circuits.specs.declared.net.NetNode.{NetNode}
use Rattle.circuits.specs.declared.bits.Outcome.{Outcome}
use Rattle.circuits.specs.Net.{holds, Grown, IsIn}
use Rattle.circuits.specs.Chosen.{AreAlike}
use Rattle.circuits.specs.Facts.{Condition}
use Rattle.circuits.specs.Numbers.{number, read, typed, AreTyped, Reads}
use Rattle.circuits.specs.Outcome as C
use Rattle.circuits.proofs.Nets.{grown_then, longer}
use Rattle.sym_state.specs.declared.state.Sym.{Sym}
use Rattle.sym_state.specs.declared.state.Around.{Around}
use Rattle.sym_state.specs.Standing.{Stand, stand, IsState, IsHere, Turned, marks, marked, number_of_end, stopped, violated}
use Rattle.sym_state.specs.Following.{IsNumber, left_of, Came}
use Rattle.sym_state.proofs.Nets.{added_of, added_then, holds_added, typed_added, are_typed_added, state_grown, stand_grown}
use Rattle.sym_state.proofs.Composed.{turned_follows}
use Rattle.sym_values.specs.Valuing.{where_of, judged, IsDutyAt, CountsWhere, Gives, operated, operated_one, operated_cost, operated_one_cost}

pub and_no : (b : Bool) → (b && false) ≡ false
and_no true = refl
and_no false = refl

and_yes : (b : Bool) → (b && true) ≡ b
and_yes true = refl
and_yes false = refl

or_no : (b : Bool) → (b || false) ≡ b
or_no true = refl
or_no false = refl

pub marked_none : (k : ℕ) (fs : List Bool) → marked k false fs ≡ fs
marked_none k [] = refl
marked_none zero (f ∷ fs) = ap (λ z. z ∷ fs) (or_no f)
marked_none (suc k) (f ∷ fs) = ap (λ z. f ∷ z) (marked_none k fs)

-- the obligation of number k from 0 on is the one of number k + 1 from 1 on
pub marked_one : (k n : ℕ) → marked k true (marks 0 n) ≡ marks (suc k) n
marked_one k zero = refl
marked_one zero (suc n) = refl
marked_one (suc k) (suc n) = ap (λ z. false ∷ z) (marked_one k n)

stopped_none : (a : Stand) → stopped false a ≡ a
stopped_none a = λ i. record a { live = and_yes a.live i }

violated_none : (k : ℕ) (c : Bool) (a : Stand) → violated k false c a ≡ a
violated_none k c a = λ i. record a { live = and_yes a.live i; failing = (ap (λ b. marked k b a.failing) (and_no a.live) ∙ marked_none k a.failing) i }

judged_none : (y : Property) (k : ℕ) (c : Bool) (a : Stand) → judged y k c false false a ≡ a
judged_none NoOverflow k c a = stopped_none (violated k false c a) ∙ violated_none k c a
judged_none UnreachCall k c a = stopped_none a

judged_draws : (y : Property) (k : ℕ) (c o u : Bool) (a : Stand) → (judged y k c o u a).draws ≡ a.draws
judged_draws NoOverflow k c o u a = refl
judged_draws UnreachCall k c o u a = refl

-- a run that isn't here stays as it is
judged_dead : (y : Property) (k : ℕ) (c o u : Bool) (a : Stand) → a.live ≡ false → judged y k c o u a ≡ a
judged_dead NoOverflow k c o u a h =
    λ i. record a { live = (ap (λ l. l && not o && not u) h ∙ sym h) i; failing = (ap (λ l. marked k (l && (o && c)) a.failing) h ∙ marked_none k a.failing) i }
judged_dead UnreachCall k c o u a h = λ i. record a { live = (ap (λ l. l && not u) h ∙ sym h) i }

module _ (p : Program) (W : Mode) (at : Around) (duty_at : IsDutyAt p W at) where
  -- where a violation counts, the one failing bit is that of the number after `duty`; elsewhere there is none
  counted_marks : (c : Bool) → marked at.duty c (marks 0 (length W.duties)) ≡ marks (number_of_end W.duties (cond c (Fails (W.duty_at (where_of at))) Passes)) (length W.duties)
  counted_marks true = marked_one at.duty (length W.duties) ∙ ap (λ k. marks k (length W.duties)) (sym duty_at)
  counted_marks false = marked_none at.duty (marks 0 (length W.duties))

  -- a violation here, of a call or of an operator, marks what its end says
  pub violation_marks : (call : Option Spot) (c : Bool) (a : Stand) → c ≡ W.counts (Fail at.statement at.full call) a.cells a.completed → a.live ≡ true → a.failing ≡ marks 0 (length W.duties)
      → marked at.duty (a.live && (true && c)) a.failing ≡ marks (number_of_end W.duties (cond (W.counts (Fail at.statement at.full call) a.cells a.completed) (Fails (W.duty_at (where_of at))) Passes)) (length W.duties)
  violation_marks call c a e live none =
      ap₂ (λ l fs. marked at.duty (l && (true && c)) fs) live none ∙ counted_marks c
      ∙ ap (λ b. marks (number_of_end W.duties (cond b (Fails (W.duty_at (where_of at))) Passes)) (length W.duties)) e

  came_here : (z r : ℤ) (y : Property) (c : Bool) (a : Stand) (rest : List ℤ) → IsHere (length W.duties) a → z ≡ r → Came W.duties (λ u. u ≡ z) (judged y at.duty c false false a) rest (answered p W (where_of at) (Value r) (left_of a rest))
  came_here z r y c a rest h q = let e = judged_none y at.duty c a in (subst (IsHere (length W.duties)) (sym e) h, ap (λ b. left_of b rest) (sym e), sym q)

  came_over : (y : Property) (z r : ℤ) (c : Bool) (a : Stand) (rest : List ℤ) → c ≡ W.counts (Fail at.statement at.full None) a.cells a.completed → IsHere (length W.duties) a → z ≡ r
      → Came W.duties (λ u. u ≡ z) (judged y at.duty c true false a) rest (overflowed p W y (where_of at) r (left_of a rest))
  came_over UnreachCall z r c a rest e h q = came_here z r UnreachCall c a rest h q
  came_over NoOverflow z r c a rest e h q =
      (record { live = ap (λ l. l && true) (and_no a.live); broken = h.broken; again = h.again; gave = h.gave; failing = violation_marks None c a e h.live h.failing }, refl, refl)

  came_undefined : (y : Property) (z : ℤ) (c : Bool) (a : Stand) (rest : List ℤ) → IsHere (length W.duties) a → Came W.duties (λ u. u ≡ z) (judged y at.duty c false true a) rest (answered p W (where_of at) Undefined (left_of a rest))
  came_undefined UnreachCall z c a rest h = (record { live = and_no a.live; broken = h.broken; again = h.again; gave = h.gave; failing = h.failing }, refl, refl)
  came_undefined NoOverflow z c a rest h = (
    record {
      live = and_no (a.live && true);
      broken = h.broken;
      again = h.again;
      gave = h.gave;
      failing = ap (λ b. marked at.duty b a.failing) (and_no a.live) ∙ marked_none at.duty a.failing ∙ h.failing;
    },
    refl,
    refl,
  )

  answer_came : (d : Done) (z : ℤ) (c : Bool) (a : Stand) (rest : List ℤ) → c ≡ W.counts (Fail at.statement at.full None) a.cells a.completed → IsHere (length W.duties) a → C.HasValue d z
      → Came W.duties (λ u. u ≡ z) (judged p.property at.duty c (C.overflowed d) (C.undefined d) a) rest (answered p W (where_of at) d (left_of a rest))
  answer_came (Value r) z c a rest e h q = came_here z r p.property c a rest h q
  answer_came (Overflow r) z c a rest e h q = came_over p.property z r c a rest e h q
  answer_came Undefined z c a rest e h q = came_undefined p.property z c a rest h

  -- an operator: its circuit, and then the ends of runs
  pub answer_gives : (s n : Sym) (net : List NetNode) (ty : IntType) (o : Outcome) (b : Bit) (k : ℕ) (done : (ℕ → Bool) → Done) → CountsWhere p W at None s b → IsState p s → Grown k s.net net → C.Gives p.model ty net o done
      → Turned p 5 0 (record s { net = net }) n (λ v. judged p.property at.duty (holds v net b) (holds v net o.overflow) (holds v net o.undefined))
      → Gives p W (5 + k) 0 s n (Some ty) o.value.bits (λ v l. answered p W (where_of at) (done v) l)
  answer_gives s n net ty o b k done m h g c x =
      let C0 : (ℕ → Bool) → Bool = λ v. holds v s.net b in
      let f : (ℕ → Bool) → Stand → Stand = λ v. judged p.property at.duty (C0 v) (C.overflowed (done v)) (C.undefined (done v)) in
      let whole : Turned p (5 + k) 0 s n f = record {
        fits = x.fits;
        added = added_then (5 + k) 0 (added_of g) x.added (omega arith) (omega arith);
        level = x.level;
        result = x.result;
        is = λ v.
            x.is v ∙ ap (λ q. judged p.property at.duty q (holds v net o.overflow) (holds v net o.undefined) (stand p v (record s { net = net }))) (holds_added (added_of g) v b m.inside)
            ∙ ap₂ (λ q r. judged p.property at.duty (C0 v) q r (stand p v (record s { net = net }))) (c.overflow_is v) (c.undefined_is v) ∙ ap (f v) (stand_grown p v g h);
      } in
      record {
        bits_in = are_typed_added x.added c.value;
        follows = turned_follows p W.duties f whole (λ v. judged_draws p.property at.duty (C0 v) (C.overflowed (done v)) (C.undefined (done v)) (stand p v s))
            (λ v d. judged_dead p.property at.duty (C0 v) (C.overflowed (done v)) (C.undefined (done v)) (stand p v s) d)
            (λ v here rest.
            subst (λ z. Came W.duties (λ u. u ≡ z) (f v (stand p v s)) rest (answered p W (where_of at) (done v) (left_of (stand p v s) rest))) (sym (typed_added x.added p.model ty v o.value.bits c.value))
            (answer_came (done v) (typed p.model ty v net o.value.bits) (C0 v) (stand p v s) rest (m.is v) here (c.value_is v)));
      }

-- an outcome told by other numbers
gives_as : {m : DataModel} {ty : IntType} {net : List NetNode} {o : Outcome} {f : (ℕ → Bool) → Done} (g : (ℕ → Bool) → Done) → C.Gives m ty net o f → ((v : ℕ → Bool) → f v ≡ g v) → C.Gives m ty net o g
gives_as {m} {ty} {net} {o} g c e = record {
  value = c.value;
  overflow = c.overflow;
  undefined_in = c.undefined_in;
  value_is = λ v. subst (λ d. C.HasValue d (typed m ty v net o.value.bits)) (e v) (c.value_is v);
  overflow_is = λ v. c.overflow_is v ∙ ap C.overflowed (e v);
  undefined_is = λ v. c.undefined_is v ∙ ap C.undefined (e v);
}

module _ (p : Program) (at : Around) (spot : Spot) (op : BinOp) (a b : IntType) (s n : Sym) (x y u w : List Bit) (o : Outcome) (c0 : Bit) (one two net : List NetNode) where
  abbrev done_in : IntType → IntType → (ℕ → Bool) → Done
  done_in ty right v = apply_of p.model op ty (fit p.model ty (typed p.model a v s.net x)) (fit p.model right (typed p.model b v s.net y))

  in_types : (ty right : IntType) (W : Mode) → IsDutyAt p W at → CountsWhere p W at None s c0 → IsState p s → AreTyped p.model b s.net y
      → Grown (C.conversion_cost p.model a ty) s.net one → Reads p.model ty one u (λ v. fit p.model ty (typed p.model a v s.net x))
      → Grown (C.conversion_cost p.model b right) one two → Reads p.model right two w (λ v. fit p.model right (typed p.model b v one y))
      → Grown (C.binary_cost p.model op ty) two net → C.Gives p.model (C.binary_type op ty) net o (λ v. apply_of p.model op ty (typed p.model ty v two u) (typed p.model right v two w))
      → Turned p 5 0 (record s { net = net }) n (λ v. judged p.property at.duty (holds v net c0) (holds v net o.overflow) (holds v net o.undefined))
      → Gives p W (5 + (C.conversion_cost p.model a ty + (C.conversion_cost p.model b right + C.binary_cost p.model op ty))) 0 s n (Some (C.binary_type op ty)) o.value.bits (λ v l. answered p W (where_of at) (done_in ty right v) l)
  in_types ty right W d m h iy g1 r1 g2 r2 g3 c z =
      let j = C.conversion_cost p.model b right + C.binary_cost p.model op ty in
      let k = C.conversion_cost p.model a ty + j in
      let g = grown_then (C.conversion_cost p.model a ty) j k s.net one net g1 (grown_then (C.conversion_cost p.model b right) (C.binary_cost p.model op ty) j one two net g2 g3 (omega arith)) (omega arith) in
      answer_gives p W at d s n net (C.binary_type op ty) o c0 k (done_in ty right) m h g
      (gives_as (done_in ty right) c (λ v. ap₂ (apply_of p.model op ty) (typed_added (added_of g2) p.model ty v u r1.bits_in ∙ r1.is v) (r2.is v ∙ ap (fit p.model right) (typed_added (added_of g1) p.model b v y iy)))) z

  pub operate_gives : (ty right : IntType) (W : Mode) → ty ≡ type_for p.model op a b → right ≡ right_type_for op (type_for p.model op a b) b → IsDutyAt p W at → CountsWhere p W at None s c0 → IsState p s → AreTyped p.model b s.net y
      → Grown (C.conversion_cost p.model a ty) s.net one → Reads p.model ty one u (λ v. fit p.model ty (typed p.model a v s.net x))
      → Grown (C.conversion_cost p.model b right) one two → Reads p.model right two w (λ v. fit p.model right (typed p.model b v one y))
      → Grown (C.binary_cost p.model op ty) two net → C.Gives p.model (C.binary_type op ty) net o (λ v. apply_of p.model op ty (typed p.model ty v two u) (typed p.model right v two w))
      → Turned p 5 0 (record s { net = net }) n (λ v. judged p.property at.duty (holds v net c0) (holds v net o.overflow) (holds v net o.undefined))
      → Gives p W (operated_cost p.model op a b) 0 s n (Some (C.binary_type op (type_for p.model op a b))) o.value.bits (operated p W at spot op a x b y s)
  operate_gives ty right W et er d m h iy g1 r1 g2 r2 g3 c z =
      subst (λ t. Gives p W (5 + (C.conversion_cost p.model a (type_for p.model op a b) + (C.conversion_cost p.model b t + C.binary_cost p.model op (type_for p.model op a b)))) 0 s n (Some (C.binary_type op (type_for p.model op a b))) o.value.bits (λ v l. answered p W (where_of at) (done_in (type_for p.model op a b) t v) l)) er
      (subst (λ t. Gives p W (5 + (C.conversion_cost p.model a t + (C.conversion_cost p.model b right + C.binary_cost p.model op t))) 0 s n (Some (C.binary_type op t)) o.value.bits (λ v l. answered p W (where_of at) (done_in t right v) l)) et
      (in_types ty right W d m h iy g1 r1 g2 r2 g3 c z))

-- an operator of such sides
module _ (p : Program) (W : Mode) (at : Around) (spot : Spot) (op : BinOp) (a b ty : IntType) (s n : Sym) (x y u w value : List Bit) (cost : ℕ) where
  abbrev does_on : (ℕ → Bool) → List ℤ → List ℤ → ℕ → ℕ → Type 0
  does_on v vs rest i j =
      Came W.duties (IsNumber p.model (Some ty) n.net value v) (stand p v n) rest
      (operate p (meaning p W) (where_of at) spot op a (read (width_of p.model a) (is_signed a) i) b (read (width_of p.model b) (is_signed b) j) (left_of (stand p v s) vs))

  pub operated_alike : AreAlike s.net (λ v. holds v s.net s.live) x u → AreAlike s.net (λ v. holds v s.net s.live) y w
      → Gives p W cost 0 s n (Some ty) value (operated p W at spot op a u b w s) → Gives p W cost 0 s n (Some ty) value (operated p W at spot op a x b y s)
  operated_alike left right g = record {
    bits_in = g.bits_in;
    follows = record {
      fits = g.follows.fits;
      added = g.follows.added;
      level = g.follows.level;
      result = g.follows.result;
      moves = g.follows.moves;
      does = λ v here vs rest taken.
          subst (λ j. does_on v vs rest (number v s.net x) j) (sym (right.is v here.live))
          (subst (λ i. does_on v vs rest i (number v s.net w)) (sym (left.is v here.live)) (g.follows.does v here vs rest taken));
    };
  }

module _ (p : Program) (at : Around) (op : UnOp) (a : IntType) (s n : Sym) (x u : List Bit) (o : Outcome) (c0 : Bit) (one net : List NetNode) where
  abbrev one_in : IntType → (ℕ → Bool) → Done
  one_in ty v = apply_one_of p.model op ty (fit p.model ty (typed p.model a v s.net x))

  pub operate_one_gives : (ty : IntType) (W : Mode) → ty ≡ promote_of a → IsDutyAt p W at → CountsWhere p W at None s c0 → IsState p s
      → Grown (C.conversion_cost p.model a ty) s.net one → Reads p.model ty one u (λ v. fit p.model ty (typed p.model a v s.net x))
      → Grown (C.one_cost p.model op ty) one net → C.Gives p.model (C.one_type op ty) net o (λ v. apply_one_of p.model op ty (typed p.model ty v one u))
      → Turned p 5 0 (record s { net = net }) n (λ v. judged p.property at.duty (holds v net c0) (holds v net o.overflow) (holds v net o.undefined))
      → Gives p W (operated_one_cost p.model op a) 0 s n (Some (C.one_type op (promote_of a))) o.value.bits (operated_one p W at op a x s)
  operate_one_gives ty W et d m h g1 r1 g2 c z =
      subst (λ t. Gives p W (5 + (C.conversion_cost p.model a t + C.one_cost p.model op t)) 0 s n (Some (C.one_type op t)) o.value.bits (λ v l. answered p W (where_of at) (one_in t v) l)) et
      (let k = C.conversion_cost p.model a ty + C.one_cost p.model op ty in
      let g = grown_then (C.conversion_cost p.model a ty) (C.one_cost p.model op ty) k s.net one net g1 g2 (omega arith) in
      answer_gives p W at d s n net (C.one_type op ty) o c0 k (one_in ty) m h g (gives_as (one_in ty) c (λ v. ap (apply_one_of p.model op ty) (r1.is v))) z)

-- where an overflow is the violation
pub ended_turned : (p : Program) (s t n : Sym) (k : ℕ) (c o u : Bit) → p.property ≡ NoOverflow → IsIn s.net u → Turned p 4 0 s t (λ v. violated k (holds v s.net o) (holds v s.net c)) → Turned p 1 0 t n (λ v. stopped (holds v t.net u))
    → Turned p 5 0 s n (λ v. judged p.property k (holds v s.net c) (holds v s.net o) (holds v s.net u))
ended_turned p s t n k c o u e i x y = record {
  fits = y.fits;
  added = added_then 5 0 x.added y.added (omega arith) (omega arith);
  level = y.level ∙ x.level;
  result = y.result ∙ x.result;
  is = λ v.
      y.is v ∙ ap₂ stopped (holds_added x.added v u i) (x.is v)
      ∙ ap (λ q. judged q k (holds v s.net c) (holds v s.net o) (holds v s.net u) (stand p v s)) (sym e);
}

pub fits_after : {i j k : ℕ} (p : Program) (s : Sym) (one two net : List NetNode) → IsState p s → Grown i s.net one → Grown j one two → Grown k two net → IsState p (record s { net = net })
fits_after {i} {j} {k} p s one two net h f g e = state_grown p (grown_then i (j + k) (i + (j + k)) s.net one net f (grown_then j k (j + k) one two net g e (omega arith)) (omega arith)) h

-- a bit stays in the net
pub in_after : {i j k : ℕ} (b : Bit) (old one two net : List NetNode) → IsIn old b → Grown i old one → Grown j one two → Grown k two net → IsIn net b
in_after {i} {j} {k} b old one two net h f g e = omega (arith, (longer i old one f).0, (longer j one two g).0, (longer k two net e).0)
