-- `&&`, `||` and `?:`: parts that are evaluated in some of the runs.
use Rattle.std.proofs.Common.{◌≡◌, ℕ, ◌+◌, ◌*◌, ◌<◌, ◌^◌, Bool, true, false, cond, not, ◌&&◌, ◌||◌, ℤ, pos, List, length, refl, sym, ◌∙◌, ap, ap₂, subst, arith, Option, Some, None, ◌≤◌}
use Rattle.c_core.specs.Tree.{Program, Exp, Expr, Logic, Choose}
use Rattle.c_core.specs.Types.{width_of, fit, is_zero, number_of}
use Rattle.c_core.specs.Parts.{type_of as type_if}
use Rattle.c_core.specs.declared.number.IntType.{IntType}
use Rattle.c_core.specs.declared.number.IntType.TheVariants.{Bool as BoolType, Int}
use Rattle.c_core.specs.declared.number.Spot.{Spot}
use Rattle.c_meaning.specs.Acts.{Res, Go, Stop, bind}
use Rattle.c_meaning.specs.Havoc.{Stopped}
use Rattle.sym_meaning.specs.Mode.{Mode, JudgedState}
use Rattle.c_meaning.specs.Meaning.{Used}
use Rattle.c_meaning.specs.Objects.{type_of}
use Rattle.circuits.specs.declared.net.Bit.{Bit}
use Rattle.circuits.specs.declared.net.NetNode.{NetNode}
use Rattle.circuits.specs.Net.{holds, Grown, Means, IsIn, opposite}
use Rattle.circuits.specs.Numbers.{typed, AreTyped}
use Rattle.circuits.specs.Outcome.{conversion_cost}
use Rattle.circuits.proofs.Nets.{holds-opposite}
use Rattle.sym_state.specs.declared.state.Sym.{Sym}
use Rattle.sym_state.specs.declared.state.Around.{Around}
use Rattle.sym_state.specs.Standing.{Stand, stand, Turned, with_live}
use Rattle.sym_state.specs.Following.{left_of, Deed, Came, Follows, AreOf, IsNumber}
use Rattle.sym_state.proofs.Nets.{added_of, holds_added, in_added, longer_by, typed_added, are_typed_added}
use Rattle.sym_state.proofs.Turning.{turned_then}
use Rattle.sym_state.proofs.Composed.{follows_then, follows_as, net_follows}
use Rattle.sym_state.specs.Telling.{telling}
use Rattle.sym_state.proofs.Telling.{told_follows}
use Rattle.c_meaning.specs.declared.run.Event.TheVariants.{Branch}
use Rattle.c_meaning.specs.declared.run.Way.TheVariants.{Truth}
use Rattle.sym_meaning.specs.Judged.{tell}
use Rattle.sym_values.specs.Valuing.{Reckoned, Decided}
use Rattle.sym_values.proofs.Reckoning.{net_turned}
use Rattle.sym_exprs.specs.Evaluating.{weight_of, bits_of, evaluated, evaluated_where, Ready, ReadyWhere, Values, ValuesWhere}
use Rattle.sym_exprs.proofs.Costs.{conversion_costs, test_costs}
use Rattle.sym_exprs.proofs.Guarded.{guard_follows}
use Rattle.sym_exprs.proofs.Typed.{has_one, arms_have, logic_parts, choose_parts}
use Rattle.sym_exprs.proofs.Forms.{value_as, value_in, as_values}

not_not : (b : Bool) → not (not b) ≡ b
not_not true = refl
not_not false = refl

-- what both truth values decide, with `&&` and with `||`
abbrev outcome : Bool → Bool → Bool → Bool
outcome true t u = t && u
outcome false t u = t || u

-- is the right side evaluated?
abbrev goes : Bool → Bool → Bool
goes both t = cond both t (not t)

-- what the code makes of it
abbrev made : Bool → Bool → Bool → Bool
made both g u = cond both (g && u) (not (g && not u))

made_right : (both t u : Bool) → goes both t ≡ true → made both true u ≡ outcome both t u
made_right true true u e = refl
made_right true false u e = cc
made_right false true u e = cc
made_right false false u e = not_not u

made_left : (both t u w : Bool) → goes both t ≡ false → made both false w ≡ outcome both t u
made_left true true u w e = cc
made_left true false u w e = refl
made_left false true u w e = refl
made_left false false u w e = cc

-- the value is the same, whatever stands for the right side where it isn't evaluated
outcomes : (both t g : Bool) (u w : Bool) → g ≡ goes both t → (g ≡ true → u ≡ w) → outcome both t u ≡ made both g w
outcomes both t true u w e h = ap (outcome both t) (h refl) ∙ sym (made_right both t w (sym e))
outcomes both t false u w e h = sym (made_left both t u w (sym e))

one_made : (both g u : Bool) → cond both (g && cond both u (not u)) (not (g && cond both u (not u))) ≡ made both g u
one_made true g u = refl
one_made false g u = refl

bind_same : {A B : Type 0} (r : Res Stopped JudgedState A) (f g : A → JudgedState → Res Stopped JudgedState B) → ((a : A) (l : JudgedState) → f a l ≡ g a l) → bind r f ≡ bind r g
bind_same (Go a l) f g h = h a l
bind_same (Stop e l) f g h = refl

kept_bit : (v : ℕ → Bool) (net : List NetNode) (keep : Bool) (b : Bit) → holds v net (cond keep b (opposite b)) ≡ cond keep (holds v net b) (not (holds v net b))
kept_bit v net true b = refl
kept_bit v net false b = holds-opposite v net b

pub kept_in : (net : List NetNode) (keep : Bool) (b r : Bit) → r ≡ cond keep b (opposite b) → IsIn net b → IsIn net r
kept_in net true b r e h = rw e h
kept_in net false b r e h = rw e h

module _ (p : Program) (W : Mode) (n : ℕ) (at : Around) where
  -- the part that is evaluated where a bit is true
  pub where_ready : {a b : Sym} {net : List NetNode} {go : Bit} (e : Exp) → ReadyWhere p W n at go a e → Grown 1 a.net net → Turned p 1 0 (record a { net = net }) b (λ v. with_live (holds v net a.live && holds v net go)) → Ready p W n at b e
  where_ready {a} {b} {net} e h g x = record { fits = x.fits; types = h.types; duty = h.duty; room = omega (arith, (longer_by (added_of g)).1, (longer_by x.added).1, h.room) }

  pub where_values : (a b c f : Sym) (net : List NetNode) (go other skipped : Bit) (e : Exp) (bits : List Bit) → ReadyWhere p W n at go a e → other ≡ opposite go
      → Grown 1 a.net net → Means net skipped (λ v. holds v a.net a.live && holds v a.net other)
      → Turned p 1 0 (record a { net = net }) b (λ v. with_live (holds v net a.live && holds v net go)) → Values p W n at Used e b c bits
      → Turned p 1 0 c f (λ v. with_live (holds v c.net skipped || holds v c.net c.live)) → ValuesWhere p W n at go e a f bits
  where_values a b c f net go other skipped e bits h eo g m x y z =
      let w = guard_follows p W.duties (pos 0) a b c f net go other skipped h.fits h.go_in eo g m x y.follows z in
      by_type (type_if e) refl w y.bits_in
    where
      -- the bits are the value in the net behind too
      by_type : (ty : Option IntType) → type_if e ≡ ty
          → Follows W.duties p (3 + weight_of p W n e) (bits_of p W n e) a f (λ v q. holds v a.net go ≡ true → IsNumber p.model (type_if e) c.net bits v q) (evaluated_where p W n at go e a)
          → AreOf p.model (type_if e) c.net bits → ValuesWhere p W n at go e a f bits
      by_type None q w i = record {
        bits_in = subst (λ t. AreOf p.model t f.net bits) (sym q) tt;
        follows = follows_as p W.duties w (λ v r s k. subst (λ t. IsNumber p.model t f.net bits v r) (sym q) tt) (λ v l. refl) (omega arith) (omega arith);
      }
      by_type (Some ty) q w i =
          let j : AreTyped p.model ty c.net bits = subst (λ t. AreOf p.model t c.net bits) q i in
          record {
            bits_in = subst (λ t. AreOf p.model t f.net bits) (sym q) (are_typed_added z.added j);
            follows = follows_as p W.duties w
                (λ v r s k. subst (λ t. IsNumber p.model t f.net bits v r) (sym q) (subst (λ t. IsNumber p.model t c.net bits v r) q (s k) ∙ sym (typed_added z.added p.model ty v bits j))) (λ v l. refl) (omega arith) (omega arith);
          }

  -- where it is typed and has a value
  where_as : {go : Bit} {s m : Sym} {bits : List Bit} (a : Exp) (t : IntType) → type_if a ≡ Some t → ValuesWhere p W n at go a s m bits
      → AreTyped p.model t m.net bits × Follows W.duties p (3 + weight_of p W n a) (bits_of p W n a) s m (λ v z. holds v s.net go ≡ true → z ≡ typed p.model t v m.net bits) (evaluated_where p W n at go a s)
  where_as {go} {s} {m} {bits} a t e x = (
    subst (λ z. AreOf p.model z m.net bits) e x.bits_in,
    follows_as p W.duties x.follows (λ v z q k. subst (λ w. IsNumber p.model w m.net bits v z) e (q k)) (λ v l. refl) (omega arith) (omega arith),
  )

  -- what the definition does behind the test of the left side
  abbrev second_of : Bool → Exp → Bool → (ℕ → Bool) → JudgedState → Res Stopped JudgedState ℤ
  second_of true b t v = cond t (λ l. bind (evaluated p W n at Used b v l) (λ w k. Go (number_of (not (is_zero w))) k)) (λ l. Go (pos 0) l)
  second_of false b t v = cond t (λ l. Go (pos 1) l) (λ l. bind (evaluated p W n at Used b v l) (λ w k. Go (number_of (not (is_zero w))) k))

  -- the right side, where it is evaluated, and both truth values
  abbrev right_side : Bool → Exp → Exp → Bool → (ℕ → Bool) → JudgedState → Res Stopped JudgedState ℤ
  right_side both a b t v l = bind (cond (goes both t) (evaluated p W n at Used b v l) (Go (pos 0) l)) (λ w k. Go (number_of (outcome both t (not (is_zero w)))) k)

  right_same : (both : Bool) (a b : Exp) (t : Bool) (v : ℕ → Bool) (l : JudgedState) → right_side both a b t v l ≡ second_of both b t v l
  right_same true a b true v l = refl
  right_same true a b false v l = refl
  right_same false a b true v l = refl
  right_same false a b false v l = refl

  logic_deed : (spot : Spot) (ty : Option IntType) (both : Bool) (a b : Exp) (v : ℕ → Bool) (l : JudgedState)
      → bind (evaluated p W n at Used a v l) (λ z. right_side both a b (not (is_zero z)) v) ≡ evaluated p W n at Used (Expr spot ty (Logic both a b)) v l
  logic_deed spot ty true a b v l = bind_same (evaluated p W n at Used a v l) _ _ (λ z k. right_same true a b (not (is_zero z)) v k)
  logic_deed spot ty false a b v l = bind_same (evaluated p W n at Used a v l) _ _ (λ z k. right_same false a b (not (is_zero z)) v k)

  pub logic_values : {s x x2 y y2 m : Sym} {net : List NetNode} {xs ys rs : List Bit} (spot : Spot) (ty : Option IntType) (both : Bool) (a b : Exp) (first second go hit all res : Bit)
      → Ready p W n at s (Expr spot ty (Logic both a b)) → Values p W n at Used a s x xs
      → Decided p (conversion_cost p.model (type_of a) BoolType) x x2 first (λ v. not (is_zero (typed p.model (type_of a) v x.net xs))) → go ≡ cond both first (opposite first)
      → ValuesWhere p W n at go b x2 y ys
      → Decided p (conversion_cost p.model (type_of b) BoolType) y y2 second (λ v. not (is_zero (typed p.model (type_of b) v y.net ys))) → hit ≡ cond both second (opposite second)
      → Grown 1 y2.net net → Means net all (λ v. holds v y2.net go && holds v y2.net hit) → res ≡ cond both all (opposite all)
      → Reckoned p 0 (record y2 { net = net }) m Int rs (λ v. number_of (holds v net res)) → Values p W n at Used (Expr spot ty (Logic both a b)) s m rs
  logic_values {s} {x} {x2} {y} {y2} {m} {net} {xs} {ys} {rs} spot ty both a b first second go hit all res h ga d1 eg gb d2 eh g ma er r =
      let q = logic_parts p spot ty both a b h.types in
      let xa = value_as p W n at a (type_of a) (has_one a q.0) ga in
      let xb = where_as b (type_of b) (has_one b q.1) gb in
      let T : (ℕ → Bool) → Bool = λ v. not (is_zero (typed p.model (type_of a) v x.net xs)) in
      let U : (ℕ → Bool) → Bool = λ v. not (is_zero (typed p.model (type_of b) v y.net ys)) in
      let go_in : IsIn x2.net go = kept_in x2.net both first go eg d1.means.inside in
      let go_is : (v : ℕ → Bool) → holds v x2.net go ≡ goes both (T v) = λ v. ap (holds v x2.net) eg ∙ kept_bit v x2.net both first ∙ ap (goes both) (d1.means.is v) in
      let res_is : (v : ℕ → Bool) → holds v net res ≡ made both (holds v x2.net go) (U v) = λ v.
      ap (holds v net) er ∙ kept_bit v net both all
      ∙ ap (λ z. cond both z (not z)) (ma.is v ∙ ap₂ (λ i j. i && j) (holds_added d2.turned.added v go (in_added xb.1.added go go_in) ∙ holds_added xb.1.added v go go_in) (ap (holds v y2.net) eh ∙ kept_bit v y2.net both second ∙ ap (λ z. cond both z (not z)) (d2.means.is v)))
      ∙ one_made both (holds v x2.net go) (U v) in
      let rest = follows_then p W.duties (3 + weight_of p W n b + width_of p.model (type_of b) + 1) (bits_of p W n b) (λ v z l. Go (number_of (outcome both (T v) (not (is_zero z)))) l) xb.1
      (net_follows p W.duties (λ v. number_of (made both (holds v x2.net go) (U v)))
      (turned_then p (width_of p.model (type_of b) + 1) 0 (turned_then p (width_of p.model (type_of b) + 1) 0 d2.turned (net_turned p y2 net d2.turned.fits g) (omega (arith, test_costs p.model (type_of b))) (omega arith)) r.turned (omega arith) (omega arith))
      (λ v. ap number_of (sym (res_is v)) ∙ sym (r.is v)))
      (λ v z e l. ap (λ q. Go (number_of q) l) (outcomes both (T v) (holds v x2.net go) (not (is_zero z)) (U v) (go_is v) (λ k. ap (λ q. not (is_zero q)) (e k))))
      (omega arith) (omega arith) in
      let told = follows_as p W.duties {k = 3 + weight_of p W n b + width_of p.model (type_of b) + 1} {l = bits_of p W n b} {next = λ v. right_side both a b (T v) v} rest (λ v z e. e) (λ v l. ap (λ k. bind (cond k (evaluated p W n at Used b v l) (Go (pos 0) l)) (λ w t. Go (number_of (outcome both (T v) (not (is_zero w)))) t)) (go_is v)) (omega arith) (omega arith) in
      let after = follows_then p W.duties {next = λ v. right_side both a b (T v) v} (width_of p.model (type_of a) + (3 + weight_of p W n b + width_of p.model (type_of b) + 1)) (bits_of p W n b) (λ v u. right_side both a b (T v) v)
      (net_follows p W.duties {S = λ v u. Unit {0}} (λ v. tt {0}) d1.turned (λ v. tt {0})) told (λ v u e l. refl) (omega (arith, test_costs p.model (type_of a))) (omega arith) in
      as_values p W n at (Expr spot ty (Logic both a b)) q.2
      record {
        bits_in = r.bits_in;
        follows = follows_as p W.duties
            (follows_then p W.duties (weight_of p W n (Expr spot ty (Logic both a b))) (bits_of p W n (Expr spot ty (Logic both a b))) (λ v z. right_side both a b (not (is_zero z)) v) xa.follows after
            (λ v z e l. ap (λ k. right_side both a b (not (is_zero k)) v l) e) (omega arith) (omega arith))
            (λ v z e. e) (λ v l. logic_deed spot ty both a b v l) (omega arith) (omega arith);
      }

  -- ---- `?:`
  -- what each arm does with its value
  abbrev one_arm : (ℤ → ℤ) → Exp → (ℕ → Bool) → JudgedState → Res Stopped JudgedState ℤ
  one_arm f a v l = bind (evaluated p W n at Used a v l) (λ x k. Go (f x) k)

  -- the first arm where t is true, and then the second where it isn't
  abbrev both_arms : Bool → (ℤ → ℤ) → (ℤ → ℤ) → Exp → Exp → (ℕ → Bool) → JudgedState → Res Stopped JudgedState ℤ
  both_arms t f g a b v l = bind (cond t (evaluated p W n at Used a v l) (Go (pos 0) l)) (λ x k. bind (cond (not t) (evaluated p W n at Used b v k) (Go (pos 0) k)) (λ y i. Go (cond t (f x) (g y)) i))

  arms_same : (t : Bool) (f g : ℤ → ℤ) (a b : Exp) (v : ℕ → Bool) (l : JudgedState) → both_arms t f g a b v l ≡ (cond t (one_arm f a v) (one_arm g b v)) l
  arms_same true f g a b v l = refl
  arms_same false f g a b v l = refl

  choice_is : (t : Bool) (x x' y y' : ℤ) → (t ≡ true → x ≡ x') → (not t ≡ true → y ≡ y') → cond t x y ≡ cond t x' y'
  choice_is true x x' y y' h k = h refl
  choice_is false x x' y y' h k = k refl

  first_is : (t : Bool) (u w : ℤ) (g : ℤ → ℤ) (b : Exp) (v : ℕ → Bool) (k : JudgedState) → (t ≡ true → u ≡ w)
      → bind (cond (not t) (evaluated p W n at Used b v k) (Go (pos 0) k)) (λ y i. Go (cond t u (g y)) i) ≡ bind (cond (not t) (evaluated p W n at Used b v k) (Go (pos 0) k)) (λ y i. Go (cond t w (g y)) i)
  first_is true u w g b v k h = ap (λ z. bind {E = Stopped} (Go (pos 0) k) (λ y i. Go z i)) (h refl)
  first_is false u w g b v k h = refl

  -- a larger net, and then a part
  after_net : {A : Type 0} {i k l : ℕ} {a b c : Sym} {S : (ℕ → Bool) → A → Type 0} {deed : Deed A} → Turned p i 0 a b (λ v s. s) → Follows W.duties p k l b c S deed → Follows W.duties p (i + k) l a c S deed
  after_net {i = i} {k = k} {l = l} {deed = deed} x y = follows_then p W.duties (i + k) l (λ v u. deed v) (net_follows p W.duties {S = λ v u. Unit {0}} (λ v. tt {0}) x (λ v. tt {0})) y (λ v u e s. refl) (omega arith) (omega arith)

  pub choose_values : {s x x2 x3 y y2 z z2 m : Sym} {es xs cs ys ds rs : List Bit} (j : ℕ) (spot mark : Spot) (to : IntType) (e a b : Exp) (go other : Bit)
      → Ready p W n at s (Expr spot (Some to) (Choose mark e a b)) → Values p W n at Used e s x es
      → Decided p (conversion_cost p.model (type_of e) BoolType) x x2 go (λ v. not (is_zero (typed p.model (type_of e) v x.net es))) → other ≡ opposite go
      → Turned p j 0 x2 x3 (λ v. telling W (Branch mark (Truth (not (is_zero (typed p.model (type_of e) v x.net es)))))) → j ≤ W.scale.test mark
      → ValuesWhere p W n at go a x3 y xs → Reckoned p (conversion_cost p.model (type_of a) to) y y2 to cs (λ v. fit p.model to (typed p.model (type_of a) v y.net xs))
      → ValuesWhere p W n at other b y2 z ys → Reckoned p (conversion_cost p.model (type_of b) to) z z2 to ds (λ v. fit p.model to (typed p.model (type_of b) v z.net ys))
      → Reckoned p (4 * width_of p.model to) z2 m to rs (λ v. cond (holds v z2.net go) (typed p.model to v z2.net cs) (typed p.model to v z2.net ds))
      → Values p W n at Used (Expr spot (Some to) (Choose mark e a b)) s m rs
  choose_values {s} {x} {x2} {x3} {y} {y2} {z} {z2} {m} {es} {xs} {cs} {ys} {ds} {rs} j spot mark to e a b go other h ge d eo ev few wa r1 wb r2 r3 =
      let q = choose_parts p spot mark (Some to) e a b h.types in
      let arm = arms_have p.model to (type_if a) (type_if b) q.arms in
      let xe = value_as p W n at e (type_of e) (has_one e q.test) ge in
      let xa = where_as a (type_of a) (has_one a arm.0) wa in
      let xb = where_as b (type_of b) (has_one b arm.1) wb in
      let T : (ℕ → Bool) → Bool = λ v. not (is_zero (typed p.model (type_of e) v x.net es)) in
      let in3 : IsIn x3.net go = in_added ev.added go d.means.inside in
      let is3 : (v : ℕ → Bool) → holds v x3.net go ≡ T v = λ v. holds_added ev.added v go d.means.inside ∙ d.means.is v in
      let X : (ℕ → Bool) → ℤ = λ v. fit p.model to (typed p.model (type_of a) v y.net xs) in
      let Y : (ℕ → Bool) → ℤ = λ v. fit p.model to (typed p.model (type_of b) v z.net ys) in
      let go_y2 : (v : ℕ → Bool) → holds v y2.net go ≡ T v = λ v. holds_added r1.turned.added v go (in_added xa.1.added go in3) ∙ holds_added xa.1.added v go in3 ∙ is3 v in
      let in_y2 : IsIn y2.net go = in_added r1.turned.added go (in_added xa.1.added go in3) in
      let go_z2 : (v : ℕ → Bool) → holds v z2.net go ≡ T v = λ v. holds_added r2.turned.added v go (in_added xb.1.added go in_y2) ∙ holds_added xb.1.added v go in_y2 ∙ go_y2 v in
      let other_y2 : (v : ℕ → Bool) → holds v y2.net other ≡ not (T v) = λ v. ap (holds v y2.net) eo ∙ holds-opposite v y2.net go ∙ ap not (go_y2 v) in
      let cs_z2 : (v : ℕ → Bool) → typed p.model to v z2.net cs ≡ X v = λ v. typed_added r2.turned.added p.model to v cs (are_typed_added xb.1.added r1.bits_in) ∙ typed_added xb.1.added p.model to v cs r1.bits_in ∙ r1.is v in
      let value : (v : ℕ → Bool) → typed p.model to v m.net rs ≡ cond (T v) (X v) (Y v) = λ v. r3.is v ∙ ap₂ (λ t u. cond t u (typed p.model to v z2.net ds)) (go_z2 v) (cs_z2 v) ∙ ap (cond (T v) (X v)) (r2.is v) in
      let wa2 = conversion_costs p.model (type_of a) to in
      let wb2 = conversion_costs p.model (type_of b) to in
      let we = test_costs p.model (type_of e) in
      let cost_b = 3 + weight_of p W n b + (conversion_cost p.model (type_of b) to + 4 * width_of p.model to) in
      let last : Follows W.duties p cost_b (bits_of p W n b) y2 m (λ v u. u ≡ cond (T v) (X v) (Y v)) (λ v k. bind (cond (not (T v)) (evaluated p W n at Used b v k) (Go (pos 0) k)) (λ u i. Go (cond (T v) (X v) (fit p.model to u)) i)) =
      follows_then p W.duties cost_b (bits_of p W n b) (λ v u i. Go (cond (T v) (X v) (fit p.model to u)) i)
      (follows_as p W.duties {k = 3 + weight_of p W n b} {l = bits_of p W n b} {next = λ v k. cond (not (T v)) (evaluated p W n at Used b v k) (Go (pos 0) k)} xb.1 (λ v u f. f) (λ v k. ap (λ t. cond t (evaluated p W n at Used b v k) (Go (pos 0) k)) (other_y2 v)) (omega arith) (omega arith))
      (net_follows p W.duties (λ v. cond (T v) (X v) (Y v)) (turned_then p (conversion_cost p.model (type_of b) to + 4 * width_of p.model to) 0 r2.turned r3.turned (omega arith) (omega arith)) (λ v. refl))
      (λ v u f i. ap (λ t. Go t i) (choice_is (T v) (X v) (X v) (fit p.model to u) (Y v) (λ k. refl) (λ k. ap (fit p.model to) (f (other_y2 v ∙ k))))) (omega arith) (omega arith) in
      let cost_a = 3 + weight_of p W n a + (conversion_cost p.model (type_of a) to + cost_b) in
      let arms : Follows W.duties p cost_a (bits_of p W n a + bits_of p W n b) x3 m (λ v u. u ≡ cond (T v) (X v) (Y v)) (λ v. both_arms (T v) (fit p.model to) (fit p.model to) a b v) =
      follows_then p W.duties cost_a (bits_of p W n a + bits_of p W n b) (λ v u k. bind (cond (not (T v)) (evaluated p W n at Used b v k) (Go (pos 0) k)) (λ w i. Go (cond (T v) (fit p.model to u) (fit p.model to w)) i))
      (follows_as p W.duties {k = 3 + weight_of p W n a} {l = bits_of p W n a} {next = λ v k. cond (T v) (evaluated p W n at Used a v k) (Go (pos 0) k)} xa.1 (λ v u f. f) (λ v k. ap (λ t. cond t (evaluated p W n at Used a v k) (Go (pos 0) k)) (is3 v)) (omega arith) (omega arith))
      (after_net r1.turned last)
      (λ v u f k. first_is (T v) (fit p.model to u) (X v) (fit p.model to) b v k (λ t. ap (fit p.model to) (f (is3 v ∙ t)))) (omega arith) (omega arith) in
      record {
        bits_in = r3.bits_in;
        follows = follows_as p W.duties
            (follows_then p W.duties (weight_of p W n (Expr spot (Some to) (Choose mark e a b))) (bits_of p W n (Expr spot (Some to) (Choose mark e a b)))
            (λ v u k. bind (tell p W (Branch mark (Truth (not (is_zero u)))) k) (λ w k. (cond (not (is_zero u)) (one_arm (fit p.model to) a v) (one_arm (fit p.model to) b v)) k)) xe.follows
            (after_net d.turned (follows_then p W.duties (j + cost_a) (bits_of p W n a + bits_of p W n b) (λ v u k. (cond (T v) (one_arm (fit p.model to) a v) (one_arm (fit p.model to) b v)) k) (told_follows p W (λ v. Branch mark (Truth (T v))) ev) (follows_as p W.duties {k = cost_a} {l = bits_of p W n a + bits_of p W n b} {next = λ v k. (cond (T v) (one_arm (fit p.model to) a v) (one_arm (fit p.model to) b v)) k} arms (λ v u f. f) (λ v k. arms_same (T v) (fit p.model to) (fit p.model to) a b v k) (omega arith) (omega arith)) (λ v u f k. refl) (omega arith) (omega arith)))
            (λ v u f k. ap (λ t. bind (tell p W (Branch mark (Truth (not (is_zero t)))) k) (λ u k. (cond (not (is_zero t)) (one_arm (fit p.model to) a v) (one_arm (fit p.model to) b v)) k)) f) (omega (arith, wa2, wb2, we, few)) (omega arith))
            (λ v u f. f ∙ sym (value v)) (λ v l. refl) (omega arith) (omega arith);
      }

  -- ---- a `?:` without a value
  abbrev forgot : Res Stopped JudgedState ℤ → Res Stopped JudgedState (Unit {0})
  forgot r = bind r (λ z k. Go tt k)

  forgot_came : (S : ℤ → Type 0) (b : Stand) (rest : List ℤ) (r : Res Stopped JudgedState ℤ) → Came W.duties S b rest r → Came W.duties (λ u. Unit {0}) b rest (forgot r)
  forgot_came S b rest (Go z s) h = (h.0, h.1, tt)
  forgot_came S b rest (Stop e s) h = h

  any_came : (b : Stand) (rest : List ℤ) (r : Res Stopped JudgedState ℤ) → Came W.duties (λ u. Unit {0}) b rest (forgot r) → Came W.duties (λ z. Unit {0}) b rest r
  any_came b rest (Go z s) h = (h.0, h.1, tt)
  any_came b rest (Stop e s) h = h

  -- a part, whatever its value
  forgot_follows : {i j : ℕ} {a b : Sym} {S : (ℕ → Bool) → ℤ → Type 0} {m : Deed ℤ} → Follows W.duties p i j a b S m → Follows W.duties p i j a b (λ v u. Unit {0}) (λ v l. forgot (m v l))
  forgot_follows {a = a} {b = b} {S = S} {m = m} x = record {
    fits = x.fits;
    added = x.added;
    level = x.level;
    result = x.result;
    moves = x.moves;
    does = λ v here vs rest t. forgot_came (S v) (stand p v b) rest (m v (left_of (stand p v a) vs)) (x.does v here vs rest t);
  }

  any_follows : {i j : ℕ} {a b : Sym} {m : Deed ℤ} → Follows W.duties p i j a b (λ v u. Unit {0}) (λ v l. forgot (m v l)) → Follows W.duties p i j a b (λ v z. Unit {0}) m
  any_follows {a = a} {b = b} {m = m} x = record {
    fits = x.fits;
    added = x.added;
    level = x.level;
    result = x.result;
    moves = x.moves;
    does = λ v here vs rest t. any_came (stand p v b) rest (m v (left_of (stand p v a) vs)) (x.does v here vs rest t);
  }

  forgot_ret : (r : Res Stopped JudgedState ℤ) → bind r (λ z k. Go tt k) ≡ forgot (bind r (λ z k. Go z k))
  forgot_ret (Go z s) = refl
  forgot_ret (Stop e s) = refl

  forgot_bind : (r : Res Stopped JudgedState ℤ) (f : ℤ → JudgedState → Res Stopped JudgedState ℤ) → bind r (λ z k. forgot (f z k)) ≡ forgot (bind r f)
  forgot_bind (Go z s) f = refl
  forgot_bind (Stop e s) f = refl

  abbrev void_arms : Bool → Exp → Exp → (ℕ → Bool) → JudgedState → Res Stopped JudgedState (Unit {0})
  void_arms t a b v l = bind (cond t (evaluated p W n at Used a v l) (Go (pos 0) l)) (λ x k. bind (cond (not t) (evaluated p W n at Used b v k) (Go (pos 0) k)) (λ y i. Go tt i))

  void_same : (t : Bool) (a b : Exp) (v : ℕ → Bool) (l : JudgedState) → void_arms t a b v l ≡ forgot ((cond t (one_arm (λ z. z) a v) (one_arm (λ z. z) b v)) l)
  void_same true a b v l = forgot_ret (evaluated p W n at Used a v l)
  void_same false a b v l = forgot_ret (evaluated p W n at Used b v l)

  void_values : {s x x2 x3 y z : Sym} {es xs ys : List Bit} (j : ℕ) (spot mark : Spot) (e a b : Exp) (go other : Bit)
      → Ready p W n at s (Expr spot None (Choose mark e a b)) → Values p W n at Used e s x es
      → Decided p (conversion_cost p.model (type_of e) BoolType) x x2 go (λ v. not (is_zero (typed p.model (type_of e) v x.net es))) → other ≡ opposite go
      → Turned p j 0 x2 x3 (λ v. telling W (Branch mark (Truth (not (is_zero (typed p.model (type_of e) v x.net es)))))) → j ≤ W.scale.test mark
      → ValuesWhere p W n at go a x3 y xs → ValuesWhere p W n at other b y z ys → Values p W n at Used (Expr spot None (Choose mark e a b)) s z ys
  void_values {s} {x} {x2} {x3} {y} {z} {es} {xs} {ys} j spot mark e a b go other h ge d eo ev few wa wb =
      let whole = Expr spot None (Choose mark e a b) in
      let q = choose_parts p spot mark None e a b h.types in
      let xe = value_as p W n at e (type_of e) (has_one e q.test) ge in
      let T : (ℕ → Bool) → Bool = λ v. not (is_zero (typed p.model (type_of e) v x.net es)) in
      let in3 : IsIn x3.net go = in_added ev.added go d.means.inside in
      let is3 : (v : ℕ → Bool) → holds v x3.net go ≡ T v = λ v. holds_added ev.added v go d.means.inside ∙ d.means.is v in
      let other_y : (v : ℕ → Bool) → holds v y.net other ≡ not (T v) = λ v. ap (holds v y.net) eo ∙ holds-opposite v y.net go ∙ ap not (holds_added wa.follows.added v go in3 ∙ is3 v) in
      let last : Follows W.duties p (3 + weight_of p W n b) (bits_of p W n b) y z (λ v u. Unit {0}) (λ v k. forgot (cond (not (T v)) (evaluated p W n at Used b v k) (Go (pos 0) k))) =
      forgot_follows
      (follows_as p W.duties {k = 3 + weight_of p W n b} {l = bits_of p W n b} {T = λ v u. Unit {0}} {next = λ v k. cond (not (T v)) (evaluated p W n at Used b v k) (Go (pos 0) k)} wb.follows (λ v u f. tt) (λ v k. ap (λ t. cond t (evaluated p W n at Used b v k) (Go (pos 0) k)) (other_y v)) (omega arith) (omega arith)) in
      let cost = 6 + weight_of p W n a + weight_of p W n b in
      let bits = bits_of p W n a + bits_of p W n b in
      let arms : Follows W.duties p cost bits x3 z (λ v u. Unit {0}) (λ v. void_arms (T v) a b v) =
      follows_then p W.duties cost bits (λ v u k. forgot (cond (not (T v)) (evaluated p W n at Used b v k) (Go (pos 0) k)))
      (follows_as p W.duties {k = 3 + weight_of p W n a} {l = bits_of p W n a} {T = λ v u. Unit {0}} {next = λ v k. cond (T v) (evaluated p W n at Used a v k) (Go (pos 0) k)} wa.follows (λ v u f. tt) (λ v k. ap (λ t. cond t (evaluated p W n at Used a v k) (Go (pos 0) k)) (is3 v)) (omega arith) (omega arith))
      last (λ v u f k. refl) (omega arith) (omega arith) in
      let told : Follows W.duties p cost bits x3 z (λ v u. Unit {0}) (λ v k. forgot ((cond (T v) (one_arm (λ z. z) a v) (one_arm (λ z. z) b v)) k)) = follows_as p W.duties arms (λ v u f. tt) (λ v k. void_same (T v) a b v k) (omega arith) (omega arith) in
      let all = follows_then p W.duties (weight_of p W n whole) (bits_of p W n whole) (λ v u k. bind (tell p W (Branch mark (Truth (not (is_zero u)))) k) (λ w k. forgot ((cond (not (is_zero u)) (one_arm (λ z. z) a v) (one_arm (λ z. z) b v)) k))) xe.follows
      (after_net d.turned (follows_then p W.duties (j + cost) bits (λ v u k. forgot ((cond (T v) (one_arm (λ z. z) a v) (one_arm (λ z. z) b v)) k)) (told_follows p W (λ v. Branch mark (Truth (T v))) ev) told (λ v u f k. refl) (omega arith) (omega arith)))
      (λ v u f k. ap (λ t. bind (tell p W (Branch mark (Truth (not (is_zero t)))) k) (λ w k. forgot ((cond (not (is_zero t)) (one_arm (λ z. z) a v) (one_arm (λ z. z) b v)) k))) f) (omega (arith, test_costs p.model (type_of e), few)) (omega arith) in
      record {
        bits_in = tt;
        follows = any_follows
            (follows_as p W.duties {k = weight_of p W n whole} {l = bits_of p W n whole} {T = λ v u. Unit {0}} {next = λ v l. forgot (evaluated p W n at Used whole v l)} all (λ v u f. tt)
            (λ v l. forgot_bind (evaluated p W n at Used e v l) (λ u k. bind (tell p W (Branch mark (Truth (not (is_zero u)))) k) (λ w k. (cond (not (is_zero u)) (one_arm (λ z. z) a v) (one_arm (λ z. z) b v)) k))) (omega arith) (omega arith));
      }

  -- ---- what the calls of the code promise, whose types are those of the parts
  pub logic_first : {s x : Sym} {xs : List Bit} (spot : Spot) (ty : Option IntType) (k : Bool) (a b : Exp) (ta : IntType) → ta ≡ type_of a → Ready p W n at s (Expr spot ty (Logic k a b)) → Values p W n at Used a s x xs
      → AreTyped p.model ta x.net xs × (length x.net < 2 ^ 28)
  logic_first {s} {x} {xs} spot ty k a b ta ea h ga =
      (rw ea (value_in p W n at a (type_of a) (has_one a (logic_parts p spot ty k a b h.types).0) ga), omega (arith, (longer_by ga.follows.added).1, h.room))

  pub logic_where : {s x x2 : Sym} {xs : List Bit} {f : (ℕ → Bool) → Bool} (spot : Spot) (ty : Option IntType) (k : Bool) (a b : Exp) (ta : IntType) (first go : Bit) → ta ≡ type_of a → Ready p W n at s (Expr spot ty (Logic k a b)) → Values p W n at Used a s x xs
      → Decided p (conversion_cost p.model ta BoolType) x x2 first f → go ≡ cond k first (opposite first) → ReadyWhere p W n at go x2 b
  logic_where {s} {x} {x2} spot ty k a b ta first go ea h ga d e = record {
    fits = d.turned.fits;
    go_in = kept_in x2.net k first go e d.means.inside;
    types = (logic_parts p spot ty k a b h.types).4;
    duty = h.duty;
    room = omega (arith, test_costs p.model (type_of a), ap (λ t. conversion_cost p.model t BoolType) ea, (longer_by ga.follows.added).1, (longer_by d.turned.added).1, h.room);
  }

  pub logic_second : {s x x2 y : Sym} {xs ys : List Bit} {f : (ℕ → Bool) → Bool} (spot : Spot) (ty : Option IntType) (k : Bool) (a b : Exp) (ta tb : IntType) (first go : Bit) → ta ≡ type_of a → tb ≡ type_of b → Ready p W n at s (Expr spot ty (Logic k a b)) → Values p W n at Used a s x xs
      → Decided p (conversion_cost p.model ta BoolType) x x2 first f → ValuesWhere p W n at go b x2 y ys
      → AreTyped p.model tb y.net ys × (length y.net + width_of p.model (type_of b) + 10 < 2 ^ 28)
  logic_second {s} {x} {x2} {y} spot ty k a b ta tb first go ea eb h ga d gb = (
    rw eb (where_as b (type_of b) (has_one b (logic_parts p spot ty k a b h.types).1) gb).0,
    omega (arith, test_costs p.model (type_of a), ap (λ t. conversion_cost p.model t BoolType) ea, (longer_by ga.follows.added).1, (longer_by d.turned.added).1, (longer_by gb.follows.added).1, h.room),
  )

  pub logic_bits : {x2 y y2 : Sym} {ys : List Bit} {f : (ℕ → Bool) → Bool} (k : Bool) (b : Exp) (tb : IntType) (go second hit : Bit) → tb ≡ type_of b → IsIn x2.net go → ValuesWhere p W n at go b x2 y ys
      → Decided p (conversion_cost p.model tb BoolType) y y2 second f → hit ≡ cond k second (opposite second) → length y.net + width_of p.model (type_of b) + 10 < 2 ^ 28
      → IsIn y2.net go × IsIn y2.net hit × (length y2.net + 1 < 2 ^ 28)
  logic_bits {x2} {y} {y2} k b tb go second hit eb i gb d e h = (
    in_added d.turned.added go (in_added gb.follows.added go i),
    kept_in y2.net k second hit e d.means.inside,
    omega (arith, test_costs p.model (type_of b), ap (λ t. conversion_cost p.model t BoolType) eb, (longer_by d.turned.added).1, h),
  )

  pub logic_step : {s x x2 y y2 m : Sym} {net : List NetNode} {xs ys rs : List Bit} (spot : Spot) (ty : Option IntType) (k : Bool) (a b : Exp) (ta tb : IntType) (first second go hit all res : Bit) → ta ≡ type_of a → tb ≡ type_of b
      → Ready p W n at s (Expr spot ty (Logic k a b)) → Values p W n at Used a s x xs
      → Decided p (conversion_cost p.model ta BoolType) x x2 first (λ v. not (is_zero (typed p.model ta v x.net xs))) → go ≡ cond k first (opposite first)
      → ValuesWhere p W n at go b x2 y ys
      → Decided p (conversion_cost p.model tb BoolType) y y2 second (λ v. not (is_zero (typed p.model tb v y.net ys))) → hit ≡ cond k second (opposite second)
      → Grown 1 y2.net net → Means net all (λ v. holds v y2.net go && holds v y2.net hit) → res ≡ cond k all (opposite all)
      → Reckoned p 0 (record y2 { net = net }) m Int rs (λ v. number_of (holds v net res)) → Values p W n at Used (Expr spot ty (Logic k a b)) s m rs
  logic_step {s} {x} {x2} {y} {y2} {m} {net} {xs} {ys} {rs} spot ty k a b ta tb first second go hit all res ea eb h ga d1 eg gb d2 eh g ma er r =
      logic_values spot ty k a b first second go hit all res h ga
      (subst (λ t. Decided p (conversion_cost p.model t BoolType) x x2 first (λ v. not (is_zero (typed p.model t v x.net xs)))) ea d1) eg gb
      (subst (λ t. Decided p (conversion_cost p.model t BoolType) y y2 second (λ v. not (is_zero (typed p.model t v y.net ys)))) eb d2) eh g ma er r

  pub pick_first : {s x : Sym} {es : List Bit} (spot mark : Spot) (ty : Option IntType) (e a b : Exp) (te : IntType) → te ≡ type_of e → Ready p W n at s (Expr spot ty (Choose mark e a b)) → Values p W n at Used e s x es
      → AreTyped p.model te x.net es × (length x.net < 2 ^ 28)
  pick_first spot mark ty e a b te ee h ge =
      (rw ee (value_in p W n at e (type_of e) (has_one e (choose_parts p spot mark ty e a b h.types).test) ge), omega (arith, (longer_by ge.follows.added).1, h.room))

  -- a test was made, and its event told
  pub record IsBranched (mark : Spot) (te : IntType) (x z : Sym) (go : Bit) : Type 0 where
    pub becomes : (ℕ → Bool) → Stand → Stand
    pub turned : Turned p (conversion_cost p.model te BoolType + W.scale.test mark) 0 x z becomes
    pub inside : IsIn z.net go

  pub branched : {x y z : Sym} {f : (ℕ → Bool) → Bool} {g : (ℕ → Bool) → Stand → Stand} (mark : Spot) (te : IntType) (go : Bit) → Decided p (conversion_cost p.model te BoolType) x y go f → Turned p (W.scale.test mark) 0 y z g → IsBranched mark te x z go
  branched mark te go d ev = record {
    becomes = _;
    turned = turned_then p (conversion_cost p.model te BoolType + W.scale.test mark) 0 d.turned ev (omega arith) (omega arith);
    inside = in_added ev.added go d.means.inside;
  }

  -- there is room for the event
  pub branch_room : {s x y : Sym} {es : List Bit} {f : (ℕ → Bool) → Bool} (spot mark : Spot) (ty : Option IntType) (e a b : Exp) (te : IntType) (go : Bit) → te ≡ type_of e → Ready p W n at s (Expr spot ty (Choose mark e a b)) → Values p W n at Used e s x es
      → Decided p (conversion_cost p.model te BoolType) x y go f → length y.net + W.scale.test mark < 2 ^ 27
  branch_room spot mark ty e a b te go ee h ge d =
      omega (arith, test_costs p.model (type_of e), ap (λ t. conversion_cost p.model t BoolType) ee, (longer_by ge.follows.added).1, (longer_by d.turned.added).1, h.room)

  pub pick_yes : {s x x2 : Sym} {es : List Bit} (spot mark : Spot) (ty : Option IntType) (e a b : Exp) (te : IntType) (go : Bit) → te ≡ type_of e → Ready p W n at s (Expr spot ty (Choose mark e a b))
      → Values p W n at Used e s x es → IsBranched mark te x x2 go → ReadyWhere p W n at go x2 a
  pick_yes spot mark ty e a b te go ee h ge d = record {
    fits = d.turned.fits;
    go_in = d.inside;
    types = (choose_parts p spot mark ty e a b h.types).typed_yes;
    duty = h.duty;
    room = omega (arith, test_costs p.model (type_of e), ap (λ t. conversion_cost p.model t BoolType) ee, (longer_by ge.follows.added).1, (longer_by d.turned.added).1, h.room);
  }

  pub pick_yes_value : {s x x2 y : Sym} {es xs : List Bit} (spot mark : Spot) (to : IntType) (e a b : Exp) (te ta : IntType) (go : Bit) → te ≡ type_of e → ta ≡ type_of a → Ready p W n at s (Expr spot (Some to) (Choose mark e a b))
      → Values p W n at Used e s x es → IsBranched mark te x x2 go → ValuesWhere p W n at go a x2 y xs → AreTyped p.model ta y.net xs × (length y.net < 2 ^ 28)
  pick_yes_value spot mark to e a b te ta go ee ea h ge d ga =
      let q = choose_parts p spot mark (Some to) e a b h.types in
      let arm = arms_have p.model to (type_if a) (type_if b) q.arms in (
        rw ea (where_as a (type_of a) (has_one a arm.0) ga).0,
        omega (arith, test_costs p.model (type_of e), ap (λ t. conversion_cost p.model t BoolType) ee, (longer_by ge.follows.added).1, (longer_by d.turned.added).1, (longer_by ga.follows.added).1, h.room),
      )

  pub pick_no : {s x x2 y y2 : Sym} {es xs cs : List Bit} {g : (ℕ → Bool) → ℤ} (spot mark : Spot) (to : IntType) (e a b : Exp) (te ta : IntType) (go other : Bit) → te ≡ type_of e → ta ≡ type_of a → other ≡ opposite go
      → Ready p W n at s (Expr spot (Some to) (Choose mark e a b)) → Values p W n at Used e s x es → IsBranched mark te x x2 go → ValuesWhere p W n at go a x2 y xs
      → Reckoned p (conversion_cost p.model ta to) y y2 to cs g → ReadyWhere p W n at other y2 b
  pick_no {y2 = y2} spot mark to e a b te ta go other ee ea eo h ge d ga r = record {
    fits = r.turned.fits;
    go_in = kept_in y2.net false go other eo (in_added r.turned.added go (in_added ga.follows.added go d.inside));
    types = (choose_parts p spot mark (Some to) e a b h.types).typed_no;
    duty = h.duty;
    room =
        omega (arith, test_costs p.model (type_of e), ap (λ t. conversion_cost p.model t BoolType) ee, conversion_costs p.model (type_of a) to, ap (λ t. conversion_cost p.model t to) ea, (longer_by ge.follows.added).1, (longer_by d.turned.added).1, (longer_by ga.follows.added).1, (longer_by r.turned.added).1, h.room);
  }

  pub pick_no_value : {s x x2 y y2 z : Sym} {es xs cs ys : List Bit} {g : (ℕ → Bool) → ℤ} (spot mark : Spot) (to : IntType) (e a b : Exp) (te ta tb : IntType) (go other : Bit) → te ≡ type_of e → ta ≡ type_of a → tb ≡ type_of b
      → Ready p W n at s (Expr spot (Some to) (Choose mark e a b)) → Values p W n at Used e s x es → IsBranched mark te x x2 go → ValuesWhere p W n at go a x2 y xs
      → Reckoned p (conversion_cost p.model ta to) y y2 to cs g → ValuesWhere p W n at other b y2 z ys → AreTyped p.model tb z.net ys × (length z.net + conversion_cost p.model (type_of b) to < 2 ^ 28)
  pick_no_value spot mark to e a b te ta tb go other ee ea eb h ge d ga r gb =
      let q = choose_parts p spot mark (Some to) e a b h.types in
      let arm = arms_have p.model to (type_if a) (type_if b) q.arms in (
        rw eb (where_as b (type_of b) (has_one b arm.1) gb).0,
        omega (arith, conversion_costs p.model (type_of b) to, test_costs p.model (type_of e), ap (λ t. conversion_cost p.model t BoolType) ee, conversion_costs p.model (type_of a) to, ap (λ t. conversion_cost p.model t to) ea, (longer_by ge.follows.added).1, (longer_by d.turned.added).1, (longer_by ga.follows.added).1, (longer_by r.turned.added).1, (longer_by gb.follows.added).1, h.room),
      )

  pub pick_last : {x2 y y2 z z2 : Sym} {xs cs ys ds : List Bit} {g k : (ℕ → Bool) → ℤ} (to : IntType) (a b : Exp) (tb : IntType) (go other : Bit) {i : ℕ} → tb ≡ type_of b → IsIn x2.net go → ValuesWhere p W n at go a x2 y xs
      → Reckoned p i y y2 to cs g → ValuesWhere p W n at other b y2 z ys → Reckoned p (conversion_cost p.model tb to) z z2 to ds k → length z.net + conversion_cost p.model (type_of b) to < 2 ^ 28
      → IsIn z2.net go × AreTyped p.model to z2.net cs × (length z2.net < 2 ^ 28)
  pick_last to a b tb go other eb i ga r gb w h = (
    in_added w.turned.added go (in_added gb.follows.added go (in_added r.turned.added go (in_added ga.follows.added go i))),
    are_typed_added w.turned.added (are_typed_added gb.follows.added r.bits_in),
    omega (arith, ap (λ t. conversion_cost p.model t to) eb, (longer_by w.turned.added).1, h),
  )

  pub pick_step : {s x x2 x3 y y2 z z2 m : Sym} {es xs cs ys ds rs : List Bit} (j : ℕ) (spot mark : Spot) (to : IntType) (e a b : Exp) (te ta tb : IntType) (go other : Bit) → te ≡ type_of e → ta ≡ type_of a → tb ≡ type_of b
      → Ready p W n at s (Expr spot (Some to) (Choose mark e a b)) → Values p W n at Used e s x es
      → Decided p (conversion_cost p.model te BoolType) x x2 go (λ v. not (is_zero (typed p.model te v x.net es))) → other ≡ opposite go
      → Turned p j 0 x2 x3 (λ v. telling W (Branch mark (Truth (not (is_zero (typed p.model te v x.net es)))))) → j ≤ W.scale.test mark
      → ValuesWhere p W n at go a x3 y xs → Reckoned p (conversion_cost p.model ta to) y y2 to cs (λ v. fit p.model to (typed p.model ta v y.net xs))
      → ValuesWhere p W n at other b y2 z ys → Reckoned p (conversion_cost p.model tb to) z z2 to ds (λ v. fit p.model to (typed p.model tb v z.net ys))
      → Reckoned p (4 * width_of p.model to) z2 m to rs (λ v. cond (holds v z2.net go) (typed p.model to v z2.net cs) (typed p.model to v z2.net ds))
      → Values p W n at Used (Expr spot (Some to) (Choose mark e a b)) s m rs
  pick_step {s} {x} {x2} {x3} {y} {y2} {z} {z2} {m} {es} {xs} {cs} {ys} {ds} {rs} j spot mark to e a b te ta tb go other ee ea eb h ge d eo ev few wa r1 wb r2 r3 =
      choose_values j spot mark to e a b go other h ge (subst (λ t. Decided p (conversion_cost p.model t BoolType) x x2 go (λ v. not (is_zero (typed p.model t v x.net es)))) ee d) eo
      (subst (λ t. Turned p j 0 x2 x3 (λ v. telling W (Branch mark (Truth (not (is_zero (typed p.model t v x.net es))))))) ee ev) few wa
      (subst (λ t. Reckoned p (conversion_cost p.model t to) y y2 to cs (λ v. fit p.model to (typed p.model t v y.net xs))) ea r1) wb
      (subst (λ t. Reckoned p (conversion_cost p.model t to) z z2 to ds (λ v. fit p.model to (typed p.model t v z.net ys))) eb r2) r3

  pub void_no : {s x x2 y : Sym} {es xs : List Bit} (spot mark : Spot) (e a b : Exp) (te : IntType) (go other : Bit) → te ≡ type_of e → other ≡ opposite go
      → Ready p W n at s (Expr spot None (Choose mark e a b)) → Values p W n at Used e s x es → IsBranched mark te x x2 go → ValuesWhere p W n at go a x2 y xs → ReadyWhere p W n at other y b
  void_no {y = y} spot mark e a b te go other ee eo h ge d ga = record {
    fits = ga.follows.fits;
    go_in = kept_in y.net false go other eo (in_added ga.follows.added go d.inside);
    types = (choose_parts p spot mark None e a b h.types).typed_no;
    duty = h.duty;
    room = omega (arith, test_costs p.model (type_of e), ap (λ t. conversion_cost p.model t BoolType) ee, (longer_by ge.follows.added).1, (longer_by d.turned.added).1, (longer_by ga.follows.added).1, h.room);
  }

  pub void_step : {s x x2 x3 y z : Sym} {es xs ys : List Bit} (j : ℕ) (spot mark : Spot) (e a b : Exp) (te : IntType) (go other : Bit) → te ≡ type_of e → Ready p W n at s (Expr spot None (Choose mark e a b)) → Values p W n at Used e s x es
      → Decided p (conversion_cost p.model te BoolType) x x2 go (λ v. not (is_zero (typed p.model te v x.net es))) → other ≡ opposite go
      → Turned p j 0 x2 x3 (λ v. telling W (Branch mark (Truth (not (is_zero (typed p.model te v x.net es)))))) → j ≤ W.scale.test mark
      → ValuesWhere p W n at go a x3 y xs → ValuesWhere p W n at other b y z ys → Values p W n at Used (Expr spot None (Choose mark e a b)) s z ys
  void_step {s} {x} {x2} {x3} {y} {z} {es} j spot mark e a b te go other ee h ge d eo ev few wa wb =
      void_values j spot mark e a b go other h ge (subst (λ t. Decided p (conversion_cost p.model t BoolType) x x2 go (λ v. not (is_zero (typed p.model t v x.net es)))) ee d) eo
      (subst (λ t. Turned p j 0 x2 x3 (λ v. telling W (Branch mark (Truth (not (is_zero (typed p.model t v x.net es))))))) ee ev) few wa wb
