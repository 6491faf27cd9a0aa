-- `&&`, `||`, `?:` and the comma operator over values that there may be.
use Rattle.std.proofs.Common.{◌≡◌, ℕ, ◌+◌, ◌*◌, ◌≤◌, Bool, true, false, cond, not, ◌&&◌, ℤ, pos, List, refl, sym, ◌∙◌, ap, subst, arith, Option, Some, None, IfSome, is_some}
use Rattle.c_core.specs.Tree.{Program}
use Rattle.c_core.specs.Types.{width_of, is_zero, number_of}
use Rattle.c_core.specs.declared.number.IntType.{IntType}
use Rattle.c_core.specs.declared.number.IntType.TheVariants.{Bool as BoolType, Int}
use Rattle.c_meaning.specs.Value.{and_then, is_true}
use Rattle.circuits.specs.declared.net.Bit.{Bit}
use Rattle.circuits.specs.declared.net.NetNode.{NetNode}
use Rattle.circuits.specs.Net.{holds, opposite, Grown, Means, IsIn}
use Rattle.circuits.specs.Numbers.{typed}
use Rattle.circuits.specs.Outcome.{conversion_cost}
use Rattle.circuits.proofs.Nets.{means_by, opp, and_of, grown_then}
use Rattle.sym_state.specs.declared.state.Sym.{Sym}
use Rattle.sym_state.specs.Standing.{IsState, Turned}
use Rattle.sym_state.specs.Following.{IsNumber}
use Rattle.sym_state.proofs.Nets.{added_of, typed_added}
use Rattle.sym_values.specs.Valuing.{Reckoned, Decided}
use Rattle.sym_values.proofs.Reckoning.{net_turned}
use Rattle.sym_weight.specs.Table.{chosen}
use Rattle.sym_invariants.specs.Valued.{Perhaps, IsSeen, Sees, then_both, truth_in, logic_in, choice_in, logic_weight}
use Rattle.sym_invariants.proofs.Seeing.{some_map, void_some, means_added, turned_after, turned_within, seen_added}

not_not : (b : Bool) → not (not b) ≡ b
not_not true = refl
not_not false = refl

-- is the left side such that the right one decides?
abbrev goes : Bool → Bool → Bool
goes both t = cond both t (not t)

-- what the code makes of that and of the right side
abbrev made : Bool → Bool → Bool → Bool
made both t u = cond both (goes both t && cond both u (not u)) (not (goes both t && cond both u (not u)))

kept_means : {net : List NetNode} {b r : Bit} {f : (ℕ → Bool) → Bool} (keep : Bool) → r ≡ cond keep b (opposite b) → Means net b f → Means net r (λ v. cond keep (f v) (not (f v)))
kept_means {net} {b} {r} {f} true e m = subst (λ z. Means net z f) (sym e) m
kept_means {net} {b} {r} {f} false e m = opp e m

-- whether there is a value, and which
abbrev Decides : Option ℤ → Bool → Bool → Type 0
Decides o there u = (there ≡ is_some o) × IfSome o (λ w. w ≡ number_of u)

logic_some : (both b : Bool) (q : Option ℤ) (t : ℤ) → IfSome q (λ w. w ≡ t)
    → Decides (cond both (cond b (Some (pos 0)) (truth_in q)) (cond b (truth_in q) (Some (pos 1)))) (true && not (goes both (not b) && not (is_some q))) (made both (not b) (not (is_zero t)))
logic_some true true None t e = (refl, refl)
logic_some true true (Some w) t e = (refl, refl)
logic_some true false None t e = (refl, tt)
logic_some true false (Some w) t e = (refl, ap (λ z. number_of (not (is_zero z))) e)
logic_some false true None t e = (refl, tt)
logic_some false true (Some w) t e = (refl, ap (λ z. number_of (not (is_zero z))) e ∙ ap number_of (sym (not_not (not (is_zero t)))))
logic_some false false None t e = (refl, refl)
logic_some false false (Some w) t e = (refl, refl)

logic_case : (both : Bool) (o q : Option ℤ) (s t : ℤ) → IfSome o (λ w. w ≡ s) → IfSome q (λ w. w ≡ t)
    → Decides (logic_in both o q) (is_some o && not (goes both (not (is_zero s)) && not (is_some q))) (made both (not (is_zero s)) (not (is_zero t)))
logic_case both None q s t e h = (refl, tt)
logic_case both (Some z) q s t e h = subst (λ y. Decides (logic_in both (Some z) q) (true && not (goes both (not (is_zero y)) && not (is_some q))) (made both (not (is_zero y)) (not (is_zero t)))) e (logic_some both (is_zero z) q t h)

choice_some : (b : Bool) (q r : Option ℤ) → true && cond (not b) (is_some q) (is_some r) ≡ is_some (cond b r q)
choice_some true q r = refl
choice_some false q r = refl

choice_there : (o q r : Option ℤ) (s : ℤ) → IfSome o (λ w. w ≡ s) → is_some o && cond (not (is_zero s)) (is_some q) (is_some r) ≡ is_some (choice_in o q r)
choice_there None q r s e = refl
choice_there (Some z) q r s e = ap (λ y. true && cond (not (is_zero y)) (is_some q) (is_some r)) (sym e) ∙ choice_some (is_zero z) q r

choice_number : (b : Bool) (q r : Option ℤ) (t u : ℤ) → IfSome q (λ w. w ≡ t) → IfSome r (λ w. w ≡ u) → IfSome (cond b r q) (λ w. w ≡ cond (not b) t u)
choice_number true q r t u e h = h
choice_number false q r t u e h = e

choice_value : (o q r : Option ℤ) (s t u : ℤ) → IfSome o (λ w. w ≡ s) → IfSome q (λ w. w ≡ t) → IfSome r (λ w. w ≡ u) → IfSome (choice_in o q r) (λ w. w ≡ cond (not (is_zero s)) t u)
choice_value None q r s t u d e h = tt
choice_value (Some z) q r s t u d e h = subst (λ y. IfSome (cond (is_zero z) r q) (λ w. w ≡ cond (not (is_zero y)) t u)) d (choice_number (is_zero z) q r t u e h)

pub either_there : (b : Bool) (o q : Option ℤ) → cond b (is_some o) (is_some q) ≡ is_some (cond b o q)
either_there true o q = refl
either_there false o q = refl

second_there : (o q : Option ℤ) → is_some o && is_some q ≡ is_some (and_then o (λ z. and_then q (λ w. Some w)))
second_there None q = refl
second_there (Some z) None = refl
second_there (Some z) (Some w) = refl

second_value : (P : ℤ → Type 0) (o q : Option ℤ) → IfSome q P → IfSome (and_then o (λ z. and_then q (λ w. Some w))) P
second_value P None q h = tt
second_value P (Some z) None h = tt
second_value P (Some z) (Some w) h = h

true_there : (o : Option ℤ) (t : ℤ) → IfSome o (λ w. w ≡ t) → is_some o && not (is_zero t) ≡ is_true o
true_there None t e = refl
true_there (Some z) t e = ap (λ y. not (is_zero y)) (sym e)

module _ (p : Program) where
  -- the net with two more nodes, and the bit that is true where neither both of two nor ..
  pub pick_decides : (s : Sym) (one two three : List NetNode) (go chosen_one other_one other taken left x y neither r : Bit) → IsState p s → IsIn s.net go → IsIn s.net chosen_one → IsIn s.net other_one
      → Grown 1 s.net one → Means one taken (λ v. holds v s.net go && holds v s.net chosen_one) → other ≡ opposite go → Grown 1 one two → Means two left (λ v. holds v one other && holds v one other_one)
      → x ≡ opposite taken → y ≡ opposite left → Grown 1 two three → Means three neither (λ v. holds v two x && holds v two y) → r ≡ opposite neither
      → Decided p 3 s (record s { net = three }) r (λ v. cond (holds v s.net go) (holds v s.net chosen_one) (holds v s.net other_one))
  pick_decides s one two three go chosen_one other_one other taken left x y neither r h ig iy io g1 m1 eo g2 m2 ex ey g3 m3 er =
      let G = grown_then 1 2 3 s.net one three g1 (grown_then 1 1 2 one two three g2 g3 (omega arith)) (omega arith) in
      let mg : Means s.net go (λ v. holds v s.net go) = record { inside = ig; is = λ v. refl } in
      let my : Means s.net chosen_one (λ v. holds v s.net chosen_one) = record { inside = iy; is = λ v. refl } in
      let mo : Means s.net other_one (λ v. holds v s.net other_one) = record { inside = io; is = λ v. refl } in
      let a2 = and_of {a = other} {b = other_one} {f = λ v. not (holds v s.net go)} {g = λ v. holds v s.net other_one} m2 (opp eo (means_added (added_of g1) mg)) (means_added (added_of g1) mo) in
      let a3 = and_of {a = x} {b = y} {f = λ v. not (holds v s.net go && holds v s.net chosen_one)} {g = λ v. not (not (holds v s.net go) && holds v s.net other_one)} m3 (opp ex (means_added (added_of g2) m1)) (opp ey a2) in
      record {
        turned = net_turned p s three h G;
        means = means_by three r (λ v. not (not (holds v s.net go && holds v s.net chosen_one) && not (not (holds v s.net go) && holds v s.net other_one))) (λ v. cond (holds v s.net go) (holds v s.net chosen_one) (holds v s.net other_one)) (opp er a3)
            (λ v. picked (holds v s.net go) (holds v s.net chosen_one) (holds v s.net other_one));
      }
    where
      picked : (g a b : Bool) → not (not (g && a) && not (not g && b)) ≡ cond g a b
      picked true true b = refl
      picked true false b = refl
      picked false a true = refl
      picked false a false = refl

  module _ (a b : IntType) (s t u v' : Sym) (one two three : List NetNode) (xs ys rs : List Bit) (dx dy first other go hit lacking missing present r all res : Bit) (both : Bool) (f g : Perhaps)
      (x : IsSeen p.model (Some a) s.net xs dx f) (y : IsSeen p.model (Some b) s.net ys dy g) where
    pub logic_sees : Decided p (conversion_cost p.model a BoolType) s t first (λ v. not (is_zero (typed p.model a v s.net xs)))
        → Decided p (conversion_cost p.model b BoolType) t u other (λ v. not (is_zero (typed p.model b v t.net ys)))
        → go ≡ cond both first (opposite first) → hit ≡ cond both other (opposite other) → lacking ≡ opposite dy
        → Grown 1 u.net one → Means one missing (λ v. holds v u.net go && holds v u.net lacking) → present ≡ opposite missing → Grown 1 one two → Means two r (λ v. holds v one dx && holds v one present)
        → Grown 1 two three → Means three all (λ v. holds v two go && holds v two hit) → res ≡ cond both all (opposite all)
        → Reckoned p 0 (record u { net = three }) v' Int rs (λ v. number_of (holds v three res)) → Sees p (logic_weight p.model a b) s v' (Some Int) rs r (λ v. logic_in both (f v) (g v))
    logic_sees d1 d2 eg eh en g1 m1 ey g2 m2 g3 m3 er c =
        let S : (ℕ → Bool) → ℤ = λ v. typed p.model a v s.net xs in
        let T : (ℕ → Bool) → ℤ = λ v. typed p.model b v s.net ys in
        let A : (ℕ → Bool) → Bool = λ v. not (is_zero (S v)) in
        let B : (ℕ → Bool) → Bool = λ v. not (is_zero (T v)) in
        let up = turned_after p (conversion_cost p.model a BoolType + conversion_cost p.model b BoolType) d1.turned d2.turned (omega arith) in
        let mgo : Means u.net go (λ v. goes both (A v)) = kept_means both eg (means_added d2.turned.added d1.means) in
        let mb : Means u.net other B = means_by u.net other _ B d2.means (λ v. ap (λ z. not (is_zero z)) (typed_added d1.turned.added p.model b v ys y.bits_in)) in
        let mhit : Means u.net hit (λ v. cond both (B v) (not (B v))) = kept_means both eh mb in
        let mdy : Means u.net dy (λ v. is_some (g v)) = means_added up.added y.defined in
        let mdx : Means u.net dx (λ v. is_some (f v)) = means_added up.added x.defined in
        let mm : Means one missing (λ v. goes both (A v) && not (is_some (g v))) = and_of {a = go} {b = lacking} {f = λ v. goes both (A v)} {g = λ v. not (is_some (g v))} m1 mgo (opp en mdy) in
        let mr : Means two r (λ v. is_some (f v) && not (goes both (A v) && not (is_some (g v)))) = and_of {a = dx} {b = present} {f = λ v. is_some (f v)} {g = λ v. not (goes both (A v) && not (is_some (g v)))} m2 (means_added (added_of g1) mdx) (opp ey mm) in
        let G2 = grown_then 1 1 2 u.net one two g1 g2 (omega arith) in
        let mall : Means three all (λ v. goes both (A v) && cond both (B v) (not (B v))) = and_of {a = go} {b = hit} {f = λ v. goes both (A v)} {g = λ v. cond both (B v) (not (B v))} m3 (means_added (added_of G2) mgo) (means_added (added_of G2) mhit) in
        let mres : Means three res (λ v. made both (A v) (B v)) = kept_means both er mall in
        let G = grown_then 2 1 3 u.net two three G2 g3 (omega arith) in
        let nets = net_turned p u three up.fits G in
        let low = turned_after p (logic_weight p.model a b) up nets (omega arith) in
        record {
          turned = turned_after p (logic_weight p.model a b) low c.turned (omega arith);
          seen = record {
            bits_in = c.bits_in;
            defined = means_by v'.net r _ (λ v. is_some (logic_in both (f v) (g v))) (means_added c.turned.added (means_added (added_of g3) mr)) (λ v. (logic_case both (f v) (g v) (S v) (T v) (x.is v) (y.is v)).0);
            is = λ v. some_map (logic_in both (f v) (g v)) (λ z e. e ∙ ap number_of (sym (mres.is v)) ∙ sym (c.is v)) (logic_case both (f v) (g v) (S v) (T v) (x.is v) (y.is v)).1;
          };
        }

  module _ (of : IntType) (s t m : Sym) (last : List NetNode) (es xs ys : List Bit) (de dx dy go side r : Bit) (h f g : Perhaps) where
    -- the bit that is true where the test has a value and the side that it chooses has one
    module _ (ty : Option IntType) (e : IsSeen p.model (Some of) s.net es de h) (x : IsSeen p.model ty s.net xs dx f) (y : IsSeen p.model ty s.net ys dy g)
        (d1 : Decided p (conversion_cost p.model of BoolType) s t go (λ v. not (is_zero (typed p.model of v s.net es))))
        (d2 : Decided p 3 t m side (λ v. cond (holds v t.net go) (holds v t.net dx) (holds v t.net dy))) (g1 : Grown 1 m.net last) (m1 : Means last r (λ v. holds v m.net de && holds v m.net side)) where
      abbrev chosen_net : Sym
      chosen_net = record m { net = last }

      chosen_up : Turned p (4 + conversion_cost p.model of BoolType) 0 s chosen_net (λ v z. z)
      chosen_up = turned_after p (4 + conversion_cost p.model of BoolType) (turned_after p (3 + conversion_cost p.model of BoolType) d1.turned d2.turned (omega arith)) (net_turned p m last d2.turned.fits g1) (omega arith)

      side_is : Means m.net side (λ v. cond (not (is_zero (typed p.model of v s.net es))) (is_some (f v)) (is_some (g v)))
      side_is =
          let mx = means_added d1.turned.added x.defined in
          let my = means_added d1.turned.added y.defined in
          means_by m.net side _ _ d2.means (λ v. (λ i. cond (d1.means.is v i) (mx.is v i) (my.is v i)))

      chosen_defined : Means last r (λ v. is_some (choice_in (h v) (f v) (g v)))
      chosen_defined =
          let me = means_added d2.turned.added (means_added d1.turned.added e.defined) in
          means_by last r _ (λ v. is_some (choice_in (h v) (f v) (g v)))
          (and_of {a = de} {b = side} {f = λ v. is_some (h v)} {g = λ v. cond (not (is_zero (typed p.model of v s.net es))) (is_some (f v)) (is_some (g v))} m1 me side_is)
          (λ v. choice_there (h v) (f v) (g v) (typed p.model of v s.net es) (e.is v))

    pub void_chosen_sees : (rs : List Bit) → IsSeen p.model (Some of) s.net es de h → IsSeen p.model None s.net xs dx f → IsSeen p.model None s.net ys dy g
        → Decided p (conversion_cost p.model of BoolType) s t go (λ v. not (is_zero (typed p.model of v s.net es)))
        → Decided p 3 t m side (λ v. cond (holds v t.net go) (holds v t.net dx) (holds v t.net dy)) → Grown 1 m.net last → Means last r (λ v. holds v m.net de && holds v m.net side)
        → Sees p (4 + (conversion_cost p.model of BoolType + chosen p.model None)) s (record m { net = last }) None rs r (λ v. choice_in (h v) (f v) (g v))
    void_chosen_sees rs e x y d1 d2 g1 m1 = record {
      turned = turned_within p (4 + (conversion_cost p.model of BoolType + chosen p.model None)) (chosen_up None e x y d1 d2 g1 m1) (omega arith);
      seen = record { bits_in = tt; defined = chosen_defined None e x y d1 d2 g1 m1; is = λ v. void_some (choice_in (h v) (f v) (g v)) };
    }

    pub chosen_sees : (to : IntType) (rs : List Bit) (n : Sym) → IsSeen p.model (Some of) s.net es de h → IsSeen p.model (Some to) s.net xs dx f → IsSeen p.model (Some to) s.net ys dy g
        → Decided p (conversion_cost p.model of BoolType) s t go (λ v. not (is_zero (typed p.model of v s.net es)))
        → Decided p 3 t m side (λ v. cond (holds v t.net go) (holds v t.net dx) (holds v t.net dy)) → Grown 1 m.net last → Means last r (λ v. holds v m.net de && holds v m.net side)
        → Reckoned p (4 * width_of p.model to) (record m { net = last }) n to rs (λ v. cond (holds v last go) (typed p.model to v last xs) (typed p.model to v last ys))
        → Sees p (4 + (conversion_cost p.model of BoolType + chosen p.model (Some to))) s n (Some to) rs r (λ v. choice_in (h v) (f v) (g v))
    chosen_sees to rs n e x y d1 d2 g1 m1 c =
        let up = chosen_up (Some to) e x y d1 d2 g1 m1 in
        let mgo = means_added (added_of g1) (means_added d2.turned.added d1.means) in
        record {
          turned = turned_after p (4 + (conversion_cost p.model of BoolType + chosen p.model (Some to))) up c.turned (omega arith);
          seen = record {
            bits_in = c.bits_in;
            defined = means_added c.turned.added (chosen_defined (Some to) e x y d1 d2 g1 m1);
            is = λ v. some_map (choice_in (h v) (f v) (g v))
                (λ z q. q ∙ (λ i. cond (sym (mgo.is v) i) (sym (typed_added up.added p.model to v xs x.bits_in) i) (sym (typed_added up.added p.model to v ys y.bits_in) i)) ∙ sym (c.is v))
                (choice_value (h v) (f v) (g v) (typed p.model of v s.net es) (typed p.model to v s.net xs) (typed p.model to v s.net ys) (e.is v) (x.is v) (y.is v));
          };
        }

  -- the comma operator
  pub second_sees : (s t : Option IntType) (a : Sym) (net : List NetNode) (xs ys : List Bit) (dx dy r : Bit) (f g : Perhaps) → IsState p a → IsSeen p.model s a.net xs dx f → IsSeen p.model t a.net ys dy g → Grown 1 a.net net
      → Means net r (λ v. holds v a.net dx && holds v a.net dy) → Sees p 1 a (record a { net = net }) t ys r (then_both f g (λ z w. Some w))
  second_sees s t a net xs ys dx dy r f g h x y g1 m =
      let y2 = seen_added p.model t (added_of g1) y in
      record {
        turned = net_turned p a net h g1;
        seen = record {
          bits_in = y2.bits_in;
          defined = means_by net r _ _ (and_of {a = dx} {b = dy} {f = λ v. is_some (f v)} {g = λ v. is_some (g v)} m x.defined y.defined) (λ v. second_there (f v) (g v));
          is = λ v. second_value (IsNumber p.model t net ys v) (f v) (g v) (y2.is v);
        };
      }

  -- a value's truth, where there is one
  pub truth_decides : {i k : ℕ} (n : ℕ) (ty : IntType) (s a t : Sym) (net : List NetNode) (xs : List Bit) (d e r : Bit) (f : Perhaps) → Sees p i s a (Some ty) xs d f → Decided p k a t e (λ v. not (is_zero (typed p.model ty v a.net xs)))
      → Grown 1 t.net net → Means net r (λ v. holds v t.net d && holds v t.net e) → i + k + 1 ≤ n → Decided p n s (record t { net = net }) r (λ v. is_true (f v))
  truth_decides {i} {k} n ty s a t net xs d e r f x c g m h = record {
    turned = turned_after p n (turned_after p (i + k) x.turned c.turned (omega arith)) (net_turned p t net c.turned.fits g) (omega (arith, h));
    means = means_by net r _ (λ v. is_true (f v)) (and_of {a = d} {b = e} {f = λ v. is_some (f v)} {g = λ v. not (is_zero (typed p.model ty v a.net xs))} m (means_added c.turned.added x.seen.defined) c.means)
        (λ v. true_there (f v) (typed p.model ty v a.net xs) (x.seen.is v));
  }
