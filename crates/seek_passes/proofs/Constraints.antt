-- Constraints on `\result`, and what the bits of waypoints with expressions cost.
use Rattle.std.proofs.Common.{◌≡◌, ℕ, ◌+◌, ◌*◌, ◌≤◌, ◌<◌, ◌^◌, Bool, true, false, cond, ◌&&◌, ℤ, List, length, refl, sym, ◌∙◌, ap, ap₂, subst, arith, IsTrue, Option, Some, None}
use Rattle.c_core.specs.Tree.{Program, Exp}
use Rattle.c_core.specs.Places.{call_at}
use Rattle.c_core.specs.Types.{width_of, fit, common_of, promote_of}
use Rattle.c_core.specs.Operators.{apply_of, is_comparison, type_for}
use Rattle.c_core.specs.declared.number.DataModel.{DataModel}
use Rattle.c_core.specs.declared.number.IntType.{IntType}
use Rattle.c_core.specs.declared.number.Spot.{Spot}
use Rattle.c_core.specs.declared.number.BinOp.{BinOp}
use Rattle.c_core.specs.declared.number.BinOp.TheVariants.{Add, Sub, Mul, Div, Rem, Shl, Shr, And, Xor, Or, Lt, Le, Gt, Ge, Eq, Ne}
use Rattle.c_meaning.specs.declared.run.Event.TheVariants as event
use Rattle.c_meaning.specs.Objects.{type_of}
use Rattle.c_meaning.specs.Value.{and_then, is_true, wrapping, holds as valid}
use Rattle.circuits.specs.declared.net.Bit.{Bit}
use Rattle.circuits.specs.declared.net.NetNode.{NetNode}
use Rattle.circuits.specs.Net.{holds, Grown, Means, IsIn}
use Rattle.circuits.proofs.Multiplied.{width_few}
use Rattle.circuits.proofs.Nets.{means_by, and_of, own}
use Rattle.sym_state.specs.declared.state.Sym.{Sym}
use Rattle.sym_state.specs.Standing.{stand, IsState}
use Rattle.sym_state.proofs.Turning.{turned_then}
use Rattle.sym_values.specs.Valuing.{Decided}
use Rattle.sym_values.proofs.Reckoning.{net_turned}
use Rattle.sym_invariants.specs.Valued.{weight_of, ReadyToTest, Holds}
use Rattle.sym_weight.specs.Table.{operator_weight}
use Rattle.seek_weight.specs.Tolls.{AStatement, ACall, constraint_weight}
use Rattle.way_match.specs.Points.{Point, Assume, Return, ReturnTest}
use Rattle.way_match.specs.Passing.{constant_of, meets, meets_at, type_of_call, passes}
use Rattle.way_match.proofs.PlaceLaws.{same_spots}
use Rattle.seek_passes.specs.Event.{given_if}
use Rattle.seek_passes.specs.Charges.{comparison_cost, test_cost, test_cost_if, placed_cost}
use Rattle.seek_passes.specs.Passing.{IsTest, IsPoint}
use Rattle.seek_passes.specs.Placed.{IsAssumed, NoneAssumed, IsCameBack, NoneCameBack}
use Rattle.seek_passes.proofs.Kept.{same_turned, same_decided, means_added}
use Rattle.seek_passes.proofs.Compared.{no_shift}

-- told otherwise
pub decided_by : {k : ℕ} {a b : Sym} {r : Bit} {f : (ℕ → Bool) → Bool} (n : ℕ) (p : Program) (g : (ℕ → Bool) → Bool) → Decided p k a b r f → k ≤ n → ((v : ℕ → Bool) → f v ≡ g v) → Decided p n a b r g
decided_by {k} {a} {b} {r} {f} n p g x le e = record {
  turned = turned_then p n 0 x.turned (same_turned 0 p b x.turned.fits) (omega (arith, le)) (omega arith);
  means = means_by b.net r f g x.means e;
}

weighed_cost : (m : DataModel) (op : BinOp) (ty : IntType) → IsTrue (is_comparison op) → operator_weight m op ty ≡ 16 * width_of m ty
weighed_cost m Add ty h = refl
weighed_cost m Sub ty h = refl
weighed_cost m Mul ty h = cc
weighed_cost m Div ty h = cc
weighed_cost m Rem ty h = cc
weighed_cost m Shl ty h = cc
weighed_cost m Shr ty h = cc
weighed_cost m And ty h = cc
weighed_cost m Xor ty h = cc
weighed_cost m Or ty h = cc
weighed_cost m Lt ty h = refl
weighed_cost m Le ty h = refl
weighed_cost m Gt ty h = refl
weighed_cost m Ge ty h = refl
weighed_cost m Eq ty h = refl
weighed_cost m Ne ty h = refl

module _ (p : Program) where
  -- ---- a constraint on the value of a call
  module _ (close : Spot) (t : ReturnTest) {a b : Sym} {r : Bit} where
    -- its constant has this value
    pub meets_some : (from common to : IntType) (w : ℤ) (z : (ℕ → Bool) → ℤ) → from ≡ type_of_call (call_at p close) → to ≡ type_of t.constant → common ≡ common_of p.model from to → Some w ≡ constant_of p t.constant
        → Decided p (comparison_cost p.model common) a b r (λ v. is_true (wrapping (apply_of p.model t.op common (fit p.model common (z v)) (fit p.model common w))))
        → Decided p (test_cost p close t) a b r (λ v. meets p t (type_of_call (call_at p close)) (z v))
    meets_some from common to w z ef et ec ew d =
        let c : common ≡ common_of p.model (type_of_call (call_at p close)) (type_of t.constant) = ec ∙ ap₂ (common_of p.model) ef et in
        let whole = common_of p.model (type_of_call (call_at p close)) (type_of t.constant) in
        let few : comparison_cost p.model common ≤ test_cost p close t = omega (arith, ap (comparison_cost p.model) c) in
        decided_by (test_cost p close t) p (λ v. meets p t (type_of_call (call_at p close)) (z v)) d few (λ v.
        ap (λ q. is_true (wrapping (apply_of p.model t.op q (fit p.model q (z v)) (fit p.model q w)))) c
        ∙ ap (λ o. is_true (and_then o (λ w. wrapping (apply_of p.model t.op whole (fit p.model whole (z v)) (fit p.model whole w))))) ew)

  pub meets_room : (close : Spot) (t : ReturnTest) (from common to : IntType) → from ≡ type_of_call (call_at p close) → to ≡ type_of t.constant → common ≡ common_of p.model from to → (n : ℕ) → n + test_cost p close t < 2 ^ 27
      → n + comparison_cost p.model common < 2 ^ 27
  meets_room close t from common to ef et ec n room =
      let c : common ≡ common_of p.model (type_of_call (call_at p close)) (type_of t.constant) = ec ∙ ap₂ (common_of p.model) ef et in
      subst (λ q. n + comparison_cost p.model q < 2 ^ 27) (sym c) room

  -- its constant has no value
  pub meets_none : (close : Spot) (t : ReturnTest) (s : Sym) (r : Bit) (z : (ℕ → Bool) → ℤ) → IsState p s → None ≡ constant_of p t.constant → Means s.net r (λ v. false)
      → Decided p (test_cost p close t) s s r (λ v. meets p t (type_of_call (call_at p close)) (z v))
  meets_none close t s r z h e m =
      let from = type_of_call (call_at p close) in
      let whole = common_of p.model from (type_of t.constant) in
      same_decided (test_cost p close t) p s r (λ v. meets p t from (z v)) h (means_by s.net r (λ v. false) (λ v. meets p t from (z v)) m (λ v.
      ap (λ o. is_true (and_then o (λ w. wrapping (apply_of p.model t.op whole (fit p.model whole (z v)) (fit p.model whole w))))) e))

  given_meets : (close : Spot) (t : ReturnTest) (g : Bool) (z : ℤ) → (g && meets p t (type_of_call (call_at p close)) z) ≡ meets_at p close (Some t) (given_if g z)
  given_meets close t true z = refl
  given_meets close t false z = refl

  -- where a value is given
  pub given_decided : {a b : Sym} {net : List NetNode} {met r : Bit} (gave : Bit) (close : Spot) (t : ReturnTest) (z : (ℕ → Bool) → ℤ) → IsIn a.net gave → Decided p (test_cost p close t) a b met (λ v. meets p t (type_of_call (call_at p close)) (z v))
      → Grown 1 b.net net → Means net r (λ v. holds v b.net gave && holds v b.net met)
      → Decided p (test_cost_if p close (Some t)) a (record b { net = net }) r (λ v. meets_at p close (Some t) (given_if (holds v a.net gave) (z v)))
  given_decided {a} {b} {net} {met} {r} gave close t z i d g m = record {
    turned = turned_then p (test_cost_if p close (Some t)) 0 d.turned (net_turned p b net d.turned.fits g) (omega arith) (omega arith);
    means = means_by net r _ _ (and_of {a = gave} {b = met} m (means_added d.turned.added (own a.net gave i)) d.means) (λ v. given_meets close t (holds v a.net gave) (z v));
  }

  pub none_decided : (s : Sym) (r : Bit) (close : Spot) (o : (ℕ → Bool) → Option ℤ) → IsState p s → Means s.net r (λ v. true) → Decided p (test_cost_if p close None) s s r (λ v. meets_at p close None (o v))
  none_decided s r close o h m = same_decided 0 p s r (λ v. true) h m

  -- ---- an assumption
  module _ (x : Point) (at : Spot) (test : Exp) (h : IsAssumed x at test) where
    assumed_cost : placed_cost p AStatement at x ≡ 65 + weight_of p test
    assumed_cost = ap (placed_cost p AStatement at) h.1 ∙ ap (λ b. cond b (65 + weight_of p test) 0) h.2

    pub assumed_ready : (s : Sym) → IsPoint p x → IsState p s → length s.net + placed_cost p AStatement at x < 2 ^ 27 → ReadyToTest p s test
    assumed_ready s i fits room =
        let q : IsPoint p (Assume h.0 test) = subst (IsPoint p) h.1 i in
        record { fits = fits; types = q.0; value = q.1; room = omega (arith, room, assumed_cost, width_few p.model (type_of test)) }

    pub assumed_passes : (a b : Sym) (r : Bit) → Holds p test a b r → Decided p (placed_cost p AStatement at x) a b r (λ v. passes p x (event.At at) (stand p v a).cells)
    assumed_passes a b r d =
        decided_by (placed_cost p AStatement at x) p (λ v. passes p x (event.At at) (stand p v a).cells) d (omega (arith, assumed_cost, width_few p.model (type_of test))) (λ v.
        sym (ap (λ y. passes p y (event.At at) (stand p v a).cells) h.1 ∙ ap (λ b. b && valid p test (stand p v a).cells) h.2))

  pub none_assumed : (x : Point) (at : Spot) (s : Sym) (r : Bit) → NoneAssumed x at → IsState p s → Means s.net r (λ v. false) → Decided p (placed_cost p AStatement at x) s s r (λ v. passes p x (event.At at) (stand p v s).cells)
  none_assumed x at s r e h m = same_decided (placed_cost p AStatement at x) p s r _ h (means_by s.net r (λ v. false) (λ v. passes p x (event.At at) (stand p v s).cells) m (λ v. sym (e p (stand p v s).cells)))

  -- ---- a return
  few_tested : (close : Spot) (test : Option ReturnTest) → IsTest test → test_cost_if p close test ≤ 65 + constraint_weight p (Return close test)
  few_tested close None i = omega arith
  few_tested close (Some t) i =
      let from = type_of_call (call_at p close) in
      let to = type_of t.constant in
      let one : type_for p.model t.op from to ≡ common_of p.model from to = ap (λ b. cond b (promote_of from) (common_of p.model from to)) (no_shift t.op i) in
      omega (arith, weighed_cost p.model t.op (type_for p.model t.op from to) i, ap (width_of p.model) one)

  module _ (x : Point) (at : Spot) (test : Option ReturnTest) (h : IsCameBack x at test) where
    same_place : h.0 ≡ at
    same_place = same_spots h.0 at h.2

    returned_cost : placed_cost p ACall at x ≡ 65 + constraint_weight p (Return at test)
    returned_cost = ap (placed_cost p ACall at) h.1 ∙ ap (λ b. cond b (65 + constraint_weight p (Return h.0 test)) 0) h.2 ∙ ap (λ s. 65 + constraint_weight p (Return s test)) same_place

    pub returned_test : IsPoint p x → IsTest test
    returned_test i = subst (IsPoint p) h.1 i

    pub returned_room : (n : ℕ) → IsPoint p x → n + placed_cost p ACall at x < 2 ^ 27 → n + test_cost_if p at test < 2 ^ 27
    returned_room n i room = omega (arith, room, returned_cost, few_tested at test (returned_test i))

    pub returned_passes : (a b : Sym) (r : Bit) (o : (ℕ → Bool) → Option ℤ) → IsPoint p x → Decided p (test_cost_if p at test) a b r (λ v. meets_at p at test (o v))
        → Decided p (placed_cost p ACall at x) a b r (λ v. passes p x (event.Return at (o v)) (stand p v a).cells)
    returned_passes a b r o i d =
        decided_by (placed_cost p ACall at x) p (λ v. passes p x (event.Return at (o v)) (stand p v a).cells) d (omega (arith, returned_cost, few_tested at test (returned_test i))) (λ v.
        sym (ap (λ y. passes p y (event.Return at (o v)) (stand p v a).cells) h.1 ∙ ap (λ b. b && meets_at p h.0 test (o v)) h.2 ∙ ap (λ s. meets_at p s test (o v)) same_place))

  pub none_returned : (x : Point) (at : Spot) (s : Sym) (r : Bit) (o : (ℕ → Bool) → Option ℤ) → NoneCameBack x at → IsState p s → Means s.net r (λ v. false)
      → Decided p (placed_cost p ACall at x) s s r (λ v. passes p x (event.Return at (o v)) (stand p v s).cells)
  none_returned x at s r o e h m = same_decided (placed_cost p ACall at x) p s r _ h (means_by s.net r (λ v. false) (λ v. passes p x (event.Return at (o v)) (stand p v s).cells) m (λ v. sym (e p (o v) (stand p v s).cells)))
