-- Operators of values that there may be: overflow wraps, and where the operator is undefined there is fine value.
use Rattle.std.proofs.Common.{◌≡◌, ℕ, ◌+◌, ◌≤◌, Bool, not, ◌&&◌, ℤ, List, refl, sym, ◌∙◌, ap, ap₂, subst, arith, Option, Some, None, IfSome, is_some}
use Rattle.c_core.specs.Tree.{Program}
use Rattle.c_core.specs.Types.{fit, promote_of}
use Rattle.c_core.specs.Operators.{apply_of, apply_one_of, type_for, right_type_for}
use Rattle.c_core.specs.declared.number.DataModel.{DataModel}
use Rattle.c_core.specs.declared.number.IntType.{IntType}
use Rattle.c_core.specs.declared.number.BinOp.{BinOp}
use Rattle.c_core.specs.declared.number.UnOp.{UnOp}
use Rattle.c_core.specs.declared.number.Done.{Done}
use Rattle.c_core.specs.declared.number.Done.TheVariants.{Value, Overflow, Undefined}
use Rattle.c_meaning.specs.Value.{and_then, wrapping, operated, operated_one}
use Rattle.circuits.specs.declared.net.Bit.{Bit}
use Rattle.circuits.specs.declared.net.NetNode.{NetNode}
use Rattle.circuits.specs.declared.bits.Outcome.{Outcome}
use Rattle.circuits.specs.Net.{holds, opposite, Grown, Means}
use Rattle.circuits.specs.Numbers.{typed}
use Rattle.circuits.specs.Outcome as C
use Rattle.circuits.proofs.Nets.{means_by, opp, and_of, grown_then}
use Rattle.sym_state.specs.declared.state.Sym.{Sym}
use Rattle.sym_state.specs.Standing.{Turned}
use Rattle.sym_state.proofs.Nets.{added_of, in_added, holds_added, typed_added, are_typed_added}
use Rattle.sym_values.specs.Valuing.{Reckoned}
use Rattle.sym_values.proofs.Reckoning.{net_turned}
use Rattle.sym_invariants.specs.Valued.{Perhaps, IsSeen, Sees, then_value, then_both, one_weight, both_weight}
use Rattle.sym_invariants.proofs.Seeing.{means_added, turned_after}

-- a value wraps
done_value : (d : Done) (u : ℤ) → C.HasValue d u → IfSome (wrapping d) (λ w. w ≡ u)
done_value (Value r) u h = sym h
done_value (Overflow r) u h = sym h
done_value Undefined u h = tt

done_some : (d : Done) → not (C.undefined d) ≡ is_some (wrapping d)
done_some (Value r) = refl
done_some (Overflow r) = refl
done_some Undefined = refl

one_some : (o : Option ℤ) (D : ℤ → Done) (t : ℤ) → IfSome o (λ z. z ≡ t) → is_some o && not (C.undefined (D t)) ≡ is_some (and_then o (λ z. wrapping (D z)))
one_some None D t e = refl
one_some (Some z) D t e = done_some (D t) ∙ ap (λ w. is_some (wrapping (D w))) (sym e)

one_value : (o : Option ℤ) (D : ℤ → Done) (t u : ℤ) → IfSome o (λ z. z ≡ t) → C.HasValue (D t) u → IfSome (and_then o (λ z. wrapping (D z))) (λ w. w ≡ u)
one_value None D t u e h = tt
one_value (Some z) D t u e h = subst (λ w. IfSome (wrapping (D w)) (λ x. x ≡ u)) (sym e) (done_value (D t) u h)

two_some : (o q : Option ℤ) (D : ℤ → ℤ → Done) (t u : ℤ) → IfSome o (λ z. z ≡ t) → IfSome q (λ z. z ≡ u)
    → is_some o && is_some q && not (C.undefined (D t u)) ≡ is_some (and_then o (λ z. and_then q (λ w. wrapping (D z w))))
two_some None q D t u e f = refl
two_some (Some z) q D t u e f = one_some q (D t) u f ∙ ap (λ x. is_some (and_then q (λ w. wrapping (D x w)))) (sym e)

two_value : (o q : Option ℤ) (D : ℤ → ℤ → Done) (t u r : ℤ) → IfSome o (λ z. z ≡ t) → IfSome q (λ z. z ≡ u) → C.HasValue (D t u) r
    → IfSome (and_then o (λ z. and_then q (λ w. wrapping (D z w)))) (λ w. w ≡ r)
two_value None q D t u r e f h = tt
two_value (Some z) q D t u r e f h = subst (λ x. IfSome (and_then q (λ w. wrapping (D x w))) (λ y. y ≡ r)) (sym e) (one_value q (D t) u r f h)

-- an outcome told by other numbers
gives_as : {m : DataModel} {ty : IntType} {net : List NetNode} {o : Outcome} {f : (ℕ → Bool) → Done} (g : (ℕ → Bool) → Done) → C.Gives m ty net o f → ((v : ℕ → Bool) → f v ≡ g v) → C.Gives m ty net o g
gives_as {m} {ty} {net} {o} g c e = record {
  value = c.value;
  overflow = c.overflow;
  undefined_in = c.undefined_in;
  value_is = λ v. subst (λ d. C.HasValue d (typed m ty v net o.value.bits)) (e v) (c.value_is v);
  overflow_is = λ v. c.overflow_is v ∙ ap C.overflowed (e v);
  undefined_is = λ v. c.undefined_is v ∙ ap C.undefined (e v);
}

-- an outcome over a larger net
gives_grown : {k : ℕ} {m : DataModel} {ty : IntType} {old new : List NetNode} {o : Outcome} {done : (ℕ → Bool) → Done} → Grown k old new → C.Gives m ty old o done → C.Gives m ty new o done
gives_grown {m = m} {ty = ty} {o = o} {done = done} g c = record {
  value = are_typed_added (added_of g) c.value;
  overflow = in_added (added_of g) o.overflow c.overflow;
  undefined_in = in_added (added_of g) o.undefined c.undefined_in;
  value_is = λ v. subst (C.HasValue (done v)) (sym (typed_added (added_of g) m ty v o.value.bits c.value)) (c.value_is v);
  overflow_is = λ v. holds_added (added_of g) v o.overflow c.overflow ∙ c.overflow_is v;
  undefined_is = λ v. holds_added (added_of g) v o.undefined c.undefined_in ∙ c.undefined_is v;
}

module _ (p : Program) where
  -- an operator's circuit, and the bit that is true where its operands have values and it is defined
  answered_sees : {i k : ℕ} (n : ℕ) (s m : Sym) (net last : List NetNode) (rt : IntType) (o : Outcome) (done : (ℕ → Bool) → Done) (q fine r : Bit) (F : (ℕ → Bool) → Bool) (W : Perhaps)
      → Turned p i 0 s m (λ v z. z) → Grown k m.net net → C.Gives p.model rt net o done → Means net q F → fine ≡ opposite o.undefined → Grown 1 net last → Means last r (λ v. holds v net q && holds v net fine)
      → ((v : ℕ → Bool) → F v && not (C.undefined (done v)) ≡ is_some (W v)) → ((v : ℕ → Bool) (u : ℤ) → C.HasValue (done v) u → IfSome (W v) (λ w. w ≡ u)) → i + k + 1 ≤ n
      → Sees p n s (record m { net = last }) (Some rt) o.value.bits r W
  answered_sees {i} {k} n s m net last rt o done q fine r F W x g1 c mq en g2 mr e1 e2 h =
      let y = net_turned p m net x.fits g1 in
      let z = net_turned p (record m { net = net }) last y.fits g2 in
      let mu : Means net o.undefined (λ v. C.undefined (done v)) = record { inside = c.undefined_in; is = c.undefined_is } in
      record {
        turned = turned_after p n (turned_after p (i + k) x y (omega arith)) z (omega (arith, h));
        seen = record {
          bits_in = are_typed_added (added_of g2) c.value;
          defined = means_by last r (λ v. F v && not (C.undefined (done v))) (λ v. is_some (W v)) (and_of {a = q} {b = fine} {f = F} {g = λ v. not (C.undefined (done v))} mr mq (opp en mu)) e1;
          is = λ v. subst (λ u. IfSome (W v) (λ w. w ≡ u)) (sym (typed_added (added_of g2) p.model rt v o.value.bits c.value)) (e2 v (typed p.model rt v net o.value.bits) (c.value_is v));
        };
      }

  module _ (op : UnOp) (a : IntType) (s t : Sym) (net last : List NetNode) (xs us : List Bit) (o : Outcome) (d fine r : Bit) (f : Perhaps) (x : IsSeen p.model (Some a) s.net xs d f) where
    abbrev one_of : IntType → ℤ → Done
    one_of ty z = apply_one_of p.model op ty (fit p.model ty z)

    one_in : (ty : IntType) → Reckoned p (C.conversion_cost p.model a ty) s t ty us (λ v. fit p.model ty (typed p.model a v s.net xs))
        → Grown (C.one_cost p.model op ty) t.net net → C.Gives p.model (C.one_type op ty) net o (λ v. apply_one_of p.model op ty (typed p.model ty v t.net us))
        → fine ≡ opposite o.undefined → Grown 1 net last → Means last r (λ v. holds v net d && holds v net fine)
        → Sees p (1 + (C.conversion_cost p.model a ty + C.one_cost p.model op ty)) s (record t { net = last }) (Some (C.one_type op ty)) o.value.bits r (then_value f (λ z. wrapping (one_of ty z)))
    one_in ty c g1 gv en g2 m =
        let T : (ℕ → Bool) → ℤ = λ v. typed p.model a v s.net xs in
        let G : C.Gives p.model (C.one_type op ty) net o (λ v. one_of ty (T v)) = gives_as (λ v. one_of ty (T v)) gv (λ v. ap (apply_one_of p.model op ty) (c.is v)) in
        answered_sees (1 + (C.conversion_cost p.model a ty + C.one_cost p.model op ty)) s t net last (C.one_type op ty) o (λ v. one_of ty (T v)) d fine r (λ v. is_some (f v)) (then_value f (λ z. wrapping (one_of ty z)))
        c.turned g1 G (means_added (added_of g1) (means_added c.turned.added x.defined)) en g2 m
        (λ v. one_some (f v) (one_of ty) (T v) (x.is v)) (λ v u. one_value (f v) (one_of ty) (T v) u (x.is v)) (omega arith)

    pub one_sees : (ty : IntType) → ty ≡ promote_of a → Reckoned p (C.conversion_cost p.model a ty) s t ty us (λ v. fit p.model ty (typed p.model a v s.net xs))
        → Grown (C.one_cost p.model op ty) t.net net → C.Gives p.model (C.one_type op ty) net o (λ v. apply_one_of p.model op ty (typed p.model ty v t.net us))
        → fine ≡ opposite o.undefined → Grown 1 net last → Means last r (λ v. holds v net d && holds v net fine)
        → Sees p (one_weight p.model op a) s (record t { net = last }) (Some (C.one_type op (promote_of a))) o.value.bits r (then_value f (operated_one p op a))
    one_sees ty e c g1 gv en g2 m =
        subst (λ k. Sees p (1 + (C.conversion_cost p.model a k + C.one_cost p.model op k)) s (record t { net = last }) (Some (C.one_type op k)) o.value.bits r (then_value f (λ z. wrapping (one_of k z)))) e (one_in ty c g1 gv en g2 m)

  module _ (op : BinOp) (a b : IntType) (s t u : Sym) (net mid last : List NetNode) (xs ys us ws : List Bit) (o : Outcome) (dx dy both fine r : Bit) (f g : Perhaps)
      (x : IsSeen p.model (Some a) s.net xs dx f) (y : IsSeen p.model (Some b) s.net ys dy g) where
    abbrev both_of : IntType → IntType → ℤ → ℤ → Done
    both_of ty right z w = apply_of p.model op ty (fit p.model ty z) (fit p.model right w)

    abbrev cost_in : IntType → IntType → ℕ
    cost_in ty right = 2 + (C.conversion_cost p.model a ty + (C.conversion_cost p.model b right + C.binary_cost p.model op ty))

    both_in : (ty right : IntType) → Reckoned p (C.conversion_cost p.model a ty) s t ty us (λ v. fit p.model ty (typed p.model a v s.net xs))
        → Reckoned p (C.conversion_cost p.model b right) t u right ws (λ v. fit p.model right (typed p.model b v t.net ys))
        → Grown (C.binary_cost p.model op ty) u.net net → C.Gives p.model (C.binary_type op ty) net o (λ v. apply_of p.model op ty (typed p.model ty v u.net us) (typed p.model right v u.net ws))
        → Grown 1 net mid → Means mid both (λ v. holds v net dx && holds v net dy) → fine ≡ opposite o.undefined → Grown 1 mid last → Means last r (λ v. holds v mid both && holds v mid fine)
        → Sees p (cost_in ty right) s (record u { net = last }) (Some (C.binary_type op ty)) o.value.bits r (then_both f g (λ z w. wrapping (both_of ty right z w)))
    both_in ty right c1 c2 g1 gv g2 mb en g3 m =
        let T : (ℕ → Bool) → ℤ = λ v. typed p.model a v s.net xs in
        let U : (ℕ → Bool) → ℤ = λ v. typed p.model b v s.net ys in
        let done : (ℕ → Bool) → Done = λ v. both_of ty right (T v) (U v) in
        let first : (v : ℕ → Bool) → typed p.model ty v u.net us ≡ fit p.model ty (T v) = λ v. typed_added c2.turned.added p.model ty v us c1.bits_in ∙ c1.is v in
        let other : (v : ℕ → Bool) → typed p.model right v u.net ws ≡ fit p.model right (U v) = λ v. c2.is v ∙ ap (fit p.model right) (typed_added c1.turned.added p.model b v ys y.bits_in) in
        let G : C.Gives p.model (C.binary_type op ty) mid o done = gives_grown g2 (gives_as done gv (λ v. ap₂ (apply_of p.model op ty) (first v) (other v))) in
        let up = turned_after p (C.conversion_cost p.model a ty + C.conversion_cost p.model b right) c1.turned c2.turned (omega arith) in
        let mx = means_added (added_of g1) (means_added up.added x.defined) in
        let my = means_added (added_of g1) (means_added up.added y.defined) in
        answered_sees (cost_in ty right) s u mid last (C.binary_type op ty) o done both fine r (λ v. is_some (f v) && is_some (g v)) (then_both f g (λ z w. wrapping (both_of ty right z w)))
        up (grown_then (C.binary_cost p.model op ty) 1 (C.binary_cost p.model op ty + 1) u.net net mid g1 g2 (omega arith)) G
        (and_of {a = dx} {b = dy} {f = λ v. is_some (f v)} {g = λ v. is_some (g v)} mb mx my) en g3 m
        (λ v. two_some (f v) (g v) (both_of ty right) (T v) (U v) (x.is v) (y.is v)) (λ v w. two_value (f v) (g v) (both_of ty right) (T v) (U v) w (x.is v) (y.is v)) (omega arith)

    pub both_sees : (ty right : IntType) → ty ≡ type_for p.model op a b → right ≡ right_type_for op ty b
        → Reckoned p (C.conversion_cost p.model a ty) s t ty us (λ v. fit p.model ty (typed p.model a v s.net xs))
        → Reckoned p (C.conversion_cost p.model b right) t u right ws (λ v. fit p.model right (typed p.model b v t.net ys))
        → Grown (C.binary_cost p.model op ty) u.net net → C.Gives p.model (C.binary_type op ty) net o (λ v. apply_of p.model op ty (typed p.model ty v u.net us) (typed p.model right v u.net ws))
        → Grown 1 net mid → Means mid both (λ v. holds v net dx && holds v net dy) → fine ≡ opposite o.undefined → Grown 1 mid last → Means last r (λ v. holds v mid both && holds v mid fine)
        → Sees p (both_weight p.model op a b) s (record u { net = last }) (Some (C.binary_type op (type_for p.model op a b))) o.value.bits r (then_both f g (λ z w. operated p op a z b w))
    both_sees ty right e q c1 c2 g1 gv g2 mb en g3 m =
        subst (λ k. Sees p (cost_in k (right_type_for op k b)) s (record u { net = last }) (Some (C.binary_type op k)) o.value.bits r (then_both f g (λ z w. wrapping (both_of k (right_type_for op k b) z w)))) e
        (subst (λ k. Sees p (cost_in ty k) s (record u { net = last }) (Some (C.binary_type op ty)) o.value.bits r (then_both f g (λ z w. wrapping (both_of ty k z w)))) q (both_in ty right c1 c2 g1 gv g2 mb en g3 m))
