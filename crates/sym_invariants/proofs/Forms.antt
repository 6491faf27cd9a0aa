-- Expressions, form by form: what the calls of the code promise of the parts, put together, is what is promised of the whole.
use Rattle.std.proofs.Common.{◌≡◌, ℕ, ◌+◌, ◌≤◌, ◌<◌, ◌^◌, Bool, true, false, not, ◌&&◌, ℤ, List, length, refl, sym, ◌∙◌, ap, ap₂, subst, arith, Option, Some, None, IsTrue, is_some, slice_get}
use Rattle.c_core.specs.Tree.{Program, Exp, Expr, Node, Const, Var, Index, Unary, Cast, Binary, Logic, Choose, Comma, Exps, NoExp, MoreExp}
use Rattle.c_core.specs.Types.{fit, promote_of, in_range, is_zero}
use Rattle.c_core.specs.Operators.{type_for, right_type_for}
use Rattle.c_core.specs.Parts.{type_of as type_if}
use Rattle.c_core.specs.Typing.{is_typed, node_fits, has_value, is_choice, is_type, is_constant, same_type}
use Rattle.c_core.specs.declared.number.DataModel.{DataModel}
use Rattle.c_core.specs.declared.number.IntType.{IntType}
use Rattle.c_core.specs.declared.number.IntType.TheVariants.{Bool as BoolType, Int}
use Rattle.c_core.specs.declared.number.BinOp.{BinOp}
use Rattle.c_core.specs.declared.number.UnOp.{UnOp}
use Rattle.c_core.specs.declared.number.UnOp.TheVariants.{Plus, Neg, BitNot, Not}
use Rattle.c_core.specs.declared.number.Spot.{Spot}
use Rattle.c_meaning.specs.Cells.{Cell}
use Rattle.c_meaning.specs.Objects.{type_of, type_or_int, type_of_object}
use Rattle.c_meaning.specs.Related.{given_by_one}
use Rattle.c_meaning.specs.Value.{and_then, value_of, operated, operated_one, of_logic, as_type, converted, seen_at, seen_in, seen_in_row}
use Rattle.c_meaning.proofs.TypeFacts.{both, neither, some_type, the_type, one_result, scalar_type, unary_types, binary_types}
use Rattle.c_meaning.proofs.Valued.{index_gives, unary_gives, binary_gives, logic_gives, choice_gives, comma_gives, cast_gives}
use Rattle.circuits.specs.declared.net.Bit.{Bit}
use Rattle.circuits.specs.declared.net.NetNode.{NetNode}
use Rattle.circuits.specs.Net.{holds, Grown, Means}
use Rattle.circuits.specs.Numbers.{typed, AreTyped}
use Rattle.circuits.specs.Outcome.{conversion_cost, binary_type, one_type}
use Rattle.circuits.proofs.Multiplied.{width_few}
use Rattle.sym_state.specs.declared.state.Sym.{Sym}
use Rattle.sym_state.specs.Standing.{stand, IsState, Turned}
use Rattle.sym_state.specs.Following.{AreOf}
use Rattle.sym_state.specs.Places.{key}
use Rattle.sym_state.proofs.Nets.{unchanged, longer_by}
use Rattle.sym_values.specs.Valuing.{Decided}
use Rattle.sym_weight.specs.Table.{conversion_to, chosen, element, tested}
use Rattle.sym_invariants.specs.Valued.{Perhaps, IsSeen, Sees, then_value, then_both, logic_in, choice_in, side_type, element_cost, row_element_cost, one_weight, both_weight, logic_weight, weight_of, value_in, Ready, SeesExpression, ReadyToTest, Holds}
use Rattle.sym_exprs.proofs.Costs.{conversion_costs, test_costs, operator_costs, unary_costs}
use Rattle.sym_exprs.proofs.Typed.{index_type, first_index_parts, second_index_parts}
use Rattle.sym_invariants.proofs.Deciding.{truth_decides}
use Rattle.sym_invariants.proofs.Sides.{then_itself}
use Rattle.sym_invariants.proofs.Seeing.{void_some, seen_as, seen_typed, seen_added, turned_after, turned_within, same_cells}

type_or : (e : Exp) → type_or_int (type_if e) ≡ type_of e
type_or (Expr spot ty node) = refl

has_one : (e : Exp) → IsTrue (has_value e) → type_if e ≡ Some (type_of e)
has_one (Expr spot ty node) h = some_type ty h

one_given : (op : UnOp) (ty : IntType) → given_by_one op ty ≡ one_type op ty
one_given Plus ty = refl
one_given Neg ty = refl
one_given BitNot ty = refl
one_given Not ty = refl

module _ (p : Program) where
  parts : (spot : Spot) (ty : Option IntType) (n : Node) (rest : Bool) → IsTrue (node_fits p ty n && rest) → IsTrue (node_fits p ty n) × IsTrue rest
  parts spot ty n rest h = both (node_fits p ty n) rest h

  -- ---- a part can be evaluated, first or behind others

  pub first_ready : {s : Sym} (e a : Exp) → Ready p s e → IsTrue (is_typed p a) → weight_of p a ≤ weight_of p e → Ready p s a
  first_ready e a r g h = record { fits = r.fits; types = g; room = omega (arith, h, r.room) }

  pub next_ready : {s m : Sym} {k : ℕ} (e b : Exp) → Ready p s e → Turned p k 0 s m (λ v z. z) → IsTrue (is_typed p b) → k + weight_of p b ≤ weight_of p e → Ready p m b
  next_ready e b r x g h = record { fits = x.fits; types = g; room = omega (arith, (longer_by x.added).1, h, r.room) }

  -- a value in its type
  in_type : {s m : Sym} {bits : List Bit} {d : Bit} (a : Exp) (t : IntType) → type_if a ≡ Some t → SeesExpression p a s m bits d → IsSeen p.model (Some t) m.net bits d (value_in p s a)
  in_type a t e x = seen_typed p.model e x.seen

  -- a part behind others sees the cells that they saw
  behind : {k : ℕ} {s x m : Sym} {bits : List Bit} {d : Bit} (b : Exp) → Turned p k 0 s x (λ v z. z) → SeesExpression p b x m bits d → IsSeen p.model (type_if b) m.net bits d (value_in p s b)
  behind {s = s} b y g = seen_as p.model (value_in p s b) g.seen (λ v. ap (value_of p b) (same_cells p y v))

  -- the value doesn't matter
  void_seen : {ty : Option IntType} {net : List NetNode} {bits : List Bit} {d : Bit} {f : Perhaps} → IsSeen p.model ty net bits d f → IsSeen p.model None net bits d f
  void_seen {f = f} x = record { bits_in = tt; defined = x.defined; is = λ v. void_some (f v) }

  -- a side of `?:` of a type, or of a void one
  as_side : {net : List NetNode} {bits : List Bit} {d : Bit} {f : Perhaps} (ty : Option IntType) (e : Exp) → ((to : IntType) → ty ≡ Some to → type_if e ≡ Some (type_of e)) → IsSeen p.model (type_if e) net bits d f
      → IsSeen p.model (side_type ty (type_of e)) net bits d f
  as_side None e h x = void_seen x
  as_side (Some to) e h x = seen_typed p.model (h to refl) x

  -- what is made of the parts is the value of the whole
  whole : {k : ℕ} {s m : Sym} {ty : Option IntType} {bits : List Bit} {d : Bit} {f : Perhaps} (e : Exp) → Sees p k s m ty bits d f → k ≤ weight_of p e → ty ≡ type_if e → ((v : ℕ → Bool) → f v ≡ value_in p s e v) → SeesExpression p e s m bits d
  whole {s = s} e x h q g = record { turned = turned_within p (weight_of p e) x.turned h; seen = seen_as p.model (value_in p s e) (seen_typed p.model q x.seen) g }

  -- without a circuit
  still : {s : Sym} {ty : Option IntType} {bits : List Bit} {d : Bit} {f : Perhaps} → IsState p s → IsSeen p.model ty s.net bits d f → Sees p 0 s s ty bits d f
  still {s} h x = record { turned = record { fits = h; added = unchanged 0 s.net; level = refl; result = refl; is = λ v. refl }; seen = x }

  -- of a type that isn't void, or of none
  typed_or_void : {net : List NetNode} {bits : List Bit} {d : Bit} {f : Perhaps} (ty : Option IntType) → IsSeen p.model (Some (type_or_int ty)) net bits d f → IsSeen p.model ty net bits d f
  typed_or_void None x = void_seen x
  typed_or_void (Some t) x = x

  -- ---- constants, scalar objects, and what has no value

  const_type : (ty : Option IntType) (z : ℤ) → IsTrue (is_constant p.model ty z) → IsTrue (in_range p.model (type_or_int ty) z)
  const_type None z h = neither h
  const_type (Some t) z h = (both (same_type t (promote_of t)) (in_range p.model t z) h).1

  pub const_fits : (s : Sym) (spot : Spot) (ty : Option IntType) (z : ℤ) (t : IntType) → t ≡ type_or_int ty → Ready p s (Expr spot ty (Const z)) → IsTrue (in_range p.model t z)
  const_fits s spot ty z t e h = subst (λ k. IsTrue (in_range p.model k z)) (sym e) (const_type ty z (both (node_fits p ty (Const z)) true h.types).0)

  pub const_sees : (s : Sym) (bits : List Bit) (d : Bit) (spot : Spot) (ty : Option IntType) (z : ℤ) (t : IntType) → t ≡ type_or_int ty → Ready p s (Expr spot ty (Const z)) → IsSeen p.model (Some t) s.net bits d (λ v. Some z)
      → SeesExpression p (Expr spot ty (Const z)) s s bits d
  const_sees s bits d spot ty z t e h x = whole (Expr spot ty (Const z)) (still h.fits (typed_or_void ty (seen_typed p.model (ap Some e) x))) (omega arith) refl (λ v. refl)

  pub scalar_typed : (s : Sym) (spot : Spot) (ty : Option IntType) (o : ℕ) (t : IntType) → t ≡ type_or_int ty → Ready p s (Expr spot ty (Var o)) → t ≡ type_of_object p o
  scalar_typed s spot ty o t e h = e ∙ ap type_or_int (sym (scalar_type ty (slice_get p.objects o) (both (node_fits p ty (Var o)) true h.types).0))

  pub var_sees : (s : Sym) (bits : List Bit) (d : Bit) (spot : Spot) (ty : Option IntType) (o : ℕ) (t : IntType) → t ≡ type_or_int ty → Ready p s (Expr spot ty (Var o)) → IsSeen p.model (Some t) s.net bits d (λ v. seen_at p (key o 0) (stand p v s).cells)
      → SeesExpression p (Expr spot ty (Var o)) s s bits d
  var_sees s bits d spot ty o t e h x = whole (Expr spot ty (Var o)) (still h.fits (typed_or_void ty (seen_typed p.model (ap Some e) x))) (omega arith) refl (λ v. refl)

  pub none_sees : (s : Sym) (bits : List Bit) (d : Bit) (spot : Spot) (ty : Option IntType) (n : Node) (t : IntType) → t ≡ type_or_int ty → IsState p s → ((cs : List Cell) → value_of p (Expr spot ty n) cs ≡ None)
      → IsSeen p.model (Some t) s.net bits d (λ v. None) → SeesExpression p (Expr spot ty n) s s bits d
  none_sees s bits d spot ty n t e h none x = whole (Expr spot ty n) (still h (typed_or_void ty (seen_typed p.model (ap Some e) x))) (omega arith) refl (λ v. sym (none (stand p v s).cells))

  -- ---- elements

  pub element_first : {s : Sym} (spot : Spot) (ty : Option IntType) (o : ℕ) (i : Exp) (is : Exps) → Ready p s (Expr spot ty (Index o (MoreExp i is))) → Ready p s i
  element_first spot ty o i is h = first_ready (Expr spot ty (Index o (MoreExp i is))) i h (first_index_parts p spot ty o i is h.types).1 (omega arith)

  module _ (spot : Spot) (ty : Option IntType) (o : ℕ) (i : Exp) where
    abbrev one : Exp
    one = Expr spot ty (Index o (MoreExp i NoExp))

    index_has : {s : Sym} → Ready p s one → type_if i ≡ Some (type_of i)
    index_has h = has_one i (first_index_parts p spot ty o i NoExp h.types).0

    element_costs : (from : IntType) → element_cost p from o ≤ element p o (MoreExp i NoExp)
    element_costs from = omega (arith, width_few p.model from)

    pub element_side : {s x : Sym} {xs : List Bit} {d : Bit} (from : IntType) → from ≡ type_of i → Ready p s one → SeesExpression p i s x xs d → AreTyped p.model from x.net xs × (d.node < length x.net) × (length x.net + element_cost p from o < 2 ^ 27)
    element_side {s} {x} {xs} from e h g = (
      rw e (in_type i (type_of i) (index_has h) g).bits_in,
      g.seen.defined.inside,
      omega (arith, element_costs from, (longer_by g.turned.added).1, h.room),
    )

    pub element_step : {s x m : Sym} {xs rs : List Bit} {d r : Bit} (from : IntType) → from ≡ type_of i → Ready p s one → SeesExpression p i s x xs d
        → ((f : Perhaps) → IsSeen p.model (Some from) x.net xs d f → Sees p (element_cost p from o) x m (Some (type_of_object p o)) rs r (λ v. and_then (f v) (λ j. seen_in p o j (stand p v x).cells))) → SeesExpression p one s m rs r
    element_step {s} {x} {m} {xs} {rs} {d} {r} from e h g k =
        let q = k (value_in p s i) (seen_typed p.model (ap Some (sym e)) (in_type i (type_of i) (index_has h) g)) in
        whole one (record { turned = turned_after p (weight_of p i + element_cost p from o) g.turned q.turned (omega arith); seen = q.seen }) (omega (arith, element_costs from)) (index_type p spot ty o (MoreExp i NoExp) h.types)
        (λ v. ap (λ cs. and_then (value_in p s i v) (λ j. seen_in p o j cs)) (same_cells p g.turned v) ∙ sym (index_gives p spot ty (stand p v s).cells o (MoreExp i NoExp)))

  module _ (spot : Spot) (ty : Option IntType) (o : ℕ) (a b : Exp) where
    abbrev two : Exp
    two = Expr spot ty (Index o (MoreExp a (MoreExp b NoExp)))

    row_has : {s : Sym} → Ready p s two → (type_if a ≡ Some (type_of a)) × (type_if b ≡ Some (type_of b))
    row_has h = (has_one a (first_index_parts p spot ty o a (MoreExp b NoExp) h.types).0, has_one b (second_index_parts p spot ty o a b NoExp h.types).0)

    row_costs : (row column : IntType) → row_element_cost p row column o ≤ element p o (MoreExp a (MoreExp b NoExp))
    row_costs row column = omega (arith, width_few p.model row, width_few p.model column)

    pub row_next : {s x : Sym} {xs : List Bit} {d : Bit} → Ready p s two → SeesExpression p a s x xs d → Ready p x b
    row_next h ga = next_ready two b h ga.turned (second_index_parts p spot ty o a b NoExp h.types).1 (omega arith)

    row_seen : {s x y : Sym} {xs ys : List Bit} {d e : Bit} → Ready p s two → SeesExpression p a s x xs d → SeesExpression p b x y ys e → IsSeen p.model (Some (type_of a)) y.net xs d (value_in p s a) × IsSeen p.model (Some (type_of b)) y.net ys e (value_in p s b)
    row_seen h ga gb = (seen_added p.model (Some (type_of a)) gb.turned.added (in_type a (type_of a) (row_has h).0 ga), seen_typed p.model (row_has h).1 (behind b ga.turned gb))

    pub row_sides : {s x y : Sym} {xs ys : List Bit} {d e : Bit} (ta tb : IntType) → ta ≡ type_of a → tb ≡ type_of b → Ready p s two → SeesExpression p a s x xs d → SeesExpression p b x y ys e
        → AreTyped p.model ta y.net xs × AreTyped p.model tb y.net ys × (length y.net + row_element_cost p ta tb o < 2 ^ 27)
    row_sides {s} {x} {y} {xs} {ys} ta tb ea eb h ga gb =
        let g = row_seen h ga gb in
        (rw ea g.0.bits_in, rw eb g.1.bits_in, omega (arith, row_costs ta tb, (longer_by ga.turned.added).1, (longer_by gb.turned.added).1, h.room))

    pub row_defined : {s x y : Sym} {xs ys : List Bit} {d e : Bit} → Ready p s two → SeesExpression p a s x xs d → SeesExpression p b x y ys e → d.node < length y.net
    row_defined h ga gb = (row_seen h ga gb).0.defined.inside

    pub row_step : {s x y m : Sym} {xs ys rs : List Bit} {d e r : Bit} (ta tb : IntType) → ta ≡ type_of a → tb ≡ type_of b → Ready p s two → SeesExpression p a s x xs d → SeesExpression p b x y ys e
        → ((f g : Perhaps) → IsSeen p.model (Some ta) y.net xs d f → IsSeen p.model (Some tb) y.net ys e g → Sees p (row_element_cost p ta tb o) y m (Some (type_of_object p o)) rs r (λ v. and_then (f v) (λ z. and_then (g v) (λ w. seen_in_row p o z w (stand p v y).cells))))
        → SeesExpression p two s m rs r
    row_step {s} {x} {y} {m} {xs} {ys} {rs} {d} {e} {r} ta tb ea eb h ga gb k =
        let i = row_seen h ga gb in
        let g = k (value_in p s a) (value_in p s b) (seen_typed p.model (ap Some (sym ea)) i.0) (seen_typed p.model (ap Some (sym eb)) i.1) in
        let up = turned_after p (weight_of p a + weight_of p b) ga.turned gb.turned (omega arith) in
        whole two (record { turned = turned_after p (weight_of p a + weight_of p b + row_element_cost p ta tb o) up g.turned (omega arith); seen = g.seen }) (omega (arith, row_costs ta tb)) (index_type p spot ty o (MoreExp a (MoreExp b NoExp)) h.types)
        (λ v. ap (λ cs. and_then (value_in p s a v) (λ z. and_then (value_in p s b v) (λ w. seen_in_row p o z w cs))) (same_cells p up v) ∙ sym (index_gives p spot ty (stand p v s).cells o (MoreExp a (MoreExp b NoExp))))

  -- an invariant's bit
  pub holds_step : {s a t : Sym} {net : List NetNode} {xs : List Bit} {d b r : Bit} (e : Exp) (ty : IntType) → ty ≡ type_of e → ReadyToTest p s e → SeesExpression p e s a xs d
      → Decided p (conversion_cost p.model ty BoolType) a t b (λ v. not (is_zero (typed p.model ty v a.net xs))) → Grown 1 t.net net → Means net r (λ v. holds v t.net d && holds v t.net b) → Holds p e s (record t { net = net }) r
  holds_step {s} {a} {t} {net} {xs} {d} {b} {r} e ty et h g c grown m =
      let k = test_costs p.model (type_of e) in
      let q = subst (λ z. Decided p (conversion_cost p.model z BoolType) a t b (λ v. not (is_zero (typed p.model z v a.net xs)))) et c in
      truth_decides p (1 + (weight_of p e + tested p.model e)) (type_of e) s a t net xs d b r (value_in p s e) (record { turned = g.turned; seen = in_type e (type_of e) (has_one e h.value) g }) q grown m (omega (arith, k))

  -- ---- operators

  module _ (spot : Spot) (ty : Option IntType) (op : UnOp) (a : Exp) where
    unary_has : {s : Sym} → Ready p s (Expr spot ty (Unary op a)) → (type_if a ≡ Some (type_of a)) × (Some (one_type op (promote_of (type_of a))) ≡ ty) × IsTrue (is_typed p a)
    unary_has h =
        let g = both (node_fits p ty (Unary op a)) (is_typed p a) h.types in
        let t = unary_types op ty (type_if a) g.0 in
        (t.0 ∙ ap Some (type_or a), ap (λ z. Some (one_type op (promote_of z))) (sym (type_or a)) ∙ ap Some (sym (one_given op (promote_of (type_or_int (type_if a))))) ∙ t.1, g.1)

    pub unary_first : {s : Sym} → Ready p s (Expr spot ty (Unary op a)) → Ready p s a
    unary_first h = first_ready (Expr spot ty (Unary op a)) a h (unary_has h).2 (omega arith)

    pub unary_side : {s x : Sym} {xs : List Bit} {d : Bit} (ta : IntType) → ta ≡ type_of a → Ready p s (Expr spot ty (Unary op a)) → SeesExpression p a s x xs d → AreTyped p.model ta x.net xs × (length x.net + one_weight p.model op ta < 2 ^ 27)
    unary_side {s} {x} {xs} ta ea h ga =
        let c = conversion_costs p.model (type_of a) (promote_of (type_of a)) in
        let k = unary_costs p.model op (promote_of (type_of a)) in
        let room : length x.net + one_weight p.model op (type_of a) < 2 ^ 27 = omega (arith, c, k, (longer_by ga.turned.added).1, h.room) in
        (rw ea (in_type a (type_of a) (unary_has h).0 ga).bits_in, subst (λ z. length x.net + one_weight p.model op z < 2 ^ 27) (sym ea) room)

    pub unary_step : {s x m : Sym} {xs rs : List Bit} {d r : Bit} (ta : IntType) → ta ≡ type_of a → Ready p s (Expr spot ty (Unary op a)) → SeesExpression p a s x xs d
        → ((f : Perhaps) → IsSeen p.model (Some ta) x.net xs d f → Sees p (one_weight p.model op ta) x m (Some (one_type op (promote_of ta))) rs r (then_value f (operated_one p op ta))) → SeesExpression p (Expr spot ty (Unary op a)) s m rs r
    unary_step {s} {x} {m} {xs} {rs} {d} {r} ta ea h ga k =
        let e = Expr spot ty (Unary op a) in
        let c = conversion_costs p.model (type_of a) (promote_of (type_of a)) in
        let u = unary_costs p.model op (promote_of (type_of a)) in
        let g = subst (λ z. (f : Perhaps) → IsSeen p.model (Some z) x.net xs d f → Sees p (one_weight p.model op z) x m (Some (one_type op (promote_of z))) rs r (then_value f (operated_one p op z))) ea k (value_in p s a) (in_type a (type_of a) (unary_has h).0 ga) in
        whole e (record { turned = turned_after p (weight_of p a + one_weight p.model op (type_of a)) ga.turned g.turned (omega arith); seen = g.seen }) (omega (arith, c, u)) (unary_has h).1 (λ v. sym (unary_gives p spot ty (stand p v s).cells op a))

  module _ (spot : Spot) (ty : Option IntType) (a : Exp) where
    cast_typed : {s : Sym} → Ready p s (Expr spot ty (Cast a)) → IsTrue (node_fits p ty (Cast a)) × IsTrue (is_typed p a)
    cast_typed h = both (node_fits p ty (Cast a)) (is_typed p a) h.types

    cast_has : {s : Sym} (to : IntType) → ty ≡ Some to → Ready p s (Expr spot ty (Cast a)) → type_if a ≡ Some (type_of a)
    cast_has to e h = has_one a (subst (λ z. IsTrue (node_fits p z (Cast a))) e (cast_typed h).0)

    pub cast_first : {s : Sym} → Ready p s (Expr spot ty (Cast a)) → Ready p s a
    cast_first h = first_ready (Expr spot ty (Cast a)) a h (cast_typed h).1 (omega arith)

    pub cast_side : {s x : Sym} {xs : List Bit} {d : Bit} (to ta : IntType) → ty ≡ Some to → ta ≡ type_of a → Ready p s (Expr spot ty (Cast a)) → SeesExpression p a s x xs d → AreTyped p.model ta x.net xs
    cast_side to ta e ea h ga = rw ea (in_type a (type_of a) (cast_has to e h) ga).bits_in

    pub cast_step : {s x m : Sym} {xs rs : List Bit} {d r : Bit} (to ta : IntType) → ty ≡ Some to → ta ≡ type_of a → Ready p s (Expr spot ty (Cast a)) → SeesExpression p a s x xs d
        → ((f : Perhaps) → IsSeen p.model (Some ta) x.net xs d f → Sees p (conversion_cost p.model ta to) x m (Some to) rs r (then_value f (λ z. Some (fit p.model to z)))) → SeesExpression p (Expr spot ty (Cast a)) s m rs r
    cast_step {s} {x} {m} {xs} {rs} {d} {r} to ta e ea h ga k =
        let c = conversion_costs p.model (type_of a) to in
        let g = subst (λ z. (f : Perhaps) → IsSeen p.model (Some z) x.net xs d f → Sees p (conversion_cost p.model z to) x m (Some to) rs r (then_value f (λ w. Some (fit p.model to w)))) ea k (value_in p s a) (in_type a (type_of a) (cast_has to e h) ga) in
        let done : SeesExpression p (Expr spot (Some to) (Cast a)) s m rs r =
        whole (Expr spot (Some to) (Cast a)) (record { turned = turned_after p (weight_of p a + conversion_cost p.model (type_of a) to) ga.turned g.turned (omega arith); seen = g.seen }) (omega (arith, c)) refl (λ v. sym (cast_gives p spot (Some to) a (stand p v s).cells)) in
        subst (λ z. SeesExpression p (Expr spot z (Cast a)) s m rs r) (sym e) done

    pub void_step : {s m : Sym} {xs : List Bit} {d : Bit} → ty ≡ None → SeesExpression p a s m xs d → SeesExpression p (Expr spot ty (Cast a)) s m xs d
    void_step {s} {m} {xs} {d} e ga =
        let done : SeesExpression p (Expr spot None (Cast a)) s m xs d =
        whole {f = value_in p s a} (Expr spot None (Cast a)) (record { turned = ga.turned; seen = void_seen ga.seen }) (omega arith) refl (λ v. then_itself (value_in p s a v) ∙ sym (cast_gives p spot None a (stand p v s).cells)) in
        subst (λ z. SeesExpression p (Expr spot z (Cast a)) s m xs d) (sym e) done

  module _ (spot : Spot) (ty : Option IntType) (op : BinOp) (a b : Exp) where
    binary_has : {s : Sym} → Ready p s (Expr spot ty (Binary op a b)) → (type_if a ≡ Some (type_of a)) × (type_if b ≡ Some (type_of b)) × (Some (binary_type op (type_for p.model op (type_of a) (type_of b))) ≡ ty) × IsTrue (is_typed p a) × IsTrue (is_typed p b)
    binary_has h =
        let g = both (node_fits p ty (Binary op a b)) (is_typed p a && is_typed p b) h.types in
        let q = both (is_typed p a) (is_typed p b) g.1 in
        let t = binary_types p.model op ty (type_if a) (type_if b) g.0 in
        (t.0 ∙ ap Some (type_or a), t.1 ∙ ap Some (type_or b), ap₂ (λ w z. Some (binary_type op (type_for p.model op w z))) (sym (type_or a)) (sym (type_or b)) ∙ t.2, q.0, q.1)

    pub binary_first : {s : Sym} → Ready p s (Expr spot ty (Binary op a b)) → Ready p s a
    binary_first h = first_ready (Expr spot ty (Binary op a b)) a h (binary_has h).3 (omega arith)

    pub binary_next : {s x : Sym} {xs : List Bit} {d : Bit} → Ready p s (Expr spot ty (Binary op a b)) → SeesExpression p a s x xs d → Ready p x b
    binary_next h ga = next_ready (Expr spot ty (Binary op a b)) b h ga.turned (binary_has h).4 (omega arith)

    binary_seen : {s x y : Sym} {xs ys : List Bit} {d e : Bit} → Ready p s (Expr spot ty (Binary op a b)) → SeesExpression p a s x xs d → SeesExpression p b x y ys e
        → IsSeen p.model (Some (type_of a)) y.net xs d (value_in p s a) × IsSeen p.model (Some (type_of b)) y.net ys e (value_in p s b)
    binary_seen h ga gb = (seen_added p.model (Some (type_of a)) gb.turned.added (in_type a (type_of a) (binary_has h).0 ga), seen_typed p.model (binary_has h).1 (behind b ga.turned gb))

    pub binary_sides : {s x y : Sym} {xs ys : List Bit} {d e : Bit} (ta tb : IntType) → ta ≡ type_of a → tb ≡ type_of b → Ready p s (Expr spot ty (Binary op a b)) → SeesExpression p a s x xs d → SeesExpression p b x y ys e
        → AreTyped p.model ta y.net xs × AreTyped p.model tb y.net ys × (length y.net + both_weight p.model op ta tb < 2 ^ 27)
    binary_sides {s} {x} {y} {xs} {ys} ta tb ea eb h ga gb =
        let ca = conversion_costs p.model (type_of a) (type_for p.model op (type_of a) (type_of b)) in
        let cb = conversion_costs p.model (type_of b) (right_type_for op (type_for p.model op (type_of a) (type_of b)) (type_of b)) in
        let k = operator_costs p.model op (type_for p.model op (type_of a) (type_of b)) in
        let room : length y.net + both_weight p.model op (type_of a) (type_of b) < 2 ^ 27 = omega (arith, ca, cb, k, (longer_by ga.turned.added).1, (longer_by gb.turned.added).1, h.room) in
        let g = binary_seen h ga gb in
        (rw ea g.0.bits_in, rw eb g.1.bits_in, subst (λ z. length y.net + both_weight p.model op z tb < 2 ^ 27) (sym ea) (subst (λ z. length y.net + both_weight p.model op (type_of a) z < 2 ^ 27) (sym eb) room))

    pub binary_defined : {s x y : Sym} {xs ys : List Bit} {d e : Bit} → Ready p s (Expr spot ty (Binary op a b)) → SeesExpression p a s x xs d → SeesExpression p b x y ys e → d.node < length y.net
    binary_defined h ga gb = (binary_seen h ga gb).0.defined.inside

    pub binary_step : {s x y m : Sym} {xs ys rs : List Bit} {d e r : Bit} (ta tb : IntType) → ta ≡ type_of a → tb ≡ type_of b → Ready p s (Expr spot ty (Binary op a b)) → SeesExpression p a s x xs d → SeesExpression p b x y ys e
        → ((f g : Perhaps) → IsSeen p.model (Some ta) y.net xs d f → IsSeen p.model (Some tb) y.net ys e g → Sees p (both_weight p.model op ta tb) y m (Some (binary_type op (type_for p.model op ta tb))) rs r (then_both f g (λ z w. operated p op ta z tb w)))
        → SeesExpression p (Expr spot ty (Binary op a b)) s m rs r
    binary_step {s} {x} {y} {m} {xs} {ys} {rs} {d} {e} {r} ta tb ea eb h ga gb k =
        let ca = conversion_costs p.model (type_of a) (type_for p.model op (type_of a) (type_of b)) in
        let cb = conversion_costs p.model (type_of b) (right_type_for op (type_for p.model op (type_of a) (type_of b)) (type_of b)) in
        let u = operator_costs p.model op (type_for p.model op (type_of a) (type_of b)) in
        let i = binary_seen h ga gb in
        let k1 = subst (λ z. (f g : Perhaps) → IsSeen p.model (Some z) y.net xs d f → IsSeen p.model (Some tb) y.net ys e g → Sees p (both_weight p.model op z tb) y m (Some (binary_type op (type_for p.model op z tb))) rs r (then_both f g (λ v w. operated p op z v tb w))) ea k in
        let k2 = subst (λ z. (f g : Perhaps) → IsSeen p.model (Some (type_of a)) y.net xs d f → IsSeen p.model (Some z) y.net ys e g → Sees p (both_weight p.model op (type_of a) z) y m (Some (binary_type op (type_for p.model op (type_of a) z))) rs r (then_both f g (λ v w. operated p op (type_of a) v z w))) eb k1 in
        let g = k2 (value_in p s a) (value_in p s b) i.0 i.1 in
        let up = turned_after p (weight_of p a + weight_of p b) ga.turned gb.turned (omega arith) in
        whole (Expr spot ty (Binary op a b)) (record { turned = turned_after p (weight_of p a + weight_of p b + both_weight p.model op (type_of a) (type_of b)) up g.turned (omega arith); seen = g.seen }) (omega (arith, ca, cb, u)) (binary_has h).2
        (λ v. sym (binary_gives p spot ty (stand p v s).cells op a b))

  module _ (spot : Spot) (ty : Option IntType) (k : Bool) (a b : Exp) where
    logic_has : {s : Sym} → Ready p s (Expr spot ty (Logic k a b)) → (type_if a ≡ Some (type_of a)) × (type_if b ≡ Some (type_of b)) × (Some Int ≡ ty) × IsTrue (is_typed p a) × IsTrue (is_typed p b)
    logic_has h =
        let g = both (node_fits p ty (Logic k a b)) (is_typed p a && is_typed p b) h.types in
        let q = both (is_typed p a) (is_typed p b) g.1 in
        let t = both (has_value a) (has_value b && is_type Int ty) g.0 in
        let u = both (has_value b) (is_type Int ty) t.1 in
        (has_one a t.0, has_one b u.0, the_type Int ty u.1, q.0, q.1)

    pub logic_first : {s : Sym} → Ready p s (Expr spot ty (Logic k a b)) → Ready p s a
    logic_first h = first_ready (Expr spot ty (Logic k a b)) a h (logic_has h).3 (omega arith)

    pub logic_next : {s x : Sym} {xs : List Bit} {d : Bit} → Ready p s (Expr spot ty (Logic k a b)) → SeesExpression p a s x xs d → Ready p x b
    logic_next h ga = next_ready (Expr spot ty (Logic k a b)) b h ga.turned (logic_has h).4 (omega arith)

    logic_seen : {s x y : Sym} {xs ys : List Bit} {d e : Bit} → Ready p s (Expr spot ty (Logic k a b)) → SeesExpression p a s x xs d → SeesExpression p b x y ys e
        → IsSeen p.model (Some (type_of a)) y.net xs d (value_in p s a) × IsSeen p.model (Some (type_of b)) y.net ys e (value_in p s b)
    logic_seen h ga gb = (seen_added p.model (Some (type_of a)) gb.turned.added (in_type a (type_of a) (logic_has h).0 ga), seen_typed p.model (logic_has h).1 (behind b ga.turned gb))

    pub logic_sides : {s x y : Sym} {xs ys : List Bit} {d e : Bit} (ta tb : IntType) → ta ≡ type_of a → tb ≡ type_of b → Ready p s (Expr spot ty (Logic k a b)) → SeesExpression p a s x xs d → SeesExpression p b x y ys e
        → AreTyped p.model ta y.net xs × AreTyped p.model tb y.net ys × (length y.net + logic_weight p.model ta tb < 2 ^ 27)
    logic_sides {s} {x} {y} {xs} {ys} ta tb ea eb h ga gb =
        let ca = test_costs p.model (type_of a) in
        let cb = test_costs p.model (type_of b) in
        let room : length y.net + logic_weight p.model (type_of a) (type_of b) < 2 ^ 27 = omega (arith, ca, cb, (longer_by ga.turned.added).1, (longer_by gb.turned.added).1, h.room) in
        let g = logic_seen h ga gb in
        (rw ea g.0.bits_in, rw eb g.1.bits_in, subst (λ z. length y.net + logic_weight p.model z tb < 2 ^ 27) (sym ea) (subst (λ z. length y.net + logic_weight p.model (type_of a) z < 2 ^ 27) (sym eb) room))

    pub logic_defined : {s x y : Sym} {xs ys : List Bit} {d e : Bit} → Ready p s (Expr spot ty (Logic k a b)) → SeesExpression p a s x xs d → SeesExpression p b x y ys e → d.node < length y.net
    logic_defined h ga gb = (logic_seen h ga gb).0.defined.inside

    logic_as : (j : Bool) (cs : List Cell) → logic_in j (value_of p a cs) (value_of p b cs) ≡ of_logic p j a b cs
    logic_as true cs = refl
    logic_as false cs = refl

    pub logic_step : {s x y m : Sym} {xs ys rs : List Bit} {d e r : Bit} (ta tb : IntType) → ta ≡ type_of a → tb ≡ type_of b → Ready p s (Expr spot ty (Logic k a b)) → SeesExpression p a s x xs d → SeesExpression p b x y ys e
        → ((f g : Perhaps) → IsSeen p.model (Some ta) y.net xs d f → IsSeen p.model (Some tb) y.net ys e g → Sees p (logic_weight p.model ta tb) y m (Some Int) rs r (λ v. logic_in k (f v) (g v))) → SeesExpression p (Expr spot ty (Logic k a b)) s m rs r
    logic_step {s} {x} {y} {m} {xs} {ys} {rs} {d} {e} {r} ta tb ea eb h ga gb q =
        let ca = test_costs p.model (type_of a) in
        let cb = test_costs p.model (type_of b) in
        let i = logic_seen h ga gb in
        let q1 = subst (λ z. (f g : Perhaps) → IsSeen p.model (Some z) y.net xs d f → IsSeen p.model (Some tb) y.net ys e g → Sees p (logic_weight p.model z tb) y m (Some Int) rs r (λ v. logic_in k (f v) (g v))) ea q in
        let q2 = subst (λ z. (f g : Perhaps) → IsSeen p.model (Some (type_of a)) y.net xs d f → IsSeen p.model (Some z) y.net ys e g → Sees p (logic_weight p.model (type_of a) z) y m (Some Int) rs r (λ v. logic_in k (f v) (g v))) eb q1 in
        let g = q2 (value_in p s a) (value_in p s b) i.0 i.1 in
        let up = turned_after p (weight_of p a + weight_of p b) ga.turned gb.turned (omega arith) in
        whole (Expr spot ty (Logic k a b)) (record { turned = turned_after p (weight_of p a + weight_of p b + logic_weight p.model (type_of a) (type_of b)) up g.turned (omega arith); seen = g.seen }) (omega (arith, ca, cb)) (logic_has h).2
        (λ v. logic_as k (stand p v s).cells ∙ sym (logic_gives p spot ty (stand p v s).cells k a b))

  module _ (spot : Spot) (ty : Option IntType) (a b : Exp) where
    comma_has : {s : Sym} → Ready p s (Expr spot ty (Comma a b)) → (type_if b ≡ ty) × IsTrue (is_typed p a) × IsTrue (is_typed p b)
    comma_has h =
        let g = both (node_fits p ty (Comma a b)) (is_typed p a && is_typed p b) h.types in
        let q = both (is_typed p a) (is_typed p b) g.1 in
        (one_result (type_if b) ty g.0, q.0, q.1)

    pub comma_first : {s : Sym} → Ready p s (Expr spot ty (Comma a b)) → Ready p s a
    comma_first h = first_ready (Expr spot ty (Comma a b)) a h (comma_has h).1 (omega arith)

    pub comma_next : {s x : Sym} {xs : List Bit} {d : Bit} → Ready p s (Expr spot ty (Comma a b)) → SeesExpression p a s x xs d → Ready p x b
    comma_next h ga = next_ready (Expr spot ty (Comma a b)) b h ga.turned (comma_has h).2 (omega arith)

    comma_seen : {s x y : Sym} {xs ys : List Bit} {d e : Bit} → SeesExpression p a s x xs d → SeesExpression p b x y ys e → IsSeen p.model (type_if a) y.net xs d (value_in p s a) × IsSeen p.model (type_if b) y.net ys e (value_in p s b)
    comma_seen ga gb = (seen_added p.model (type_if a) gb.turned.added ga.seen, behind b ga.turned gb)

    pub comma_defined : {s x y : Sym} {xs ys : List Bit} {d e : Bit} → SeesExpression p a s x xs d → SeesExpression p b x y ys e → d.node < length y.net
    comma_defined ga gb = (comma_seen ga gb).0.defined.inside

    pub comma_room : {s x y : Sym} {xs ys : List Bit} {d e : Bit} → Ready p s (Expr spot ty (Comma a b)) → SeesExpression p a s x xs d → SeesExpression p b x y ys e → length y.net < 2 ^ 28
    comma_room h ga gb = omega (arith, (longer_by ga.turned.added).1, (longer_by gb.turned.added).1, h.room)

    pub comma_step : {s x y m : Sym} {xs ys rs : List Bit} {d e r : Bit} → Ready p s (Expr spot ty (Comma a b)) → SeesExpression p a s x xs d → SeesExpression p b x y ys e
        → ((t u : Option IntType) (f g : Perhaps) → IsSeen p.model t y.net xs d f → IsSeen p.model u y.net ys e g → Sees p 1 y m u rs r (then_both f g (λ z w. Some w))) → SeesExpression p (Expr spot ty (Comma a b)) s m rs r
    comma_step {s} {x} {y} {m} {xs} {ys} {rs} {d} {e} {r} h ga gb k =
        let i = comma_seen ga gb in
        let g = k (type_if a) (type_if b) (value_in p s a) (value_in p s b) i.0 i.1 in
        let up = turned_after p (weight_of p a + weight_of p b) ga.turned gb.turned (omega arith) in
        whole (Expr spot ty (Comma a b)) (record { turned = turned_after p (weight_of p a + weight_of p b + 1) up g.turned (omega arith); seen = g.seen }) (omega arith) (comma_has h).0
        (λ v. (λ i. and_then (value_in p s a v) (λ z. sym (then_itself (value_in p s b v)) i)) ∙ sym (comma_gives p spot ty (stand p v s).cells a b))

  -- ---- `?:`

  arms : (m : DataModel) (to : IntType) (x y : Option IntType) → IsTrue (is_choice m (Some to) x y) → IsTrue (is_some x) × IsTrue (is_some y)
  arms m to None y h = neither h
  arms m to (Some x) None h = neither h
  arms m to (Some x) (Some y) h = (refl, refl)

  module _ (spot mark : Spot) (ty : Option IntType) (c a b : Exp) where
    abbrev choice : Exp
    choice = Expr spot ty (Choose mark c a b)

    choice_has : {s : Sym} → Ready p s choice → (type_if c ≡ Some (type_of c)) × IsTrue (is_choice p.model ty (type_if a) (type_if b)) × IsTrue (is_typed p c) × IsTrue (is_typed p a) × IsTrue (is_typed p b)
    choice_has h =
        let g = both (node_fits p ty (Choose mark c a b)) (is_typed p c && (is_typed p a && is_typed p b)) h.types in
        let t = both (has_value c) (is_choice p.model ty (type_if a) (type_if b)) g.0 in
        let q = both (is_typed p c) (is_typed p a && is_typed p b) g.1 in
        let r = both (is_typed p a) (is_typed p b) q.1 in
        (has_one c t.0, t.1, q.0, r.0, r.1)

    pub choice_first : {s : Sym} → Ready p s choice → Ready p s c
    choice_first h = first_ready choice c h (choice_has h).2 (omega arith)

    module _ {s z : Sym} {es : List Bit} {de : Bit} (h : Ready p s choice) (gc : SeesExpression p c s z es de) where
      pub choice_yes : Ready p z a
      choice_yes = next_ready choice a h gc.turned (choice_has h).3 (omega arith)

      module _ {x : Sym} {xs : List Bit} {dx : Bit} (ga : SeesExpression p a z x xs dx) where
        choice_two : Turned p (weight_of p c + weight_of p a) 0 s x (λ v z. z)
        choice_two = turned_after p (weight_of p c + weight_of p a) gc.turned ga.turned (omega arith)

        pub choice_no : Ready p x b
        choice_no = next_ready choice b h choice_two (choice_has h).4 (omega arith)

        module _ {y : Sym} {ys : List Bit} {dy : Bit} (gb : SeesExpression p b x y ys dy) where
          choice_three : Turned p (weight_of p c + weight_of p a + weight_of p b) 0 s y (λ v z. z)
          choice_three = turned_after p (weight_of p c + weight_of p a + weight_of p b) choice_two gb.turned (omega arith)

          test_seen : IsSeen p.model (Some (type_of c)) y.net es de (value_in p s c)
          test_seen = seen_added p.model (Some (type_of c)) gb.turned.added (seen_added p.model (Some (type_of c)) ga.turned.added (in_type c (type_of c) (choice_has h).0 gc))

          yes_seen : IsSeen p.model (type_if a) y.net xs dx (value_in p s a)
          yes_seen = seen_added p.model (type_if a) gb.turned.added (behind a gc.turned ga)

          no_seen : IsSeen p.model (type_if b) y.net ys dy (value_in p s b)
          no_seen = behind b choice_two gb

          arms_of : (to : IntType) → ty ≡ Some to → IsTrue (is_some (type_if a)) × IsTrue (is_some (type_if b))
          arms_of to e = arms p.model to (type_if a) (type_if b) (subst (λ z. IsTrue (is_choice p.model z (type_if a) (type_if b))) e (choice_has h).1)

          yes_side : IsSeen p.model (side_type ty (type_of a)) y.net xs dx (value_in p s a)
          yes_side = as_side ty a (λ to e. has_one a (arms_of to e).0) yes_seen

          no_side : IsSeen p.model (side_type ty (type_of b)) y.net ys dy (value_in p s b)
          no_side = as_side ty b (λ to e. has_one b (arms_of to e).1) no_seen

          pub yes_in : (ta : IntType) → ta ≡ type_of a → AreOf p.model (side_type ty ta) y.net xs × (length y.net < 2 ^ 28)
          yes_in ta ea = (subst (λ t. AreOf p.model (side_type ty t) y.net xs) (sym ea) yes_side.bits_in, omega (arith, (longer_by choice_three.added).1, h.room))

          module _ {u : Sym} {us : List Bit} {du : Bit} (ta : IntType) (ea : ta ≡ type_of a)
              (ku : (f : Perhaps) → IsSeen p.model (side_type ty ta) y.net xs dx f → Sees p (conversion_to p.model ty ta) y u ty us du (then_value f (λ z. Some (converted p ty z)))) where
            yes_made : Sees p (conversion_to p.model ty (type_of a)) y u ty us du (λ v. as_type p ty a (stand p v s).cells)
            yes_made = subst (λ t. (f : Perhaps) → IsSeen p.model (side_type ty t) y.net xs dx f → Sees p (conversion_to p.model ty t) y u ty us du (then_value f (λ z. Some (converted p ty z)))) ea ku (value_in p s a) yes_side

            pub yes_fits : IsState p u
            yes_fits = yes_made.turned.fits

            choice_four : Turned p (weight_of p c + weight_of p a + weight_of p b + conversion_to p.model ty (type_of a)) 0 s u (λ v z. z)
            choice_four = turned_after p _ choice_three yes_made.turned (omega arith)

            no_there : IsSeen p.model (side_type ty (type_of b)) u.net ys dy (value_in p s b)
            no_there = seen_added p.model (side_type ty (type_of b)) yes_made.turned.added no_side

            pub no_in : (tb : IntType) → tb ≡ type_of b → AreOf p.model (side_type ty tb) u.net ys × (length u.net < 2 ^ 28)
            no_in tb eb = (subst (λ t. AreOf p.model (side_type ty t) u.net ys) (sym eb) no_there.bits_in, omega (arith, (longer_by choice_four.added).1, h.room))

            module _ {w : Sym} {ws : List Bit} {dw : Bit} (tb tc : IntType) (eb : tb ≡ type_of b) (ec : tc ≡ type_of c)
                (kw : (f : Perhaps) → IsSeen p.model (side_type ty tb) u.net ys dy f → Sees p (conversion_to p.model ty tb) u w ty ws dw (then_value f (λ z. Some (converted p ty z)))) where
              no_made : Sees p (conversion_to p.model ty (type_of b)) u w ty ws dw (λ v. as_type p ty b (stand p v s).cells)
              no_made = subst (λ t. (f : Perhaps) → IsSeen p.model (side_type ty t) u.net ys dy f → Sees p (conversion_to p.model ty t) u w ty ws dw (then_value f (λ z. Some (converted p ty z)))) eb kw (value_in p s b) no_there

              pub no_fits : IsState p w
              no_fits = no_made.turned.fits

              choice_five : Turned p (weight_of p c + weight_of p a + weight_of p b + (conversion_to p.model ty (type_of a) + conversion_to p.model ty (type_of b))) 0 s w (λ v z. z)
              choice_five = turned_after p _ choice_four no_made.turned (omega arith)

              test_there : IsSeen p.model (Some (type_of c)) w.net es de (value_in p s c)
              test_there = seen_added p.model (Some (type_of c)) no_made.turned.added (seen_added p.model (Some (type_of c)) yes_made.turned.added test_seen)

              yes_there : IsSeen p.model ty w.net us du (λ v. as_type p ty a (stand p v s).cells)
              yes_there = seen_added p.model ty no_made.turned.added yes_made.seen

              pub chosen_sides : AreTyped p.model tc w.net es × (de.node < length w.net) × AreOf p.model ty w.net us × (du.node < length w.net) × AreOf p.model ty w.net ws × (dw.node < length w.net) × (length w.net + (4 + (conversion_cost p.model tc BoolType + chosen p.model ty)) < 2 ^ 27)
              chosen_sides = (
                rw ec test_there.bits_in,
                test_there.defined.inside,
                yes_there.bits_in,
                yes_there.defined.inside,
                no_made.seen.bits_in,
                no_made.seen.defined.inside,
                let there : length w.net + (4 + (conversion_cost p.model (type_of c) BoolType + chosen p.model ty)) < 2 ^ 27 = omega (arith, test_costs p.model (type_of c), (longer_by choice_five.added).1, h.room) in
                    subst (λ z. length w.net + (4 + (conversion_cost p.model z BoolType + chosen p.model ty)) < 2 ^ 27) (sym ec) there,
              )

              pub choice_step : {m : Sym} {rs : List Bit} {r : Bit}
                  → ((k f g : Perhaps) → IsSeen p.model (Some tc) w.net es de k → IsSeen p.model ty w.net us du f → IsSeen p.model ty w.net ws dw g → Sees p (4 + (conversion_cost p.model tc BoolType + chosen p.model ty)) w m ty rs r (λ v. choice_in (k v) (f v) (g v)))
                  → SeesExpression p choice s m rs r
              choice_step {m} {rs} {r} q =
                  let cost = test_costs p.model (type_of c) in
                  let q1 = subst (λ z. (k f g : Perhaps) → IsSeen p.model (Some z) w.net es de k → IsSeen p.model ty w.net us du f → IsSeen p.model ty w.net ws dw g → Sees p (4 + (conversion_cost p.model z BoolType + chosen p.model ty)) w m ty rs r (λ v. choice_in (k v) (f v) (g v))) ec q in
                  let g = q1 (value_in p s c) (λ v. as_type p ty a (stand p v s).cells) (λ v. as_type p ty b (stand p v s).cells) test_there yes_there no_made.seen in
                  whole choice (record { turned = turned_after p (weight_of p c + weight_of p a + weight_of p b + (conversion_to p.model ty (type_of a) + conversion_to p.model ty (type_of b)) + (4 + (conversion_cost p.model (type_of c) BoolType + chosen p.model ty))) choice_five g.turned (omega arith); seen = g.seen }) (omega (arith, cost)) refl
                  (λ v. sym (choice_gives p spot ty (stand p v s).cells mark c a b))
