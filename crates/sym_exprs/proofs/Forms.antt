-- Expressions, form by form: what the calls of the code promise of the parts, put together, is what is promised of the whole.
use Rattle.std.proofs.Common.{◌≡◌, ℕ, ◌+◌, ◌≤◌, ◌<◌, ◌^◌, Bool, ℤ, List, refl, sym, ◌∙◌, ap, ap₂, subst, arith, Option, Some, None, IsTrue, length}
use Rattle.c_core.specs.Tree.{Program, Exp, Expr, Const, Var, Unary, Cast, Binary, Comma}
use Rattle.c_core.specs.Types.{fit, promote_of}
use Rattle.c_core.specs.Operators.{type_for, right_type_for, apply_one_of}
use Rattle.c_core.specs.Parts.{type_of as type_if}
use Rattle.c_core.specs.Typing.{is_typed}
use Rattle.c_core.specs.declared.number.IntType.{IntType}
use Rattle.c_core.specs.declared.number.BinOp.{BinOp}
use Rattle.c_core.specs.declared.number.UnOp.{UnOp}
use Rattle.c_core.specs.declared.number.UnOp.TheVariants.{Plus, Neg, BitNot, Not}
use Rattle.c_core.specs.declared.number.Spot.{Spot}
use Rattle.c_meaning.specs.Acts.{Go, bind}
use Rattle.c_meaning.specs.Cells.{read}
use Rattle.c_meaning.specs.Eval.{operate}
use Rattle.sym_meaning.specs.Mode.{JudgedState, Mode}
use Rattle.sym_meaning.specs.Judged.{judged, answered}
use Rattle.c_meaning.specs.Meaning.{Use, Used, Unused}
use Rattle.c_meaning.specs.Objects.{type_of, type_or_int}
use Rattle.c_meaning.specs.Related.{given_by_one}
use Rattle.c_meaning.proofs.TypeFacts.{neither, unary_types, binary_types}
use Rattle.circuits.specs.declared.net.Bit.{Bit}
use Rattle.circuits.specs.Numbers.{typed, AreTyped, Reads}
use Rattle.circuits.specs.Outcome.{conversion_cost, binary_type, one_type}
use Rattle.sym_state.specs.declared.state.Sym.{Sym}
use Rattle.sym_state.specs.declared.state.Around.{Around}
use Rattle.sym_state.specs.Places.{key}
use Rattle.sym_state.specs.Standing.{stand}
use Rattle.sym_state.specs.Following.{Follows, AreOf, IsNumber}
use Rattle.sym_state.proofs.Nets.{unchanged, longer_by, typed_added, are_typed_added}
use Rattle.sym_state.proofs.Composed.{follows_then, follows_as, net_follows, turned_follows}
use Rattle.sym_values.specs.Valuing.{where_of, operated_cost, operated_one_cost, Reckoned, Gives, operated, operated_one}
use Rattle.sym_exprs.specs.Evaluating.{weight_of, bits_of, evaluated, Ready, Values}
use Rattle.sym_exprs.proofs.Costs.{conversion_costs, operator_costs, unary_costs}
use Rattle.sym_exprs.proofs.Typed.{has_one, type_or, unary_parts, cast_parts, binary_parts, comma_parts, scalar_has}

one_given : (op : UnOp) (ty : IntType) → given_by_one op ty ≡ one_type op ty
one_given Plus ty = refl
one_given Neg ty = refl
one_given BitNot ty = refl
one_given Not ty = refl

module _ (p : Program) (W : Mode) (n : ℕ) where
  binary_typed : (spot : Spot) (ty : Option IntType) (op : BinOp) (a b : Exp) → IsTrue (is_typed p (Expr spot ty (Binary op a b))) → (type_if a ≡ Some (type_of a)) × (type_if b ≡ Some (type_of b))
  binary_typed spot ty op a b h =
      let t = binary_types p.model op ty (type_if a) (type_if b) (binary_parts p spot ty op a b h).0 in
      (t.0 ∙ ap Some (type_or a), t.1 ∙ ap Some (type_or b))

  module _ (at : Around) where
    -- a part can be evaluated first
    pub first_ready : {s : Sym} (e a : Exp) → Ready p W n at s e → IsTrue (is_typed p a) → weight_of p W n a + bits_of p W n a ≤ weight_of p W n e + bits_of p W n e → Ready p W n at s a
    first_ready e a r g h = record { fits = r.fits; types = g; duty = r.duty; room = omega (arith, h, r.room) }

    -- room behind a part
    pub room_after : {s m : Sym} {bits : List Bit} (want : Use) (e a : Exp) (k : ℕ) → Ready p W n at s e → Values p W n at want a s m bits → weight_of p W n a + bits_of p W n a + k ≤ weight_of p W n e + bits_of p W n e
        → length m.net + k < 2 ^ 27
    room_after want e a k r x h = omega (arith, (longer_by x.follows.added).1, h, r.room)

    -- and another part behind it
    pub next_ready : {s m : Sym} {bits : List Bit} (want : Use) (e a b : Exp) → Ready p W n at s e → Values p W n at want a s m bits → IsTrue (is_typed p b)
        → weight_of p W n a + bits_of p W n a + (weight_of p W n b + bits_of p W n b) ≤ weight_of p W n e + bits_of p W n e → Ready p W n at m b
    next_ready want e a b r x g h = record { fits = x.follows.fits; types = g; duty = r.duty; room = room_after want e a (weight_of p W n b + bits_of p W n b) r x h }

    -- where the value isn't used, nothing is asked of it
    pub wanted : {s m : Sym} {bits : List Bit} (want : Use) (e : Exp) → ((v : ℕ → Bool) (l : JudgedState) → evaluated p W n at Used e v l ≡ evaluated p W n at want e v l) → Values p W n at Used e s m bits → Values p W n at want e s m bits
    wanted Used e h x = x
    wanted Unused e h x = record { bits_in = x.bits_in; follows = follows_as p W.duties x.follows (λ v z f. tt) h (omega arith) (omega arith) }

    -- the bits of a used value
    pub value_in : {s m : Sym} {bits : List Bit} (a : Exp) (t : IntType) → type_if a ≡ Some t → Values p W n at Used a s m bits → AreTyped p.model t m.net bits
    value_in {m = m} {bits = bits} a t e x = subst (λ z. AreOf p.model z m.net bits) e x.bits_in

    pub value_as : {s m : Sym} {bits : List Bit} (a : Exp) (t : IntType) → type_if a ≡ Some t → Values p W n at Used a s m bits → Gives p W (weight_of p W n a) (bits_of p W n a) s m (Some t) bits (evaluated p W n at Used a)
    value_as {s} {m} {bits} a t e x = record {
      bits_in = value_in a t e x;
      follows = subst (λ z. Follows W.duties p (weight_of p W n a) (bits_of p W n a) s m (IsNumber p.model z m.net bits) (evaluated p W n at Used a)) e x.follows;
    }

    -- a value of the expression's type
    pub as_values : {s m : Sym} {bits : List Bit} {t : Option IntType} (e : Exp) → t ≡ type_if e → Gives p W (weight_of p W n e) (bits_of p W n e) s m t bits (evaluated p W n at Used e) → Values p W n at Used e s m bits
    as_values {s} {m} {bits} e q x = record {
      bits_in = subst (λ z. AreOf p.model z m.net bits) q x.bits_in;
      follows = subst (λ z. Follows W.duties p (weight_of p W n e) (bits_of p W n e) s m (IsNumber p.model z m.net bits) (evaluated p W n at Used e)) q x.follows;
    }

    const_values : (s : Sym) (bits : List Bit) (spot : Spot) (ty : Option IntType) (z : ℤ) → Ready p W n at s (Expr spot ty (Const z)) → Reads p.model (type_or_int ty) s.net bits (λ v. z) → Values p W n at Used (Expr spot ty (Const z)) s s bits
    const_values s bits spot None z h r = neither h.types
    const_values s bits spot (Some ty) z h r = record {
      bits_in = r.bits_in;
      follows = net_follows p W.duties (λ v. z) (record { fits = h.fits; added = unchanged _ s.net; level = refl; result = refl; is = λ v. refl }) (λ v. sym (r.is v));
    }

    var_values : (s : Sym) (bits : List Bit) (spot : Spot) (ty : Option IntType) (o : ℕ) → Ready p W n at s (Expr spot ty (Var o)) → Reads p.model (type_or_int ty) s.net bits (λ v. read (key o 0) (stand p v s).cells)
        → Values p W n at Used (Expr spot ty (Var o)) s s bits
    var_values s bits spot None o h r = absurd (scalar_has p spot o h.types)
    var_values s bits spot (Some ty) o h r = record {
      bits_in = r.bits_in;
      follows = turned_follows p W.duties (λ v z. z) (record { fits = h.fits; added = unchanged _ s.net; level = refl; result = refl; is = λ v. refl }) (λ v. refl) (λ v d. refl) (λ v here rest. (here, refl, sym (r.is v)));
    }

    unary_values : {s x m : Sym} {xs rs : List Bit} (spot : Spot) (ty : Option IntType) (op : UnOp) (a : Exp) → Ready p W n at s (Expr spot ty (Unary op a)) → Values p W n at Used a s x xs
        → Gives p W (operated_one_cost p.model op (type_of a)) 0 x m (Some (one_type op (promote_of (type_of a)))) rs (operated_one p W at op (type_of a) xs x) → Values p W n at Used (Expr spot ty (Unary op a)) s m rs
    unary_values {s} {x} {m} {xs} {rs} spot ty op a h ga gr =
        let e = Expr spot ty (Unary op a) in
        let t = unary_types op ty (type_if a) (unary_parts p spot ty op a h.types).0 in
        let ta : type_if a ≡ Some (type_of a) = t.0 ∙ ap Some (type_or a) in
        let tr : Some (one_type op (promote_of (type_of a))) ≡ ty = ap (λ z. Some (one_type op (promote_of z))) (sym (type_or a)) ∙ ap Some (sym (one_given op (promote_of (type_or_int (type_if a))))) ∙ t.1 in
        let c = conversion_costs p.model (type_of a) (promote_of (type_of a)) in
        let k = unary_costs p.model op (promote_of (type_of a)) in
        as_values e tr
        record {
          bits_in = gr.bits_in;
          follows = follows_then p W.duties (weight_of p W n e) (bits_of p W n e) (λ v z l. answered p W (where_of at) (apply_one_of p.model op (promote_of (type_of a)) (fit p.model (promote_of (type_of a)) z)) l)
              (value_as a (type_of a) ta ga).follows gr.follows (λ v z e l. ap (λ q. answered p W (where_of at) (apply_one_of p.model op (promote_of (type_of a)) (fit p.model (promote_of (type_of a)) q)) l) e) (omega (arith, c, k)) (omega arith);
        }

    binary_values : {s x y m : Sym} {xs ys rs : List Bit} (spot : Spot) (ty : Option IntType) (op : BinOp) (a b : Exp) → Ready p W n at s (Expr spot ty (Binary op a b))
        → Values p W n at Used a s x xs → Values p W n at Used b x y ys
        → Gives p W (operated_cost p.model op (type_of a) (type_of b)) 0 y m (Some (binary_type op (type_for p.model op (type_of a) (type_of b)))) rs (operated p W at spot op (type_of a) xs (type_of b) ys y)
        → Values p W n at Used (Expr spot ty (Binary op a b)) s m rs
    binary_values {s} {x} {y} {m} {xs} {ys} {rs} spot ty op a b h ga gb gr =
        let e = Expr spot ty (Binary op a b) in
        let t = binary_types p.model op ty (type_if a) (type_if b) (binary_parts p spot ty op a b h.types).0 in
        let ta : type_if a ≡ Some (type_of a) = t.0 ∙ ap Some (type_or a) in
        let tb : type_if b ≡ Some (type_of b) = t.1 ∙ ap Some (type_or b) in
        let tr : Some (binary_type op (type_for p.model op (type_of a) (type_of b))) ≡ ty = ap₂ (λ w z. Some (binary_type op (type_for p.model op w z))) (sym (type_or a)) (sym (type_or b)) ∙ t.2 in
        let ca = conversion_costs p.model (type_of a) (type_for p.model op (type_of a) (type_of b)) in
        let cb = conversion_costs p.model (type_of b) (right_type_for op (type_for p.model op (type_of a) (type_of b)) (type_of b)) in
        let k = operator_costs p.model op (type_for p.model op (type_of a) (type_of b)) in
        let xa = value_as a (type_of a) ta ga in
        let xb = value_as b (type_of b) tb gb in
        let cost = operated_cost p.model op (type_of a) (type_of b) in
        as_values e tr
        record {
          bits_in = gr.bits_in;
          follows = follows_then p W.duties (weight_of p W n e) (bits_of p W n e)
              (λ v z l. bind (evaluated p W n at Used b v l) (λ w. operate p (judged p W) (where_of at) spot op (type_of a) z (type_of b) w))
              xa.follows
              (follows_then p W.duties (weight_of p W n b + cost) (bits_of p W n b) (λ v w. operate p (judged p W) (where_of at) spot op (type_of a) (typed p.model (type_of a) v x.net xs) (type_of b) w)
              xb.follows gr.follows
              (λ v w e l.
              ap (λ q. operate p (judged p W) (where_of at) spot op (type_of a) (typed p.model (type_of a) v x.net xs) (type_of b) q l) e
              ∙ ap (λ q. operate p (judged p W) (where_of at) spot op (type_of a) q (type_of b) (typed p.model (type_of b) v y.net ys) l) (sym (typed_added xb.follows.added p.model (type_of a) v xs xa.bits_in)))
              (omega arith) (omega arith))
              (λ v z e l. ap (λ q. bind (evaluated p W n at Used b v l) (λ w. operate p (judged p W) (where_of at) spot op (type_of a) q (type_of b) w)) e)
              (omega (arith, ca, cb, k)) (omega arith);
        }

    -- a cast to void: the value is let go
    pub void_values : {s m : Sym} {bits : List Bit} (spot : Spot) (a : Exp) → Values p W n at Unused a s m bits → Values p W n at Used (Expr spot None (Cast a)) s m bits
    void_values spot a ga = record { bits_in = tt; follows = follows_as p W.duties ga.follows (λ v z e. tt) (λ v l. refl) (omega arith) (omega arith) }

    cast_values : {s x m : Sym} {xs rs : List Bit} (spot : Spot) (to : IntType) (a : Exp) → Ready p W n at s (Expr spot (Some to) (Cast a)) → Values p W n at Used a s x xs
        → Reckoned p (conversion_cost p.model (type_of a) to) x m to rs (λ v. fit p.model to (typed p.model (type_of a) v x.net xs)) → Values p W n at Used (Expr spot (Some to) (Cast a)) s m rs
    cast_values {s} {x} {m} {xs} {rs} spot to a h ga r =
        let ta : type_if a ≡ Some (type_of a) = has_one a (cast_parts p spot (Some to) a h.types).0 in
        let c = conversion_costs p.model (type_of a) to in
        record {
          bits_in = r.bits_in;
          follows = follows_then p W.duties (weight_of p W n (Expr spot (Some to) (Cast a))) (bits_of p W n (Expr spot (Some to) (Cast a))) (λ v z. Go (fit p.model to z)) (value_as a (type_of a) ta ga).follows
              (net_follows p W.duties (λ v. fit p.model to (typed p.model (type_of a) v x.net xs)) r.turned (λ v. sym (r.is v)))
              (λ v z e l. ap (λ q. Go (fit p.model to q) l) e) (omega (arith, c)) (omega arith);
        }

    pub comma_values : {s x m : Sym} {xs rs : List Bit} (spot : Spot) (ty : Option IntType) (a b : Exp) → Ready p W n at s (Expr spot ty (Comma a b)) → Values p W n at Unused a s x xs → Values p W n at Used b x m rs
        → Values p W n at Used (Expr spot ty (Comma a b)) s m rs
    comma_values {s} {x} {m} {xs} {rs} spot ty a b h ga gb =
        let e = Expr spot ty (Comma a b) in
        as_values e (comma_parts p spot ty a b h.types).0
        record {
          bits_in = gb.bits_in;
          follows = follows_then p W.duties (weight_of p W n e) (bits_of p W n e) (λ v z. evaluated p W n at Used b v) ga.follows gb.follows (λ v z e l. refl) (omega arith) (omega arith);
        }

    -- ---- what the calls of the code promise, whose types are those of the parts
    pub binary_sides : {s x y : Sym} {xs ys : List Bit} (spot : Spot) (ty : Option IntType) (op : BinOp) (a b : Exp) (ta tb : IntType) → ta ≡ type_of a → tb ≡ type_of b → Ready p W n at s (Expr spot ty (Binary op a b))
        → Values p W n at Used a s x xs → Values p W n at Used b x y ys
        → AreTyped p.model ta y.net xs × AreTyped p.model tb y.net ys × (length y.net + operated_cost p.model op ta tb < 2 ^ 27)
    binary_sides {s} {x} {y} {xs} {ys} spot ty op a b ta tb ea eb h ga gb =
        let t = binary_typed spot ty op a b h.types in
        let ca = conversion_costs p.model (type_of a) (type_for p.model op (type_of a) (type_of b)) in
        let cb = conversion_costs p.model (type_of b) (right_type_for op (type_for p.model op (type_of a) (type_of b)) (type_of b)) in
        let k = operator_costs p.model op (type_for p.model op (type_of a) (type_of b)) in
        let room : length y.net + operated_cost p.model op (type_of a) (type_of b) < 2 ^ 27 = omega (arith, ca, cb, k, (longer_by ga.follows.added).1, (longer_by gb.follows.added).1, h.room) in (
          rw ea (are_typed_added gb.follows.added (value_in a (type_of a) t.0 ga)),
          rw eb (value_in b (type_of b) t.1 gb),
          subst (λ z. length y.net + operated_cost p.model op z tb < 2 ^ 27) (sym ea) (subst (λ z. length y.net + operated_cost p.model op (type_of a) z < 2 ^ 27) (sym eb) room),
        )

    pub binary_step : {s x y m : Sym} {xs ys rs : List Bit} (spot : Spot) (ty : Option IntType) (op : BinOp) (a b : Exp) (ta tb : IntType) → ta ≡ type_of a → tb ≡ type_of b → Ready p W n at s (Expr spot ty (Binary op a b))
        → Values p W n at Used a s x xs → Values p W n at Used b x y ys
        → Gives p W (operated_cost p.model op ta tb) 0 y m (Some (binary_type op (type_for p.model op ta tb))) rs (operated p W at spot op ta xs tb ys y)
        → Values p W n at Used (Expr spot ty (Binary op a b)) s m rs
    binary_step {s} {x} {y} {m} {xs} {ys} {rs} spot ty op a b ta tb ea eb h ga gb gr =
        binary_values spot ty op a b h ga gb
        (subst (λ z. Gives p W (operated_cost p.model op (type_of a) z) 0 y m (Some (binary_type op (type_for p.model op (type_of a) z))) rs (operated p W at spot op (type_of a) xs z ys y)) eb
        (subst (λ z. Gives p W (operated_cost p.model op z tb) 0 y m (Some (binary_type op (type_for p.model op z tb))) rs (operated p W at spot op z xs tb ys y)) ea gr))

    pub unary_side : {s x : Sym} {xs : List Bit} (spot : Spot) (ty : Option IntType) (op : UnOp) (a : Exp) (ta : IntType) → ta ≡ type_of a → Ready p W n at s (Expr spot ty (Unary op a)) → Values p W n at Used a s x xs
        → AreTyped p.model ta x.net xs × (length x.net + operated_one_cost p.model op ta < 2 ^ 27)
    unary_side {s} {x} {xs} spot ty op a ta ea h ga =
        let t = unary_types op ty (type_if a) (unary_parts p spot ty op a h.types).0 in
        let c = conversion_costs p.model (type_of a) (promote_of (type_of a)) in
        let k = unary_costs p.model op (promote_of (type_of a)) in
        let room : length x.net + operated_one_cost p.model op (type_of a) < 2 ^ 27 = omega (arith, c, k, (longer_by ga.follows.added).1, h.room) in
        (rw ea (value_in a (type_of a) (t.0 ∙ ap Some (type_or a)) ga), subst (λ z. length x.net + operated_one_cost p.model op z < 2 ^ 27) (sym ea) room)

    pub unary_step : {s x m : Sym} {xs rs : List Bit} (spot : Spot) (ty : Option IntType) (op : UnOp) (a : Exp) (ta : IntType) → ta ≡ type_of a → Ready p W n at s (Expr spot ty (Unary op a)) → Values p W n at Used a s x xs
        → Gives p W (operated_one_cost p.model op ta) 0 x m (Some (one_type op (promote_of ta))) rs (operated_one p W at op ta xs x) → Values p W n at Used (Expr spot ty (Unary op a)) s m rs
    unary_step {s} {x} {m} {xs} {rs} spot ty op a ta ea h ga gr =
        unary_values spot ty op a h ga (subst (λ z. Gives p W (operated_one_cost p.model op z) 0 x m (Some (one_type op (promote_of z))) rs (operated_one p W at op z xs x)) ea gr)

    pub cast_side : {s x : Sym} {xs : List Bit} (spot : Spot) (ty : Option IntType) (to : IntType) (a : Exp) (ta : IntType) → ty ≡ Some to → ta ≡ type_of a → Ready p W n at s (Expr spot ty (Cast a)) → Values p W n at Used a s x xs → AreTyped p.model ta x.net xs
    cast_side spot ty to a ta e ea h ga =
        let g = subst (λ z. IsTrue (is_typed p (Expr spot z (Cast a)))) e h.types in
        rw ea (value_in a (type_of a) (has_one a (cast_parts p spot (Some to) a g).0) ga)

    pub cast_step : {s x m : Sym} {xs rs : List Bit} (spot : Spot) (ty : Option IntType) (to : IntType) (a : Exp) (ta : IntType) → ty ≡ Some to → ta ≡ type_of a → Ready p W n at s (Expr spot ty (Cast a)) → Values p W n at Used a s x xs
        → Reckoned p (conversion_cost p.model ta to) x m to rs (λ v. fit p.model to (typed p.model ta v x.net xs)) → Values p W n at Used (Expr spot ty (Cast a)) s m rs
    cast_step {s} {x} {m} {xs} {rs} spot ty to a ta e ea h ga r =
        subst (λ z. Values p W n at Used (Expr spot z (Cast a)) s m rs) (sym e)
        (cast_values spot to a (subst (λ z. Ready p W n at s (Expr spot z (Cast a))) e h) ga (subst (λ z. Reckoned p (conversion_cost p.model z to) x m to rs (λ v. fit p.model to (typed p.model z v x.net xs))) ea r))

    pub const_step : (s : Sym) (bits : List Bit) (spot : Spot) (ty : Option IntType) (z : ℤ) (t : IntType) → t ≡ type_or_int ty → Ready p W n at s (Expr spot ty (Const z)) → Reads p.model t s.net bits (λ v. z) → Values p W n at Used (Expr spot ty (Const z)) s s bits
    const_step s bits spot ty z t e h r = const_values s bits spot ty z h (subst (λ k. Reads p.model k s.net bits (λ v. z)) e r)

    pub var_step : (s : Sym) (bits : List Bit) (spot : Spot) (ty : Option IntType) (o : ℕ) (t : IntType) → t ≡ type_or_int ty → Ready p W n at s (Expr spot ty (Var o)) → Reads p.model t s.net bits (λ v. read (key o 0) (stand p v s).cells)
        → Values p W n at Used (Expr spot ty (Var o)) s s bits
    var_step s bits spot ty o t e h r = var_values s bits spot ty o h (subst (λ k. Reads p.model k s.net bits (λ v. read (key o 0) (stand p v s).cells)) e r)
