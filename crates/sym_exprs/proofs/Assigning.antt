-- Assignments and steps: the target, what it holds, the right side, the operator and the store, one after the other.
use Rattle.std.proofs.Common.{◌≡◌, ℕ, ◌+◌, ◌*◌, ◌≤◌, ◌<◌, ◌^◌, Bool, true, false, cond, ℤ, pos, List, length, refl, sym, ◌∙◌, ap, ap₂, subst, arith, Option, Some, None}
use Rattle.c_core.specs.Tree.{Program, Exp, Expr, Step, Assign}
use Rattle.c_core.specs.Types.{width_of, common_of}
use Rattle.c_core.specs.Operators.{type_for, right_type_for, op_of_step, is_prefix}
use Rattle.c_core.specs.declared.number.IntType.{IntType}
use Rattle.c_core.specs.declared.number.IntType.TheVariants.{Bool as BoolType, Char, SChar, UChar, Short, UShort, Int, UInt, Long, ULong, LongLong, ULongLong}
use Rattle.c_core.specs.declared.number.DataModel.{DataModel}
use Rattle.c_core.specs.declared.number.DataModel.TheVariants.{Ilp32, Lp64}
use Rattle.c_core.specs.declared.number.BinOp.{BinOp}
use Rattle.c_core.specs.declared.number.StepOp.{StepOp}
use Rattle.c_core.specs.declared.number.StepOp.TheVariants.{PreInc, PreDec, PostInc, PostDec}
use Rattle.c_core.specs.declared.number.Spot.{Spot}
use Rattle.c_meaning.specs.Acts.{Go, bind}
use Rattle.c_meaning.specs.Cells.{read}
use Rattle.c_meaning.specs.Eval.{operate, store}
use Rattle.sym_meaning.specs.Mode.{Mode}
use Rattle.sym_meaning.specs.Judged.{judged}
use Rattle.c_meaning.specs.Meaning.{Used}
use Rattle.c_meaning.specs.Objects.{type_of}
use Rattle.c_meaning.proofs.TypeFacts.{assigned_type, stepped_type}
use Rattle.circuits.specs.declared.net.Bit.{Bit}
use Rattle.circuits.specs.declared.net.NetNode.{NetNode}
use Rattle.circuits.specs.Numbers.{typed, AreTyped, Reads}
use Rattle.circuits.specs.Outcome.{conversion_cost, binary_type}
use Rattle.sym_state.specs.declared.state.Sym.{Sym}
use Rattle.sym_state.specs.declared.state.Around.{Around}
use Rattle.sym_state.specs.Standing.{IsState, Added}
use Rattle.sym_state.specs.Following.{Deed, Follows}
use Rattle.sym_state.proofs.Nets.{unchanged, longer_by, typed_added, are_typed_added}
use Rattle.sym_state.proofs.Composed.{follows_then, follows_as, turned_follows}
use Rattle.sym_values.specs.Valuing.{where_of, operated_cost, Gives, operated}
use Rattle.sym_weight.specs.Table.{conversion, read as read_weight, written, assignment}
use Rattle.sym_exprs.specs.Evaluating.{weight_of, bits_of, evaluated, Ready, Values}
use Rattle.sym_exprs.specs.Targeting.{Keys, looked_at, stored_at, Targets, TargetReady}
use Rattle.sym_exprs.proofs.Costs.{conversion_costs, operator_costs}
use Rattle.sym_exprs.proofs.Typed.{has_one, assign_parts, step_parts, target_has}
use Rattle.sym_exprs.proofs.Forms.{value_as, value_in, as_values}

-- a step computes in no `_Bool`
one_converts : (m : DataModel) (a : IntType) → conversion_cost m Int (common_of m a Int) ≡ 0
one_converts Ilp32 BoolType = refl
one_converts Ilp32 Char = refl
one_converts Ilp32 SChar = refl
one_converts Ilp32 UChar = refl
one_converts Ilp32 Short = refl
one_converts Ilp32 UShort = refl
one_converts Ilp32 Int = refl
one_converts Ilp32 UInt = refl
one_converts Ilp32 Long = refl
one_converts Ilp32 ULong = refl
one_converts Ilp32 LongLong = refl
one_converts Ilp32 ULongLong = refl
one_converts Lp64 BoolType = refl
one_converts Lp64 Char = refl
one_converts Lp64 SChar = refl
one_converts Lp64 UChar = refl
one_converts Lp64 Short = refl
one_converts Lp64 UShort = refl
one_converts Lp64 Int = refl
one_converts Lp64 UInt = refl
one_converts Lp64 Long = refl
one_converts Lp64 ULong = refl
one_converts Lp64 LongLong = refl
one_converts Lp64 ULongLong = refl

module _ (p : Program) (W : Mode) (n : ℕ) (at : Around) where
  -- the value of bits told by another type
  told_type : {w b : ℕ} {s m : Sym} {t u : Option IntType} {bits : List Bit} {deed : Deed ℤ} → t ≡ u → Gives p W w b s m t bits deed → Gives p W w b s m u bits deed
  told_type {w} {b} {s} {m} {bits = bits} {deed = deed} e x = subst (λ z. Gives p W w b s m z bits deed) e x

  -- ---- `=`: f for the target, w for the store
  replace_values : {s x y m : Sym} {ys rs : List Bit} {f w : ℕ} {keys : Keys} (spot : Spot) (ty : Option IntType) (a b : Exp) → Ready p W n at s (Expr spot ty (Assign None a b))
      → Targets p W n at f a keys s x → Values p W n at Used b x y ys → Gives p W w 0 y m (Some (type_of a)) rs (stored_at p W keys (type_of b) (type_of a) ys y)
      → f + w ≤ conversion p.model (type_of b) (type_of a) + written p a → Values p W n at Used (Expr spot ty (Assign None a b)) s m rs
  replace_values {s} {x} {y} {m} {ys} {rs} {f} {w} {keys} spot ty a b h gt gb gs cost =
      let e = Expr spot ty (Assign None a b) in
      let q = assign_parts p spot ty None a b h.types in
      let xb = value_as p W n at b (type_of b) (has_one b q.value) gb in
      let last : Follows W.duties p (weight_of p W n b + w) (bits_of p W n b) x m (λ v z. z ≡ typed p.model (type_of a) v m.net rs) (λ v l. bind (evaluated p W n at Used b v l) (λ z. store p (judged p W) (keys v) (type_of b) (type_of a) z)) =
      follows_then p W.duties (weight_of p W n b + w) (bits_of p W n b) (λ v z. store p (judged p W) (keys v) (type_of b) (type_of a) z) xb.follows gs.follows
      (λ v z g l. ap (λ k. store p (judged p W) (keys v) (type_of b) (type_of a) k l) g) (omega arith) (omega arith) in
      as_values p W n at e (sym (target_has p a q.target q.typed_target) ∙ q.type)
      record {
        bits_in = gs.bits_in;
        follows = follows_then p W.duties (weight_of p W n e) (bits_of p W n e) (λ v k l. bind (evaluated p W n at Used b v l) (λ z. store p (judged p W) k (type_of b) (type_of a) z)) gt.follows last
            (λ v k g l. ap (λ i. bind (evaluated p W n at Used b v l) (λ z. store p (judged p W) i (type_of b) (type_of a) z)) g) (omega (arith, cost)) (omega arith);
      }

  -- ---- an operator with `=`: r for what the target holds
  update_values : {s x x2 y z m : Sym} {xs ys zs rs : List Bit} {f r w : ℕ} {keys : Keys} (spot : Spot) (ty : Option IntType) (op : BinOp) (a b : Exp) → Ready p W n at s (Expr spot ty (Assign (Some op) a b))
      → Targets p W n at f a keys s x → Gives p W r 0 x x2 (Some (type_of a)) xs (looked_at p W keys) → Values p W n at Used b x2 y ys
      → Gives p W (operated_cost p.model op (type_of a) (type_of b)) 0 y z (Some (binary_type op (type_for p.model op (type_of a) (type_of b)))) zs (operated p W at spot op (type_of a) xs (type_of b) ys y)
      → Gives p W w 0 z m (Some (type_of a)) rs (stored_at p W keys (type_for p.model op (type_of a) (type_of b)) (type_of a) zs z)
      → f + (r + w) ≤ conversion p.model (type_for p.model op (type_of a) (type_of b)) (type_of a) + (read_weight p a + written p a) → Values p W n at Used (Expr spot ty (Assign (Some op) a b)) s m rs
  update_values {s} {x} {x2} {y} {z} {m} {xs} {ys} {zs} {rs} {f} {r} {w} {keys} spot ty op a b h gt gl gb go gs cost =
      let e = Expr spot ty (Assign (Some op) a b) in
      let q = assign_parts p spot ty (Some op) a b h.types in
      let ta = type_of a in
      let tb = type_of b in
      let c = type_for p.model op ta tb in
      let xb = value_as p W n at b tb (has_one b q.value) gb in
      let xo = told_type (ap Some (assigned_type op c q.number)) go in
      let behind = operated_cost p.model op ta tb + w in
      let worked : Follows W.duties p behind 0 y m (λ v i. i ≡ typed p.model ta v m.net rs) (λ v k. bind (operate p (judged p W) (where_of at) spot op ta (typed p.model ta v y.net xs) tb (typed p.model tb v y.net ys) k) (λ u. store p (judged p W) (keys v) c ta u)) =
      follows_then p W.duties behind 0 (λ v u. store p (judged p W) (keys v) c ta u) xo.follows gs.follows (λ v u g k. ap (λ i. store p (judged p W) (keys v) c ta i k) g) (omega arith) (omega arith) in
      let valued : Follows W.duties p (weight_of p W n b + behind) (bits_of p W n b) x2 m (λ v i. i ≡ typed p.model ta v m.net rs)
      (λ v l. bind (evaluated p W n at Used b v l) (λ j k. bind (operate p (judged p W) (where_of at) spot op ta (typed p.model ta v x2.net xs) tb j k) (λ u. store p (judged p W) (keys v) c ta u))) =
      follows_then p W.duties (weight_of p W n b + behind) (bits_of p W n b) (λ v j k. bind (operate p (judged p W) (where_of at) spot op ta (typed p.model ta v x2.net xs) tb j k) (λ u. store p (judged p W) (keys v) c ta u)) xb.follows worked
      (λ v j g k.
      ap (λ i. bind (operate p (judged p W) (where_of at) spot op ta (typed p.model ta v x2.net xs) tb i k) (λ u. store p (judged p W) (keys v) c ta u)) g
      ∙ ap (λ i. bind (operate p (judged p W) (where_of at) spot op ta i tb (typed p.model tb v y.net ys) k) (λ u. store p (judged p W) (keys v) c ta u)) (sym (typed_added xb.follows.added p.model ta v xs gl.bits_in)))
      (omega arith) (omega arith) in
      let looked : Follows W.duties p (r + (weight_of p W n b + behind)) (bits_of p W n b) x m (λ v i. i ≡ typed p.model ta v m.net rs)
      (λ v l. bind (looked_at p W keys v l) (λ i l. bind (evaluated p W n at Used b v l) (λ j k. bind (operate p (judged p W) (where_of at) spot op ta i tb j k) (λ u. store p (judged p W) (keys v) c ta u)))) =
      follows_then p W.duties (r + (weight_of p W n b + behind)) (bits_of p W n b) (λ v i l. bind (evaluated p W n at Used b v l) (λ j k. bind (operate p (judged p W) (where_of at) spot op ta i tb j k) (λ u. store p (judged p W) (keys v) c ta u))) gl.follows valued
      (λ v i g l. ap (λ i. bind (evaluated p W n at Used b v l) (λ j k. bind (operate p (judged p W) (where_of at) spot op ta i tb j k) (λ u. store p (judged p W) (keys v) c ta u))) g) (omega arith) (omega arith) in
      as_values p W n at e (sym (target_has p a q.target q.typed_target) ∙ q.type)
      record {
        bits_in = gs.bits_in;
        follows = follows_then p W.duties (weight_of p W n e) (bits_of p W n e)
            (λ v k l. bind (Go (read k l.cells) l) (λ i l. bind (evaluated p W n at Used b v l) (λ j h. bind (operate p (judged p W) (where_of at) spot op ta i tb j h) (λ u. store p (judged p W) k c ta u)))) gt.follows looked
            (λ v k g l. ap (λ k. bind (Go (read k l.cells) l) (λ i l. bind (evaluated p W n at Used b v l) (λ j h. bind (operate p (judged p W) (where_of at) spot op ta i tb j h) (λ u. store p (judged p W) k c ta u)))) g)
            (omega (arith, cost, conversion_costs p.model ta c, conversion_costs p.model tb (right_type_for op c tb), operator_costs p.model op c)) (omega arith);
      }

  -- ---- `++` and `--`
  step_cost : (op : StepOp) (a : IntType) → operated_cost p.model (op_of_step op) a Int ≤ 5 + (conversion_cost p.model a (type_for p.model (op_of_step op) a Int) + 16 * width_of p.model (type_for p.model (op_of_step op) a Int))
  step_cost PreInc a = omega (arith, one_converts p.model a)
  step_cost PreDec a = omega (arith, one_converts p.model a)
  step_cost PostInc a = omega (arith, one_converts p.model a)
  step_cost PostDec a = omega (arith, one_converts p.model a)

  either_in : {net : List NetNode} {a : IntType} (b : Bool) (xs ys : List Bit) → AreTyped p.model a net xs → AreTyped p.model a net ys → AreTyped p.model a net (cond b xs ys)
  either_in true xs ys i j = i
  either_in false xs ys i j = j

  either_value : {A : Type 0} (f : List Bit → A) (b : Bool) (xs ys : List Bit) → cond b (f xs) (f ys) ≡ f (cond b xs ys)
  either_value f true xs ys = refl
  either_value f false xs ys = refl

  step_values : {s x x2 z m : Sym} {xs ones zs ws : List Bit} {f r w : ℕ} {keys : Keys} (spot : Spot) (ty : Option IntType) (op : StepOp) (a : Exp) → Ready p W n at s (Expr spot ty (Step op a))
      → Targets p W n at f a keys s x → Gives p W r 0 x x2 (Some (type_of a)) xs (looked_at p W keys) → Reads p.model Int x2.net ones (λ v. pos 1)
      → Gives p W (operated_cost p.model (op_of_step op) (type_of a) Int) 0 x2 z (Some (binary_type (op_of_step op) (type_for p.model (op_of_step op) (type_of a) Int))) zs (operated p W at spot (op_of_step op) (type_of a) xs Int ones x2)
      → Gives p W w 0 z m (Some (type_of a)) ws (stored_at p W keys (type_for p.model (op_of_step op) (type_of a) Int) (type_of a) zs z)
      → f + (r + w) ≤ conversion p.model (type_for p.model (op_of_step op) (type_of a) Int) (type_of a) + (read_weight p a + written p a)
      → Values p W n at Used (Expr spot ty (Step op a)) s m (cond (is_prefix op) ws xs)
  step_values {s} {x} {x2} {z} {m} {xs} {ones} {zs} {ws} {f} {r} {w} {keys} spot ty op a h gt gl r1 go gs cost =
      let e = Expr spot ty (Step op a) in
      let q = step_parts p spot ty op a h.types in
      let ta = type_of a in
      let c = type_for p.model (op_of_step op) ta Int in
      let xo = told_type (ap Some (stepped_type op c)) go in
      let before : (v : ℕ → Bool) → typed p.model ta v m.net xs ≡ typed p.model ta v x2.net xs = λ v. typed_added gs.follows.added p.model ta v xs (are_typed_added xo.follows.added gl.bits_in) ∙ typed_added xo.follows.added p.model ta v xs gl.bits_in in
      let last : Follows W.duties p w 0 z m (λ v u. u ≡ cond (is_prefix op) (typed p.model ta v m.net ws) (typed p.model ta v m.net xs)) (λ v l. bind (store p (judged p W) (keys v) c ta (typed p.model c v z.net zs) l) (λ u k. Go (cond (is_prefix op) u (typed p.model ta v x2.net xs)) k)) =
      follows_then p W.duties w 0 (λ v u k. Go (cond (is_prefix op) u (typed p.model ta v x2.net xs)) k) gs.follows
      (turned_follows p W.duties (λ v t. t) (record { fits = gs.follows.fits; added = unchanged 0 m.net; level = refl; result = refl; is = λ v. refl }) (λ v. refl) (λ v d. refl)
      (λ v here rest. (here, refl, ap (cond (is_prefix op) (typed p.model ta v m.net ws)) (sym (before v)))))
      (λ v u g k. ap (λ i. Go (cond (is_prefix op) i (typed p.model ta v x2.net xs)) k) g) (omega arith) (omega arith) in
      let behind = operated_cost p.model (op_of_step op) ta Int + w in
      let worked : Follows W.duties p behind 0 x2 m (λ v u. u ≡ cond (is_prefix op) (typed p.model ta v m.net ws) (typed p.model ta v m.net xs))
      (λ v l. bind (operate p (judged p W) (where_of at) spot (op_of_step op) ta (typed p.model ta v x2.net xs) Int (typed p.model Int v x2.net ones) l) (λ y k. bind (store p (judged p W) (keys v) c ta y k) (λ u t. Go (cond (is_prefix op) u (typed p.model ta v x2.net xs)) t))) =
      follows_then p W.duties behind 0 (λ v y k. bind (store p (judged p W) (keys v) c ta y k) (λ u t. Go (cond (is_prefix op) u (typed p.model ta v x2.net xs)) t)) xo.follows last
      (λ v y g k. ap (λ i. bind (store p (judged p W) (keys v) c ta i k) (λ u t. Go (cond (is_prefix op) u (typed p.model ta v x2.net xs)) t)) g) (omega arith) (omega arith) in
      let looked : Follows W.duties p (r + behind) 0 x m (λ v u. u ≡ cond (is_prefix op) (typed p.model ta v m.net ws) (typed p.model ta v m.net xs))
      (λ v l. bind (looked_at p W keys v l) (λ i l. bind (operate p (judged p W) (where_of at) spot (op_of_step op) ta i Int (pos 1) l) (λ y k. bind (store p (judged p W) (keys v) c ta y k) (λ u t. Go (cond (is_prefix op) u i) t)))) =
      follows_then p W.duties (r + behind) 0 (λ v i l. bind (operate p (judged p W) (where_of at) spot (op_of_step op) ta i Int (pos 1) l) (λ y k. bind (store p (judged p W) (keys v) c ta y k) (λ u t. Go (cond (is_prefix op) u i) t))) gl.follows worked
      (λ v i g l.
      ap (λ i. bind (operate p (judged p W) (where_of at) spot (op_of_step op) ta i Int (pos 1) l) (λ y k. bind (store p (judged p W) (keys v) c ta y k) (λ u t. Go (cond (is_prefix op) u i) t))) g
      ∙ ap (λ i. bind (operate p (judged p W) (where_of at) spot (op_of_step op) ta (typed p.model ta v x2.net xs) Int i l) (λ y k. bind (store p (judged p W) (keys v) c ta y k) (λ u t. Go (cond (is_prefix op) u (typed p.model ta v x2.net xs)) t))) (sym (r1.is v)))
      (omega arith) (omega arith) in
      as_values p W n at e (sym (target_has p a q.0 q.2) ∙ q.1)
      record {
        bits_in = either_in (is_prefix op) ws xs gs.bits_in (are_typed_added gs.follows.added (are_typed_added xo.follows.added gl.bits_in));
        follows = follows_as p W.duties
            (follows_then p W.duties (weight_of p W n e) (bits_of p W n e)
            (λ v k l. bind (Go (read k l.cells) l) (λ i l. bind (operate p (judged p W) (where_of at) spot (op_of_step op) ta i Int (pos 1) l) (λ y h. bind (store p (judged p W) k c ta y h) (λ u t. Go (cond (is_prefix op) u i) t)))) gt.follows looked
            (λ v k g l. ap (λ k. bind (Go (read k l.cells) l) (λ i l. bind (operate p (judged p W) (where_of at) spot (op_of_step op) ta i Int (pos 1) l) (λ y h. bind (store p (judged p W) k c ta y h) (λ u t. Go (cond (is_prefix op) u i) t)))) g)
            (omega (arith, cost, step_cost op ta, conversion_costs p.model ta c)) (omega arith))
            (λ v u g. g ∙ either_value (λ k. typed p.model ta v m.net k) (is_prefix op) ws xs) (λ v l. refl) (omega arith) (omega arith);
      }

  -- ---- what the calls of the code promise, whose types are those of the parts
  -- the target comes first
  pub assign_target : {s : Sym} (f : ℕ) (spot : Spot) (ty : Option IntType) (op : Option BinOp) (a b : Exp) → Ready p W n at s (Expr spot ty (Assign op a b)) → f ≤ 16 + assignment p op a b → TargetReady p W n at f s a
  assign_target f spot ty op a b h cost =
      let q = assign_parts p spot ty op a b h.types in
      record { fits = h.fits; target = q.target; types = q.typed_target; duty = h.duty; room = omega (arith, cost, h.room) }

  pub step_target : {s : Sym} (f : ℕ) (spot : Spot) (ty : Option IntType) (op : StepOp) (a : Exp) → Ready p W n at s (Expr spot ty (Step op a)) → f ≤ 16 + (read_weight p a + written p a) → TargetReady p W n at f s a
  step_target f spot ty op a h cost =
      let q = step_parts p spot ty op a h.types in
      record { fits = h.fits; target = q.0; types = q.2; duty = h.duty; room = omega (arith, cost, h.room) }

  -- then the right side
  pub assign_value : {s x x2 : Sym} {f r : ℕ} {keys : Keys} (spot : Spot) (ty : Option IntType) (op : Option BinOp) (a b : Exp) → Ready p W n at s (Expr spot ty (Assign op a b)) → Targets p W n at f a keys s x
      → IsState p x2 → Added r 0 x.net x2.net → f + r ≤ 16 + assignment p op a b → Ready p W n at x2 b
  assign_value spot ty op a b h gt fits added cost = record {
    fits = fits;
    types = (assign_parts p spot ty op a b h.types).typed_value;
    duty = h.duty;
    room = omega (arith, cost, (longer_by gt.follows.added).1, (longer_by added).1, h.room);
  }

  pub replace_sides : {s x y : Sym} {ys : List Bit} {f : ℕ} {keys : Keys} (w : ℕ) (spot : Spot) (ty : Option IntType) (a b : Exp) (tb : IntType) → tb ≡ type_of b
      → Ready p W n at s (Expr spot ty (Assign None a b)) → Targets p W n at f a keys s x → Values p W n at Used b x y ys → f + w ≤ conversion p.model (type_of b) (type_of a) + written p a
      → AreTyped p.model tb y.net ys × (length y.net + w < 2 ^ 28)
  replace_sides w spot ty a b tb eb h gt gb cost = (
    rw eb (value_in p W n at b (type_of b) (has_one b (assign_parts p spot ty None a b h.types).value) gb),
    omega (arith, cost, (longer_by gt.follows.added).1, (longer_by gb.follows.added).1, h.room),
  )

  pub replace_step : {s x y m : Sym} {ys rs : List Bit} {f w : ℕ} {keys : Keys} (spot : Spot) (ty : Option IntType) (a b : Exp) (ta tb : IntType) → ta ≡ type_of a → tb ≡ type_of b → Ready p W n at s (Expr spot ty (Assign None a b))
      → Targets p W n at f a keys s x → Values p W n at Used b x y ys → Gives p W w 0 y m (Some ta) rs (stored_at p W keys tb ta ys y)
      → f + w ≤ conversion p.model (type_of b) (type_of a) + written p a → Values p W n at Used (Expr spot ty (Assign None a b)) s m rs
  replace_step {y = y} {m = m} {ys = ys} {rs = rs} {w = w} {keys = keys} spot ty a b ta tb ea eb h gt gb gs cost =
      replace_values spot ty a b h gt gb
      (subst (λ z. Gives p W w 0 y m (Some z) rs (stored_at p W keys (type_of b) z ys y)) ea (subst (λ z. Gives p W w 0 y m (Some ta) rs (stored_at p W keys z ta ys y)) eb gs)) cost

  pub update_sides : {s x x2 y : Sym} {xs ys : List Bit} {deed : Deed ℤ} {f r : ℕ} {keys : Keys} (spot : Spot) (ty : Option IntType) (op : BinOp) (a b : Exp) (ta tb : IntType) → ta ≡ type_of a → tb ≡ type_of b
      → Ready p W n at s (Expr spot ty (Assign (Some op) a b)) → Targets p W n at f a keys s x → Gives p W r 0 x x2 (Some ta) xs deed → Values p W n at Used b x2 y ys
      → f + r ≤ 11 + (conversion p.model (type_for p.model op (type_of a) (type_of b)) (type_of a) + (read_weight p a + written p a))
      → AreTyped p.model ta y.net xs × AreTyped p.model tb y.net ys × (length y.net + operated_cost p.model op ta tb < 2 ^ 27)
  update_sides {y = y} {xs = xs} {ys = ys} {r = r} spot ty op a b ta tb ea eb h gt gl gb cost =
      let q = assign_parts p spot ty (Some op) a b h.types in
      let c = type_for p.model op (type_of a) (type_of b) in
      let same : operated_cost p.model op ta tb ≡ operated_cost p.model op (type_of a) (type_of b) = ap₂ (λ i j. operated_cost p.model op i j) ea eb in (
        are_typed_added gb.follows.added gl.bits_in,
        rw eb (value_in p W n at b (type_of b) (has_one b q.value) gb),
        omega (arith, cost, same, conversion_costs p.model (type_of a) c, conversion_costs p.model (type_of b) (right_type_for op c (type_of b)), operator_costs p.model op c, (longer_by gt.follows.added).1, (longer_by gl.follows.added).1, (longer_by gb.follows.added).1, h.room),
      )

  pub update_last : {s x x2 y z : Sym} {xs ys zs : List Bit} {look deed : Deed ℤ} {f r : ℕ} {keys : Keys} (w : ℕ) (spot : Spot) (ty : Option IntType) (op : BinOp) (a b : Exp) (ta tb tc : IntType) → ta ≡ type_of a → tb ≡ type_of b → tc ≡ type_for p.model op ta tb
      → Ready p W n at s (Expr spot ty (Assign (Some op) a b)) → Targets p W n at f a keys s x → Gives p W r 0 x x2 (Some ta) xs look → Values p W n at Used b x2 y ys
      → Gives p W (operated_cost p.model op ta tb) 0 y z (Some (binary_type op (type_for p.model op ta tb))) zs deed
      → f + (r + w) ≤ conversion p.model (type_for p.model op (type_of a) (type_of b)) (type_of a) + (read_weight p a + written p a)
      → AreTyped p.model tc z.net zs × (length z.net + w < 2 ^ 28)
  update_last {z = z} {zs = zs} w spot ty op a b ta tb tc ea eb ec h gt gl gb go cost =
      let q = assign_parts p spot ty (Some op) a b h.types in
      let c = type_for p.model op (type_of a) (type_of b) in
      let same : operated_cost p.model op ta tb ≡ operated_cost p.model op (type_of a) (type_of b) = ap₂ (λ i j. operated_cost p.model op i j) ea eb in (
        rw ec (subst (λ k. AreTyped p.model k z.net zs) (assigned_type op (type_for p.model op ta tb) q.number) go.bits_in),
        omega (arith, cost, same, conversion_costs p.model (type_of a) c, conversion_costs p.model (type_of b) (right_type_for op c (type_of b)), operator_costs p.model op c, (longer_by gt.follows.added).1, (longer_by gl.follows.added).1, (longer_by gb.follows.added).1, (longer_by go.follows.added).1, h.room),
      )

  pub update_step : {s x x2 y z m : Sym} {xs ys zs rs : List Bit} {f r w : ℕ} {keys : Keys} (spot : Spot) (ty : Option IntType) (op : BinOp) (a b : Exp) (ta tb tc : IntType) → ta ≡ type_of a → tb ≡ type_of b → tc ≡ type_for p.model op ta tb
      → Ready p W n at s (Expr spot ty (Assign (Some op) a b)) → Targets p W n at f a keys s x → Gives p W r 0 x x2 (Some ta) xs (looked_at p W keys) → Values p W n at Used b x2 y ys
      → Gives p W (operated_cost p.model op ta tb) 0 y z (Some (binary_type op (type_for p.model op ta tb))) zs (operated p W at spot op ta xs tb ys y)
      → Gives p W w 0 z m (Some ta) rs (stored_at p W keys tc ta zs z)
      → f + (r + w) ≤ conversion p.model (type_for p.model op (type_of a) (type_of b)) (type_of a) + (read_weight p a + written p a) → Values p W n at Used (Expr spot ty (Assign (Some op) a b)) s m rs
  update_step {s} {x} {x2} {y} {z} {m} {xs} {ys} {zs} {rs} {f} {r} {w} {keys} spot ty op a b ta tb tc ea eb ec h gt gl gb go gs cost =
      let a1 = type_of a in
      let b1 = type_of b in
      update_values spot ty op a b h gt (subst (λ k. Gives p W r 0 x x2 (Some k) xs (looked_at p W keys)) ea gl) gb
      (subst (λ k. Gives p W (operated_cost p.model op a1 k) 0 y z (Some (binary_type op (type_for p.model op a1 k))) zs (operated p W at spot op a1 xs k ys y)) eb
      (subst (λ k. Gives p W (operated_cost p.model op k tb) 0 y z (Some (binary_type op (type_for p.model op k tb))) zs (operated p W at spot op k xs tb ys y)) ea go))
      (subst (λ k. Gives p W w 0 z m (Some a1) rs (stored_at p W keys k a1 zs z)) (ec ∙ ap₂ (λ i j. type_for p.model op i j) ea eb) (subst (λ k. Gives p W w 0 z m (Some k) rs (stored_at p W keys tc k zs z)) ea gs)) cost

  pub step_sides : {s x x2 : Sym} {xs : List Bit} {deed : Deed ℤ} {f r : ℕ} {keys : Keys} (spot : Spot) (ty : Option IntType) (op : StepOp) (a : Exp) (ta : IntType) (by : BinOp) → ta ≡ type_of a → by ≡ op_of_step op
      → Ready p W n at s (Expr spot ty (Step op a)) → Targets p W n at f a keys s x → Gives p W r 0 x x2 (Some ta) xs deed → f + r ≤ 11 + (read_weight p a + written p a) → length x2.net + operated_cost p.model by ta Int < 2 ^ 27
  step_sides spot ty op a ta by ea eo h gt gl cost =
      let same : operated_cost p.model by ta Int ≡ operated_cost p.model (op_of_step op) (type_of a) Int = ap₂ (λ i j. operated_cost p.model i j Int) eo ea in
      omega (arith, cost, same, step_cost op (type_of a), conversion_costs p.model (type_of a) (type_for p.model (op_of_step op) (type_of a) Int), (longer_by gt.follows.added).1, (longer_by gl.follows.added).1, h.room)

  pub step_last : {s x x2 z : Sym} {xs zs : List Bit} {look deed : Deed ℤ} {f r : ℕ} {keys : Keys} (w : ℕ) (spot : Spot) (ty : Option IntType) (op : StepOp) (a : Exp) (ta tc : IntType) (by : BinOp) → ta ≡ type_of a → by ≡ op_of_step op → tc ≡ type_for p.model by ta Int
      → Ready p W n at s (Expr spot ty (Step op a)) → Targets p W n at f a keys s x → Gives p W r 0 x x2 (Some ta) xs look → Gives p W (operated_cost p.model by ta Int) 0 x2 z (Some (binary_type by (type_for p.model by ta Int))) zs deed
      → f + (r + w) ≤ conversion p.model (type_for p.model (op_of_step op) (type_of a) Int) (type_of a) + (read_weight p a + written p a)
      → AreTyped p.model tc z.net zs × (length z.net + w < 2 ^ 28)
  step_last {z = z} {zs = zs} w spot ty op a ta tc by ea eo ec h gt gl go cost =
      let same : operated_cost p.model by ta Int ≡ operated_cost p.model (op_of_step op) (type_of a) Int = ap₂ (λ i j. operated_cost p.model i j Int) eo ea in
      let plain : binary_type by (type_for p.model by ta Int) ≡ type_for p.model by ta Int = subst (λ k. binary_type k (type_for p.model k ta Int) ≡ type_for p.model k ta Int) (sym eo) (stepped_type op (type_for p.model (op_of_step op) ta Int)) in (
        rw ec (subst (λ k. AreTyped p.model k z.net zs) plain go.bits_in),
        omega (arith, cost, same, step_cost op (type_of a), conversion_costs p.model (type_of a) (type_for p.model (op_of_step op) (type_of a) Int), (longer_by gt.follows.added).1, (longer_by gl.follows.added).1, (longer_by go.follows.added).1, h.room),
      )

  pub step_step : {s x x2 z m : Sym} {xs ones zs ws : List Bit} {f r w : ℕ} {keys : Keys} (spot : Spot) (ty : Option IntType) (op : StepOp) (a : Exp) (ta tc : IntType) (by : BinOp) → ta ≡ type_of a → by ≡ op_of_step op → tc ≡ type_for p.model by ta Int
      → Ready p W n at s (Expr spot ty (Step op a)) → Targets p W n at f a keys s x → Gives p W r 0 x x2 (Some ta) xs (looked_at p W keys) → Reads p.model Int x2.net ones (λ v. pos 1)
      → Gives p W (operated_cost p.model by ta Int) 0 x2 z (Some (binary_type by (type_for p.model by ta Int))) zs (operated p W at spot by ta xs Int ones x2)
      → Gives p W w 0 z m (Some ta) ws (stored_at p W keys tc ta zs z)
      → f + (r + w) ≤ conversion p.model (type_for p.model (op_of_step op) (type_of a) Int) (type_of a) + (read_weight p a + written p a) → (prefix : Bool) → is_prefix op ≡ prefix
      → Values p W n at Used (Expr spot ty (Step op a)) s m (cond prefix ws xs)
  step_step {s} {x} {x2} {z} {m} {xs} {ones} {zs} {ws} {f} {r} {w} {keys} spot ty op a ta tc by ea eo ec h gt gl r1 go gs cost prefix ep =
      let a1 = type_of a in
      subst (λ b. Values p W n at Used (Expr spot ty (Step op a)) s m (cond b ws xs)) ep
      (step_values spot ty op a h gt (subst (λ k. Gives p W r 0 x x2 (Some k) xs (looked_at p W keys)) ea gl) r1
      (subst (λ k. Gives p W (operated_cost p.model (op_of_step op) k Int) 0 x2 z (Some (binary_type (op_of_step op) (type_for p.model (op_of_step op) k Int))) zs (operated p W at spot (op_of_step op) k xs Int ones x2)) ea
      (subst (λ k. Gives p W (operated_cost p.model k ta Int) 0 x2 z (Some (binary_type k (type_for p.model k ta Int))) zs (operated p W at spot k ta xs Int ones x2)) eo go))
      (subst (λ k. Gives p W w 0 z m (Some a1) ws (stored_at p W keys k a1 zs z)) (ec ∙ ap₂ (λ i j. type_for p.model i j Int) eo ea) (subst (λ k. Gives p W w 0 z m (Some k) ws (stored_at p W keys tc k zs z)) ea gs)) cost)
