-- Calls by a function's number: where its body is reached, and where the run ends before it.
use Rattle.std.proofs.Common.{◌≡◌, ℕ, zero, suc, ◌+◌, ◌≤◌, ◌<◌, Bool, true, false, ◌&&◌, ℤ, List, [], ◌∷◌, length, map, get_or, drop, nat_eq, refl, sym, ◌∙◌, ap, ap₂, subst, arith, true≢false, Option, Some, None, is_some, IsTrue, slice_get}
use Rattle.std.specs.List.{list_all}
use Rattle.std.proofs.lemmas.Option.{none-some}
use Rattle.c_core.specs.Tree.{Program, Expr, Call, Exps, NoExp, MoreExp, Function}
use Rattle.c_core.specs.Parts.{exps_in, every_argument}
use Rattle.c_core.specs.Program.{types_fit}
use Rattle.c_core.specs.Typing.{exp_fits, function_fits, has_value, are_values, is_call_of, same_types}
use Rattle.c_core.specs.declared.number.DataModel.{DataModel}
use Rattle.c_core.specs.declared.number.IntType.{IntType}
use Rattle.c_core.specs.declared.number.Spot.{Spot}
use Rattle.c_core.specs.declared.tree.Callee.TheVariants.{Defined}
use Rattle.c_meaning.specs.Acts.{Res, Stop, bind, scoped, given, cut}
use Rattle.c_meaning.specs.Eval.{is_used}
use Rattle.c_meaning.specs.Exec.{with_params, call_of, run_in}
use Rattle.c_meaning.specs.Fitting.{calls_in}
use Rattle.c_meaning.specs.Havoc.{Stopped, Passes}
use Rattle.sym_meaning.specs.Mode.{JudgedState, cells_judged, with_cells_judged, Mode}
use Rattle.c_meaning.specs.declared.run.Event.TheVariants.{Enter}
use Rattle.sym_meaning.specs.Judged.{judged, returned, stop, tell}
use Rattle.c_meaning.specs.Meaning.{AParameter, Use, Used, Unused, Site}
use Rattle.c_meaning.specs.Objects.{type_of, type_or_int, type_of_object}
use Rattle.c_meaning.proofs.TypeFacts.{both, neither, some_same, one_result}
use Rattle.circuits.specs.declared.net.Bit.{Bit}
use Rattle.circuits.specs.declared.net.NetNode.{NetNode}
use Rattle.circuits.specs.Numbers.{typed, AreTyped}
use Rattle.sym_state.specs.declared.state.Sym.{Sym}
use Rattle.sym_state.specs.declared.state.Around.{Around}
use Rattle.sym_state.specs.Standing.{stand, Turned}
use Rattle.sym_state.specs.Telling.{telling}
use Rattle.sym_state.proofs.Telling.{told_follows}
use Rattle.sym_state.specs.Following.{left_of, Deed, Came, Follows, AreOf, IsNumber}
use Rattle.sym_state.proofs.Nets.{longer_by}
use Rattle.sym_state.proofs.Composed.{follows_then, follows_as}
use Rattle.sym_flow.specs.Calling.{is_value}
use Rattle.sym_flow.proofs.Declares.{no_ticks}
use Rattle.sym_flow.proofs.Forms.{call_follows}
use Rattle.sym_scale.specs.Cost.{function_body, function_of, nodes_in, bits_in, nodes, bits}
use Rattle.sym_weight.specs.Table.{call_weight, params_of, passed, stored}
use Rattle.sym_eval.specs.Calling.{values_at, set_cost, Ended, AllReady, AllValues, weight_of_call, bits_of_call, CallReady, Called, weight_of_run, bits_of_run, RunReady, HasRun}
use Rattle.sym_exprs.specs.Evaluating.{weight_of, bits_of, IsWanted, Ready, Values}
use Rattle.sym_eval.specs.declared.parameters.Argument.{Argument}
use Rattle.sym_eval.proofs.Setting.{declared, set_one, values_added, arguments_added}

-- ---- what is asked of a value
wanted_of : (m : DataModel) (needed : Bool) (ty : Option IntType) (net : List NetNode) (bits : List Bit) (v : ℕ → Bool) (z : ℤ) → is_value needed (typed m (type_or_int ty) v net bits) z → needed ≡ true → IsNumber m ty net bits v z
wanted_of m needed None net bits v z h e = tt
wanted_of m true (Some ty) net bits v z h e = h
wanted_of m false (Some ty) net bits v z h e = absurd (true≢false (sym e))

wanted_at : (m : DataModel) (want : Use) (ty : Option IntType) (net : List NetNode) (bits : List Bit) (v : ℕ → Bool) (z : ℤ) → ((is_used want && is_some ty) ≡ true → IsNumber m ty net bits v z) → IsWanted want m ty net bits v z
wanted_at m Unused ty net bits v z h = tt
wanted_at m Used None net bits v z h = tt
wanted_at m Used (Some ty) net bits v z h = h refl

are_of : (m : DataModel) (ty : Option IntType) (net : List NetNode) (bits : List Bit) → AreTyped m (type_or_int ty) net bits → AreOf m ty net bits
are_of m None net bits h = tt
are_of m (Some ty) net bits h = h

void_of : (want : Use) (ty : Option IntType) → ty ≡ None → (is_used want && is_some ty) ≡ false
void_of Unused ty e = refl
void_of Used ty e = ap is_some e

-- ---- what the types of a call say
called_types : (ty : Option IntType) (es : Exps) (o : Option Function) → IsTrue (is_call_of ty es o) → IsTrue (list_all has_value (exps_in es)) × ((fn : Function) → o ≡ Some fn → fn.result ≡ ty)
called_types ty es None h = neither h
called_types ty es (Some g) h =
    let a = both (are_values (length g.params) es) (same_types g.result ty) h in
    ((both (nat_eq (length (exps_in es)) (length g.params)) (list_all has_value (exps_in es)) a.0).1, λ fn e. ap (λ f. f.result) (sym (some_same e)) ∙ one_result g.result ty a.1)

one_of_all : {A : Type 0} (q : A → Bool) (xs : List A) (i : ℕ) (x : A) → slice_get xs i ≡ Some x → IsTrue (list_all q xs) → IsTrue (q x)
one_of_all q [] i x e h = absurd (none-some x e)
one_of_all q (y ∷ ys) zero x e h = subst (λ z. IsTrue (q z)) (some_same e) (both (q y) (list_all q ys) h).0
one_of_all q (y ∷ ys) (suc i) x e h = one_of_all q ys i x e (both (q y) (list_all q ys) h).1

none_cost : (p : Program) (os : List ℕ) → set_cost p os [] ≡ 0
none_cost p [] = refl
none_cost p (o ∷ os) = refl

-- parameters weigh what their arguments' types say
set_passed : (p : Program) (os : List ℕ) (xs : List Argument) (es : Exps) → map (λ x. x.ty) xs ≡ map type_of (exps_in es) → set_cost p os xs ≡ passed p os es
set_passed p [] xs es e = refl
set_passed p (o ∷ os) [] NoExp e = omega (arith, set_passed p os [] NoExp refl, none_cost p os)
set_passed p (o ∷ os) [] (MoreExp x es) e = absurd (omega (arith, ap length e))
set_passed p (o ∷ os) (x ∷ xs) NoExp e = absurd (omega (arith, ap length e))
set_passed p (o ∷ os) (x ∷ xs) (MoreExp y es) e = ap₂ (λ a b. stored p.model a (type_of_object p o) + b) (ap (λ zs. get_or zs 0 x.ty) e) (set_passed p os xs es (ap (drop 1) e))

-- ---- runs that end before the body
-- it ends, and fails nothing, with nothing drawn
record EndsAlike {A : Type 0} (r : Res Stopped JudgedState A) (s : JudgedState) : Type 0 where
  state : JudgedState
  is : r ≡ Stop Passes state
  values : state.values ≡ s.values
  draws : state.draws ≡ s.draws

ended_follows : {A B : Type 0} {i j k l : ℕ} {a b : Sym} {S : (ℕ → Bool) → A → Type 0} {T : (ℕ → Bool) → B → Type 0} {deed : Deed B} (p : Program) (W : Mode) → Follows W.duties p i j a b S (λ v. stop Passes)
    → ((v : ℕ → Bool) (s : JudgedState) → EndsAlike (deed v s) s) → i ≤ k → j ≤ l → Follows W.duties p k l a b T deed
ended_follows {a = a} {b = b} {T = T} p W x e h q = record {
  fits = x.fits;
  added = record { more = x.added.more; is = x.added.is; gates = omega (arith, x.added.gates, h); feeds = omega (arith, x.added.feeds, q); few = omega (arith, x.added.few, h, q) };
  level = x.level;
  result = x.result;
  moves = x.moves;
  does = λ v here vs rest t.
      let y = x.does v here vs rest t in
      let z = e v (left_of (stand p v a) vs) in
      subst (λ r. Came W.duties (T v) (stand p v b) rest r) (sym z.is) (y.0, z.values ∙ y.1, z.draws ∙ y.2);
}

module _ (p : Program) (W : Mode) where
  params_stop : (os : List ℕ) (vs : List (ℤ × IntType)) (s : JudgedState) → EndsAlike (with_params p (judged p W) os vs (λ may t. Stop Passes t) true s) s
  params_stop [] vs s = record { state = s; is = refl; values = refl; draws = refl }
  params_stop (o ∷ os) [] s = let h = params_stop os [] (declared p W o s) in record { state = h.state; is = h.is; values = h.values; draws = h.draws }
  params_stop (o ∷ os) (v ∷ vs) s = let h = params_stop os vs (set_one p W o v s) in record { state = h.state; is = h.is; values = h.values; draws = h.draws }

  deep_stops : (site : Site) (o : Option Function) (vs : List (ℤ × IntType)) (s : JudgedState) → EndsAlike (call_of p (judged p W) (run_in p (judged p W) zero) site o vs s) s
  deep_stops site None vs s = record { state = s; is = refl; values = refl; draws = refl }
  deep_stops site (Some fn) vs s =
      let h = params_stop fn.params vs s in
      record {
        state = h.state;
        is = ap (λ r. bind r (λ u t. bind (scoped Stopped JudgedState cells_judged with_cells_judged (with_params p (judged p W) fn.params vs (run_in p (judged p W) zero fn) true) t) (λ flow. returned p W site (given flow)))) (no_ticks p W AParameter (length fn.params) s)
            ∙ ap (λ r. bind (cut Stopped JudgedState cells_judged with_cells_judged (length s.cells) r) (λ flow. returned p W site (given flow))) h.is;
        values = h.values;
        draws = h.draws;
      }

  missing_stops : (n : ℕ) (site : Site) (o : Option Function) (vs : List (ℤ × IntType)) (s : JudgedState) → o ≡ None → EndsAlike (call_of p (judged p W) (run_in p (judged p W) n) site o vs s) s
  missing_stops n site o vs s e = record { state = s; is = ap (λ o. call_of p (judged p W) (run_in p (judged p W) n) site o vs s) e; values = refl; draws = refl }

  module _ (close : Spot) (n f : ℕ) (needed : Bool) (ty : Option IntType) (xs : List Argument) {s r : Sym} {bits : List Bit} (x : Ended p ty s r bits) where
    stopped_called : ((site : Site) (vs : List (ℤ × IntType)) (t : JudgedState) → EndsAlike (calls_in p (judged p W) n site f vs t) t) → Called p W n close f needed ty xs s r bits
    stopped_called h = record { bits_in = x.bits_in; follows = λ site c e. ended_follows p W (x.follows W) (λ v t. h site (values_at p v s.net xs) t) (omega arith) (omega arith) }

    -- no call is so deep
    deep_called : n ≡ 0 → Called p W n close f needed ty xs s r bits
    deep_called e = stopped_called (λ site vs t. subst (λ k. EndsAlike (calls_in p (judged p W) k site f vs t) t) (sym e) (deep_stops site (slice_get p.functions f) vs t))

    -- there is no such function
    missing_called : slice_get p.functions f ≡ None → Called p W n close f needed ty xs s r bits
    missing_called e = stopped_called (λ site vs t. missing_stops n site (slice_get p.functions f) vs t e)

  pub ended_called : (close : Spot) (n f : ℕ) (needed : Bool) (ty : Option IntType) (xs : List Argument) {s r : Sym} {bits : List Bit} → Ended p ty s r bits → (0 < n → slice_get p.functions f ≡ None) → Called p W n close f needed ty xs s r bits
  ended_called close zero f needed ty xs x h = deep_called close zero f needed ty xs x refl
  ended_called close (suc n) f needed ty xs x h = missing_called close (suc n) f needed ty xs x (h (omega arith))

-- ---- the body is reached
module _ (p : Program) (W : Mode) (n m f : ℕ) (close : Spot) (needed : Bool) (ty : Option IntType) (fn : Function) (s : Sym) (xs : List Argument) (e : n ≡ suc m) (q : slice_get p.functions f ≡ Some fn) (h : CallReady p W n close f needed ty s xs) where
  same_weight : weight_of_call p W n f xs ≡ call_weight + weight_of_run p W m fn xs
  same_weight = ap (λ k. weight_of_call p W k f xs) e ∙ ap (λ o. call_weight + (set_cost p (params_of o) xs + function_of p (nodes p W.scale m) o)) q

  same_bits : bits_of_call p W n f ≡ bits_of_run p W m fn
  same_bits = ap (λ k. bits_in p W.scale k f) e ∙ ap (λ o. function_of p (bits p W.scale m) o) q

  -- the body weighs what the function does, unfolded once more
  pub found_nodes : nodes_in p W.scale n (set_cost p (params_of (slice_get p.functions f)) xs) f ≡ set_cost p (params_of (slice_get p.functions f)) xs + function_body p (nodes p W.scale m) fn.result fn.body
  found_nodes = let c = set_cost p (params_of (slice_get p.functions f)) xs in ap (λ k. nodes_in p W.scale k c f) e ∙ ap (λ o. c + function_of p (nodes p W.scale m) o) q

  pub found_ready : IsTrue (types_fit p) → RunReady p W m close needed fn s xs
  found_ready t = record {
    fits = h.fits;
    arguments = h.arguments;
    types = one_of_all (function_fits p) p.functions f fn q t;
    void = λ k. h.void (sym (h.result fn q) ∙ k);
    room = omega (arith, same_weight, same_bits, h.room);
  }

  pub found_called : {r : Sym} {bits : List Bit} → HasRun p W m close needed fn xs s r bits → Called p W n close f needed ty xs s r bits
  found_called {r} {bits} x =
      let k = h.result fn q in
      record {
        bits_in = are_of p.model ty r.net bits (subst (λ t. AreTyped p.model (type_or_int t) r.net bits) k x.bits_in);
        follows = λ site ec en.
            follows_as p W.duties (call_follows p W W.duties (run_in p (judged p W) (suc m)) site fn (λ v. values_at p v s.net xs) (x.follows site ec en))
            (λ v z w. wanted_of p.model needed ty r.net bits v z (subst (λ t. is_value needed (typed p.model (type_or_int t) v r.net bits) z) k w))
            (λ v t. ap₂ (λ k o. call_of p (judged p W) (run_in p (judged p W) k) site o (values_at p v s.net xs) t) (sym e) (sym q))
            (omega (arith, same_weight)) (omega (arith, same_bits));
      }

-- ---- the whole call
module _ (p : Program) (W : Mode) (n : ℕ) (at : Around) (want : Use) (spot close : Spot) (ty : Option IntType) (f : ℕ) (es : Exps) {s : Sym} (h : Ready p W n at s (Expr spot ty (Call (Defined f) es close))) where
  types_of_call : IsTrue (is_call_of ty es (slice_get p.functions f)) × IsTrue (every_argument (exp_fits p) es)
  types_of_call = both (is_call_of ty es (slice_get p.functions f)) (every_argument (exp_fits p) es) h.types

  pub arguments_ready : AllReady p W n at s es
  arguments_ready = record {
    fits = h.fits;
    types = types_of_call.1;
    values = (called_types ty es (slice_get p.functions f) types_of_call.0).0;
    duty = h.duty;
    room = omega (arith, h.room);
  }

  module _ {m : Sym} {xs : List Argument} (needed : Bool) (en : needed ≡ (is_used want && is_some ty)) (x : AllValues p W n at es s m xs) where
    same_passed : set_cost p (params_of (slice_get p.functions f)) xs ≡ passed p (params_of (slice_get p.functions f)) es
    same_passed = set_passed p (params_of (slice_get p.functions f)) xs es x.types

    called_weight : weight_of_call p W n f xs ≡ call_weight + nodes_in p W.scale n (passed p (params_of (slice_get p.functions f)) es) f
    called_weight = ap (λ k. call_weight + nodes_in p W.scale n k f) same_passed

    pub call_ready : {k : Sym} → Turned p (W.scale.enters close) 0 m k (λ v. telling W (Enter close)) → CallReady p W n close f needed ty k xs
    call_ready ev = record {
      fits = ev.fits;
      arguments = arguments_added p ev.added xs x.bits_in;
      result = (called_types ty es (slice_get p.functions f) types_of_call.0).1;
      void = λ e. en ∙ void_of want ty e;
      room = omega (arith, called_weight, h.room, (longer_by x.follows.added).1, (longer_by ev.added).1);
    }

    -- what the call costs after its arguments is less than the expression
    pub call_within : nodes_in p W.scale n (set_cost p (params_of (slice_get p.functions f)) xs) f + 64 ≤ weight_of p W n (Expr spot ty (Call (Defined f) es close))
    call_within = omega (arith, called_weight)

    pub call_values : {k r : Sym} {bits : List Bit} → Turned p (W.scale.enters close) 0 m k (λ v. telling W (Enter close)) → Called p W n close f needed ty xs k r bits → Values p W n at want (Expr spot ty (Call (Defined f) es close)) s r bits
    call_values {k} {r} {bits} ev y =
        let whole = Expr spot ty (Call (Defined f) es close) in
        let site : Site = record { spot = spot; close = close; needed = is_used want && is_some ty } in
        record {
          bits_in = y.bits_in;
          follows = follows_as p W.duties (follows_then p W.duties (weight_of p W n whole) (bits_of p W n whole) (λ v vs s. bind (tell p W (Enter close) s) (λ u. calls_in p (judged p W) n site f vs)) x.follows
              (follows_then p W.duties (W.scale.enters close + (W.scale.returns close + weight_of_call p W n f xs)) (bits_of_call p W n f) (λ v u. calls_in p (judged p W) n site f (values_at p v m.net xs)) (told_follows p W (λ v. Enter close) ev)
              (y.follows site refl (sym en)) (λ v u q t. ap (λ z. calls_in p (judged p W) n site f z t) (sym (values_added p ev.added v xs x.bits_in))) (omega arith) (omega arith))
              (λ v vs q t. ap (λ z. bind (tell p W (Enter close) t) (λ u. calls_in p (judged p W) n site f z)) q) (omega (arith, called_weight)) (omega arith))
              (λ v z w. wanted_at p.model want ty r.net bits v z (λ u. w (en ∙ u))) (λ v t. refl) (omega arith) (omega arith);
        }
