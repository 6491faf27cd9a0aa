-- Parameters that get their arguments, one after the other.
use Rattle.std.proofs.Common.{◌≡◌, ℕ, zero, suc, ◌+◌, ◌≤◌, ◌<◌, ◌^◌, Bool, ℤ, List, [], ◌∷◌, ◌++◌, length, take, drop, get_or, refl, sym, ◌∙◌, ap, ap₂, subst, arith, Some, None, slice_get, true}
use Rattle.std.proofs.Math.Seq.{drop-nil}
use Rattle.std.proofs.lemmas.List.{drop-map, length-take-le}
use Rattle.std.proofs.Math.Seq.{take-suc}
use Rattle.std.proofs.lemmas.Option.{none-some}
use Rattle.std.proofs.lemmas.List.Elements.{All-head, All-tail, All-cons, All-nil}
use Rattle.c_core.specs.Tree.{Program}
use Rattle.c_core.specs.Types.{fit}
use Rattle.c_core.specs.declared.number.IntType.{IntType}
use Rattle.c_meaning.specs.Acts.{Go, Next, bind, go_on}
use Rattle.c_meaning.specs.Acts as acts
use Rattle.c_meaning.specs.Cells.{put, cells_from}
use Rattle.c_meaning.specs.Eval.{store}
use Rattle.c_meaning.specs.Exec.{with_params}
use Rattle.c_meaning.specs.Havoc.{Stopped}
use Rattle.sym_meaning.specs.Mode.{JudgedState, cells_judged, with_cells_judged, Mode, Turn}
use Rattle.sym_meaning.specs.Obliging.{obliging}
use Rattle.sym_meaning.specs.Judged.{judged}
use Rattle.c_meaning.specs.Objects.{type_of_object}
use Rattle.c_meaning.proofs.TypeFacts.{some_same}
use Rattle.circuits.specs.declared.net.Bit.{Bit}
use Rattle.circuits.specs.declared.net.NetNode.{NetNode}
use Rattle.sym_state.specs.declared.state.Sym.{Sym}
use Rattle.sym_state.specs.Places.{key}
use Rattle.sym_state.specs.Standing.{IsState, Added}
use Rattle.sym_state.proofs.Nets.{longer_by, typed_added, are_typed_added}
use Rattle.sym_values.specs.Valuing.{Gives}
use Rattle.sym_values.specs.Storing.{stored_cost, stored_in}
use Rattle.sym_flow.specs.Ways.{Became, declaring}
use Rattle.sym_flow.proofs.Statements.{follows_runs, runs_then, runs_as, skip_runs}
use Rattle.sym_flow.proofs.Declares.{declare_runs, params_lack}
use Rattle.sym_exprs.proofs.Costs.{conversion_costs}
use Rattle.sym_eval.specs.Calling.{value_at, values_at, IsArgument, AreArguments, set_cost, Sets}
use Rattle.sym_eval.specs.declared.parameters.Argument.{Argument}

module _ (p : Program) where
  -- ---- arguments keep their values while the net grows
  pub values_added : {i j : ℕ} {old new : List NetNode} → Added i j old new → (v : ℕ → Bool) (xs : List Argument) → AreArguments p old xs → values_at p v new xs ≡ values_at p v old xs
  values_added g v [] h = refl
  values_added {old = old} g v (x ∷ xs) h =
      ap₂ (λ a b. a ∷ b) (ap (λ z. (z, x.ty)) (typed_added g p.model x.ty v x.bits.bits (All-head (IsArgument p old) x xs h))) (values_added g v xs (All-tail (IsArgument p old) x xs h))

  pub arguments_added : {i j : ℕ} {old new : List NetNode} → Added i j old new → (xs : List Argument) → AreArguments p old xs → AreArguments p new xs
  arguments_added {new = new} g [] h = All-nil (IsArgument p new)
  arguments_added {old = old} {new = new} g (x ∷ xs) h = All-cons (IsArgument p new) x xs (are_typed_added g (All-head (IsArgument p old) x xs h)) (arguments_added g xs (All-tail (IsArgument p old) x xs h))

  pub argument_at : (net : List NetNode) (xs : List Argument) (i : ℕ) (x : Argument) → slice_get xs i ≡ Some x → AreArguments p net xs → IsArgument p net x
  argument_at net [] i x e h = absurd (none-some x e)
  argument_at net (y ∷ ys) zero x e h = subst (IsArgument p net) (some_same e) (All-head (IsArgument p net) y ys h)
  argument_at net (y ∷ ys) (suc i) x e h = argument_at net ys i x e (All-tail (IsArgument p net) y ys h)

  -- ---- costs
  set_cost_snoc : (os : List ℕ) (o : ℕ) (xs : List Argument) → set_cost p (os ++ o ∷ []) xs ≡ set_cost p os xs + set_cost p (o ∷ []) (drop (length os) xs)
  set_cost_snoc [] o xs = omega arith
  set_cost_snoc (q ∷ os) o [] = omega arith
  set_cost_snoc (q ∷ os) o (x ∷ xs) = let h = set_cost_snoc os o xs in omega (arith, h)

  set_cost_front : (k : ℕ) (os : List ℕ) (xs : List Argument) → set_cost p (take k os) xs ≤ set_cost p os xs
  set_cost_front zero [] xs = omega arith
  set_cost_front zero (o ∷ os) xs = omega arith
  set_cost_front (suc k) [] xs = omega arith
  set_cost_front (suc k) (o ∷ os) [] = omega arith
  set_cost_front (suc k) (o ∷ os) (x ∷ xs) = let h = set_cost_front k os xs in omega (arith, h)

-- what is left of a list from an index on
pub dropped_some : {A : Type 0} (xs : List A) (i : ℕ) (x : A) → slice_get xs i ≡ Some x → drop i xs ≡ x ∷ drop (suc i) xs
dropped_some [] i x e = absurd (none-some x e)
dropped_some (y ∷ ys) zero x e = ap (λ z. z ∷ ys) (some_same e)
dropped_some (y ∷ ys) (suc i) x e = dropped_some ys i x e

pub dropped_none : {A : Type 0} (xs : List A) (i : ℕ) → slice_get xs i ≡ None → drop i xs ≡ []
dropped_none [] i e = drop-nil i
dropped_none (y ∷ ys) zero e = absurd (none-some y (sym e))
dropped_none (y ∷ ys) (suc i) e = dropped_none ys i e

module _ (p : Program) (W : Mode) where
  abbrev pub next : Turn
  next may s = Go Next s

  -- a cell more of an object, and its value
  abbrev pub declared : ℕ → JudgedState → JudgedState
  declared o s = with_cells_judged (s.cells ++ cells_from o 0 1 []) s

  abbrev pub set_one : ℕ → ℤ × IntType → JudgedState → JudgedState
  set_one o v s = with_cells_judged (put (key o 0) (fit p.model (type_of_object p o) v.0) (declared o s).cells) (declared o s)

  -- parameters, and then what is behind them
  pub params_then : (os : List ℕ) (vs : List (ℤ × IntType)) (k : Turn) (s : JudgedState) → with_params p (judged p W) os vs k true s ≡ bind (with_params p (judged p W) os vs next true s) (go_on (k true))
  params_then [] vs k s = refl
  params_then (o ∷ os) [] k s = params_then os [] k (declared o s)
  params_then (o ∷ os) (v ∷ vs) k s = params_then os vs k (set_one o v s)

  -- and one more
  params_snoc : (os : List ℕ) (o : ℕ) (vs : List (ℤ × IntType)) (k : Turn) (s : JudgedState)
      → with_params p (judged p W) (os ++ o ∷ []) vs k true s ≡ bind (with_params p (judged p W) os vs next true s) (go_on (with_params p (judged p W) (o ∷ []) (drop (length os) vs) k true))
  params_snoc [] o vs k s = refl
  params_snoc (q ∷ os) o [] k s =
      subst (λ w. with_params p (judged p W) (os ++ o ∷ []) [] k true (declared q s) ≡ bind (with_params p (judged p W) os [] next true (declared q s)) (go_on (with_params p (judged p W) (o ∷ []) w k true)))
      (drop-nil (length os)) (params_snoc os o [] k (declared q s))
  params_snoc (q ∷ os) o (v ∷ vs) k s = params_snoc os o vs k (set_one q v s)

module _ (p : Program) where
  pub none_set : (a : Sym) (os : List ℕ) (xs : List Argument) → IsState p a → Sets p (take 0 os) xs a a
  none_set a [] xs h = λ W gives. skip_runs p W.duties gives a h
  none_set a (o ∷ os) xs h = λ W gives. skip_runs p W.duties gives a h

  more_set : {a b c : Sym} (os : List ℕ) (o : ℕ) (xs : List Argument) → AreArguments p a.net xs → Sets p os xs a b → Sets p (o ∷ []) (drop (length os) xs) b c → Sets p (os ++ o ∷ []) xs a c
  more_set {a} {b} {c} os o xs h f g = λ W gives.
      let x = f W gives in
      let k = length os in
      let same : (v : ℕ → Bool) → values_at p v b.net (drop k xs) ≡ drop k (values_at p v a.net xs) = λ v. sym (drop-map (value_at p v b.net) k xs) ∙ ap (drop k) (values_added p x.added v xs h) in
      runs_as p W.duties gives (runs_then p W.duties gives (set_cost p (os ++ o ∷ []) xs) 0 x (g W gives) (omega (arith, set_cost_snoc p os o xs)) (omega arith))
      (λ v s.
      ap (λ w. bind (with_params p (judged p W) os (values_at p v a.net xs) (next p W) true s) (go_on (with_params p (judged p W) (o ∷ []) w (next p W) true))) (same v)
      ∙ sym (params_snoc p W os o (values_at p v a.net xs) (next p W) s))
      (omega arith) (omega arith)

  -- the next parameter of a list
  pub next_set : {a b c : Sym} (os : List ℕ) (i j o d : ℕ) (xs : List Argument) → i < length os → j ≡ suc i → o ≡ get_or os i d → AreArguments p a.net xs → Sets p (take i os) xs a b → Sets p (o ∷ []) (drop i xs) b c → Sets p (take j os) xs a c
  next_set {a} {b} {c} os i j o d xs l e eo h f g =
      let n : length (take i os) ≡ i = length-take-le i os (omega (arith, l)) in
      let front : take i os ++ o ∷ [] ≡ take j os = ap (λ z. take i os ++ z ∷ []) eo ∙ sym (take-suc os i d l) ∙ ap (λ z. take z os) (sym e) in
      subst (λ z. Sets p z xs a c) front (more_set (take i os) o xs h f (subst (λ z. Sets p (o ∷ []) (drop z xs) b c) (sym n) g))

  -- room for the next one
  pub room_to_set : {a b : Sym} (os : List ℕ) (i o d : ℕ) (xs : List Argument) → i < length os → o ≡ get_or os i d → Sets p (take i os) xs a b → length a.net + set_cost p os xs < 2 ^ 28 → length b.net + set_cost p (o ∷ []) (drop i xs) < 2 ^ 28
  room_to_set {a} {b} os i o d xs l eo f r =
      let n : length (take i os) ≡ i = length-take-le i os (omega (arith, l)) in
      let front : take i os ++ o ∷ [] ≡ take (suc i) os = ap (λ z. take i os ++ z ∷ []) eo ∙ sym (take-suc os i d l) in
      let sum : set_cost p (take (suc i) os) xs ≡ set_cost p (take i os) xs + set_cost p (o ∷ []) (drop i xs) =
      ap (λ z. set_cost p z xs) (sym front) ∙ set_cost_snoc p (take i os) o xs ∙ ap (λ z. set_cost p (take i os) xs + set_cost p (o ∷ []) (drop z xs)) n in
      omega (arith, sum, set_cost_front p (suc i) os xs, (longer_by (f (obliging p []) None).added).1, r)

  -- a parameter without an argument
  pub lacking_set : {a b : Sym} (o i : ℕ) (xs : List Argument) → slice_get xs i ≡ None → Became p 0 a b (λ v. declaring o 1) → Sets p (o ∷ []) (drop i xs) a b
  lacking_set {a} {b} o i xs e x =
      subst (λ z. Sets p (o ∷ []) z a b) (sym (dropped_none xs i e)) (λ W gives. params_lack p W W.duties gives true o [] (next p W) x (skip_runs p W.duties gives b x.fits))

  -- a parameter with one
  given_set : {a b c : Sym} {bits : List Bit} (o : ℕ) (x : Argument) (xs : List Argument) → IsArgument p a.net x → Became p 0 a b (λ v. declaring o 1)
      → ((W : Mode) → Gives p W (stored_cost p.model x.ty (type_of_object p o)) 0 b c (Some (type_of_object p o)) bits (stored_in p W (key o 0) x.ty (type_of_object p o) x.bits.bits b)) → Sets p (o ∷ []) (x ∷ xs) a c
  given_set {a} {b} {c} o x xs h y g = λ W gives.
      let to = type_of_object p o in
      let cost = stored_cost p.model x.ty to in
      let k = conversion_costs p.model x.ty to in
      let f = g W in
      let rest = follows_runs p W.duties gives cost 0 (λ v w. next p W true) f.follows (skip_runs p W.duties gives c f.follows.fits) (λ v w q s. refl) (omega arith) (omega arith) in
      runs_as p W.duties gives (runs_then p W.duties gives cost 0 (declare_runs p W.duties gives o 1 y) rest (omega arith) (omega arith))
      (λ v s. ap (λ z. bind (acts.declare Stopped JudgedState cells_judged with_cells_judged o 1 s) (go_on (λ t. bind (store p (judged p W) (key o 0) x.ty to z t) (λ w. next p W true)))) (typed_added y.added p.model x.ty v x.bits.bits h))
      (omega (arith, k)) (omega arith)

  pub stored_set : {a b c : Sym} {bits : List Bit} (o i : ℕ) (to : IntType) (x : Argument) (xs : List Argument) → to ≡ type_of_object p o → slice_get xs i ≡ Some x → AreArguments p a.net xs → Became p 0 a b (λ v. declaring o 1)
      → ((W : Mode) → Gives p W (stored_cost p.model x.ty to) 0 b c (Some to) bits (stored_in p W (key o 0) x.ty to x.bits.bits b)) → Sets p (o ∷ []) (drop i xs) a c
  stored_set {a} {b} {c} {bits} o i to x xs e q h y g =
      subst (λ z. Sets p (o ∷ []) z a c) (sym (dropped_some xs i x q))
      (given_set o x (drop (suc i) xs) (argument_at p a.net xs i x q h) y
      (subst (λ t. (W : Mode) → Gives p W (stored_cost p.model x.ty t) 0 b c (Some t) bits (stored_in p W (key o 0) x.ty t x.bits.bits b)) e g))
