-- Behind an expression, a call or a statement that declares no names in its scope there are the cells that were before it, whatever they
-- hold; behind every statement there are these and perhaps more.
use Rattle.std.proofs.Common.{◌≡◌, ℕ, zero, suc, ◌+◌, ℤ, pos, Bool, true, false, cond, not, ◌||◌, ◌&&◌, is_some, nat_le, List, [], ◌∷◌, ◌++◌, length, take, Option, Some, None, slice_get, refl, sym, ap, ◌∙◌, subst}
use Rattle.std.proofs.lemmas.List.{length-map, map-append}
use Rattle.std.proofs.Math.Seq.{take-length}
use Rattle.c_core.specs.Tree.{Exp, Expr, Node, Const, Var, Index, Unary, Cast, Step, Binary, Logic, Choose, Comma, Assign, Call, Exps, NoExp, MoreExp, Init, Absent, One, Many, Rows, Names, NoName, MoreName, First, NoFirst, FirstExp, FirstNames, Stm, Stmt, Form, Empty, Do, Declare, Block, If, While, DoWhile, For, Break, Continue, Return, Label, Switch, Else, NoElse, OrElse, Stms, NoStm, MoreStm, MoreCase, Function, Program}
use Rattle.c_core.specs.Operators.{type_for, right_type_for, op_of_step, is_prefix, apply_of, apply_one_of}
use Rattle.c_core.specs.Typing.{labels_in}
use Rattle.c_core.specs.Types.{fit, is_zero, promote_of}
use Rattle.c_core.specs.declared.number.BinOp.{BinOp}
use Rattle.c_core.specs.declared.number.Done.{Done}
use Rattle.c_core.specs.declared.number.Done.TheVariants.{Value, Overflow, Undefined as NoValue}
use Rattle.c_core.specs.declared.number.IntType.{IntType}
use Rattle.c_core.specs.declared.number.IntType.TheVariants.{Int}
use Rattle.c_core.specs.declared.number.Property.{Property}
use Rattle.c_core.specs.declared.number.Property.TheVariants.{UnreachCall, NoOverflow}
use Rattle.c_core.specs.declared.number.Spot.{Spot}
use Rattle.c_core.specs.declared.tree.Callee.{Callee}
use Rattle.c_core.specs.declared.tree.Label.{Label as ArmLabel}
use Rattle.c_core.specs.declared.tree.Callee.TheVariants.{Defined, Input as InputOf, ReachError, Abort, Exit}
use Rattle.c_meaning.specs.declared.run.DrawKind.{DrawKind}
use Rattle.c_meaning.specs.declared.run.DrawKind.TheVariants.{Cell as CellDraw}
use Rattle.c_meaning.specs.declared.run.End.{End}
use Rattle.c_meaning.specs.declared.run.End.TheVariants.{Ended, Undefined, Violated, Spent, Deep}
use Rattle.c_meaning.specs.declared.run.Event.{Event}
use Rattle.c_meaning.specs.declared.run.Way.TheVariants.{Truth}
use Rattle.c_meaning.specs.declared.run.Event.TheVariants.{Branch, Enter, Return as Returned, Fail}
use Rattle.c_meaning.specs.Acts.{Res, Go, Stop, Flow, Next, Broken, Again, Gave, bind, go_on, turned, continuing, held, given}
use Rattle.c_meaning.specs.Acts as acts
use Rattle.c_meaning.specs.Cells.{Key, Cell, cells_from}
use Rattle.c_meaning.specs.Eval.{convert_to, operate, store, assign, tested, called, eval, node, target, place, evals, is_used}
use Rattle.c_meaning.specs.Exec.{ticks, full, full_if, control, going, while_turn, do_turn, for_turn, draw_cells, initials, row_initials, initial, declare, first, exec, form, otherwise, execs, from_arm, turn, body, with_params, call_of, run_in}
use Rattle.c_meaning.specs.Fitting.{keys, Grows, calls_in}
use Rattle.c_meaning.specs.Meaning.{Tick, AStatement, ANode, ACell, AParameter, Use, Used, Unused, Where, Site, Loop, WhileLoop, DoLoop, ForLoop, Meaning, Calls}
use Rattle.c_meaning.specs.Objects.{type_of, type_of_object, size_of_object, columns_of_object}
use Rattle.c_core.specs.Parts.{spot_of}
use Rattle.c_meaning.specs.Run as run
use Rattle.c_meaning.specs.Run.{State, Moment, Head, cells_of, with_cells, cell_among, arm_for, way_for}
use Rattle.c_meaning.proofs.Stateful.{grows_same, grows_on, keys_put}
use Rattle.flow_code.specs.Sizes.{leaks, leaks_by, any_leaks, first_leaks}

abbrev first_key : Key → List Key → Key
first_key k [] = k
first_key k (x ∷ xs) = x

abbrev other_keys : List Key → List Key
other_keys [] = []
other_keys (x ∷ xs) = xs

-- what is left of more cells has the keys of these
keys_cut : (cs ds : List Cell) (more : List Key) → keys ds ≡ keys cs ++ more → keys (take (length cs) ds) ≡ keys cs
keys_cut [] ds more e = refl
keys_cut (c ∷ cs) [] more e = absurd (cc)
keys_cut (c ∷ cs) (d ∷ ds) more e = ap (λ k. k ∷ keys (take (length cs) ds)) (ap (first_key d.key) e) ∙ ap (λ ks. c.key ∷ ks) (keys_cut cs ds more (ap other_keys e))

-- cells under the same keys are as many
pub as_many : (cs ds : List Cell) → keys ds ≡ keys cs → length ds ≡ length cs
as_many cs ds e = sym (length-map ds (λ c. c.key)) ∙ ap length e ∙ length-map cs (λ c. c.key)

either_false : (a b : Bool) → (a || b) ≡ false → (a ≡ false) × (b ≡ false)
either_false true b e = cc
either_false false b e = (refl, e)

module _ (S : Type 0) where
  abbrev Act : Type 0 → Type 0
  Act A = State S → Res End (State S) A

  -- where a part goes on there are the cells that were before it
  abbrev pub Same : {A : Type 0} → List Cell → Res End (State S) A → Type 0
  Same cs (Go a t) = keys t.cells ≡ keys cs
  Same cs (Stop e t) = Unit {0}

  -- where it goes on there are these and perhaps more
  abbrev pub More : {A : Type 0} → List Cell → Res End (State S) A → Type 0
  More cs (Go a t) = Grows cs t.cells
  More cs (Stop e t) = Unit {0}

  -- a part that leaves the cells that it finds
  pub record Neutral {A : Type 0} (m : Act A) : Type 0 where
    pub at : (s : State S) → Same s.cells (m s)

  -- a part that leaves the cells that it finds and perhaps more
  pub record Growing {A : Type 0} (m : Act A) : Type 0 where
    pub at : (s : State S) → More s.cells (m s)

  same_from : {A : Type 0} (cs ds : List Cell) (r : Res End (State S) A) → keys ds ≡ keys cs → Same ds r → Same cs r
  same_from cs ds (Go a t) e h = h ∙ e
  same_from cs ds (Stop x t) e h = tt

  more_from : {A : Type 0} (cs ds : List Cell) (r : Res End (State S) A) → Grows cs ds → More ds r → More cs r
  more_from cs ds (Go a t) e h = grows_on cs ds t.cells e h
  more_from cs ds (Stop x t) e h = tt

  more_of : {A : Type 0} (cs : List Cell) (r : Res End (State S) A) → Same cs r → More cs r
  more_of cs (Go a t) h = grows_same cs t.cells h
  more_of cs (Stop x t) h = tt

  same_then : {A B : Type 0} (cs : List Cell) (r : Res End (State S) A) (k : A → Act B) → Same cs r → ((a : A) → Neutral (k a)) → Same cs (bind r k)
  same_then cs (Go a t) k h f = same_from cs t.cells (k a t) h ((f a).at t)
  same_then cs (Stop x t) k h f = tt

  more_then : {A B : Type 0} (cs : List Cell) (r : Res End (State S) A) (k : A → Act B) → More cs r → ((a : A) → Growing (k a)) → More cs (bind r k)
  more_then cs (Go a t) k h f = more_from cs t.cells (k a t) h ((f a).at t)
  more_then cs (Stop x t) k h f = tt

  -- one part, and what comes behind it
  pub neutral_then : {A B : Type 0} (m : Act A) (k : A → Act B) → Neutral m → ((a : A) → Neutral (k a)) → Neutral (λ s. bind (m s) k)
  neutral_then m k g f = record { at = λ s. same_then s.cells (m s) k (g.at s) f }

  grows_then : {A B : Type 0} (m : Act A) (k : A → Act B) → Growing m → ((a : A) → Growing (k a)) → Growing (λ s. bind (m s) k)
  grows_then m k g f = record { at = λ s. more_then s.cells (m s) k (g.at s) f }

  -- a part that leaves the cells that it finds leaves those
  grows_of : {A : Type 0} (m : Act A) → Neutral m → Growing m
  grows_of m g = record { at = λ s. more_of s.cells (m s) (g.at s) }

  neutral_go : {A : Type 0} (a : A) → Neutral {A = A} (λ s. Go a s)
  neutral_go a = record { at = λ s. refl }

  neutral_stop : {A : Type 0} (e : End) → Neutral {A = A} (λ s. Stop e s)
  neutral_stop e = record { at = λ s. tt }

  neutral_choice : {A : Type 0} (b : Bool) (m k : Act A) → Neutral m → Neutral k → Neutral (cond b m k)
  neutral_choice true m k f g = f
  neutral_choice false m k f g = g

  -- statements one after another
  after_flow : (f : Flow) (k : Act Flow) → Neutral k → Neutral (go_on k f)
  after_flow Next k h = record { at = λ s. h.at s }
  after_flow Broken k h = neutral_go Broken
  after_flow Again k h = neutral_go Again
  after_flow (Gave v) k h = neutral_go (Gave v)

  grows_after : (f : Flow) (k : Act Flow) → Growing k → Growing (go_on k f)
  grows_after Next k h = record { at = λ s. h.at s }
  grows_after Broken k h = grows_of (λ s. Go Broken s) (neutral_go Broken)
  grows_after Again k h = grows_of (λ s. Go Again s) (neutral_go Again)
  grows_after (Gave v) k h = grows_of (λ s. Go (Gave v) s) (neutral_go (Gave v))

  in_turn : (a b : Act Flow) → Neutral a → Neutral b → Neutral (λ s. bind (a s) (go_on b))
  in_turn a b f g = neutral_then a (go_on b) f (λ x. after_flow x b g)

  grows_in_turn : (a b : Act Flow) → Growing a → Growing b → Growing (λ s. bind (a s) (go_on b))
  grows_in_turn a b f g = grows_then a (go_on b) f (λ x. grows_after x b g)

  turned_flow : (f : Flow) (k : Act Flow) → Neutral k → Neutral (turned k f)
  turned_flow Next k h = record { at = λ s. h.at s }
  turned_flow Broken k h = neutral_go Next
  turned_flow Again k h = neutral_go Again
  turned_flow (Gave v) k h = neutral_go (Gave v)

  cut_same : {A : Type 0} (cs : List Cell) (r : Res End (State S) A) → More cs r → Same cs (acts.cut End (State S) cells_of with_cells (length cs) r)
  cut_same cs (Go a t) g = keys_cut cs t.cells g.0 g.1
  cut_same cs (Stop e t) g = tt

  -- what is declared in a scope ends with it
  pub scope_neutral : {A : Type 0} (m : Act A) → Growing m → Neutral (acts.scoped End (State S) cells_of with_cells m)
  scope_neutral m g = record { at = λ s. cut_same s.cells (m s) (g.at s) }

  -- a loop's body
  pub continued_neutral : (m : Act Flow) → Growing m → Neutral (acts.continued End (State S) cells_of with_cells m)
  continued_neutral m g = neutral_then (acts.scoped End (State S) cells_of with_cells m) (λ f s. Go (continuing f) s) (scope_neutral m g) (λ f. neutral_go (continuing f))

  -- the arms of a switch
  pub breaks_neutral : (m : Act Flow) → Growing m → Neutral (acts.breaks End (State S) cells_of with_cells m)
  breaks_neutral m g = neutral_then (acts.scoped End (State S) cells_of with_cells m) (λ f s. Go (held f) s) (scope_neutral m g) (λ f. neutral_go (held f))

  cut_nothing : {A : Type 0} (n : ℕ) (cs : List Cell) (r : Res End (State S) A) → n ≡ length cs → Same cs r → acts.cut End (State S) cells_of with_cells n r ≡ r
  cut_nothing n cs (Go a t) e h =
      let same : n ≡ length t.cells = e ∙ sym (as_many cs t.cells h) in
      ap (λ ds. Go a (with_cells ds t)) (ap (λ k. take k t.cells) same ∙ take-length t.cells)
  cut_nothing n cs (Stop x t) e h = refl

  -- a scope around a part that leaves the cells that it finds changes nothing
  pub no_scope : {A : Type 0} (m : Act A) (s : State S) → Neutral m → acts.scoped End (State S) cells_of with_cells m s ≡ m s
  no_scope m s g = cut_nothing (length s.cells) s.cells (m s) refl (g.at s)

  counted : {A : Type 0} (cs : List Cell) (a : A) (t : State S) (r : Res End (State S) A) → r ≡ Go a t → Same cs r → length t.cells ≡ length cs
  counted {A} cs a t r e h = as_many cs t.cells (subst (λ (x : Res End (State S) A). Same cs x) e h)

module _ (p : Program) (S : Type 0) (see : Moment → S → S) where
  abbrev M : Meaning
  M = run.real p S see

  abbrev Ran : Type 0 → Type 0
  Ran A = State S → Res End (State S) A

  -- calls that leave the cells that they find
  abbrev pub NeutralCalls : Calls M → Type 0
  NeutralCalls call = (site : Site) (g : ℕ) (vs : List (ℤ × IntType)) → Neutral S (call site g vs)

  tick_same : (n : ℕ) (s : State S) → Same S s.cells (run.tick_from p S see n s)
  tick_same zero s = tt
  tick_same (suc n) s = refl

  tick_neutral : Neutral S (λ s. run.tick_from p S see s.steps s)
  tick_neutral = record { at = λ s. tick_same s.steps s }

  tell_neutral : (e : Event) → Neutral S (run.tell p S see e)
  tell_neutral e = record { at = λ s. refl }

  room_same : (b : Bool) (s : State S) → Same S {A = Unit {0}} s.cells (cond b (Go tt s) (Stop Deep s))
  room_same true s = refl
  room_same false s = tt

  room_neutral : (n : ℕ) → Neutral S (run.room p S see n)
  room_neutral n = record { at = λ s. room_same (nat_le (length s.cells + s.active + n) run.most_cells) s }

  draw_neutral : (kind : DrawKind) (spot : Spot) (ty : IntType) → Neutral S (run.draw p S see kind spot ty)
  draw_neutral kind spot ty = record { at = λ s. refl }

  violated_neutral : {A : Type 0} (at : Where) (spot : Spot) (call : Option Spot) → Neutral S (run.violated p S see {A = A} at spot call)
  violated_neutral {A = A} at spot call = neutral_then S (run.tell p S see (Fail at.statement at.full call)) (λ _. run.stop p S see (Violated spot)) (tell_neutral (Fail at.statement at.full call)) (λ _. neutral_stop S {A = A} (Violated spot))

  overflowed_neutral : (q : Property) (at : Where) (spot : Spot) (v : ℤ) → Neutral S (run.overflowed p S see q at spot v)
  overflowed_neutral NoOverflow at spot v = violated_neutral {A = ℤ} at spot None
  overflowed_neutral UnreachCall at spot v = neutral_go S v

  answered_neutral : (at : Where) (spot : Spot) (d : Done) → Neutral S (run.answered p S see at spot d)
  answered_neutral at spot (Value v) = neutral_go S v
  answered_neutral at spot (Overflow v) = overflowed_neutral p.property at spot v
  answered_neutral at spot NoValue = neutral_stop S (Undefined spot)

  key_neutral : (spot : Spot) (o : ℕ) (i : Option ℕ) → Neutral S (run.key_of p S see spot o i)
  key_neutral spot o None = neutral_stop S (Undefined spot)
  key_neutral spot o (Some i) = neutral_go S _

  reach_neutral : (q : Property) (at : Where) (site : Site) → Neutral S (run.reached p S see q at site)
  reach_neutral UnreachCall at site = violated_neutral {A = ℤ} at site.spot (Some site.spot)
  reach_neutral NoOverflow at site = neutral_stop S Ended

  branched_neutral : {A : Type 0} (spot : Spot) (t : Bool) (a b : Ran A) → Neutral S a → Neutral S b → Neutral S (run.branched p S see spot t a b)
  branched_neutral spot t a b f g = neutral_then S (run.tell p S see (Branch spot (Truth t))) (λ _. cond t a b) (tell_neutral (Branch spot (Truth t))) (λ _. neutral_choice S t a b f g)

  pub select_neutral : (at : Spot) (v : ℤ) (ls : List ArmLabel) → Neutral S (run.selected p S see at v ls)
  select_neutral at v ls = neutral_then S (run.tell p S see (Branch at (way_for v ls))) (λ _. run.ret p S see (arm_for v ls)) (tell_neutral (Branch at (way_for v ls))) (λ _. neutral_go S (arm_for v ls))

  returned_neutral : (site : Site) (v : Option ℤ) → Neutral S (run.returned p S see site v)
  returned_neutral site (Some v) = neutral_then S (run.tell p S see (Returned site.close (Some v))) (λ _. run.ret p S see v) (tell_neutral (Returned site.close (Some v))) (λ _. neutral_go S v)
  returned_neutral site None =
      neutral_then S (run.tell p S see (Returned site.close None)) (λ _. cond site.needed (run.stop p S see (Undefined site.spot)) (run.ret p S see (pos 0))) (tell_neutral (Returned site.close None))
      (λ _. neutral_choice S site.needed (run.stop p S see (Undefined site.spot)) (run.ret p S see (pos 0)) (neutral_stop S (Undefined site.spot)) (neutral_go S (pos 0)))

  write_neutral : (k : Key) (v : ℤ) → Neutral S (M.write k v)
  write_neutral k v = record { at = λ s. keys_put k v s.cells }

  look_neutral : (k : Key) → Neutral S (M.look k)
  look_neutral k = record { at = λ s. refl }

  here_neutral : (at : Spot) → Neutral S (M.here at)
  here_neutral at = record { at = λ s. refl }

  declare_cells_grow : (o n : ℕ) → Growing S (M.declare o n)
  declare_cells_grow o n = record { at = λ s. (keys (cells_from o 0 n []), map-append (λ c. c.key) s.cells (cells_from o 0 n [])) }

  -- a body in a call of its own
  call_neutral : (site : Site) (a : Ran Flow) → Growing S a → Neutral S (run.called p S see site a)
  call_neutral site a g =
      neutral_then S (run.deeper p S see) _ (record { at = λ s. refl }) (λ _.
      neutral_then S (acts.scoped End (State S) cells_of with_cells a) _ (scope_neutral S a g) (λ f.
      neutral_then S (run.shallower p S see) _ (record { at = λ s. refl }) (λ _. returned_neutral site (given f))))

  turns_neutral : (n : ℕ) (at : Spot) (l : Loop) (arrived : List Cell) (m : Ran Flow) → Neutral S m → Neutral S (run.turns p S see n at l arrived m)
  turns_neutral zero at l arrived m f = neutral_stop S Spent
  turns_neutral (suc n) at l arrived m f =
      neutral_then S (λ s. run.note p S see (Head at l arrived s.cells) s) (λ _ s. bind (m s) (turned (run.turns p S see n at l arrived m))) (record { at = λ s. refl }) (λ _.
      neutral_then S m (turned (run.turns p S see n at l arrived m)) f (λ x. turned_flow S x (run.turns p S see n at l arrived m) (turns_neutral n at l arrived m f)))

  -- a loop
  pub loop_neutral : (at : Spot) (l : Loop) (m : Ran Flow) → Neutral S m → Neutral S (M.loop at l m)
  loop_neutral at l m f =
      let turns : Neutral S (run.loop p S see at l m) = record { at = λ s. (turns_neutral (suc s.steps) at l s.cells m f).at s } in
      scope_neutral S (run.loop p S see at l m) (grows_of S (run.loop p S see at l m) turns)

  ticks_neutral : (t : Tick) (n : ℕ) → Neutral S (ticks p M t n)
  ticks_neutral t zero = neutral_go S tt
  ticks_neutral t (suc n) = neutral_then S (M.tick t) (λ _. ticks p M t n) tick_neutral (λ _. ticks_neutral t n)

  convert_neutral : (to : Option IntType) (from : IntType) (v : ℤ) → Neutral S (convert_to p M to from v)
  convert_neutral None from v = neutral_go S v
  convert_neutral (Some to) from v = neutral_go S (fit p.model to v)

  operate_neutral : (at : Where) (spot : Spot) (op : BinOp) (a : IntType) (x : ℤ) (b : IntType) (y : ℤ) → Neutral S (operate p M at spot op a x b y)
  operate_neutral at spot op a x b y =
      let u = fit p.model (type_for p.model op a b) x in
      let v = fit p.model (right_type_for op (type_for p.model op a b) b) y in
      record { at = λ s. (answered_neutral at spot (apply_of p.model op (type_for p.model op a b) u v)).at s }

  store_neutral : (k : Key) (from to : IntType) (v : ℤ) → Neutral S (store p M k from to v)
  store_neutral k from to v = record { at = λ s. keys_put k (fit p.model to v) s.cells }

  assign_neutral : (at : Where) (spot : Spot) (op : Option BinOp) (k : Key) (a b : IntType) (m : Ran ℤ) → Neutral S m → Neutral S (assign p M at spot op k a b m)
  assign_neutral at spot None k a b m f = neutral_then S m (λ y. store p M k b a y) f (λ y. store_neutral k b a y)
  assign_neutral at spot (Some op) k a b m f =
      neutral_then S (M.look k) _ (look_neutral k) (λ x.
      neutral_then S m _ f (λ y.
      neutral_then S (operate p M at spot op a x b y) _ (operate_neutral at spot op a x b y) (λ z. store_neutral k (type_for p.model op a b) a z)))

  tested_neutral : (ty : IntType) (m : Ran ℤ) → Neutral S m → Neutral S (tested p M ty m)
  tested_neutral ty m f = neutral_then S m _ f (λ v. record { at = λ s. refl })

  module _ (call : Calls M) (neutral : NeutralCalls call) where
    called_neutral : (at : Where) (site : Site) (c : Callee) (vs : List (ℤ × IntType)) → Neutral S (called p M call at site c vs)
    called_neutral at site (Defined f) vs = neutral site f vs
    called_neutral at site (InputOf ty) vs = record { at = λ s. refl }
    called_neutral at site ReachError vs = reach_neutral p.property at site
    called_neutral at site Abort vs = neutral_stop S Ended
    called_neutral at site Exit vs = neutral_stop S Ended

    module _ (at : Where) where
      mutual
        -- an expression
        pub eval_neutral : (want : Use) (e : Exp) → Neutral S (eval p M call at want e)
        eval_neutral want (Expr spot ty n) = neutral_then S (M.tick ANode) (λ _. node p M call at want spot ty n) tick_neutral (λ _. node_neutral want spot ty n)

        node_neutral : (want : Use) (spot : Spot) (ty : Option IntType) (n : Node) → Neutral S (node p M call at want spot ty n)
        node_neutral want spot ty (Const v) = neutral_go S v
        node_neutral want spot ty (Var o) = look_neutral (M.cell o 0)
        node_neutral want spot ty (Index o is) =
            neutral_then S (evals p M call at is) _ (evals_neutral is) (λ js.
            let i = cell_among (size_of_object p o) (columns_of_object p o) js in
            neutral_then S (run.key_of p S see spot o i) _ (key_neutral spot o i) (λ k. look_neutral k))
        node_neutral want spot ty (Unary op a) =
            neutral_then S (eval p M call at Used a) _ (eval_neutral Used a) (λ x.
            let y = fit p.model (promote_of (type_of a)) x in
            record { at = λ s. (answered_neutral at spot (apply_one_of p.model op (promote_of (type_of a)) y)).at s })
        node_neutral want spot None (Cast a) = eval_neutral Unused a
        node_neutral want spot (Some ty) (Cast a) = neutral_then S (eval p M call at Used a) _ (eval_neutral Used a) (λ x. neutral_go S (fit p.model ty x))
        node_neutral want spot ty (Step op a) =
            neutral_then S (target p M call at a) _ (target_neutral a) (λ k.
            neutral_then S (M.look k) _ (look_neutral k) (λ x.
            neutral_then S (operate p M at spot (op_of_step op) (type_of a) x Int (pos 1)) _ (operate_neutral at spot (op_of_step op) (type_of a) x Int (pos 1)) (λ y.
            neutral_then S (store p M k (type_for p.model (op_of_step op) (type_of a) Int) (type_of a) y) _ (store_neutral k (type_for p.model (op_of_step op) (type_of a) Int) (type_of a) y) (λ z.
            neutral_go S (cond (is_prefix op) z x)))))
        node_neutral want spot ty (Binary op a b) =
            neutral_then S (eval p M call at Used a) _ (eval_neutral Used a) (λ x.
            neutral_then S (eval p M call at Used b) _ (eval_neutral Used b) (λ y. operate_neutral at spot op (type_of a) x (type_of b) y))
        node_neutral want spot ty (Logic true a b) =
            neutral_then S (eval p M call at Used a) _ (eval_neutral Used a) (λ x.
            let second = tested_neutral (type_of b) (eval p M call at Used b) (eval_neutral Used b) in
            record { at = λ s. (neutral_choice S _ (tested p M (type_of b) (eval p M call at Used b)) (M.ret (pos 0)) second (neutral_go S (pos 0))).at s })
        node_neutral want spot ty (Logic false a b) =
            neutral_then S (eval p M call at Used a) _ (eval_neutral Used a) (λ x.
            let second = tested_neutral (type_of b) (eval p M call at Used b) (eval_neutral Used b) in
            record { at = λ s. (neutral_choice S _ (M.ret (pos 1)) (tested p M (type_of b) (eval p M call at Used b)) (neutral_go S (pos 1)) second).at s })
        node_neutral want spot ty (Choose mark e a b) =
            neutral_then S (eval p M call at Used e) _ (eval_neutral Used e) (λ x.
            let yes : Neutral S (M.bind (eval p M call at Used a) (convert_to p M ty (type_of a))) = neutral_then S (eval p M call at Used a) (convert_to p M ty (type_of a)) (eval_neutral Used a) (λ v. convert_neutral ty (type_of a) v) in
            let no : Neutral S (M.bind (eval p M call at Used b) (convert_to p M ty (type_of b))) = neutral_then S (eval p M call at Used b) (convert_to p M ty (type_of b)) (eval_neutral Used b) (λ v. convert_neutral ty (type_of b) v) in
            record { at = λ s. (branched_neutral mark _ (M.bind (eval p M call at Used a) (convert_to p M ty (type_of a))) (M.bind (eval p M call at Used b) (convert_to p M ty (type_of b))) yes no).at s })
        node_neutral want spot ty (Comma a b) = neutral_then S (eval p M call at Unused a) (λ _. eval p M call at Used b) (eval_neutral Unused a) (λ _. eval_neutral Used b)
        node_neutral want spot ty (Assign op a b) =
            neutral_then S (target p M call at a) _ (target_neutral a) (λ k. assign_neutral at spot op k (type_of a) (type_of b) (eval p M call at Used b) (eval_neutral Used b))
        node_neutral want spot ty (Call callee es close) =
            neutral_then S (evals p M call at es) _ (evals_neutral es) (λ vs.
            neutral_then S (run.tell p S see (Enter close)) _ (tell_neutral (Enter close)) (λ _. called_neutral at (record { spot = spot; close = close; needed = is_used want && is_some ty }) callee vs))

        target_neutral : (e : Exp) → Neutral S (target p M call at e)
        target_neutral (Expr spot ty n) = neutral_then S (M.tick ANode) (λ _. place p M call at spot n) tick_neutral (λ _. place_neutral spot n)

        place_neutral : (spot : Spot) (n : Node) → Neutral S (place p M call at spot n)
        place_neutral spot (Index o is) = neutral_then S (evals p M call at is) _ (evals_neutral is) (λ js. key_neutral spot o (cell_among (size_of_object p o) (columns_of_object p o) js))
        place_neutral spot (Var o) = neutral_go S _
        place_neutral spot _ = neutral_go S _

        evals_neutral : (es : Exps) → Neutral S (evals p M call at es)
        evals_neutral NoExp = neutral_go S []
        evals_neutral (MoreExp e es) =
            neutral_then S (eval p M call at Used e) _ (eval_neutral Used e) (λ v.
            neutral_then S (evals p M call at es) _ (evals_neutral es) (λ vs. neutral_go S ((v, type_of e) ∷ vs)))

    -- a full expression
    pub full_neutral : (at : Spot) (want : Use) (e : Exp) → Neutral S (full p M call at want e)
    full_neutral at want e = eval_neutral (record { statement = at; full = spot_of e }) want e

    full_if_neutral : (at : Spot) (e : Option Exp) (k : Ran Flow) → Neutral S k → Neutral S (full_if p M call at e k)
    full_if_neutral at None k g = g
    full_if_neutral at (Some e) k g = neutral_then S (full p M call at Unused e) (λ _. k) (full_neutral at Unused e) (λ _. g)

    -- a controlling expression, and the way that it says
    pub control_neutral : (at : Spot) (e : Exp) (a b : Ran Flow) → Neutral S a → Neutral S b → Neutral S (control p M call at e a b)
    control_neutral at e a b f g =
        neutral_then S (full p M call at Used e) _ (full_neutral at Used e) (λ v. record { at = λ s. (branched_neutral at (not (is_zero v)) a b f g).at s })

    going_neutral : (at : Spot) (e : Option Exp) (k : Ran Flow) → Neutral S k → Neutral S (going p M call at e k)
    going_neutral at None k g = g
    going_neutral at (Some e) k g = control_neutral at e k M.leave g (neutral_go S Broken)

    while_neutral : (at : Spot) (e : Exp) (a : Ran Flow) → Growing S a → Neutral S (while_turn p M call at e a)
    while_neutral at e a g = control_neutral at e (M.continued a) M.leave (continued_neutral S a g) (neutral_go S Broken)

    do_neutral : (at : Spot) (a : Ran Flow) (e : Exp) → Growing S a → Neutral S (do_turn p M call at a e)
    do_neutral at a e g = in_turn S (M.continued a) (control p M call at e M.next M.leave) (continued_neutral S a g) (control_neutral at e M.next M.leave (neutral_go S Next) (neutral_go S Broken))

    for_neutral : (at : Spot) (e s : Option Exp) (a : Ran Flow) → Growing S a → Neutral S (for_turn p M call at e s a)
    for_neutral at e s a g =
        going_neutral at e (M.seq (M.continued a) (full_if p M call at s M.next))
        (in_turn S (M.continued a) (full_if p M call at s M.next) (continued_neutral S a g) (full_if_neutral at s M.next (neutral_go S Next)))

    -- cells that draw their values
    pub draw_cells_neutral : (spot : Spot) (o i n : ℕ) → Neutral S (draw_cells p M call spot o i n)
    draw_cells_neutral spot o i zero = neutral_go S tt
    draw_cells_neutral spot o i (suc n) =
        neutral_then S (M.draw CellDraw spot (type_of_object p o)) _ (draw_neutral CellDraw spot (type_of_object p o)) (λ v.
        neutral_then S (M.write (M.cell o i) v) _ (write_neutral (M.cell o i) v) (λ _. draw_cells_neutral spot o (suc i) n))

    initials_neutral : (at : Spot) (o i : ℕ) (es : Exps) → Neutral S (initials p M call at o i es)
    initials_neutral at o i NoExp = neutral_go S tt
    initials_neutral at o i (MoreExp e es) =
        neutral_then S (full p M call at Used e) _ (full_neutral at Used e) (λ v.
        neutral_then S (M.convert (type_of e) (type_of_object p o) v) _ (neutral_go S (fit p.model (type_of_object p o) v)) (λ w.
        neutral_then S (M.write (M.cell o i) w) _ (write_neutral (M.cell o i) w) (λ _. initials_neutral at o (suc i) es)))

    rows_neutral : (at : Spot) (o i : ℕ) (rows : List Exps) → Neutral S (row_initials p M call at o i rows)
    rows_neutral at o i [] = neutral_go S tt
    rows_neutral at o i (es ∷ rows) = neutral_then S (initials p M call at o i es) _ (initials_neutral at o i es) (λ _. rows_neutral at o (i + columns_of_object p o) rows)

    -- an initializer
    pub initial_neutral : (at spot : Spot) (o : ℕ) (j : Init) → Neutral S (initial p M call at spot o j)
    initial_neutral at spot o Absent = draw_cells_neutral spot o 0 (size_of_object p o)
    initial_neutral at spot o (One e) = initials_neutral at o 0 (MoreExp e NoExp)
    initial_neutral at spot o (Many es) = initials_neutral at o 0 es
    initial_neutral at spot o (Rows rows) = rows_neutral at o 0 rows

    -- declared names
    pub declare_grows : (at : Spot) (ns : Names) → Growing S (declare p M call at ns)
    declare_grows at NoName = grows_of S M.next (neutral_go S Next)
    declare_grows at (MoreName spot o j ns) =
        let n = size_of_object p o in
        let others : Ran Flow = declare p M call at ns in
        let rest : Ran Flow = M.using (initial p M call at spot o j) (λ _. others) in
        grows_then S (ticks p M ACell n) _ (grows_of S (ticks p M ACell n) (ticks_neutral ACell n)) (λ _.
        grows_then S (run.room p S see n) _ (grows_of S (run.room p S see n) (room_neutral n)) (λ _.
        grows_in_turn S (M.declare o n) rest (declare_cells_grow o n)
        (grows_then S (initial p M call at spot o j) (λ _. others) (grows_of S (initial p M call at spot o j) (initial_neutral at spot o j)) (λ _. declare_grows at ns))))

    -- the first part of a `for`, and what comes behind it
    pub first_grows : (at : Spot) (f : First) (k : Ran Flow) → Growing S k → Growing S (first p M call at f k)
    first_grows at NoFirst k g = g
    first_grows at (FirstExp e) k g = grows_then S (full p M call at Unused e) (λ _. k) (grows_of S (full p M call at Unused e) (full_neutral at Unused e)) (λ _. g)
    first_grows at (FirstNames ns) k g = grows_in_turn S (declare p M call at ns) k (declare_grows at ns) g

    -- the first part of a `for` that declares no names
    pub first_neutral : (at : Spot) (f : First) (k : Ran Flow) → first_leaks f ≡ false → Neutral S k → Neutral S (first p M call at f k)
    first_neutral at NoFirst k e g = g
    first_neutral at (FirstExp x) k e g = neutral_then S (full p M call at Unused x) (λ _. k) (full_neutral at Unused x) (λ _. g)
    first_neutral at (FirstNames ns) k e g = absurd (cc)

    module _ (result : Option IntType) where
      -- each form that declares no names in its scope, around statements that grow
      do_form : (at : Spot) (e : Exp) → Neutral S (form p M call result at (Do e))
      do_form at e = neutral_then S (full p M call at Unused e) (λ _. M.next) (full_neutral at Unused e) (λ _. neutral_go S Next)

      return_form : (at : Spot) (e : Exp) → Neutral S (form p M call result at (Return (Some e)))
      return_form at e =
          neutral_then S (full p M call at Used e) _ (full_neutral at Used e) (λ v.
          neutral_then S (convert_to p M result (type_of e) v) _ (convert_neutral result (type_of e) v) (λ w. neutral_go S (Gave (Some w))))

      for_form : (at : Spot) (i : First) (e s : Option Exp) (b : Stm) → Growing S (exec p M call result b) → Neutral S (form p M call result at (For i e s b))
      for_form at i e s b g =
          let turns = M.loop at (ForLoop e s b) (for_turn p M call at e s (exec p M call result b)) in
          scope_neutral S (first p M call at i turns) (first_grows at i turns (grows_of S turns (loop_neutral at (ForLoop e s b) (for_turn p M call at e s (exec p M call result b)) (for_neutral at e s (exec p M call result b) g))))

      switch_form : (at : Spot) (e : Exp) (b : Stms) → ((n : ℕ) → Neutral S (from_arm p M call result n b)) → Neutral S (form p M call result at (Switch e b))
      switch_form at e b g =
          let ty = promote_of (type_of e) in
          neutral_then S (full p M call at Used e) _ (full_neutral at Used e) (λ v.
          neutral_then S (M.convert (type_of e) ty v) _ (neutral_go S (fit p.model ty v)) (λ w.
          neutral_then S (M.select at ty w (labels_in b)) _ (select_neutral at w (labels_in b)) (λ n. g n)))

      mutual
        -- a statement leaves the cells that it finds and perhaps more
        pub exec_grows : (st : Stm) → Growing S (exec p M call result st)
        exec_grows (Stmt at f) =
            grows_then S (M.tick AStatement) _ (grows_of S (M.tick AStatement) tick_neutral) (λ _.
            grows_then S (M.here at) (λ _. form p M call result at f) (grows_of S (M.here at) (here_neutral at)) (λ _. form_grows at f))

        pub form_grows : (at : Spot) (f : Form) → Growing S (form p M call result at f)
        form_grows at Empty = grows_of S M.next (neutral_go S Next)
        form_grows at (Do e) = grows_of S (form p M call result at (Do e)) (do_form at e)
        form_grows at (Declare ns) = declare_grows at ns
        form_grows at (Block b) = grows_of S (form p M call result at (Block b)) (scope_neutral S (execs p M call result b) (execs_grows b))
        form_grows at (If e a b) =
            grows_of S (form p M call result at (If e a b)) (control_neutral at e (M.scoped (exec p M call result a)) (otherwise p M call result b)
            (scope_neutral S (exec p M call result a) (exec_grows a)) (otherwise_neutral b))
        form_grows at (While e b) =
            grows_of S (form p M call result at (While e b)) (loop_neutral at (WhileLoop e b) (while_turn p M call at e (exec p M call result b)) (while_neutral at e (exec p M call result b) (exec_grows b)))
        form_grows at (DoWhile b e) =
            grows_of S (form p M call result at (DoWhile b e)) (loop_neutral at (DoLoop b e) (do_turn p M call at (exec p M call result b) e) (do_neutral at (exec p M call result b) e (exec_grows b)))
        form_grows at (For i e s b) = grows_of S (form p M call result at (For i e s b)) (for_form at i e s b (exec_grows b))
        form_grows at Break = grows_of S M.leave (neutral_go S Broken)
        form_grows at Continue = grows_of S M.again (neutral_go S Again)
        form_grows at (Return None) = grows_of S (M.give None) (neutral_go S (Gave None))
        form_grows at (Return (Some e)) = grows_of S (form p M call result at (Return (Some e))) (return_form at e)
        form_grows at (Label b) = exec_grows b
        form_grows at (Switch e b) = grows_of S (form p M call result at (Switch e b)) (switch_form at e b (λ n. arms_neutral n b))

        -- the second arm of a conditional
        pub otherwise_neutral : (b : Else) → Neutral S (otherwise p M call result b)
        otherwise_neutral NoElse = neutral_go S Next
        otherwise_neutral (OrElse b) = scope_neutral S (exec p M call result b) (exec_grows b)

        pub execs_grows : (b : Stms) → Growing S (execs p M call result b)
        execs_grows NoStm = grows_of S M.next (neutral_go S Next)
        execs_grows (MoreStm s b) = grows_in_turn S (exec p M call result s) (execs p M call result b) (exec_grows s) (execs_grows b)
        execs_grows (MoreCase spot l b) = execs_grows b

        -- the arms of a switch from one on
        pub arms_neutral : (n : ℕ) (b : Stms) → Neutral S (from_arm p M call result n b)
        arms_neutral n NoStm = neutral_go S Next
        arms_neutral n (MoreStm s b) = arms_neutral n b
        arms_neutral zero (MoreCase spot l b) = breaks_neutral S (execs p M call result b) (execs_grows b)
        arms_neutral (suc n) (MoreCase spot l b) = arms_neutral n b

      mutual
        -- a statement that declares no names in its scope leaves the cells that it finds
        pub exec_neutral : (st : Stm) → leaks st ≡ false → Neutral S (exec p M call result st)
        exec_neutral (Stmt at f) l =
            neutral_then S (M.tick AStatement) _ tick_neutral (λ _. neutral_then S (M.here at) (λ _. form p M call result at f) (here_neutral at) (λ _. form_neutral at f l))

        pub form_neutral : (at : Spot) (f : Form) → leaks_by f ≡ false → Neutral S (form p M call result at f)
        form_neutral at Empty l = neutral_go S Next
        form_neutral at (Do e) l = do_form at e
        form_neutral at (Declare ns) l = absurd (cc)
        form_neutral at (Block b) l = scope_neutral S (execs p M call result b) (execs_grows b)
        form_neutral at (If e a b) l =
            control_neutral at e (M.scoped (exec p M call result a)) (otherwise p M call result b) (scope_neutral S (exec p M call result a) (exec_grows a)) (otherwise_neutral b)
        form_neutral at (While e b) l =
            loop_neutral at (WhileLoop e b) (while_turn p M call at e (exec p M call result b)) (while_neutral at e (exec p M call result b) (exec_grows b))
        form_neutral at (DoWhile b e) l =
            loop_neutral at (DoLoop b e) (do_turn p M call at (exec p M call result b) e) (do_neutral at (exec p M call result b) e (exec_grows b))
        form_neutral at (For i e s b) l = for_form at i e s b (exec_grows b)
        form_neutral at Break l = neutral_go S Broken
        form_neutral at Continue l = neutral_go S Again
        form_neutral at (Return None) l = neutral_go S (Gave None)
        form_neutral at (Return (Some e)) l = return_form at e
        form_neutral at (Label b) l = exec_neutral b l
        form_neutral at (Switch e b) l = switch_form at e b (λ n. arms_neutral n b)

      -- so do statements of which none declares names
      pub execs_neutral : (b : Stms) → any_leaks b ≡ false → Neutral S (execs p M call result b)
      execs_neutral NoStm l = neutral_go S Next
      execs_neutral (MoreStm s b) l =
          let e = either_false (leaks s) (any_leaks b) l in
          in_turn S (exec p M call result s) (execs p M call result b) (exec_neutral s e.0) (execs_neutral b e.1)
      execs_neutral (MoreCase spot l b) n = execs_neutral b n

      -- one turn of a loop
      pub turn_neutral : (at : Spot) (l : Loop) → Neutral S (turn p M call result at l)
      turn_neutral at (WhileLoop e b) = while_neutral at e (exec p M call result b) (exec_grows b)
      turn_neutral at (DoLoop b e) = do_neutral at (exec p M call result b) e (exec_grows b)
      turn_neutral at (ForLoop e s b) = for_neutral at e s (exec p M call result b) (exec_grows b)

      -- so many turns of a loop, from its head on
      pub rounds_neutral : (n : ℕ) (at : Spot) (l : Loop) (arrived : List Cell) → Neutral S (run.turns p S see n at l arrived (turn p M call result at l))
      rounds_neutral n at l arrived = turns_neutral n at l arrived (turn p M call result at l) (turn_neutral at l)

      body_grows : (st : Stm) → Growing S (body p M call result st)
      body_grows (Stmt at f) = grows_then S (M.tick AStatement) (λ _. form p M call result at f) (grows_of S (M.tick AStatement) tick_neutral) (λ _. form_grows at f)

  params_grow : (os : List ℕ) (vs : List (ℤ × IntType)) (k : Ran Flow) → Growing S k → Growing S (with_params p M os vs k)
  params_grow [] vs k g = g
  params_grow (o ∷ os) [] k g = grows_in_turn S (M.declare o 1) (with_params p M os [] k) (declare_cells_grow o 1) (params_grow os [] k g)
  params_grow (o ∷ os) (v ∷ vs) k g =
      let rest = params_grow os vs k g in
      let set : Growing S (λ (s : State S). bind (M.write (M.cell o 0) (fit p.model (type_of_object p o) v.0) s) (λ _. with_params p M os vs k)) =
      grows_then S (M.write (M.cell o 0) (fit p.model (type_of_object p o) v.0)) (λ _. with_params p M os vs k)
      (grows_of S (M.write (M.cell o 0) (fit p.model (type_of_object p o) v.0)) (write_neutral (M.cell o 0) (fit p.model (type_of_object p o) v.0))) (λ _. rest) in
      grows_in_turn S (M.declare o 1) _ (declare_cells_grow o 1) (record { at = λ s. set.at s })

  call_of_neutral : (run : Function → Ran Flow) → ((f : Function) → Growing S (run f)) → (site : Site) (f : Option Function) (vs : List (ℤ × IntType)) → Neutral S (call_of p M run site f vs)
  call_of_neutral run g site None vs = neutral_stop S Ended
  call_of_neutral run g site (Some f) vs =
      let n = length f.params in
      neutral_then S (ticks p M AParameter n) _ (ticks_neutral AParameter n) (λ _.
      neutral_then S (M.room (suc n)) _ (room_neutral (suc n)) (λ _. call_neutral site (with_params p M f.params vs (run f)) (params_grow f.params vs (run f) (g f))))

  -- a function's body, with calls at most n deep
  pub run_grows : (n : ℕ) (f : Function) → Growing S (run_in p M n f)
  run_grows zero f = grows_of S M.deep (neutral_stop S Spent)
  run_grows (suc n) f =
      body_grows (λ site g vs. call_of p M (run_in p M n) site (slice_get p.functions g) vs)
      (λ site g vs. call_of_neutral (run_in p M n) (run_grows n) site (slice_get p.functions g) vs) f.result f.body

  -- calls at most n deep leave the cells that they find
  pub calls_neutral : (n : ℕ) → NeutralCalls (calls_in p M n)
  calls_neutral n site g vs = call_of_neutral (run_in p M n) (run_grows n) site (slice_get p.functions g) vs
