-- Where each part of a meaning takes at most so many steps, and keeps alive what was paid for by steps, so does each tree.
use Rattle.std.proofs.Common.{◌≡◌, ◌≤◌, ◌+◌, refl, sym, subst, arith, ℕ, zero, suc, pos, Bool, true, false, List, [], ◌∷◌, length, Option, Some, None, slice_get, is_some, ◌&&◌}
use Rattle.c_core.specs.Operators.{op_of_step}
use Rattle.c_core.specs.Typing.{labels_in}
use Rattle.c_core.specs.Tree.{Exp, Expr, Node, Const, Var, Index, Unary, Cast, Step, Binary, Logic, Choose, Comma, Assign, Call, Exps, NoExp, MoreExp, Init, Absent, One, Many, Rows, Names, NoName, MoreName, First, NoFirst, FirstExp, FirstNames, Stm, Stmt, Form, Empty, Do, Declare, Block, If, While, DoWhile, For, Break, Continue, Return, Label, Switch, Else, NoElse, OrElse, Stms, NoStm, MoreStm, MoreCase, Function, Program}
use Rattle.c_core.specs.declared.number.IntType.{IntType}
use Rattle.c_core.specs.declared.number.IntType.TheVariants.{Int}
use Rattle.c_core.specs.declared.number.Spot.{Spot}
use Rattle.c_core.specs.declared.number.BinOp.{BinOp}
use Rattle.c_core.specs.declared.number.UnOp.{UnOp}
use Rattle.c_core.specs.declared.tree.Callee.{Callee}
use Rattle.c_core.specs.declared.tree.Callee.TheVariants.{Defined, Input as InputOf, ReachError, Abort, Exit}
use Rattle.c_core.specs.declared.tree.Label.{Label as ArmLabel}
use Rattle.c_meaning.specs.declared.run.DrawKind.{DrawKind}
use Rattle.c_meaning.specs.declared.run.DrawKind.TheVariants.{Input, Cell}
use Rattle.c_meaning.specs.Objects.{type_of, size_of_object, columns_of_object}
use Rattle.c_meaning.specs.Meaning.{Tick, AStatement, ANode, ACell, AParameter, Use, Used, Unused, Where, Site, Loop, Meaning, Calls}
use Rattle.c_meaning.specs.Eval.{is_used, convert_to, operate, store, assign, tested, called, eval, node, target, place, evals}
use Rattle.c_meaning.specs.Exec.{ticks, full, full_if, control, going, draw_cells, initials, row_initials, initial, declare, first, exec, form, otherwise, execs, from_arm, body, with_params, call_of, run_in, run_if, run_main}
use Rattle.seek_meaning.specs.Steps as steps

-- at most c steps are taken, and n more live after it than steps paid for; may: a loop's body may be begun
pub record Prices (M : Meaning) : Type 1 where
  pub Cost : {A : Type 0} → ℕ → ℕ → M.Act A → Type 0
  pub Price : Bool → ℕ → ℕ → M.Done → Type 0

pub record Pays (p : Program) (k : ℕ) (M : Meaning) (R : Prices M) : Type 1 where
  pub ret : {A : Type 0} (x : A) → R.Cost 0 0 (M.ret x)
  pub bind : {A B : Type 0} (n l c d : ℕ) (m : M.Act A) (f : A → M.Act B) → R.Cost n c m → ((x : A) → R.Cost l d (f x)) → R.Cost (n + l) (c + d) (M.bind m f)
  pub less : {A : Type 0} (n l c d : ℕ) (m : M.Act A) → n ≤ l → c ≤ d → R.Cost n c m → R.Cost l d m
  pub many_ticks : {A : Type 0} (t : Tick) (j n c : ℕ) (m : M.Act A) → R.Cost (j + n) c m → R.Cost n (j + c) (M.bind (ticks p M t j) (λ _. m))
  pub tick : {A : Type 0} (t : Tick) (n c : ℕ) (m : M.Act A) → R.Cost (suc n) c m → R.Cost n (suc c) (M.bind (M.tick t) (λ _. m))
  pub room : {A : Type 0} (n c : ℕ) (m : M.Act A) → R.Cost n c m → R.Cost n c (M.bind (M.room n) (λ _. m))
  pub convert : (from to : IntType) (v : M.Value) → R.Cost 0 0 (M.convert from to v)
  pub test : (ty : IntType) (v : M.Value) → R.Cost 0 0 (M.test ty v)
  pub draw : (kind : DrawKind) (spot : Spot) (ty : IntType) → R.Cost 0 0 (M.draw kind spot ty)
  pub element : (spot : Spot) (o n columns : ℕ) (vs : List (M.Value × IntType)) → R.Cost 0 0 (M.element spot o n columns vs)
  pub look : (x : M.Target) → R.Cost 0 0 (M.look x)
  pub write : (x : M.Target) (v : M.Value) → R.Cost 0 0 (M.write x v)
  pub answer : (at : Where) (spot : Spot) (op : BinOp) (ty : IntType) (x : M.Value) (right : IntType) (y : M.Value) → R.Cost 0 0 (M.answer at spot op ty x right y)
  pub answer_one : (at : Where) (spot : Spot) (op : UnOp) (ty : IntType) (x : M.Value) → R.Cost 0 0 (M.answer_one at spot op ty x)
  pub choose : (c d : ℕ) (t : M.Truth) (a b : M.Act M.Value) → R.Cost 0 c a → R.Cost 0 d b → R.Cost 0 (c + d) (M.choose t a b)
  pub pick : (c d : ℕ) (mark : Spot) (t : M.Truth) (a b : M.Act M.Value) → R.Cost 0 c a → R.Cost 0 d b → R.Cost 0 (c + d) (M.pick mark t a b)
  pub enter : (site : Site) → R.Cost 0 0 (M.enter site)
  pub came_back : (site : Site) (v : M.Value) → R.Cost 0 0 (M.came_back site v)
  pub reach : (at : Where) (site : Site) → R.Cost 0 0 (M.reach at site)
  pub ending : R.Cost 0 0 M.ending
  pub called : (n c : ℕ) (site : Site) (a : M.Done) → R.Price true n c a → R.Cost (suc n) c (M.called site a)
  pub missing : R.Cost 0 0 M.missing
  pub here : (spot : Spot) → R.Cost 0 0 (M.here spot)
  pub select : (spot : Spot) (ty : IntType) (v : M.Value) (ls : List ArmLabel) → R.Cost 0 0 (M.select spot ty v ls)
  pub using : {A : Type 0} (may : Bool) (n l c d : ℕ) (m : M.Act A) (f : A → M.Done) → R.Cost n c m → ((x : A) → R.Price may l d (f x)) → R.Price may (n + l) (c + d) (M.using m f)
  pub cheaper : (may : Bool) (n l c d : ℕ) (a : M.Done) → n ≤ l → c ≤ d → R.Price may n c a → R.Price may l d a
  pub ticks_done : (may : Bool) (t : Tick) (j n c : ℕ) (a : M.Done) → R.Price may (j + n) c a → R.Price may n (j + c) (M.using (ticks p M t j) (λ _. a))
  pub tick_done : (may : Bool) (t : Tick) (n c : ℕ) (a : M.Done) → R.Price may (suc n) c a → R.Price may n (suc c) (M.using (M.tick t) (λ _. a))
  pub room_done : (may : Bool) (n c : ℕ) (a : M.Done) → R.Price may n c a → R.Price may n c (M.using (M.room n) (λ _. a))
  pub declare : (may : Bool) (o n : ℕ) → R.Price may n 0 (M.declare o n)
  pub branch : (may : Bool) (c d : ℕ) (at : Spot) (t : M.Truth) (a b : M.Done) → R.Price may 0 c a → R.Price may 0 d b → R.Price may 0 (c + d) (M.branch at t a b)
  pub next : (may : Bool) → R.Price may 0 0 M.next
  pub leave : (may : Bool) → R.Price may 0 0 M.leave
  pub again : (may : Bool) → R.Price may 0 0 M.again
  pub give : (may : Bool) (v : Option M.Value) → R.Price may 0 0 (M.give v)
  pub seq : (may : Bool) (n l c d : ℕ) (a b : M.Done) → R.Price may n c a → R.Price may l d b → R.Price may (n + l) (c + d) (M.seq a b)
  pub scoped : (may : Bool) (n c : ℕ) (a : M.Done) → R.Price may n c a → R.Price may n c (M.scoped a)
  pub continued : (c : ℕ) (a : M.Done) → R.Price true 0 c a → R.Price true 0 c (M.continued a)
  -- a body that isn't begun
  pub not_begun : (a : M.Done) → R.Price false 0 0 (M.continued a)
  pub not_begun_then : (a b : M.Done) → R.Price false 0 0 (M.seq (M.continued a) b)
  pub breaks : (may : Bool) (c : ℕ) (a : M.Done) → R.Price may 0 c a → R.Price may 0 c (M.breaks a)
  pub loop : (may : Bool) (c d : ℕ) (at : Spot) (l : Loop) (a : M.Done) → R.Price true 0 (c + d) a → R.Price false 0 c a → R.Price may 0 (steps.turns k c d) (M.loop at l a)
  pub deep : (may : Bool) → R.Price may 0 0 M.deep

module _ (p : Program) (k : ℕ) (M : Meaning) (R : Prices M) (q : Pays p k M R) where
  -- one part, then another, together at most so much; no more lives
  then : {A B : Type 0} {c d e : ℕ} {m : M.Act A} {f : A → M.Act B} → R.Cost 0 c m → ((x : A) → R.Cost 0 d (f x)) → c + d ≤ e → R.Cost 0 e (M.bind m f)
  then {c = c} {d = d} {e = e} {m = m} {f = f} x g h = q.less (0 + 0) 0 (c + d) e (M.bind m f) (omega arith) h (q.bind 0 0 c d m f x g)

  -- what takes nothing of its own
  free : {A : Type 0} {e : ℕ} {m : M.Act A} → R.Cost 0 0 m → R.Cost 0 e m
  free {e = e} {m = m} x = q.less 0 0 0 e m (omega arith) (omega arith) x

  one_more : {A : Type 0} {c : ℕ} {m : M.Act A} → R.Cost 0 c m → R.Cost 1 c m
  one_more {c = c} {m = m} x = q.less 0 1 c c m (omega arith) (omega arith) x

  then_done : {A : Type 0} {may : Bool} {c d e : ℕ} {m : M.Act A} {f : A → M.Done} → R.Cost 0 c m → ((x : A) → R.Price may 0 d (f x)) → c + d ≤ e → R.Price may 0 e (M.using m f)
  then_done {may = may} {c = c} {d = d} {e = e} {m = m} {f = f} x g h = q.cheaper may (0 + 0) 0 (c + d) e (M.using m f) (omega arith) h (q.using may 0 0 c d m f x g)

  free_done : {may : Bool} {e : ℕ} {a : M.Done} → R.Price may 0 0 a → R.Price may 0 e a
  free_done {may = may} {e = e} {a = a} x = q.cheaper may 0 0 0 e a (omega arith) (omega arith) x

  and_then : {may : Bool} {c d e : ℕ} {a b : M.Done} → R.Price may 0 c a → R.Price may 0 d b → c + d ≤ e → R.Price may 0 e (M.seq a b)
  and_then {may = may} {c = c} {d = d} {e = e} {a = a} {b = b} x y h = q.cheaper may (0 + 0) 0 (c + d) e (M.seq a b) (omega arith) h (q.seq may 0 0 c d a b x y)

  pays_convert_to : (ty : Option IntType) (from : IntType) (v : M.Value) → R.Cost 0 0 (convert_to p M ty from v)
  pays_convert_to None from v = q.ret v
  pays_convert_to (Some to) from v = q.convert from to v

  pays_operate : (at : Where) (spot : Spot) (op : BinOp) (a : IntType) (x : M.Value) (b : IntType) (y : M.Value) → R.Cost 0 0 (operate p M at spot op a x b y)
  pays_operate at spot op a x b y = then {d = 0} (q.convert _ _ x) (λ x1. then {d = 0} (q.convert _ _ y) (λ y1. q.answer at spot op _ x1 _ y1) (omega arith)) (omega arith)

  pays_store : (t : M.Target) (from to : IntType) (v : M.Value) → R.Cost 0 0 (store p M t from to v)
  pays_store t from to v = then {d = 0} (q.convert from to v) (λ w. then {d = 0} (q.write t w) (λ _. q.ret w) (omega arith)) (omega arith)

  pays_assign : (c : ℕ) (at : Where) (spot : Spot) (op : Option BinOp) (t : M.Target) (a b : IntType) (right : M.Act M.Value) → R.Cost 0 c right → R.Cost 0 c (assign p M at spot op t a b right)
  pays_assign c at spot None t a b right h = then {d = 0} h (λ y. pays_store t b a y) (omega arith)
  pays_assign c at spot (Some op) t a b right h =
      then {d = c} (q.look t) (λ x. then {d = 0} {e = c} h (λ y. then {d = 0} (pays_operate at spot op a x b y) (λ z. pays_store t _ a z) (omega arith)) (omega arith)) (omega arith)

  pays_tested : (c : ℕ) (ty : IntType) (m : M.Act M.Value) → R.Cost 0 c m → R.Cost 0 c (tested p M ty m)
  pays_tested c ty m h = then {d = 0} h (λ v. then {d = 0} (q.test ty v) (λ t. q.ret (M.truth t)) (omega arith)) (omega arith)

  module _ (below : ℕ → ℕ) (call : Calls M) (calls : (site : Site) (f : ℕ) (vs : List (M.Value × IntType)) → R.Cost 1 (steps.called p k below (Defined f)) (call site f vs)) where
    module _ (at : Where) where
      pays_called : (site : Site) (callee : Callee) (vs : List (M.Value × IntType)) → R.Cost 1 (steps.called p k below callee) (called p M call at site callee vs)
      pays_called site (Defined f) vs = calls site f vs
      pays_called site (InputOf ty) vs = one_more (then {d = 0} (q.draw Input site.spot ty) (λ v. then {d = 0} (q.came_back site v) (λ _. q.ret v) (omega arith)) (omega arith))
      pays_called site ReachError vs = one_more (q.reach at site)
      pays_called site Abort vs = one_more q.ending
      pays_called site Exit vs = one_more q.ending

      abbrev E : Exp → ℕ
      E e = steps.expression p k below e

      abbrev Es : Exps → ℕ
      Es es = steps.arguments p k below es

      mutual
        pays_eval : (want : Use) (e : Exp) → R.Cost 0 (E e) (eval p M call at want e)
        pays_eval want (Expr spot ty n) = q.tick ANode 0 (steps.operands p k below n) (node p M call at want spot ty n) (pays_node want spot ty n)

        -- a call keeps one more alive, which its node has paid for
        pays_node : (want : Use) (spot : Spot) (ty : Option IntType) (n : Node) → R.Cost 1 (steps.operands p k below n) (node p M call at want spot ty n)
        pays_node want spot ty (Const v) = one_more (q.ret _)
        pays_node want spot ty (Var o) = one_more (q.look _)
        pays_node want spot ty (Index o is) = one_more (then {d = 0} (pays_evals is) (λ js. then {d = 0} (q.element spot o _ _ js) (λ t. q.look t) (omega arith)) (omega arith))
        pays_node want spot ty (Unary op a) = one_more (then {d = 0} (pays_eval Used a) (λ x. then {d = 0} (q.convert _ _ x) (λ y. q.answer_one at spot op _ y) (omega arith)) (omega arith))
        pays_node want spot None (Cast a) = one_more (pays_eval Unused a)
        pays_node want spot (Some ty) (Cast a) = one_more (then {d = 0} (pays_eval Used a) (λ x. q.convert _ ty x) (omega arith))
        pays_node want spot ty (Step op a) =
            one_more (then {d = 0} (pays_target a) (λ t. then {d = 0} (q.look t) (λ x. then {d = 0} (pays_operate at spot (op_of_step op) (type_of a) x Int (M.const Int (pos 1))) (λ y. then {d = 0} (pays_store t _ (type_of a) y) (λ z. q.ret _) (omega arith)) (omega arith)) (omega arith)) (omega arith))
        pays_node want spot ty (Binary op a b) = one_more (then {d = E b} (pays_eval Used a) (λ x. then {d = 0} (pays_eval Used b) (λ y. pays_operate at spot op _ x _ y) (omega arith)) (omega arith))
        pays_node want spot ty (Logic true a b) =
            one_more (then {d = E b} (pays_eval Used a) (λ x. then {d = E b + 0} (q.test _ x) (λ t. q.choose (E b) 0 t _ _ (pays_tested (E b) _ _ (pays_eval Used b)) (q.ret _)) (omega arith)) (omega arith))
        pays_node want spot ty (Logic false a b) =
            one_more (then {d = E b} (pays_eval Used a) (λ x. then {d = 0 + E b} (q.test _ x) (λ t. q.choose 0 (E b) t _ _ (q.ret _) (pays_tested (E b) _ _ (pays_eval Used b))) (omega arith)) (omega arith))
        pays_node want spot ty (Choose mark e a b) =
            one_more (then {d = E a + E b} (pays_eval Used e) (λ x. then {d = E a + E b} (q.test _ x) (λ t.
            q.pick (E a) (E b) mark t _ _ (then {d = 0} (pays_eval Used a) (λ v. pays_convert_to ty _ v) (omega arith)) (then {d = 0} (pays_eval Used b) (λ v. pays_convert_to ty _ v) (omega arith))) (omega arith)) (omega arith))
        pays_node want spot ty (Comma a b) = one_more (then {d = E b} (pays_eval Unused a) (λ _. pays_eval Used b) (omega arith))
        pays_node want spot ty (Assign op a b) = one_more (then {d = E b} (pays_target a) (λ t. pays_assign (E b) at spot op t _ _ _ (pays_eval Used b)) (omega arith))
        pays_node want spot ty (Call callee es close) =
            let site : Site = record { spot = spot; close = close; needed = is_used want && is_some ty } in
            let c : ℕ = steps.called p k below callee in
            q.less (0 + (0 + 1)) 1 (Es es + (0 + c)) (Es es + c) _ (omega arith) (omega arith)
            (q.bind 0 (0 + 1) (Es es) (0 + c) _ _ (pays_evals es) (λ vs. q.bind 0 1 0 c _ _ (q.enter site) (λ _. pays_called site callee vs)))

        pays_target : (e : Exp) → R.Cost 0 (steps.target p k below e) (target p M call at e)
        pays_target (Expr spot ty n) = q.tick ANode 0 (steps.indexes_of p k below n) (place p M call at spot n) (one_more (pays_place spot n))

        pays_place : (spot : Spot) (n : Node) → R.Cost 0 (steps.indexes_of p k below n) (place p M call at spot n)
        pays_place spot (Index o is) = then {d = 0} (pays_evals is) (λ js. q.element spot o _ _ js) (omega arith)
        pays_place spot (Var o) = q.ret _
        pays_place spot _ = q.ret _

        pays_evals : (es : Exps) → R.Cost 0 (Es es) (evals p M call at es)
        pays_evals NoExp = q.ret _
        pays_evals (MoreExp e es) = then {d = Es es} (pays_eval Used e) (λ v. then {d = 0} (pays_evals es) (λ vs. q.ret _) (omega arith)) (omega arith)

    abbrev X : Exp → ℕ
    X e = steps.expression p k below e

    abbrev Xs : Exps → ℕ
    Xs es = steps.arguments p k below es

    pays_full : (at : Spot) (want : Use) (e : Exp) → R.Cost 0 (X e) (full p M call at want e)
    pays_full at want e = pays_eval _ want e

    pays_full_if : (may : Bool) (c : ℕ) (at : Spot) (e : Option Exp) (a : M.Done) → R.Price may 0 c a → R.Price may 0 (steps.expression_if p k below e + c) (full_if p M call at e a)
    pays_full_if may c at None a h = q.cheaper may 0 0 c (0 + c) a (omega arith) (omega arith) h
    pays_full_if may c at (Some e) a h = then_done {d = c} (pays_full at Unused e) (λ _. h) (omega arith)

    pays_control : (may : Bool) (c d : ℕ) (at : Spot) (e : Exp) (a b : M.Done) → R.Price may 0 c a → R.Price may 0 d b → R.Price may 0 (X e + (c + d)) (control p M call at e a b)
    pays_control may c d at e a b g h = then_done {d = c + d} (pays_full at Used e) (λ v. then_done {d = c + d} (q.test _ v) (λ t. q.branch may c d at t a b g h) (omega arith)) (omega arith)

    pays_draws : (spot : Spot) (o i n : ℕ) → R.Cost 0 0 (draw_cells p M call spot o i n)
    pays_draws spot o i zero = q.ret tt
    pays_draws spot o i (suc n) = then {d = 0} (q.draw Cell spot _) (λ v. then {d = 0} (q.write _ v) (λ _. pays_draws spot o (suc i) n) (omega arith)) (omega arith)

    pays_initials : (at : Spot) (o i : ℕ) (es : Exps) → R.Cost 0 (Xs es) (initials p M call at o i es)
    pays_initials at o i NoExp = q.ret tt
    pays_initials at o i (MoreExp e es) =
        then {d = Xs es} (pays_full at Used e) (λ v. then {d = Xs es} (q.convert _ _ v) (λ w. then {d = Xs es} (q.write _ w) (λ _. pays_initials at o (suc i) es) (omega arith)) (omega arith)) (omega arith)

    pays_rows : (at : Spot) (o i : ℕ) (rows : List Exps) → R.Cost 0 (steps.rows_of p k below rows) (row_initials p M call at o i rows)
    pays_rows at o i [] = q.ret tt
    pays_rows at o i (es ∷ rows) = then {d = steps.rows_of p k below rows} (pays_initials at o i es) (λ _. pays_rows at o (i + columns_of_object p o) rows) (omega arith)

    pays_initial : (at spot : Spot) (o : ℕ) (i : Init) → R.Cost 0 (steps.initial p k below i) (initial p M call at spot o i)
    pays_initial at spot o Absent = pays_draws spot o 0 (size_of_object p o)
    pays_initial at spot o (One e) = q.less 0 0 (Xs (MoreExp e NoExp)) (X e) _ (omega arith) (omega arith) (pays_initials at o 0 (MoreExp e NoExp))
    pays_initial at spot o (Many es) = pays_initials at o 0 es
    pays_initial at spot o (Rows rows) = pays_rows at o 0 rows

    -- each cell is paid for by its step
    pays_declare : (may : Bool) (at : Spot) (ns : Names) → R.Price may 0 (steps.declared p k below ns) (declare p M call at ns)
    pays_declare may at NoName = q.next may
    pays_declare may at (MoreName spot o i ns) =
        let n : ℕ = size_of_object p o in
        let c : ℕ = steps.initial p k below i + steps.declared p k below ns in
        let rest : R.Price may 0 c (M.using (initial p M call at spot o i) (λ _. declare p M call at ns)) = then_done {d = steps.declared p k below ns} (pays_initial at spot o i) (λ _. pays_declare may at ns) (omega arith) in
        q.ticks_done may ACell n 0 c _ (q.cheaper may n (n + 0) c c _ (omega arith) (omega arith) (q.room_done may n c _ (q.cheaper may (n + 0) n (0 + c) c _ (omega arith) (omega arith) (q.seq may n 0 0 c _ _ (q.declare may o n) rest))))

    pays_first : (may : Bool) (c : ℕ) (at : Spot) (i : First) (a : M.Done) → R.Price may 0 c a → R.Price may 0 (steps.first p k below i + c) (first p M call at i a)
    pays_first may c at NoFirst a h = q.cheaper may 0 0 c (0 + c) a (omega arith) (omega arith) h
    pays_first may c at (FirstExp e) a h = then_done {d = c} (pays_full at Unused e) (λ _. h) (omega arith)
    pays_first may c at (FirstNames ns) a h = and_then (pays_declare may at ns) h (omega arith)

    module _ (result : Option IntType) where
      abbrev S : Stm → ℕ
      S s = steps.statement p k below s

      pays_for_test : (may : Bool) (c : ℕ) (at : Spot) (e : Option Exp) (a : M.Done) → R.Price may 0 c a → R.Price may 0 (steps.expression_if p k below e + c) (going p M call at e a)
      pays_for_test may c at None a h = q.cheaper may 0 0 c (0 + c) a (omega arith) (omega arith) h
      pays_for_test may c at (Some e) a h = q.cheaper may 0 0 (X e + (c + 0)) (X e + c) _ (omega arith) (omega arith) (pays_control may c 0 at e a M.leave h (q.leave may))

      mutual
        pays_exec : (may : Bool) (s : Stm) → R.Price may 0 (S s) (exec p M call result s)
        pays_exec may (Stmt at f) =
            q.tick_done may AStatement 0 (steps.form p k below f) _ (q.cheaper may 0 1 (steps.form p k below f) (steps.form p k below f) _ (omega arith) (omega arith) (then_done {d = steps.form p k below f} (q.here at) (λ _. pays_form may at f) (omega arith)))

        pays_form : (may : Bool) (at : Spot) (f : Form) → R.Price may 0 (steps.form p k below f) (form p M call result at f)
        pays_form may at Empty = q.next may
        pays_form may at (Do e) = then_done {d = 0} (pays_full at Unused e) (λ _. q.next may) (omega arith)
        pays_form may at (Declare ns) = pays_declare may at ns
        pays_form may at (Block b) = q.scoped may 0 _ _ (pays_execs may b)
        pays_form may at (If e a b) = pays_control may (S a) (steps.otherwise p k below b) at e _ _ (q.scoped may 0 _ _ (pays_exec may a)) (pays_otherwise may b)
        pays_form may at (While e b) =
            q.loop may (X e) (S b) at _ _
            (q.cheaper true 0 0 (X e + (S b + 0)) (X e + S b) _ (omega arith) (omega arith) (pays_control true (S b) 0 at e _ _ (q.continued (S b) _ (pays_exec true b)) (q.leave true)))
            (q.cheaper false 0 0 (X e + (0 + 0)) (X e) _ (omega arith) (omega arith) (pays_control false 0 0 at e _ _ (q.not_begun _) (q.leave false)))
        pays_form may at (DoWhile b e) =
            q.loop may (X e) (S b) at _ _
            (and_then (q.continued (S b) _ (pays_exec true b)) (pays_control true 0 0 at e _ _ (q.next true) (q.leave true)) (omega arith))
            (q.cheaper false 0 0 0 (X e) _ (omega arith) (omega arith) (q.not_begun_then _ _))
        pays_form may at (For i e s b) =
            let c : ℕ = steps.expression_if p k below e in
            let d : ℕ = steps.expression_if p k below s + S b in
            let once : R.Price true 0 d (M.seq (M.continued (exec p M call result b)) (full_if p M call at s M.next)) =
            and_then (q.continued (S b) _ (pays_exec true b)) (pays_full_if true 0 at s M.next (q.next true)) (omega arith) in
            let none : R.Price false 0 c (going p M call at e (M.seq (M.continued (exec p M call result b)) (full_if p M call at s M.next))) =
            q.cheaper false 0 0 (c + 0) c _ (omega arith) (omega arith) (pays_for_test false 0 at e _ (q.not_begun_then _ _)) in
            q.scoped may 0 _ _ (pays_first may (steps.turns k c d) at i _ (q.loop may c d at _ _ (pays_for_test true d at e _ once) none))
        pays_form may at Break = q.leave may
        pays_form may at Continue = q.again may
        pays_form may at (Return None) = q.give may None
        pays_form may at (Return (Some e)) = then_done {d = 0} (pays_full at Used e) (λ v. then_done {d = 0} (pays_convert_to result _ v) (λ w. q.give may (Some w)) (omega arith)) (omega arith)
        pays_form may at (Label b) = pays_exec may b
        pays_form may at (Switch e b) =
            let d : ℕ = steps.statements p k below b in
            then_done {d = d} (pays_full at Used e) (λ v. then_done {d = d} (q.convert _ _ v) (λ w. then_done {d = d} (q.select at _ w (labels_in b)) (λ n. pays_arms may n b) (omega arith)) (omega arith)) (omega arith)

        pays_otherwise : (may : Bool) (b : Else) → R.Price may 0 (steps.otherwise p k below b) (otherwise p M call result b)
        pays_otherwise may NoElse = q.next may
        pays_otherwise may (OrElse b) = q.scoped may 0 _ _ (pays_exec may b)

        pays_execs : (may : Bool) (b : Stms) → R.Price may 0 (steps.statements p k below b) (execs p M call result b)
        pays_execs may NoStm = q.next may
        pays_execs may (MoreStm s b) = and_then (pays_exec may s) (pays_execs may b) (omega arith)
        pays_execs may (MoreCase spot l b) = pays_execs may b

        pays_arms : (may : Bool) (n : ℕ) (b : Stms) → R.Price may 0 (steps.statements p k below b) (from_arm p M call result n b)
        pays_arms may n NoStm = q.next may
        pays_arms may n (MoreStm s b) = q.cheaper may 0 0 (steps.statements p k below b) (S s + steps.statements p k below b) _ (omega arith) (omega arith) (pays_arms may n b)
        pays_arms may zero (MoreCase spot l b) = q.breaks may _ _ (pays_execs may b)
        pays_arms may (suc n) (MoreCase spot l b) = pays_arms may n b

      pays_body : (may : Bool) (s : Stm) → R.Price may 0 (S s) (body p M call result s)
      pays_body may (Stmt at f) = q.tick_done may AStatement 0 (steps.form p k below f) _ (q.cheaper may 0 1 (steps.form p k below f) (steps.form p k below f) _ (omega arith) (omega arith) (pays_form may at f))

  -- parameters, each paid for by its step
  pays_params : (c : ℕ) (os : List ℕ) (vs : List (M.Value × IntType)) (a : M.Done) → R.Price true 0 c a → R.Price true (length os) c (with_params p M os vs a)
  pays_params c [] vs a h = h
  pays_params c (o ∷ os) [] a h = q.cheaper true (1 + length os) (suc (length os)) (0 + c) c _ (omega arith) (omega arith) (q.seq true 1 (length os) 0 c _ _ (q.declare true o 1) (pays_params c os [] a h))
  pays_params c (o ∷ os) (v ∷ vs) a h =
      let n : ℕ = length os in
      let written : (w : M.Value) → R.Price true (0 + n) (0 + c) (M.using (M.write (M.cell o 0) w) (λ _. with_params p M os vs a)) = λ w. q.using true 0 n 0 c _ _ (q.write _ w) (λ _. pays_params c os vs a h) in
      q.cheaper true (1 + (0 + (0 + n))) (suc n) (0 + (0 + (0 + c))) c _ (omega arith) (omega arith) (q.seq true 1 (0 + (0 + n)) 0 (0 + (0 + c)) _ _ (q.declare true o 1) (q.using true 0 (0 + n) 0 (0 + c) _ _ (q.convert _ _ v.0) written))

  pays_call : (c : ℕ) (run : Function → M.Done) (site : Site) (f : Option Function) (vs : List (M.Value × IntType)) → ((fn : Function) → f ≡ Some fn → R.Price true 0 c (run fn)) → R.Cost 1 (steps.parameters f + c) (call_of p M run site f vs)
  pays_call c run site None vs h = q.less 0 1 0 (0 + c) _ (omega arith) (omega arith) q.missing
  pays_call c run site (Some fn) vs h =
      let n : ℕ = length fn.params in
      q.many_ticks AParameter n 1 c _ (q.less (suc n) (n + 1) c c _ (omega arith) (omega arith) (q.room (suc n) c _ (q.called n c site _ (pays_params c fn.params vs (run fn) (h fn refl)))))

  -- a function's body with calls at most n deep
  pays_run : (n f : ℕ) (fn : Function) → slice_get p.functions f ≡ Some fn → R.Price true 0 (steps.steps_in p k n f) (run_in p M (suc n) fn)
  pays_run zero f fn e =
      subst (λ o. R.Price true 0 (steps.function_of p k (λ g. 0) o) (run_in p M 1 fn)) (sym e)
      (pays_body (λ g. 0) (λ site g vs. call_of p M (run_in p M 0) site (slice_get p.functions g) vs) (λ site g vs. pays_call 0 (run_in p M 0) site (slice_get p.functions g) vs (λ fn z. q.deep true)) fn.result true fn.body)
  pays_run (suc n) f fn e =
      subst (λ o. R.Price true 0 (steps.function_of p k (λ g. steps.steps_in p k n g) o) (run_in p M (suc (suc n)) fn)) (sym e)
      (pays_body (λ g. steps.steps_in p k n g) (λ site g vs. call_of p M (run_in p M (suc n)) site (slice_get p.functions g) vs)
      (λ site g vs. pays_call (steps.steps_in p k n g) (run_in p M (suc n)) site (slice_get p.functions g) vs (λ fn z. pays_run n g fn z)) fn.result true fn.body)

  -- main
  pub pays_main : (n : ℕ) → R.Price true 0 (steps.steps_in p k n p.main) (run_main p M (suc n))
  pays_main n = by (slice_get p.functions p.main) refl
    where
      by : (o : Option Function) → slice_get p.functions p.main ≡ o → R.Price true 0 (steps.steps_in p k n p.main) (run_if p M (suc n) o)
      by None e = free_done (q.next true)
      by (Some fn) e = pays_run n p.main fn e
