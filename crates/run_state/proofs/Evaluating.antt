-- Expressions, part by part.
use Rattle.std.proofs.Common.{◌≡◌, ◌∙◌, refl, ap, subst, sym, not, ◌&&◌, is_some, Bool, true, false, ℕ, suc, ℤ, List, [], ◌∷◌, ◌++◌, drop, Option, None, Some, Result, Ok, Err}
use Rattle.std.proofs.lemmas.List.{append_assoc, append-nil}
use Rattle.c_core.specs.Tree.{Program, Exp, Expr, Node, Cast, Logic, Call, Exps, NoExp, MoreExp}
use Rattle.c_core.specs.View.{expr_view, exprs_view}
use Rattle.c_core.specs.declared.tree.Expr.{Expr as RustExpr}
use Rattle.c_core.specs.declared.tree.Callee.{Callee}
use Rattle.c_core.specs.Types.{is_zero}
use Rattle.c_core.specs.declared.number.IntType.{IntType}
use Rattle.c_core.specs.declared.number.Spot.{Spot}
use Rattle.c_meaning.specs.declared.run.Event.{Event}
use Rattle.c_meaning.specs.declared.run.Event.TheVariants.{Branch, Enter}
use Rattle.c_meaning.specs.declared.run.Way.TheVariants.{Truth}
use Rattle.c_meaning.specs.declared.run.End.{End}
use Rattle.c_meaning.specs.Objects.{type_of}
use Rattle.c_meaning.specs.Eval.{evals, is_used}
use Rattle.c_meaning.specs.Cells.{Cell}
use Rattle.c_meaning.specs.Meaning.{Use, Used, Where, Site}
use Rattle.c_meaning.specs.Acts.{Res, Go, Stop, bind}
use Rattle.c_meaning.specs.Run.{State, overflowed}
use Rattle.c_meaning.specs.declared.run.DrawKind.TheVariants.{Input}
use Rattle.c_core.specs.declared.number.Property.{Property}
use Rattle.c_core.specs.declared.number.Property.TheVariants.{UnreachCall, NoOverflow}
use Rattle.c_core.specs.declared.number.Done.{Done}
use Rattle.c_core.specs.declared.number.Done.TheVariants.{Overflow}
use Rattle.c_meaning.specs.Watching.{seen_by}
use Rattle.run_state.specs.Interpreting.{Gives, same, key_of, evaluated, noded, targeted, placed, listed, callee_gives, pairs_of, watched, calls, done, held, ticked, telling, drawing, violating, answering, reaching, input_of, handed_back}
use Rattle.run_state.specs.Ways as w
use Rattle.run_state.specs.Ways.{Ran, IsOn, here, bound}
use Rattle.run_state.specs.declared.machine.Typed.{Typed}
use Rattle.run_state.proofs.Giving.{Behind, halted, passed, starts, left_behind, halted_behind, bound_on, bound_alike, is_on_front, is_here}
use Rattle.run_state.specs.declared.machine.Element.{Element}
use Rattle.run_state.specs.declared.machine.Halt.{Halt}
use Rattle.run_state.specs.declared.machine.Halt.TheVariants.{Ends, NoMemory}

module _ (p : Program) (S : Type 0) (after : Event → List Cell → S → S) (n : ℕ) where
  -- a node, after its step
  pub ticked_node : (at : Where) (want : Use) (spot : Spot) (ty : Option IntType) (x : Node) (s t u : State S) (r : Result ℤ Halt)
      → Gives same (Ok tt) t (ticked p S after s) → Gives same r u (noded p S after n at want spot ty x t)
      → Gives same r u (evaluated p S after n at want (Expr spot ty x) s)
  ticked_node at want spot ty x s t u r e g = passed same same tt t u (ticked p S after s) (λ _. noded p S after n at want spot ty x) r e g

  -- a target, after its step
  pub ticked_target : (at : Where) (spot : Spot) (ty : Option IntType) (x : Node) (s t u : State S) (r : Result Element Halt)
      → Gives same (Ok tt) t (ticked p S after s) → Gives key_of r u (placed p S after n at spot x t)
      → Gives key_of r u (targeted p S after n at (Expr spot ty x) s)
  ticked_target at spot ty x s t u r e g = passed same key_of tt t u (ticked p S after s) (λ _. placed p S after n at spot x) r e g

  -- a node, by another name
  pub as_form : (at : Where) (want : Use) (spot : Spot) (ty : Option IntType) (x y : Node) (s u : State S) (r : Result ℤ Halt)
      → x ≡ y → Gives same r u (noded p S after n at want spot ty y s) → Gives same r u (noded p S after n at want spot ty x s)
  as_form at want spot ty x y s u r e g = subst (λ z. Gives same r u (noded p S after n at want spot ty z s)) (sym e) g

  pub as_place : (at : Where) (spot : Spot) (x y : Node) (s u : State S) (r : Result Element Halt)
      → x ≡ y → Gives key_of r u (placed p S after n at spot y s) → Gives key_of r u (placed p S after n at spot x s)
  as_place at spot x y s u r e g = subst (λ z. Gives key_of r u (placed p S after n at spot z s)) (sym e) g

  -- the place and the use of a cast, and of `&&` and `||`, don't matter
  pub cast_gives : (at : Where) (want : Use) (spot spot' : Spot) (ty : Option IntType) (a : Exp) (s u : State S) (r : Result ℤ Halt)
      → Gives same r u (noded p S after n at Used spot' ty (Cast a) s) → Gives same r u (noded p S after n at want spot ty (Cast a) s)
  cast_gives at want spot spot' None a s u r g = g
  cast_gives at want spot spot' (Some ty) a s u r g = g

  pub logic_gives : (at : Where) (want : Use) (spot spot' : Spot) (ty : Option IntType) (both : Bool) (a b : Exp) (s u : State S) (r : Result ℤ Halt)
      → Gives same r u (noded p S after n at Used spot' None (Logic both a b) s) → Gives same r u (noded p S after n at want spot ty (Logic both a b) s)
  logic_gives at want spot spot' ty true a b s u r g = g
  logic_gives at want spot spot' ty false a b s u r g = g

  -- at a mark, the part that is picked
  pub picked_first : (mark : Spot) (a b : State S → Ran S ℤ) (v : ℤ) (s u : State S) (x : S) (r : Result ℤ Halt)
      → x ≡ after (Branch mark (Truth true)) s.cells s.seen → not (is_zero v) ≡ true → Gives same r u (a (record s { seen = x }))
      → Gives same r u (w.branched p S (seen_by after) mark (not (is_zero v)) a b s)
  picked_first mark a b v s u x r e h g = rw h (passed same same tt (record s { seen = x }) u (telling p S after (Branch mark (Truth true)) s) (λ _. a) r (ap (λ z. Go tt (record s { seen = z })) (sym e)) g)

  pub picked_second : (mark : Spot) (a b : State S → Ran S ℤ) (v : ℤ) (s u : State S) (x : S) (r : Result ℤ Halt)
      → x ≡ after (Branch mark (Truth false)) s.cells s.seen → not (is_zero v) ≡ false → Gives same r u (b (record s { seen = x }))
      → Gives same r u (w.branched p S (seen_by after) mark (not (is_zero v)) a b s)
  picked_second mark a b v s u x r e h g = rw h (passed same same tt (record s { seen = x }) u (telling p S after (Branch mark (Truth false)) s) (λ _. b) r (ap (λ z. Go tt (record s { seen = z })) (sym e)) g)

  -- arguments, listed after others
  after_first : (at : Where) (vs : List (ℤ × IntType)) (ty : IntType) (es : Exps) (r : Ran S ℤ)
      → ((v : ℤ) (u : State S) → listed p S after n at (vs ++ (v, ty) ∷ []) es u ≡ bound (evals p (watched p S after) (calls p S after n) at es u) (λ ws t. held p S after ((vs ++ (v, ty) ∷ []) ++ ws) t))
      → bound r (λ v u. listed p S after n at (vs ++ (v, ty) ∷ []) es u)
      ≡ bound (bound r (λ v u. bound (evals p (watched p S after) (calls p S after n) at es u) (λ ws t. done p S after ((v, ty) ∷ ws) t))) (λ ws t. held p S after (vs ++ ws) t)
  after_first at vs ty es r k =
      bound_alike r _ _ (λ v u. k v u ∙ bound_alike (evals p (watched p S after) (calls p S after n) at es u) _ _ (λ ws t. ap (λ xs. held p S after xs t) (append_assoc vs ((v, ty) ∷ []) ws))
      ∙ sym (bound_on (evals p (watched p S after) (calls p S after n) at es u) (λ ws t. done p S after ((v, ty) ∷ ws) t) (λ ws t. held p S after (vs ++ ws) t)))
      ∙ sym (bound_on r (λ v u. bound (evals p (watched p S after) (calls p S after n) at es u) (λ ws t. done p S after ((v, ty) ∷ ws) t)) (λ ws t. held p S after (vs ++ ws) t))

  listed_after : (at : Where) (vs : List (ℤ × IntType)) (es : Exps) (s : State S)
      → listed p S after n at vs es s ≡ bound (evals p (watched p S after) (calls p S after n) at es s) (λ ws t. held p S after (vs ++ ws) t)
  listed_after at vs NoExp s = ap (λ xs. held p S after xs s) (sym (append-nil vs))
  listed_after at vs (MoreExp e es) s = after_first at vs (type_of e) es (evaluated p S after n at Used e s) (λ v u. listed_after at (vs ++ (v, type_of e) ∷ []) es u)

  -- what was seen before the first of them is on their way
  listed_from : (at : Where) (vs : List (ℤ × IntType)) (es : Exps) (s : State S) → IsOn s.seen (listed p S after n at vs es s).way
  listed_from at vs NoExp s = here []
  listed_from at vs (MoreExp (Expr spot ty x) es) s = here _

  kept : (q : Res End (State S) (List (ℤ × IntType))) → bind q (λ ws t. Go ([] ++ ws) t) ≡ q
  kept (Go ws t) = refl
  kept (Stop e t) = refl

  evals_give : (at : Where) (es : Exps) (s u : State S) (vs : List Typed) → Gives pairs_of (Ok vs) u (listed p S after n at [] es s) → Gives pairs_of (Ok vs) u (evals p (watched p S after) (calls p S after n) at es s)
  evals_give at es s u vs g = sym (kept (evals p (watched p S after) (calls p S after n) at es s).result) ∙ ap (λ (q : Ran S (List (ℤ × IntType))). q.result) (sym (listed_after at [] es s)) ∙ g

  -- where the list of arguments halts, the call halts, which is told next
  halts_before : (e : Event) (res : Res End (State S) (List (ℤ × IntType))) (way : List S) (k : List (ℤ × IntType) → State S → Ran S ℤ) (h : Halt) (u : State S)
      → Gives pairs_of (Err h) u (bound (record { result = res; way = way }) (λ ws t. held p S after ([] ++ ws) t))
      → Gives same (Err h) u (bound (record { result = res; way = way }) (λ ws t. bound (telling p S after e t) (λ _. k ws)))
  halts_before e (Go ws t) way k NoMemory u g =
      let told : State S = record t { seen = after e t.cells t.seen } in
      subst (IsOn u.seen) (append_assoc way (t.seen ∷ []) (k ws told).way) (is_on_front u.seen (way ++ t.seen ∷ []) (k ws told).way g)
  halts_before e (Stop d t) way k NoMemory u g = g
  halts_before e (Go ws t) way k (Ends d) u g = absurd (cc)
  halts_before e (Stop f t) way k (Ends d) u g = ap stopped g
    where
      stopped : Res End (State S) (List (ℤ × IntType)) → Res End (State S) ℤ
      stopped (Go ws v) = Stop d v
      stopped (Stop f v) = Stop f v

  pub call_halted : (at : Where) (want : Use) (spot close : Spot) (ty : Option IntType) (callee : Callee) (es : Exps) (s u : State S) (h : Halt)
      → Gives pairs_of (Err h) u (listed p S after n at [] es s) → Gives same (Err h) u (noded p S after n at want spot ty (Call callee es close) s)
  call_halted at want spot close ty callee es s u h g =
      let q = evals p (watched p S after) (calls p S after n) at es s in
      halts_before (Enter close) q.result q.way (λ vs. callee_gives p S after n at (record { spot = spot; close = close; needed = is_used want && is_some ty }) callee vs) h u
      (subst (Gives pairs_of (Err h) u) (listed_after at [] es s) g)

  -- arguments in turn
  module _ (at : Where) (args : List RustExpr) (i : ℕ) (x : RustExpr) (vs : List Typed) (s u : State S) (whole : Ran S (List (ℤ × IntType))) where
    abbrev behind : Type 0
    behind = drop i args ≡ x ∷ drop (suc i) args

    abbrev left_to_list : Type 0
    left_to_list = Behind (listed p S after n at (pairs_of vs) (exprs_view (drop i args)) s) whole

    next_argument : behind → left_to_list → Behind (bound (evaluated p S after n at Used (expr_view x) s) (λ v t. listed p S after n at (pairs_of vs ++ (v, type_of (expr_view x)) ∷ []) (exprs_view (drop (suc i) args)) t)) whole
    next_argument d l = starts _ _ whole (ap (λ es. listed p S after n at (pairs_of vs) (exprs_view es) s) (sym d)) l

    pairs_appended : (vs : List Typed) (y : Typed) → pairs_of (vs ++ y ∷ []) ≡ pairs_of vs ++ (y.value, y.ty) ∷ []
    pairs_appended [] y = refl
    pairs_appended (v ∷ vs) y = ap (λ ps. (v.value, v.ty) ∷ ps) (pairs_appended vs y)

    pub list_on : (ws : List Typed) (y : Typed) → behind → left_to_list → Gives same (Ok y.value) u (evaluated p S after n at Used (expr_view x) s) → y.ty ≡ type_of (expr_view x) → ws ≡ vs ++ y ∷ []
        → Behind (listed p S after n at (pairs_of ws) (exprs_view (drop (suc i) args)) u) whole
    list_on ws y d l g ty e =
        starts _ _ whole
        (ap (λ xs. listed p S after n at (pairs_of xs) (exprs_view (drop (suc i) args)) u) e
        ∙ ap (λ ps. listed p S after n at ps (exprs_view (drop (suc i) args)) u) (pairs_appended vs y ∙ ap (λ k. pairs_of vs ++ (y.value, k) ∷ []) ty))
        (left_behind same y.value u (evaluated p S after n at Used (expr_view x) s) (λ v t. listed p S after n at (pairs_of vs ++ (v, type_of (expr_view x)) ∷ []) (exprs_view (drop (suc i) args)) t) whole g (next_argument d l))

    -- no memory for the value of an argument
    pub list_full : (v : ℤ) → behind → left_to_list → Gives same (Ok v) u (evaluated p S after n at Used (expr_view x) s) → Gives pairs_of (Err NoMemory) u whole
    list_full v d l g =
        (left_behind same v u (evaluated p S after n at Used (expr_view x) s) (λ v t. listed p S after n at (pairs_of vs ++ (v, type_of (expr_view x)) ∷ []) (exprs_view (drop (suc i) args)) t) whole g (next_argument d l)).way
        u.seen (listed_from at (pairs_of vs ++ (v, type_of (expr_view x)) ∷ []) (exprs_view (drop (suc i) args)) u)

    pub list_halted : (h : Halt) → behind → left_to_list → Gives same (Err h) u (evaluated p S after n at Used (expr_view x) s) → Gives pairs_of (Err h) u whole
    list_halted h d l g = halted_behind same pairs_of h u (evaluated p S after n at Used (expr_view x) s) _ whole (next_argument d l) g

  -- a call, after its arguments and its event
  pub entered : (at : Where) (want : Use) (spot close : Spot) (ty : Option IntType) (callee : Callee) (es : Exps) (vs : List Typed) (needed : Bool) (s t u : State S) (y : S) (r : Result ℤ Halt)
      → Gives pairs_of (Ok vs) t (listed p S after n at [] es s) → y ≡ after (Enter close) t.cells t.seen → needed ≡ (is_used want && is_some ty)
      → Gives same r u (callee_gives p S after n at (record { spot = spot; close = close; needed = needed }) callee (pairs_of vs) (record t { seen = y }))
      → Gives same r u (noded p S after n at want spot ty (Call callee es close) s)
  entered at want spot close ty callee es vs needed s t u y r l e m g =
      passed pairs_of same vs t u (evals p (watched p S after) (calls p S after n) at es s) _ r (evals_give at es s t vs l)
      (subst (λ k. Gives same r u (bound (telling p S after (Enter close) t) (λ _. callee_gives p S after n at (record { spot = spot; close = close; needed = k }) callee (pairs_of vs)))) m
      (passed same same tt (record t { seen = y }) u (telling p S after (Enter close) t) (λ _. callee_gives p S after n at (record { spot = spot; close = close; needed = needed }) callee (pairs_of vs)) r (ap (λ z. Go tt (record t { seen = z })) (sym e)) g))

  -- no memory for its event
  pub enter_halted : (at : Where) (want : Use) (spot close : Spot) (ty : Option IntType) (callee : Callee) (es : Exps) (vs : List Typed) (s t u : State S)
      → Gives pairs_of (Ok vs) t (listed p S after n at [] es s) → u.seen ≡ t.seen → Gives same (Err NoMemory) u (noded p S after n at want spot ty (Call callee es close) s)
  enter_halted at want spot close ty callee es vs s t u l e =
      passed pairs_of same vs t u (evals p (watched p S after) (calls p S after n) at es s) _ (Err NoMemory) (evals_give at es s t vs l) (is_here u.seen t.seen _ e)

  -- an input, drawn and handed back
  pub input_halted : (site : Site) (ty : IntType) (s t : State S) (h : Halt) → Gives same (Err h) t (drawing p S after Input site.spot ty s) → Gives same (Err h) t (input_of p S after site ty s)
  input_halted site ty s t h g = halted same same h t (drawing p S after Input site.spot ty s) (handed_back p S after site.close) g

  pub drawn : (site : Site) (ty : IntType) (s t u : State S) (v : ℤ) (r : Result ℤ Halt)
      → Gives same (Ok v) t (drawing p S after Input site.spot ty s) → Gives same r u (handed_back p S after site.close v t) → Gives same r u (input_of p S after site ty s)
  drawn site ty s t u v r g h = passed same same v t u (drawing p S after Input site.spot ty s) (handed_back p S after site.close) r g h

  pub error_reached : (q : Property) (at : Where) (site : Site) (s u : State S) (r : Result ℤ Halt)
      → q ≡ UnreachCall → Gives same r u (violating p S after at site.spot (Some site.spot) s) → Gives same r u (reaching p S after q at site s)
  error_reached q at site s u r e g = subst (λ k. Gives same r u (reaching p S after k at site s)) (sym e) g

  -- an overflow, where it is the violation
  pub overflow_violates : (at : Where) (spot : Spot) (v : ℤ) (found : Done) (s u : State S) (r : Result ℤ Halt) → p.property ≡ NoOverflow → found ≡ Overflow v
      → Gives same r u (violating p S after at spot None s) → Gives same r u (answering p S after at spot found s)
  overflow_violates at spot v found s u r q e g =
      subst (λ d. Gives same r u (answering p S after at spot d s)) (sym e) (subst (λ k. Gives same r u (w.wanting p S (seen_by after) (overflowed p S (seen_by after) k at spot v) s)) (sym q) g)
