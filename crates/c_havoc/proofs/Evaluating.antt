-- Expressions, part by part.
use Rattle.std.proofs.Common.{◌≡◌, ◌∙◌, ap, subst, sym, not, cond, ◌&&◌, is_some, Bool, true, false, ℕ, suc, ℤ, List, [], ◌∷◌, ◌++◌, drop, Option, None, Some, Result, Ok, Err, refl}
use Rattle.std.proofs.lemmas.List.{append_assoc, append-nil}
use Rattle.c_core.specs.Tree.{Program, Exp, Expr, Node, Cast, Logic, Call, Exps, NoExp, MoreExp}
use Rattle.c_core.specs.View.{expr_view, exprs_view}
use Rattle.c_core.specs.declared.tree.Expr.{Expr as RustExpr}
use Rattle.c_core.specs.declared.tree.Callee.{Callee}
use Rattle.c_core.specs.declared.number.IntType.{IntType}
use Rattle.c_core.specs.declared.number.Spot.{Spot}
use Rattle.c_core.specs.Types.{is_zero}
use Rattle.c_meaning.specs.Objects.{type_of}
use Rattle.c_meaning.specs.Eval.{evals, is_used}
use Rattle.c_meaning.specs.Meaning.{Use, Used, Where}
use Rattle.c_meaning.specs.Acts.{Res, Go, Stop, bind}
use Rattle.c_meaning.specs.Duties.{Placed}
use Rattle.c_meaning.specs.Havoc.{Stopped, Left}
use Rattle.run_state.specs.Interpreting.{same, key_of, pairs_of}
use Rattle.run_state.specs.declared.machine.Typed.{Typed}
use Rattle.run_state.specs.declared.machine.Element.{Element}
use Rattle.havoc_state.specs.Havocking.{Gives, havocked, calls, evaluated, noded, targeted, placed_at, listed, callee_gives}
use Rattle.havoc_state.specs.declared.machine.Halt.{Halt}
use Rattle.havoc_state.proofs.Giving.{halted, passed}

module _ (p : Program) (I : List Placed) (n : ℕ) where
  -- a node, by another name
  pub as_form : (at : Where) (want : Use) (spot : Spot) (ty : Option IntType) (x y : Node) (s u : Left) (r : Result ℤ Halt)
      → x ≡ y → Gives same r u (noded p I n at want spot ty y s) → Gives same r u (evaluated p I n at want (Expr spot ty x) s)
  as_form at want spot ty x y s u r e g = subst (λ z. Gives same r u (noded p I n at want spot ty z s)) (sym e) g

  pub as_noded : (at : Where) (want : Use) (spot : Spot) (ty : Option IntType) (x y : Node) (s u : Left) (r : Result ℤ Halt)
      → x ≡ y → Gives same r u (noded p I n at want spot ty y s) → Gives same r u (noded p I n at want spot ty x s)
  as_noded at want spot ty x y s u r e g = subst (λ z. Gives same r u (noded p I n at want spot ty z s)) (sym e) g

  pub as_place : (at : Where) (spot : Spot) (ty : Option IntType) (x y : Node) (s u : Left) (r : Result Element Halt)
      → x ≡ y → Gives key_of r u (placed_at p I n at spot y s) → Gives key_of r u (targeted p I n at (Expr spot ty x) s)
  as_place at spot ty x y s u r e g = subst (λ z. Gives key_of r u (placed_at p I n at spot z s)) (sym e) g

  -- the place and the use of a cast, and of `&&` and `||`, don't matter
  pub cast_gives : (at : Where) (want : Use) (spot spot' : Spot) (ty : Option IntType) (a : Exp) (s u : Left) (r : Result ℤ Halt)
      → Gives same r u (noded p I n at Used spot' ty (Cast a) s) → Gives same r u (noded p I n at want spot ty (Cast a) s)
  cast_gives at want spot spot' None a s u r g = g
  cast_gives at want spot spot' (Some ty) a s u r g = g

  pub logic_gives : (at : Where) (want : Use) (spot spot' : Spot) (ty : Option IntType) (both : Bool) (a b : Exp) (s u : Left) (r : Result ℤ Halt)
      → Gives same r u (noded p I n at Used spot' None (Logic both a b) s) → Gives same r u (noded p I n at want spot ty (Logic both a b) s)
  logic_gives at want spot spot' ty true a b s u r g = g
  logic_gives at want spot spot' ty false a b s u r g = g

  -- at a mark, the part that is picked
  pub picked_first : (a b : Left → Res Stopped Left ℤ) (v : ℤ) (s u : Left) (r : Result ℤ Halt)
      → not (is_zero v) ≡ true → Gives same r u (a s) → Gives same r u (cond (not (is_zero v)) a b s)
  picked_first a b v s u r h g = subst (λ t. Gives same r u (cond t a b s)) (sym h) g

  pub picked_second : (a b : Left → Res Stopped Left ℤ) (v : ℤ) (s u : Left) (r : Result ℤ Halt)
      → not (is_zero v) ≡ false → Gives same r u (b s) → Gives same r u (cond (not (is_zero v)) a b s)
  picked_second a b v s u r h g = subst (λ t. Gives same r u (cond t a b s)) (sym h) g

  -- arguments, listed after others
  after_first : (at : Where) (vs : List (ℤ × IntType)) (ty : IntType) (es : Exps) (r : Res Stopped Left ℤ)
      → ((v : ℤ) (u : Left) → listed p I n at (vs ++ (v, ty) ∷ []) es u ≡ bind (evals p (havocked p I) (calls p I n) at es u) (λ ws t. Go ((vs ++ (v, ty) ∷ []) ++ ws) t))
      → bind r (λ v u. listed p I n at (vs ++ (v, ty) ∷ []) es u)
      ≡ bind (bind r (λ v u. bind (evals p (havocked p I) (calls p I n) at es u) (λ ws t. Go ((v, ty) ∷ ws) t))) (λ ws t. Go (vs ++ ws) t)
  after_first at vs ty es (Stop e u) k = refl
  after_first at vs ty es (Go v u) k = k v u ∙ behind (evals p (havocked p I) (calls p I n) at es u)
    where
      behind : (q : Res Stopped Left (List (ℤ × IntType))) → bind q (λ ws t. Go ((vs ++ (v, ty) ∷ []) ++ ws) t) ≡ bind (bind q (λ ws t. Go ((v, ty) ∷ ws) t)) (λ ws t. Go (vs ++ ws) t)
      behind (Stop e t) = refl
      behind (Go ws t) = ap (λ xs. Go xs t) (append_assoc vs ((v, ty) ∷ []) ws)

  listed_after : (at : Where) (vs : List (ℤ × IntType)) (es : Exps) (s : Left)
      → listed p I n at vs es s ≡ bind (evals p (havocked p I) (calls p I n) at es s) (λ ws t. Go (vs ++ ws) t)
  listed_after at vs NoExp s = ap (λ xs. Go xs s) (sym (append-nil vs))
  listed_after at vs (MoreExp e es) s = after_first at vs (type_of e) es (evaluated p I n at Used e s) (λ v u. listed_after at (vs ++ (v, type_of e) ∷ []) es u)

  unchanged : (q : Res Stopped Left (List (ℤ × IntType))) → bind q (λ ws t. Go ([] ++ ws) t) ≡ q
  unchanged (Go ws t) = refl
  unchanged (Stop e t) = refl

  pub evals_give : (at : Where) (es : Exps) (s u : Left) (r : Result (List Typed) Halt)
      → Gives pairs_of r u (listed p I n at [] es s) → Gives pairs_of r u (evals p (havocked p I) (calls p I n) at es s)
  evals_give at es s u r g = subst (Gives pairs_of r u) (listed_after at [] es s ∙ unchanged (evals p (havocked p I) (calls p I n) at es s)) g

  -- arguments in turn
  module _ (at : Where) (args : List RustExpr) (i : ℕ) (x : RustExpr) (vs : List Typed) (s u : Left) (whole : Res Stopped Left (List (ℤ × IntType))) where
    abbrev behind : Type 0
    behind = drop i args ≡ x ∷ drop (suc i) args

    abbrev left_to_list : Type 0
    left_to_list = listed p I n at (pairs_of vs) (exprs_view (drop i args)) s ≡ whole

    next_argument : behind → left_to_list → bind (evaluated p I n at Used (expr_view x) s) (λ v t. listed p I n at (pairs_of vs ++ (v, type_of (expr_view x)) ∷ []) (exprs_view (drop (suc i) args)) t) ≡ whole
    next_argument d l = ap (λ es. listed p I n at (pairs_of vs) (exprs_view es) s) (sym d) ∙ l

    pairs_appended : (vs : List Typed) (y : Typed) → pairs_of (vs ++ y ∷ []) ≡ pairs_of vs ++ (y.value, y.ty) ∷ []
    pairs_appended [] y = refl
    pairs_appended (v ∷ vs) y = ap (λ ps. (v.value, v.ty) ∷ ps) (pairs_appended vs y)

    pub list_on : (ws : List Typed) (y : Typed) → behind → left_to_list → evaluated p I n at Used (expr_view x) s ≡ Go y.value u → y.ty ≡ type_of (expr_view x) → ws ≡ vs ++ y ∷ []
        → listed p I n at (pairs_of ws) (exprs_view (drop (suc i) args)) u ≡ whole
    list_on ws y d l g ty e =
        ap (λ xs. listed p I n at (pairs_of xs) (exprs_view (drop (suc i) args)) u) e
        ∙ ap (λ ps. listed p I n at ps (exprs_view (drop (suc i) args)) u) (pairs_appended vs y ∙ ap (λ k. pairs_of vs ++ (y.value, k) ∷ []) ty)
        ∙ ap (λ r. bind r (λ v t. listed p I n at (pairs_of vs ++ (v, type_of (expr_view x)) ∷ []) (exprs_view (drop (suc i) args)) t)) (sym g)
        ∙ next_argument d l

    pub list_halted : (h : Halt) → behind → left_to_list → Gives same (Err h) u (evaluated p I n at Used (expr_view x) s) → Gives pairs_of (Err h) u whole
    list_halted h d l g = subst (Gives pairs_of (Err h) u) (next_argument d l) (halted same pairs_of h u (evaluated p I n at Used (expr_view x) s) _ g)

  -- a call, after its arguments
  pub entered : (at : Where) (want : Use) (spot close : Spot) (ty : Option IntType) (callee : Callee) (es : Exps) (vs : List Typed) (needed : Bool) (s t u : Left) (r : Result ℤ Halt)
      → Gives pairs_of (Ok vs) t (listed p I n at [] es s) → needed ≡ (is_used want && is_some ty)
      → Gives same r u (callee_gives p I n at (record { spot = spot; close = close; needed = needed }) callee (pairs_of vs) t)
      → Gives same r u (noded p I n at want spot ty (Call callee es close) s)
  entered at want spot close ty callee es vs needed s t u r l m g =
      passed pairs_of same vs t u (evals p (havocked p I) (calls p I n) at es s) _ r (evals_give at es s t (Ok vs) l)
      (subst (λ k. Gives same r u (callee_gives p I n at (record { spot = spot; close = close; needed = k }) callee (pairs_of vs) t)) m g)
