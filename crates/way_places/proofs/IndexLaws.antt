-- Maps that are made of a program's places, calls and statements give what its walks find.
use Rattle.std.proofs.Common.{◌≡◌, ℕ, refl, sym, ap, ◌∙◌, Bool, true, false, cond, List, [], ◌∷◌, ◌++◌, Option, Some, map}
use Rattle.std.specs.List.{cons_option, filter, filter_map, find}
use Rattle.std.specs.Option.{option_copied, option_map}
use Rattle.std.specs.Prelude.{is_some}
use denote.Ref.{Bor}
use Rattle.c_core.specs.Tree as t
use Rattle.c_core.specs.Tree.{Exp, Node, Const, Var, Index, Unary, Cast, Step, Binary, Logic, Choose, Comma, Assign, Call, Program, Stm}
use Rattle.c_core.specs.Parts.{exps_of_program, fulls_of_program, same_spot, spot_of}
use Rattle.c_core.specs.Places.{aim_fits, aims_of, call_at, calls_reach_error, ends_at, is_named, is_reach_error, leftmost, of_kind, places_of, spots_of_kind, starts_of_reach_error}
use Rattle.c_core.specs.View.{expr_view, expr_view_if, stmt_view}
use Rattle.c_core.specs.declared.number.IntType.{IntType}
use Rattle.c_core.specs.declared.number.Property.{Property}
use Rattle.c_core.specs.declared.number.Property.TheVariants.{UnreachCall, NoOverflow}
use Rattle.c_core.specs.declared.number.Spot.{Spot}
use Rattle.c_core.specs.declared.place.PlaceKind.TheVariants.{Statement}
use Rattle.c_core.specs.declared.tree.Expr.{Expr}
use Rattle.c_core.specs.declared.tree.Stmt.{Stmt}
use Rattle.way_places.specs.Aims.{error_starts, error_starts_in}
use Rattle.way_places.specs.Calls.{call_by, call_of, ends_view}
use Rattle.way_places.specs.Maps.{first_in}
use Rattle.way_places.specs.Neighbours.{pairs_view}
use Rattle.way_places.proofs.SoughtLaws.{leftmost_found}

-- the first of Rust values, and of what contracts see of them
expr_by : (b : Bool) (e : Bor Expr) (o : Option (Bor Expr)) (m : Option Exp) → expr_view_if (option_copied o) ≡ m → expr_view_if (option_copied (cond b (Some e) o)) ≡ cond b (Some (expr_view e.now)) m
expr_by true e o m h = refl
expr_by false e o m h = h

pub first_call : (cs : List (Spot × Bor Expr)) (q : Spot) → expr_view_if (option_copied (first_in cs q)) ≡ first_in (ends_view cs) q
first_call [] q = refl
first_call (c ∷ cs) q = expr_by (same_spot c.0 q) c.1 (first_in cs q) (first_in (ends_view cs) q) (first_call cs q)

stmt_by : (b : Bool) (s : Bor Stmt) (o : Option (Bor Stmt)) (m : Option Stm) → option_map stmt_view (option_copied o) ≡ m → option_map stmt_view (option_copied (cond b (Some s) o)) ≡ cond b (Some (stmt_view s.now)) m
stmt_by true s o m h = refl
stmt_by false s o m h = h

pub first_before : (cs : List (Spot × Bor Stmt)) (q : Spot) → option_map stmt_view (option_copied (first_in cs q)) ≡ first_in (pairs_view cs) q
first_before [] q = refl
first_before (c ∷ cs) q = stmt_by (same_spot c.0 q) c.1 (first_in cs q) (first_in (pairs_view cs) q) (first_before cs q)

-- the first call that ends at a place
call_more : (spot : Spot) (ty : Option IntType) (n : Node) (es : List Exp) (q : Spot) → first_in (filter_map call_of es) q ≡ find (ends_at q) es
    → first_in (cons_option (call_by (t.Expr spot ty n) n) (filter_map call_of es)) q ≡ cond (ends_at q (t.Expr spot ty n)) (Some (t.Expr spot ty n)) (find (ends_at q) es)
call_more spot ty (Call callee args close) es q h = ap (cond (same_spot close q) (Some (t.Expr spot ty (Call callee args close)))) h
call_more spot ty _ es q h = h

call_found : (es : List Exp) (q : Spot) → first_in (filter_map call_of es) q ≡ find (ends_at q) es
call_found [] q = refl
call_found (t.Expr spot ty n ∷ es) q = call_more spot ty n es q (call_found es q)

pub call_is_found : (p : Program) (q : Spot) → first_in (filter_map call_of (exps_of_program p)) q ≡ call_at p q
call_is_found p q = call_found (exps_of_program p) q

-- the calls of `reach_error` among calls are those among expressions
abbrev starts : List Exp → List Spot
starts es = map spot_of (filter calls_reach_error es)

kept_start : (b : Bool) (spot : Spot) (e : Exp) (l : List Spot) (es : List Exp) → spot_of e ≡ spot → l ≡ map spot_of es → cond b (spot ∷ l) l ≡ map spot_of (cond b (e ∷ es) es)
kept_start true spot e l es s h = ap (λ k. spot ∷ k) h ∙ ap (λ x. x ∷ map spot_of es) (sym s)
kept_start false spot e l es s h = h

start_more : (spot : Spot) (ty : Option IntType) (n : Node) (es : List Exp) → error_starts (filter_map call_of es) ≡ starts es
    → error_starts (cons_option (call_by (t.Expr spot ty n) n) (filter_map call_of es)) ≡ map spot_of (cond (calls_reach_error (t.Expr spot ty n)) (t.Expr spot ty n ∷ filter calls_reach_error es) (filter calls_reach_error es))
start_more spot ty (Call callee args close) es h =
    kept_start (is_reach_error callee) spot (t.Expr spot ty (Call callee args close)) (error_starts (filter_map call_of es)) (filter calls_reach_error es) refl h
start_more spot ty _ es h = h

starts_found : (es : List Exp) → error_starts (filter_map call_of es) ≡ starts es
starts_found [] = refl
starts_found (t.Expr spot ty n ∷ es) = start_more spot ty n es (starts_found es)

errors_found : (property : Property) (es : List Exp) → error_starts_in property (filter_map call_of es) ≡ starts_of_reach_error property es
errors_found UnreachCall es = starts_found es
errors_found NoOverflow es = refl

pub aims_are_found : (p : Program) → of_kind Statement (places_of p) ++ map spot_of (fulls_of_program p) ++ error_starts_in p.property (filter_map call_of (exps_of_program p)) ≡ aims_of p
aims_are_found p = ap (λ l. spots_of_kind Statement p ++ map spot_of (fulls_of_program p) ++ l) (errors_found p.property (exps_of_program p))

-- the leftmost is there exactly where a target may stand
pub aim_is_leftmost : (p : Program) (line : ℕ) (column : Option ℕ) → is_some (leftmost (filter (is_named line column) (aims_of p))) ≡ aim_fits p line column
aim_is_leftmost p line column = leftmost_found line column (aims_of p)
