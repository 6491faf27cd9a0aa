-- The view of a tree, by its parts: a `Seq` is seen as a list.
use denote.Hole.Carrier.{out}
use Rattle.std.proofs.Common.{◌≡◌, refl, ap, sym, ◌∙◌, ℕ, List, [], ◌∷◌, ◌++◌}
use Rattle.c_core.specs.declared.number.Spot.{Spot}
use Rattle.c_parser.specs.Tree as t
use Rattle.c_parser.specs.View.{node_view, row_view, expr_view, exprs_view}
use Rattle.c_parser.specs.declared.tree.RawExpr.{RawExpr}
use Rattle.c_parser.specs.declared.tree.RawNode.{RawNode, out-RawNode, Row_of-RawExpr, end_of-RawExpr, more_of-RawExpr, items-the_row-RawExpr, items_shown-the_row-RawExpr-0}
use Rattle.c_parser.specs.declared.tree.RawNode.TheVariants.{Number, Char, Var, Index', Unary', Cast', Step', Binary', Logic', Choose', Comma', Assign', Call', Index, outs-Index, Call, outs-Call}
use Rattle.c_parser.specs.declared.tree.RawNode.TheOpen.{RawNode-F, Number as NumberF, Char as CharF, Var as VarF, Index as IndexF, Unary as UnaryF, Cast as CastF, Step as StepF, Binary as BinaryF, Logic as LogicF, Choose as ChooseF, Comma as CommaF, Assign as AssignF, Call as CallF}

-- one level of a node
abbrev pub node_of : RawNode-F RawNode RawExpr → t.Node
node_of (NumberF v decimal unsigned longs) = t.Number v decimal unsigned longs
node_of (CharF v) = t.Char v
node_of (VarF x p) = t.Var x p
node_of (IndexF x p es) = t.Index x p (t.exps (exprs_view es))
node_of (UnaryF op a) = t.Unary op (expr_view a.value)
node_of (CastF to a) = t.Cast to (expr_view a.value)
node_of (StepF op a) = t.Step op (expr_view a.value)
node_of (BinaryF op a b) = t.Binary op (expr_view a.value) (expr_view b.value)
node_of (LogicF both a b) = t.Logic both (expr_view a.value) (expr_view b.value)
node_of (ChooseF mark e a b) = t.Choose mark (expr_view e.value) (expr_view a.value) (expr_view b.value)
node_of (CommaF a b) = t.Comma (expr_view a.value) (expr_view b.value)
node_of (AssignF op a b) = t.Assign op (expr_view a.value) (expr_view b.value)
node_of (CallF f p es close) = t.Call f p (t.exps (exprs_view es)) close

row_views : {m : _} (k : Row_of-RawExpr m) → row_view k ≡ t.exps (exprs_view (items-the_row-RawExpr m k))
row_views end_of-RawExpr = refl
row_views (more_of-RawExpr spot node rest) = ap (λ es. t.MoreExp (t.Expr spot (node_view node)) es) (row_views rest)

pub node_views : (n : RawNode) → node_view n ≡ node_of (out-RawNode n)
unfolding out-RawNode out
node_views (Number v decimal unsigned longs) = refl
node_views (Char v) = refl
node_views (Var x p) = refl
node_views (Index' x p shape row) = ap (λ es. t.Index x p es) (row_views row ∙ ap (λ es. t.exps (exprs_view es)) (sym (items_shown-the_row-RawExpr-0 shape row)))
node_views (Unary' op b s n) = refl
node_views (Cast' to b s n) = refl
node_views (Step' op b s n) = refl
node_views (Binary' op b s n b' s' n') = refl
node_views (Logic' both b s n b' s' n') = refl
node_views (Choose' mark b s n b' s' n' b'' s'' n'') = refl
node_views (Comma' b s n b' s' n') = refl
node_views (Assign' op b s n b' s' n') = refl
node_views (Call' f p shape row close) = ap (λ es. t.Call f p es close) (row_views row ∙ ap (λ es. t.exps (exprs_view es)) (sym (items_shown-the_row-RawExpr-0 shape row)))

pub view_of_index : (x : List ℕ) (p : Spot) (es : List RawExpr) → node_view (Index x p es) ≡ t.Index x p (t.exps (exprs_view es))
view_of_index x p es = node_views (Index x p es) ∙ ap node_of (outs-Index x p es)

pub view_of_call : (f : List ℕ) (p : Spot) (es : List RawExpr) (close : Spot) → node_view (Call f p es close) ≡ t.Call f p (t.exps (exprs_view es)) close
view_of_call f p es close = node_views (Call f p es close) ∙ ap node_of (outs-Call f p es close)

pub view_of_more : (es : List RawExpr) (e : RawExpr) → exprs_view (es ++ e ∷ []) ≡ exprs_view es ++ expr_view e ∷ []
view_of_more [] e = refl
view_of_more (x ∷ es) e = ap (λ y. expr_view x ∷ y) (view_of_more es e)
