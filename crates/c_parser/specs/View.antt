-- A Rust tree as a pure tree: no boxes and no shapes.
use Rattle.std.specs.Prelude.{List, [], ◌∷◌}
use Rattle.c_parser.specs.Tree as t
use Rattle.c_parser.specs.declared.tree.RawExpr.{RawExpr}
use Rattle.c_parser.specs.declared.tree.RawNode.{RawNode, Row_of-RawExpr, end_of-RawExpr, more_of-RawExpr}
use Rattle.c_parser.specs.declared.tree.RawNode.TheVariants.{Number, Char, Var, Index', Unary', Cast', Step', Binary', Logic', Choose', Comma', Assign', Call'}

abbrev mutual
  -- a node that was read, as the tree of definitions
  pub node_view : RawNode → t.Node
  node_view (Number v decimal unsigned longs) = t.Number v decimal unsigned longs
  node_view (Char v) = t.Char v
  node_view (Var x p) = t.Var x p
  node_view (Index' x p shape row) = t.Index x p (row_view row)
  node_view (Unary' op b s n) = t.Unary op (t.Expr s (node_view n))
  node_view (Cast' to b s n) = t.Cast to (t.Expr s (node_view n))
  node_view (Step' op b s n) = t.Step op (t.Expr s (node_view n))
  node_view (Binary' op b s n b' s' n') = t.Binary op (t.Expr s (node_view n)) (t.Expr s' (node_view n'))
  node_view (Logic' both b s n b' s' n') = t.Logic both (t.Expr s (node_view n)) (t.Expr s' (node_view n'))
  node_view (Choose' mark b s n b' s' n' b'' s'' n'') = t.Choose mark (t.Expr s (node_view n)) (t.Expr s' (node_view n')) (t.Expr s'' (node_view n''))
  node_view (Comma' b s n b' s' n') = t.Comma (t.Expr s (node_view n)) (t.Expr s' (node_view n'))
  node_view (Assign' op b s n b' s' n') = t.Assign op (t.Expr s (node_view n)) (t.Expr s' (node_view n'))
  node_view (Call' f p shape row close) = t.Call f p (row_view row) close

  -- the arguments of a call, or the indexes of an element, in their order
  pub row_view : {m : _} → Row_of-RawExpr m → t.Exps
  row_view end_of-RawExpr = t.NoExp
  row_view (more_of-RawExpr s n row) = t.MoreExp (t.Expr s (node_view n)) (row_view row)

-- an expression as the tree of definitions
abbrev pub expr_view : RawExpr → t.Exp
expr_view e = t.Expr e.spot (node_view e.node)

-- expressions in their order
abbrev pub exprs_view : List RawExpr → List t.Exp
exprs_view [] = []
exprs_view (e ∷ es) = expr_view e ∷ exprs_view es
