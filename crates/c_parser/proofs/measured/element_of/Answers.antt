use Rattle.std.proofs.Common.{◌∙◌, ap, rules}
use Rattle.c_parser.specs.Tree as t
use Rattle.c_parser.specs.View.{exprs_view}
use Rattle.c_parser.proofs.Views.{view_of_index}
use Rattle.c_parser.proofs.measured.element_of.Goals as goal

pub returns-clause-expr : goal.returns-clause-expr
returns-clause-expr c = ap (λ n. t.Expr c.args.spot n) (view_of_index _ c.args.spot c.args.indexes.exprs ∙ ap (λ w. t.Index w c.args.spot (t.exps (exprs_view c.args.indexes.exprs))) (search rules))
