use Rattle.std.proofs.Common.{ap, sym, ◌∙◌}
use Rattle.c_parser.specs.Tree.{exps}
use Rattle.c_parser.specs.View.{exprs_view, node_view}
use Rattle.c_parser.specs.Witness.{is_effectless_node, are_effectless}
use Rattle.c_parser.proofs.Views.{view_of_index}
use Rattle.c_parser.proofs.kinds.+effectless.Goals as goal

pub is_effectless-returns-in-Index : goal.is_effectless-returns-in-Index
is_effectless-returns-in-Index t c =
    c.are_effectless.ensures ∙ ap (λ es. are_effectless (exps (exprs_view es))) c.as_slice.ensures ∙ sym (ap is_effectless_node (ap node_view c.in-Index.is ∙ view_of_index c.in-Index.object c.in-Index.word c.in-Index.at))
