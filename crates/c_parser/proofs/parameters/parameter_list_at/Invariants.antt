use Rattle.std.proofs.Common.{◌≡◌, map, length}
use Rattle.c_parser.specs.SourceView.{param_view}
use Rattle.c_parser.specs.ReadItems.{read_parameter_list}
use Rattle.c_parser.proofs.ListLaws.{following}
use Rattle.c_parser.proofs.parameters.parameter_list_at.Given as goal

abbrev pub invariant-loop-more : goal.invariant-loop-more
invariant-loop-more l = following (map param_view l.params) (read_parameter_list l.brackets l.more l.rest) ≡ read_parameter_list l.brackets (length l.tokens) l.tokens

abbrev pub decreases-loop-more : goal.decreases-loop-more
decreases-loop-more l = l.more
