use Rattle.std.proofs.Common.{◌≡◌, length}
use Rattle.c_parser.specs.ReadItems.{read_type_list}
use Rattle.c_parser.proofs.ListLaws.{following}
use Rattle.c_parser.proofs.parameters.type_list_at.Given as goal

abbrev pub invariant-loop-more : goal.invariant-loop-more
invariant-loop-more l = following l.types (read_type_list l.brackets l.more l.rest) ≡ read_type_list l.brackets (length l.tokens) l.tokens

abbrev pub decreases-loop-more : goal.decreases-loop-more
decreases-loop-more l = l.more
