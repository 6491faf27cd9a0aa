use Rattle.std.proofs.Common.{◌≡◌, length}
use Rattle.c_parser.specs.Declarations.{behind_attributes}
use Rattle.c_parser.proofs.specifiers.behind_attributes.Given as goal

abbrev pub invariant-loop-more : goal.invariant-loop-more
invariant-loop-more l = behind_attributes l.brackets l.more l.rest ≡ behind_attributes l.brackets (length l.tokens) l.tokens

abbrev pub decreases-loop-more : goal.decreases-loop-more
decreases-loop-more l = l.more
