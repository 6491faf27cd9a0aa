use Rattle.std.proofs.Common.{◌≡◌, drop}
use Rattle.std.specs.List.{list_all}
use Rattle.c_tokens.specs.declared.token.Token.{Token}
use Rattle.c_parser.specs.Items.{may_be_closed}
use Rattle.c_parser.proofs.closed.are_closed.Given as goal

abbrev pub invariant-loop-token : goal.invariant-loop-token
invariant-loop-token l = list_all (λ (t : Token). may_be_closed t.kind) (drop l.token-index l.front) ≡ list_all (λ (t : Token). may_be_closed t.kind) l.front
