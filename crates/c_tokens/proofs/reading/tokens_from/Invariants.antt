use Rattle.std.proofs.Common.{List, ◌++◌, length}
use Rattle.c_tokens.specs.declared.token.Token.{Token}
use Rattle.c_tokens.specs.Reading.{Ending, Reads}
use Rattle.c_tokens.proofs.reading.tokens_from.Given as goal

-- what is read from here on stands behind what was found
abbrev pub invariant-loop-rest : goal.invariant-loop-rest
invariant-loop-rest l = (ts : List Token) (end : Ending) → Reads l.directives l.place l.rest ts end → Reads l.directives l.fn.from l.fn.bytes (l.found ++ ts) end

abbrev pub decreases-loop-rest : goal.decreases-loop-rest
decreases-loop-rest l = length l.rest
