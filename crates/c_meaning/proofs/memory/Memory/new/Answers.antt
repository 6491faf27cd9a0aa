use Rattle.std.proofs.Common.{rules}
use Rattle.c_meaning.proofs.Tables.{kept_new}
use Rattle.c_meaning.proofs.memory.Memory.new.Goals as goal

pub invariant_of-result : goal.invariant_of-result
invariant_of-result c = rw (c.new.ensures.items, c.new-2.ensures.items, c.new-3.ensures.items, c.new-4.ensures.items) (kept_new, search rules)
