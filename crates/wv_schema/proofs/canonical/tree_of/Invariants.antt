use Rattle.std.proofs.Common.{◌≡◌, take, map}
use Rattle.wv_schema.specs.Canonical.{entry_tree}
use Rattle.wv_schema.proofs.canonical.tree_of.Given as goal

abbrev pub invariant-loop-entry : goal.invariant-loop-entry
invariant-loop-entry l = l.trees ≡ map entry_tree (take l.entry-index l.entry-items)
