use Rattle.std.proofs.Common.{◌≡◌, ◌++◌, drop}
use Rattle.witval.specs.Weeding.{kept_entries}
use Rattle.witval.proofs.keeping.keep_entries.Given as goal

abbrev pub invariant-loop-entry : goal.invariant-loop-entry
invariant-loop-entry l = l.kept ++ kept_entries l.first l.numbers (drop l.entry-index l.entries) ≡ kept_entries 1 l.numbers l.entries
