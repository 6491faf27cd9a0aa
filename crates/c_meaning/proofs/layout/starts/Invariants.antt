use Rattle.std.proofs.Common.{ℕ, ◌<◌, ◌≤◌, length}
use Rattle.c_meaning.specs.Layout.{start, Rising}
use Rattle.c_meaning.proofs.layout.starts.Given as goal

-- no names of the objects so far begin behind the next object's
abbrev pub invariant-loop-size : goal.invariant-loop-size
invariant-loop-size l = record {
  rising : Rising l.starts.items;
  below : (i : ℕ) → i < length l.starts.items → start l.starts.items i ≤ l.names;
}
