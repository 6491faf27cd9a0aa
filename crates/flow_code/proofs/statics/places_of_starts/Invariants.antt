use Rattle.std.proofs.Common.{◌≡◌, ◌<◌, ℕ, length, get_or, drop, slice_get}
use Rattle.c_meaning.specs.Run.{start_values}
use Rattle.flow_code.specs.Statics.{values_of}
use Rattle.flow_code.proofs.statics.places_of_starts.Given as goal

-- each object's place is that of its first start among those that were passed
abbrev pub invariant-loop-place : goal.invariant-loop-place
invariant-loop-place l = record {
  count : length l.places.items ≡ length l.initial.places.items;
  values : (o : ℕ) → o < length l.initial.places.items → values_of (slice_get l.starts (get_or l.places.items o 0)) ≡ start_values o (drop l.place l.starts);
}
