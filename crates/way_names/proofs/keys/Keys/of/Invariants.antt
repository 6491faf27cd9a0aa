use Rattle.std.proofs.Common.{◌≡◌, ◌++◌, ℕ, List, Some, drop, map}
use Rattle.c_core.specs.declared.tree.Object.{Object}
use Rattle.way_places.specs.Seeking.{or_else}
use Rattle.way_names.specs.Keys.{first_named, key_of, number_in}
use Rattle.way_names.proofs.keys.Keys.of.Given as goal

-- with what is left they become what the whole gives
abbrev pub invariant-loop-number : goal.invariant-loop-number
invariant-loop-number l = record {
  named : (x : List ℕ) → or_else (number_in l.numbers x) (first_named l.number (drop l.number l.objects) x) ≡ key_of l.objects x;
  keyed : map Some l.of_objects.items ++ map (λ (o : Object). key_of l.objects o.name) (drop l.number l.objects) ≡ map (λ (o : Object). key_of l.objects o.name) l.objects;
}
