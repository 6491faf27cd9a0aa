use Rattle.std.proofs.Common.{◌≡◌, ℕ, List, [], take, drop, is_some}
use Rattle.std.specs.BTreeMap.{get_by}
use Rattle.std.specs.List.{list_any}
use Rattle.std.specs.Cmp.Lexicographic.{slice_cmp}
use Rattle.std.specs.Ordering.{nat_cmp}
use Rattle.wv_yaml.specs.Repeats.{has_key_of, repeats_after}
use Rattle.wv_yaml.proofs.repeats.do_keys_repeat.Given as goal

abbrev pub invariant-loop-pair : goal.invariant-loop-pair
invariant-loop-pair l = record {
  seen : (q : List ℕ) → is_some (get_by (λ k. slice_cmp nat_cmp q k.now) l.seen) ≡ list_any (has_key_of q) (take l.pair-index l.pairs);
  same : repeats_after (take l.pair-index l.pairs) (drop l.pair-index l.pairs) ≡ repeats_after [] l.pairs;
}
