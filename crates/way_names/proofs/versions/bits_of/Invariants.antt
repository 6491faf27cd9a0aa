use Rattle.std.proofs.Common.{◌≡◌, ◌<◌, ◌-◌, ◌^◌}
use Rattle.way_names.proofs.versions.bits_of.Given as goal

-- a power of two is no less than its exponent
abbrev pub invariant-loop-most : goal.invariant-loop-most
invariant-loop-most l = record { power : l.most ≡ 2 ^ l.bits; high : l.bits < l.most }

abbrev pub decreases-loop-most : goal.decreases-loop-most
decreases-loop-most l = l.count - l.most
