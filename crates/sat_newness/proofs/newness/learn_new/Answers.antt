use Rattle.std.proofs.Common.{refl, ap}
use Rattle.std.specs.Prelude.{length}
use Rattle.sat_newness.proofs.Longer.{first_log}
use Rattle.sat_newness.proofs.newness.learn_new.Goals as goal

pub loop-init : goal.loop-init
loop-init c = record {
  log = first_log c.args.cnf.now.clauses c.new-chains.result c.len.result c.in_ok-pairs.pairs.items (record { one = 0; other = 0 }) refl c.len.ensures c.in_ok-pairs.ensures c.new-chains.ensures;
  counted = ap length c.new-chains.ensures;
}
