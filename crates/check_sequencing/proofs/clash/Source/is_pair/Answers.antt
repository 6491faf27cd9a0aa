use Rattle.check_sequencing.specs.Deciding.{bodies_of, objects_of}
use Rattle.check_sequencing.proofs.PairLaws.{pair_told}
use Rattle.check_sequencing.proofs.clash.Source.is_pair.Goals as goal

pub returns-clause-told : goal.returns-clause-told
returns-clause-told c = pair_told (bodies_of c.args.self.now) (objects_of c.args.self.now) c.in_ok-told.told c.args.first.now c.args.last.now c.in_ok-told.ensures.told
