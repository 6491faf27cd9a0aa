use Rattle.way_match.proofs.RestLaws.{passed_still}
use Rattle.way_match.proofs.states.States.calm.Goals as goal

pub returns-clause-still : goal.returns-clause-still
returns-clause-still c = λ ss states passed.
    (rw c.as_slice.ensures.value at c.quiet_from-quiet.ensures) (passed_still ss c.args.self.now.live.items c.args.self.now.low states passed)
