use Rattle.circuits.proofs.Nets.{opp}
use Rattle.circuits.proofs.Halves.{remainder_gives, twice}
use Rattle.circuits.proofs.quotients.remainder.Goals as goal

pub returns-clause-value : goal.returns-clause-value
returns-clause-value c =
    let k = c.in_ok-out.ensures.value in
    remainder_gives _ _ c.requires.promoted k k.overflow (twice (opp c.not.ensures k.some)) c.from_vec-bits.ensures
