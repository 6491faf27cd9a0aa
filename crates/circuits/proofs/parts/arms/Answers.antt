use Rattle.std.proofs.Common.{refl}
use Rattle.circuits.proofs.FactLaws.{arms_of}
use Rattle.circuits.proofs.parts.arms.Goals as goal

pub returns-in-Some : goal.returns-in-Some
returns-in-Some c = arms_of c.args.known.now c.loop-bit.bit-index _ c.loop-bit-test.true refl c.in-Some.ensures
