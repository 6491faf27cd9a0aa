use Rattle.std.proofs.Common.{refl}
use Rattle.circuits.proofs.HintLaws.{constant_bit}
use Rattle.circuits.proofs.answers.constant.Goals as goal

pub returns : goal.returns
returns c = λ net n. constant_bit net c.args.value (λ v. c.args.value) n (λ v. refl)
