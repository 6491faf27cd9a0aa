use Rattle.std.proofs.Common.{ℕ, Bool, ℤ}
use Rattle.circuits.specs.Numbers.{typed}
use Rattle.circuits.proofs.Nets.{opp}
use Rattle.circuits.proofs.Compared.{at_most_gives}
use Rattle.circuits.proofs.comparisons.at_most.Goals as goal

pub returns-clause-value : goal.returns-clause-value
returns-clause-value c =
    let f : (ℕ → Bool) → ℤ = λ v. typed c.args.model c.args.ty v c.args.net.now c.args.a.now in
    let g : (ℕ → Bool) → ℤ = λ v. typed c.args.model c.args.ty v c.args.net.now c.args.b.now in
    at_most_gives f g (opp c.not.ensures c.in_ok-more.ensures.value) c.in_ok-out.ensures
