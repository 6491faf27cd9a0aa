-- From a copy of a bit back to the bit.
use Rattle.std.proofs.Common.{◌≡◌, ℕ, Bool, true, List, sym, ◌∙◌}
use Rattle.bit_answers.specs.Deciding.{IsNeverTrue}
use Rattle.circuits.specs.declared.net.Bit.{Bit}
use Rattle.circuits.specs.declared.net.NetNode.{NetNode}
use Rattle.circuits.specs.Net.{holds, Means}

module _ (old net : List NetNode) (bit copy : Bit) (m : Means net copy (λ v. holds v old bit)) where
  pub never_back : IsNeverTrue net copy → IsNeverTrue old bit
  never_back never v = sym (m.is v) ∙ never v

  pub true_back : (v : ℕ → Bool) → holds v net copy ≡ true → holds v old bit ≡ true
  true_back v on = sym (m.is v) ∙ on
