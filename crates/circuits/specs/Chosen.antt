-- Words where runs are: bits that have the number of others there.
use Rattle.std.specs.Prelude.{◌≡◌, ℕ, Bool, true, ◌||◌, List, length}
use Rattle.circuits.specs.declared.net.Bit.{Bit}
use Rattle.circuits.specs.declared.net.NetNode.{NetNode}
use Rattle.circuits.specs.declared.chosen.Place.{Place}
use Rattle.circuits.specs.declared.chosen.Place.TheVariants.{Lone, Either}
use Rattle.circuits.specs.Numbers.{number, AreIn}
use Rattle.circuits.specs.Facts.{Condition, AllFollow}

-- bits that are known in either of two places, wherever a condition is met
pub record AreInEither (net : List NetNode) (here : Condition) (first second : List Bit) : Type 0 where
  pub one : Condition
  pub other : Condition
  pub either : (v : ℕ → Bool) → here v ≡ true → (one v || other v) ≡ true
  pub in_one : AllFollow net one first
  pub in_other : AllFollow net other second

-- bits that are known where runs are
abbrev pub IsPlace : List NetNode → Condition → Place → Type 0
IsPlace net here (Lone known) = AllFollow net here known.items
IsPlace net here (Either first second) = AreInEither net here first.items second.items

-- bits that have the number of others wherever a condition is met
pub record AreAlike (net : List NetNode) (here : Condition) (bits rest : List Bit) : Type 0 where
  pub inside : AreIn net rest
  pub wide : length rest ≡ length bits
  pub is : (v : ℕ → Bool) → here v ≡ true → number v net bits ≡ number v net rest
