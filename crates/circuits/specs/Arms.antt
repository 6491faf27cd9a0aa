-- What is known of a bit in the arms of a disjunction.
use Rattle.std.specs.Prelude.{Bool, ◌||◌, List}
use Rattle.circuits.specs.declared.net.Bit.{Bit}
use Rattle.circuits.specs.declared.net.NetNode.{NetNode}
use Rattle.circuits.specs.declared.answers.Arm.{Arm}
use Rattle.circuits.specs.declared.answers.Arm.TheVariants.{Never, Constant, Open}
use Rattle.circuits.specs.Facts.{Condition, IsAnswer, IsNowhere}

-- what is known of a bit wherever a condition is met
abbrev pub IsArm : List NetNode → Condition → Bit → Arm → Type 0
IsArm net here b Never = IsNowhere here
IsArm net here b (Constant value) = IsAnswer net here b value
IsArm net here b Open = Unit {0}

-- the value of a bit where either of two conditions is met
abbrev pub IsOfArms : Arm → Arm → Bool → Type 0
IsOfArms first second value = (net : List NetNode) (b : Bit) (one other : Condition) → IsArm net one b first → IsArm net other b second → IsAnswer net (λ v. one v || other v) b value
