-- What accepted logs say of a program.
use Rattle.std.specs.Prelude.{List}
use Rattle.c_core.specs.Tree.{Program}
use Rattle.c_lifting.specs.Lifting.{Lifted}
use Rattle.c_meaning.specs.Duties.{Placed}
use Rattle.wv_cert.specs.declared.checking.Rechecked.{Rechecked}
use Rattle.wv_cert.specs.declared.checking.Rechecked.TheVariants.{Yes}

-- where logs are accepted, no run violates the property, whatever its inputs and however many its steps, and each invariant holds
-- whenever its place is reached
abbrev pub IsCertified : Program → List Placed → Rechecked → Type 0
IsCertified p I (Yes count) = Lifted p I
IsCertified p I answer = Unit {0}
