-- A run ends at one obligation.
use Rattle.std.proofs.Common.{◌≡◌, ℕ, ◌+◌, true, sym, ◌∙◌, ap, arith, Some}
use Rattle.std.specs.Prelude.{List, Bool, slice_get}
use Rattle.c_core.specs.Tree.{Program}
use Rattle.c_meaning.specs.declared.run.HavocEnd.{HavocEnd}
use Rattle.c_meaning.specs.declared.run.HavocEnd.TheVariants.{Passed, Dismissed, Failed}
use Rattle.c_meaning.specs.Duties.{Placed}
use Rattle.circuits.specs.declared.net.Bit.{Bit}
use Rattle.circuits.specs.Net.{holds}
use Rattle.sym_duties.specs.declared.obligations.Obligations.{Obligations}
use Rattle.sym_duties.specs.Promise.{ArePromised, OneFails}

abbrev number_of : HavocEnd → ℕ
number_of Passed = 0
number_of Dismissed = 0
number_of (Failed n) = n

pub one_fails : OneFails
one_fails p I o h v i j a b at_i at_j on_i on_j =
    let told = h.2.each v in
    let same : i + 1 ≡ j + 1 = ap number_of (sym ((told.ends i a at_i).0 on_i) ∙ (told.ends j b at_j).0 on_j) in
    omega (arith, same)
