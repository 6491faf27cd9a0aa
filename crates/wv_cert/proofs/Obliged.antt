-- From failing bits that are never true to all runs.
use Rattle.std.proofs.Common.{◌≡◌, ◌+◌, ◌-◌, ◌<◌, ◌^◌, true, List, length, get_or, Some, arith, sym, ap, ◌∙◌}
use Rattle.std.specs.Prelude.{slice_get}
use Rattle.std.proofs.lemmas.Option.{slice_get-get_or}
use Rattle.c_core.specs.Tree.{Program}
use Rattle.c_lifting.specs.Lifting.{EveryObligationHolds, Lifted}
use Rattle.c_meaning.specs.declared.run.HavocEnd.TheVariants.{Failed}
use Rattle.c_meaning.specs.Duties.{Placed, Duties}
use Rattle.circuits.specs.declared.net.Bit.{Bit}
use Rattle.circuits.specs.Net.{IsNet}
use Rattle.circuits.proofs.Nets.{counted}
use Rattle.sym_duties.specs.declared.obligations.Obligations.{Obligations}
use Rattle.sym_duties.specs.Promise.{ArePromised}
use Rattle.wv_cert.specs.Accepted.{AreNeverTrue, IsSound}
use Rattle.wv_cert.specs.Certified.{IsCertified}
use Rattle.wv_cert.specs.declared.checking.Rechecked.{Rechecked}
use Rattle.wv_cert.specs.declared.checking.Rechecked.TheVariants.{Yes, No, Count}
use Rattle.wv_cert.proofs.Digits.{never}

-- what stands where a list has no bit
abbrev no_bit : Bit
no_bit = record { node = 0; negated = true }

pub small : (p : Program) (I : List Placed) (o : Obligations) → ArePromised p I o → IsNet o.net → length o.net < 2 ^ 28
small p I o h n = let are = h.2 in omega (arith, counted o.net n, are.gates, are.feeds, are.drawn, are.light)

pub numbered : (p : Program) (I : List Placed) (o : Obligations) → ArePromised p I o → length o.failing < 2 ^ 32
numbered p I o h = omega (arith, h.2.many, h.2.numbered)

all_hold : (p : Program) (I : List Placed) (o : Obligations) → ArePromised p I o → AreNeverTrue o.net o.failing (length o.failing) → EveryObligationHolds p I
all_hold p I o h none number low high w ended =
    let are = h.2 in
    let j = number - 1 in
    let many : length o.failing ≡ length (Duties p I) = are.many ∙ ap length are.list in
    let inside : j < length o.failing = omega (arith, many, low, high) in
    let b = get_or o.failing j no_bit in
    let at : slice_get o.failing j ≡ Some b = slice_get-get_or o.failing j no_bit inside in
    let told = are.all w in
    let same : number ≡ j + 1 = omega (arith, low) in
    never (sym (none j b inside at told.0) ∙ (told.1.ends j b at).1 (ended ∙ ap Failed same))

pub certified : (p : Program) (I : List Placed) (o : Obligations) (answer : Rechecked) → ArePromised p I o → (EveryObligationHolds p I → Lifted p I)
    → IsSound o.net o.failing answer → IsCertified p I answer
certified p I o (Yes count) h lifted none = lifted (all_hold p I o h none)
certified p I o (No index) h lifted none = tt
certified p I o (Count expected found) h lifted none = tt
