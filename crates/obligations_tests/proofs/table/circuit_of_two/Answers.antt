use Rattle.circuits.proofs.Feeding.{typed_fed, typed_later}
use Rattle.obligations_tests.proofs.table.circuit_of_two.Goals as goal

pub convert_bits-requires-clause-a_in : goal.convert_bits-requires-clause-a_in
convert_bits-requires-clause-a_in c = typed_fed c.in_ok-b.ensures.fed (record { inside = c.in_ok-a.ensures.value.inside; wide = c.in_ok-a.ensures.value.wide })

pub convert_bits-requires-2-clause-a_in : goal.convert_bits-requires-2-clause-a_in
convert_bits-requires-2-clause-a_in c =
    typed_later c.in_ok-x.ensures.grown (record { inside = c.in_ok-b.ensures.value.inside; wide = c.in_ok-b.ensures.value.wide })
