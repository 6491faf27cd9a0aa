use Rattle.std.proofs.Common.{◌+◌, ◌*◌, arith}
use Rattle.circuits.proofs.Unknowns.{IsUnknown, done, unknown_some, some_at, tells_number, last_place, pushed_place}
use Rattle.circuits.proofs.words.Words.own_word.Goals as goal

pub add-requires-clause-tells : goal.add-requires-clause-tells
add-requires-clause-tells c =
    let one : IsUnknown (2 * c.len-at.result + 2) c.in_ok-own.own =
    some_at (λ p. IsUnknown (2 * c.len-at.result + 2) p) _ _ c.in_ok-own.was (unknown_some _ _ _ c.ok.ensures.value c.unknown.ensures.value c.unknown.ensures.within) in
    tells_number _ _ (last_place c.args.self.now.list.items c.args.bits.now c.len-at.result (omega arith)) one

pub returns-clause-own : goal.returns-clause-own
returns-clause-own c = pushed_place _ c.args.self.now.list.items c.args.bits.now c.len-at.result (done _ _ _ c.ok-2.ensures.value c.in_ok-ok.was c.add.ensures.added) (omega arith)
