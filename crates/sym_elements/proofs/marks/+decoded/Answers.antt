use Rattle.std.proofs.Common.{◌∙◌, ◌<◌, length, arith, ap, sym, false, eqb-true}
use Rattle.std.proofs.lemmas.Bool.{eqb-false}
use Rattle.sym_state.proofs.Composed.{no_items}
use Rattle.sym_elements.proofs.Decoding.{split_first, rest_in, decoded_none, decoded_next}
use Rattle.sym_elements.proofs.marks.+decoded.Goals as goal

pub returns-then-is_empty : goal.returns-then-is_empty
returns-then-is_empty t c = decoded_none c.args.n (no_items c.args.digits.now (eqb-true (length c.args.digits.now) 0 (sym c.is_empty.ensures ∙ c.if-is_empty.true))) c.in_ok-out.ensures

pub decoded-requires : goal.decoded-requires
decoded-requires t c =
    let some : 0 < length c.args.digits.now = let d = eqb-false (length c.args.digits.now) 0 (sym c.is_empty.ensures ∙ c.if-is_empty.false) in omega (arith, d) in
    let rest = ap length (split_first c.args.digits.now (record { node = 0; negated = false }) some) in (
      omega (arith, c.decreases, rest),
      (c.requires.here_in, (rest_in c.args.net.now c.args.digits.now (record { node = 0; negated = false }) some c.requires.digits_in, omega (arith, rest, c.requires.room))),
    )

pub returns : goal.returns
returns t c =
    let some : 0 < length c.args.digits.now = let d = eqb-false (length c.args.digits.now) 0 (sym c.is_empty.ensures ∙ c.if-is_empty.false) in omega (arith, d) in
    decoded_next c.args.n c.requires.here_in c.requires.digits_in (split_first c.args.digits.now _ some) c.in_ok-above.ensures (rw c.deref.ensures.value at c.in_ok-out-2.ensures) c.truncate.ensures.items
