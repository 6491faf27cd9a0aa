use Rattle.std.proofs.Common.{arith, ap, ◌++◌, ◌≡◌, ◌∙◌, take, length}
use Rattle.circuits.proofs.Multiplying.{row_added_by, rest_is}
use Rattle.std.proofs.lemmas.List.{length-drop}
use Rattle.circuits.proofs.Nets.{opp, grown_then}
use Rattle.circuits.proofs.products.add_row.Goals as goal

pub returns-clause-value : goal.returns-clause-value
returns-clause-value c =
    let items : c.append.new.self.items ≡ take c.args.i c.args.total.items ++ c.in_ok-upper.upper.items =
    c.in_ok-append.ensures.items ∙ ap (λ l. l ++ c.in_ok-upper.upper.items) c.truncate.ensures.items in
    rw items
    (row_added_by _ _ _ c.args.total.items c.args.i c.in_ok-row.ensures.grown c.in_ok-upper.ensures.grown c.requires.total_in c.requires.wide c.in_ok-row.ensures.value (opp c.not-never.ensures c.yes.ensures) _ _ (rest_is _ _ _ c.deref.ensures.value) c.deref-2.ensures.value c.in_ok-upper.ensures.value)

pub returns-in_err-upper-clause-grown : goal.returns-in_err-upper-clause-grown
returns-in_err-upper-clause-grown c =
    let tail = ap length (rest_is _ _ c.args.i c.deref.ensures.value) in
    grown_then _ _ _ _ _ _ c.in_ok-row.ensures.grown c.in_err-upper.ensures.grown (omega (arith, tail, length-drop c.args.i c.args.total.items, c.requires.wide))

pub returns-in_err-append-clause-grown : goal.returns-in_err-append-clause-grown
returns-in_err-append-clause-grown c =
    let tail = ap length (rest_is _ _ c.args.i c.deref.ensures.value) in
    grown_then _ _ _ _ _ _ c.in_ok-row.ensures.grown c.in_ok-upper.ensures.grown (omega (arith, tail, length-drop c.args.i c.args.total.items, c.requires.wide))

pub returns-clause-grown : goal.returns-clause-grown
returns-clause-grown c =
    let tail = ap length (rest_is _ _ c.args.i c.deref.ensures.value) in
    grown_then _ _ _ _ _ _ c.in_ok-row.ensures.grown c.in_ok-upper.ensures.grown (omega (arith, tail, length-drop c.args.i c.args.total.items, c.requires.wide))
