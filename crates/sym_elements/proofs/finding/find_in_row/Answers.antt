use Rattle.std.proofs.Common.{◌≡◌, ◌∙◌, ap, arith, length, subst, sym}
use Rattle.c_core.specs.View.{program_view}
use Rattle.circuits.specs.Net.{holds}
use Rattle.circuits.specs.Numbers.{AreTyped}
use Rattle.circuits.specs.Chosen.{AreAlike}
use Rattle.sym_state.specs.declared.state.Sym.{Sym}
use Rattle.sym_state.specs.Standing.{IsState}
use Rattle.sym_state.proofs.Nets.{state_grown}
use Rattle.sym_elements.specs.Elements.{Finds, found_row_cost, row_in}
use Rattle.circuits.proofs.ChosenLaws.{alike_typed}
use Rattle.sym_elements.proofs.Found.{alike_row, finds, finds_as, row_found}
use Rattle.sym_elements.proofs.finding.find_in_row.Goals as goal

pub settled-requires-clause-bits_in : goal.settled-requires-clause-bits_in
settled-requires-clause-bits_in c = rw c.as_slice.ensures c.requires.row_in.inside

pub settled-requires-2-clause-bits_in : goal.settled-requires-2-clause-bits_in
settled-requires-2-clause-bits_in c = rw (c.as_slice-2.ensures, c.settled.ensures.same) c.requires.column_in.inside

pub end_outside-requires-clause-fits : goal.end_outside-requires-clause-fits
end_outside-requires-clause-fits c =
    let p = program_view c.args.program.now in
    let s : Sym = record c.args.sym.now { net = c.settled-2.new.self } in
    let same : s ≡ c.args.sym.now = ap (λ n. record c.args.sym.now { net = n }) (c.settled-2.ensures.same ∙ c.settled.ensures.same) in
    state_grown p c.in_ok-places.ensures.placed.grown (subst (IsState p) (sym same) c.requires.fits)

pub returns : goal.returns
returns c W =
    let p = program_view c.args.program.now in
    let row = c.args.row.now.bits in
    let column = c.args.column.now.bits in
    let rest_row = c.in_ok-settled_row.settled_row.items in
    let rest_column = c.in_ok-settled_column.settled_column.items in
    let s : Sym = record c.args.sym.now { net = c.settled-2.new.self } in
    let same : s ≡ c.args.sym.now = ap (λ n. record c.args.sym.now { net = n }) (c.settled-2.ensures.same ∙ c.settled.ensures.same) in
    let fits : IsState p s = subst (IsState p) (sym same) c.requires.fits in
    let row_typed : AreTyped p.model c.args.row_type s.net row = subst (λ k. AreTyped p.model c.args.row_type k.net row) (sym same) c.requires.row_in in
    let column_typed : AreTyped p.model c.args.column_type s.net column = subst (λ k. AreTyped p.model c.args.column_type k.net column) (sym same) c.requires.column_in in
    let row_alike : AreAlike s.net (λ v. holds v s.net s.live) row rest_row =
    subst (λ k. AreAlike k.net (λ v. holds v k.net k.live) row rest_row) (sym same) (rw c.as_slice.ensures at c.in_ok-settled_row.ensures.alike) in
    let column_alike : AreAlike s.net (λ v. holds v s.net s.live) column rest_column =
    subst (λ k. AreAlike k (λ v. holds v k c.args.sym.now.live) column rest_column) (sym c.settled-2.ensures.same) (rw c.as_slice-2.ensures at c.in_ok-settled_column.ensures.alike) in
    let cost = found_row_cost p c.args.row_type c.args.column_type c.args.object in
    subst (λ k. Finds p W c.args.object cost (row_in p c.args.object c.args.row_type row c.args.column_type column k) k c.end_outside.new.sym c.in_ok-places.places) same
    (finds_as p W
    (finds p W c.args.object cost fits
    (row_found p s c.yes-yes.ensures c.args.object c.args.row_type c.args.column_type rest_row rest_column (alike_typed p.model s.net c.args.row_type row_typed row_alike) (alike_typed p.model s.net c.args.column_type column_typed column_alike)
    (rw (c.deref.ensures.value, c.deref-2.ensures.value) at c.in_ok-places.ensures.placed))
    c.in_ok-places.ensures.few (rw c.as_slice-3.ensures at c.in_ok-end_outside.ensures)
    (omega (arith, row_typed.wide, column_typed.wide, row_alike.wide, column_alike.wide, ap length c.deref.ensures.value, ap length c.deref-2.ensures.value, c.in_ok-places.ensures.few)))
    (alike_row p s c.args.object c.args.row_type c.args.column_type row_alike column_alike))
