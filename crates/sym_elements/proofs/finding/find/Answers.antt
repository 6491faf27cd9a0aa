use Rattle.std.proofs.Common.{◌≡◌, ap, arith, length, subst, sym}
use Rattle.c_core.specs.View.{program_view}
use Rattle.circuits.specs.Net.{holds}
use Rattle.circuits.specs.Numbers.{AreTyped}
use Rattle.circuits.specs.Chosen.{AreAlike}
use Rattle.sym_state.specs.declared.state.Sym.{Sym}
use Rattle.sym_state.specs.Standing.{IsState}
use Rattle.sym_state.proofs.Nets.{state_grown}
use Rattle.sym_elements.specs.Elements.{Finds, found_cost, index_in}
use Rattle.circuits.proofs.ChosenLaws.{alike_typed}
use Rattle.sym_elements.proofs.Found.{alike_index, finds, finds_as, index_found}
use Rattle.sym_elements.proofs.finding.find.Goals as goal

pub settled-requires-clause-bits_in : goal.settled-requires-clause-bits_in
settled-requires-clause-bits_in c = rw c.as_slice.ensures c.requires.index_in.inside

pub end_outside-requires-clause-fits : goal.end_outside-requires-clause-fits
end_outside-requires-clause-fits c =
    let p = program_view c.args.program.now in
    let s : Sym = record c.args.sym.now { net = c.settled.new.self } in
    let same : s ≡ c.args.sym.now = ap (λ n. record c.args.sym.now { net = n }) c.settled.ensures.same in
    state_grown p c.in_ok-places.ensures.grown (subst (IsState p) (sym same) c.requires.fits)

pub returns : goal.returns
returns c W =
    let p = program_view c.args.program.now in
    let index = c.args.index.now.bits in
    let s : Sym = record c.args.sym.now { net = c.settled.new.self } in
    let same : s ≡ c.args.sym.now = ap (λ n. record c.args.sym.now { net = n }) c.settled.ensures.same in
    let fits : IsState p s = subst (IsState p) (sym same) c.requires.fits in
    let typed : AreTyped p.model c.args.ty s.net index = subst (λ k. AreTyped p.model c.args.ty k.net index) (sym same) c.requires.index_in in
    let alike : AreAlike s.net (λ v. holds v s.net s.live) index c.in_ok-settled.settled.items =
    subst (λ k. AreAlike k.net (λ v. holds v k.net k.live) index c.in_ok-settled.settled.items) (sym same) (rw c.as_slice.ensures at c.in_ok-settled.ensures.alike) in
    subst (λ k. Finds p W c.args.object (found_cost p c.args.ty c.args.object) (index_in p c.args.object c.args.ty index k) k c.end_outside.new.sym c.in_ok-places.places) same
    (finds_as p W
    (finds p W c.args.object (found_cost p c.args.ty c.args.object) fits
    (index_found p s c.yes-yes.ensures c.args.object c.args.ty c.in_ok-settled.settled.items (alike_typed p.model s.net c.args.ty typed alike) (rw (c.deref.ensures.value, c.size_of_object-count.ensures) at c.in_ok-places.ensures)) (omega arith)
    (rw c.as_slice-2.ensures at c.in_ok-end_outside.ensures) (omega (arith, typed.wide, alike.wide, ap length c.deref.ensures.value)))
    (alike_index p s c.args.object c.args.ty alike))
