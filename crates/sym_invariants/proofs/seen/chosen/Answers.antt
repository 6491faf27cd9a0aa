use Rattle.std.proofs.Common.{◌+◌, sym, subst}
use Rattle.c_core.specs.View.{program_view}
use Rattle.c_core.specs.declared.number.IntType.TheVariants.{Bool}
use Rattle.circuits.specs.Outcome.{conversion_cost}
use Rattle.sym_state.proofs.Nets.{state_grown}
use Rattle.sym_weight.specs.Table.{chosen}
use Rattle.sym_invariants.specs.Valued.{IsSeen, Sees, choice_in}
use Rattle.sym_invariants.proofs.Deciding.{chosen_sees, void_chosen_sees}
use Rattle.sym_invariants.proofs.seen.chosen.Goals as goal

pub returns-in_ok-bits-in-Some : goal.returns-in_ok-bits-in-Some
returns-in_ok-bits-in-Some c h f g e x y =
    let p = program_view c.args.program.now in
    let net = c.args.sym.now.net in
    subst (λ t. Sees p (4 + (conversion_cost p.model c.args.of Bool + chosen p.model t)) c.args.sym.now c.choose.new.sym t c.in_ok-bits-in-Some.bits.bits c.in_ok-defined.defined (λ v. choice_in (h v) (f v) (g v))) (sym c.in-Some.is)
    (chosen_sees p c.args.of c.args.sym.now c.test.new.sym c.pick.new.sym c.and.new.self c.args.e.now.bits.bits c.args.x.now.bits.bits c.args.y.now.bits.bits c.args.e.now.defined c.args.x.now.defined c.args.y.now.defined c.in_ok-go.go c.in_ok-side.side c.in_ok-defined.defined h f g
    c.in-Some.to c.in_ok-bits-in-Some.bits.bits c.choose.new.sym e (subst (λ t. IsSeen p.model t net c.args.x.now.bits.bits c.args.x.now.defined f) c.in-Some.is x) (subst (λ t. IsSeen p.model t net c.args.y.now.bits.bits c.args.y.now.defined g) c.in-Some.is y)
    c.in_ok-go.ensures c.in_ok-side.ensures c.in_ok-defined.ensures.grown c.in_ok-defined.ensures.value c.in_ok-bits-in-Some.ensures)

pub returns-in-None : goal.returns-in-None
returns-in-None c h f g e x y =
    let p = program_view c.args.program.now in
    let net = c.args.sym.now.net in
    subst (λ t. Sees p (4 + (conversion_cost p.model c.args.of Bool + chosen p.model t)) c.args.sym.now (record c.pick.new.sym { net = c.and.new.self }) t c.new.result c.in_ok-defined.defined (λ v. choice_in (h v) (f v) (g v))) (sym c.in-None.is)
    (void_chosen_sees p c.args.of c.args.sym.now c.test.new.sym c.pick.new.sym c.and.new.self c.args.e.now.bits.bits c.args.x.now.bits.bits c.args.y.now.bits.bits c.args.e.now.defined c.args.x.now.defined c.args.y.now.defined c.in_ok-go.go c.in_ok-side.side c.in_ok-defined.defined h f g
    c.new.result e (subst (λ t. IsSeen p.model t net c.args.x.now.bits.bits c.args.x.now.defined f) c.in-None.is x) (subst (λ t. IsSeen p.model t net c.args.y.now.bits.bits c.args.y.now.defined g) c.in-None.is y)
    c.in_ok-go.ensures c.in_ok-side.ensures c.in_ok-defined.ensures.grown c.in_ok-defined.ensures.value)

pub choose-requires-clause-fits : goal.choose-requires-clause-fits
choose-requires-clause-fits c = state_grown (program_view c.args.program.now) c.in_ok-defined.ensures.grown c.in_ok-side.ensures.turned.fits
