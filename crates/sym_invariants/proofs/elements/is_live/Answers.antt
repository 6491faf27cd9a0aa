use Rattle.std.proofs.Common.{◌≡◌, sym, true, false}
use Rattle.circuits.proofs.Nets.{means_by, opp}
use Rattle.sym_state.specs.Places.{live_in}
use Rattle.sym_invariants.proofs.Cells.{innermost_live}
use Rattle.sym_invariants.proofs.elements.is_live.Goals as goal

pub returns-in-Some : goal.returns-in-Some
returns-in-Some c =
    let is : live_in c.args.object c.args.index c.args.sym.now.cells.items ≡ true = innermost_live c.args.object c.args.index c.in-Some.field-0 c.args.sym.now.cells.items (rw c.deref.ensures.value at c.in-Some.ensures) in
    means_by c.args.sym.now.net c.yes.result (λ v. true) (λ v. live_in c.args.object c.args.index c.args.sym.now.cells.items) c.yes.ensures (λ v. sym is)

pub returns-in-None : goal.returns-in-None
returns-in-None c =
    let is : live_in c.args.object c.args.index c.args.sym.now.cells.items ≡ false = rw c.deref.ensures.value at c.in-None.ensures in
    means_by c.args.sym.now.net c.not.result (λ v. false) (λ v. live_in c.args.object c.args.index c.args.sym.now.cells.items) (opp c.not.ensures c.yes-in-None.ensures) (λ v. sym is)
