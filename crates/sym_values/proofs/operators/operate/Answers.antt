use Rattle.std.proofs.Common.{◌≡◌, ◌∙◌, ap, subst, sym, None, Some}
use Rattle.std.proofs.lemmas.Result.{IfOk-weaker}
use Rattle.c_core.specs.View.{program_view}
use Rattle.c_core.specs.Operators.{type_for}
use Rattle.circuits.specs.Net.{holds}
use Rattle.circuits.specs.Numbers.{AreTyped}
use Rattle.circuits.specs.Chosen.{AreAlike}
use Rattle.circuits.specs.Outcome.{binary_type}
use Rattle.sym_state.specs.declared.state.Sym.{Sym}
use Rattle.sym_state.specs.Standing.{IsState}
use Rattle.sym_values.specs.Valuing.{CountsWhere, Gives, operated, operated_cost}
use Rattle.circuits.proofs.ChosenLaws.{alike_typed}
use Rattle.sym_values.proofs.Judging.{operated_alike}
use Rattle.sym_values.proofs.operators.operate.Goals as goal

pub side-requires-clause-x_in : goal.side-requires-clause-x_in
side-requires-clause-x_in c = c.requires.x_in.inside

pub side-requires-2-clause-live_in : goal.side-requires-2-clause-live_in
side-requires-2-clause-live_in c = rw c.side.ensures.same c.requires.fits.live

pub side-requires-2-clause-x_in : goal.side-requires-2-clause-x_in
side-requires-2-clause-x_in c = rw c.side.ensures.same c.requires.y_in.inside

pub operate_on-requires-clause-fits : goal.operate_on-requires-clause-fits
operate_on-requires-clause-fits c =
    subst (λ n. IsState (program_view c.args.program.now) (record c.args.sym.now { net = n })) (sym (c.side-2.ensures.same ∙ c.side.ensures.same)) c.requires.fits

pub operate_on-requires-clause-counts_in : goal.operate_on-requires-clause-counts_in
operate_on-requires-clause-counts_in c = rw (c.side-2.ensures.same, c.side.ensures.same) c.requires.counts_in

pub operate_on-requires-clause-x_in : goal.operate_on-requires-clause-x_in
operate_on-requires-clause-x_in c =
    let p = program_view c.args.program.now in
    rw (c.side-2.ensures.same, c.side.ensures.same) (alike_typed p.model c.args.sym.now.net c.args.a c.requires.x_in c.in_ok-left.ensures.alike)

pub operate_on-requires-clause-y_in : goal.operate_on-requires-clause-y_in
operate_on-requires-clause-y_in c =
    let p = program_view c.args.program.now in
    rw c.side-2.ensures.same (alike_typed p.model c.side.new.net c.args.b (subst (λ n. AreTyped p.model c.args.b n c.args.y.now.bits) (sym c.side.ensures.same) c.requires.y_in) c.in_ok-right.ensures.alike)

pub operate_on-requires-clause-room : goal.operate_on-requires-clause-room
operate_on-requires-clause-room c = rw (c.side-2.ensures.same, c.side.ensures.same) c.requires.room

pub returns : goal.returns
returns c =
    let p = program_view c.args.program.now in
    let m = p.model in
    let op = c.args.op in
    let a = c.args.a in
    let b = c.args.b in
    let x = c.args.x.now.bits in
    let y = c.args.y.now.bits in
    let left = c.in_ok-left.left.bits in
    let right = c.in_ok-right.right.bits in
    let ty = binary_type op (type_for m op a b) in
    let s : Sym = record c.args.sym.now { net = c.side-2.new.net } in
    let n = c.operate_on.new.sym in
    let same : s ≡ c.args.sym.now = ap (λ k. record c.args.sym.now { net = k }) (c.side-2.ensures.same ∙ c.side.ensures.same) in
    let left_alike : AreAlike s.net (λ v. holds v s.net s.live) x left = subst (λ k. AreAlike k.net (λ v. holds v k.net k.live) x left) (sym same) c.in_ok-left.ensures.alike in
    let right_alike : AreAlike s.net (λ v. holds v s.net s.live) y right =
    subst (λ k. AreAlike k (λ v. holds v k c.args.sym.now.live) y right) (sym c.side-2.ensures.same) c.in_ok-right.ensures.alike in
    IfOk-weaker c.operate_on.result _ _
    (λ value gives W duty counts.
    subst (λ k. Gives p W (operated_cost m op a b) 0 k n (Some ty) value.bits (operated p W c.args.at c.args.spot op a x b y k)) same
    (operated_alike p W c.args.at c.args.spot op a b ty s n x y left right value.bits (operated_cost m op a b) left_alike right_alike
    (gives W duty (subst (λ k. CountsWhere p W c.args.at None k c.args.counts) (sym same) counts))))
    c.operate_on.ensures
