use Rattle.std.proofs.Common.{◌≡◌, ◌+◌, ◌∷◌, ◌∙◌, refl, suc, drop, drop-cons, ap, sym, subst, arith}
use Rattle.std.proofs.Math.ListN.{drop_of_length-le}
use Rattle.c_core.specs.View.{program_view}
use Rattle.run_state.proofs.Starting.{few_objects}
use Rattle.sym_whole.proofs.Starts.{Held, none_held, one_fits, one_held, all_held}
use Rattle.sym_whole.proofs.first.start_objects.Goals as goal

pub loop-object-init : goal.loop-object-init
loop-object-init c = record { at = refl; held = none_held (program_view c.args.program.now) c.args.sym.now c.requires.fits }

pub overflow_add-number : goal.overflow_add-number
overflow_add-number c =
    let few = few_objects (program_view c.args.program.now) c.args.program.now.checked in
    let lt = rw c.as_slice-object-items.ensures at c.loop-object-test.true in
    omega (arith, few, lt, c.loop-object.invariant.at)

pub start_object-requires-clause-fits : goal.start_object-requires-clause-fits
start_object-requires-clause-fits c = c.loop-object.invariant.held.is.fits

pub start_object-requires-clause-fit : goal.start_object-requires-clause-fit
start_object-requires-clause-fit c =
    let objects = c.args.program.now.objects in
    let i = c.loop-object.object-index in
    let lt = rw c.as_slice-object-items.ensures at c.loop-object-test.true in
    let is = rw c.as_slice-object-items.ensures at c.object-item.is in
    let d = drop-cons objects i c.object-item.result lt ∙ ap (λ x. x ∷ drop (suc i) objects) (sym is) in
    one_fits (program_view c.args.program.now) c.args.program.now.checked c.loop-object.number c.object-item.result
    (subst (λ k. drop k objects ≡ c.object-item.result ∷ drop (suc k) objects) (sym c.loop-object.invariant.at) d) c.loop-object.invariant.held

pub loop-object-preserved : goal.loop-object-preserved
loop-object-preserved c =
    let p = program_view c.args.program.now in
    let objects = c.args.program.now.objects in
    let i = c.loop-object.object-index in
    let n = c.loop-object.number in
    let lt = rw c.as_slice-object-items.ensures at c.loop-object-test.true in
    let is = rw c.as_slice-object-items.ensures at c.object-item.is in
    let d = drop-cons objects i c.object-item.result lt ∙ ap (λ x. x ∷ drop (suc i) objects) (sym is) in
    let more : suc n ≡ n + 1 = omega arith in
    record {
      at = omega (arith, c.loop-object.invariant.at);
      held = subst (λ k. Held p k c.args.sym.now c.start_object.new.sym) more
          (one_held p c.args.program.now.checked n c.object-item.result (subst (λ k. drop k objects ≡ c.object-item.result ∷ drop (suc k) objects) (sym c.loop-object.invariant.at) d) c.loop-object.invariant.held c.in_ok-start_object.ensures);
    }

pub returns : goal.returns
returns c =
    let objects = c.args.program.now.objects in
    let end = rw c.as_slice-object-items.ensures at c.loop-object-test.false in
    all_held (program_view c.args.program.now) c.loop-object.number (drop_of_length-le objects (omega (arith, end, c.loop-object.invariant.at))) c.loop-object.invariant.held
