use Rattle.std.proofs.Common.{◌≡◌, IfOk, sym, subst}
use Rattle.c_core.specs.View.{program_view}
use Rattle.sym_weight.specs.Tally.{capped}
use Rattle.way_match.specs.Points.{Return}
use Rattle.way_match.specs.View.{test_view, test_view_if}
use Rattle.seek_weight.specs.Tolls.{constraint_weight, return_weight}
use Rattle.seek_weight.proofs.tolls.return_weight_if.Goals as goal

pub returns-in-Some : goal.returns-in-Some
returns-in-Some c =
    let r = c.return_weight.result in
    let p = program_view c.args.index.now in
    let t = test_view c.in-Some.test in
    subst (λ o. IfOk r (λ w. w ≡ capped (constraint_weight p (Return c.args.close (test_view_if o))))) (sym c.in-Some.is)
    (subst (λ ty. IfOk r (λ w. w ≡ capped (return_weight p t ty))) c.type_of_call-ty.ensures
    (subst (λ q. IfOk r (λ w. w ≡ capped (return_weight (program_view q) t c.type_of_call-ty.result))) c.program.ensures c.return_weight.ensures))
