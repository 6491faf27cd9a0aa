use Rattle.std.proofs.Common.{rules, ◌≡◌, FitsSigned, w32, ap, ◌∙◌}
use Rattle.c_core.specs.Types.{fit}
use Rattle.c_core.specs.declared.number.IntType.TheVariants.{Int}
use Rattle.c_core.proofs.Fits.{fit_kept}
use Rattle.c_core.proofs.SignedOperators.{fits_is}
use Rattle.way_tests.proofs.number.fitted.Goals as goal

pub returns-then-value-le2147483647 : goal.returns-then-value-le2147483647
returns-then-value-le2147483647 c =
    let small : FitsSigned w32 c.args.value = search rules in
    let kept : fit c.args.model c.args.ty c.args.value ≡ c.args.value = ap (λ ty. fit c.args.model ty c.args.value) c.in-Int.is ∙ fit_kept c.args.model Int c.args.value (fits_is w32 c.args.value small) in
    rw kept (search rules)
