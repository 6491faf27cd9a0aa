use Rattle.std.proofs.Common.{◌∙◌, ◌++◌, ◌∷◌, [], ap, arith}
use Rattle.circuits.proofs.Nets.{grown_not, grown_same, wider}
use Rattle.circuits.proofs.Multiplied.{width_few}
use Rattle.circuits.proofs.Converted.{some_reads_at, same_reads_at, conversion_costs}
use Rattle.circuits.proofs.conversions.converted.Goals as goal

pub returns-in_err-out-in-Bool-from-clause-grown : goal.returns-in_err-out-in-Bool-from-clause-grown
returns-in_err-out-in-Bool-from-clause-grown c = grown_not _ _

pub returns-in_ok-out-in-Bool-from-clause-grown : goal.returns-in_ok-out-in-Bool-from-clause-grown
returns-in_ok-out-in-Bool-from-clause-grown c = grown_not _ _

pub returns-in_ok-out-in-Bool-from-clause-value : goal.returns-in_ok-out-in-Bool-from-clause-value
returns-in_ok-out-in-Bool-from-clause-value c = same_reads_at _ c.in-Bool.is c.in-Bool-from.is c.requires.a_in c.in_ok-out-in-Bool-from.ensures

pub returns-in_ok-push-in_default-from-clause-grown : goal.returns-in_ok-push-in_default-from-clause-grown
returns-in_ok-push-in_default-from-clause-grown c =
    let less = conversion_costs c.args.model _ _ c.in-Bool.is c.in_default-from.not-Bool in
    wider c.in_ok-some-in_default-from.ensures.grown (omega (arith, less, c.requires.a_in.wide))

pub returns-in_ok-push-in_default-from-clause-value : goal.returns-in_ok-push-in_default-from-clause-value
returns-in_ok-push-in_default-from-clause-value c = some_reads_at _ c.in-Bool.is c.requires.a_in c.in_ok-some-in_default-from.ensures.value
    (c.in_ok-push-in_default-from.ensures.items ∙ ap (λ l. l ++ c.in_ok-some-in_default-from.some ∷ []) c.new-out.ensures.items)

pub returns-in_ok-out-in_default-clause-grown : goal.returns-in_ok-out-in_default-clause-grown
returns-in_ok-out-in_default-clause-grown c = grown_same c.in_ok-out-in_default.ensures.same

pub returns-in_ok-out-in_default-clause-value : goal.returns-in_ok-out-in_default-clause-value
returns-in_ok-out-in_default-clause-value c = c.in_ok-out-in_default.ensures.value

pub returns-in_err-out-in_default-clause-grown : goal.returns-in_err-out-in_default-clause-grown
returns-in_err-out-in_default-clause-grown c = grown_same c.in_err-out-in_default.ensures.same

pub nonzero-requires-clause-few : goal.nonzero-requires-clause-few
nonzero-requires-clause-few c = omega (arith, c.requires.a_in.wide, width_few c.args.model c.args.from)
