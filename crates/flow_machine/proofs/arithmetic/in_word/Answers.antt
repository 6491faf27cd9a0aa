use Rattle.std.proofs.Common.{rules, sym, ◌∙◌}
use mir.Val.{SFits}
use mir.Syntax.{w128}
use Rattle.std.proofs.lemmas.Int.{to_z-of_z}
use Rattle.c_core.specs.declared.number.DataModel.TheVariants.{Lp64}
use Rattle.c_core.proofs.Fits.{fit_kept}
use Rattle.flow_code.specs.Words.{type_of_word}
use Rattle.flow_machine.proofs.arithmetic.in_word.Goals as goal

pub returns-then-has-clause-value : goal.returns-then-has-clause-value
returns-then-has-clause-value c =
    let z : SFits w128 c.args.value = search rules in
    let e = rw (to_z-of_z w128 c.args.value z) at c.has.ensures in
    rw (to_z-of_z w128 c.args.value z) (sym (fit_kept Lp64 (type_of_word c.args.word) c.args.value (sym e ∙ c.if-has.true)))
