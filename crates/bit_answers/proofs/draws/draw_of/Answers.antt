use Rattle.std.proofs.Common.{◌≡◌, ◌∙◌, pos, FitsSigned, to_z, of_z, ap, rules}
use Rattle.std.proofs.lemmas.Int.{to_z-of_z}
use mir.Syntax.{w128}
use Rattle.c_core.specs.Types.{fit}
use Rattle.circuits.specs.Numbers.{typed}
use Rattle.bit_answers.proofs.Numbers.{drawn_value}
use Rattle.bit_answers.proofs.draws.draw_of.Goals as goal

pub returns : goal.returns
returns c v net e =
    let m = c.args.program.now.model in
    let site = c.args.site.now in
    let n = c.number_of-number.result in
    let x : FitsSigned w128 c.from.result = search rules in
    let y : FitsSigned w128 c.convert.result = search rules in
    let told : c.convert.result ≡ fit m site.ty c.from.result = simp to_z-of_z at c.convert.ensures in
    let same : c.from.result ≡ pos n = search rules in
    let drawn = drawn_value m site v net c.as_slice.result.now n c.as_slice.ensures c.requires.wide c.number_of-number.ensures.below (c.number_of-number.ensures.is v net e) in
    let value : to_z w128 (of_z w128 c.convert.result) ≡ typed m site.ty v net site.bits.bits = to_z-of_z w128 c.convert.result y ∙ told ∙ ap (fit m site.ty) same ∙ drawn in
    λ i. record { spot = site.spot; ty = site.ty; value = value i; from = site.from }
