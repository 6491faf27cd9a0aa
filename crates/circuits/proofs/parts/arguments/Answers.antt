use Rattle.std.proofs.Common.{refl, sym, ◌∙◌, ap, Some}
use Rattle.std.proofs.lemmas.Option.{slice_get_read}
use Rattle.circuits.proofs.FactLaws.{both_found}
use Rattle.circuits.proofs.parts.arguments.Goals as goal

pub returns-in-Some-And : goal.returns-in-Some-And
returns-in-Some-And c =
    let place = slice_get_read c.args.nodes.now _ c.args.bit.node c.in-Some-And.field-0.now refl c.in-Some-And.ensures.lookup.3.0 (c.in-Some-And.ensures.lookup.3.1 c.in-Some-And.field-0.now) in
    both_found c.args.nodes.now c.args.bit c.in-Some-And.left c.in-Some-And.right c.requires c.if-bit.false (sym (place ∙ ap Some c.in-Some-And.field-0-is))
