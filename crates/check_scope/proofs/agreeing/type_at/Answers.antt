use Rattle.std.proofs.Common.{rules, ◌≡◌, ◌<◌, ◌≤◌, Some, None, length, get_or, refl, sym}
use Rattle.std.proofs.lemmas.Option.{slice_get_past, slice_get_read}
use Rattle.check_scope.proofs.AgreeLaws.{type_found}
use Rattle.check_scope.proofs.agreeing.type_at.Goals as goal

pub returns-in-Some : goal.returns-in-Some
returns-in-Some c =
    let xs = c.in-Parameters.parameters.now in
    let x = c.in-Some.parameter.now in
    let within : c.args.at < length xs = search rules in
    let is : x ≡ get_or xs c.args.at x = search rules in
    rw c.in-Parameters.is (sym (type_found xs c.args.at (Some x) (slice_get_read xs (length xs) c.args.at x refl within is)))

pub returns-in-None : goal.returns-in-None
returns-in-None c =
    let xs = c.in-Parameters.parameters.now in
    let beyond : length xs ≤ c.args.at = search rules in
    rw c.in-Parameters.is (sym (type_found xs c.args.at None (slice_get_past xs c.args.at beyond)))
