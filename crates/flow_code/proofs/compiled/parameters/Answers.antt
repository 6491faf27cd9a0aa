use Rattle.std.proofs.Common.{ℕ, ◌++◌, ◌∷◌, [], get_or, refl, ap, ◌∙◌}
use Rattle.std.proofs.lemmas.List.{drop_all, at_drop_more}
use Rattle.c_core.specs.View.{program_view}
use Rattle.c_core.specs.declared.number.IntType.{IntType}
use Rattle.c_meaning.specs.Objects.{type_of_object}
use Rattle.flow_code.specs.declared.code.Parameter.{Parameter}
use Rattle.flow_code.specs.Programs.{parameters_of}
use Rattle.flow_code.specs.Words.{native}
use Rattle.flow_code.proofs.Listing.{listed_on, listed_done}
use Rattle.flow_code.proofs.compiled.parameters.Goals as goal

pub loop-object-preserved : goal.loop-object-preserved
loop-object-preserved c =
    let p = program_view c.args.program.now in
    let xs = c.args.objects.now in
    let i = c.loop-object.object-index in
    let x : ℕ = get_or xs i 0 in
    let made : IntType → Parameter = λ ty. record { object = x; ty = ty } in
    let ty = c.native-ty.ensures ∙ ap (native p.model) c.type_of_object-object_type.ensures in
    listed_on xs i x (made (native p.model (type_of_object p x))) c.loop-object.found c.push.new.self _ (parameters_of p) (at_drop_more (λ ys. ys) xs i 0 c.loop-object-test.true) refl c.loop-object.invariant
    (c.in_ok-push.ensures.ok ∙ ap (λ t. c.loop-object.found ++ made t ∷ []) ty)

pub returns : goal.returns
returns c =
    listed_done c.args.objects.now c.loop-object.object-index c.loop-object.found _ (parameters_of (program_view c.args.program.now)) (drop_all c.loop-object.object-index c.args.objects.now c.loop-object-test.false) refl c.loop-object.invariant
