use Rattle.std.proofs.Common.{◌++◌, ◌∷◌, [], ap, ap₂, ◌∙◌}
use Rattle.c_core.specs.View.{program_view, init_view}
use Rattle.c_meaning.specs.Objects.{size_of_object, type_of_object}
use Rattle.flow_code.specs.declared.code.Action.TheVariants.{Declare}
use Rattle.flow_code.specs.Preparing.{op}
use Rattle.flow_code.specs.Statements.{draws, init_code}
use Rattle.flow_code.proofs.Gluing.{glued}
use Rattle.flow_code.proofs.declarations.introduce.Goals as goal

pub returns : goal.returns
returns c =
    let p = program_view c.args.program.now in
    let x = c.args.name.now in
    let o = x.object in
    let first = c.in_ok-emit.ensures
    ∙ ap (λ n. c.args.ops.now ++ op n (Declare x.spot o n c.type_of_object-ty.result c.draws-draws.result) ∷ []) c.size_of_object-size.ensures
    ∙ ap₂ (λ t b. c.args.ops.now ++ op (size_of_object p o) (Declare x.spot o (size_of_object p o) t b) ∷ []) c.type_of_object-ty.ensures c.draws-draws.ensures in
    glued c.args.ops.now (op (size_of_object p o) (Declare x.spot o (size_of_object p o) (type_of_object p o) (draws (init_view x.init))) ∷ []) c.emit.new.ops c.initializer.new.ops
    (λ j. init_code p j c.args.at o (init_view x.init)) first c.in_ok-initializer.ensures
