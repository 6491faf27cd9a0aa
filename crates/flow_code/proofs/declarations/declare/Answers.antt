use Rattle.std.proofs.Common.{refl}
use Rattle.std.proofs.lemmas.List.{drop_all}
use Rattle.c_core.specs.View.{program_view, init_view, names_view}
use Rattle.flow_code.specs.Statements.{names_code, name_code}
use Rattle.flow_code.proofs.Gluing.{next_item, walk_on, walk_done}
use Rattle.flow_code.proofs.declarations.declare.Goals as goal

pub loop-name-preserved : goal.loop-name-preserved
loop-name-preserved c =
    let p = program_view c.args.program.now in
    let ds = c.args.names.now in
    let i = c.loop-name.name-index in
    let x = c.name-item.result in
    walk_on ds i x c.loop-name.ops c.introduce.new.ops _ (λ j xs. names_code p j c.args.at (names_view xs)) (λ j xs. names_code p j c.args.at (names_view xs))
    (λ j. name_code p j c.args.at x.spot x.object (init_view x.init)) (next_item ds i x c.loop-name-test.true c.name-item.is) (λ j. refl) c.loop-name.invariant c.in_ok-introduce.ensures

pub returns : goal.returns
returns c =
    walk_done c.args.names.now c.loop-name.name-index c.loop-name.ops _ (λ j xs. names_code (program_view c.args.program.now) j c.args.at (names_view xs)) (drop_all c.loop-name.name-index c.args.names.now c.loop-name-test.false) refl c.loop-name.invariant
