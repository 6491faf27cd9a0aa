use Rattle.std.proofs.Common.{ap, sym, ◌∙◌, not}
use Rattle.check_rules.specs.Codes.{is_not}
use Rattle.check_rules.specs.Names.{named}
use Rattle.check_scope.specs.InScope.{all_of}
use Rattle.check_scope.specs.Sources.{items_of}
use Rattle.check_types.specs.declared.words.Word.{Word}
use Rattle.check_types.proofs.OwnLaws.{called, not_called}
use Rattle.check_types.proofs.own.is_miscalled.Goals as goal

pub returns-in-Some : goal.returns-in-Some
returns-in-Some c = λ m.
    let k = named (all_of c.args.table.now) c.args.name.now in
    ap (is_not c.args.count) (sym c.in-Some.is ∙ c.count_for.ensures m)
    ∙ called m (items_of c.args.functions.now) (all_of c.args.table.now) c.args.name.now c.args.count k (sym (ap (λ (w : Word). w.is_function) c.requires) ∙ c.if-word.true)

pub returns-in-None : goal.returns-in-None
returns-in-None c = λ m.
    let k = named (all_of c.args.table.now) c.args.name.now in
    ap (is_not c.args.count) (sym c.in-None.is ∙ c.count_for.ensures m)
    ∙ called m (items_of c.args.functions.now) (all_of c.args.table.now) c.args.name.now c.args.count k (sym (ap (λ (w : Word). w.is_function) c.requires) ∙ c.if-word.true)

pub returns-else-word : goal.returns-else-word
returns-else-word c = λ m.
    let k = named (all_of c.args.table.now) c.args.name.now in
    ap (λ (w : Word). not w.is_nameless) c.requires
    ∙ not_called m (items_of c.args.functions.now) (all_of c.args.table.now) c.args.name.now c.args.count k (sym (ap (λ (w : Word). w.is_function) c.requires) ∙ c.if-word.false)
