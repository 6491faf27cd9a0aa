use Rattle.std.proofs.Common.{ap, sym, ◌∙◌, ℕ, Option, Some}
use Rattle.c_core.specs.declared.tree.Callee.{Callee}
use Rattle.check_rules.specs.Codes as codes
use Rattle.check_scope.specs.InScope.{all_of}
use Rattle.check_scope.specs.Sources.{items_of}
use Rattle.check_types.proofs.words.count_for.Goals as goal

pub returns-in-Some : goal.returns-in-Some
returns-in-Some c = λ m.
    ap Some c.parameters_of.ensures
    ∙ ap (λ (b : Option Callee). codes.count_for m (items_of c.args.functions.now) b (all_of c.args.table.now) c.args.name.now) (sym c.in-Some.is ∙ c.built_in.ensures)

pub returns-in-Some-count_stated : goal.returns-in-Some-count_stated
returns-in-Some-count_stated c = λ m.
    ap (λ (o : Option ℕ). codes.or_else o (codes.count_defined (items_of c.args.functions.now) c.args.name.now)) (sym c.in-Some-count_stated.is ∙ c.count_stated.ensures)
    ∙ ap (λ (b : Option Callee). codes.count_for m (items_of c.args.functions.now) b (all_of c.args.table.now) c.args.name.now) (sym c.in-None.is ∙ c.built_in.ensures)

pub returns-in-None-count_stated : goal.returns-in-None-count_stated
returns-in-None-count_stated c = λ m.
    c.count_defined.ensures
    ∙ ap (λ (o : Option ℕ). codes.or_else o (codes.count_defined (items_of c.args.functions.now) c.args.name.now)) (sym c.in-None-count_stated.is ∙ c.count_stated.ensures)
    ∙ ap (λ (b : Option Callee). codes.count_for m (items_of c.args.functions.now) b (all_of c.args.table.now) c.args.name.now) (sym c.in-None.is ∙ c.built_in.ensures)
