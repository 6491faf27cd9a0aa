use Rattle.std.proofs.Common.{sym, ◌∙◌}
use Rattle.check_sequencing.specs.Deciding.{bodies_of, objects_of}
use Rattle.check_sequencing.proofs.ClashLaws.{call_told}
use Rattle.check_sequencing.proofs.clash.Source.call_changes.Goals as goal

pub returns-clause-told : goal.returns-clause-told
returns-clause-told c =
    call_told (bodies_of c.args.self.now) (objects_of c.args.self.now) c.args.object c.args.function c.in_ok-does.does c.args.self.now.changed.only_changes
    c.requires.changed_alone (sym c.is_fixed.ensures ∙ c.if-not-is_fixed.false) c.in_ok-does.ensures.told
