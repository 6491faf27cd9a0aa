use Rattle.c_core.specs.TreeView.{expr_view}
use Rattle.check_sequencing.specs.Typed.{Operands}
use Rattle.check_sequencing.proofs.WalkLaws.{gone_noted}
use Rattle.check_sequencing.proofs.walk.Walk.test.Goals as goal

pub returns-clause-gone : goal.returns-clause-gone
returns-clause-gone c = gone_noted c.args.self.now c.note.new.self (Operands (expr_view c.args.e.now)) c.in_ok-is_unordered.is_unordered c.in_ok-is_unordered.ensures.told c.in_ok-note.ensures.noted
