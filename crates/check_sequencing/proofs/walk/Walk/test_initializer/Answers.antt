use Rattle.std.proofs.Common.{subst, ◌∙◌}
use Rattle.c_core.specs.TreeView.{expr_view}
use Rattle.check_sequencing.specs.Deciding.{Tells, bodies_of, objects_of}
use Rattle.check_sequencing.specs.Effects.{Touches}
use Rattle.check_sequencing.specs.Typed.{Initial}
use Rattle.check_sequencing.proofs.WalkLaws.{gone_noted}
use Rattle.check_sequencing.proofs.walk.Walk.test_initializer.Goals as goal

pub returns-clause-gone : goal.returns-clause-gone
returns-clause-gone c =
    gone_noted c.args.self.now c.note.new.self (Initial c.args.object (expr_view c.args.e.now)) c.in_ok-is_touched.is_touched
    (subst (λ es. Tells c.in_ok-is_touched.is_touched (Touches (bodies_of c.args.self.now.source) (objects_of c.args.self.now.source) c.args.object es)) (c.as_slice.ensures.value ∙ c.in_ok-effects.ensures) c.in_ok-is_touched.ensures.told)
    c.in_ok-note.ensures.noted
