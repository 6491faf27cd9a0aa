use Rattle.std.proofs.Common.{refl, sym, ap, ◌∙◌, false}
use Rattle.c_core.specs.TreeView.{expr_view}
use Rattle.check_sequencing.specs.Deciding.{bodies_of, count_of, objects_of}
use Rattle.check_sequencing.specs.Effects.{is_quiet}
use Rattle.check_sequencing.specs.Typed.{tested}
use Rattle.check_sequencing.proofs.QuietTests.{quiet_tested}
use Rattle.check_sequencing.proofs.WalkLaws.{gone_quiet}
use Rattle.check_sequencing.proofs.walk.Walk.full_expression.Goals as goal

pub returns-then-is_quiet-clause-gone : goal.returns-then-is_quiet-clause-gone
returns-then-is_quiet-clause-gone c =
    let s = c.args.self.now.source in
    gone_quiet c.args.self.now c.args.self.now (tested (expr_view c.args.e.now))
    (quiet_tested (objects_of s) (count_of s) (bodies_of s) (expr_view c.args.e.now) false
    (ap is_quiet (sym (c.as_slice.ensures.value ∙ c.in_ok-effects.ensures)) ∙ sym c.if-is_quiet.ensures)) refl
