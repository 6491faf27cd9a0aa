use Rattle.std.proofs.Common.{sym, []}
use Rattle.std.proofs.lemmas.Bool.{false≢true}
use Rattle.check_sequencing.specs.Deciding.{bodies_of, objects_of}
use Rattle.check_sequencing.proofs.QuietLaws.{quiet_is_ordered}
use Rattle.check_sequencing.proofs.clash.Source.are_unsequenced.Goals as goal

pub returns-then-is_quiet-2-clause-told : goal.returns-then-is_quiet-2-clause-told
returns-then-is_quiet-2-clause-told c = (
  λ e. absurd (false≢true e),
  λ u. absurd (quiet_is_ordered (bodies_of c.args.self.now) (objects_of c.args.self.now) c.args.before.now c.args.after.now (sym c.if-is_quiet.ensures) (sym c.if-is_quiet-2.ensures) u),
)

pub some_meets-requires-clause-seen : goal.some_meets-requires-clause-seen
some_meets-requires-clause-seen c = c.in_ok-add.ensures [] c.new-seen.ensures
