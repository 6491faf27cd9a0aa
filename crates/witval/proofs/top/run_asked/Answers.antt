use Rattle.std.proofs.Common.{rules}
use Rattle.wv_arguments.specs.Requests.{stated}
use Rattle.witval.proofs.Completed.{completed}
use Rattle.witval.proofs.top.run_asked.Goals as goal

pub returns-in-Ok-write_all-clause-complete : goal.returns-in-Ok-write_all-clause-complete
returns-in-Ok-write_all-clause-complete g c =
    completed (stated c.args.asked.now) (g.S.Shelf.state c.args.shelf.now) (g.S.Shelf.state c.answer.new.shelf) (g.O.Sink.state c.args.out.now) (g.O.Sink.state c.write_all.new.sink)
    c.status_of-status.result c.in-Ok.output c.in-Ok.ensures.right c.status_of-status.ensures (search rules)
