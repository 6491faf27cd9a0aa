use Rattle.std.proofs.Common.{subst, map}
use Rattle.std.specs.Prelude.{string_bytes}
use Rattle.witval.specs.Kept.{KeepsBy}
use Rattle.witval.specs.Running.{Complete, Runs}
use Rattle.witval.proofs.top.run_keeping.Goals as goal

pub returns-clause-runs : goal.returns-clause-runs
returns-clause-runs g c =
    subst (λ words. Runs (map string_bytes words) (g.S.Shelf.state c.args.shelf.now) (g.S.Shelf.state c.run_words.new.shelf) (g.O.Sink.state c.args.out.now) (g.O.Sink.state c.run_words.new.out) c.run_words.result)
    c.deref.ensures.value c.run_words.ensures.runs

pub returns-clause-complete : goal.returns-clause-complete
returns-clause-complete g c =
    subst (λ words. Complete (map string_bytes words) (g.S.Shelf.state c.args.shelf.now) (g.S.Shelf.state c.run_words.new.shelf) (g.O.Sink.state c.args.out.now) (g.O.Sink.state c.run_words.new.out) c.run_words.result)
    c.deref.ensures.value c.run_words.ensures.complete

pub returns-clause-kept : goal.returns-clause-kept
returns-clause-kept g c = subst (λ words. KeepsBy (map string_bytes words) (g.S.Shelf.state c.args.shelf.now) c.run_words.new.kept) c.deref.ensures.value c.run_words.ensures.kept
