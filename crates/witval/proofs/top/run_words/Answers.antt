use Rattle.std.proofs.Common.{subst, sym, map}
use Rattle.std.specs.Prelude.{string_bytes}
use Rattle.wv_arguments.specs.Words.{Asked, asked_by}
use Rattle.witval.specs.Kept.{KeepsFor}
use Rattle.witval.specs.Running.{CompleteFor, RunsFor}
use Rattle.witval.specs.inside.Allowed.{AreAllowed}
use Rattle.witval.proofs.AllowedBudgets.{allowed}
use Rattle.witval.proofs.KeptLaws.{none_for}
use Rattle.witval.proofs.top.run_words.Goals as goal

pub run_asked-requires-clause-allowed : goal.run_asked-requires-clause-allowed
run_asked-requires-clause-allowed g c = subst (λ (a : Asked). AreAllowed a.wanted) (sym c.in-Ok.ensures) (allowed (map string_bytes c.args.words.now))

pub returns-in-Ok-clause-runs : goal.returns-in-Ok-clause-runs
returns-in-Ok-clause-runs g c =
    subst (λ (a : Asked). RunsFor a (g.S.Shelf.state c.args.shelf.now) (g.S.Shelf.state c.run_asked.new.shelf) (g.O.Sink.state c.args.out.now) (g.O.Sink.state c.run_asked.new.out) c.run_asked.result)
    c.in-Ok.ensures c.run_asked.ensures.runs

pub returns-in-Ok-clause-complete : goal.returns-in-Ok-clause-complete
returns-in-Ok-clause-complete g c =
    subst (λ (a : Asked). CompleteFor a (g.S.Shelf.state c.args.shelf.now) (g.S.Shelf.state c.run_asked.new.shelf) (g.O.Sink.state c.args.out.now) (g.O.Sink.state c.run_asked.new.out) c.run_asked.result)
    c.in-Ok.ensures c.run_asked.ensures.complete

pub returns-in-Ok-clause-kept : goal.returns-in-Ok-clause-kept
returns-in-Ok-clause-kept g c = subst (λ (a : Asked). KeepsFor a.wanted (g.S.Shelf.state c.args.shelf.now) c.run_asked.new.kept) c.in-Ok.ensures c.run_asked.ensures.kept

pub returns-in-Err-clause-kept : goal.returns-in-Err-clause-kept
returns-in-Err-clause-kept g c = none_for (asked_by (map string_bytes c.args.words.now)).wanted (g.S.Shelf.state c.args.shelf.now) c.args.kept.now c.requires.none
