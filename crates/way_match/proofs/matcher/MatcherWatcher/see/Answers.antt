use Rattle.std.proofs.Common.{ℕ, List, Option, Result, Ok, Err, OnErr, ◌∙◌, ap}
use Rattle.way_match.specs.inside.Arena.{ways_of}
use Rattle.way_match.proofs.matcher.MatcherWatcher.see.Goals as goal

on_error : {A E : Type 0} (answer : Result A E) (P : Type 0) → P → OnErr answer P
on_error (Ok a) P p = tt
on_error (Err e) P p = p

pub returns-in_err-pass-clause-refused : goal.returns-in_err-pass-clause-refused
returns-in_err-pass-clause-refused c = on_error c.from_residual.result _
    (ap (λ (ways : List (Option (List ℕ))). record { program = c.self.inside.program.now; bound = c.self.inside.bound.now; count = c.self.inside.count; ways = ways }) c.in_err-pass.ensures.refused ∙ c.self.view_is)
