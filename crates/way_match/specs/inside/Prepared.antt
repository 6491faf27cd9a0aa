-- What waypoints need of a program that is the same at each event.
use Rattle.std.specs.Prelude.{List, map, Option, Some, None}
use Rattle.c_core.specs.Tree.{Program}
use Rattle.c_core.specs.Places.{call_at}
use Rattle.way_match.specs.Points.{Point, Assume, Return, BoundSegment}
use Rattle.way_match.specs.Passing.{constant_of, type_of_call}
use Rattle.way_match.specs.declared.prepared.Comparison.{Comparison}
use Rattle.way_match.specs.declared.prepared.Prepared.{Prepared}
use Rattle.way_match.specs.declared.prepared.Ready.{Ready}
use Rattle.way_tests.specs.Code.{code_of}
use Rattle.way_tests.specs.declared.step.Step.{Step}

-- the type of the call that returns, and the value of the constant
abbrev pub comparison_of : Program → Point → Option Comparison
comparison_of p (Return close (Some t)) = Some (record { ty = type_of_call (call_at p close); constant = constant_of p t.constant })
comparison_of p _ = None

-- the steps of a constraint, where it has such
abbrev pub steps_of : Program → Point → Option (List Step)
steps_of p (Assume spot test) = code_of p 0 0 test
steps_of p _ = None

abbrev pub ready_of : Program → Point → Ready
ready_of p x = record { comparison = comparison_of p x; steps = steps_of p x }

abbrev pub all_ready : Program → List Point → List Ready
all_ready p xs = map (ready_of p) xs

abbrev pub prepared_of : Program → BoundSegment → Prepared
prepared_of p s = record { avoids = all_ready p s.avoids; follow = ready_of p s.follow }

abbrev pub all_prepared : Program → List BoundSegment → List Prepared
all_prepared p ss = map (prepared_of p) ss
