use Rattle.c_core.specs.View.{program_view}
use Rattle.c_calls.proofs.RecursionLaws.{comes_reached, reached_comes}
use Rattle.c_calls.proofs.recursion.reached_functions.Goals as goal

pub returns : goal.returns
returns c f =
    let p = program_view c.args.program.now in
    let found = c.in_ok-reached.ensures.members.members f in
    (λ m. comes_reached p f (found.0 m), λ r. found.1 (reached_comes p f r))
