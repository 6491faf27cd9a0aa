use Rattle.demo_verdicts.proofs.Within.{programs_are_within}
use Rattle.demo_verdicts.proofs.laws.demonstrations_are_confirmed.Goals as goal

pub returns : goal.returns
returns c n budgets demo small is =
    let within = programs_are_within n small (c.demos_have_bounds.ensures n) in
    record {
      correct = c.correct_demos_are_judged.ensures n budgets demo.correct within is.correct_read;
      faulty = c.faulty_demos_are_confirmed.ensures.judged n budgets demo.faulty small within is.faulty_read;
      confirmed = λ enough. c.faulty_demos_are_confirmed.ensures.confirmed n budgets demo.faulty small within enough is.faulty_read;
    }
