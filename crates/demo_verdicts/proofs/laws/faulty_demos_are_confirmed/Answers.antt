use Rattle.std.proofs.Common.{◌≤◌, ℕ, arith}
use Rattle.demo_laws.specs.Lines.{spot}
use Rattle.demo_laws.proofs.Bounds.{bounds_count}
use Rattle.wv_author.specs.Demo.{AreWithin, demo_of}
use Rattle.wv_author.specs.Sequence.{bounds, loop_count}
use Rattle.demo_verdicts.proofs.FaultyDemo.{Laws, faulty_confirms, faulty_judged}
use Rattle.demo_verdicts.proofs.laws.faulty_demos_are_confirmed.Goals as goal

pub returns : goal.returns
returns c =
    let laws : (n : ℕ) → n ≤ 999999 → AreWithin (demo_of n) → Laws n = λ n small within. record {
      outcome = c.one_outcome.ensures;
      tokens = c.demos_are_tokens.ensures.faulty n small within;
      parsed = c.demos_are_parsed.ensures.faulty n (bounds n loop_count);
      checked = λ answer is. c.demos_are_checked.ensures.faulty n (bounds n loop_count) answer (omega (arith, small)) (c.demos_have_bounds.ensures n) is;
      typed = c.demos_are_typed.ensures.faulty n (bounds n loop_count) small (c.demos_have_bounds.ensures n);
      bound = λ text answer is. c.violations_are_bound.ensures n (bounds n loop_count) text answer (omega (arith, small)) (bounds_count n loop_count) is;
      confirmed = λ steps verdict many is. c.demos_are_confirmed.ensures n steps (spot 1 12) verdict small many is;
    } in
    record {
      judged = λ n budgets reply small within right. faulty_judged n budgets reply (laws n small within) right;
      confirmed = λ n budgets reply small within enough right. faulty_confirms n budgets reply (laws n small within) enough right;
    }
