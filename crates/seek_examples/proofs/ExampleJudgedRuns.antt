-- How judged runs in the mode of runs that seek end, by computation.
use Rattle.std.proofs.Common.{refl, ap, ◌&&◌, nat_eq, None}
use Rattle.std.proofs.Math.Dec.{eqb-zero-suc}
use Rattle.c_core.specs.Types.{residue, signed_of, wrapped}
use Rattle.c_meaning.specs.declared.run.DutyKind.TheVariants.{Property}
use Rattle.c_meaning.specs.Duties.{kind_rank, same_number}
use Rattle.seek_examples.specs.ExampleJudgedRuns.{ExampleJudgedRuns}

pub example_judged_runs : ExampleJudgedRuns
unfolding residue signed_of wrapped
example_judged_runs = record {
  five = refl;
  six = refl;
  elsewhere = refl;
  by_zero = refl;
  three_turns = λ w. refl;
  third_turn_beyond = λ w. refl;
  four_deep = λ w. refl;
  fourth_call_beyond = λ w. refl;
  last_test = refl;
  second_body = refl;
  second_body_beyond = refl;
  assumed = refl;
  never_assumed = refl;
  entered = refl;
  returned = refl;
  not_returned = refl;
  first_way = refl;
  other_way = refl;
  one_duty = λ p ss k. refl;
  its_number = λ p ss k at. refl;
  at_no_line = λ line column kind i. ap (λ t. (t && nat_eq 0 column) && (nat_eq (kind_rank Property) (kind_rank kind) && same_number None i)) (eqb-zero-suc line);
}
