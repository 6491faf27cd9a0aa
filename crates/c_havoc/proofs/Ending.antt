-- The end of a havoc run.
use Rattle.std.proofs.Common.{◌≡◌, ◌+◌, ℕ, suc, true, false, cond, List, ◌∷◌, drop, Result, Ok, Err, sym, ap, ◌∙◌, arith, [], length, refl, None}
use Rattle.c_core.specs.View.{functions_view}
use Rattle.c_core.specs.declared.tree.Function.{Function}
use Rattle.c_meaning.specs.declared.run.Duty.{Duty}
use Rattle.c_meaning.specs.declared.run.DutyKind.TheVariants.{Location}
use Rattle.c_meaning.specs.declared.run.HavocEnd.{HavocEnd}
use Rattle.c_meaning.specs.Acts.{Res, Flow}
use Rattle.c_meaning.specs.Duties.{number_among, same_duty}
use Rattle.c_meaning.specs.Havoc.{Stopped, Left, havoc_run}
use Rattle.run_state.specs.Interpreting.{flow_of}
use Rattle.run_state.specs.declared.machine.Flow.{Flow as RustFlow}
use Rattle.havoc_state.specs.Havocking.{Gives, EndsAs}
use Rattle.havoc_state.specs.declared.machine.Halt.{Halt}
use Rattle.havoc_state.specs.declared.machine.Halt.TheVariants.{Ends, NoMemory}

pub run_ends : (ds : List Duty) (outcome : Result RustFlow Halt) (end : HavocEnd) (s : Left) (r : Res Stopped Left Flow)
    → EndsAs ds outcome end → Gives flow_of outcome s r → record { end = end; draws = s.draws } ≡ havoc_run ds r
run_ends ds (Ok f) end s r e g = ap (λ x. record { end = x; draws = s.draws }) e ∙ ap (havoc_run ds) (sym g)
run_ends ds (Err (Ends h)) end s r e g = ap (λ x. record { end = x; draws = s.draws }) e ∙ ap (havoc_run ds) (sym g)
run_ends ds (Err NoMemory) end s r e g = absurd e

-- duties in turn
module _ (d : Duty) (ds : List Duty) (i : ℕ) (x : Duty) (behind : drop i ds ≡ x ∷ drop (suc i) ds) (left : number_among d ds ≡ i + number_among d (drop i ds)) where
  next_duty : number_among d ds ≡ i + cond (same_duty x d) 1 (suc (number_among d (drop (suc i) ds)))
  next_duty = left ∙ ap (λ ys. i + number_among d ys) behind

  pub here_it_is : same_duty x d ≡ true → number_among d ds ≡ i + 1
  here_it_is h = next_duty ∙ ap (λ b. i + cond b 1 (suc (number_among d (drop (suc i) ds)))) h

  pub further_on : same_duty x d ≡ false → number_among d ds ≡ suc i + number_among d (drop (suc i) ds)
  further_on h =
      let e : number_among d ds ≡ i + suc (number_among d (drop (suc i) ds)) = next_duty ∙ ap (λ b. i + cond b 1 (suc (number_among d (drop (suc i) ds)))) h in
      omega (arith, e)

pub as_many : (fs : List Function) → length fs ≡ length (functions_view fs)
as_many [] = refl
as_many (f ∷ fs) = ap suc (as_many fs)

abbrev pub no_duty : Duty
no_duty = record { spot = record { line = 0; column = 0 }; kind = Location; invariant = None }
