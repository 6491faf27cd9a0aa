-- What the failing bit of an obligation tells of havoc runs.
use Rattle.std.proofs.Common.{◌≡◌, ℕ, suc, ◌+◌, sym, ◌∙◌, ap, subst, arith}
use Rattle.c_meaning.specs.declared.run.HavocEnd.TheVariants.{Failed}
use Rattle.c_meaning.specs.Replay.{values_of}
use Rattle.sym_state.specs.Standing.{draws_at}
use Rattle.judge_obligations.specs.Telling.{FailingBitsTell}
use Rattle.judge_obligations.specs.Verdicts.{IsSpentOver}
use Rattle.bit_answers.proofs.Found.{clash}
use Rattle.judge_obligations.proofs.Verdicted.{inside, small, spent_over}

next : (n : ℕ) → n + 1 ≡ suc n
next n = omega arith

pub told : FailingBitsTell
told p I o h at b found = record {
  inside = inside p I o h at b found;
  room = small p I o h;
  passes = λ never w ended. let run = h.all w in clash ((run.1.ends at b found).1 (ended ∙ ap Failed (sym (next at)))) (never run.0);
  ends = λ v on. (values_of (draws_at p v o.net o.sites), ((h.each v).ends at b found).0 on ∙ ap Failed (next at));
  spends = λ N s some on. subst (λ i. IsSpentOver N o i s) (next at) (spent_over p I o h N at b s some found on);
}
