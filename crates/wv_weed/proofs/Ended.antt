-- Rounds, until nothing is dropped.
use Rattle.std.proofs.Common.{◌≡◌, ℕ, ◌≤◌, Bool, List, length, refl, sym, ◌∙◌, ap, subst, arith, Option, Some, None}
use Rattle.c_core.specs.Tree.{Program}
use Rattle.c_inductive.specs.Picking.{picked, AllArePicked}
use Rattle.c_meaning.specs.Duties.{Duties, Placed}
use Rattle.c_meaning.specs.Parts.{numbers_from}
use Rattle.sym_duties.specs.Answers.{CanBeJudged, IsFault}
use Rattle.sym_duties.specs.declared.fault.SymFault.{SymFault}
use Rattle.sym_duties.specs.declared.fault.SymFault.TheVariants.{Recursion, TooBig, OutOfMemory}
use Rattle.sym_duties.specs.declared.obligations.Obligations.{Obligations}
use Rattle.sym_weight.specs.Weight.{IsTooBig}
use Rattle.judge_obligations.specs.Verdicts.{AreObligationsOf}
use Rattle.wv_weed.specs.Ending.{IsEnd}
use Rattle.wv_weed.specs.Numbers.{unflagged}
use Rattle.wv_weed.specs.Rounds.{AreLeft, IsRound}
use Rattle.wv_weed.specs.Weeded.{IsWeeded}
use Rattle.wv_weed.specs.declared.rounds.Open.{Open}
use Rattle.wv_weed.specs.declared.weeding.Weeded.{Weeded}
use Rattle.wv_weed.proofs.Lighter.{still_too_big}
use Rattle.wv_weed.proofs.Numbered.{all_left}
use Rattle.wv_weed.proofs.Rounding.{fewer_left, kept}

-- what is left on the way: where it can be judged, so can all
pub record AreWeeding (p : Program) (I : List Placed) (left : List ℕ) : Type 0 where
  pub are_left : AreLeft p I left
  pub judged : CanBeJudged p (picked left I) → CanBeJudged p I

pub all_weeding : (p : Program) (I : List Placed) (ns : List ℕ) (count : ℕ) → AllArePicked I → ns ≡ numbers_from 1 count
    → count ≡ length I → AreWeeding p I ns
all_weeding p I ns count all e same =
    let are : ns ≡ numbers_from 1 (length I) = e ∙ ap (numbers_from 1) same in
    subst (AreWeeding p I) (sym are) (record { are_left = all_left p I all; judged = subst (CanBeJudged p) all.all })

pub fewer_weeding : (N : ℕ) (p : Program) (I : List Placed) (left fewer : List ℕ) (n : ℕ) (flags : List Bool)
    (first : Option Open)
    → AreWeeding p I left → CanBeJudged p (picked left I) → IsRound N p I left n flags first
    → fewer ≡ unflagged flags left → AreWeeding p I fewer
fewer_weeding N p I left fewer n flags first a judged r e =
    subst (AreWeeding p I) (sym e) (record {
      are_left = fewer_left N p I left n flags first a.are_left r;
      judged = λ _. a.judged judged;
    })

-- what a round without a failing obligation comes to
pub comes_to : (N : ℕ) (p : Program) (I : List Placed) (left fewer : List ℕ) (flags : List Bool) (first : Option Open)
    (w : Weeded) → AreLeft p I left
    → IsRound N p I left (length (Duties p (picked left I))) flags first → fewer ≡ unflagged flags left
    → length fewer ≡ length left → IsEnd left first w → IsWeeded N p I w
comes_to N p I left fewer flags None w a r e same end =
    let le : length left ≤ length (unflagged flags left) = omega (arith, sym same ∙ ap length e) in
    subst (IsWeeded N p I) (sym end) (kept N p I left flags None a r le refl)
comes_to N p I left fewer flags (Some x) w a r e same end = subst (IsWeeded N p I) (sym end) r.spent

-- what hinders a part hinders the whole
pub faulted : (p : Program) (names : List (List ℕ)) (I J : List Placed) (left : List ℕ) (fault : SymFault)
    → J ≡ picked left I → IsFault p names J fault → IsFault p names I fault
faulted p names I J left (Recursion name) e f = f
faulted p names I J left TooBig e f = (f.0, still_too_big p left I (subst (λ K. IsTooBig p K) e f.1))
faulted p names I J left OutOfMemory e f = f

pub could : (p : Program) (I J : List Placed) (left : List ℕ) (o : Obligations) → J ≡ picked left I
    → CanBeJudged p J × AreObligationsOf p J o → CanBeJudged p (picked left I) × AreObligationsOf p (picked left I) o
could p I J left o e h = subst (λ K. CanBeJudged p K × AreObligationsOf p K o) e h
