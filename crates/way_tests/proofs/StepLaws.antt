-- Steps taken one after another.
use Rattle.std.proofs.Common.{◌≡◌, ℕ, zero, suc, ◌+◌, ◌<◌, Bool, cond, List, [], ◌∷◌, ◌++◌, length, drop, get_or, Option, Some, refl, sym, ◌∙◌, ap, arith}
use Rattle.std.proofs.lemmas.List.{drop_more}
use Rattle.c_core.specs.declared.number.DataModel.{DataModel}
use Rattle.c_meaning.specs.Cells.{Cell as LiveCell}
use Rattle.c_meaning.specs.Value.{and_then}
use Rattle.way_tests.specs.Code.{answer_of, taken}
use Rattle.way_tests.specs.declared.step.Step.{Step}

-- steps that are passed over, and some after them
pub passed_over : (m : DataModel) (cs : List LiveCell) (xs ys : List Step) (n : ℕ) (t : Bool) → taken m cs (length xs + n) t (xs ++ ys) ≡ taken m cs n t ys
passed_over m cs [] ys n t =
    let e : 0 + n ≡ n = omega arith in ap (λ (k : ℕ). taken m cs k t ys) e
passed_over m cs (x ∷ xs) ys n t =
    let e : suc (length xs) + n ≡ suc (length xs + n) = omega arith in
    ap (λ (k : ℕ). taken m cs k t (x ∷ (xs ++ ys))) e ∙ passed_over m cs xs ys n t

past : (m : DataModel) (cs : List LiveCell) (n : ℕ) (xs : List Step) (t : Bool) → taken m cs n t xs ≡ taken m cs 0 t (drop n xs)
past m cs zero xs t = refl
past m cs (suc n) [] t = refl
past m cs (suc n) (x ∷ xs) t = past m cs n xs t

-- one step
one_taken : (m : DataModel) (cs : List LiveCell) (xs : List Step) (at : ℕ) (d : Step) (t : Bool) → at < length xs →
    taken m cs 0 t (drop at xs) ≡ and_then (answer_of m (get_or xs at d).test cs) (λ b. taken m cs (cond b (get_or xs at d).yes (get_or xs at d).no) b (drop (at + 1) xs))
one_taken m cs xs at d t l = ap (taken m cs 0 t) (drop_more xs at d l)

-- one step, and those that its answer passes over
pub one_more : (m : DataModel) (cs : List LiveCell) (xs : List Step) (at : ℕ) (d : Step) (t a : Bool) (skipped last : ℕ) → at < length xs →
    answer_of m (get_or xs at d).test cs ≡ Some a → skipped ≡ cond a (get_or xs at d).yes (get_or xs at d).no → drop last xs ≡ drop skipped (drop (at + 1) xs) →
    taken m cs 0 a (drop last xs) ≡ taken m cs 0 t (drop at xs)
one_more m cs xs at d t a skipped last l h k r =
    let s : Step = get_or xs at d in
    ap (taken m cs 0 a) r ∙ sym (past m cs skipped (drop (at + 1) xs) a) ∙ ap (λ (n : ℕ). taken m cs n a (drop (at + 1) xs)) k ∙
    sym (one_taken m cs xs at d t l ∙ ap (λ (o : Option Bool). and_then o (λ b. taken m cs (cond b s.yes s.no) b (drop (at + 1) xs))) h)
