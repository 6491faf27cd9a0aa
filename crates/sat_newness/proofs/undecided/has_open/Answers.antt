use Rattle.std.proofs.Common.{◌≡◌, ℕ, suc, ◌+◌, ◌*◌, ◌<◌, subst, arith}
use Rattle.std.specs.Prelude.{slice_index}
use Rattle.sat_newness.proofs.undecided.has_open.Goals as goal

pub returns-then-at-lt2-2 : goal.returns-then-at-lt2-2
returns-then-at-lt2-2 c = λ _.
    let table = c.args.table.now in
    let b = c.loop-before.before in
    let there : 2 * b + 2 ≡ 2 * suc b = omega arith in
    let behind : 2 * b + 2 + 1 ≡ 2 * (b + 1) + 1 = omega arith in
    record {
      variable = suc b;
      real = omega arith;
      within = omega arith;
      not_true = subst (λ (n : ℕ). slice_index table n < 2) there (subst (λ (n : ℕ). n < 2) c.at.ensures c.if-at-lt2.true);
      not_false = subst (λ (n : ℕ). slice_index table n < 2) behind (subst (λ (n : ℕ). n < 2) c.at-then-at-lt2.ensures c.if-at-lt2-2.true);
    }
