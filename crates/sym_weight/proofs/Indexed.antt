-- What one index or two weigh.
use Rattle.std.proofs.Common.{◌≡◌, ◌≤◌, ◌<◌, List, [], ◌∷◌, length, refl, arith}
use Rattle.c_core.specs.View.{exprs_view}
use Rattle.c_core.specs.declared.tree.Expr.{Expr}
use Rattle.sym_weight.specs.Table.{indexes_weight}

pub one_weight : (es : List Expr) → length es < 2 → indexes_weight (exprs_view es) ≡ 256
one_weight [] h = refl
one_weight (e ∷ []) h = refl
one_weight (e ∷ (f ∷ es)) h = absurd (omega (arith, h))

pub two_weight : (es : List Expr) → 2 ≤ length es → indexes_weight (exprs_view es) ≡ 512
two_weight [] h = absurd (omega (arith, h))
two_weight (e ∷ []) h = absurd (omega (arith, h))
two_weight (e ∷ (f ∷ es)) h = refl
