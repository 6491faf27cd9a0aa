-- Sums that stop at the end of a type.
use Rattle.std.proofs.Common.{◌≡◌, ℕ, ◌+◌, refl, ap, ◌∙◌, Bool, List, [], ◌∷◌, Option, arith}
use Rattle.c_core.specs.Tree.{Exps, NoExp, MoreExp, Names, NoName, MoreName, Stms, NoStm, MoreStm, MoreCase, Program}
use Rattle.c_core.specs.declared.number.IntType.{IntType}
use Rattle.c_core.specs.declared.number.Spot.{Spot}
use Rattle.sym_weight.specs.declared.cost.Cost.{Cost}
use Rattle.sym_weight.specs.Sum.{initials, row_initials, declared, statements}
use Rattle.sym_weight.specs.Tally.{capped, cost, plus, tallying}

pub capped_twice : (a : ℕ) → capped (capped a) ≡ capped a
capped_twice a = omega arith

pub capped_sum : (a b c : ℕ) → capped (capped (a + b) + c) ≡ capped (a + (b + c))
capped_sum a b c = omega arith

capped_after_zero : (a : ℕ) → capped (0 + capped a) ≡ capped a
capped_after_zero a = omega arith

-- nothing before a sum leaves it as it is
nothing_before : (a b : Cost) → plus (cost 0 0) (plus a b) ≡ plus a b
nothing_before a b =
    ap (λ w. record { weight = w; bits = capped (0 + capped (a.bits + b.bits)) }) (capped_after_zero (a.weight + b.weight))
    ∙ ap (λ w. record { weight = capped (a.weight + b.weight); bits = w }) (capped_after_zero (a.bits + b.bits))

pub initials_alone : (p : Program) (o : ℕ) (es : Exps) → plus (cost 0 0) (initials p tallying o es).cost ≡ (initials p tallying o es).cost
initials_alone p o NoExp = refl
initials_alone p o (MoreExp e es) = nothing_before _ _

pub rows_alone : (p : Program) (o : ℕ) (rows : List Exps) → plus (cost 0 0) (row_initials p tallying o rows).cost ≡ (row_initials p tallying o rows).cost
rows_alone p o [] = refl
rows_alone p o (es ∷ rows) = nothing_before _ _

pub declared_alone : (p : Program) (ns : Names) → plus (cost 0 0) (declared p tallying ns).cost ≡ (declared p tallying ns).cost
declared_alone p NoName = refl
declared_alone p (MoreName spot o i ns) = nothing_before _ _

pub statements_alone : (p : Program) (at_place : Bool → Spot → ℕ) (result : Option IntType) (b : Stms)
    → plus (cost 0 0) (statements p tallying at_place result b).cost ≡ (statements p tallying at_place result b).cost
statements_alone p at_place result NoStm = refl
statements_alone p at_place result (MoreStm s b) = nothing_before _ _
statements_alone p at_place result (MoreCase spot l b) = statements_alone p at_place result b

pub plus_thrice : (a b c : Cost) → plus (plus a b) c ≡ plus a (plus b c)
plus_thrice a b c =
    ap (λ w. record { weight = w; bits = capped (capped (a.bits + b.bits) + c.bits) }) (regrouped a.weight b.weight c.weight)
    ∙ ap (λ w. record { weight = capped (a.weight + capped (b.weight + c.weight)); bits = w }) (regrouped a.bits b.bits c.bits)
  where
    regrouped : (a b c : ℕ) → capped (capped (a + b) + c) ≡ capped (a + capped (b + c))
    regrouped a b c = omega arith
