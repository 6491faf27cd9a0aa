-- Operators of one number, from what the circuits below give.
use Rattle.std.proofs.Common.{◌≡◌, ℕ, zero, suc, ◌-◌, ◌^◌, Bool, true, false, cond, not, nat_eq, ℤ, pos, negsuc, neg_ℤ, ◌-ℤ◌, List, refl, sym, ◌∙◌, ap, arith}
use Rattle.std.proofs.lemmas.Int.{ints}
use Rattle.std.proofs.lemmas.Nat.{pow_pos}
use Rattle.std.proofs.lemmas.Bool.{lt-ltb}
use Rattle.c_core.specs.Types.{width_of, is_signed, signed_of}
use Rattle.c_core.specs.Operators.{apply_of, apply_one_of, exact, truth}
use Rattle.c_core.specs.declared.number.DataModel.{DataModel}
use Rattle.c_core.specs.declared.number.IntType.{IntType}
use Rattle.c_core.specs.declared.number.IntType.TheVariants.{Int}
use Rattle.c_core.specs.declared.number.BinOp.TheVariants.{Sub}
use Rattle.c_core.specs.declared.number.UnOp.TheVariants.{Plus, Neg, Not}
use Rattle.circuits.specs.declared.net.Bit.{Bit}
use Rattle.circuits.specs.declared.net.NetNode.{NetNode}
use Rattle.circuits.specs.declared.bits.Outcome.{Outcome}
use Rattle.circuits.specs.Net.{holds, Means}
use Rattle.circuits.specs.Numbers.{number, typed, read, AreTyped, Counts}
use Rattle.circuits.specs.Outcome.{Gives}
use Rattle.circuits.proofs.Judged.{gives_same}
use Rattle.circuits.proofs.Compared.{not_not, truth_means}
use Rattle.circuits.proofs.Halves.{zero_read}

pub unchanged_gives : {m : DataModel} {ty : IntType} {net : List NetNode} {o : Outcome} (a : List Bit) → AreTyped m ty net a → o.value.bits ≡ a → Means net o.overflow (λ v. false) → Means net o.undefined (λ v. false) → Gives m ty net o (λ v. apply_one_of m Plus ty (typed m ty v net a))
unchanged_gives {m} {ty} {net} {o} a ha e over undef = record {
  value = rw e ha;
  overflow = over.inside;
  undefined_in = undef.inside;
  value_is = λ v. ap (typed m ty v net) e;
  overflow_is = over.is;
  undefined_is = undef.is;
}

minus_is : (z : ℤ) → pos 0 -ℤ z ≡ neg_ℤ z
minus_is (pos zero) = refl
minus_is (pos (suc n)) = omega (arith, ints)
minus_is (negsuc n) = omega (arith, ints)

read_zero : (w : ℕ) (s : Bool) → read w s 0 ≡ pos 0
unfolding signed_of
read_zero w true = ap (λ t. cond t (pos 0) (negsuc (2 ^ w - 1))) (lt-ltb 0 (2 ^ (w - 1)) (pow_pos (w - 1)))
read_zero w false = refl

pub negate_gives : {m : DataModel} {ty : IntType} {old new : List NetNode} {o : Outcome} (a none : List Bit) → Counts old none (width_of m ty) (λ v. 0) → Gives m ty new o (λ v. apply_of m Sub ty (typed m ty v old none) (typed m ty v old a)) → Gives m ty new o (λ v. apply_one_of m Neg ty (typed m ty v old a))
negate_gives {m} {ty} {old} {new} {o} a none c g =
    gives_same g (λ v. ap (λ x. exact m ty (x -ℤ typed m ty v old a)) (ap (read (width_of m ty) (is_signed ty)) (c.is v) ∙ read_zero (width_of m ty) (is_signed ty)) ∙ ap (exact m ty) (minus_is (typed m ty v old a)))

pub zero_gives : {m : DataModel} {new : List NetNode} {o : Outcome} {x : Bit} (ty : IntType) (old : List NetNode) (a : List Bit) → Means new x (λ v. not (not (nat_eq (number v old a) 0))) → Gives m Int new o (λ v. truth (holds v new x)) → Gives m Int new o (λ v. apply_one_of m Not ty (typed m ty v old a))
zero_gives {m} {new} {o} {x} ty old a h g =
    truth_means h g (λ v. not_not (nat_eq (number v old a) 0) ∙ sym (zero_read (width_of m ty) (is_signed ty) (number v old a)))

pub none_typed : {m : DataModel} {ty : IntType} {net : List NetNode} {xs : List Bit} → Counts net xs (width_of m ty) (λ v. 0) → AreTyped m ty net xs
none_typed {m} {ty} {net} {xs} c = record { inside = c.inside; wide = c.wide }
