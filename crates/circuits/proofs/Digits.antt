-- Truth values, bit operators and complements in a type.
use Rattle.std.proofs.Common.{◌≡◌, ℕ, ◌+◌, ◌-◌, ◌*◌, ◌^◌, ◌<◌, Bool, true, false, ◌&&◌, ℤ, pos, ◌-ℤ◌, neg_ℤ, List, [], ◌∷◌, ◌++◌, map, length, refl, sym, ◌∙◌, ap, arith, add-zero}
use Rattle.std.proofs.lemmas.Int.{ints}
use Rattle.std.proofs.Math.Nat.{mod-eq_of_lt}
use Rattle.c_core.specs.Types.{width_of, is_signed, promote_of, residue, number_of, signed_of, fit, wrapped}
use Rattle.c_core.specs.declared.number.Done.TheVariants.{Value}
use Rattle.c_core.specs.Operators.{apply_one_of, judged, truth, bits}
use Rattle.c_core.specs.declared.number.DataModel.{DataModel}
use Rattle.c_core.specs.declared.number.IntType.{IntType}
use Rattle.c_core.specs.declared.number.IntType.TheVariants.{Int}
use Rattle.c_core.specs.declared.number.UnOp.TheVariants.{BitNot}
use Rattle.circuits.specs.declared.net.Bit.{Bit}
use Rattle.circuits.specs.declared.net.NetNode.{NetNode}
use Rattle.circuits.specs.declared.bits.Outcome.{Outcome}
use Rattle.circuits.specs.declared.gates.Gate.{Gate}
use Rattle.circuits.specs.Net.{opposite, IsIn, Means}
use Rattle.circuits.specs.Numbers.{number, digit, read, typed, AreTyped, Counts}
use Rattle.circuits.specs.Outcome.{Gives}
use Rattle.circuits.specs.Gates.{digits_of, negative}
use Rattle.circuits.proofs.Nets.{means_by}
use Rattle.circuits.proofs.Counting.{in_none}
use Rattle.circuits.proofs.Carrying.{counts_same, counts_lt, joined_counts, flipped_counts}
use Rattle.circuits.proofs.Reading.{residue_is, residue_read, read_off, mod_low}
use Rattle.circuits.proofs.Judged.{gives_judged, gives_same, judged_never}
use Rattle.circuits.proofs.Summed.{typed_counts}
use Rattle.std.proofs.lemmas.List.Elements.{All-cons}

and_false : (b : Bool) → (b && false) ≡ false
and_false true = refl
and_false false = refl

-- no overflow
pub means_never : {net : List NetNode} {b : Bit} (s : Bool) → Means net b (λ v. false) → Means net b (λ v. s && false)
means_never {net} {b} s m = means_by _ _ _ _ m (λ v. sym (and_false s))

pub residue_pos : (w n : ℕ) → n < 2 ^ w → residue w (pos n) ≡ n
residue_pos w n h = residue_is w (pos n) 0 n (omega (arith, ints)) ∙ mod-eq_of_lt h

-- an operator that is a value alone
pub gives_value : {m : DataModel} {ty : IntType} {net : List NetNode} {o : Outcome} (r : (ℕ → Bool) → ℤ)
    → promote_of ty ≡ ty → AreTyped m ty net o.value.bits → ((v : ℕ → Bool) → number v net o.value.bits ≡ residue (width_of m ty) (r v))
    → Means net o.overflow (λ v. false) → Means net o.undefined (λ v. false) → Gives m ty net o (λ v. judged m ty false (r v))
gives_value {m} {ty} {net} {o} r p t e f u = gives_judged (λ v. false) r p t e (means_never (is_signed ty) f) u

pub one_counts : {net : List NetNode} {b : Bit} {f : (ℕ → Bool) → Bool} → Means net b f → Counts net (b ∷ []) 1 (λ v. digit (f v))
unfolding number
one_counts {net} {b} {f} m = record { inside = All-cons (λ x. IsIn net x) b [] m.inside (in_none (λ x. IsIn net x)); wide = refl; is = λ v. omega (arith, ap digit (m.is v)) }

digit_read : (b : Bool) → digit b ≡ residue 32 (number_of b)
unfolding residue
digit_read true = refl
digit_read false = refl

truth_fit : (m : DataModel) (b : Bool) → Value (fit m Int (number_of b)) ≡ truth b
unfolding wrapped residue signed_of
truth_fit m true = refl
truth_fit m false = refl

pub truth_gives : {m : DataModel} {net : List NetNode} {o : Outcome} {bit : Bit} {gap : List Bit} {f : (ℕ → Bool) → Bool}
    → Means net bit f → Counts net gap 31 (λ v. 0) → o.value.bits ≡ bit ∷ [] ++ gap → Means net o.overflow (λ v. false) → Means net o.undefined (λ v. false)
    → Gives m Int net o (λ v. truth (f v))
truth_gives {m} {net} {o} {bit} {gap} {f} b z e over u =
    let all = counts_same e (joined_counts (one_counts b) z) in
    gives_same (gives_value (λ v. number_of (f v)) refl (record { inside = all.inside; wide = all.wide }) (λ v. all.is v ∙ add-zero (digit (f v)) ∙ digit_read (f v)) over u)
    (λ v. judged_never m Int (number_of (f v)) ∙ truth_fit m (f v))

pub bits_give : {m : DataModel} {ty : IntType} {old new : List NetNode} {o : Outcome} {out : List Bit} (kind : Gate) (a b : List Bit)
    → promote_of ty ≡ ty → AreTyped m ty old a → AreTyped m ty old b
    → Counts new out (length a) (λ v. digits_of kind (number v old a) (number v old b))
    → o.value.bits ≡ out → Means new o.overflow (λ v. false) → Means new o.undefined (λ v. false)
    → Gives m ty new o (λ v. bits m ty (digits_of kind) (typed m ty v old a) (typed m ty v old b))
bits_give {m} {ty} {old} {new} {o} {out} kind a b p ha hb c e over u =
    let w = width_of m ty in
    let s = is_signed ty in
    let all = counts_same e c in
    let r : (ℕ → Bool) → ℤ = λ v. pos (digits_of kind (residue w (typed m ty v old a)) (residue w (typed m ty v old b))) in
    let same : (v : ℕ → Bool) → digits_of kind (residue w (typed m ty v old a)) (residue w (typed m ty v old b)) ≡ digits_of kind (number v old a) (number v old b) =
    λ v. ap (λ x. digits_of kind x (residue w (typed m ty v old b))) (residue_read w s (number v old a) (counts_lt (typed_counts ha) v))
    ∙ ap (λ y. digits_of kind (number v old a) y) (residue_read w s (number v old b) (counts_lt (typed_counts hb) v)) in
    let wide : length o.value.bits ≡ w = all.wide ∙ ha.wide in
    gives_same (gives_value r p (record { inside = all.inside; wide = wide })
    (λ v. all.is v ∙ sym (ap (λ x. residue w (pos x)) (same v) ∙ residue_pos w (digits_of kind (number v old a) (number v old b)) (counts_lt (record { inside = all.inside; wide = wide; is = all.is }) v))) over u)
    (λ v. judged_never m ty (r v))

residue_complement : (w : ℕ) (s : Bool) (n : ℕ) → n < 2 ^ w → 2 ^ w - 1 - n ≡ residue w (neg_ℤ (read w s n) -ℤ pos 1)
residue_complement w s n h = sym (residue_is w (neg_ℤ (read w s n) -ℤ pos 1) 1 (2 ^ w - 1 - n + 2 ^ w * digit (negative w s n)) (omega (arith, ints, read_off w s n h)) ∙ mod_low (2 ^ w - 1 - n) (2 ^ w) (digit (negative w s n)) (omega arith))

pub complement_gives : {m : DataModel} {ty : IntType} {net : List NetNode} {o : Outcome} (a : List Bit)
    → promote_of ty ≡ ty → AreTyped m ty net a → o.value.bits ≡ map opposite a → Means net o.overflow (λ v. false) → Means net o.undefined (λ v. false)
    → Gives m ty net o (λ v. apply_one_of m BitNot ty (typed m ty v net a))
complement_gives {m} {ty} {net} {o} a p ha e over u =
    let all = counts_same e (flipped_counts (typed_counts ha)) in
    gives_same (gives_value (λ v. neg_ℤ (typed m ty v net a) -ℤ pos 1) p (record { inside = all.inside; wide = all.wide })
    (λ v. all.is v ∙ residue_complement (width_of m ty) (is_signed ty) (number v net a) (counts_lt (typed_counts ha) v)) over u)
    (λ v. judged_never m ty (neg_ℤ (typed m ty v net a) -ℤ pos 1))
