-- Comparisons of `\result` with a constant.
use Rattle.std.proofs.Common.{◌≡◌, ℕ, ◌+◌, ◌*◌, ◌<◌, ◌^◌, Bool, true, false, cond, not, ◌&&◌, ℤ, List, length, refl, ◌∙◌, ap, ap₂, subst, arith, IsTrue}
use Rattle.c_core.specs.Tree.{Program}
use Rattle.c_core.specs.Types.{width_of, fit, is_zero, IsPromoted}
use Rattle.c_core.specs.Operators.{apply_of, is_comparison, is_shift}
use Rattle.c_core.specs.declared.number.DataModel.{DataModel}
use Rattle.c_core.specs.declared.number.DataModel.TheVariants.{Ilp32, Lp64}
use Rattle.c_core.specs.declared.number.IntType.{IntType}
use Rattle.c_core.specs.declared.number.IntType.TheVariants.{Bool as BoolType, Char, SChar, UChar, Short, UShort, Int, UInt, Long, ULong, LongLong, ULongLong}
use Rattle.c_core.specs.declared.number.BinOp.{BinOp}
use Rattle.c_core.specs.declared.number.BinOp.TheVariants.{Add, Sub, Mul, Div, Rem, Shl, Shr, And, Xor, Or, Lt, Le, Gt, Ge, Eq, Ne}
use Rattle.c_core.specs.declared.number.Done.{Done}
use Rattle.c_core.specs.declared.number.Done.TheVariants.{Value, Overflow, Undefined}
use Rattle.c_meaning.specs.Value.{is_true, wrapping}
use Rattle.circuits.specs.declared.bits.Outcome.{Outcome}
use Rattle.circuits.specs.declared.net.Bit.{Bit}
use Rattle.circuits.specs.declared.net.NetNode.{NetNode}
use Rattle.circuits.specs.Net.{holds, opposite, Grown, Means}
use Rattle.circuits.specs.Numbers.{typed, Reads}
use Rattle.circuits.specs.Outcome as out
use Rattle.circuits.specs.Outcome.{conversion_cost, binary_cost, binary_type}
use Rattle.circuits.proofs.Nets.{means_by, opp, and_of, longer}
use Rattle.sym_state.specs.declared.state.Sym.{Sym}
use Rattle.sym_state.specs.Standing.{Turned}
use Rattle.sym_state.proofs.Nets.{longer_by, typed_added}
use Rattle.sym_state.proofs.Turning.{turned_then}
use Rattle.sym_values.specs.Valuing.{Reckoned, Decided}
use Rattle.sym_values.proofs.Reckoning.{net_turned}
use Rattle.seek_passes.specs.Charges.{comparison_cost}
use Rattle.seek_passes.proofs.Kept.{means_added}

-- ---- comparisons
pub compared_type : (op : BinOp) (ty : IntType) → IsTrue (is_comparison op) → binary_type op ty ≡ Int
compared_type op ty h = ap (λ b. cond b Int ty) h

pub no_shift : (op : BinOp) → IsTrue (is_comparison op) → is_shift op ≡ false
no_shift Shl h = cc
no_shift Shr h = cc
no_shift _ h = refl

pub compared_cost : (m : DataModel) (op : BinOp) (ty : IntType) → IsTrue (is_comparison op) → binary_cost m op ty ≡ 16 * width_of m ty
compared_cost m Add ty h = refl
compared_cost m Sub ty h = refl
compared_cost m Mul ty h = cc
compared_cost m Div ty h = cc
compared_cost m Rem ty h = cc
compared_cost m Shl ty h = cc
compared_cost m Shr ty h = cc
compared_cost m And ty h = cc
compared_cost m Xor ty h = cc
compared_cost m Or ty h = cc
compared_cost m Lt ty h = refl
compared_cost m Le ty h = refl
compared_cost m Gt ty h = refl
compared_cost m Ge ty h = refl
compared_cost m Eq ty h = refl
compared_cost m Ne ty h = refl

-- a conversion to a promoted type moves digits alone
pub moved_free : (m : DataModel) (from to : IntType) → IsPromoted to → conversion_cost m from to ≡ 0
moved_free m BoolType BoolType h = refl
moved_free m Char BoolType h = cc
moved_free m SChar BoolType h = cc
moved_free m UChar BoolType h = cc
moved_free m Short BoolType h = cc
moved_free m UShort BoolType h = cc
moved_free m Int BoolType h = cc
moved_free m UInt BoolType h = cc
moved_free m Long BoolType h = cc
moved_free m ULong BoolType h = cc
moved_free m LongLong BoolType h = cc
moved_free m ULongLong BoolType h = cc
moved_free m from to h = refl

int_wide : (m : DataModel) → width_of m Int ≡ 32
int_wide Ilp32 = refl
int_wide Lp64 = refl

-- ---- what the bits of an outcome say
and_yes : (b : Bool) → (b && true) ≡ b
and_yes true = refl
and_yes false = refl

and_no : (b : Bool) → (b && false) ≡ false
and_no true = refl
and_no false = refl

is_met : (d : Done) (z : ℤ) → out.HasValue d z → (not (is_zero z) && not (out.undefined d)) ≡ is_true (wrapping d)
is_met (Value r) z h = and_yes (not (is_zero z)) ∙ ap (λ y. not (is_zero y)) h
is_met (Overflow r) z h = and_yes (not (is_zero z)) ∙ ap (λ y. not (is_zero y)) h
is_met Undefined z h = and_no (not (is_zero z))

module _ (p : Program) (op : BinOp) (common ty : IntType) (comparison : IsTrue (is_comparison op)) (promoted : IsPromoted common) where
  -- ---- room
  module _ {a b : Sym} (left : Turned p (conversion_cost p.model ty common) 0 a b (λ v s. s)) (room : length a.net + comparison_cost p.model common < 2 ^ 27) where
    pub room_left : length b.net + comparison_cost p.model common < 2 ^ 27
    room_left = omega (arith, room, (longer_by left.added).1, moved_free p.model ty common promoted)

    pub room_out : {net : List NetNode} → Grown (binary_cost p.model op common) b.net net → length net + 33 < 2 ^ 27
    room_out {net} g = omega (arith, room_left, (longer (binary_cost p.model op common) b.net net g).1, compared_cost p.model op common comparison)

  pub room_truth : {c d : Sym} → length c.net + 33 < 2 ^ 27 → Turned p (conversion_cost p.model Int BoolType) 0 c d (λ v s. s) → length d.net < 2 ^ 27
  room_truth {c} {d} room x = omega (arith, room, (longer_by x.added).1, int_wide p.model)

  -- ---- the bit of a comparison: of a value that is converted, and of a constant
  pub compared_means : {a b d : Sym} {net last : List NetNode} {us ws : List Bit} {o : Outcome} {t fine r : Bit} (xs : List Bit) (z : ℤ)
      → Reads p.model common a.net ws (λ v. z)
      → Reckoned p (conversion_cost p.model ty common) a b common us (λ v. fit p.model common (typed p.model ty v a.net xs))
      → Grown (binary_cost p.model op common) b.net net
      → out.Gives p.model (binary_type op common) net o (λ v. apply_of p.model op common (typed p.model common v b.net us) (typed p.model common v b.net ws))
      → Decided p (conversion_cost p.model Int BoolType) (record b { net = net }) d t (λ v. not (is_zero (typed p.model Int v net o.value.bits)))
      → fine ≡ opposite o.undefined → Grown 1 d.net last → Means last r (λ v. holds v d.net t && holds v d.net fine)
      → Decided p (comparison_cost p.model common) a (record d { net = last }) r (λ v. is_true (wrapping (apply_of p.model op common (fit p.model common (typed p.model ty v a.net xs)) z)))
  compared_means {a} {b} {d} {net} {last} {us} {ws} {o} {t} {fine} {r} xs z right left grown given truth e more m =
      let first : Turned p (binary_cost p.model op common) 0 b (record b { net = net }) (λ v s. s) = net_turned p b net left.turned.fits grown in
      let final : Turned p 1 0 d (record d { net = last }) (λ v s. s) = net_turned p d last truth.turned.fits more in
      let one = turned_then p (conversion_cost p.model ty common + binary_cost p.model op common) 0 left.turned first (omega arith) (omega arith) in
      let two = turned_then p (conversion_cost p.model ty common + binary_cost p.model op common + conversion_cost p.model Int BoolType) 0 one truth.turned (omega arith) (omega arith) in
      let done : (ℕ → Bool) → Done = λ v. apply_of p.model op common (typed p.model common v b.net us) (typed p.model common v b.net ws) in
      let undefined_there : Means d.net o.undefined (λ v. out.undefined (done v)) = means_added truth.turned.added (record { inside = given.undefined_in; is = given.undefined_is }) in
      record {
        turned = turned_then p (comparison_cost p.model common) 0 two final (omega (arith, compared_cost p.model op common comparison, moved_free p.model ty common promoted, int_wide p.model)) (omega arith);
        means = means_by last r _ _ (and_of {a = t} {b = fine} {f = λ v. not (is_zero (typed p.model Int v net o.value.bits))} {g = λ v. not (out.undefined (done v))} m truth.means (opp e undefined_there)) (λ v.
            is_met (done v) (typed p.model Int v net o.value.bits) (subst (λ q. out.HasValue (done v) (typed p.model q v net o.value.bits)) (compared_type op common comparison) (given.value_is v))
            ∙ ap₂ (λ x y. is_true (wrapping (apply_of p.model op common x y))) (left.is v) (typed_added left.turned.added p.model common v ws right.bits_in ∙ right.is v));
      }
