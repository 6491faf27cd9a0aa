-- Values and operators in the processor's types: what they give is what the types of the program give, whatever the data model.
use Rattle.std.proofs.Common.{◌≡◌, ℤ, Bool, true, false, cond, nat_le, nat_lt, refl, sym, ap, ◌∙◌}
use Rattle.c_core.specs.Types.{width_of, is_signed, fit, wrapped, promote_of, IsPromoted, higher, mixed, usual, common_of, rank_of, unsigned_of}
use Rattle.c_core.specs.Operators.{is_shift, apply_of, apply_one_of, type_for, right_type_for}
use Rattle.c_core.specs.declared.number.BinOp.{BinOp}
use Rattle.c_core.specs.declared.number.UnOp.{UnOp}
use Rattle.c_core.specs.declared.number.UnOp.TheVariants.{Plus, Neg, BitNot, Not}
use Rattle.c_core.specs.declared.number.DataModel.{DataModel}
use Rattle.c_core.specs.declared.number.DataModel.TheVariants.{Ilp32, Lp64}
use Rattle.c_core.specs.declared.number.IntType.{IntType}
use Rattle.c_core.specs.declared.number.IntType.TheVariants.{Bool as BoolType, Char, SChar, UChar, Short, UShort, Int, UInt, Long, ULong, LongLong, ULongLong}
use Rattle.c_core.proofs.Promoted.{IsPromoted-promote_of, fit_promoted, alike}
use Rattle.flow_code.specs.declared.code.Word.{Word}
use Rattle.flow_code.specs.declared.code.Word.TheVariants.{Signed32, Unsigned32, Signed64, Unsigned64}
use Rattle.flow_code.specs.Words.{word_of, type_of_word, native}
use Rattle.flow_laws.specs.Acting.{right_of}

-- a type converts as the one that it is where `long` has 64 bits
pub fit_native : (m : DataModel) (ty : IntType) (v : ℤ) → fit Lp64 (native m ty) v ≡ fit m ty v
fit_native Lp64 ty v = refl
fit_native Ilp32 BoolType v = refl
fit_native Ilp32 Char v = refl
fit_native Ilp32 SChar v = refl
fit_native Ilp32 UChar v = refl
fit_native Ilp32 Short v = refl
fit_native Ilp32 UShort v = refl
fit_native Ilp32 Int v = refl
fit_native Ilp32 UInt v = refl
fit_native Ilp32 Long v = refl
fit_native Ilp32 ULong v = refl
fit_native Ilp32 LongLong v = refl
fit_native Ilp32 ULongLong v = refl

-- the processor's types are promoted
pub word_promoted : (w : Word) → IsPromoted (type_of_word w)
word_promoted Signed32 = refl
word_promoted Unsigned32 = refl
word_promoted Signed64 = refl
word_promoted Unsigned64 = refl

-- a promoted type has as many bits as the processor's type for it
pub word_width : (m : DataModel) (ty : IntType) → IsPromoted ty → width_of Lp64 (type_of_word (word_of m ty)) ≡ width_of m ty
word_width m BoolType p = cc
word_width m Char p = cc
word_width m SChar p = cc
word_width m UChar p = cc
word_width m Short p = cc
word_width m UShort p = cc
word_width m Int p = refl
word_width m UInt p = refl
word_width Ilp32 Long p = refl
word_width Lp64 Long p = refl
word_width Ilp32 ULong p = refl
word_width Lp64 ULong p = refl
word_width m LongLong p = refl
word_width m ULongLong p = refl

-- and the same sign
pub word_signed : (m : DataModel) (ty : IntType) → IsPromoted ty → is_signed (type_of_word (word_of m ty)) ≡ is_signed ty
word_signed m BoolType p = cc
word_signed m Char p = cc
word_signed m SChar p = cc
word_signed m UChar p = cc
word_signed m Short p = cc
word_signed m UShort p = cc
word_signed m Int p = refl
word_signed m UInt p = refl
word_signed Ilp32 Long p = refl
word_signed Lp64 Long p = refl
word_signed Ilp32 ULong p = refl
word_signed Lp64 ULong p = refl
word_signed m LongLong p = refl
word_signed m ULongLong p = refl

-- a promoted type converts as the processor's type for it
pub fit_promoted_word : (m : DataModel) (ty : IntType) (v : ℤ) → IsPromoted ty → fit Lp64 (type_of_word (word_of m ty)) v ≡ fit m ty v
fit_promoted_word m ty v p =
    fit_promoted Lp64 (type_of_word (word_of m ty)) v (word_promoted (word_of m ty))
    ∙ ap (λ w. wrapped w (is_signed (type_of_word (word_of m ty))) v) (word_width m ty p)
    ∙ ap (λ s. wrapped (width_of m ty) s v) (word_signed m ty p)
    ∙ sym (fit_promoted m ty v p)

unsigned_promoted : (ty : IntType) → IsPromoted (unsigned_of ty)
unsigned_promoted Long = refl
unsigned_promoted ULong = refl
unsigned_promoted LongLong = refl
unsigned_promoted ULongLong = refl
unsigned_promoted _ = refl

-- of two promoted types, the one and the other
chosen_promoted : (t : Bool) (a b : IntType) → IsPromoted a → IsPromoted b → IsPromoted (cond t a b)
chosen_promoted true a b p q = p
chosen_promoted false a b p q = q

higher_promoted : (a b : IntType) → IsPromoted a → IsPromoted b → IsPromoted (higher a b)
higher_promoted a b p q = chosen_promoted (nat_le (rank_of a) (rank_of b)) b a q p

mixed_promoted : (m : DataModel) (s u : IntType) → IsPromoted s → IsPromoted u → IsPromoted (mixed m s u)
mixed_promoted m s u p q =
    chosen_promoted (nat_le (rank_of s) (rank_of u)) u (cond (nat_lt (width_of m u) (width_of m s)) s (unsigned_of s)) q
    (chosen_promoted (nat_lt (width_of m u) (width_of m s)) s (unsigned_of s) p (unsigned_promoted s))

usual_promoted : (m : DataModel) (a b : IntType) → IsPromoted a → IsPromoted b → IsPromoted (usual m a b)
usual_promoted m a b p q =
    chosen_promoted (is_signed a) (cond (is_signed b) (higher a b) (mixed m a b)) (cond (is_signed b) (mixed m b a) (higher a b))
    (chosen_promoted (is_signed b) (higher a b) (mixed m a b) (higher_promoted a b p q) (mixed_promoted m a b p q))
    (chosen_promoted (is_signed b) (mixed m b a) (higher a b) (mixed_promoted m b a q p) (higher_promoted a b p q))

-- the type in which an operator computes is promoted
pub type_for_promoted : (m : DataModel) (o : BinOp) (a b : IntType) → IsPromoted (type_for m o a b)
type_for_promoted m o a b =
    chosen_promoted (is_shift o) (promote_of a) (common_of m a b) (IsPromoted-promote_of a)
    (usual_promoted m (promote_of a) (promote_of b) (IsPromoted-promote_of a) (IsPromoted-promote_of b))

-- operators over a type are as those over the processor's type for it
pub fit_word : (m : DataModel) (o : BinOp) (a b : IntType) (v : ℤ) → fit Lp64 (type_of_word (word_of m (type_for m o a b))) v ≡ fit m (type_for m o a b) v
fit_word m o a b v = fit_promoted_word m (type_for m o a b) v (type_for_promoted m o a b)

right_by : (t : Bool) (m : DataModel) (ty r : IntType) (v : ℤ) → IsPromoted ty → IsPromoted r
    → cond t (fit Lp64 (type_of_word (word_of m (cond t r ty))) v) (fit Lp64 (type_of_word (word_of m ty)) v) ≡ fit m (cond t r ty) v
right_by true m ty r v p q = fit_promoted_word m r v q
right_by false m ty r v p q = fit_promoted_word m ty v p

-- the right side converts to the type that it has
pub fit_right : (m : DataModel) (o : BinOp) (a b : IntType) (v : ℤ)
    → right_of o (word_of m (type_for m o a b)) (word_of m (right_type_for o (type_for m o a b) b)) v ≡ fit m (right_type_for o (type_for m o a b) b) v
fit_right m o a b v = right_by (is_shift o) m (type_for m o a b) (promote_of b) v (type_for_promoted m o a b) (IsPromoted-promote_of b)

-- an operator gives the same in the processor's type
pub apply_word : (m : DataModel) (o : BinOp) (a b : IntType) (x y : ℤ)
    → apply_of Lp64 o (type_of_word (word_of m (type_for m o a b))) x y ≡ apply_of m o (type_for m o a b) x y
apply_word m o a b x y =
    let p = type_for_promoted m o a b in
    let w = word_of m (type_for m o a b) in
    alike Lp64 m (type_of_word w) (type_for m o a b) o x y (word_promoted w) p (word_width m (type_for m o a b) p) (word_signed m (type_for m o a b) p)

-- the same for one operand
pub fit_word_one : (m : DataModel) (a : IntType) (v : ℤ) → fit Lp64 (type_of_word (word_of m (promote_of a))) v ≡ fit m (promote_of a) v
fit_word_one m a v = fit_promoted_word m (promote_of a) v (IsPromoted-promote_of a)

alike_one : (m n : DataModel) (s t : IntType) (o : UnOp) (x : ℤ) → ((v : ℤ) → fit m s v ≡ fit n t v) → width_of m s ≡ width_of n t → is_signed s ≡ is_signed t
    → apply_one_of m o s x ≡ apply_one_of n o t x
alike_one m n s t Plus x f w i = refl
alike_one m n s t Not x f w i = refl
alike_one m n s t BitNot x f w i = simp f
alike_one m n s t Neg x f w i = simp (w, i, f)

pub apply_word_one : (m : DataModel) (o : UnOp) (a : IntType) (x : ℤ) → apply_one_of Lp64 o (type_of_word (word_of m (promote_of a))) x ≡ apply_one_of m o (promote_of a) x
apply_word_one m o a x =
    let p = IsPromoted-promote_of a in
    let w = word_of m (promote_of a) in
    alike_one Lp64 m (type_of_word w) (promote_of a) o x (fit_word_one m a) (word_width m (promote_of a) p) (word_signed m (promote_of a) p)
