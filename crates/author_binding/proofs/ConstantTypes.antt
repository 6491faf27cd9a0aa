-- The types of constants: one without a suffix has a signed type that holds it; and no rule on types is broken.
use Rattle.std.proofs.Common.{◌≡◌, ℕ, ◌^◌, ◌<◌, Bool, true, false, cond, ◌||◌, pos, nat_lt, [], Option, Some, None, is_none, refl, ap, arith}
use Rattle.std.specs.List.{list_any}
use Rattle.std.proofs.lemmas.Bool.Decides.{nat_tests}
use Rattle.c_core.specs.Types.{in_range, is_signed, promote_of}
use Rattle.c_core.specs.declared.number.DataModel.{DataModel}
use Rattle.c_core.specs.declared.number.DataModel.TheVariants.{Ilp32, Lp64}
use Rattle.c_core.specs.declared.number.IntType.{IntType}
use Rattle.c_core.specs.declared.number.IntType.TheVariants.{Int, Long, LongLong, ULongLong}
use Rattle.c_tokens.specs.declared.place.Place.{Place}
use Rattle.c_parser.specs.Tree.{Exp}
use Rattle.check_rules.specs.Codes.{mistyped}
use Rattle.check_rules.specs.Constants.{constant_type}
use Rattle.check_rules.specs.Parts.{Value, parts}
use Rattle.author_binding.proofs.ConstantTokens.{least_tree, negative_tree, number_tree}

below : (n k : ℕ) → n < k → nat_lt n k ≡ true
below n k low = grind (arith, nat_tests)

-- a signed type that operators compute in, and that holds the number
pub record IsHeld (m : DataModel) (n : ℕ) (found : Option IntType) : Type 0 where
  pub ty : IntType
  pub is : found ≡ Some ty
  pub promoted : promote_of ty ≡ ty
  pub signed : is_signed ty ≡ true
  pub holds : in_range m ty (pos n) ≡ true

held_first : (m : DataModel) (n : ℕ) (ty : IntType) (later : Option IntType) (held : Bool) →
    promote_of ty ≡ ty → is_signed ty ≡ true → in_range m ty (pos n) ≡ held → IsHeld m n later →
    IsHeld m n (cond held (Some ty) later)
held_first m n ty later true promoted signed e other =
    record { ty = ty; is = refl; promoted = promoted; signed = signed; holds = e }
held_first m n ty later false promoted signed e other = other

pub held : (m : DataModel) (n : ℕ) → n < 2 ^ 63 → IsHeld m n (constant_type m n true false 0)
held m n small =
    let wide : in_range m LongLong (pos n) ≡ true = below n (2 ^ 63) small in
    let widest : IsHeld m n (cond (in_range m LongLong (pos n)) (Some LongLong) None) =
    record {
      ty = LongLong;
      is = ap (λ b. cond b (Some LongLong) None) wide;
      promoted = refl;
      signed = refl;
      holds = wide;
    } in
    held_first m n Int _ (in_range m Int (pos n)) refl refl refl
    (held_first m n Long _ (in_range m Long (pos n)) refl refl refl widest)

pub wide_type : (m : DataModel) (n : ℕ) → n < 2 ^ 64 → constant_type m n true true 2 ≡ Some ULongLong
wide_type m n small = ap (λ b. cond b (Some ULongLong) None) (below n (2 ^ 64) small)

-- ---- no rule on types is broken

abbrev pub breaks_none : DataModel → Exp → Type 0
breaks_none m e = list_any (mistyped m []) (parts [] Value e) ≡ false

number_fits : (m : DataModel) (n : ℕ) (decimal unsigned : Bool) (longs : ℕ) (ty : IntType) (at : Place) →
    constant_type m n decimal unsigned longs ≡ Some ty →
    breaks_none m (number_tree n decimal unsigned longs at)
number_fits m n decimal unsigned longs ty at e = ap (λ o. (is_none o || false) || false) e

pub zero_fits : (m : DataModel) (at : Place) → breaks_none m (number_tree 0 false false 0 at)
zero_fits m at = refl

pub plain_fits : (m : DataModel) (n : ℕ) (at : Place) → n < 2 ^ 63 → breaks_none m (number_tree n true false 0 at)
plain_fits m n at small = let h = held m n small in number_fits m n true false 0 h.ty at h.is

pub wide_fits : (m : DataModel) (n : ℕ) (at : Place) → n < 2 ^ 64 → breaks_none m (number_tree n true true 2 at)
wide_fits m n at small = number_fits m n true true 2 ULongLong at (wide_type m n small)

pub negative_fits : (m : DataModel) (n : ℕ) (at : Place) → n < 2 ^ 63 → breaks_none m (negative_tree n at)
negative_fits m n at small = plain_fits m n at small

pub least_fits : (m : DataModel) (at : Place) → breaks_none m (least_tree at)
least_fits Ilp32 at = refl
least_fits Lp64 at = refl
