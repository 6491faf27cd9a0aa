-- When two lists of types are the same.
use Rattle.std.proofs.Common.{arith, ◌≡◌, ℕ, zero, suc, Bool, true, false, ◌&&◌, List, [], ◌∷◌, length, drop, get_or, map, Option, Some, None, is_none, refl, ap, sym, subst, ◌∙◌}
use Rattle.std.specs.Prelude.{slice_get}
use Rattle.std.specs.Option.{option_map}
use Rattle.std.proofs.Math.Seq.{drop-length}
use Rattle.std.proofs.lemmas.Bool.Decides.{nat_tests}
use Rattle.std.proofs.lemmas.Option.{slice_get-map}
use Rattle.c_core.specs.Typing.{number_of_type, same_type, same_types}
use Rattle.c_core.specs.declared.number.IntType.{IntType}
use Rattle.c_core.specs.declared.number.IntType.TheVariants.{Bool as BoolType, Char, SChar, UChar, Short, UShort, Int, UInt, Long, ULong, LongLong, ULongLong}
use Rattle.c_parser.specs.SourceView.{param_view}
use Rattle.c_parser.specs.declared.item.RawParam.{RawParam}
use Rattle.check_rules.specs.Codes.{same_lists}
use Rattle.check_rules.specs.Scopes.{types_of}

-- place by place

pub same_heads : (i : ℕ) (ts us : List IntType)
    → same_lists (drop i ts) (drop i us) ≡ (same_types (slice_get ts i) (slice_get us i) && same_lists (drop (suc i) ts) (drop (suc i) us))
same_heads zero [] [] = refl
same_heads zero [] (u ∷ us) = refl
same_heads zero (t ∷ ts) [] = refl
same_heads zero (t ∷ ts) (u ∷ us) = refl
same_heads (suc i) [] [] = refl
same_heads (suc i) [] (u ∷ us) = behind i us
  where
    behind : (i : ℕ) (us : List IntType) → same_lists [] (drop i us) ≡ (is_none (slice_get us i) && same_lists [] (drop (suc i) us))
    behind zero [] = refl
    behind zero (u ∷ us) = refl
    behind (suc i) [] = refl
    behind (suc i) (u ∷ us) = behind i us
same_heads (suc i) (t ∷ ts) [] = behind i ts
  where
    behind : (i : ℕ) (ts : List IntType) → same_lists (drop i ts) [] ≡ (same_types (slice_get ts i) None && same_lists (drop (suc i) ts) [])
    behind zero [] = refl
    behind zero (t ∷ ts) = refl
    behind (suc i) [] = refl
    behind (suc i) (t ∷ ts) = behind i ts
same_heads (suc i) (t ∷ ts) (u ∷ us) = same_heads i ts us

pub same_ends : (ts us : List IntType) → same_lists (drop (length ts) ts) (drop (length ts) us) ≡ is_none (slice_get us (length ts))
same_ends ts us = ap (λ l. same_lists l (drop (length ts) us)) (drop-length ts) ∙ behind (length ts) us
  where
    behind : (i : ℕ) (us : List IntType) → same_lists [] (drop i us) ≡ is_none (slice_get us i)
    behind zero [] = refl
    behind zero (u ∷ us) = refl
    behind (suc i) [] = refl
    behind (suc i) (u ∷ us) = behind i us

pub type_found : (xs : List RawParam) (i : ℕ) (o : Option RawParam) → slice_get xs i ≡ o → slice_get (types_of (map param_view xs)) i ≡ option_map (λ x. x.ty) o
type_found xs i o e =
    slice_get-map (λ x. x.ty) (map param_view xs) i ∙ ap (option_map (λ x. x.ty)) (slice_get-map param_view xs i ∙ ap (option_map param_view) e) ∙ twice o
  where
    twice : (o : Option RawParam) → option_map (λ x. x.ty) (option_map param_view o) ≡ option_map (λ x. x.ty) o
    twice None = refl
    twice (Some x) = refl

-- the tests decide

abbrev type_numbered : ℕ → IntType
type_numbered n =
    get_or (BoolType ∷ Char ∷ SChar ∷ UChar ∷ Short ∷ UShort ∷ Int ∷ UInt ∷ Long ∷ ULong ∷ LongLong ∷ ULongLong ∷ []) n Int

numbered_back : (t : IntType) → type_numbered (number_of_type t) ≡ t
numbered_back BoolType = refl
numbered_back Char = refl
numbered_back SChar = refl
numbered_back UChar = refl
numbered_back Short = refl
numbered_back UShort = refl
numbered_back Int = refl
numbered_back UInt = refl
numbered_back Long = refl
numbered_back ULong = refl
numbered_back LongLong = refl
numbered_back ULongLong = refl

one_type : (t u : IntType) → same_type t u ≡ true → t ≡ u
one_type t u h =
    let n : number_of_type t ≡ number_of_type u = grind (arith, nat_tests) in
    sym (numbered_back t) ∙ ap type_numbered n ∙ numbered_back u

abbrev Holds : Bool → Type 0
Holds true = Unit {0}
Holds false = ⊥

pub one_result : (t u : Option IntType) → same_types t u ≡ true → t ≡ u
one_result None None h = refl
one_result None (Some u) h = absurd (subst Holds (sym h) tt)
one_result (Some t) None h = absurd (subst Holds (sym h) tt)
one_result (Some t) (Some u) h = ap Some (one_type t u h)

pub one_list : (ts us : List IntType) → same_lists ts us ≡ true → ts ≡ us
one_list [] [] h = refl
one_list [] (u ∷ us) h = absurd (subst Holds (sym h) tt)
one_list (t ∷ ts) [] h = absurd (subst Holds (sym h) tt)
one_list (t ∷ ts) (u ∷ us) h = both (one_type t u (left (same_type t u) (same_lists ts us) h)) (one_list ts us (right (same_type t u) (same_lists ts us) h))
  where
    left : (b c : Bool) → (b && c) ≡ true → b ≡ true
    left true c e = refl
    left false c e = e

    right : (b c : Bool) → (b && c) ≡ true → c ≡ true
    right true c e = e
    right false c e = absurd (subst Holds (sym e) tt)

    both : t ≡ u → ts ≡ us → t ∷ ts ≡ u ∷ us
    both a b = ap (λ x. x ∷ ts) a ∙ ap (λ l. u ∷ l) b
