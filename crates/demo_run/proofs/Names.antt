-- What the words of a demo's programs stand for.
use Rattle.std.proofs.Common.{◌≡◌, ◌<◌, ◌^◌, ℕ, Bool, true, false, cond, List, [], ◌∷◌, ◌++◌, Option, Some, None, codes, bytes_eq, refl, ap, ◌∙◌, eq-eqb, lt-ltb}
use Rattle.c_core.specs.declared.number.DataModel.TheVariants.{Ilp32}
use Rattle.c_core.specs.declared.number.IntType.TheVariants.{Int}
use Rattle.c_core.specs.declared.tree.Callee.TheVariants.{Input, ReachError}
use Rattle.check_rules.specs.Constants.{constant_type}
use Rattle.check_rules.specs.Names.{Kind, Object, Function, Entry, entry, later, declared_as, built_in, or_built_in, named, kind_of_callee}

-- ---- declarations

same_bytes : (xs : List ℕ) → bytes_eq xs xs ≡ true
same_bytes [] = refl
same_bytes (x ∷ xs) = rw (eq-eqb x x refl) (same_bytes xs)

-- an object's name
abbrev pub object_entry : List ℕ → ℕ → Entry
object_entry x o = entry x (Object o Int 0 false)

object_counts : (earlier : Option Kind) (o : ℕ) → later earlier (Some (Object o Int 0 false)) ≡ Some (Object o Int 0 false)
object_counts None o = refl
object_counts (Some k) o = refl

-- the last declaration of an object counts
declared_last : (es : List Entry) (x : List ℕ) (o : ℕ) → declared_as (es ++ object_entry x o ∷ []) x ≡ Some (Object o Int 0 false)
declared_last [] x o = rw (same_bytes x) refl
declared_last (e ∷ es) x o =
    let earlier : Option Kind = cond (bytes_eq e.name x) (Some e.kind) None in
    ap (later earlier) (declared_last es x o) ∙ object_counts earlier o

-- a declaration of another word changes nothing
pub declared_still : (es : List Entry) (x z : List ℕ) (o : ℕ) → bytes_eq x z ≡ false → declared_as (es ++ object_entry x o ∷ []) z ≡ declared_as es z
declared_still [] x z o other = rw other refl
declared_still (e ∷ es) x z o other = ap (later (cond (bytes_eq e.name z) (Some e.kind) None)) (declared_still es x z o other)

pub named_last : (es : List Entry) (x : List ℕ) (o : ℕ) → named (es ++ object_entry x o ∷ []) x ≡ Some (Object o Int 0 false)
named_last es x o = ap (λ k. or_built_in k (built_in x)) (declared_last es x o)

-- ---- functions

abbrev pub reach_name : List ℕ
reach_name = codes "reach_error"

abbrev pub input_name : List ℕ
input_name = codes "__VERIFIER_nondet_int"

-- the prototype of the input function says nothing new
abbrev pub prototype : Kind
prototype = Function (Some Int) None false

pub named_reach : (es : List Entry) → declared_as es reach_name ≡ None → named es reach_name ≡ Some (kind_of_callee ReachError)
named_reach es h = ap (λ k. or_built_in k (built_in reach_name)) h

pub named_input : (es : List Entry) → declared_as es input_name ≡ Some prototype → named es input_name ≡ Some (kind_of_callee (Input Int))
named_input es h = ap (λ k. or_built_in k (built_in input_name)) h

-- ---- constants

-- a small constant is an int, also where it is octal
pub constant_is_int : (v : ℕ) (decimal : Bool) → v < 2 ^ 31 → constant_type Ilp32 v decimal false 0 ≡ Some Int
constant_is_int v true small = rw (lt-ltb v (2 ^ 31) small) refl
constant_is_int v false small = rw (lt-ltb v (2 ^ 31) small) refl
