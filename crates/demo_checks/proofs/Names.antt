-- What the words of a demo's programs stand for, and that no name is declared twice.
use Rattle.std.proofs.Common.{◌≡◌, ◌<◌, ◌^◌, ◌∙◌, ℕ, ◌+◌, true, false, ◌&&◌, ◌||◌, cond, List, [], ◌∷◌, ◌++◌, drop, Option, Some, None, codes, refl, ap, arith, append-nil}
use Rattle.std.specs.List.{AllByRecursion, list_any}
use Rattle.std.specs.Str.{bytes_eq}
use Rattle.std.proofs.lemmas.Bool.{false_from_ne_true}
use Rattle.std.proofs.lemmas.Fmt.{decimal_injective}
use Rattle.std.proofs.lemmas.Slice.Eq.{bytes_eq-Decides}
use Rattle.c_core.specs.declared.number.IntType.TheVariants.{Int}
use Rattle.c_core.specs.declared.tree.Callee.{Callee}
use Rattle.c_core.specs.declared.tree.Callee.TheVariants.{Input, ReachError}
use Rattle.check_rules.specs.Codes.{clashes}
use Rattle.check_rules.specs.Names.{Kind, Object, Function, Entry, entry, built_in, declared_as, kind_of_callee, later, named, or_built_in}
use Rattle.check_rules.specs.Scopes.{entry_of_function, entry_of_prototype}
use Rattle.demo_laws.specs.DemoLines.{name}

-- what is declared outside of `main`, and `main` itself
abbrev pub outside : List Entry
outside = entry_of_prototype (codes "__VERIFIER_nondet_int") (Some Int) None ∷ entry_of_function (codes "main") (Some Int) [] ∷ []

-- a variable, with the number of its object
abbrev pub variable : List ℕ → ℕ → Entry
variable x n = entry x (Object n Int 0 false)

-- ---- texts

pub bytes_same : (x : List ℕ) → bytes_eq x x ≡ true
bytes_same x = (bytes_eq-Decides x x).1 refl

bytes_differ : (x y : List ℕ) → (x ≡ y → ⊥) → bytes_eq x y ≡ false
bytes_differ x y other = false_from_ne_true (bytes_eq x y) (λ e. other ((bytes_eq-Decides x y).0 e))

names_differ : (j k : ℕ) → j < k → k < 2 ^ 64 → bytes_eq (name j) (name k) ≡ false
names_differ j k low small =
    bytes_differ (name j) (name k) (λ e. let same = decimal_injective j k (omega arith) small (ap (drop 1) e) in absurd (omega (arith, same, low)))

-- ---- what a word stands for

later_object : (o : Option Kind) (n : ℕ) → later o (Some (Object n Int 0 false)) ≡ Some (Object n Int 0 false)
later_object None n = refl
later_object (Some k) n = refl

or_object : (n : ℕ) (o : Option Callee) → or_built_in (Some (Object n Int 0 false)) o ≡ Some (Object n Int 0 false)
or_object n None = refl
or_object n (Some c) = refl

-- the last declaration counts
declared_last : (es : List Entry) (x : List ℕ) (n : ℕ) → declared_as (es ++ variable x n ∷ []) x ≡ Some (Object n Int 0 false)
declared_last [] x n = ap (λ b. later (cond b (Some (Object n Int 0 false)) None) None) (bytes_same x)
declared_last (e ∷ es) x n =
    ap (λ o. later (cond (bytes_eq e.name x) (Some e.kind) None) o) (declared_last es x n) ∙ later_object (cond (bytes_eq e.name x) (Some e.kind) None) n

pub named_last : (es : List Entry) (x : List ℕ) (n : ℕ) → named (es ++ variable x n ∷ []) x ≡ Some (Object n Int 0 false)
named_last es x n = ap (λ o. or_built_in o (built_in x)) (declared_last es x n) ∙ or_object n (built_in x)

-- none of these declares the word
abbrev pub AreOthers : List ℕ → List Entry → Type 0
AreOthers x es = AllByRecursion (λ (e : Entry). bytes_eq e.name x ≡ false) es

declared_none : (es : List Entry) (x : List ℕ) → AreOthers x es → declared_as es x ≡ None
declared_none [] x h = refl
declared_none (e ∷ es) x h =
    ap (λ o. later (cond (bytes_eq e.name x) (Some e.kind) None) o) (declared_none es x h.1) ∙ ap (λ b. later (cond b (Some e.kind) None) None) h.0

pub reach_named : (xs : List Entry) → AreOthers (codes "reach_error") xs → named (outside ++ xs) (codes "reach_error") ≡ Some (kind_of_callee ReachError)
reach_named xs h = ap (λ o. or_built_in o (built_in (codes "reach_error"))) (declared_none (outside ++ xs) (codes "reach_error") (refl, (refl, h)))

pub input_named : (xs : List Entry) → AreOthers (codes "__VERIFIER_nondet_int") xs → named (outside ++ xs) (codes "__VERIFIER_nondet_int") ≡ Some (kind_of_callee (Input Int))
input_named xs h =
    ap (λ o. or_built_in (later (Some (Function (Some Int) None false)) (later None o)) (Some (Input Int))) (declared_none xs (codes "__VERIFIER_nondet_int") h)

-- two blocks deeper a word stands for the same
pub named_inside : (es : List Entry) (x : List ℕ) (k : Option Kind) → named es x ≡ k → named ((es ++ []) ++ []) x ≡ k
named_inside es x k e = ap (λ l. named l x) (append-nil (es ++ []) ∙ append-nil es) ∙ e

-- ---- declarations

-- it is a variable before the k-th
pub record IsEarlier (k : ℕ) (e : Entry) : Type 0 where
  pub number : ℕ
  pub low : number < k
  pub is : e.name ≡ name number

-- the k-th variable is new behind those before it
pub is_new : (k : ℕ) (es : List Entry) → k < 2 ^ 64 → AllByRecursion (IsEarlier k) es → AreOthers (name k) es
is_new k [] small h = tt
is_new k (e ∷ es) small h = (ap (λ x. bytes_eq x (name k)) (h.0).is ∙ names_differ (h.0).number k (h.0).low small, is_new k es small h.1)

-- so is a word that is the name of no variable
pub are_others : (k : ℕ) (x : List ℕ) (es : List Entry) → ((j : ℕ) → bytes_eq (name j) x ≡ false) → AllByRecursion (IsEarlier k) es → AreOthers x es
are_others k x [] apart h = tt
are_others k x (e ∷ es) apart h = (ap (λ y. bytes_eq y x) (h.0).is ∙ apart (h.0).number, are_others k x es apart h.1)

pub one_more_other : (x y : List ℕ) (n : ℕ) (es : List Entry) → bytes_eq y x ≡ false → AreOthers x es → AreOthers x (es ++ variable y n ∷ [])
one_more_other x y n [] apart h = (apart, tt)
one_more_other x y n (e ∷ es) apart h = (h.0, one_more_other x y n es apart h.1)

-- with the k-th, those before the next
pub one_more_earlier : (k n : ℕ) (es : List Entry) → AllByRecursion (IsEarlier k) es → AllByRecursion (IsEarlier (k + 1)) (es ++ variable (name k) n ∷ [])
one_more_earlier k n [] h = (record { number = k; low = omega arith; is = refl }, tt)
one_more_earlier k n (e ∷ es) h = (record { number = (h.0).number; low = omega (arith, (h.0).low); is = (h.0).is }, one_more_earlier k n es h.1)

-- a new name clashes with none
pub no_clash : (es : List Entry) (x : List ℕ) (k : Kind) → AreOthers x es → list_any (λ (earlier : Entry). bytes_eq earlier.name x && clashes earlier.kind k) es ≡ false
no_clash [] x k h = refl
no_clash (e ∷ es) x k h =
    ap (λ b. (b && clashes e.kind k) || list_any (λ (earlier : Entry). bytes_eq earlier.name x && clashes earlier.kind k) es) h.0 ∙ no_clash es x k h.1
