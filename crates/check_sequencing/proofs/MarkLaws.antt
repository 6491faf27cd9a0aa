-- Marks that only grow, until nothing more is to be marked.
use Rattle.std.proofs.Common.{◌≡◌, ◌⊎◌, inl, inr, ℕ, zero, suc, ◌+◌, ◌<◌, Bool, true, false, ◌||◌, List, [], ◌∷◌, length, take, drop, ◌++◌, refl, sym, ap, subst, ◌∙◌, arith}
pub use Rattle.std.proofs.lemmas.Bool.{or_left, or_right}
use Rattle.std.specs.Prelude.{slice_set, get_or, nat_eq, replicate}
use Rattle.std.specs.List.{list_any}
use Rattle.std.proofs.lemmas.Bool.{false≢true, cases_eq, cases_lt, eqb-true, eq-eqb}
use Rattle.std.proofs.lemmas.Option.{get_or_from_slice_get}
use Rattle.std.proofs.lemmas.List.{get_or-set_other, get_or_past, get_or-replicate, length-replicate, drop_all, take_all, append-nil}
use Rattle.check_sequencing.specs.declared.effect.Effect.{Effect}
use Rattle.check_sequencing.specs.declared.effect.Effect.TheVariants as does
use Rattle.check_sequencing.specs.Effects.{AreSound, AreClosed, Does, Itself, ByCall, IsBody, calls, calls_marked, does_by, is_marked, unmarked}

pub unmarked_set : (marks : List Bool) (k : ℕ) → k < length marks → get_or marks k false ≡ false → suc (unmarked (slice_set marks k true)) ≡ unmarked marks
unmarked_set [] k l h = absurd (omega (arith, l))
unmarked_set (true ∷ marks) zero l h = absurd (false≢true (sym h))
unmarked_set (false ∷ marks) zero l h = refl
unmarked_set (true ∷ marks) (suc k) l h = unmarked_set marks k (omega (arith, l)) h
unmarked_set (false ∷ marks) (suc k) l h = ap suc (unmarked_set marks k (omega (arith, l)) h)

pub either : (a b : Bool) → (a || b) ≡ true → (a ≡ true) ⊎ (b ≡ true)
either true b h = inl refl
either false b h = inr h

-- a marked function that these effects call
abbrev pub MarkedCall : List Bool → List Effect → Type 0
MarkedCall marks es = (j : ℕ) × (list_any (calls j) es ≡ true) × (is_marked marks j ≡ true)

marked_call : (marks : List Bool) (e : Effect) (es : List Effect) → calls_marked marks e ≡ true → MarkedCall marks (e ∷ es)
marked_call marks (does.Reads n) es h = absurd (false≢true h)
marked_call marks (does.Changes n) es h = absurd (false≢true h)
marked_call marks (does.Calls j) es h = (j, or_left (nat_eq j j) (list_any (calls j) es) (eq-eqb j j refl), h)

-- what is done by the marks is done at once, or by a marked function
pub done_by : (marks : List Bool) (test : Effect → Bool) (es : List Effect) → does_by marks test es ≡ true → (list_any test es ≡ true) ⊎ MarkedCall marks es
done_by marks test [] h = absurd (false≢true h)
done_by marks test (e ∷ es) h = elim (either (test e || calls_marked marks e) (does_by marks test es) h) as (λ _. (list_any test (e ∷ es) ≡ true) ⊎ MarkedCall marks (e ∷ es)) [
  | inl here ↦ elim (either (test e) (calls_marked marks e) here) as (λ _. (list_any test (e ∷ es) ≡ true) ⊎ MarkedCall marks (e ∷ es)) [
    | inl t ↦ inl (or_left (test e) (list_any test es) t)
    | inr m ↦ inr (marked_call marks e es m)
  ]
  | inr there ↦ elim (done_by marks test es there) as (λ _. (list_any test (e ∷ es) ≡ true) ⊎ MarkedCall marks (e ∷ es)) [
    | inl t ↦ inl (or_right (test e) (list_any test es) t)
    | inr m ↦ inr (m.0, or_right (calls m.0 e) (list_any (calls m.0) es) m.1, m.2)
  ]
]

by_itself : (marks : List Bool) (test : Effect → Bool) (es : List Effect) → list_any test es ≡ true → does_by marks test es ≡ true
by_itself marks test [] h = absurd (false≢true h)
by_itself marks test (e ∷ es) h = elim (either (test e) (list_any test es) h) as (λ _. does_by marks test (e ∷ es) ≡ true) [
  | inl t ↦ or_left (test e || calls_marked marks e) (does_by marks test es) (or_left (test e) (calls_marked marks e) t)
  | inr t ↦ or_right (test e || calls_marked marks e) (does_by marks test es) (by_itself marks test es t)
]

call_of_marked : (marks : List Bool) (e : Effect) (j : ℕ) → calls j e ≡ true → is_marked marks j ≡ true → calls_marked marks e ≡ true
call_of_marked marks (does.Reads n) j c m = absurd (false≢true c)
call_of_marked marks (does.Changes n) j c m = absurd (false≢true c)
call_of_marked marks (does.Calls k) j c m = ap (is_marked marks) (eqb-true k j c) ∙ m

by_call : (marks : List Bool) (test : Effect → Bool) (es : List Effect) (j : ℕ) → list_any (calls j) es ≡ true → is_marked marks j ≡ true → does_by marks test es ≡ true
by_call marks test [] j c m = absurd (false≢true c)
by_call marks test (e ∷ es) j c m = elim (either (calls j e) (list_any (calls j) es) c) as (λ _. does_by marks test (e ∷ es) ≡ true) [
  | inl t ↦ or_left (test e || calls_marked marks e) (does_by marks test es) (or_right (test e) (calls_marked marks e) (call_of_marked marks e j t m))
  | inr t ↦ or_right (test e || calls_marked marks e) (does_by marks test es) (by_call marks test es j t m)
]

module _ (bodies : List (List Effect)) (test : Effect → Bool) where
  does_so : (marks : List Bool) (k : ℕ) (es : List Effect) → IsBody bodies k es → AreSound bodies test marks → does_by marks test es ≡ true → Does bodies test k
  does_so marks k es b s d = elim (done_by marks test es d) as (λ _. Does bodies test k) [
    | inl t ↦ Itself b t
    | inr m ↦ ByCall b m.1 (s m.0 m.2)
  ]

  -- one more mark where a body does so by the marks so far
  pub sound_set : (marks : List Bool) (k : ℕ) (es : List Effect) → IsBody bodies k es → does_by marks test es ≡ true → AreSound bodies test marks → AreSound bodies test (slice_set marks k true)
  sound_set marks k es b d s j h = elim (cases_eq j k) as (λ _. Does bodies test j) [
    | inl e ↦ subst (Does bodies test) (sym e) (does_so marks k es b s d)
    | inr ne ↦ s j (sym (get_or-set_other marks k j true false ne) ∙ h)
  ]

  -- marks to which nothing is to be added are all there are
  pub complete : (marks : List Bool) → AreClosed bodies test marks → (k : ℕ) → Does bodies test k → is_marked marks k ≡ true
  complete marks c k (Itself {es = es} b t) = c k (ap (does_by marks test) (get_or_from_slice_get bodies k es [] b) ∙ by_itself marks test es t)
  complete marks c k (ByCall {j = j} {es = es} b t d) =
      c k (ap (does_by marks test) (get_or_from_slice_get bodies k es [] b) ∙ by_call marks test es j t (complete marks c j d))

pub none_marked : (bodies : List (List Effect)) (test : Effect → Bool) (n : ℕ) → AreSound bodies test (replicate n false)
none_marked bodies test n k h = elim (cases_lt k n) as (λ _. Does bodies test k) [
  | inl l ↦ absurd (false≢true (sym (get_or-replicate n k false false l) ∙ h))
  | inr g ↦ absurd (false≢true (sym (get_or_past (replicate n false) k false (rw (length-replicate n false) g)) ∙ h))
]

-- a vector whose slice was written to
pub written_back : (n : ℕ) (new old : List Bool) → length new ≡ length old → length old ≡ n → take n (new ++ drop (length new) old) ≡ new
written_back n new old e f =
    ap (λ rest. take n (new ++ rest)) (drop_all (length new) old (omega (arith, e))) ∙ ap (take n) (append-nil new) ∙ take_all n new (omega (arith, e, f))
