-- Steps taken together, and cells appended one by one.
use Rattle.std.proofs.Common.{◌≡◌, ℕ, zero, suc, ◌+◌, ◌-◌, ◌<◌, ◌≤◌, ℤ, pos, List, [], ◌∷◌, ◌++◌, length, drop, slice_get, unwrap_or, refl, ap, sym, ◌∙◌, arith}
use Rattle.std.proofs.lemmas.List.{append_assoc, length-append}
use Rattle.std.proofs.Math.Seq.{drop-nil}
use Rattle.c_core.specs.Tree.{Program}
use Rattle.c_meaning.specs.declared.run.End.TheVariants.{Spent}
use Rattle.c_meaning.specs.declared.run.Event.{Event}
use Rattle.c_meaning.specs.Cells.{Cell, cells_from}
use Rattle.c_meaning.specs.Meaning.{Tick}
use Rattle.c_meaning.specs.Acts.{Go, Stop}
use Rattle.c_meaning.specs.Exec.{ticks}
use Rattle.c_meaning.specs.Run.{State}
use Rattle.run_state.specs.Interpreting.{watched}

module _ (p : Program) (S : Type 0) (after : Event → List Cell → S → S) (t : Tick) where
  abbrev left_with : State S → ℕ → State S
  left_with s k = record s { steps = k }

  pub enough : (n : ℕ) (s : State S) (k : ℕ) → s.steps ≡ k → n ≤ k → (ticks p (watched p S after) t n s).result ≡ Go tt (left_with s (k - n))
  enough zero s k e h = let z : k - 0 ≡ k = omega arith in rw (z, ← e) refl
  enough (suc n) s zero e h = absurd (omega arith)
  enough (suc n) s (suc k) e h =
      let j : n ≤ k = omega arith in
      let d : suc k - suc n ≡ k - n = omega arith in
      rw (e, d) (enough n (left_with s k) k refl j)

  pub too_few : (n : ℕ) (s : State S) (k : ℕ) → s.steps ≡ k → k < n → (ticks p (watched p S after) t n s).result ≡ Stop Spent (left_with s 0)
  too_few zero s k e h = absurd (omega arith)
  too_few (suc n) s zero e h = rw e refl
  too_few (suc n) s (suc k) e h =
      let j : k < n = omega arith in
      rw e (too_few n (left_with s k) k refl j)

-- one cell more at the end, with its value or 0
pub cells_more : (o i n : ℕ) (vs : List ℤ) → cells_from o i (suc n) vs ≡ cells_from o i n vs ++ cells_from o (i + n) 1 (drop n vs)
cells_more o i zero [] = let e : i + 0 ≡ i = omega arith in rw e refl
cells_more o i zero (v ∷ vs) = let e : i + 0 ≡ i = omega arith in rw e refl
cells_more o i (suc n) [] =
    let e : suc i + n ≡ i + suc n = omega arith in
    ap (λ cs. cells_from o i 1 [] ++ cs) (cells_more o (suc i) n [] ∙ rw (e, drop-nil n) refl)
cells_more o i (suc n) (v ∷ vs) =
    let e : suc i + n ≡ i + suc n = omega arith in
    ap (λ cs. cells_from o i 1 (v ∷ []) ++ cs) (cells_more o (suc i) n vs ∙ rw e refl)

-- a list of cells, and one more
pub appended : (cs ds es : List Cell) (o n : ℕ) (vs : List ℤ) → ds ≡ cs ++ cells_from o 0 n vs → es ≡ ds ++ cells_from o n 1 (drop n vs) → es ≡ cs ++ cells_from o 0 (n + 1) vs
appended cs ds es o n vs d e =
    let s : suc n ≡ n + 1 = omega arith in
    let z : 0 + n ≡ n = omega arith in
    e ∙ ap (λ xs. xs ++ cells_from o n 1 (drop n vs)) d ∙ append_assoc cs (cells_from o 0 n vs) (cells_from o n 1 (drop n vs))
    ∙ ap (λ xs. cs ++ xs) (ap (λ k. cells_from o 0 n vs ++ cells_from o k 1 (drop n vs)) (sym z) ∙ sym (cells_more o 0 n vs) ∙ ap (λ k. cells_from o 0 k vs) s)

-- the next cell, with its value or 0
pub next_cell : (o n : ℕ) (vs : List ℤ) (v : ℤ) → v ≡ unwrap_or (slice_get vs n) (pos 0) → cells_from o n 1 (drop n vs) ≡ record { key = record { object = o; index = n }; value = v } ∷ []
next_cell o n vs v h = first_cell o n (drop n vs) ∙ ap (λ x. record { key = record { object = o; index = n }; value = x } ∷ []) (ap (λ x. unwrap_or x (pos 0)) (dropped n vs) ∙ sym h)
  where
    first_cell : (o n : ℕ) (vs : List ℤ) → cells_from o n 1 vs ≡ record { key = record { object = o; index = n }; value = unwrap_or (slice_get vs 0) (pos 0) } ∷ []
    first_cell o n [] = refl
    first_cell o n (v ∷ vs) = refl

    dropped : (n : ℕ) (vs : List ℤ) → slice_get (drop n vs) 0 ≡ slice_get vs n
    dropped zero vs = refl
    dropped (suc n) [] = refl
    dropped (suc n) (w ∷ vs) = dropped n vs

-- there are so many
length_from : (o i n : ℕ) (vs : List ℤ) → length (cells_from o i n vs) ≡ n
length_from o i zero vs = refl
length_from o i (suc n) [] = ap suc (length_from o (suc i) n [])
length_from o i (suc n) (v ∷ vs) = ap suc (length_from o (suc i) n vs)

-- behind n cells of an object there are as many more
pub length_more : (cs ds : List Cell) (o n : ℕ) (vs : List ℤ) → ds ≡ cs ++ cells_from o 0 n vs → length ds ≡ length cs + n
length_more cs ds o n vs e = ap length e ∙ length-append cs (cells_from o 0 n vs) ∙ ap (λ k. length cs + k) (length_from o 0 n vs)
