-- The indexes of an element: evaluated one by one, and then what they call for.
use Rattle.std.proofs.Common.{◌≡◌, ℕ, ◌*◌, ◌+◌, ◌/◌, ◌<◌, ℤ, pos, negsuc, List, [], ◌∷◌, Option, Some, None, refl, arith, subst}
use Rattle.std.proofs.lemmas.Bool.Decides.{nat_tests}
use Rattle.c_meaning.specs.Acts.{Res, Go, Stop, bind}
use Rattle.c_meaning.specs.Run.{index_below, in_row, cell_among}
use Rattle.c_meaning.proofs.Rows.{within_row}

module _ {E T A B X : Type 0} where
  -- one index, and what its value calls for
  pub one_index : (r : Res E T A) (x : X) (k : List (A × X) → T → Res E T B) → bind (bind r (λ v t. Go ((v, x) ∷ []) t)) k ≡ bind r (λ v t. k ((v, x) ∷ []) t)
  one_index (Go v t) x k = refl
  one_index (Stop e t) x k = refl

  second : (r : Res E T A) (v : A) (x y : X) (k : List (A × X) → T → Res E T B)
      → bind (bind (bind r (λ w u. Go ((w, y) ∷ []) u)) (λ ws u. Go ((v, x) ∷ ws) u)) k ≡ bind r (λ w u. k ((v, x) ∷ ((w, y) ∷ [])) u)
  second (Go w u) v x y k = refl
  second (Stop e u) v x y k = refl

  -- two indexes, and what their values call for
  pub two_indexes : (r : Res E T A) (m : T → Res E T A) (x y : X) (k : List (A × X) → T → Res E T B)
      → bind (bind r (λ v t. bind (bind (m t) (λ w u. Go ((w, y) ∷ []) u)) (λ ws u. Go ((v, x) ∷ ws) u))) k
      ≡ bind r (λ v t. bind (m t) (λ w u. k ((v, x) ∷ ((w, y) ∷ [])) u))
  two_indexes (Go v t) m x y k = second (m t) v x y k
  two_indexes (Stop e t) m x y k = refl

-- an index that is there is below the number
pub below_is : (n : ℕ) (i : ℤ) (j : ℕ) → index_below n i ≡ Some j → j < n
below_is n (pos i) j e = grind (arith, nat_tests)
below_is n (negsuc i) j e = absurd (cc)

row_is : (n c : ℕ) (i j : Option ℕ) (k : ℕ) → ((a : ℕ) → i ≡ Some a → a < n / c) → ((b : ℕ) → j ≡ Some b → b < c) → in_row c i j ≡ Some k → k < n
row_is n c None j k f g e = absurd (cc)
row_is n c (Some a) None k f g e = absurd (cc)
row_is n c (Some a) (Some b) k f g e = subst (λ z. z < n) (same k e) (within_row a c b n (f a refl) (g b refl))
  where
    same : (z : ℕ) → Some (a * c + b) ≡ Some z → a * c + b ≡ z
    same z q = cc

-- a cell that indexes name is one of the object's
pub among_is : {A : Type 0} (n c : ℕ) (js : List (ℤ × A)) (k : ℕ) → cell_among n c js ≡ Some k → k < n
among_is n c [] k e = absurd (cc)
among_is n c (i ∷ []) k e = below_is n i.0 k e
among_is n c (i ∷ (j ∷ [])) k e = row_is n c (index_below (n / c) i.0) (index_below c j.0) k (λ a q. below_is (n / c) i.0 a q) (λ b q. below_is c j.0 b q) e
among_is n c (i ∷ (j ∷ (l ∷ js))) k e = absurd (cc)
