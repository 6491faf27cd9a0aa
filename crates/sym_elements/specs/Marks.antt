-- Marks of a number: a bit for each number, of which that one is true.
use Rattle.std.specs.Prelude.{◌≡◌, ℕ, zero, suc, ◌+◌, ◌*◌, ◌/◌, ◌%◌, ◌<◌, Bool, true, false, cond, not, ◌&&◌, List, [], ◌∷◌, ◌++◌, length, get_or, map}
use Rattle.circuits.specs.declared.net.Bit.{Bit}
use Rattle.circuits.specs.declared.net.NetNode.{NetNode}
use Rattle.circuits.specs.Net.{holds, Grown, Means}
use Rattle.circuits.specs.Numbers.{number, AreIn}
use Rattle.sym_state.specs.Standing.{marks}

-- this many bits of the net, of which under inputs that of number k from 1 on is true, or none where k is 0 or beyond the last
pub record AreMarks (net : List NetNode) (bits : List Bit) (n : ℕ) (k : (ℕ → Bool) → ℕ) : Type 0 where
  pub inside : AreIn net bits
  pub wide : length bits ≡ n
  pub is : (v : ℕ → Bool) → map (holds v net) bits ≡ marks (k v) n

-- each of these once where a digit is 0, and once where it is 1
abbrev pub pairs : Bool → List Bool → List Bool
pairs d [] = []
pairs d (b ∷ bs) = (b && not d) ∷ (b && d) ∷ pairs d bs

-- two bits of the net for each mark
pub record AreDoubled (old new : List NetNode) (marks : List Bit) (digit : Bit) (bits : List Bit) : Type 0 where
  pub grown : Grown (2 * length marks) old new
  pub inside : AreIn new bits
  pub wide : length bits ≡ 2 * length marks
  pub is : (v : ℕ → Bool) → map (holds v new) bits ≡ pairs (holds v old digit) (map (holds v old) marks)

-- marks of the digits' number, where a bit is true
pub record IsDecoded (old new : List NetNode) (here : Bit) (digits : List Bit) (n : ℕ) (bits : List Bit) : Type 0 where
  pub grown : Grown (2 * (n + length digits)) old new
  pub marks_of : AreMarks new bits n (λ v. cond (holds v old here) (suc (number v old digits)) 0)

-- of the first k cells, in rows of this width: is the row's true, and the column's?
abbrev pub crossing : List Bool → List Bool → ℕ → ℕ → List Bool
crossing rows columns width zero = []
crossing rows columns width (suc k) = crossing rows columns width k ++ (get_or rows (k / width) false && get_or columns (k % width) false) ∷ []

-- a bit for each of the first k cells
pub record AreCrossed (old new : List NetNode) (rows columns : List Bit) (k : ℕ) (bits : List Bit) : Type 0 where
  pub grown : Grown k old new
  pub inside : AreIn new bits
  pub wide : length bits ≡ k
  pub is : (v : ℕ → Bool) → map (holds v new) bits ≡ crossing (map (holds v old) rows) (map (holds v old) columns) (length columns) k

-- none of these is true
abbrev pub none_true : List Bool → Bool
none_true [] = true
none_true (b ∷ bs) = not b && none_true bs

-- a bit that says so of bits
pub record IsNone (old new : List NetNode) (bits : List Bit) (none : Bit) : Type 0 where
  pub grown : Grown (length bits) old new
  pub means : Means new none (λ v. none_true (map (holds v old) bits))

-- of n truth values exactly one is true
abbrev pub HasOne : ℕ → List Bool → Type 0
HasOne n bs = (i : ℕ) × (i < n) × (bs ≡ marks (suc i) n)

-- where the first that is true stands, from 0 on
abbrev pub first_true : List Bool → ℕ
first_true [] = 0
first_true (true ∷ bs) = 0
first_true (false ∷ bs) = suc (first_true bs)
