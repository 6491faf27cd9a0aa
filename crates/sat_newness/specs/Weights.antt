-- Tables of weights, by which unit propagation is bounded from above: what it makes true weighs 2.
use Rattle.std.specs.Prelude.{◌≢◌, ℕ, ◌+◌, ◌*◌, ◌<◌, ◌≤◌, ◌⊎◌, List, slice_index, ℤ, pos, negsuc, neg_ℤ}
use Rattle.std.specs.List.{Contains}

-- where a table keeps a number: that of variable n at 2n, its opposite behind it
abbrev pub code : ℤ → ℕ
code (pos n) = 2 * n
code (negsuc n) = 2 * (n + 1) + 1

-- the weight of a number: 2 where it is true, 1 where it is open, 0 where it is false or has no place
abbrev pub weight : List ℕ → ℤ → ℕ
weight table x = slice_index table (code x)

-- the table makes a number true
pub record Makes (table : List ℕ) (x : ℤ) : Type 0 where
  pub enough : 2 ≤ weight table x

-- a number and its opposite weigh no more than 2 together
pub record IsTable (table : List ℕ) : Type 0 where
  pub both : (x : ℤ) → weight table x + weight table (neg_ℤ x) ≤ 2

-- a number of the clause is true
pub record IsMade (table : List ℕ) (c : List ℤ) : Type 0 where
  pub number : ℤ
  pub held : Contains c number
  pub enough : 2 ≤ weight table number

-- two numbers of the clause weigh 2 together, so they are open, or one is true
pub record HasTwo (table : List ℕ) (c : List ℤ) : Type 0 where
  pub one : ℤ
  pub other : ℤ
  pub apart : one ≢ other
  pub held : Contains c one
  pub held_other : Contains c other
  pub enough : 2 ≤ weight table one + weight table other

-- the clause has no false numbers alone, and isn't a unit whose last number isn't true
abbrev pub IsSettled : List ℕ → List ℤ → Type 0
IsSettled table c = IsMade table c ⊎ HasTwo table c

-- each clause is settled
pub record AreSettled (table : List ℕ) (clauses : List (List ℤ)) : Type 0 where
  pub each : (c : List ℤ) → Contains clauses c → IsSettled table c

-- all numbers of the clause but this one are false, and it isn't true
pub record IsLast (table : List ℕ) (c : List ℤ) (x : ℤ) : Type 0 where
  pub held : Contains c x
  pub not_true : weight table x < 2
  pub others : (y : ℤ) → Contains c y → y ≢ x → Makes table (neg_ℤ y)

-- the first k variables have a value
abbrev pub HasAllTo : List ℕ → ℕ → Type 0
HasAllTo table k = (v : ℕ) → 0 < v → v ≤ k → Makes table (pos v) ⊎ Makes table (neg_ℤ (pos v))

-- one of so many variables has none
pub record HasOpen (table : List ℕ) (variables : ℕ) : Type 0 where
  pub variable : ℕ
  pub real : 0 < variable
  pub within : variable ≤ variables
  pub not_true : weight table (pos variable) < 2
  pub not_false : weight table (neg_ℤ (pos variable)) < 2
