-- The words of a net: lists of its bits with polynomials that tell their numbers, and bits that tell where polynomials are 0
-- or in order.
use Rattle.std.specs.Prelude.{◌≡◌, ℕ, ◌+◌, ◌*◌, ◌/◌, ◌%◌, ◌^◌, ◌≤◌, Bool, nat_eq, nat_lt, cond, List, [], ◌∷◌, ◌++◌, length, map, get_or}
use Rattle.std.specs.List.{All}
use Rattle.polynomials.specs.Values.{AreBelow, Same, value}
use Rattle.polynomials.specs.declared.polynomial.Term.{Term}
use Rattle.circuits.specs.declared.net.Bit.{Bit}
use Rattle.circuits.specs.declared.net.NetNode.{NetNode}
use Rattle.circuits.specs.declared.words.Word.{Word}
use Rattle.circuits.specs.declared.zeros.Zero.{Zero}
use Rattle.circuits.specs.declared.orders.Order.{Order}
use Rattle.circuits.specs.declared.hints.Hints.{Hints}
use Rattle.circuits.specs.Net.{holds, IsIn, IsNet, count_inputs}
use Rattle.circuits.specs.Numbers.{digit, number, AreIn}

-- the lowest digit of a word, 0 where it has none
abbrev pub lowest : (ℕ → Bool) → List NetNode → List Bit → ℕ
lowest v net [] = 0
lowest v net (b ∷ bs) = digit (holds v net b)

-- what unknowns stand for under an input: 2i + 2 for the number of word i, 2i + 3 for its lowest digit alone, others for 0
unfoldable pub unknown : (ℕ → Bool) → List NetNode → List (List Bit) → ℕ → ℕ
unknown v net words x =
    let word : List Bit = get_or ([] ∷ words) (x / 2) [] in
    cond (nat_eq (x % 2) 1) (lowest v net word) (number v net word)

abbrev pub bits_of : List Word → List (List Bit)
bits_of words = map (λ w. w.bits.items) words

-- a polynomial over words
abbrev pub IsOver : List (List Bit) → List Term → Type 0
IsOver words terms = AreBelow (2 * length words + 2) terms

-- a polynomial over words gives a value modulo 2^width, under every input
pub record Tells (net : List NetNode) (words : List (List Bit)) (width : ℕ) (terms : List Term) (told : (ℕ → Bool) → ℕ) : Type 0 where
  pub over : IsOver words terms
  pub is : (v : ℕ → Bool) → Same width (value (unknown v net words) terms) (told v)

-- at most 64 bits of the net, and a polynomial that tells their number
pub record IsWord (net : List NetNode) (words : List (List Bit)) (w : Word) : Type 0 where
  pub inside : AreIn net w.bits.items
  pub wide : length w.bits.items ≤ 64
  pub tells : Tells net words (length w.bits.items) w.polynomial (λ v. number v net w.bits.items)

-- a bit is true exactly where a polynomial over words is 0 modulo 2^width
pub record IsZeroOf (net : List NetNode) (words : List (List Bit)) (width : ℕ) (terms : List Term) (b : Bit) : Type 0 where
  pub inside : IsIn net b
  pub over : IsOver words terms
  pub is : (v : ℕ → Bool) → nat_eq (value (unknown v net words) terms % 2 ^ width) 0 ≡ holds v net b

abbrev pub IsZero : List NetNode → List (List Bit) → Zero → Type 0
IsZero net words z = IsZeroOf net words z.width z.polynomial z.bit

-- a bit is true exactly where one polynomial over words is less than another, both modulo 2^width
pub record IsOrderOf (net : List NetNode) (words : List (List Bit)) (width : ℕ) (lesser greater : List Term) (b : Bit) : Type 0 where
  pub inside : IsIn net b
  pub lesser_over : IsOver words lesser
  pub greater_over : IsOver words greater
  pub is : (v : ℕ → Bool) → nat_lt (value (unknown v net words) lesser % 2 ^ width) (value (unknown v net words) greater % 2 ^ width) ≡ holds v net b

abbrev pub IsOrder : List NetNode → List (List Bit) → Order → Type 0
IsOrder net words o = IsOrderOf net words o.width o.lesser o.greater o.bit

abbrev pub AreWords : List NetNode → List Word → Type 0
AreWords net words = All (λ w. IsWord net (bits_of words) w) words

abbrev pub AreZeros : List NetNode → List (List Bit) → List Zero → Type 0
AreZeros net words zeros = All (λ z. IsZero net words z) zeros

abbrev pub AreOrders : List NetNode → List (List Bit) → List Order → Type 0
AreOrders net words orders = All (λ o. IsOrder net words o) orders

-- all that is kept beside the nodes of a net is true of them
pub record AreTrue (net : List NetNode) (hints : Hints) : Type 0 where
  pub words : AreWords net hints.words.list.items
  pub zeros : AreZeros net (bits_of hints.words.list.items) hints.zeros.list.items
  pub orders : AreOrders net (bits_of hints.words.list.items) hints.orders.list.items

-- two lists of as many bits of the net, at most 64
pub record AreOperands (net : List NetNode) (a b : List Bit) : Type 0 where
  pub left : AreIn net a
  pub right : AreIn net b
  pub same : length b ≡ length a
  pub wide : length a ≤ 64

-- a polynomial over words is 0 exactly where two numbers are equal
pub record Asks (net : List NetNode) (words : List (List Bit)) (a b : List Bit) (terms : List Term) : Type 0 where
  pub over : IsOver words terms
  pub is : (v : ℕ → Bool) → nat_eq (value (unknown v net words) terms % 2 ^ length a) 0 ≡ nat_eq (number v net a) (number v net b)

-- the words of before, and maybe more behind them
pub record Continues (old new : List Word) : Type 0 where
  pub more : List Word
  pub is : new ≡ old ++ more

-- a net, the number of its inputs, and true hints
pub record IsSound (net : List NetNode) (counted : ℕ) (kept : Hints) : Type 0 where
  pub fine : IsNet net
  pub is : counted ≡ count_inputs net
  pub hints : AreTrue net kept
