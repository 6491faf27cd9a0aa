-- How much a program with its invariants weighs, how many bits its havoc runs draw, how long its chains of calls are.
use Rattle.std.specs.Prelude.{ℕ, zero, suc, ◌+◌, ◌<◌, ◌⊎◌, Bool, cond, max, List, [], ◌∷◌, length}
use Rattle.c_core.specs.Tree.{Exp, Program}
use Rattle.c_core.specs.declared.number.Spot.{Spot}
use Rattle.c_meaning.specs.Duties.{Placed}
use Rattle.c_meaning.specs.Havoc.{stands}
use Rattle.sym_weight.specs.Table.{statement_weight, tested}
use Rattle.sym_weight.specs.Sum.{Sum, expression, function}

-- no invariant anywhere
abbrev pub nowhere : Bool → Spot → ℕ
nowhere at_loop spot = 0

-- weights add up
abbrev pub weighing : (ℕ → ℕ) → Sum
weighing body = record { Amount = ℕ; none = 0; both = λ a b. a + b; part = λ weight bits. weight; body = body }

-- drawn bits add up
abbrev pub drawing : (ℕ → ℕ) → Sum
drawing body = record { Amount = ℕ; none = 0; both = λ a b. a + b; part = λ weight bits. bits; body = body }

-- of chains of calls the longest counts
abbrev pub chaining : (ℕ → ℕ) → Sum
chaining body = record { Amount = ℕ; none = 0; both = λ a b. max a b; part = λ weight bits. 0; body = λ f. suc (body f) }

-- one evaluation of an invariant; it calls nothing
abbrev pub evaluation : Program → Exp → ℕ
evaluation p e = statement_weight + (expression p (weighing (λ f. 0)) e + tested p.model e)

-- the invariants of a loop (true) or a statement (false) at a place
abbrev pub placed_weight : Program → List Placed → Bool → Spot → ℕ
placed_weight p [] at_loop spot = 0
placed_weight p (x ∷ xs) at_loop spot = cond (stands p [] at_loop spot x) (evaluation p x.test + placed_weight p xs at_loop spot) (placed_weight p xs at_loop spot)

-- a function's body, with calls unfolded at most n deep
abbrev pub weight_in : Program → List Placed → ℕ → ℕ → ℕ
weight_in p I zero f = 0
weight_in p I (suc n) f = function p (weighing (weight_in p I n)) (placed_weight p I) f

-- the bits that a function's body draws, with calls unfolded at most n deep
abbrev pub bits_in : Program → ℕ → ℕ → ℕ
bits_in p zero f = 0
bits_in p (suc n) f = function p (drawing (bits_in p n)) nowhere f

-- calls of defined functions in a chain from a function, at most n
abbrev pub chain_in : Program → ℕ → ℕ → ℕ
chain_in p zero f = 0
chain_in p (suc n) f = function p (chaining (chain_in p n)) nowhere f

-- where main reaches no cycle of calls, no chain has more functions than the program
abbrev pub most_active : Program → ℕ
most_active p = suc (length p.functions)

-- the sum over main's body, each call of a defined function replaced by the callee's body
abbrev pub Weight : Program → List Placed → ℕ
Weight p I = weight_in p I (most_active p) p.main

-- the same sum of the bits that are drawn: of input calls, of automatic objects without initializer, of objects that loops change
abbrev pub Bits : Program → ℕ
Bits p = bits_in p (most_active p) p.main

-- the greatest number of calls of defined functions in a chain from main
abbrev pub Chain : Program → ℕ
Chain p = chain_in p (most_active p) p.main

-- programs with longer chains of calls are refused
abbrev pub most_calls : ℕ
most_calls = 32

-- programs above this weight are refused
abbrev pub most_weight : ℕ
most_weight = 2000000

-- too big to be made a circuit
abbrev pub IsTooBig : Program → List Placed → Type 0
IsTooBig p I = (most_calls < Chain p) ⊎ (most_weight < Weight p I)
