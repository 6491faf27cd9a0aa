-- How a clause keeps its numbers.
use Rattle.std.specs.Prelude.{List, ℤ}
use Rattle.clauses.specs.declared.clause.Numbers.{Numbers}
use Rattle.clauses.specs.declared.clause.Numbers.TheVariants.{One, Two, Three, Many}

-- the numbers, few or many
abbrev pub numbers_in : Numbers → List ℤ
numbers_in (One numbers) = numbers
numbers_in (Two numbers) = numbers
numbers_in (Three numbers) = numbers
numbers_in (Many numbers) = numbers
