-- The names in scope: those of the scopes around, and those of the innermost scope.
use Rattle.std.specs.Prelude.{ℕ, List, [], ◌∷◌, ◌++◌, take, drop}
use Rattle.check_rules.specs.Names.{Entry}
use Rattle.check_rules.specs.Scopes.{Scope, scope}

pub record InScope : Type 0 where
  pub outer : List Entry
  pub inner : List Entry

abbrev pub in_scope : List Entry → List Entry → InScope
in_scope outer inner = record { outer = outer; inner = inner }

-- innermost last
abbrev pub all_of : InScope → List Entry
all_of s = s.outer ++ s.inner

-- as a scope of the rules, without objects
abbrev pub scope_of : InScope → Scope
scope_of s = scope s.outer s.inner []

-- with one name more
abbrev pub with_name : InScope → Entry → InScope
with_name s e = in_scope s.outer (s.inner ++ e ∷ [])

-- with a scope in the innermost one
abbrev pub opened : InScope → InScope
opened s = in_scope (all_of s) []

-- the innermost scope has ended, and of the names around this many stand outside the one that goes on
abbrev pub closed : ℕ → InScope → InScope
closed outside s = in_scope (take outside s.outer) (drop outside s.outer)
