-- What functions do, and their full expressions, with what is kept of each.
use Rattle.std.specs.Prelude.{ℕ, List, [], ◌∷◌, ◌++◌, map, get_or, drop}
use Rattle.c_core.specs.Tree as t
use Rattle.c_core.specs.TreeView.{expr_view}
use Rattle.c_core.specs.declared.tree.Object.{Object}
use Rattle.check_rules.specs.Kept as rules
use Rattle.check_sequencing.specs.declared.effect.Effect.{Effect}
use Rattle.check_sequencing.specs.declared.kept.Kept.{Kept}
use Rattle.check_sequencing.specs.Bodies.{Full, full, fulls, effects_of_fulls}

-- a kept value as a pure tree
abbrev pub kept_view : Kept → rules.Kept
kept_view k = rules.kept k.object (expr_view k.value)

abbrev pub kept_views : List Kept → List rules.Kept
kept_views ks = map kept_view ks

abbrev pub kept_full : rules.Kept → Full
kept_full k = full k.object k.value

-- kept values are full expressions
abbrev pub kept_fulls : List rules.Kept → List Full
kept_fulls ks = map kept_full ks

module _ (objects : List Object) (count : ℕ) where
  -- a function with what is kept of it
  abbrev pub function_effects : t.Stm → List rules.Kept → List Effect
  function_effects body kept = effects_of_fulls objects count (fulls body) ++ effects_of_fulls objects count (kept_fulls kept)

  -- each function
  abbrev pub body_effects : List t.Function → List (List rules.Kept) → List (List Effect)
  body_effects [] kept = []
  body_effects (f ∷ fs) kept = function_effects f.body (get_or kept 0 []) ∷ body_effects fs (drop 1 kept)

-- the full expressions of a function, and those that are kept of it
abbrev pub function_fulls : t.Stm → List rules.Kept → List Full
function_fulls body kept = fulls body ++ kept_fulls kept

-- of each function
abbrev pub all_fulls : List t.Function → List (List rules.Kept) → List Full
all_fulls [] kept = []
all_fulls (f ∷ fs) kept = function_fulls f.body (get_or kept 0 []) ++ all_fulls fs (drop 1 kept)
