-- Full expressions of a source that its typed program does not hold: sizes of arrays, case constants, and initializers of static storage (C11 6.8p4).
use Rattle.std.specs.Prelude.{ℕ, ◌-◌, true, List, [], ◌∷◌, ◌++◌, length, map, Option, Some, None}
use Rattle.std.specs.List.{flat_map}
use Rattle.c_core.specs.Tree as t
use Rattle.c_core.specs.declared.number.DataModel.{DataModel}
use Rattle.c_parser.specs.Tree as raw
use Rattle.check_rules.specs.Names.{Entry}
use Rattle.check_rules.specs.Typed.{typed}
use Rattle.check_rules.specs.Scopes.{Scope, seen, after_item, outermost}
use Rattle.check_rules.specs.Parts.{Part, Declaring, Initializing, CaseConstant, parts_of_names, bodies_of}
use Rattle.check_rules.specs.Order.{parts_of_bodies}

-- an initializer has its object
pub record Kept : Type 0 where
  pub object : Option ℕ
  pub value : t.Exp

abbrev pub kept : Option ℕ → t.Exp → Kept
kept object value = record { object = object; value = value }

module _ (m : DataModel) (bodies : List (List ℕ)) where
  abbrev pub kept_sizes : List Entry → List raw.Exp → List Kept
  kept_sizes es sizes = map (λ e. kept None (typed m bodies es e)) sizes

  abbrev pub kept_of_part : Part → List Kept
  kept_of_part (Declaring fixed s d) = kept_sizes (seen s) d.sizes
  kept_of_part (CaseConstant es e) = kept None (typed m bodies es e) ∷ []
  -- the last object of the scope
  kept_of_part (Initializing true s e) = kept (Some (length s.objects - 1)) (typed m bodies (seen s) e) ∷ []
  kept_of_part _ = []

  abbrev pub kept_of_parts : List Part → List Kept
  kept_of_parts ps = flat_map kept_of_part ps

  -- outside of functions
  abbrev pub kept_outside : Scope → List raw.Item → List Kept
  kept_outside s [] = []
  kept_outside s (raw.Global ds ∷ items) = kept_of_parts (parts_of_names m bodies true s ds) ++ kept_outside (after_item m bodies s (raw.Global ds)) items
  kept_outside s (item ∷ items) = kept_outside (after_item m bodies s item) items

-- in the body of each function
abbrev pub kept_in_bodies : DataModel → List raw.Item → List (List Kept)
kept_in_bodies m items = map (kept_of_parts m (bodies_of items)) (parts_of_bodies m (bodies_of items) outermost items)
