-- The objects that are visible at a place (C11 6.2.1p4), innermost last.
use Rattle.std.specs.Prelude.{ℕ, suc, Bool, true, false, cond, ◌&&◌, List, [], ◌∷◌, ◌++◌, Option, Some, None}
use Rattle.std.specs.List.{list_any}
use Rattle.c_core.specs.Tree.{Stm, Stmt, Form, Empty, Do, Declare, Block, If, While, DoWhile, For, Break, Continue, Return, Label, Switch, Else, NoElse, OrElse, Stms, NoStm, MoreStm, MoreCase, Function, Program}
use Rattle.c_core.specs.Parts.{same_spot, declared_by, objects_of_first}
use Rattle.c_core.specs.TextOrder.{is_before}
use Rattle.c_core.specs.Places.{spots_of_kind}
use Rattle.c_core.specs.declared.number.Spot.{Spot}
use Rattle.c_core.specs.declared.place.PlaceKind.{PlaceKind}
use Rattle.c_core.specs.declared.place.PlaceKind.TheVariants.{Statement, Loop}
use Rattle.c_core.specs.declared.tree.Object.{Object}

-- a static object that is declared before this place
abbrev pub is_visible : Spot → Object → Bool
is_visible spot o = o.fixed && is_before o.spot spot

-- of objects numbered from n, those of static storage that are declared before a place
abbrev pub fixed_from : ℕ → Spot → List Object → List ℕ
fixed_from n spot [] = []
fixed_from n spot (o ∷ os) = cond (is_visible spot o) (n ∷ fixed_from (suc n) spot os) (fixed_from (suc n) spot os)

-- the static objects that are declared before this place, in their order
abbrev pub fixed_before : Program → Spot → List ℕ
fixed_before p spot = fixed_from 0 spot p.objects

-- a place and the objects that are visible there
pub record Sight : Type 0 where
  pub spot : Spot
  pub names : List ℕ

-- the names that are visible at a place
abbrev pub sight : Spot → List ℕ → Sight
sight spot names = record { spot = spot; names = names }

-- a loop's controlling expression sees what is declared in the parentheses of `for`; at `do` what is visible at the keyword
abbrev pub at_loop : List ℕ → Spot → Form → List Sight
at_loop names at (While e b) = sight at names ∷ []
at_loop names at (DoWhile b e) = sight at names ∷ []
at_loop names at (For i e s b) = sight at (names ++ objects_of_first i) ∷ []
at_loop names at _ = []

-- a statement's own place
abbrev pub at_start : PlaceKind → List ℕ → Spot → Form → List Sight
at_start Statement names at f = sight at names ∷ []
at_start Loop names at f = at_loop names at f
at_start _ names at f = []

-- the places of a kind in a statement, where these names are visible before it
abbrev mutual
  pub sights_in : PlaceKind → List ℕ → Stm → List Sight
  sights_in kind names (Stmt at f) = at_start kind names at f ++ sights_in_form kind names f

  pub sights_in_form : PlaceKind → List ℕ → Form → List Sight
  sights_in_form kind names Empty = []
  sights_in_form kind names (Do e) = []
  sights_in_form kind names (Declare ns) = []
  sights_in_form kind names (Block b) = sights_in_block kind names b
  sights_in_form kind names (If e a b) = sights_in kind names a ++ sights_in_else kind names b
  sights_in_form kind names (While e b) = sights_in kind names b
  sights_in_form kind names (DoWhile b e) = sights_in kind names b
  sights_in_form kind names (For i e s b) = sights_in kind (names ++ objects_of_first i) b
  sights_in_form kind names Break = []
  sights_in_form kind names Continue = []
  sights_in_form kind names (Return e) = []
  sights_in_form kind names (Label b) = sights_in kind names b
  sights_in_form kind names (Switch e b) = sights_in_block kind names b

  pub sights_in_else : PlaceKind → List ℕ → Else → List Sight
  sights_in_else kind names NoElse = []
  sights_in_else kind names (OrElse b) = sights_in kind names b

  -- what a declaration declares is visible after it
  pub sights_in_block : PlaceKind → List ℕ → Stms → List Sight
  sights_in_block kind names NoStm = []
  sights_in_block kind names (MoreStm s b) = sights_in kind names s ++ sights_in_block kind (names ++ declared_by s) b
  sights_in_block kind names (MoreCase spot l b) = sights_in_block kind names b

-- a function's body is no place, and sees the parameters
abbrev pub sights_in_body : PlaceKind → List ℕ → Stm → List Sight
sights_in_body kind names (Stmt at f) = sights_in_form kind names f

-- what is visible at the places of a kind in these bodies
abbrev pub sights_in_functions : PlaceKind → List ℕ → List Function → List Sight
sights_in_functions kind names [] = []
sights_in_functions kind names (f ∷ fs) = sights_in_body kind (names ++ f.params) f.body ++ sights_in_functions kind names fs

-- the names of the first entry for this place
abbrev pub seen_from : Spot → List Sight → Option (List ℕ)
seen_from spot [] = None
seen_from spot (s ∷ ss) = cond (same_spot s.spot spot) (Some s.names) (seen_from spot ss)

-- these names, unless there are others
abbrev pub names_or : List ℕ → Option (List ℕ) → List ℕ
names_or names None = names
names_or names (Some seen) = seen

-- objects of static storage that are declared before the place, parameters of the function around, declared names of the blocks
-- around and of `for (`, each in the order of declaration; a name that another one hides is listed before that one
abbrev pub names_at : Program → PlaceKind → Spot → List ℕ
names_at p kind spot = names_or (fixed_before p spot) (seen_from spot (sights_in_functions kind (fixed_before p spot) p.functions))

abbrev pub has_scope : PlaceKind → Bool
has_scope Statement = true
has_scope Loop = true
has_scope _ = false

-- a statement or a loop is there
abbrev pub is_scoped : Program → PlaceKind → Spot → Bool
is_scoped p kind spot = has_scope kind && list_any (same_spot spot) (spots_of_kind kind p)
