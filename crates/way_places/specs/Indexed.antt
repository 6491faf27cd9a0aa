-- Lists in the order of the text that give what walks over a program find.
use Rattle.std.specs.Prelude.{◌≡◌, ℕ, List, Option, is_some, IsTrue}
use Rattle.std.specs.List.{filter}
use Rattle.std.specs.Option.{option_copied, option_map}
use denote.Ref.{Bor}
use Rattle.c_core.specs.Tree.{Program}
use Rattle.c_core.specs.Places.{aim_fits, call_at, is_named, leftmost, place_at, stmt_before}
use Rattle.c_core.specs.View.{expr_view_if, stmt_view}
use Rattle.c_core.specs.declared.number.IntType.{IntType}
use Rattle.c_core.specs.declared.number.Spot.{Spot}
use Rattle.c_core.specs.declared.place.PlaceKind.{PlaceKind}
use Rattle.c_core.specs.declared.place.PlaceKind.TheVariants as place
use Rattle.c_core.specs.declared.tree.Expr.{Expr}
use Rattle.c_core.specs.declared.tree.Stmt.{Stmt}
use Rattle.way_places.specs.Maps.{first_in}
use Rattle.way_places.specs.Ordered.{follow, follow_by_spot}
use Rattle.way_places.specs.Switches.{switch_at}

-- the places of a kind
pub record GivesPlaces (p : Program) (kind : PlaceKind) (spots : List Spot) : Type 0 where
  pub ordered : IsTrue (follow spots)
  pub exact : (line : ℕ) (column : Option ℕ) → leftmost (filter (is_named line column) spots) ≡ place_at p kind line column

-- where targets may stand
pub record GivesAims (p : Program) (spots : List Spot) : Type 0 where
  pub ordered : IsTrue (follow spots)
  pub exact : (line : ℕ) (column : Option ℕ) → is_some (leftmost (filter (is_named line column) spots)) ≡ aim_fits p line column

pub record GivesCalls (p : Program) (calls : List (Spot × Bor Expr)) : Type 0 where
  pub ordered : IsTrue (follow_by_spot calls)
  pub exact : (close : Spot) → expr_view_if (option_copied (first_in calls close)) ≡ call_at p close

pub record GivesBefores (p : Program) (befores : List (Spot × Bor Stmt)) : Type 0 where
  pub ordered : IsTrue (follow_by_spot befores)
  pub exact : (spot : Spot) → option_map stmt_view (option_copied (first_in befores spot)) ≡ stmt_before p spot

pub record GivesSwitches (p : Program) (tests : List (Spot × IntType)) : Type 0 where
  pub ordered : IsTrue (follow_by_spot tests)
  pub exact : (spot : Spot) → first_in tests spot ≡ switch_at p spot

-- each list gives what the walk for it finds
pub record IsIndex (p : Program) (statement_spots loop_spots branch_spots end_spots aim_spots : List Spot)
    (call_nodes : List (Spot × Bor Expr)) (earlier : List (Spot × Bor Stmt)) (tests : List (Spot × IntType)) : Type 0 where
  pub statements : GivesPlaces p place.Statement statement_spots
  pub loops : GivesPlaces p place.Loop loop_spots
  pub branches : GivesPlaces p place.Branch branch_spots
  pub call_ends : GivesPlaces p place.CallEnd end_spots
  pub aims : GivesAims p aim_spots
  pub calls : GivesCalls p call_nodes
  pub befores : GivesBefores p earlier
  pub switches : GivesSwitches p tests
