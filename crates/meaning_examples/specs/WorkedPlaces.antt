-- The places of worked programs.
use Rattle.std.specs.Prelude.{◌≡◌, true, false, [], ◌∷◌, Some, None}
use Rattle.std.specs.Option.{option_map}
use Rattle.c_core.specs.Parts.{spot_of, spot_of_statement}
use Rattle.c_core.specs.Places.{place, places_of, place_at, aims_at, aim_fits, call_at, input_at, stmt_before}
use Rattle.c_core.specs.Program.{IsProgram}
use Rattle.c_core.specs.WorkedPrograms.{at, one_input, a_loop, a_recursion, a_comma}
use Rattle.c_core.specs.declared.number.IntType.TheVariants.{Int}
use Rattle.c_core.specs.declared.number.Property.TheVariants.{NoOverflow}
use Rattle.c_core.specs.declared.place.PlaceKind.TheVariants as k

-- what the places of these programs are
pub record WorkedPlaces : Type 0 where
  pub checked_one_input : IsProgram one_input
  pub checked_a_loop : IsProgram a_loop
  pub checked_a_recursion : IsProgram a_recursion
  pub checked_a_comma : IsProgram a_comma
  pub places_of_one_input : places_of one_input ≡ place k.Statement (at 4 3) ∷ place k.CallEnd (at 4 33) ∷ place k.Statement (at 5 3) ∷ place k.Branch (at 5 3) ∷ place k.Statement (at 5 15) ∷ place k.Statement (at 6 5) ∷ place k.CallEnd (at 6 17) ∷ place k.Statement (at 8 3) ∷ []
  pub places_of_a_loop : places_of a_loop ≡ place k.Statement (at 3 3) ∷ place k.Statement (at 4 3) ∷ place k.Loop (at 4 3) ∷ place k.Branch (at 4 3) ∷ place k.Statement (at 4 17) ∷ place k.Statement (at 5 5) ∷ place k.Statement (at 6 5) ∷ place k.Statement (at 8 3) ∷ place k.CallEnd (at 8 15) ∷ place k.Statement (at 9 3) ∷ []
  pub places_of_a_recursion : places_of a_recursion ≡ place k.Statement (at 2 16) ∷ place k.Branch (at 2 16) ∷ place k.Statement (at 2 28) ∷ place k.Statement (at 2 30) ∷ place k.Statement (at 2 42) ∷ place k.CallEnd (at 2 56) ∷ place k.Statement (at 4 3) ∷ place k.CallEnd (at 4 6) ∷ place k.Statement (at 5 3) ∷ place k.CallEnd (at 5 15) ∷ place k.Statement (at 6 3) ∷ []
  pub leftmost_statement : place_at one_input k.Statement 5 None ≡ Some (at 5 3)
  pub leftmost_of_many : place_at a_recursion k.Statement 2 None ≡ Some (at 2 16)
  pub exact_statement : place_at one_input k.Statement 5 (Some 15) ≡ Some (at 5 15)
  pub exact_call_end : place_at one_input k.CallEnd 4 (Some 33) ≡ Some (at 4 33)
  pub no_call_end : place_at one_input k.CallEnd 4 (Some 32) ≡ None
  pub the_loop : place_at a_loop k.Loop 4 None ≡ Some (at 4 3)
  pub no_loop : place_at one_input k.Loop 5 None ≡ None
  pub no_body : place_at one_input k.Statement 3 None ≡ None
  pub aim_at_statement : aim_fits one_input 6 (Some 5) ≡ true
  pub aim_at_initializer : aim_fits one_input 4 (Some 11) ≡ true
  pub no_aim_at_call_end : aim_fits one_input 4 (Some 33) ≡ false
  pub no_aim_at_operand : aim_fits one_input 5 (Some 12) ≡ false
  pub no_aim_on_line : aim_fits one_input 2 None ≡ false
  pub aims_on_line : aims_at one_input 5 None ≡ (at 5 3 ∷ at 5 15 ∷ at 5 7 ∷ [])
  pub aim_at_reach_error : aim_fits a_comma 3 (Some 6) ≡ true
  pub no_aim_in_no_overflow : aim_fits (record a_comma { property = NoOverflow }) 3 (Some 6) ≡ false
  pub the_call : option_map spot_of (call_at a_recursion (at 4 6)) ≡ Some (at 4 3)
  pub no_call : call_at a_recursion (at 4 3) ≡ None
  pub the_input : input_at one_input (at 4 33) ≡ Some (record { spot = at 4 11; ty = Int })
  pub no_input : input_at one_input (at 6 17) ≡ None
  pub declaration_before : option_map spot_of_statement (stmt_before one_input (at 5 3)) ≡ Some (at 4 3)
  pub statement_before : option_map spot_of_statement (stmt_before one_input (at 8 3)) ≡ Some (at 5 3)
  pub none_before_first : stmt_before one_input (at 4 3) ≡ None
  pub none_before_in_arm : stmt_before one_input (at 6 5) ≡ None
  pub before_in_loop : option_map spot_of_statement (stmt_before a_loop (at 6 5)) ≡ Some (at 5 5)
