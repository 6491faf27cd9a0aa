-- Input calls as Rust values, and those among calls.
use Rattle.std.specs.Prelude.{List, [], ◌∷◌, ◌++◌, map}
use Rattle.c_core.specs.Tree.{Exp}
use Rattle.c_core.specs.Places as pure
use Rattle.c_core.specs.Places.{input_of}
use Rattle.c_core.specs.declared.number.Spot.{Spot}
use Rattle.way_places.specs.Calls.{list_if}
use Rattle.way_places.specs.declared.inputs.InputCall.{InputCall}

abbrev pub call_view : InputCall → pure.InputCall
call_view c = record { spot = c.spot; ty = c.ty }

abbrev pub calls_view : List InputCall → List pure.InputCall
calls_view cs = map call_view cs

abbrev pub inputs_among : List (Spot × Exp) → List pure.InputCall
inputs_among [] = []
inputs_among (c ∷ cs) = list_if (input_of c.1) ++ inputs_among cs
