-- Two answers about one witness.
use Rattle.std.specs.Prelude.{Result}
use Rattle.way_match.specs.View.{segments_view}
use Rattle.way_match.specs.declared.point.Bound.{Bound}
use Rattle.way_bind.specs.declared.fault.BindFault.{BindFault}
use Rattle.way_bind.specs.InOrder.{AgreeBy}

-- they are the same to contracts, unless memory ran out in one
abbrev pub Agree : Result Bound BindFault → Result Bound BindFault → Type 0
Agree a b = AgreeBy segments_view a b
