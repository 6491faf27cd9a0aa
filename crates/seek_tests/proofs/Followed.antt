-- What is bound can be followed.
use Rattle.std.proofs.Common.{Result, Ok, Err, IfOk}
use Rattle.std.specs.List.{All}
use Rattle.c_core.specs.Tree.{Program}
use Rattle.seek_passes.specs.Passing.{IsSegment}
use Rattle.way_bind.specs.Binding.{Binds}
use Rattle.way_bind.specs.declared.fault.BindFault.{BindFault}
use Rattle.way_match.specs.View.{segments_view}
use Rattle.way_match.specs.declared.point.Bound.{Bound}
use Rattle.wv_schema.specs.declared.witness.Witness.{Witness}

pub followed : (p : Program) (w : Witness) → ((bound : Bound) → Binds p w (Ok bound) → All (IsSegment p) (segments_view bound)) → (answer : Result Bound BindFault) → Binds p w answer → IfOk answer (λ bound. All (IsSegment p) (segments_view bound))
followed p w law (Ok bound) binds = law bound binds
followed p w law (Err fault) binds = tt
