use Rattle.std.proofs.Common.{◌≡◌, ◌+◌, drop}
use Rattle.c_core.specs.View.{program_view}
use Rattle.sym_weight.specs.Table.{bits_of_objects}
use Rattle.sym_weight.specs.Tally.{capped}
use Rattle.sym_weight.proofs.statements.bits_of_objects.Given as goal

-- with what is left it becomes what the whole gives
abbrev pub invariant-loop-object : goal.invariant-loop-object
invariant-loop-object l = record {
  settled : capped l.sum ≡ l.sum;
  value : capped (l.sum + bits_of_objects (program_view l.program) (drop l.object-index l.objects)) ≡ capped (bits_of_objects (program_view l.program) l.objects);
}
