use Rattle.std.proofs.Common.{◌≡◌, drop}
use Rattle.c_core.specs.View.{stmts_view}
use Rattle.flow_code.specs.Sizes.{any_leaks}
use Rattle.flow_code.proofs.sizes.any_leaks.Given as goal

-- none before does
abbrev pub invariant-loop-s : goal.invariant-loop-s
invariant-loop-s l = any_leaks (stmts_view (drop l.s-index l.body)) ≡ any_leaks (stmts_view l.body)
