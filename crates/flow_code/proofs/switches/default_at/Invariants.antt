use Rattle.std.proofs.Common.{◌≡◌, drop}
use Rattle.c_core.specs.View.{switch_view}
use Rattle.flow_code.proofs.Arms.{default_from}
use Rattle.flow_code.proofs.switches.default_at.Given as goal

-- no arm before is the `default`
abbrev pub invariant-loop-arm : goal.invariant-loop-arm
invariant-loop-arm l = default_from l.depth l.to (switch_view (drop l.arm-index l.arms)) ≡ default_from l.depth l.start (switch_view l.arms)
