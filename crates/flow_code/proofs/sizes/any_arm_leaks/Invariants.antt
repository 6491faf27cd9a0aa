use Rattle.std.proofs.Common.{◌≡◌, drop}
use Rattle.c_core.specs.View.{switch_view}
use Rattle.flow_code.specs.Sizes.{any_leaks}
use Rattle.flow_code.proofs.sizes.any_arm_leaks.Given as goal

-- none before does
abbrev pub invariant-loop-arm : goal.invariant-loop-arm
invariant-loop-arm l = any_leaks (switch_view (drop l.arm-index l.arms)) ≡ any_leaks (switch_view l.arms)
