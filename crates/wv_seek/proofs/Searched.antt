-- What a net that isn't too heavy gives a search.
use Rattle.std.proofs.Common.{◌≤◌, ◌<◌, ◌+◌, ◌*◌, ◌-◌, ◌^◌, ℕ, List, arith}
use Rattle.std.proofs.Math.Pow.{pow_mono}
use Rattle.c_core.specs.Program.{IsProgram}
use Rattle.c_core.specs.Tree.{Program}
use Rattle.circuits.specs.Net.{count_inputs}
use Rattle.seek_answer.specs.Answering.{AreBrief}
use Rattle.seek_answer.specs.Reaching.{IsPromised}
use Rattle.seek_answer.specs.declared.reach.Reach.{Reach}
use Rattle.seek_meaning.specs.Steps.{StepsWithin}
use Rattle.seek_weight.specs.SeekWeight.{SeekWeight, SeekBits}
use Rattle.seek_weight.proofs.Enough.{few_first_cells}
use Rattle.way_match.specs.Points.{BoundSegment}
use Rattle.wv_seek.specs.Seeking.{IsUnrolled}

module _ (p : Program) (ss : List BoundSegment) (k : ℕ) (r : Reach) (h : IsUnrolled p ss k r) where
  pub promised : IsPromised p ss k r
  promised = (SeekWeight p ss k, SeekBits p k, h.reach)

  -- each step weighs 4 at least
  pub are_brief : IsProgram p → 4 * StepsWithin p k ≤ SeekWeight p ss k → AreBrief p k
  are_brief checked paid =
      let static = few_first_cells p checked in
      record {
        steps = omega (arith, paid, h.reach.light);
        room = omega (arith, paid, h.reach.light, static);
      }

  -- the net has no more inputs than the runs draw bits
  pub decided_beyond : {N : ℕ} → 2 ^ (SeekBits p k + 1) - 2 < N → 2 ^ (count_inputs r.net + 1) - 2 < N
  decided_beyond {N} more =
      omega (arith, more, pow_mono {i = count_inputs r.net + 1} {j = SeekBits p k + 1} (omega (arith, h.reach.feeds)))
