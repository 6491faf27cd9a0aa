use Rattle.std.proofs.Common.{◌≡◌, replicate, refl, rules}
use Rattle.c_core.specs.View.{program_view}
use Rattle.sym_flow.proofs.Becoming.{never_means}
use Rattle.sym_whole.proofs.Starts.{bare_state, first_is}
use Rattle.sym_whole.proofs.first.start.Goals as goal

pub start_objects-requires : goal.start_objects-requires
start_objects-requires c =
    let dead : c.in_ok-failing.failing.items ≡ replicate c.args.duties c.not-never.result = search rules in
    record {
      fits = bare_state (program_view c.args.program.now) c.in_ok-net.net c.yes-here.result c.not-never.result c.in_ok-given.given c.in_ok-failing.failing c.in_ok-completed.completed c.new-2.result c.new-3.result c.args.duties c.args.segments c.in_ok-net.ensures
          c.yes-here.ensures (never_means c.in_ok-net.net c.yes-here.result c.not-never.result c.yes-here.ensures c.not-never.ensures) c.in_ok-given.ensures dead c.in_ok-completed.ensures c.new-2.ensures.items c.new-3.ensures.items;
    }

pub returns : goal.returns
returns c =
    let dead : c.in_ok-failing.failing.items ≡ replicate c.args.duties c.not-never.result = search rules in
    first_is (program_view c.args.program.now) _ c.start_objects.new.sym c.args.duties c.args.segments c.in_ok-net.ensures c.yes-here.ensures (never_means c.in_ok-net.net c.yes-here.result c.not-never.result c.yes-here.ensures c.not-never.ensures) refl refl
    dead c.in_ok-completed.ensures c.new-2.ensures.items c.new-3.ensures.items c.in_ok-start_objects.ensures
