use Rattle.std.proofs.Common.{◌+◌, length, arith}
use Rattle.c_core.specs.Typing.{labels_in}
use Rattle.c_core.specs.View.{switch_view}
use Rattle.c_meaning.specs.declared.run.Event.TheVariants as event
use Rattle.c_meaning.specs.Run.{way_for}
use Rattle.circuits.specs.Numbers.{typed}
use Rattle.sym_state.proofs.Nets.{longer_by}
use Rattle.sym_walk.specs.Walking.{program_of, mode_of}
use Rattle.sym_walk.proofs.Hooking.{untold, sought_walk, sought_ready, seeks_told, can_choose, choice_told}
use Rattle.sym_walk.proofs.hooks.tell_choice.Goals as goal

pub returns-in-Obliges : goal.returns-in-Obliges
returns-in-Obliges c =
    let w = c.args.walk.now in
    let p = program_of w in
    untold w c.in-Obliges.mode c.in-Obliges.is (length c.args.cases.now + (mode_of w).scale.test c.args.spot) c.args.sym.now
    (λ v. event.Branch c.args.spot (way_for (typed p.model c.args.ty v c.args.sym.now.net c.args.value.now.bits) (labels_in (switch_view c.args.arms.now)))) c.requires.fits

pub follow-requires-clause-segments : goal.follow-requires-clause-segments
follow-requires-clause-segments c = sought_walk c.args.walk.now c.in-Seeks.mode c.in-Seeks.is c.requires.walk

pub follow-requires-clause-ready : goal.follow-requires-clause-ready
follow-requires-clause-ready c =
    let w = c.args.walk.now in
    let d = c.in_ok-none-in-Seeks.ensures in
    sought_ready w c.in-Seeks.mode c.in-Seeks.is
    record {
      fits = d.turned.fits;
      event = can_choose (program_of w) (mode_of w) c.args.ty c.args.value.now.bits c.args.arms.now c.args.cases.now c.in_ok-none-in-Seeks.none c.requires.value_in c.requires.cases_in c.requires.are_cases d;
      room = omega (arith, c.requires.room, (longer_by d.turned.added).1);
    }

pub returns-in_ok-follow-in-Seeks : goal.returns-in_ok-follow-in-Seeks
returns-in_ok-follow-in-Seeks c =
    let w = c.args.walk.now in
    choice_told (program_of w) (mode_of w) c.args.spot c.args.ty c.args.value.now.bits (labels_in (switch_view c.args.arms.now)) (length c.args.cases.now) ((mode_of w).scale.test c.args.spot) c.requires.value_in c.in_ok-none-in-Seeks.ensures.turned
    (seeks_told w c.in-Seeks.mode c.in-Seeks.is c.in_ok-follow-in-Seeks.ensures)
