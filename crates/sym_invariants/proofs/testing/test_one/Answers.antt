use Rattle.std.proofs.Common.{◌≡◌, false, true, ap, sym, ◌∙◌, arith, rules, suc, Some}
use Rattle.c_meaning.specs.Duties.{Duties, duty, number_among}
use Rattle.c_meaning.specs.Placing.{placed}
use Rattle.sym_invariants.specs.Obliged.{program_of, invariants_of}
use Rattle.sym_invariants.proofs.Numbering.{rises}
use Rattle.sym_invariants.proofs.Placing.{one_elsewhere, one_tested, room_here, room_behind}
use Rattle.sym_invariants.proofs.testing.test_one.Goals as goal

pub returns-then-not-is_at : goal.returns-then-not-is_at
returns-then-not-is_at c =
    let p = program_of c.args.obliged.now in
    let I = invariants_of c.args.obliged.now in
    let elsewhere : c.is_at.result ≡ false = search rules in
    one_elsewhere p I (Duties p I) c.args.at_loop c.args.spot c.args.kind c.args.number (placed c.args.x.now) c.args.sym.now c.requires.fits (sym (c.is_at.ensures p I) ∙ elsewhere)

pub holds_bit-requires : goal.holds_bit-requires
holds_bit-requires c =
    let p = program_of c.args.obliged.now in
    let I = invariants_of c.args.obliged.now in
    let here : c.is_at.result ≡ true = search rules in
    record {
      fits = c.requires.fits;
      types = c.requires.good.types;
      value = c.requires.good.value;
      room = room_here p I c.args.at_loop c.args.spot (placed c.args.x.now) (sym (c.is_at.ensures p I) ∙ here) _ c.requires.room;
    }

pub assure-requires-clause-room : goal.assure-requires-clause-room
assure-requires-clause-room c =
    let p = program_of c.args.obliged.now in
    let I = invariants_of c.args.obliged.now in
    let here : c.is_at.result ≡ true = search rules in
    room_behind p I c.args.at_loop c.args.spot (placed c.args.x.now) (sym (c.is_at.ensures p I) ∙ here) c.in_ok-holds.ensures c.requires.room

pub number_of-failed-requires-clause-rise : goal.number_of-failed-requires-clause-rise
number_of-failed-requires-clause-rise c = rises c.args.obliged.now c.requires.obliged (c.duties_are_in_order.ensures (program_of c.args.obliged.now) (invariants_of c.args.obliged.now))

pub returns : goal.returns
returns c =
    let w = c.args.obliged.now in
    let p = program_of w in
    let I = invariants_of w in
    let here : c.is_at.result ≡ true = search rules in
    let d = duty c.args.spot c.args.kind (Some c.args.number) in
    let number : number_among d (Duties p I) ≡ suc c.number_of-failed.result = ap (number_among d) (sym c.requires.obliged.duties) ∙ c.number_of-failed.ensures in
    one_tested p I (Duties p I) c.args.at_loop c.args.spot c.args.kind c.args.number (placed c.args.x.now) c.in_ok-holds.holds (sym (c.is_at.ensures p I) ∙ here) c.in_ok-holds.ensures
    (c.in_ok-assure.ensures (Duties p I) d number) (omega arith)
