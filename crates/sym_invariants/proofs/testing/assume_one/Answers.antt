use Rattle.std.proofs.Common.{◌≡◌, ◌<◌, ◌^◌, length, false, true, sym, ◌∙◌, arith, rules}
use Rattle.c_meaning.specs.Duties.{Duties}
use Rattle.c_meaning.specs.Placing.{placed}
use Rattle.sym_invariants.specs.Obliged.{program_of, invariants_of}
use Rattle.sym_invariants.proofs.Placing.{one_assumed_elsewhere, one_assumed, room_here, room_behind}
use Rattle.sym_invariants.proofs.testing.assume_one.Goals as goal

pub returns-then-not-is_at : goal.returns-then-not-is_at
returns-then-not-is_at c =
    let p = program_of c.args.obliged.now in
    let I = invariants_of c.args.obliged.now in
    let elsewhere : c.is_at.result ≡ false = search rules in
    one_assumed_elsewhere p I (Duties p I) c.args.spot (placed c.args.x.now) c.args.sym.now c.requires.fits (sym (c.is_at.ensures p I) ∙ elsewhere)

pub holds_bit-requires : goal.holds_bit-requires
holds_bit-requires c =
    let p = program_of c.args.obliged.now in
    let I = invariants_of c.args.obliged.now in
    let here : c.is_at.result ≡ true = search rules in
    record {
      fits = c.requires.fits;
      types = c.requires.good.types;
      value = c.requires.good.value;
      room = room_here p I true c.args.spot (placed c.args.x.now) (sym (c.is_at.ensures p I) ∙ here) _ c.requires.room;
    }

pub assume-requires-clause-room : goal.assume-requires-clause-room
assume-requires-clause-room c =
    let p = program_of c.args.obliged.now in
    let I = invariants_of c.args.obliged.now in
    let here : c.is_at.result ≡ true = search rules in
    let room : length c.holds_bit.new.sym.net < 2 ^ 27 = room_behind p I true c.args.spot (placed c.args.x.now) (sym (c.is_at.ensures p I) ∙ here) c.in_ok-holds.ensures c.requires.room in
    omega (arith, room)

pub returns : goal.returns
returns c =
    let p = program_of c.args.obliged.now in
    let I = invariants_of c.args.obliged.now in
    let here : c.is_at.result ≡ true = search rules in
    one_assumed p I (Duties p I) c.args.spot (placed c.args.x.now) c.in_ok-holds.holds (sym (c.is_at.ensures p I) ∙ here) c.in_ok-holds.ensures (c.in_ok-assume.ensures (Duties p I)) (omega arith)
