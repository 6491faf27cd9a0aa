use Rattle.std.proofs.Common.{◌-◌, ◌∙◌, ◌<◌, length, get_or, take, arith, refl, sym, false, eqb-true}
use Rattle.std.proofs.lemmas.Bool.{eqb-false}
use Rattle.std.proofs.lemmas.List.{length-take-le}
use Rattle.std.proofs.lemmas.List.Elements.{All-get_or, All-take}
use Rattle.c_core.specs.View.{program_view}
use Rattle.circuits.specs.declared.net.Bit.{Bit}
use Rattle.circuits.specs.Net.{IsIn}
use Rattle.sym_state.proofs.Nets.{all_added}
use Rattle.sym_state.proofs.Composed.{no_items}
use Rattle.sym_elements.proofs.Picked.{more_told, no_more_told, some_told, picked_cell, picked_lower, picked_choice, room_below, room_choice}
use Rattle.sym_elements.specs.Placing.{told_by}
use Rattle.sym_elements.proofs.reading.+read_among.Goals as goal

pub returns-then-is_empty : goal.returns-then-is_empty
returns-then-is_empty t c =
    picked_cell (program_view c.args.program.now) c.args.object c.args.inner c.args.columns c.args.low c.args.count c.requires.fits c.requires.typed
    (no_items c.args.digits.now (eqb-true (length c.args.digits.now) 0 (sym c.is_empty.ensures ∙ c.if-is_empty.true))) c.in_ok-held.ensures

pub returns-then-count-half : goal.returns-then-count-half
returns-then-count-half t c =
    let some : 0 < length c.args.digits.now = let d = eqb-false (length c.args.digits.now) 0 (sym c.is_empty.ensures ∙ c.if-is_empty.false) in omega (arith, d) in
    let k = length c.args.digits.now - 1 in
    picked_lower (program_view c.args.program.now) c.args.object c.args.inner c.args.columns k (record { node = 0; negated = false }) (omega (arith, some)) refl
    (no_more_told (told_by c.args.inner c.args.columns k) c.told-half.result c.args.count c.told-half.ensures c.if-count-half.true) c.in_ok-same.ensures

pub read_among-requires-3 : goal.read_among-requires-3
read_among-requires-3 t c =
    let some : 0 < length c.args.digits.now = let d = eqb-false (length c.args.digits.now) 0 (sym c.is_empty.ensures ∙ c.if-is_empty.false) in omega (arith, d) in
    let k = length c.args.digits.now - 1 in
    let half = more_told (told_by c.args.inner c.args.columns k) c.told-half.result c.args.count c.told-half.ensures c.if-count-half.false (omega arith) in (
      omega (arith, c.decreases, some, length-take-le k c.args.digits.now (omega arith)),
      (
        c.in_ok-above.ensures.turned.fits,
        (
          c.requires.typed,
          (
            all_added c.in_ok-above.ensures.turned.added (take k c.args.digits.now) (All-take (λ b. IsIn c.args.sym.now.net b) k c.args.digits.now c.requires.digits_in),
            (
              c.requires.some,
              (
                omega (arith, c.if-count-half.false, c.requires.within),
                room_below (program_view c.args.program.now) c.args.object c.args.inner c.args.columns c.told-half.result c.args.count (omega (arith, half, some_told c.args.inner c.args.columns k c.requires.some)) c.if-count-half.false c.requires.room c.in_ok-above.ensures,
              ),
            ),
          ),
        ),
      ),
    )

pub choose-requires-clause-room : goal.choose-requires-clause-room
choose-requires-clause-room t c =
    let k = length c.args.digits.now - 1 in
    let half = more_told (told_by c.args.inner c.args.columns k) c.told-half.result c.args.count c.told-half.ensures c.if-count-half.false (omega arith) in
    room_choice (program_view c.args.program.now) c.args.object c.args.inner c.args.columns c.told-half.result c.args.count (omega (arith, half, some_told c.args.inner c.args.columns k c.requires.some)) c.if-count-half.false c.requires.room c.in_ok-above.ensures c.in_ok-below.ensures

pub returns : goal.returns
returns t c =
    let some : 0 < length c.args.digits.now = let d = eqb-false (length c.args.digits.now) 0 (sym c.is_empty.ensures ∙ c.if-is_empty.false) in omega (arith, d) in
    let k = length c.args.digits.now - 1 in
    let half = more_told (told_by c.args.inner c.args.columns k) c.told-half.result c.args.count c.told-half.ensures c.if-count-half.false (omega arith) in
    let d : Bit = record { node = 0; negated = false } in
    let top = get_or c.args.digits.now k d in
    picked_choice (program_view c.args.program.now) c.args.object c.args.inner c.args.columns c.args.digits.now (take k c.args.digits.now) c.args.low c.args.count c.told-half.result k top d
    (All-get_or (λ b. IsIn c.args.sym.now.net b) c.args.digits.now k d (omega (arith, some)) c.requires.digits_in) c.requires.digits_in (omega (arith, some)) refl refl half (omega (arith, half, some_told c.args.inner c.args.columns k c.requires.some)) c.if-count-half.false c.in_ok-above.ensures c.in_ok-below.ensures
    c.args.ty c.requires.typed c.in_ok-value.ensures
