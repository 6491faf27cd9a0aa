use Rattle.std.proofs.Common.{arith, sym, ◌≡◌, ◌∙◌, true, get_or}
use Rattle.std.specs.Prelude.{false}
use Rattle.std.proofs.lemmas.List.{get_or_read}
use Rattle.wv_weed.specs.Rounds.{invariants_of, left_of, program_of}
use Rattle.wv_weed.proofs.Findings.{passed}
use Rattle.wv_weed.proofs.Rounding.{none_passes, place_within, one_passed, one_dropped, unasked}
use Rattle.wv_weed.proofs.rounds.step.Goals as goal

pub returns-in_default : goal.returns-in_default
returns-in_default c =
    let t = c.args.trial.now in
    let N = t.conflicts in
    let p = program_of t in
    let I = invariants_of t in
    let left = t.left.now in
    unasked t c.args.at c.args.round c.requires.so_far
    (one_passed N p I left c.args.at c.args.round.dropped.items c.args.round.first c.requires.so_far.round
    (none_passes N p I left t.obligations.now.list c.args.at c.requires.trial.promised.list
    (c.duties_name_invariants.ensures p (left_of t)) c.in_default.ensures))

pub index-requires : goal.index-requires
index-requires c =
    let t = c.args.trial.now in
    let flags = c.args.round.dropped.items in
    let within = place_within t.conflicts (program_of t) (invariants_of t) t.left.now t.obligations.now.list c.args.at
    c.in-Some.place flags c.requires.trial.promised.list (c.duties_name_invariants.ensures (program_of t) (left_of t))
    (c.as_many_are_picked.ensures (invariants_of t)) c.requires.trial.left.selection c.requires.so_far.round.many
    c.in-Some.ensures in
    omega (arith, within, c.args.round.dropped.ok.0)

pub returns-then-index : goal.returns-then-index
returns-then-index c =
    let t = c.args.trial.now in
    let N = t.conflicts in
    let p = program_of t in
    let I = invariants_of t in
    let left = t.left.now in
    let k = c.in-Some.place in
    let flags = c.args.round.dropped.items in
    let within = place_within N p I left t.obligations.now.list c.args.at k flags c.requires.trial.promised.list
    (c.duties_name_invariants.ensures p (left_of t)) (c.as_many_are_picked.ensures I) c.requires.trial.left.selection
    c.requires.so_far.round.many c.in-Some.ensures in
    let on : get_or flags k false ≡ true =
    sym (get_or_read flags k c.index.result.now within c.index.ensures false) ∙ c.if-index.true in
    unasked t c.args.at c.args.round c.requires.so_far
    (one_dropped N p I left c.args.at k flags c.args.round.first c.requires.so_far.round on)

pub is_known-requires-clause-bit_in : goal.is_known-requires-clause-bit_in
is_known-requires-clause-bit_in c =
    let t = c.args.trial.now in
    (c.failing_bits_tell.ensures (program_of t) (left_of t) t.obligations.now c.requires.trial.promised c.args.at
    c.failing_at-bit.result (sym c.failing_at-bit.ensures)).inside

pub returns-then-is_known : goal.returns-then-is_known
returns-then-is_known c =
    let t = c.args.trial.now in
    let o = t.obligations.now in
    let N = t.conflicts in
    let p = program_of t in
    let I = invariants_of t in
    let left = t.left.now in
    let b = c.failing_at-bit.result in
    let tells = c.failing_bits_tell.ensures p (left_of t) o c.requires.trial.promised c.args.at b
    (sym c.failing_at-bit.ensures) in
    unasked t c.args.at c.args.round c.requires.so_far
    (one_passed N p I left c.args.at c.args.round.dropped.items c.args.round.first c.requires.so_far.round
    (passed N p I left o c.args.at b tells (c.is_known.ensures c.if-is_known.true)))
