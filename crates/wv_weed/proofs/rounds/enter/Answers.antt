use Rattle.std.proofs.Common.{arith, sym, ◌∙◌, ap, subst, ℕ}
use Rattle.std.specs.Prelude.{slice_set, false, true}
use Rattle.std.proofs.lemmas.List.{get_or-set_same}
use Rattle.std.proofs.lemmas.Option.{slice_get_within}
use Rattle.wv_weed.specs.Numbers.{IsSet}
use Rattle.wv_weed.specs.Rounds.{IsFoundIn, invariants_of, left_of, net_of, program_of}
use Rattle.wv_weed.proofs.Findings.{passed}
use Rattle.wv_weed.proofs.Shared.{flag_within, one_more_known}
use Rattle.wv_weed.proofs.Rounding.{one_fails, one_open, one_passed, place_within}
use Rattle.wv_weed.proofs.rounds.enter.Goals as goal

pub raise_flag-requires : goal.raise_flag-requires
raise_flag-requires c =
    let t = c.args.trial.now in
    let tells =
    c.failing_bits_tell.ensures (program_of t) (left_of t) t.obligations.now c.requires.trial.promised c.args.at
    c.args.bit (sym c.requires.bit) in
    let within = flag_within (net_of t) c.args.round.never.items c.args.bit c.requires.so_far.known tells.inside in
    omega (arith, within, c.place_of_flag.ensures)

pub returns-in-Holds : goal.returns-in-Holds
returns-in-Holds c =
    let t = c.args.trial.now in
    let o = t.obligations.now in
    let b = c.args.bit in
    let r = c.args.round in
    let N = t.conflicts in
    let p = program_of t in
    let I = invariants_of t in
    let left = t.left.now in
    let tells =
    c.failing_bits_tell.ensures p (left_of t) o c.requires.trial.promised c.args.at b (sym c.requires.bit) in
    let never = subst (IsFoundIn t c.args.at c.args.place b) c.in-Holds.is c.requires.found in
    let set = c.raise_flag.ensures ∙ ap (λ (i : ℕ). slice_set r.never.items i true) c.place_of_flag.ensures in
    record {
      round = one_passed N p I left c.args.at r.dropped.items r.first c.requires.so_far.round
          (passed N p I left o c.args.at b tells never);
      failed = c.requires.so_far.failed;
      known = one_more_known (net_of t) r.never.items c.raise_flag.new.flags.items b c.requires.so_far.known never set;
    }

pub raise_flag-requires-in-Fails : goal.raise_flag-requires-in-Fails
raise_flag-requires-in-Fails c =
    let t = c.args.trial.now in
    place_within t.conflicts (program_of t) (invariants_of t) t.left.now t.obligations.now.list c.args.at c.args.place
    c.args.round.dropped.items c.requires.trial.promised.list
    (c.duties_name_invariants.ensures (program_of t) (left_of t))
    (c.as_many_are_picked.ensures (invariants_of t)) c.requires.trial.left.selection c.requires.so_far.round.many
    c.requires.of

pub returns-in-Fails : goal.returns-in-Fails
returns-in-Fails c =
    let t = c.args.trial.now in
    let r = c.args.round in
    let N = t.conflicts in
    let p = program_of t in
    let I = invariants_of t in
    let left = t.left.now in
    let k = c.args.place in
    let flags = r.dropped.items in
    let after = c.raise_flag-in-Fails.new.flags.items in
    let within = place_within N p I left t.obligations.now.list c.args.at k flags c.requires.trial.promised.list
    (c.duties_name_invariants.ensures p (left_of t)) (c.as_many_are_picked.ensures I) c.requires.trial.left.selection
    c.requires.so_far.round.many c.requires.of in
    let lost = subst (IsFoundIn t c.args.at k c.args.bit) c.in-Fails.is c.requires.found in
    record {
      round = one_fails N p I left c.args.at k flags after r.first c.requires.so_far.round c.raise_flag-in-Fails.ensures
          within lost;
      failed =
          λ _.
          (k, subst (λ fs. IsSet fs k) (sym c.raise_flag-in-Fails.ensures) (get_or-set_same flags k true false within));
      known = c.requires.so_far.known;
    }

pub keep-requires : goal.keep-requires
keep-requires c =
    let list = c.args.trial.now.obligations.now.list in
    omega (
      arith,
      slice_get_within list c.args.at c.requires.of.duty c.requires.of.named,
      c.requires.trial.promised.numbered,
    )

pub returns-in-Spent : goal.returns-in-Spent
returns-in-Spent c =
    let t = c.args.trial.now in
    let r = c.args.round in
    let told = subst (IsFoundIn t c.args.at c.args.place c.args.bit) c.in-Spent.is c.requires.found in
    record {
      round = one_open t.conflicts (program_of t) (invariants_of t) t.left.now c.args.at r.dropped.items r.first
          c.keep.result
          c.in-Spent.spent c.requires.so_far.round c.keep.ensures told;
      failed = c.requires.so_far.failed;
      known = c.requires.so_far.known;
    }
