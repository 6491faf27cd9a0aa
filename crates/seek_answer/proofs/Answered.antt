-- What the run on the draws of a model shows, and what a spent budget leaves open.
use Rattle.std.proofs.Common.{◌≡◌, ◌≤◌, ◌+◌, ℕ, Bool, true, ℤ, List, length, Option, Some, None, sym, ◌∙◌, ap, subst}
use Rattle.bit_answers.specs.Deciding.{IsSpentOn}
use Rattle.bit_answers.proofs.Spent.{spent_draws}
use Rattle.c_core.specs.Tree.{Program}
use Rattle.c_core.specs.declared.number.Spot.{Spot}
use Rattle.c_meaning.specs.declared.run.Choices.TheVariants.{InTurn}
use Rattle.c_meaning.specs.declared.run.Draw.{Draw}
use Rattle.c_meaning.specs.declared.run.End.TheVariants.{Violated}
use Rattle.c_meaning.specs.declared.run.Run.{Run as GivenRun}
use Rattle.c_meaning.specs.Replay.{values_of}
use Rattle.c_meaning.specs.Run.{Run, first_cells, most_cells}
use Rattle.circuits.specs.Net.{holds}
use Rattle.clauses.specs.declared.log.SpentAt.{SpentAt}
use Rattle.judge.specs.declared.watched.Watched.{Watched}
use Rattle.judge.specs.Watching.{IsWatched}
use Rattle.seek_answer.specs.Answering.{AreBrief, IsAnswer, IsFound, IsLeftOpen, IsShown, step_budget}
use Rattle.seek_answer.specs.declared.answering.Sought.{Sought}
use Rattle.seek_answer.specs.declared.reach.Reach.{Reach}
use Rattle.seek_answer.specs.Reaching.{HaveRoom, IsPromised, values_under}
use Rattle.seek_answer.proofs.Told.{open_part}
use Rattle.seek_meaning.specs.Bounded.{HasRoom}
use Rattle.seek_meaning.specs.Seeking.{SeekRun, hits}
use Rattle.seek_meaning.specs.Sought.{IsShownIn, IsDecided, Seeks}
use Rattle.seek_meaning.specs.Steps.{StepsWithin}
use Rattle.sym_state.specs.Standing.{draws_at}
use Rattle.way_match.specs.Matching.{Finds, Matches, SeenIn}
use Rattle.way_match.specs.Points.{BoundSegment}

module _ (p : Program) (ss : List BoundSegment) (k : ℕ) where
  -- a run with this budget does what is sought
  module _ (w : List ℤ) (sought : IsShownIn p ss k w step_budget) where
    matched_there : Matches p ss (SeenIn p (InTurn w) step_budget) sought.positions
    matched_there = subst (λ n. Matches p ss (SeenIn p (InTurn w) n) sought.positions) sought.budget sought.found.matched

    -- so a matcher finds positions
    pub some_found : (found : Option (List ℕ)) → Finds p ss (SeenIn p (InTurn w) step_budget) found → found ≡ None → ⊥
    some_found (Some ns) finds none = cc
    some_found None finds none = finds sought.positions matched_there

    -- and the run shows them
    found_at : (draws : List Draw) (ns : List ℕ) → w ≡ values_of draws → (Run p (InTurn w) step_budget).draws ≡ draws → Matches p ss (SeenIn p (InTurn w) step_budget) ns → IsFound p ss k draws ns
    found_at draws ns e drawn m = record {
      seeks =
          subst (λ x. Seeks p ss k x ns) e (record {
            bounded = sought.found.bounded;
            matched = subst (λ n. Matches p ss (SeenIn p (InTurn w) n) ns) (sym sought.budget) m;
          });
      violates = record {
        violated =
            subst (λ x. (spot : Spot) × ((Run p (InTurn x) step_budget).end ≡ Violated spot)) e
            (subst (λ n. (spot : Spot) × ((Run p (InTurn w) n).end ≡ Violated spot)) sought.budget sought.found.bounded.violated);
        drawn = ap (λ x. (Run p (InTurn x) step_budget).draws) (sym e) ∙ drawn;
        matched = subst (λ x. Matches p ss (SeenIn p (InTurn x) step_budget) ns) e m;
      };
    }

  module _ (r : Reach) (h : IsPromised p ss k r) (brief : AreBrief p k) (have : length (first_cells p) + StepsWithin p k ≤ most_cells → HaveRoom p k)
      (decides : (w : List ℤ) → HasRoom p k w → IsDecided p ss k w) (shows : (w : List ℤ) → HasRoom p k w → hits (SeekRun p ss k w) ≡ true → (N : ℕ) → StepsWithin p k ≤ N → IsShownIn p ss k w N) where
    pub room : HaveRoom p k
    room = have brief.room

    module _ (v : ℕ → Bool) (on : holds v r.net r.reach ≡ true) where
      sought : IsShownIn p ss k (values_under p v r) step_budget
      sought =
          let w = values_under p v r in
          shows w (room w) (sym (h.2.each v).hits ∙ on) step_budget brief.steps

      drawn : (Run p (InTurn (values_under p v r)) step_budget).draws ≡ draws_at p v r.net r.sites
      drawn =
          let w = values_under p v r in
          ap (λ n. (Run p (InTurn w) n).draws) (sym sought.budget) ∙ sym ((decides w (room w)).draws sought.positions sought.found) ∙ (h.2.each v).draws

      module _ (watched : Watched) (is : IsWatched p ss (InTurn (values_under p v r)) step_budget watched) where
        pub found_some : watched.found ≡ None → ⊥
        found_some = some_found (values_under p v r) sought watched.found is.found

        pub answered_found : (N : ℕ) (answer : Sought) → IsShown watched answer → IsAnswer N p ss k r answer
        answered_found N answer s =
            let w = values_under p v r in
            let made : watched.run.draws ≡ draws_at p v r.net r.sites = ap (λ (x : GivenRun). x.draws) is.run ∙ drawn in
            let m : Matches p ss (SeenIn p (InTurn w) step_budget) s.positions = subst (Finds p ss (SeenIn p (InTurn w) step_budget)) s.found is.found in
            subst (IsAnswer N p ss k r) (sym s.shown) (found_at w sought watched.run.draws s.positions (ap values_of (sym made)) (drawn ∙ sym made) m)

  pub left_open : (r : Reach) → IsPromised p ss k r → (N : ℕ) (s : SpentAt) → 1 ≤ N → IsSpentOn N r.net r.reach s → IsLeftOpen N p r s
  left_open r h N s some spent =
      let x = open_part p ss k r h (spent_draws N r.net r.reach s some spent) in
      record { spent = spent; part = x.0; is_open = x.1 }
