-- What is so between calls of `advance`, and what a call makes of it.
use Rattle.std.proofs.Common.{◌≡◌, inl, inr, ℕ, suc, ◌+◌, ◌-◌, ◌≤◌, ◌<◌, ◌^◌, min, List, [], ◌++◌, Option, Some, None, refl, sym, ap, ◌∙◌, subst, arith}
use Rattle.std.proofs.lemmas.List.{append-nil, append_cancel_left}
use Rattle.c_core.specs.Program.{IsProgram}
use Rattle.c_core.specs.Tree.{Program}
use Rattle.c_meaning.specs.declared.run.Choices.{Choices}
use Rattle.c_meaning.specs.declared.run.End.{End}
use Rattle.c_meaning.specs.declared.run.End.TheVariants.{Spent}
use Rattle.c_meaning.specs.declared.run.Event.{Event}
use Rattle.c_meaning.specs.Budget.{Continues}
use Rattle.c_meaning.specs.Cells.{Cell}
use Rattle.c_meaning.specs.Run.{Moment, Moments, State}
use Rattle.c_meaning.specs.Run as run
use Rattle.flow_code.specs.declared.code.Code.{Code}
use Rattle.flow_laws.specs.Machines.{Machine, first_machine, with_steps}
use Rattle.flow_laws.specs.Runs.{Sight, noted, IsSimulated}
use Rattle.flow_laws.specs.Stepping.{Turn, Short, Over, outcome, steps, Ends}
use Rattle.flow_laws.proofs.Beginning.{nothing_seen, spent_at_once}
use Rattle.flow_laws.proofs.Resting.{short_on, over_on, counted, never_spent}
use Rattle.flow_laws.proofs.Telling.{all_seen, sights_of, sights_append, seen_of_sights, run_is, state_telling, tells_short, tells_over}
use Rattle.run_state.specs.declared.machine.Halt.TheVariants.{Ends as HaltEnds}
use Rattle.flow_machine.specs.Runs.{Advances, Halts, first, Leads, IsSpent, Waits, HasEnded, Rests, IsAtRest}
use Rattle.flow_machine.specs.Views.{machine_of}
use Rattle.flow_rooms.specs.Paces.{IsPaced, IsInOrder}
use Rattle.flow_rooms.proofs.Orders.{shorts_in_order}
use Rattle.flow_machine.specs.declared.control.Control.{Control as Here}
use Rattle.flow_machine.specs.declared.control.Running.{Running}

module _ (c : Code) (choices : Choices) where
  -- before the first step a machine is in order
  pub begun_in_order : (m : Machine (Unit {0})) → m ≡ first_machine c (Unit {0}) tt choices 0 → IsInOrder c m
  begun_in_order m h = subst (λ z. IsInOrder c z) (sym h) (record { unpaid = λ o g l. l; noted = refl; few = omega arith })

  -- steps of the machine that notes all events
  abbrev noting : ℕ → Machine (List Sight) → Turn (List Sight)
  noting n m = steps c (List Sight) noted n m

  leads_alike : (a b : Machine (List Sight)) (l : Leads c a b) (e : End) (s : State (List Sight)) → Ends c (List Sight) noted b e s → Ends c (List Sight) noted a e s
  leads_alike a b l e s g =
      let k = counted c (List Sight) noted b e s g.count g.is in
      record {
        count = l.count + suc k.0;
        is = ap outcome (l.alike k.0) ∙ ap (λ n. outcome (noting n b)) (sym k.1) ∙ g.is;
      }

  -- before the first step
  pub begun : (m : Machine (List Sight)) → m ≡ first c choices 0 → Waits c choices 0 0 m
  begun m h = record {
    all = refl;
    none = ap (λ x. x.run.steps) h;
    spent = inl (refl, ap (λ x. x.run) h);
    goes_on = λ d. let z : 0 + d ≡ d = omega arith in record {
      count = 0;
      alike = λ n. let s : 0 + suc n ≡ suc n = omega arith in
          ap (λ k. noting k (first c choices (0 + d))) s ∙ ap (λ k. noting (suc n) (first c choices k)) z ∙ ap (λ x. noting (suc n) (with_steps d x)) (sym h);
    };
  }

  -- its steps are spent
  pub waits_on : (sum taken b n : ℕ) (m y : Machine (List Sight)) → Waits c choices sum taken m → noting n (with_steps b m) ≡ Short y
      → Waits c choices (sum + b) (taken + b) y × Ends c (List Sight) noted (first c choices (sum + b)) Spent y.run
  waits_on sum taken b n m y w h =
      let spent : Ends c (List Sight) noted (first c choices (sum + b)) Spent y.run = leads_alike (first c choices (sum + b)) (with_steps b m) (w.goes_on b) Spent y.run (record { count = n; is = ap outcome h }) in (
        record {
          all = ap (λ k. k + b) w.all;
          none = (short_on c (List Sight) noted n (with_steps b m) y 0 h).none;
          spent = inr spent;
          goes_on = λ d.
              let g = short_on c (List Sight) noted n (with_steps b m) y d h in
              let l = w.goes_on (b + d) in
              let sums : sum + b + d ≡ sum + (b + d) = omega arith in
              record {
                count = l.count + g.count;
                alike = λ i.
                    let turns : l.count + g.count + suc i ≡ l.count + suc (g.count + i) = omega arith in
                    let more : suc (g.count + i) ≡ g.count + suc i = omega arith in
                    ap (λ k. noting k (first c choices (sum + b + d))) turns ∙ ap (λ k. noting (l.count + suc (g.count + i)) (first c choices k)) sums
                    ∙ l.alike (g.count + i) ∙ ap (λ k. noting k (with_steps (b + d) m)) more ∙ g.alike i;
              };
        },
        spent,
      )

  -- the run ends
  pub ends_on : (sum taken b n : ℕ) (m : Machine (List Sight)) (e : End) (s : State (List Sight)) → Waits c choices sum taken m → noting n (with_steps b m) ≡ Over e s
      → HasEnded c choices (sum + b) (taken + (b - s.steps)) e s × (s.steps ≤ b)
  ends_on sum taken b n m e s w h =
      let fewer = (over_on c (List Sight) noted n (with_steps b m) e s 0 h).fewer in (
        record {
          within = omega (arith, w.all);
          ends = λ d.
              let g = over_on c (List Sight) noted n (with_steps b m) e s d h in
              let sums : sum + b + d ≡ sum + (b + d) = omega arith in
              let left : s.steps + d ≡ sum + b + d - (taken + (b - s.steps)) = omega (arith, w.all, fewer) in
              let over : Ends c (List Sight) noted (with_steps (b + d) m) e (record s { steps = s.steps + d }) = record { count = g.count; is = ap outcome g.is } in
              subst (λ k. Ends c (List Sight) noted (first c choices k) e (record s { steps = sum + b + d - (taken + (b - s.steps)) })) (sym sums)
              (subst (λ k. Ends c (List Sight) noted (first c choices (sum + (b + d))) e (record s { steps = k })) left
              (leads_alike (first c choices (sum + (b + d))) (with_steps (b + d) m) (w.goes_on (b + d)) e (record s { steps = s.steps + d }) over));
        },
        fewer,
      )

  -- a run that has ended has ended with each larger sum
  pub ended_on : (sum taken b : ℕ) (e : End) (s : State (List Sight)) → HasEnded c choices sum taken e s → HasEnded c choices (sum + b) taken e s
  ended_on sum taken b e s h = record {
    within = omega (arith, h.within);
    ends = λ d. let sums : sum + b + d ≡ sum + (b + d) = omega arith in
        subst (λ k. Ends c (List Sight) noted (first c choices k) e (record s { steps = k - taken })) (sym sums) (h.ends (b + d));
  }

-- how a machine at rest would end
abbrev pub end_at : Option End → End
end_at None = Spent
end_at (Some e) = e

module _ (p : Program) (c : Code) (choices : Choices) (simulated : IsSimulated p c) where
  -- the run behind which a machine rests, and what it told
  abbrev RunIs : ℕ → End → State (List Sight) → Type 0
  RunIs n e s = (run.Run p choices n ≡ record { end = e; steps = n - s.steps; draws = s.draws; unfixed = s.unfixed }) × (s.seen ≡ sights_of (Moments p choices n))

  ended_run : (sum taken : ℕ) (e : End) (s : State (List Sight)) → HasEnded c choices sum taken e s → RunIs sum e (record s { steps = sum - taken })
  ended_run sum taken e s h =
      let same : sum + 0 ≡ sum = omega arith in
      run_is p choices sum c simulated e (record s { steps = sum - taken }) (subst (λ n. Ends c (List Sight) noted (first c choices n) e (record s { steps = n - taken })) same (h.ends 0))

  told_by_spent : (sum : ℕ) (s : State (List Sight)) → IsSpent c choices sum s → s.seen ≡ sights_of (Moments p choices sum)
  told_by_spent sum s (inl h) = ap (λ x. x.seen) h.1 ∙ ap sights_of (sym (nothing_seen p choices)) ∙ ap (λ n. sights_of (Moments p choices n)) (sym h.0)
  told_by_spent sum s (inr h) = (run_is p choices sum c simulated Spent s h).1

  -- a machine at rest has told the events of its run
  pub told_at_rest : (sum taken : ℕ) (ended : Option End) (m : Machine (List Sight)) → Rests c choices sum taken ended m → m.run.seen ≡ sights_of (Moments p choices sum)
  told_at_rest sum taken None m h = told_by_spent sum m.run h.spent
  told_at_rest sum taken (Some e) m h = (ended_run sum taken e m.run h).1

  run_by_spent : IsProgram p → (sum taken : ℕ) (s : State (List Sight)) → IsSpent c choices sum s → taken ≡ sum → s.steps ≡ 0
      → run.Run p choices sum ≡ record { end = Spent; steps = taken; draws = s.draws; unfixed = s.unfixed }
  run_by_spent checked sum taken s (inl h) a z =
      let none : taken ≡ 0 = a ∙ h.0 in
      ap (run.Run p choices) h.0 ∙ spent_at_once p choices checked ∙ ap (λ (u : State (List Sight)). record { end = Spent; steps = 0; draws = u.draws; unfixed = u.unfixed }) (sym h.1)
      ∙ ap (λ n. record { end = Spent; steps = n; draws = s.draws; unfixed = s.unfixed }) (sym none)
  run_by_spent checked sum taken s (inr h) a z =
      let steps : sum - s.steps ≡ taken = omega (arith, a, z) in
      (run_is p choices sum c simulated Spent s h).0 ∙ ap (λ n. record { end = Spent; steps = n; draws = s.draws; unfixed = s.unfixed }) steps

  -- the run so far of a machine at rest
  pub run_at_rest : IsProgram p → (sum taken : ℕ) (ended : Option End) (m : Machine (List Sight)) → Rests c choices sum taken ended m
      → run.Run p choices sum ≡ record { end = end_at ended; steps = taken; draws = m.run.draws; unfixed = m.run.unfixed }
  run_at_rest checked sum taken None m h = run_by_spent checked sum taken m.run h.spent h.all h.none
  run_at_rest checked sum taken (Some e) m h =
      let steps : sum - (sum - taken) ≡ taken = omega (arith, h.within) in
      (ended_run sum taken e m.run h).0 ∙ ap (λ n. record { end = e; steps = n; draws = m.run.draws; unfixed = m.run.unfixed }) steps

  -- a machine that went from rest to rest advanced the run
  pub advances : {S : Type 0} (after : Event → List Cell → S → S) (sum taken more taken' : ℕ) (ended ended' : Option End) (m m' : Machine (List Sight)) (e : End) (old new : S) (news : List Sight)
      (last : State (List Sight))
      → Continues p choices sum more → Rests c choices sum taken ended m → Rests c choices more taken' ended' m' → Ends c (List Sight) noted (first c choices more) e last
      → m'.run.seen ≡ m.run.seen ++ news → new ≡ all_seen after old news → Advances p choices sum more after old new e
  advances {S = S} after sum taken more taken' ended ended' m m' e old new news last continues rest rest' ends told saw =
      let rest_of = continues.moments.0 in
      let before = told_at_rest sum taken ended m rest in
      let behind = told_at_rest more taken' ended' m' rest' in
      let both : sights_of (Moments p choices sum) ++ news ≡ sights_of (Moments p choices sum) ++ sights_of rest_of =
      ap (λ es. es ++ news) (sym before) ∙ sym told ∙ behind ∙ ap sights_of continues.moments.1 ∙ sights_append (Moments p choices sum) rest_of in
      let same : news ≡ sights_of rest_of = append_cancel_left (sights_of (Moments p choices sum)) news (sights_of rest_of) both in
      record {
        end = sym (ap (λ r. r.end) (run_is p choices more c simulated e last ends).0);
        follows = record {
          more = rest_of;
          continues = continues.moments.1;
          seen = saw ∙ ap (all_seen after old) same ∙ sym (seen_of_sights S after old rest_of);
        };
      }

module _ (c : Code) (choices : Choices) (S : Type 0) (after : Event → List Cell → S → S) where
  -- a machine behind events that were told went to rest at an end, and told more
  pub record Went (told : List Sight) (old new : S) (sum taken : ℕ) (ended : Option End) (k : Here) (r : Running) (e : End) : Type 0 where
    pub news : List Sight
    pub seen : new ≡ all_seen after old news
    pub rests : Rests c choices sum taken ended (machine_of k r (told ++ news))
    pub last : State (List Sight)
    pub ends : Ends c (List Sight) noted (first c choices sum) e last

  module _ (b : ℕ) (k k' : Here) (r r' : Running) (old new : S) where
    -- operations from a machine with this budget came to why they were left off
    abbrev pub Halted : End → Type 0
    Halted e = Halts (HaltEnds e) (machine_of k' r' new) (λ n. steps c S after n (machine_of k (record r { steps = b }) old))

    -- no steps are won
    pub fewer_left : (e : End) → Halted e → r'.steps ≤ b
    fewer_left e (n, inl h) =
        let none = (short_on c S after n (machine_of k (record r { steps = b }) old) (machine_of k' r' new) 0 h.0).none in
        omega (arith, none)
    fewer_left e (n, inr h) = (over_on c S after n (machine_of k (record r { steps = b }) old) e (machine_of k' r' new).run 0 h).fewer

    module _ (sum taken taken' : ℕ) (told : List Sight) (waits : Waits c choices sum taken (machine_of k r told)) (sums : taken' ≡ taken + (b - r'.steps)) where
      -- it is short of steps
      pub went_spent : (e : End) → e ≡ Spent → Halted e → Went told old new (sum + b) taken' None k' r' Spent
      went_spent e is h = by (subst (λ x. Halted x) is h)
        where
          by : Halted Spent → Went told old new (sum + b) taken' None k' r' Spent
          by (n, inr h) = absurd (never_spent c S after n (machine_of k (record r { steps = b }) old) (machine_of k' r' new).run h)
          by (n, inl h) =
              let t = tells_short S after c n (machine_of k (record r { steps = b }) old) (machine_of k' r' new) told h.0 in
              let y = machine_of k' r' (told ++ t.news) in
              let w = waits_on c choices sum taken b n (machine_of k r told) y waits t.is in
              let all : taken + b ≡ taken' = omega (arith, sums, w.0.none) in
              record {
                news = t.news;
                seen = t.seen;
                rests = subst (λ n. Waits c choices (sum + b) n y) all w.0;
                last = y.run;
                ends = w.1;
              }

      -- the run ends
      pub went_ended : (e : End) → (e ≡ Spent → ⊥) → Halted e → Went told old new (sum + b) taken' (Some e) k' r' e
      went_ended e other (n, inl h) = absurd (other h.1)
      went_ended e other (n, inr h) =
          let t = tells_over S after c n (machine_of k (record r { steps = b }) old) e (machine_of k' r' new).run told h in
          let s = state_telling S after c (told ++ t.news) (machine_of k' r' new).run in
          let w = ends_on c choices sum taken b n (machine_of k r told) e s waits t.is in
          let now : sum + b + 0 ≡ sum + b = omega arith in
          record {
            news = t.news;
            seen = t.seen;
            rests = subst (λ n. HasEnded c choices (sum + b) n e s) (sym sums) w.0;
            last = record s { steps = sum + b + 0 - (taken + (b - s.steps)) };
            ends = subst (λ n. Ends c (List Sight) noted (first c choices n) e (record s { steps = sum + b + 0 - (taken + (b - s.steps)) })) now (w.0.ends 0);
          }

module _ (c : Code) (choices : Choices) (sum taken : ℕ) (ended : Option End) (k : Here) (r : Running) (rest : IsAtRest c choices sum taken ended k r) where
  module _ (e : End) (is : ended ≡ Some e) (b : ℕ) where
    was_ended : HasEnded c choices sum taken e (machine_of k r rest.told).run
    was_ended = subst (λ o. Rests c choices sum taken o (machine_of k r rest.told)) is rest.rests

    -- a machine that has ended rests on
    pub rests_on : IsAtRest c choices (sum + b) taken ended k r
    rests_on = record {
      told = rest.told;
      rests = subst (λ o. Rests c choices (sum + b) taken o (machine_of k r rest.told)) (sym is) (ended_on c choices sum taken b e (machine_of k r rest.told).run was_ended);
    }

    -- and advances no run
    pub rests_still : (p : Program) → IsSimulated p c → Continues p choices sum (sum + b) → {S : Type 0} (after : Event → List Cell → S → S) (x : S) → Advances p choices sum (sum + b) after x x e
    rests_still p simulated continues after x =
        let m = machine_of k r rest.told in
        let now : sum + b + 0 ≡ sum + b = omega arith in
        let still = ended_on c choices sum taken b e m.run was_ended in
        advances p c choices simulated after sum taken (sum + b) taken (Some e) (Some e) m m e x x [] (record m.run { steps = sum + b + 0 - taken }) continues was_ended still
        (subst (λ n. Ends c (List Sight) noted (first c choices n) e (record m.run { steps = sum + b + 0 - taken })) now (still.ends 0))
        (sym (append-nil rest.told)) refl

  module _ (none : ended ≡ None) (S : Type 0) (after : Event → List Cell → S → S) (b taken' : ℕ) (k' : Here) (r' : Running) (old new : S) (few : sum + b < 2 ^ 64) where
    waiting : Waits c choices sum taken (machine_of k r rest.told)
    waiting = subst (λ o. Rests c choices sum taken o (machine_of k r rest.told)) none rest.rests

    -- all steps taken are counted
    counts : r'.steps ≤ b → taken' ≡ min (taken + (b - r'.steps)) 18446744073709551615 → taken' ≡ taken + (b - r'.steps)
    counts h e = omega (arith, waiting.all)

    -- it is short of steps
    pub comes_short : (e : End) → e ≡ Spent → taken' ≡ min (taken + (b - r'.steps)) 18446744073709551615 → Halted c choices S after b k k' r r' old new e
        → Went c choices S after rest.told old new (sum + b) taken' None k' r' Spent
    comes_short e is t h =
        let fewer = fewer_left c choices S after b k k' r r' old new e h in
        went_spent c choices S after b k k' r r' old new sum taken taken' rest.told waiting (counts fewer t) e is h

    -- the run ends
    pub comes_to_end : (e : End) → (e ≡ Spent → ⊥) → taken' ≡ min (taken + (b - r'.steps)) 18446744073709551615 → Halted c choices S after b k k' r r' old new e
        → Went c choices S after rest.told old new (sum + b) taken' (Some e) k' r' e
    comes_to_end e other t h =
        let fewer = fewer_left c choices S after b k k' r r' old new e h in
        went_ended c choices S after b k k' r r' old new sum taken taken' rest.told waiting (counts fewer t) e other h

  -- behind what it told the machine rests
  pub now_rests : (S : Type 0) (after : Event → List Cell → S → S) (old new : S) (more taken' : ℕ) (ended' : Option End) (k' : Here) (r' : Running) (e : End)
      → Went c choices S after rest.told old new more taken' ended' k' r' e → IsAtRest c choices more taken' ended' k' r'
  now_rests S after old new more taken' ended' k' r' e w = record { told = rest.told ++ w.news; rests = w.rests }

  -- a machine that went from rest to rest advanced the run
  pub went_on : (p : Program) → IsSimulated p c → (more taken' : ℕ) → Continues p choices sum more → (S : Type 0) (after : Event → List Cell → S → S) (old new : S) (ended' : Option End) (k' : Here) (r' : Running) (e : End)
      → Went c choices S after rest.told old new more taken' ended' k' r' e → Advances p choices sum more after old new e
  went_on p simulated more taken' continues S after old new ended' k' r' e w =
      advances p c choices simulated after sum taken more taken' ended ended' (machine_of k r rest.told) (machine_of k' r' (rest.told ++ w.news)) e old new w.news w.last
      continues rest.rests w.rests w.ends refl w.seen

module _ (c : Code) (paced : IsPaced c) (S : Type 0) (after : Event → List Cell → S → S) (b : ℕ) (k k' : Here) (r r' : Running) (old new : S) (choices : Choices) where
  -- a machine in order is so with a budget, whoever watches
  pub in_order_with : IsInOrder c (machine_of {S = Unit {0}} k r tt) → IsInOrder c (machine_of k (record r { steps = b }) old)
  in_order_with order = record { unpaid = order.unpaid; noted = order.noted; few = order.few }

  -- where its steps are spent it is in order
  pub spent_in_order : (e : End) → e ≡ Spent → IsInOrder c (machine_of {S = Unit {0}} k r tt) → Halted c choices S after b k k' r r' old new e → IsInOrder c (machine_of {S = Unit {0}} k' r' tt)
  spent_in_order e is order (n, inl h) =
      let y = shorts_in_order c S after paced n (machine_of k (record r { steps = b }) old) (machine_of k' r' new) (in_order_with order) h.0 in
      record { unpaid = y.unpaid; noted = y.noted; few = y.few }
  spent_in_order e is order (n, inr h) =
      absurd (never_spent c S after n (machine_of k (record r { steps = b }) old) (machine_of k' r' new).run (subst (λ x. steps c S after n (machine_of k (record r { steps = b }) old) ≡ Over x (machine_of k' r' new).run) is h))
