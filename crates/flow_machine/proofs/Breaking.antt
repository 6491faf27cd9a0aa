-- What a watcher has seen of a run whose machine ran out of memory.
use Rattle.std.proofs.Common.{◌≡◌, ℕ, suc, ◌+◌, List, [], ◌∷◌, ◌++◌, Option, None, refl, sym, ap, ◌∙◌, subst, append_assoc, arith}
use Rattle.std.proofs.lemmas.List.{append-nil, append_cancel_left}
use Rattle.c_core.specs.Tree.{Program}
use Rattle.c_meaning.specs.declared.run.Choices.{Choices}
use Rattle.c_meaning.specs.declared.run.End.{End}
use Rattle.c_meaning.specs.declared.run.Event.{Event}
use Rattle.c_meaning.specs.Acts.{Stop}
use Rattle.c_meaning.specs.Budget.{Continues}
use Rattle.c_meaning.specs.Cells.{Cell}
use Rattle.c_meaning.specs.Run.{Moment, Told, Here, Head, Moments, State}
use Rattle.c_meaning.specs.Run as run
use Rattle.c_meaning.specs.Watching.{seen_by}
use Rattle.flow_code.specs.declared.code.Code.{Code}
use Rattle.flow_laws.specs.Machines.{Machine, with_steps}
use Rattle.flow_laws.specs.Runs.{Sight, noted, IsSimulated}
use Rattle.flow_laws.specs.Stepping.{Turn, On, Short, Over, onward, outcome, steps, Ends}
use Rattle.flow_laws.proofs.Reaching.{steps_on}
use Rattle.flow_laws.proofs.Seeing.{machine_as, turn_as, steps_as}
use Rattle.flow_laws.proofs.Telling.{all_seen, sights_of, sights_append, seen_of_sights, run_is}
use Rattle.flow_machine.specs.Fronts.{kept, kept_in, events_in, SawSome, BreaksOff}
use Rattle.flow_machine.specs.Runs.{first, Waits, Rests, IsAtRest}
use Rattle.flow_machine.specs.Views.{machine_of}
use Rattle.flow_machine.proofs.Advancing.{told_at_rest}
use Rattle.flow_machine.specs.declared.control.Control.{Control as Place}
use Rattle.flow_machine.specs.declared.control.Running.{Running}

-- a front of moments with these events
record Parts (ms : List Moment) (xs : List Sight) : Type 0 where
  front : List Moment
  rest : List Moment
  split : ms ≡ front ++ rest
  same : sights_of front ≡ xs

-- where the events of moments are parted, so are the moments
parted : (ms : List Moment) (xs ys : List Sight) → sights_of ms ≡ xs ++ ys → Parts ms xs
parted ms [] ys h = record { front = []; rest = ms; split = refl; same = refl }
parted [] (x ∷ xs) ys h = absurd (cc)
parted (Told e cs ∷ ms) (x ∷ xs) ys h =
    let d : Sight = record { event = e; cells = cs } in
    let whole : d ∷ sights_of ms ≡ x ∷ (xs ++ ys) = h in
    let first : d ≡ x = cc in
    let others : sights_of ms ≡ xs ++ ys = cc in
    let q = parted ms xs ys others in
    record {
      front = Told e cs ∷ q.front;
      rest = q.rest;
      split = ap (λ l. Told e cs ∷ l) q.split;
      same = ap (λ (u : Sight). u ∷ sights_of q.front) first ∙ ap (λ l. x ∷ l) q.same;
    }
parted (Here spot cs ∷ ms) (x ∷ xs) ys h =
    let q = parted ms (x ∷ xs) ys h in
    record { front = Here spot cs ∷ q.front; rest = q.rest; split = ap (λ l. Here spot cs ∷ l) q.split; same = q.same }
parted (Head at l arrived cs ∷ ms) (x ∷ xs) ys h =
    let q = parted ms (x ∷ xs) ys h in
    record { front = Head at l arrived cs ∷ q.front; rest = q.rest; split = ap (λ n. Head at l arrived cs ∷ n) q.split; same = q.same }

-- all events that are noted behind operations
abbrev noted_in : Turn (List Sight) → List Sight
noted_in (On m) = m.run.seen
noted_in (Short m) = m.run.seen
noted_in (Over e s) = s.seen

noted_as : (t : Turn (List Moment)) → noted_in (turn_as sights_of t) ≡ sights_of (kept_in t)
noted_as (On m) = refl
noted_as (Short m) = refl
noted_as (Over e s) = refl

noted_before : (t : Turn (List Sight)) (xs : List Sight) → noted_in (turn_as (λ ys. xs ++ ys) t) ≡ xs ++ noted_in t
noted_before (On m) xs = refl
noted_before (Short m) xs = refl
noted_before (Over e s) xs = refl

stopped : (t : Turn (List Sight)) (f : Machine (List Sight) → Turn (List Sight)) (e : End) (s : State (List Sight)) → outcome t ≡ Stop e s → noted_in (onward t f) ≡ s.seen
stopped (On m) f e s h = absurd (cc)
stopped (Short m) f e s h = let same : m.run ≡ s = cc in ap (λ (u : State (List Sight)). u.seen) same
stopped (Over d u) f e s h = let same : u ≡ s = cc in ap (λ (u : State (List Sight)). u.seen) same

module _ (c : Code) where
  abbrev noting : ℕ → Machine (List Sight) → Turn (List Sight)
  noting n m = steps c (List Sight) noted n m

  -- who notes events has those that a watcher keeps
  kept_noted : (n : ℕ) (m : Machine (List Moment)) → noted_in (noting n (machine_as sights_of m)) ≡ sights_of (events_in c m n)
  kept_noted n m =
      ap noted_in (steps_as (List Moment) (List Sight) kept noted sights_of (λ e cs ms. sights_append ms (Told e cs ∷ [])) c n m)
      ∙ noted_as (steps c (List Moment) kept n m)

  -- they come after those that were noted
  noted_after : (n : ℕ) (m : Machine (List Sight)) → noted_in (noting n m) ≡ m.run.seen ++ noted_in (noting n (machine_as (λ _. []) m))
  noted_after n m =
      let z : Machine (List Sight) = machine_as (λ _. []) m in
      ap (λ xs. noted_in (noting n (machine_as (λ _. xs) m))) (sym (append-nil m.run.seen))
      ∙ ap noted_in (steps_as (List Sight) (List Sight) noted noted (λ ys. m.run.seen ++ ys) (λ e cs ys. sym (append_assoc m.run.seen ys (record { event = e; cells = cs } ∷ []))) c n z)
      ∙ noted_before (noting n z) m.run.seen

  more_onward : (t : Turn (List Sight)) (n : ℕ) → (more : List Sight) × (noted_in (onward t (steps c (List Sight) noted n)) ≡ noted_in t ++ more)
  more_onward (On m) n = (noted_in (noting n (machine_as (λ _. []) m)), noted_after n m)
  more_onward (Short m) n = ([], sym (append-nil m.run.seen))
  more_onward (Over e s) n = ([], sym (append-nil s.seen))

  -- a run that ends has told what some operations tell, and more
  ends_with_more : (m : Machine (List Sight)) (e : End) (s : State (List Sight)) (n : ℕ) → Ends c (List Sight) noted m e s → (more : List Sight) × (s.seen ≡ noted_in (noting n m) ++ more)
  ends_with_more m e s n g =
      let swap : n + g.count ≡ g.count + n = omega arith in
      let end : noted_in (noting (g.count + n) m) ≡ s.seen = ap noted_in (steps_on c (List Sight) noted g.count n m) ∙ stopped (noting g.count m) (steps c (List Sight) noted n) e s g.is in
      let more = more_onward (noting n m) g.count in
      (more.0, sym end ∙ sym (ap (λ k. noted_in (noting k m)) swap) ∙ ap noted_in (steps_on c (List Sight) noted n g.count m) ∙ more.1)

module _ (p : Program) (c : Code) (choices : Choices) (simulated : IsSimulated p c) {S : Type 0} (after : Event → List Cell → S → S) where
  -- a machine that waited with a budget more ran out of memory
  waiting_breaks : (sum taken b : ℕ) (k : Place) (r : Running) (told : List Sight) (x y : S) → Continues p choices sum (sum + b) → Waits c choices sum taken (machine_of k r told)
      → SawSome after (events_in c (machine_of k (record r { steps = b }) [])) x y → BreaksOff p choices sum (sum + b) after x y
  waiting_breaks sum taken b k r told x y continues waits (n, f) =
      let m : Machine (List Sight) = with_steps b (machine_of k r told) in
      let l = waits.goes_on b in
      let end = run.Seen p (List Sight) (seen_by noted) [] choices (sum + b) in
      let ends = simulated.ends choices (sum + b) in
      let all = (run_is p choices (sum + b) c simulated (run.end_of end) (run.state_of end) ends).1 in
      let more = ends_with_more c (first c choices (sum + b)) (run.end_of end) (run.state_of end) (l.count + suc n) ends in
      let news = events_in c (machine_of k (record r { steps = b }) []) (suc n) in
      let here : noted_in (noting c (l.count + suc n) (first c choices (sum + b))) ≡ told ++ sights_of news =
      ap noted_in (l.alike n) ∙ noted_after c (suc n) m ∙ ap (λ xs. told ++ xs) (kept_noted c (suc n) (machine_of k (record r { steps = b }) [])) in
      let before = told_at_rest p c choices simulated sum taken None (machine_of k r told) waits in
      let rest = continues.moments.0 in
      let both : sights_of (Moments p choices sum) ++ sights_of rest ≡ sights_of (Moments p choices sum) ++ (sights_of news ++ more.0) =
      sym (ap sights_of continues.moments.1 ∙ sights_append (Moments p choices sum) rest) ∙ sym all ∙ more.1 ∙ ap (λ xs. xs ++ more.0) here
      ∙ append_assoc told (sights_of news) more.0 ∙ ap (λ xs. xs ++ (sights_of news ++ more.0)) before in
      let parts : sights_of rest ≡ sights_of f.front ++ (sights_of f.rest ++ more.0) =
      append_cancel_left (sights_of (Moments p choices sum)) (sights_of rest) (sights_of news ++ more.0) both ∙ ap (λ ms. sights_of ms ++ more.0) f.split
      ∙ ap (λ xs. xs ++ more.0) (sights_append f.front f.rest) ∙ append_assoc (sights_of f.front) (sights_of f.rest) more.0 in
      let cut = parted rest (sights_of f.front) (sights_of f.rest ++ more.0) parts in
      record {
        more = rest;
        continues = continues.moments.1;
        front = record {
          front = cut.front;
          rest = cut.rest;
          split = cut.split;
          saw = f.saw ∙ seen_of_sights S after x f.front ∙ ap (all_seen after x) (sym cut.same) ∙ sym (seen_of_sights S after x cut.front);
        };
      }

  -- the same of a machine at rest
  pub breaks_off : (sum taken b : ℕ) (ended : Option End) (k : Place) (r : Running) (x y : S) → ended ≡ None → Continues p choices sum (sum + b) → IsAtRest c choices sum taken ended k r
      → SawSome after (events_in c (machine_of k (record r { steps = b }) [])) x y → BreaksOff p choices sum (sum + b) after x y
  breaks_off sum taken b ended k r x y none continues rest saw =
      waiting_breaks sum taken b k r rest.told x y continues (subst (λ o. Rests c choices sum taken o (machine_of k r rest.told)) none rest.rests) saw
