-- What machines tell: who keeps all events has those of the run, and each watcher sees what follows from them.
use Rattle.std.proofs.Common.{◌≡◌, ℕ, ◌-◌, List, [], ◌∷◌, ◌++◌, reverse, refl, sym, ap, ◌∙◌, append_assoc}
use Rattle.std.proofs.lemmas.List.{append-nil, reverse-append}
use Rattle.c_core.specs.Tree.{Program}
use Rattle.c_meaning.specs.declared.run.Choices.{Choices}
use Rattle.c_meaning.specs.declared.run.End.{End}
use Rattle.c_meaning.specs.declared.run.Event.{Event}
use Rattle.c_meaning.specs.Acts.{Res, Go, Stop, Flow}
use Rattle.c_meaning.specs.Cells.{Cell}
use Rattle.c_meaning.specs.Run.{State, Moment, Told, Here, Head, Whole, Moments, state_of, end_of, run_of}
use Rattle.c_meaning.specs.Run as run
use Rattle.c_meaning.specs.Watching.{seen_by, seen_after}
use Rattle.c_meaning.proofs.Watched.{Same, watched_run}
use Rattle.flow_code.specs.declared.code.Code.{Code}
use Rattle.flow_laws.specs.Machines.{Machine, first_machine}
use Rattle.flow_laws.specs.Stepping.{Turn, On, Short, Over, steps, Ends}
use Rattle.flow_laws.specs.Runs.{Sight, noted, IsSimulated}
use Rattle.flow_laws.proofs.Resting.{ends_once}
use Rattle.flow_laws.proofs.Seeing.{state_as, machine_as, turn_as, steps_as}

-- what a watcher has seen behind events in order
abbrev pub all_seen : {S : Type 0} → (Event → List Cell → S → S) → S → List Sight → S
all_seen after x [] = x
all_seen after x (e ∷ es) = all_seen after (after e.event e.cells x) es

-- the events among moments, with their cells
abbrev pub sights_of : List Moment → List Sight
sights_of [] = []
sights_of (Told e cs ∷ ms) = record { event = e; cells = cs } ∷ sights_of ms
sights_of (Here spot cs ∷ ms) = sights_of ms
sights_of (Head at l arrived cs ∷ ms) = sights_of ms

module _ (S : Type 0) (after : Event → List Cell → S → S) where
  seen_last : (x : S) (es : List Sight) (e : Event) (cs : List Cell) → all_seen after x (es ++ record { event = e; cells = cs } ∷ []) ≡ after e cs (all_seen after x es)
  seen_last x [] e cs = refl
  seen_last x (d ∷ es) e cs = seen_last (after d.event d.cells x) es e cs

  -- a watcher sees the events of moments
  pub seen_of_sights : (x : S) (ms : List Moment) → seen_after after x ms ≡ all_seen after x (sights_of ms)
  seen_of_sights x [] = refl
  seen_of_sights x (Told e cs ∷ ms) = seen_of_sights (after e cs x) ms
  seen_of_sights x (Here spot cs ∷ ms) = seen_of_sights x ms
  seen_of_sights x (Head at l arrived cs ∷ ms) = seen_of_sights x ms

  module _ (c : Code) where
    -- the same machine, before events that were told
    abbrev pub telling : List Sight → Machine S → Machine (List Sight)
    telling told m = machine_as (λ _. told) m

    abbrev pub state_telling : List Sight → State S → State (List Sight)
    state_telling told s = state_as (λ _. told) s

    -- the machine tells what the watcher sees
    tells : (n : ℕ) (m : Machine S) → steps c S after n m ≡ turn_as (all_seen after m.run.seen) (steps c (List Sight) noted n (telling [] m))
    tells n m = steps_as (List Sight) S noted after (all_seen after m.run.seen) (λ e cs es. seen_last m.run.seen es e cs) c n (telling [] m)

    -- what was told stands before what is told
    tells_more : (n : ℕ) (m : Machine S) (told : List Sight)
        → steps c (List Sight) noted n (telling told m) ≡ turn_as (λ es. told ++ es) (steps c (List Sight) noted n (telling [] m))
    tells_more n m told =
        ap (λ es. steps c (List Sight) noted n (telling es m)) (sym (append-nil told))
        ∙ steps_as (List Sight) (List Sight) noted noted (λ es. told ++ es) (λ e cs es. sym (append_assoc told es (record { event = e; cells = cs } ∷ []))) c n (telling [] m)

    -- what a watcher saw, as events that are told behind others
    pub record TellsShort (m y : Machine S) (n : ℕ) (told : List Sight) : Type 0 where
      pub news : List Sight
      pub seen : y.run.seen ≡ all_seen after m.run.seen news
      pub is : steps c (List Sight) noted n (telling told m) ≡ Short (telling (told ++ news) y)

    pub record TellsOver (m : Machine S) (e : End) (s : State S) (n : ℕ) (told : List Sight) : Type 0 where
      pub news : List Sight
      pub seen : s.seen ≡ all_seen after m.run.seen news
      pub is : steps c (List Sight) noted n (telling told m) ≡ Over e (state_telling (told ++ news) s)

    short_if : (n : ℕ) (m y : Machine S) (told : List Sight) (t : Turn (List Sight)) → steps c (List Sight) noted n (telling [] m) ≡ t
        → turn_as (all_seen after m.run.seen) t ≡ Short y → TellsShort m y n told
    short_if n m y told (On z) e h = cc
    short_if n m y told (Short z) e h =
        let same : machine_as (all_seen after m.run.seen) z ≡ y = cc in
        record {
          news = z.run.seen;
          seen = ap (λ w. w.run.seen) (sym same);
          is = tells_more n m told ∙ ap (turn_as (λ es. told ++ es)) e ∙ ap (λ (w : Machine S). Short (telling (told ++ z.run.seen) w)) same;
        }
    short_if n m y told (Over f z) e h = cc

    -- a machine that is short told the watcher what it told others
    pub tells_short : (n : ℕ) (m y : Machine S) (told : List Sight) → steps c S after n m ≡ Short y → TellsShort m y n told
    tells_short n m y told h = short_if n m y told (steps c (List Sight) noted n (telling [] m)) refl (sym (tells n m) ∙ h)

    over_if : (n : ℕ) (m : Machine S) (d : End) (s : State S) (told : List Sight) (t : Turn (List Sight)) → steps c (List Sight) noted n (telling [] m) ≡ t
        → turn_as (all_seen after m.run.seen) t ≡ Over d s → TellsOver m d s n told
    over_if n m d s told (On z) e h = cc
    over_if n m d s told (Short z) e h = cc
    over_if n m d s told (Over f z) e h =
        let same : state_as (all_seen after m.run.seen) z ≡ s = cc in
        let end : f ≡ d = cc in
        record {
          news = z.seen;
          seen = ap (λ w. w.seen) (sym same);
          is = tells_more n m told ∙ ap (turn_as (λ es. told ++ es)) e ∙ ap (λ (w : State S). Over f (state_telling (told ++ z.seen) w)) same ∙ ap (λ x. Over x (state_telling (told ++ z.seen) s)) end;
        }

    -- a run that ended told the watcher what it told others
    pub tells_over : (n : ℕ) (m : Machine S) (e : End) (s : State S) (told : List Sight) → steps c S after n m ≡ Over e s → TellsOver m e s n told
    tells_over n m e s told h = over_if n m e s told (steps c (List Sight) noted n (telling [] m)) refl (sym (tells n m) ∙ h)

pub sights_append : (xs ys : List Moment) → sights_of (xs ++ ys) ≡ sights_of xs ++ sights_of ys
sights_append [] ys = refl
sights_append (Told e cs ∷ xs) ys = ap (λ es. record { event = e; cells = cs } ∷ es) (sights_append xs ys)
sights_append (Here spot cs ∷ xs) ys = sights_append xs ys
sights_append (Head at l arrived cs ∷ xs) ys = sights_append xs ys

one_sight : (x : Moment) (es : List Sight) → es ++ sights_of (x ∷ []) ≡ seen_by noted x es
one_sight (Told e cs) es = refl
one_sight (Here spot cs) es = append-nil es
one_sight (Head at l arrived cs) es = append-nil es

-- what is noted of moments, the last of them first
abbrev all_noted : List Moment → List Sight
all_noted xs = sights_of (reverse xs)

noted_next : (x : Moment) (xs : List Moment) → all_noted (x ∷ xs) ≡ seen_by noted x (all_noted xs)
noted_next x xs = ap sights_of (reverse-append (x ∷ []) xs) ∙ sights_append (reverse xs) (x ∷ []) ∙ one_sight x (sights_of (reverse xs))

module _ (p : Program) (choices : Choices) (n : ℕ) where
  abbrev equal : Flow → Flow → Type 0
  equal f g = f ≡ g

  matched : (w : Res End (State (List Moment)) Flow) (r : Res End (State (List Sight)) Flow) → Same p (List Moment) (List Sight) (λ x xs. x ∷ xs) (seen_by noted) all_noted noted_next equal w r
      → (run_of n r ≡ run_of n w) × ((state_of r).seen ≡ all_noted (state_of w).seen)
  matched (Go f s) (Go g t) h = (ap (λ u. run_of n (Go g u)) (sym h.1), ap (λ u. u.seen) (sym h.1))
  matched (Go f s) (Stop e t) h = absurd h
  matched (Stop e s) (Go g t) h = absurd h
  matched (Stop e s) (Stop d t) h = (ap (λ u. run_of n (Stop d u)) (sym h.1) ∙ ap (λ e. run_of n (Stop e s)) (sym h.0), ap (λ u. u.seen) (sym h.1))

  -- the run of which all events are noted is the run, and they are its moments' events
  pub noted_run : let r = run.Seen p (List Sight) (seen_by noted) [] choices n in (run_of n r ≡ run.Run p choices n) × ((state_of r).seen ≡ sights_of (Moments p choices n))
  noted_run = matched (Whole p choices n) (run.Seen p (List Sight) (seen_by noted) [] choices n) (watched_run p (List Moment) (List Sight) (λ x xs. x ∷ xs) (seen_by noted) all_noted noted_next [] choices n)

  -- where a machine of the program's code ends, is the program's run
  pub run_is : (c : Code) → IsSimulated p c → (e : End) (s : State (List Sight)) → Ends c (List Sight) noted (first_machine c (List Sight) [] choices n) e s
      → (run.Run p choices n ≡ record { end = e; steps = n - s.steps; draws = s.draws; unfixed = s.unfixed }) × (s.seen ≡ sights_of (Moments p choices n))
  run_is c h e s g =
      let r = run.Seen p (List Sight) (seen_by noted) [] choices n in
      let once = ends_once c (List Sight) noted (first_machine c (List Sight) [] choices n) (end_of r) e (state_of r) s (h.ends choices n) g in (
        sym noted_run.0 ∙ ap (λ x. record { end = x; steps = n - (state_of r).steps; draws = (state_of r).draws; unfixed = (state_of r).unfixed }) once.0
            ∙ ap (λ u. record { end = e; steps = n - u.steps; draws = u.draws; unfixed = u.unfixed }) once.1,
        ap (λ u. u.seen) (sym once.1) ∙ noted_run.1,
      )
