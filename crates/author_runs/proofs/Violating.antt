-- A run that violates the property ends with that, in a statement.
use Rattle.std.proofs.Common.{◌≡◌, ℕ, true, List, [], ◌∷◌, ◌++◌, reverse, Option, Some, None, refl, ap, ◌∙◌, subst}
use Rattle.std.proofs.lemmas.Bool.{false≢true}
use Rattle.std.proofs.lemmas.List.{reverse-append}
use Rattle.c_core.specs.Program.{IsProgram}
use Rattle.c_core.specs.Tree.{Program}
use Rattle.c_core.specs.declared.number.Spot.{Spot}
use Rattle.c_meaning.specs.declared.run.Choices.{Choices}
use Rattle.c_meaning.specs.declared.run.End.{End}
use Rattle.c_meaning.specs.declared.run.End.TheVariants.{Ended, Undefined, Violated, Spent, Deep}
use Rattle.c_meaning.specs.declared.run.Event.{Event}
use Rattle.c_meaning.specs.declared.run.Event.TheVariants.{At, Branch, Enter, Return, Fail}
use Rattle.c_meaning.specs.Acts.{Res, Go, Stop, Flow}
use Rattle.c_meaning.specs.Cells.{Cell}
use Rattle.c_meaning.specs.Run.{State, Moment, Told, Here, Head, Whole, end_of, state_of}
use Rattle.author_runs.specs.Returning.{IsViolatedIn, ViolationsEndRuns, violated_among, violated_at, violated_in}
use Rattle.author_runs.proofs.Bodies.{In, aim, bodies}
use Rattle.author_runs.proofs.Known.{Ends}
use Rattle.author_runs.proofs.Runs as runs
use Rattle.author_runs.proofs.Runs.{Invariant, is_plain}

among-append : (before : Option Spot) (xs ys : List Moment)
    → violated_among before (xs ++ ys) ≡ violated_among (violated_among before xs) ys
among-append before [] ys = refl
among-append before (Told e cells ∷ xs) ys = among-append (violated_in e before) xs ys
among-append before (Here spot cells ∷ xs) ys = among-append before xs ys
among-append before (Head at l arrived cells ∷ xs) ys = among-append before xs ys

-- the last moment is the first of the list
one_more : (m : Moment) (xs : List Moment)
    → violated_at (reverse (m ∷ xs)) ≡ violated_among (violated_at (reverse xs)) (m ∷ [])
one_more m xs = ap violated_at (reverse-append (m ∷ []) xs) ∙ among-append None (reverse xs) (m ∷ [])

module _ (p : Program) where
  -- no moment is a violation
  abbrev Unviolated : List Moment → Type 0
  Unviolated xs = violated_at (reverse xs) ≡ None

  abbrev ViolatedIn : List Moment → Type 0
  ViolatedIn xs = (statement : Spot) × IsViolatedIn p (reverse xs) statement

  abbrev After : End → List Moment → Type 0
  After (Violated spot) xs = ViolatedIn xs
  After Ended xs = Unit {0}
  After (Undefined spot) xs = Unit {0}
  After Spent xs = Unit {0}
  After Deep xs = Unit {0}

  noted : (m : Moment) (xs : List Moment)
      → violated_among (violated_at (reverse xs)) (m ∷ []) ≡ violated_at (reverse xs) → Unviolated xs
      → Unviolated (m ∷ xs)
  noted m xs e h = one_more m xs ∙ e ∙ h

  told : (e : Event) (cs : List Cell) (xs : List Moment) → is_plain e ≡ true → Unviolated xs
      → Unviolated (Told e cs ∷ xs)
  told (At spot) cs xs q h = noted (Told (At spot) cs) xs refl h
  told (Branch spot way) cs xs q h = noted (Told (Branch spot way) cs) xs refl h
  told (Enter close) cs xs q h = noted (Told (Enter close) cs) xs refl h
  told (Return close v) cs xs q h = absurd (false≢true q)
  told (Fail statement full call) cs xs q h = absurd (false≢true q)

  failed : (statement full : Spot) (call : Option Spot) (cs : List Cell) (xs : List Moment) → In p statement
      → Unviolated xs → ViolatedIn (Told (Fail statement full call) cs ∷ xs)
  failed statement full call cs xs z h = (
    statement,
    record {
      fails = record {
        before = reverse xs;
        full = full;
        call = call;
        cells = cs;
        last = reverse-append
            (Told (Fail statement full call) cs ∷ []) xs;
        only = h;
      };
      violated = one_more (Told (Fail statement full call) cs) xs;
      aim = aim p statement z;
    },
  )

  violations : Invariant (List Moment) (λ x xs. x ∷ xs) (Ends p) (In p)
  violations = record {
    Holds = λ ds. Unviolated;
    Over = λ e ds. After e;
    ended = λ ds xs h. tt;
    undefined = λ spot ds xs h. tt;
    spent = λ ds xs h. tt;
    deep = λ ds xs h. tt;
    failed = λ statement full spot call cs ds xs z h. failed statement full call cs xs z h;
    told = λ e cs ds xs q h. told e cs xs q h;
    here = λ spot cs ds xs h. noted (Here spot cs) xs refl h;
    head = λ spot l arrived cs ds xs h. noted (Head spot l arrived cs) xs refl h;
    returned = λ f spot close v cs ds xs ends h. noted (Told (Return close v) cs) xs refl h;
    cell = λ spot ty v ds xs h. h;
    input = λ spot close ty v cs ds xs ends h. noted (Told (Return close (Some v)) cs) xs refl h;
  }

  of_end : (r : Res End (State (List Moment)) Flow) (spot : Spot)
      → runs.HoldsAfter p (List Moment) (λ x xs. x ∷ xs) (Ends p) (In p) violations r → end_of r ≡ Violated spot
      → ViolatedIn (state_of r).seen
  unfolding violations
  of_end (Go f s) spot h e = absurd (cc)
  of_end (Stop o s) spot h e = subst (λ (x : End). After x s.seen) e h

  pub violations_end : IsProgram p → (c : Choices) (N : ℕ) → ViolationsEndRuns p c N
  unfolding violations
  violations_end checked c N spot e =
      of_end (Whole p c N) spot
      (runs.holds_of_run p (List Moment) (λ x xs. x ∷ xs) (Ends p) (In p) violations (bodies p checked) c N [] refl) e
