-- The values of the draws of runs and havoc runs are values of their types.
use Rattle.std.proofs.Common.{◌≡◌, ℕ, suc, ℤ, List, [], ◌∷◌, length, refl}
use Rattle.std.specs.List.{All}
use Rattle.std.proofs.lemmas.List.Elements.{All-nil, All-push}
use Rattle.c_core.specs.Tree.{Program}
use Rattle.c_core.specs.declared.number.IntType.{IntType}
use Rattle.c_core.specs.declared.number.Done.{Done}
use Rattle.c_core.specs.declared.number.Done.TheVariants.{Value, Overflow, Undefined}
use Rattle.c_core.proofs.Fits.{fit_in_range}
use Rattle.c_meaning.specs.declared.run.End.{End}
use Rattle.c_meaning.specs.declared.run.Draw.{Draw}
use Rattle.c_meaning.specs.declared.run.Choices.{Choices}
use Rattle.c_meaning.specs.Cells.{Cell}
use Rattle.c_meaning.specs.Acts.{Res, Go, Stop, Flow}
use Rattle.c_meaning.specs.Run as run
use Rattle.c_meaning.specs.Run.{Run, State, Moment, cells_of, with_cells, state_of, first_cells, chosen, or_zero, first_value}
use Rattle.c_meaning.specs.Duties.{Placed, Duties}
use Rattle.c_meaning.specs.Havoc.{Stopped, Left, cells_left, with_cells_left, Havoc, havoc_in, havoc_run}
use Rattle.c_meaning.specs.Drawn.{IsFitting, AreFitting}
use Rattle.c_meaning.specs.Related.{given_by, given_by_one}
use Rattle.c_meaning.proofs.Fundamental.{Free, all_fit, all_fit_params}
use Rattle.c_meaning.proofs.Stateful as st
use Rattle.c_meaning.proofs.KeptRuns as runs
use Rattle.c_meaning.proofs.KeptHavocRuns as havocs
use Rattle.c_meaning.proofs.Widths.{are_fitting}

pub any_done : (ty : IntType) (d : Done) → st.IsDone (λ t v. Unit {0}) ty d
any_done ty (Value v) = tt
any_done ty (Overflow v) = tt
any_done ty Undefined = tt

-- in states with draws, of whose cells nothing is known
module _ (p : Program) (E T : Type 0) (cells : T → List Cell) (with_new : List Cell → T → T) (same : (cs : List Cell) (s : T) → cells (with_new cs s) ≡ cs)
    (draws_of : T → List Draw) (still : (cs : List Cell) (s : T) → All (IsFitting p.model) (draws_of s) → All (IsFitting p.model) (draws_of (with_new cs s))) where
  abbrev pub drawn : st.Invariant E T cells with_new p
  drawn = record {
    Holds = λ s. All (IsFitting p.model) (draws_of s);
    Is = λ ty v. Unit {0};
    Lives = λ L cs. Unit {0};
    Agree = λ a b. Unit {0};
    IsConst = λ ty v. Unit {0};
    HasSize = λ o n. Unit {0};
    retype = λ a b v e q. tt;
    const = λ ty v q. tt;
    nought = λ ty. tt;
    digit = λ b. tt;
    fitted = λ ty v. tt;
    answered = λ op ty x y. any_done (given_by op ty) _;
    answered_one = λ op ty x q. any_done (given_by_one op ty) _;
    looked = λ s k q. tt;
    written = λ s k v q h. still _ s h;
    declared = λ s o n h. still _ s h;
    cut = λ s n h. still _ s h;
    lives_on = λ L cs ds g l. tt;
    lives_fewer = λ L cs l. tt;
    lives_declared = λ L cs o n q l. tt;
  }

  module _ (own : st.Own E T cells with_new) (k : st.KeepsOwn E T cells with_new same p drawn own) where
    free : Free (st.kept_parts E T cells with_new same p drawn own k)
    free = record {
      agree = λ a b. tt;
      const = λ ty v. tt;
      cell = λ o i. tt;
      size = λ o n. tt;
      read = λ L o. tt;
      write = λ L o. tt;
      call = λ f. tt;
      loop = λ L at l. tt;
    }

    pub fits : st.FitsAll E T cells with_new same p drawn own k
    fits = record {
      params = λ i fn e. all_fit_params p _ free fn.params;
      body = λ i fn e L z. all_fit p _ free fn.result _ fn.body;
      main = λ fn e. all_fit p _ free fn.result [] fn.body;
    }

module _ (p : Program) where
  abbrev keep : Moment → List Moment → List Moment
  keep x xs = x ∷ xs

  abbrev of_run : runs.Invariant p (List Moment) keep
  of_run = drawn p End (State (List Moment)) cells_of with_cells (λ cs s. refl) (λ s. s.draws) (λ cs s h. h)

  -- what is drawn is converted to its type
  run_stands : runs.Stands p (List Moment) keep of_run
  run_stands = record {
    steps = λ s n h. h;
    active = λ s n h. h;
    drawn = λ s kind spot ty h. All-push (IsFitting p.model) s.draws _ h (fit_in_range p.model ty (or_zero (chosen kind spot s.choices)));
    Arrived = λ cs. Unit {0};
    arrived = λ s h l. tt;
    told = λ s e h l. h;
    here = λ s spot h l. h;
    head = λ s at l cs r h z. h;
  }

  run_keeps : st.KeepsOwn End (State (List Moment)) cells_of with_cells (λ cs s. refl) p of_run (runs.own_parts p (List Moment) keep)
  run_keeps = runs.run_keeps p (List Moment) keep of_run run_stands

  pub draws_fit : (c : Choices) (N : ℕ) → AreFitting p.model (Run p c N).draws
  draws_fit c N =
      are_fitting p.model (Run p c N).draws
      (st.keeps_main End (State (List Moment)) cells_of with_cells (λ cs s. refl) p of_run (runs.own_parts p (List Moment) keep) run_keeps
      (fits p End (State (List Moment)) cells_of with_cells (λ cs s. refl) (λ s. s.draws) (λ cs s h. h) (runs.own_parts p (List Moment) keep) run_keeps)
      (suc N) (run.first_state p (List Moment) [] c N) (All-nil (IsFitting p.model)) tt)

  module _ (I : List Placed) where
    abbrev of_havoc : havocs.Invariant p I
    of_havoc = drawn p Stopped Left cells_left with_cells_left (λ cs s. refl) (λ s. s.draws) (λ cs s h. h)

    havoc_stands : havocs.Stands p I of_havoc
    havoc_stands = record { drawn = λ s kind spot ty h. All-push (IsFitting p.model) s.draws _ h (fit_in_range p.model ty (or_zero (first_value s.values))) }

    havoc_keeps : st.KeepsOwn Stopped Left cells_left with_cells_left (λ cs s. refl) p of_havoc (havocs.own_parts p I)
    havoc_keeps = havocs.havoc_keeps p I of_havoc havoc_stands

    same_draws : (r : Res Stopped Left Flow) → All (IsFitting p.model) (state_of r).draws → All (IsFitting p.model) (havoc_run (Duties p I) r).draws
    same_draws (Go f s) h = h
    same_draws (Stop e s) h = h

    pub havoc_draws_fit : (values : List ℤ) → AreFitting p.model (Havoc p I values).draws
    havoc_draws_fit values =
        are_fitting p.model (Havoc p I values).draws (same_draws (havoc_in p I (suc (length p.functions)) values)
        (st.keeps_main Stopped Left cells_left with_cells_left (λ cs s. refl) p of_havoc (havocs.own_parts p I) havoc_keeps
        (fits p Stopped Left cells_left with_cells_left (λ cs s. refl) (λ s. s.draws) (λ cs s h. h) (havocs.own_parts p I) havoc_keeps)
        (suc (length p.functions)) (record { cells = first_cells p; values = values; draws = [] }) (All-nil (IsFitting p.model)) tt))
