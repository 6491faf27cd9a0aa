-- Each input that a run draws comes back at the end of its call.
use Rattle.std.proofs.Common.{◌≡◌, ℕ, ℤ, true, List, [], ◌∷◌, ◌++◌, reverse, Option, Some, None, refl, sym, ap, ◌∙◌, append-nil}
use Rattle.std.proofs.lemmas.Bool.{false≢true}
use Rattle.std.proofs.lemmas.List.{reverse-append}
use Rattle.std.proofs.lemmas.List.Elements.{filter_map-append}
use Rattle.std.proofs.lemmas.List.Folds.{list_all-append}
use Rattle.std.specs.List.{cons_option, list_all}
use Rattle.c_core.specs.Program.{IsProgram}
use Rattle.c_core.specs.Tree.{Program}
use Rattle.c_core.specs.declared.number.IntType.{IntType}
use Rattle.c_core.specs.declared.number.Spot.{Spot}
use Rattle.c_core.specs.declared.tree.Callee.TheVariants.{Defined, Input as InputFunction}
use Rattle.c_meaning.specs.declared.run.Choices.{Choices}
use Rattle.c_meaning.specs.declared.run.Draw.{Draw}
use Rattle.c_meaning.specs.declared.run.DrawKind.TheVariants.{Input, Cell as OfCell}
use Rattle.c_meaning.specs.declared.run.End.{End}
use Rattle.c_meaning.specs.declared.run.Event.{Event}
use Rattle.c_meaning.specs.declared.run.Event.TheVariants.{At, Branch, Enter, Return, Fail}
use Rattle.c_meaning.specs.Acts.{Res, Go, Stop, Flow}
use Rattle.c_meaning.specs.Cells.{Cell}
use Rattle.c_meaning.specs.Run.{State, Moment, Told, Here, Head, Whole, state_of}
use Rattle.author_runs.specs.Returning.{CameBack, InputsComeBack, back_at, back_in, came_of, drawn_to, has_end, inputs_in, returns_in}
use Rattle.author_runs.proofs.Bodies.{In, bodies}
use Rattle.author_runs.proofs.Known.{Ends}
use Rattle.author_runs.proofs.Runs as runs
use Rattle.author_runs.proofs.Runs.{Invariant, is_plain}

module _ (p : Program) where
  -- what came back is what was drawn; the last moment is the first of the list
  record Back (ds : List Draw) (xs : List Moment) : Type 0 where
    returned : returns_in p (reverse xs) ≡ inputs_in p ds
    ended : list_all (has_end p) ds ≡ true

  one_more : (m : Moment) (xs : List Moment)
      → returns_in p (reverse (m ∷ xs)) ≡ returns_in p (reverse xs) ++ cons_option (back_in p m) []
  one_more m xs = ap (returns_in p) (reverse-append (m ∷ []) xs) ∙ filter_map-append (back_in p) (reverse xs) (m ∷ [])

  one_drawn : (d : Draw) (ds : List Draw)
      → inputs_in p (ds ++ d ∷ []) ≡ inputs_in p ds ++ cons_option (came_of p d.from d) []
  one_drawn d ds = filter_map-append (λ d. came_of p d.from d) ds (d ∷ [])

  still_ended : (d : Draw) (ds : List Draw) → has_end p d ≡ true → list_all (has_end p) ds ≡ true
      → list_all (has_end p) (ds ++ d ∷ []) ≡ true
  still_ended d ds e h = list_all-append (has_end p) ds (d ∷ []) ∙ rw h (rw e refl)

  -- nothing comes back
  noted : (m : Moment) (ds : List Draw) (xs : List Moment) → back_in p m ≡ None → Back ds xs → Back ds (m ∷ xs)
  noted m ds xs e h = record {
    returned =
        one_more m xs ∙ ap (λ o. returns_in p (reverse xs) ++ cons_option o []) e ∙ append-nil (returns_in p (reverse xs))
        ∙ h.returned;
    ended = h.ended;
  }

  told : (e : Event) (cs : List Cell) → is_plain e ≡ true → back_in p (Told e cs) ≡ None
  told (At spot) cs q = refl
  told (Branch spot way) cs q = refl
  told (Enter close) cs q = refl
  told (Return close v) cs q = absurd (false≢true q)
  told (Fail statement full call) cs q = refl

  returned : (f : ℕ) (spot close : Spot) (v : Option ℤ) (cs : List Cell) → Ends p (Defined f) spot close
      → back_in p (Told (Return close v) cs) ≡ None
  returned f spot close None cs ends = refl
  returned f spot close (Some v) cs ends = ap (back_at close v) ends

  cell : (spot : Spot) (ty : IntType) (v : ℤ) (ds : List Draw) (xs : List Moment) → Back ds xs
      → Back (ds ++ record { spot = spot; ty = ty; value = v; from = OfCell } ∷ []) xs
  cell spot ty v ds xs h =
      let d : Draw = record { spot = spot; ty = ty; value = v; from = OfCell } in record {
        returned = h.returned ∙ sym (one_drawn d ds ∙ append-nil (inputs_in p ds));
        ended = still_ended d ds refl h.ended;
      }

  input : (spot close : Spot) (ty : IntType) (v : ℤ) (cs : List Cell) (ds : List Draw) (xs : List Moment)
      → Ends p (InputFunction ty) spot close → Back ds xs
      → Back (ds ++ record { spot = spot; ty = ty; value = v; from = Input } ∷ [])
      (Told (Return close (Some v)) cs ∷ xs)
  input spot close ty v cs ds xs ends h =
      let d : Draw = record { spot = spot; ty = ty; value = v; from = Input } in
      let came : CameBack = record { close = close; call = record { spot = spot; ty = ty }; value = v } in
      let back : back_in p (Told (Return close (Some v)) cs) ≡ Some came = ap (back_at close v) ends.0 in
      let drawn : came_of p Input d ≡ Some came = ap (drawn_to d) ends.1 in record {
        returned =
            one_more (Told (Return close (Some v)) cs) xs ∙ ap (λ o. returns_in p (reverse xs) ++ cons_option o []) back
            ∙ ap (λ l. l ++ came ∷ []) h.returned
            ∙ sym (one_drawn d ds ∙ ap (λ o. inputs_in p ds ++ cons_option o []) drawn);
        ended = still_ended d ds (rw ends.1 refl) h.ended;
      }

  inputs : Invariant (List Moment) (λ x xs. x ∷ xs) (Ends p) (In p)
  inputs = record {
    Holds = Back;
    Over = λ e. Back;
    ended = λ ds xs h. h;
    undefined = λ spot ds xs h. h;
    spent = λ ds xs h. h;
    deep = λ ds xs h. h;
    failed = λ statement full spot call cs ds xs z h. noted (Told (Fail statement full call) cs) ds xs refl h;
    told = λ e cs ds xs q h. noted (Told e cs) ds xs (told e cs q) h;
    here = λ spot cs ds xs h. noted (Here spot cs) ds xs refl h;
    head = λ spot l arrived cs ds xs h. noted (Head spot l arrived cs) ds xs refl h;
    returned = λ f spot close v cs ds xs ends h.
        noted (Told (Return close v) cs) ds xs (returned f spot close v cs ends) h;
    cell = cell;
    input = input;
  }

  of_end : (r : Res End (State (List Moment)) Flow)
      → runs.HoldsAfter p (List Moment) (λ x xs. x ∷ xs) (Ends p) (In p) inputs r
      → Back (state_of r).draws (state_of r).seen
  unfolding inputs
  of_end (Go f s) h = h
  of_end (Stop e s) h = h

  pub inputs_back : IsProgram p → (c : Choices) (N : ℕ) → InputsComeBack p c N
  unfolding inputs
  inputs_back checked c N =
      let h = of_end (Whole p c N)
      (runs.holds_of_run p (List Moment) (λ x xs. x ∷ xs) (Ends p) (In p) inputs (bodies p checked) c N []
      (record { returned = refl; ended = refl })) in
      record { returned = h.returned; ended = h.ended }
