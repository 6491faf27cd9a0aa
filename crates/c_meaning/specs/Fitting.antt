-- Cells hold values of their objects' types, objects in reach have their cells, and expressions give values of their types.
use Rattle.std.specs.Prelude.{◌≡◌, ◌<◌, ℕ, suc, ℤ, List, [], ◌∷◌, ◌++◌, length, map, Option, Some, None, IsTrue, slice_get}
use Rattle.std.specs.List.{All}
use Rattle.c_core.specs.Types.{in_range}
use Rattle.c_core.specs.Parts.{type_of, declared_by, every_statement}
use Rattle.c_core.specs.Tree.{Exp, Stm, Function, Program}
use Rattle.c_core.specs.Typing.{is_typed, statement_fits}
use Rattle.c_core.specs.Scope.{is_reached, reaches, statement_reaches, statement_nests}
use Rattle.c_core.specs.declared.number.IntType.{IntType}
use Rattle.c_core.specs.declared.number.Spot.{Spot}
use Rattle.c_core.specs.declared.number.DataModel.{DataModel}
use Rattle.c_meaning.specs.declared.run.Choices.{Choices}
use Rattle.c_meaning.specs.declared.run.End.{End}
use Rattle.c_meaning.specs.Cells.{Key, Cell, live}
use Rattle.c_meaning.specs.Objects.{type_of_object, size_of_object}
use Rattle.c_meaning.specs.Meaning.{Use, Where, Meaning, Calls}
use Rattle.c_meaning.specs.Acts.{Res, Go, Stop, Flow, Next, Broken, Again, Gave}
use Rattle.c_meaning.specs.Eval.{eval}
use Rattle.c_meaning.specs.Exec.{exec, with_params, call_of, run_in}
use Rattle.c_meaning.specs.Duties.{Placed}
use Rattle.c_meaning.specs.Run.{Moment, Told, Here, Head, State, cells_of, real, state_of, first_cells, Whole, Moments}
use Rattle.c_meaning.specs.Havoc.{Stopped, Left, cells_left, havoc, havoc_in, redraw}

-- a value of a type; any where an expression is void
abbrev pub IsOf : DataModel → Option IntType → ℤ → Type 0
IsOf m None v = Unit {0}
IsOf m (Some ty) v = IsTrue (in_range m ty v)

-- calls at most n deep
abbrev pub calls_in : Program → (M : Meaning) → ℕ → Calls M
calls_in p M n = λ site f vs. call_of p M (run_in p M n) site (slice_get p.functions f) vs

abbrev pub keys : List Cell → List Key
keys cs = map (λ c. c.key) cs

-- the second cells are the first, whatever they hold, and more
abbrev pub Grows : List Cell → List Cell → Type 0
Grows cs ds = (more : List Key) × (keys ds ≡ keys cs ++ more)

module _ (p : Program) where
  -- it holds a value of its object's type (C11 6.2.6.1p4)
  abbrev pub IsFittingCell : Cell → Type 0
  IsFittingCell c = IsTrue (in_range p.model (type_of_object p c.key.object) c.value)

  abbrev pub FitCells : List Cell → Type 0
  FitCells cs = All IsFittingCell cs

  -- each object in reach has its cells
  abbrev pub AreLive : List ℕ → List Cell → Type 0
  AreLive reach cs = (o i : ℕ) → IsTrue (is_reached p reach o) → i < size_of_object p o → IsTrue (live (record { object = o; index = i }) cs)

  -- the cells where a part begins that sees these objects
  pub record AreSound (reach : List ℕ) (cs : List Cell) : Type 0 where
    pub fit : FitCells cs
    pub live : AreLive reach cs

  -- objects of static storage are in reach at every moment
  abbrev pub FitMoment : Moment → Type 0
  FitMoment (Told e cs) = AreSound [] cs
  FitMoment (Here spot cs) = AreSound [] cs
  FitMoment (Head at l arrived cs) = AreSound [] arrived × AreSound [] cs

  -- what is after a statement sees sound cells too; a value that it gives is one of the function's result, and it gives none only where there is no result
  abbrev pub Leaves : List ℕ → Option IntType → Flow → List Cell → Type 0
  Leaves behind result Next cs = AreSound behind cs
  Leaves behind result Broken cs = Unit {0}
  Leaves behind result Again cs = Unit {0}
  Leaves behind result (Gave None) cs = result ≡ None
  Leaves behind result (Gave (Some v)) cs = IsOf p.model result v

  module _ {E T : Type 0} (cells : T → List Cell) where
    -- an expression gives a value of its type, and leaves the cells that were before it, sound; where it ends the run they fit
    abbrev pub GivesOne : List Cell → List ℕ → Option IntType → Res E T ℤ → Type 0
    GivesOne before reach ty (Go v s) = (keys (cells s) ≡ keys before) × AreSound reach (cells s) × IsOf p.model ty v
    GivesOne before reach ty (Stop e s) = FitCells (cells s)

    -- a statement leaves the cells that were before it, sound for what was in reach, and more
    abbrev pub LeavesSome : List Cell → List ℕ → List ℕ → Option IntType → Res E T Flow → Type 0
    LeavesSome before reach behind result (Go flow s) = Grows before (cells s) × AreSound reach (cells s) × Leaves behind result flow (cells s)
    LeavesSome before reach behind result (Stop e s) = FitCells (cells s)

    -- a body begins with its parameters in reach, beside the cells that were before
    pub record Begins (before : List Cell) (fn : Function) (body : T → Res E T Flow) (whole : Res E T Flow) : Type 0 where
      pub state : T
      pub grows : Grows before (cells state)
      pub sound : AreSound fn.params (cells state)
      pub is : whole ≡ body state

  -- drawn anew, the cells are those that were before, and sound
  abbrev pub Redrawn : List ℕ → Left → Res Stopped Left (Unit {0}) → Type 0
  Redrawn reach s (Go a t) = (keys t.cells ≡ keys s.cells) × AreSound reach t.cells
  Redrawn reach s (Stop e t) = ⊥

  -- a checked expression, and a checked statement, where these objects are in reach
  pub record IsSeen (reach : List ℕ) (e : Exp) : Type 0 where
    pub types : IsTrue (is_typed p e)
    pub names : IsTrue (reaches p reach e)

  pub record IsDone (result : Option IntType) (reach : List ℕ) (s : Stm) : Type 0 where
    pub types : IsTrue (every_statement (statement_fits p result) s)
    pub names : IsTrue (statement_reaches p reach s)
    pub blocks : IsTrue (every_statement statement_nests s)

  abbrev keep : Moment → List Moment → List Moment
  keep x xs = x ∷ xs

  -- of every run and every havoc run
  pub record CellsFit : Type 0 where
    pub first : AreSound [] (first_cells p)
    pub function : (f : ℕ) (fn : Function) → slice_get p.functions f ≡ Some fn → IsDone fn.result fn.params fn.body
    pub run : (c : Choices) (N : ℕ) → All FitMoment (Moments p c N)
    pub run_end : (c : Choices) (N : ℕ) → FitCells (state_of (Whole p c N)).cells
    pub havoc_end : (I : List Placed) (w : List ℤ) → FitCells (state_of (havoc_in p I (suc (length p.functions)) w)).cells
    pub value : (n : ℕ) (at : Where) (want : Use) (reach : List ℕ) (e : Exp) (s : State (List Moment)) → IsSeen reach e → AreSound reach s.cells
        → GivesOne cells_of s.cells reach (type_of e) (eval p (real p (List Moment) keep) (calls_in p (real p (List Moment) keep) n) at want e s)
    pub statement : (n : ℕ) (result : Option IntType) (reach : List ℕ) (st : Stm) (s : State (List Moment)) → IsDone result reach st → AreSound reach s.cells
        → LeavesSome cells_of s.cells reach (reach ++ declared_by st) result (exec p (real p (List Moment) keep) (calls_in p (real p (List Moment) keep) n) result st s)
    pub body : (f : ℕ) (fn : Function) (vs : List (ℤ × IntType)) (s : State (List Moment)) (k : State (List Moment) → Res End (State (List Moment)) Flow) → slice_get p.functions f ≡ Some fn → AreSound [] s.cells
        → Begins cells_of s.cells fn k (with_params p (real p (List Moment) keep) fn.params vs k s)
    pub havoc_value : (I : List Placed) (n : ℕ) (at : Where) (want : Use) (reach : List ℕ) (e : Exp) (s : Left) → IsSeen reach e → AreSound reach s.cells
        → GivesOne cells_left s.cells reach (type_of e) (eval p (havoc p I) (calls_in p (havoc p I) n) at want e s)
    pub havoc_statement : (I : List Placed) (n : ℕ) (result : Option IntType) (reach : List ℕ) (st : Stm) (s : Left) → IsDone result reach st → AreSound reach s.cells
        → LeavesSome cells_left s.cells reach (reach ++ declared_by st) result (exec p (havoc p I) (calls_in p (havoc p I) n) result st s)
    pub havoc_body : (I : List Placed) (f : ℕ) (fn : Function) (vs : List (ℤ × IntType)) (s : Left) (k : Left → Res Stopped Left Flow) → slice_get p.functions f ≡ Some fn → AreSound [] s.cells
        → Begins cells_left s.cells fn k (with_params p (havoc p I) fn.params vs k s)
    -- at a loop's head, where objects are drawn anew
    pub redrawn : (I : List Placed) (spot : Spot) (os reach : List ℕ) (s : Left) → AreSound reach s.cells → Redrawn reach s (redraw p I spot os s)
