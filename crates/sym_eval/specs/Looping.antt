-- What the walk of a loop onto a net is to give, part by part.
use Rattle.std.specs.Prelude.{◌≡◌, ℕ, zero, suc, ◌+◌, ◌*◌, ◌<◌, ◌^◌, Bool, false, true, ◌&&◌, length, List, Option, Some, None, is_some, IsTrue}
use Rattle.std.specs.List.{list_all}
use Rattle.c_core.specs.Tree.{Program, First, Stm}
use Rattle.c_core.specs.Parts.{fulls_of_first, every_statement}
use Rattle.c_core.specs.Typing.{is_typed, first_fits, statement_fits}
use Rattle.c_core.specs.declared.number.IntType.{IntType}
use Rattle.c_core.specs.declared.number.Spot.{Spot}
use Rattle.c_calls.specs.Loops.{changed_if}
use Rattle.c_meaning.specs.declared.run.DutyKind.TheVariants.{Entry}
use Rattle.c_meaning.specs.Acts.{Res, Go, Flow, Next, Broken, bind, go_on, scoped, continued}
use Rattle.c_meaning.specs.Duties.{Placed, Duties}
use Rattle.c_meaning.specs.Exec.{first, exec, turn, control, going}
use Rattle.c_meaning.specs.Havoc.{Stopped, Passes}
use Rattle.sym_meaning.specs.Mode.{JudgedState, cells_judged, with_cells_judged, Mode}
use Rattle.sym_meaning.specs.Judged.{judged, stop}
use Rattle.sym_meaning.specs.Obliging.{test_from, assume_all, redraw}
use Rattle.c_meaning.specs.Meaning.{Loop, WhileLoop, DoLoop, ForLoop}
use Rattle.c_meaning.specs.Objects.{type_or_int}
use Rattle.sym_state.specs.declared.state.Sym.{Sym}
use Rattle.sym_state.specs.Standing.{IsState}
use Rattle.sym_state.specs.Following.{Follows}
use Rattle.sym_flow.specs.Leaving.{Runs}
use Rattle.sym_scale.specs.Cost as cost
use Rattle.sym_scale.specs.Cost.{Cost, nodes, bits}
use Rattle.sym_weight.specs.Table.{bits_of_objects}
use Rattle.sym_weight.specs.Weight.{placed_weight}
use Rattle.sym_eval.specs.Control.{is_test, is_typed_if, test_glue}
use Rattle.sym_eval.specs.Doing.{calls, weight_of, bits_of, weight_of_first, bits_of_first}

-- and-nodes of one turn besides its parts: those of its test, and of its body's end
abbrev pub turn_glue : ℕ
turn_glue = 4

-- of the turn that begins no body: those of its test, and of the end of runs
abbrev pub last_glue : ℕ
last_glue = 4

-- and those after the turns: runs at the head again end, and those that left the loop go on
abbrev pub loop_glue : ℕ
loop_glue = 6

-- what stands in a loop at a place, if there is one, summed up as forms of statements are
module _ (p : Program) (C : Cost) (gives : Option IntType) (at : Spot) where
  -- the test
  abbrev pub test_part : Option Loop → ℕ
  test_part None = 0
  test_part (Some (WhileLoop e b)) = cost.control p C at e
  test_part (Some (DoLoop b e)) = cost.control p C at e
  test_part (Some (ForLoop e s b)) = cost.control_if p C at e

  -- step and body
  abbrev pub rest_part : Option Loop → ℕ
  rest_part None = 0
  rest_part (Some (WhileLoop e b)) = cost.statement p C gives b
  rest_part (Some (DoLoop b e)) = cost.statement p C gives b
  rest_part (Some (ForLoop e s b)) = cost.expression_if p C s + cost.statement p C gives b

  -- one turn
  abbrev pub turn_parts : Option Loop → ℕ
  turn_parts l = test_part l + rest_part l

  -- all turns, with the loop's head
  abbrev pub loop_parts : Option Loop → ℕ
  loop_parts l = C.head at (changed_if p l) + C.turns (test_part l) (rest_part l)

-- of turns of which r may begin the body, and of the one after them
abbrev pub turns_parts : ℕ → ℕ → ℕ → ℕ
turns_parts zero test rest = test
turns_parts (suc r) test rest = test + rest + turns_parts r test rest

module _ (p : Program) where
  -- the parts of a turn are typed, in a function of this result
  abbrev pub turn_fits : Option IntType → Option Loop → Bool
  turn_fits gives None = true
  turn_fits gives (Some (WhileLoop e b)) = is_test p (Some e) && every_statement (statement_fits p gives) b
  turn_fits gives (Some (DoLoop b e)) = is_test p (Some e) && every_statement (statement_fits p gives) b
  turn_fits gives (Some (ForLoop e s b)) = is_test p e && (is_typed_if p s && every_statement (statement_fits p gives) b)

  -- the cells that a loop changes, in bits
  abbrev pub changed_bits : Option Loop → ℕ
  changed_bits l = bits_of_objects p (changed_if p l)

module _ (p : Program) (I : List Placed) where
  -- in the mode of obligations, before the turn: the invariants are tested on arrival, what the loop changes draws, and the invariants are assumed
  pub record HeadDoes (at : Spot) (l : Option Loop) (old new : Sym) : Type 0 where
    pub arrived : Sym
    pub redrawn : Sym
    pub entry : Follows (Duties p I) p (placed_weight p I true at) 0 old arrived (λ v u. Unit {0}) (λ v. test_from p I 0 I true at Entry)
    pub draws : Follows (Duties p I) p (4 * changed_bits p l) (changed_bits p l) arrived redrawn (λ v u. Unit {0}) (λ v. redraw p I at (changed_if p l))
    pub assumed : Follows (Duties p I) p (placed_weight p I true at) 0 redrawn new (λ v u. Unit {0}) (λ v. assume_all p I I at)

-- calls at most n deep, in a function of this result
module _ (p : Program) (W : Mode) (n : ℕ) (gives : Option IntType) where
  -- ---- a loop's body
  -- the statement and its end
  pub record BodyReady (s : Sym) (b : Stm) : Type 0 where
    pub fits : IsState p s
    pub result : s.result ≡ type_or_int gives
    pub types : IsTrue (every_statement (statement_fits p gives) b)
    pub room : length s.net + (1 + (weight_of p W n gives b + bits_of p W n gives b)) < 2 ^ 27

  abbrev pub BodyDoes : Stm → Sym → Sym → Type 0
  BodyDoes b old new = Runs W.duties p gives (1 + weight_of p W n gives b) (bits_of p W n gives b) old new (λ v. continued Stopped JudgedState cells_judged with_cells_judged (exec p (judged p W) (calls p W n) gives b true))

  -- ---- one turn
  abbrev pub weight_of_turn : Spot → Option Loop → ℕ
  weight_of_turn at l = turn_parts p (nodes p W.scale n) gives at l

  abbrev pub bits_of_turn : Spot → Option Loop → ℕ
  bits_of_turn at l = turn_parts p (bits p W.scale n) gives at l

  -- a turn can be done from a state
  pub record TurnReady (at : Spot) (s : Sym) (l : Option Loop) : Type 0 where
    pub fits : IsState p s
    pub result : s.result ≡ type_or_int gives
    pub types : IsTrue (turn_fits p gives l)
    pub room : length s.net + (turn_glue + (weight_of_turn at l + bits_of_turn at l)) < 2 ^ 27

  -- told whether it may begin the body; where there is no loop, nothing is done
  abbrev pub turned : Bool → Spot → Option Loop → JudgedState → Res Stopped JudgedState Flow
  turned may at None s = Go Next s
  turned may at (Some l) s = turn p (judged p W) (calls p W n) gives at l may s

  abbrev pub TurnDoes : Spot → Option Loop → Sym → Sym → Type 0
  TurnDoes at l old new = Runs W.duties p gives (turn_glue + weight_of_turn at l) (bits_of_turn at l) old new (λ v. turned true at l)

  -- ---- several turns, with the ways out of the loop open
  -- the turns of which r may begin the body, and the one after them, which ends the runs that would begin it
  abbrev pub open_turns : ℕ → Spot → Option Loop → JudgedState → Res Stopped JudgedState Flow
  open_turns zero at l s = bind (turned false at l s) (go_on (stop Passes))
  open_turns (suc r) at l s = bind (turned true at l s) (go_on (open_turns r at l))

  -- and-nodes of their parts, and drawn bits
  abbrev pub weight_of_turns : ℕ → Spot → Option Loop → ℕ
  weight_of_turns r at l = turns_parts r (test_part p (nodes p W.scale n) gives at l) (rest_part p (nodes p W.scale n) gives at l)

  abbrev pub bits_of_turns : ℕ → Spot → Option Loop → ℕ
  bits_of_turns r at l = turns_parts r (test_part p (bits p W.scale n) gives at l) (rest_part p (bits p W.scale n) gives at l)

  -- they can be done from a state
  pub record TurnsReady (r : ℕ) (at : Spot) (s : Sym) (l : Option Loop) : Type 0 where
    pub fits : IsState p s
    pub result : s.result ≡ type_or_int gives
    pub is : IsTrue (is_some l)
    pub types : IsTrue (turn_fits p gives l)
    pub room : length s.net + (last_glue + (turn_glue * r + (weight_of_turns r at l + bits_of_turns r at l))) < 2 ^ 27

  abbrev pub TurnsDo : ℕ → Spot → Option Loop → Sym → Sym → Type 0
  TurnsDo r at l old new = Runs W.duties p gives (last_glue + (turn_glue * r + weight_of_turns r at l)) (bits_of_turns r at l) old new (λ v. open_turns r at l)

  -- the test of the turn that begins no body, where it has one before the body
  abbrev pub last_tested : Spot → Option Loop → JudgedState → Res Stopped JudgedState Flow
  last_tested at (Some (WhileLoop e b)) s = control p (judged p W) (calls p W n) at e (λ may s. Go Next s) (λ may s. Go Broken s) true s
  last_tested at (Some (ForLoop e i b)) s = going p (judged p W) (calls p W n) at e (λ may s. Go Next s) true s
  last_tested at _ s = Go Next s

  abbrev pub LastDoes : Spot → Option Loop → Sym → Sym → Type 0
  LastDoes at l old new = Runs W.duties p gives (test_glue + test_part p (nodes p W.scale n) gives at l) (test_part p (bits p W.scale n) gives at l) old new (λ v. last_tested at l)

  -- ---- the whole
  abbrev pub weight_of_loop : Spot → Option Loop → ℕ
  weight_of_loop at l = loop_parts p (nodes p W.scale n) gives at l

  abbrev pub bits_of_loop : Spot → Option Loop → ℕ
  bits_of_loop at l = loop_parts p (bits p W.scale n) gives at l

  -- a loop can be done from a state
  pub record LoopReady (at : Spot) (s : Sym) (l : Option Loop) : Type 0 where
    pub fits : IsState p s
    pub result : s.result ≡ type_or_int gives
    pub is : IsTrue (is_some l)
    pub types : IsTrue (turn_fits p gives l)
    pub room : length s.net + (loop_glue + (weight_of_loop at l + bits_of_loop at l)) < 2 ^ 27

  abbrev pub looped : Spot → Option Loop → JudgedState → Res Stopped JudgedState Flow
  looped at None s = Go Next s
  looped at (Some l) s = scoped Stopped JudgedState cells_judged with_cells_judged (W.loop at l (turn p (judged p W) (calls p W n) gives at l)) s

  abbrev pub LoopDoes : Spot → Option Loop → Sym → Sym → Type 0
  LoopDoes at l old new = Runs W.duties p gives (loop_glue + weight_of_loop at l) (bits_of_loop at l) old new (λ v. looped at l)

  -- ---- a `for`, whose first part is around its loop
  pub record ForReady (at : Spot) (s : Sym) (i : First) (l : Option Loop) : Type 0 where
    pub fits : IsState p s
    pub result : s.result ≡ type_or_int gives
    pub is : IsTrue (is_some l)
    pub first_types : IsTrue (first_fits p i && list_all (is_typed p) (fulls_of_first i))
    pub types : IsTrue (turn_fits p gives l)
    pub room : length s.net + (loop_glue + (weight_of_first p W n i + weight_of_loop at l + (bits_of_first p W n i + bits_of_loop at l))) < 2 ^ 27

  abbrev pub ForDoes : Spot → First → Option Loop → Sym → Sym → Type 0
  ForDoes at i l old new = Runs W.duties p gives (loop_glue + (weight_of_first p W n i + weight_of_loop at l)) (bits_of_first p W n i + bits_of_loop at l) old new
      (λ v. scoped Stopped JudgedState cells_judged with_cells_judged (first p (judged p W) (calls p W n) at i (λ may. looped at l) true))
