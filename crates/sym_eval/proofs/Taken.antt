-- The turns of a loop, one after another, up to a bound.
use Rattle.std.proofs.Common.{◌≡◌, ℕ, zero, suc, ◌+◌, ◌*◌, ◌≤◌, ◌<◌, ◌^◌, true, false, ◌&&◌, List, length, refl, sym, ◌∙◌, ap, ap₂, subst, arith, Option, Some, None, IsTrue, is_some}
use Rattle.c_core.specs.Tree.{Program, Exp, Stm}
use Rattle.c_core.specs.Parts.{every_statement}
use Rattle.c_core.specs.Typing.{is_typed, has_value, statement_fits}
use Rattle.c_core.specs.declared.number.IntType.{IntType}
use Rattle.c_core.specs.declared.number.Spot.{Spot}
use Rattle.c_meaning.specs.Acts.{Res, Go, Stop, Flow, Next, Broken, Again, Gave, bind, go_on, cut}
use Rattle.c_meaning.specs.Acts as acts
use Rattle.c_meaning.specs.Exec.{exec, full_if, turn}
use Rattle.c_meaning.specs.Havoc.{Stopped, Passes}
use Rattle.c_meaning.specs.Meaning.{Loop, WhileLoop, DoLoop, ForLoop}
use Rattle.c_meaning.proofs.TypeFacts.{both, neither}
use Rattle.circuits.specs.declared.net.Bit.{Bit}
use Rattle.circuits.specs.Net.{holds}
use Rattle.seek_mode.specs.SeekingMode as seeking
use Rattle.seek_mode.specs.SeekingMode.{seeking_mode}
use Rattle.sym_flow.specs.Ways.{Became, fresh_broken, behind_loop}
use Rattle.sym_flow.proofs.Bodies.{out_of_loop, broken_runs}
use Rattle.sym_flow.proofs.Looping.{stops_runs}
use Rattle.sym_flow.proofs.Statements.{runs_then, runs_as, skip_runs}
use Rattle.sym_meaning.specs.Mode.{JudgedState, cells_judged, with_cells_judged, Mode, Turn}
use Rattle.sym_meaning.specs.Judged.{judged, stop, body_of}
use Rattle.sym_scale.specs.Cost.{nodes, bits}
use Rattle.sym_state.specs.declared.state.Sym.{Sym}
use Rattle.sym_state.specs.Standing.{stand, IsState}
use Rattle.sym_state.proofs.Nets.{longer_by}
use Rattle.sym_values.specs.Storing.{Ends, end_of}
use Rattle.way_match.specs.Points.{BoundSegment}
use Rattle.sym_eval.specs.Control.{is_test, is_typed_if, TestReady, TestIfReady}
use Rattle.sym_eval.specs.Doing.{calls}
use Rattle.sym_eval.specs.Looping.{turn_glue, last_glue, test_part, rest_part, turns_parts, turned, TurnReady, TurnDoes, open_turns, weight_of_turns, bits_of_turns, TurnsReady, TurnsDo, last_tested, LastDoes, weight_of_loop, LoopReady, LoopDoes}
use Rattle.sym_eval.proofs.Turns.{control_then, going_then, became_as, kept_holds}

-- what ends after a part ends it once
go_stop : (r : Res Stopped JudgedState Flow) → bind (bind r (go_on (stop Passes))) (go_on (stop Passes)) ≡ bind r (go_on (stop Passes))
go_stop (Go Next s) = refl
go_stop (Go Broken s) = refl
go_stop (Go Again s) = refl
go_stop (Go (Gave v) s) = refl
go_stop (Stop e s) = refl

-- after a turn: on to what comes next, or out of the loop
after_turn : (r : Res Stopped JudgedState Flow) (f g : JudgedState → Res Stopped JudgedState Flow) → ((s : JudgedState) → bind (f s) (λ w t. Go (out_of_loop w) t) ≡ g s)
    → bind (bind r (go_on f)) (λ w t. Go (out_of_loop w) t) ≡ bind r (acts.turned g)
after_turn (Go Next s) f g h = h s
after_turn (Go Broken s) f g h = refl
after_turn (Go Again s) f g h = refl
after_turn (Go (Gave v) s) f g h = refl
after_turn (Stop e s) f g h = refl

-- what turns cost, with the glue of each
turns_cost : (r t b : ℕ) → turn_glue * r + turns_parts r t b ≤ suc r * t + r * (64 + b)
turns_cost zero t b = omega arith
turns_cost (suc r) t b = omega (arith, turns_cost r t b)

turns_bits : (r t b : ℕ) → turns_parts r t b ≤ suc r * t + r * b
turns_bits zero t b = omega arith
turns_bits (suc r) t b = omega (arith, turns_bits r t b)

module _ (p : Program) (W : Mode) (n : ℕ) (gives : Option IntType) (at : Spot) where
  -- ---- one turn after another
  pub turn_first : {r : ℕ} {a : Sym} {l : Option Loop} → TurnsReady p W n gives (suc r) at a l → TurnReady p W n gives at a l
  turn_first h = record { fits = h.fits; result = h.result; types = h.types; room = omega (arith, h.room) }

  pub turns_next : {r : ℕ} {a b : Sym} {l : Option Loop} → TurnsReady p W n gives (suc r) at a l → TurnDoes p W n gives at l a b → TurnsReady p W n gives r at b l
  turns_next h x = record { fits = x.fits; result = x.result ∙ h.result; is = h.is; types = h.types; room = omega (arith, h.room, (longer_by x.added).1) }

  pub turns_more : {a b c : Sym} (r : ℕ) (l : Option Loop) → TurnDoes p W n gives at l a b → TurnsDo p W n gives r at l b c → TurnsDo p W n gives (suc r) at l a c
  turns_more r l x y =
      runs_then p W.duties gives (last_glue + (turn_glue * suc r + weight_of_turns p W n gives (suc r) at l)) (bits_of_turns p W n gives (suc r) at l) x y (omega arith) (omega arith)

  -- ---- the last test
  pub last_test_room : {a b : Sym} {l : Option Loop} → TurnsReady p W n gives 0 at a l → LastDoes p W n gives at l a b → length b.net < 2 ^ 27
  last_test_room h x = omega (arith, h.room, (longer_by x.added).1)

  pub while_last : {a : Sym} {e : Exp} {x : Stm} → TurnsReady p W n gives 0 at a (Some (WhileLoop e x)) → TestReady p W n at a e
  while_last {e = e} {x = x} h =
      let t = both (is_test p (Some e)) (every_statement (statement_fits p gives) x) h.types in
      let q = both (has_value e) (is_typed p e) t.0 in
      record { fits = h.fits; types = q.1; value = q.0; room = omega (arith, h.room) }

  pub for_last : {a : Sym} {e s : Option Exp} {x : Stm} → TurnsReady p W n gives 0 at a (Some (ForLoop e s x)) → TestIfReady p W n at a e
  for_last {e = e} {s = s} {x = x} h = record { fits = h.fits; types = (both (is_test p e) (is_typed_if p s && every_statement (statement_fits p gives) x) h.types).0; room = omega (arith, h.room) }

  pub do_last : {a : Sym} {l : Option Loop} {x : Stm} {e : Exp} → l ≡ Some (DoLoop x e) → IsState p a → LastDoes p W n gives at l a a
  do_last {a} q h = subst (λ l. LastDoes p W n gives at l a a) (sym q) (runs_as p W.duties gives (skip_runs p W.duties gives a h) (λ v s. refl) (omega arith) (omega arith))

  pub none_last : {a : Sym} → IsState p a → LastDoes p W n gives at None a a
  none_last {a} h = runs_as p W.duties gives (skip_runs p W.duties gives a h) (λ v s. refl) (omega arith) (omega arith)

  last_same : (l : Option Loop) → IsTrue (is_some l) → (s : JudgedState) → bind (last_tested p W n gives at l s) (go_on (stop Passes)) ≡ bind (turned p W n gives false at l s) (go_on (stop Passes))
  last_same None h s = refl
  last_same (Some (WhileLoop e b)) h s =
      let K : Turn = λ may. body_of p W may (exec p (judged p W) (calls p W n) gives b) in
      sym (go_stop (last_tested p W n gives at (Some (WhileLoop e b)) s)) ∙ ap (λ r. bind r (go_on (stop Passes))) (control_then p W n at false e K s)
  last_same (Some (DoLoop b e)) h s = refl
  last_same (Some (ForLoop e i b)) h s =
      let K : Turn = λ may s. bind (body_of p W may (exec p (judged p W) (calls p W n) gives b) s) (go_on (full_if p (judged p W) (calls p W n) at i (λ may s. Go Next s) may)) in
      sym (go_stop (last_tested p W n gives at (Some (ForLoop e i b)) s)) ∙ ap (λ r. bind r (go_on (stop Passes))) (going_then p W n at false e K s)

  pub turns_end : {a b c : Sym} (l : Option Loop) → TurnsReady p W n gives 0 at a l → LastDoes p W n gives at l a b → Ends p W 1 b c (end_of p W) → TurnsDo p W n gives 0 at l a c
  turns_end l h x y =
      runs_as p W.duties gives (runs_then p W.duties gives (last_glue + weight_of_turns p W n gives 0 at l) (bits_of_turns p W n gives 0 at l) x (stops_runs p W.duties gives Passes y) (omega arith) (omega arith))
      (λ v s. last_same l h.is s) (omega arith) (omega arith)

-- ---- the whole, in the mode of runs that seek
module _ (p : Program) (ss : List BoundSegment) (k n : ℕ) (gives : Option IntType) (at : Spot) where
  abbrev W : Mode
  W = seeking_mode p ss k

  pub all_ready : {a b : Sym} (l : Option Loop) → LoopReady p W n gives at a l → Became p 0 a b (λ v. fresh_broken) → TurnsReady p W n gives k at b l
  all_ready l h x = record {
    fits = x.fits;
    result = x.result ∙ h.result;
    is = h.is;
    types = h.types;
    room = omega (arith, h.room, (longer_by x.added).1, turns_cost k (test_part p (nodes p W.scale n) gives at l) (rest_part p (nodes p W.scale n) gives at l), turns_bits k (test_part p (bits p W.scale n) gives at l) (rest_part p (bits p W.scale n) gives at l));
  }

  -- the turns cost no more than the loop
  pub turns_within : (l : Option Loop) → turn_glue * k + weight_of_turns p W n gives k at l ≤ weight_of_loop p W n gives at l
  turns_within l = omega (arith, turns_cost k (test_part p (nodes p W.scale n) gives at l) (rest_part p (nodes p W.scale n) gives at l))

  open_loop : (l : Loop) (r : ℕ) (s : JudgedState) → bind (open_turns p W n gives r at (Some l) s) (λ f t. Go (out_of_loop f) t) ≡ seeking.turns r (turn p (judged p W) (calls p W n) gives at l) s
  open_loop l zero s = after_turn (turn p (judged p W) (calls p W n) gives at l false s) (stop Passes) (stop Passes) (λ s. refl)
  open_loop l (suc r) s = after_turn (turn p (judged p W) (calls p W n) gives at l true s) (open_turns p W n gives r at (Some l)) (seeking.turns r (turn p (judged p W) (calls p W n) gives at l)) (open_loop l r)

  pub all_room : {a b c : Sym} (l : Option Loop) → LoopReady p W n gives at a l → Became p 0 a b (λ v. fresh_broken) → TurnsDo p W n gives k at l b c → length c.net < 2 ^ 27
  all_room l h x y = omega (arith, h.room, (longer_by x.added).1, (longer_by y.added).1, turns_within l, turns_bits k (test_part p (bits p W.scale n) gives at l) (rest_part p (bits p W.scale n) gives at l))

  pub all_do : {a b c d : Sym} (l : Loop) (kept : Bit) (cells : ℕ) → LoopReady p W n gives at a (Some l) → kept ≡ a.broken → cells ≡ length a.cells.items → Became p 0 a b (λ v. fresh_broken) → TurnsDo p W n gives k at (Some l) b c
      → Became p 1 c d (λ v. behind_loop (holds v c.net kept) cells) → LoopDoes p W n gives at (Some l) a d
  all_do {a} l kept cells h ek en x y z =
      let z' = became_as (λ v. behind_loop (stand p v a).broken (length a.cells.items)) z (λ v t. ap₂ (λ b m. behind_loop b m t) (kept_holds p W n gives kept a.broken ek h.fits.broken x y v) en) in
      runs_as p W.duties gives (broken_runs p W.duties gives x y z')
      (λ v s. ap (cut Stopped JudgedState cells_judged with_cells_judged (length s.cells)) (open_loop l k s))
      (omega (arith, turns_cost k (test_part p (nodes p W.scale n) gives at (Some l)) (rest_part p (nodes p W.scale n) gives at (Some l))))
      (omega (arith, turns_bits k (test_part p (bits p W.scale n) gives at (Some l)) (rest_part p (bits p W.scale n) gives at (Some l))))

  pub all_done : {a b c d : Sym} (l : Option Loop) (kept : Bit) (cells : ℕ) → LoopReady p W n gives at a l → kept ≡ a.broken → cells ≡ length a.cells.items → Became p 0 a b (λ v. fresh_broken) → TurnsDo p W n gives k at l b c
      → Became p 1 c d (λ v. behind_loop (holds v c.net kept) cells) → LoopDoes p W n gives at l a d
  all_done None kept cells h ek en x y z = neither h.is
  all_done (Some l) kept cells h ek en x y z = all_do l kept cells h ek en x y z
