-- A loop: its invariants are tested on arrival, what it changes draws, the invariants are assumed, one turn is done, and where the
-- turn comes back to the head the invariants are tested once more and the run ends.
use Rattle.std.proofs.Common.{◌≡◌, ℕ, ◌+◌, ◌≤◌, Bool, true, List, length, refl, sym, ◌∙◌, ap, arith, Option}
use Rattle.c_core.specs.Tree.{Program}
use Rattle.c_core.specs.declared.number.IntType.{IntType}
use Rattle.c_core.specs.declared.number.Spot.{Spot}
use Rattle.c_meaning.specs.declared.run.Duty.{Duty}
use Rattle.c_meaning.specs.declared.run.DutyKind.TheVariants.{Entry, Kept as KeptKind}
use Rattle.c_meaning.specs.Acts.{Res, Go, Stop, Flow, Next, Broken, Again, Gave, bind, go_on, scoped, cut}
use Rattle.c_meaning.specs.Changed.{changed_by}
use Rattle.c_meaning.specs.Duties.{Placed}
use Rattle.c_meaning.specs.Havoc.{Stopped, Passes}
use Rattle.sym_meaning.specs.Mode.{JudgedState, cells_judged, with_cells_judged}
use Rattle.sym_meaning.specs.Judged.{stop}
use Rattle.sym_meaning.specs.Obliging.{test_from, assume_all, redraw, close, loop}
use Rattle.c_meaning.specs.Meaning.{Loop}
use Rattle.sym_state.specs.declared.state.Sym.{Sym}
use Rattle.sym_state.specs.Standing.{stand}
use Rattle.sym_state.specs.Following.{Follows}
use Rattle.sym_flow.specs.Leaving.{Runs}
use Rattle.sym_flow.specs.Ways.{Became, fresh_broken, behind_loop}
use Rattle.sym_flow.proofs.Statements.{follows_runs, runs_then, runs_as}
use Rattle.sym_flow.proofs.Bodies.{out_of_loop, broken_runs}
use Rattle.sym_flow.proofs.Draws.{after_both}

module _ (p : Program) (I : List Placed) where
  -- at the head again: the invariants are tested, and the run ends
  abbrev pub back_at_head : Spot → JudgedState → Res Stopped JudgedState Flow
  back_at_head spot s = bind (test_from p I 0 I true spot KeptKind s) (λ u. stop Passes)

  -- the parts of a loop, as they are done one after the other
  abbrev pub headed : Spot → Loop → (JudgedState → Res Stopped JudgedState Flow) → JudgedState → Res Stopped JudgedState Flow
  headed spot l turn s = bind (test_from p I 0 I true spot Entry s) (λ u s. bind (redraw p I spot (changed_by p l) s) (λ u s. bind (assume_all p I I spot s) (λ u s. bind (turn s) (go_on (back_at_head spot)))))

  ended : (r : Res Stopped JudgedState (Unit {0})) (k : Flow → JudgedState → Res Stopped JudgedState Flow) → bind (bind r (λ u. stop Passes)) k ≡ bind r (λ u. stop Passes)
  ended (Go u s) k = refl
  ended (Stop e s) k = refl

  closed : (spot : Spot) (r : Res Stopped JudgedState Flow) → bind (bind r (go_on (back_at_head spot))) (λ f s. Go (out_of_loop f) s) ≡ bind r (close p I spot)
  closed spot (Go Next s) = ended (test_from p I 0 I true spot KeptKind s) (λ f s. Go (out_of_loop f) s)
  closed spot (Go Broken s) = refl
  closed spot (Go Again s) = refl
  closed spot (Go (Gave v) s) = refl
  closed spot (Stop e s) = refl

  headed_loop : (spot : Spot) (l : Loop) (turn : JudgedState → Res Stopped JudgedState Flow) (s : JudgedState) → bind (headed spot l turn s) (λ f s. Go (out_of_loop f) s) ≡ loop p I spot l turn s
  headed_loop spot l turn s =
      let out : Flow → JudgedState → Res Stopped JudgedState Flow = λ f s. Go (out_of_loop f) s in
      let k3 : JudgedState → Res Stopped JudgedState Flow = λ s. bind (turn s) (go_on (back_at_head spot)) in
      let k2 : JudgedState → Res Stopped JudgedState Flow = λ s. bind (assume_all p I I spot s) (λ u. k3) in
      let k1 : JudgedState → Res Stopped JudgedState Flow = λ s. bind (redraw p I spot (changed_by p l) s) (λ u. k2) in
      let e3 : (s : JudgedState) → bind (k3 s) out ≡ bind (turn s) (close p I spot) = λ s. closed spot (turn s) in
      let e2 : (s : JudgedState) → bind (k2 s) out ≡ bind (assume_all p I I spot s) (λ u s. bind (turn s) (close p I spot)) = λ s.
      sym (after_both p (assume_all p I I spot s) (λ u. k3) out) ∙ (λ i. bind (assume_all p I I spot s) (λ u s. e3 s i)) in
      let e1 : (s : JudgedState) → bind (k1 s) out ≡ bind (redraw p I spot (changed_by p l) s) (λ u s. bind (assume_all p I I spot s) (λ u s. bind (turn s) (close p I spot))) = λ s.
      sym (after_both p (redraw p I spot (changed_by p l) s) (λ u. k2) out) ∙ (λ i. bind (redraw p I spot (changed_by p l) s) (λ u s. e2 s i)) in
      sym (after_both p (test_from p I 0 I true spot Entry s) (λ u. k1) out) ∙ (λ i. bind (test_from p I 0 I true spot Entry s) (λ u s. e1 s i))

module _ (p : Program) (ds : List Duty) (result : Option IntType) where
  -- a part that ends each run
  pub stops_runs : {A : Type 0} {i j : ℕ} {a b : Sym} {S : (ℕ → Bool) → A → Type 0} (e : Stopped) → Follows ds p i j a b S (λ v s. Stop e s) → Runs ds p result i j a b (λ v s. Stop e s)
  stops_runs e x = record { fits = x.fits; added = x.added; grows = omega (arith, x.level); result = x.result; moves = x.moves; does = x.does }

  module _ (I : List Placed) where
    -- from the arrival a: fresh bits, entry, draws, what is assumed, the turn, kept, the end, and who left the loop
    pub loop_runs : {A : Type 0} {S : (ℕ → Bool) → A → Type 0} {i1 i2 i3 i4 i5 j1 j2 j3 j4 j5 : ℕ} {a b c d e f g h z : Sym} (n m : ℕ) (spot : Spot) (l : Loop) (turn : JudgedState → Res Stopped JudgedState Flow)
        → Became p 0 a b (λ v. fresh_broken)
        → Follows ds p i1 j1 b c (λ v u. Unit {0}) (λ v. test_from p I 0 I true spot Entry)
        → Follows ds p i2 j2 c d (λ v u. Unit {0}) (λ v. redraw p I spot (changed_by p l))
        → Follows ds p i3 j3 d e (λ v u. Unit {0}) (λ v. assume_all p I I spot)
        → Runs ds p result i4 j4 e f (λ v. turn)
        → Follows ds p i5 j5 f g (λ v u. Unit {0}) (λ v. test_from p I 0 I true spot KeptKind)
        → Follows ds p 1 0 g h S (λ v s. Stop Passes s)
        → Became p 1 h z (λ v. behind_loop (stand p v a).broken (length a.cells.items))
        → i1 + (i2 + (i3 + (i4 + (i5 + 1)))) + 1 ≤ n → j1 + (j2 + (j3 + (j4 + j5))) ≤ m → Runs ds p result n m a z (λ v. scoped Stopped JudgedState cells_judged with_cells_judged (loop p I spot l turn))
    loop_runs {i1 = i1} {i2 = i2} {i3 = i3} {i4 = i4} {i5 = i5} {j1 = j1} {j2 = j2} {j3 = j3} {j4 = j4} {j5 = j5} {a = a} n m spot l turn x t1 t2 t3 t4 t5 t6 y gn gm =
        let last : Runs ds p result (i5 + 1) j5 _ _ (λ v. back_at_head p I spot) = follows_runs p ds result (i5 + 1) j5 (λ v u. stop Passes) t5 (stops_runs Passes t6) (λ v u q s. refl) (omega arith) (omega arith) in
        let rest : Runs ds p result (i4 + (i5 + 1)) (j4 + j5) _ _ (λ v s. bind (turn s) (go_on (back_at_head p I spot))) = runs_then p ds result (i4 + (i5 + 1)) (j4 + j5) t4 last (omega arith) (omega arith) in
        let held = follows_runs p ds result (i3 + (i4 + (i5 + 1))) (j3 + (j4 + j5)) (λ v u s. bind (turn s) (go_on (back_at_head p I spot))) t3 rest (λ v u q s. refl) (omega arith) (omega arith) in
        let drawn = follows_runs p ds result (i2 + (i3 + (i4 + (i5 + 1)))) (j2 + (j3 + (j4 + j5))) (λ v u s. bind (assume_all p I I spot s) (λ u s. bind (turn s) (go_on (back_at_head p I spot)))) t2 held (λ v u q s. refl) (omega arith) (omega arith) in
        let whole : Runs ds p result (i1 + (i2 + (i3 + (i4 + (i5 + 1))))) (j1 + (j2 + (j3 + (j4 + j5)))) _ _ (λ v. headed p I spot l turn) =
        follows_runs p ds result (i1 + (i2 + (i3 + (i4 + (i5 + 1))))) (j1 + (j2 + (j3 + (j4 + j5)))) (λ v u s. bind (redraw p I spot (changed_by p l) s) (λ u s. bind (assume_all p I I spot s) (λ u s. bind (turn s) (go_on (back_at_head p I spot))))) t1 drawn (λ v u q s. refl) (omega arith) (omega arith) in
        runs_as p ds result (broken_runs p ds result x whole y)
        (λ v s. ap (cut Stopped JudgedState cells_judged with_cells_judged (length s.cells)) (headed_loop p I spot l turn s)) gn gm
