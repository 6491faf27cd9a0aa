-- Loops, part by part.
use Rattle.std.proofs.Common.{◌≡◌, ℕ, Bool, true, false, cond, List, Option, Some, None, Result, Err, length, refl, sym, ap, subst}
use Rattle.c_core.specs.Tree as t
use Rattle.c_core.specs.Tree.{Program, Exp, First, NoFirst, FirstExp, FirstNames}
use Rattle.c_core.specs.declared.number.IntType.{IntType}
use Rattle.c_core.specs.declared.number.Spot.{Spot}
use Rattle.c_meaning.specs.Changed.{changed_by}
use Rattle.c_meaning.specs.Meaning.{Used, Unused, Loop, WhileLoop, DoLoop, ForLoop}
use Rattle.c_meaning.specs.declared.run.DutyKind.TheVariants.{Entry}
use Rattle.c_meaning.specs.Acts as acts
use Rattle.c_meaning.specs.Acts.{Res, Go, Stop, bind, go_on, cut}
use Rattle.c_meaning.specs.Duties.{Placed}
use Rattle.c_meaning.specs.Exec.{first}
use Rattle.c_meaning.specs.Havoc as h
use Rattle.c_meaning.specs.Havoc.{Stopped, Left, cells_left, with_cells_left}
use Rattle.run_state.specs.Interpreting.{same, flow_of}
use Rattle.c_calls.specs.Loops.{loop_of, changed_if}
use Rattle.run_state.specs.declared.machine.Flow.{Flow}
use Rattle.run_state.proofs.Giving.{bind_on}
use Rattle.havoc_state.specs.Havocking.{Gives, havocked, calls, fulled, decided, formed, declaring, bodied, test_turned, goes_on, for_rest, while_turned, for_turned, turning, opened, turned_once, looped, begun, for_looped}
use Rattle.havoc_state.specs.declared.machine.Halt.{Halt}
use Rattle.havoc_state.proofs.Giving.{halted, passed}
use Rattle.c_havoc.proofs.Executing.{control_goes, control_halts, untested}

-- parts alike behind a part
same_behind : {E T : Type 0} (r : Res E T acts.Flow) (k l : T → Res E T acts.Flow) → ((u : T) → k u ≡ l u) → bind r (go_on k) ≡ bind r (go_on l)
same_behind (Go acts.Next u) k l h = h u
same_behind (Go acts.Broken u) k l h = refl
same_behind (Go acts.Again u) k l h = refl
same_behind (Go (acts.Gave v) u) k l h = refl
same_behind (Stop e u) k l h = refl

same_after : {E T A : Type 0} (r : Res E T A) (k l : T → Res E T acts.Flow) → ((u : T) → k u ≡ l u) → bind r (λ _. k) ≡ bind (bind r (λ _ u. Go acts.Next u)) (go_on l)
same_after (Go a u) k l h = h u
same_after (Stop e u) k l h = refl

-- three parts in turn and what follows them, grouped either way
bind_thrice : {E T A B C D : Type 0} (r : Res E T A) (q : T → Res E T B) (k : T → Res E T C) (l : T → Res E T D)
    → bind (bind r (λ _ u. bind (q u) (λ _. k))) (λ _. l) ≡ bind r (λ _ u. bind (q u) (λ _ v. bind (k v) (λ _. l)))
bind_thrice (Go a s) q k l = bind_on (q s) (λ _. k) (λ _. l)
bind_thrice (Stop e s) q k l = refl

module _ (p : Program) (I : List Placed) where
  -- before the turn: the parts, one by one
  module _ (at : Spot) (l : Option Loop) (os : List ℕ) (changes : os ≡ changed_if p l) (s : Left) (checked : h.test_from p I 0 I true at Entry s ≡ Go tt s) where
    pub redraw_halts : (u : Left) (e : Halt) → Gives same (Err e) u (h.redraw p I at os s) → Gives same (Err e) u (opened p I at l s)
    redraw_halts u e g =
        passed same same tt s u (h.test_from p I 0 I true at Entry s) _ (Err e) checked
        (halted same same e u (h.redraw p I at (changed_if p l) s) _ (subst (λ xs. Gives same (Err e) u (h.redraw p I at xs s)) changes g))

    pub opens : (u v : Left) (r : Result (Unit {0}) Halt) → h.redraw p I at os s ≡ Go tt u → Gives same r v (h.assume_all p I I at u) → Gives same r v (opened p I at l s)
    opens u v r g a =
        passed same same tt s v (h.test_from p I 0 I true at Entry s) _ r checked
        (passed same same tt u v (h.redraw p I at (changed_if p l) s) _ r (subst (λ xs. h.redraw p I at xs s ≡ Go tt u) changes g) a)

module _ (p : Program) (I : List Placed) (n : ℕ) where
  pub test_done : (at : Spot) (e : Exp) (c : Bool) (s u : Left) → decided p I n at e s ≡ Go c u
      → test_turned p I n at e s ≡ cond c (Go acts.Next u) (Go acts.Broken u)
  test_done at e true s u h = control_goes p I n (fulled p I n at Used e s) (λ v. Go acts.Next v) (λ v. Go acts.Broken v) true u h
  test_done at e false s u h = control_goes p I n (fulled p I n at Used e s) (λ v. Go acts.Next v) (λ v. Go acts.Broken v) false u h

  pub test_halts : (at : Spot) (e : Exp) (s u : Left) (h : Halt) → Gives same (Err h) u (decided p I n at e s) → Gives flow_of (Err h) u (test_turned p I n at e s)
  test_halts at e s u h g = control_halts p I n (fulled p I n at Used e s) (λ v. Go acts.Next v) (λ v. Go acts.Broken v) h u g

  module _ (w : Option IntType) (at : Spot) where
    pub while_chosen : (e : Exp) (x : t.Stm) (c : Bool) (s u : Left) → decided p I n at e s ≡ Go c u
        → while_turned p I n w at e x s ≡ cond c (bodied p I n w x) (λ v. Go acts.Broken v) u
    while_chosen e x c s u h = control_goes p I n (fulled p I n at Used e s) (bodied p I n w x) (λ v. Go acts.Broken v) c u h

    pub while_halts : (e : Exp) (x : t.Stm) (s u : Left) (h : Halt) → Gives same (Err h) u (decided p I n at e s) → Gives flow_of (Err h) u (while_turned p I n w at e x s)
    while_halts e x s u h g = control_halts p I n (fulled p I n at Used e s) (bodied p I n w x) (λ v. Go acts.Broken v) h u g

    pub for_chosen : (e step : Option Exp) (x : t.Stm) (c : Bool) (s u : Left) → goes_on p I n at e s ≡ Go c u
        → for_turned p I n w at e step x s ≡ cond c (for_rest p I n w at step x) (λ v. Go acts.Broken v) u
    for_chosen None step x c s u h = untested p I n at c s u (λ b v. cond b (for_rest p I n w at step x) (λ y. Go acts.Broken y) v) h
    for_chosen (Some e) step x c s u h = control_goes p I n (fulled p I n at Used e s) (for_rest p I n w at step x) (λ v. Go acts.Broken v) c u h

    turned_is : (l : Loop) (s : Left) → h.loop p I at l (turning p I n w at (Some l)) s ≡ turned_once p I n w at (Some l) s
    turned_is l s =
        sym (bind_thrice (h.test_from p I 0 I true at Entry s) (h.redraw p I at (changed_by p l)) (h.assume_all p I I at) (λ u. bind (turning p I n w at (Some l) u) (h.close p I at)))

    loop_is : (l : Loop) (s : Left)
        → acts.scoped Stopped Left cells_left with_cells_left (h.loop p I at l (turning p I n w at (Some l))) s ≡ looped p I n w at (Some l) s
    loop_is l s = ap (cut Stopped Left cells_left with_cells_left (length (cells_left s))) (turned_is l s)

    first_is : (i : First) (k l : Left → Res Stopped Left acts.Flow) → ((u : Left) → k u ≡ l u) → (s : Left)
        → first p (havocked p I) (calls p I n) at i k s ≡ bind (begun p I n at i s) (go_on l)
    first_is NoFirst k l h s = h s
    first_is (FirstExp e) k l h s = same_after (fulled p I n at Unused e s) k l h
    first_is (FirstNames ns) k l h s = same_behind (declaring p I n at ns s) k l h

    -- the forms that are loops
    pub while_given : (f : t.Form) (e : Exp) (x : t.Stm) → f ≡ t.While e x → (r : Result Flow Halt) (s u : Left)
        → Gives flow_of r u (looped p I n w at (loop_of f) s) → Gives flow_of r u (formed p I n w at f s)
    while_given f e x is r s u = subst (λ y. Gives flow_of r u (looped p I n w at (loop_of y) s) → Gives flow_of r u (formed p I n w at y s)) (sym is)
        (subst (Gives flow_of r u) (sym (loop_is (WhileLoop e x) s)))

    pub do_given : (f : t.Form) (x : t.Stm) (e : Exp) → f ≡ t.DoWhile x e → (r : Result Flow Halt) (s u : Left)
        → Gives flow_of r u (looped p I n w at (loop_of f) s) → Gives flow_of r u (formed p I n w at f s)
    do_given f x e is r s u = subst (λ y. Gives flow_of r u (looped p I n w at (loop_of y) s) → Gives flow_of r u (formed p I n w at y s)) (sym is)
        (subst (Gives flow_of r u) (sym (loop_is (DoLoop x e) s)))

    for_is : (i : First) (e step : Option Exp) (x : t.Stm) (s : Left) → formed p I n w at (t.For i e step x) s ≡ for_looped p I n w at i (Some (ForLoop e step x)) s
    for_is i e step x s =
        ap (cut Stopped Left cells_left with_cells_left (length (cells_left s)))
        (first_is i (acts.scoped Stopped Left cells_left with_cells_left (h.loop p I at (ForLoop e step x) (turning p I n w at (Some (ForLoop e step x)))))
        (looped p I n w at (Some (ForLoop e step x))) (loop_is (ForLoop e step x)) s)

    pub for_given : (f : t.Form) (i : First) (e step : Option Exp) (x : t.Stm) → f ≡ t.For i e step x → (r : Result Flow Halt) (s u : Left)
        → Gives flow_of r u (for_looped p I n w at i (loop_of f) s) → Gives flow_of r u (formed p I n w at f s)
    for_given f i e step x is r s u = subst (λ y. Gives flow_of r u (for_looped p I n w at i (loop_of y) s) → Gives flow_of r u (formed p I n w at y s)) (sym is)
        (subst (Gives flow_of r u) (sym (for_is i e step x s)))
