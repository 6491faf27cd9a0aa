-- What the stacks of machines hold at most.
use Rattle.std.proofs.Common.{◌≡◌, ◌⊎◌, ◌≤◌, ◌<◌, IsTrue, ℕ, zero, suc, ◌+◌, ◌-◌, Bool, true, false, cond, nat_le, List, [], ◌∷◌, ◌++◌, length, Option, Some, None, slice_get, refl, sym, ap, ◌∙◌, subst, inl, inr, arith, length-append}
use Rattle.c_core.specs.Program.{is_main, has_main}
use Rattle.c_core.specs.Tree.{Function, Program}
use Rattle.c_meaning.specs.declared.run.End.{End}
use Rattle.c_meaning.specs.declared.run.Event.{Event}
use Rattle.c_meaning.specs.Acts.{Res, Go, Stop}
use Rattle.c_meaning.specs.Cells.{Cell}
use Rattle.c_meaning.specs.Run.{State}
use Rattle.run_state.specs.declared.machine.CallSite.{CallSite}
use Rattle.flow_code.specs.declared.code.Action.TheVariants.{Call, End as EndHere}
use Rattle.flow_code.specs.declared.code.Body.{Body}
use Rattle.flow_code.specs.declared.code.Code.{Code}
use Rattle.flow_code.specs.declared.code.Op.{Op}
use Rattle.flow_code.specs.Preparing.{op}
use Rattle.flow_code.specs.Programs.{function_code, functions_code, bodies, entry_of, IsCodeOf}
use Rattle.flow_laws.specs.declared.frame.Frame.{Frame}
use Rattle.flow_laws.specs.Machines.{Control, Machine, first_control}
use Rattle.flow_laws.specs.Acting.{acted}
use Rattle.flow_laws.specs.Stepping.{Turn, On, Short, Over, onward, moved, due, paid_all, behind, done_if, step, steps}
use Rattle.flow_rooms.specs.Shapes.{Shape, flat, pushed, Has, HasAll, Keeps, Kept}
use Rattle.flow_rooms.specs.Rooms.{length_of_code, length_of_codes, IsCalledIn, CallsOn, IsChain, HasRoom, ComesTo, unseen, HasRooms, IsBounded, HoldsAtMost}
use Rattle.flow_rooms.proofs.Functions.{all_shapes, functions_same, functions_kept, functions_enter, IsOwned, functions_own, function_long, shown_behind, kept_at}
use Rattle.flow_rooms.proofs.Holding.{Holds, Below, Stands, Good, acted_good}

-- an operation where a shape is
op_at : (os : List Op) (xs : List Shape) (d : ℕ) (x : Shape) → length os ≡ length xs → slice_get xs d ≡ Some x → (o : Op) × (slice_get os d ≡ Some o)
op_at [] [] d x e h = absurd (cc)
op_at [] (y ∷ xs) d x e h = absurd (omega (arith, e))
op_at (o ∷ os) [] d x e h = absurd (omega (arith, e))
op_at (o ∷ os) (y ∷ xs) zero x e h = (o, refl)
op_at (o ∷ os) (y ∷ xs) (suc d) x e h = let z : length os ≡ length xs = omega (arith, e) in op_at os xs d x z h

-- the shapes of a program's code; the run of a program without `main` ends at the first operation
pub shapes_of : Program → List Shape
shapes_of p = flat p.main 0 ∷ all_shapes p 1 0 p.functions

one_behind : (n : ℕ) → n + 1 ≡ suc n
one_behind n = omega arith

calls_on : (p : Program) (a : ℕ) (fs : List ℕ) (y f : ℕ) → CallsOn p a (fs ++ y ∷ []) → IsCalledIn p y f → CallsOn p a ((fs ++ y ∷ []) ++ f ∷ [])
calls_on p a [] y f h c = (h.0, (c, tt))
calls_on p a (b ∷ fs) y f h c = (h.0, calls_on p b fs y f h.1 c)

-- a chain goes on by a call
chain_on : (p : Program) (fs : List ℕ) (y f : ℕ) → IsChain p (fs ++ y ∷ []) → IsCalledIn p y f → IsChain p ((fs ++ y ∷ []) ++ f ∷ [])
chain_on p [] y f h c = (h.0, (c, tt))
chain_on p (a ∷ fs) y f h c = (h.0, calls_on p a fs y f h.1 c)

codes_on : (p : Program) (fs : List ℕ) (f : ℕ) → length_of_codes p (fs ++ f ∷ []) ≡ length_of_codes p fs + length_of_code p (slice_get p.functions f)
codes_on p [] f = omega arith
codes_on p (a ∷ fs) f = omega (arith, codes_on p fs f)

module _ (p : Program) where
  abbrev first_op : Op
  first_op = op 0 EndHere

  all_shown : HasAll (shapes_of p) 1 (all_shapes p 1 0 p.functions)
  unfolding shapes_of
  all_shown = shown_behind (flat p.main 0 ∷ []) (all_shapes p 1 0 p.functions)

  all_kept : Kept (shapes_of p) 0 (first_op ∷ functions_code p 1 p.functions) (shapes_of p)
  unfolding shapes_of
  all_kept = (tt, functions_kept p (shapes_of p) 1 0 p.functions all_shown)

  -- an operation and its shape stand in the code of the shape's function, but for the first one
  owned : (d : ℕ) (o : Op) (x : Shape) → slice_get (first_op ∷ functions_code p 1 p.functions) (suc d) ≡ Some o → slice_get (shapes_of p) (suc d) ≡ Some x → IsOwned p p.functions 0 o x
  unfolding shapes_of
  owned d o x h k = functions_own p 1 0 p.functions d o x h k

  first_is : (x : Shape) → slice_get (shapes_of p) 0 ≡ Some x → flat p.main 0 ≡ x
  unfolding shapes_of
  first_is x h = cc

  own_op : (d : ℕ) (x : Shape) → slice_get (shapes_of p) (suc d) ≡ Some x → (o : Op) × (slice_get (functions_code p 1 p.functions) d ≡ Some o)
  unfolding shapes_of
  own_op d x h = op_at (functions_code p 1 p.functions) (all_shapes p 1 0 p.functions) d x (functions_same p 1 0 p.functions) h

  -- a call in the code of a program
  calls_at : (i : ℕ) (o : Op) (x : Shape) → slice_get (first_op ∷ functions_code p 1 p.functions) i ≡ Some o → slice_get (shapes_of p) i ≡ Some x
      → (f n : ℕ) (site : CallSite) → o.action ≡ Call f n site → IsCalledIn p x.function f
  calls_at zero o x h k f n site e =
      let same : first_op ≡ o = cc in
      let no : EndHere ≡ Call f n site = ap (λ (u : Op). u.action) same ∙ e in
      absurd (cc)
  calls_at (suc d) o x h k f n site e =
      let q = owned d o x h k in
      let z : q.number ≡ x.function = omega (arith, q.is) in
      record {
        function = q.function;
        found = subst (λ g. slice_get p.functions g ≡ Some q.function) z q.found;
        start = q.start;
        place = q.place;
        steps = o.steps;
        arguments = n;
        site = site;
        operation = q.operation ∙ ap (λ a. Some (op o.steps a)) e;
      }

  main_long : (o : Option Function) → IsTrue (is_main o) → 1 ≤ length_of_code p o
  main_long None h = absurd (cc)
  main_long (Some g) h = function_long p g

module _ (p : Program) (main : IsTrue (has_main p)) where
  -- how much of its own a function has at an address: two values and a scope less than its code allows
  pub low_at : (i : ℕ) (x : Shape) → Has (shapes_of p) i x
      → let l = length_of_code p (slice_get p.functions x.function) in (x.height + 2 ≤ l + l) × (x.scopes < l)
  low_at zero x h =
      let same = first_is p x h in
      let l = main_long p (slice_get p.functions p.main) main in
      let first : (0 + 2 ≤ length_of_code p (slice_get p.functions p.main) + length_of_code p (slice_get p.functions p.main)) × (0 < length_of_code p (slice_get p.functions p.main)) = (omega (arith, l), omega (arith, l)) in
      subst (λ (y : Shape). let l = length_of_code p (slice_get p.functions y.function) in (y.height + 2 ≤ l + l) × (y.scopes < l)) same first
  low_at (suc d) x h =
      let o = own_op p d x h in
      let q = owned p d o.0 x o.1 h in
      let z : q.number ≡ x.function = omega (arith, q.is) in
      let l = length (function_code p 0 q.function) in
      let e : l ≡ length_of_code p (slice_get p.functions x.function) = ap (length_of_code p) (sym q.found ∙ ap (slice_get p.functions) z) in
      subst (λ n. (x.height + 2 ≤ n + n) × (x.scopes < n)) e (omega (arith, q.low.height, q.within), omega (arith, q.low.scopes, q.within))

  -- the functions of frames, `main` first, and the one that they lead to
  record Callers (f : ℕ) (frs : List Frame) (h n : ℕ) : Type 0 where
    others : List ℕ
    chain : IsChain p (others ++ f ∷ [])
    count : length others ≡ length frs
    height : h ≤ length_of_codes p others + length_of_codes p others
    scoped : n ≤ length_of_codes p others

  callers : (f : ℕ) (frs : List Frame) (h n : ℕ) → Below p (shapes_of p) f frs h n → Callers f frs h n
  callers f [] h n b = record { others = []; chain = (b.0, tt); count = refl; height = omega (arith, b.1); scoped = omega (arith, b.2) }
  callers f (fr ∷ frs) h n b =
      let y = b.0 in
      let r = callers y.function frs b.1 b.2 b.7 in
      let l = low_at fr.back (pushed y) b.3 in
      let sum = codes_on p r.others y.function in
      record {
        others = r.others ++ y.function ∷ [];
        chain = chain_on p r.others y.function f r.chain b.4;
        count = length-append r.others (y.function ∷ []) ∙ ap (λ n. n + 1) r.count ∙ one_behind (length frs);
        height = omega (arith, b.5, l.0, r.height, sum);
        scoped = omega (arith, b.6, l.1, r.scoped, sum);
      }

  good_room : (k : Control) → Good p (shapes_of p) k → HasRoom p k
  good_room k g =
      let x = g.shape in
      let h = g.stands in
      let r = callers x.function k.frames h.height h.scoped h.below in
      let l = low_at k.at x g.has in
      let sum = codes_on p r.others x.function in
      record {
        functions = r.others ++ x.function ∷ [];
        chain = r.chain;
        frames = length-append r.others (x.function ∷ []) ∙ ap (λ n. n + 1) r.count ∙ one_behind (length k.frames);
        stack = omega (arith, h.stack, l.0, r.height, sum);
        scopes = omega (arith, h.scopes, l.1, r.scoped, sum);
      }

module _ (p : Program) (c : Code) (is : IsCodeOf p c) where
  enters : (f : ℕ) (b : Body) → slice_get c.functions f ≡ Some b → Has (shapes_of p) b.entry (flat f 0)
  enters f b e =
      let z : 0 + f ≡ f = omega arith in
      subst (λ n. Has (shapes_of p) b.entry (flat n 0)) z (functions_enter p (shapes_of p) 1 0 p.functions (all_shown p) f b (ap (λ bs. slice_get bs f) (sym is.functions) ∙ e))

  enters_main : (o : Option Body) → slice_get (bodies p 1 p.functions) p.main ≡ o → Has (shapes_of p) (entry_of o) (flat p.main 0)
  unfolding shapes_of
  enters_main None e = refl
  enters_main (Some b) e = enters p.main b (ap (λ bs. slice_get bs p.main) is.functions ∙ e)

  first_good : Good p (shapes_of p) (first_control c)
  first_good = record {
    shape = flat p.main 0;
    has = subst (λ i. Has (shapes_of p) i (flat p.main 0)) (sym is.main) (enters_main (slice_get (bodies p 1 p.functions) p.main) refl);
    stands = record { height = 0; scoped = 0; below = (refl, refl, refl); stack = omega arith; scopes = omega arith };
  }

  module _ (S : Type 0) (after : Event → List Cell → S → S) where
    abbrev G : Control → Type 0
    G = Good p (shapes_of p)

    -- where a turn doesn't end the run, the stacks behind it are within the shapes
    abbrev Fine : Turn S → Type 0
    Fine (On m) = G m.control
    Fine (Short m) = G m.control
    Fine (Over e s) = Unit {0}

    moved_fine : (r : Res End (State S) Control) → Holds G r → Fine (moved r)
    moved_fine (Go k s) h = h
    moved_fine (Stop x s) h = tt

    paid_fine : (b : Bool) (r : Res End (State S) Control) (x : Machine S) → Holds G r → G x.control → Fine (cond b (moved r) (Short x))
    paid_fine true r x h g = moved_fine r h
    paid_fine false r x h g = g

    stands_paid : (x : Shape) (k : Control) (i n : ℕ) → Stands p (shapes_of p) x k → Stands p (shapes_of p) x (record k { at = i; paid = n })
    stands_paid x k i n h = record { height = h.height; scoped = h.scoped; below = h.below; stack = h.stack; scopes = h.scopes }

    done_fine : (m : Machine S) (o : Option Op) → slice_get c.ops m.control.at ≡ o → G m.control → Fine (done_if c S after m o)
    done_fine m None e g = tt
    done_fine m (Some o) e g =
        let k = m.control in
        let i = k.at in
        let x = g.shape in
        let found = ap (λ os. slice_get os i) (sym is.ops) ∙ e in
        let z : suc (0 + i) ≡ i + 1 = omega arith in
        let keeps = subst (λ j. Keeps (shapes_of p) j o.action x) z (kept_at (shapes_of p) 0 (first_op p ∷ functions_code p 1 p.functions) (shapes_of p) (all_kept p) i o x found g.has) in
        let s : State S = record m.run { steps = m.run.steps - due m o } in
        paid_fine (nat_le (due m o) m.run.steps) (acted c S after o.action (behind k) s) (paid_all m)
        (acted_good p (shapes_of p) c S after o.action x (behind k) s enters (calls_at p i o x found g.has) keeps (stands_paid x k (i + 1) 0 g.stands))
        (record { shape = x; has = g.has; stands = stands_paid x k i (k.paid + m.run.steps) g.stands })

    step_fine : (m : Machine S) → G m.control → Fine (step c S after m)
    step_fine m g = done_fine m (slice_get c.ops m.control.at) refl g

    turned_good : (t : Turn S) (y : Machine S) → Fine t → (t ≡ On y) ⊎ (t ≡ Short y) → G y.control
    turned_good t y h (inl e) = subst Fine e h
    turned_good t y h (inr e) = subst Fine e h

    come_good : (n : ℕ) (k : Control) → ComesTo c S after n k → G k
    come_good zero k e = subst G (sym e) first_good
    come_good (suc n) k q = subst G q.4 (turned_good (step c S after q.0) q.1 (step_fine q.0 (come_good n q.0.control q.2)) q.3)

    -- whoever watches, each control that machines come to
    pub come_room : (n : ℕ) (k : Control) → ComesTo c S after n k → HasRoom p k
    come_room n k q = good_room p is.checked.main k (come_good n k q)

module _ (c : Code) (S : Type 0) (after : Event → List Cell → S → S) where
  onward_on : (n : ℕ) (t : Turn S) (y : Machine S) → (onward t (steps c S after n) ≡ On y) ⊎ (onward t (steps c S after n) ≡ Short y)
      → ((m : Machine S) × (t ≡ On m) × ((steps c S after n m ≡ On y) ⊎ (steps c S after n m ≡ Short y))) ⊎ (t ≡ Short y)
  onward_on n (On m) y h = inl (m, refl, h)
  onward_on n (Short m) y (inl e) = absurd (cc)
  onward_on n (Short m) y (inr e) = inr e
  onward_on n (Over x s) y (inl e) = absurd (cc)
  onward_on n (Over x s) y (inr e) = absurd (cc)

  -- operations of a machine that comes to a control, whether or not steps are wanting for the last one, come to another
  pub come_on : (i n : ℕ) (m y : Machine S) → ComesTo c S after n m.control → (steps c S after i m ≡ On y) ⊎ (steps c S after i m ≡ Short y) → (l : ℕ) × ComesTo c S after l y.control
  come_on zero n m y q (inl e) =
      let same : m ≡ y = cc in
      (n, subst (λ (z : Machine S). ComesTo c S after n z.control) same q)
  come_on zero n m y q (inr e) = absurd (cc)
  come_on (suc i) n m y q h =
      elim (onward_on i (step c S after m) y h) [
        | inl a ↦ come_on i (suc n) a.0 y (m, a.0, q, inl a.1, refl) a.2
        | inr e ↦ (suc n, (m, y, q, inr e, refl))
      ]

-- each control that machines of a program's code come to
pub code_rooms : (p : Program) (c : Code) → IsCodeOf p c → HasRooms p c
code_rooms p c is n k q = come_room p c is (Unit {0}) unseen n k q

bodies_count : (p : Program) (i : ℕ) (fs : List Function) → length (bodies p i fs) ≡ length fs
bodies_count p i [] = refl
bodies_count p i (f ∷ fs) = ap suc (bodies_count p (i + length (function_code p i f)) fs)

-- where chains are bounded, what its stacks hold
pub room_bounded : (p : Program) (c : Code) (k : Control) → IsCodeOf p c → IsBounded p c → HasRoom p k → HoldsAtMost c k
room_bounded p c k is b r =
    let n = b.count r.functions r.chain in
    let l = b.code r.functions r.chain in
    let e : length c.functions ≡ length p.functions = ap length is.functions ∙ bodies_count p 1 p.functions in
    record { frames = omega (arith, n, r.frames, e); stack = omega (arith, l, r.stack); scopes = omega (arith, l, r.scopes) }
