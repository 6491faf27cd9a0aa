-- At each head of a loop in a run, the cells are those at the arrival but for what the loop changes.
use Rattle.std.proofs.Common.{◌≡◌, ℕ, zero, suc, Bool, true, List, [], ◌∷◌, ◌++◌, reverse, Option, Some, None, slice_get, refl, sym, ap, ◌∙◌, subst, true≢false}
use Rattle.std.specs.List.{All}
use Rattle.std.proofs.lemmas.List.{reverse-append}
use Rattle.std.proofs.lemmas.List.Elements.{All-nil, All-cons, All-head, All-tail, All-push}
use Rattle.c_core.specs.Program.{IsProgram}
use Rattle.c_core.specs.Tree.{Node, Function, Program}
use Rattle.c_core.specs.Operators.{apply_of, apply_one_of}
use Rattle.c_core.specs.declared.number.IntType.{IntType}
use Rattle.c_core.specs.declared.number.Spot.{Spot}
use Rattle.c_core.specs.declared.number.Done.{Done}
use Rattle.c_core.specs.declared.number.Done.TheVariants.{Value, Overflow, Undefined}
use Rattle.c_meaning.specs.declared.run.End.{End}
use Rattle.c_meaning.specs.declared.run.End.TheVariants.{Spent}
use Rattle.c_meaning.specs.declared.run.Choices.{Choices}
use Rattle.c_meaning.specs.Cells.{Cell}
use Rattle.c_meaning.specs.Parts.{some_of, some_node, fulls_of_function, fulls_if}
use Rattle.c_meaning.specs.Meaning.{Loop, Meaning}
use Rattle.c_meaning.specs.Acts.{Res, Go, Stop, Flow, Next, Broken, Again, Gave, bind, turned}
use Rattle.c_meaning.specs.Changed.{changed_by}
use Rattle.c_meaning.specs.Run as run
use Rattle.c_meaning.specs.Run.{State, Moment, Told, Here, Head, cells_of, with_cells, state_of, first_state, Whole, Moments, real}
use Rattle.c_meaning.specs.Exec.{turn, run_in, run_if}
use Rattle.c_meaning.specs.Fitting.{Grows, calls_in}
use Rattle.c_meaning.specs.Related.{given_by, given_by_one, Relation, Preserves, FitsS, FitsParams, with_names, after}
use Rattle.c_meaning.proofs.Fundamental.{related_body, related_call}
use Rattle.c_meaning.proofs.Stateful as st
use Rattle.c_meaning.proofs.Stateful.{grows_same}
use Rattle.c_meaning.proofs.KeptRuns as runs
use Rattle.c_frames.specs.Frames.{SameBut, IsFramed}
use Rattle.c_frames.proofs.CellLaws.{same_refl, same_trans}
use Rattle.c_frames.proofs.Refitting.{assigns_no_target, OwnAgreesTo, Refit, refit_s}
use Rattle.c_frames.proofs.Bodies.{params_of, fresh_body, targets_body, named_body}
use Rattle.c_frames.proofs.FramedTurns.{turn_framed}

abbrev pub Seen : Type 0
Seen = List Moment

abbrev pub keep : Moment → Seen → Seen
keep x xs = x ∷ xs

pub all_reversed : {X : Type 0} (P : X → Type 0) (xs : List X) → All P xs → All P (reverse xs)
all_reversed P [] q = q
all_reversed P (x ∷ xs) q = subst (All P) (sym (reverse-append (x ∷ []) xs)) (All-push P (reverse xs) x (all_reversed P xs (All-tail P x xs q)) (All-head P x xs q))

-- heads aside, which want a fact of their turns
abbrev without_heads : Moment → Seen → Seen
without_heads (Told e cs) xs = Told e cs ∷ xs
without_heads (Here spot cs) xs = Here spot cs ∷ xs
without_heads (Head at l arrived cs) xs = xs

pub any_done : (ty : IntType) (d : Done) → st.IsDone (λ ty v. Unit {0}) ty d
any_done ty (Value v) = tt
any_done ty (Overflow v) = tt
any_done ty Undefined = tt

module _ (p : Program) where
  abbrev M : Meaning
  M = real p Seen keep

  -- every moment so far is framed
  abbrev inv : runs.Invariant p Seen keep
  inv = record {
    Holds = λ s. All (IsFramed p) s.seen;
    Is = λ ty v. Unit {0};
    Lives = λ L cs. Unit {0};
    Agree = λ a b. Unit {0};
    IsConst = λ ty v. Unit {0};
    HasSize = λ o n. Unit {0};
    retype = λ a b v e q. tt;
    const = λ ty v q. tt;
    nought = λ ty. tt;
    digit = λ b. tt;
    fitted = λ ty v. tt;
    answered = λ op ty x y. any_done (given_by op ty) (apply_of p.model op ty x y);
    answered_one = λ op ty x q. any_done (given_by_one op ty) (apply_one_of p.model op ty x);
    looked = λ s k q. tt;
    written = λ s k v q g. g;
    declared = λ s o n g. g;
    cut = λ s n g. g;
    lives_on = λ L cs ds g l. tt;
    lives_fewer = λ L cs l. tt;
    lives_declared = λ L cs o n q l. tt;
  }

  stands : runs.Stands p Seen without_heads inv
  stands = record {
    steps = λ s n q. q;
    active = λ s n q. q;
    drawn = λ s kind spot ty q. q;
    Arrived = λ cs. Unit {0};
    arrived = λ s q z. tt;
    told = λ s e q z. All-cons (IsFramed p) (Told e s.cells) s.seen tt q;
    here = λ s spot q z. All-cons (IsFramed p) (Here spot s.cells) s.seen tt q;
    head = λ s at l cs r q z. q;
  }

  abbrev KeepsDone : Option IntType → List ℕ → List ℕ → (State Seen → Res End (State Seen) Flow) → Type 0
  KeepsDone ty L K a = st.KeepsDone End (State Seen) cells_of with_cells (λ cs s. refl) p inv ty L K a

  abbrev KeptDone : Option IntType → List ℕ → State Seen → Res End (State Seen) Flow → Type 0
  KeptDone ty K s r = st.KeptDone End (State Seen) cells_of with_cells (λ cs s. refl) p inv ty K s r

  parts_keep : st.KeepsOwn End (State Seen) cells_of with_cells (λ cs s. refl) p inv (runs.own_parts p Seen without_heads)
  parts_keep = runs.run_keeps p Seen without_heads inv stands

  -- a turn of the loop changes only what the loop changes
  abbrev pub FramedTurn : Spot → Loop → Type 0
  FramedTurn at l = (n : ℕ) (result : Option IntType) (s t : State Seen) → turn p M (calls_in p M n) result at l s ≡ Go Next t → SameBut p (changed_by p l) s.cells t.cells

  abbrev pub heads : Relation M M
  heads = record {
    Scope = List ℕ;
    more = λ L o. L ++ o ∷ [];
    Entry = λ L. L ≡ [];
    Values = λ ty v w. Unit {0};
    Truths = λ t u. Unit {0};
    Targets = λ o x y. x.object ≡ o;
    Acts = λ L R m n. st.Keeps End (State Seen) cells_of with_cells (λ cs s. refl) p inv L R m;
    Dones = λ ty L K a b. KeepsDone ty L K a;
    Agree = λ a b. Unit {0};
    IsConst = λ ty v. Unit {0};
    HasCell = λ o i. Unit {0};
    HasSize = λ o n. Unit {0};
    MayRead = λ L o. Unit {0};
    MayWrite = λ L o. Unit {0};
    MayCall = λ f. Unit {0};
    MayLoop = λ L at l. FramedTurn at l;
  }

  abbrev K : Preserves p (st.kept_parts End (State Seen) cells_of with_cells (λ cs s. refl) p inv (runs.own_parts p Seen without_heads) parts_keep)
  K = st.kept_keeps End (State Seen) cells_of with_cells (λ cs s. refl) p inv (runs.own_parts p Seen without_heads) parts_keep

  heads_keep : Preserves p heads
  heads_keep = record {
    ret = K.ret;
    bind = K.bind;
    using = K.using;
    tick = K.tick;
    room = K.room;
    retype = K.retype;
    retyped = K.retyped;
    const = K.const;
    digit = K.digit;
    convert = K.convert;
    test = K.test;
    truth = K.truth;
    draw = K.draw;
    cell = K.cell;
    element = K.element;
    look = K.look;
    write = K.write;
    answer = K.answer;
    answer_one = K.answer_one;
    choose = K.choose;
    pick = K.pick;
    enter = K.enter;
    came_back = K.came_back;
    reach = K.reach;
    ending = K.ending;
    called = K.called;
    missing = K.missing;
    here = K.here;
    declare = K.declare;
    own = K.own;
    branch = K.branch;
    select = K.select;
    next = K.next;
    leave = K.leave;
    again = K.again;
    give = K.give;
    give_none = K.give_none;
    seq = K.seq;
    scoped = K.scoped;
    continued = K.continued;
    breaks = K.breaks;
  }

  module _ (ty : Option IntType) (L : List ℕ) (at : Spot) (l : Loop) (m : State Seen → Res End (State Seen) Flow) (keeps : KeepsDone ty L L m) (framed : (s t : State Seen) → m s ≡ Go Next t → SameBut p (changed_by p l) s.cells t.cells) where
    turns_kept : (n : ℕ) (arrived : List Cell) (s : State Seen) → All (IsFramed p) s.seen → SameBut p (changed_by p l) arrived s.cells → KeptDone ty L s (run.turns p Seen keep n at l arrived m s)
    turns_kept zero arrived s h same = h
    turns_kept (suc n) arrived s h same =
        let s0 : State Seen = record s { seen = Head at l arrived s.cells ∷ s.seen } in
        by s0 (λ t g q e. turns_kept n arrived t q (same_trans p (changed_by p l) arrived s.cells t.cells same (framed s0 t e))) (m s0) refl (keeps.at s0 (All-cons (IsFramed p) (Head at l arrived s.cells) s.seen same h) tt)
      where
        by : (s0 : State Seen) → ((t : State Seen) → Grows s0.cells t.cells → All (IsFramed p) t.seen → m s0 ≡ Go Next t → KeptDone ty L t (run.turns p Seen keep n at l arrived m t)) → (r : Res End (State Seen) Flow) → m s0 ≡ r → KeptDone ty L s0 r → KeptDone ty L s0 (bind r (turned (run.turns p Seen keep n at l arrived m)))
        by s0 f (Go Next t) e o = st.done_from End (State Seen) cells_of with_cells (λ cs s. refl) p inv ty L s0 t o.1 (run.turns p Seen keep n at l arrived m t) (f t o.1 o.0 e)
        by s0 f (Go Broken t) e o = (o.0, o.1, tt)
        by s0 f (Go Again t) e o = o
        by s0 f (Go (Gave None) t) e o = o
        by s0 f (Go (Gave (Some v)) t) e o = o
        by s0 f (Stop x t) e o = o

    loop_kept : KeepsDone ty L L (M.loop at l m)
    loop_kept = st.done_scoped End (State Seen) cells_of with_cells (λ cs s. refl) p inv ty L L (run.loop p Seen keep at l m) (record { at = λ s h z. turns_kept (suc s.steps) s.cells s h (same_refl p (changed_by p l) s.cells) })

  module _ (h : IsProgram p) where
    abbrev InFunction : ℕ → (Node → Bool) → Type 0
    InFunction g q = some_of (some_node q) (fulls_of_function p g) ≡ true

    pub targets_in : (g : ℕ) (fn : Function) → slice_get p.functions g ≡ Some fn → InFunction g assigns_no_target → ⊥
    targets_in g fn e b = true≢false (sym b ∙ ap (λ o. some_of (some_node assigns_no_target) (fulls_if o)) e ∙ targets_body p h g fn e)

    refit : (g : ℕ) (fn : Function) (r : Option IntType) → slice_get p.functions g ≡ Some fn → Refit p (InFunction g) heads r r
    refit g fn r e = record {
      sound = targets_in g fn e;
      Sees = λ L J. Unit {0};
      sees_more = λ L J o z. tt;
      agree = λ a b q. tt;
      returned = λ ty q. free r ty;
      returned_none = λ q. tt;
      const = λ ty v q. tt;
      cell = λ o i q. tt;
      size = λ o n q. tt;
      read = λ L J o z q. tt;
      write = λ L J o z q c. tt;
      call = λ f fn q s. tt;
      loop = λ L J at l z k. λ n result s t q. turn_framed p l h Seen keep (InFunction g) (targets_in g fn e) L k n result at s t q;
    }
      where
        free : (r ty : Option IntType) → OwnAgreesTo p (InFunction g) heads r ty
        free None ty = tt
        free (Some to) ty = tt

    params_fit : (os : List ℕ) → FitsParams p heads os
    params_fit [] = tt
    params_fit (o ∷ os) = (tt, tt, params_fit os)

    pub body_fits : (g : ℕ) (fn : Function) → slice_get p.functions g ≡ Some fn → (E : List ℕ) → FitsS p heads fn.result (with_names p heads E fn.params) fn.body
    unfolding refit
    body_fits g fn e E = refit_s p (InFunction g) heads fn.result fn.result (refit g fn fn.result e) (params_of p h fn) (with_names p heads E fn.params) tt fn.body (named_body p h g fn e) (fresh_body p h g fn e) (λ q s. ap (λ o. some_of (some_node q) (fulls_if o)) e ∙ s)

    keeps_run : (n g : ℕ) (fn : Function) → slice_get p.functions g ≡ Some fn → (E : List ℕ) → KeepsDone fn.result (with_names p heads E fn.params) (after p heads (with_names p heads E fn.params) fn.body) (run_in p M n fn)
    keeps_run zero g fn e E = st.done_stop End (State Seen) cells_of with_cells (λ cs s. refl) p inv fn.result (with_names p heads E fn.params) (after p heads (with_names p heads E fn.params) fn.body) Spent
    keeps_run (suc n) g fn e E =
        related_body p heads heads_keep (calls_in p M n) (calls_in p M n)
        (λ L site f vs ws m q. related_call p heads heads_keep (run_in p M n) (run_in p M n) site (slice_get p.functions f)
        (λ fn e. (params_fit fn.params, λ E z. keeps_run n f fn e E)) L vs ws q)
        (λ L at result l m g. loop_kept result L at l (turn p M (calls_in p M n) result at l) g (λ s t e. m n result s t e))
        fn.result (with_names p heads E fn.params) fn.body (body_fits g fn e E)

    keeps_if : (n : ℕ) (o : Option Function) → slice_get p.functions p.main ≡ o → (s : State Seen) → All (IsFramed p) s.seen → All (IsFramed p) (state_of (run_if p M n o s)).seen
    keeps_if n None e s q = q
    keeps_if n (Some fn) e s q = at_end (run_in p M n fn s) ((keeps_run n p.main fn e []).at s q tt)
      where
        at_end : (r : Res End (State Seen) Flow) → KeptDone fn.result (after p heads (with_names p heads [] fn.params) fn.body) s r → All (IsFramed p) (state_of r).seen
        at_end (Go f t) o = o.0
        at_end (Stop x t) o = o

    pub heads_framed : (c : Choices) (N : ℕ) → All (IsFramed p) (Moments p c N)
    heads_framed c N = all_reversed (IsFramed p) _ (keeps_if (suc N) (slice_get p.functions p.main) refl (first_state p Seen [] c N) (All-nil (IsFramed p)))
