-- In checked programs cells hold values of their objects' types, objects in reach have cells, and expressions give values of their types.
use Rattle.std.proofs.Common.{◌≡◌, ℕ, zero, suc, ℤ, IsTrue, nat_eq, List, [], ◌∷◌, ◌++◌, length, reverse, slice_get, Option, Some, None, refl, sym, ap, ◌∙◌, subst}
use Rattle.std.specs.List.{All}
use Rattle.std.proofs.lemmas.List.Folds.{list_any-append}
use Rattle.std.proofs.lemmas.List.Elements.{All-nil, All-cons, All-head, All-tail, All-push}
use Rattle.std.proofs.lemmas.List.{append_assoc, append-nil, map-append, reverse-append}
use Rattle.c_core.specs.Parts.{is_empty, type_of, declared_by, every_statement}
use Rattle.c_core.specs.Program.{IsProgram, is_main}
use Rattle.c_core.specs.Scope.{is_in, is_fixed, function_reaches, is_block, statement_nests, function_nests}
use Rattle.c_core.specs.Typing.{is_constant, function_fits}
use Rattle.c_core.specs.Types.{fit}
use Rattle.c_core.specs.Tree.{Exp, Stm, Function, Program}
use Rattle.c_core.specs.declared.number.IntType.{IntType}
use Rattle.c_core.specs.declared.number.Spot.{Spot}
use Rattle.c_core.proofs.Fits.{fit_in_range}
use Rattle.c_meaning.specs.declared.run.End.{End}
use Rattle.c_meaning.specs.declared.run.Choices.{Choices}
use Rattle.c_meaning.specs.Cells.{Key, Cell, put, cells_from}
use Rattle.c_meaning.specs.Objects.{type_of_object, size_of_object}
use Rattle.c_meaning.specs.Meaning.{Use, Where}
use Rattle.c_meaning.specs.Acts.{Res, Go, Stop, bind, Flow, Next, Broken, Again, Gave}
use Rattle.c_meaning.specs.Duties.{Placed}
use Rattle.c_meaning.specs.Run as run
use Rattle.c_meaning.specs.Run.{State, Moment, Told, Here, Head, cells_of, with_cells, state_of, first_cells, real}
use Rattle.c_meaning.specs.Havoc.{Stopped, Left, cells_left, with_cells_left, redraw_cells, redraw}
use Rattle.c_meaning.specs.Eval.{eval}
use Rattle.c_meaning.specs.Exec.{exec, with_params, run_main}
use Rattle.c_meaning.specs.Fitting.{IsOf, keys, Grows, calls_in, FitCells, AreLive, AreSound, FitMoment, Leaves, GivesOne, LeavesSome, Begins, Redrawn, IsSeen, IsDone, CellsFit}
use Rattle.c_meaning.specs.Related.{Units, FitsS, FitsParams, with_names, after}
use Rattle.c_meaning.proofs.Checked.{Agreeing, Asks, function_params, function_body, fits_e, fits_s, sees_after}
use Rattle.c_meaning.proofs.FittingCells.{retyped_value, constant_value, nought_value, digit_value, answered_value, answered_one_value, read_fits, put_fits, declared_fits, cut_fits, lives_on, lives_fewer, lives_declared, first_fit, first_live, either_cases, either_left, either_right}
use Rattle.c_meaning.proofs.Stateful as st
use Rattle.c_meaning.proofs.Stateful.{grows_same, grows_on, keys_put}
use Rattle.c_meaning.proofs.KeptRuns as runs
use Rattle.c_meaning.proofs.KeptHavocRuns as havocs
use Rattle.c_meaning.proofs.TypeFacts.{both, neither, at_every}

all_reversed : {X : Type 0} (P : X → Type 0) (xs : List X) → All P xs → All P (reverse xs)
all_reversed P [] h = h
all_reversed P (x ∷ xs) h = subst (All P) (sym (reverse-append (x ∷ []) xs)) (All-push P (reverse xs) x (all_reversed P xs (All-tail P x xs h)) (All-head P x xs h))

none_given : (result : Option IntType) → Agreeing None result → result ≡ None
none_given None e = refl
none_given (Some ty) e = absurd (cc)

-- whatever else holds of a state, which its cells don't matter to
module _ (p : Program) (h : IsProgram p) (E T : Type 0) (cells : T → List Cell) (with_new : List Cell → T → T) (same : (cs : List Cell) (s : T) → cells (with_new cs s) ≡ cs) (Also : T → Type 0) (also : (cs : List Cell) (s : T) → Also s → Also (with_new cs s)) where
  pub with_fitting : (cs : List Cell) (s : T) → FitCells p cs → Also s → FitCells p (cells (with_new cs s)) × Also (with_new cs s)
  with_fitting cs s f a = (subst (FitCells p) (sym (same cs s)) f, also cs s a)

  abbrev pub typed : st.Invariant E T cells with_new p
  typed = record {
    Holds = λ s. FitCells p (cells s) × Also s;
    Is = λ ty v. IsOf p.model ty v;
    Lives = λ L cs. AreLive p L cs;
    Agree = λ a b. Agreeing a b;
    IsConst = λ ty v. IsTrue (is_constant p.model ty v);
    HasSize = λ o n. n ≡ size_of_object p o;
    retype = λ a b v e q. retyped_value p.model a b v e q;
    const = λ ty v q. constant_value p.model ty v q;
    nought = λ ty. nought_value p.model ty;
    digit = λ b. digit_value p.model b;
    fitted = λ ty v. fit_in_range p.model ty v;
    answered = λ op ty x y. answered_value p.model op ty x y;
    answered_one = λ op ty x q. answered_one_value p.model op ty x q;
    looked = λ s k q. read_fits p k (cells s) q.0;
    written = λ s k v q g. with_fitting _ s (put_fits p k v (cells s) q g.0) g.1;
    declared = λ s o n g. with_fitting _ s (declared_fits p o n (cells s) g.0) g.1;
    cut = λ s n g. with_fitting _ s (cut_fits p n (cells s) g.0) g.1;
    lives_on = λ L cs ds g l. lives_on p L cs ds g l;
    lives_fewer = λ L cs l. lives_fewer p L cs l;
    lives_declared = λ L cs o n q l. lives_declared p L cs o n q l;
  }

  module _ (own : st.Own E T cells with_new) (k : st.KeepsOwn E T cells with_new same p typed own) where
    -- objects in reach are in the scope
    abbrev Sees : List ℕ → List ℕ → Type 0
    Sees L reach = (o : ℕ) → IsTrue (is_in o reach) → IsTrue (is_in o L)

    in_left : (x : ℕ) (xs ys : List ℕ) → IsTrue (is_in x xs) → IsTrue (is_in x (xs ++ ys))
    in_left x xs ys q = list_any-append (nat_eq x) xs ys ∙ either_left _ _ q

    in_right : (x : ℕ) (xs ys : List ℕ) → IsTrue (is_in x ys) → IsTrue (is_in x (xs ++ ys))
    in_right x xs ys q = list_any-append (nat_eq x) xs ys ∙ either_right (is_in x xs) _ q

    sees_more : (L reach : List ℕ) (o : ℕ) → Sees L reach → Sees (L ++ o ∷ []) (reach ++ o ∷ [])
    sees_more L reach o f x q = either_cases (is_in x reach) (is_in x (o ∷ [])) (sym (list_any-append (nat_eq x) reach (o ∷ [])) ∙ q) (λ z. in_left x L (o ∷ []) (f x z)) (λ z. in_right x L (o ∷ []) z)

    asks : Asks p (st.kept_parts E T cells with_new same p typed own k)
    asks = record {
      Sees = λ L reach. Sees L reach;
      sees_more = λ L reach o f. sees_more L reach o f;
      sees_still = λ L reach o f. λ x q. in_left x L (o ∷ []) (f x q);
      agree = λ a b q. q;
      const = λ ty v q. q;
      cell = λ o i q. tt;
      size = λ o. refl;
      read = λ L reach o z q. tt;
      write = λ L reach o z q. tt;
      call = λ f fn e. tt;
      loop = λ L at l. tt;
    }

    none : (os : List ℕ) → IsTrue (is_empty os) → os ≡ []
    none [] q = refl
    none (o ∷ os) q = neither q

    sees_none : (L : List ℕ) → Sees L []
    sees_none L o q = neither q

    fits : st.FitsAll E T cells with_new same p typed own k
    unfolding asks
    fits = record {
      params = λ i fn e. function_params p h _ asks i fn e;
      body = λ i fn e L z. function_body p h _ asks i fn e L (sees_none L);
      main = λ fn e. subst (λ L. FitsS p (st.kept_parts E T cells with_new same p typed own k) fn.result L fn.body) (ap (λ os. with_names p (st.kept_parts E T cells with_new same p typed own k) [] os) (none fn.params (subst (λ x. IsTrue (is_main x)) e h.main))) (function_body p h _ asks p.main fn e [] (sees_none []));
    }

    with_cell : (L : List ℕ) (o : ℕ) (s : T) → 1 ≡ size_of_object p o → AreSound p L (cells s) → AreSound p (L ++ o ∷ []) (cells (with_new (cells s ++ cells_from o 0 1 []) s))
    with_cell L o s e g = subst (AreSound p (L ++ o ∷ [])) (sym (same (cells s ++ cells_from o 0 1 []) s)) (record { fit = declared_fits p o 1 (cells s) g.fit; live = lives_declared p L (cells s) o 1 e g.live })

    grows_cell : (o : ℕ) (s : T) → Grows (cells s) (cells (with_new (cells s ++ cells_from o 0 1 []) s))
    grows_cell o s = (keys (cells_from o 0 1 []), ap keys (same (cells s ++ cells_from o 0 1 []) s) ∙ map-append (λ c. c.key) (cells s) (cells_from o 0 1 []))

    grows_value : (o : ℕ) (v : ℤ) (s : T) → let t = with_new (cells s ++ cells_from o 0 1 []) s in Grows (cells s) (cells (with_new (put (record { object = o; index = 0 }) v (cells t)) t))
    grows_value o v s =
        let t = with_new (cells s ++ cells_from o 0 1 []) s in
        let k : Key = record { object = o; index = 0 } in
        grows_on (cells s) (cells t) (cells (with_new (put k v (cells t)) t)) (grows_cell o s) (grows_same (cells t) (cells (with_new (put k v (cells t)) t)) (ap keys (same (put k v (cells t)) t) ∙ keys_put k v (cells t)))

    with_value : (L : List ℕ) (o : ℕ) (v : ℤ) (s : T) → IsOf p.model (Some (type_of_object p o)) v → AreSound p L (cells s) → AreSound p L (cells (with_new (put (record { object = o; index = 0 }) v (cells s)) s))
    with_value L o v s q g =
        let k : Key = record { object = o; index = 0 } in
        subst (AreSound p L) (sym (same (put k v (cells s)) s))
        (record { fit = put_fits p k v (cells s) q g.fit; live = lives_on p L (cells s) (put k v (cells s)) (grows_same (cells s) (put k v (cells s)) (keys_put k v (cells s))) g.live })

    lives_within : (L reach : List ℕ) (cs : List Cell) → Sees L reach → AreLive p L cs → AreLive p reach cs
    lives_within L reach cs z f o i r l = f o i (either_cases (is_fixed p o) (is_in o reach) r (λ q. either_left _ _ q) (λ q. either_right (is_fixed p o) _ (z o q))) l

    pub value_gives : (n : ℕ) (at : Where) (want : Use) (reach : List ℕ) (e : Exp) (s : T) → IsSeen p reach e → AreSound p reach (cells s) → Also s → GivesOne p cells (cells s) reach (type_of e) (eval p (st.stateful E T cells with_new p own) (calls_in p (st.stateful E T cells with_new p own) n) at want e s)
    unfolding asks
    value_gives n at want reach e s q g a =
        by (eval p (st.stateful E T cells with_new p own) (calls_in p (st.stateful E T cells with_new p own) n) at want e s)
        ((st.keeps_calls E T cells with_new same p typed own k fits n reach want at e (fits_e p h _ asks reach reach (λ o z. z) e q.types q.names)).at s (g.fit, a) g.live)
      where
        by : (r : Res E T ℤ) → st.Kept E T cells with_new same p typed {B = ℤ} (λ v w. IsOf p.model (type_of e) v) s r → GivesOne p cells (cells s) reach (type_of e) r
        by (Go v t) o = (o.1, record { fit = o.0.0; live = lives_on p reach (cells s) (cells t) (grows_same (cells s) (cells t) o.1) g.live }, o.2.1)
        by (Stop x t) o = o.0

    pub statement_leaves : (n : ℕ) (result : Option IntType) (reach : List ℕ) (d : Stm) (s : T) → IsDone p result reach d → AreSound p reach (cells s) → Also s → LeavesSome p cells (cells s) reach (reach ++ declared_by d) result (exec p (st.stateful E T cells with_new p own) (calls_in p (st.stateful E T cells with_new p own) n) result d s)
    unfolding asks
    statement_leaves n result reach d s q g a =
        by (exec p (st.stateful E T cells with_new p own) (calls_in p (st.stateful E T cells with_new p own) n) result d s)
        ((st.keeps_statement E T cells with_new same p typed own k fits n result reach d (fits_s p h _ asks result reach reach (λ o z. z) d q.types q.names q.blocks)).at s (g.fit, a) g.live)
      where
        leaves : (f : Flow) (t : T) → FitCells p (cells t) → st.LeftBy E T cells with_new same p typed result (after p (st.kept_parts E T cells with_new same p typed own k) reach d) f (cells t) → Leaves p (reach ++ declared_by d) result f (cells t)
        leaves Next t f l = record { fit = f; live = lives_within _ _ (cells t) (sees_after p h _ asks reach reach (λ o z. z) d q.blocks) l }
        leaves Broken t f l = tt
        leaves Again t f l = tt
        leaves (Gave None) t f l = none_given result l
        leaves (Gave (Some v)) t f l = l

        by : (r : Res E T Flow) → st.KeptDone E T cells with_new same p typed result (after p (st.kept_parts E T cells with_new same p typed own k) reach d) s r → LeavesSome p cells (cells s) reach (reach ++ declared_by d) result r
        by (Go f t) o = (o.1, record { fit = o.0.0; live = lives_on p reach (cells s) (cells t) o.1 g.live }, leaves f t o.0.0 o.2)
        by (Stop x t) o = o.0

    -- parameters are bound one by one, in a state that sees those before
    bound : (to : T → Res E T Flow) (L os : List ℕ) (vs : List (ℤ × IntType)) (s : T) → FitsParams p (st.kept_parts E T cells with_new same p typed own k) os → AreSound p L (cells s) → (t : T) × AreSound p (L ++ os) (cells t) × Grows (cells s) (cells t) × (with_params p (st.stateful E T cells with_new p own) os vs to s ≡ to t)
    bound to L [] vs s f g = (s, subst (λ M. AreSound p M (cells s)) (sym (append-nil L)) g, grows_same (cells s) (cells s) refl, refl)
    bound to L (o ∷ os) [] s f g =
        let b = bound to (L ++ o ∷ []) os [] _ f.2 (with_cell L o s f.0 g) in
        (b.0, subst (λ M. AreSound p M (cells b.0)) (append_assoc L (o ∷ []) os) b.1, grows_on (cells s) _ (cells b.0) (grows_cell o s) b.2, b.3)
    bound to L (o ∷ os) (v ∷ vs) s f g =
        let b = bound to (L ++ o ∷ []) os vs _ f.2 (with_value (L ++ o ∷ []) o (fit p.model (type_of_object p o) v.0) _ (fit_in_range p.model (type_of_object p o) v.0) (with_cell L o s f.0 g)) in
        (b.0, subst (λ M. AreSound p M (cells b.0)) (append_assoc L (o ∷ []) os) b.1, grows_on (cells s) _ (cells b.0) (grows_value o (fit p.model (type_of_object p o) v.0) s) b.2, b.3)

    pub body_begins : (i : ℕ) (fn : Function) (vs : List (ℤ × IntType)) (s : T) (to : T → Res E T Flow) → slice_get p.functions i ≡ Some fn → AreSound p [] (cells s) → Begins p cells (cells s) fn to (with_params p (st.stateful E T cells with_new p own) fn.params vs to s)
    unfolding asks
    body_begins i fn vs s to e g = let b = bound to [] fn.params vs s (function_params p h _ asks i fn e) g in record { state = b.0; sound = b.1; grows = b.2; is = b.3 }

    pub main_fits : (n : ℕ) (s : T) → FitCells p (cells s) → Also s → AreLive p [] (cells s) → FitCells p (cells (state_of (run_main p (st.stateful E T cells with_new p own) n s))) × Also (state_of (run_main p (st.stateful E T cells with_new p own) n s))
    main_fits n s f a l = st.keeps_main E T cells with_new same p typed own k fits n s (f, a) l

module _ (p : Program) (h : IsProgram p) where
  module _ (S : Type 0) (see : Moment → S → S) (Seen : S → Type 0) (sees : (x : Moment) (seen : S) → FitMoment p x → Seen seen → Seen (see x seen)) where
    abbrev run_typed : runs.Invariant p S see
    run_typed = typed p h End (State S) cells_of with_cells (λ cs s. refl) (λ s. Seen s.seen) (λ cs s a. a)

    run_stands : runs.Stands p S see run_typed
    run_stands = record {
      steps = λ s n q. q;
      active = λ s n q. q;
      drawn = λ s kind spot ty q. q;
      Arrived = λ cs. AreSound p [] cs;
      arrived = λ s q l. record { fit = q.0; live = l };
      told = λ s e q l. (q.0, sees (Told e s.cells) s.seen (record { fit = q.0; live = l }) q.1);
      here = λ s spot q l. (q.0, sees (Here spot s.cells) s.seen (record { fit = q.0; live = l }) q.1);
      head = λ s at l cs r q z. (q.0, sees (Head at l cs s.cells) s.seen (r, record { fit = q.0; live = z }) q.1);
    }

    run_keeps : st.KeepsOwn End (State S) cells_of with_cells (λ cs s. refl) p run_typed (runs.own_parts p S see)
    run_keeps = runs.run_keeps p S see run_typed run_stands

    pub seen_fits : (x : S) (c : Choices) (N : ℕ) → Seen x → FitCells p (state_of (run.Seen p S see x c N)).cells × Seen (state_of (run.Seen p S see x c N)).seen
    seen_fits x c N q = main_fits p h End (State S) cells_of with_cells (λ cs s. refl) (λ s. Seen s.seen) (λ cs s a. a) (runs.own_parts p S see) run_keeps (suc N) (run.first_state p S x c N) (first_fit p h) q (first_live p)

  abbrev keep : Moment → List Moment → List Moment
  keep x xs = x ∷ xs

  keep_fits : (x : Moment) (xs : List Moment) → FitMoment p x → All (FitMoment p) xs → All (FitMoment p) (keep x xs)
  keep_fits x xs q f = All-cons (FitMoment p) x xs q f

  -- whatever was seen before
  abbrev unseen_typed : runs.Invariant p (List Moment) keep
  unseen_typed = run_typed (List Moment) keep (λ xs. Unit {0}) (λ x xs q f. tt)

  unseen_keeps : st.KeepsOwn End (State (List Moment)) cells_of with_cells (λ cs s. refl) p unseen_typed (runs.own_parts p (List Moment) keep)
  unseen_keeps = run_keeps (List Moment) keep (λ xs. Unit {0}) (λ x xs q f. tt)

  module _ (I : List Placed) where
    abbrev havoc_typed : havocs.Invariant p I
    havoc_typed = typed p h Stopped Left cells_left with_cells_left (λ cs s. refl) (λ s. Unit {0}) (λ cs s a. a)

    havoc_stands : havocs.Stands p I havoc_typed
    havoc_stands = record { drawn = λ s kind spot ty q. q }

    havoc_keeps : st.KeepsOwn Stopped Left cells_left with_cells_left (λ cs s. refl) p havoc_typed (havocs.own_parts p I)
    havoc_keeps = havocs.havoc_keeps p I havoc_typed havoc_stands

    -- drawing goes on
    abbrev IsGo : {A : Type 0} → Res Stopped Left A → Type 0
    IsGo (Go a t) = Unit {0}
    IsGo (Stop e t) = ⊥

    go_then : (r : Res Stopped Left (Unit {0})) (m : Left → Res Stopped Left (Unit {0})) → IsGo r → ((t : Left) → IsGo (m t)) → IsGo (bind r (λ _. m))
    go_then (Go a t) m q f = f t
    go_then (Stop e t) m q f = absurd q

    cells_go : (spot : Spot) (o i n : ℕ) (s : Left) → IsGo (redraw_cells p I spot o i n s)
    cells_go spot o i zero s = tt
    cells_go spot o i (suc n) s = cells_go spot o (suc i) n _

    redraw_goes : (spot : Spot) (os : List ℕ) (s : Left) → IsGo (redraw p I spot os s)
    redraw_goes spot [] s = tt
    redraw_goes spot (o ∷ os) s = go_then (redraw_cells p I spot o 0 (size_of_object p o) s) (redraw p I spot os) (cells_go spot o 0 (size_of_object p o) s) (λ t. redraw_goes spot os t)

    redraws : (spot : Spot) (os reach : List ℕ) (s : Left) → AreSound p reach s.cells → Redrawn p reach s (redraw p I spot os s)
    redraws spot os reach s g = by (redraw p I spot os s) (redraw_goes spot os s) ((havocs.keeps_redrawn p I havoc_typed havoc_stands reach spot os).at s (g.fit, tt) g.live)
      where
        by : (r : Res Stopped Left (Unit {0})) → IsGo r → st.Kept Stopped Left cells_left with_cells_left (λ cs s. refl) p havoc_typed Units s r → Redrawn p reach s r
        by (Go a t) q o = (o.1, record { fit = o.0.0; live = lives_on p reach s.cells t.cells (grows_same s.cells t.cells o.1) g.live })
        by (Stop e t) q o = absurd q

  pub cells_fit : CellsFit p
  cells_fit = record {
    first = record { fit = first_fit p h; live = first_live p };
    function = λ f fn e. record {
      types = at_every (function_fits p) p.functions f fn h.types e;
      names = at_every (function_reaches p) p.functions f fn h.reach e;
      blocks = (both (is_block fn.body) (every_statement statement_nests fn.body) (at_every function_nests p.functions f fn h.blocks e)).1;
    };
    body = λ f fn vs s k e g. body_begins p h End (State (List Moment)) cells_of with_cells (λ cs s. refl) (λ s. Unit {0}) (λ cs s a. a) (runs.own_parts p (List Moment) keep) unseen_keeps f fn vs s k e g;
    havoc_body = λ I f fn vs s k e g. body_begins p h Stopped Left cells_left with_cells_left (λ cs s. refl) (λ s. Unit {0}) (λ cs s a. a) (havocs.own_parts p I) (havoc_keeps I) f fn vs s k e g;
    redrawn = λ I spot os reach s g. redraws I spot os reach s g;
    run = λ c N. all_reversed (FitMoment p) _ (seen_fits (List Moment) keep (λ xs. All (FitMoment p) xs) keep_fits [] c N (All-nil (FitMoment p))).1;
    run_end = λ c N. (seen_fits (List Moment) keep (λ xs. All (FitMoment p) xs) keep_fits [] c N (All-nil (FitMoment p))).0;
    havoc_end = λ I w. (main_fits p h Stopped Left cells_left with_cells_left (λ cs s. refl) (λ s. Unit {0}) (λ cs s a. a) (havocs.own_parts p I) (havoc_keeps I) (suc (length p.functions)) (record { cells = first_cells p; values = w; draws = [] }) (first_fit p h) tt (first_live p)).0;
    value = λ n at want reach e s q g. value_gives p h End (State (List Moment)) cells_of with_cells (λ cs s. refl) (λ s. Unit {0}) (λ cs s a. a) (runs.own_parts p (List Moment) keep) unseen_keeps n at want reach e s q g tt;
    statement = λ n result reach d s q g. statement_leaves p h End (State (List Moment)) cells_of with_cells (λ cs s. refl) (λ s. Unit {0}) (λ cs s a. a) (runs.own_parts p (List Moment) keep) unseen_keeps n result reach d s q g tt;
    havoc_value = λ I n at want reach e s q g. value_gives p h Stopped Left cells_left with_cells_left (λ cs s. refl) (λ s. Unit {0}) (λ cs s a. a) (havocs.own_parts p I) (havoc_keeps I) n at want reach e s q g tt;
    havoc_statement = λ I n result reach d s q g. statement_leaves p h Stopped Left cells_left with_cells_left (λ cs s. refl) (λ s. Unit {0}) (λ cs s a. a) (havocs.own_parts p I) (havoc_keeps I) n result reach d s q g tt;
  }
