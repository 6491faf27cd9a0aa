-- Where every obligation holds, no run is violated, and invariants hold wherever they are placed.
use Rattle.std.proofs.Common.{◌≡◌, ◌≤◌, ℕ, zero, suc, ℤ, Bool, true, List, [], ◌∷◌, length, Option, Some, None, slice_get, refl, sym, ap, ◌∙◌, subst, arith}
use Rattle.std.specs.List.{All}
use Rattle.std.proofs.lemmas.List.Elements.{All-nil}
use Rattle.std.proofs.lemmas.Option.{slice_get_within}
use Rattle.c_core.specs.Program.{IsProgram}
use Rattle.c_core.specs.Tree.{Node, Function, Program}
use Rattle.c_core.specs.declared.number.IntType.{IntType}
use Rattle.c_core.specs.declared.number.Spot.{Spot}
use Rattle.c_meaning.specs.declared.run.Choices.{Choices}
use Rattle.c_meaning.specs.declared.run.End.{End}
use Rattle.c_meaning.specs.declared.run.End.TheVariants.{Violated, Spent}
use Rattle.c_meaning.specs.Acts.{Res, Go, Stop, Flow}
use Rattle.c_meaning.specs.Duties.{Placed, Duties, number_among}
use Rattle.c_meaning.specs.Exec.{turn, run_in, run_if, run_main}
use Rattle.c_meaning.specs.Fitting.{FitCells, calls_in}
use Rattle.c_meaning.specs.Cells.{Cell}
use Rattle.c_meaning.specs.declared.run.HavocEnd.TheVariants.{Failed}
use Rattle.c_meaning.specs.Havoc.{Stopped, Left, havoc_run, Havoc}
use Rattle.c_duties.proofs.Numbers.{tells_obligations}
use Rattle.c_meaning.specs.Parts.{some_of, some_node, fulls_of_function, fulls_if}
use Rattle.c_meaning.specs.Related.{FitsS, FitsParams}
use Rattle.c_meaning.specs.Run.{State, first_cells, first_state, state_of, end_of, Whole, Run}
use Rattle.c_meaning.proofs.FittingCells.{first_fit}
use Rattle.c_meaning.proofs.Fundamental.{related_body, related_call}
use Rattle.c_calls.specs.Calling.{IsCalledIn, IsFirstRecursion}
use Rattle.c_calls.specs.Depth.{IsChainFrom}
use Rattle.c_calls.proofs.DepthLaws.{chain_is_short, main_path}
use Rattle.c_frames.proofs.Bodies.{params_of, fresh_body, named_body}
use Rattle.c_frames.proofs.FramedTurns.{turn_framed}
use Rattle.c_frames.proofs.Heads.{Seen, keep, all_reversed, targets_in}
use Rattle.c_frames.proofs.Refitting.{OwnAgreesTo, AgreesTo, Refit, refit_s}
use Rattle.c_lifting.specs.Lifting.{EveryObligationHolds, IsLifted, Lifted}
use Rattle.c_lifting.proofs.Lifts.{IsFine, Safe, Follows, Lifts, SameFlow, lifts_stop, lifts_loop}
use Rattle.c_lifting.proofs.Relating.{H, N, lifting, lifting_keeps}

-- chains of calls from a function, itself among them, are of at most so many functions
abbrev Shallow : Program → ℕ → ℕ → Type 0
Shallow p zero f = ⊥
Shallow p (suc n) f = (g : ℕ) → IsCalledIn p (fulls_of_function p f) g → Shallow p n g

shallow : (p : Program) (n f : ℕ) → ((gs : List ℕ) → IsChainFrom p f gs → length (f ∷ gs) ≤ n) → Shallow p n f
shallow p zero f h = let l = h [] tt in absurd (omega (arith, l))
shallow p (suc n) f h = λ g c. shallow p n g (λ gs i. let l = h (g ∷ gs) (c, i) in omega (arith, l))

module _ (p : Program) (h : IsProgram p) (I : List Placed) where
  abbrev InFunction : ℕ → (Node → Bool) → Type 0
  InFunction g q = some_of (some_node q) (fulls_of_function p g) ≡ true

  abbrev Calls : ℕ → ℕ → Type 0
  Calls d f = Shallow p d f

  refit : (d g : ℕ) (fn : Function) (r : Option IntType) → slice_get p.functions g ≡ Some fn → Shallow p (suc d) g → Refit p (InFunction g) (lifting p I (Calls d)) r r
  refit d g fn r e q = record {
    sound = targets_in p h g fn e;
    Sees = λ L J. Unit {0};
    sees_more = λ L J o z. tt;
    agree = λ a b q. q;
    returned = λ ty q. again r ty q;
    returned_none = λ q. q;
    const = λ ty v q. q;
    cell = λ o i q. tt;
    size = λ o n q. tt;
    read = λ L J o z q. tt;
    write = λ L J o z q c. tt;
    call = λ f fn z s. q f (slice_get_within p.functions f fn z, s);
    loop = λ L J at l z k. λ n result s t c. turn_framed p l h Seen keep (InFunction g) (targets_in p h g fn e) L k n result at s t c;
  }
    where
      again : (r ty : Option IntType) → AgreesTo p (InFunction g) r ty → OwnAgreesTo p (InFunction g) (lifting p I (Calls d)) r ty
      again None ty q = q
      again (Some to) ty q = q

  params_fit : (d : ℕ) (os : List ℕ) → FitsParams p (lifting p I (Calls d)) os
  params_fit d [] = tt
  params_fit d (o ∷ os) = (tt, tt, params_fit d os)

  body_fits : (d g : ℕ) (fn : Function) → slice_get p.functions g ≡ Some fn → Shallow p (suc d) g → FitsS p (lifting p I (Calls d)) fn.result tt fn.body
  unfolding refit
  body_fits d g fn e q = refit_s p (InFunction g) (lifting p I (Calls d)) fn.result fn.result (refit d g fn fn.result e q) (params_of p h fn) tt tt fn.body (named_body p h g fn e) (fresh_body p h g fn e) (λ q s. ap (λ o. some_of (some_node q) (fulls_if o)) e ∙ s)

  -- a real run with calls at most n deep, and a havoc run whose calls are no deeper than its bound
  lifts_run : (d n g : ℕ) (fn : Function) → slice_get p.functions g ≡ Some fn → Shallow p d g → Lifts p I (SameFlow p I fn.result) (run_in p (H p I) d fn) (run_in p (N p I) n fn)
  lifts_run zero n g fn e q = absurd q
  lifts_run (suc d) zero g fn e q = lifts_stop p I (SameFlow p I fn.result) (run_in p (H p I) (suc d) fn) Spent tt
  lifts_run (suc d) (suc n) g fn e q =
      related_body p (lifting p I (Calls d)) (lifting_keeps p I (Calls d)) (calls_in p (H p I) d) (calls_in p (N p I) n)
      (λ L site f vs ws m k. related_call p (lifting p I (Calls d)) (lifting_keeps p I (Calls d)) (run_in p (H p I) d) (run_in p (N p I) n) site (slice_get p.functions f)
      (λ fn z. (params_fit d fn.params, λ E w. lifts_run d n f fn z m)) L vs ws k)
      (λ L at result l m k. lifts_loop p I result at l (turn p (H p I) (calls_in p (H p I) d) result at l) (turn p (N p I) (calls_in p (N p I) n) result at l) k (λ s t c. m n result s t c))
      fn.result tt fn.body (body_fits d g fn e q)

  module _ (none : IsFirstRecursion p None) (all : EveryObligationHolds p I) where
    main_shallow : (fn : Function) → slice_get p.functions p.main ≡ Some fn → Shallow p (suc (length p.functions)) p.main
    main_shallow fn e = shallow p (suc (length p.functions)) p.main (λ gs c. let l = chain_is_short p none p.main (p.main ∷ []) gs (main_path p none (slice_get_within p.functions p.main fn e)) c in omega (arith, l))

    abbrev Result : Type 0
    Result = Res End (State Seen) Flow

    never : (w : List ℤ) (number : ℕ) → (Havoc p I w).end ≡ Failed number → ⊥
    never w number e = let f = tells_obligations p I w number e in let l = f.at.within in all number (omega (arith, f.counted)) (omega (arith, f.counted, l)) w e

    safe : Safe (run_main p (H p I) (suc (length p.functions))) (first_cells p) []
    safe = record { never = λ w d x e. never w (number_among d (Duties p I)) (ap (λ r. (havoc_run (Duties p I) r).end) e) }

    -- the run's end is no violation, and its moments are good
    pub record Fine (r : Result) : Type 0 where
      pub end : IsFine (end_of r)
      pub seen : All (IsLifted p I) (state_of r).seen

    ended : (ty : Option IntType) (K : Left → Res Stopped Left Flow) (c : List Cell) (r : Result) → Follows p I (SameFlow p I ty) K c r → Fine r
    ended ty K c (Go f t) q = record { end = tt; seen = q.4 }
    ended ty K c (Stop e t) q = record { end = q.0; seen = q.1 }

    main_fine : (o : Option Function) → slice_get p.functions p.main ≡ o → (n : ℕ) (s : State Seen) → s.cells ≡ first_cells p → s.seen ≡ [] → Fine (run_if p (N p I) n o s)
    main_fine None e n s c z = record { end = tt; seen = subst (All (IsLifted p I)) (sym z) (All-nil (IsLifted p I)) }
    main_fine (Some fn) e n s c z =
        ended fn.result (run_in p (H p I) (suc (length p.functions)) fn) s.cells (run_in p (N p I) n fn s)
        ((lifts_run (suc (length p.functions)) n p.main fn e (main_shallow fn e)).by s [] (subst (FitCells p) (sym c) (first_fit p h)) (subst (All (IsLifted p I)) (sym z) (All-nil (IsLifted p I)))
        (subst (λ d. Safe (run_in p (H p I) (suc (length p.functions)) fn) d []) (sym c) (subst (λ o. Safe (run_if p (H p I) (suc (length p.functions)) o) (first_cells p) []) e safe)))

    fine : (c : Choices) (N : ℕ) → Fine (Whole p c N)
    fine c N = main_fine (slice_get p.functions p.main) refl (suc N) (first_state p Seen [] c N) refl refl

    not_violated : (e : End) (spot : Spot) → IsFine e → e ≡ Violated spot → ⊥
    not_violated e spot f q = subst IsFine q f

    pub all_runs : Lifted p I
    all_runs = record {
      never_violated = λ c N spot e. not_violated (Run p c N).end spot (fine c N).end e;
      invariants = λ c N. all_reversed (IsLifted p I) _ (fine c N).seen;
    }
