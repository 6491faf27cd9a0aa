-- No run ends for want of room.
use Rattle.std.proofs.Common.{◌≡◌, ◌≤◌, ◌+◌, ◌-◌, ℕ, zero, suc, ℤ, true, List, [], ◌∷◌, ◌++◌, length, Option, Some, None, slice_get, refl, ap, ◌∙◌, subst, arith}
use Rattle.std.proofs.lemmas.Option.{slice_get_within}
use Rattle.c_core.specs.Program.{IsProgram}
use Rattle.c_core.specs.Tree.{Function, Program}
use Rattle.c_core.specs.declared.number.IntType.{IntType}
use Rattle.c_meaning.specs.declared.run.End.{End}
use Rattle.c_meaning.specs.declared.run.End.TheVariants.{Ended}
use Rattle.c_meaning.specs.Acts.{Res, Go, Stop, Flow, Next, Broken, Again, Gave, bind, given}
use Rattle.c_meaning.specs.Acts as acts
use Rattle.c_meaning.specs.Exec.{ticks, with_params, call_of, run_in, run_if}
use Rattle.c_meaning.specs.Fitting.{calls_in}
use Rattle.c_meaning.specs.Meaning.{AParameter, Site, Meaning}
use Rattle.c_meaning.specs.Objects.{size_of_object}
use Rattle.c_meaning.specs.Parts.{some_of, some_node, declared_in, calls, fulls_of, fulls_if}
use Rattle.c_meaning.specs.Related.{FitsParams}
use Rattle.c_meaning.specs.Run as run
use Rattle.c_meaning.specs.Run.{State, Moment, cells_of, with_cells, most_cells, real, first_cells, first_state, end_of, Whole, Run}
use Rattle.c_meaning.proofs.Checked.{function_params}
use Rattle.c_calls.specs.Calling.{IsFirstRecursion}
use Rattle.c_calls.proofs.DepthLaws.{IsPath, few, main_path}
use Rattle.c_frames.proofs.Bodies.{asks}
use Rattle.c_frames.proofs.Refitting.{named}
use Rattle.c_room.specs.Room.{most_functions, HasRoom}
use Rattle.c_room.proofs.Rooms.{sizes, sizes-append, own_size, params_and, keeps_ticks, calm_body, calm_params}
use Rattle.c_room.proofs.Calm.{IsRoomy, Calm, Lands, Keeps, Moves, keeps_stop, keeps_then, keeps_room, keeps_returned, cut_calm, room_parts}
use Rattle.c_room.proofs.Paths.{limit, owned, all_owned, path_fits, path_on}

module _ (p : Program) (S : Type 0) (see : Moment → S → S) where
  abbrev M : Meaning
  M = real p S see

  params_count : (os : List ℕ) (c : ℕ) → params_and os c ≡ length os + c
  params_count [] c = omega arith
  params_count (o ∷ os) c = let r = params_count os c in omega (arith, r)

  -- a call of a function whose body has room one call deeper
  module _ (a C : ℕ) (room : C + a ≤ most_cells) (C' : ℕ) (room' : C' + suc a ≤ most_cells) (bodies : Function → State S → Res End (State S) Flow) (fn : Function) (c d : ℕ) where
    abbrev Inner : ℕ → Res End (State S) Flow → Type 0
    Inner n r = Calm p S see (suc a) C' room' n r

    abbrev whole : List (ℤ × IntType) → State S → Res End (State S) Flow
    whole vs = with_params p M fn.params vs (bodies fn)

    fits : ℕ
    fits = params_and fn.params d

    called_calm : (site : Site) (n : ℕ) (r : Res End (State S) Flow) → n ≤ C → Inner n r → Calm p S see a C room n (bind r (λ flow s. bind (run.shallower p S see s) (λ _. run.returned p S see site (given flow))))
    called_calm site n (Go f t) l o = (keeps_returned p S see a C room site (given f)).at n (record t { active = t.active - 1 }) l o.0 (omega (arith, o.1))
    called_calm site n (Stop e t) l o = o

    body_calm : (vs : List (ℤ × IntType)) → Moves p S see (suc a) C' room' (params_and fn.params c) (params_and fn.params d) (whole vs) → C + params_and fn.params d ≤ C' → (site : Site) → Keeps p S see a C room (run.called p S see site (whole vs))
    body_calm vs g w site = record {
      at = λ n s l q r.
          let s1 : State S = record s { active = suc s.active } in
          called_calm site n (acts.scoped End (State S) cells_of with_cells (whole vs) s1) l (cut_calm p S see (suc a) C' room' n s1 q (whole vs s1) (length s.cells + params_and fn.params c) (g.at (length s.cells) s1 (omega (arith, w, l, q)) (omega arith) (omega (arith, r))));
    }

    pub call_keeps : Moves p S see (suc a) C' room' c d (bodies fn) → C + params_and fn.params d ≤ C' → (site : Site) (vs : List (ℤ × IntType)) → Keeps p S see a C room (call_of p M bodies site (Some fn) vs)
    call_keeps g w site vs =
        keeps_then p S see a C room (ticks p M AParameter (length fn.params)) _ (keeps_ticks p (room_parts p S see a C room) (λ site f vs. M.missing) AParameter (length fn.params)) (λ _.
        keeps_then p S see a C room (run.room p S see (suc (length fn.params))) _ (keeps_room p S see a C room (suc (length fn.params)) (omega (arith, room', w, params_count fn.params d))) (λ _.
        body_calm vs (calm_params p (room_parts p S see (suc a) C' room') (λ site f vs. M.missing) c d fn.params vs (bodies fn) g) w site))

  module _ (h : IsProgram p) (none : IsFirstRecursion p None) (functions : length p.functions ≤ most_functions) where
    room_for : (g : ℕ) (rest : List ℕ) → IsPath p g (g ∷ rest) → limit p (g ∷ rest) + length rest ≤ most_cells
    room_for g rest is =
        let a = path_fits p h (g ∷ rest) is.distinct in
        let b = few (length p.functions) (g ∷ rest) is.distinct is.within in
        omega (arith, a, b, functions)

    params_size : (os : List ℕ) → FitsParams p (named p) os → sizes p os ≡ length os
    params_size [] f = refl
    params_size (o ∷ os) f = let r = params_size os f.2 in let s : 1 ≡ size_of_object p o = f.0 in omega (arith, r, s)

    -- what a function's objects take
    owned_size : (g : ℕ) (fn : Function) → slice_get p.functions g ≡ Some fn → sizes p (owned p g) ≡ params_and fn.params (sizes p (declared_in fn.body))
    owned_size g fn e =
        let a = sizes-append p fn.params (declared_in fn.body) in
        let b = params_size fn.params (function_params p h (named p) (asks p h) g fn e) in
        let c = params_count fn.params (sizes p (declared_in fn.body)) in
        let d = ap (λ o. sizes p (owned_of o)) e in
        omega (arith, a, b, c, d)
      where
        owned_of : Option Function → List ℕ
        owned_of None = []
        owned_of (Some fn) = fn.params ++ declared_in fn.body

    limit_next : (f g : ℕ) (rest : List ℕ) (fn : Function) → slice_get p.functions f ≡ Some fn → limit p (g ∷ rest) + params_and fn.params (sizes p (declared_in fn.body)) ≤ limit p (f ∷ g ∷ rest)
    limit_next f g rest fn e =
        let a = sizes-append p (owned p f) (all_owned p (g ∷ rest)) in
        let b = owned_size f fn e in
        omega (arith, a, b)

    -- a function's body, reached along a path
    run_moves : (n g : ℕ) (fn : Function) → slice_get p.functions g ≡ Some fn → (rest : List ℕ) (is : IsPath p g (g ∷ rest)) → Moves p S see (length rest) (limit p (g ∷ rest)) (room_for g rest is) (own_size p fn.body) (sizes p (declared_in fn.body)) (run_in p M n fn)
    run_moves zero g fn e rest is = record { at = λ n s l q r. tt }
    run_moves (suc n) g fn e rest is =
        calm_body p (room_parts p S see (length rest) (limit p (g ∷ rest)) (room_for g rest is)) (calls_in p M n) fn.result fn.body
        (λ f c site vs. by f c site vs (slice_get p.functions f) refl (λ gn z k. run_moves n f gn z (g ∷ rest) k))
      where
        by : (f : ℕ) → some_of (some_node (calls f)) (fulls_of fn.body) ≡ true → (site : Site) (vs : List (ℤ × IntType)) (o : Option Function) → slice_get p.functions f ≡ o
            → ((gn : Function) → slice_get p.functions f ≡ Some gn → (k : IsPath p f (f ∷ g ∷ rest)) → Moves p S see (length (g ∷ rest)) (limit p (f ∷ g ∷ rest)) (room_for f (g ∷ rest) k) (own_size p gn.body) (sizes p (declared_in gn.body)) (run_in p M n gn))
            → Keeps p S see (length rest) (limit p (g ∷ rest)) (room_for g rest is) (call_of p M (run_in p M n) site o vs)
        by f c site vs None z m = keeps_stop p S see (length rest) (limit p (g ∷ rest)) (room_for g rest is) Ended tt
        by f c site vs (Some gn) z m =
            let k = path_on p none g f (g ∷ rest) is (slice_get_within p.functions f gn z, ap (λ o. some_of (some_node (calls f)) (fulls_if o)) e ∙ c) in
            call_keeps (length rest) (limit p (g ∷ rest)) (room_for g rest is) (limit p (f ∷ g ∷ rest)) (room_for f (g ∷ rest) k) (run_in p M n) gn (own_size p gn.body) (sizes p (declared_in gn.body)) (m gn z k) (limit_next f g rest gn z) site vs

    lands_roomy : (a C : ℕ) (room : C + a ≤ most_cells) (n : ℕ) (r : Res End (State S) Flow) → Lands p S see a C room n r → IsRoomy (end_of r)
    lands_roomy a C room n (Go f t) o = tt
    lands_roomy a C room n (Stop e t) o = o

    pub main_roomy : (n : ℕ) (o : Option Function) → slice_get p.functions p.main ≡ o → (s : State S) → s.cells ≡ first_cells p → s.active ≡ 0 → IsRoomy (end_of (run_if p M n o s))
    main_roomy n None e s c z = tt
    main_roomy n (Some fn) e s c z =
        let is = main_path p none (slice_get_within p.functions p.main fn e) in
        let w = owned_size p.main fn e in
        let v = sizes-append p (owned p p.main) [] in
        let u = params_count fn.params (sizes p (declared_in fn.body)) in
        let l = ap length c in
        lands_roomy 0 (limit p (p.main ∷ [])) (room_for p.main [] is) (length s.cells + own_size p fn.body) (run_in p M n fn s)
        ((run_moves n p.main fn e [] is).at (length s.cells) s (omega (arith, w, v, u, l)) (omega arith) (omega (arith, z)))

pub has_room : (p : Program) → IsProgram p → IsFirstRecursion p None → length p.functions ≤ most_functions → HasRoom p
has_room p h none functions c N e = subst IsRoomy e (main_roomy p (List Moment) (λ x xs. x ∷ xs) h none functions (suc N) (slice_get p.functions p.main) refl (first_state p (List Moment) [] c N) refl refl)
