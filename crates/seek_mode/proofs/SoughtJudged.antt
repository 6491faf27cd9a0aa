-- A judged run in the mode of runs that seek is the run that seeks.
use Rattle.std.proofs.Common.{◌≡◌, ℕ, zero, suc, ℤ, pos, Bool, true, false, cond, not, List, [], length, take, refl, sym, ◌∙◌, ap, subst, Option, Some, None, slice_get}
use Rattle.std.proofs.lemmas.Bool.{false≢true}
use Rattle.c_core.specs.Tree.{Function, Program}
use Rattle.c_core.specs.Types.{fit, is_zero, number_of}
use Rattle.c_core.specs.Operators.{apply_of, apply_one_of}
use Rattle.c_core.specs.declared.number.IntType.{IntType}
use Rattle.c_core.specs.declared.number.Spot.{Spot}
use Rattle.c_core.specs.declared.number.Done.{Done}
use Rattle.c_core.specs.declared.number.Done.TheVariants.{Value, Overflow, Undefined}
use Rattle.c_core.specs.declared.number.Property.{Property}
use Rattle.c_core.specs.declared.number.Property.TheVariants.{UnreachCall, NoOverflow}
use Rattle.c_meaning.specs.declared.run.DrawKind.{DrawKind}
use Rattle.c_meaning.specs.declared.run.Event.{Event}
use Rattle.c_meaning.specs.declared.run.Event.TheVariants.{Branch, Enter, Return}
use Rattle.c_meaning.specs.declared.run.Way.TheVariants.{Truth}
use Rattle.c_meaning.specs.Objects.{size_of_object, columns_of_object}
use Rattle.c_meaning.specs.Meaning.{Where, Site, Calls}
use Rattle.c_meaning.specs.Acts.{Res, Go, Stop, Flow, Next, Broken, Again, Gave, bind, go_on, turned, continuing, held, given}
use Rattle.c_meaning.specs.Acts as acts
use Rattle.c_meaning.specs.Exec.{turn, run_in, run_if, call_of}
use Rattle.c_meaning.specs.Havoc.{Stopped, Passes, Fails}
use Rattle.c_meaning.specs.Run.{cell_among, arm_for, way_for, first_cells}
use Rattle.c_meaning.specs.Related.{Units, Same, Relation, Preserves}
use Rattle.c_meaning.proofs.Fundamental.{same_values, related_body, related_call, Free, all_fit_params, all_fit}
use Rattle.way_match.specs.Points.{BoundSegment}
use Rattle.seek_meaning.specs.Progress.{none_completed}
use Rattle.seek_meaning.specs.Seeking as seek
use Rattle.seek_meaning.specs.Seeking.{SeekEnd, Hits, Misses, SeekState, cells_sought, with_cells_sought, seeking, SeekRun, hits}
use Rattle.sym_meaning.specs.Mode as mode
use Rattle.sym_meaning.specs.Mode.{JudgedState, cells_judged, with_cells_judged}
use Rattle.sym_meaning.specs.Judged as j
use Rattle.sym_meaning.specs.Judged.{judged, judged_in}
use Rattle.seek_mode.specs.SeekingMode.{the_hit, turns, seeking_mode}
use Rattle.seek_mode.specs.SoughtRuns.{end_judged, state_judged, as_judged, sought_in, IsSoughtRun, judged_to_seek, HitsWhereItFails}

abbrev Equal : {A : Type 0} → A → A → Type 0
Equal a b = a ≡ b

abbrev Judged : Type 0 → Type 0
Judged A = Res Stopped JudgedState A

abbrev Sought : Type 0 → Type 0
Sought A = Res SeekEnd SeekState A

-- the same result or end, in the same state
abbrev On : {A B : Type 0} → (A → B → Type 0) → Judged A → Sought B → Type 0
On R (Go a s) (Go b t) = R a b × (s ≡ state_judged t)
On R (Stop e s) (Stop f t) = (e ≡ end_judged f) × (s ≡ state_judged t)
On R (Go a s) (Stop f t) = ⊥
On R (Stop e s) (Go b t) = ⊥

record Like {A B : Type 0} (R : A → B → Type 0) (m : JudgedState → Judged A) (n : SeekState → Sought B) : Type 0 where
  at : (t : SeekState) → On R (m (state_judged t)) (n t)

on_then : {A B C D : Type 0} (R : A → B → Type 0) (Q : C → D → Type 0) (k : A → JudgedState → Judged C) (l : B → SeekState → Sought D) (r : Judged A) (q : Sought B) → On R r q → ((a : A) (b : B) → R a b → Like Q (k a) (l b)) → On Q (bind r k) (bind q l)
on_then R Q k l (Go a s) (Go b t) o f = subst (λ z. On Q (k a z) (l b t)) (sym o.1) ((f a b o.0).at t)
on_then R Q k l (Go a s) (Stop f t) o g = absurd o
on_then R Q k l (Stop e s) (Go b t) o g = absurd o
on_then R Q k l (Stop e s) (Stop f t) o g = o

then : {A B C D : Type 0} (R : A → B → Type 0) (Q : C → D → Type 0) (m : JudgedState → Judged A) (n : SeekState → Sought B) (k : A → JudgedState → Judged C) (l : B → SeekState → Sought D) → Like R m n → ((a : A) (b : B) → R a b → Like Q (k a) (l b))
    → Like Q (λ s. bind (m s) k) (λ t. bind (n t) l)
then R Q m n k l g f = record { at = λ t. on_then R Q k l (m (state_judged t)) (n t) (g.at t) f }

like_ret : {A B : Type 0} (R : A → B → Type 0) (a : A) (b : B) → R a b → Like R (λ s. Go a s) (λ t. Go b t)
like_ret R a b q = record { at = λ t. (q, refl) }

like_miss : {A B : Type 0} {R : A → B → Type 0} → Like R (λ s. Stop Passes s) (λ t. Stop Misses t)
like_miss = record { at = λ t. (refl, refl) }

like_cond : {A B : Type 0} (R : A → B → Type 0) (t : Bool) (a b : JudgedState → Judged A) (c d : SeekState → Sought B) → Like R a c → Like R b d → Like R (cond t a b) (cond t c d)
like_cond R true a b c d x y = x
like_cond R false a b c d x y = y

on_cut : {A B : Type 0} (R : A → B → Type 0) (n : ℕ) (r : Judged A) (q : Sought B) → On R r q → On R (acts.cut Stopped JudgedState cells_judged with_cells_judged n r) (acts.cut SeekEnd SeekState cells_sought with_cells_sought n q)
on_cut R n (Go a s) (Go b t) o = (o.0, ap {A = JudgedState} (λ z. record z { cells = take n z.cells }) o.1)
on_cut R n (Stop e s) (Stop f t) o = o
on_cut R n (Go a s) (Stop f t) o = absurd o
on_cut R n (Stop e s) (Go b t) o = absurd o

like_scoped : {A B : Type 0} (R : A → B → Type 0) (m : JudgedState → Judged A) (n : SeekState → Sought B) → Like R m n → Like R (acts.scoped Stopped JudgedState cells_judged with_cells_judged m) (acts.scoped SeekEnd SeekState cells_sought with_cells_sought n)
like_scoped R m n g = record { at = λ t. on_cut R (length t.cells) (m (state_judged t)) (n t) (g.at t) }

like_go_on : (a : JudgedState → Judged Flow) (b : SeekState → Sought Flow) → Like Equal a b → (f : Flow) → Like Equal (go_on a f) (go_on b f)
like_go_on a b g Next = g
like_go_on a b g Broken = like_ret Equal Broken Broken refl
like_go_on a b g Again = like_ret Equal Again Again refl
like_go_on a b g (Gave v) = like_ret Equal (Gave v) (Gave v) refl

like_turned : (a : JudgedState → Judged Flow) (b : SeekState → Sought Flow) → Like Equal a b → (f : Flow) → Like Equal (turned a f) (turned b f)
like_turned a b g Next = g
like_turned a b g Broken = like_ret Equal Next Next refl
like_turned a b g Again = like_ret Equal Again Again refl
like_turned a b g (Gave v) = like_ret Equal (Gave v) (Gave v) refl

-- a violation stops at the end that its truth says
stops : (t : Bool) → cond t (Fails the_hit) Passes ≡ end_judged (cond t Hits Misses)
stops true = refl
stops false = refl

module _ (p : Program) (ss : List BoundSegment) (k : ℕ) where
  abbrev W : mode.Mode
  W = seeking_mode p ss k

  like_tell : (e : Event) → Like Units (j.tell p W e) (seek.tell p ss k e)
  like_tell e = record { at = λ t. (tt, refl) }

  like_draw : (kind : DrawKind) (spot : Spot) (ty : IntType) → Like Equal (j.draw p kind spot ty) (seek.draw p ss k kind spot ty)
  like_draw kind spot ty = record { at = λ t. (refl, refl) }

  like_violated : (at : Where) (call : Option Spot) → Like Equal (j.violated p W {A = ℤ} at call) (seek.violated p ss k {A = ℤ} at call)
  like_violated at call = record { at = λ t. (stops _, refl) }

  like_over : (y : Property) (at : Where) (v : ℤ) → Like Equal (j.overflowed p W y at v) (seek.overflowed p ss k y at v)
  like_over NoOverflow at v = like_violated at None
  like_over UnreachCall at v = like_ret Equal v v refl

  like_answered : (at : Where) (d : Done) → Like Equal (j.answered p W at d) (seek.answered p ss k at d)
  like_answered at (Value v) = like_ret Equal v v refl
  like_answered at (Overflow v) = like_over p.property at v
  like_answered at Undefined = like_miss

  like_key : (o : ℕ) (i : Option ℕ) → Like Equal (j.key_of o i) (seek.key_of p ss k o i)
  like_key o None = like_miss
  like_key o (Some i) = like_ret Equal _ _ refl

  like_reached : (y : Property) (at : Where) (site : Site) → Like Equal (j.reached p W y at site) (seek.reached p ss k y at site)
  like_reached UnreachCall at site = like_violated at (Some site.spot)
  like_reached NoOverflow at site = like_miss

  like_branched : {A : Type 0} (spot : Spot) (t : Bool) (a b : JudgedState → Judged A) (c d : SeekState → Sought A) → Like Equal a c → Like Equal b d → Like Equal (j.branched p W spot t a b) (seek.branched p ss k spot t c d)
  like_branched spot t a b c d x y = then Units Equal _ _ _ _ (like_tell (Branch spot (Truth t))) (λ _ _ _. like_cond Equal t a b c d x y)

  like_returned : (site : Site) (v : Option ℤ) → Like Equal (j.returned p W site v) (seek.returned p ss k site v)
  like_returned site (Some v) = then Units Equal _ _ _ _ (like_tell (Return site.close (Some v))) (λ _ _ _. like_ret Equal v v refl)
  like_returned site None = then Units Equal _ _ _ _ (like_tell (Return site.close None)) (λ _ _ _. like_cond Equal site.needed _ _ _ _ like_miss (like_ret Equal (pos 0) (pos 0) refl))

  like_body : (may : Bool) (a : mode.Turn) (b : seek.Turn p ss k) → ((may : Bool) → Like Equal (a may) (b may)) → Like Equal (j.body_of p W may a) (seek.body_of p ss k may b)
  like_body false a b g = like_miss
  like_body true a b g = then Equal Equal _ _ _ _ (like_scoped Equal (a true) (b true) (g true)) (λ f f' e. like_ret Equal _ _ (ap continuing e))

  like_turns : (r : ℕ) (a : mode.Turn) (b : seek.Turn p ss k) → ((may : Bool) → Like Equal (a may) (b may)) → Like Equal (turns r a) (seek.turns p ss k r b)
  like_turns zero a b g = then Equal Equal (a false) (b false) _ _ (g false) (λ f f' e. rw e (like_turned (j.stop Passes) (seek.miss p ss k) like_miss f'))
  like_turns (suc r) a b g = then Equal Equal (a true) (b true) _ _ (g true) (λ f f' e. rw e (like_turned (turns r a) (seek.turns p ss k r b) (like_turns r a b g) f'))

  same : Relation (judged p W) (seeking p ss k)
  same = record {
    Scope = Unit {0};
    more = λ L o. L;
    Entry = λ L. Unit {0};
    Values = λ ty v w. v ≡ w;
    Truths = λ t u. t ≡ u;
    Targets = λ o x y. x ≡ y;
    Acts = λ L R m n. Like R m n;
    Dones = λ ty L M a b. (may : Bool) → Like Equal (a may) (b may);
    Agree = λ a b. Unit {0};
    IsConst = λ ty v. Unit {0};
    HasCell = λ o i. Unit {0};
    HasSize = λ o n. Unit {0};
    MayRead = λ L o. Unit {0};
    MayWrite = λ L o. Unit {0};
    MayCall = λ f. Unit {0};
    MayLoop = λ L at l. Unit {0};
  }

  same_keeps : Preserves p same
  unfolding same
  same_keeps = record {
    ret = λ L R a b q. like_ret R a b q;
    bind = λ L R Q m n k l g f. then R Q m n k l g f;
    using = λ ty L M R m n k l g f may. then R Equal m n (λ a. k a may) (λ b. l b may) g (λ a b e. f a b e may);
    tick = λ L t. like_ret Units tt tt tt;
    room = λ L n. like_ret Units tt tt tt;
    retype = λ a b v w _ q. q;
    retyped = λ L a b m n _ q. q;
    const = λ ty v _. refl;
    digit = λ b. refl;
    convert = λ L from to v w q. like_ret _ _ _ (ap (fit p.model to) q);
    test = λ L ty v w q. like_ret _ _ _ (ap (λ x. not (is_zero x)) q);
    truth = λ t u q. ap number_of q;
    draw = λ L kind spot ty. like_draw kind spot ty;
    cell = λ o i _. refl;
    element = λ L spot o vs ws q. rw (same_values vs ws q) (like_key o (cell_among (size_of_object p o) (columns_of_object p o) ws));
    look = λ L o x y _ q. rw q (record { at = λ t. (refl, refl) });
    write = λ L o x y v w may t q. rw (t, q) (record { at = λ s. (tt, refl) });
    answer = λ L at spot op ty x x' right y y' q r. rw (q, r) (like_answered at (apply_of p.model op ty x' y'));
    answer_one = λ L at spot op ty x x' q. rw q (like_answered at (apply_one_of p.model op ty x'));
    choose = λ ty L t u a a' b b' q g h. rw q (like_cond Equal u a b a' b' g h);
    pick = λ ty L mark t u a a' b b' q g h. rw q (like_branched mark u a b a' b' g h);
    enter = λ L site. like_tell (Enter site.close);
    came_back = λ L site ty v w q. rw q (like_tell (Return site.close (Some w)));
    reach = λ L at site. like_reached p.property at site;
    ending = λ L. like_miss;
    called = λ ty L site a b end g. then Equal Equal _ _ _ _ (like_scoped Equal (a true) (b true) (g tt tt true)) (λ f f' e. rw e (like_returned site (given f')));
    missing = λ L. like_miss;
    here = λ L at. record { at = λ t. (tt, refl) };
    declare = λ ty L o n _ may. record { at = λ t. (refl, refl) };
    own = λ L o. tt;
    branch = λ ty L M at t u a a' b b' q g h may. rw q (like_branched at u (a may) (b may) (a' may) (b' may) (g may) (h may));
    select = λ L at ty v w ls q. rw q (then Units Same _ _ _ _ (like_tell (Branch at (way_for w ls))) (λ _ _ _. like_ret Same (arm_for w ls) (arm_for w ls) refl));
    next = λ ty L may. like_ret _ _ _ refl;
    leave = λ ty L may. like_ret _ _ _ refl;
    again = λ ty L may. like_ret _ _ _ refl;
    give = λ ty L v w q may. like_ret _ _ _ (ap (λ x. Gave (Some x)) q);
    give_none = λ ty L q may. like_ret _ _ _ refl;
    seq = λ ty L M N a a' b b' g h may. then Equal Equal _ _ _ _ (g may) (λ f f' e. rw e (like_go_on (b may) (b' may) (h may) f'));
    scoped = λ ty L M a b g may. like_scoped Equal (a may) (b may) (g may);
    continued = λ ty L M a b g may. like_body may a b g;
    breaks = λ ty L M a b g may. then Equal Equal _ _ _ _ (like_scoped Equal (a may) (b may) (g may)) (λ x y e. like_ret Equal _ _ (ap held e));
  }

  free : Free same
  unfolding same
  free = record {
    agree = λ a b. tt;
    const = λ ty v. tt;
    cell = λ o i. tt;
    size = λ o n. tt;
    read = λ L o. tt;
    write = λ L o. tt;
    call = λ f. tt;
    loop = λ L at l. tt;
  }

  like_run : (n : ℕ) (f : Function) (may : Bool) → Like Equal (run_in p (judged p W) n f may) (run_in p (seeking p ss k) n f may)
  unfolding same
  like_run zero f may = like_miss
  like_run (suc n) f may =
      let call : Calls (judged p W) = λ site g vs. call_of p (judged p W) (run_in p (judged p W) n) site (slice_get p.functions g) vs in
      let other : Calls (seeking p ss k) = λ site g vs. call_of p (seeking p ss k) (run_in p (seeking p ss k) n) site (slice_get p.functions g) vs in
      related_body p same same_keeps call other
      (λ L site g vs ws may q. related_call p same same_keeps (run_in p (judged p W) n) (run_in p (seeking p ss k) n) site (slice_get p.functions g) (λ fn e. (all_fit_params p same free fn.params, λ E z. like_run n fn)) L vs ws q)
      (λ L at result l _ g may. like_scoped Equal _ _ (like_turns k (turn p (judged p W) call result at l) (turn p (seeking p ss k) other result at l) g))
      f.result tt f.body (all_fit p same free f.result tt f.body) may

  like_main : (n : ℕ) (f : Option Function) → Like Equal (run_if p (judged p W) n f true) (run_if p (seeking p ss k) n f true)
  like_main n None = like_ret Equal Next Next refl
  like_main n (Some f) = like_run n f true

on_same : (r : Judged Flow) (q : Sought Flow) → On Equal r q → r ≡ as_judged q
on_same (Go a s) (Go b t) o = λ i. Go (o.0 i) (o.1 i)
on_same (Stop e s) (Stop f t) o = λ i. Stop (o.0 i) (o.1 i)
on_same (Go a s) (Stop f t) o = absurd o
on_same (Stop e s) (Go b t) o = absurd o

pub is_sought : (p : Program) (ss : List BoundSegment) (k n : ℕ) (w : List ℤ) (before : List Bool) → IsSoughtRun p ss k n w before
is_sought p ss k n w before =
    on_same (judged_in p (seeking_mode p ss k) n w before) (sought_in p ss k n w before) ((like_main p ss k n (slice_get p.functions p.main)).at (record { cells = first_cells p; values = w; draws = []; completed = before }))

-- ---- hits
abbrev fails : Judged Flow → Bool
fails (Stop (Fails d) s) = true
fails (Stop _ s) = false
fails (Go a s) = false

fails_where_it_hits : (r : Sought Flow) → hits r ≡ fails (as_judged r)
fails_where_it_hits (Go a s) = refl
fails_where_it_hits (Stop Hits s) = refl
fails_where_it_hits (Stop Misses s) = refl

hit_fails : (r : Sought Flow) → hits r ≡ true → (s : JudgedState) × (as_judged r ≡ Stop (Fails the_hit) s)
hit_fails (Go a s) e = absurd (false≢true e)
hit_fails (Stop Hits s) e = (state_judged s, refl)
hit_fails (Stop Misses s) e = absurd (false≢true e)

pub hits_where_it_fails : (p : Program) (ss : List BoundSegment) (k : ℕ) (w : List ℤ) → HitsWhereItFails p ss k w
hits_where_it_fails p ss k w =
    let q : judged_to_seek p ss k w ≡ as_judged (SeekRun p ss k w) = is_sought p ss k (suc k) w (none_completed ss) in (
      λ e. let f = hit_fails (SeekRun p ss k w) e in (f.0, q ∙ f.1),
      λ f. fails_where_it_hits (SeekRun p ss k w) ∙ ap fails (sym q ∙ f.1),
    )
