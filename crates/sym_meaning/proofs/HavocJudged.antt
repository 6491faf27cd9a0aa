-- A judged run in the mode of obligations is the havoc run.
use Rattle.std.proofs.Common.{◌≡◌, ℕ, zero, suc, ℤ, pos, Bool, true, false, cond, not, ◌&&◌, List, [], ◌∷◌, length, take, refl, ap, subst, Option, Some, None, slice_get}
use Rattle.c_core.specs.Tree.{Function, Program}
use Rattle.c_core.specs.Types.{fit, is_zero, number_of}
use Rattle.c_core.specs.Operators.{apply_of, apply_one_of}
use Rattle.c_core.specs.declared.number.IntType.{IntType}
use Rattle.c_core.specs.declared.number.Spot.{Spot}
use Rattle.c_core.specs.declared.number.Done.{Done}
use Rattle.c_core.specs.declared.number.Done.TheVariants.{Value, Overflow, Undefined}
use Rattle.c_core.specs.declared.number.Property.{Property}
use Rattle.c_core.specs.declared.number.Property.TheVariants.{UnreachCall, NoOverflow}
use Rattle.c_meaning.specs.declared.run.DrawKind.{DrawKind}
use Rattle.c_meaning.specs.declared.run.DrawKind.TheVariants.{Havoc as AHavocDraw}
use Rattle.c_meaning.specs.declared.run.DutyKind.{DutyKind}
use Rattle.c_meaning.specs.declared.run.DutyKind.TheVariants.{Location, Entry, Kept}
use Rattle.c_meaning.specs.Cells.{Key}
use Rattle.c_meaning.specs.Objects.{type_of_object, size_of_object, columns_of_object}
use Rattle.c_meaning.specs.Meaning.{Where, Site, Loop, Calls}
use Rattle.c_meaning.specs.Acts.{Res, Go, Stop, Flow, Next, Broken, Again, Gave, bind, go_on, continuing, held, given}
use Rattle.c_meaning.specs.Acts as acts
use Rattle.c_meaning.specs.Changed.{changed_by}
use Rattle.c_meaning.specs.Exec.{turn, run_in, run_if, call_of}
use Rattle.c_meaning.specs.Duties.{Placed}
use Rattle.c_meaning.specs.Havoc as h
use Rattle.c_meaning.specs.Havoc.{Stopped, Passes, Dismisses, Fails, Left, cells_left, with_cells_left, stands, havoc, havoc_in}
use Rattle.c_meaning.specs.Run.{cell_among, arm_for}
use Rattle.c_meaning.specs.Value.{holds}
use Rattle.c_meaning.specs.Related.{Units, Same, Relation, Preserves}
use Rattle.c_meaning.proofs.Fundamental.{same_values, related_body, related_call, Free, all_fit_params, all_fit}
use Rattle.sym_meaning.specs.Mode as mode
use Rattle.sym_meaning.specs.Mode.{JudgedState, cells_judged, with_cells_judged}
use Rattle.sym_meaning.specs.Judged as j
use Rattle.sym_meaning.specs.Judged.{judged, judged_in}
use Rattle.sym_meaning.specs.Obliging as ob
use Rattle.sym_meaning.specs.Obliging.{obliging, as_havoc, IsHavocRun}

abbrev Equal : {A : Type 0} → A → A → Type 0
Equal a b = a ≡ b

abbrev back : JudgedState → Left
back s = record { cells = s.cells; values = s.values; draws = s.draws }

-- the same result, in the same state
abbrev On : {A B : Type 0} → (A → B → Type 0) → Res Stopped JudgedState A → Res Stopped Left B → Type 0
On R (Go a s) (Go b t) = R a b × (back s ≡ t)
On R (Stop e s) (Stop f t) = (e ≡ f) × (back s ≡ t)
On R (Go a s) (Stop f t) = ⊥
On R (Stop e s) (Go b t) = ⊥

record Like {A B : Type 0} (R : A → B → Type 0) (m : JudgedState → Res Stopped JudgedState A) (n : Left → Res Stopped Left B) : Type 0 where
  at : (s : JudgedState) → On R (m s) (n (back s))

on_then : {A B C D : Type 0} (R : A → B → Type 0) (Q : C → D → Type 0) (k : A → JudgedState → Res Stopped JudgedState C) (l : B → Left → Res Stopped Left D) (r : Res Stopped JudgedState A) (q : Res Stopped Left B) → On R r q → ((a : A) (b : B) → R a b → Like Q (k a) (l b)) → On Q (bind r k) (bind q l)
on_then R Q k l (Go a s) (Go b t) o f = subst (λ z. On Q (k a s) (l b z)) o.1 ((f a b o.0).at s)
on_then R Q k l (Go a s) (Stop f t) o g = absurd o
on_then R Q k l (Stop e s) (Go b t) o g = absurd o
on_then R Q k l (Stop e s) (Stop f t) o g = o

then : {A B C D : Type 0} (R : A → B → Type 0) (Q : C → D → Type 0) (m : JudgedState → Res Stopped JudgedState A) (n : Left → Res Stopped Left B) (k : A → JudgedState → Res Stopped JudgedState C) (l : B → Left → Res Stopped Left D) → Like R m n → ((a : A) (b : B) → R a b → Like Q (k a) (l b))
    → Like Q (λ s. bind (m s) k) (λ s. bind (n s) l)
then R Q m n k l g f = record { at = λ s. on_then R Q k l (m s) (n (back s)) (g.at s) f }

like_ret : {A B : Type 0} (R : A → B → Type 0) (a : A) (b : B) → R a b → Like R (λ s. Go a s) (λ s. Go b s)
like_ret R a b q = record { at = λ s. (q, refl) }

like_stop : {A B : Type 0} {R : A → B → Type 0} (e : Stopped) → Like R (λ s. Stop e s) (λ s. Stop e s)
like_stop e = record { at = λ s. (refl, refl) }

like_cond : {A B : Type 0} (R : A → B → Type 0) (t : Bool) (a b : JudgedState → Res Stopped JudgedState A) (c d : Left → Res Stopped Left B) → Like R a c → Like R b d → Like R (cond t a b) (cond t c d)
like_cond R true a b c d x y = x
like_cond R false a b c d x y = y

on_cut : {A B : Type 0} (R : A → B → Type 0) (n : ℕ) (r : Res Stopped JudgedState A) (q : Res Stopped Left B) → On R r q → On R (acts.cut Stopped JudgedState cells_judged with_cells_judged n r) (acts.cut Stopped Left cells_left with_cells_left n q)
on_cut R n (Go a s) (Go b t) o = (o.0, ap {A = Left} (λ z. record z { cells = take n z.cells }) o.1)
on_cut R n (Stop e s) (Stop f t) o = o
on_cut R n (Go a s) (Stop f t) o = absurd o
on_cut R n (Stop e s) (Go b t) o = absurd o

like_scoped : {A B : Type 0} (R : A → B → Type 0) (m : JudgedState → Res Stopped JudgedState A) (n : Left → Res Stopped Left B) → Like R m n → Like R (acts.scoped Stopped JudgedState cells_judged with_cells_judged m) (acts.scoped Stopped Left cells_left with_cells_left n)
like_scoped R m n g = record { at = λ s. on_cut R (length s.cells) (m s) (n (back s)) (g.at s) }

module _ (p : Program) (I : List Placed) where
  abbrev W : mode.Mode
  W = obliging p I

  on_if : {A B : Type 0} (R : A → B → Type 0) (b : Bool) (r r' : Res Stopped JudgedState A) (q q' : Res Stopped Left B) → On R r q → On R r' q' → On R (cond b r r') (cond b q q')
  on_if R true r r' q q' x y = x
  on_if R false r r' q q' x y = y

  like_tests : (i : ℕ) (xs : List Placed) (at_loop : Bool) (spot : Spot) (kind : DutyKind) → Like Units (ob.test_from p I i xs at_loop spot kind) (h.test_from p I i xs at_loop spot kind)
  like_tests i [] at_loop spot kind = like_ret Units tt tt tt
  like_tests i (x ∷ xs) at_loop spot kind = record { at = λ s. on_if Units (stands p I at_loop spot x && not (holds p x.test s.cells)) _ _ _ _ (refl, refl) ((like_tests (suc i) xs at_loop spot kind).at s) }

  like_assumes : (xs : List Placed) (spot : Spot) → Like Units (ob.assume_all p I xs spot) (h.assume_all p I xs spot)
  like_assumes [] spot = like_ret Units tt tt tt
  like_assumes (x ∷ xs) spot = record { at = λ s. on_if Units (stands p I true spot x && not (holds p x.test s.cells)) _ _ _ _ (refl, refl) ((like_assumes xs spot).at s) }

  like_draw : (kind : DrawKind) (spot : Spot) (ty : IntType) → Like Equal (j.draw p kind spot ty) (h.draw p I kind spot ty)
  like_draw kind spot ty = record { at = λ s. (refl, refl) }

  like_write : (x : Key) (v : ℤ) → Like Units (acts.write Stopped JudgedState cells_judged with_cells_judged x v) (acts.write Stopped Left cells_left with_cells_left x v)
  like_write x v = record { at = λ s. (tt, refl) }

  like_redraws : (spot : Spot) (o i n : ℕ) → Like Units (ob.redraw_cells p I spot o i n) (h.redraw_cells p I spot o i n)
  like_redraws spot o i zero = like_ret Units tt tt tt
  like_redraws spot o i (suc n) =
      let k : ℤ → JudgedState → Res Stopped JudgedState (Unit {0}) = λ v s. bind (acts.write Stopped JudgedState cells_judged with_cells_judged (record { object = o; index = i }) v s) (λ _. ob.redraw_cells p I spot o (suc i) n) in
      let l : ℤ → Left → Res Stopped Left (Unit {0}) = λ v s. bind (acts.write Stopped Left cells_left with_cells_left (record { object = o; index = i }) v s) (λ _. h.redraw_cells p I spot o (suc i) n) in
      let each : (v : ℤ) → Like Units (k v) (l v) = λ v. then Units Units _ _ _ _ (like_write (record { object = o; index = i }) v) (λ _ _ _. like_redraws spot o (suc i) n) in
      then Equal Units _ _ k l (like_draw AHavocDraw spot (type_of_object p o)) (λ v w e. subst (λ z. Like Units (k v) (l z)) e (each v))

  like_redraw : (spot : Spot) (os : List ℕ) → Like Units (ob.redraw p I spot os) (h.redraw p I spot os)
  like_redraw spot [] = like_ret Units tt tt tt
  like_redraw spot (o ∷ os) = then Units Units _ _ _ _ (like_redraws spot o 0 (size_of_object p o)) (λ _ _ _. like_redraw spot os)

  like_close : (spot : Spot) (f : Flow) → Like Equal (ob.close p I spot f) (h.close p I spot f)
  like_close spot Next = then Units Equal _ _ _ _ (like_tests 0 I true spot Kept) (λ _ _ _. like_stop Passes)
  like_close spot Broken = like_ret Equal Next Next refl
  like_close spot Again = like_ret Equal Again Again refl
  like_close spot (Gave v) = like_ret Equal (Gave v) (Gave v) refl

  like_loop : (spot : Spot) (l : Loop) (m : mode.Act Flow) (n : Left → Res Stopped Left Flow) → Like Equal m n → Like Equal (ob.loop p I spot l m) (h.loop p I spot l n)
  like_loop spot l m n g =
      then Units Equal _ _ _ _ (like_tests 0 I true spot Entry) (λ _ _ _.
      then Units Equal _ _ _ _ (like_redraw spot (changed_by p l)) (λ _ _ _.
      then Units Equal _ _ _ _ (like_assumes I spot) (λ _ _ _.
      then Equal Equal _ _ _ _ g (λ f f' e. rw e (like_close spot f')))))

  like_over : (y : Property) (at : Where) (v : ℤ) → Like Equal (j.overflowed p W y at v) (h.overflowed p I y at v)
  like_over NoOverflow at v = record { at = λ s. (refl, refl) }
  like_over UnreachCall at v = like_ret Equal v v refl

  like_answered : (at : Where) (d : Done) → Like Equal (j.answered p W at d) (h.answered p I at d)
  like_answered at (Value v) = like_ret Equal v v refl
  like_answered at (Overflow v) = like_over p.property at v
  like_answered at Undefined = like_stop Passes

  like_key : (o : ℕ) (i : Option ℕ) → Like Equal (j.key_of o i) (h.key_of p I o i)
  like_key o None = like_stop Passes
  like_key o (Some i) = like_ret Equal _ _ refl

  like_reached : (y : Property) (at : Where) (site : Site) → Like Equal (j.reached p W y at site) (h.reached p I y at)
  like_reached UnreachCall at site = record { at = λ s. (refl, refl) }
  like_reached NoOverflow at site = like_stop Passes

  like_returned : (site : Site) (v : Option ℤ) → Like Equal (j.returned p W site v) (h.returned p I site v)
  like_returned site (Some v) = like_ret Equal v v refl
  like_returned site None = like_cond Equal site.needed _ _ _ _ (like_stop Passes) (like_ret Equal (pos 0) (pos 0) refl)

  like_go_on : (a : JudgedState → Res Stopped JudgedState Flow) (b : Left → Res Stopped Left Flow) → Like Equal a b → (f : Flow) → Like Equal (go_on a f) (go_on b f)
  like_go_on a b g Next = g
  like_go_on a b g Broken = like_ret Equal Broken Broken refl
  like_go_on a b g Again = like_ret Equal Again Again refl
  like_go_on a b g (Gave v) = like_ret Equal (Gave v) (Gave v) refl

  same : Relation (judged p W) (havoc p I)
  same = record {
    Scope = Unit {0};
    more = λ L o. L;
    Entry = λ L. Unit {0};
    Values = λ ty v w. v ≡ w;
    Truths = λ t u. t ≡ u;
    Targets = λ o x y. x ≡ y;
    Acts = λ L R m n. Like R m n;
    Dones = λ ty L M a b. Like Equal (a true) b;
    Agree = λ a b. Unit {0};
    IsConst = λ ty v. Unit {0};
    HasCell = λ o i. Unit {0};
    HasSize = λ o n. Unit {0};
    MayRead = λ L o. Unit {0};
    MayWrite = λ L o. Unit {0};
    MayCall = λ f. Unit {0};
    MayLoop = λ L at l. Unit {0};
  }

  same_keeps : Preserves p same
  unfolding same
  same_keeps = record {
    ret = λ L R a b q. like_ret R a b q;
    bind = λ L R Q m n k l g f. then R Q m n k l g f;
    using = λ ty L M R m n k l g f. then R Equal m n (λ a. k a true) l g f;
    tick = λ L t. like_ret Units tt tt tt;
    room = λ L n. like_ret Units tt tt tt;
    retype = λ a b v w _ q. q;
    retyped = λ L a b m n _ q. q;
    const = λ ty v _. refl;
    digit = λ b. refl;
    convert = λ L from to v w q. like_ret _ _ _ (ap (fit p.model to) q);
    test = λ L ty v w q. like_ret _ _ _ (ap (λ x. not (is_zero x)) q);
    truth = λ t u q. ap number_of q;
    draw = λ L kind spot ty. like_draw kind spot ty;
    cell = λ o i _. refl;
    element = λ L spot o vs ws q. rw (same_values vs ws q) (like_key o (cell_among (size_of_object p o) (columns_of_object p o) ws));
    look = λ L o x y _ q. rw q (record { at = λ s. (refl, refl) });
    write = λ L o x y v w m t q. rw (t, q) (like_write y w);
    answer = λ L at spot op ty x x' right y y' q r. rw (q, r) (like_answered at (apply_of p.model op ty x' y'));
    answer_one = λ L at spot op ty x x' q. rw q (like_answered at (apply_one_of p.model op ty x'));
    choose = λ ty L t u a a' b b' q g h. rw q (like_cond Equal u a b a' b' g h);
    pick = λ ty L mark t u a a' b b' q g h. rw q (like_cond Equal u a b a' b' g h);
    enter = λ L site. like_ret Units tt tt tt;
    came_back = λ L site ty v w q. like_ret Units tt tt tt;
    reach = λ L at site. like_reached p.property at site;
    ending = λ L. like_stop _;
    called = λ ty L site a b end g. then Equal Equal _ _ _ _ (like_scoped Equal (a true) b (g tt tt)) (λ f f' e. rw e (like_returned site (given f')));
    missing = λ L. like_stop _;
    here = λ L at. like_tests 0 I false at Location;
    declare = λ ty L o n _. record { at = λ s. (refl, refl) };
    own = λ L o. tt;
    branch = λ ty L M at t u a a' b b' q g h. rw q (like_cond Equal u (a true) (b true) a' b' g h);
    select = λ L at ty v w ls q. rw q (like_ret Same (arm_for w ls) (arm_for w ls) refl);
    next = λ ty L. like_ret _ _ _ refl;
    leave = λ ty L. like_ret _ _ _ refl;
    again = λ ty L. like_ret _ _ _ refl;
    give = λ ty L v w q. like_ret _ _ _ (ap (λ x. Gave (Some x)) q);
    give_none = λ ty L q. like_ret _ _ _ refl;
    seq = λ ty L M N a a' b b' g h. then Equal Equal _ _ _ _ g (λ f f' e. rw e (like_go_on (b true) b' h f'));
    scoped = λ ty L M a b g. like_scoped Equal (a true) b g;
    continued = λ ty L M a b g. then Equal Equal _ _ _ _ (like_scoped Equal (a true) b g) (λ x y e. like_ret Equal _ _ (ap continuing e));
    breaks = λ ty L M a b g. then Equal Equal _ _ _ _ (like_scoped Equal (a true) b g) (λ x y e. like_ret Equal _ _ (ap held e));
  }

  free : Free same
  unfolding same
  free = record {
    agree = λ a b. tt;
    const = λ ty v. tt;
    cell = λ o i. tt;
    size = λ o n. tt;
    read = λ L o. tt;
    write = λ L o. tt;
    call = λ f. tt;
    loop = λ L at l. tt;
  }

  like_run : (n : ℕ) (f : Function) → Like Equal (run_in p (judged p W) n f true) (run_in p (havoc p I) n f)
  unfolding same
  like_run zero f = like_stop Passes
  like_run (suc n) f =
      let call : Calls (judged p W) = λ site g vs. call_of p (judged p W) (run_in p (judged p W) n) site (slice_get p.functions g) vs in
      related_body p same same_keeps call
      (λ site g vs. call_of p (havoc p I) (run_in p (havoc p I) n) site (slice_get p.functions g) vs)
      (λ L site g vs ws may q. related_call p same same_keeps (run_in p (judged p W) n) (run_in p (havoc p I) n) site (slice_get p.functions g) (λ fn e. (all_fit_params p same free fn.params, λ E z. like_run n fn)) L vs ws q)
      (λ L at result l may g. like_scoped Equal _ _ (like_loop at l (turn p (judged p W) call result at l true) _ g))
      f.result tt f.body (all_fit p same free f.result tt f.body)

  like_main : (n : ℕ) (f : Option Function) → Like Equal (run_if p (judged p W) n f true) (run_if p (havoc p I) n f)
  like_main n None = like_ret Equal Next Next refl
  like_main n (Some f) = like_run n f

on_same : (r : Res Stopped JudgedState Flow) (q : Res Stopped Left Flow) → On Equal r q → as_havoc r ≡ q
on_same (Go a s) (Go b t) o = λ i. Go (o.0 i) (o.1 i)
on_same (Stop e s) (Stop f t) o = λ i. Stop (o.0 i) (o.1 i)
on_same (Go a s) (Stop f t) o = absurd o
on_same (Stop e s) (Go b t) o = absurd o

pub is_havoc : (p : Program) (I : List Placed) (n : ℕ) (w : List ℤ) (before : List Bool) → IsHavocRun p I n w before
is_havoc p I n w before = on_same (judged_in p (obliging p I) n w before) (havoc_in p I n w) ((like_main p I n (slice_get p.functions p.main)).at _)
