-- Parts of a real run that stay within so many cells and active calls: none of them ends for want of room.
use Rattle.std.proofs.Common.{◌≡◌, ◌≤◌, ◌+◌, ℕ, zero, suc, ℤ, pos, Bool, true, false, cond, nat_le, List, [], ◌∷◌, length, take, Option, Some, None, refl, sym, ap, ◌∙◌, subst, arith, length-append}
use Rattle.std.proofs.lemmas.Bool.Decides.{nat_tests}
use Rattle.c_core.specs.Operators.{apply_of, apply_one_of}
use Rattle.c_core.specs.Tree.{Program}
use Rattle.c_core.specs.declared.number.IntType.{IntType}
use Rattle.c_core.specs.declared.number.Spot.{Spot}
use Rattle.c_core.specs.declared.number.Done.{Done}
use Rattle.c_core.specs.declared.number.Done.TheVariants.{Value, Overflow, Undefined as NoValue}
use Rattle.c_core.specs.declared.number.Property.{Property}
use Rattle.c_core.specs.declared.number.Property.TheVariants.{UnreachCall, NoOverflow}
use Rattle.c_meaning.specs.declared.run.End.{End}
use Rattle.c_meaning.specs.declared.run.End.TheVariants.{Ended, Undefined, Violated, Spent, Deep}
use Rattle.c_meaning.specs.declared.run.Event.{Event}
use Rattle.c_meaning.specs.declared.run.Way.TheVariants.{Truth}
use Rattle.c_meaning.specs.declared.run.Event.TheVariants.{Branch, Enter, Return as Returned, Fail}
use Rattle.c_meaning.specs.declared.run.DrawKind.{DrawKind}
use Rattle.c_meaning.specs.Cells.{Key, Cell, put, cells_from}
use Rattle.c_meaning.specs.Objects.{size_of_object, columns_of_object}
use Rattle.c_meaning.specs.Meaning.{Tick, Where, Site, Loop, Meaning}
use Rattle.c_meaning.specs.Acts.{Res, Go, Stop, Flow, Next, Broken, Again, Gave, bind, go_on, turned, continuing, held, given}
use Rattle.c_meaning.specs.Acts as acts
use Rattle.c_meaning.specs.Run as run
use Rattle.c_meaning.specs.Run.{State, Moment, Here, Head, cells_of, with_cells, most_cells, cell_among, arm_for, way_for, real}
use Rattle.c_meaning.proofs.Stateful.{keys_put}
use Rattle.c_room.proofs.Rooms.{Parts}
use Rattle.c_frames.proofs.CellLaws.{keys_length}

abbrev pub IsRoomy : End → Type 0
IsRoomy Deep = ⊥
IsRoomy Ended = Unit {0}
IsRoomy (Undefined spot) = Unit {0}
IsRoomy (Violated spot) = Unit {0}
IsRoomy Spent = Unit {0}

length_put : (k : Key) (v : ℤ) (cs : List Cell) → length (put k v cs) ≡ length cs
length_put k v cs = sym (keys_length (put k v cs)) ∙ ap length (keys_put k v cs) ∙ keys_length cs

length_new : (o i n : ℕ) → length (cells_from o i n []) ≡ n
length_new o i zero = refl
length_new o i (suc n) = ap suc (length_new o (suc i) n)

take_few : (n : ℕ) (cs : List Cell) → length (take n cs) ≤ n
take_few zero cs = omega arith
take_few (suc n) [] = omega arith
take_few (suc n) (c ∷ cs) = let l = take_few n cs in omega (arith, l)

-- at most C cells and a active calls, for which there is room
module _ (p : Program) (S : Type 0) (see : Moment → S → S) (a C : ℕ) (room : C + a ≤ most_cells) where
  abbrev pub M : Meaning
  M = real p S see

  abbrev pub Act : Type 0 → Type 0
  Act X = State S → Res End (State S) X

  abbrev pub Calm : {X : Type 0} → ℕ → Res End (State S) X → Type 0
  Calm n (Go b t) = (length t.cells ≤ n) × (t.active ≤ a)
  Calm n (Stop e t) = IsRoomy e

  -- an expression leaves no more cells
  pub record Keeps {X : Type 0} (m : Act X) : Type 0 where
    pub at : (n : ℕ) (s : State S) → n ≤ C → length s.cells ≤ n → s.active ≤ a → Calm n (m s)

  -- a statement that declares c cells for what is behind it, and d in all
  abbrev pub Lands : ℕ → Res End (State S) Flow → Type 0
  Lands n (Go Next t) = (length t.cells ≤ n) × (t.active ≤ a)
  Lands n (Go Broken t) = t.active ≤ a
  Lands n (Go Again t) = t.active ≤ a
  Lands n (Go (Gave v) t) = t.active ≤ a
  Lands n (Stop e t) = IsRoomy e

  pub record Moves (c d : ℕ) (m : Act Flow) : Type 0 where
    pub at : (n : ℕ) (s : State S) → n + d ≤ C → length s.cells ≤ n → s.active ≤ a → Lands (n + c) (m s)

  pub keeps_ret : {X : Type 0} (b : X) → Keeps (run.ret p S see b)
  keeps_ret b = record { at = λ n s l q r. (q, r) }

  pub keeps_stop : {X : Type 0} (e : End) → IsRoomy e → Keeps (run.stop p S see {A = X} e)
  keeps_stop e h = record { at = λ n s l q r. h }

  pub keeps_then : {X Y : Type 0} (m : Act X) (k : X → Act Y) → Keeps m → ((b : X) → Keeps (k b)) → Keeps (λ s. bind (m s) k)
  keeps_then m k g f = record { at = λ n s l q r. by n l (m s) (g.at n s l q r) }
    where
      by : (n : ℕ) → n ≤ C → (r : Res End (State S) _) → Calm n r → Calm n (bind r k)
      by n l (Go b t) o = (f b).at n t l o.0 o.1
      by n l (Stop e t) o = o

  pub keeps_cond : {X : Type 0} (t : Bool) (m k : Act X) → Keeps m → Keeps k → Keeps (λ s. cond t m k s)
  keeps_cond true m k g f = record { at = λ n s. g.at n s }
  keeps_cond false m k g f = record { at = λ n s. f.at n s }

  pub keeps_choice : {X : Type 0} (t : Bool) (m k : Act X) → Keeps m → Keeps k → Keeps (cond t m k)
  keeps_choice true m k g f = g
  keeps_choice false m k g f = f

  pub keeps_tell : (e : Event) → Keeps (run.tell p S see e)
  keeps_tell e = record { at = λ n s l q r. (q, r) }

  pub keeps_after : {X : Type 0} (e : Event) (k : Act X) → Keeps k → Keeps (λ s. bind (run.tell p S see e s) (λ _. k))
  keeps_after e k g = keeps_then (run.tell p S see e) (λ _. k) (keeps_tell e) (λ _. g)

  tick_calm : (k n : ℕ) (s : State S) → length s.cells ≤ n → s.active ≤ a → Calm n (run.tick_from p S see k s)
  tick_calm zero n s q r = tt
  tick_calm (suc k) n s q r = (q, r)

  pub keeps_tick : (t : Tick) → Keeps (M.tick t)
  keeps_tick t = record { at = λ n s l q r. tick_calm s.steps n s q r }

  pub keeps_key : (spot : Spot) (o : ℕ) (i : Option ℕ) → Keeps (run.key_of p S see spot o i)
  keeps_key spot o None = keeps_stop (Undefined spot) tt
  keeps_key spot o (Some i) = let k : Key = record { object = o; index = i } in keeps_ret k

  keeps_violated : {X : Type 0} (at' : Where) (spot : Spot) (call : Option Spot) → Keeps (run.violated p S see {A = X} at' spot call)
  keeps_violated at' spot call = keeps_after (Fail at'.statement at'.full call) (run.stop p S see (Violated spot)) (keeps_stop (Violated spot) tt)

  keeps_overflowed : (q : Property) (at' : Where) (spot : Spot) (v : ℤ) → Keeps (run.overflowed p S see q at' spot v)
  keeps_overflowed NoOverflow at' spot v = keeps_violated at' spot None
  keeps_overflowed UnreachCall at' spot v = keeps_ret v

  pub keeps_answered : (at' : Where) (spot : Spot) (d : Done) → Keeps (run.answered p S see at' spot d)
  keeps_answered at' spot (Value v) = keeps_ret v
  keeps_answered at' spot (Overflow v) = keeps_overflowed p.property at' spot v
  keeps_answered at' spot NoValue = keeps_stop (Undefined spot) tt

  pub keeps_reached : (q : Property) (at' : Where) (site : Site) → Keeps (run.reached p S see q at' site)
  keeps_reached UnreachCall at' site = keeps_violated at' site.spot (Some site.spot)
  keeps_reached NoOverflow at' site = keeps_stop Ended tt

  pub keeps_returned : (site : Site) (v : Option ℤ) → Keeps (run.returned p S see site v)
  keeps_returned site (Some v) = keeps_after (Returned site.close (Some v)) (run.ret p S see v) (keeps_ret v)
  keeps_returned site None =
      keeps_after (Returned site.close None) (λ s. cond site.needed (run.stop p S see (Undefined site.spot)) (run.ret p S see (pos 0)) s) (keeps_cond site.needed _ _ (keeps_stop (Undefined site.spot) tt) (keeps_ret (pos 0)))

  pub keeps_look : (k : Key) → Keeps (M.look k)
  keeps_look k = record { at = λ n s l q r. (q, r) }

  pub keeps_write : (k : Key) (v : ℤ) → Keeps (M.write k v)
  keeps_write k v = record { at = λ n s l q r. (subst (λ x. x ≤ n) (sym (length_put k v s.cells)) q, r) }

  pub keeps_draw : (kind : DrawKind) (spot : Spot) (ty : IntType) → Keeps (M.draw kind spot ty)
  keeps_draw kind spot ty = record { at = λ n s l q r. (q, r) }

  pub moves_using : {X : Type 0} (c d : ℕ) (m : Act X) (k : X → Act Flow) → Keeps m → ((b : X) → Moves c d (k b)) → Moves c d (λ s. bind (m s) k)
  moves_using c d m k g f = record { at = λ n s l q r. by n l (m s) (g.at n s (omega (arith, l)) q r) }
    where
      by : (n : ℕ) → n + d ≤ C → (r : Res End (State S) _) → Calm n r → Lands (n + c) (bind r k)
      by n l (Go b t) o = (f b).at n t l o.0 o.1
      by n l (Stop e t) o = o

  pub moves_next : (d : ℕ) → Moves 0 d M.next
  moves_next d = record { at = λ n s l q r. (omega (arith, q), r) }

  pub moves_leave : (c d : ℕ) → Moves c d M.leave
  moves_leave c d = record { at = λ n s l q r. r }

  pub moves_again : (c d : ℕ) → Moves c d M.again
  moves_again c d = record { at = λ n s l q r. r }

  pub moves_give : (c d : ℕ) (v : Option ℤ) → Moves c d (M.give v)
  moves_give c d v = record { at = λ n s l q r. r }

  moves_cond : (c d : ℕ) (t : Bool) (m k : Act Flow) → Moves c d m → Moves c d k → Moves c d (λ s. cond t m k s)
  moves_cond c d true m k g f = record { at = λ n s. g.at n s }
  moves_cond c d false m k g f = record { at = λ n s. f.at n s }

  pub moves_branch : (c d : ℕ) (spot : Spot) (t : Bool) (m k : Act Flow) → Moves c d m → Moves c d k → Moves c d (M.branch spot t m k)
  moves_branch c d spot t m k g f = moves_using c d (run.tell p S see (Branch spot (Truth t))) _ (keeps_tell (Branch spot (Truth t))) (λ _. moves_cond c d t m k g f)

  pub moves_seq : (c d e f : ℕ) (m k : Act Flow) → c ≤ d → Moves c d m → Moves e f k → Moves (c + e) (d + f) (λ s. bind (m s) (go_on k))
  moves_seq c d e f m k w g h = record { at = λ n s l q r. by n l (m s) (g.at n s (omega (arith, l)) q r) }
    where
      more : (n : ℕ) (r : Res End (State S) Flow) → Lands (n + c + e) r → Lands (n + (c + e)) r
      more n (Go Next t) o = (omega (arith, o.0), o.1)
      more n (Go Broken t) o = o
      more n (Go Again t) o = o
      more n (Go (Gave v) t) o = o
      more n (Stop x t) o = o

      by : (n : ℕ) → n + (d + f) ≤ C → (r : Res End (State S) Flow) → Lands (n + c) r → Lands (n + (c + e)) (bind r (go_on k))
      by n l (Go Next t) o = more n (k t) (h.at (n + c) t (omega (arith, l, w)) o.0 o.1)
      by n l (Go Broken t) o = o
      by n l (Go Again t) o = o
      by n l (Go (Gave v) t) o = o
      by n l (Stop x t) o = o

  -- what is cut is no longer than before
  pub cut_calm : (n : ℕ) (s : State S) → length s.cells ≤ n → (r : Res End (State S) Flow) → (k : ℕ) → Lands k r → Calm n (acts.cut End (State S) cells_of with_cells (length s.cells) r)
  cut_calm n s q (Go Next t) k o = let l = take_few (length s.cells) t.cells in (omega (arith, l, q), o.1)
  cut_calm n s q (Go Broken t) k o = let l = take_few (length s.cells) t.cells in (omega (arith, l, q), o)
  cut_calm n s q (Go Again t) k o = let l = take_few (length s.cells) t.cells in (omega (arith, l, q), o)
  cut_calm n s q (Go (Gave v) t) k o = let l = take_few (length s.cells) t.cells in (omega (arith, l, q), o)
  cut_calm n s q (Stop e t) k o = o

  flow_lands : (n : ℕ) (f : Flow) (t : State S) → length t.cells ≤ n → t.active ≤ a → Lands n (Go f t)
  flow_lands n Next t q r = (q, r)
  flow_lands n Broken t q r = r
  flow_lands n Again t q r = r
  flow_lands n (Gave v) t q r = r

  calm_lands : (n : ℕ) (r : Res End (State S) Flow) → Calm n r → Lands (n + 0) r
  calm_lands n (Go f t) o = flow_lands (n + 0) f t (omega (arith, o.0)) o.1
  calm_lands n (Stop e t) o = o

  pub moves_scoped : (c d : ℕ) (m : Act Flow) → Moves c d m → Moves 0 d (M.scoped m)
  moves_scoped c d m g = record { at = λ n s l q r. calm_lands n _ (cut_calm n s q (m s) (n + c) (g.at n s l q r)) }

  pub moves_continued : (c d : ℕ) (m : Act Flow) → Moves c d m → Moves 0 d (M.continued m)
  moves_continued c d m g = record { at = λ n s l q r. by n (acts.scoped End (State S) cells_of with_cells m s) (cut_calm n s q (m s) (n + c) (g.at n s l q r)) }
    where
      by : (n : ℕ) (r : Res End (State S) Flow) → Calm n r → Lands (n + 0) (bind r (λ f u. Go (continuing f) u))
      by n (Go f t) o = flow_lands (n + 0) (continuing f) t (omega (arith, o.0)) o.1
      by n (Stop e t) o = o

  pub moves_breaks : (c d : ℕ) (m : Act Flow) → Moves c d m → Moves 0 d (M.breaks m)
  moves_breaks c d m g = record { at = λ n s l q r. by n (acts.scoped End (State S) cells_of with_cells m s) (cut_calm n s q (m s) (n + c) (g.at n s l q r)) }
    where
      by : (n : ℕ) (r : Res End (State S) Flow) → Calm n r → Lands (n + 0) (bind r (λ f u. Go (held f) u))
      by n (Go f t) o = flow_lands (n + 0) (held f) t (omega (arith, o.0)) o.1
      by n (Stop e t) o = o

  -- each turn leaves no more cells
  turns_land : (d : ℕ) (m : Act Flow) → Moves 0 d m → (k : ℕ) (at' : Spot) (l : Loop) (arrived : List Cell) (n : ℕ) (s : State S) → n + d ≤ C → length s.cells ≤ n → s.active ≤ a → (f : ℕ) × Lands f (run.turns p S see k at' l arrived m s)
  turns_land d m g zero at' l arrived n s w q r = (0, tt)
  turns_land d m g (suc k) at' l arrived n s w q r =
      let s0 : State S = record s { seen = see (Head at' l arrived s.cells) s.seen } in
      by (λ t q r. turns_land d m g k at' l arrived n t w q r) (m s0) (g.at n s0 w q r)
    where
      by : ((t : State S) → length t.cells ≤ n → t.active ≤ a → (f : ℕ) × Lands f (run.turns p S see k at' l arrived m t)) → (r : Res End (State S) Flow) → Lands (n + 0) r → (f : ℕ) × Lands f (bind r (turned (run.turns p S see k at' l arrived m)))
      by h (Go Next t) o = h t (omega (arith, o.0)) o.1
      by h (Go Broken t) o = (length t.cells, (omega arith, o))
      by h (Go Again t) o = (0, o)
      by h (Go (Gave v) t) o = (0, o)
      by h (Stop e t) o = (0, o)

  pub moves_loop : (d : ℕ) (at' : Spot) (l : Loop) (m : Act Flow) → Moves 0 d m → Moves 0 d (M.loop at' l m)
  moves_loop d at' l m g = record { at = λ n s w q r. let x = turns_land d m g (suc s.steps) at' l s.cells n s w q r in calm_lands n _ (cut_calm n s q (run.loop p S see at' l m s) x.0 x.1) }

  pub moves_declare : (o c : ℕ) → Moves c c (M.declare o c)
  moves_declare o c = record { at = λ n s l q r. (omega (arith, q, length-append s.cells (cells_from o 0 c []), length_new o 0 c), r) }

  -- there is room for what fits
  pub keeps_room : (k : ℕ) → C + a + k ≤ most_cells → Keeps (run.room p S see k)
  keeps_room k w = record { at = λ n s l q r. by n (nat_le (length s.cells + s.active + k) most_cells) s refl l q r }
    where
      by : (n : ℕ) (b : Bool) (s : State S) → nat_le (length s.cells + s.active + k) most_cells ≡ b → n ≤ C → length s.cells ≤ n → s.active ≤ a → Calm {X = Unit {0}} n (cond b (Go tt s) (Stop Deep s))
      by n true s e l q r = (q, r)
      by n false s e l q r = absurd (grind (arith, nat_tests))

  room_calm : (k n : ℕ) (s : State S) → n + k ≤ C → length s.cells ≤ n → s.active ≤ a → Calm n (run.room p S see k s)
  room_calm k n s l q r = by (nat_le (length s.cells + s.active + k) most_cells) refl
    where
      by : (b : Bool) → nat_le (length s.cells + s.active + k) most_cells ≡ b → Calm {X = Unit {0}} n (cond b (Go tt s) (Stop Deep s))
      by true e = (q, r)
      by false e = absurd (grind (arith, nat_tests))

  pub moves_room : (c d k : ℕ) (m : Act Flow) → k ≤ d → Moves c d m → Moves c d (λ s. bind (run.room p S see k s) (λ _. m))
  moves_room c d k m w g = record { at = λ n s l q r. by n l (run.room p S see k s) (room_calm k n s (omega (arith, l, w)) q r) }
    where
      by : (n : ℕ) → n + d ≤ C → (r : Res End (State S) (Unit {0})) → Calm n r → Lands (n + c) (bind r (λ _. m))
      by n l (Go u t) o = g.at n t l o.0 o.1
      by n l (Stop e t) o = o

  pub moves_wider : (c d e : ℕ) (m : Act Flow) → d ≤ e → Moves c d m → Moves c e m
  moves_wider c d e m w g = record { at = λ n s l q r. g.at n s (omega (arith, l, w)) q r }

  abbrev pub room_parts : Parts p M
  room_parts = record {
    Keeps = λ m. Keeps m;
    Moves = λ c d m. Moves c d m;
    ret = λ b. keeps_ret b;
    bind = λ m k g f. keeps_then m k g f;
    using = λ c d m k g f. moves_using c d m k g f;
    tick = λ t. keeps_tick t;
    room = λ c d k m w g. moves_room c d k m w g;
    convert = λ from to v. record { at = λ n s l q r. (q, r) };
    test = λ ty v. record { at = λ n s l q r. (q, r) };
    draw = λ kind spot ty. keeps_draw kind spot ty;
    element = λ spot o vs. keeps_key spot o (cell_among (size_of_object p o) (columns_of_object p o) vs);
    look = λ k. keeps_look k;
    write = λ k v. keeps_write k v;
    answer = λ at' spot op ty x right y. keeps_answered at' spot (apply_of p.model op ty x y);
    answer_one = λ at' spot op ty x. keeps_answered at' spot (apply_one_of p.model op ty x);
    choose = λ t x y g f. keeps_choice t x y g f;
    pick = λ mark t x y g f. keeps_after (Branch mark (Truth t)) (λ s. cond t x y s) (keeps_cond t x y g f);
    enter = λ site. keeps_tell (Enter site.close);
    came_back = λ site v. keeps_tell (Returned site.close (Some v));
    reach = λ at' site. keeps_reached p.property at' site;
    ending = keeps_stop Ended tt;
    here = λ spot. record { at = λ n s l q r. (q, r) };
    declare = λ o c. moves_declare o c;
    branch = λ c d spot t x y g f. moves_branch c d spot t x y g f;
    select = λ spot ty v ls. keeps_after (Branch spot (way_for v ls)) (run.ret p S see (arm_for v ls)) (keeps_ret (arm_for v ls));
    next = λ d. moves_next d;
    leave = λ c d. moves_leave c d;
    again = λ c d. moves_again c d;
    give = λ c d v. moves_give c d v;
    seq = λ c d e f x y w g h. moves_seq c d e f x y w g h;
    scoped = λ c d x g. moves_scoped c d x g;
    continued = λ c d x g. moves_continued c d x g;
    breaks = λ c d x g. moves_breaks c d x g;
    loop = λ d spot l x g. moves_loop d spot l x g;
    wider = λ c d e x w g. moves_wider c d e x w g;
  }
