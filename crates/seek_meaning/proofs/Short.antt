-- A run within a bound has steps enough, and what lives in it took steps.
use Rattle.std.proofs.Common.{◌≡◌, ◌<◌, ◌≤◌, ◌+◌, ◌-◌, arith, ℕ, zero, suc, ℤ, pos, Bool, true, false, cond, nat_le, List, [], ◌∷◌, ◌++◌, length, take, min, refl, sym, ◌∙◌, ap, true≢false, Option, Some, None}
use Rattle.std.proofs.lemmas.Bool.{leb-false}
use Rattle.std.proofs.lemmas.List.{length-append, length-take}
use Rattle.c_core.specs.Operators.{apply_of, apply_one_of}
use Rattle.c_core.specs.Tree.{Program}
use Rattle.c_core.specs.declared.number.Spot.{Spot}
use Rattle.c_core.specs.declared.number.Done.{Done}
use Rattle.c_core.specs.declared.number.Done.TheVariants.{Value, Overflow, Undefined as NoValue}
use Rattle.c_core.specs.declared.number.Property.{Property}
use Rattle.c_core.specs.declared.number.Property.TheVariants.{UnreachCall, NoOverflow}
use Rattle.c_meaning.specs.declared.run.End.TheVariants.{Ended, Undefined, Violated, Spent, Deep}
use Rattle.c_meaning.specs.declared.run.Event.{Event}
use Rattle.c_meaning.specs.declared.run.Event.TheVariants.{Branch, Enter, Return as Returned}
use Rattle.c_meaning.specs.declared.run.Way.TheVariants.{Truth}
use Rattle.c_meaning.specs.declared.run.Choices.{Choices}
use Rattle.c_meaning.specs.Cells.{Key, Cell, live, same_key, put, cells_from}
use Rattle.c_meaning.specs.Meaning.{Tick, Where, Site, Loop, Meaning}
use Rattle.c_meaning.specs.Acts.{Res, Go, Stop, Flow, Next, Broken, Again, Gave, bind, go_on, turned, continuing, held, given}
use Rattle.c_meaning.specs.Acts as acts
use Rattle.c_meaning.specs.Exec.{ticks}
use Rattle.c_meaning.specs.Run as run
use Rattle.c_meaning.specs.Run.{State, Moment, Told, Here, Head, real, cells_of, with_cells, cell_among, most_cells, first_state, first_cells}
use Rattle.seek_meaning.specs.Bounded as b
use Rattle.seek_meaning.specs.Bounded.{BoundedEnd, Within, Beyond, within, bounded, bounded_end, WholeBounded}
use Rattle.seek_meaning.specs.Steps as steps
use Rattle.seek_meaning.specs.Steps.{StepsWithin, IsShort}
use Rattle.seek_meaning.proofs.Paying.{Prices, Pays, pays_main}

abbrev Seen : Type 0
Seen = List Moment

abbrev keep : Moment → Seen → Seen
keep x xs = x ∷ xs

abbrev Result : Type 0 → Type 0
Result A = Res BoundedEnd (State Seen) A

abbrev is_spent : BoundedEnd → Bool
is_spent (Within Spent) = true
is_spent _ = false

abbrev is_deep : BoundedEnd → Bool
is_deep (Within Deep) = true
is_deep _ = false

-- what lives, and the steps left
abbrev size : State Seen → ℕ
size s = length s.cells + s.active + s.steps

-- from this state at most c steps were taken, and n more live than were paid for by steps
abbrev Holds : {A : Type 0} → ℕ → ℕ → State Seen → Result A → Type 0
Holds n c s (Go x t) = (s.steps ≤ t.steps + c) × (size t ≤ size s + n)
Holds n c s (Stop (Within Spent) t) = s.steps < c
Holds n c s (Stop (Within Deep) t) = most_cells < size s + n
Holds n c s (Stop (Within Ended) t) = Unit {0}
Holds n c s (Stop (Within (Undefined spot)) t) = Unit {0}
Holds n c s (Stop (Within (Violated spot)) t) = Unit {0}
Holds n c s (Stop Beyond t) = Unit {0}

record Costs {A : Type 0} (n c : ℕ) (m : State Seen → Result A) : Type 0 where
  at : (s : State Seen) → Holds n c s (m s)

-- with more allowed
holds_less : {A : Type 0} (n m c d : ℕ) (s : State Seen) (r : Result A) → n ≤ m → c ≤ d → Holds n c s r → Holds m d s r
holds_less n m c d s (Go x t) e f h = (omega (arith, f, h.0), omega (arith, e, h.1))
holds_less n m c d s (Stop (Within Spent) t) e f h = omega (arith, f, h)
holds_less n m c d s (Stop (Within Deep) t) e f h = omega (arith, e, h)
holds_less n m c d s (Stop (Within Ended) t) e f h = tt
holds_less n m c d s (Stop (Within (Undefined spot)) t) e f h = tt
holds_less n m c d s (Stop (Within (Violated spot)) t) e f h = tt
holds_less n m c d s (Stop Beyond t) e f h = tt

-- after a part from state s to t
holds_after : {B : Type 0} (n m c d : ℕ) (s t : State Seen) (q : Result B) → s.steps ≤ t.steps + c → size t ≤ size s + n → Holds m d t q → Holds (n + m) (c + d) s q
holds_after n m c d s t (Go y u) e f h = (omega (arith, e, h.0), omega (arith, f, h.1))
holds_after n m c d s t (Stop (Within Spent) u) e f h = omega (arith, e, h)
holds_after n m c d s t (Stop (Within Deep) u) e f h = omega (arith, f, h)
holds_after n m c d s t (Stop (Within Ended) u) e f h = tt
holds_after n m c d s t (Stop (Within (Undefined spot)) u) e f h = tt
holds_after n m c d s t (Stop (Within (Violated spot)) u) e f h = tt
holds_after n m c d s t (Stop Beyond u) e f h = tt

holds_then : {A B : Type 0} (n m c d : ℕ) (s : State Seen) (r : Result A) (f : A → State Seen → Result B) → Holds n c s r → ((x : A) → Costs m d (f x)) → Holds (n + m) (c + d) s (bind r f)
holds_then n m c d s (Go x t) f h g = holds_after n m c d s t (f x t) h.0 h.1 ((g x).at t)
holds_then n m c d s (Stop (Within Spent) t) f h g = omega (arith, h)
holds_then n m c d s (Stop (Within Deep) t) f h g = omega (arith, h)
holds_then n m c d s (Stop (Within Ended) t) f h g = tt
holds_then n m c d s (Stop (Within (Undefined spot)) t) f h g = tt
holds_then n m c d s (Stop (Within (Violated spot)) t) f h g = tt
holds_then n m c d s (Stop Beyond t) f h g = tt

-- one part, then another
then_more : {A B : Type 0} (n l c d : ℕ) (m : State Seen → Result A) (f : A → State Seen → Result B) → Costs n c m → ((x : A) → Costs l d (f x)) → Costs (n + l) (c + d) (λ s. bind (m s) f)
then_more n l c d m f h g = record { at = λ s. holds_then n l c d s (m s) f (h.at s) g }

less : {A : Type 0} (n l c d : ℕ) (m : State Seen → Result A) → n ≤ l → c ≤ d → Costs n c m → Costs l d m
less n l c d m e f h = record { at = λ s. holds_less n l c d s (m s) e f (h.at s) }

-- one part, then another, together at most so much; nothing more lives
then : {A B : Type 0} (c d e : ℕ) (m : State Seen → Result A) (f : A → State Seen → Result B) → c + d ≤ e → Costs 0 c m → ((x : A) → Costs 0 d (f x)) → Costs 0 e (λ s. bind (m s) f)
then c d e m f z h g = record { at = λ s. holds_less 0 0 (c + d) e s (bind (m s) f) (omega arith) z (holds_after_zero c d s (bind (m s) f) (holds_then 0 0 c d s (m s) f (h.at s) g)) }
  where
    holds_after_zero : {B : Type 0} (c d : ℕ) (s : State Seen) (r : Result B) → Holds (0 + 0) (c + d) s r → Holds 0 (c + d) s r
    holds_after_zero c d s r h = holds_less (0 + 0) 0 (c + d) (c + d) s r (omega arith) (omega arith) h

-- a part that takes no step and leaves what lives
free : {A : Type 0} (c : ℕ) (m : State Seen → Result A) → ((s : State Seen) → Holds 0 0 s (m s)) → Costs 0 c m
free c m h = record { at = λ s. holds_less 0 0 0 c s (m s) (omega arith) (omega arith) (h s) }

same_state : (s : State Seen) → (s.steps ≤ s.steps + 0) × (size s ≤ size s + 0)
same_state s = (omega arith, omega arith)

returns : {A : Type 0} (c : ℕ) (x : A) → Costs 0 c (λ s. Go x s)
returns c x = free c (λ s. Go x s) same_state

beyond_costs : {A : Type 0} (c : ℕ) → Costs {A = A} 0 c (λ s. Stop Beyond s)
beyond_costs c = free c (λ s. Stop Beyond s) (λ s. tt)

cond_costs : {A : Type 0} (c d : ℕ) (t : Bool) (m l : State Seen → Result A) → Costs 0 c m → Costs 0 d l → Costs 0 (c + d) (cond t m l)
cond_costs c d true m l h i = less 0 0 c (c + d) m (omega arith) (omega arith) h
cond_costs c d false m l h i = less 0 0 d (c + d) l (omega arith) (omega arith) i

put_here : (t : Bool) (c d : Cell) (xs cs : List Cell) → length xs ≡ length cs → length (cond t (c ∷ xs) (d ∷ cs)) ≡ suc (length cs)
put_here true c d xs cs e = ap suc e
put_here false c d xs cs e = refl

length_put : (k : Key) (v : ℤ) (cs : List Cell) → length (put k v cs) ≡ length cs
length_put k v [] = refl
length_put k v (c ∷ cs) = put_here (live k cs) c (cond (same_key c.key k) (record { key = c.key; value = v }) c) (put k v cs) cs (length_put k v cs)

length_new : (o i n : ℕ) → length (cells_from o i n []) ≡ n
length_new o i zero = refl
length_new o i (suc n) = ap suc (length_new o (suc i) n)

cut_holds : {A : Type 0} (n c j : ℕ) (s : State Seen) (r : Result A) → Holds n c s r → Holds n c s (acts.cut BoundedEnd (State Seen) cells_of with_cells j r)
cut_holds n c j s (Go x t) h = let e : length (take j t.cells) ≡ min j (length t.cells) = length-take j t.cells in (h.0, omega (arith, h.1, e))
cut_holds n c j s (Stop e t) h = h

scoped_costs : {A : Type 0} (n c : ℕ) (m : State Seen → Result A) → Costs n c m → Costs n c (acts.scoped BoundedEnd (State Seen) cells_of with_cells m)
scoped_costs n c m h = record { at = λ s. cut_holds n c (length s.cells) s (m s) (h.at s) }

go_on_more : (n c : ℕ) (m : State Seen → Result Flow) → Costs n c m → (f : Flow) → Costs n c (go_on m f)
go_on_more n c m h Next = record { at = λ s. h.at s }
go_on_more n c m h Broken = less 0 n c c _ (omega arith) (omega arith) (returns c Broken)
go_on_more n c m h Again = less 0 n c c _ (omega arith) (omega arith) (returns c Again)
go_on_more n c m h (Gave v) = less 0 n c c _ (omega arith) (omega arith) (returns c (Gave v))

turned_costs : (c : ℕ) (m : State Seen → Result Flow) → Costs 0 c m → (f : Flow) → Costs 0 c (turned m f)
turned_costs c m h Next = record { at = λ s. h.at s }
turned_costs c m h Broken = returns c Next
turned_costs c m h Again = returns c Again
turned_costs c m h (Gave v) = returns c (Gave v)

module _ (p : Program) (k : ℕ) where
  abbrev M : Meaning
  M = bounded p Seen keep k

  abbrev Turn : Type 0
  Turn = Bool → State Seen → Result Flow

  -- ---- parts of their own
  told : (c : ℕ) (e : Event) → Costs 0 c (λ s. within (run.tell p Seen keep e s))
  told c e = free c (λ s. within (run.tell p Seen keep e s)) same_state

  violated_costs : (c : ℕ) (at : Where) (spot : Spot) (call : Option Spot) → Costs 0 c (λ s. within (run.violated p Seen keep {A = ℤ} at spot call s))
  violated_costs c at spot call = free c (λ s. within (run.violated p Seen keep {A = ℤ} at spot call s)) (λ s. tt)

  overflowed_costs : (c : ℕ) (y : Property) (at : Where) (spot : Spot) (v : ℤ) → Costs 0 c (λ s. within (run.overflowed p Seen keep y at spot v s))
  overflowed_costs c NoOverflow at spot v = violated_costs c at spot None
  overflowed_costs c UnreachCall at spot v = returns c v

  answered_costs : (c : ℕ) (at : Where) (spot : Spot) (d : Done) → Costs 0 c (λ s. within (run.answered p Seen keep at spot d s))
  answered_costs c at spot (Value v) = returns c v
  answered_costs c at spot (Overflow v) = overflowed_costs c p.property at spot v
  answered_costs c at spot NoValue = free c (λ s. within (run.answered p Seen keep at spot NoValue s)) (λ s. tt)

  key_costs : (c : ℕ) (spot : Spot) (o : ℕ) (i : Option ℕ) → Costs 0 c (λ s. within (run.key_of p Seen keep spot o i s))
  key_costs c spot o None = free c (λ s. within (run.key_of p Seen keep spot o None s)) (λ s. tt)
  key_costs c spot o (Some i) = returns c (record { object = o; index = i })

  reached_costs : (c : ℕ) (y : Property) (at : Where) (site : Site) → Costs 0 c (λ s. within (run.reached p Seen keep y at site s))
  reached_costs c UnreachCall at site = violated_costs c at site.spot (Some site.spot)
  reached_costs c NoOverflow at site = free c (λ s. within (run.reached p Seen keep NoOverflow at site s)) (λ s. tt)

  returned_costs : (c : ℕ) (site : Site) (v : Option ℤ) → Costs 0 c (λ s. within (run.returned p Seen keep site v s))
  returned_costs c site (Some v) = free c (λ s. within (run.returned p Seen keep site (Some v) s)) same_state
  returned_costs c site None = by site.needed
    where
      by : (needed : Bool) → Costs 0 c (λ s. within (bind (run.tell p Seen keep (Returned site.close None) s) (λ _. cond needed (run.stop p Seen keep (Undefined site.spot)) (run.ret p Seen keep (pos 0)))))
      by true = free c (λ s. within (bind (run.tell p Seen keep (Returned site.close None) s) (λ _. run.stop p Seen keep {A = ℤ} (Undefined site.spot)))) (λ s. tt)
      by false = free c (λ s. within (bind (run.tell p Seen keep (Returned site.close None) s) (λ _. run.ret p Seen keep (pos 0)))) same_state

  write_costs : (c : ℕ) (x : Key) (v : ℤ) → Costs 0 c (λ s. within ((real p Seen keep).write x v s))
  write_costs c x v = free c (λ s. within ((real p Seen keep).write x v s)) (λ s. let e : length (put x v s.cells) ≡ length s.cells = length_put x v s.cells in (omega arith, omega (arith, e)))

  -- a step, then what may keep one more alive
  tick_then : {A : Type 0} (t : Tick) (n c : ℕ) (m : State Seen → Result A) → Costs (suc n) c m → Costs n (suc c) (λ s. bind (M.tick t s) (λ _. m))
  tick_then {A = A} t n c m h = record { at = λ s. by s s.steps refl }
    where
      after : (s : State Seen) (i : ℕ) → s.steps ≡ suc i → (r : Result A) → Holds (suc n) c (record s { steps = i }) r → Holds n (suc c) s r
      after s i e (Go x u) h = (omega (arith, e, h.0), omega (arith, e, h.1))
      after s i e (Stop (Within Spent) u) h = omega (arith, e, h)
      after s i e (Stop (Within Deep) u) h = omega (arith, e, h)
      after s i e (Stop (Within Ended) u) h = tt
      after s i e (Stop (Within (Undefined spot)) u) h = tt
      after s i e (Stop (Within (Violated spot)) u) h = tt
      after s i e (Stop Beyond u) h = tt

      by : (s : State Seen) (j : ℕ) → s.steps ≡ j → Holds n (suc c) s (bind (within (run.tick_from p Seen keep j s)) (λ _. m))
      by s zero e = omega (arith, e)
      by s (suc i) e = after s i e (m (record s { steps = i })) (h.at (record s { steps = i }))

  -- so many steps, then what may keep as many more alive
  ticks_then : {A : Type 0} (t : Tick) (j n c : ℕ) (m : State Seen → Result A) → Costs (j + n) c m → Costs n (j + c) (λ s. bind (ticks p M t j s) (λ _. m))
  ticks_then {A = A} t zero n c m h = record { at = λ s. holds_less (0 + n) n c (0 + c) s (m s) (omega arith) (omega arith) (h.at s) }
  ticks_then {A = A} t (suc j) n c m h =
      let rest : Costs (suc n) (j + c) (λ s. bind (ticks p M t j s) (λ _. m)) = ticks_then t j (suc n) c m (less (suc j + n) (j + suc n) c c m (omega arith) (omega arith) h) in
      let all : Costs n (suc (j + c)) (λ s. bind (M.tick t s) (λ _ u. bind (ticks p M t j u) (λ _. m))) = tick_then t n (j + c) (λ u. bind (ticks p M t j u) (λ _. m)) rest in
      record { at = λ s. regroup s (M.tick t s) (all.at s) }
    where
      regroup : (s : State Seen) (r : Result (Unit {0})) → Holds n (suc (j + c)) s (bind r (λ _ u. bind (ticks p M t j u) (λ _. m))) → Holds n (suc j + c) s (bind (bind r (λ _. ticks p M t j)) (λ _. m))
      regroup s (Go x u) h = holds_less {A = A} n n (suc (j + c)) (suc j + c) s (bind (ticks p M t j u) (λ _. m)) (omega arith) (omega arith) h
      regroup s (Stop e u) h = holds_less {A = A} n n (suc (j + c)) (suc j + c) s (Stop e u) (omega arith) (omega arith) h

  -- room for n more, which were paid for
  room_then : {A : Type 0} (n c : ℕ) (m : State Seen → Result A) → Costs n c m → Costs n c (λ s. bind (M.room n s) (λ _. m))
  room_then {A = A} n c m h = record { at = λ s. by s (nat_le (length s.cells + s.active + n) most_cells) refl }
    where
      by : (s : State Seen) (t : Bool) → nat_le (length s.cells + s.active + n) most_cells ≡ t → Holds {A = A} n c s (bind {A = Unit {0}} (within {A = Unit {0}} (cond t (Go tt s) (Stop Deep s))) (λ _. m))
      by s true e = h.at s
      by s false e = omega (arith, leb-false (length s.cells + s.active + n) most_cells e)

  branched_costs : {A : Type 0} (c d : ℕ) (spot : Spot) (t : Bool) (m l : State Seen → Result A) → Costs 0 c m → Costs 0 d l → Costs 0 (c + d) (b.branched p Seen keep k spot t m l)
  branched_costs c d spot t m l h i = then 0 (c + d) (c + d) _ (λ _. cond t m l) (omega arith) (told 0 (Branch spot (Truth t))) (λ _. cond_costs c d t m l h i)

  -- a body in a call is one that lives, until it is over
  called_costs : (n c : ℕ) (site : Site) (m : State Seen → Result Flow) → Costs n c m → Costs (suc n) c (b.called p Seen keep k site m)
  called_costs n c site m h =
      let back : Flow → State Seen → Result ℤ = λ f s. bind (within (run.shallower p Seen keep s)) (λ _ t. within (run.returned p Seen keep site (given f) t)) in
      let over : (f : Flow) → Costs 0 0 (back f) = λ f. record { at = λ s. lowered s (within (run.returned p Seen keep site (given f) (record s { active = s.active - 1 }))) ((returned_costs 0 site (given f)).at (record s { active = s.active - 1 })) } in
      let inside : Costs (n + 0) (c + 0) (λ s. bind (acts.scoped BoundedEnd (State Seen) cells_of with_cells m s) back) = then_more n 0 c 0 (acts.scoped BoundedEnd (State Seen) cells_of with_cells m) back (scoped_costs n c m h) over in
      record { at = λ s. raised s (bind (acts.scoped BoundedEnd (State Seen) cells_of with_cells m (record s { active = suc s.active })) back) (inside.at (record s { active = suc s.active })) }
    where
      lowered : (s : State Seen) (r : Result ℤ) → Holds 0 0 (record s { active = s.active - 1 }) r → Holds 0 0 s r
      lowered s (Go x t) e = (e.0, omega (arith, e.1))
      lowered s (Stop (Within Spent) t) e = e
      lowered s (Stop (Within Deep) t) e = omega (arith, e)
      lowered s (Stop (Within Ended) t) e = tt
      lowered s (Stop (Within (Undefined spot)) t) e = tt
      lowered s (Stop (Within (Violated spot)) t) e = tt
      lowered s (Stop Beyond t) e = tt

      raised : (s : State Seen) (r : Result ℤ) → Holds (n + 0) (c + 0) (record s { active = suc s.active }) r → Holds (suc n) c s r
      raised s (Go x t) e = (omega (arith, e.0), omega (arith, e.1))
      raised s (Stop (Within Spent) t) e = omega (arith, e)
      raised s (Stop (Within Deep) t) e = omega (arith, e)
      raised s (Stop (Within Ended) t) e = tt
      raised s (Stop (Within (Undefined spot)) t) e = tt
      raised s (Stop (Within (Violated spot)) t) e = tt
      raised s (Stop Beyond t) e = tt

  -- what a turn gives, and that in its place which flow goes on
  mapped_costs : (c : ℕ) (g : Flow → Flow) (m : State Seen → Result Flow) → Costs 0 c m → Costs 0 c (λ s. bind (m s) (λ f t. Go (g f) t))
  mapped_costs c g m h = then c 0 c m (λ f t. Go (g f) t) (omega arith) h (λ f. returns 0 (g f))

  one_turn : (may : Bool) (c d : ℕ) (at : Spot) (l : Loop) (arrived : List Cell) (a : Turn) (m : State Seen → Result Flow) → Costs 0 c (a may) → Costs 0 d m
      → Costs 0 (c + d) (λ s. bind (within (run.note p Seen keep (Head at l arrived s.cells) s)) (λ _ t. bind (a may t) (turned m)))
  one_turn may c d at l arrived a m h i =
      let rest : Costs 0 (c + d) (λ t. bind (a may t) (turned m)) = then c d (c + d) (a may) (turned m) (omega arith) h (turned_costs d m i) in
      record { at = λ s. noted s (bind (a may (record s { seen = Head at l arrived s.cells ∷ s.seen })) (turned m)) (rest.at (record s { seen = Head at l arrived s.cells ∷ s.seen })) }
    where
      noted : (s : State Seen) (r : Result Flow) → Holds 0 (c + d) (record s { seen = Head at l arrived s.cells ∷ s.seen }) r → Holds 0 (c + d) s r
      noted s (Go x t) e = e
      noted s (Stop (Within Spent) t) e = e
      noted s (Stop (Within Deep) t) e = e
      noted s (Stop (Within Ended) t) e = tt
      noted s (Stop (Within (Undefined spot)) t) e = tt
      noted s (Stop (Within (Violated spot)) t) e = tt
      noted s (Stop Beyond t) e = tt

  turns_costs : (r c d : ℕ) (at : Spot) (l : Loop) (arrived : List Cell) (a : Turn) → Costs 0 (c + d) (a true) → Costs 0 c (a false) → Costs 0 (steps.turns r c d) (b.turns p Seen keep k r at l arrived a)
  turns_costs zero c d at l arrived a h i = less 0 0 (c + 0) c _ (omega arith) (omega arith) (one_turn false c 0 at l arrived a (b.beyond p Seen keep k) i (beyond_costs 0))
  turns_costs (suc r) c d at l arrived a h i = one_turn true (c + d) (steps.turns r c d) at l arrived a (b.turns p Seen keep k r at l arrived a) h (turns_costs r c d at l arrived a h i)

  looped_costs : (c d : ℕ) (at : Spot) (l : Loop) (a : Turn) → Costs 0 (c + d) (a true) → Costs 0 c (a false) → Costs 0 (steps.turns k c d) (λ s. b.turns p Seen keep k k at l s.cells a s)
  looped_costs c d at l a h i = record { at = λ s. (turns_costs k c d at l s.cells a h i).at s }

  prices : Prices (bounded p Seen keep k)
  prices = record { Cost = λ n c m. Costs n c m; Price = λ may n c a. Costs n c (a may) }

  pays : Pays p k (bounded p Seen keep k) prices
  unfolding prices
  pays = record {
    ret = λ x. returns 0 x;
    bind = λ n l c d m f h g. then_more n l c d m f h g;
    less = λ n l c d m e f h. less n l c d m e f h;
    many_ticks = λ t j n c m h. ticks_then t j n c m h;
    tick = λ t n c m h. tick_then t n c m h;
    room = λ n c m h. room_then n c m h;
    convert = λ from to v. returns 0 _;
    test = λ ty v. returns 0 _;
    draw = λ kind spot ty. free 0 (M.draw kind spot ty) same_state;
    element = λ spot o n columns vs. key_costs 0 spot o (cell_among n columns vs);
    look = λ x. free 0 (M.look x) same_state;
    write = λ x v. write_costs 0 x v;
    answer = λ at spot op ty x right y. answered_costs 0 at spot (apply_of p.model op ty x y);
    answer_one = λ at spot op ty x. answered_costs 0 at spot (apply_one_of p.model op ty x);
    choose = λ c d t x y h i. cond_costs c d t x y h i;
    pick = λ c d mark t x y h i. branched_costs c d mark t x y h i;
    enter = λ site. told 0 (Enter site.close);
    came_back = λ site v. told 0 (Returned site.close (Some v));
    reach = λ at site. reached_costs 0 p.property at site;
    ending = free 0 M.ending (λ s. tt);
    called = λ n c site a h. called_costs n c site (a true) h;
    missing = free 0 M.missing (λ s. tt);
    here = λ spot. free 0 (M.here spot) same_state;
    select = λ spot ty v ls. free 0 (M.select spot ty v ls) same_state;
    using = λ may n l c d m f h g. then_more n l c d m (λ x. f x may) h g;
    cheaper = λ may n l c d a e f h. less n l c d (a may) e f h;
    ticks_done = λ may t j n c a h. ticks_then t j n c (a may) h;
    tick_done = λ may t n c a h. tick_then t n c (a may) h;
    room_done = λ may n c a h. room_then n c (a may) h;
    declare = λ may o n. record { at = λ s. let e : length (s.cells ++ cells_from o 0 n []) ≡ length s.cells + n = length-append s.cells (cells_from o 0 n []) ∙ ap (λ j. length s.cells + j) (length_new o 0 n) in (omega arith, omega (arith, e)) };
    branch = λ may c d at t x y h i. branched_costs c d at t (x may) (y may) h i;
    next = λ may. returns 0 Next;
    leave = λ may. returns 0 Broken;
    again = λ may. returns 0 Again;
    give = λ may v. returns 0 (Gave v);
    seq = λ may n l c d x y h i. then_more n l c d (x may) (go_on (y may)) h (go_on_more l d (y may) i);
    scoped = λ may n c a h. scoped_costs n c (a may) h;
    continued = λ c a h. mapped_costs c continuing _ (scoped_costs 0 c (a true) h);
    not_begun = λ a. beyond_costs 0;
    not_begun_then = λ a x. beyond_costs 0;
    breaks = λ may c a h. mapped_costs c held _ (scoped_costs 0 c (a may) h);
    loop = λ may c d at l a h i. scoped_costs 0 (steps.turns k c d) _ (looped_costs c d at l a h i);
    deep = λ may. beyond_costs 0;
  }

  pub main_holds : (c : Choices) (N : ℕ) → Holds 0 (StepsWithin p k) (first_state p Seen [] c N) (WholeBounded p k c N)
  unfolding prices
  main_holds c N = (pays_main p k (bounded p Seen keep k) prices pays k).at (first_state p Seen [] c N)

-- ---- what it says of ends
spent_early : (n c : ℕ) (s : State Seen) (r : Result Flow) → Holds n c s r → bounded_end r ≡ Within Spent → s.steps < c
spent_early n c s (Go x t) h e = absurd (true≢false (sym (ap is_spent e)))
spent_early n c s (Stop (Within Spent) t) h e = h
spent_early n c s (Stop (Within Deep) t) h e = absurd (true≢false (sym (ap is_spent e)))
spent_early n c s (Stop (Within Ended) t) h e = absurd (true≢false (sym (ap is_spent e)))
spent_early n c s (Stop (Within (Undefined spot)) t) h e = absurd (true≢false (sym (ap is_spent e)))
spent_early n c s (Stop (Within (Violated spot)) t) h e = absurd (true≢false (sym (ap is_spent e)))
spent_early n c s (Stop Beyond t) h e = absurd (true≢false (sym (ap is_spent e)))

deep_crowded : (n c : ℕ) (s : State Seen) (r : Result Flow) → Holds n c s r → bounded_end r ≡ Within Deep → most_cells < size s + n
deep_crowded n c s (Go x t) h e = absurd (true≢false (sym (ap is_deep e)))
deep_crowded n c s (Stop (Within Spent) t) h e = absurd (true≢false (sym (ap is_deep e)))
deep_crowded n c s (Stop (Within Deep) t) h e = h
deep_crowded n c s (Stop (Within Ended) t) h e = absurd (true≢false (sym (ap is_deep e)))
deep_crowded n c s (Stop (Within (Undefined spot)) t) h e = absurd (true≢false (sym (ap is_deep e)))
deep_crowded n c s (Stop (Within (Violated spot)) t) h e = absurd (true≢false (sym (ap is_deep e)))
deep_crowded n c s (Stop Beyond t) h e = absurd (true≢false (sym (ap is_deep e)))

pub short : (p : Program) (k : ℕ) (c : Choices) (N : ℕ) → IsShort p k c N
short p k c N = record {
  steps = λ e. spent_early 0 (StepsWithin p k) (first_state p Seen [] c N) (WholeBounded p k c N) (main_holds p k c N) e;
  room = λ e. let h = deep_crowded 0 (StepsWithin p k) (first_state p Seen [] c N) (WholeBounded p k c N) (main_holds p k c N) e in omega (arith, h);
}
