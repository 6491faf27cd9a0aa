-- What fails nowhere but at some duties: the parts of a havoc run, one after the other.
use Rattle.std.proofs.Common.{◌≡◌, ℕ, zero, suc, ℤ, pos, Bool, true, false, cond, not, ◌&&◌, List, [], ◌∷◌, length, Option, Some, None, nat_eq, eqb-true, refl, ap, ◌∙◌, subst, arith}
use Rattle.std.specs.List.{Contains}
use Rattle.std.proofs.lemmas.List.Elements.{Contains-append_left, Contains-append_right}
use Rattle.c_core.specs.Types.{is_signed, is_zero}
use Rattle.c_core.specs.Operators.{apply_of, apply_one_of, is_count, overflows, overflows_one}
use Rattle.c_core.specs.Tree.{Program}
use Rattle.c_core.specs.declared.number.BinOp.{BinOp}
use Rattle.c_core.specs.declared.number.BinOp.TheVariants.{Add, Sub, Mul, Div, Rem, Shl, Shr, And, Xor, Or, Lt, Le, Gt, Ge, Eq, Ne}
use Rattle.c_core.specs.declared.number.UnOp.{UnOp}
use Rattle.c_core.specs.declared.number.UnOp.TheVariants.{Plus, Neg, BitNot, Not}
use Rattle.c_core.specs.declared.number.DataModel.{DataModel}
use Rattle.c_core.specs.declared.number.IntType.{IntType}
use Rattle.c_core.specs.declared.number.Spot.{Spot}
use Rattle.c_core.specs.declared.number.Done.{Done}
use Rattle.c_core.specs.declared.number.Done.TheVariants.{Value, Overflow, Undefined}
use Rattle.c_core.specs.declared.number.Property.{Property}
use Rattle.c_core.specs.declared.number.Property.TheVariants.{UnreachCall, NoOverflow}
use Rattle.c_meaning.specs.declared.run.DrawKind.{DrawKind}
use Rattle.c_meaning.specs.declared.run.DrawKind.TheVariants.{Havoc as AHavocDraw}
use Rattle.c_meaning.specs.declared.run.DutyKind.{DutyKind}
use Rattle.c_meaning.specs.declared.run.DutyKind.TheVariants.{Location, Entry, Kept, Property as AtProperty}
use Rattle.c_meaning.specs.declared.run.Duty.{Duty}
use Rattle.c_meaning.specs.Cells.{Key}
use Rattle.c_meaning.specs.Meaning.{Where, Site, Loop}
use Rattle.c_meaning.specs.Objects.{type_of_object, size_of_object}
use Rattle.c_core.specs.Parts.{same_spot}
use Rattle.c_meaning.specs.Acts.{Res, Go, Stop, Flow, Next, Broken, Again, Gave, bind, go_on, continuing, held, given}
use Rattle.c_meaning.specs.Acts as acts
use Rattle.c_meaning.specs.Value.{holds}
use Rattle.c_meaning.specs.Changed.{changed_by}
use Rattle.c_meaning.specs.Duties.{Placed, duty, invariant_duties}
use Rattle.c_meaning.specs.Havoc as havoc
use Rattle.c_meaning.specs.Havoc.{Stopped, Passes, Dismisses, Fails, Left, cells_left, with_cells_left}

pub first : (a b : Bool) → a && b ≡ true → a ≡ true
first true b h = refl
first false b h = absurd (cc)

pub second : (a b : Bool) → a && b ≡ true → b ≡ true
second true b h = h
second false b h = absurd (cc)

-- what overflows
abbrev pub is_over : Done → Bool
is_over (Overflow v) = true
is_over (Value v) = false
is_over Undefined = false

judged_over : (s o : Bool) (v w : ℤ) → is_over (cond (s && o) (Overflow v) (Value w)) ≡ true → s ≡ true
judged_over true o v w h = refl
judged_over false o v w h = absurd (cc)

unless_over : (b : Bool) (d : Done) → is_over (cond b Undefined d) ≡ true → is_over d ≡ true
unless_over true d h = absurd (cc)
unless_over false d h = h

if_over : (b : Bool) (d : Done) → is_over (cond b d Undefined) ≡ true → is_over d ≡ true
if_over true d h = h
if_over false d h = absurd (cc)

-- only signed operators whose overflow column isn't never overflow
pub over : (m : DataModel) (op : BinOp) (ty : IntType) (a b : ℤ) → is_over (apply_of m op ty a b) ≡ true → overflows op && is_signed ty ≡ true
over m Add ty a b h = judged_over (is_signed ty) _ _ _ h
over m Sub ty a b h = judged_over (is_signed ty) _ _ _ h
over m Mul ty a b h = judged_over (is_signed ty) _ _ _ h
over m Div ty a b h = judged_over (is_signed ty) _ _ _ (unless_over (is_zero b) _ h)
over m Rem ty a b h = judged_over (is_signed ty) _ _ _ (unless_over (is_zero b) _ h)
over m Shl ty a b h = judged_over (is_signed ty) _ _ _ (if_over (is_count m ty b) _ h)
over m Shr ty a b h = let e = if_over (is_count m ty b) _ h in absurd (cc)
over m And ty a b h = absurd (cc)
over m Xor ty a b h = absurd (cc)
over m Or ty a b h = absurd (cc)
over m Lt ty a b h = absurd (cc)
over m Le ty a b h = absurd (cc)
over m Gt ty a b h = absurd (cc)
over m Ge ty a b h = absurd (cc)
over m Eq ty a b h = absurd (cc)
over m Ne ty a b h = absurd (cc)

pub over_one : (m : DataModel) (op : UnOp) (ty : IntType) (a : ℤ) → is_over (apply_one_of m op ty a) ≡ true → overflows_one op && is_signed ty ≡ true
over_one m Neg ty a h = judged_over (is_signed ty) _ _ _ h
over_one m Plus ty a h = absurd (cc)
over_one m BitNot ty a h = absurd (cc)
over_one m Not ty a h = absurd (cc)

pub same_place : (a b : Spot) → same_spot a b ≡ true → a ≡ b
same_place a b h =
    let l : a.line ≡ b.line = eqb-true a.line b.line (first _ _ h) in
    let c : a.column ≡ b.column = eqb-true a.column b.column (second (nat_eq a.line b.line) _ h) in
    ap (λ n. record { line = n; column = a.column }) l ∙ ap (λ n. record { line = b.line; column = n }) c

-- D: where a part may fail
module _ (p : Program) (I : List Placed) (D : Duty → Type 0) where
  abbrev pub Act : Type 0 → Type 0
  Act A = Left → Res Stopped Left A

  abbrev pub StopsSafe : Stopped → Type 0
  StopsSafe Passes = Unit {0}
  StopsSafe Dismisses = Unit {0}
  StopsSafe (Fails d) = D d

  abbrev pub EndsSafe : {A : Type 0} → Res Stopped Left A → Type 0
  EndsSafe (Go a s) = Unit {0}
  EndsSafe (Stop e s) = StopsSafe e

  pub record Safe {A : Type 0} (m : Act A) : Type 0 where
    pub at : (s : Left) → EndsSafe (m s)

  pub safe_then : {A B : Type 0} (m : Act A) (k : A → Act B) → Safe m → ((a : A) → Safe (k a)) → Safe (λ s. bind (m s) k)
  safe_then {A} m k f g = record { at = λ s. by (m s) (f.at s) }
    where
      by : (r : Res Stopped Left A) → EndsSafe r → EndsSafe (bind r k)
      by (Go a t) h = (g a).at t
      by (Stop e t) h = h

  pub safe_ret : {A : Type 0} (a : A) → Safe (havoc.ret p I a)
  safe_ret a = record { at = λ s. tt }

  pub safe_pass : {A : Type 0} → Safe (havoc.stop p I {A = A} Passes)
  safe_pass = record { at = λ s. tt }

  pub safe_fail : {A : Type 0} (d : Duty) → D d → Safe (havoc.stop p I {A = A} (Fails d))
  safe_fail d h = record { at = λ s. h }

  pub safe_cond : {A : Type 0} (t : Bool) (a b : Act A) → Safe a → Safe b → Safe (λ s. cond t a b s)
  safe_cond true a b f g = record { at = λ s. f.at s }
  safe_cond false a b f g = record { at = λ s. g.at s }

  pub safe_draw : (kind : DrawKind) (spot : Spot) (ty : IntType) → Safe (havoc.draw p I kind spot ty)
  safe_draw kind spot ty = record { at = λ s. tt }

  pub safe_key : (o : ℕ) (i : Option ℕ) → Safe (havoc.key_of p I o i)
  safe_key o None = safe_pass
  safe_key o (Some i) = safe_ret _

  pub safe_look : (k : Key) → Safe (acts.look Stopped Left cells_left with_cells_left k)
  safe_look k = record { at = λ s. tt }

  pub safe_write : (k : Key) (v : ℤ) → Safe (acts.write Stopped Left cells_left with_cells_left k v)
  safe_write k v = record { at = λ s. tt }

  pub safe_declare : (o n : ℕ) → Safe (acts.declare Stopped Left cells_left with_cells_left o n)
  safe_declare o n = record { at = λ s. tt }

  pub safe_scoped : {A : Type 0} (m : Act A) → Safe m → Safe (acts.scoped Stopped Left cells_left with_cells_left m)
  safe_scoped {A} m f = record { at = λ s. by (length s.cells) (m s) (f.at s) }
    where
      by : (n : ℕ) (r : Res Stopped Left A) → EndsSafe r → EndsSafe (acts.cut Stopped Left cells_left with_cells_left n r)
      by n (Go a t) h = tt
      by n (Stop e t) h = h

  pub safe_continued : (m : Act Flow) → Safe m → Safe (acts.continued Stopped Left cells_left with_cells_left m)
  safe_continued m f = safe_then (acts.scoped Stopped Left cells_left with_cells_left m) (λ g u. Go (continuing g) u) (safe_scoped m f) (λ g. record { at = λ s. tt })

  pub safe_breaks : (m : Act Flow) → Safe m → Safe (acts.breaks Stopped Left cells_left with_cells_left m)
  safe_breaks m f = safe_then (acts.scoped Stopped Left cells_left with_cells_left m) (λ g u. Go (held g) u) (safe_scoped m f) (λ g. record { at = λ s. tt })

  pub safe_seq : (a b : Act Flow) → Safe a → Safe b → Safe (λ s. bind (a s) (go_on b))
  safe_seq a b f g = safe_then a (go_on b) f on
    where
      on : (flow : Flow) → Safe (go_on b flow)
      on Next = record { at = λ s. g.at s }
      on Broken = record { at = λ s. tt }
      on Again = record { at = λ s. tt }
      on (Gave v) = record { at = λ s. tt }

  -- ---- violations of the property

  abbrev pub at_full : Where → Duty
  at_full at = duty at.full AtProperty None

  safe_overflowed : (q : Property) (at : Where) (v : ℤ) → (q ≡ NoOverflow → D (at_full at)) → Safe (havoc.overflowed p I q at v)
  safe_overflowed NoOverflow at v f = safe_fail (at_full at) (f refl)
  safe_overflowed UnreachCall at v f = safe_ret v

  pub safe_answered : (at : Where) (b : Bool) (d : Done) → (is_over d ≡ true → b ≡ true) → (p.property ≡ NoOverflow → b ≡ true → D (at_full at)) → Safe (havoc.answered p I at d)
  safe_answered at b (Value v) h f = safe_ret v
  safe_answered at b (Overflow v) h f = safe_overflowed p.property at v (λ q. f q (h refl))
  safe_answered at b Undefined h f = safe_pass

  pub safe_reached : (q : Property) (at : Where) (f : q ≡ UnreachCall → D (at_full at)) → Safe (havoc.reached p I q at)
  safe_reached UnreachCall at f = safe_fail (at_full at) (f refl)
  safe_reached NoOverflow at f = safe_pass

  pub safe_returned : (site : Site) (v : Option ℤ) → Safe (havoc.returned p I site v)
  safe_returned site (Some v) = safe_ret v
  safe_returned site None = safe_cond site.needed _ _ safe_pass (safe_ret (pos 0))

  -- ---- invariants

  safe_unless : (b : Bool) (e : Stopped) (m : Act (Unit {0})) → (b ≡ true → StopsSafe e) → Safe m → (s : Left) → EndsSafe (cond b (Stop e s) (m s))
  safe_unless true e m h f s = h refl
  safe_unless false e m h f s = f.at s

  pub safe_assumed : (xs : List Placed) (spot : Spot) → Safe (havoc.assume_all p I xs spot)
  safe_assumed [] spot = safe_ret tt
  safe_assumed (x ∷ xs) spot = record { at = λ s. safe_unless (havoc.stands p I true spot x && not (holds p x.test s.cells)) Dismisses (havoc.assume_all p I xs spot) (λ e. tt) (safe_assumed xs spot) s }

  -- of a statement, or of a loop on arrival and at the head again
  abbrev pub IsKindAt : Bool → DutyKind → Type 0
  IsKindAt false Location = Unit {0}
  IsKindAt true Entry = Unit {0}
  IsKindAt true Kept = Unit {0}
  IsKindAt _ _ = ⊥

  abbrev duties_of : ℕ → Placed → List Duty
  duties_of i x = cond x.at_loop (duty x.spot Entry (Some i) ∷ duty x.spot Kept (Some i) ∷ []) (duty x.spot Location (Some i) ∷ [])

  duty_at : (i : ℕ) (x : Placed) (b at_loop : Bool) (kind : DutyKind) → cond at_loop b (not b) ≡ true → IsKindAt at_loop kind
      → Contains (cond b (duty x.spot Entry (Some i) ∷ duty x.spot Kept (Some i) ∷ []) (duty x.spot Location (Some i) ∷ [])) (duty x.spot kind (Some i))
  duty_at i x true true Entry h k = (0, omega arith, refl)
  duty_at i x true true Kept h k = (1, omega arith, refl)
  duty_at i x true true Location h k = absurd k
  duty_at i x true true AtProperty h k = absurd k
  duty_at i x true false kind h k = absurd (cc)
  duty_at i x false true kind h k = absurd (cc)
  duty_at i x false false Location h k = (0, omega arith, refl)
  duty_at i x false false Entry h k = absurd k
  duty_at i x false false Kept h k = absurd k
  duty_at i x false false AtProperty h k = absurd k

  -- the duty of an invariant that stands there
  own_duty : (i : ℕ) (x : Placed) (at_loop : Bool) (spot : Spot) (kind : DutyKind) → havoc.stands p I at_loop spot x ≡ true → IsKindAt at_loop kind → Contains (duties_of i x) (duty spot kind (Some i))
  own_duty i x at_loop spot kind h k =
      let there : x.spot ≡ spot = same_place x.spot spot (first (same_spot x.spot spot) (cond at_loop x.at_loop (not x.at_loop)) h) in
      subst (λ (s : Spot). Contains (duties_of i x) (duty s kind (Some i))) there (duty_at i x x.at_loop at_loop kind (second (same_spot x.spot spot) (cond at_loop x.at_loop (not x.at_loop)) h) k)

  pub safe_tests : (i : ℕ) (xs : List Placed) (at_loop : Bool) (spot : Spot) (kind : DutyKind) → IsKindAt at_loop kind → ((d : Duty) → Contains (invariant_duties i xs) d → D d) → Safe (havoc.test_from p I i xs at_loop spot kind)
  safe_tests i [] at_loop spot kind k h = safe_ret tt
  safe_tests i (x ∷ xs) at_loop spot kind k h = record {
    at = λ s. safe_unless (havoc.stands p I at_loop spot x && not (holds p x.test s.cells)) (Fails (duty spot kind (Some i))) (havoc.test_from p I (suc i) xs at_loop spot kind)
        (λ e. h _ (Contains-append_left (duties_of i x) (invariant_duties (suc i) xs) _ (own_duty i x at_loop spot kind (first (havoc.stands p I at_loop spot x) (not (holds p x.test s.cells)) e) k)))
        (safe_tests (suc i) xs at_loop spot kind k (λ d c. h d (Contains-append_right (duties_of i x) (invariant_duties (suc i) xs) d c))) s;
  }

  -- ---- loops

  safe_cells : (spot : Spot) (o i n : ℕ) → Safe (havoc.redraw_cells p I spot o i n)
  safe_cells spot o i zero = safe_ret tt
  safe_cells spot o i (suc n) =
      safe_then (havoc.draw p I AHavocDraw spot (type_of_object p o)) _ (safe_draw AHavocDraw spot (type_of_object p o)) (λ v.
      safe_then (acts.write Stopped Left cells_left with_cells_left (record { object = o; index = i }) v) (λ _. havoc.redraw_cells p I spot o (suc i) n) (safe_write _ v) (λ _. safe_cells spot o (suc i) n))

  safe_redrawn : (spot : Spot) (os : List ℕ) → Safe (havoc.redraw p I spot os)
  safe_redrawn spot [] = safe_ret tt
  safe_redrawn spot (o ∷ os) = safe_then (havoc.redraw_cells p I spot o 0 (size_of_object p o)) _ (safe_cells spot o 0 (size_of_object p o)) (λ _. safe_redrawn spot os)

  -- the invariants' duties are among those where a run may fail
  module _ (invariants : (d : Duty) → Contains (invariant_duties 0 I) d → D d) where
    pub safe_here : (spot : Spot) → Safe (havoc.test_from p I 0 I false spot Location)
    safe_here spot = safe_tests 0 I false spot Location tt invariants

    safe_closed : (spot : Spot) (flow : Flow) → Safe (havoc.close p I spot flow)
    safe_closed spot Next = safe_then (havoc.test_from p I 0 I true spot Kept) _ (safe_tests 0 I true spot Kept tt invariants) (λ _. safe_pass)
    safe_closed spot Broken = safe_ret Next
    safe_closed spot Again = safe_ret Again
    safe_closed spot (Gave v) = safe_ret (Gave v)

    pub safe_loop : (spot : Spot) (l : Loop) (turn : Act Flow) → Safe turn → Safe (acts.scoped Stopped Left cells_left with_cells_left (havoc.loop p I spot l turn))
    safe_loop spot l turn f =
        safe_scoped (havoc.loop p I spot l turn)
        (safe_then (havoc.test_from p I 0 I true spot Entry) _ (safe_tests 0 I true spot Entry tt invariants) (λ _.
        safe_then (havoc.redraw p I spot (changed_by p l)) _ (safe_redrawn spot (changed_by p l)) (λ _.
        safe_then (havoc.assume_all p I I spot) _ (safe_assumed I spot) (λ _.
        safe_then turn (havoc.close p I spot) f (safe_closed spot)))))
