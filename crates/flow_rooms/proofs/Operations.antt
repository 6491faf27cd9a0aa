-- Operands, stores and values that go on: where operations of expressions lead to.
use Rattle.std.proofs.Common.{◌≡◌, ◌≤◌, ℕ, zero, suc, ◌+◌, Bool, true, false, List, [], ◌∷◌, ◌++◌, length, Option, Some, None, refl, sym, ap, ◌∙◌, subst, arith, length-append}
use Rattle.c_core.specs.Tree.{Exp, Expr, Node, Const, Var}
use Rattle.flow_code.specs.declared.code.Action.{Action}
use Rattle.flow_code.specs.declared.code.Action.TheVariants.{Give}
use Rattle.flow_code.specs.declared.code.Into.{Into}
use Rattle.flow_code.specs.declared.code.Op.{Op}
use Rattle.flow_code.specs.declared.code.Operand.{Operand}
use Rattle.flow_code.specs.declared.code.Operand.TheVariants.{Top, Cell, Number}
use Rattle.flow_code.specs.declared.code.Place.{Place}
use Rattle.flow_code.specs.declared.code.Place.TheVariants.{Fixed, Element}
use Rattle.flow_code.specs.declared.code.Store.{Store}
use Rattle.flow_code.specs.declared.code.Then.{Then}
use Rattle.flow_code.specs.declared.code.Then.TheVariants.{Push, Drop, Skip, Branch}
use Rattle.flow_code.specs.Preparing.{op, only, with_operand, kept, paired}
use Rattle.flow_code.specs.Sizes.{operand_in, operand_of}
use Rattle.flow_rooms.specs.Shapes.{Shape, lower, pushed, popped, taken, placed, stored, passed, settled, Leads, Settles, Keeps, aimed}
use Rattle.flow_rooms.proofs.Fitting.{IsNear, Fits, one, nothing, all_parts, kept_on, low_on, seq, Free, relabeled}

-- at most as high, with the same scopes, of the same function
pub record IsUnder (x y : Shape) : Type 0 where
  pub function : y.function ≡ x.function
  pub height : y.height ≤ x.height
  pub scopes : y.scopes ≤ x.scopes

lower_under : (n : ℕ) → lower n ≤ n
lower_under zero = omega arith
lower_under (suc n) = omega arith

pub under_itself : (x : Shape) → IsUnder x x
under_itself x = record { function = refl; height = omega arith; scopes = omega arith }

pub under_both : (x y z : Shape) → IsUnder x y → IsUnder y z → IsUnder x z
under_both x y z h k = record { function = k.function ∙ h.function; height = omega (arith, h.height, k.height); scopes = omega (arith, h.scopes, k.scopes) }

pub popped_under : (x : Shape) → IsUnder x (popped x)
popped_under x = record { function = refl; height = lower_under x.height; scopes = omega arith }

pub taken_under : (y : Operand) (x : Shape) → IsUnder x (taken y x)
taken_under Top x = popped_under x
taken_under (Cell o) x = under_itself x
taken_under (Number v) x = under_itself x

placed_under : (y : Place) (x : Shape) → IsUnder x (placed y x)
placed_under (Fixed o i) x = under_itself x
placed_under (Element o) x = popped_under x

stored_under : (y : Option Store) (x : Shape) → IsUnder x (stored y x)
stored_under None x = under_itself x
stored_under (Some y) x = placed_under y.place x

pushed_near : (x : Shape) → IsNear x (pushed x)
pushed_near x = record { function = refl; height = omega arith; scopes = omega arith }

pub near_itself : (x : Shape) → IsNear x x
near_itself x = record { function = refl; height = omega arith; scopes = omega arith }

passed_near : (then : Then) (x : Shape) → IsNear x (passed then x)
passed_near Push x = pushed_near x
passed_near Drop x = near_itself x
passed_near (Skip way to) x = near_itself x
passed_near (Branch at way to) x = near_itself x

pub near_under : (x y z : Shape) → IsUnder x y → IsNear y z → IsNear x z
near_under x y z h k = record { function = k.function ∙ h.function; height = omega (arith, h.height, k.height); scopes = omega (arith, h.scopes, k.scopes) }

-- behind a value that is stored and goes on
pub settled_near : (into : Into) (x y : Shape) → IsUnder x y → IsNear x (settled into y)
settled_near into x y h = let z = stored into.store y in near_under x z (settled into y) (under_both x y z h (stored_under into.store y)) (passed_near into.then z)

-- at a place before a value that went on
pub back_near : (then : Then) (x : Shape) → IsNear (passed then x) x
back_near Push x = record { function = refl; height = omega arith; scopes = omega arith }
back_near Drop x = near_itself x
back_near (Skip way to) x = near_itself x
back_near (Branch at way to) x = near_itself x

pub aimed_near : (reads : Bool) (x y : Shape) → IsUnder x y → IsNear x (aimed reads y)
aimed_near true x y h = record { function = h.function; height = omega (arith, h.height); scopes = omega (arith, h.scopes) }
aimed_near false x y h = record { function = h.function; height = omega (arith, h.height); scopes = omega (arith, h.scopes) }

-- an operand that isn't on the stack
abbrev pub NotTop : Operand → Type 0
NotTop Top = ⊥
NotTop (Cell o) = Unit {0}
NotTop (Number v) = Unit {0}

-- the same, where there is one
abbrev pub IsPlain : Option Operand → Type 0
IsPlain None = Unit {0}
IsPlain (Some y) = NotTop y

-- an operand that an expression is by itself isn't on the stack
pub plain_in : (n : Node) → IsPlain (operand_in n)
plain_in (Const v) = tt
plain_in (Var o) = tt
plain_in _ = tt

pub plain : (e : Exp) → IsPlain (operand_of e)
plain (Expr spot ty n) = plain_in n

-- the labels of a value that is stored and goes on
abbrev pub Left : Into → Shape → List Shape → Type 0
Left into x ts = Leads ts into.then (stored into.store x)

-- the shape beside which an operand is, that is on the stack or not
abbrev pub held : Operand → Shape → Shape
held Top x = pushed x
held (Cell o) x = x
held (Number v) x = x

pub held_taken : (y : Operand) (x : Shape) → taken y (held y x) ≡ x
held_taken Top x = refl
held_taken (Cell o) x = refl
held_taken (Number v) x = refl

pub held_plain : (y : Operand) (x : Shape) → NotTop y → held y x ≡ x
held_plain Top x h = absurd h
held_plain (Cell o) x h = refl
held_plain (Number v) x h = refl

pub taken_plain : (y : Operand) (x : Shape) → NotTop y → taken y x ≡ x
taken_plain Top x h = absurd h
taken_plain (Cell o) x h = refl
taken_plain (Number v) x h = refl

-- an action takes an operand, and then a value is stored and goes on
abbrev pub TakesOne : (Operand → Action) → Into → Type 0
TakesOne f into = (ts : List Shape) (i : ℕ) (y : Operand) (x : Shape) → Settles ts i into (taken y x) → Keeps ts i (f y) x

-- the operation of such an action
pub one_taken : (f : Operand → Action) (into : Into) (i n : ℕ) (y : Operand) (x z : Shape) → TakesOne f into → taken y x ≡ z → Fits (Left into z) i (op n (f y) ∷ []) x (settled into z)
one_taken f into i n y x z takes e =
    subst (λ w. Fits (Left into w) i (op n (f y) ∷ []) x (settled into w)) e
    (one (Left into (taken y x)) i (op n (f y)) x (settled into (taken y x)) (λ ts l h. takes ts (suc i) y x (h, l)) (settled_near into x (taken y x) (taken_under y x)))

-- an operand, and the action that takes it
pub operand_fits : (y : Option Operand) (i k : ℕ) (ops : List Op) (f : Operand → Action) (into : Into) (x : Shape) → IsPlain y → TakesOne f into → Fits Free i ops x (pushed x)
    → Fits (Left into x) i (with_operand y k ops f) x (settled into x)
operand_fits (Some y) i k ops f into x plain takes a = one_taken f into i (k + 1) y x x takes (taken_plain y x plain)
operand_fits None i k ops f into x plain takes a =
    seq (Left into x) i ops (op 0 (f Top) ∷ []) x (pushed x) (settled into x) (relabeled Free (Left into x) i ops x (pushed x) (λ ts l. tt) a)
    (one_taken f into (i + length ops) 0 Top (pushed x) x takes refl)

-- operations that put a left operand on the stack
pub kept_fits : (i k : ℕ) (y : Operand) (x : Shape) → Fits Free i (kept y k) (held y x) (pushed x)
kept_fits i k Top x = nothing Free i (pushed x)
kept_fits i k (Cell o) x = one_taken (λ y. Give y (only Push)) (only Push) i k (Cell o) x x (λ ts i y x h. h) refl
kept_fits i k (Number v) x = one_taken (λ y. Give y (only Push)) (only Push) i k (Number v) x x (λ ts i y x h. h) refl

-- an action takes two operands
abbrev pub TakesTwo : (Operand → Operand → Action) → Into → Type 0
TakesTwo f into = (ts : List Shape) (i : ℕ) (y z : Operand) (x : Shape) → Settles ts i into (taken y (taken z x)) → Keeps ts i (f y z) x

pub two_taken : (f : Operand → Operand → Action) (into : Into) (i n : ℕ) (y z : Operand) (x w : Shape) → TakesTwo f into → taken y (taken z x) ≡ w
    → Fits (Left into w) i (op n (f y z) ∷ []) x (settled into w)
two_taken f into i n y z x w takes e =
    let u = taken y (taken z x) in
    subst (λ w. Fits (Left into w) i (op n (f y z) ∷ []) x (settled into w)) e
    (one (Left into u) i (op n (f y z)) x (settled into u) (λ ts l h. takes ts (suc i) y z x (h, l))
    (settled_near into x u (under_both x (taken z x) u (taken_under z x) (taken_under y (taken z x)))))

-- a right operand beside a left one that is ready, and the action that takes both
pub pair_fits : (y : Operand) (k i : ℕ) (z : Option Operand) (ops : List Op) (f : Operand → Operand → Action) (into : Into) (x : Shape) → IsPlain z → TakesTwo f into
    → Fits Free (i + length (kept y k)) ops (pushed x) (pushed (pushed x)) → let q = paired y k z ops in
    Fits (Left into x) i (q.ops ++ op q.steps (f q.left q.right) ∷ []) (held y x) (settled into x)
pair_fits y k i (Some z) ops f into x plain takes a =
    two_taken f into i (k + 1) y z (held y x) x takes (ap (taken y) (taken_plain z (held y x) plain) ∙ held_taken y x)
pair_fits y k i None ops f into x plain takes a =
    seq (Left into x) i (kept y k ++ ops) (op 0 (f Top Top) ∷ []) (held y x) (pushed (pushed x)) (settled into x)
    (relabeled Free (Left into x) i (kept y k ++ ops) (held y x) (pushed (pushed x)) (λ ts l. tt)
    (seq Free i (kept y k) ops (held y x) (pushed x) (pushed (pushed x)) (kept_fits i k y x) a))
    (two_taken f into (i + length (kept y k ++ ops)) 0 Top Top (pushed (pushed x)) x takes refl)

-- operations behind which another leads away, whatever is behind it, if it is as low as at the start
pub away : (labels : List Shape → Type 0) (i : ℕ) (ops : List Op) (o : Op) (x y z : Shape) → Fits labels i ops x y
    → ((ts : List Shape) → labels ts → Keeps ts (suc (i + length ops)) o.action y) → IsUnder x z → Fits labels i (ops ++ o ∷ []) x z
away labels i ops o x y z a h under = record {
  shapes = a.shapes ++ y ∷ [];
  same = length-append ops (o ∷ []) ∙ ap (λ n. n + 1) a.same ∙ sym (length-append a.shapes (y ∷ []));
  enters = λ ts s e. let r = all_parts ts i (length ops) a.shapes (y ∷ []) a.same s in a.enters ts r.0 r.1.0;
  kept = λ ts l s e. let r = all_parts ts i (length ops) a.shapes (y ∷ []) a.same s in
      kept_on ts i (length ops) ops (o ∷ []) a.shapes (y ∷ []) refl a.same (a.kept ts l r.0 r.1.0) (h ts l, tt);
  low = λ f n l. let r = a.low f n l in
      let e : length (ops ++ o ∷ []) ≡ length ops + 1 = length-append ops (o ∷ []) in
      let m = n + length (ops ++ o ∷ []) in (
        low_on f n (length ops) a.shapes (y ∷ []) a.same r.0 (r.1, tt),
        record { function = under.function ∙ l.function; height = omega (arith, under.height, l.height); scopes = omega (arith, under.scopes, l.scopes) },
      );
}
