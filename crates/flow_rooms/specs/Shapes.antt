-- Shapes: how many values and how many open scopes of a function's own there are before each operation of its code, at most.
use Rattle.std.specs.Prelude.{◌≡◌, ℕ, ℤ, zero, suc, Bool, cond, List, [], ◌∷◌, Option, Some, None, slice_get}
use Rattle.flow_code.specs.declared.code.Operand.{Operand}
use Rattle.flow_code.specs.declared.code.Operand.TheVariants.{Top, Cell, Number}
use Rattle.flow_code.specs.declared.code.Place.{Place}
use Rattle.flow_code.specs.declared.code.Place.TheVariants.{Fixed, Element}
use Rattle.flow_code.specs.declared.code.Store.{Store}
use Rattle.flow_code.specs.declared.code.Then.{Then}
use Rattle.flow_code.specs.declared.code.Then.TheVariants.{Push, Drop, Skip, Branch}
use Rattle.flow_code.specs.declared.code.Into.{Into}
use Rattle.flow_code.specs.declared.code.Action.{Action}
use Rattle.flow_code.specs.declared.code.Action.TheVariants.{Rest, Arrive, Give, Truth, Convert, Look, Aim, Row, Operate, OperateOne, Jump, Select, Open, Close, Declare, Enter, Call, Input, Reach, End as EndHere, Leave, Return}
use Rattle.flow_code.specs.declared.code.Op.{Op}
use Rattle.flow_code.specs.Tables.{address_or}

-- the function, by its number, the values on the stack that are its own, and its open scopes
pub record Shape : Type 0 where
  pub function : ℕ
  pub height : ℕ
  pub scopes : ℕ

-- one less, where there is one
abbrev pub lower : ℕ → ℕ
lower zero = zero
lower (suc n) = n

-- so many less, where they are there
abbrev pub lowered : ℕ → ℕ → ℕ
lowered zero h = h
lowered (suc n) h = lowered n (lower h)

-- one value more, one less, so many less
abbrev pub pushed : Shape → Shape
pushed x = record x { height = suc x.height }

abbrev pub popped : Shape → Shape
popped x = record x { height = lower x.height }

abbrev pub all_popped : ℕ → Shape → Shape
all_popped n x = record x { height = lowered n x.height }

-- one scope more, one less
abbrev pub opened : Shape → Shape
opened x = record x { scopes = suc x.scopes }

abbrev pub closed : Shape → Shape
closed x = record x { scopes = lower x.scopes }

-- behind an operand that is taken
abbrev pub taken : Operand → Shape → Shape
taken Top x = popped x
taken (Cell o) x = x
taken (Number v) x = x

-- behind a store, which takes the index of an element
abbrev pub placed : Place → Shape → Shape
placed (Fixed o i) x = x
placed (Element o) x = popped x

abbrev pub stored : Option Store → Shape → Shape
stored None x = x
stored (Some y) x = placed y.place x

-- behind a value that goes on
abbrev pub passed : Then → Shape → Shape
passed Push x = pushed x
passed Drop x = x
passed (Skip way to) x = x
passed (Branch at way to) x = x

-- behind a value that is stored and goes on
abbrev pub settled : Into → Shape → Shape
settled into x = passed into.then (stored into.store x)

-- a function at its start, and wherever it holds no value, with so many open scopes
abbrev pub flat : ℕ → ℕ → Shape
flat f n = record { function = f; height = 0; scopes = n }

-- by a list of shapes, one for each address, an address has this shape
abbrev pub Has : List Shape → ℕ → Shape → Type 0
Has ts i x = slice_get ts i ≡ Some x

-- the addresses from one on have these shapes
abbrev pub HasAll : List Shape → ℕ → List Shape → Type 0
HasAll ts i [] = Unit {0}
HasAll ts i (x ∷ xs) = Has ts i x × HasAll ts (suc i) xs

-- the address at which a value's truth lets the machine go on has this shape
abbrev pub Leads : List Shape → Then → Shape → Type 0
Leads ts Push x = Unit {0}
Leads ts Drop x = Unit {0}
Leads ts (Skip way to) x = Has ts to x
Leads ts (Branch at way to) x = Has ts to x

-- the shapes are right behind a value that is stored and goes on at an address
abbrev pub Settles : List Shape → ℕ → Into → Shape → Type 0
Settles ts i into x = Has ts i (settled into x) × Leads ts into.then (stored into.store x)

-- behind the index of an element that was found, and its value where it is read
abbrev pub aimed : Bool → Shape → Shape
aimed reads x = cond reads (pushed (pushed x)) (pushed x)

-- the shapes are right wherever an action leads to, from a shape before it; the address is the one behind it
abbrev pub Keeps : List Shape → ℕ → Action → Shape → Type 0
Keeps ts i Rest x = Has ts i x
Keeps ts i (Arrive at) x = Has ts i x
Keeps ts i (Give y into) x = Settles ts i into (taken y x)
Keeps ts i (Truth y into) x = Settles ts i into (taken y x)
Keeps ts i (Convert ty y into) x = Settles ts i into (taken y x)
Keeps ts i (Look o n y spot into) x = Settles ts i into (taken y x)
Keeps ts i (Aim o n y spot reads) x = Has ts i (aimed reads (taken y x))
Keeps ts i (Row rows columns a b spot) x = Has ts i (pushed (taken a (taken b x)))
Keeps ts i (Operate o word count a b from into) x = Settles ts i into (taken a (taken b x))
Keeps ts i (OperateOne o word a from into) x = Settles ts i into (taken a x)
Keeps ts i (Jump to) x = Has ts to x
Keeps ts i (Select at cases other) x = (v : ℤ) → Has ts (address_or cases other v) (popped x)
Keeps ts i Open x = Has ts i (opened x)
Keeps ts i Close x = Has ts i (closed x)
Keeps ts i (Declare spot o n ty draws) x = Has ts i x
Keeps ts i (Enter close) x = Has ts i x
Keeps ts i (Call f n site) x = Has ts i (pushed (all_popped n x))
Keeps ts i (Input spot close ty into) x = Settles ts i into x
-- no run goes on behind it
Keeps ts i (Reach at spot) x = Unit {0}
Keeps ts i EndHere x = Unit {0}
-- a function is left with nothing of its own
Keeps ts i Leave x = (x.height ≡ 0) × (x.scopes ≡ 0)
Keeps ts i (Return ty) x = (lower x.height ≡ 0) × (x.scopes ≡ 0)

-- operations from an address on, each with its shape, keep the shapes right
abbrev pub Kept : List Shape → ℕ → List Op → List Shape → Type 0
Kept ts i [] xs = Unit {0}
Kept ts i (o ∷ os) [] = ⊥
Kept ts i (o ∷ os) (x ∷ xs) = Keeps ts (suc i) o.action x × Kept ts (suc i) os xs
