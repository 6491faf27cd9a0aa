-- The stages of an answer: what is asked for is found piece by piece, and the first piece that isn't found is refused.
use Rattle.std.specs.Prelude.{◌≡◌, Bool, true, false, Result, Ok, Err, Option, Some, None}
use Rattle.wv_report.specs.declared.reply.Reply.{Reply}
use Rattle.witval.specs.declared.output.Output.{Output}
use Rattle.witval.specs.declared.output.Output.TheVariants.{Report, Canonical, Summary, Demo as Demonstrated, Certificate, Rechecked, Unviolated, Searched}

-- finds a piece: which answers are right, by those that are right with what it finds
abbrev pub Stage : Type 0 → Type 0 → Type 1
Stage R A = (A → R → Type 0) → R → Type 0

infixr 20 ◌>>=◌
-- a stage, and what is right with what it finds
abbrev pub ◌>>=◌ : {R A : Type 0} → Stage R A → (A → R → Type 0) → R → Type 0
◌>>=◌ stage within = stage within

-- a piece, or this refusal
abbrev pub given : {R A : Type 0} → R → Option A → Stage R A
given refusal (Some a) within right = within a right
given refusal None within right = right ≡ refusal

-- the piece that an answer shows, or the refusal of its fault
abbrev pub known : {R A B F : Type 0} → (A → B) → (F → R → Type 0) → Result A F → Stage R B
known view IsRefusal (Ok a) within right = within (view a) right
known view IsRefusal (Err fault) within right = IsRefusal fault right

-- the same of the answer that a reading has
abbrev pub answered : {R A B F : Type 0} → (Result A F → Type 0) → (A → B) → (F → R → Type 0) → Stage R B
answered {R} {A} {B} {F} IsAnswer view IsRefusal within right = (answer : Result A F) × IsAnswer answer × known view IsRefusal answer within right

-- what is right where something holds, and what where it doesn't
abbrev pub choosing : {R : Type 0} → Bool → (R → Type 0) → (R → Type 0) → R → Type 0
choosing true there elsewhere right = there right
choosing false there elsewhere right = elsewhere right

-- an answer is what it shows
abbrev pub itself : {A : Type 0} → A → A
itself a = a

-- the output is a report of such a reply
abbrev pub Reports : (Reply → Type 0) → Output → Type 0
Reports IsRight (Report reply) = IsRight reply
Reports IsRight (Canonical text) = ⊥
Reports IsRight (Summary text) = ⊥
Reports IsRight (Demonstrated demo) = ⊥
Reports IsRight (Certificate text) = ⊥
Reports IsRight (Rechecked answer) = ⊥
Reports IsRight (Unviolated why) = ⊥
Reports IsRight (Searched found) = ⊥

-- the output reports the refusal of a fault
abbrev pub refusing : {F : Type 0} → (F → Reply → Type 0) → F → Output → Type 0
refusing IsRefusal fault output = Reports (IsRefusal fault) output
