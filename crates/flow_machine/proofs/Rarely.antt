-- What an action is that isn't done often.
use Rattle.std.proofs.Common.{◌≡◌, ℕ, ℤ, Bool, List, Option, refl}
use Rattle.c_core.specs.declared.number.IntType.{IntType}
use Rattle.c_core.specs.declared.number.Spot.{Spot}
use Rattle.c_core.specs.declared.number.BinOp.{BinOp}
use Rattle.c_core.specs.declared.number.UnOp.{UnOp}
use Rattle.run_state.specs.declared.machine.Around.{Around}
use Rattle.run_state.specs.declared.machine.CallSite.{CallSite}
use Rattle.flow_code.specs.declared.code.Action.{Action}
use Rattle.flow_code.specs.declared.code.Action.TheVariants.{Rest, Arrive, Give, Truth, Convert, Look, Aim, Row, Operate, OperateOne, Jump, Select, Open, Close, Declare, Enter, Call, Input, Reach, End, Leave, Return}
use Rattle.flow_code.specs.declared.code.Into.{Into}
use Rattle.flow_code.specs.declared.code.Operand.{Operand}
use Rattle.flow_code.specs.declared.code.Source.{Source}
use Rattle.flow_code.specs.declared.code.Word.{Word}
use Rattle.flow_machine.specs.Actions.{IsAtCall, IsRare}

-- an action that is none of those which are done often
pub rare : (a : Action) → (a ≡ Rest → ⊥) → ((at : Spot) → a ≡ Arrive at → ⊥) → ((of : Operand) (x : Into) → a ≡ Give of x → ⊥) → ((of : Operand) (x : Into) → a ≡ Truth of x → ⊥)
    → ((ty : IntType) (of : Operand) (x : Into) → a ≡ Convert ty of x → ⊥) → ((o n : ℕ) (i : Operand) (at : Spot) (x : Into) → a ≡ Look o n i at x → ⊥)
    → ((op : BinOp) (word count : Word) (l r : Operand) (from : Source) (x : Into) → a ≡ Operate op word count l r from x → ⊥)
    → ((op : UnOp) (word : Word) (of : Operand) (from : Source) (x : Into) → a ≡ OperateOne op word of from x → ⊥) → ((to : ℕ) → a ≡ Jump to → ⊥) → IsRare a
rare Rest rest arrive give truth convert look two one jump = absurd (rest refl)
rare (Arrive at) rest arrive give truth convert look two one jump = absurd (arrive at refl)
rare (Give of x) rest arrive give truth convert look two one jump = absurd (give of x refl)
rare (Truth of x) rest arrive give truth convert look two one jump = absurd (truth of x refl)
rare (Convert ty of x) rest arrive give truth convert look two one jump = absurd (convert ty of x refl)
rare (Look o n i at x) rest arrive give truth convert look two one jump = absurd (look o n i at x refl)
rare (Operate op word count l r from x) rest arrive give truth convert look two one jump = absurd (two op word count l r from x refl)
rare (OperateOne op word of from x) rest arrive give truth convert look two one jump = absurd (one op word of from x refl)
rare (Jump to) rest arrive give truth convert look two one jump = absurd (jump to refl)
rare a rest arrive give truth convert look two one jump = tt

-- a rare one that isn't about arrays, a `switch`, scopes or declared names
pub at_call : (a : Action) → IsRare a → ((o n : ℕ) (i : Operand) (at : Spot) (reads : Bool) → a ≡ Aim o n i at reads → ⊥) → ((n m : ℕ) (l r : Operand) (at : Spot) → a ≡ Row n m l r at → ⊥)
    → ((at : Spot) (cases : List (ℤ × ℕ)) (other : ℕ) → a ≡ Select at cases other → ⊥) → (a ≡ Open → ⊥) → (a ≡ Close → ⊥)
    → ((at : Spot) (o n : ℕ) (ty : IntType) (draws : Bool) → a ≡ Declare at o n ty draws → ⊥) → IsAtCall a
at_call (Aim o n i at reads) is aim row select opens closes declares = absurd (aim o n i at reads refl)
at_call (Row n m l r at) is aim row select opens closes declares = absurd (row n m l r at refl)
at_call (Select at cases other) is aim row select opens closes declares = absurd (select at cases other refl)
at_call Open is aim row select opens closes declares = absurd (opens refl)
at_call Close is aim row select opens closes declares = absurd (closes refl)
at_call (Declare at o n ty draws) is aim row select opens closes declares = absurd (declares at o n ty draws refl)
at_call a is aim row select opens closes declares = is

-- there is no further one
pub no_other : (a : Action) → IsAtCall a → ((at : Spot) → a ≡ Enter at → ⊥) → ((f n : ℕ) (site : CallSite) → a ≡ Call f n site → ⊥) → ((at close : Spot) (ty : IntType) (x : Into) → a ≡ Input at close ty x → ⊥)
    → ((around : Around) (at : Spot) → a ≡ Reach around at → ⊥) → (a ≡ End → ⊥) → (a ≡ Leave → ⊥) → ((ty : Option IntType) → a ≡ Return ty → ⊥) → ⊥
no_other (Enter at) is enter call input reach end leave return = enter at refl
no_other (Call f n site) is enter call input reach end leave return = call f n site refl
no_other (Input at close ty x) is enter call input reach end leave return = input at close ty x refl
no_other (Reach around at) is enter call input reach end leave return = reach around at refl
no_other End is enter call input reach end leave return = end refl
no_other Leave is enter call input reach end leave return = leave refl
no_other (Return ty) is enter call input reach end leave return = return ty refl
no_other a is enter call input reach end leave return = is
