-- A part that gives, with what comes after it.
use Rattle.std.proofs.Common.{◌≡◌, ap, subst, sym, Result, Ok, Err}
use Rattle.c_meaning.specs.declared.run.End.{End}
use Rattle.c_meaning.specs.Acts.{Res, bind}
use Rattle.c_meaning.specs.Run.{State}
use Rattle.flow_laws.specs.Machines.{Control}
use Rattle.flow_machine.specs.Views.{Gives, Acts}
use Rattle.run_state.specs.declared.machine.Halt.{Halt}
use Rattle.run_state.specs.declared.machine.Halt.TheVariants.{Ends, NoMemory}

halted : {A B C D S : Type 0} (view : A → B) (view' : C → D) (h : Halt) (s : State S) (r : Res End (State S) B) (k : B → State S → Res End (State S) D)
    → Gives view (Err h) s r → Gives view' (Err h) s (bind r k)
halted view view' (Ends e) s r k g = ap (λ q. bind q k) g
halted view view' NoMemory s r k g = tt

halted_there : {A B S : Type 0} (view : A → B) (h : Halt) (c : Control) (s : State S) (r : Res End (State S) B) (k : B → State S → Res End (State S) Control)
    → Gives view (Err h) s r → Acts (Err h) c s (bind r k)
halted_there view (Ends e) c s r k g = ap (λ q. bind q k) g
halted_there view NoMemory c s r k g = tt

-- where the first part halts, the whole halts
pub halts : {A B C D S : Type 0} (view : A → B) (view' : C → D) (h : Halt) (s : State S) (r : Res End (State S) B) (k : B → State S → Res End (State S) D) (q : Result C Halt)
    → q ≡ Err h → Gives view (Err h) s r → Gives view' q s (bind r k)
halts view view' h s r k q e g = subst (λ p. Gives view' p s (bind r k)) (sym e) (halted view view' h s r k g)

-- where it gives a value, the whole gives what the rest gives
pub goes : {A B C D S : Type 0} (view : A → B) (view' : C → D) (a : A) (s u : State S) (r : Res End (State S) B) (k : B → State S → Res End (State S) D) (q : Result C Halt)
    → Gives view (Ok a) s r → Gives view' q u (k (view a) s) → Gives view' q u (bind r k)
goes view view' a s u r k q g h = subst (λ x. Gives view' q u (bind x k)) (sym g) h

-- the same where the whole says where the machine stands
pub halts_there : {A B S : Type 0} (view : A → B) (h : Halt) (c : Control) (s : State S) (r : Res End (State S) B) (k : B → State S → Res End (State S) Control) (q : Result (Unit {0}) Halt)
    → q ≡ Err h → Gives view (Err h) s r → Acts q c s (bind r k)
halts_there view h c s r k q e g = subst (λ p. Acts p c s (bind r k)) (sym e) (halted_there view h c s r k g)

pub goes_there : {A B S : Type 0} (view : A → B) (a : A) (c : Control) (s u : State S) (r : Res End (State S) B) (k : B → State S → Res End (State S) Control) (q : Result (Unit {0}) Halt)
    → Gives view (Ok a) s r → Acts q c u (k (view a) s) → Acts q c u (bind r k)
goes_there view a c s u r k q g h = subst (λ x. Acts q c u (bind x k)) (sym g) h
