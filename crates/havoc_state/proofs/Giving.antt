-- A part that gives, with what comes after it.
use Rattle.std.proofs.Common.{ap, subst, sym, Result, Ok, Err}
use Rattle.c_meaning.specs.Acts.{Res, bind}
use Rattle.c_meaning.specs.Havoc.{Stopped}
use Rattle.havoc_state.specs.Havocking.{Gives}
use Rattle.havoc_state.specs.declared.machine.Halt.{Halt}
use Rattle.havoc_state.specs.declared.machine.Halt.TheVariants.{Ends, NoMemory}

-- where the first part halts, the whole halts
pub halted : {A B C D T : Type 0} (view : A → B) (view' : C → D) (h : Halt) (s : T) (r : Res Stopped T B) (k : B → T → Res Stopped T D)
    → Gives view (Err h) s r → Gives view' (Err h) s (bind r k)
halted view view' (Ends e) s r k g = ap (λ q. bind q k) g
halted view view' NoMemory s r k g = tt

-- where it gives a value, the whole gives what the rest gives
pub passed : {A B C D T : Type 0} (view : A → B) (view' : C → D) (a : A) (s u : T) (r : Res Stopped T B) (k : B → T → Res Stopped T D) (q : Result C Halt)
    → Gives view (Ok a) s r → Gives view' q u (k (view a) s) → Gives view' q u (bind r k)
passed view view' a s u r k q g h = subst (λ x. Gives view' q u (bind x k)) (sym g) h
