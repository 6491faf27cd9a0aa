-- The code of a program does what the program's run does, from the laws of expressions and of forms.
use Rattle.std.proofs.Common.{◌≡◌, ℕ, zero, suc, ◌+◌, ◌≤◌, List, [], ◌∷◌, ◌++◌, length, Option, Some, None, slice_get, refl, sym, ap, ◌∙◌, subst, arith, length-append}
use Rattle.std.proofs.lemmas.List.{append_assoc}
use Rattle.c_core.specs.Tree.{Function, Program}
use Rattle.c_meaning.specs.declared.run.Choices.{Choices}
use Rattle.c_meaning.specs.declared.run.End.{End}
use Rattle.c_meaning.specs.declared.run.End.TheVariants.{Ended}
use Rattle.c_meaning.specs.declared.run.Event.{Event}
use Rattle.c_meaning.specs.Acts.{Res, Go, Stop, Flow, Next, Broken, Again, Gave}
use Rattle.c_meaning.specs.Cells.{Cell}
use Rattle.c_meaning.specs.Exec.{run_in, run_if}
use Rattle.c_meaning.specs.Meaning.{Meaning}
use Rattle.c_meaning.specs.Run as run
use Rattle.c_meaning.specs.Run.{State, state_of, end_of, first_state}
use Rattle.c_meaning.specs.Watching.{seen_by}
use Rattle.flow_code.specs.declared.code.Action.TheVariants.{End as EndHere, Leave, Return as ReturnOf}
use Rattle.flow_code.specs.declared.code.Body.{Body}
use Rattle.flow_code.specs.declared.code.Code.{Code}
use Rattle.flow_code.specs.declared.code.Op.{Op}
use Rattle.flow_code.specs.Preparing.{op}
use Rattle.flow_code.specs.Programs.{in_function, cells_of, entry_of, function_code, functions_code, parameters_of, bodies, IsCodeOf}
use Rattle.flow_laws.specs.Machines.{Machine, first_machine}
use Rattle.flow_laws.specs.Stepping.{Ends, Does}
use Rattle.flow_laws.specs.Runs.{Sight, noted, IsSimulated}
use Rattle.flow_laws.specs.inside.Simulating.{HasCode, meaning, CallIsDone, Evaluated, StoredAs, LeavesAs, FormExecuted}
use Rattle.flow_laws.proofs.Operations.{code_split, standing, op_does}
use Rattle.flow_laws.proofs.Reaching.{ends_on}
use Rattle.flow_laws.proofs.Calling.{inside, HasBody, BodyDone, does_at, jumps, body_at_zero, body_at_suc, calls_done}

operation_here : (before : List Op) (o : Op) (os : List Op) → slice_get (before ++ o ∷ os) (length before) ≡ Some o
operation_here [] o os = refl
operation_here (x ∷ before) o os = operation_here before o os

-- a code has its operations
pub code_behind : (c : Code) (before os : List Op) → c.ops ≡ before ++ os → HasCode c (length before) os
code_behind c before [] e = tt
code_behind c before (o ∷ os) e =
    let n : length before + 1 ≡ suc (length before) = omega arith in (
      ap (λ xs. slice_get xs (length before)) e ∙ operation_here before o os,
      subst (λ i. HasCode c i os) (length-append before (o ∷ []) ∙ n) (code_behind c (before ++ o ∷ []) os (e ∙ sym (append_assoc before (o ∷ []) os))),
    )

-- where a function of a program stands in its code
record Placed (p : Program) (c : Code) (g : Function) (o : Option Body) : Type 0 where
  body : Body
  found : o ≡ Some body
  parameters : body.parameters ≡ parameters_of p g.params
  code : HasCode c body.entry (function_code p body.entry g)

-- each of these functions has its code
function_placed : (p : Program) (c : Code) (fs : List Function) (i f : ℕ) (g : Function) → HasCode c i (functions_code p i fs) → slice_get fs f ≡ Some g → Placed p c g (slice_get (bodies p i fs) f)
function_placed p c [] i f g h e = absurd (cc)
function_placed p c (x ∷ fs) i zero g h e =
    let same : x ≡ g = cc in
    record {
      body = record { entry = i; parameters = parameters_of p x.params };
      found = refl;
      parameters = ap (λ (y : Function). parameters_of p y.params) same;
      code = subst (λ y. HasCode c i (function_code p i y)) same (code_split c i (function_code p i x) (functions_code p (i + length (function_code p i x)) fs) h).0;
    }
function_placed p c (x ∷ fs) i (suc f) g h e =
    let j = i + length (function_code p i x) in
    function_placed p c fs j f g (code_split c i (function_code p i x) (functions_code p j fs) h).1 e

no_function : (p : Program) (fs : List Function) (i f : ℕ) → slice_get fs f ≡ None → slice_get (bodies p i fs) f ≡ None
no_function p [] i f e = refl
no_function p (x ∷ fs) i zero e = absurd (cc)
no_function p (x ∷ fs) i (suc f) e = no_function p fs (i + length (function_code p i x)) f e

module _ (p : Program) (c : Code) (is : IsCodeOf p c) where
  program_placed : (f : ℕ) (g : Function) → slice_get p.functions f ≡ Some g → Placed p c g (slice_get (bodies p 1 p.functions) f)
  program_placed f g e = function_placed p c p.functions 1 f g (code_behind c (op 0 EndHere ∷ []) (functions_code p 1 p.functions) is.ops) e

  module _ (S : Type 0) (after : Event → List Cell → S → S) where
    abbrev M : Meaning
    M = meaning p c S after

    -- each function of the program has its code
    pub has_body : (f : ℕ) (g : Function) → slice_get p.functions f ≡ Some g → HasBody p c S after f g
    has_body f g e =
        let q = program_placed f g e in
        record { body = q.body; found = ap (λ bs. slice_get bs f) is.functions ∙ q.found; parameters = q.parameters; code = q.code }

    -- the end of `main`: no call is left
    main_left : (l : ℕ) (u : State S) → slice_get c.ops l ≡ Some (op 0 Leave) → Ends c S after (record { control = inside l [] [] []; run = u }) Ended u
    main_left l u h = op_does p c S after l (op 0 Leave) (record { control = inside l [] [] []; run = u }) h (record { at = refl; paid = refl })

    ends_at : (y : Machine S) (i : ℕ) (s : State S) → y.run ≡ s → y.control ≡ inside i [] [] [] → Ends c S after (record { control = inside i [] [] []; run = s }) Ended s → Ends c S after y Ended s
    ends_at y i s r k d = does_at p c S after {A = Flow} y (inside i [] [] []) s (Stop Ended s) (λ _ _ _. Unit {0}) k r d

    -- however its body is left, the run has ended
    body_ends : (g : Function) (l i : ℕ) (flow : Flow) (s : State S) (y : Machine S) → slice_get c.ops l ≡ Some (op 0 Leave)
        → LeavesAs p c S after (in_function p.model l g) (inside i [] [] []) l flow s y → Ends c S after y Ended s
    body_ends g l i Next s y h q = ends_at y l s q.0 q.1 (main_left l s h)
    body_ends g l i Broken s y h q =
        ends_at y q.1.0 s q.0 q.1.1 (jumps p c S after {A = Flow} q.1.0 l (inside i [] [] []) s (Stop Ended s) (λ _ _ _. Unit {0}) q.1.2.0 (main_left l s h))
    body_ends g l i Again s y h q =
        ends_at y q.1.0 s q.0 q.1.1 (jumps p c S after {A = Flow} q.1.0 l (inside i [] [] []) s (Stop Ended s) (λ _ _ _. Unit {0}) q.1.2.0 (main_left l s h))
    body_ends g l i (Gave None) s y h q = ends_at y q.1.0 s q.0 q.1.1 (main_left q.1.0 s q.1.2.0)
    body_ends g l i (Gave (Some v)) s y h q =
        let ty = (in_function p.model l g).result in
        let k : Machine S = record { control = inside q.1.0 (q.1.1 ∷ []) [] []; run = s } in
        does_at p c S after {A = Flow} y (inside q.1.0 (q.1.1 ∷ []) [] []) s (Stop Ended s) (λ _ _ _. Unit {0}) q.1.3 q.0
        (op_does p c S after q.1.0 (op 0 (ReturnOf ty)) k q.1.4.0 (record { at = refl; paid = refl }))

    ends_as : (m : Machine S) (r : Res End (State S) Flow) (L : Flow → State S → Machine S → Type 0) → Does c S after m r L
        → ((flow : Flow) (s : State S) (y : Machine S) → L flow s y → Ends c S after y Ended s) → Ends c S after m (end_of r) (state_of r)
    ends_as m (Go flow s) L d h = ends_on c S after m d.0 Ended s d.1 (h flow s d.0 d.2)
    ends_as m (Stop e s) L d h = d

    module _ (expressions : (n : ℕ) → CallIsDone p c S after n → Evaluated p c S after n × StoredAs p c S after n)
        (statements : (n : ℕ) → Evaluated p c S after n → StoredAs p c S after n → FormExecuted p c S after n) where
      -- calls, however deep
      pub each_call : (n : ℕ) → CallIsDone p c S after n
      each_call zero = calls_done p c S after zero (body_at_zero p c S after) has_body
      each_call (suc n) =
          let e = expressions n (each_call n) in
          calls_done p c S after (suc n) (body_at_suc p c S after n (statements n e.0 e.1)) has_body

      -- bodies, whatever calls are in them
      pub each_body : (n : ℕ) → BodyDone p c S after (suc n)
      each_body n = let e = expressions n (each_call n) in body_at_suc p c S after n (statements n e.0 e.1)

      main_ends : (n : ℕ) (u : State S) → u.steps ≤ suc n → (o : Option Function) → slice_get p.functions p.main ≡ o → let r = run_if p M (suc n) o u in
          Ends c S after (record { control = inside (entry_of (slice_get (bodies p 1 p.functions) p.main)) [] [] []; run = u }) (end_of r) (state_of r)
      main_ends n u z None e =
          let h = code_behind c [] (op 0 EndHere ∷ functions_code p 1 p.functions) is.ops in
          let none = no_function p p.functions 1 p.main e in
          subst (λ b. Ends c S after (record { control = inside (entry_of b) [] [] []; run = u }) Ended u) (sym none)
          (op_does p c S after 0 (op 0 EndHere) (record { control = inside 0 [] [] []; run = u }) h.0 (record { at = refl; paid = refl }))
      main_ends n u z (Some g) e =
          let q = program_placed p.main g e in
          let r = run_in p M (suc n) g u in
          let d = each_body n g q.body.entry (inside q.body.entry [] [] []) u q.code z in
          subst (λ b. Ends c S after (record { control = inside (entry_of b) [] [] []; run = u }) (end_of r) (state_of r)) (sym q.found)
          (ends_as (standing (inside q.body.entry [] [] []) q.body.entry u) r (LeavesAs p c S after (in_function p.model d.0 g) (inside q.body.entry [] [] []) d.0) d.2
          (λ flow s y k. body_ends g d.0 q.body.entry flow s y d.1 k))

      -- the machine of the code comes to the end of the program's run, whoever watches
      pub run_ends : (x : S) (choices : Choices) (n : ℕ) → let r = run.Seen p S (seen_by after) x choices n in Ends c S after (first_machine c S x choices n) (end_of r) (state_of r)
      run_ends x choices n =
          let u = first_state p S x choices n in
          let r = run.Seen p S (seen_by after) x choices n in
          let within : n ≤ suc n = omega arith in
          subst (λ i. Ends c S after (record { control = inside i [] [] []; run = record u { cells = cells_of c.first } }) (end_of r) (state_of r)) (sym is.main)
          (subst (λ cs. Ends c S after (record { control = inside (entry_of (slice_get (bodies p 1 p.functions) p.main)) [] [] []; run = record u { cells = cs } }) (end_of r) (state_of r)) (sym is.first)
          (main_ends n u within (slice_get p.functions p.main) refl))

-- the law as a whole, from the laws of expressions and of forms
pub simulated : (p : Program) (c : Code) → IsCodeOf p c
    → ((n : ℕ) → CallIsDone p c (List Sight) noted n → Evaluated p c (List Sight) noted n × StoredAs p c (List Sight) noted n)
    → ((n : ℕ) → Evaluated p c (List Sight) noted n → StoredAs p c (List Sight) noted n → FormExecuted p c (List Sight) noted n)
    → IsSimulated p c
simulated p c is expressions statements = record { ends = λ choices n. run_ends p c is (List Sight) noted expressions statements [] choices n }
