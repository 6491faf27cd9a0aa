-- The code of a program is paced, so a machine's steps pay only so many operations.
use Rattle.std.proofs.Common.{◌≡◌, ℕ, ℤ, zero, suc, ◌+◌, true, List, [], ◌∷◌, length, Some, slice_get, refl, sym, ap, ◌∙◌, subst, arith}
use Rattle.c_core.specs.Tree.{Stm, Stmt, Function, Program}
use Rattle.flow_code.specs.declared.code.Action.TheVariants.{Rest, End as EndHere, Leave}
use Rattle.flow_code.specs.declared.code.Body.{Body}
use Rattle.flow_code.specs.declared.code.Code.{Code}
use Rattle.flow_code.specs.declared.code.Op.{Op}
use Rattle.flow_code.specs.Preparing.{followed, op}
use Rattle.flow_code.specs.Programs.{in_function, body_code, function_code, functions_code, parameters_of, bodies, IsCodeOf}
use Rattle.flow_code.specs.Sizes.{outermost, size_of_form}
use Rattle.flow_code.specs.Statements.{form_code}
use Rattle.flow_laws.specs.Runs.{Sight, noted}
use Rattle.flow_laws.specs.inside.Simulating.{HasCode}
use Rattle.flow_laws.proofs.Operations.{code_split}
use Rattle.flow_laws.proofs.Simulated.{code_behind}
use Rattle.flow_laws.proofs.Standing.{has_followed}
use Rattle.flow_rooms.specs.Paces.{target_of, takes_step, IsPaced, IsWithinPace}
use Rattle.flow_rooms.proofs.Falls.{within_pace}
use Rattle.flow_rooms.proofs.Leads.{Beyond, LeadOn, on_append}
use Rattle.flow_rooms.proofs.StatementsLead.{Soon, on_behind, form_leads}

-- an operation among operations that lead on
led_at : (P : ℕ → Type 0) (i k n : ℕ) (xs : List Op) (o : Op) → n ≡ i + k → LeadOn P i xs → slice_get xs k ≡ Some o → (v : ℤ) → Beyond P (suc n) (target_of o.action v)
led_at P i k n [] o at h e v = absurd (cc)
led_at P i zero n (x ∷ xs) o at h e v =
    let same : x ≡ o = cc in
    let here : i ≡ n = omega (arith, at) in
    subst (λ j. Beyond P (suc j) (target_of o.action v)) here (subst (λ (y : Op). Beyond P (suc i) (target_of y.action v)) same (h.0 v))
led_at P i (suc k) n (x ∷ xs) o at h e v = let further : n ≡ suc i + k = omega (arith, at) in led_at P (suc i) k n xs o further h.1 e v

module _ (p : Program) (c : Code) where
  body_leads : (i : ℕ) (g : Function) (s : Stm) → HasCode c i (body_code p i g s) → LeadOn (Soon c) i (body_code p i g s)
  body_leads i g (Stmt at x) h =
      let rest : List Op = op 1 Rest ∷ [] in
      let f = λ (j : ℕ). form_code p j (in_function p.model (j + size_of_form outermost x) g) at x in
      let inner = (has_followed c i 1 rest f refl (code_split c i (followed i rest f) (op 0 Leave ∷ []) h).0).1 in
      on_append (Soon c) i (followed i rest f) (op 0 Leave ∷ [])
      (on_behind (Soon c) i 1 rest f refl (λ v. tt, tt) (form_leads p c x (i + 1) (in_function p.model (i + 1 + size_of_form outermost x) g) at inner (omega arith) (omega arith))) (λ v. tt, tt)

  body_starts : (i : ℕ) (g : Function) (s : Stm) → HasCode c i (body_code p i g s) → slice_get c.ops i ≡ Some (op 1 Rest)
  body_starts i g (Stmt at x) h = h.0

  functions_lead : (i : ℕ) (fs : List Function) → HasCode c i (functions_code p i fs) → LeadOn (Soon c) i (functions_code p i fs)
  functions_lead i [] h = tt
  functions_lead i (f ∷ fs) h =
      let l = i + length (function_code p i f) in
      let parts = code_split c i (function_code p i f) (functions_code p l fs) h in
      on_append (Soon c) i (function_code p i f) (functions_code p l fs) (body_leads i f f.body parts.0) (functions_lead l fs parts.1)

  -- each function begins with an operation that takes a step
  functions_start : (i : ℕ) (fs : List Function) (f : ℕ) (b : Body) → HasCode c i (functions_code p i fs) → slice_get (bodies p i fs) f ≡ Some b → takes_step (slice_get c.ops b.entry) ≡ true
  functions_start i [] f b h e = absurd (cc)
  functions_start i (x ∷ fs) zero b h e =
      let l = i + length (function_code p i x) in
      let here = body_starts i x x.body (code_split c i (function_code p i x) (functions_code p l fs) h).0 in
      let starts : takes_step (slice_get c.ops i) ≡ true = ap takes_step here in
      let same : record { entry = i; parameters = parameters_of p x.params } ≡ b = cc in
      let entry : i ≡ b.entry = ap (λ (y : Body). y.entry) same in
      subst (λ j. takes_step (slice_get c.ops j) ≡ true) entry starts
  functions_start i (x ∷ fs) (suc f) b h e =
      let l = i + length (function_code p i x) in
      functions_start l fs f b (code_split c i (function_code p i x) (functions_code p l fs) h).1 e

-- the code of a program is paced
pub code_paced : (p : Program) (c : Code) → IsCodeOf p c → IsPaced c
code_paced p c is =
    let behind = code_behind c (op 0 EndHere ∷ []) (functions_code p 1 p.functions) is.ops in
    let all : LeadOn (Soon c) 0 c.ops = subst (λ os. LeadOn (Soon c) 0 os) (sym is.ops) (λ v. tt, functions_lead p c 1 p.functions behind) in
    record {
      leads = λ i j o v h e. subst (λ t. Beyond (Soon c) (suc i) t) e (led_at (Soon c) 0 i i c.ops o (omega arith) all h v);
      begins = λ f b h. functions_start p c 1 p.functions f b behind (sym (ap (λ bs. slice_get bs f) is.functions) ∙ h);
    }

-- so its machine does at most so many operations as its steps pay
pub operations_paced : (p : Program) (c : Code) → IsCodeOf p c → IsWithinPace c
operations_paced p c is = record { within = λ choices n k m e. within_pace c (code_paced p c is) (List Sight) noted [] choices n k m e }
