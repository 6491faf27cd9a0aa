-- Where the code of a statement leads: to what is behind it, and back to bodies of loops, which take a step soon.
use Rattle.std.proofs.Common.{◌≡◌, ◌≤◌, inl, inr, ℕ, zero, suc, ◌+◌, Bool, true, false, ◌&&◌, ◌||◌, List, [], ◌∷◌, ◌++◌, length, Option, Some, None, slice_get, refl, sym, ap, ap₂, ◌∙◌, subst, arith, length-append}
use Rattle.c_core.specs.Tree.{Exp, Expr, Exps, NoExp, MoreExp, Init, Absent, One, Many, Rows, Names, NoName, MoreName, First, NoFirst, FirstExp, FirstNames, Stm, Stmt, Form, Empty, Do, Declare, Block, If, While, DoWhile, For, Break, Continue, Return, Label, Switch, Else, NoElse, OrElse, Stms, NoStm, MoreStm, MoreCase, Program}
use Rattle.c_core.specs.Types.{promote_of}
use Rattle.c_core.specs.Typing.{labels_in}
use Rattle.c_core.specs.declared.number.IntType.{IntType}
use Rattle.c_core.specs.declared.number.Spot.{Spot}
use Rattle.c_meaning.specs.Meaning.{Used, Unused}
use Rattle.c_meaning.specs.Objects.{type_of, type_of_object, size_of_object, columns_of_object}
use Rattle.c_meaning.specs.Run.{arm_for}
use Rattle.flow_code.specs.declared.code.Action.TheVariants.{Arrive, Convert, Jump, Open, Close, Leave, Declare as DeclareOf, Return as ReturnOf}
use Rattle.flow_code.specs.declared.code.Code.{Code}
use Rattle.flow_code.specs.declared.code.Op.{Op}
use Rattle.flow_code.specs.declared.code.Place.TheVariants.{Fixed}
use Rattle.flow_code.specs.declared.code.Then.TheVariants.{Push, Drop, Branch}
use Rattle.flow_code.specs.declared.sizes.Depth.{Depth}
use Rattle.flow_code.specs.declared.statements.Inside.{Inside}
use Rattle.flow_code.specs.Expressions.{code}
use Rattle.flow_code.specs.Preparing.{followed, op, only, stored_in, scope, all_closed}
use Rattle.flow_code.specs.Sizes.{operand_of, with_one, size, size_if, size_of_init, size_of_values, size_stored, size_of_first, size_of_test, size_of_arm, size_of_arms, size_of_statement, size_of_form, size_of_else, size_of_block, with_scope, one_if, leaks, any_leaks, first_leaks, in_turn}
use Rattle.flow_code.specs.Statements.{full_of, deeper, in_loop, in_switch, draws, else_jump, jump_out, leaving, arm_at, selection_code, switch_test_code, initial_code, initials_code, rows_code, init_code, name_code, names_code, first_code, only_if, test_code, return_code, turns, statement_code, form_code, else_code, block_code, arm_code, turns_code, arms_code}
use Rattle.flow_code.specs.Words.{native}
use Rattle.flow_code.proofs.Lengths.{code_size, followed_size}
use Rattle.flow_laws.specs.inside.Simulating.{HasCode}
use Rattle.flow_laws.proofs.Operations.{code_split}
use Rattle.flow_laws.proofs.Selecting.{chosen_arm}
use Rattle.flow_laws.proofs.Sized.{closed_size, switch_test_size, initial_size, initials_size, only_size, first_size, name_size, statement_size, arm_size}
use Rattle.flow_laws.proofs.Standing.{has_followed}
use Rattle.flow_rooms.specs.Paces.{takes_step, opens_scope, takes_soon}
use Rattle.flow_rooms.proofs.Leads.{LeadOn, on_append, on_last, on_operand, code_leads, stored_leads}

-- an operation takes a step soon
abbrev pub Soon : Code → ℕ → Type 0
Soon c j = takes_soon c.ops j ≡ true

scope_within : (b : Bool) (i n m : ℕ) → i + with_scope b n ≤ m → i + one_if b + n ≤ m
scope_within true i n m h = omega (arith, h)
scope_within false i n m h = omega (arith, h)

-- what is inside a scope
has_inner : (c : Code) (b : Bool) (i : ℕ) (f : ℕ → List Op) → HasCode c i (scope b i f) → HasCode c (i + one_if b) (f (i + one_if b))
has_inner c true i f h = (has_followed c i 1 (op 0 Open ∷ []) f refl (code_split c i (followed i (op 0 Open ∷ []) f) (op 0 Close ∷ []) h).0).1
has_inner c false i f h =
    let none : List Op = [] in
    (has_followed c i 0 none f refl (code_split c i (followed i none f) none h).0).1

module _ (P : ℕ → Type 0) where
  -- operations behind others that have so many
  pub on_behind : (i n : ℕ) (xs : List Op) (f : ℕ → List Op) → length xs ≡ n → LeadOn P i xs → LeadOn P (i + n) (f (i + n)) → LeadOn P i (followed i xs f)
  on_behind i n xs f e h g = on_append P i xs (f (i + length xs)) h (subst (λ l. LeadOn P (i + l) (f (i + l))) (sym e) g)

  on_scope : (b : Bool) (i : ℕ) (f : ℕ → List Op) → LeadOn P (i + one_if b) (f (i + one_if b)) → LeadOn P i (scope b i f)
  on_scope true i f h = on_append P i (followed i (op 0 Open ∷ []) f) (op 0 Close ∷ []) (on_behind i 1 (op 0 Open ∷ []) f refl (λ v. tt, tt) h) (λ v. tt, tt)
  on_scope false i f h =
      let none : List Op = [] in
      on_append P i (followed i none f) none (on_behind i 0 none f refl tt h) tt

  on_closed : (n i : ℕ) → LeadOn P i (all_closed n)
  on_closed zero i = tt
  on_closed (suc n) i = (λ v. tt, on_closed n (suc i))

  closed_then : (n : ℕ) (o : Op) → length (all_closed n ++ o ∷ []) ≡ n + 1
  closed_then n o = length-append (all_closed n) (o ∷ []) ∙ ap (λ m. m + 1) (closed_size n)

  on_jump : (n i to : ℕ) → i + (n + 1) ≤ to → LeadOn P i (jump_out n to)
  on_jump n i to h = on_last P i (n + 1) (all_closed n) (op 0 (Jump to)) (closed_then n (op 0 (Jump to))) (on_closed n i) (λ v. inl h)

  on_leave : (n i : ℕ) → LeadOn P i (leaving n)
  on_leave n i = on_append P i (all_closed n) (op 0 Leave ∷ []) (on_closed n i) (λ v. tt, tt)

  -- an arm begins where the first of the statements does, or further on
  arm_beyond : (d : Depth) (to n : ℕ) (b : Stms) → to ≤ arm_at d to n b
  arm_beyond d to n NoStm = omega arith
  arm_beyond d to n (MoreStm s b) = let l = arm_beyond d (to + size_of_statement d s) n b in omega (arith, l)
  arm_beyond d to zero (MoreCase spot l b) = omega arith
  arm_beyond d to (suc n) (MoreCase spot l b) = arm_beyond d to n b

  -- the operation that chooses an arm, before the arms
  selection_leads : (d : Depth) (at : Spot) (i : ℕ) (b : Stms) → LeadOn P i (selection_code d at (i + 1) b)
  selection_leads d at i b =
      (λ v. inl (subst (λ j. suc i ≤ j) (sym (chosen_arm v d (i + 1) b)) (omega (arith, arm_beyond d (i + 1) (arm_for v (labels_in b)) b))), tt)

  module _ (p : Program) where
    initial_leads : (i : ℕ) (at : Spot) (o j : ℕ) (e : Exp) → LeadOn P i (initial_code p i at o j e)
    initial_leads i at o j (Expr s u n) =
        stored_leads P p (record { statement = at; full = s }) i 0 (Expr s u n) (stored_in (Fixed o j) (native p.model (type_of_object p o)) false Drop) tt

    initials_lead : (i : ℕ) (at : Spot) (o j : ℕ) (es : Exps) → LeadOn P i (initials_code p i at o j es)
    initials_lead i at o j NoExp = tt
    initials_lead i at o j (MoreExp e es) =
        on_behind i (size_stored e) (initial_code p i at o j e) (λ l. initials_code p l at o (j + 1) es) (initial_size p i at o j e) (initial_leads i at o j e) (initials_lead (i + size_stored e) at o (j + 1) es)

    rows_lead : (i : ℕ) (at : Spot) (o j : ℕ) (rows : List Exps) → LeadOn P i (rows_code p i at o j rows)
    rows_lead i at o j [] = tt
    rows_lead i at o j (es ∷ rows) =
        on_behind i (size_of_values es) (initials_code p i at o j es) (λ l. rows_code p l at o (j + columns_of_object p o) rows) (initials_size p i at o j es) (initials_lead i at o j es)
        (rows_lead (i + size_of_values es) at o (j + columns_of_object p o) rows)

    init_leads : (i : ℕ) (at : Spot) (o : ℕ) (j : Init) → LeadOn P i (init_code p i at o j)
    init_leads i at o Absent = tt
    init_leads i at o (One e) = initial_leads i at o 0 e
    init_leads i at o (Many es) = initials_lead i at o 0 es
    init_leads i at o (Rows rows) = rows_lead i at o 0 rows

    name_leads : (i : ℕ) (at spot : Spot) (o : ℕ) (j : Init) → LeadOn P i (name_code p i at spot o j)
    name_leads i at spot o j =
        on_behind i 1 (op (size_of_object p o) (DeclareOf spot o (size_of_object p o) (type_of_object p o) (draws j)) ∷ []) (λ l. init_code p l at o j) refl (λ v. tt, tt) (init_leads (i + 1) at o j)

    names_lead : (i : ℕ) (at : Spot) (ns : Names) → LeadOn P i (names_code p i at ns)
    names_lead i at NoName = tt
    names_lead i at (MoreName spot o j ns) =
        on_behind i (1 + size_of_init j) (name_code p i at spot o j) (λ l. names_code p l at ns) (name_size p i at spot o j) (name_leads i at spot o j) (names_lead (i + (1 + size_of_init j)) at ns)

    first_leads_on : (i : ℕ) (at : Spot) (f : First) → LeadOn P i (first_code p i at f)
    first_leads_on i at NoFirst = tt
    first_leads_on i at (FirstExp e) = code_leads P p (full_of at e) i 0 Unused e Drop tt
    first_leads_on i at (FirstNames ns) = names_lead i at ns

    only_leads : (i : ℕ) (at : Spot) (e : Option Exp) → LeadOn P i (only_if p i at e)
    only_leads i at None = tt
    only_leads i at (Some e) = code_leads P p (full_of at e) i 0 Unused e Drop tt

    test_leads : (i : ℕ) (at : Spot) (e : Option Exp) (to : ℕ) → P to → LeadOn P i (test_code p i at e to)
    test_leads i at None to h = (λ v. inr h, tt)
    test_leads i at (Some e) to h = code_leads P p (full_of at e) i 0 Used e (Branch at true to) (inr h)

    return_leads : (i : ℕ) (at : Spot) (ty : Option IntType) (e : Exp) (n : ℕ) → LeadOn P i (return_code p i at ty e n)
    return_leads i at ty e n =
        let value = code p (full_of at e) i 0 Used e Push in
        on_append P i (value ++ all_closed n) (op 0 (ReturnOf ty) ∷ []) (on_append P i value (all_closed n) (code_leads P p (full_of at e) i 0 Used e Push tt) (on_closed n (i + length value))) (λ v. tt, tt)

    -- the turns of a loop, around the code of a body of this size
    turns_lead : (i start head : ℕ) (at : Spot) (e s : Option Exp) (body : ℕ → List Op) (n : ℕ) → length (body (i + 1)) ≡ n → i + 1 ≤ head → P start → LeadOn P (i + 1) (body (i + 1))
        → LeadOn P i (turns p i start head at e s body)
    turns_lead i start head at e s body n z b h g =
        let jump : List Op = op 0 (Jump head) ∷ [] in
        let only = λ (j : ℕ). only_if p j at s in
        let more : suc i ≤ head = omega (arith, b) in
        let one : length (followed i jump body) ≡ 1 + n = length-append jump (body (i + 1)) ∙ ap (λ m. 1 + m) z in
        let two : length (followed i (followed i jump body) only) ≡ 1 + n + size_if s = followed_size i (followed i jump body) only (1 + n) (size_if s) one (λ j. only_size p j at s) in
        on_behind i (1 + n + size_if s) (followed i (followed i jump body) only) (λ j. test_code p j at e start) two
        (on_behind i (1 + n) (followed i jump body) only one (on_behind i 1 jump body refl (λ v. inl more, tt) g) (only_leads (i + (1 + n)) at s))
        (test_leads (i + (1 + n + size_if s)) at e start h)

module _ (p : Program) (c : Code) where
  -- an arm takes a step soon
  arm_soon : (b : Bool) (i : ℕ) (w : Inside) (s : Stm) → HasCode c i (scope b i (λ l. statement_code p l w s)) → Soon c i
  arm_soon true i w (Stmt at f) h = ap₂ (λ (x y : Option Op). takes_step x || (opens_scope x && takes_step y)) h.0 h.1.0
  arm_soon false i w (Stmt at f) h = ap (λ (x : Option Op). takes_step x || (opens_scope x && takes_step (slice_get c.ops (suc i)))) h.0

  -- a statement, whose `break` and `continue` lead behind it, leads on
  abbrev StatementLeads : Stm → Type 0
  StatementLeads s = (i : ℕ) (w : Inside) → HasCode c i (statement_code p i w s) → i + size_of_statement w.depth s ≤ w.broken → i + size_of_statement w.depth s ≤ w.again → LeadOn (Soon c) i (statement_code p i w s)

  arm_leads : (s : Stm) → StatementLeads s → (i : ℕ) (w : Inside) → HasCode c i (arm_code p i w s) → i + size_of_arm w.depth s ≤ w.broken → i + size_of_arm w.depth s ≤ w.again
      → LeadOn (Soon c) i (arm_code p i w s)
  arm_leads s leads i w h a b =
      let v = deeper (leaks s) w in
      let f = λ (l : ℕ). statement_code p l v s in
      let n = size_of_statement v.depth s in
      on_scope (Soon c) (leaks s) i f (leads (i + one_if (leaks s)) v (has_inner c (leaks s) i f h) (scope_within (leaks s) i n w.broken a) (scope_within (leaks s) i n w.again b))

  mutual
    -- the code of a statement leads to what is behind it, and back to loops' bodies
    pub statement_leads : (s : Stm) → StatementLeads s
    statement_leads (Stmt at f) i w h a b =
        let one : i + 1 + size_of_form w.depth f ≤ w.broken = omega (arith, a) in
        let two : i + 1 + size_of_form w.depth f ≤ w.again = omega (arith, b) in
        on_behind (Soon c) i 1 (op 1 (Arrive at) ∷ []) (λ j. form_code p j w at f) refl (λ v. tt, tt) (form_leads f (i + 1) w at (has_followed c i 1 (op 1 (Arrive at) ∷ []) (λ j. form_code p j w at f) refl h).1 one two)

    -- the same by its form
    pub form_leads : (f : Form) (i : ℕ) (w : Inside) (at : Spot) → HasCode c i (form_code p i w at f) → i + size_of_form w.depth f ≤ w.broken → i + size_of_form w.depth f ≤ w.again
        → LeadOn (Soon c) i (form_code p i w at f)
    form_leads Empty i w at h a b = tt
    form_leads (Do e) i w at h a b = code_leads (Soon c) p (full_of at e) i 0 Unused e Drop tt
    form_leads (Declare ns) i w at h a b = names_lead (Soon c) p i at ns
    form_leads (Block s) i w at h a b =
        let v = deeper (any_leaks s) w in
        let f = λ (j : ℕ). block_code p j v s in
        let n = size_of_block v.depth s in
        on_scope (Soon c) (any_leaks s) i f (block_leads s (i + one_if (any_leaks s)) v (has_inner c (any_leaks s) i f h) (scope_within (any_leaks s) i n w.broken a) (scope_within (any_leaks s) i n w.again b))
    form_leads (If e s o) i w at h a b =
        let n = size_of_arm w.depth s in
        let to = i + (size e + n + else_jump o) in
        let test = code p (full_of at e) i 0 Used e (Branch at false to) in
        let arm = λ (j : ℕ). arm_code p j w s in
        let all = followed_size i test arm (size e) n (code_size p (full_of at e) i 0 Used e (Branch at false to)) (λ j. arm_size p j w s) in
        let parts = has_followed c i (size e + n) (followed i test arm) (λ j. else_code p j to w o) all h in
        let inner = has_followed c i (size e) test arm (code_size p (full_of at e) i 0 Used e (Branch at false to)) parts.0 in
        let over : i + size e ≤ to = omega arith in
        on_behind (Soon c) i (size e + n) (followed i test arm) (λ j. else_code p j to w o) all
        (on_behind (Soon c) i (size e) test arm (code_size p (full_of at e) i 0 Used e (Branch at false to)) (code_leads (Soon c) p (full_of at e) i 0 Used e (Branch at false to) (inl over))
        (arm_leads s (statement_leads s) (i + size e) w inner.1 (omega (arith, a)) (omega (arith, b))))
        (else_leads o (i + (size e + n)) to w parts.1 (omega arith) (omega (arith, a)) (omega (arith, b)))
    form_leads (While e s) i w at h a b =
        let n = size_of_arm (in_turn w.depth) s in
        let again = i + 1 + n in
        let u = in_loop again (again + size e) w in
        let jump : List Op = op 0 (Jump again) ∷ [] in
        let arm = λ (j : ℕ). arm_code p j u s in
        let all = followed_size i jump arm 1 n refl (λ j. arm_size p j u s) in
        let parts = has_followed c i (1 + n) (followed i jump arm) (λ j. test_code p j at (Some e) (i + 1)) all h in
        let body = (has_followed c i 1 jump arm refl parts.0).1 in
        let over : suc i ≤ again = omega arith in
        on_behind (Soon c) i (1 + n) (followed i jump arm) (λ j. test_code p j at (Some e) (i + 1)) all
        (on_behind (Soon c) i 1 jump arm refl (λ v. inl over, tt) (arm_leads s (statement_leads s) (i + 1) u body (omega arith) (omega arith)))
        (test_leads (Soon c) p (i + (1 + n)) at (Some e) (i + 1) (arm_soon (leaks s) (i + 1) (deeper (leaks s) u) s body))
    form_leads (DoWhile s e) i w at h a b =
        let n = size_of_arm (in_turn w.depth) s in
        let again = i + n in
        let u = in_loop again (again + size e) w in
        let parts = has_followed c i n (arm_code p i u s) (λ j. test_code p j at (Some e) i) (arm_size p i u s) h in
        on_behind (Soon c) i n (arm_code p i u s) (λ j. test_code p j at (Some e) i) (arm_size p i u s)
        (arm_leads s (statement_leads s) i u parts.0 (omega arith) (omega arith))
        (test_leads (Soon c) p (i + n) at (Some e) i (arm_soon (leaks s) i (deeper (leaks s) u) s parts.0))
    form_leads (For first e t s) i w at h a b =
        let u = deeper (first_leaks first) w in
        let n = size_of_arm (in_turn u.depth) s in
        let l = i + one_if (first_leaks first) in
        let m = l + size_of_first first in
        let again = m + 1 + n in
        let head = again + size_if t in
        let v = in_loop again (head + size_of_test e) u in
        let f = λ (j : ℕ). followed j (first_code p j at first) (λ k. turns_code p k u at e t s) in
        let arm = λ (j : ℕ). arm_code p j v s in
        let rest = (has_followed c l (size_of_first first) (first_code p l at first) (λ k. turns_code p k u at e t s) (first_size p l at first) (has_inner c (first_leaks first) i f h)).1 in
        let jump : List Op = op 0 (Jump head) ∷ [] in
        let only = λ (j : ℕ). only_if p j at t in
        let turned = (code_split c m (followed m (followed m jump arm) only) (test_code p (m + length (followed m (followed m jump arm) only)) at e (m + 1)) rest).0 in
        let bodied = (code_split c m (followed m jump arm) (only (m + length (followed m jump arm))) turned).0 in
        let body = (has_followed c m 1 jump arm refl bodied).1 in
        on_scope (Soon c) (first_leaks first) i f
        (on_behind (Soon c) l (size_of_first first) (first_code p l at first) (λ k. turns_code p k u at e t s) (first_size p l at first) (first_leads_on (Soon c) p l at first)
        (turns_lead (Soon c) p m (m + 1) head at e t arm n (arm_size p (m + 1) v s) (omega arith) (arm_soon (leaks s) (m + 1) (deeper (leaks s) v) s body)
        (arm_leads s (statement_leads s) (m + 1) v body (omega arith) (omega arith))))
    form_leads Break i w at h a b = on_jump (Soon c) w.depth.inner i w.broken a
    form_leads Continue i w at h a b = on_jump (Soon c) w.depth.turn i w.again b
    form_leads (Return None) i w at h a b = on_leave (Soon c) w.depth.scopes i
    form_leads (Return (Some e)) i w at h a b = return_leads (Soon c) p i at w.result e w.depth.scopes
    form_leads (Label s) i w at h a b = statement_leads s i w h a b
    form_leads (Switch e s) i w at h a b =
        let n = with_one (operand_of e) (size e) in
        let arms = size_of_arms w.depth s in
        let j = i + n in
        let v = deeper (any_leaks s) (in_switch (j + arms) w) in
        let f = λ (l : ℕ). arms_code p l v at s in
        let m = size_of_block v.depth s in
        let l = j + one_if (any_leaks s) in
        let first : ℕ = 1 in
        let parts = has_followed c i n (switch_test_code p i at e) (λ j. scope (any_leaks s) j (λ l. arms_code p l (deeper (any_leaks s) (in_switch (j + arms) w)) at s)) (switch_test_size p i at e) h in
        let block = (has_followed c l first (selection_code v.depth at (l + first) s) (λ k. block_code p k v s) refl (has_inner c (any_leaks s) j f parts.1)).1 in
        let one = scope_within (any_leaks s) j (first + m) (j + arms) (omega arith) in
        let two = scope_within (any_leaks s) j (first + m) w.again (omega (arith, b)) in
        on_behind (Soon c) i n (switch_test_code p i at e) (λ j. scope (any_leaks s) j (λ l. arms_code p l (deeper (any_leaks s) (in_switch (j + arms) w)) at s)) (switch_test_size p i at e)
        (on_operand (Soon c) (operand_of e) i 0 (size e) (code p (full_of at e) i 0 Used e Push) (λ y. Convert (native p.model (promote_of (type_of e))) y (only Push)) (code_size p (full_of at e) i 0 Used e Push)
        (code_leads (Soon c) p (full_of at e) i 0 Used e Push tt) (λ y v. tt))
        (on_scope (Soon c) (any_leaks s) j f
        (on_behind (Soon c) l first (selection_code v.depth at (l + first) s) (λ k. block_code p k v s) refl
        (selection_leads (Soon c) v.depth at l s) (block_leads s (l + first) v block (omega (arith, one)) (omega (arith, two)))))

    else_leads : (o : Else) (i to : ℕ) (w : Inside) → HasCode c i (else_code p i to w o) → i + else_jump o ≤ to → i + size_of_else w.depth o ≤ w.broken → i + size_of_else w.depth o ≤ w.again
        → LeadOn (Soon c) i (else_code p i to w o)
    else_leads NoElse i to w h l a b = tt
    else_leads (OrElse s) i to w h l a b =
        let n = size_of_arm w.depth s in
        let jump : List Op = op 0 (Jump (to + n)) ∷ [] in
        let arm = λ (j : ℕ). arm_code p j w s in
        let over : suc i ≤ to + n = omega (arith, l) in
        on_behind (Soon c) i 1 jump arm refl (λ v. inl over, tt) (arm_leads s (statement_leads s) (i + 1) w (has_followed c i 1 jump arm refl h).1 (omega (arith, a)) (omega (arith, b)))

    block_leads : (s : Stms) (i : ℕ) (w : Inside) → HasCode c i (block_code p i w s) → i + size_of_block w.depth s ≤ w.broken → i + size_of_block w.depth s ≤ w.again
        → LeadOn (Soon c) i (block_code p i w s)
    block_leads NoStm i w h a b = tt
    block_leads (MoreStm s o) i w h a b =
        let n = size_of_statement w.depth s in
        let parts = has_followed c i n (statement_code p i w s) (λ j. block_code p j w o) (statement_size p i w s) h in
        on_behind (Soon c) i n (statement_code p i w s) (λ j. block_code p j w o) (statement_size p i w s)
        (statement_leads s i w parts.0 (omega (arith, a)) (omega (arith, b)))
        (block_leads o (i + n) w parts.1 (omega (arith, a)) (omega (arith, b)))
    block_leads (MoreCase spot l o) i w h a b = block_leads o i w h a b
