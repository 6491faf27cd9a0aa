-- Where the code of an expression leads: to what is behind it, or to where its value is to lead.
use Rattle.std.proofs.Common.{◌≡◌, ◌≤◌, ◌⊎◌, inl, inr, ℕ, ℤ, suc, ◌+◌, negsuc, Bool, true, false, cond, not, List, [], ◌∷◌, ◌++◌, length, Option, Some, None, slice_get, refl, ap, ◌∙◌, subst, arith, length-append}
use Rattle.c_core.specs.Types.{promote_of}
use Rattle.c_core.specs.Tree.{Exp, Expr, Node, Const, Var, Index, Unary, Cast, Step, Binary, Logic, Choose, Comma, Assign, Call, Exps, NoExp, MoreExp, Function, Program}
use Rattle.c_core.specs.declared.number.DataModel.{DataModel}
use Rattle.c_core.specs.declared.number.IntType.{IntType}
use Rattle.c_core.specs.declared.number.Spot.{Spot}
use Rattle.c_core.specs.declared.tree.Callee.{Callee}
use Rattle.c_core.specs.declared.tree.Callee.TheVariants.{Defined, Input as InputOf, ReachError, Abort, Exit}
use Rattle.c_meaning.specs.Meaning.{Use, Used, Unused}
use Rattle.c_meaning.specs.Objects.{type_of, size_of_object, columns_of_object}
use Rattle.run_state.specs.declared.machine.Around.{Around}
use Rattle.run_state.specs.declared.machine.CallSite.{CallSite}
use Rattle.flow_code.specs.declared.code.Operand.{Operand}
use Rattle.flow_code.specs.declared.code.Operand.TheVariants.{Top, Cell, Number}
use Rattle.flow_code.specs.declared.code.Then.{Then}
use Rattle.flow_code.specs.declared.code.Then.TheVariants.{Push, Drop, Skip, Branch}
use Rattle.flow_code.specs.declared.code.Into.{Into}
use Rattle.flow_code.specs.declared.code.Action.{Action}
use Rattle.flow_code.specs.declared.code.Action.TheVariants.{Give, Truth, Convert, Look, Aim, Row, OperateOne, Jump, Enter}
use Rattle.flow_code.specs.declared.code.Op.{Op}
use Rattle.flow_code.specs.Preparing.{followed, op, only, Ready, prepared, taken, taken_both, with_operand, kept, rest, paired, paired_at}
use Rattle.flow_code.specs.Sizes.{operand_of, operand_in, with_one, is_binary, as_stored, size, size_of_node, size_of_place, size_of_element}
use Rattle.flow_code.specs.Expressions.{code, node_code, place_code, element_code, rows_of_object, args_code, argument_to, callee_code, call_of, count_of, stored_by, stored_at, stored_code, site_at, constant, as_type, source, left_by}
use Rattle.flow_code.specs.Words.{word_of, native}
use Rattle.flow_code.proofs.Lengths.{code_size, node_size, place_size, element_size, followed_size}
use Rattle.flow_rooms.specs.Paces.{target_in, target_of}

-- an address, if there is one, isn't before another, or is let
abbrev pub Beyond : (ℕ → Type 0) → ℕ → Option ℕ → Type 0
Beyond P n None = Unit {0}
Beyond P n (Some j) = (n ≤ j) ⊎ P j

-- operations from an address on lead to higher addresses, or to some that are let
abbrev pub LeadOn : (ℕ → Type 0) → ℕ → List Op → Type 0
LeadOn P i [] = Unit {0}
LeadOn P i (o ∷ os) = ((v : ℤ) → Beyond P (suc i) (target_of o.action v)) × LeadOn P (suc i) os

-- operands, and one operation behind them
one_length : (y : Option Operand) (k : ℕ) (ops : List Op) (m : ℕ) (o : Op) → length ops ≡ m → length ((prepared y k ops).ops ++ o ∷ []) ≡ with_one y m
one_length (Some x) k ops m o h = refl
one_length None k ops m o h = length-append ops (o ∷ []) ∙ ap (λ n. n + 1) h

module _ (P : ℕ → Type 0) where
  -- what isn't before an address isn't before a lower one
  pub beyond_less : (n m : ℕ) (t : Option ℕ) → m ≤ n → Beyond P n t → Beyond P m t
  beyond_less n m None l h = tt
  beyond_less n m (Some j) l (inl h) = inl (omega (arith, l, h))
  beyond_less n m (Some j) l (inr h) = inr h

  -- operations, and some behind them
  pub on_append : (i : ℕ) (xs ys : List Op) → LeadOn P i xs → LeadOn P (i + length xs) ys → LeadOn P i (xs ++ ys)
  on_append i [] ys h g = let e : i + 0 ≡ i = omega arith in subst (λ j. LeadOn P j ys) e g
  on_append i (x ∷ xs) ys h g =
      let e : i + length (x ∷ xs) ≡ suc i + length xs = omega arith in
      (h.0, on_append (suc i) xs ys h.1 (subst (λ j. LeadOn P j ys) e g))

  -- the same where those behind depend on where they begin
  pub on_followed : (i n : ℕ) (xs : List Op) (f : ℕ → List Op) → length xs ≡ n → LeadOn P i xs → ((j : ℕ) → j ≡ i + n → LeadOn P j (f j)) → LeadOn P i (followed i xs f)
  on_followed i n xs f e h g = on_append i xs (f (i + length xs)) h (g (i + length xs) (ap (λ l. i + l) e))

  -- one operation behind
  pub on_last : (i n : ℕ) (xs : List Op) (o : Op) → length (xs ++ o ∷ []) ≡ n → LeadOn P i xs → ((v : ℤ) → Beyond P (i + n) (target_of o.action v)) → LeadOn P i (xs ++ o ∷ [])
  on_last i n xs o e h b =
      let all = length-append xs (o ∷ []) in
      on_append i xs (o ∷ []) h (λ v. beyond_less (i + n) (suc (i + length xs)) (target_of o.action v) (omega (arith, all, e)) (b v), tt)

  -- operands that are ready
  on_prepared : (y : Option Operand) (i k : ℕ) (ops : List Op) → LeadOn P i ops → LeadOn P i (prepared y k ops).ops
  on_prepared (Some x) i k ops h = tt
  on_prepared None i k ops h = h

  pub on_operand : (y : Option Operand) (i k m : ℕ) (ops : List Op) (f : Operand → Action) → length ops ≡ m → LeadOn P i ops
      → ((x : Operand) (v : ℤ) → Beyond P (i + with_one y m) (target_of (f x) v)) → LeadOn P i (with_operand y k ops f)
  on_operand y i k m ops f e h b =
      let r = prepared y k ops in
      on_last i (with_one y m) r.ops (op r.steps (f r.operand)) (one_length y k ops m (op r.steps (f r.operand)) e) (on_prepared y i k ops h) (b r.operand)

  on_kept : (x : Operand) (i k : ℕ) → LeadOn P i (kept x k)
  on_kept Top i k = tt
  on_kept (Cell o) i k = (λ v. tt, tt)
  on_kept (Number n) i k = (λ v. tt, tt)

  on_paired : (x : Operand) (i k : ℕ) (y : Option Operand) (ops : List Op) → LeadOn P (i + length (kept x k)) ops → LeadOn P i (paired x k y ops).ops
  on_paired x i k (Some y) ops h = tt
  on_paired x i k None ops h = on_append i (kept x k) ops (on_kept x i k) h

  on_paired_at : (i : ℕ) (j : Ready) (y : Option Operand) (f : ℕ → ℕ → List Op) → LeadOn P i j.ops → ((l k : ℕ) → LeadOn P l (f l k)) → LeadOn P i (paired_at i j y f).ops
  on_paired_at i j y f h g =
      let from = i + length j.ops + length (kept j.operand j.steps) in
      let ops = f from (rest j.operand j.steps) in
      on_append i j.ops (paired j.operand j.steps y ops).ops h (on_paired j.operand (i + length j.ops) j.steps y ops (g from (rest j.operand j.steps)))

  on_stored : (p : Program) (t : Bool) (y : Option Operand) (i k m : ℕ) (x : Into) (v w : List Op) → length v ≡ m → LeadOn P i v
      → (Beyond P (i + m) (target_in x.then) → LeadOn P i w) → Beyond P (i + cond t m (with_one y m)) (target_in x.then) → LeadOn P i (stored_by p t y k x v w)
  on_stored p true y i k m x v w e h g b = g b
  on_stored p false y i k m x v w e h g b = on_operand y i k m v (λ z. Give z x) e h (λ z n. b)

  on_call : (l f n : ℕ) (site : CallSite) (o : Option Function) (v : ℤ) → Beyond P l (target_of (call_of f n site o).action v)
  on_call l f n site None v = tt
  on_call l f n site (Some g) v = tt

  -- what a call does behind its arguments
  on_callee : (p : Program) (at : Around) (site : CallSite) (l n : ℕ) (then : Then) (f : Callee) → Beyond P (l + length (callee_code p at site n then f)) (target_in then) → LeadOn P l (callee_code p at site n then f)
  on_callee p at site l n then (Defined f) b =
      let e : suc (suc l) ≤ l + 2 = omega arith in
      (on_call (suc l) f n site (slice_get p.functions f), (λ v. beyond_less (l + 2) (suc (suc l)) (target_in then) e b, tt))
  on_callee p at site l n then (InputOf ty) b = let e : suc l ≤ l + 1 = omega arith in (λ v. beyond_less (l + 1) (suc l) (target_in then) e b, tt)
  on_callee p at site l n then ReachError b = (λ v. tt, tt)
  on_callee p at site l n then Abort b = (λ v. tt, tt)
  on_callee p at site l n then Exit b = (λ v. tt, tt)

  on_as_type : (m : DataModel) (ty : Option IntType) (x : Into) (l : ℕ) → Beyond P l (target_in x.then) → (v : ℤ) → Beyond P l (target_of (as_type m ty x).action v)
  on_as_type m None x l b v = b
  on_as_type m (Some ty) x l b v = b

  -- an argument leads nowhere
  argument_leads : (f : Callee) (n : ℕ) → Beyond P n (target_in (argument_to f))
  argument_leads (Defined f) n = tt
  argument_leads (InputOf ty) n = tt
  argument_leads ReachError n = tt
  argument_leads Abort n = tt
  argument_leads Exit n = tt

  module _ (p : Program) (at : Around) where
    -- an arm of a conditional, behind which the conditional goes on
    on_arm : (i n : ℕ) (ty : Option IntType) (x : Into) (ops : List Op) → length ops ≡ n → LeadOn P i ops → Beyond P (i + n + 1) (target_in x.then) → LeadOn P i (ops ++ as_type p.model ty x ∷ [])
    on_arm i n ty x ops e h b =
        let l : i + (n + 1) ≤ i + n + 1 = omega arith in
        on_last i (n + 1) ops (as_type p.model ty x) (length-append ops (as_type p.model ty x ∷ []) ∙ ap (λ m. m + 1) e) h
        (on_as_type p.model ty x (i + (n + 1)) (beyond_less (i + n + 1) (i + (n + 1)) (target_in x.then) l b))

    mutual
      -- the code of an expression leads to what is behind it, and to where its value is to lead
      pub code_leads : (i k : ℕ) (want : Use) (e : Exp) (then : Then) → Beyond P (i + size e) (target_in then) → LeadOn P i (code p at i k want e then)
      code_leads i k want (Expr spot ty n) then b = node_leads i (k + 1) want spot ty n (only then) b

      -- the same by its form
      pub node_leads : (i k : ℕ) (want : Use) (spot : Spot) (ty : Option IntType) (n : Node) (x : Into) → Beyond P (i + size_of_node ty n) (target_in x.then) → LeadOn P i (node_code p at i k want spot ty n x)
      node_leads i k want spot ty (Const v) x b = let e : suc i ≤ i + 1 = omega arith in (λ n. beyond_less (i + 1) (suc i) (target_in x.then) e b, tt)
      node_leads i k want spot ty (Var o) x b = let e : suc i ≤ i + 1 = omega arith in (λ n. beyond_less (i + 1) (suc i) (target_in x.then) e b, tt)
      node_leads i k want spot ty (Index o is) x b = element_leads i k spot o is (λ y. Look o (size_of_object p o) y spot x) (λ y v. b)
      node_leads i k want spot ty (Unary o a) x b = on_operand (operand_of a) i k (size a) (code p at i k Used a Push) (λ y. OperateOne o (word_of p.model (promote_of (type_of a))) y (source at spot) x) (code_size p at i k Used a Push) (code_leads i k Used a Push tt) (λ y v. b)
      node_leads i k want spot None (Cast a) x b = code_leads i k Unused a x.then b
      node_leads i k want spot (Some to) (Cast a) x b = on_operand (operand_of a) i k (size a) (code p at i k Used a Push) (λ y. Convert (native p.model to) y x) (code_size p at i k Used a Push) (code_leads i k Used a Push tt) (λ y v. b)
      node_leads i k want spot ty (Step o (Expr s u n)) x b =
          let j = place_code p at i (k + 1) s n true in
          on_last i (size_of_place n + 1) j.ops _ (node_size p at i k want spot ty (Step o (Expr s u n)) x) (place_leads i (k + 1) s n true) (λ v. b)
      node_leads i k want spot ty (Binary o a c) x b =
          let q = paired_at i (prepared (operand_of a) k (code p at i k Used a Push)) (operand_of c) (λ j l. code p at j l Used c Push) in
          on_last i (size_of_node ty (Binary o a c)) q.ops _ (node_size p at i k want spot ty (Binary o a c) x)
          (on_paired_at i (prepared (operand_of a) k (code p at i k Used a Push)) (operand_of c) (λ j l. code p at j l Used c Push)
          (on_prepared (operand_of a) i k (code p at i k Used a Push) (code_leads i k Used a Push tt)) (λ j l. code_leads j l Used c Push tt)) (λ v. b)
      node_leads i k want spot ty (Logic both a c) x b =
          let n = size a in
          let m = with_one (operand_of c) (size c) in
          let decided = i + (n + (m + 1)) in
          let first = code p at i k Used a (Skip (not both) decided) in
          let second = λ (j : ℕ). with_operand (operand_of c) 0 (code p at j 0 Used c Push) (λ y. Truth y x) in
          let long = λ (j : ℕ). one_length (operand_of c) 0 (code p at j 0 Used c Push) (size c) (op (prepared (operand_of c) 0 (code p at j 0 Used c Push)).steps (Truth (prepared (operand_of c) 0 (code p at j 0 Used c Push)).operand x)) (code_size p at j 0 Used c Push) in
          let all = followed_size i first second n m (code_size p at i k Used a (Skip (not both) decided)) long in
          let over : i + n ≤ decided = omega arith in
          on_append i (followed i first second) (op 0 (Jump (decided + 1)) ∷ op 0 (Give (constant both) x) ∷ [])
          (on_followed i n first second (code_size p at i k Used a (Skip (not both) decided)) (code_leads i k Used a (Skip (not both) decided) (inl over))
          (λ j e. on_operand (operand_of c) j 0 (size c) (code p at j 0 Used c Push) (λ y. Truth y x) (code_size p at j 0 Used c Push) (code_leads j 0 Used c Push tt)
          (λ y v. beyond_less (i + (n + m + 2)) (j + m) (target_in x.then) (omega (arith, e)) b)))
          (λ v. inl (omega (arith, all)), (λ v. beyond_less (i + (n + m + 2)) (suc (suc (i + length (followed i first second)))) (target_in x.then) (omega (arith, all)) b, tt))
      node_leads i k want spot ty (Choose mark e a c) x b =
          let n = size e in
          let m = size a in
          let l = size c in
          let second = i + (n + m + 2) in
          let test = code p at i k Used e (Branch mark false second) in
          let yes = λ (j : ℕ). code p at j 0 Used a Push ++ as_type p.model ty x ∷ [] in
          let no = λ (j : ℕ). code p at j 0 Used c Push ++ as_type p.model ty x ∷ [] in
          let past = λ (j : ℕ). op 0 (Jump (second + (l + 1))) ∷ [] in
          let yes_size = λ (j : ℕ). length-append (code p at j 0 Used a Push) (as_type p.model ty x ∷ []) ∙ ap (λ q. q + 1) (code_size p at j 0 Used a Push) in
          let first_size = followed_size i test yes n (m + 1) (code_size p at i k Used e (Branch mark false second)) yes_size in
          let jumped = followed_size i (followed i test yes) past (n + (m + 1)) 1 first_size (λ j. refl) in
          let over : i + n ≤ second = omega arith in
          on_followed i (n + (m + 1) + 1) (followed i (followed i test yes) past) no jumped
          (on_followed i (n + (m + 1)) (followed i test yes) past first_size
          (on_followed i n test yes (code_size p at i k Used e (Branch mark false second)) (code_leads i k Used e (Branch mark false second) (inl over))
          (λ j h. on_arm j m ty x (code p at j 0 Used a Push) (code_size p at j 0 Used a Push) (code_leads j 0 Used a Push tt)
          (beyond_less (i + (n + (m + l + 3))) (j + m + 1) (target_in x.then) (omega (arith, h)) b)))
          (λ j h. (λ v. inl (omega (arith, h)), tt)))
          (λ j h. on_arm j l ty x (code p at j 0 Used c Push) (code_size p at j 0 Used c Push) (code_leads j 0 Used c Push tt)
          (beyond_less (i + (n + (m + l + 3))) (j + l + 1) (target_in x.then) (omega (arith, h)) b))
      node_leads i k want spot ty (Comma a c) x b =
          on_followed i (size a) (code p at i k Unused a Drop) (λ j. code p at j 0 Used c x.then) (code_size p at i k Unused a Drop) (code_leads i k Unused a Drop tt)
          (λ j h. code_leads j 0 Used c x.then (beyond_less (i + (size a + size c)) (j + size c) (target_in x.then) (omega (arith, h)) b))
      node_leads i k want spot ty (Assign None (Expr s u n) e) x b =
          let into = stored_at p.model (Expr s u n) false x.then in
          let j = place_code p at i (k + 1) s n false in
          on_followed i (size_of_place n) j.ops (λ l. stored_code p at l j.steps e into) (place_size p at i (k + 1) s n false) (place_leads i (k + 1) s n false)
          (λ l h. stored_leads l j.steps e into (beyond_less (i + (size_of_place n + as_stored e (size e))) (l + as_stored e (size e)) (target_in x.then) (omega (arith, h)) b))
      node_leads i k want spot ty (Assign (Some o) (Expr s u n) e) x b =
          let j = place_code p at i (k + 1) s n true in
          let q = paired_at i j (operand_of e) (λ l h. code p at l h Used e Push) in
          on_last i (size_of_node ty (Assign (Some o) (Expr s u n) e)) q.ops _ (node_size p at i k want spot ty (Assign (Some o) (Expr s u n) e) x)
          (on_paired_at i j (operand_of e) (λ l h. code p at l h Used e Push) (place_leads i (k + 1) s n true) (λ l h. code_leads l h Used e Push tt)) (λ v. b)
      node_leads i k want spot ty (Call callee es close) x b =
          let args = args_code p at i k (argument_to callee) es in
          let enter = op (left_by es k) (Enter close) in
          let behind = callee_code p at (site_at spot close want ty) (count_of es) x.then callee in
          let all = node_size p at i k want spot ty (Call callee es close) x in
          let sum = length-append args (enter ∷ behind) in
          on_append i args (enter ∷ behind) (args_leads i k (argument_to callee) es (argument_leads callee)) (
            λ v. tt,
            on_callee p at (site_at spot close want ty) (suc (i + length args)) (count_of es) x.then callee
                (beyond_less (i + size_of_node ty (Call callee es close)) (suc (i + length args) + length behind) (target_in x.then) (omega (arith, all, sum)) b),
          )

      -- the code of a value that is stored
      pub stored_leads : (i k : ℕ) (e : Exp) (x : Into) → Beyond P (i + as_stored e (size e)) (target_in x.then) → LeadOn P i (stored_code p at i k e x)
      stored_leads i k (Expr s u n) x b =
          on_stored p (is_binary n) (operand_in n) i k (size_of_node u n) x (node_code p at i (k + 1) Used s u n (only Push)) (node_code p at i (k + 1) Used s u n x)
          (node_size p at i (k + 1) Used s u n (only Push)) (node_leads i (k + 1) Used s u n (only Push) tt) (λ h. node_leads i (k + 1) Used s u n x h) b

      place_leads : (i k : ℕ) (spot : Spot) (n : Node) (reads : Bool) → LeadOn P i (place_code p at i k spot n reads).ops
      place_leads i k spot (Index o is) reads = element_leads i k spot o is (λ y. Aim o (size_of_object p o) y spot reads) (λ y v. tt)
      place_leads i k spot _ reads = tt

      -- the indexes of an element, and the operation that takes its cell
      element_leads : (i k : ℕ) (spot : Spot) (o : ℕ) (is : Exps) (f : Operand → Action) → ((y : Operand) (v : ℤ) → Beyond P (i + size_of_element is) (target_of (f y) v)) → LeadOn P i (taken (element_code p at i k spot o is) f)
      element_leads i k spot o NoExp f b = let e : suc i ≤ i + 1 = omega arith in (λ v. beyond_less (i + 1) (suc i) (target_of (f (Number (negsuc 0))) v) e (b (Number (negsuc 0)) v), tt)
      element_leads i k spot o (MoreExp a NoExp) f b = on_operand (operand_of a) i k (size a) (code p at i k Used a Push) f (code_size p at i k Used a Push) (code_leads i k Used a Push tt) b
      element_leads i k spot o (MoreExp a (MoreExp c NoExp)) f b =
          let q = paired_at i (prepared (operand_of a) k (code p at i k Used a Push)) (operand_of c) (λ j l. code p at j l Used c Push) in
          let row = λ (y z : Operand). Row (rows_of_object p o) (columns_of_object p o) y z spot in
          on_last i (size_of_element (MoreExp a (MoreExp c NoExp))) (taken_both q row) (op 0 (f Top)) (element_size p at i k spot o (MoreExp a (MoreExp c NoExp)) f)
          (on_append i q.ops (op q.steps (row q.left q.right) ∷ [])
          (on_paired_at i (prepared (operand_of a) k (code p at i k Used a Push)) (operand_of c) (λ j l. code p at j l Used c Push)
          (on_prepared (operand_of a) i k (code p at i k Used a Push) (code_leads i k Used a Push tt)) (λ j l. code_leads j l Used c Push tt)) (λ v. tt, tt)) (b Top)
      element_leads i k spot o (MoreExp a (MoreExp c (MoreExp d es))) f b =
          let is = MoreExp a (MoreExp c (MoreExp d es)) in
          on_last i (size_of_element is) (args_code p at i k Drop is) (op 0 (f (Number (negsuc 0)))) (element_size p at i k spot o is f)
          (on_followed i (size a) (code p at i k Used a Drop) (λ j. args_code p at j 0 Drop (MoreExp c (MoreExp d es))) (code_size p at i k Used a Drop) (code_leads i k Used a Drop tt)
          (λ j l. on_followed j (size c) (code p at j 0 Used c Drop) (λ m. args_code p at m 0 Drop (MoreExp d es)) (code_size p at j 0 Used c Drop) (code_leads j 0 Used c Drop tt)
          (λ m h. on_followed m (size d) (code p at m 0 Used d Drop) (λ n. args_code p at n 0 Drop es) (code_size p at m 0 Used d Drop) (code_leads m 0 Used d Drop tt)
          (λ n q. args_leads n 0 Drop es (λ r. tt))))) (b (Number (negsuc 0)))

      args_leads : (i k : ℕ) (then : Then) (es : Exps) → ((n : ℕ) → Beyond P n (target_in then)) → LeadOn P i (args_code p at i k then es)
      args_leads i k then NoExp h = tt
      args_leads i k then (MoreExp e es) h =
          on_followed i (size e) (code p at i k Used e then) (λ j. args_code p at j 0 then es) (code_size p at i k Used e then) (code_leads i k Used e then (h (i + size e))) (λ j l. args_leads j 0 then es h)
