-- Nodes whose code ends with one operation that gives their value.
use Rattle.std.proofs.Common.{◌≡◌, ℕ, suc, ◌+◌, ◌≤◌, ℤ, List, ◌∷◌, length, Option, Some, None, refl, sym, ◌∙◌, subst, arith, append_assoc}
use Rattle.c_core.specs.Types.{fit, promote_of}
use Rattle.c_core.specs.Operators.{apply_one_of}
use Rattle.c_core.specs.Tree.{Exp, Expr, Node, Const, Var, Unary, Cast, Binary, Program}
use Rattle.c_core.specs.declared.number.BinOp.{BinOp}
use Rattle.c_core.specs.declared.number.UnOp.{UnOp}
use Rattle.c_core.specs.declared.number.IntType.{IntType}
use Rattle.c_core.specs.declared.number.Spot.{Spot}
use Rattle.c_meaning.specs.declared.run.End.{End}
use Rattle.c_meaning.specs.declared.run.Event.{Event}
use Rattle.c_meaning.specs.Cells.{Cell, read}
use Rattle.c_meaning.specs.Acts.{Res, Go, bind}
use Rattle.c_meaning.specs.Meaning.{Use, Used, Unused}
use Rattle.c_meaning.specs.Objects.{type_of}
use Rattle.c_meaning.specs.Eval.{operate}
use Rattle.c_meaning.specs.Run.{State, index_below}
use Rattle.c_meaning.specs.Run as run
use Rattle.c_meaning.specs.Watching.{seen_by}
use Rattle.run_state.specs.Interpreting.{where_of}
use Rattle.run_state.specs.declared.machine.Around.{Around}
use Rattle.flow_code.specs.declared.code.Operand.{Operand}
use Rattle.flow_code.specs.declared.code.Operand.TheVariants.{Top, Cell as InCell, Number}
use Rattle.flow_code.specs.declared.code.Then.{Then}
use Rattle.flow_code.specs.declared.code.Then.TheVariants.{Push}
use Rattle.flow_code.specs.declared.code.Into.{Into}
use Rattle.flow_code.specs.declared.code.Action.{Action}
use Rattle.flow_code.specs.declared.code.Action.TheVariants.{Give, Convert, OperateOne}
use Rattle.flow_code.specs.declared.code.Code.{Code}
use Rattle.flow_code.specs.Preparing.{op, only, kept, rest, prepared, paired, paired_at, taken_both}
use Rattle.flow_code.specs.Sizes.{operand_in, operand_of, with_one, with_two, behind_operand, size, size_of_node}
use Rattle.flow_code.specs.Expressions.{code, node_code, source, operator}
use Rattle.flow_code.specs.Words.{word_of, native}
use Rattle.flow_code.proofs.Lengths.{code_size}
use Rattle.flow_laws.specs.Machines.{Control}
use Rattle.flow_laws.specs.Acting.{cell, value_of, stack_of, finished}
use Rattle.flow_laws.specs.inside.Simulating.{HasCode, control_at, meaning, paying}
use Rattle.flow_laws.proofs.Operations.{code_parts, bind_behind, bind_alike, standing, Comes, op_comes, paying_alike, paying_more}
use Rattle.flow_laws.proofs.Operands.{Eval, NodeOf, ticked, goes_to, Values, own, TakesBoth, own_steps, operand_comes, pushed_then}
use Rattle.flow_laws.proofs.Pairs.{pair_code, pair_comes}
use Rattle.flow_laws.proofs.Answering.{IsNew, convert_takes, operate_one_takes, operator_takes}

module _ (p : Program) (c : Code) (S : Type 0) (after : Event → List Cell → S → S) (n : ℕ) where
  -- the code of a node, whose value goes somewhere, does what the node does
  abbrev pub Noded : Option IntType → Node → Into → Type 0
  Noded ty x into = (at : Around) (i k : ℕ) (want : Use) (spot : Spot) (κ : Control) (s : State S) → HasCode c i (node_code p at i k want spot ty x into) → s.steps ≤ n
      → Comes p c S after (standing κ i s) (paying p c S after k (λ u. bind (NodeOf p c S after n at want spot ty x u) (goes_to p c S after n κ (i + size_of_node ty x) into)) s)

  -- an expression's own step is one more in front of its node
  pub noded_steps : (spot : Spot) (ty : Option IntType) (x : Node) (into : Into) → Noded ty x into → (at : Around) (i k : ℕ) (want : Use) (κ : Control) (s : State S)
      → HasCode c i (node_code p at i (k + 1) want spot ty x into) → s.steps ≤ n
      → Comes p c S after (standing κ i s) (paying p c S after k (λ u. bind (Eval p c S after n at want (Expr spot ty x) u) (goes_to p c S after n κ (i + size_of_node ty x) into)) s)
  noded_steps spot ty x into h at i k want κ s here below =
      let F = goes_to p c S after n κ (i + size_of_node ty x) into in
      subst (Comes p c S after (standing κ i s))
      (paying_more p c S after k (λ u. bind (NodeOf p c S after n at want spot ty x u) F) s
      ∙ paying_alike p c S after k (λ u. bind (ticked p c S after n u) (λ _ w. bind (NodeOf p c S after n at want spot ty x w) F)) (λ u. bind (Eval p c S after n at want (Expr spot ty x) u) F) s
      (λ u. sym (bind_behind (ticked p c S after n u) (λ _ w. NodeOf p c S after n at want spot ty x w) F)))
      (h at i (k + 1) want spot κ s here below)

  pub values_of_node : (spot : Spot) (ty : Option IntType) (x : Node) → ((then : Then) → Noded ty x (only then)) → Values p c S after n (Expr spot ty x)
  values_of_node spot ty x h at i k want then κ s here below = noded_steps spot ty x (only then) (h then) at i k want κ s here below

  pub const_goes : (ty : Option IntType) (v : ℤ) (into : Into) → Noded ty (Const v) into
  const_goes ty v into at i k want spot κ s h below =
      let j : suc i ≡ i + 1 = omega arith in
      subst (λ l. Comes p c S after (standing κ i s) (paying p c S after k (λ u. finished c S after v v into (control_at κ l) u) s)) j
      (op_comes p c S after i (op k (Give (Number v) into)) κ s h.0)

  pub var_goes : (ty : Option IntType) (o : ℕ) (into : Into) → Noded ty (Var o) into
  var_goes ty o into at i k want spot κ s h below =
      let j : suc i ≡ i + 1 = omega arith in
      subst (λ l. Comes p c S after (standing κ i s) (paying p c S after k (λ u. finished c S after (read (cell o 0) u.cells) (read (cell o 0) u.cells) into (control_at κ l) u) s)) j
      (op_comes p c S after i (op k (Give (InCell o) into)) κ s h.0)

  pub cast_goes : (ty : Option IntType) (a : Exp) → Values p c S after n a → (then : Then) → Noded ty (Cast a) (only then)
  cast_goes None a ih then at i k want spot κ s h below = ih at i k Unused then κ s h below
  cast_goes (Some to) a ih then at i k want spot κ s h below =
      let F = goes_to p c S after n κ (i + with_one (operand_of a) (size a)) (only then) in
      subst (Comes p c S after (standing κ i s))
      (paying_alike p c S after k (λ u. bind (Eval p c S after n at Used a u) (λ v t. F (fit p.model to v) t)) (λ u. bind (NodeOf p c S after n at want spot (Some to) (Cast a) u) F) s
      (λ u. sym (bind_behind (Eval p c S after n at Used a u) (λ v t. Go (fit p.model to v) t) F)))
      (operand_comes p c S after n a ih (λ y. Convert (native p.model to) y (only then)) (λ v κ t. finished c S after (fit p.model to v) (fit p.model to v) (only then) κ t)
      (convert_takes p c S after n to (only then)) at i k κ s h below)

  -- two operands, and the operation that takes them
  both_by : (z : Option Operand) (spot : Spot) (ty : Option IntType) (x : Node) → operand_in x ≡ z → Values p c S after n (Expr spot ty x) → (b : Exp) → Values p c S after n b
      → (f : Operand → Operand → Action) (g : ℤ → ℤ → Control → State S → Res End (State S) Control) → TakesBoth p c S after n f g
      → (at : Around) (i k : ℕ) (κ : Control) (s : State S)
      → HasCode c i (taken_both (paired_at i (prepared z k (code p at i k Used (Expr spot ty x) Push)) (operand_of b) (λ j l. code p at j l Used b Push)) f) → s.steps ≤ n
      → Comes p c S after (standing κ i s) (paying p c S after k (λ u. bind (Eval p c S after n at Used (Expr spot ty x) u) (λ v t. bind (Eval p c S after n at Used b t)
      (λ w q. g v w (control_at κ (i + with_two z (operand_of b) (size (Expr spot ty x)) (size b))) q))) s)
  both_by (Some y) spot ty x e iha b ihb f g takes at i k κ s h below =
      let o = own p c S after n x y e in
      let z : i + 0 ≡ i = omega arith in
      let code_here = subst (λ l. HasCode c i (pair_code p c S after n y (k + 1) (operand_of b) (code p at (l + length (kept y (k + 1))) (rest y (k + 1)) Used b Push) f)) z h in
      let both = pair_comes p c S after n y b ihb f g takes at i (k + 1) κ s code_here below in
      let placed = subst (λ l. Comes p c S after (standing κ i s) (paying p c S after (k + 1) (λ u. bind (Eval p c S after n at Used b u)
      (λ w t. g (value_of y κ.stack u.cells) w (record (control_at κ (i + l)) { stack = stack_of y κ.stack }) t)) s)) (o.counts (operand_of b) (size b)) both in
      let stacked = subst (λ vs. Comes p c S after (standing κ i s) (paying p c S after (k + 1) (λ u. bind (Eval p c S after n at Used b u)
      (λ w t. g (value_of y κ.stack u.cells) w (record (control_at κ (i + behind_operand (operand_of b) (size b))) { stack = vs }) t)) s)) (o.stays κ.stack) placed in
      subst (Comes p c S after (standing κ i s))
      (own_steps p c S after n x y o at Used spot ty k κ.stack s (λ v u. bind (Eval p c S after n at Used b u) (λ w t. g v w (control_at κ (i + behind_operand (operand_of b) (size b))) t))) stacked
  both_by None spot ty x e iha b ihb f g takes at i k κ s h below =
      let a = Expr spot ty x in
      let first = code p at i k Used a Push in
      let next = λ (l : ℕ). pair_code p c S after n Top 0 (operand_of b) (code p at (l + 0) 0 Used b Push) f in
      let last = λ (l : ℕ). (paired Top 0 (operand_of b) (code p at (l + 0) 0 Used b Push)).ops in
      let parts = code_parts c i (size a) first (next (i + length first)) (code_size p at i k Used a Push)
      (subst (HasCode c i) (append_assoc first (last (i + length first)) _) h) in
      let behind_first = subst (λ l. HasCode c (i + size a) (next (i + l))) (code_size p at i k Used a Push) parts.1 in
      let j : i + size a + with_one (operand_of b) (size b) ≡ i + (size a + with_one (operand_of b) (size b)) = omega arith in
      pushed_then p c S after n a iha at i k Used κ s parts.0 below
      (λ v t. bind (Eval p c S after n at Used b t) (λ w q. g v w (control_at κ (i + (size a + with_one (operand_of b) (size b)))) q))
      (λ v t d. subst (λ l. Comes p c S after (standing (record κ { stack = v ∷ κ.stack }) (i + size a) t) (bind (Eval p c S after n at Used b t) (λ w q. g v w (control_at κ l) q))) j
      (pair_comes p c S after n Top b ihb f g takes at (i + size a) 0 (record κ { stack = v ∷ κ.stack }) t behind_first d))

  pub both_comes : (a b : Exp) → Values p c S after n a → Values p c S after n b
      → (f : Operand → Operand → Action) (g : ℤ → ℤ → Control → State S → Res End (State S) Control) → TakesBoth p c S after n f g
      → (at : Around) (i k : ℕ) (κ : Control) (s : State S)
      → HasCode c i (taken_both (paired_at i (prepared (operand_of a) k (code p at i k Used a Push)) (operand_of b) (λ j l. code p at j l Used b Push)) f) → s.steps ≤ n
      → Comes p c S after (standing κ i s) (paying p c S after k (λ u. bind (Eval p c S after n at Used a u) (λ v t. bind (Eval p c S after n at Used b t)
      (λ w q. g v w (control_at κ (i + with_two (operand_of a) (operand_of b) (size a) (size b))) q))) s)
  both_comes (Expr spot ty x) b iha ihb f g takes at i k κ s h below = both_by (operand_in x) spot ty x refl iha b ihb f g takes at i k κ s h below

  module _ (property : c.property ≡ p.property) where
    pub unary_goes : (ty : Option IntType) (o : UnOp) (a : Exp) → Values p c S after n a → (into : Into) → IsNew p c S after n into → Noded ty (Unary o a) into
    unary_goes ty o a ih into new at i k want spot κ s h below =
        let F = goes_to p c S after n κ (i + with_one (operand_of a) (size a)) into in
        let answer = λ (v : ℤ) (t : State S). run.answered p S (seen_by after) (where_of at) spot (apply_one_of p.model o (promote_of (type_of a)) (fit p.model (promote_of (type_of a)) v)) t in
        subst (Comes p c S after (standing κ i s))
        (paying_alike p c S after k
        (λ u. bind (Eval p c S after n at Used a u) (λ v t. bind (answer v t) (λ z w. finished c S after v z into (control_at κ (i + with_one (operand_of a) (size a))) w)))
        (λ u. bind (NodeOf p c S after n at want spot ty (Unary o a) u) F) s
        (λ u. bind_alike (Eval p c S after n at Used a u) (λ v t. bind (answer v t) (λ z w. finished c S after v z into (control_at κ (i + with_one (operand_of a) (size a))) w)) (λ v t. bind (answer v t) F)
        (λ v t. bind_alike (answer v t) (λ z w. finished c S after v z into (control_at κ (i + with_one (operand_of a) (size a))) w) F (λ z w. new v z (control_at κ (i + with_one (operand_of a) (size a))) w))
        ∙ sym (bind_behind (Eval p c S after n at Used a u) answer F)))
        (operand_comes p c S after n a ih (λ y. OperateOne o (word_of p.model (promote_of (type_of a))) y (source at spot) into)
        (λ v κ t. bind (answer v t) (λ z w. finished c S after v z into κ w))
        (operate_one_takes p c S after n property at spot o (type_of a) into) at i k κ s h below)

    pub binary_goes : (ty : Option IntType) (o : BinOp) (a b : Exp) → Values p c S after n a → Values p c S after n b → (into : Into) → IsNew p c S after n into → Noded ty (Binary o a b) into
    binary_goes ty o a b iha ihb into new at i k want spot κ s h below =
        let j = control_at κ (i + with_two (operand_of a) (operand_of b) (size a) (size b)) in
        let F = goes_to p c S after n κ (i + with_two (operand_of a) (operand_of b) (size a) (size b)) into in
        let answer = λ (v w : ℤ) (t : State S). operate p (meaning p c S after) (where_of at) spot o (type_of a) v (type_of b) w t in
        subst (Comes p c S after (standing κ i s))
        (paying_alike p c S after k
        (λ u. bind (Eval p c S after n at Used a u) (λ v t. bind (Eval p c S after n at Used b t) (λ w q. bind (answer v w q) (λ z r. finished c S after v z into j r))))
        (λ u. bind (NodeOf p c S after n at want spot ty (Binary o a b) u) F) s
        (λ u. bind_alike (Eval p c S after n at Used a u)
        (λ v t. bind (Eval p c S after n at Used b t) (λ w q. bind (answer v w q) (λ z r. finished c S after v z into j r)))
        (λ v t. bind (bind (Eval p c S after n at Used b t) (λ w q. answer v w q)) F)
        (λ v t. bind_alike (Eval p c S after n at Used b t) (λ w q. bind (answer v w q) (λ z r. finished c S after v z into j r)) (λ w q. bind (answer v w q) F)
        (λ w q. bind_alike (answer v w q) (λ z r. finished c S after v z into j r) F (λ z r. new v z j r))
        ∙ sym (bind_behind (Eval p c S after n at Used b t) (λ w q. answer v w q) F))
        ∙ sym (bind_behind (Eval p c S after n at Used a u) (λ v t. bind (Eval p c S after n at Used b t) (λ w q. answer v w q)) F)))
        (both_comes a b iha ihb (operator p (source at spot) o (type_of a) (type_of b) into) (λ v w κ t. bind (answer v w t) (λ z u. finished c S after v z into κ u))
        (operator_takes p c S after n property at spot o (type_of a) (type_of b) into) at i k κ s h below)
