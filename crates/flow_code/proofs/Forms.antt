-- The code of an expression by its form.
use Rattle.std.proofs.Common.{◌≡◌, ℕ, suc, ◌+◌, Bool, false, not, List, [], ◌∷◌, ◌++◌, length, Option, None, Result, OnOk, refl, sym, ap, ap₂, ◌∙◌, subst}
use Rattle.std.specs.declared.alloc.Global.{Global}
use Rattle.std.specs.declared.boxed.Box.{Box}
use Rattle.c_core.specs.Tree.{Exp, Expr, Node, Var, Index, Binary, Logic, Choose, Call, Exps, NoExp, MoreExp, Program}
use Rattle.c_core.specs.View.{expr_view, exprs_view, node_view}
use Rattle.c_core.specs.declared.number.BinOp.{BinOp}
use Rattle.c_core.specs.declared.number.DataModel.{DataModel}
use Rattle.c_core.specs.declared.number.IntType.{IntType}
use Rattle.c_core.specs.declared.number.Spot.{Spot}
use Rattle.c_core.specs.declared.tree.Callee.{Callee}
use Rattle.c_core.specs.declared.tree.Expr.{Expr as Tree}
use Rattle.c_core.specs.declared.tree.Node.{Node as Form, items-the_row-Expr, items_shown-the_row-Expr-0, roll-Node, roll-out-Node}
use Rattle.c_core.specs.declared.tree.Node.TheVariants.{Index as IndexForm, Index', outs-Index', rolls-Index, Var as VarForm, Binary as BinaryForm, Binary'}
use Rattle.c_meaning.specs.Meaning.{Use, Used}
use Rattle.c_meaning.specs.Objects.{size_of_object}
use Rattle.run_state.specs.Interpreting.{use_of}
use Rattle.run_state.specs.declared.machine.Around.{Around}
use Rattle.run_state.specs.declared.machine.CallSite.{CallSite}
use Rattle.flow_code.specs.declared.code.Operand.{Operand}
use Rattle.flow_code.specs.declared.code.Operand.TheVariants.{Top, Cell}
use Rattle.flow_code.specs.declared.code.Place.{Place}
use Rattle.flow_code.specs.declared.code.Then.{Then}
use Rattle.flow_code.specs.declared.code.Then.TheVariants.{Push, Skip, Branch}
use Rattle.flow_code.specs.declared.code.Into.{Into}
use Rattle.flow_code.specs.declared.code.Action.TheVariants.{Give, Truth, Aim, Jump, Enter}
use Rattle.flow_code.specs.declared.code.Op.{Op}
use Rattle.flow_code.specs.declared.operands.Prepared.{Prepared}
use Rattle.flow_code.specs.Making.{IsReady}
use Rattle.flow_code.specs.Preparing.{followed, op, only, give, stored_in, taken, with_operand}
use Rattle.flow_code.specs.Sizes.{operand_in, operand_of, with_one, is_binary, size}
use Rattle.flow_code.specs.Words.{native}
use Rattle.flow_code.specs.Expressions.{code, node_code, aim_code, place_code, element_code, stored_by, stored_code, stored_at, args_code, argument_to, callee_code, count_of, left_by, constant, conditional_arm, site_at}
use Rattle.flow_code.proofs.Gluing.{nothing_more, glued, behind_it, two_behind}

-- another form than a binary operation
pub not_binary : (n : Form) → ((o : BinOp) (a b : Box Tree Global) → n ≡ BinaryForm o a b → ⊥) → is_binary (node_view n) ≡ false
not_binary (Binary' o b s ty n b' s' ty' n') h = absurd (h o _ _ refl)
not_binary n h = refl

-- as many arguments as there are
pub counted_all : (es : List Tree) → count_of (exprs_view es) ≡ length es
counted_all [] = refl
counted_all (e ∷ es) = ap suc (counted_all es)

-- arguments leave no step where there is none
pub no_steps_left : (es : Exps) → left_by es 0 ≡ 0
no_steps_left NoExp = refl
no_steps_left (MoreExp e es) = refl

-- a value that is stored in a target
pub into_is : (x : Into) (m : DataModel) (place at : Place) (ty u : IntType) (old : Bool) (then : Then) → x ≡ stored_in place (native m ty) old then → place ≡ at → ty ≡ u → x ≡ stored_in at (native m u) old then
into_is x m place at ty u old then h p t = h ∙ ap₂ (λ q v. stored_in q (native m v) old then) p t

module _ (p : Program) (at : Around) where
  -- an expression of a form
  pub as_form : {E : Type 0} (x : Tree) (i k l : ℕ) (used : Bool) (then : Then) (m : Node) (old new : List Op) (r : Result (Unit {0}) E) → l ≡ k + 1 → node_view x.node ≡ m
      → OnOk r (new ≡ old ++ node_code p at i l (use_of used) x.spot x.ty m (only then)) → OnOk r (new ≡ old ++ code p at i k (use_of used) (expr_view x) then)
  as_form x i k l used then m old new r e n g =
      subst (λ z. OnOk r (new ≡ old ++ node_code p at i (k + 1) (use_of used) x.spot x.ty z (only then))) (sym n)
      (subst (λ h. OnOk r (new ≡ old ++ node_code p at i h (use_of used) x.spot x.ty m (only then))) e g)

  -- a binary operation stores by itself
  pub stored_binary : {E : Type 0} (x : Tree) (i k l : ℕ) (o : BinOp) (a b : Exp) (into : Into) (old new : List Op) (r : Result (Unit {0}) E) → l ≡ k + 1 → node_view x.node ≡ Binary o a b
      → OnOk r (new ≡ old ++ node_code p at i l Used x.spot None (Binary o a b) into) → OnOk r (new ≡ old ++ stored_code p at i k (expr_view x) into)
  stored_binary x i k l o a b into old new r e n g =
      subst (λ z. OnOk r (new ≡ old ++ stored_code p at i k (Expr x.spot x.ty z) into)) (sym n)
      (subst (λ h. OnOk r (new ≡ old ++ node_code p at i h Used x.spot None (Binary o a b) into)) e g)

  -- another value is stored by an operation of its own
  pub stored_other : (x : Tree) (i k : ℕ) (into : Into) (old new : List Op) → is_binary (node_view x.node) ≡ false
      → new ≡ old ++ with_operand (operand_of (expr_view x)) k (code p at i k Used (expr_view x) Push) (λ z. Give z into) → new ≡ old ++ stored_code p at i k (expr_view x) into
  stored_other x i k into old new e g =
      subst (λ b. new ≡ old ++ stored_by p b (operand_in (node_view x.node)) k into (node_code p at i (k + 1) Used x.spot x.ty (node_view x.node) (only Push))
      (node_code p at i (k + 1) Used x.spot x.ty (node_view x.node) into)) (sym e) g

  -- an element as a target
  pub aimed_element : (x : Tree) (k l o : ℕ) (is : Exps) (reads : Bool) (old new : List Op) → l ≡ k + 1 → node_view x.node ≡ Index o is
      → new ≡ old ++ taken (element_code p at (length old) l x.spot o is) (λ y. Aim o (size_of_object p o) y x.spot reads)
      → IsReady (record { operand = Top; steps = 0 }) old new (aim_code p at (length old) k (expr_view x) reads)
  aimed_element x k l o is reads old new s n g =
      subst (λ z. IsReady (record { operand = Top; steps = 0 }) old new (place_code p at (length old) (k + 1) x.spot z reads)) (sym n)
      (record {
        ops = subst (λ h. new ≡ old ++ taken (element_code p at (length old) h x.spot o is) (λ y. Aim o (size_of_object p o) y x.spot reads)) s g;
        operand = refl;
        steps = refl;
      })

  -- a scalar as a target
  pub aimed_scalar : (x : Tree) (k l o : ℕ) (reads : Bool) (old : List Op) → l ≡ k + 1 → node_view x.node ≡ Var o
      → IsReady (record { operand = Cell o; steps = l }) old old (aim_code p at (length old) k (expr_view x) reads)
  aimed_scalar x k l o reads old s n =
      subst (λ z. IsReady (record { operand = Cell o; steps = l }) old old (place_code p at (length old) (k + 1) x.spot z reads)) (sym n)
      (record { ops = nothing_more old; operand = refl; steps = s })

  -- an element, with its indexes as a list
  index_is : (o : ℕ) (shape : _) (row : _) → Index' o shape row ≡ IndexForm o (items-the_row-Expr _ row)
  index_is o shape row =
      sym (ap (IndexForm o) (sym (items_shown-the_row-Expr-0 shape row)) ∙ sym (rolls-Index o _) ∙ ap roll-Node (sym (outs-Index' o shape row)) ∙ roll-out-Node (Index' o shape row))

  no_place : (n : Form) (i k : ℕ) (spot : Spot) (reads : Bool) → ((o : ℕ) (is : List Tree) → n ≡ IndexForm o is → ⊥) → ((o : ℕ) → n ≡ VarForm o → ⊥)
      → place_code p at i k spot (node_view n) reads ≡ record { ops = []; operand = Cell 0; steps = k }
  no_place (Index' o shape row) i k spot reads h g = absurd (h o _ (index_is o shape row))
  no_place (VarForm o) i k spot reads h g = absurd (g o refl)
  no_place n i k spot reads h g = refl

  -- no target of a checked program
  pub aimed_other : (x : Tree) (k l : ℕ) (reads : Bool) (old : List Op) → l ≡ k + 1 → ((o : ℕ) (is : List Tree) → x.node ≡ IndexForm o is → ⊥) → ((o : ℕ) → x.node ≡ VarForm o → ⊥)
      → IsReady (record { operand = Cell 0; steps = l }) old old (aim_code p at (length old) k (expr_view x) reads)
  aimed_other x k l reads old s h g =
      subst (λ j. IsReady (record { operand = Cell 0; steps = l }) old old j) (sym (no_place x.node (length old) (k + 1) x.spot reads h g))
      (record { ops = nothing_more old; operand = refl; steps = s })

  -- a value is stored in a target
  pub replaced : (k : ℕ) (t e : Exp) (q : Prepared) (x : Into) (then : Then) (old mid new : List Op) → IsReady q old mid (aim_code p at (length old) k t false)
      → x ≡ stored_at p.model t false then → new ≡ mid ++ stored_code p at (length mid) q.steps e x
      → new ≡ old ++ followed (length old) (aim_code p at (length old) k t false).ops (λ l. stored_code p at l (aim_code p at (length old) k t false).steps e (stored_at p.model t false then))
  replaced k t e q x then old mid new h i g =
      let j = aim_code p at (length old) k t false in
      glued old j.ops mid new (λ l. stored_code p at l j.steps e (stored_at p.model t false then)) h.ops (g ∙ ap₂ (λ s z. mid ++ stored_code p at (length mid) s e z) h.steps i)

  -- the first decides, or the second is tested
  pub logic_is : (both : Bool) (a b : Exp) (k decided end : ℕ) (c : Operand) (then : Then) (old one two three new : List Op)
      → decided ≡ length old + (size a + (with_one (operand_of b) (size b) + 1)) → end ≡ decided + 1 → c ≡ constant both
      → one ≡ old ++ code p at (length old) k Used a (Skip (not both) decided)
      → two ≡ one ++ with_operand (operand_of b) 0 (code p at (length one) 0 Used b Push) (λ y. Truth y (only then))
      → three ≡ two ++ op 0 (Jump end) ∷ [] → new ≡ three ++ give 0 c then ∷ []
      → new ≡ old ++ node_code p at (length old) k Used at.full None (Logic both a b) (only then)
  logic_is both a b k decided end c then old one two three new d e f h g i j =
      let whole = length old + (size a + (with_one (operand_of b) (size b) + 1)) in
      let second = λ (n : ℕ). with_operand (operand_of b) 0 (code p at n 0 Used b Push) (λ y. Truth y (only then)) in
      let first = h ∙ ap (λ n. old ++ code p at (length old) k Used a (Skip (not both) n)) d in
      let both_are = glued old (code p at (length old) k Used a (Skip (not both) whole)) one two second first g in
      two_behind old (followed (length old) (code p at (length old) k Used a (Skip (not both) whole)) second) two three new (op 0 (Jump (whole + 1))) (give 0 (constant both) then) both_are
      (i ∙ ap (λ n. two ++ op 0 (Jump n) ∷ []) (e ∙ ap (λ n. n + 1) d)) (j ∙ ap (λ z. three ++ give 0 z then ∷ []) f)

  -- a conditional by its test and its arms
  pub choice_is : (mark : Spot) (ty : Option IntType) (e a b : Exp) (k second end : ℕ) (then : Then) (old one two three new : List Op)
      → second ≡ length old + (size e + size a + 2) → end ≡ second + (size b + 1)
      → one ≡ old ++ code p at (length old) k Used e (Branch mark false second)
      → two ≡ one ++ conditional_arm p at (length one) ty a (only then)
      → three ≡ two ++ op 0 (Jump end) ∷ []
      → new ≡ three ++ conditional_arm p at (length three) ty b (only then)
      → new ≡ old ++ node_code p at (length old) k Used at.full ty (Choose mark e a b) (only then)
  choice_is mark ty e a b k second end then old one two three new d f h g i j =
      let to = length old + (size e + size a + 2) in
      let test = code p at (length old) k Used e (Branch mark false to) in
      let yes = λ (n : ℕ). conditional_arm p at n ty a (only then) in
      let past = λ (n : ℕ). op 0 (Jump (to + (size b + 1))) ∷ [] in
      let first = glued old test one two yes (h ∙ ap (λ n. old ++ code p at (length old) k Used e (Branch mark false n)) d) g in
      let jumped = glued old (followed (length old) test yes) two three past first (i ∙ ap (λ n. two ++ op 0 (Jump n) ∷ []) (f ∙ ap (λ n. n + (size b + 1)) d)) in
      glued old (followed (length old) (followed (length old) test yes) past) three new (λ n. conditional_arm p at n ty b (only then)) jumped j

  -- a call by its arguments, its event and what it calls
  pub call_is : (spot close : Spot) (want : Use) (ty : Option IntType) (callee : Callee) (es : Exps) (k n count : ℕ) (site : CallSite) (goes then : Then) (old one two new : List Op)
      → site ≡ site_at spot close want ty → count ≡ count_of es → goes ≡ argument_to callee → one ≡ old ++ args_code p at (length old) k goes es → n ≡ left_by es k
      → two ≡ one ++ op n (Enter close) ∷ [] → new ≡ two ++ callee_code p at site count then callee
      → new ≡ old ++ node_code p at (length old) k want spot ty (Call callee es close) (only then)
  call_is spot close want ty callee es k n count site goes then old one two new s c q h l g i =
      behind_it old (args_code p at (length old) k (argument_to callee) es) one new (op (left_by es k) (Enter close) ∷ callee_code p at (site_at spot close want ty) (count_of es) then callee)
      (h ∙ ap (λ x. old ++ args_code p at (length old) k x es) q)
      (behind_it one (op (left_by es k) (Enter close) ∷ []) two new (callee_code p at (site_at spot close want ty) (count_of es) then callee) (g ∙ ap (λ m. one ++ op m (Enter close) ∷ []) l)
      (i ∙ ap₂ (λ z m. two ++ callee_code p at z m then callee) s c))
