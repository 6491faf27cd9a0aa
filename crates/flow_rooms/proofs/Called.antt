-- The code of a function calls the functions that its tree calls, and no others.
use Rattle.std.proofs.Common.{◌≡◌, ◌<◌, IsTrue, ℕ, zero, suc, ◌+◌, pos, negsuc, Bool, true, false, not, ◌||◌, List, [], ◌∷◌, ◌++◌, length, Option, Some, None, slice_get, refl, ap, ◌∙◌, subst, eq-eqb}
use Rattle.std.specs.List.{flat_map}
use Rattle.std.proofs.lemmas.Bool.{or_left, or_right}
use Rattle.std.proofs.lemmas.Option.{slice_get_within}
use Rattle.c_core.specs.Operators.{op_of_step, is_prefix}
use Rattle.c_core.specs.Types.{promote_of}
use Rattle.c_core.specs.Tree.{Exp, Expr, Node, Const, Var, Index, Unary, Cast, Step, Binary, Logic, Choose, Comma, Assign, Call, Exps, NoExp, MoreExp, Init, Absent, One, Many, Rows, Names, NoName, MoreName, First, NoFirst, FirstExp, FirstNames, Stm, Stmt, Form, Empty, Do, Declare, Block, If, While, DoWhile, For, Break, Continue, Return, Label, Switch, Else, NoElse, OrElse, Stms, NoStm, MoreStm, MoreCase, Function, Program}
use Rattle.c_core.specs.declared.number.DataModel.{DataModel}
use Rattle.c_core.specs.declared.number.IntType.{IntType}
use Rattle.c_core.specs.declared.number.IntType.TheVariants.{Int}
use Rattle.c_core.specs.declared.number.Spot.{Spot}
use Rattle.c_core.specs.declared.tree.Callee.{Callee}
use Rattle.c_core.specs.declared.tree.Callee.TheVariants.{Defined, Input as InputOf, ReachError, Abort, Exit}
use Rattle.c_meaning.specs.Meaning.{Use, Used, Unused}
use Rattle.c_meaning.specs.Objects.{type_of, type_of_object, size_of_object, columns_of_object}
use Rattle.c_meaning.specs.Parts.{some_of, some_node, some_part, some_argument, calls, calls_callee, fulls_of, fulls_of_form, fulls_of_else, fulls_of_block}
use Rattle.c_core.specs.Parts.{exps_in, exp_if, fulls_of_init, fulls_of_names, fulls_of_first}
use Rattle.run_state.specs.declared.machine.Around.{Around}
use Rattle.run_state.specs.declared.machine.CallSite.{CallSite}
use Rattle.flow_code.specs.declared.code.Action.{Action}
use Rattle.flow_code.specs.declared.code.Action.TheVariants.{Rest, Arrive, Give, Truth, Convert, Look, Aim, Row, OperateOne, Jump, Declare as DeclareOf, Enter, Call as CallOf, Leave, Return as ReturnOf}
use Rattle.flow_code.specs.declared.code.Into.{Into}
use Rattle.flow_code.specs.declared.code.Op.{Op}
use Rattle.flow_code.specs.declared.code.Operand.{Operand}
use Rattle.flow_code.specs.declared.code.Operand.TheVariants.{Top, Cell, Number}
use Rattle.flow_code.specs.declared.code.Place.TheVariants.{Fixed}
use Rattle.flow_code.specs.declared.code.Then.{Then}
use Rattle.flow_code.specs.declared.code.Then.TheVariants.{Push, Drop, Skip, Branch}
use Rattle.flow_code.specs.declared.sizes.Depth.{Depth}
use Rattle.flow_code.specs.declared.statements.Inside.{Inside}
use Rattle.flow_code.specs.Expressions.{left_by, count_of, argument_to, source, constant, as_type, call_of, stored_at, site_at, operator, callee_code, stored_by, code, node_code, stored_code, aim_code, place_code, element_code, rows_of_object, args_code, conditional_arm}
use Rattle.flow_code.specs.Preparing.{followed, op, only, stored_in, Ready, prepared, taken, taken_both, with_operand, kept, rest, paired, paired_at, opened, closed, scope, all_closed}
use Rattle.flow_code.specs.Programs.{in_function, body_code, function_code}
use Rattle.flow_code.specs.Sizes.{operand_in, operand_of, is_binary, size, with_one, size_if, size_of_arm, size_of_arms, size_of_test, size_of_statement, size_of_form, leaks, any_leaks, first_leaks, in_turn, outermost}
use Rattle.flow_code.specs.Statements.{full_of, deeper, in_loop, in_switch, jump_out, leaving, draws, else_jump, selection_code, switch_test_code, initial_code, initials_code, rows_code, init_code, name_code, names_code, first_code, only_if, test_code, return_code, turns, statement_code, form_code, else_code, block_code, arm_code, turns_code, arms_code}
use Rattle.flow_code.specs.Words.{native, word_of}

or_assoc : (q r s : Bool) → (q || (r || s)) ≡ ((q || r) || s)
or_assoc true r s = refl
or_assoc false r s = refl

some_append : {A : Type 0} (q : A → Bool) (xs ys : List A) → some_of q (xs ++ ys) ≡ (some_of q xs || some_of q ys)
some_append q [] ys = refl
some_append q (x ∷ xs) ys = ap (λ b. q x || b) (some_append q xs ys) ∙ or_assoc (q x) (some_of q xs) (some_of q ys)

-- an action calls only such functions
abbrev pub Allows : (ℕ → Type 0) → Action → Type 0
Allows Q (CallOf f n site) = Q f
Allows Q _ = Unit {0}

-- so do all of these operations
abbrev pub OnlyCalls : (ℕ → Type 0) → List Op → Type 0
OnlyCalls Q [] = Unit {0}
OnlyCalls Q (o ∷ os) = Allows Q o.action × OnlyCalls Q os

-- a call of the function stands in an expression
abbrev within : Exp → ℕ → Bool
within e f = some_node (calls f) e

-- in a node, or is it
abbrev at_node : Node → ℕ → Bool
at_node n f = calls f n || some_part (calls f) n

-- in arguments
abbrev among : Exps → ℕ → Bool
among es f = some_argument (calls f) es

-- in one of these expressions
abbrev in_all : List Exp → ℕ → Bool
in_all es f = some_of (some_node (calls f)) es

-- a callee is the function
abbrev is_callee : Callee → ℕ → Bool
is_callee c f = calls_callee f c

module _ (Q : ℕ → Type 0) where
  both : (xs ys : List Op) → OnlyCalls Q xs → OnlyCalls Q ys → OnlyCalls Q (xs ++ ys)
  both [] ys a b = b
  both (x ∷ xs) ys a b = (a.0, both xs ys a.1 b)

  -- so does each of them
  pub only_at : (os : List Op) → OnlyCalls Q os → (d : ℕ) (o : Op) → slice_get os d ≡ Some o → Allows Q o.action
  only_at [] h d o e = absurd (cc)
  only_at (q ∷ os) h zero o e = let same : q ≡ o = cc in subst (λ (u : Op). Allows Q u.action) same h.0
  only_at (q ∷ os) h (suc d) o e = only_at os h.1 d o e

  followed_only : (i : ℕ) (xs : List Op) (g : ℕ → List Op) → OnlyCalls Q xs → ((j : ℕ) → OnlyCalls Q (g j)) → OnlyCalls Q (followed i xs g)
  followed_only i xs g a b = both xs (g (i + length xs)) a (b (i + length xs))

  one_only : (y : Option Operand) (k : ℕ) (ops : List Op) (f : Operand → Action) → OnlyCalls Q ops → ((z : Operand) → Allows Q (f z)) → OnlyCalls Q (with_operand y k ops f)
  one_only (Some y) k ops f a h = (h y, tt)
  one_only None k ops f a h = both ops (op 0 (f Top) ∷ []) a (h Top, tt)

  kept_only : (y : Operand) (k : ℕ) → OnlyCalls Q (kept y k)
  kept_only Top k = tt
  kept_only (Cell o) k = (tt, tt)
  kept_only (Number v) k = (tt, tt)

  paired_only : (x : Operand) (k : ℕ) (z : Option Operand) (ops : List Op) → OnlyCalls Q ops → OnlyCalls Q (paired x k z ops).ops
  paired_only x k (Some y) ops a = tt
  paired_only x k None ops a = both (kept x k) ops (kept_only x k) a

  prepared_only : (y : Option Operand) (k : ℕ) (ops : List Op) → OnlyCalls Q ops → OnlyCalls Q (prepared y k ops).ops
  prepared_only (Some y) k ops a = tt
  prepared_only None k ops a = a

  pair_only : (i : ℕ) (j : Ready) (z : Option Operand) (g : ℕ → ℕ → List Op) (f : Operand → Operand → Action) → OnlyCalls Q j.ops → ((l k : ℕ) → OnlyCalls Q (g l k))
      → ((x y : Operand) → Allows Q (f x y)) → OnlyCalls Q (taken_both (paired_at i j z g) f)
  pair_only i j z g f a b h =
      let l = i + length j.ops + length (kept j.operand j.steps) in
      let ops = g l (rest j.operand j.steps) in
      let q = paired j.operand j.steps z ops in
      both (j.ops ++ q.ops) (op q.steps (f q.left q.right) ∷ []) (both j.ops q.ops a (paired_only j.operand j.steps z ops (b l (rest j.operand j.steps)))) (h q.left q.right, tt)

  call_only : (f n : ℕ) (site : CallSite) (o : Option Function) → ((g : Function) → o ≡ Some g → Q f) → Allows Q (call_of f n site o).action
  call_only f n site None h = tt
  call_only f n site (Some g) h = h g refl

  as_type_only : (m : DataModel) (ty : Option IntType) (x : Into) → Allows Q (as_type m ty x).action
  as_type_only m None x = tt
  as_type_only m (Some ty) x = tt

  opened_only : (b : Bool) → OnlyCalls Q (opened b)
  opened_only true = (tt, tt)
  opened_only false = tt

  closed_only : (b : Bool) → OnlyCalls Q (closed b)
  closed_only true = (tt, tt)
  closed_only false = tt

  scope_only : (b : Bool) (i : ℕ) (g : ℕ → List Op) → ((j : ℕ) → OnlyCalls Q (g j)) → OnlyCalls Q (scope b i g)
  scope_only b i g h = both (followed i (opened b) g) (closed b) (followed_only i (opened b) g (opened_only b) h) (closed_only b)

  all_closed_only : (n : ℕ) → OnlyCalls Q (all_closed n)
  all_closed_only zero = tt
  all_closed_only (suc n) = (tt, all_closed_only n)

  out_only : (n to : ℕ) → OnlyCalls Q (jump_out n to)
  out_only n to = both (all_closed n) (op 0 (Jump to) ∷ []) (all_closed_only n) (tt, tt)

  leaving_only : (n : ℕ) → OnlyCalls Q (leaving n)
  leaving_only n = both (all_closed n) (op 0 Leave ∷ []) (all_closed_only n) (tt, tt)

  selection_only : (d : Depth) (at : Spot) (to : ℕ) (b : Stms) → OnlyCalls Q (selection_code d at to b)
  selection_only d at to b = (tt, tt)

  module _ (p : Program) where
    stored_only : (t : Bool) (y : Option Operand) (k : ℕ) (x : Into) (V W : List Op) → OnlyCalls Q V → OnlyCalls Q W → OnlyCalls Q (stored_by p t y k x V W)
    stored_only true y k x V W a b = b
    stored_only false y k x V W a b = one_only y k V (λ z. Give z x) a (λ z. tt)

    -- where a test finds a function of the program, it is such a one
    abbrev pub Comes : (ℕ → Bool) → Type 0
    Comes t = (f : ℕ) → f < length p.functions → IsTrue (t f) → Q f

    first : (s t : ℕ → Bool) → Comes (λ f. s f || t f) → Comes s
    first s t h f l e = h f l (or_left (s f) (t f) e)

    second : (s t : ℕ → Bool) → Comes (λ f. s f || t f) → Comes t
    second s t h f l e = h f l (or_right (s f) (t f) e)

    before : (xs ys : List Exp) → Comes (in_all (xs ++ ys)) → Comes (in_all xs)
    before xs ys h f l e = h f l (some_append (some_node (calls f)) xs ys ∙ or_left (in_all xs f) (in_all ys f) e)

    behind : (xs ys : List Exp) → Comes (in_all (xs ++ ys)) → Comes (in_all ys)
    behind xs ys h f l e = h f l (some_append (some_node (calls f)) xs ys ∙ or_right (in_all xs f) (in_all ys f) e)

    alone : (e : Exp) → Comes (in_all (e ∷ [])) → Comes (within e)
    alone e h = first (within e) (in_all []) h

    module _ (at : Around) where
      -- what a call does behind its arguments
      callee_only : (site : CallSite) (n : ℕ) (then : Then) (c : Callee) → Comes (is_callee c) → OnlyCalls Q (callee_code p at site n then c)
      callee_only site n then (Defined f) h = (call_only f n site (slice_get p.functions f) (λ g e. h f (slice_get_within p.functions f g e) (eq-eqb f f refl)), (tt, tt))
      callee_only site n then (InputOf ty) h = (tt, tt)
      callee_only site n then ReachError h = (tt, tt)
      callee_only site n then Abort h = (tt, tt)
      callee_only site n then Exit h = (tt, tt)

      arm_only : (i : ℕ) (ty : Option IntType) (e : Exp) (x : Into) → OnlyCalls Q (code p at i 0 Used e Push) → OnlyCalls Q (conditional_arm p at i ty e x)
      arm_only i ty e x a = both (code p at i 0 Used e Push) (as_type p.model ty x ∷ []) a (as_type_only p.model ty x, tt)

      mutual
        -- the code of an expression
        pub code_only : (i k : ℕ) (want : Use) (e : Exp) (then : Then) → Comes (within e) → OnlyCalls Q (code p at i k want e then)
        code_only i k want (Expr spot ty n) then h = node_only i (k + 1) want spot ty n (only then) h

        node_only : (i k : ℕ) (want : Use) (spot : Spot) (ty : Option IntType) (n : Node) (x : Into) → Comes (at_node n) → OnlyCalls Q (node_code p at i k want spot ty n x)
        node_only i k want spot ty (Const v) x h = (tt, tt)
        node_only i k want spot ty (Var o) x h = (tt, tt)
        node_only i k want spot ty (Index o is) x h = element_only i k spot o is (λ y. Look o (size_of_object p o) y spot x) h (λ y. tt)
        node_only i k want spot ty (Unary o a) x h =
            one_only (operand_of a) k (code p at i k Used a Push) (λ y. OperateOne o (word_of p.model (promote_of (type_of a))) y (source at spot) x) (code_only i k Used a Push h) (λ y. tt)
        node_only i k want spot None (Cast a) x h = code_only i k Unused a x.then h
        node_only i k want spot (Some to) (Cast a) x h =
            one_only (operand_of a) k (code p at i k Used a Push) (λ y. Convert (native p.model to) y x) (code_only i k Used a Push h) (λ y. tt)
        node_only i k want spot ty (Step o t) x h =
            let j = aim_code p at i k t true in
            let last = op j.steps (operator p (source at spot) (op_of_step o) (type_of t) Int (stored_at p.model t (not (is_prefix o)) x.then) j.operand (Number (pos 1))) in
            both j.ops (last ∷ []) (aim_only i k t true h) (tt, tt)
        node_only i k want spot ty (Binary o a b) x h =
            let A = code p at i k Used a Push in
            pair_only i (prepared (operand_of a) k A) (operand_of b) (λ j l. code p at j l Used b Push) (operator p (source at spot) o (type_of a) (type_of b) x)
            (prepared_only (operand_of a) k A (code_only i k Used a Push (first (within a) (within b) h)))
            (λ l m. code_only l m Used b Push (second (within a) (within b) h)) (λ y z. tt)
        node_only i k want spot ty (Logic both_true a b) x h =
            let decided = i + (size a + (with_one (operand_of b) (size b) + 1)) in
            let A = code p at i k Used a (Skip (not both_true) decided) in
            let B = λ (j : ℕ). with_operand (operand_of b) 0 (code p at j 0 Used b Push) (λ y. Truth y x) in
            both (followed i A B) (op 0 (Jump (decided + 1)) ∷ op 0 (Give (constant both_true) x) ∷ [])
            (followed_only i A B (code_only i k Used a (Skip (not both_true) decided) (first (within a) (within b) h))
            (λ j. one_only (operand_of b) 0 (code p at j 0 Used b Push) (λ y. Truth y x) (code_only j 0 Used b Push (second (within a) (within b) h)) (λ y. tt)))
            (tt, (tt, tt))
        node_only i k want spot ty (Choose mark e a b) x h =
            let second_at = i + (size e + size a + 2) in
            let T = code p at i k Used e (Branch mark false second_at) in
            let yes = λ (j : ℕ). conditional_arm p at j ty a x in
            let no = λ (j : ℕ). conditional_arm p at j ty b x in
            let past = λ (j : ℕ). op 0 (Jump (second_at + (size b + 1))) ∷ [] in
            let arms = second (within e) (λ f. within a f || within b f) h in
            followed_only i (followed i (followed i T yes) past) no
            (followed_only i (followed i T yes) past
            (followed_only i T yes (code_only i k Used e (Branch mark false second_at) (first (within e) (λ f. within a f || within b f) h))
            (λ j. arm_only j ty a x (code_only j 0 Used a Push (first (within a) (within b) arms))))
            (λ j. (tt, tt)))
            (λ j. arm_only j ty b x (code_only j 0 Used b Push (second (within a) (within b) arms)))
        node_only i k want spot ty (Comma a b) x h =
            followed_only i (code p at i k Unused a Drop) (λ j. code p at j 0 Used b x.then) (code_only i k Unused a Drop (first (within a) (within b) h))
            (λ j. code_only j 0 Used b x.then (second (within a) (within b) h))
        node_only i k want spot ty (Assign None t e) x h =
            let j = aim_code p at i k t false in
            let into = stored_at p.model t false x.then in
            followed_only i j.ops (λ l. stored_code p at l j.steps e into) (aim_only i k t false (first (within t) (within e) h))
            (λ l. stored_code_only l j.steps e into (second (within t) (within e) h))
        node_only i k want spot ty (Assign (Some o) t e) x h =
            pair_only i (aim_code p at i k t true) (operand_of e) (λ j l. code p at j l Used e Push)
            (operator p (source at spot) o (type_of t) (type_of e) (stored_at p.model t false x.then)) (aim_only i k t true (first (within t) (within e) h))
            (λ l m. code_only l m Used e Push (second (within t) (within e) h)) (λ y z. tt)
        node_only i k want spot ty (Call c es close) x h =
            let A = args_code p at i k (argument_to c) es in
            let site = site_at spot close want ty in
            both A (op (left_by es k) (Enter close) ∷ callee_code p at site (count_of es) x.then c) (args_only i k (argument_to c) es (second (is_callee c) (among es) h))
            (tt, callee_only site (count_of es) x.then c (first (is_callee c) (among es) h))

        -- a value that is stored, and then goes on
        pub stored_code_only : (i k : ℕ) (e : Exp) (x : Into) → Comes (within e) → OnlyCalls Q (stored_code p at i k e x)
        stored_code_only i k (Expr s u n) x h =
            stored_only (is_binary n) (operand_in n) k x (node_code p at i (k + 1) Used s u n (only Push)) (node_code p at i (k + 1) Used s u n x)
            (node_only i (k + 1) Used s u n (only Push) h) (node_only i (k + 1) Used s u n x h)

        -- a target
        aim_only : (i k : ℕ) (t : Exp) (reads : Bool) → Comes (within t) → OnlyCalls Q (aim_code p at i k t reads).ops
        aim_only i k (Expr spot ty n) reads h = place_only i (k + 1) spot n reads h

        place_only : (i k : ℕ) (spot : Spot) (n : Node) (reads : Bool) → Comes (at_node n) → OnlyCalls Q (place_code p at i k spot n reads).ops
        place_only i k spot (Index o is) reads h = element_only i k spot o is (λ y. Aim o (size_of_object p o) y spot reads) h (λ y. tt)
        place_only i k spot _ reads h = tt

        -- the indexes of an element, and the operation that takes its cell
        element_only : (i k : ℕ) (spot : Spot) (o : ℕ) (is : Exps) (f : Operand → Action) → Comes (among is) → ((y : Operand) → Allows Q (f y)) → OnlyCalls Q (taken (element_code p at i k spot o is) f)
        element_only i k spot o NoExp f h allows = (allows (Number (negsuc 0)), tt)
        element_only i k spot o (MoreExp a NoExp) f h allows = one_only (operand_of a) k (code p at i k Used a Push) f (code_only i k Used a Push (first (within a) (among NoExp) h)) allows
        element_only i k spot o (MoreExp a (MoreExp b NoExp)) f h allows =
            let A = code p at i k Used a Push in
            let row = λ (y z : Operand). Row (rows_of_object p o) (columns_of_object p o) y z spot in
            both (taken_both (paired_at i (prepared (operand_of a) k A) (operand_of b) (λ j l. code p at j l Used b Push)) row) (op 0 (f Top) ∷ [])
            (pair_only i (prepared (operand_of a) k A) (operand_of b) (λ j l. code p at j l Used b Push) row
            (prepared_only (operand_of a) k A (code_only i k Used a Push (first (within a) (among (MoreExp b NoExp)) h)))
            (λ l m. code_only l m Used b Push (first (within b) (among NoExp) (second (within a) (among (MoreExp b NoExp)) h))) (λ y z. tt)) (allows Top, tt)
        element_only i k spot o (MoreExp a (MoreExp b (MoreExp c es))) f h allows =
            let behind = second (within a) (among (MoreExp b (MoreExp c es))) h in
            let last = second (within b) (among (MoreExp c es)) behind in
            both (args_code p at i k Drop (MoreExp a (MoreExp b (MoreExp c es)))) (op 0 (f (Number (negsuc 0))) ∷ [])
            (followed_only i (code p at i k Used a Drop) (λ j. args_code p at j 0 Drop (MoreExp b (MoreExp c es)))
            (code_only i k Used a Drop (first (within a) (among (MoreExp b (MoreExp c es))) h))
            (λ j. followed_only j (code p at j 0 Used b Drop) (λ l. args_code p at l 0 Drop (MoreExp c es))
            (code_only j 0 Used b Drop (first (within b) (among (MoreExp c es)) behind))
            (λ l. followed_only l (code p at l 0 Used c Drop) (λ m. args_code p at m 0 Drop es) (code_only l 0 Used c Drop (first (within c) (among es) last))
            (λ m. args_only m 0 Drop es (second (within c) (among es) last)))))
            (allows (Number (negsuc 0)), tt)

        args_only : (i k : ℕ) (then : Then) (es : Exps) → Comes (among es) → OnlyCalls Q (args_code p at i k then es)
        args_only i k then NoExp h = tt
        args_only i k then (MoreExp e es) h =
            followed_only i (code p at i k Used e then) (λ j. args_code p at j 0 then es) (code_only i k Used e then (first (within e) (among es) h))
            (λ j. args_only j 0 then es (second (within e) (among es) h))

    initial_only : (i : ℕ) (at : Spot) (o j : ℕ) (e : Exp) → Comes (within e) → OnlyCalls Q (initial_code p i at o j e)
    initial_only i at o j (Expr s u n) h =
        stored_code_only (record { statement = at; full = s }) i 0 (Expr s u n) (stored_in (Fixed o j) (native p.model (type_of_object p o)) false Drop) h

    initials_only : (i : ℕ) (at : Spot) (o j : ℕ) (es : Exps) → Comes (in_all (exps_in es)) → OnlyCalls Q (initials_code p i at o j es)
    initials_only i at o j NoExp h = tt
    initials_only i at o j (MoreExp e es) h =
        followed_only i (initial_code p i at o j e) (λ l. initials_code p l at o (j + 1) es) (initial_only i at o j e (first (within e) (in_all (exps_in es)) h))
        (λ l. initials_only l at o (j + 1) es (second (within e) (in_all (exps_in es)) h))

    rows_only : (i : ℕ) (at : Spot) (o j : ℕ) (rows : List Exps) → Comes (in_all (flat_map exps_in rows)) → OnlyCalls Q (rows_code p i at o j rows)
    rows_only i at o j [] h = tt
    rows_only i at o j (es ∷ rows) h =
        followed_only i (initials_code p i at o j es) (λ l. rows_code p l at o (j + columns_of_object p o) rows) (initials_only i at o j es (before (exps_in es) (flat_map exps_in rows) h))
        (λ l. rows_only l at o (j + columns_of_object p o) rows (behind (exps_in es) (flat_map exps_in rows) h))

    init_only : (i : ℕ) (at : Spot) (o : ℕ) (j : Init) → Comes (in_all (fulls_of_init j)) → OnlyCalls Q (init_code p i at o j)
    init_only i at o Absent h = tt
    init_only i at o (One e) h = initial_only i at o 0 e (alone e h)
    init_only i at o (Many es) h = initials_only i at o 0 es h
    init_only i at o (Rows rows) h = rows_only i at o 0 rows h

    name_only : (i : ℕ) (at spot : Spot) (o : ℕ) (j : Init) → Comes (in_all (fulls_of_init j)) → OnlyCalls Q (name_code p i at spot o j)
    name_only i at spot o j h =
        followed_only i (op (size_of_object p o) (DeclareOf spot o (size_of_object p o) (type_of_object p o) (draws j)) ∷ []) (λ l. init_code p l at o j) (tt, tt)
        (λ l. init_only l at o j h)

    names_only : (i : ℕ) (at : Spot) (ns : Names) → Comes (in_all (fulls_of_names ns)) → OnlyCalls Q (names_code p i at ns)
    names_only i at NoName h = tt
    names_only i at (MoreName spot o j ns) h =
        followed_only i (name_code p i at spot o j) (λ l. names_code p l at ns) (name_only i at spot o j (before (fulls_of_init j) (fulls_of_names ns) h))
        (λ l. names_only l at ns (behind (fulls_of_init j) (fulls_of_names ns) h))

    first_part_only : (i : ℕ) (at : Spot) (x : First) → Comes (in_all (fulls_of_first x)) → OnlyCalls Q (first_code p i at x)
    first_part_only i at NoFirst h = tt
    first_part_only i at (FirstExp e) h = code_only (full_of at e) i 0 Unused e Drop (alone e h)
    first_part_only i at (FirstNames ns) h = names_only i at ns h

    only_if_only : (i : ℕ) (at : Spot) (e : Option Exp) → Comes (in_all (exp_if e)) → OnlyCalls Q (only_if p i at e)
    only_if_only i at None h = tt
    only_if_only i at (Some e) h = code_only (full_of at e) i 0 Unused e Drop (alone e h)

    test_only : (i : ℕ) (at : Spot) (e : Option Exp) (to : ℕ) → Comes (in_all (exp_if e)) → OnlyCalls Q (test_code p i at e to)
    test_only i at None to h = (tt, tt)
    test_only i at (Some e) to h = code_only (full_of at e) i 0 Used e (Branch at true to) (alone e h)

    return_only : (i : ℕ) (at : Spot) (ty : Option IntType) (e : Exp) (n : ℕ) → Comes (within e) → OnlyCalls Q (return_code p i at ty e n)
    return_only i at ty e n h =
        let value = code p (full_of at e) i 0 Used e Push in
        both (value ++ all_closed n) (op 0 (ReturnOf ty) ∷ []) (both value (all_closed n) (code_only (full_of at e) i 0 Used e Push h) (all_closed_only n)) (tt, tt)

    turns_only : (i start head : ℕ) (at : Spot) (e s : Option Exp) (body : ℕ → List Op) → Comes (in_all (exp_if e)) → Comes (in_all (exp_if s)) → ((j : ℕ) → OnlyCalls Q (body j))
        → OnlyCalls Q (turns p i start head at e s body)
    turns_only i start head at e s body h g b =
        let J : List Op = op 0 (Jump head) ∷ [] in
        let S = λ (j : ℕ). only_if p j at s in
        let T = λ (j : ℕ). test_code p j at e start in
        followed_only i (followed i (followed i J body) S) T
        (followed_only i (followed i J body) S (followed_only i J body (tt, tt) b) (λ j. only_if_only j at s g)) (λ j. test_only j at e start h)

    -- a statement that is a scope of its own, if it declares names
    inner_only : (i : ℕ) (w : Inside) (s : Stm) → ((j : ℕ) (v : Inside) → OnlyCalls Q (statement_code p j v s)) → OnlyCalls Q (arm_code p i w s)
    inner_only i w s a = scope_only (leaks s) i (λ l. statement_code p l (deeper (leaks s) w) s) (λ l. a l (deeper (leaks s) w))

    mutual
      statement_only : (i : ℕ) (w : Inside) (s : Stm) → Comes (in_all (fulls_of s)) → OnlyCalls Q (statement_code p i w s)
      statement_only i w (Stmt at x) h = followed_only i (op 1 (Arrive at) ∷ []) (λ j. form_code p j w at x) (tt, tt) (λ j. form_only j w at x h)

      form_only : (i : ℕ) (w : Inside) (at : Spot) (x : Form) → Comes (in_all (fulls_of_form x)) → OnlyCalls Q (form_code p i w at x)
      form_only i w at Empty h = tt
      form_only i w at (Do e) h = code_only (full_of at e) i 0 Unused e Drop (alone e h)
      form_only i w at (Declare ns) h = names_only i at ns h
      form_only i w at (Block b) h = scope_only (any_leaks b) i (λ j. block_code p j (deeper (any_leaks b) w) b) (λ j. block_only j (deeper (any_leaks b) w) b h)
      form_only i w at (If e a b) h =
          let to = i + (size e + size_of_arm w.depth a + else_jump b) in
          let T = code p (full_of at e) i 0 Used e (Branch at false to) in
          let A = λ (j : ℕ). arm_code p j w a in
          let arms = second (within e) (in_all (fulls_of a ++ fulls_of_else b)) h in
          followed_only i (followed i T A) (λ j. else_code p j to w b)
          (followed_only i T A (code_only (full_of at e) i 0 Used e (Branch at false to) (first (within e) (in_all (fulls_of a ++ fulls_of_else b)) h))
          (λ j. inner_only j w a (λ l v. statement_only l v a (before (fulls_of a) (fulls_of_else b) arms))))
          (λ j. else_only j to w b (behind (fulls_of a) (fulls_of_else b) arms))
      form_only i w at (While e b) h =
          let again = i + 1 + size_of_arm (in_turn w.depth) b in
          let v = in_loop again (again + size e) w in
          let J : List Op = op 0 (Jump again) ∷ [] in
          let A = λ (j : ℕ). arm_code p j v b in
          followed_only i (followed i J A) (λ j. test_code p j at (Some e) (i + 1))
          (followed_only i J A (tt, tt) (λ j. inner_only j v b (λ l u. statement_only l u b (second (within e) (in_all (fulls_of b)) h))))
          (λ j. code_only (full_of at e) j 0 Used e (Branch at true (i + 1)) (first (within e) (in_all (fulls_of b)) h))
      form_only i w at (DoWhile b e) h =
          let again = i + size_of_arm (in_turn w.depth) b in
          let v = in_loop again (again + size e) w in
          followed_only i (arm_code p i v b) (λ j. test_code p j at (Some e) i)
          (inner_only i v b (λ l u. statement_only l u b (before (fulls_of b) (e ∷ []) h)))
          (λ j. code_only (full_of at e) j 0 Used e (Branch at true i) (alone e (behind (fulls_of b) (e ∷ []) h)))
      form_only i w at (For x e s b) h =
          let u = deeper (first_leaks x) w in
          let X = fulls_of_first x in
          let E = exp_if e in
          let S = exp_if s in
          let B = fulls_of b in
          let parts = before (X ++ E ++ S) B h in
          let starts = before (X ++ E) S parts in
          scope_only (first_leaks x) i (λ l. followed l (first_code p l at x) (λ m. turns_code p m u at e s b))
          (λ l. followed_only l (first_code p l at x) (λ m. turns_code p m u at e s b) (first_part_only l at x (before X E starts))
          (λ m. let again = m + 1 + size_of_arm (in_turn u.depth) b in
          let head = again + size_if s in
          let v = in_loop again (head + size_of_test e) u in
          turns_only m (m + 1) head at e s (λ j. arm_code p j v b) (behind X E starts) (behind (X ++ E) S parts)
          (λ j. inner_only j v b (λ l y. statement_only l y b (behind (X ++ E ++ S) B h)))))
      form_only i w at Break h = out_only w.depth.inner w.broken
      form_only i w at Continue h = out_only w.depth.turn w.again
      form_only i w at (Return None) h = leaving_only w.depth.scopes
      form_only i w at (Return (Some e)) h = return_only i at w.result e w.depth.scopes (alone e h)
      form_only i w at (Label b) h = statement_only i w b h
      form_only i w at (Switch e b) h =
          let v = λ (j : ℕ). deeper (any_leaks b) (in_switch (j + size_of_arms w.depth b) w) in
          followed_only i (switch_test_code p i at e) (λ j. scope (any_leaks b) j (λ l. arms_code p l (v j) at b))
          (one_only (operand_of e) 0 (code p (full_of at e) i 0 Used e Push) (λ y. Convert (native p.model (promote_of (type_of e))) y (only Push))
          (code_only (full_of at e) i 0 Used e Push (first (within e) (in_all (fulls_of_block b)) h)) (λ y. tt))
          (λ j. scope_only (any_leaks b) j (λ l. arms_code p l (v j) at b)
          (λ l. followed_only l (selection_code (v j).depth at (l + 1) b) (λ m. block_code p m (v j) b) (selection_only (v j).depth at (l + 1) b)
          (λ m. block_only m (v j) b (second (within e) (in_all (fulls_of_block b)) h))))

      else_only : (i to : ℕ) (w : Inside) (b : Else) → Comes (in_all (fulls_of_else b)) → OnlyCalls Q (else_code p i to w b)
      else_only i to w NoElse h = tt
      else_only i to w (OrElse b) h =
          followed_only i (op 0 (Jump (to + size_of_arm w.depth b)) ∷ []) (λ j. arm_code p j w b) (tt, tt) (λ j. inner_only j w b (λ l v. statement_only l v b h))

      block_only : (i : ℕ) (w : Inside) (b : Stms) → Comes (in_all (fulls_of_block b)) → OnlyCalls Q (block_code p i w b)
      block_only i w NoStm h = tt
      block_only i w (MoreStm s b) h =
          followed_only i (statement_code p i w s) (λ j. block_code p j w b) (statement_only i w s (before (fulls_of s) (fulls_of_block b) h))
          (λ j. block_only j w b (behind (fulls_of s) (fulls_of_block b) h))
      block_only i w (MoreCase spot l b) h = block_only i w b h

    body_only : (i : ℕ) (g : Function) (s : Stm) → Comes (in_all (fulls_of s)) → OnlyCalls Q (body_code p i g s)
    body_only i g (Stmt at x) h =
        let R : List Op = op 1 Rest ∷ [] in
        let F = λ (j : ℕ). form_code p j (in_function p.model (j + size_of_form outermost x) g) at x in
        both (followed i R F) (op 0 Leave ∷ []) (followed_only i R F (tt, tt) (λ j. form_only j (in_function p.model (j + size_of_form outermost x) g) at x h)) (tt, tt)

    -- the code of a function
    pub function_only : (i : ℕ) (g : Function) → Comes (in_all (fulls_of g.body)) → OnlyCalls Q (function_code p i g)
    function_only i g h = body_only i g g.body h
