-- The indexes of an element, part by part.
use Rattle.std.proofs.Common.{◌≡◌, ◌∙◌, ℕ, zero, suc, ◌/◌, ◌<◌, ◌≤◌, ℤ, List, [], ◌∷◌, length, drop, get_or, Err, Ok, Option, None, Result, refl, sym, ap, subst, arith}
use Rattle.c_core.specs.Tree.{Program, Exp, Exps, NoExp, MoreExp, Index}
use Rattle.c_core.specs.View.{expr_view, exprs_view}
use Rattle.c_core.specs.declared.tree.Expr.{Expr}
use Rattle.c_core.specs.declared.number.IntType.{IntType}
use Rattle.c_core.specs.declared.number.Spot.{Spot}
use Rattle.c_meaning.specs.declared.run.End.TheVariants.{Undefined}
use Rattle.c_meaning.specs.declared.run.Event.{Event}
use Rattle.c_meaning.specs.Cells.{Cell, Key}
use Rattle.c_meaning.specs.Meaning.{Used, Where}
use Rattle.c_meaning.specs.Objects.{type_of, size_of_object, columns_of_object}
use Rattle.c_meaning.specs.Acts.{Stop}
use Rattle.c_meaning.specs.Eval.{evals}
use Rattle.c_meaning.specs.Run.{State, index_below, in_row, cell_among}
use Rattle.run_state.specs.Ways.{Ran, bound}
use Rattle.run_state.specs.Interpreting.{Gives, same, key_of, watched, calls, done, evaluated, evaluated_all, noded, placed, keyed}
use Rattle.run_state.specs.declared.machine.Element.{Element}
use Rattle.run_state.specs.declared.machine.Halt.{Halt}
use Rattle.run_state.specs.declared.machine.Halt.TheVariants.{Ends}
use Rattle.run_state.proofs.Giving.{Behind, halted, passed, starts, left_behind, halted_behind, bound_on, bound_alike}

-- no cell of an object has more than two indexes
none_among : {A : Type 0} (n c : ℕ) (js : List (ℤ × A)) → 3 ≤ length js → cell_among n c js ≡ None
none_among n c [] l = refl
none_among n c (i ∷ []) l = absurd (omega (arith, l))
none_among n c (i ∷ (j ∷ [])) l = absurd (omega (arith, l))
none_among n c (i ∷ (j ∷ (k ∷ js))) l = refl

pub one_item : (es : List Expr) (e : Expr) → 1 ≤ length es → length es < 2 → e ≡ get_or es 0 e → exprs_view es ≡ MoreExp (expr_view e) NoExp
one_item [] e l m a = absurd (omega (arith, l))
one_item (x ∷ []) e l m a = ap (λ y. MoreExp (expr_view y) NoExp) (sym a)
one_item (x ∷ (y ∷ es)) e l m a = absurd (omega (arith, m))

pub two_items : (es : List Expr) (e f : Expr) → 2 ≤ length es → length es < 3 → e ≡ get_or es 0 e → f ≡ get_or es 1 f → exprs_view es ≡ MoreExp (expr_view e) (MoreExp (expr_view f) NoExp)
two_items [] e f l m a b = absurd (omega (arith, l))
two_items (x ∷ []) e f l m a b = absurd (omega (arith, l))
two_items (x ∷ (y ∷ [])) e f l m a b = ap (λ z. MoreExp (expr_view z) (MoreExp (expr_view y) NoExp)) (sym a) ∙ ap (λ z. MoreExp (expr_view e) (MoreExp (expr_view z) NoExp)) (sym b)
two_items (x ∷ (y ∷ (z ∷ es))) e f l m a b = absurd (omega (arith, m))

exps_count : Exps → ℕ
exps_count NoExp = 0
exps_count (MoreExp e es) = suc (exps_count es)

count_is : (es : List Expr) → exps_count (exprs_view es) ≡ length es
unfolding exps_count
count_is [] = refl
count_is (e ∷ es) = ap suc (count_is es)

module _ (p : Program) (S : Type 0) (after : Event → List Cell → S → S) (n : ℕ) (at : Where) where
  abbrev evaluating : Exps → State S → Ran S (List (ℤ × IntType))
  evaluating es s = evals p (watched p S after) (calls p S after n) at es s

  -- the indexes, and then the cell that they name
  abbrev finding : Spot → ℕ → List (ℤ × IntType) → State S → Ran S Key
  finding spot o js = keyed p S after spot o (cell_among (size_of_object p o) (columns_of_object p o) js)

  one_is : (spot : Spot) (o : ℕ) (i : Exp) (s : State S)
      → placed p S after n at spot (Index o (MoreExp i NoExp)) s ≡ bound (evaluated p S after n at Used i s) (λ v. keyed p S after spot o (index_below (size_of_object p o) v))
  one_is spot o i s = bound_on (evaluated p S after n at Used i s) (λ v t. done p S after ((v, type_of i) ∷ []) t) (finding spot o)

  abbrev second : Exp → IntType → ℤ → State S → Ran S (List (ℤ × IntType))
  second j x v t = bound (evaluating (MoreExp j NoExp) t) (λ ws u. done p S after ((v, x) ∷ ws) u)

  two_are : (spot : Spot) (o : ℕ) (i j : Exp) (s : State S)
      → placed p S after n at spot (Index o (MoreExp i (MoreExp j NoExp))) s
      ≡ bound (evaluated p S after n at Used i s) (λ v t. bound (evaluated p S after n at Used j t) (λ w.
      keyed p S after spot o (in_row (columns_of_object p o) (index_below (size_of_object p o / columns_of_object p o) v) (index_below (columns_of_object p o) w))))
  two_are spot o i j s =
      bound_on (evaluated p S after n at Used i s) (second j (type_of i)) (finding spot o)
      ∙ bound_alike (evaluated p S after n at Used i s) _ _ (λ v t.
      bound_on (evaluating (MoreExp j NoExp) t) (λ ws u. done p S after ((v, type_of i) ∷ ws) u) (finding spot o)
      ∙ bound_on (evaluated p S after n at Used j t) (λ w u. done p S after ((w, type_of j) ∷ []) u) (λ ws. finding spot o ((v, type_of i) ∷ ws)))

  -- where what follows needs but the number of indexes, it follows their effects
  counted : {B : Type 0} (es : Exps) (k : List (ℤ × IntType) → State S → Ran S B) (x : State S → Ran S B) → ((js : List (ℤ × IntType)) → length js ≡ exps_count es → (t : State S) → k js t ≡ x t)
      → (s : State S) → bound (evaluating es s) k ≡ bound (evaluated_all p S after n at es s) (λ _. x)
  unfolding exps_count
  counted NoExp k x h s = h [] refl s
  counted (MoreExp e es) k x h s =
      let r = evaluated p S after n at Used e s in
      bound_on r (λ v t. bound (evaluating es t) (λ ws u. done p S after ((v, type_of e) ∷ ws) u)) k
      ∙ bound_alike r _ _ (λ v t.
      bound_on (evaluating es t) (λ ws u. done p S after ((v, type_of e) ∷ ws) u) k
      ∙ counted es (λ ws. k ((v, type_of e) ∷ ws)) x (λ js l u. h ((v, type_of e) ∷ js) (ap suc l) u) t)
      ∙ sym (bound_on r (λ _. evaluated_all p S after n at es) (λ _. x))

  many_are : (spot : Spot) (o : ℕ) (es : List Expr) (s : State S) → 3 ≤ length es
      → placed p S after n at spot (Index o (exprs_view es)) s ≡ bound (evaluated_all p S after n at (exprs_view es) s) (λ _. keyed p S after spot o None)
  many_are spot o es s m =
      counted (exprs_view es) (finding spot o) (keyed p S after spot o None) (λ js l t.
      ap (λ i. keyed p S after spot o i t) (none_among (size_of_object p o) (columns_of_object p o) js (omega (arith, m, l, count_is es)))) s

  -- one index
  module _ (spot : Spot) (o : ℕ) (i : Exp) (s t : State S) where
    pub one_halts : (h : Halt) → Gives same (Err h) t (evaluated p S after n at Used i s) → Gives key_of (Err h) t (placed p S after n at spot (Index o (MoreExp i NoExp)) s)
    one_halts h g = subst (Gives key_of (Err h) t) (sym (one_is spot o i s)) (halted same key_of h t (evaluated p S after n at Used i s) _ g)

    pub one_goes : (v : ℤ) (u : State S) (r : Result Element Halt) → Gives same (Ok v) t (evaluated p S after n at Used i s)
        → Gives key_of r u (keyed p S after spot o (index_below (size_of_object p o) v) t) → Gives key_of r u (placed p S after n at spot (Index o (MoreExp i NoExp)) s)
    one_goes v u r e g =
        subst (Gives key_of r u) (sym (one_is spot o i s))
        (passed same key_of v t u (evaluated p S after n at Used i s) (λ x. keyed p S after spot o (index_below (size_of_object p o) x)) r e g)

  -- two indexes
  module _ (spot : Spot) (o : ℕ) (i j : Exp) (s t : State S) where
    abbrev row_cell : ℤ → ℤ → State S → Ran S Key
    row_cell v w = keyed p S after spot o (in_row (columns_of_object p o) (index_below (size_of_object p o / columns_of_object p o) v) (index_below (columns_of_object p o) w))

    abbrev column : ℤ → State S → Ran S Key
    column v t = bound (evaluated p S after n at Used j t) (row_cell v)

    pub row_halts : (h : Halt) → Gives same (Err h) t (evaluated p S after n at Used i s) → Gives key_of (Err h) t (placed p S after n at spot (Index o (MoreExp i (MoreExp j NoExp))) s)
    row_halts h g = subst (Gives key_of (Err h) t) (sym (two_are spot o i j s)) (halted same key_of h t (evaluated p S after n at Used i s) column g)

    pub column_halts : (v : ℤ) (u : State S) (h : Halt) → Gives same (Ok v) t (evaluated p S after n at Used i s) → Gives same (Err h) u (evaluated p S after n at Used j t)
        → Gives key_of (Err h) u (placed p S after n at spot (Index o (MoreExp i (MoreExp j NoExp))) s)
    column_halts v u h e g =
        subst (Gives key_of (Err h) u) (sym (two_are spot o i j s))
        (passed same key_of v t u (evaluated p S after n at Used i s) column (Err h) e (halted same key_of h u (evaluated p S after n at Used j t) (row_cell v) g))

    pub two_go : (v w : ℤ) (u x : State S) (r : Result Element Halt) → Gives same (Ok v) t (evaluated p S after n at Used i s) → Gives same (Ok w) u (evaluated p S after n at Used j t)
        → Gives key_of r x (row_cell v w u) → Gives key_of r x (placed p S after n at spot (Index o (MoreExp i (MoreExp j NoExp))) s)
    two_go v w u x r e f g =
        subst (Gives key_of r x) (sym (two_are spot o i j s))
        (passed same key_of v t x (evaluated p S after n at Used i s) column r e (passed same key_of w u x (evaluated p S after n at Used j t) (row_cell v) r f g))

  -- more indexes
  module _ (spot : Spot) (o : ℕ) (es : List Expr) (s t : State S) (m : 3 ≤ length es) where
    pub many_halt : (h : Halt) → Gives same (Err h) t (evaluated_all p S after n at (exprs_view es) s) → Gives key_of (Err h) t (placed p S after n at spot (Index o (exprs_view es)) s)
    many_halt h e = subst (Gives key_of (Err h) t) (sym (many_are spot o es s m)) (halted same key_of h t (evaluated_all p S after n at (exprs_view es) s) _ e)

    pub many_go : Gives same (Ok tt) t (evaluated_all p S after n at (exprs_view es) s) → Gives key_of (Err (Ends (Undefined spot))) t (placed p S after n at spot (Index o (exprs_view es)) s)
    many_go e =
        subst (Gives key_of (Err (Ends (Undefined spot))) t) (sym (many_are spot o es s m))
        (passed same key_of tt t t (evaluated_all p S after n at (exprs_view es) s) (λ _. keyed p S after spot o None) (Err (Ends (Undefined spot))) e refl)

  -- expressions in turn
  module _ (es : List Expr) (i : ℕ) (e : Expr) (behind : drop i es ≡ e ∷ drop (suc i) es) (s u : State S) (whole : Ran S (Unit {0})) (rest : Behind (evaluated_all p S after n at (exprs_view (drop i es)) s) whole) where
    next_expression : Behind (bound (evaluated p S after n at Used (expr_view e) s) (λ _. evaluated_all p S after n at (exprs_view (drop (suc i) es)))) whole
    next_expression = starts _ _ whole (ap (λ b. evaluated_all p S after n at (exprs_view b) s) (sym behind)) rest

    pub all_halted : (h : Halt) → Gives same (Err h) u (evaluated p S after n at Used (expr_view e) s) → Gives same (Err h) u whole
    all_halted h g = halted_behind same same h u (evaluated p S after n at Used (expr_view e) s) (λ _. evaluated_all p S after n at (exprs_view (drop (suc i) es))) whole next_expression g

    pub all_on : (v : ℤ) → Gives same (Ok v) u (evaluated p S after n at Used (expr_view e) s) → Behind (evaluated_all p S after n at (exprs_view (drop (suc i) es)) u) whole
    all_on v g = left_behind same v u (evaluated p S after n at Used (expr_view e) s) (λ _. evaluated_all p S after n at (exprs_view (drop (suc i) es))) whole g next_expression

  -- an element's value, after its cell
  module _ (spot : Spot) (o : ℕ) (es : Exps) (s : State S) where
    value_is : noded p S after n at Used spot None (Index o es) s ≡ bound (placed p S after n at spot (Index o es) s) (watched p S after).look
    value_is = sym (bound_on (evaluating es s) (finding spot o) (watched p S after).look)

    pub index_halts : (u : State S) (h : Halt) → Gives key_of (Err h) u (placed p S after n at spot (Index o es) s) → Gives same (Err h) u (noded p S after n at Used spot None (Index o es) s)
    index_halts u h g = subst (Gives same (Err h) u) (sym value_is) (halted key_of same h u (placed p S after n at spot (Index o es) s) (watched p S after).look g)

    pub index_goes : (k : Element) (t u : State S) (r : Result ℤ Halt) → Gives key_of (Ok k) t (placed p S after n at spot (Index o es) s) → Gives same r u ((watched p S after).look (key_of k) t)
        → Gives same r u (noded p S after n at Used spot None (Index o es) s)
    index_goes k t u r e g = subst (Gives same r u) (sym value_is) (passed key_of same k t u (placed p S after n at spot (Index o es) s) (watched p S after).look r e g)
