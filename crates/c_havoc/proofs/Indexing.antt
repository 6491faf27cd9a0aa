-- The indexes of an element, part by part.
use Rattle.std.proofs.Common.{◌≡◌, ◌∙◌, ℕ, suc, ◌/◌, ◌<◌, ◌≤◌, ℤ, List, [], ◌∷◌, length, drop, get_or, Err, Ok, None, Result, refl, sym, ap, subst, arith}
use Rattle.c_core.specs.Tree.{Program, Exp, Exps, NoExp, MoreExp, Index}
use Rattle.c_core.specs.View.{expr_view, exprs_view}
use Rattle.c_core.specs.declared.tree.Expr.{Expr}
use Rattle.c_core.specs.declared.number.IntType.{IntType}
use Rattle.c_core.specs.declared.number.Spot.{Spot}
use Rattle.c_meaning.specs.Cells.{Key}
use Rattle.c_meaning.specs.Duties.{Placed}
use Rattle.c_meaning.specs.Meaning.{Used, Where}
use Rattle.c_meaning.specs.Objects.{type_of, size_of_object, columns_of_object}
use Rattle.c_meaning.specs.Acts.{Res, Go, Stop, bind}
use Rattle.c_meaning.specs.Eval.{evals}
use Rattle.c_meaning.specs.Havoc.{Stopped, Left, key_of as havoc_key}
use Rattle.c_meaning.specs.Run.{index_below, in_row, cell_among}
use Rattle.c_meaning.proofs.Indexes.{one_index, two_indexes}
use Rattle.run_state.specs.Interpreting.{same, key_of}
use Rattle.run_state.specs.declared.machine.Element.{Element}
use Rattle.run_state.proofs.Giving.{bind_on}
use Rattle.havoc_state.specs.Havocking.{Gives, havocked, calls, evaluated, evaluated_all, placed_at}
use Rattle.havoc_state.specs.declared.machine.Ending.TheVariants.{Passes}
use Rattle.havoc_state.specs.declared.machine.Halt.{Halt}
use Rattle.havoc_state.specs.declared.machine.Halt.TheVariants.{Ends}
use Rattle.havoc_state.proofs.Giving.{halted, passed}

-- no cell of an object has more than two indexes
none_among : {A : Type 0} (n c : ℕ) (js : List (ℤ × A)) → 3 ≤ length js → cell_among n c js ≡ None
none_among n c [] l = refl
none_among n c (i ∷ []) l = absurd (omega (arith, l))
none_among n c (i ∷ (j ∷ [])) l = absurd (omega (arith, l))
none_among n c (i ∷ (j ∷ (k ∷ js))) l = refl

pub one_item : (es : List Expr) (e : Expr) → 1 ≤ length es → length es < 2 → e ≡ get_or es 0 e → exprs_view es ≡ MoreExp (expr_view e) NoExp
one_item [] e l m a = absurd (omega (arith, l))
one_item (x ∷ []) e l m a = ap (λ y. MoreExp (expr_view y) NoExp) (sym a)
one_item (x ∷ (y ∷ es)) e l m a = absurd (omega (arith, m))

pub two_items : (es : List Expr) (e f : Expr) → 2 ≤ length es → length es < 3 → e ≡ get_or es 0 e → f ≡ get_or es 1 f → exprs_view es ≡ MoreExp (expr_view e) (MoreExp (expr_view f) NoExp)
two_items [] e f l m a b = absurd (omega (arith, l))
two_items (x ∷ []) e f l m a b = absurd (omega (arith, l))
two_items (x ∷ (y ∷ [])) e f l m a b = ap (λ z. MoreExp (expr_view z) (MoreExp (expr_view y) NoExp)) (sym a) ∙ ap (λ z. MoreExp (expr_view e) (MoreExp (expr_view z) NoExp)) (sym b)
two_items (x ∷ (y ∷ (z ∷ es))) e f l m a b = absurd (omega (arith, m))

exps_count : Exps → ℕ
exps_count NoExp = 0
exps_count (MoreExp e es) = suc (exps_count es)

count_is : (es : List Expr) → exps_count (exprs_view es) ≡ length es
unfolding exps_count
count_is [] = refl
count_is (e ∷ es) = ap suc (count_is es)

-- what follows does the same after each value
alike : {E T A B : Type 0} (r : Res E T A) (k l : A → T → Res E T B) → ((a : A) (s : T) → k a s ≡ l a s) → bind r k ≡ bind r l
alike (Go a s) k l h = h a s
alike (Stop e s) k l h = refl

module _ (p : Program) (I : List Placed) (n : ℕ) (at : Where) where
  abbrev evaluating : Exps → Left → Res Stopped Left (List (ℤ × IntType))
  evaluating es s = evals p (havocked p I) (calls p I n) at es s

  -- the cell that indexes name
  abbrev finding : ℕ → List (ℤ × IntType) → Left → Res Stopped Left Key
  finding o js = havoc_key p I o (cell_among (size_of_object p o) (columns_of_object p o) js)

  -- where what follows needs but the number of indexes, it follows their effects
  counted : {B : Type 0} (es : Exps) (k : List (ℤ × IntType) → Left → Res Stopped Left B) (x : Left → Res Stopped Left B) → ((js : List (ℤ × IntType)) → length js ≡ exps_count es → (t : Left) → k js t ≡ x t)
      → (s : Left) → bind (evaluating es s) k ≡ bind (evaluated_all p I n at es s) (λ _. x)
  unfolding exps_count
  counted NoExp k x h s = h [] refl s
  counted (MoreExp e es) k x h s =
      let r = evaluated p I n at Used e s in
      bind_on r (λ v t. bind (evaluating es t) (λ ws u. Go ((v, type_of e) ∷ ws) u)) k
      ∙ alike r _ _ (λ v t.
      bind_on (evaluating es t) (λ ws u. Go ((v, type_of e) ∷ ws) u) k
      ∙ counted es (λ ws. k ((v, type_of e) ∷ ws)) x (λ js l u. h ((v, type_of e) ∷ js) (ap suc l) u) t)
      ∙ sym (bind_on r (λ _. evaluated_all p I n at es) (λ _. x))

  many_are : (spot : Spot) (o : ℕ) (es : List Expr) (s : Left) → 3 ≤ length es
      → placed_at p I n at spot (Index o (exprs_view es)) s ≡ bind (evaluated_all p I n at (exprs_view es) s) (λ _. havoc_key p I o None)
  many_are spot o es s m =
      counted (exprs_view es) (finding o) (havoc_key p I o None) (λ js l t.
      ap (λ i. havoc_key p I o i t) (none_among (size_of_object p o) (columns_of_object p o) js (omega (arith, m, l, count_is es)))) s

  -- one index
  module _ (spot : Spot) (o : ℕ) (i : Exp) (s t : Left) where
    abbrev one_is : placed_at p I n at spot (Index o (MoreExp i NoExp)) s ≡ bind (evaluated p I n at Used i s) (λ v. havoc_key p I o (index_below (size_of_object p o) v))
    one_is = one_index (evaluated p I n at Used i s) (type_of i) (finding o)

    pub one_halts : (h : Halt) → Gives same (Err h) t (evaluated p I n at Used i s) → Gives key_of (Err h) t (placed_at p I n at spot (Index o (MoreExp i NoExp)) s)
    one_halts h g = subst (Gives key_of (Err h) t) (sym one_is) (halted same key_of h t (evaluated p I n at Used i s) (λ v. havoc_key p I o (index_below (size_of_object p o) v)) g)

    pub one_goes : (v : ℤ) (u : Left) (r : Result Element Halt) → Gives same (Ok v) t (evaluated p I n at Used i s)
        → Gives key_of r u (havoc_key p I o (index_below (size_of_object p o) v) t) → Gives key_of r u (placed_at p I n at spot (Index o (MoreExp i NoExp)) s)
    one_goes v u r e g =
        subst (Gives key_of r u) (sym one_is)
        (passed same key_of v t u (evaluated p I n at Used i s) (λ x. havoc_key p I o (index_below (size_of_object p o) x)) r e g)

  -- two indexes
  module _ (spot : Spot) (o : ℕ) (i j : Exp) (s t : Left) where
    abbrev row_cell : ℤ → ℤ → Left → Res Stopped Left Key
    row_cell v w = havoc_key p I o (in_row (columns_of_object p o) (index_below (size_of_object p o / columns_of_object p o) v) (index_below (columns_of_object p o) w))

    abbrev column : ℤ → Left → Res Stopped Left Key
    column v t = bind (evaluated p I n at Used j t) (row_cell v)

    abbrev two_are : placed_at p I n at spot (Index o (MoreExp i (MoreExp j NoExp))) s ≡ bind (evaluated p I n at Used i s) column
    two_are = two_indexes (evaluated p I n at Used i s) (evaluated p I n at Used j) (type_of i) (type_of j) (finding o)

    pub row_halts : (h : Halt) → Gives same (Err h) t (evaluated p I n at Used i s) → Gives key_of (Err h) t (placed_at p I n at spot (Index o (MoreExp i (MoreExp j NoExp))) s)
    row_halts h g = subst (Gives key_of (Err h) t) (sym two_are) (halted same key_of h t (evaluated p I n at Used i s) column g)

    pub column_halts : (v : ℤ) (u : Left) (h : Halt) → Gives same (Ok v) t (evaluated p I n at Used i s) → Gives same (Err h) u (evaluated p I n at Used j t)
        → Gives key_of (Err h) u (placed_at p I n at spot (Index o (MoreExp i (MoreExp j NoExp))) s)
    column_halts v u h e g =
        subst (Gives key_of (Err h) u) (sym two_are)
        (passed same key_of v t u (evaluated p I n at Used i s) column (Err h) e (halted same key_of h u (evaluated p I n at Used j t) (row_cell v) g))

    pub two_go : (v w : ℤ) (u x : Left) (r : Result Element Halt) → Gives same (Ok v) t (evaluated p I n at Used i s) → Gives same (Ok w) u (evaluated p I n at Used j t)
        → Gives key_of r x (row_cell v w u) → Gives key_of r x (placed_at p I n at spot (Index o (MoreExp i (MoreExp j NoExp))) s)
    two_go v w u x r e f g =
        subst (Gives key_of r x) (sym two_are)
        (passed same key_of v t x (evaluated p I n at Used i s) column r e (passed same key_of w u x (evaluated p I n at Used j t) (row_cell v) r f g))

  -- more indexes
  module _ (spot : Spot) (o : ℕ) (es : List Expr) (s t : Left) (m : 3 ≤ length es) where
    pub many_halt : (h : Halt) → Gives same (Err h) t (evaluated_all p I n at (exprs_view es) s) → Gives key_of (Err h) t (placed_at p I n at spot (Index o (exprs_view es)) s)
    many_halt h e = subst (Gives key_of (Err h) t) (sym (many_are spot o es s m)) (halted same key_of h t (evaluated_all p I n at (exprs_view es) s) (λ _. havoc_key p I o None) e)

    pub many_go : Gives same (Ok tt) t (evaluated_all p I n at (exprs_view es) s) → Gives key_of (Err (Ends Passes)) t (placed_at p I n at spot (Index o (exprs_view es)) s)
    many_go e =
        subst (Gives key_of (Err (Ends Passes)) t) (sym (many_are spot o es s m))
        (passed same key_of tt t t (evaluated_all p I n at (exprs_view es) s) (λ _. havoc_key p I o None) (Err (Ends Passes)) e refl)

  -- expressions in turn
  module _ (es : List Expr) (i : ℕ) (e : Expr) (behind : drop i es ≡ e ∷ drop (suc i) es) (s u : Left) (whole : Res Stopped Left (Unit {0})) (rest : evaluated_all p I n at (exprs_view (drop i es)) s ≡ whole) where
    abbrev others : ℤ → Left → Res Stopped Left (Unit {0})
    others _ = evaluated_all p I n at (exprs_view (drop (suc i) es))

    next_expression : bind (evaluated p I n at Used (expr_view e) s) others ≡ whole
    next_expression = ap (λ b. evaluated_all p I n at (exprs_view b) s) (sym behind) ∙ rest

    pub all_halted : (h : Halt) → Gives same (Err h) u (evaluated p I n at Used (expr_view e) s) → Gives same (Err h) u whole
    all_halted h g = subst (Gives same (Err h) u) next_expression (halted same same h u (evaluated p I n at Used (expr_view e) s) others g)

    pub all_on : (v : ℤ) → evaluated p I n at Used (expr_view e) s ≡ Go v u → evaluated_all p I n at (exprs_view (drop (suc i) es)) u ≡ whole
    all_on v g = ap (λ q. bind q others) (sym g) ∙ next_expression
