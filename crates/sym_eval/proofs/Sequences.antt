-- Parts one after another: those before an index, and one more.
use Rattle.std.proofs.Common.{◌≡◌, ℕ, zero, suc, ◌+◌, ◌*◌, ◌≤◌, nat_le, ◌<◌, Bool, true, false, ◌&&◌, ℤ, List, [], ◌∷◌, ◌++◌, length, take, drop, get_or, refl, sym, ◌∙◌, ap, subst, arith, IsTrue, Option, append-nil, slice_get}
use Rattle.std.proofs.Math.Seq.{take-suc}
use Rattle.std.proofs.lemmas.List.{take-append-drop, length-take-le}
use Rattle.std.specs.List.{list_all, flat_map}
use Rattle.c_core.specs.Tree.{Program, Exp, Init, Names, NoName, MoreName, Stm}
use Rattle.c_core.specs.Parts.{exps_in, fulls_of_init, fulls_of_names, every_statement, every_statement_of}
use Rattle.c_core.specs.Types.{fit}
use Rattle.c_core.specs.Typing.{is_typed, has_value, row_fits, init_fits, declarators_fit}
use Rattle.c_core.specs.View.{expr_view, exprs_view, init_view, names_view, rows_view, stmt_view, stmts_view}
use Rattle.c_core.specs.declared.number.IntType.{IntType}
use Rattle.c_core.specs.declared.number.Spot.{Spot}
use Rattle.c_core.specs.declared.tree.Declared.{Declared}
use Rattle.c_core.specs.declared.tree.Expr.{Expr}
use Rattle.c_core.specs.declared.tree.Row.{Row}
use Rattle.c_core.specs.declared.tree.Stmt.{Stmt}
use Rattle.c_meaning.specs.Acts.{Res, Go, Stop, Flow, Next, Broken, Again, Gave, bind, go_on}
use Rattle.c_meaning.specs.Acts as acts
use Rattle.c_meaning.specs.Cells.{cells_from, put}
use Rattle.c_meaning.specs.Exec.{full, declare, initial, initials, row_initials, exec, execs}
use Rattle.c_meaning.specs.Havoc.{Stopped}
use Rattle.sym_meaning.specs.Mode.{JudgedState, cells_judged, with_cells_judged, Mode}
use Rattle.sym_meaning.specs.Judged.{judged}
use Rattle.c_meaning.specs.Meaning.{Calls, ACell, Used}
use Rattle.c_meaning.specs.Objects.{size_of_object, columns_of_object, type_of_object}
use Rattle.c_meaning.proofs.TypeFacts.{both, of_both}
use Rattle.sym_flow.proofs.Declares.{no_ticks}
use Rattle.sym_flow.proofs.Draws.{after_both}
use Rattle.sym_scale.specs.Cost.{Cost}
use Rattle.sym_scale.specs.Cost as cost

-- ---- results of parts
-- a statement, and then nothing
pub go_end : (r : Res Stopped JudgedState Flow) → bind r (go_on (λ s. Go Next s)) ≡ r
go_end (Go Next s) = refl
go_end (Go Broken s) = refl
go_end (Go Again s) = refl
go_end (Go (Gave v) s) = refl
go_end (Stop e s) = refl

-- three statements one after another
pub go_both : (r : Res Stopped JudgedState Flow) (f g : JudgedState → Res Stopped JudgedState Flow) → bind r (go_on (λ s. bind (f s) (go_on g))) ≡ bind (bind r (go_on f)) (go_on g)
go_both (Go Next s) f g = refl
go_both (Go Broken s) f g = refl
go_both (Go Again s) f g = refl
go_both (Go (Gave v) s) f g = refl
go_both (Stop e s) f g = refl

-- ---- lists
front_more : {A : Type 0} (xs : List A) (k : ℕ) (d : A) → k < length xs → take (k + 1) xs ≡ take k xs ++ get_or xs k d ∷ []
front_more xs k d h = let e : k + 1 ≡ suc k = omega arith in ap (λ j. take j xs) e ∙ take-suc xs k d h

-- ---- amounts add up
module _ (p : Program) (C : Cost) where
  -- ---- statements of a block
  module _ (gives : Option IntType) where
    statements_append : (xs ys : List Stmt) → cost.statements p C gives (stmts_view (xs ++ ys)) ≡ cost.statements p C gives (stmts_view xs) + cost.statements p C gives (stmts_view ys)
    statements_append [] ys = omega arith
    statements_append (x ∷ xs) ys = omega (arith, statements_append xs ys)

    pub statements_more : (xs : List Stmt) (k : ℕ) (d : Stmt) → k < length xs
        → cost.statements p C gives (stmts_view (take (k + 1) xs)) ≡ cost.statements p C gives (stmts_view (take k xs)) + cost.statement p C gives (stmt_view (get_or xs k d))
    statements_more xs k d h = omega (arith, ap (λ z. cost.statements p C gives (stmts_view z)) (front_more xs k d h), statements_append (take k xs) (get_or xs k d ∷ []))

    pub statements_within : (xs : List Stmt) (k : ℕ) → cost.statements p C gives (stmts_view (take k xs)) ≤ cost.statements p C gives (stmts_view xs)
    statements_within xs k = omega (arith, ap (λ z. cost.statements p C gives (stmts_view z)) (take-append-drop k xs), statements_append (take k xs) (drop k xs))

  -- ---- declared names
  names_append : (xs ys : List Declared) → cost.declared p C (names_view (xs ++ ys)) ≡ cost.declared p C (names_view xs) + cost.declared p C (names_view ys)
  names_append [] ys = omega arith
  names_append (x ∷ xs) ys = omega (arith, names_append xs ys)

  pub names_more : (xs : List Declared) (k : ℕ) (d : Declared) → k < length xs → cost.declared p C (names_view (take (k + 1) xs)) ≡ cost.declared p C (names_view (take k xs)) + cost.declared p C (names_view (get_or xs k d ∷ []))
  names_more xs k d h = ap (λ z. cost.declared p C (names_view z)) (front_more xs k d h) ∙ names_append (take k xs) (get_or xs k d ∷ [])

  pub names_within : (xs : List Declared) (k : ℕ) → cost.declared p C (names_view (take k xs)) ≤ cost.declared p C (names_view xs)
  names_within xs k = omega (arith, ap (λ z. cost.declared p C (names_view z)) (take-append-drop k xs), names_append (take k xs) (drop k xs))

  -- ---- values of an initializer
  module _ (o : ℕ) where
    initials_append : (xs ys : List Expr) → cost.initials p C o (exprs_view (xs ++ ys)) ≡ cost.initials p C o (exprs_view xs) + cost.initials p C o (exprs_view ys)
    initials_append [] ys = omega arith
    initials_append (x ∷ xs) ys = omega (arith, initials_append xs ys)

    pub initials_more : (xs : List Expr) (k : ℕ) (d : Expr) → k < length xs → cost.initials p C o (exprs_view (take (k + 1) xs)) ≡ cost.initials p C o (exprs_view (take k xs)) + cost.initials p C o (exprs_view (get_or xs k d ∷ []))
    initials_more xs k d h = ap (λ z. cost.initials p C o (exprs_view z)) (front_more xs k d h) ∙ initials_append (take k xs) (get_or xs k d ∷ [])

    pub initials_within : (xs : List Expr) (k : ℕ) → cost.initials p C o (exprs_view (take k xs)) ≤ cost.initials p C o (exprs_view xs)
    initials_within xs k = omega (arith, ap (λ z. cost.initials p C o (exprs_view z)) (take-append-drop k xs), initials_append (take k xs) (drop k xs))

  -- ---- rows of an initializer
  module _ (o : ℕ) where
    rows_append : (xs ys : List Row) → cost.row_initials p C o (rows_view (xs ++ ys)) ≡ cost.row_initials p C o (rows_view xs) + cost.row_initials p C o (rows_view ys)
    rows_append [] ys = omega arith
    rows_append (x ∷ xs) ys = omega (arith, rows_append xs ys)

    pub rows_more : (xs : List Row) (k : ℕ) (d : Row) → k < length xs → cost.row_initials p C o (rows_view (take (k + 1) xs)) ≡ cost.row_initials p C o (rows_view (take k xs)) + cost.initials p C o (exprs_view (get_or xs k d).values)
    rows_more xs k d h = omega (arith, ap (λ z. cost.row_initials p C o (rows_view z)) (front_more xs k d h), rows_append (take k xs) (get_or xs k d ∷ []))

    pub rows_within : (xs : List Row) (k : ℕ) → cost.row_initials p C o (rows_view (take k xs)) ≤ cost.row_initials p C o (rows_view xs)
    rows_within xs k = omega (arith, ap (λ z. cost.row_initials p C o (rows_view z)) (take-append-drop k xs), rows_append (take k xs) (drop k xs))

-- ---- typed parts at an index
pub statement_typed : (q : Stm → Bool) (xs : List Stmt) (k : ℕ) (d : Stmt) → k < length xs → IsTrue (every_statement_of q (stmts_view xs)) → IsTrue (every_statement q (stmt_view (get_or xs k d)))
statement_typed q [] k d h t = absurd (omega (arith, h))
statement_typed q (x ∷ xs) zero d h t = (both (every_statement q (stmt_view x)) (every_statement_of q (stmts_view xs)) t).0
statement_typed q (x ∷ xs) (suc k) d h t = statement_typed q xs k d (omega (arith, h)) (both (every_statement q (stmt_view x)) (every_statement_of q (stmts_view xs)) t).1

pub yes_and : (a b : Bool) → IsTrue a → IsTrue b → IsTrue (a && b)
yes_and true b h q = q
yes_and false b h q = h

pub name_typed : (p : Program) (xs : List Declared) (k : ℕ) (d : Declared) → k < length xs → IsTrue (declarators_fit p (names_view xs)) → IsTrue (list_all (is_typed p) (fulls_of_names (names_view xs)))
    → IsTrue (declarators_fit p (names_view (get_or xs k d ∷ [])) && list_all (is_typed p) (fulls_of_names (names_view (get_or xs k d ∷ []))))
name_typed p [] k d h f t = absurd (omega (arith, h))
name_typed p (x ∷ xs) zero d h f t =
    let init = init_view x.init in
    let a = (both (init_fits (slice_get p.objects x.object) init) (declarators_fit p (names_view xs)) f).0 in
    let b = (of_both (is_typed p) (fulls_of_init init) (fulls_of_names (names_view xs)) t).0 in
    yes_and (declarators_fit p (MoreName x.spot x.object init NoName)) (list_all (is_typed p) (fulls_of_init init ++ [])) (yes_and (init_fits (slice_get p.objects x.object) init) true a refl)
    (subst (λ z. IsTrue (list_all (is_typed p) z)) (sym (append-nil (fulls_of_init init))) b)
name_typed p (x ∷ xs) (suc k) d h f t =
    let init = init_view x.init in
    name_typed p xs k d (omega (arith, h)) (both (init_fits (slice_get p.objects x.object) init) (declarators_fit p (names_view xs)) f).1
    (of_both (is_typed p) (fulls_of_init init) (fulls_of_names (names_view xs)) t).1

-- a test of each value holds of one
pub value_typed : (q : Exp → Bool) (xs : List Expr) (k : ℕ) (d : Expr) → k < length xs → IsTrue (list_all q (exps_in (exprs_view xs))) → IsTrue (list_all q (exps_in (exprs_view (get_or xs k d ∷ []))))
value_typed q [] k d h t = absurd (omega (arith, h))
value_typed q (x ∷ xs) zero d h t = yes_and (q (expr_view x)) true (both (q (expr_view x)) (list_all q (exps_in (exprs_view xs))) t).0 refl
value_typed q (x ∷ xs) (suc k) d h t = value_typed q xs k d (omega (arith, h)) (both (q (expr_view x)) (list_all q (exps_in (exprs_view xs))) t).1

-- a test of each value of rows holds of a row's
pub row_typed : (q : Exp → Bool) (xs : List Row) (k : ℕ) (d : Row) → k < length xs → IsTrue (list_all q (flat_map exps_in (rows_view xs))) → IsTrue (list_all q (exps_in (exprs_view (get_or xs k d).values)))
row_typed q [] k d h t = absurd (omega (arith, h))
row_typed q (x ∷ xs) zero d h t = (of_both q (exps_in (exprs_view x.values)) (flat_map exps_in (rows_view xs)) t).0
row_typed q (x ∷ xs) (suc k) d h t = row_typed q xs k d (omega (arith, h)) (of_both q (exps_in (exprs_view x.values)) (flat_map exps_in (rows_view xs)) t).1

-- each row has values
pub row_valued : (c : ℕ) (xs : List Row) (k : ℕ) (d : Row) → k < length xs → IsTrue (list_all (row_fits c) (rows_view xs)) → IsTrue (list_all has_value (exps_in (exprs_view (get_or xs k d).values)))
row_valued c [] k d h t = absurd (omega (arith, h))
row_valued c (x ∷ xs) zero d h t =
    let es = exps_in (exprs_view x.values) in
    (both (list_all has_value es) (nat_le (length es) c) (both (row_fits c (exprs_view x.values)) (list_all (row_fits c) (rows_view xs)) t).0).0
row_valued c (x ∷ xs) (suc k) d h t = row_valued c xs k d (omega (arith, h)) (both (row_fits c (exprs_view x.values)) (list_all (row_fits c) (rows_view xs)) t).1

-- ---- what they do
module _ (p : Program) (W : Mode) (call : Calls (judged p W)) where
  module _ (gives : Option IntType) where
    execs_snoc : (xs : List Stmt) (x : Stmt) (s : JudgedState)
        → execs p (judged p W) call gives (stmts_view (xs ++ x ∷ [])) true s ≡ bind (execs p (judged p W) call gives (stmts_view xs) true s) (go_on (exec p (judged p W) call gives (stmt_view x) true))
    execs_snoc [] x s = go_end (exec p (judged p W) call gives (stmt_view x) true s)
    execs_snoc (y ∷ ys) x s =
        let r = exec p (judged p W) call gives (stmt_view y) true s in
        ap (λ k. bind r (go_on k)) (λ i t. execs_snoc ys x t i) ∙ go_both r (execs p (judged p W) call gives (stmts_view ys) true) (exec p (judged p W) call gives (stmt_view x) true)

    pub execs_more : (xs : List Stmt) (k : ℕ) (d : Stmt) → k < length xs → (s : JudgedState)
        → bind (execs p (judged p W) call gives (stmts_view (take k xs)) true s) (go_on (exec p (judged p W) call gives (stmt_view (get_or xs k d)) true)) ≡ execs p (judged p W) call gives (stmts_view (take (k + 1) xs)) true s
    execs_more xs k d h s = sym (execs_snoc (take k xs) (get_or xs k d) s) ∙ ap (λ z. execs p (judged p W) call gives (stmts_view z) true s) (sym (front_more xs k d h))

  -- the state in which an object's cells stand
  abbrev with_object : ℕ → JudgedState → JudgedState
  with_object o s = with_cells_judged (s.cells ++ cells_from o 0 (size_of_object p o) []) s

  name_is : (at spot : Spot) (o : ℕ) (x : Init) (ns : Names) (s : JudgedState)
      → declare p (judged p W) call at (MoreName spot o x ns) true s ≡ bind (initial p (judged p W) call at spot o x (with_object o s)) (λ u. declare p (judged p W) call at ns true)
  name_is at spot o x ns s =
      ap (λ z. bind z (λ u s. bind (acts.declare Stopped JudgedState cells_judged with_cells_judged o (size_of_object p o) s) (go_on (λ s. bind (initial p (judged p W) call at spot o x s) (λ u. declare p (judged p W) call at ns true)))))
      (no_ticks p W ACell (size_of_object p o) s)

  names_snoc : (at : Spot) (xs : List Declared) (x : Declared) (s : JudgedState)
      → declare p (judged p W) call at (names_view (xs ++ x ∷ [])) true s ≡ bind (declare p (judged p W) call at (names_view xs) true s) (go_on (declare p (judged p W) call at (names_view (x ∷ [])) true))
  names_snoc at [] x s = refl
  names_snoc at (y ∷ ys) x s =
      let r = initial p (judged p W) call at y.spot y.object (init_view y.init) (with_object y.object s) in
      let last = declare p (judged p W) call at (names_view (x ∷ [])) true in
      name_is at y.spot y.object (init_view y.init) (names_view (ys ++ x ∷ [])) s ∙ ap (bind r) (λ i u t. names_snoc at ys x t i) ∙ after_both p r (λ u. declare p (judged p W) call at (names_view ys) true) (go_on last)
      ∙ ap (λ z. bind z (go_on last)) (sym (name_is at y.spot y.object (init_view y.init) (names_view ys) s))

  pub declare_more : (at : Spot) (xs : List Declared) (k : ℕ) (d : Declared) → k < length xs → (s : JudgedState)
      → bind (declare p (judged p W) call at (names_view (take k xs)) true s) (go_on (declare p (judged p W) call at (names_view (get_or xs k d ∷ [])) true)) ≡ declare p (judged p W) call at (names_view (take (k + 1) xs)) true s
  declare_more at xs k d h s = sym (names_snoc at (take k xs) (get_or xs k d) s) ∙ ap (λ z. declare p (judged p W) call at (names_view z) true s) (sym (front_more xs k d h))

  -- the state in which a value of an object's initializer is stored
  abbrev with_value : ℕ → ℕ → ℤ → JudgedState → JudgedState
  with_value o i z s = with_cells_judged (put (record { object = o; index = i }) (fit p.model (type_of_object p o) z) s.cells) s

  initials_snoc : (at : Spot) (o i : ℕ) (xs : List Expr) (x : Expr) (s : JudgedState)
      → initials p (judged p W) call at o i (exprs_view (xs ++ x ∷ [])) s ≡ bind (initials p (judged p W) call at o i (exprs_view xs) s) (λ u. initials p (judged p W) call at o (i + length xs) (exprs_view (x ∷ [])))
  initials_snoc at o i [] x s = let e : i ≡ i + 0 = omega arith in ap (λ j. initials p (judged p W) call at o j (exprs_view (x ∷ [])) s) e
  initials_snoc at o i (y ∷ ys) x s =
      let e : suc i + length ys ≡ i + suc (length ys) = omega arith in
      let r = full p (judged p W) call at Used (expr_view y) s in
      let front : ℤ → JudgedState → Res Stopped JudgedState (Unit {0}) = λ z t. initials p (judged p W) call at o (suc i) (exprs_view ys) (with_value o i z t) in
      let last : ℕ → JudgedState → Res Stopped JudgedState (Unit {0}) = λ j. initials p (judged p W) call at o j (exprs_view (x ∷ [])) in
      ap (bind r) (λ j z t. initials_snoc at o (suc i) ys x (with_value o i z t) j) ∙ after_both p r front (λ u. last (suc i + length ys)) ∙ ap (λ j. bind (bind r front) (λ u. last j)) e

  pub values_more : (at : Spot) (o i : ℕ) (xs : List Expr) (k : ℕ) (d : Expr) → k < length xs → (s : JudgedState)
      → bind (initials p (judged p W) call at o i (exprs_view (take k xs)) s) (λ u. initials p (judged p W) call at o (i + k) (exprs_view (get_or xs k d ∷ []))) ≡ initials p (judged p W) call at o i (exprs_view (take (k + 1) xs)) s
  values_more at o i xs k d h s =
      let e : i + k ≡ i + length (take k xs) = omega (arith, length-take-le k xs (omega (arith, h))) in
      ap (λ j. bind (initials p (judged p W) call at o i (exprs_view (take k xs)) s) (λ u. initials p (judged p W) call at o j (exprs_view (get_or xs k d ∷ [])))) e ∙ sym (initials_snoc at o i (take k xs) (get_or xs k d) s)
      ∙ ap (λ z. initials p (judged p W) call at o i (exprs_view z) s) (sym (front_more xs k d h))

  -- rows one after another, each from its own cell on
  units_end : (r : Res Stopped JudgedState (Unit {0})) → bind r (λ u s. Go tt s) ≡ r
  units_end (Go u s) = refl
  units_end (Stop e s) = refl

  rows_snoc : (at : Spot) (o i : ℕ) (xs : List Row) (x : Row) (s : JudgedState) → row_initials p (judged p W) call at o i (rows_view (xs ++ x ∷ [])) s
      ≡ bind (row_initials p (judged p W) call at o i (rows_view xs) s) (λ u. initials p (judged p W) call at o (i + length xs * columns_of_object p o) (exprs_view x.values))
  rows_snoc at o i [] x s =
      let e : i ≡ i + 0 * columns_of_object p o = omega arith in
      units_end (initials p (judged p W) call at o i (exprs_view x.values) s) ∙ ap (λ j. initials p (judged p W) call at o j (exprs_view x.values) s) e
  rows_snoc at o i (y ∷ ys) x s =
      let c = columns_of_object p o in
      let e : i + c + length ys * c ≡ i + suc (length ys) * c = omega arith in
      let r = initials p (judged p W) call at o i (exprs_view y.values) s in
      let front : Unit {0} → JudgedState → Res Stopped JudgedState (Unit {0}) = λ u t. row_initials p (judged p W) call at o (i + c) (rows_view ys) t in
      let last : ℕ → JudgedState → Res Stopped JudgedState (Unit {0}) = λ j. initials p (judged p W) call at o j (exprs_view x.values) in
      ap (bind r) (λ j u t. rows_snoc at o (i + c) ys x t j) ∙ after_both p r front (λ u. last (i + c + length ys * c)) ∙ ap (λ j. bind (bind r front) (λ u. last j)) e

  pub row_values_more : (at : Spot) (o : ℕ) (xs : List Row) (k : ℕ) (d : Row) → k < length xs → (s : JudgedState)
      → bind (row_initials p (judged p W) call at o 0 (rows_view (take k xs)) s) (λ u. initials p (judged p W) call at o (k * columns_of_object p o) (exprs_view (get_or xs k d).values))
      ≡ row_initials p (judged p W) call at o 0 (rows_view (take (k + 1) xs)) s
  row_values_more at o xs k d h s =
      let e : k * columns_of_object p o ≡ 0 + length (take k xs) * columns_of_object p o = ap (λ j. j * columns_of_object p o) (sym (length-take-le k xs (omega (arith, h)))) ∙ (let f : length (take k xs) * columns_of_object p o ≡ 0 + length (take k xs) * columns_of_object p o = omega arith in f) in
      ap (λ j. bind (row_initials p (judged p W) call at o 0 (rows_view (take k xs)) s) (λ u. initials p (judged p W) call at o j (exprs_view (get_or xs k d).values))) e ∙ sym (rows_snoc at o 0 (take k xs) (get_or xs k d) s)
      ∙ ap (λ z. row_initials p (judged p W) call at o 0 (rows_view z) s) (sym (front_more xs k d h))
