-- Declared names: their cells, and what these hold.
use Rattle.std.proofs.Common.{◌≡◌, ℕ, ◌+◌, ◌*◌, ◌≤◌, ◌<◌, ◌^◌, true, not, ◌&&◌, List, [], ◌∷◌, ◌++◌, append-nil, length, take, get_or, refl, sym, ◌∙◌, ap, ap₂, subst, arith, Option, Some, None, IsTrue, slice_get, nat_eq, nat_le}
use Rattle.std.specs.List.{list_all, flat_map}
use Rattle.c_core.specs.Tree.{Program, Exp, Exps, NoExp, MoreExp, Init, Absent, One, Many, Rows, Names, NoName, MoreName, NoFirst, FirstExp, FirstNames}
use Rattle.c_core.specs.Parts.{type_of as type_if, exps_in, fulls_of_init, fulls_of_names}
use Rattle.c_core.specs.Types.{fit, width_of}
use Rattle.c_core.specs.Typing.{is_array, is_typed, has_value, row_fits, init_fits, declarators_fit}
use Rattle.c_core.specs.View.{expr_view, exprs_view, names_view, rows_view}
use Rattle.c_core.specs.declared.number.IntType.{IntType}
use Rattle.c_core.specs.declared.number.Spot.{Spot}
use Rattle.c_core.specs.declared.tree.Declared.{Declared}
use Rattle.c_core.specs.declared.tree.Expr as rust
use Rattle.c_core.specs.declared.tree.Object.{Object}
use Rattle.c_core.specs.declared.tree.Row.{Row}
use Rattle.c_meaning.specs.declared.run.DrawKind.TheVariants.{Cell}
use Rattle.c_meaning.specs.Acts.{Go, Next, bind, go_on}
use Rattle.c_meaning.specs.Exec.{declare, initials, row_initials}
use Rattle.sym_meaning.specs.Mode.{Mode}
use Rattle.sym_meaning.specs.Judged.{judged}
use Rattle.c_meaning.specs.Meaning.{Used, Unused}
use Rattle.c_meaning.specs.Objects.{type_of, type_of_object, size_of_object, columns_in, columns_of_object}
use Rattle.c_meaning.proofs.TypeFacts.{both, neither}
use Rattle.circuits.specs.declared.net.Bit.{Bit}
use Rattle.circuits.specs.Net.{holds}
use Rattle.circuits.specs.Numbers.{typed, AreTyped}
use Rattle.circuits.specs.Outcome.{conversion_cost}
use Rattle.sym_state.specs.declared.state.Sym.{Sym}
use Rattle.sym_state.specs.Places.{key}
use Rattle.sym_state.specs.Standing.{stand, IsState, Turned, stored}
use Rattle.sym_state.specs.Following.{Follows}
use Rattle.sym_state.proofs.Nets.{longer_by}
use Rattle.sym_state.proofs.Composed.{follows_then, follows_as}
use Rattle.sym_state.proofs.Turning.{turned_as, turned_then}
use Rattle.sym_values.specs.Valuing.{Reckoned}
use Rattle.sym_flow.specs.Drawing.{cells_drawn, bits_of_cells}
use Rattle.sym_flow.specs.Ways.{Became, declaring}
use Rattle.sym_flow.proofs.Declares.{names_run, initials_next}
use Rattle.sym_flow.proofs.Draws.{nothing_follows, stored_follows, declared_drawn}
use Rattle.sym_flow.proofs.Forms.{first_expression_runs, first_names_run}
use Rattle.sym_flow.proofs.Statements.{runs_then, runs_as, skip_runs}
use Rattle.sym_exprs.proofs.Costs.{conversion_costs}
use Rattle.sym_exprs.proofs.Typed.{has_one}
use Rattle.sym_scale.specs.Cost.{nodes, bits}
use Rattle.sym_eval.specs.Control.{FullReady, FullGives}
use Rattle.sym_eval.specs.Doing.{calls, weight_of_initials, bits_of_initials, InitialsReady, InitialsDo, weight_of_rows, bits_of_rows, RowsReady, RowsDo, InitialReady, InitialDoes, weight_of_names, bits_of_names, NamesReady, NamesDo, weight_of_first, bits_of_first, FirstReady, FirstDoes}
use Rattle.sym_eval.proofs.Fulls.{only_one, full_in, number_as}
use Rattle.sym_eval.proofs.Sequences.{names_more, names_within, initials_more, initials_within, rows_more, rows_within, yes_and, name_typed, value_typed, row_typed, row_valued, declare_more, values_more, row_values_more}

module _ (p : Program) (W : Mode) (n : ℕ) where
  -- ---- one value of an initializer
  module _ (at : Spot) (o i : ℕ) (e : Exp) {s : Sym} (r : InitialsReady p W n o s (MoreExp e NoExp)) where
    stored_type : type_if e ≡ Some (type_of e)
    stored_type = has_one e (only_one has_value e r.values)

    pub stored_ready : FullReady p W n s e
    stored_ready = record { fits = r.fits; types = only_one (is_typed p) e r.types; room = omega (arith, r.room) }

    module _ {a : Sym} {xs : List Bit} (x : FullGives p W n at Used e s a xs) (from : IntType) (ef : from ≡ type_of e) where
      pub stored_in : AreTyped p.model from a.net xs
      stored_in = rw ef (full_in p W n at Used e (type_of e) stored_type x)

      pub stored_room : length a.net < 2 ^ 28
      stored_room = omega (arith, (longer_by x.follows.added).1, r.room)

      module _ (to : IntType) (et : to ≡ type_of_object p o) {b : Sym} {ys : List Bit} (y : Reckoned p (conversion_cost p.model from to) a b to ys (λ v. fit p.model to (typed p.model from v a.net xs))) where
        own : Reckoned p (conversion_cost p.model (type_of e) (type_of_object p o)) a b (type_of_object p o) ys (λ v. fit p.model (type_of_object p o) (typed p.model (type_of e) v a.net xs))
        own = subst (λ k. Reckoned p (conversion_cost p.model k (type_of_object p o)) a b (type_of_object p o) ys (λ v. fit p.model (type_of_object p o) (typed p.model k v a.net xs))) ef
            (subst (λ k. Reckoned p (conversion_cost p.model from k) a b k ys (λ v. fit p.model k (typed p.model from v a.net xs))) et y)

        pub store_in : AreTyped p.model (type_of_object p o) b.net ys
        store_in = own.bits_in

        pub store_room : length b.net < 2 ^ 28
        store_room = omega (arith, conversion_costs p.model (type_of e) (type_of_object p o), (longer_by x.follows.added).1, (longer_by own.turned.added).1, r.room)

        module _ {c : Sym} (w : Turned p (4 * width_of p.model (type_of_object p o)) 0 b c (λ v. stored (holds v b.net b.live) (key o i) (typed p.model (type_of_object p o) v b.net ys))) where
          both_turned : Turned p (conversion_cost p.model (type_of e) (type_of_object p o) + 4 * width_of p.model (type_of_object p o)) 0 a c (λ v. stored (holds v a.net a.live) (key o i) (fit p.model (type_of_object p o) (typed p.model (type_of e) v a.net xs)))
          both_turned =
              turned_as p (λ v. stored (holds v a.net a.live) (key o i) (fit p.model (type_of_object p o) (typed p.model (type_of e) v a.net xs)))
              (turned_then p (conversion_cost p.model (type_of e) (type_of_object p o) + 4 * width_of p.model (type_of_object p o)) 0 own.turned w (omega arith) (omega arith))
              (λ v j. stored (ap (λ z. z.live) (own.turned.is v) j) (key o i) (own.is v j) (stand p v a))

          pub stored_does : InitialsDo p W n at o i (MoreExp e NoExp) s c
          stored_does =
              initials_next p W W.duties None (calls p W n) true (weight_of_initials p W n o (MoreExp e NoExp)) (bits_of_initials p W n o (MoreExp e NoExp)) at o i e NoExp
              (λ v. fit p.model (type_of_object p o) (typed p.model (type_of e) v a.net xs)) x.follows
              (λ v z q. ap (fit p.model (type_of_object p o)) (number_as p W n a xs e (type_of e) stored_type v z q))
              (stored_follows p W.duties (key o i) (λ v. fit p.model (type_of_object p o) (typed p.model (type_of e) v a.net xs)) a c both_turned) (nothing_follows p W.duties c w.fits)
              (omega (arith, conversion_costs p.model (type_of e) (type_of_object p o))) (omega arith)

  -- ---- the values of an initializer, one after another
  pub values_none : (at : Spot) (o i : ℕ) (s : Sym) → IsState p s → InitialsDo p W n at o i (exprs_view []) s s
  values_none at o i s h = nothing_follows p W.duties s h

  module _ (at : Spot) (o i : ℕ) (xs : List rust.Expr) (k : ℕ) (x : rust.Expr) (h : k < length xs) (e : x ≡ get_or xs k x) where
    values_weight : weight_of_initials p W n o (exprs_view (take (k + 1) xs)) ≡ weight_of_initials p W n o (exprs_view (take k xs)) + weight_of_initials p W n o (exprs_view (x ∷ []))
    values_weight = initials_more p (nodes p W.scale n) o xs k x h ∙ ap (λ z. weight_of_initials p W n o (exprs_view (take k xs)) + weight_of_initials p W n o (exprs_view (z ∷ []))) (sym e)

    values_bits : bits_of_initials p W n o (exprs_view (take (k + 1) xs)) ≡ bits_of_initials p W n o (exprs_view (take k xs)) + bits_of_initials p W n o (exprs_view (x ∷ []))
    values_bits = initials_more p (bits p W.scale n) o xs k x h ∙ ap (λ z. bits_of_initials p W n o (exprs_view (take k xs)) + bits_of_initials p W n o (exprs_view (z ∷ []))) (sym e)

    values_weight_within : weight_of_initials p W n o (exprs_view (take (k + 1) xs)) ≤ weight_of_initials p W n o (exprs_view xs)
    values_weight_within = initials_within p (nodes p W.scale n) o xs (k + 1)

    values_bits_within : bits_of_initials p W n o (exprs_view (take (k + 1) xs)) ≤ bits_of_initials p W n o (exprs_view xs)
    values_bits_within = initials_within p (bits p W.scale n) o xs (k + 1)

    -- a value weighs no more than its initializer
    pub values_part : weight_of_initials p W n o (exprs_view (x ∷ [])) ≤ weight_of_initials p W n o (exprs_view xs)
    values_part = omega (arith, values_weight, values_weight_within)

    pub values_next : {s m : Sym} → InitialsReady p W n o s (exprs_view xs) → InitialsDo p W n at o i (exprs_view (take k xs)) s m → InitialsReady p W n o m (MoreExp (expr_view x) NoExp)
    values_next r y = record {
      fits = y.fits;
      types = subst (λ z. IsTrue (list_all (is_typed p) (exps_in (exprs_view (z ∷ []))))) (sym e) (value_typed (is_typed p) xs k x h r.types);
      values = subst (λ z. IsTrue (list_all has_value (exps_in (exprs_view (z ∷ []))))) (sym e) (value_typed has_value xs k x h r.values);
      room = omega (arith, (longer_by y.added).1, values_weight, values_bits, values_weight_within, values_bits_within, r.room);
    }

    pub values_on : {s m t : Sym} → InitialsDo p W n at o i (exprs_view (take k xs)) s m → InitialsDo p W n at o (i + k) (MoreExp (expr_view x) NoExp) m t → InitialsDo p W n at o i (exprs_view (take (k + 1) xs)) s t
    values_on y z =
        follows_as p W.duties
        (follows_then p W.duties (weight_of_initials p W n o (exprs_view (take (k + 1) xs))) (bits_of_initials p W n o (exprs_view (take (k + 1) xs))) (λ v u. initials p (judged p W) (calls p W n) at o (i + k) (exprs_view (x ∷ []))) y z
        (λ v u q w. refl) (omega (arith, values_weight)) (omega (arith, values_bits)))
        (λ v u q. q)
        (λ v w.
        ap (λ z. bind (initials p (judged p W) (calls p W n) at o i (exprs_view (take k xs)) w) (λ u. initials p (judged p W) (calls p W n) at o (i + k) (exprs_view (z ∷ [])))) e ∙ values_more p W (calls p W n) at o i xs k x h w)
        (omega arith) (omega arith)

  -- ---- the rows of an initializer, one after another
  pub rows_none : (at : Spot) (o : ℕ) (s : Sym) → IsState p s → RowsDo p W n at o (rows_view []) s s
  rows_none at o s h = nothing_follows p W.duties s h

  module _ (at : Spot) (o : ℕ) (xs : List Row) (k : ℕ) (x : Row) (h : k < length xs) (e : x ≡ get_or xs k x) where
    rows_weight : weight_of_rows p W n o (rows_view (take (k + 1) xs)) ≡ weight_of_rows p W n o (rows_view (take k xs)) + weight_of_initials p W n o (exprs_view x.values)
    rows_weight = rows_more p (nodes p W.scale n) o xs k x h ∙ ap (λ z. weight_of_rows p W n o (rows_view (take k xs)) + weight_of_initials p W n o (exprs_view z.values)) (sym e)

    rows_bits : bits_of_rows p W n o (rows_view (take (k + 1) xs)) ≡ bits_of_rows p W n o (rows_view (take k xs)) + bits_of_initials p W n o (exprs_view x.values)
    rows_bits = rows_more p (bits p W.scale n) o xs k x h ∙ ap (λ z. bits_of_rows p W n o (rows_view (take k xs)) + bits_of_initials p W n o (exprs_view z.values)) (sym e)

    rows_weight_within : weight_of_rows p W n o (rows_view (take (k + 1) xs)) ≤ weight_of_rows p W n o (rows_view xs)
    rows_weight_within = rows_within p (nodes p W.scale n) o xs (k + 1)

    rows_bits_within : bits_of_rows p W n o (rows_view (take (k + 1) xs)) ≤ bits_of_rows p W n o (rows_view xs)
    rows_bits_within = rows_within p (bits p W.scale n) o xs (k + 1)

    -- a row weighs no more than all
    pub rows_part : weight_of_initials p W n o (exprs_view x.values) ≤ weight_of_rows p W n o (rows_view xs)
    rows_part = omega (arith, rows_weight, rows_weight_within)

    pub rows_next : {s m : Sym} → RowsReady p W n o s (rows_view xs) → RowsDo p W n at o (rows_view (take k xs)) s m → InitialsReady p W n o m (exprs_view x.values)
    rows_next r y = record {
      fits = y.fits;
      types = subst (λ z. IsTrue (list_all (is_typed p) (exps_in (exprs_view z.values)))) (sym e) (row_typed (is_typed p) xs k x h r.types);
      values = subst (λ z. IsTrue (list_all has_value (exps_in (exprs_view z.values)))) (sym e) (row_valued (columns_of_object p o) xs k x h r.values);
      room = omega (arith, (longer_by y.added).1, rows_weight, rows_bits, rows_weight_within, rows_bits_within, r.room);
    }

    pub rows_on : {s m t : Sym} (i : ℕ) → i ≡ k * columns_of_object p o → RowsDo p W n at o (rows_view (take k xs)) s m → InitialsDo p W n at o i (exprs_view x.values) m t → RowsDo p W n at o (rows_view (take (k + 1) xs)) s t
    rows_on i ei y z =
        follows_as p W.duties
        (follows_then p W.duties (weight_of_rows p W n o (rows_view (take (k + 1) xs))) (bits_of_rows p W n o (rows_view (take (k + 1) xs))) (λ v u. initials p (judged p W) (calls p W n) at o i (exprs_view x.values)) y z
        (λ v u q w. refl) (omega (arith, rows_weight)) (omega (arith, rows_bits)))
        (λ v u q. q)
        (λ v w.
        ap₂ (λ j z. bind (row_initials p (judged p W) (calls p W n) at o 0 (rows_view (take k xs)) w) (λ u. initials p (judged p W) (calls p W n) at o j (exprs_view z.values))) ei e ∙ row_values_more p W (calls p W n) at o xs k x h w)
        (omega arith) (omega arith)

  -- ---- the initializer of a declared name
  pub absent_room : (o : ℕ) (s : Sym) → InitialReady p W n o s Absent → length s.net + 5 * bits_of_cells p o (size_of_object p o) < 2 ^ 27
  absent_room o s r = omega (arith, r.room)

  pub absent_does : (at spot : Spot) (o : ℕ) (s t : Sym)
      → Follows W.duties p (4 * bits_of_cells p o (size_of_object p o)) (bits_of_cells p o (size_of_object p o)) s t (λ v u. Unit {0}) (λ v. cells_drawn p Cell spot o 0 (size_of_object p o)) → InitialDoes p W n at spot o Absent s t
  absent_does at spot o s t x = follows_as p W.duties x (λ v u q. q) (λ v w. declared_drawn p W (calls p W n) spot o (size_of_object p o) 0 w) (omega arith) (omega arith)

  one_value : (ob : Option Object) (e : Exp) → IsTrue (init_fits ob (One e)) → IsTrue (has_value e)
  one_value None e h = neither h
  one_value (Some ob) e h = (both (not (is_array ob)) (has_value e) h).1

  many_values : (ob : Option Object) (es : Exps) → IsTrue (init_fits ob (Many es)) → IsTrue (list_all has_value (exps_in es))
  many_values None es h = neither h
  many_values (Some ob) es h = (both (list_all has_value (exps_in es)) (nat_le (length (exps_in es)) ob.cells) (both (is_array ob) (list_all has_value (exps_in es) && nat_le (length (exps_in es)) ob.cells) h).1).0

  pub one_ready : (o : ℕ) (e : Exp) {s : Sym} → InitialReady p W n o s (One e) → InitialsReady p W n o s (MoreExp e NoExp)
  one_ready o e r =
      let t = both (init_fits (slice_get p.objects o) (One e)) (list_all (is_typed p) (e ∷ [])) r.types in
      record { fits = r.fits; types = t.1; values = yes_and (has_value e) true (one_value (slice_get p.objects o) e t.0) refl; room = omega (arith, r.room) }

  pub one_does : (at spot : Spot) (o : ℕ) (e : Exp) {s t : Sym} → InitialsDo p W n at o 0 (MoreExp e NoExp) s t → InitialDoes p W n at spot o (One e) s t
  one_does at spot o e x = follows_as p W.duties x (λ v u q. q) (λ v w. refl) (omega arith) (omega arith)

  pub many_ready : (o : ℕ) (es : Exps) {s : Sym} → InitialReady p W n o s (Many es) → InitialsReady p W n o s es
  many_ready o es r =
      let t = both (init_fits (slice_get p.objects o) (Many es)) (list_all (is_typed p) (exps_in es)) r.types in
      record { fits = r.fits; types = t.1; values = many_values (slice_get p.objects o) es t.0; room = omega (arith, r.room) }

  pub many_does : (at spot : Spot) (o : ℕ) (es : Exps) {s t : Sym} → InitialsDo p W n at o 0 es s t → InitialDoes p W n at spot o (Many es) s t
  many_does at spot o es x = follows_as p W.duties x (λ v u q. q) (λ v w. refl) (omega arith) (omega arith)

  row_values : (ob : Option Object) (rows : List Exps) → IsTrue (init_fits ob (Rows rows)) → IsTrue (list_all (row_fits (columns_in ob)) rows)
  row_values None rows h = neither h
  row_values (Some ob) rows h = (both (list_all (row_fits ob.columns) rows) (nat_le (length rows * ob.columns) ob.cells) (both (nat_eq ob.dims 2) (list_all (row_fits ob.columns) rows && nat_le (length rows * ob.columns) ob.cells) h).1).0

  pub rows_ready : (o : ℕ) (rows : List Exps) {s : Sym} → InitialReady p W n o s (Rows rows) → RowsReady p W n o s rows
  rows_ready o rows r =
      let t = both (init_fits (slice_get p.objects o) (Rows rows)) (list_all (is_typed p) (flat_map exps_in rows)) r.types in
      record { fits = r.fits; types = t.1; values = row_values (slice_get p.objects o) rows t.0; room = omega (arith, r.room) }

  pub rows_do : (at spot : Spot) (o : ℕ) (rows : List Exps) {s t : Sym} → RowsDo p W n at o rows s t → InitialDoes p W n at spot o (Rows rows) s t
  rows_do at spot o rows x = follows_as p W.duties x (λ v u q. q) (λ v w. refl) (omega arith) (omega arith)

  -- ---- one declared name
  module _ (at spot : Spot) (o : ℕ) (i : Init) {s m : Sym} (r : NamesReady p W n s (MoreName spot o i NoName)) (k : ℕ) (ek : k ≡ size_of_object p o) (x : Became p 0 s m (λ v. declaring o k)) where
    pub name_ready : InitialReady p W n o m i
    name_ready =
        let t = both (init_fits (slice_get p.objects o) i && true) (list_all (is_typed p) (fulls_of_init i ++ [])) r.types in
        record {
          fits = x.fits;
          types = yes_and (init_fits (slice_get p.objects o) i) (list_all (is_typed p) (fulls_of_init i)) (both (init_fits (slice_get p.objects o) i) true t.0).0 (subst (λ z. IsTrue (list_all (is_typed p) z)) (append-nil (fulls_of_init i)) t.1);
          room = omega (arith, (longer_by x.added).1, r.room);
        }

    pub name_does : {t : Sym} → InitialDoes p W n at spot o i m t → NamesDo p W n at (MoreName spot o i NoName) s t
    name_does {t} y gives =
        names_run p W W.duties gives (calls p W n) true (weight_of_names p W n (MoreName spot o i NoName)) (bits_of_names p W n (MoreName spot o i NoName)) at spot o i NoName
        (subst (λ j. Became p 0 s m (λ v. declaring o j)) ek x) y (skip_runs p W.duties gives t y.fits) (omega arith) (omega arith)

  -- ---- declared names, one after another
  pub names_none : (at : Spot) (s : Sym) → IsState p s → NamesDo p W n at (names_view []) s s
  names_none at s h gives = skip_runs p W.duties gives s h

  module _ (at : Spot) (xs : List Declared) (k : ℕ) (x : Declared) (h : k < length xs) (e : x ≡ get_or xs k x) where
    names_weight : weight_of_names p W n (names_view (take (k + 1) xs)) ≡ weight_of_names p W n (names_view (take k xs)) + weight_of_names p W n (names_view (x ∷ []))
    names_weight = names_more p (nodes p W.scale n) xs k x h ∙ ap (λ z. weight_of_names p W n (names_view (take k xs)) + weight_of_names p W n (names_view (z ∷ []))) (sym e)

    names_bits : bits_of_names p W n (names_view (take (k + 1) xs)) ≡ bits_of_names p W n (names_view (take k xs)) + bits_of_names p W n (names_view (x ∷ []))
    names_bits = names_more p (bits p W.scale n) xs k x h ∙ ap (λ z. bits_of_names p W n (names_view (take k xs)) + bits_of_names p W n (names_view (z ∷ []))) (sym e)

    names_weight_within : weight_of_names p W n (names_view (take (k + 1) xs)) ≤ weight_of_names p W n (names_view xs)
    names_weight_within = names_within p (nodes p W.scale n) xs (k + 1)

    names_bits_within : bits_of_names p W n (names_view (take (k + 1) xs)) ≤ bits_of_names p W n (names_view xs)
    names_bits_within = names_within p (bits p W.scale n) xs (k + 1)

    -- a name weighs no more than all
    pub names_part : weight_of_names p W n (names_view (x ∷ [])) ≤ weight_of_names p W n (names_view xs)
    names_part = omega (arith, names_weight, names_weight_within)

    pub names_next : {s m : Sym} → NamesReady p W n s (names_view xs) → NamesDo p W n at (names_view (take k xs)) s m → NamesReady p W n m (names_view (x ∷ []))
    names_next r y =
        let t = both (declarators_fit p (names_view xs)) (list_all (is_typed p) (fulls_of_names (names_view xs))) r.types in
        record {
          fits = (y None).fits;
          types = subst (λ z. IsTrue (declarators_fit p (names_view (z ∷ [])) && list_all (is_typed p) (fulls_of_names (names_view (z ∷ []))))) (sym e) (name_typed p xs k x h t.0 t.1);
          room = omega (arith, (longer_by (y None).added).1, names_weight, names_bits, names_weight_within, names_bits_within, r.room);
        }

    pub names_on : {s m t : Sym} → NamesDo p W n at (names_view (take k xs)) s m → NamesDo p W n at (names_view (x ∷ [])) m t → NamesDo p W n at (names_view (take (k + 1) xs)) s t
    names_on y z gives =
        runs_as p W.duties gives
        (runs_then p W.duties gives (weight_of_names p W n (names_view (take (k + 1) xs))) (bits_of_names p W n (names_view (take (k + 1) xs))) (y gives) (z gives) (omega (arith, names_weight)) (omega (arith, names_bits)))
        (λ v w.
        ap (λ z. bind (declare p (judged p W) (calls p W n) at (names_view (take k xs)) true w) (go_on (declare p (judged p W) (calls p W n) at (names_view (z ∷ [])) true))) e ∙ declare_more p W (calls p W n) at xs k x h w)
        (omega arith) (omega arith)

  -- ---- the first part of `for (`
  pub no_first : (at : Spot) (s : Sym) → IsState p s → FirstDoes p W n at NoFirst s s
  no_first at s h gives = skip_runs p W.duties gives s h

  pub first_exp_ready : (e : Exp) {s : Sym} → FirstReady p W n s (FirstExp e) → FullReady p W n s e
  first_exp_ready e r = record { fits = r.fits; types = only_one (is_typed p) e (both true (list_all (is_typed p) (e ∷ [])) r.types).1; room = omega (arith, r.room) }

  pub first_exp_does : (at : Spot) (e : Exp) {s t : Sym} {bits : List Bit} → FullGives p W n at Unused e s t bits → FirstDoes p W n at (FirstExp e) s t
  first_exp_does at e {t = t} x gives =
      first_expression_runs p W W.duties gives (calls p W n) true (weight_of_first p W n (FirstExp e)) (bits_of_first p W n (FirstExp e)) at e (λ may s. Go Next s) x.follows (skip_runs p W.duties gives t x.follows.fits) (omega arith) (omega arith)

  pub first_names_ready : (ns : Names) {s : Sym} → FirstReady p W n s (FirstNames ns) → NamesReady p W n s ns
  first_names_ready ns r = record { fits = r.fits; types = r.types; room = omega (arith, r.room) }

  pub first_names_do : (at : Spot) (ns : Names) {s t : Sym} → NamesDo p W n at ns s t → FirstDoes p W n at (FirstNames ns) s t
  first_names_do at ns {t = t} x gives =
      first_names_run p W W.duties gives (calls p W n) true (weight_of_first p W n (FirstNames ns)) (bits_of_first p W n (FirstNames ns)) at ns (λ may s. Go Next s) (x gives) (skip_runs p W.duties gives t (x gives).fits) (omega arith) (omega arith)
