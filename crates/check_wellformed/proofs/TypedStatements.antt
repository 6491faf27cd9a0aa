-- Statements that aren't refused are well typed.
use Rattle.std.proofs.Common.{◌≡◌, ℕ, suc, ◌+◌, ◌*◌, Bool, true, false, cond, not, List, [], ◌∷◌, ◌++◌, length, map, refl, sym, ap, ◌∙◌, Option, Some, None, is_some, nat_eq, nat_le, nat_lt, arith, add-one}
use Rattle.std.proofs.lemmas.Bool.{false≢true, le-leb, leb-true}
use Rattle.std.proofs.lemmas.List.Folds.{list_any-append}
use Rattle.std.proofs.lemmas.List.{length-map}
use Rattle.std.proofs.lemmas.List.Sums.{sum_by-cons}
use Rattle.std.proofs.Math.Nat.{mul-le-mul_right}
use Rattle.std.proofs.lemmas.Bool.Decides.{nat_tests}
use Rattle.std.specs.Prelude.{count_by}
use Rattle.std.specs.List.{list_all, list_any, flat_map}
use Rattle.c_core.specs.Tree as t
use Rattle.c_core.specs.Parts.{exps_in, exp_if, every_statement, every_statement_else, every_statement_of, fulls_of_init, fulls_of_names, fulls_of_first, type_of}
use Rattle.c_core.specs.Typing.{has_value, row_fits, init_fits, labels_in, is_default, label_fits, switch_fits, is_typed, declarators_fit, first_fits, return_fits, form_fits, statement_fits, function_fits}
use Rattle.c_core.specs.declared.number.IntType.{IntType}
use Rattle.c_core.specs.declared.number.DataModel.{DataModel}
use Rattle.c_core.specs.declared.number.Spot.{Spot}
use Rattle.c_core.specs.declared.tree.Label.TheVariants.{Default}
use Rattle.c_core.specs.declared.tree.Label.{Label as ArmLabel}
use Rattle.check_rules.specs.Arms.{switch_type, label_of}
use Rattle.c_parser.specs.Tree as raw
use Rattle.c_parser.specs.Tree.{Exp, Expr, Exps, NoExp, MoreExp, exps}
use Rattle.check_rules.specs.Names.{Entry}
use Rattle.check_rules.specs.Typed.{typed, typed_all}
use Rattle.check_rules.specs.Scopes.{Scope, seen, opened, closed, most_cells, cells_or_one, size_of, sizes_of, cells_of, columns_of, dims_of, object_of, after_name, after_first, after_statement, after_item, after_parameters, inside, statements_of}
use Rattle.check_rules.specs.declared.within.Within.{Within}
use Rattle.check_rules.specs.Parts.{Role, Value, Effect, Part, parts, parts_if, parts_of_values, parts_of_init, parts_of_name, parts_of_names, parts_of_first, parts_of_statement, parts_of_form, parts_of_else, parts_of_block, parts_of_parameters, parts_of_body, parts_of_item, parts_of_items, bodies_of, in_loop, in_body, parts_of, parts_of_label, parts_of_arms, in_switch}
use Rattle.check_rules.specs.Codes.{is_among, count, same_label, is_chosen, is_too_small, is_wrong_init, is_wrong_table, is_wrong_size, is_wrong_return}
use Rattle.check_rules.specs.Checked.{typed_if, typed_init, typed_names, typed_first, typed_statement, typed_form, typed_else, typed_block, typed_arms, typed_function, functions_of}
use Rattle.check_wellformed.proofs.Lists.{AllOf, both, left, right, all_front, all_behind, first_fails, second_fails, not_false, or_first, or_also}
use Rattle.check_wellformed.proofs.Entries.{AreAgreed}
use Rattle.check_rules.specs.Constants.{constant}
use Rattle.check_wellformed.proofs.Ranges.{case_fits, no_default}
use Rattle.check_wellformed.proofs.Good.{IsGood, IsCalled, value_of_part}
use Rattle.check_wellformed.proofs.TypedExpressions.{typed_fits}

pub all_pass_then : {A : Type 0} (q : A → Bool) (xs ys : List A) → list_all q xs ≡ true → list_all q ys ≡ true → list_all q (xs ++ ys) ≡ true
all_pass_then q [] ys h k = k
all_pass_then q (x ∷ xs) ys h k = both (left (q x) _ h) (all_pass_then q xs ys (right (q x) _ h) k)

not_below : (n k : ℕ) → nat_lt k n ≡ false → nat_le n k ≡ true
not_below n k h = grind (arith, nat_tests)

large_enough : (n : ℕ) (size : Option ℕ) → is_too_small n size ≡ false → nat_le n (cells_or_one size) ≡ true
large_enough n None h = absurd (false≢true (sym h))
large_enough n (Some k) h = not_below n k h

within_rows : (a b n : ℕ) → nat_le n a ≡ true → nat_le (n * b) (a * b) ≡ true
within_rows a b n h = le-leb (n * b) (a * b) (mul-le-mul_right b (leb-true n a h))

-- there are no more rows than the cells allow, and none is longer than the columns
pub record HaveRoom (cells columns : ℕ) (rows : List Exps) : Type 0 where
  pub all : nat_le (length rows * columns) cells ≡ true
  pub each : list_all (λ row. nat_le (count row) columns) rows ≡ true

none_longer : (b : ℕ) (rows : List Exps) → list_any (λ row. nat_lt b (count row)) rows ≡ false → list_all (λ row. nat_le (count row) b) rows ≡ true
none_longer b [] h = refl
none_longer b (row ∷ rows) h = both (not_below (count row) b (first_fails (nat_lt b (count row)) _ h)) (none_longer b rows (second_fails (nat_lt b (count row)) _ h))

table_list : (a b : Option ℕ) (gs : Exps) → is_wrong_table a b (raw.Many gs) ≡ false → nat_le (count gs) (cells_or_one a * cells_or_one b) ≡ true
table_list None b gs k = absurd (false≢true (sym k))
table_list (Some a) None gs k = absurd (false≢true (sym k))
table_list (Some a) (Some b) gs k = not_below (count gs) (a * b) (second_fails (nat_lt most_cells (a * b)) _ k)

table_rows : (a b : Option ℕ) (rows : List Exps) → is_wrong_table a b (raw.Rows rows) ≡ false → HaveRoom (cells_or_one a * cells_or_one b) (cells_or_one b) rows
table_rows None b rows k = absurd (false≢true (sym k))
table_rows (Some a) None rows k = absurd (false≢true (sym k))
table_rows (Some a) (Some b) rows k =
    let fills = second_fails (nat_lt most_cells (a * b)) _ k in
    record {
      all = within_rows a b (length rows) (not_below (length rows) a (first_fails (nat_lt a (length rows)) _ fills));
      each = none_longer b rows (second_fails (nat_lt a (length rows)) _ fills);
    }

-- ---- the arms of a `switch`

switch_right : (m : DataModel) (o : Option IntType) (b : t.Stms) → is_some o ≡ true → list_all (label_fits m (switch_type o)) (labels_in b) ≡ true → nat_le (count_by is_default (labels_in b)) 1 ≡ true
    → switch_fits m o b ≡ true
switch_right m None b h k l = absurd (false≢true h)
switch_right m (Some ty) b h k l = both k l

only_this : (ls : List ArmLabel) → count_by is_default ls ≡ 0 → nat_le (count_by is_default (Default ∷ ls)) 1 ≡ true
only_this ls h = ap (λ n. nat_le n 1) (sum_by-cons (λ l. cond (is_default l) 1 0) Default ls ∙ ap (λ n. 1 + n) h)

chosen_still : (before : List (Option ArmLabel)) (l : Option ArmLabel) → is_chosen before (Some Default) ≡ true → is_chosen (before ++ l ∷ []) (Some Default) ≡ true
chosen_still before l h = list_any-append (same_label Default) before (l ∷ []) ∙ or_first (list_any (same_label Default) before) _ h

chosen_now : (before : List (Option ArmLabel)) → is_chosen (before ++ Some Default ∷ []) (Some Default) ≡ true
chosen_now before = list_any-append (same_label Default) before (Some Default ∷ []) ∙ or_also (list_any (same_label Default) before) _ refl

module _ (p : t.Program) (items : List raw.Item) (entries : List Entry) where
  abbrev pub Goods : List Part → Type 0
  Goods ps = AllOf (IsGood p items entries) ps

  abbrev pub as_typed : List Entry → Exp → t.Exp
  as_typed es e = typed p.model (bodies_of items) es e

  pub argument_count : (es : List Entry) (gs : Exps) → length (exps_in (typed_all p.model (bodies_of items) es gs)) ≡ count gs
  argument_count es NoExp = refl
  argument_count es (MoreExp e gs) = ap (λ n. suc n) (argument_count es gs) ∙ sym (add-one (count gs))

  -- the values of a list
  values_are : (fixed : Bool) (s : Scope) (gs : Exps) → Goods (parts_of_values fixed s gs) → list_all has_value (exps_in (typed_all p.model (bodies_of items) (seen s) gs)) ≡ true
  values_are fixed s NoExp h = refl
  values_are fixed s (MoreExp e gs) h =
      both (value_of_part p items entries (seen s) e (all_front (IsGood p items entries) (parts (seen s) Value e) _ h.1))
      (values_are fixed s gs (all_behind (IsGood p items entries) (parts (seen s) Value e) _ h.1))

  pub list_right : (es : List Entry) (sizes : List Exp) (gs : Exps) → nat_eq (dims_of sizes) 0 ≡ false → is_wrong_size (sizes_of p.model (bodies_of items) es sizes) (raw.Many gs) ≡ false → nat_le (count gs) (cells_of p.model (bodies_of items) es sizes) ≡ true
  list_right es [] gs h k = absurd (false≢true (sym h))
  list_right es (e ∷ []) gs h k = large_enough (count gs) (size_of p.model (bodies_of items) es e) k
  list_right es (e ∷ f ∷ more) gs h k = table_list (size_of p.model (bodies_of items) es e) (size_of p.model (bodies_of items) es f) gs k

  pub rows_right : (es : List Entry) (sizes : List Exp) (rows : List Exps) → not (nat_eq (dims_of sizes) 2) ≡ false → is_wrong_size (sizes_of p.model (bodies_of items) es sizes) (raw.Rows rows) ≡ false
      → HaveRoom (cells_of p.model (bodies_of items) es sizes) (columns_of p.model (bodies_of items) es sizes) rows
  rows_right es [] rows h k = absurd (false≢true (sym h))
  rows_right es (e ∷ []) rows h k = absurd (false≢true (sym h))
  rows_right es (e ∷ f ∷ more) rows h k = table_rows (size_of p.model (bodies_of items) es e) (size_of p.model (bodies_of items) es f) rows k

  rows_are : (s : Scope) (columns : ℕ) (rows : List Exps) → list_all (λ row. nat_le (count row) columns) rows ≡ true → Goods (flat_map (parts_of_values false s) rows)
      → list_all (row_fits columns) (map (typed_all p.model (bodies_of items) (seen s)) rows) ≡ true
  rows_are s columns [] h g = refl
  rows_are s columns (row ∷ rows) h g =
      both (both (values_are false s row (all_front (IsGood p items entries) (parts_of_values false s row) _ g)) (rw (argument_count (seen s) row) (left (nat_le (count row) columns) _ h)))
      (rows_are s columns rows (right (nat_le (count row) columns) _ h) (all_behind (IsGood p items entries) (parts_of_values false s row) _ g))

  init_right : (s s' : Scope) (d : raw.Declared) (i : raw.Init) → is_wrong_init (dims_of d.sizes) i ≡ false → is_wrong_size (sizes_of p.model (bodies_of items) (seen s) d.sizes) i ≡ false → Goods (parts_of_init false s' i) → init_fits (Some (object_of p.model (bodies_of items) false (seen s) d)) (typed_init p.model (bodies_of items) (seen s') i) ≡ true
  init_right s s' d raw.Absent h k g = refl
  init_right s s' d (raw.One e) h k g = both (ap not h) (value_of_part p items entries (seen s') e g.1)
  init_right s s' d (raw.Many gs) h k g =
      both (ap not h) (both (values_are false s' gs g) (rw (argument_count (seen s') gs) (list_right (seen s) d.sizes gs h k)))
  init_right s s' d (raw.Rows rows) h k g =
      let room = rows_right (seen s) d.sizes rows h k in
      both (not_false (nat_eq (dims_of d.sizes) 2) h)
      (both (rows_are s' (columns_of p.model (bodies_of items) (seen s) d.sizes) rows room.each g) (rw (length-map rows (typed_all p.model (bodies_of items) (seen s'))) room.all))

  module _ (agreed : AreAgreed entries) (functions : (f : List ℕ) → is_among (bodies_of items) f ≡ true → IsCalled p items entries f) where
    fits : (es : List Entry) (r : Role) (e : Exp) → Goods (parts es r e) → is_typed p (as_typed es e) ≡ true
    fits es r e h = typed_fits p items entries agreed functions es r e h

    if_fits : (es : List Entry) (r : Role) (e : Option Exp) → Goods (parts_if es r e) → list_all (is_typed p) (exp_if (typed_if p.model (bodies_of items) es e)) ≡ true
    if_fits es r None h = refl
    if_fits es r (Some e) h = both (fits es r e h) refl

    values_fit : (fixed : Bool) (s : Scope) (gs : Exps) → Goods (parts_of_values fixed s gs) → list_all (is_typed p) (exps_in (typed_all p.model (bodies_of items) (seen s) gs)) ≡ true
    values_fit fixed s NoExp h = refl
    values_fit fixed s (MoreExp e gs) h =
        both (fits (seen s) Value e (all_front (IsGood p items entries) (parts (seen s) Value e) _ h.1))
        (values_fit fixed s gs (all_behind (IsGood p items entries) (parts (seen s) Value e) _ h.1))

    rows_fit : (s : Scope) (rows : List Exps) → Goods (flat_map (parts_of_values false s) rows) → list_all (is_typed p) (flat_map exps_in (map (typed_all p.model (bodies_of items) (seen s)) rows)) ≡ true
    rows_fit s [] h = refl
    rows_fit s (row ∷ rows) h =
        all_pass_then (is_typed p) (exps_in (typed_all p.model (bodies_of items) (seen s) row)) _ (values_fit false s row (all_front (IsGood p items entries) (parts_of_values false s row) _ h))
        (rows_fit s rows (all_behind (IsGood p items entries) (parts_of_values false s row) _ h))

    inits_fit : (s : Scope) (i : raw.Init) → Goods (parts_of_init false s i) → list_all (is_typed p) (fulls_of_init (typed_init p.model (bodies_of items) (seen s) i)) ≡ true
    inits_fit s raw.Absent h = refl
    inits_fit s (raw.One e) h = both (fits (seen s) Value e h.1) refl
    inits_fit s (raw.Many gs) h = values_fit false s gs h
    inits_fit s (raw.Rows rows) h = rows_fit s rows h

    -- declared names, and the expressions in their initializers
    record AreNamesFit (ns : t.Names) : Type 0 where
      each : declarators_fit p ns ≡ true
      fulls : list_all (is_typed p) (fulls_of_names ns) ≡ true

    names_fit : (s : Scope) (ds : List raw.Declared) → Goods (parts_of_names p.model (bodies_of items) false s ds) → AreNamesFit (typed_names p.model (bodies_of items) s ds)
    names_fit s [] h = record { each = refl; fulls = refl }
    names_fit s (d ∷ ds) h =
        let s' = after_name p.model (bodies_of items) false s d in
        let one = all_front (IsGood p items entries) (parts_of_name p.model (bodies_of items) false s d) _ h in
        let rest = names_fit s' ds (all_behind (IsGood p items entries) (parts_of_name p.model (bodies_of items) false s d) _ h) in
        let here = all_behind (IsGood p items entries) (parts_of (seen s) (exps d.sizes)) _ one in
        record {
          each = both (rw here.0.placed (init_right s s' d d.init here.0.fair.typed here.0.fair.sized here.1)) rest.each;
          fulls = all_pass_then (is_typed p) (fulls_of_init (typed_init p.model (bodies_of items) (seen s') d.init)) _ (inits_fit s' d.init here.1) rest.fulls;
        }

    record IsFirstFit (i : t.First) : Type 0 where
      each : first_fits p i ≡ true
      fulls : list_all (is_typed p) (fulls_of_first i) ≡ true

    first_fit : (s : Scope) (i : raw.First) → Goods (parts_of_first p.model (bodies_of items) s i) → IsFirstFit (typed_first p.model (bodies_of items) s i)
    first_fit s raw.NoFirst h = record { each = refl; fulls = refl }
    first_fit s (raw.FirstExp e) h = record { each = refl; fulls = both (fits (seen s) Effect e h) refl }
    first_fit s (raw.FirstDeclared ds) h = let n = names_fit s ds h in record { each = n.each; fulls = n.fulls }

    return_is : (result : Option IntType) (es : List Entry) (e : Option Exp) → is_wrong_return result (is_some e) ≡ false → Goods (parts_if es Value e) → return_fits p result (typed_if p.model (bodies_of items) es e) ≡ true
    return_is None es None h g = refl
    return_is None es (Some e) h g = absurd (false≢true (sym h))
    return_is (Some ty) es None h g = absurd (false≢true (sym h))
    return_is (Some ty) es (Some e) h g = both refl (value_of_part p items entries es e g)

    test_fits : (result : Option IntType) (es : List Entry) (i : t.First) (e : Option Exp) (u : Option t.Exp) (b : t.Stm) → first_fits p i ≡ true → Goods (parts_if es Value e) → form_fits p result (t.For i (typed_if p.model (bodies_of items) es e) u b) ≡ true
    test_fits result es i None u b h g = h
    test_fits result es i (Some e) u b h g = both h (value_of_part p items entries es e g)

    -- ---- labels of arms

    labels_fit : (ty : IntType) (s : Scope) (b : raw.Stms) → list_all (label_fits p.model ty) (labels_in (typed_arms p.model (bodies_of items) ty s b)) ≡ true
    labels_fit ty s raw.NoStm = refl
    labels_fit ty s (raw.MoreStm x b) = labels_fit ty (closed s (after_statement p.model (bodies_of items) (opened s) x)) b
    labels_fit ty s (raw.MoreCase q (raw.Case e) b) = both (case_fits p.model ty (constant p.model (as_typed (seen s) e))) (labels_fit ty s b)
    labels_fit ty s (raw.MoreCase q raw.Default b) = labels_fit ty s b

    module _ (result : Option IntType) (within : Within) (ty : IntType) where
      -- after a `default` there is none
      none_behind : (before : List (Option ArmLabel)) (s : Scope) (b : raw.Stms) → is_chosen before (Some Default) ≡ true → Goods (parts_of_arms p.model (bodies_of items) result within ty before s b)
          → count_by is_default (labels_in (typed_arms p.model (bodies_of items) ty s b)) ≡ 0
      none_behind before s raw.NoStm h g = refl
      none_behind before s (raw.MoreStm x b) h g =
          none_behind before (closed s (after_statement p.model (bodies_of items) (opened s) x)) b h
          (all_behind (IsGood p items entries) (parts_of_statement p.model (bodies_of items) result within (opened s) x) _ g)
      none_behind before s (raw.MoreCase q (raw.Case e) b) h g =
          let l = label_of p.model (bodies_of items) (seen s) ty (raw.Case e) in
          no_default p.model ty (constant p.model (as_typed (seen s) e)) (labels_in (typed_arms p.model (bodies_of items) ty s b)) ∙ none_behind (before ++ l ∷ []) s b (chosen_still before l h) (all_behind (IsGood p items entries) (parts_of_label (seen s) (raw.Case e)) _ g.1)
      none_behind before s (raw.MoreCase q raw.Default b) h g = absurd (false≢true (sym g.0.fair.once ∙ h))

      one_default : (before : List (Option ArmLabel)) (s : Scope) (b : raw.Stms) → Goods (parts_of_arms p.model (bodies_of items) result within ty before s b)
          → nat_le (count_by is_default (labels_in (typed_arms p.model (bodies_of items) ty s b))) 1 ≡ true
      one_default before s raw.NoStm g = refl
      one_default before s (raw.MoreStm x b) g =
          one_default before (closed s (after_statement p.model (bodies_of items) (opened s) x)) b
          (all_behind (IsGood p items entries) (parts_of_statement p.model (bodies_of items) result within (opened s) x) _ g)
      one_default before s (raw.MoreCase q (raw.Case e) b) g =
          let l = label_of p.model (bodies_of items) (seen s) ty (raw.Case e) in
          ap (λ n. nat_le n 1) (no_default p.model ty (constant p.model (as_typed (seen s) e)) (labels_in (typed_arms p.model (bodies_of items) ty s b))) ∙ one_default (before ++ l ∷ []) s b (all_behind (IsGood p items entries) (parts_of_label (seen s) (raw.Case e)) _ g.1)
      one_default before s (raw.MoreCase q raw.Default b) g = only_this (labels_in (typed_arms p.model (bodies_of items) ty s b)) (none_behind (before ++ Some Default ∷ []) s b (chosen_now before) g.1)

    module _ (result : Option IntType) where
      mutual
        statement_is : (within : Within) (s : Scope) (x : raw.Stm) → Goods (parts_of_statement p.model (bodies_of items) result within s x) → every_statement (statement_fits p result) (typed_statement p.model (bodies_of items) s x) ≡ true
        statement_is within s (raw.Stmt q f) h = form_is within s q f h

        form_is : (within : Within) (s : Scope) (q : Spot) (f : raw.Form) → Goods (parts_of_form p.model (bodies_of items) result within s q f) → every_statement (statement_fits p result) (t.Stmt q (typed_form p.model (bodies_of items) s f)) ≡ true
        form_is within s q raw.Empty h = refl
        form_is within s q (raw.Do e) h = both (both (fits (seen s) Effect e h) refl) refl
        form_is within s q (raw.Declare ds) h = let n = names_fit s ds h in both (both n.each n.fulls) refl
        form_is within s q (raw.Block b) h = block_is within (opened s) b h
        form_is within s q (raw.If e a b) h =
            let hea = all_front (IsGood p items entries) (parts (seen s) Value e ++ parts_of_statement p.model (bodies_of items) result within (opened s) a) _ h in
            let hb = all_behind (IsGood p items entries) (parts (seen s) Value e ++ parts_of_statement p.model (bodies_of items) result within (opened s) a) _ h in
            let he = all_front (IsGood p items entries) (parts (seen s) Value e) _ hea in
            let ha = all_behind (IsGood p items entries) (parts (seen s) Value e) _ hea in
            both (both (value_of_part p items entries (seen s) e he) (both (fits (seen s) Value e he) refl))
            (both (statement_is within (opened s) a ha) (else_is within (closed s (after_statement p.model (bodies_of items) (opened s) a)) b hb))
        form_is within s q (raw.While e a) h =
            let he = all_front (IsGood p items entries) (parts (seen s) Value e) _ h in
            let ha = all_behind (IsGood p items entries) (parts (seen s) Value e) _ h in
            both (both (value_of_part p items entries (seen s) e he) (both (fits (seen s) Value e he) refl)) (statement_is in_loop (opened s) a ha)
        form_is within s q (raw.DoWhile a e) h =
            let pa = parts_of_statement p.model (bodies_of items) result in_loop (opened s) a in
            let ha = all_front (IsGood p items entries) pa _ h in
            let he = all_behind (IsGood p items entries) pa _ h in
            both (both (value_of_part p items entries (seen s) e he) (both (fits (seen s) Value e he) refl)) (statement_is in_loop (opened s) a ha)
        form_is within s q (raw.For i e u a) h =
            let t = after_first p.model (bodies_of items) (opened s) i in
            let pi = parts_of_first p.model (bodies_of items) (opened s) i in
            let pe = parts_if (seen t) Value e in
            let pu = parts_if (seen t) Effect u in
            let hieu = all_front (IsGood p items entries) (pi ++ pe ++ pu) _ h in
            let ha = all_behind (IsGood p items entries) (pi ++ pe ++ pu) _ h in
            let hie = all_front (IsGood p items entries) (pi ++ pe) _ hieu in
            let hu = all_behind (IsGood p items entries) (pi ++ pe) _ hieu in
            let hi = first_fit (opened s) i (all_front (IsGood p items entries) pi _ hie) in
            let he = all_behind (IsGood p items entries) pi _ hie in
            let fi = fulls_of_first (typed_first p.model (bodies_of items) (opened s) i) in
            let fe = exp_if (typed_if p.model (bodies_of items) (seen t) e) in
            both
            (both (test_fits result (seen t) (typed_first p.model (bodies_of items) (opened s) i) e (typed_if p.model (bodies_of items) (seen t) u) (typed_statement p.model (bodies_of items) (opened t) a) hi.each he)
            (all_pass_then (is_typed p) (fi ++ fe) _ (all_pass_then (is_typed p) fi fe hi.fulls (if_fits (seen t) Value e he)) (if_fits (seen t) Effect u hu)))
            (statement_is in_loop (opened t) a ha)
        form_is within s q raw.Break h = refl
        form_is within s q raw.Continue h = refl
        form_is within s q (raw.Return e) h = both (both (return_is result (seen s) e h.0.fair.typed h.1) (if_fits (seen s) Value e h.1)) refl
        form_is within s q (raw.Label w a) h = statement_is within (opened s) a h
        form_is within s q (raw.Switch e b) h =
            let ty = switch_type (type_of (as_typed (seen s) e)) in
            let he = all_front (IsGood p items entries) (parts (seen s) Value e) _ h in
            let hb = all_behind (IsGood p items entries) (parts (seen s) Value e) _ h in
            both
            (both (switch_right p.model (type_of (as_typed (seen s) e)) (typed_arms p.model (bodies_of items) ty s b) (value_of_part p items entries (seen s) e he)
            (labels_fit ty s b) (one_default result (in_switch within) ty [] s b hb)) (both (fits (seen s) Value e he) refl))
            (arms_are (in_switch within) ty [] s b hb)

        else_is : (within : Within) (s : Scope) (b : raw.Else) → Goods (parts_of_else p.model (bodies_of items) result within s b) → every_statement_else (statement_fits p result) (typed_else p.model (bodies_of items) s b) ≡ true
        else_is within s raw.NoElse h = refl
        else_is within s (raw.OrElse b) h = statement_is within (opened s) b h

        block_is : (within : Within) (s : Scope) (b : raw.Stms) → Goods (parts_of_block p.model (bodies_of items) result within s b) → every_statement_of (statement_fits p result) (typed_block p.model (bodies_of items) s b) ≡ true
        block_is within s raw.NoStm h = refl
        block_is within s (raw.MoreStm x b) h =
            let px = parts_of_statement p.model (bodies_of items) result within s x in
            both (statement_is within s x (all_front (IsGood p items entries) px _ h)) (block_is within (after_statement p.model (bodies_of items) s x) b (all_behind (IsGood p items entries) px _ h))
        block_is within s (raw.MoreCase q l b) h = block_is within s b h

        arms_are : (within : Within) (ty : IntType) (before : List (Option ArmLabel)) (s : Scope) (b : raw.Stms) → Goods (parts_of_arms p.model (bodies_of items) result within ty before s b)
            → every_statement_of (statement_fits p result) (typed_arms p.model (bodies_of items) ty s b) ≡ true
        arms_are within ty before s raw.NoStm h = refl
        arms_are within ty before s (raw.MoreStm x b) h =
            let px = parts_of_statement p.model (bodies_of items) result within (opened s) x in
            both (statement_is within (opened s) x (all_front (IsGood p items entries) px _ h))
            (arms_are within ty before (closed s (after_statement p.model (bodies_of items) (opened s) x)) b (all_behind (IsGood p items entries) px _ h))
        arms_are within ty before s (raw.MoreCase q l b) h =
            arms_are within ty (before ++ label_of p.model (bodies_of items) (seen s) ty l ∷ []) s b (all_behind (IsGood p items entries) (parts_of_label (seen s) l) _ h.1)

    function_is : (s : Scope) (q : Spot) (name : List ℕ) (result : Option IntType) (xs : List raw.Param) (body : raw.Stm) → Goods (parts_of_item p.model (bodies_of items) s (raw.Function q name result xs body)) → function_fits p (typed_function p.model (bodies_of items) s name result xs body) ≡ true
    function_is s q name result xs body h =
        let t = inside s name result xs in
        let ps = parts_of_parameters t xs in
        let bs = parts_of_body p.model (bodies_of items) s name result xs body in
        block_is result in_body (after_parameters t xs) (statements_of body)
        (all_behind (IsGood p items entries) ps _ (all_front (IsGood p items entries) (ps ++ bs) _ h.1))

    pub functions_are : (s : Scope) (xs : List raw.Item) → Goods (parts_of_items p.model (bodies_of items) s xs) → list_all (function_fits p) (functions_of p.model (bodies_of items) s xs) ≡ true
    functions_are s [] h = refl
    functions_are s (raw.Function q name result ys body ∷ xs) h =
        let x = raw.Function q name result ys body in
        both (function_is s q name result ys body (all_front (IsGood p items entries) (parts_of_item p.model (bodies_of items) s x) _ h))
        (functions_are (after_item p.model (bodies_of items) s x) xs (all_behind (IsGood p items entries) (parts_of_item p.model (bodies_of items) s x) _ h))
    functions_are s (raw.Prototype q name result types ∷ xs) h = functions_are (after_item p.model (bodies_of items) s (raw.Prototype q name result types)) xs h.1
    functions_are s (raw.Global ds ∷ xs) h =
        functions_are (after_item p.model (bodies_of items) s (raw.Global ds)) xs (all_behind (IsGood p items entries) (parts_of_names p.model (bodies_of items) true s ds) _ h)
    functions_are s (raw.Closed q name ∷ xs) h = functions_are (after_item p.model (bodies_of items) s (raw.Closed q name)) xs h
