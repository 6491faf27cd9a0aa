-- What the names in scope stand for is so in the program.
use Rattle.std.proofs.Common.{◌≡◌, ℕ, Bool, true, false, List, [], ◌∷◌, ◌++◌, length, refl, sym, ap, ◌∙◌, subst, Option, Some, None, is_some}
use Rattle.std.proofs.lemmas.List.Elements.{Contains-push}
use Rattle.std.proofs.lemmas.Slice.Eq.{bytes_eq-Decides}
use Rattle.std.specs.List.{Contains, slice_get, flat_map}
use Rattle.std.specs.Str.{bytes_eq}
use Rattle.c_core.specs.declared.number.IntType.{IntType}
use Rattle.c_core.specs.declared.number.DataModel.{DataModel}
use Rattle.c_core.specs.declared.number.Spot.{Spot}
use Rattle.c_core.specs.declared.tree.Object.{Object}
use Rattle.c_core.specs.Parts.{type_of}
use Rattle.c_core.specs.declared.tree.Label.{Label as ArmLabel}
use Rattle.check_rules.specs.Typed.{typed}
use Rattle.check_rules.specs.Arms.{switch_type, label_of}
use Rattle.c_parser.specs.Tree as raw
use Rattle.check_rules.specs.Names as kind
use Rattle.check_rules.specs.Names.{Kind, Entry, entry}
use Rattle.check_rules.specs.Codes.{is_among, closed_names, entry_of}
use Rattle.check_rules.specs.Scopes.{Scope, seen, opened, closed, with_object, with_entry, object_of, after_name, after_names, after_first, after_statement, after_form, after_else, after_block, after_item, after_items, after_parameters, inside, parameter, statements_of, entry_of_function, entry_of_prototype, after_arms}
use Rattle.check_rules.specs.declared.within.Within.{Within}
use Rattle.check_rules.specs.Parts.{Role, Value, Effect, Part, Expression, Declaring, Naming, Initializing, Returning, Leaving, Labelling, Label, parts, parts_if, parts_of_value, parts_of_values, parts_of_init, parts_of_name, parts_of_names, parts_of_first, parts_of_statement, parts_of_form, parts_of_else, parts_of_block, labels_of, parts_of_labels, parts_of_parameters, parts_of_item, parts_of_items, in_loop, in_body, ArmLabelling, CaseConstant, parts_of, parts_of_label, parts_of_arms, in_switch}
use Rattle.check_wellformed.proofs.Lists.{AllOf, all_then, all_front, all_behind, append-nil, or_also, or_first}
use Rattle.check_wellformed.proofs.Entries.{items_stay}
use Rattle.check_wellformed.proofs.Threads.{Sees, parts_see, arguments_see}

-- an object of that number, as it was declared
pub record IsThere (objects : List Object) (n : ℕ) (ty : IntType) (its_dims : ℕ) (is_fixed : Bool) : Type 0 where
  pub object : Object
  pub at : slice_get objects n ≡ Some object
  pub type : object.ty ≡ ty
  pub dims : object.dims ≡ its_dims
  pub fixed : object.fixed ≡ is_fixed

-- the objects of a program, the entries of its functions and prototypes, the names of its closed items
module _ (objects : List Object) (entries : List Entry) (hidden : List (List ℕ)) where
  abbrev pub IsKind : List ℕ → Kind → Type 0
  IsKind name (kind.Object n ty dims fixed) = IsThere objects n ty dims fixed
  IsKind name (kind.Function result stated has_body) = Contains entries (entry name (kind.Function result stated has_body))
  IsKind name kind.Closed = is_among hidden name ≡ true

  abbrev pub IsSound : Entry → Type 0
  IsSound e = IsKind e.name e.kind

  -- the names that an expression sees are sound
  abbrev pub Knows : Part → Type 0
  Knows (Expression es r e) = AllOf IsSound es
  Knows part = Unit {0}

  module _ (m : DataModel) (bodies : List (List ℕ)) where
    -- what a part declares is in the program
    abbrev pub IsPlaced : Part → Type 0
    IsPlaced (Declaring fixed s d) = slice_get objects (length s.objects) ≡ Some (object_of m bodies fixed (seen s) d)
    IsPlaced part = Unit {0}

    -- where the names es are sound, and what the parts declare is placed, each part knows its names, and the names behind are sound
    pub record Keeps (es es' : List Entry) (ps : List Part) : Type 0 where
      pub keeps : AllOf IsSound es → AllOf IsPlaced ps → AllOf Knows ps × AllOf IsSound es'

    keeps_none : {es : List Entry} → Keeps es es []
    keeps_none {es} = record { keeps = λ h k. (tt, h) }

    keeps_then : {a b c : List Entry} {ps qs : List Part} → Keeps a b ps → Keeps b c qs → Keeps a c (ps ++ qs)
    keeps_then {a} {b} {c} {ps} {qs} x y = record {
      keeps = λ h k.
          let f = x.keeps h (all_front IsPlaced ps qs k) in
          let g = y.keeps f.1 (all_behind IsPlaced ps qs k) in
          (all_then Knows ps qs f.0 g.0, g.1);
    }

    -- a scope in a scope
    keeps_inside : (s : Scope) {ps : List Part} {es : List Entry} → Keeps (seen (opened s)) es ps → Keeps (seen s) (seen s) ps
    keeps_inside s {ps} x = record { keeps = λ h k. ((x.keeps (subst (λ l. AllOf IsSound l) (sym (append-nil (seen s))) h) k).0, h) }

    knows_of_sees : (es : List Entry) (ps : List Part) → AllOf IsSound es → AllOf (Sees es) ps → AllOf Knows ps
    knows_of_sees es [] h k = tt
    knows_of_sees es (Expression es' r e ∷ ps) h k = (subst (λ l. AllOf IsSound l) (sym k.0) h, knows_of_sees es ps h k.1)
    knows_of_sees es (Declaring fixed s d ∷ ps) h k = absurd k.0
    knows_of_sees es (Naming s e p ∷ ps) h k = absurd k.0
    knows_of_sees es (Initializing fixed s e ∷ ps) h k = absurd k.0
    knows_of_sees es (Returning result p given ∷ ps) h k = absurd k.0
    knows_of_sees es (Leaving may p ∷ ps) h k = absurd k.0
    knows_of_sees es (Labelling before w p ∷ ps) h k = absurd k.0
    knows_of_sees es (ArmLabelling before l p ∷ ps) h k = absurd k.0
    knows_of_sees es (CaseConstant es' e ∷ ps) h k = absurd k.0

    expression_keeps : (es : List Entry) (r : Role) (e : raw.Exp) → Keeps es es (parts es r e)
    expression_keeps es r e = record { keeps = λ h k. (knows_of_sees es (parts es r e) h (parts_see es r e), h) }

    arguments_keep : (es : List Entry) (gs : raw.Exps) → Keeps es es (parts_of es gs)
    arguments_keep es gs = record { keeps = λ h k. (knows_of_sees es (parts_of es gs) h (arguments_see es gs), h) }

    option_keeps : (es : List Entry) (r : Role) (e : Option raw.Exp) → Keeps es es (parts_if es r e)
    option_keeps es r None = keeps_none
    option_keeps es r (Some e) = expression_keeps es r e

    initializing_keeps : (fixed : Bool) (s : Scope) (e : raw.Exp) {es : List Entry} → Keeps es es (Initializing fixed s e ∷ [])
    initializing_keeps fixed s e {es} = record { keeps = λ h k. ((tt, tt), h) }

    value_keeps : (fixed : Bool) (s : Scope) (e : raw.Exp) → Keeps (seen s) (seen s) (parts_of_value fixed s e)
    value_keeps fixed s e = keeps_then (initializing_keeps fixed s e) (expression_keeps (seen s) Value e)

    values_keep : (fixed : Bool) (s : Scope) (gs : raw.Exps) → Keeps (seen s) (seen s) (parts_of_values fixed s gs)
    values_keep fixed s raw.NoExp = keeps_none
    values_keep fixed s (raw.MoreExp e gs) = keeps_then (value_keeps fixed s e) (values_keep fixed s gs)

    rows_keep : (fixed : Bool) (s : Scope) (rows : List raw.Exps) → Keeps (seen s) (seen s) (flat_map (parts_of_values fixed s) rows)
    rows_keep fixed s [] = keeps_none
    rows_keep fixed s (row ∷ rows) = keeps_then (values_keep fixed s row) (rows_keep fixed s rows)

    init_keeps : (fixed : Bool) (s : Scope) (i : raw.Init) → Keeps (seen s) (seen s) (parts_of_init fixed s i)
    init_keeps fixed s raw.Absent = keeps_none
    init_keeps fixed s (raw.One e) = value_keeps fixed s e
    init_keeps fixed s (raw.Many gs) = values_keep fixed s gs
    init_keeps fixed s (raw.Rows rows) = rows_keep fixed s rows

    sound_push : (outer inner : List Entry) (e : Entry) → AllOf IsSound (outer ++ inner) → IsSound e → AllOf IsSound (outer ++ (inner ++ e ∷ []))
    sound_push outer inner e h k =
        all_then IsSound outer _ (all_front IsSound outer inner h) (all_then IsSound inner (e ∷ []) (all_behind IsSound outer inner h) (k, tt))

    there : (o : Object) (n : ℕ) → slice_get objects n ≡ Some o → IsThere objects n o.ty o.dims o.fixed
    there o n e = record { object = o; at = e; type = refl; dims = refl; fixed = refl }

    declaring_keeps : (fixed : Bool) (s : Scope) (d : raw.Declared) → Keeps (seen s) (seen (after_name m bodies fixed s d)) (Declaring fixed s d ∷ [])
    declaring_keeps fixed s d = record {
      keeps = λ h k. ((tt, tt), sound_push s.outer s.inner (entry_of fixed s d) h (there (object_of m bodies fixed (seen s) d) (length s.objects) k.0));
    }

    name_keeps : (fixed : Bool) (s : Scope) (d : raw.Declared) → Keeps (seen s) (seen (after_name m bodies fixed s d)) (parts_of_name m bodies fixed s d)
    name_keeps fixed s d =
        keeps_then (arguments_keep (seen s) (raw.exps d.sizes)) (keeps_then (declaring_keeps fixed s d) (init_keeps fixed (after_name m bodies fixed s d) d.init))

    names_keep : (fixed : Bool) (s : Scope) (ds : List raw.Declared) → Keeps (seen s) (seen (after_names m bodies fixed s ds)) (parts_of_names m bodies fixed s ds)
    names_keep fixed s [] = keeps_none
    names_keep fixed s (d ∷ ds) = keeps_then (name_keeps fixed s d) (names_keep fixed (after_name m bodies fixed s d) ds)

    first_keeps : (s : Scope) (i : raw.First) → Keeps (seen s) (seen (after_first m bodies s i)) (parts_of_first m bodies s i)
    first_keeps s raw.NoFirst = keeps_none
    first_keeps s (raw.FirstExp e) = expression_keeps (seen s) Effect e
    first_keeps s (raw.FirstDeclared ds) = names_keep false s ds

    quiet_keeps : (part : Part) {es : List Entry} → Knows part → Keeps es es (part ∷ [])
    quiet_keeps part {es} x = record { keeps = λ h k. ((x, tt), h) }

    label_keeps : (es : List Entry) (l : raw.ArmLabel) → Keeps es es (parts_of_label es l)
    label_keeps es (raw.Case e) = keeps_then (quiet_keeps (CaseConstant es e) tt) (expression_keeps es Value e)
    label_keeps es raw.Default = keeps_none

    module _ (result : Option IntType) where
      mutual
        statement_keeps : (within : Within) (s : Scope) (x : raw.Stm) → Keeps (seen s) (seen (after_statement m bodies s x)) (parts_of_statement m bodies result within s x)
        statement_keeps within s (raw.Stmt p f) = form_keeps within s p f

        form_keeps : (within : Within) (s : Scope) (p : Spot) (f : raw.Form) → Keeps (seen s) (seen (after_form m bodies s f)) (parts_of_form m bodies result within s p f)
        form_keeps within s p raw.Empty = keeps_none
        form_keeps within s p (raw.Do e) = expression_keeps (seen s) Effect e
        form_keeps within s p (raw.Declare ds) = names_keep false s ds
        form_keeps within s p (raw.Block b) = keeps_inside s (block_keeps within (opened s) b)
        form_keeps within s p (raw.If e a b) =
            keeps_then (keeps_then (expression_keeps (seen s) Value e) (keeps_inside s (statement_keeps within (opened s) a)))
            (else_keeps within (closed s (after_statement m bodies (opened s) a)) b)
        form_keeps within s p (raw.While e a) = keeps_then (expression_keeps (seen s) Value e) (keeps_inside s (statement_keeps in_loop (opened s) a))
        form_keeps within s p (raw.DoWhile a e) = keeps_then (keeps_inside s (statement_keeps in_loop (opened s) a)) (expression_keeps (seen s) Value e)
        form_keeps within s p (raw.For i e u a) =
            let t = after_first m bodies (opened s) i in
            keeps_inside s (keeps_then (keeps_then (keeps_then (first_keeps (opened s) i) (option_keeps (seen t) Value e)) (option_keeps (seen t) Effect u))
            (keeps_inside t (statement_keeps in_loop (opened t) a)))
        form_keeps within s p raw.Break = quiet_keeps (Leaving within.breaks p) tt
        form_keeps within s p raw.Continue = quiet_keeps (Leaving within.continues p) tt
        form_keeps within s p (raw.Return e) = keeps_then (quiet_keeps (Returning result p (is_some e)) tt) (option_keeps (seen s) Value e)
        form_keeps within s p (raw.Label w a) = keeps_inside s (statement_keeps within (opened s) a)
        form_keeps within s p (raw.Switch e b) =
            keeps_then (expression_keeps (seen s) Value e) (arms_keep (in_switch within) (switch_type (type_of (typed m bodies (seen s) e))) [] s b)

        else_keeps : (within : Within) (s : Scope) (b : raw.Else) → Keeps (seen s) (seen (after_else m bodies s b)) (parts_of_else m bodies result within s b)
        else_keeps within s raw.NoElse = keeps_none
        else_keeps within s (raw.OrElse b) = keeps_inside s (statement_keeps within (opened s) b)

        block_keeps : (within : Within) (s : Scope) (b : raw.Stms) → Keeps (seen s) (seen (after_block m bodies s b)) (parts_of_block m bodies result within s b)
        block_keeps within s raw.NoStm = keeps_none
        block_keeps within s (raw.MoreStm x b) = keeps_then (statement_keeps within s x) (block_keeps within (after_statement m bodies s x) b)
        block_keeps within s (raw.MoreCase p l b) = block_keeps within s b

        arms_keep : (within : Within) (ty : IntType) (before : List (Option ArmLabel)) (s : Scope) (b : raw.Stms)
            → Keeps (seen s) (seen (after_arms m bodies s b)) (parts_of_arms m bodies result within ty before s b)
        arms_keep within ty before s raw.NoStm = keeps_none
        arms_keep within ty before s (raw.MoreStm x b) =
            keeps_then (keeps_inside s (statement_keeps within (opened s) x)) (arms_keep within ty before (closed s (after_statement m bodies (opened s) x)) b)
        arms_keep within ty before s (raw.MoreCase p l b) =
            let label = label_of m bodies (seen s) ty l in
            keeps_then (quiet_keeps (ArmLabelling before label p) tt) (keeps_then (label_keeps (seen s) l) (arms_keep within ty (before ++ label ∷ []) s b))

    parameter_keeps : (s : Scope) (x : raw.Param) (d : raw.Declared) → object_of m bodies false (seen s) d ≡ parameter x → Keeps (seen s) (seen (with_object s (parameter x))) (Declaring false s d ∷ [])
    parameter_keeps s x d e = record {
      keeps = λ h k. ((tt, tt), sound_push s.outer s.inner _ h (there (parameter x) (length s.objects) (k.0 ∙ ap (λ o. Some o) e)));
    }

    parameters_keep : (s : Scope) (xs : List raw.Param) → Keeps (seen s) (seen (after_parameters s xs)) (parts_of_parameters s xs)
    parameters_keep s [] = keeps_none
    parameters_keep s (x ∷ xs) = keeps_then (parameter_keeps s x _ refl) (parameters_keep (with_object s (parameter x)) xs)

    labels_keep : {es : List Entry} (before : List (List ℕ)) (ls : List Label) → Keeps es es (parts_of_labels before ls)
    labels_keep before [] = keeps_none
    labels_keep before (l ∷ ls) = keeps_then (quiet_keeps (Labelling before l.name l.spot) tt) (labels_keep (before ++ l.name ∷ []) ls)

    naming_keeps : (s : Scope) (e : Entry) (p : Spot) → IsSound e → Keeps (seen s) (seen (with_entry s e)) (Naming s e p ∷ [])
    naming_keeps s e p x = record { keeps = λ h k. ((tt, tt), sound_push s.outer s.inner e h x) }

    hiding_keeps : (s : Scope) (e : Entry) → IsSound e → Keeps (seen s) (seen (with_entry s e)) []
    hiding_keeps s e x = record { keeps = λ h k. (tt, sound_push s.outer s.inner e h x) }

    -- the entries and closed items of a list of items are among those of the program
    pub record AreAmong (s : Scope) (xs : List raw.Item) : Type 0 where
      pub its_entries : (e : Entry) → Contains (after_items m bodies s xs).inner e → Contains entries e
      pub its_hidden : (name : List ℕ) → is_among (closed_names xs) name ≡ true → is_among hidden name ≡ true

    among_rest : (s : Scope) (x : raw.Item) (xs : List raw.Item) → AreAmong s (x ∷ xs) → AreAmong (after_item m bodies s x) xs
    among_rest s (raw.Function p name result ys body) xs a = record { its_entries = a.its_entries; its_hidden = a.its_hidden }
    among_rest s (raw.Prototype p name result types) xs a = record { its_entries = a.its_entries; its_hidden = a.its_hidden }
    among_rest s (raw.Global ds) xs a = record { its_entries = a.its_entries; its_hidden = a.its_hidden }
    among_rest s (raw.Closed p name) xs a = record { its_entries = a.its_entries; its_hidden = λ n h. a.its_hidden n (or_also (bytes_eq n name) _ h) }

    item_keeps : (s : Scope) (x : raw.Item) (xs : List raw.Item) → AreAmong s (x ∷ xs) → Keeps (seen s) (seen (after_item m bodies s x)) (parts_of_item m bodies s x)
    item_keeps s (raw.Function p name result ys body) xs a =
        let e = entry_of_function name result ys in
        let t = inside s name result ys in
        keeps_then (naming_keeps s e p (a.its_entries e (items_stay m bodies (after_item m bodies s (raw.Function p name result ys body)) xs e (Contains-push s.inner e))))
        (keeps_inside (with_entry s e) (keeps_then (keeps_then (parameters_keep t ys) (block_keeps result in_body (after_parameters t ys) (statements_of body))) (labels_keep [] (labels_of body))))
    item_keeps s (raw.Prototype p name result types) xs a =
        let e = entry_of_prototype name result types in
        naming_keeps s e p (a.its_entries e (items_stay m bodies (with_entry s e) xs e (Contains-push s.inner e)))
    item_keeps s (raw.Global ds) xs a = names_keep true s ds
    item_keeps s (raw.Closed p name) xs a = hiding_keeps s (entry name kind.Closed) (a.its_hidden name (or_first (bytes_eq name name) _ ((bytes_eq-Decides name name).1 refl)))

    pub items_keep : (s : Scope) (xs : List raw.Item) → AreAmong s xs → Keeps (seen s) (seen (after_items m bodies s xs)) (parts_of_items m bodies s xs)
    items_keep s [] a = keeps_none
    items_keep s (x ∷ xs) a = keeps_then (item_keeps s x xs a) (items_keep (after_item m bodies s x) xs (among_rest s x xs a))
