-- The parts of statements, and their full expressions.
use Rattle.std.proofs.Common.{◌≡◌, ℕ, ◌-◌, Bool, true, false, List, [], ◌∷◌, ◌++◌, length, map, Option, Some, None, is_some, refl, subst, arith, length-append, append_assoc}
use Rattle.std.specs.List.{flat_map}
use Rattle.c_core.specs.declared.number.IntType.{IntType}
use Rattle.c_core.specs.declared.number.DataModel.{DataModel}
use Rattle.c_core.specs.declared.number.Spot.{Spot}
use Rattle.c_core.specs.Parts.{type_of}
use Rattle.c_core.specs.declared.tree.Label.{Label as ArmLabel}
use Rattle.c_core.specs.declared.tree.Object.{Object}
use Rattle.c_parser.specs.Tree as raw
use Rattle.check_rules.specs.Names.{Entry}
use Rattle.check_rules.specs.Scopes.{Scope, seen, opened, closed, object_of, after_name, after_first, after_statement}
use Rattle.check_rules.specs.Typed.{typed, typed_all}
use Rattle.check_rules.specs.declared.within.Within.{Within}
use Rattle.check_rules.specs.Parts.{Value, Effect, Role, Part, Declaring, Returning, Leaving, bodies_of, parts, parts_if, parts_of_value, parts_of_values, parts_of_init, parts_of_name, parts_of_names, parts_of_first, parts_of_statement, parts_of_form, parts_of_else, parts_of_block, in_loop, ArmLabelling, parts_of, parts_of_label, parts_of_arms, in_switch}
use Rattle.check_rules.specs.Arms.{switch_type, label_of}
use Rattle.check_rules.specs.Checked.{typed_if, typed_init, typed_names, typed_first, typed_statement, typed_form, typed_else, typed_block, typed_arms}
use Rattle.check_sequencing.specs.Bodies.{Full, full, full_if, initializers, fulls_of_init, fulls_of_names, fulls_of_first, fulls, fulls_in, fulls_of_else, fulls_of_block}
use Rattle.check_unsequenced.specs.PartEffects.{is_stored}
use Rattle.check_unsequenced.proofs.Matches.{Match, both, constant, expression, fixed_initializer, initializer, none, other, sized}

last_number : (os : List Object) (o : Object) → length (os ++ o ∷ []) - 1 ≡ length os
last_number os o = omega (arith, length-append os (o ∷ []))

module _ (m : DataModel) (items : List raw.Item) (objects : List Object) where
  abbrev Are : List Part → List Full → Type 0
  Are ps fs = Match m items objects ps fs

  abbrev names : List (List ℕ)
  names = bodies_of items

  then : (ps qs : List Part) (fs gs : List Full) → Are ps fs → Are qs gs → Are (ps ++ qs) (fs ++ gs)
  then ps qs fs gs x y = both m items objects {ps = ps} {qs = qs} {fs = fs} {gs = gs} x y

  optional : (es : List Entry) (r : Role) (e : Option raw.Exp) → is_stored r ≡ false → Are (parts_if es r e) (full_if (typed_if m names es e))
  optional es r None s = none m items objects
  optional es r (Some e) s = expression m items objects es r e s

  -- ---- declared names

  values : (s : Scope) (gs : raw.Exps) → Are (parts_of_values false s gs) (initializers (length s.objects - 1) (typed_all m names (seen s) gs))
  values s raw.NoExp = none m items objects
  values s (raw.MoreExp e gs) = then (parts_of_value false s e) (parts_of_values false s gs) _ (initializers (length s.objects - 1) (typed_all m names (seen s) gs)) (initializer m items objects s e) (values s gs)

  rows : (s : Scope) (all : List raw.Exps) → Are (flat_map (parts_of_values false s) all) (flat_map (initializers (length s.objects - 1)) (map (typed_all m names (seen s)) all))
  rows s [] = none m items objects
  rows s (row ∷ all) =
      then (parts_of_values false s row) (flat_map (parts_of_values false s) all) (initializers (length s.objects - 1) (typed_all m names (seen s) row)) (flat_map (initializers (length s.objects - 1)) (map (typed_all m names (seen s)) all))
      (values s row) (rows s all)

  init : (s : Scope) (i : raw.Init) → Are (parts_of_init false s i) (fulls_of_init (length s.objects - 1) (typed_init m names (seen s) i))
  init s raw.Absent = none m items objects
  init s (raw.One e) = initializer m items objects s e
  init s (raw.Many gs) = values s gs
  init s (raw.Rows all) = rows s all

  fixed_values : (s : Scope) (gs : raw.Exps) → Are (parts_of_values true s gs) []
  fixed_values s raw.NoExp = none m items objects
  fixed_values s (raw.MoreExp e gs) = then (parts_of_value true s e) (parts_of_values true s gs) [] [] (fixed_initializer m items objects s e) (fixed_values s gs)

  fixed_rows : (s : Scope) (all : List raw.Exps) → Are (flat_map (parts_of_values true s) all) []
  fixed_rows s [] = none m items objects
  fixed_rows s (row ∷ all) = then (parts_of_values true s row) (flat_map (parts_of_values true s) all) [] [] (fixed_values s row) (fixed_rows s all)

  fixed_init : (s : Scope) (i : raw.Init) → Are (parts_of_init true s i) []
  fixed_init s raw.Absent = none m items objects
  fixed_init s (raw.One e) = fixed_initializer m items objects s e
  fixed_init s (raw.Many gs) = fixed_values s gs
  fixed_init s (raw.Rows all) = fixed_rows s all

  -- the sizes first, then the initializer
  name_of : (fixed : Bool) (s : Scope) (d : raw.Declared) (fs : List Full) → Are (parts_of_init fixed (after_name m names fixed s d) d.init) fs → Are (parts_of_name m names fixed s d) fs
  name_of fixed s d fs x =
      let sizes = parts_of (seen s) (raw.exps d.sizes) in
      let rest = parts_of_init fixed (after_name m names fixed s d) d.init in
      subst (λ ps. Are ps fs) (append_assoc sizes (Declaring fixed s d ∷ []) rest) (then (sizes ++ Declaring fixed s d ∷ []) rest [] fs (sized m items objects fixed s d) x)

  name_is : (s : Scope) (d : raw.Declared) → Are (parts_of_name m names false s d) (fulls_of_init (length s.objects) (typed_init m names (seen (after_name m names false s d)) d.init))
  name_is s d =
      let u = after_name m names false s d in
      name_of false s d (fulls_of_init (length s.objects) (typed_init m names (seen u) d.init))
      (subst (λ n. Are (parts_of_init false u d.init) (fulls_of_init n (typed_init m names (seen u) d.init))) (last_number s.objects (object_of m names false (seen s) d)) (init u d.init))

  names_are : (s : Scope) (ds : List raw.Declared) → Are (parts_of_names m names false s ds) (fulls_of_names (typed_names m names s ds))
  names_are s [] = none m items objects
  names_are s (d ∷ ds) =
      let u = after_name m names false s d in
      then (parts_of_name m names false s d) (parts_of_names m names false u ds) (fulls_of_init (length s.objects) (typed_init m names (seen u) d.init)) (fulls_of_names (typed_names m names u ds)) (name_is s d) (names_are u ds)

  pub fixed_names_are : (s : Scope) (ds : List raw.Declared) → Are (parts_of_names m names true s ds) []
  fixed_names_are s [] = none m items objects
  fixed_names_are s (d ∷ ds) =
      let u = after_name m names true s d in
      then (parts_of_name m names true s d) (parts_of_names m names true u ds) [] [] (name_of true s d [] (fixed_init u d.init)) (fixed_names_are u ds)

  first_is : (s : Scope) (i : raw.First) → Are (parts_of_first m names s i) (fulls_of_first (typed_first m names s i))
  first_is s raw.NoFirst = none m items objects
  first_is s (raw.FirstExp e) = expression m items objects (seen s) Effect e refl
  first_is s (raw.FirstDeclared ds) = names_are s ds

  -- ---- statements

  label_is : (es : List Entry) (l : raw.ArmLabel) → Are (parts_of_label es l) []
  label_is es (raw.Case e) = constant m items objects es e
  label_is es raw.Default = none m items objects

  module _ (result : Option IntType) where
    abbrev pub of_statement : Within → Scope → raw.Stm → List Part
    of_statement within s x = parts_of_statement m names result within s x

    abbrev pub of_else : Within → Scope → raw.Else → List Part
    of_else within s b = parts_of_else m names result within s b

    abbrev pub of_block : Within → Scope → raw.Stms → List Part
    of_block within s b = parts_of_block m names result within s b

    abbrev pub of_arms : Within → IntType → List (Option ArmLabel) → Scope → raw.Stms → List Part
    of_arms within ty before s b = parts_of_arms m names result within ty before s b

    abbrev its : Scope → raw.Stm → List Full
    its s x = fulls (typed_statement m names s x)

    mutual
      statement_is : (within : Within) (s : Scope) (x : raw.Stm) → Are (of_statement within s x) (its s x)
      statement_is within s (raw.Stmt p f) = form_is within s p f

      form_is : (within : Within) (s : Scope) (p : Spot) (f : raw.Form) → Are (parts_of_form m names result within s p f) (fulls_in (typed_form m names s f))
      form_is within s p raw.Empty = none m items objects
      form_is within s p (raw.Do e) = expression m items objects (seen s) Effect e refl
      form_is within s p (raw.Declare ds) = names_are s ds
      form_is within s p (raw.Block b) = block_is within (opened s) b
      form_is within s p (raw.If e a b) =
          let u = closed s (after_statement m names (opened s) a) in
          then (parts (seen s) Value e ++ of_statement within (opened s) a) (of_else within u b) _ (fulls_of_else (typed_else m names u b))
          (then (parts (seen s) Value e) (of_statement within (opened s) a) _ (its (opened s) a) (expression m items objects (seen s) Value e refl) (statement_is within (opened s) a))
          (else_is within u b)
      form_is within s p (raw.While e a) =
          then (parts (seen s) Value e) (of_statement in_loop (opened s) a) _ (its (opened s) a) (expression m items objects (seen s) Value e refl) (statement_is in_loop (opened s) a)
      form_is within s p (raw.DoWhile a e) =
          then (of_statement in_loop (opened s) a) (parts (seen s) Value e) (its (opened s) a) _ (statement_is in_loop (opened s) a) (expression m items objects (seen s) Value e refl)
      form_is within s p (raw.For i e u a) =
          let v = after_first m names (opened s) i in
          let pi = parts_of_first m names (opened s) i in
          let pe = parts_if (seen v) Value e in
          let pu = parts_if (seen v) Effect u in
          let fi = fulls_of_first (typed_first m names (opened s) i) in
          let fe = full_if (typed_if m names (seen v) e) in
          let fu = full_if (typed_if m names (seen v) u) in
          then (pi ++ pe ++ pu) (of_statement in_loop (opened v) a) (fi ++ fe ++ fu) (its (opened v) a)
          (then (pi ++ pe) pu (fi ++ fe) fu (then pi pe fi fe (first_is (opened s) i) (optional (seen v) Value e refl)) (optional (seen v) Effect u refl))
          (statement_is in_loop (opened v) a)
      form_is within s p raw.Break = other m items objects (Leaving within.breaks p) refl refl (λ u. u)
      form_is within s p raw.Continue = other m items objects (Leaving within.continues p) refl refl (λ u. u)
      form_is within s p (raw.Return e) =
          then (Returning result p (is_some e) ∷ []) (parts_if (seen s) Value e) [] (full_if (typed_if m names (seen s) e))
          (other m items objects (Returning result p (is_some e)) refl refl (λ u. u)) (optional (seen s) Value e refl)
      form_is within s p (raw.Label w a) = statement_is within (opened s) a
      form_is within s p (raw.Switch e b) =
          let ty = switch_type (type_of (typed m names (seen s) e)) in
          then (parts (seen s) Value e) (of_arms (in_switch within) ty [] s b) (full None (typed m names (seen s) e) ∷ []) (fulls_of_block (typed_arms m names ty s b))
          (expression m items objects (seen s) Value e refl) (arms_are (in_switch within) ty [] s b)

      else_is : (within : Within) (s : Scope) (b : raw.Else) → Are (of_else within s b) (fulls_of_else (typed_else m names s b))
      else_is within s raw.NoElse = none m items objects
      else_is within s (raw.OrElse b) = statement_is within (opened s) b

      pub block_is : (within : Within) (s : Scope) (b : raw.Stms) → Are (of_block within s b) (fulls_of_block (typed_block m names s b))
      block_is within s raw.NoStm = none m items objects
      block_is within s (raw.MoreStm x b) =
          let u = after_statement m names s x in
          then (of_statement within s x) (of_block within u b) (its s x) (fulls_of_block (typed_block m names u b)) (statement_is within s x) (block_is within u b)
      block_is within s (raw.MoreCase p l b) = block_is within s b

      arms_are : (within : Within) (ty : IntType) (before : List (Option ArmLabel)) (s : Scope) (b : raw.Stms) → Are (of_arms within ty before s b) (fulls_of_block (typed_arms m names ty s b))
      arms_are within ty before s raw.NoStm = none m items objects
      arms_are within ty before s (raw.MoreStm x b) =
          let u = closed s (after_statement m names (opened s) x) in
          then (of_statement within (opened s) x) (of_arms within ty before u b) (its (opened s) x) (fulls_of_block (typed_arms m names ty u b)) (statement_is within (opened s) x) (arms_are within ty before u b)
      arms_are within ty before s (raw.MoreCase p l b) =
          let label = label_of m names (seen s) ty l in
          let more = before ++ label ∷ [] in
          let fs = fulls_of_block (typed_arms m names ty s b) in
          then (ArmLabelling before label p ∷ []) (parts_of_label (seen s) l ++ of_arms within ty more s b) [] fs
          (other m items objects (ArmLabelling before label p) refl refl (λ u. u))
          (then (parts_of_label (seen s) l) (of_arms within ty more s b) [] fs (label_is (seen s) l) (arms_are within ty more s b))
