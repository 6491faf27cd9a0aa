-- Each object of automatic storage is owned once, and stands where it is declared.
use Rattle.std.proofs.Common.{◌≡◌, ℕ, zero, suc, ◌+◌, ◌<◌, ◌≤◌, Bool, true, false, cond, not, List, [], ◌∷◌, ◌++◌, length, refl, sym, ap, ◌∙◌, subst, Option, Some, is_some, arith, length-append, append-nil, nat_eq, eq-eqb}
use Rattle.std.proofs.lemmas.Bool.Decides.{nat_tests}
use Rattle.std.specs.List.{slice_get, list_all, flat_map, range_with_len}
use Rattle.c_core.specs.Tree as t
use Rattle.c_core.specs.Parts.{DeclaredName, names_in, names_in_block, objects_of}
use Rattle.c_core.specs.Scope.{times_in, is_fixed_object}
use Rattle.c_core.specs.Typing.{is_array}
use Rattle.c_core.specs.Program.{stands_at, is_param}
use Rattle.c_core.proofs.TextOrderLaws.{same_spot-self}
use Rattle.c_core.specs.declared.number.IntType.{IntType}
use Rattle.c_core.specs.declared.tree.Object.{Object}
use Rattle.c_parser.specs.Tree as raw
use Rattle.check_rules.specs.Names.{Entry}
use Rattle.check_rules.specs.Scopes.{Scope, seen, with_object, object_of, after_item, after_parameters, inside, parameter, statements_of}
use Rattle.check_rules.specs.Parts.{Part, Expression, Declaring, Naming, Initializing, Returning, Leaving, Labelling, parts_of_block, parts_of_body, parts_of_parameters, parts_of_names, parts_of_item, parts_of_items, bodies_of, in_body, ArmLabelling, CaseConstant}
use Rattle.check_rules.specs.Checked.{typed_block, numbers_from, functions_of}
use Rattle.check_wellformed.proofs.Lists.{AllOf, both, all_front, all_behind}
use Rattle.check_wellformed.proofs.Threads.{declared, AreBehind, block_leads}
use Rattle.check_wellformed.proofs.Good.{IsGood}
use Rattle.check_wellformed.proofs.OwnedNames.{loose, body_names}
use Rattle.check_wellformed.proofs.TypedStatements.{all_pass_then}

unlike : (o n : ℕ) → o < n → nat_eq o n ≡ false
unlike o n h = grind (arith, nat_tests)

passed_over : (b : Bool) (o n : ℕ) (x : DeclaredName) (xs : List DeclaredName) → nat_eq o x.object ≡ false → times_in o (objects_of (cond b xs (x ∷ xs))) ≡ times_in o (objects_of xs)
passed_over true o n x xs e = refl
passed_over false o n x xs e = rw e refl

times_before : (o n : ℕ) (os : List Object) → o < n → times_in o (objects_of (loose n os)) ≡ 0
times_before o n [] h = refl
times_before o n (x ∷ os) h =
    passed_over x.fixed o n (record { spot = x.spot; object = n }) (loose (n + 1) os) (unlike o n h) ∙ times_before o (n + 1) os (omega arith)

counted : (b : Bool) (n : ℕ) (x : DeclaredName) (xs : List DeclaredName) → nat_eq n x.object ≡ true → times_in n (objects_of xs) ≡ 0 → times_in n (objects_of (cond b xs (x ∷ xs))) ≡ cond b 0 1
counted true n x xs e h = h
counted false n x xs e h = rw e (ap (λ k. suc k) h)

times_at : (os : List Object) (n k : ℕ) (x : Object) → slice_get os k ≡ Some x → times_in (n + k) (objects_of (loose n os)) ≡ cond x.fixed 0 1
times_at [] n k x e = absurd (cc)
times_at (y ∷ os) n zero x e =
    let same : y ≡ x = cc in
    let i : n + 0 ≡ n = omega arith in
    subst (λ z. times_in (n + 0) (objects_of (loose n (y ∷ os))) ≡ cond z.fixed 0 1) same
    (subst (λ k. times_in k (objects_of (loose n (y ∷ os))) ≡ cond y.fixed 0 1) (sym i)
    (counted y.fixed n (record { spot = y.spot; object = n }) (loose (n + 1) os) (eq-eqb n n refl) (times_before n (n + 1) os (omega arith))))
times_at (y ∷ os) n (suc k) x e =
    let i : (n + 1) + k ≡ n + suc k = omega arith in
    passed_over y.fixed (n + suc k) n (record { spot = y.spot; object = n }) (loose (n + 1) os) (grind (arith, nat_tests))
    ∙ subst (λ j. times_in j (objects_of (loose (n + 1) os)) ≡ cond x.fixed 0 1) i (times_at os (n + 1) k x e)

-- an element at each place within
record IsAt {A : Type 0} (xs : List A) (k : ℕ) : Type 0 where
  element : A
  at : slice_get xs k ≡ Some element

at_each : {A : Type 0} (xs : List A) (k : ℕ) → k < length xs → IsAt xs k
at_each [] k h = absurd (omega arith)
at_each (x ∷ xs) zero h = record { element = x; at = refl }
at_each (x ∷ xs) (suc k) h = let r = at_each xs k (omega arith) in record { element = r.element; at = r.at }

range_passes : (q : ℕ → Bool) (a n : ℕ) → ((i : ℕ) → a ≤ i → i < a + n → q i ≡ true) → list_all q (range_with_len a n) ≡ true
range_passes q a zero f = refl
range_passes q a (suc n) f = both (f a (omega arith) (omega arith)) (range_passes q (a + 1) n (λ i x y. f i (omega arith) (omega arith)))

-- each object once, unless it is fixed
pub each_owned : (os : List Object) → list_all (λ o. nat_eq (times_in o (objects_of (loose 0 os))) (cond (is_fixed_object (slice_get os o)) 0 1)) (range_with_len 0 (length os)) ≡ true
each_owned os =
    range_passes _ 0 (length os) (λ i x y. let r = at_each os i (omega arith) in one i r.element r.at)
  where
    one : (i : ℕ) (x : Object) → slice_get os i ≡ Some x → nat_eq (times_in i (objects_of (loose 0 os))) (cond (is_fixed_object (slice_get os i)) 0 1) ≡ true
    one i x e =
        let k : 0 + i ≡ i = omega arith in
        rw e (eq-eqb _ _ (subst (λ j. times_in j (objects_of (loose 0 os)) ≡ cond x.fixed 0 1) k (times_at os 0 i x e)))

known_by : (b : Bool) (q : ℕ → Bool) (x : DeclaredName) (xs : List DeclaredName) → q x.object ≡ true → list_all q (objects_of xs) ≡ true → list_all q (objects_of (cond b xs (x ∷ xs))) ≡ true
known_by true q x xs h k = k
known_by false q x xs h k = both h k

known_from : (q : ℕ → Bool) (os : List Object) (n : ℕ) → ((k : ℕ) → k < length os → q (n + k) ≡ true) → list_all q (objects_of (loose n os)) ≡ true
known_from q [] n f = refl
known_from q (x ∷ os) n f =
    let here : q n ≡ true = subst (λ k. q k ≡ true) (omega arith) (f 0 (omega arith)) in
    known_by x.fixed q (record { spot = x.spot; object = n }) (loose (n + 1) os) here
    (known_from q os (n + 1) (λ k h. subst (λ j. q j ≡ true) (omega arith) (f (suc k) (omega arith))))

pub each_known : (os : List Object) → list_all (λ o. is_some (slice_get os o)) (objects_of (loose 0 os)) ≡ true
each_known os = known_from (λ o. is_some (slice_get os o)) os 0 (λ k h. let r = at_each os k h in one k r.element r.at)
  where
    one : (k : ℕ) (x : Object) → slice_get os k ≡ Some x → is_some (slice_get os (0 + k)) ≡ true
    one k x e =
        let j : k ≡ 0 + k = omega arith in
        subst (λ j. is_some (slice_get os j) ≡ true) j (ap is_some e)

module _ (p : t.Program) (items : List raw.Item) (entries : List Entry) where
  abbrev Goods : List Part → Type 0
  Goods ps = AllOf (IsGood p items entries) ps

  abbrev Stands : DeclaredName → Bool
  Stands name = stands_at name.spot (slice_get p.objects name.object)

  stands_by : (b : Bool) (x : DeclaredName) (xs : List DeclaredName) → Stands x ≡ true → list_all Stands xs ≡ true → list_all Stands (cond b xs (x ∷ xs)) ≡ true
  stands_by true x xs h k = k
  stands_by false x xs h k = both h k

  one_stands : (n : ℕ) (o : Object) → slice_get p.objects n ≡ Some o → stands_at o.spot (slice_get p.objects n) ≡ true
  one_stands n o e = rw e (same_spot-self o.spot)

  stand_all : (a : List Object) (ps : List Part) → AreBehind p.model (bodies_of items) a ps → Goods ps → list_all Stands (loose (length a) (declared p.model (bodies_of items) ps)) ≡ true
  stand_all a [] h g = refl
  stand_all a (Declaring fixed s d ∷ ps) h g =
      let o = object_of p.model (bodies_of items) fixed (seen s) d in
      let next : length (a ++ o ∷ []) ≡ length a + 1 = length-append a (o ∷ []) in
      stands_by fixed (record { spot = d.spot; object = length a }) (loose (length a + 1) (declared p.model (bodies_of items) ps))
      (subst (λ l. stands_at d.spot (slice_get p.objects (length l)) ≡ true) h.0 (one_stands (length s.objects) o g.0.placed))
      (subst (λ n. list_all Stands (loose n (declared p.model (bodies_of items) ps)) ≡ true) next (stand_all (a ++ o ∷ []) ps h.1 g.1))
  stand_all a (Expression es' r e ∷ ps) h g = stand_all a ps (subst (λ l. AreBehind p.model (bodies_of items) l ps) (append-nil a) h.1) g.1
  stand_all a (Naming s e q ∷ ps) h g = stand_all a ps (subst (λ l. AreBehind p.model (bodies_of items) l ps) (append-nil a) h.1) g.1
  stand_all a (Initializing fixed s e ∷ ps) h g = stand_all a ps (subst (λ l. AreBehind p.model (bodies_of items) l ps) (append-nil a) h.1) g.1
  stand_all a (Returning result q given ∷ ps) h g = stand_all a ps (subst (λ l. AreBehind p.model (bodies_of items) l ps) (append-nil a) h.1) g.1
  stand_all a (Leaving may q ∷ ps) h g = stand_all a ps (subst (λ l. AreBehind p.model (bodies_of items) l ps) (append-nil a) h.1) g.1
  stand_all a (Labelling before w q ∷ ps) h g = stand_all a ps (subst (λ l. AreBehind p.model (bodies_of items) l ps) (append-nil a) h.1) g.1
  stand_all a (ArmLabelling before l q ∷ ps) h g = stand_all a ps (subst (λ l. AreBehind p.model (bodies_of items) l ps) (append-nil a) h.1) g.1
  stand_all a (CaseConstant es e ∷ ps) h g = stand_all a ps (subst (λ l. AreBehind p.model (bodies_of items) l ps) (append-nil a) h.1) g.1

  body_stands : (result : Option IntType) (s : Scope) (b : raw.Stms) → Goods (parts_of_block p.model (bodies_of items) result in_body s b) → list_all Stands (names_in_block (typed_block p.model (bodies_of items) s b)) ≡ true
  body_stands result s b g =
      subst (λ l. list_all Stands l ≡ true) (sym (body_names p.model (bodies_of items) result s b))
      (stand_all s.objects (parts_of_block p.model (bodies_of items) result in_body s b) (block_leads p.model (bodies_of items) result in_body s b).behind g)

  parameter_is : (n : ℕ) (o : Object) → slice_get p.objects n ≡ Some o → is_array o ≡ false → is_param (slice_get p.objects n) ≡ true
  parameter_is n o e f = rw e (ap not f)

  parameters_are : (s : Scope) (xs : List raw.Param) (n : ℕ) → length s.objects ≡ n → Goods (parts_of_parameters s xs) → list_all (λ o. is_param (slice_get p.objects o)) (numbers_from p.model (bodies_of items) n xs) ≡ true
  parameters_are s [] n e g = refl
  parameters_are s (x ∷ xs) n e g =
      both (subst (λ k. is_param (slice_get p.objects k) ≡ true) e (parameter_is (length s.objects) (parameter x) g.0.placed refl))
      (parameters_are (with_object s (parameter x)) xs (n + 1) (length-append s.objects (parameter x ∷ []) ∙ ap (λ k. k + 1) e) g.1)

  -- the parameters of functions, and the names in their bodies
  pub record AreFunctionsRight (fs : List t.Function) : Type 0 where
    pub named : list_all Stands (flat_map (λ f. names_in f.body) fs) ≡ true
    pub params : list_all (λ f. list_all (λ o. is_param (slice_get p.objects o)) f.params) fs ≡ true

  pub functions_right : (s : Scope) (xs : List raw.Item) → Goods (parts_of_items p.model (bodies_of items) s xs) → AreFunctionsRight (functions_of p.model (bodies_of items) s xs)
  functions_right s [] g = record { named = refl; params = refl }
  functions_right s (raw.Function q name result ys body ∷ xs) g =
      let x = raw.Function q name result ys body in
      let px = parts_of_item p.model (bodies_of items) s x in
      let rest = functions_right (after_item p.model (bodies_of items) s x) xs (all_behind (IsGood p items entries) px _ g) in
      let u = inside s name result ys in
      let ps = parts_of_parameters u ys in
      let bs = parts_of_body p.model (bodies_of items) s name result ys body in
      let both_parts = all_front (IsGood p items entries) (ps ++ bs) _ (all_front (IsGood p items entries) px _ g).1 in
      let b = typed_block p.model (bodies_of items) (after_parameters u ys) (statements_of body) in
      record {
        named = all_pass_then Stands (names_in_block b) _ (body_stands result (after_parameters u ys) (statements_of body) (all_behind (IsGood p items entries) ps _ both_parts)) rest.named;
        params = both (parameters_are u ys (length s.objects) refl (all_front (IsGood p items entries) ps _ both_parts)) rest.params;
      }
  functions_right s (raw.Prototype q name result types ∷ xs) g = functions_right (after_item p.model (bodies_of items) s (raw.Prototype q name result types)) xs g.1
  functions_right s (raw.Global ds ∷ xs) g =
      functions_right (after_item p.model (bodies_of items) s (raw.Global ds)) xs (all_behind (IsGood p items entries) (parts_of_names p.model (bodies_of items) true s ds) _ g)
  functions_right s (raw.Closed q name ∷ xs) g = functions_right (after_item p.model (bodies_of items) s (raw.Closed q name)) xs g
