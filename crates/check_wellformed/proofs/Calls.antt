-- Calls that aren't refused fit the functions that they call.
use Rattle.std.proofs.Common.{◌≡◌, ℕ, suc, Bool, true, false, cond, not, ◌&&◌, ◌||◌, List, [], ◌∷◌, length, refl, sym, ap, ◌∙◌, subst, Option, Some, None, is_none, eqb-true, eq-eqb, nat_eq, add-one}
use Rattle.std.proofs.lemmas.Bool.{false≢true}
use Rattle.std.proofs.lemmas.Slice.Eq.{bytes_eq-Decides}
use Rattle.std.specs.List.{Contains, position_or_len, list_all}
use Rattle.std.specs.Str.{bytes_eq}
use Rattle.c_core.specs.Tree as t
use Rattle.c_core.specs.Parts.{exps_in}
use Rattle.c_core.specs.Typing.{has_value, are_values, same_types, is_call}
use Rattle.c_core.specs.declared.number.IntType.{IntType}
use Rattle.c_core.specs.declared.number.Spot.{Spot}
use Rattle.c_core.specs.declared.tree.Callee.{Callee}
use Rattle.c_core.specs.declared.tree.Callee.TheVariants as callee
use Rattle.c_parser.specs.Tree as raw
use Rattle.c_parser.specs.Tree.{Exp, Expr, Exps, NoExp, MoreExp, Call}
use Rattle.check_rules.specs.Names as kind
use Rattle.check_rules.specs.Names.{Kind, Entry, entry, declared_as, or_built_in, built_in, named, is_function, result_of_callee, parameters_of_callee}
use Rattle.check_rules.specs.Typed.{typed_all, result_named, callee_or, callee_of, callee_for}
use Rattle.check_rules.specs.Parts.{Role, Value, Expression, parts, parts_of, bodies_of}
use Rattle.check_rules.specs.Codes.{is_among, closed_names, count, count_in, or_else, count_stated, is_not, count_for, miscalled}
use Rattle.check_wellformed.proofs.Lists.{AllOf, both, all_front, all_behind, first_fails, second_fails, not_false}
use Rattle.check_wellformed.proofs.Entries.{AreAgreed, same_type-refl, same_types-refl}
use Rattle.check_wellformed.proofs.Known.{IsSound, IsKind}
use Rattle.check_wellformed.proofs.Good.{IsGood, IsCalled, IsBuilt, IsBuiltIf, is_built, Stands, declared_stands, value_of_part}

equal_unless : (n k : ℕ) → is_not n (Some k) ≡ false → n ≡ k
equal_unless n k h = eqb-true n k (not_false (nat_eq n k) h)

-- so many values, of which each is one
values_fit : (n k : ℕ) (vs : t.Exps) → is_not n (Some k) ≡ false → length (exps_in vs) ≡ n → list_all has_value (exps_in vs) ≡ true → are_values k vs ≡ true
values_fit n k vs h e v = both (eq-eqb _ k (e ∙ equal_unless n k h)) v

-- ---- how many parameters are stated

-- the number n, or none
abbrev IsOrNone : ℕ → Option ℕ → Type 0
IsOrNone n None = Unit {0}
IsOrNone n (Some k) = k ≡ n

else_is : (n : ℕ) (a b : Option ℕ) → IsOrNone n a → IsOrNone n b → IsOrNone n (or_else a b)
else_is n None b h k = k
else_is n (Some x) b h k = h

chosen_is : (n : ℕ) (b : Bool) (o : Option ℕ) → (b ≡ true → IsOrNone n o) → IsOrNone n (cond b o None)
chosen_is n true o h = h refl
chosen_is n false o h = tt

else_some : (n : ℕ) (a : Option ℕ) → IsOrNone n a → or_else a (Some n) ≡ Some n
else_some n None h = refl
else_some n (Some k) h = ap (λ x. Some x) h

module _ (p : t.Program) (items : List raw.Item) (entries : List Entry) (agreed : AreAgreed entries) where
  -- ---- a built-in function

  built_fits : (c : Callee) (n : ℕ) (vs : t.Exps) → IsBuilt c → is_not n (Some (length (parameters_of_callee c))) ≡ false → length (exps_in vs) ≡ n → list_all has_value (exps_in vs) ≡ true → is_call p (result_of_callee c) c vs ≡ true
  built_fits (callee.Defined f) n vs h k e v = absurd h
  built_fits (callee.Input ty) n vs h k e v = both (values_fit n 0 vs k e v) (both h (same_type-refl ty))
  built_fits callee.ReachError n vs h k e v = both (values_fit n 0 vs k e v) refl
  built_fits callee.Abort n vs h k e v = both (values_fit n 0 vs k e v) refl
  built_fits callee.Exit n vs h k e v = both (values_fit n 1 vs k e v) refl

  -- ---- a function with a body

  module _ (f : List ℕ) (c : IsCalled p items entries f) where
    kind_is : (k : Kind) → IsKind p.objects entries (closed_names items) f k → IsOrNone (length c.types) (count_in k)
    kind_is (kind.Object n ty dims fixed) h = tt
    kind_is (kind.Function result None has_body) h = tt
    kind_is (kind.Function result (Some types) has_body) h = (agreed _ _ h c.stands refl).1
    kind_is kind.Closed h = tt

    stated_is : (es : List Entry) → AllOf (IsSound p.objects entries (closed_names items)) es → IsOrNone (length c.types) (count_stated es f)
    stated_is [] h = tt
    stated_is (e ∷ es) h =
        else_is _ (cond (bytes_eq e.name f) (count_in e.kind) None) (count_stated es f)
        (chosen_is _ (bytes_eq e.name f) (count_in e.kind) (λ same. kind_is e.kind (subst (λ y. IsKind p.objects entries (closed_names items) y e.kind) ((bytes_eq-Decides e.name f).0 same) h.0)))
        (stated_is es h.1)

    counted : (es : List Entry) → AllOf (IsSound p.objects entries (closed_names items)) es → count_for p.model items None es f ≡ Some (length c.types)
    counted es h = ap (λ o. or_else (count_stated es f) o) c.defined ∙ else_some (length c.types) (count_stated es f) (stated_is es h)

    defined_fits : (es : List Entry) (result : Option IntType) (stated : Option (List IntType)) (has_body : Bool) (n : ℕ) (vs : t.Exps) → AllOf (IsSound p.objects entries (closed_names items)) es → Contains entries (entry f (kind.Function result stated has_body)) → is_not n (count_for p.model items None es f) ≡ false → length (exps_in vs) ≡ n → list_all has_value (exps_in vs) ≡ true → is_call p result (callee.Defined (position_or_len (bytes_eq f) (bodies_of items))) vs ≡ true
    defined_fits es result stated has_body n vs s h k e v =
        let same : c.function.result ≡ result = (agreed _ _ c.stands h refl).0 in
        let many : is_not n (Some (length c.function.params)) ≡ false = subst (λ o. is_not n o ≡ false) (counted es s ∙ ap (λ x. Some x) c.many) k in
        rw c.at (both (values_fit n (length c.function.params) vs many e v) (subst (λ r. same_types c.function.result r ≡ true) same (same_types-refl c.function.result)))

  -- ---- any call

  abbrev miscalled_by : Option ℕ → ℕ → Option Kind → Bool
  miscalled_by c n None = false
  miscalled_by c n (Some (kind.Object o ty dims fixed)) = true
  miscalled_by c n (Some k) = is_not n c

  miscalled_is : (es : List Entry) (f : List ℕ) (n : ℕ) (o : Option Kind) → miscalled p.model items es f n o ≡ miscalled_by (count_for p.model items (built_in f) es f) n o
  miscalled_is es f n None = refl
  miscalled_is es f n (Some (kind.Object o ty dims fixed)) = refl
  miscalled_is es f n (Some (kind.Function result stated has_body)) = refl
  miscalled_is es f n (Some kind.Closed) = refl

  module _ (functions : (f : List ℕ) → is_among (bodies_of items) f ≡ true → IsCalled p items entries f) where
    -- a call of a function, with what the declarations and the built-in functions make of its name
    record Fits (f : List ℕ) (vs : t.Exps) (d : Option Kind) (b : Option Callee) : Type 0 where
      is_one : is_function (or_built_in d b) ≡ true
      fits : is_call p (result_named (or_built_in d b)) (callee_or b (position_or_len (bytes_eq f) (bodies_of items))) vs ≡ true

    record Asks (es : List Entry) (f : List ℕ) (n : ℕ) (vs : t.Exps) (d : Option Kind) (b : Option Callee) : Type 0 where
      sound : AllOf (IsSound p.objects entries (closed_names items)) es
      stands : Stands p items entries f d
      built : IsBuiltIf b
      named : is_none (or_built_in d b) ≡ false
      called : miscalled_by (count_for p.model items b es f) n (or_built_in d b) ≡ false
      bodied : (is_function (or_built_in d b) && (is_among (closed_names items) f || (is_none b && not (is_among (bodies_of items) f)))) ≡ false
      many : length (exps_in vs) ≡ n
      values : list_all has_value (exps_in vs) ≡ true

    fits_by : (es : List Entry) (f : List ℕ) (n : ℕ) (vs : t.Exps) (d : Option Kind) (b : Option Callee) → Asks es f n vs d b → Fits f vs d b
    fits_by es f n vs None None a = absurd (false≢true (sym a.named))
    fits_by es f n vs None (Some c) a = record { is_one = refl; fits = built_fits c n vs a.built a.called a.many a.values }
    fits_by es f n vs (Some (kind.Object o ty dims fixed)) None a = absurd (false≢true (sym a.called))
    fits_by es f n vs (Some (kind.Object o ty dims fixed)) (Some c) a = absurd (false≢true (sym a.called))
    fits_by es f n vs (Some (kind.Function result stated has_body)) None a =
        let among : is_among (bodies_of items) f ≡ true = not_false _ (second_fails (is_among (closed_names items) f) _ a.bodied) in
        record { is_one = refl; fits = defined_fits f (functions f among) es result stated has_body n vs a.sound a.stands a.called a.many a.values }
    fits_by es f n vs (Some (kind.Function result stated has_body)) (Some c) a = record { is_one = refl; fits = built_fits c n vs a.built a.called a.many a.values }
    fits_by es f n vs (Some kind.Closed) None a = absurd (false≢true (sym (first_fails (is_among (closed_names items) f) _ a.bodied) ∙ a.stands))
    fits_by es f n vs (Some kind.Closed) (Some c) a = record { is_one = refl; fits = built_fits c n vs a.built a.called a.many a.values }

    pub argument_count : (es : List Entry) (gs : Exps) → length (exps_in (typed_all p.model (bodies_of items) es gs)) ≡ count gs
    argument_count es NoExp = refl
    argument_count es (MoreExp e gs) = ap (λ n. suc n) (argument_count es gs) ∙ sym (add-one (count gs))

    pub argument_values : (es : List Entry) (gs : Exps) → AllOf (IsGood p items entries) (parts_of es gs) → list_all has_value (exps_in (typed_all p.model (bodies_of items) es gs)) ≡ true
    argument_values es NoExp h = refl
    argument_values es (MoreExp e gs) h =
        both (value_of_part p items entries es e (all_front (IsGood p items entries) (parts es Value e) _ h))
        (argument_values es gs (all_behind (IsGood p items entries) (parts es Value e) _ h))

    fits_as : (f : List ℕ) (vs : t.Exps) (o : Option Kind) → is_function o ≡ true → is_call p (result_named o) (callee_of (bodies_of items) f) vs ≡ true → is_call p (result_named o) (callee_for (is_function o) (bodies_of items) f) vs ≡ true
    fits_as f vs o one h = rw one h

    -- a call that isn't refused
    pub call_fits : (es : List Entry) (r : Role) (q : Spot) (f : List ℕ) (w : Spot) (gs : Exps) (close : Spot) → IsGood p items entries (Expression es r (Expr q (Call f w gs close))) → AllOf (IsGood p items entries) (parts_of es gs) → is_call p (result_named (named es f)) (callee_for (is_function (named es f)) (bodies_of items) f) (typed_all p.model (bodies_of items) es gs) ≡ true
    call_fits es r q f w gs close g h =
        let vs = typed_all p.model (bodies_of items) es gs in
        let a : Asks es f (count gs) vs (declared_as es f) (built_in f) = record {
          sound = g.knows;
          stands = declared_stands p items entries f es g.knows;
          built = is_built f;
          named = g.fair.named;
          called = sym (miscalled_is es f (count gs) (named es f)) ∙ first_fails (miscalled p.model items es f (count gs) (named es f)) _ g.fair.typed;
          bodied = g.fair.bodied;
          many = argument_count es gs;
          values = argument_values es gs h;
        } in
        let k = fits_by es f (count gs) vs (declared_as es f) (built_in f) a in
        fits_as f vs (named es f) k.is_one k.fits
