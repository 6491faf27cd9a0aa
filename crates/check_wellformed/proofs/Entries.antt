-- The functions and prototypes of one name that a source declares agree.
use Rattle.std.proofs.Common.{◌≡◌, ℕ, suc, Bool, true, false, cond, not, ◌&&◌, List, [], ◌∷◌, ◌++◌, length, refl, sym, ap, ◌∙◌, subst, Option, Some, None, ◌⊎◌, inl, inr, eqb-true, eq-eqb, nat_eq}
use Rattle.std.proofs.lemmas.Bool.{false≢true}
use Rattle.std.proofs.lemmas.Slice.Eq.{bytes_eq-Decides}
use Rattle.std.proofs.lemmas.List.Elements.{Contains-append_left, Contains-push_cases, All-contains, All-from_recursion}
use Rattle.std.specs.List.{AllByRecursion, Contains, list_any}
use Rattle.std.specs.Str.{bytes_eq}
use Rattle.c_core.specs.Typing.{number_of_type, same_type, same_types}
use Rattle.c_core.specs.declared.number.IntType.{IntType}
use Rattle.c_core.specs.declared.number.IntType.TheVariants.{Bool as BoolType, Char, SChar, UChar, Short, UShort, Int, UInt, Long, ULong, LongLong, ULongLong}
use Rattle.c_core.specs.declared.number.DataModel.{DataModel}
use Rattle.c_core.specs.declared.number.Spot.{Spot}
use Rattle.c_parser.specs.Tree as raw
use Rattle.check_rules.specs.Names as kind
use Rattle.check_rules.specs.Names.{Kind, Entry, entry}
use Rattle.check_rules.specs.Codes.{same_lists, agree, clashes, is_again}
use Rattle.check_rules.specs.Scopes.{Scope, object_of, after_name, after_names, after_item, after_items, entry_of_function, entry_of_prototype}
use Rattle.check_rules.specs.Parts.{Naming, parts_of_item, parts_of_items}
use Rattle.check_wellformed.proofs.Lists.{AllOf, all_front, all_behind, right, first_fails, second_fails, not_false}
use Rattle.check_wellformed.proofs.Fair.{IsFair}

-- ---- equal types

of_number : ℕ → IntType
of_number n =
    cond (nat_eq n 0) BoolType (cond (nat_eq n 1) Char (cond (nat_eq n 2) SChar (cond (nat_eq n 3) UChar (cond (nat_eq n 4) Short (cond (nat_eq n 5) UShort
    (cond (nat_eq n 6) Int (cond (nat_eq n 7) UInt (cond (nat_eq n 8) Long (cond (nat_eq n 9) ULong (cond (nat_eq n 10) LongLong ULongLong))))))))))

of_its_number : (a : IntType) → of_number (number_of_type a) ≡ a
unfolding of_number
of_its_number BoolType = refl
of_its_number Char = refl
of_its_number SChar = refl
of_its_number UChar = refl
of_its_number Short = refl
of_its_number UShort = refl
of_its_number Int = refl
of_its_number UInt = refl
of_its_number Long = refl
of_its_number ULong = refl
of_its_number LongLong = refl
of_its_number ULongLong = refl

pub equal_types : (a b : IntType) → same_type a b ≡ true → a ≡ b
equal_types a b h = sym (of_its_number a) ∙ ap of_number (eqb-true (number_of_type a) (number_of_type b) h) ∙ of_its_number b

pub same_type-refl : (a : IntType) → same_type a a ≡ true
same_type-refl a = eq-eqb (number_of_type a) (number_of_type a) refl

pub same_types-refl : (a : Option IntType) → same_types a a ≡ true
same_types-refl None = refl
same_types-refl (Some a) = same_type-refl a

pub equal_results : (a b : Option IntType) → same_types a b ≡ true → a ≡ b
equal_results None None h = refl
equal_results None (Some b) h = absurd (false≢true h)
equal_results (Some a) None h = absurd (false≢true h)
equal_results (Some a) (Some b) h = ap (λ ty. Some ty) (equal_types a b h)

equal_lengths : (ts us : List IntType) → same_lists ts us ≡ true → length ts ≡ length us
equal_lengths [] [] h = refl
equal_lengths [] (u ∷ us) h = absurd (false≢true h)
equal_lengths (t ∷ ts) [] h = absurd (false≢true h)
equal_lengths (t ∷ ts) (u ∷ us) h = ap (λ n. suc n) (equal_lengths ts us (right (same_type t u) _ h))

-- ---- two that agree

-- parameters that both state are as many
abbrev pub AsMany : Option (List IntType) → Option (List IntType) → Type 0
AsMany (Some ts) (Some us) = length ts ≡ length us
AsMany _ _ = Unit {0}

-- two functions have one result
abbrev pub AgreeKinds : Kind → Kind → Type 0
AgreeKinds (kind.Function result stated has_body) (kind.Function result' stated' has_body') = (result ≡ result') × AsMany stated stated'
AgreeKinds _ _ = Unit {0}

as_many : (a b : Option (List IntType)) → agree a b ≡ true → AsMany a b
as_many None None h = tt
as_many None (Some us) h = tt
as_many (Some ts) None h = tt
as_many (Some ts) (Some us) h = equal_lengths ts us h

as_many-refl : (a : Option (List IntType)) → AsMany a a
as_many-refl None = tt
as_many-refl (Some ts) = refl

as_many-sym : (a b : Option (List IntType)) → AsMany a b → AsMany b a
as_many-sym None None h = tt
as_many-sym None (Some us) h = tt
as_many-sym (Some ts) None h = tt
as_many-sym (Some ts) (Some us) h = sym h

agree-refl : (k : Kind) → AgreeKinds k k
agree-refl (kind.Object n ty dims fixed) = tt
agree-refl (kind.Function result stated has_body) = (refl, as_many-refl stated)
agree-refl kind.Closed = tt

agree-sym : (k l : Kind) → AgreeKinds k l → AgreeKinds l k
agree-sym (kind.Function r s b) (kind.Function r' s' b') h = (sym h.0, as_many-sym s s' h.1)
agree-sym (kind.Function r s b) (kind.Object n ty dims fixed) h = tt
agree-sym (kind.Function r s b) kind.Closed h = tt
agree-sym (kind.Object n ty dims fixed) (kind.Function r s b) h = tt
agree-sym (kind.Object n ty dims fixed) (kind.Object n' ty' dims' fixed') h = tt
agree-sym (kind.Object n ty dims fixed) kind.Closed h = tt
agree-sym kind.Closed (kind.Function r s b) h = tt
agree-sym kind.Closed (kind.Object n ty dims fixed) h = tt
agree-sym kind.Closed kind.Closed h = tt

agree_unless_clashing : (k l : Kind) → clashes k l ≡ false → AgreeKinds k l
agree_unless_clashing (kind.Function r s b) (kind.Function r' s' b') h = (
  equal_results r r' (not_false _ (first_fails (not (same_types r r')) _ h)),
  as_many s s' (not_false _ (first_fails (not (agree s s')) _ (second_fails (not (same_types r r')) _ h))),
)
agree_unless_clashing (kind.Function r s b) (kind.Object n ty dims fixed) h = tt
agree_unless_clashing (kind.Function r s b) kind.Closed h = tt
agree_unless_clashing (kind.Object n ty dims fixed) (kind.Function r s b) h = tt
agree_unless_clashing (kind.Object n ty dims fixed) (kind.Object n' ty' dims' fixed') h = tt
agree_unless_clashing (kind.Object n ty dims fixed) kind.Closed h = tt
agree_unless_clashing kind.Closed (kind.Function r s b) h = tt
agree_unless_clashing kind.Closed (kind.Object n ty dims fixed) h = tt
agree_unless_clashing kind.Closed kind.Closed h = tt

-- ---- all that agree

abbrev pub Agree : Entry → Entry → Type 0
Agree a b = a.name ≡ b.name → AgreeKinds a.kind b.kind

abbrev pub AreAgreed : List Entry → Type 0
AreAgreed es = (a b : Entry) → Contains es a → Contains es b → Agree a b

fails_each : {A : Type 0} (test : A → Bool) (xs : List A) → list_any test xs ≡ false → AllByRecursion (λ x. test x ≡ false) xs
fails_each test [] h = tt
fails_each test (x ∷ xs) h = (first_fails (test x) _ h, fails_each test xs (second_fails (test x) _ h))

-- where a test holds of none, it fails at each
pub fails_at : {A : Type 0} (test : A → Bool) (xs : List A) (x : A) → list_any test xs ≡ false → Contains xs x → test x ≡ false
fails_at test xs x h c = All-contains (λ x. test x ≡ false) xs x (All-from_recursion (λ x. test x ≡ false) xs (fails_each test xs h)) c

no_clash_by : (b c : Bool) → (b && c) ≡ false → b ≡ true → c ≡ false
no_clash_by true c h e = h
no_clash_by false c h e = absurd (false≢true e)

agrees_with_new : (s : Scope) (e a : Entry) → is_again s e ≡ false → Contains s.inner a → Agree a e
agrees_with_new s e a h c same =
    agree_unless_clashing a.kind e.kind
    (no_clash_by (bytes_eq a.name e.name) (clashes a.kind e.kind) (fails_at (λ earlier. bytes_eq earlier.name e.name && clashes earlier.kind e.kind) s.inner a h c)
    ((bytes_eq-Decides a.name e.name).1 same))

by_cases : (es : List Entry) (e a b : Entry) → AreAgreed es → ((x : Entry) → Contains es x → Agree x e) → Contains es a ⊎ (e ≡ a) → Contains es b ⊎ (e ≡ b) → Agree a b
by_cases es e a b old new (inl x) (inl y) = old a b x y
by_cases es e a b old new (inl x) (inr y) = subst (λ z. Agree a z) y (new a x)
by_cases es e a b old new (inr x) (inl y) = λ same. subst (λ z. AgreeKinds z.kind b.kind) x (agree-sym b.kind e.kind (new b y (sym same ∙ sym (ap (λ z. z.name) x))))
by_cases es e a b old new (inr x) (inr y) = λ same. subst (λ z. AgreeKinds z.kind b.kind) x (subst (λ z. AgreeKinds e.kind z.kind) y (agree-refl e.kind))

one_more : (es : List Entry) (e : Entry) → AreAgreed es → ((x : Entry) → Contains es x → Agree x e) → AreAgreed (es ++ e ∷ [])
one_more es e old new a b x y = by_cases es e a b old new (Contains-push_cases es e a x) (Contains-push_cases es e b y)

-- an object is no function
agrees_with_object : (a : Entry) (name : List ℕ) (n : ℕ) (ty : IntType) (dims : ℕ) (fixed : Bool) → Agree a (entry name (kind.Object n ty dims fixed))
agrees_with_object a name n ty dims fixed same = trivial a.kind
  where
    trivial : (k : Kind) → AgreeKinds k (kind.Object n ty dims fixed)
    trivial (kind.Object n' ty' dims' fixed') = tt
    trivial (kind.Function r s b) = tt
    trivial kind.Closed = tt

agrees_with_closed : (k : Kind) → AgreeKinds k kind.Closed
agrees_with_closed (kind.Object n' ty' dims' fixed') = tt
agrees_with_closed (kind.Function r s b) = tt
agrees_with_closed kind.Closed = tt

module _ (m : DataModel) (items : List raw.Item) (bodies : List (List ℕ)) where
  names_agree : (fixed : Bool) (s : Scope) (ds : List raw.Declared) → AreAgreed s.inner → AreAgreed (after_names m bodies fixed s ds).inner
  names_agree fixed s [] h = h
  names_agree fixed s (d ∷ ds) h =
      let o = object_of m bodies fixed (s.outer ++ s.inner) d in
      names_agree fixed (after_name m bodies fixed s d) ds
      (one_more s.inner (entry o.name (kind.Object (length s.objects) o.ty o.dims o.fixed)) h (λ x c. agrees_with_object x o.name (length s.objects) o.ty o.dims o.fixed))

  named_agree : (s : Scope) (e : Entry) (p : Spot) → IsFair m items (Naming s e p) → AreAgreed s.inner → AreAgreed (s.inner ++ e ∷ [])
  named_agree s e p f h = one_more s.inner e h (λ x c. agrees_with_new s e x (first_fails (is_again s e) _ f.once) c)

  item_agrees : (s : Scope) (x : raw.Item) → AllOf (IsFair m items) (parts_of_item m bodies s x) → AreAgreed s.inner → AreAgreed (after_item m bodies s x).inner
  item_agrees s (raw.Function p name result xs body) f h = named_agree s (entry_of_function name result xs) p f.0 h
  item_agrees s (raw.Prototype p name result types) f h = named_agree s (entry_of_prototype name result types) p f.0 h
  item_agrees s (raw.Global ds) f h = names_agree true s ds h
  item_agrees s (raw.Closed p name) f h = one_more s.inner (entry name kind.Closed) h (λ x c same. agrees_with_closed x.kind)

  pub items_agree : (s : Scope) (xs : List raw.Item) → AllOf (IsFair m items) (parts_of_items m bodies s xs) → AreAgreed s.inner → AreAgreed (after_items m bodies s xs).inner
  items_agree s [] f h = h
  items_agree s (x ∷ xs) f h =
      items_agree (after_item m bodies s x) xs (all_behind (IsFair m items) (parts_of_item m bodies s x) _ f)
      (item_agrees s x (all_front (IsFair m items) (parts_of_item m bodies s x) _ f) h)

module _ (m : DataModel) (bodies : List (List ℕ)) where
  -- ---- what is declared stays

  names_stay : (fixed : Bool) (s : Scope) (ds : List raw.Declared) (e : Entry) → Contains s.inner e → Contains (after_names m bodies fixed s ds).inner e
  names_stay fixed s [] e c = c
  names_stay fixed s (d ∷ ds) e c = names_stay fixed (after_name m bodies fixed s d) ds e (Contains-append_left s.inner _ e c)

  item_stays : (s : Scope) (x : raw.Item) (e : Entry) → Contains s.inner e → Contains (after_item m bodies s x).inner e
  item_stays s (raw.Function p name result xs body) e c = Contains-append_left s.inner _ e c
  item_stays s (raw.Prototype p name result types) e c = Contains-append_left s.inner _ e c
  item_stays s (raw.Global ds) e c = names_stay true s ds e c
  item_stays s (raw.Closed p name) e c = Contains-append_left s.inner _ e c

  pub items_stay : (s : Scope) (xs : List raw.Item) (e : Entry) → Contains s.inner e → Contains (after_items m bodies s xs).inner e
  items_stay s [] e c = c
  items_stay s (x ∷ xs) e c = items_stay (after_item m bodies s x) xs e (item_stays s x e c)
