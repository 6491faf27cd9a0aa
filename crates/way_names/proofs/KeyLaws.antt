-- Keys of names.
use Rattle.std.proofs.Common.{◌≡◌, ◌<◌, ◌≤◌, ◌+◌, ℕ, zero, suc, refl, sym, ap, ◌∙◌, Bool, true, false, cond, List, [], ◌∷◌, ◌++◌, length, map, drop, drop-cons, get_or, Option, Some, None, arith, nat_eq, eq-eqb, eqb-true}
use Rattle.std.specs.Prelude.{slice_get}
use Rattle.std.specs.Option.{option_map, unwrap_or}
use Rattle.std.specs.Str.{bytes_eq}
use Rattle.std.proofs.lemmas.Bool.{false≢true}
use Rattle.std.proofs.lemmas.Option.{same_Some}
use Rattle.std.proofs.lemmas.Slice.Eq.{bytes_eq-Decides}
use Rattle.c_core.specs.declared.tree.Object.{Object}
use Rattle.way_places.specs.Seeking.{or_else}
use Rattle.way_names.specs.Keys.{first_named, has_key, is_called, is_key, key_at, key_of, last_named, last_of}

some_or : (o : Option ℕ) (n : ℕ) → Some (unwrap_or o n) ≡ or_else o (Some n)
some_or None n = refl
some_or (Some k) n = refl

pub first_is : (o : Option ℕ) (n first : ℕ) → first ≡ unwrap_or o n → Some first ≡ or_else o (Some n)
first_is o n first h = ap Some h ∙ some_or o n

-- the first is kept where one is put; `same`: the name that is asked for is that one
pub kept_by : (same : Bool) (there here : Option ℕ) (first n : ℕ) (new : Option ℕ) → new ≡ cond same (Some first) there → (same ≡ true → there ≡ here) → first ≡ unwrap_or here n
    → new ≡ or_else there (cond same (Some n) None)
kept_by true there here first n new e is h = e ∙ ap Some h ∙ some_or here n ∙ ap (λ o. or_else o (Some n)) (sym (is refl))
kept_by false None here first n new e is h = e
kept_by false (Some k) here first n new e is h = e

-- one object on
pub first_on : (o : Option ℕ) (same : Bool) (n : ℕ) (rest : Option ℕ) → or_else (or_else o (cond same (Some n) None)) rest ≡ or_else o (cond same (Some n) rest)
first_on None true n rest = refl
first_on None false n rest = refl
first_on (Some k) same n rest = refl

moved : (old : List ℕ) (key : ℕ) (rest : List (Option ℕ)) → map Some (old ++ key ∷ []) ++ rest ≡ map Some old ++ (Some key ∷ rest)
moved [] key rest = refl
moved (k ∷ ks) key rest = ap (λ l. Some k ∷ l) (moved ks key rest)

module _ (objects : List Object) (i : ℕ) (o : Object) where
  abbrev key_in_all : Object → Option ℕ
  key_in_all x = key_of objects x.name

  abbrev rest : List Object
  rest = drop (suc i) objects

  next_is : i + 1 ≡ suc i
  next_is = omega arith

  first_left : i < length objects → o ≡ get_or objects i o → drop i objects ≡ o ∷ drop (suc i) objects
  first_left lt is = drop-cons objects i o lt ∙ ap (λ (x : Object). x ∷ drop (suc i) objects) (sym is)

  pub named_next : (name x : List ℕ) (old new : Option ℕ) → i < length objects → o ≡ get_or objects i o → name ≡ o.name → new ≡ or_else old (cond (bytes_eq name x) (Some i) None)
      → or_else old (first_named i (drop i objects) x) ≡ key_of objects x → or_else new (first_named (i + 1) (drop (i + 1) objects) x) ≡ key_of objects x
  named_next name x old new lt is same kept before =
      ap (λ n. or_else new (first_named n (drop n objects) x)) next_is
      ∙ ap (λ (k : Option ℕ). or_else k (first_named (suc i) rest x)) (kept ∙ ap (λ (y : List ℕ). or_else old (cond (bytes_eq y x) (Some i) None)) same)
      ∙ first_on old (bytes_eq o.name x) i (first_named (suc i) rest x)
      ∙ ap (λ (os : List Object). or_else old (first_named i os x)) (sym (first_left lt is))
      ∙ before

  -- the key of this object
  pub key_is : (name : List ℕ) (old : List ℕ → Option ℕ) (key : ℕ) → i < length objects → o ≡ get_or objects i o → name ≡ o.name → Some key ≡ or_else (old name) (Some i)
      → ((x : List ℕ) → or_else (old x) (first_named i (drop i objects) x) ≡ key_of objects x) → Some key ≡ key_of objects o.name
  key_is name old key lt is same first before =
      first ∙ ap (λ (y : List ℕ). or_else (old y) (Some i)) same
      ∙ ap (λ b. or_else (old o.name) (cond b (Some i) (first_named (suc i) rest o.name))) (sym ((bytes_eq-Decides o.name o.name).1 refl))
      ∙ ap (λ (os : List Object). or_else (old o.name) (first_named i os o.name)) (sym (first_left lt is))
      ∙ before o.name

  pub keyed_next : (key : ℕ) (old new : List ℕ) → i < length objects → o ≡ get_or objects i o → new ≡ old ++ key ∷ [] → Some key ≡ key_of objects o.name
      → map Some old ++ map key_in_all (drop i objects) ≡ map key_in_all objects → map Some new ++ map key_in_all (drop (i + 1) objects) ≡ map key_in_all objects
  keyed_next key old new lt is pushed same before =
      ap (λ n. map Some new ++ map key_in_all (drop n objects)) next_is
      ∙ ap (λ (l : List ℕ). map Some l ++ map key_in_all rest) pushed
      ∙ moved old key (map key_in_all rest)
      ∙ ap (λ (k : Option ℕ). map Some old ++ (k ∷ map key_in_all rest)) same
      ∙ ap (λ (os : List Object). map Some old ++ map key_in_all os) (sym (first_left lt is))
      ∙ before

get_of_map : {A B : Type 0} (f : A → B) (xs : List A) (n : ℕ) → slice_get (map f xs) n ≡ option_map f (slice_get xs n)
get_of_map f [] n = refl
get_of_map f (x ∷ xs) zero = refl
get_of_map f (x ∷ xs) (suc n) = get_of_map f xs n

bare : (objects : List Object) (k : Option ℕ) (o : Option Object) → option_map Some k ≡ option_map (λ (x : Object). key_of objects x.name) o → k ≡ key_at objects o
bare objects None None e = refl
bare objects (Some k) (Some o) e = same_Some (Some k) (key_of objects o.name) e
bare objects None (Some o) e = cc
bare objects (Some k) None e = cc

-- what is read of the keys of all objects
pub key_read : (objects : List Object) (keys : List ℕ) (n : ℕ) → map Some keys ≡ map (λ (o : Object). key_of objects o.name) objects → slice_get keys n ≡ key_at objects (slice_get objects n)
key_read objects keys n e =
    bare objects (slice_get keys n) (slice_get objects n)
    (sym (get_of_map Some keys n) ∙ ap (λ ks. slice_get ks n) e ∙ get_of_map (λ (o : Object). key_of objects o.name) objects n)

-- ---- keys are names

first_low : (n : ℕ) (os : List Object) (x : List ℕ) (k : ℕ) → first_named n os x ≡ Some k → n ≤ k
first_low n [] x k e = cc
first_low n (o ∷ os) x k e = by_test (bytes_eq o.name x) (first_low (suc n) os x k) e
  where
    by_test : (t : Bool) → (first_named (suc n) os x ≡ Some k → suc n ≤ k) → cond t (Some n) (first_named (suc n) os x) ≡ Some k → n ≤ k
    by_test true rest h = let s = same_Some n k h in omega (arith, s)
    by_test false rest h = let l = rest h in omega (arith, l)

first_high : (n : ℕ) (os : List Object) (x : List ℕ) (k : ℕ) → first_named n os x ≡ Some k → k < n + length os
first_high n [] x k e = cc
first_high n (o ∷ os) x k e = by_test (bytes_eq o.name x) (first_high (suc n) os x k) e
  where
    by_test : (t : Bool) → (first_named (suc n) os x ≡ Some k → k < suc n + length os) → cond t (Some n) (first_named (suc n) os x) ≡ Some k → k < n + suc (length os)
    by_test true rest h = let s = same_Some n k h in omega (arith, s)
    by_test false rest h = let l = rest h in omega (arith, l)

pub key_within : (objects : List Object) (x : List ℕ) (key : ℕ) → key_of objects x ≡ Some key → key < length objects
key_within objects x key e = let l = first_high 0 objects x key e in omega (arith, l)

pub object_key_within : (objects : List Object) (o : Option Object) (key : ℕ) → key_at objects o ≡ Some key → key < length objects
object_key_within objects None key e = cc
object_key_within objects (Some o) key e = key_within objects o.name key e

one_name : (n : ℕ) (os : List Object) (x y : List ℕ) (k : ℕ) → first_named n os x ≡ Some k → first_named n os y ≡ Some k → x ≡ y
one_name n [] x y k e h = cc
one_name n (o ∷ os) x y k e h = by_tests (one_name (suc n) os x y k) (bytes_eq o.name x) (bytes_eq o.name y) refl refl e h
  where
    by_tests : (first_named (suc n) os x ≡ Some k → first_named (suc n) os y ≡ Some k → x ≡ y)
        → (t u : Bool) → bytes_eq o.name x ≡ t → bytes_eq o.name y ≡ u → cond t (Some n) (first_named (suc n) os x) ≡ Some k → cond u (Some n) (first_named (suc n) os y) ≡ Some k → x ≡ y
    by_tests rest true true p q e h = sym ((bytes_eq-Decides o.name x).0 p) ∙ (bytes_eq-Decides o.name y).0 q
    by_tests rest true false p q e h = let s = same_Some n k e in let l = first_low (suc n) os y k h in absurd (omega (arith, s, l))
    by_tests rest false true p q e h = let s = same_Some n k h in let l = first_low (suc n) os x k e in absurd (omega (arith, s, l))
    by_tests rest false false p q e h = rest e h

-- an object of this name has its key, and no other has
has_its_key : (objects : List Object) (x : List ℕ) (key : ℕ) → key_of objects x ≡ Some key → (o : Option Object) → is_key (key_at objects o) key ≡ is_called o x
has_its_key objects x key e None = refl
has_its_key objects x key e (Some o) = by_test (bytes_eq o.name x) refl (key_of objects o.name) refl
  where
    by_key : (k : ℕ) (t : Bool) → key_of objects o.name ≡ Some k → bytes_eq o.name x ≡ false → nat_eq k key ≡ t → t ≡ false
    by_key k false own other same = refl
    by_key k true own other same =
        let one : o.name ≡ x = one_name 0 objects o.name x key (own ∙ ap Some (eqb-true k key same)) e in
        absurd (false≢true (sym other ∙ (bytes_eq-Decides o.name x).1 one))

    by_test : (t : Bool) → bytes_eq o.name x ≡ t → (k : Option ℕ) → key_of objects o.name ≡ k → is_key (key_of objects o.name) key ≡ t
    by_test true same k own = ap (λ (y : List ℕ). is_key (key_of objects y) key) ((bytes_eq-Decides o.name x).0 same) ∙ ap (λ k. is_key k key) e ∙ eq-eqb key key refl
    by_test false other None own = ap (λ k. is_key k key) own
    by_test false other (Some k) own = ap (λ k. is_key k key) own ∙ by_key k (nat_eq k key) own other refl

last_alike : (f g : ℕ → Bool) → ((n : ℕ) → f n ≡ g n) → (ns : List ℕ) → last_of f ns ≡ last_of g ns
last_alike f g same [] = refl
last_alike f g same (n ∷ ns) = ap (λ o. or_else o (cond (f n) (Some n) None)) (last_alike f g same ns) ∙ ap (λ t. or_else (last_of g ns) (cond t (Some n) None)) (same n)

pub last_by_key : (objects : List Object) (x : List ℕ) (key : ℕ) → key_of objects x ≡ Some key → (ns : List ℕ) → last_of (has_key objects key) ns ≡ last_named objects ns x
last_by_key objects x key e ns = last_alike (has_key objects key) (λ n. is_called (slice_get objects n) x) (λ n. has_its_key objects x key e (slice_get objects n)) ns

-- no object has a name without a key
uncalled : (m : ℕ) (os : List Object) (x : List ℕ) → first_named m os x ≡ None → (n : ℕ) → is_called (slice_get os n) x ≡ false
uncalled m [] x e n = refl
uncalled m (o ∷ os) x e n = by_test (uncalled (suc m) os x) (bytes_eq o.name x) refl e n
  where
    by_test : (first_named (suc m) os x ≡ None → (k : ℕ) → is_called (slice_get os k) x ≡ false)
        → (t : Bool) → bytes_eq o.name x ≡ t → cond t (Some m) (first_named (suc m) os x) ≡ None → (k : ℕ) → is_called (slice_get (o ∷ os) k) x ≡ false
    by_test rest true p e k = cc
    by_test rest false p e zero = p
    by_test rest false p e (suc k) = rest e k

none_last : (f : ℕ → Bool) → ((n : ℕ) → f n ≡ false) → (ns : List ℕ) → last_of f ns ≡ None
none_last f none [] = refl
none_last f none (n ∷ ns) = ap (λ o. or_else o (cond (f n) (Some n) None)) (none_last f none ns) ∙ ap (λ t. cond t (Some n) None) (none n)

pub none_by_key : (objects : List Object) (x : List ℕ) → key_of objects x ≡ None → (ns : List ℕ) → last_named objects ns x ≡ None
none_by_key objects x e ns = none_last (λ n. is_called (slice_get objects n) x) (uncalled 0 objects x e) ns
