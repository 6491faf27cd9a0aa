-- An expression over few of the names in scope, those of its words among them.
use Rattle.std.proofs.Common.{◌≡◌, ℕ, Bool, true, false, cond, List, [], ◌∷◌, ◌++◌, Option, Some, None, refl, ap, sym, subst, ◌∙◌, eq-eqb, eqb-true}
use Rattle.std.specs.Prelude.{slice_get, Result, Ok, Err, IfOk}
use Rattle.std.specs.Str.{bytes_eq}
use Rattle.std.proofs.lemmas.Option.{same_Some}
use Rattle.std.proofs.lemmas.Slice.Eq.{bytes_eq-Decides}
use Rattle.c_core.specs.Tree as t
use Rattle.c_core.specs.View.{expr_view}
use Rattle.c_core.specs.declared.number.DataModel.{DataModel}
use Rattle.c_core.specs.declared.tree.Expr as stored
use Rattle.c_core.specs.declared.tree.Object as declared
use Rattle.c_parser.specs.Tree.{Exp}
use Rattle.c_parser.specs.declared.fault.ExprFault.{ExprFault}
use Rattle.c_parser.specs.declared.fault.ExprFault.TheVariants.{Expression, Scope, OutOfMemory}
use Rattle.check_rules.specs.Codes.{count_stated, or_else}
use Rattle.check_rules.specs.Names.{Kind, Object, Entry, later, declared_as, named, built_in, or_built_in}
use Rattle.check_rules.specs.Typed.{typed}
use Rattle.way_places.specs.Seeking.{or_else as or_other}
use Rattle.way_names.specs.Keys.{is_called, is_key, last_named, last_of}
use Rattle.way_names.proofs.VersionLaws.{last_joined}
use Rattle.way_constraint.specs.Constraints.{entries, entry_at, is_among, in_scope, is_refused, IsTyped, AnswersIn, FitsConstraint}
use Rattle.way_constraint.specs.Known.{is_object}
use Rattle.way_constraint.specs.Words.{all_pass, with_number, with_word, with_words}
use Rattle.way_constraint.proofs.AnswerLaws.{fits, objects_in_scope}
use Rattle.way_constraint.proofs.NameLaws.{same_words}
use Rattle.way_constraint.proofs.SameLaws.{same_typed, same_refused, same_scope}
use Rattle.way_constraint.proofs.WordLaws.{all_words_pass, kept}

-- ---- what names make of a word

none_next : (n : ℕ) (o : Option declared.Object) (es : List Entry) (x : List ℕ) → count_stated es x ≡ None → count_stated (entry_at n o ++ es) x ≡ None
none_next n None es x h = h
none_next n (Some o) es x h = by_test (bytes_eq o.name x)
  where
    by_test : (b : Bool) → or_else (cond b None None) (count_stated es x) ≡ None
    by_test true = h
    by_test false = h

-- no object states parameters
none_stated : (objects : List declared.Object) (numbers : List ℕ) (x : List ℕ) → count_stated (entries objects numbers) x ≡ None
none_stated objects [] x = refl
none_stated objects (n ∷ ns) x = none_next n (slice_get objects n) (entries objects ns) x (none_stated objects ns x)

later_none : (k : Option Kind) → later None k ≡ k
later_none None = refl
later_none (Some k) = refl

-- what an object's number stands for
abbrev kind_of : ℕ → Option declared.Object → Option Kind
kind_of n None = None
kind_of n (Some o) = Some (Object n o.ty o.dims o.fixed)

abbrev kind_at : List declared.Object → Option ℕ → Option Kind
kind_at objects None = None
kind_at objects (Some n) = kind_of n (slice_get objects n)

or_test : (t : Bool) (n : ℕ) (o : Option ℕ) → or_other (cond t (Some n) None) o ≡ cond t (Some n) o
or_test true n o = refl
or_test false n o = refl

last_added : (test : ℕ → Bool) (ns : List ℕ) (n : ℕ) → last_of test (ns ++ n ∷ []) ≡ cond (test n) (Some n) (last_of test ns)
last_added test ns n = last_joined test ns (n ∷ []) ∙ or_test (test n) n (last_of test ns)

last_passes : (test : ℕ → Bool) (ns : List ℕ) (n : ℕ) → last_of test ns ≡ Some n → test n ≡ true
last_passes test [] n e = cc
last_passes test (m ∷ ns) n e = by_rest (last_passes test ns n) (last_of test ns) refl (test m) refl e
  where
    by_rest : (last_of test ns ≡ Some n → test n ≡ true) → (o : Option ℕ) → last_of test ns ≡ o → (t : Bool) → test m ≡ t → or_other o (cond t (Some m) None) ≡ Some n → test n ≡ true
    by_rest rest (Some k) r t s e = rest (r ∙ e)
    by_rest rest None r true s e = ap test (sym (same_Some m n e)) ∙ s
    by_rest rest None r false s e = cc

module _ (objects : List declared.Object) (x : List ℕ) where
  abbrev called : ℕ → Bool
  called n = is_called (slice_get objects n) x

  later_found : (k : Option Kind) (n : ℕ) (s : Option declared.Object) → is_called s x ≡ true → later k (kind_of n s) ≡ kind_of n s
  later_found k n None h = cc
  later_found None n (Some o) h = refl
  later_found (Some k) n (Some o) h = refl

  one_more : (n : ℕ) (s : Option declared.Object) (es : List Entry) (rest : Option ℕ) → slice_get objects n ≡ s → declared_as es x ≡ kind_at objects rest → ((k : ℕ) → rest ≡ Some k → called k ≡ true)
      → declared_as (entry_at n s ++ es) x ≡ kind_at objects (or_other rest (cond (is_called s x) (Some n) None))
  one_more n None es None at h k = h
  one_more n None es (Some m) at h k = h
  one_more n (Some o) es (Some m) at h k =
      ap (later (cond (bytes_eq o.name x) (Some (Object n o.ty o.dims o.fixed)) None)) h ∙ later_found (cond (bytes_eq o.name x) (Some (Object n o.ty o.dims o.fixed)) None) m (slice_get objects m) (k m refl)
  one_more n (Some o) es None at h k = ap (later (cond (bytes_eq o.name x) (Some (Object n o.ty o.dims o.fixed)) None)) h ∙ by_test (bytes_eq o.name x)
    where
      by_test : (b : Bool) → later (cond b (Some (Object n o.ty o.dims o.fixed)) None) None ≡ kind_at objects (cond b (Some n) None)
      by_test true = sym (ap (kind_of n) at)
      by_test false = refl

  -- names make of a word what the last object of that name is
  declared_is : (ns : List ℕ) → declared_as (entries objects ns) x ≡ kind_at objects (last_named objects ns x)
  declared_is [] = refl
  declared_is (n ∷ ns) = one_more n (slice_get objects n) (entries objects ns) (last_named objects ns x) refl (declared_is ns) (λ k e. last_passes called ns k e)

-- ---- few numbers by what words mean

-- a word means this, where it means something
abbrev settled_as : Option ℕ → Option ℕ → Bool
settled_as None o = true
settled_as (Some n) o = is_key o n

module _ (objects : List declared.Object) (names : List ℕ) where
  abbrev means : List ℕ → Option ℕ
  means x = last_named objects names x

  abbrev is_settled : List ℕ → List ℕ → Bool
  is_settled few x = settled_as (means x) (last_named objects few x)

  -- what words of one name mean is one
  one_meaning : (x y : List ℕ) (n : ℕ) (s : Option declared.Object) → is_called s x ≡ true → is_called s y ≡ true → means y ≡ Some n → means x ≡ Some n
  one_meaning x y n None h k e = cc
  one_meaning x y n (Some o) h k e = ap means (sym ((bytes_eq-Decides o.name x).0 h) ∙ (bytes_eq-Decides o.name y).0 k) ∙ e

  means_called : (y : List ℕ) (n : ℕ) → means y ≡ Some n → is_called (slice_get objects n) y ≡ true
  means_called y n e = last_passes (λ m. is_called (slice_get objects m) y) names n e

  settled_more : (few : List ℕ) (x y : List ℕ) (n : ℕ) → means y ≡ Some n → is_settled few x ≡ true → is_settled (few ++ n ∷ []) x ≡ true
  settled_more few x y n e h = ap (settled_as (means x)) (last_added (λ m. is_called (slice_get objects m) x) few n) ∙ by_test (is_called (slice_get objects n) x) refl
    where
      by_test : (b : Bool) → is_called (slice_get objects n) x ≡ b → settled_as (means x) (cond b (Some n) (last_named objects few x)) ≡ true
      by_test false k = h
      by_test true k = ap (λ o. settled_as o (Some n)) (one_meaning x y n (slice_get objects n) k (means_called y n e) e) ∙ eq-eqb n n refl

  by_meaning : (few : List ℕ) (x y : List ℕ) (m : Option ℕ) → means y ≡ m → is_settled few x ≡ true → is_settled (with_number m few) x ≡ true
  by_meaning few x y None e h = h
  by_meaning few x y (Some n) e h = settled_more few x y n e h

  settled_stays : (w : Option (List ℕ)) (few x : List ℕ) → is_settled few x ≡ true → is_settled (with_word means w few) x ≡ true
  settled_stays None few x h = h
  settled_stays (Some y) few x h = by_meaning few x y (means y) refl h

  settled_there : (x few : List ℕ) → is_settled (with_word means (Some x) few) x ≡ true
  settled_there x few = by_what (means x) refl
    where
      by_what : (m : Option ℕ) → means x ≡ m → settled_as (means x) (last_named objects (with_number m few) x) ≡ true
      by_what None e = ap (λ o. settled_as o (last_named objects few x)) e
      by_what (Some n) e =
          ap (λ o. settled_as o (last_named objects (few ++ n ∷ []) x)) e
          ∙ ap (λ o. is_key o n) (last_added (λ m. is_called (slice_get objects m) x) few n ∙ ap (λ b. cond b (Some n) (last_named objects few x)) (means_called x n e))
          ∙ eq-eqb n n refl

  -- what means nothing is none of the few
  abbrev Sound : List ℕ → Type 0
  Sound few = (x : List ℕ) → means x ≡ None → last_named objects few x ≡ None

  sound_more : (few : List ℕ) (y : List ℕ) (n : ℕ) → means y ≡ Some n → Sound few → Sound (few ++ n ∷ [])
  sound_more few y n e h x none = last_added (λ m. is_called (slice_get objects m) x) few n ∙ by_test (is_called (slice_get objects n) x) refl
    where
      by_test : (b : Bool) → is_called (slice_get objects n) x ≡ b → cond b (Some n) (last_named objects few x) ≡ None
      by_test false k = h x none
      by_test true k = let e = one_meaning x y n (slice_get objects n) k (means_called y n e) e in cc

  sound_stays : (w : Option (List ℕ)) (few : List ℕ) → Sound few → Sound (with_word means w few)
  sound_stays None few h = h
  sound_stays (Some y) few h = by_what (means y) refl
    where
      by_what : (m : Option ℕ) → means y ≡ m → Sound (with_number m few)
      by_what None e = h
      by_what (Some n) e = sound_more few y n e h

  is_that : (o : Option ℕ) (n : ℕ) → is_key o n ≡ true → o ≡ Some n
  is_that None n h = cc
  is_that (Some k) n h = ap Some (eqb-true k n h)

  -- a settled word means the same among the few
  same_meaning : (few : List ℕ) → Sound few → (x : List ℕ) → is_settled few x ≡ true → means x ≡ last_named objects few x
  same_meaning few h x settled = by_what (means x) refl settled
    where
      by_what : (m : Option ℕ) → means x ≡ m → settled_as m (last_named objects few x) ≡ true → means x ≡ last_named objects few x
      by_what None e s = e ∙ sym (h x e)
      by_what (Some n) e s = e ∙ sym (is_that (last_named objects few x) n s)

-- ---- answers over few names

module _ (m : DataModel) (objects : List declared.Object) (numbers : List ℕ) (e : Exp) where
  abbrev few : List ℕ
  few = with_words (means objects numbers) e []

  abbrev test : List ℕ → Bool
  test x = is_settled objects numbers few x

  abbrev all_names : List Entry
  all_names = entries objects numbers

  abbrev few_names : List Entry
  few_names = entries objects few

  all_settled : all_pass test e ≡ true
  all_settled = all_words_pass (means objects numbers) (is_settled objects numbers) (settled_stays objects numbers) (settled_there objects numbers) e []

  few_sound : Sound objects numbers few
  few_sound = kept (means objects numbers) (Sound objects numbers) (sound_stays objects numbers) e [] (λ x h. refl)

  named_same : (x : List ℕ) → test x ≡ true → named all_names x ≡ named few_names x
  named_same x k =
      ap (λ (o : Option Kind). or_built_in o (built_in x))
      (declared_is objects x numbers ∙ ap (kind_at objects) (same_meaning objects numbers few few_sound x k) ∙ sym (declared_is objects x few))

  stated_same : (x : List ℕ) → test x ≡ true → count_stated all_names x ≡ count_stated few_names x
  stated_same x k = none_stated objects numbers x ∙ sym (none_stated objects few x)

  among_same : (x : List ℕ) → test x ≡ true → is_among all_names (Some x) ≡ is_among few_names (Some x)
  among_same x k = sym (same_words objects numbers (Some x)) ∙ ap is_object (named_same x k) ∙ same_words objects few (Some x)

  scope_same : in_scope all_names e ≡ in_scope few_names e
  scope_same = same_scope test all_names few_names among_same e all_settled

  refused_same : is_refused m all_names e ≡ is_refused m few_names e
  refused_same = same_refused m test all_names few_names named_same stated_same e all_settled

  tree_same : typed m [] all_names e ≡ typed m [] few_names e
  tree_same = same_typed m test all_names few_names named_same stated_same e all_settled

  typed_among : (tree : t.Exp) → IsTyped m few_names e tree → IsTyped m all_names e tree
  typed_among tree y = record { scope = scope_same ∙ y.scope; typing = refused_same ∙ y.typing; made = y.made ∙ sym tree_same }

  answers_among : (answer : Result stored.Expr ExprFault) → AnswersIn m few_names e answer → AnswersIn m all_names e answer
  answers_among (Ok tree) y = typed_among (expr_view tree) y
  answers_among (Err Scope) y = scope_same ∙ y
  answers_among (Err Expression) y = record { scope = scope_same ∙ y.scope; typing = refused_same ∙ y.typing }
  answers_among (Err OutOfMemory) y = tt

  fits_among : (tree : t.Exp) → IsTyped m all_names e tree → FitsConstraint numbers e tree
  fits_among tree y = fits objects numbers m e tree (objects_in_scope objects numbers e ∙ y.scope) y.typing y.made

-- ---- where few names are taken

module _ (m : DataModel) (objects : List declared.Object) (names few : List ℕ) (e : Exp) (h : few ≡ with_words (λ x. last_named objects names x) e []) where
  pub answer_of_few : (answer : Result stored.Expr ExprFault) → AnswersIn m (entries objects few) e answer → AnswersIn m (entries objects names) e answer
  answer_of_few answer y = answers_among m objects names e answer (subst (λ (ns : List ℕ). AnswersIn m (entries objects ns) e answer) h y)

  pub fits_if : (answer : Result stored.Expr ExprFault) → AnswersIn m (entries objects few) e answer → IfOk answer (λ tree. FitsConstraint names e (expr_view tree))
  fits_if (Ok tree) y =
      fits_among m objects names e (expr_view tree)
      (typed_among m objects names e (expr_view tree) (subst (λ (ns : List ℕ). IsTyped m (entries objects ns) e (expr_view tree)) h y))
  fits_if (Err fault) y = tt
