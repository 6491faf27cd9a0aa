-- What is made of a name says what all its declarations do.
use Rattle.std.proofs.Common.{arith, ◌≡◌, ◌+◌, ◌≤◌, ◌++◌, ℕ, Bool, true, false, cond, not, ◌&&◌, ◌||◌, List, [], ◌∷◌, length, drop, Option, Some, None, refl, ap, sym, subst, ◌∙◌}
use Rattle.std.specs.Prelude.{nat_le}
use Rattle.std.specs.List.{list_any}
use Rattle.std.specs.Str.{bytes_eq}
use Rattle.std.proofs.Math.Seq.{drop-nil}
use Rattle.std.proofs.lemmas.Bool.Decides.{nat_tests}
use Rattle.std.proofs.lemmas.List.{append-nil, append_assoc, drop-append-le, drop_all, length_push}
use Rattle.std.proofs.lemmas.List.Folds.{list_any-append}
use Rattle.c_core.specs.Typing.{same_types}
use Rattle.c_core.specs.declared.number.IntType.{IntType}
use Rattle.check_rules.specs.Names as kind
use Rattle.check_rules.specs.Names.{Kind, Entry, declared_as, later}
use Rattle.check_rules.specs.Codes.{agree, clashes, count_in, count_stated, or_else, same_lists}
use Rattle.check_scope.specs.declared.known.Stated.{Stated}
use Rattle.check_scope.specs.declared.known.Known.{Known}
use Rattle.check_scope.specs.declared.known.Known.TheVariants as known
use Rattle.check_scope.specs.declared.line.Line.{Line}
use Rattle.check_scope.specs.declared.past.Past.{Past}
use Rattle.check_scope.specs.declared.past.Lists.{Lists}
use Rattle.check_scope.specs.Kinds.{kind_of, types_stated}
use Rattle.check_scope.specs.Pasts.{count_of, is_clash, is_since, latest_function, lists_by, other_list, other_result, with_known}
use Rattle.check_scope.specs.Lines.{entry_of, entries_of, past_after, past_from, past_of}
use Rattle.check_scope.proofs.AgreeLaws.{one_list, one_result}

-- ---- a place says of every scope whether one of its entries meets a test

abbrev Since : (Entry → Bool) → List Entry → Option ℕ → Type 0
Since t es o = (start : ℕ) → list_any t (drop start es) ≡ is_since start o

since_none : (t : Entry → Bool) → Since t [] None
since_none t start = ap (list_any t) (drop-nil start)

or_true : (b : Bool) → (b || true) ≡ true
or_true true = refl
or_true false = refl

or_false : (b : Bool) → (b || false) ≡ b
or_false true = refl
or_false false = refl

since_push : (t : Entry → Bool) (es : List Entry) (e : Entry) (o : Option ℕ) → Since t es o → Since t (es ++ e ∷ []) (cond (t e) (Some (length es)) o)
since_push t es e o h start = by_place (nat_le start (length es)) refl
  where
    within : start ≤ length es → (b : Bool) → t e ≡ b → nat_le start (length es) ≡ true → (list_any t (drop start es) || (b || false)) ≡ is_since start (cond b (Some (length es)) o)
    within p true e' n = or_true (list_any t (drop start es)) ∙ sym n
    within p false e' n = or_false (list_any t (drop start es)) ∙ h start

    behind : length es ≤ start → (b : Bool) → nat_le start (length es) ≡ false → false ≡ is_since start (cond b (Some (length es)) o)
    behind p true n = sym n
    behind p false n = ap (list_any t) (sym (drop_all start es p)) ∙ h start

    by_place : (b : Bool) → nat_le start (length es) ≡ b → list_any t (drop start (es ++ e ∷ [])) ≡ is_since start (cond (t e) (Some (length es)) o)
    by_place true n =
        let p : start ≤ length es = grind (arith, nat_tests) in
        ap (list_any t) (drop-append-le start es (e ∷ []) p) ∙ list_any-append t (drop start es) (e ∷ []) ∙ within p (t e) refl n
    by_place false n =
        let p : length es + 1 ≤ start = grind (arith, nat_tests) in
        let q : length (es ++ e ∷ []) ≤ start = omega (arith, p, length_push es e) in
        ap (list_any t) (drop_all start (es ++ e ∷ []) q) ∙ behind (omega (arith, p)) (t e) n

-- ---- the tests

abbrev is_object : Kind → Bool
is_object (kind.Object n ty dims fixed) = true
is_object (kind.Function result stated has_body) = false
is_object kind.Closed = false

abbrev is_declared_function : Kind → Bool
is_declared_function (kind.Object n ty dims fixed) = false
is_declared_function (kind.Function result stated has_body) = true
is_declared_function kind.Closed = false

abbrev has_other_result : Option IntType → Kind → Bool
has_other_result given (kind.Object n ty dims fixed) = false
has_other_result given (kind.Function result stated has_body) = not (same_types result given)
has_other_result given kind.Closed = false

abbrev states_others : Option (List IntType) → Kind → Bool
states_others given (kind.Object n ty dims fixed) = false
states_others given (kind.Function result stated has_body) = not (agree stated given)
states_others given kind.Closed = false

abbrev is_body : Kind → Bool
is_body (kind.Object n ty dims fixed) = false
is_body (kind.Function result stated has_body) = has_body
is_body kind.Closed = false

abbrev among : List ℕ → (Kind → Bool) → Entry → Bool
among x t e = bytes_eq e.name x && t e.kind

-- ---- what is kept

abbrev object_of : Option Past → Option ℕ
object_of None = None
object_of (Some p) = p.object

abbrev function_of : Option Past → Option ℕ
function_of None = None
function_of (Some p) = latest_function p.results

abbrev result_of : Option IntType → Option Past → Option ℕ
result_of given None = None
result_of given (Some p) = other_result p.results given

abbrev list_of : Option (List IntType) → Option Past → Option ℕ
list_of given None = None
list_of given (Some p) = other_list p.lists given

abbrev body_of : Option Past → Option ℕ
body_of None = None
body_of (Some p) = p.body

abbrev pub means_of : Option Past → Option Kind
means_of None = None
means_of (Some p) = Some (kind_of p.means)

abbrev pub count_kept : Option Past → Option ℕ
count_kept None = None
count_kept (Some p) = p.count

record Agrees (x : List ℕ) (es : List Entry) (o : Option Past) : Type 0 where
  means : declared_as es x ≡ means_of o
  count : count_stated es x ≡ count_kept o
  object : Since (among x is_object) es (object_of o)
  function : Since (among x is_declared_function) es (function_of o)
  result : (given : Option IntType) → Since (among x (has_other_result given)) es (result_of given o)
  list : (given : Option (List IntType)) → Since (among x (states_others given)) es (list_of given o)
  body : Since (among x is_body) es (body_of o)

nothing : (x : List ℕ) → Agrees x [] None
nothing x = record {
  means = refl;
  count = refl;
  object = since_none (among x is_object);
  function = since_none (among x is_declared_function);
  result = λ given. since_none (among x (has_other_result given));
  list = λ given. since_none (among x (states_others given));
  body = since_none (among x is_body);
}

-- ---- one declaration more of the name

object_with : (n : ℕ) (o : Option Past) (k : Known) → cond (is_object (kind_of k)) (Some n) (object_of o) ≡ object_of (Some (with_known n o k))
object_with n None (known.Object i ty dims fixed) = refl
object_with n None (known.Function result s has_body) = refl
object_with n None known.Closed = refl
object_with n (Some p) (known.Object i ty dims fixed) = refl
object_with n (Some p) (known.Function result s has_body) = refl
object_with n (Some p) known.Closed = refl

function_with : (n : ℕ) (o : Option Past) (k : Known) → cond (is_declared_function (kind_of k)) (Some n) (function_of o) ≡ function_of (Some (with_known n o k))
function_with n None (known.Object i ty dims fixed) = refl
function_with n None (known.Function result s has_body) = refl
function_with n None known.Closed = refl
function_with n (Some p) (known.Object i ty dims fixed) = refl
function_with n (Some p) (known.Function result s has_body) = refl
function_with n (Some p) known.Closed = refl

-- the place of a value that differs, where the latest value may be the same
result_step : (n : ℕ) (given result : Option IntType) (f : Option IntType → Option ℕ)
    → cond (not (same_types result given)) (Some n) (f given) ≡ cond (same_types result given) (f result) (Some n)
result_step n given result f = by_test (same_types result given) refl
  where
    by_test : (b : Bool) → same_types result given ≡ b → cond (not b) (Some n) (f given) ≡ cond b (f result) (Some n)
    by_test true e = ap f (sym (one_result result given e))
    by_test false e = refl

result_with : (n : ℕ) (given : Option IntType) (o : Option Past) (k : Known)
    → cond (has_other_result given (kind_of k)) (Some n) (result_of given o) ≡ result_of given (Some (with_known n o k))
result_with n given None (known.Object i ty dims fixed) = refl
result_with n given None (known.Function result s has_body) = result_step n given result (λ r. None)
result_with n given None known.Closed = refl
result_with n given (Some p) (known.Object i ty dims fixed) = refl
result_with n given (Some p) (known.Function result s has_body) = result_step n given result (other_result p.results)
result_with n given (Some p) known.Closed = refl

list_step : (n : ℕ) (lists : Option Lists) (s : Stated) (types : Option (List IntType)) (given : Option (List IntType)) → types_stated s ≡ types
    → cond (not (agree types given)) (Some n) (other_list lists given) ≡ other_list (lists_by n lists s types) given
list_step n lists s None given e = refl
list_step n None s (Some ts) None e = refl
list_step n (Some l) s (Some ts) None e = refl
list_step n lists s (Some ts) (Some us) e =
    by_test (same_lists ts us) refl ∙ ap (λ v. cond (agree v (Some us)) (other_list lists (Some ts)) (Some n)) (sym e)
  where
    by_test : (b : Bool) → same_lists ts us ≡ b → cond (not b) (Some n) (other_list lists (Some us)) ≡ cond b (other_list lists (Some ts)) (Some n)
    by_test true h = ap (λ v. other_list lists (Some v)) (sym (one_list ts us h))
    by_test false h = refl

list_with : (n : ℕ) (given : Option (List IntType)) (o : Option Past) (k : Known)
    → cond (states_others given (kind_of k)) (Some n) (list_of given o) ≡ list_of given (Some (with_known n o k))
list_with n given None (known.Object i ty dims fixed) = refl
list_with n given None (known.Function result s has_body) = list_step n None s (types_stated s) given refl
list_with n given None known.Closed = refl
list_with n given (Some p) (known.Object i ty dims fixed) = refl
list_with n given (Some p) (known.Function result s has_body) = list_step n p.lists s (types_stated s) given refl
list_with n given (Some p) known.Closed = refl

body_with : (n : ℕ) (o : Option Past) (k : Known) → cond (is_body (kind_of k)) (Some n) (body_of o) ≡ body_of (Some (with_known n o k))
body_with n None (known.Object i ty dims fixed) = refl
body_with n None (known.Function result s has_body) = refl
body_with n None known.Closed = refl
body_with n (Some p) (known.Object i ty dims fixed) = refl
body_with n (Some p) (known.Function result s has_body) = refl
body_with n (Some p) known.Closed = refl

means_with : (n : ℕ) (o : Option Past) (k : Known) → later (means_of o) (Some (kind_of k)) ≡ means_of (Some (with_known n o k))
means_with n None (known.Object i ty dims fixed) = refl
means_with n None (known.Function result s has_body) = refl
means_with n None known.Closed = refl
means_with n (Some p) (known.Object i ty dims fixed) = refl
means_with n (Some p) (known.Function result s has_body) = refl
means_with n (Some p) known.Closed = refl

or_none : (o : Option ℕ) → or_else o None ≡ o
or_none None = refl
or_none (Some n) = refl

count_with : (n : ℕ) (o : Option Past) (k : Known) → or_else (count_kept o) (count_in (kind_of k)) ≡ count_kept (Some (with_known n o k))
count_with n None (known.Object i ty dims fixed) = refl
count_with n None (known.Function result s has_body) = stated_count (types_stated s)
  where
    stated_count : (types : Option (List IntType)) → count_in (kind.Function result types has_body) ≡ count_of types
    stated_count None = refl
    stated_count (Some ts) = refl
count_with n None known.Closed = refl
count_with n (Some p) (known.Object i ty dims fixed) = or_none p.count
count_with n (Some p) (known.Function result s has_body) = ap (or_else p.count) (stated_count (types_stated s))
  where
    stated_count : (types : Option (List IntType)) → count_in (kind.Function result types has_body) ≡ count_of types
    stated_count None = refl
    stated_count (Some ts) = refl
count_with n (Some p) known.Closed = or_none p.count

-- ---- one entry more

later_assoc : (a d b : Option Kind) → later a (later d b) ≡ later (later a d) b
later_assoc a d None = refl
later_assoc None None (Some b) = refl
later_assoc None (Some d) (Some kind.Closed) = refl
later_assoc None (Some d) (Some (kind.Object n ty dims fixed)) = refl
later_assoc None (Some d) (Some (kind.Function result stated has_body)) = refl
later_assoc (Some a) None (Some b) = refl
later_assoc (Some a) (Some kind.Closed) (Some kind.Closed) = refl
later_assoc (Some a) (Some (kind.Object n ty dims fixed)) (Some kind.Closed) = refl
later_assoc (Some a) (Some (kind.Function result stated has_body)) (Some kind.Closed) = refl
later_assoc (Some a) (Some kind.Closed) (Some (kind.Object n ty dims fixed)) = refl
later_assoc (Some a) (Some (kind.Object n ty dims fixed)) (Some (kind.Object n' ty' dims' fixed')) = refl
later_assoc (Some a) (Some (kind.Function result stated has_body)) (Some (kind.Object n ty dims fixed)) = refl
later_assoc (Some a) (Some kind.Closed) (Some (kind.Function result stated has_body)) = refl
later_assoc (Some a) (Some (kind.Object n ty dims fixed)) (Some (kind.Function result stated has_body)) = refl
later_assoc (Some a) (Some (kind.Function result stated has_body)) (Some (kind.Function result' stated' has_body')) = refl

later_none : (b : Option Kind) → later b None ≡ later None b
later_none None = refl
later_none (Some b) = refl

declared_push : (es : List Entry) (e : Entry) (x : List ℕ) → declared_as (es ++ e ∷ []) x ≡ later (declared_as es x) (cond (bytes_eq e.name x) (Some e.kind) None)
declared_push [] e x = later_none (cond (bytes_eq e.name x) (Some e.kind) None)
declared_push (f ∷ es) e x =
    let a = cond (bytes_eq f.name x) (Some f.kind) None in
    ap (later a) (declared_push es e x) ∙ later_assoc a (declared_as es x) (cond (bytes_eq e.name x) (Some e.kind) None)

or_assoc : (a d b : Option ℕ) → or_else a (or_else d b) ≡ or_else (or_else a d) b
or_assoc None d b = refl
or_assoc (Some n) d b = refl

count_push : (es : List Entry) (e : Entry) (x : List ℕ) → count_stated (es ++ e ∷ []) x ≡ or_else (count_stated es x) (cond (bytes_eq e.name x) (count_in e.kind) None)
count_push [] e x = or_none (cond (bytes_eq e.name x) (count_in e.kind) None)
count_push (f ∷ es) e x =
    let a = cond (bytes_eq f.name x) (count_in f.kind) None in
    ap (or_else a) (count_push es e x) ∙ or_assoc a (count_stated es x) (cond (bytes_eq e.name x) (count_in e.kind) None)

-- a test of a kind, where the name may be another
since_more : (x : List ℕ) (t : Kind → Bool) (kept : Option Past → Option ℕ) (es : List Entry) (l : Line) (o : Option Past)
    → cond (t (kind_of l.known)) (Some (length es)) (kept o) ≡ kept (Some (with_known (length es) o l.known))
    → Since (among x t) es (kept o) → Since (among x t) (es ++ entry_of l ∷ []) (kept (past_after (length es) o l x))
since_more x t kept es l o same h =
    subst (Since (among x t) (es ++ entry_of l ∷ [])) (by_test (bytes_eq l.name.now x)) (since_push (among x t) es (entry_of l) (kept o) h)
  where
    by_test : (b : Bool) → cond (b && t (kind_of l.known)) (Some (length es)) (kept o) ≡ kept (cond b (Some (with_known (length es) o l.known)) o)
    by_test true = same
    by_test false = refl

one_more : (x : List ℕ) (es : List Entry) (l : Line) (o : Option Past) → Agrees x es o → Agrees x (es ++ entry_of l ∷ []) (past_after (length es) o l x)
one_more x es l o a = record {
  means = declared_push es (entry_of l) x ∙ ap (λ d. later d (cond (bytes_eq l.name.now x) (Some (kind_of l.known)) None)) a.means ∙ means_by (bytes_eq l.name.now x);
  count = count_push es (entry_of l) x ∙ ap (λ d. or_else d (cond (bytes_eq l.name.now x) (count_in (kind_of l.known)) None)) a.count ∙ count_by (bytes_eq l.name.now x);
  object = since_more x is_object object_of es l o (object_with (length es) o l.known) a.object;
  function = since_more x is_declared_function function_of es l o (function_with (length es) o l.known) a.function;
  result = λ given. since_more x (has_other_result given) (result_of given) es l o (result_with (length es) given o l.known) (a.result given);
  list = λ given. since_more x (states_others given) (list_of given) es l o (list_with (length es) given o l.known) (a.list given);
  body = since_more x is_body body_of es l o (body_with (length es) o l.known) a.body;
}
  where
    means_by : (b : Bool) → later (means_of o) (cond b (Some (kind_of l.known)) None) ≡ means_of (cond b (Some (with_known (length es) o l.known)) o)
    means_by true = means_with (length es) o l.known
    means_by false = refl

    count_by : (b : Bool) → or_else (count_kept o) (cond b (count_in (kind_of l.known)) None) ≡ count_kept (cond b (Some (with_known (length es) o l.known)) o)
    count_by true = count_with (length es) o l.known
    count_by false = or_none (count_kept o)

-- ---- all entries

agrees_from : (x : List ℕ) (es : List Entry) (o : Option Past) → Agrees x es o → (ls : List Line) → Agrees x (es ++ entries_of ls) (past_from (length es) o ls x)
agrees_from x es o a [] = subst (λ r. Agrees x r o) (sym (append-nil es)) a
agrees_from x es o a (l ∷ ls) =
    let o' = past_after (length es) o l x in
    let more : Agrees x ((es ++ entry_of l ∷ []) ++ entries_of ls) (past_from (length (es ++ entry_of l ∷ [])) o' ls x) =
    agrees_from x (es ++ entry_of l ∷ []) o' (one_more x es l o a) ls in
    subst (λ r. Agrees x r (past_from (length es + 1) o' ls x)) (append_assoc es (entry_of l ∷ []) (entries_of ls))
    (subst (λ k. Agrees x ((es ++ entry_of l ∷ []) ++ entries_of ls) (past_from k o' ls x)) (length_push es (entry_of l)) more)

agrees : (x : List ℕ) (ls : List Line) → Agrees x (entries_of ls) (past_of ls x)
agrees x ls = agrees_from x [] None (nothing x) ls

pub declared_is : (x : List ℕ) (ls : List Line) → declared_as (entries_of ls) x ≡ means_of (past_of ls x)
declared_is x ls = (agrees x ls).means

pub count_is : (x : List ℕ) (ls : List Line) → count_stated (entries_of ls) x ≡ count_kept (past_of ls x)
count_is x ls = (agrees x ls).count

-- ---- clashes

any_ext : (p q : Entry → Bool) → ((e : Entry) → p e ≡ q e) → (es : List Entry) → list_any p es ≡ list_any q es
any_ext p q h [] = refl
any_ext p q h (e ∷ es) = ap (λ b. b || list_any p es) (h e) ∙ ap (λ b. q e || b) (any_ext p q h es)

any_or : (p q : Entry → Bool) (es : List Entry) → list_any (λ e. p e || q e) es ≡ (list_any p es || list_any q es)
any_or p q [] = refl
any_or p q (e ∷ es) = ap (λ b. (p e || q e) || b) (any_or p q es) ∙ crossed (p e) (q e) (list_any p es) (list_any q es)
  where
    crossed : (a b c d : Bool) → ((a || b) || (c || d)) ≡ ((a || c) || (b || d))
    crossed true b c d = refl
    crossed false true true d = refl
    crossed false true false d = refl
    crossed false false c d = refl

any_and : (p : Entry → Bool) (given : Bool) (es : List Entry) → list_any (λ e. p e && given) es ≡ (list_any p es && given)
any_and p given [] = refl
any_and p given (e ∷ es) = ap (λ b. (p e && given) || b) (any_and p given es) ∙ shared (p e) given (list_any p es)
  where
    shared : (a b c : Bool) → ((a && b) || (c && b)) ≡ ((a || c) && b)
    shared true true c = refl
    shared true false true = refl
    shared true false false = refl
    shared false b c = refl

any_false : (es : List Entry) → list_any (λ e. false) es ≡ false
any_false [] = refl
any_false (e ∷ es) = any_false es

clash_closed : (x : List ℕ) (e : Entry) → (bytes_eq e.name x && clashes e.kind kind.Closed) ≡ false
clash_closed x e = by_test (bytes_eq e.name x) e.kind
  where
    by_test : (b : Bool) (k : Kind) → (b && clashes k kind.Closed) ≡ false
    by_test false k = refl
    by_test true (kind.Object n ty dims fixed) = refl
    by_test true (kind.Function result stated has_body) = refl
    by_test true kind.Closed = refl

clash_object : (x : List ℕ) (n : ℕ) (ty : IntType) (dims : ℕ) (fixed : Bool) (e : Entry)
    → (bytes_eq e.name x && clashes e.kind (kind.Object n ty dims fixed)) ≡ (among x is_object e || among x is_declared_function e)
clash_object x n ty dims fixed e = by_test (bytes_eq e.name x) e.kind
  where
    by_test : (b : Bool) (k : Kind) → (b && clashes k (kind.Object n ty dims fixed)) ≡ ((b && is_object k) || (b && is_declared_function k))
    by_test false k = refl
    by_test true (kind.Object n' ty' dims' fixed') = refl
    by_test true (kind.Function result stated has_body) = refl
    by_test true kind.Closed = refl

clash_function : (x : List ℕ) (result : Option IntType) (types : Option (List IntType)) (has_body : Bool) (e : Entry)
    → (bytes_eq e.name x && clashes e.kind (kind.Function result types has_body))
    ≡ (among x is_object e || (among x (has_other_result result) e || (among x (states_others types) e || (among x is_body e && has_body))))
clash_function x result types has_body e = by_test (bytes_eq e.name x) e.kind
  where
    by_test : (b : Bool) (k : Kind) → (b && clashes k (kind.Function result types has_body))
        ≡ ((b && is_object k) || ((b && has_other_result result k) || ((b && states_others types k) || ((b && is_body k) && has_body))))
    by_test false k = refl
    by_test true (kind.Object n ty dims fixed) = refl
    by_test true (kind.Function result' types' has_body') = refl
    by_test true kind.Closed = refl

abbrev clash_in : List ℕ → Kind → Entry → Bool
clash_in x k e = bytes_eq e.name x && clashes e.kind k

-- the places answer at every start
clash_since : (x : List ℕ) (es : List Entry) (o : Option Past) (start : ℕ) (k : Known) → Agrees x es o → list_any (clash_in x (kind_of k)) (drop start es) ≡ is_clash start o k
clash_since x es o start known.Closed a = any_ext (clash_in x kind.Closed) (λ e. false) (clash_closed x) (drop start es) ∙ any_false (drop start es) ∙ none o
  where
    none : (o : Option Past) → false ≡ is_clash start o known.Closed
    none None = refl
    none (Some p) = refl
clash_since x es o start (known.Object n ty dims fixed) a =
    let r = drop start es in
    any_ext (clash_in x (kind.Object n ty dims fixed)) (λ e. among x is_object e || among x is_declared_function e) (clash_object x n ty dims fixed) r
    ∙ any_or (among x is_object) (among x is_declared_function) r
    ∙ ap (λ b. b || list_any (among x is_declared_function) r) (a.object start) ∙ ap (λ b. is_since start (object_of o) || b) (a.function start) ∙ kept o
  where
    kept : (o : Option Past) → (is_since start (object_of o) || is_since start (function_of o)) ≡ is_clash start o (known.Object n ty dims fixed)
    kept None = refl
    kept (Some p) = refl
clash_since x es o start (known.Function result stated has_body) a =
    let r = drop start es in
    let types = types_stated stated in
    let ob = among x is_object in
    let re = among x (has_other_result result) in
    let li = among x (states_others types) in
    let bo = among x is_body in
    any_ext (clash_in x (kind.Function result types has_body)) (λ e. ob e || (re e || (li e || (bo e && has_body)))) (clash_function x result types has_body) r
    ∙ any_or ob (λ e. re e || (li e || (bo e && has_body))) r
    ∙ ap (λ b. list_any ob r || b) (any_or re (λ e. li e || (bo e && has_body)) r
    ∙ ap (λ b. list_any re r || b) (any_or li (λ e. bo e && has_body) r ∙ ap (λ b. list_any li r || b) (any_and bo has_body r)))
    ∙ four (a.object start) (a.result result start) (a.list types start) (a.body start) ∙ kept o
  where
    four : {a b c d a' b' c' d' : Bool} → a ≡ a' → b ≡ b' → c ≡ c' → d ≡ d' → (a || (b || (c || (d && has_body)))) ≡ (a' || (b' || (c' || (d' && has_body))))
    four p q r s = rw (p, q, r, s) refl

    kept : (o : Option Past)
        → (is_since start (object_of o) || (is_since start (result_of result o) || (is_since start (list_of (types_stated stated) o) || (is_since start (body_of o) && has_body))))
        ≡ is_clash start o (known.Function result stated has_body)
    kept None = refl
    kept (Some p) = refl

pub clash_is : (x : List ℕ) (ls : List Line) (start : ℕ) (k : Known)
    → list_any (λ earlier. bytes_eq earlier.name x && clashes earlier.kind (kind_of k)) (drop start (entries_of ls)) ≡ is_clash start (past_of ls x) k
clash_is x ls start k = clash_since x (entries_of ls) (past_of ls x) start k (agrees x ls)
