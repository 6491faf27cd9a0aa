-- What a walk over bodies looks at are their full expressions, and what stands in them.
use Rattle.std.proofs.Common.{◌≡◌, ℕ, refl, sym, ap, ◌∙◌, Bool, true, false, cond, ◌&&◌, ◌||◌, List, [], ◌∷◌, ◌++◌, append_assoc, Option, Some, None, map}
use Rattle.std.specs.List.{filter, find, flat_map, list_any}
use Rattle.std.specs.Prelude.{is_some}
use Rattle.std.proofs.lemmas.Grind.{flat_map-append}
use Rattle.std.proofs.lemmas.List.{append-nil}
use Rattle.c_core.specs.Tree.{Exp, Exps, NoExp, MoreExp, Init, Absent, One, Many, Rows, Names, NoName, MoreName, First, NoFirst, FirstExp, FirstNames, Stm, Stmt, Form, Empty, Do, Declare, Block, If, While, DoWhile, For, Break, Continue, Return, Label, Switch, Else, NoElse, OrElse, Stms, NoStm, MoreStm, MoreCase, Function, Program}
use Rattle.c_core.specs.Parts.{exp_if, exps_in, exps_of, exps_of_program, fulls_of_first, fulls_of_init, fulls_of_names, fulls_of_program, own_fulls, own_fulls_of, spot_of, statements_of, statements_of_block, statements_of_else, statements_of_form}
use Rattle.c_core.specs.Places.{aim_fits, call_at, calls_reach_error, ends_at, is_named, leftmost, place_at, spots_of_kind, starts_of_reach_error}
use Rattle.c_core.specs.declared.number.Property.{Property}
use Rattle.c_core.specs.declared.number.Property.TheVariants.{UnreachCall, NoOverflow}
use Rattle.c_core.specs.declared.number.Spot.{Spot}
use Rattle.c_core.specs.declared.place.PlaceKind.TheVariants.{Statement}
use Rattle.way_places.specs.Seeking.{first_of, is_wanted}
use Rattle.way_places.specs.Sought.{found_by, is_reachability, parts_of, each_if, each_in, each_in_block, each_in_else, each_in_first, each_in_form, each_in_functions, each_in_init, each_in_list, each_in_names}
use Rattle.way_places.specs.declared.expressions.Wanted.TheVariants.{EndsAt, Starts, ReachesError}

-- what is sought in these full expressions
abbrev parts : {A : Type 0} → (Exp → List A) → List Exp → List A
parts w es = flat_map w es

two_parts : {A : Type 0} (w : Exp → List A) (xs ys : List Exp) → parts w (xs ++ ys) ≡ parts w xs ++ parts w ys
two_parts w xs ys = flat_map-append w xs ys

one_part : {A : Type 0} (w : Exp → List A) (e : Exp) → w e ≡ parts w (e ∷ [])
one_part w e = sym (append-nil (w e))

in_if : {A : Type 0} (w : Exp → List A) (e : Option Exp) → each_if w e ≡ parts w (exp_if e)
in_if w None = refl
in_if w (Some e) = one_part w e

in_list : {A : Type 0} (w : Exp → List A) (es : Exps) → each_in_list w es ≡ parts w (exps_in es)
in_list w NoExp = refl
in_list w (MoreExp e es) = ap (λ l. w e ++ l) (in_list w es)

in_rows : {A : Type 0} (w : Exp → List A) (rows : List Exps) → flat_map (each_in_list w) rows ≡ parts w (flat_map exps_in rows)
in_rows w [] = refl
in_rows w (es ∷ rows) =
    ap (λ l. l ++ flat_map (each_in_list w) rows) (in_list w es) ∙ ap (λ l. parts w (exps_in es) ++ l) (in_rows w rows) ∙ sym (two_parts w (exps_in es) (flat_map exps_in rows))

in_init : {A : Type 0} (w : Exp → List A) (i : Init) → each_in_init w i ≡ parts w (fulls_of_init i)
in_init w Absent = refl
in_init w (One e) = one_part w e
in_init w (Many es) = in_list w es
in_init w (Rows rows) = in_rows w rows

in_names : {A : Type 0} (w : Exp → List A) (ns : Names) → each_in_names w ns ≡ parts w (fulls_of_names ns)
in_names w NoName = refl
in_names w (MoreName spot o i ns) =
    ap (λ l. l ++ each_in_names w ns) (in_init w i) ∙ ap (λ l. parts w (fulls_of_init i) ++ l) (in_names w ns) ∙ sym (two_parts w (fulls_of_init i) (fulls_of_names ns))

in_first : {A : Type 0} (w : Exp → List A) (i : First) → each_in_first w i ≡ parts w (fulls_of_first i)
in_first w NoFirst = refl
in_first w (FirstExp e) = one_part w e
in_first w (FirstNames ns) = in_names w ns

-- the full expressions of these statements
abbrev fulls : List Stm → List Exp
fulls ss = flat_map own_fulls_of ss

-- what is sought in two lists of statements
both : {A : Type 0} (w : Exp → List A) (xs ys : List Stm) (l m : List A) → l ≡ parts w (fulls xs) → m ≡ parts w (fulls ys) → l ++ m ≡ parts w (fulls (xs ++ ys))
both w xs ys l m a b =
    ap (λ k. k ++ m) a ∙ ap (λ k. parts w (fulls xs) ++ k) b
    ∙ sym (two_parts w (fulls xs) (fulls ys)) ∙ sym (ap (parts w) (flat_map-append own_fulls_of xs ys))

-- an own full expression, before those of statements
behind : {A : Type 0} (w : Exp → List A) (es : List Exp) (ss : List Stm) (l m : List A) → l ≡ parts w es → m ≡ parts w (fulls ss) → l ++ m ≡ parts w (es ++ fulls ss)
behind w es ss l m a b = ap (λ k. k ++ m) a ∙ ap (λ k. parts w es ++ k) b ∙ sym (two_parts w es (fulls ss))

alone : {A : Type 0} (w : Exp → List A) (es : List Exp) (l : List A) → l ≡ parts w es → l ≡ parts w (es ++ [])
alone w es l a = a ∙ sym (ap (parts w) (append-nil es))

of_for : {A : Type 0} (w : Exp → List A) (xs ys zs : List Exp) (ss : List Stm) (a b c d : List A) → a ≡ parts w xs → b ≡ parts w ys → c ≡ parts w zs → d ≡ parts w (fulls ss)
    → a ++ (b ++ (c ++ d)) ≡ parts w (xs ++ ys ++ zs ++ fulls ss)
of_for w xs ys zs ss a b c d p q r s =
    ap (λ k. k ++ (b ++ (c ++ d))) p ∙ ap (λ k. parts w xs ++ (k ++ (c ++ d))) q ∙ ap (λ k. parts w xs ++ (parts w ys ++ (k ++ d))) r
    ∙ ap (λ k. parts w xs ++ (parts w ys ++ (parts w zs ++ k))) s
    ∙ sym (two_parts w (xs ++ ys ++ zs) (fulls ss)
    ∙ ap (λ k. k ++ parts w (fulls ss)) (two_parts w (xs ++ ys) zs ∙ ap (λ k. k ++ parts w zs) (two_parts w xs ys))
    ∙ append_assoc (parts w xs ++ parts w ys) (parts w zs) (parts w (fulls ss))
    ∙ append_assoc (parts w xs) (parts w ys) (parts w zs ++ parts w (fulls ss)))

mutual
  in_statement : {A : Type 0} (w : Exp → List A) (s : Stm) → each_in w s ≡ parts w (fulls (statements_of s))
  in_statement w (Stmt at f) = in_form w f

  in_form : {A : Type 0} (w : Exp → List A) (f : Form) → each_in_form w f ≡ parts w (own_fulls f ++ fulls (statements_of_form f))
  in_form w Empty = refl
  in_form w (Do e) = one_part w e
  in_form w (Declare ns) = alone w (fulls_of_names ns) (each_in_names w ns) (in_names w ns)
  in_form w (Block b) = in_block w b
  in_form w (If e a b) = ap (λ l. w e ++ l) (both w (statements_of a) (statements_of_else b) (each_in w a) (each_in_else w b) (in_statement w a) (in_else w b))
  in_form w (While e b) = ap (λ l. w e ++ l) (in_statement w b)
  in_form w (DoWhile b e) = ap (λ l. w e ++ l) (in_statement w b)
  in_form w (For i e s b) =
      of_for w (fulls_of_first i) (exp_if e) (exp_if s) (statements_of b) (each_in_first w i) (each_if w e) (each_if w s) (each_in w b) (in_first w i) (in_if w e) (in_if w s) (in_statement w b)
  in_form w Break = refl
  in_form w Continue = refl
  in_form w (Return e) = alone w (exp_if e) (each_if w e) (in_if w e)
  in_form w (Label b) = in_statement w b
  in_form w (Switch e b) = ap (λ l. w e ++ l) (in_block w b)

  in_else : {A : Type 0} (w : Exp → List A) (b : Else) → each_in_else w b ≡ parts w (fulls (statements_of_else b))
  in_else w NoElse = refl
  in_else w (OrElse b) = in_statement w b

  in_block : {A : Type 0} (w : Exp → List A) (b : Stms) → each_in_block w b ≡ parts w (fulls (statements_of_block b))
  in_block w NoStm = refl
  in_block w (MoreStm s b) = both w (statements_of s) (statements_of_block b) (each_in w s) (each_in_block w b) (in_statement w s) (in_block w b)
  in_block w (MoreCase spot l b) = in_block w b

pub in_functions : {A : Type 0} (w : Exp → List A) (fs : List Function) → each_in_functions w fs ≡ parts w (fulls (flat_map (λ f. statements_of f.body) fs))
in_functions w [] = refl
in_functions w (f ∷ fs) =
    both w (statements_of f.body) (flat_map (λ f. statements_of f.body) fs) (each_in w f.body) (each_in_functions w fs) (in_statement w f.body) (in_functions w fs)

call_parts : (close : Spot) (es : List Exp) → parts (parts_of (EndsAt close)) es ≡ flat_map exps_of es
call_parts close [] = refl
call_parts close (e ∷ es) = ap (λ l. exps_of e ++ l) (call_parts close es)

error_parts : (line : ℕ) (column : Option ℕ) (es : List Exp) → parts (parts_of (ReachesError line column)) es ≡ flat_map exps_of es
error_parts line column [] = refl
error_parts line column (e ∷ es) = ap (λ l. exps_of e ++ l) (error_parts line column es)

start_parts : (line : ℕ) (column : Option ℕ) (es : List Exp) → parts (parts_of (Starts line column)) es ≡ es
start_parts line column [] = refl
start_parts line column (e ∷ es) = ap (λ l. e ∷ l) (start_parts line column es)

first_stays : (q : Exp → Bool) (e : Exp) (es : List Exp) → first_of q (Some e) es ≡ Some e
first_stays q e [] = refl
first_stays q e (x ∷ es) = first_stays q e es

find_one : (q : Exp → Bool) (b : Bool) (e : Exp) (es : List Exp) (rest : Option Exp) → first_of q None es ≡ rest → first_of q (cond b (Some e) None) es ≡ cond b (Some e) rest
find_one q true e es rest h = first_stays q e es
find_one q false e es rest h = h

pub first_is_find : (q : Exp → Bool) (es : List Exp) → first_of q None es ≡ find q es
first_is_find q [] = refl
first_is_find q (e ∷ es) = find_one q (q e) e es (find q es) (first_is_find q es)

find_same : (close : Spot) (es : List Exp) → find (is_wanted (EndsAt close)) es ≡ find (ends_at close) es
find_same close [] = refl
find_same close (e ∷ es) = ap (λ r. cond (ends_at close e) (Some e) r) (find_same close es)

pub first_is_call : (p : Program) (close : Spot) → first_of (is_wanted (EndsAt close)) None (each_in_functions (parts_of (EndsAt close)) p.functions) ≡ call_at p close
first_is_call p close =
    ap (first_of (is_wanted (EndsAt close)) None) (in_functions (parts_of (EndsAt close)) p.functions ∙ call_parts close (fulls_of_program p))
    ∙ first_is_find (is_wanted (EndsAt close)) (exps_of_program p) ∙ find_same close (exps_of_program p)

-- whether one is found
found_one : (b c : Bool) (e : Exp) (rest : Option Exp) → is_some rest ≡ c → is_some (cond b (Some e) rest) ≡ b || c
found_one true c e rest h = refl
found_one false c e rest h = h

start_found : (line : ℕ) (column : Option ℕ) (es : List Exp) → is_some (find (is_wanted (Starts line column)) es) ≡ list_any (is_named line column) (map spot_of es)
start_found line column [] = refl
start_found line column (e ∷ es) =
    found_one (is_named line column (spot_of e)) (list_any (is_named line column) (map spot_of es)) e (find (is_wanted (Starts line column)) es) (start_found line column es)

error_one : (b c : Bool) (line : ℕ) (column : Option ℕ) (e : Exp) (es : List Exp) (rest : Option Exp) → is_some rest ≡ list_any (is_named line column) (map spot_of (filter calls_reach_error es))
    → is_named line column (spot_of e) ≡ c
    → is_some (cond (b && c) (Some e) rest) ≡ list_any (is_named line column) (map spot_of (cond b (e ∷ filter calls_reach_error es) (filter calls_reach_error es)))
error_one true true line column e es rest h k = sym (ap (λ t. t || list_any (is_named line column) (map spot_of (filter calls_reach_error es))) k)
error_one true false line column e es rest h k = h ∙ sym (ap (λ t. t || list_any (is_named line column) (map spot_of (filter calls_reach_error es))) k)
error_one false c line column e es rest h k = h

error_found : (line : ℕ) (column : Option ℕ) (es : List Exp)
    → is_some (find (is_wanted (ReachesError line column)) es) ≡ list_any (is_named line column) (map spot_of (filter calls_reach_error es))
error_found line column [] = refl
error_found line column (e ∷ es) =
    error_one (calls_reach_error e) (is_named line column (spot_of e)) line column e es (find (is_wanted (ReachesError line column)) es) (error_found line column es) refl

leftmost_one : (b c : Bool) (s : Spot) (spots : List Spot) → is_some (leftmost spots) ≡ c → is_some (leftmost (cond b (s ∷ spots) spots)) ≡ b || c
leftmost_one true c s spots h = refl
leftmost_one false c s spots h = h

pub leftmost_found : (line : ℕ) (column : Option ℕ) (spots : List Spot) → is_some (leftmost (filter (is_named line column) spots)) ≡ list_any (is_named line column) spots
leftmost_found line column [] = refl
leftmost_found line column (s ∷ spots) =
    leftmost_one (is_named line column s) (list_any (is_named line column) spots) s (filter (is_named line column) spots) (leftmost_found line column spots)

or_both : (x y z : Bool) → (x || y) || z ≡ x || (y || z)
or_both true y z = refl
or_both false y z = refl

any_both : {A : Type 0} (q : A → Bool) (xs ys : List A) → list_any q (xs ++ ys) ≡ list_any q xs || list_any q ys
any_both q [] ys = refl
any_both q (x ∷ xs) ys = ap (λ t. q x || t) (any_both q xs ys) ∙ sym (or_both (q x) (list_any q xs) (list_any q ys))

error_starts : (property : Property) (line : ℕ) (column : Option ℕ) (es : List Exp)
    → list_any (is_named line column) (starts_of_reach_error property es) ≡ is_reachability property && is_some (find (is_wanted (ReachesError line column)) es)
error_starts UnreachCall line column es = sym (error_found line column es)
error_starts NoOverflow line column es = refl

start_is_found : (p : Program) (line : ℕ) (column : Option ℕ) → is_some (found_by (Starts line column) p) ≡ list_any (is_named line column) (map spot_of (fulls_of_program p))
start_is_found p line column =
    ap (λ es. is_some (first_of (is_wanted (Starts line column)) None es)) (in_functions (parts_of (Starts line column)) p.functions ∙ start_parts line column (fulls_of_program p))
    ∙ ap is_some (first_is_find (is_wanted (Starts line column)) (fulls_of_program p)) ∙ start_found line column (fulls_of_program p)

error_is_found : (p : Program) (line : ℕ) (column : Option ℕ) → is_some (found_by (ReachesError line column) p) ≡ is_some (find (is_wanted (ReachesError line column)) (exps_of_program p))
error_is_found p line column =
    ap (λ es. is_some (first_of (is_wanted (ReachesError line column)) None es)) (in_functions (parts_of (ReachesError line column)) p.functions ∙ error_parts line column (fulls_of_program p))
    ∙ ap is_some (first_is_find (is_wanted (ReachesError line column)) (exps_of_program p))

-- a target is at a statement, at a full expression, or at a call of `reach_error` where that is the property
pub aim_is_found : (p : Program) (line : ℕ) (column : Option ℕ)
    → aim_fits p line column ≡ is_some (place_at p Statement line column) || (is_some (found_by (Starts line column) p) || (is_reachability p.property && is_some (found_by (ReachesError line column) p)))
aim_is_found p line column =
    any_both (is_named line column) (spots_of_kind Statement p ++ map spot_of (fulls_of_program p)) (starts_of_reach_error p.property (exps_of_program p))
    ∙ ap (λ t. t || list_any (is_named line column) (starts_of_reach_error p.property (exps_of_program p))) (any_both (is_named line column) (spots_of_kind Statement p) (map spot_of (fulls_of_program p)))
    ∙ or_both (list_any (is_named line column) (spots_of_kind Statement p)) (list_any (is_named line column) (map spot_of (fulls_of_program p))) (list_any (is_named line column) (starts_of_reach_error p.property (exps_of_program p)))
    ∙ ap (λ t. t || (list_any (is_named line column) (map spot_of (fulls_of_program p)) || list_any (is_named line column) (starts_of_reach_error p.property (exps_of_program p)))) (sym (leftmost_found line column (spots_of_kind Statement p)))
    ∙ ap (λ t. is_some (place_at p Statement line column) || (t || list_any (is_named line column) (starts_of_reach_error p.property (exps_of_program p)))) (sym (start_is_found p line column))
    ∙ ap (λ t. is_some (place_at p Statement line column) || (is_some (found_by (Starts line column) p) || t))
    (error_starts p.property line column (exps_of_program p) ∙ ap (λ t. is_reachability p.property && t) (sym (error_is_found p line column)))

pub aim_by : (p : Program) (line : ℕ) (column : Option ℕ) (result a b r e : Bool) → result ≡ a || (b || (r && e)) → a ≡ is_some (place_at p Statement line column) → b ≡ is_some (found_by (Starts line column) p)
    → r ≡ is_reachability p.property → e ≡ is_some (found_by (ReachesError line column) p) → result ≡ aim_fits p line column
aim_by p line column result a b r e h x y z w =
    h ∙ ap (λ t. t || (b || (r && e))) x ∙ ap (λ t. is_some (place_at p Statement line column) || (t || (r && e))) y
    ∙ ap (λ t. is_some (place_at p Statement line column) || (is_some (found_by (Starts line column) p) || (t && e))) z
    ∙ ap (λ t. is_some (place_at p Statement line column) || (is_some (found_by (Starts line column) p) || (is_reachability p.property && t))) w
    ∙ sym (aim_is_found p line column)
