-- What a walk notes sees the names that are visible there.
use Rattle.std.proofs.Common.{◌≡◌, ℕ, refl, sym, subst, Bool, true, false, cond, List, [], ◌∷◌, ◌++◌, Option, Some, None}
use Rattle.std.specs.List.{AllZip}
use Rattle.std.specs.Option.{option_flatten}
use Rattle.std.proofs.lemmas.List.{append-nil, append_assoc}
use Rattle.c_core.specs.Tree.{Stm, Stmt, Form, Empty, Do, Declare, Block, If, While, DoWhile, For, Break, Continue, Return, Label, Switch, Else, NoElse, OrElse, Stms, NoStm, MoreStm, MoreCase, Function}
use Rattle.c_core.specs.Parts.{declared_by, objects_of_first, same_spot}
use Rattle.c_core.specs.declared.number.Spot.{Spot}
use Rattle.c_core.specs.declared.place.PlaceKind.TheVariants.{Statement, Loop}
use Rattle.way_places.specs.Maps.{first_in}
use Rattle.way_names.specs.declared.scope.Scope.{Scope}
use Rattle.way_names.specs.declared.walk.Walk as rust
use Rattle.way_names.specs.Scopes.{IsScope, outermost, scope_at}
use Rattle.way_names.specs.Visible.{Sight, sight, at_loop, names_or, seen_from, sights_in, sights_in_block, sights_in_body, sights_in_else, sights_in_form, sights_in_functions}
use Rattle.way_names.specs.Walk.{Walk, in_parentheses, innermost, is_loop, last_scope, scope_around, start, walk_view, walked, walked_block, walked_body, walked_else, walked_form, walked_functions, walked_within, with_loop, with_loop_if, with_names, with_scope, with_statement}
use Rattle.way_names.proofs.ScopeLaws.{scope_kept, scope_more}
use Rattle.way_names.specs.declared.places.ScopesAt.{ScopesAt}

abbrev Mark : Type 0
Mark = Spot × Option ℕ

-- a scope that a place sees has the names that are visible there
abbrev Sees : List Scope → Mark → Sight → Type 0
Sees scopes m s = (m.0 ≡ s.spot) × IsScope scopes m.1 s.names

abbrev AllSee : List Scope → List Mark → List Sight → Type 0
AllSee scopes ms ss = AllZip (Sees scopes) ms ss

-- from one walk to a later one scopes stay, and these statements and loops are noted
record Notes (v w : Walk) (ss ls : List Sight) : Type 0 where
  pub kept : (scope : Option ℕ) (names : List ℕ) → IsScope v.scopes scope names → IsScope w.scopes scope names
  pub statements : (xs : List Sight) → AllSee v.scopes v.statements xs → AllSee w.scopes w.statements (xs ++ ss)
  pub loops : (xs : List Sight) → AllSee v.scopes v.loops xs → AllSee w.scopes w.loops (xs ++ ls)

stays : (w : Walk) → Notes w w [] []
stays w = record {
  kept = λ scope names h. h;
  statements = λ xs h. subst (AllSee w.scopes w.statements) (sym (append-nil xs)) h;
  loops = λ xs h. subst (AllSee w.scopes w.loops) (sym (append-nil xs)) h;
}

one_then : (u v w : Walk) (ss ls more behind : List Sight) → Notes u v ss ls → Notes v w more behind → Notes u w (ss ++ more) (ls ++ behind)
one_then u v w ss ls more behind h k = record {
  kept = λ scope names x. k.kept scope names (h.kept scope names x);
  statements = λ xs x. subst (AllSee w.scopes w.statements) (append_assoc xs ss more) (k.statements (xs ++ ss) (h.statements xs x));
  loops = λ xs x. subst (AllSee w.scopes w.loops) (append_assoc xs ls behind) (k.loops (xs ++ ls) (h.loops xs x));
}

-- what is seen stays seen where scopes stay
all_kept : (xs ys : List Scope) → ((scope : Option ℕ) (names : List ℕ) → IsScope xs scope names → IsScope ys scope names)
    → (ms : List Mark) (ss : List Sight) → AllSee xs ms ss → AllSee ys ms ss
all_kept xs ys kept [] [] h = h
all_kept xs ys kept [] (s ∷ ss) h = h
all_kept xs ys kept (m ∷ ms) [] h = h
all_kept xs ys kept (m ∷ ms) (s ∷ ss) h = ((h.0.0, kept m.1 s.names h.0.1), all_kept xs ys kept ms ss h.1)

one_more : (scopes : List Scope) (ms : List Mark) (ss : List Sight) (m : Mark) (s : Sight) → AllSee scopes ms ss → Sees scopes m s → AllSee scopes (ms ++ m ∷ []) (ss ++ s ∷ [])
one_more scopes [] [] m s h k = (k, tt)
one_more scopes [] (x ∷ ss) m s h k = absurd h
one_more scopes (y ∷ ms) [] m s h k = absurd h
one_more scopes (y ∷ ms) (x ∷ ss) m s h k = (h.0, one_more scopes ms ss m s h.1 k)

one_scope_more : (w : Walk) (scope : Option ℕ) (o : ℕ) → Notes w (with_scope w scope o) [] []
one_scope_more w scope o =
    let more : List Scope = w.scopes ++ scope_around scope o ∷ [] in
    let kept : (at : Option ℕ) (names : List ℕ) → IsScope w.scopes at names → IsScope more at names = λ at names h. scope_kept w.scopes (scope_around scope o ∷ []) at names h in
    record {
      kept = kept;
      statements = λ xs h. subst (AllSee more w.statements) (sym (append-nil xs)) (all_kept w.scopes more kept w.statements xs h);
      loops = λ xs h. subst (AllSee more w.loops) (sym (append-nil xs)) (all_kept w.scopes more kept w.loops xs h);
    }

-- names one in the other
record Declares (w : Walk) (scope : Option ℕ) (names os : List ℕ) : Type 0 where
  pub notes : Notes w (with_names w scope os) [] []
  pub is : IsScope (with_names w scope os).scopes (innermost w scope os) (names ++ os)

declares : (w : Walk) (scope : Option ℕ) (names os : List ℕ) → IsScope w.scopes scope names → Declares w scope names os
declares w scope names [] h = record { notes = stays w; is = subst (IsScope w.scopes scope) (sym (append-nil names)) h }
declares w scope names (o ∷ os) h =
    let v : Walk = with_scope w scope o in
    let rest = declares v (last_scope w) (names ++ o ∷ []) os (scope_more w.scopes scope names o h) in
    record {
      notes = one_then w v (with_names v (last_scope w) os) [] [] [] [] (one_scope_more w scope o) rest.notes;
      is = subst (IsScope (with_names v (last_scope w) os).scopes (innermost v (last_scope w) os)) (append_assoc names (o ∷ []) os) rest.is;
    }

notes_statement : (w : Walk) (at : Spot) (scope : Option ℕ) (names : List ℕ) → IsScope w.scopes scope names → Notes w (with_statement w at scope) (sight at names ∷ []) []
notes_statement w at scope names h = record {
  kept = λ s ns x. x;
  statements = λ xs x. one_more w.scopes w.statements xs (at, scope) (sight at names) x (refl, h);
  loops = λ xs x. subst (AllSee w.scopes w.loops) (sym (append-nil xs)) x;
}

notes_loop : (w : Walk) (at : Spot) (scope : Option ℕ) (names : List ℕ) → IsScope w.scopes scope names → Notes w (with_loop w at scope) [] (sight at names ∷ [])
notes_loop w at scope names h = record {
  kept = λ s ns x. x;
  statements = λ xs x. subst (AllSee w.scopes w.statements) (sym (append-nil xs)) x;
  loops = λ xs x. one_more w.scopes w.loops xs (at, scope) (sight at names) x (refl, h);
}

-- the names in the parentheses of `for` are visible at its loop and in its body
abbrev in_there : List ℕ → Form → List ℕ
in_there names (For i e s b) = names ++ objects_of_first i
in_there names _ = names

enters : (w : Walk) (scope : Option ℕ) (names : List ℕ) (f : Form) → IsScope w.scopes scope names
    → IsScope (with_names w scope (in_parentheses f)).scopes (innermost w scope (in_parentheses f)) (in_there names f)
enters w scope names Empty h = h
enters w scope names (Do e) h = h
enters w scope names (Declare ns) h = h
enters w scope names (Block b) h = h
enters w scope names (If e a b) h = h
enters w scope names (While e b) h = h
enters w scope names (DoWhile b e) h = h
enters w scope names (For i e s b) h = (declares w scope names (objects_of_first i) h).is
enters w scope names Break h = h
enters w scope names Continue h = h
enters w scope names (Return e) h = h
enters w scope names (Label b) h = h
enters w scope names (Switch e b) h = h

notes_loop_if : (w : Walk) (at : Spot) (scope : Option ℕ) (names : List ℕ) (f : Form) → IsScope w.scopes scope (in_there names f)
    → Notes w (with_loop_if (is_loop f) w at scope) [] (at_loop names at f)
notes_loop_if w at scope names Empty h = stays w
notes_loop_if w at scope names (Do e) h = stays w
notes_loop_if w at scope names (Declare ns) h = stays w
notes_loop_if w at scope names (Block b) h = stays w
notes_loop_if w at scope names (If e a b) h = stays w
notes_loop_if w at scope names (While e b) h = notes_loop w at scope names h
notes_loop_if w at scope names (DoWhile b e) h = notes_loop w at scope names h
notes_loop_if w at scope names (For i e s b) h = notes_loop w at scope (names ++ objects_of_first i) h
notes_loop_if w at scope names Break h = stays w
notes_loop_if w at scope names Continue h = stays w
notes_loop_if w at scope names (Return e) h = stays w
notes_loop_if w at scope names (Label b) h = stays w
notes_loop_if w at scope names (Switch e b) h = stays w

-- what is noted of a part that sees these names
abbrev NotesStatement : Walk → Option ℕ → List ℕ → Stm → Type 0
NotesStatement w scope names s = Notes w (walked w scope s) (sights_in Statement names s) (sights_in Loop names s)

abbrev NotesForm : Walk → Option ℕ → List ℕ → Form → Type 0
NotesForm w scope names f = Notes w (walked_form w scope f) (sights_in_form Statement names f) (sights_in_form Loop names f)

mutual
  notes_of : (w : Walk) (scope : Option ℕ) (names : List ℕ) (s : Stm) → IsScope w.scopes scope names → NotesStatement w scope names s
  notes_of w scope names (Stmt at f) h =
      let os : List ℕ = in_parentheses f in
      let u : Walk = with_statement w at scope in
      let v : Walk = with_names u scope os in
      let inside : Option ℕ = innermost u scope os in
      let x : Walk = with_loop_if (is_loop f) v at inside in
      let there = enters u scope names f h in
      let looped = notes_loop_if v at inside names f there in
      one_then w u (walked_form x inside f) (sight at names ∷ []) [] (sights_in_form Statement names f) (at_loop names at f ++ sights_in_form Loop names f)
      (notes_statement w at scope names h)
      (one_then u v (walked_form x inside f) [] [] (sights_in_form Statement names f) (at_loop names at f ++ sights_in_form Loop names f)
      (declares u scope names os h).notes
      (one_then v x (walked_form x inside f) [] (at_loop names at f) (sights_in_form Statement names f) (sights_in_form Loop names f)
      looped (notes_of_form x inside names f (looped.kept inside (in_there names f) there))))

  notes_of_form : (w : Walk) (scope : Option ℕ) (names : List ℕ) (f : Form) → IsScope w.scopes scope (in_there names f) → NotesForm w scope names f
  notes_of_form w scope names Empty h = stays w
  notes_of_form w scope names (Do e) h = stays w
  notes_of_form w scope names (Declare ns) h = stays w
  notes_of_form w scope names (Block b) h = notes_of_block w scope names b h
  notes_of_form w scope names (If e a b) h =
      let yes = notes_of w scope names a h in
      one_then w (walked w scope a) (walked_else (walked w scope a) scope b) (sights_in Statement names a) (sights_in Loop names a) (sights_in_else Statement names b) (sights_in_else Loop names b)
      yes (notes_of_else (walked w scope a) scope names b (yes.kept scope names h))
  notes_of_form w scope names (While e b) h = notes_of w scope names b h
  notes_of_form w scope names (DoWhile b e) h = notes_of w scope names b h
  notes_of_form w scope names (For i e s b) h = notes_of w scope (names ++ objects_of_first i) b h
  notes_of_form w scope names Break h = stays w
  notes_of_form w scope names Continue h = stays w
  notes_of_form w scope names (Return e) h = stays w
  notes_of_form w scope names (Label b) h = notes_of w scope names b h
  notes_of_form w scope names (Switch e b) h = notes_of_block w scope names b h

  notes_of_else : (w : Walk) (scope : Option ℕ) (names : List ℕ) (b : Else) → IsScope w.scopes scope names
      → Notes w (walked_else w scope b) (sights_in_else Statement names b) (sights_in_else Loop names b)
  notes_of_else w scope names NoElse h = stays w
  notes_of_else w scope names (OrElse b) h = notes_of w scope names b h

  notes_of_block : (w : Walk) (scope : Option ℕ) (names : List ℕ) (b : Stms) → IsScope w.scopes scope names
      → Notes w (walked_block w scope b) (sights_in_block Statement names b) (sights_in_block Loop names b)
  notes_of_block w scope names NoStm h = stays w
  notes_of_block w scope names (MoreStm s b) h =
      let os : List ℕ = declared_by s in
      let u : Walk = walked w scope s in
      let v : Walk = with_names u scope os in
      let inside : Option ℕ = innermost u scope os in
      let one = notes_of w scope names s h in
      let more = declares u scope names os (one.kept scope names h) in
      let all : List Sight = sights_in_block Statement (names ++ os) b in
      let loops : List Sight = sights_in_block Loop (names ++ os) b in
      one_then w u (walked_block v inside b) (sights_in Statement names s) (sights_in Loop names s) all loops
      one
      (one_then u v (walked_block v inside b) [] [] all loops more.notes (notes_of_block v inside (names ++ os) b more.is))
  notes_of_block w scope names (MoreCase spot l b) h = notes_of_block w scope names b h

notes_within : (w : Walk) (scope : Option ℕ) (names : List ℕ) (s : Stm) → IsScope w.scopes scope names
    → Notes w (walked_within w scope s) (sights_in_body Statement names s) (sights_in_body Loop names s)
notes_within w scope names (Stmt at f) h =
    let os : List ℕ = in_parentheses f in
    let v : Walk = with_names w scope os in
    let inside : Option ℕ = innermost w scope os in
    one_then w v (walked_form v inside f) [] [] (sights_in_form Statement names f) (sights_in_form Loop names f)
    (declares w scope names os h).notes (notes_of_form v inside names f (enters w scope names f h))

notes_body : (w : Walk) (f : Function) → Notes w (walked_body w f.params f.body) (sights_in_body Statement f.params f.body) (sights_in_body Loop f.params f.body)
notes_body w f =
    let more = declares w None [] f.params outermost in
    let v : Walk = with_names w None f.params in
    let inside : Option ℕ = innermost w None f.params in
    one_then w v (walked_within v inside f.body) [] [] (sights_in_body Statement f.params f.body) (sights_in_body Loop f.params f.body)
    more.notes (notes_within v inside f.params f.body more.is)

notes_functions : (w : Walk) (fs : List Function) → Notes w (walked_functions w fs) (sights_in_functions Statement [] fs) (sights_in_functions Loop [] fs)
notes_functions w [] = stays w
notes_functions w (f ∷ fs) =
    one_then w (walked_body w f.params f.body) (walked_functions (walked_body w f.params f.body) fs)
    (sights_in_body Statement f.params f.body) (sights_in_body Loop f.params f.body) (sights_in_functions Statement [] fs) (sights_in_functions Loop [] fs)
    (notes_body w f) (notes_functions (walked_body w f.params f.body) fs)

chosen : (scopes : List Scope) (b : Bool) (scope : Option ℕ) (names : List ℕ) (more : Option (Option ℕ)) (seen : Option (List ℕ)) → IsScope scopes scope names
    → IsScope scopes (option_flatten more) (names_or [] seen) → IsScope scopes (option_flatten (cond b (Some scope) more)) (names_or [] (cond b (Some names) seen))
chosen scopes true scope names more seen h k = h
chosen scopes false scope names more seen h k = k

first_sees : (scopes : List Scope) (ms : List Mark) (ss : List Sight) (q : Spot) → AllSee scopes ms ss → IsScope scopes (option_flatten (first_in ms q)) (names_or [] (seen_from q ss))
first_sees scopes [] [] q h = outermost
first_sees scopes [] (s ∷ ss) q h = absurd h
first_sees scopes (m ∷ ms) [] q h = absurd h
first_sees scopes (m ∷ ms) (s ∷ ss) q h =
    let P : Spot → Type 0 = λ at. IsScope scopes (option_flatten (cond (same_spot m.0 q) (Some m.1) (first_in ms q))) (names_or [] (cond (same_spot at q) (Some s.names) (seen_from q ss))) in
    subst P h.0.0 (chosen scopes (same_spot m.0 q) m.1 s.names (first_in ms q) (seen_from q ss) h.0.1 (first_sees scopes ms ss q h.1))

-- the first scope that is noted at a place is that of the names that are visible there
statement_sees : (w : Walk) (fs : List Function) (q : Spot) → w ≡ walked_functions start fs
    → IsScope w.scopes (option_flatten (first_in w.statements q)) (names_or [] (seen_from q (sights_in_functions Statement [] fs)))
statement_sees w fs q e =
    let P : Walk → Type 0 = λ v. IsScope v.scopes (option_flatten (first_in v.statements q)) (names_or [] (seen_from q (sights_in_functions Statement [] fs))) in
    let v : Walk = walked_functions start fs in
    subst P (sym e) (first_sees v.scopes v.statements (sights_in_functions Statement [] fs) q ((notes_functions start fs).statements [] tt))

loop_sees : (w : Walk) (fs : List Function) (q : Spot) → w ≡ walked_functions start fs
    → IsScope w.scopes (option_flatten (first_in w.loops q)) (names_or [] (seen_from q (sights_in_functions Loop [] fs)))
loop_sees w fs q e =
    let P : Walk → Type 0 = λ v. IsScope v.scopes (option_flatten (first_in v.loops q)) (names_or [] (seen_from q (sights_in_functions Loop [] fs))) in
    let v : Walk = walked_functions start fs in
    subst P (sym e) (first_sees v.scopes v.loops (sights_in_functions Loop [] fs) q ((notes_functions start fs).loops [] tt))

-- the same of what a walk notes, in the order of the text
pub statements_given : (w : rust.Walk) (fs : List Function) (m : ScopesAt) → walk_view w ≡ walked_functions start fs → ((q : Spot) → first_in m.marks.items q ≡ first_in w.statements.items q)
    → (q : Spot) → IsScope w.scopes.items (scope_at m q) (names_or [] (seen_from q (sights_in_functions Statement [] fs)))
unfolding walk_view
statements_given w fs m e first q =
    subst (λ o. IsScope w.scopes.items (option_flatten o) (names_or [] (seen_from q (sights_in_functions Statement [] fs)))) (sym (first q)) (statement_sees (walk_view w) fs q e)

pub loops_given : (w : rust.Walk) (fs : List Function) (m : ScopesAt) → walk_view w ≡ walked_functions start fs → ((q : Spot) → first_in m.marks.items q ≡ first_in w.loops.items q)
    → (q : Spot) → IsScope w.scopes.items (scope_at m q) (names_or [] (seen_from q (sights_in_functions Loop [] fs)))
unfolding walk_view
loops_given w fs m e first q =
    subst (λ o. IsScope w.scopes.items (option_flatten o) (names_or [] (seen_from q (sights_in_functions Loop [] fs)))) (sym (first q)) (loop_sees (walk_view w) fs q e)
