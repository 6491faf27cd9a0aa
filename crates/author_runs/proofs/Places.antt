-- The statements in bodies stand where the places of statements are.
use Rattle.std.proofs.Common.{◌≡◌, Bool, true, false, cond, List, [], ◌∷◌, ◌++◌, map, Option, Some, None, refl, sym, ap, ◌∙◌, subst, append-nil}
use Rattle.std.proofs.lemmas.List.{map-append}
use Rattle.std.proofs.lemmas.List.Elements.{Contains-append_left, Contains-append_right}
use Rattle.std.specs.List.{Contains, flat_map}
use Rattle.c_core.specs.Tree.{Exp, Expr, Node, Const, Var, Index, Unary, Cast, Step, Binary, Logic, Choose, Comma, Assign, Call, Exps, NoExp, MoreExp, Init, Absent, One, Many, Rows, Names, NoName, MoreName, First, NoFirst, FirstExp, FirstNames, Stm, Stmt, Form, Empty, Do, Declare, Block, If, While, DoWhile, For, Break, Continue, Return, Label, Switch, Else, NoElse, OrElse, Stms, NoStm, MoreStm, MoreCase, Function}
use Rattle.c_core.specs.Parts.{spot_of_statement, statements_of, statements_of_form, statements_of_else, statements_of_block}
use Rattle.c_core.specs.Places.{place, same_kind, of_kind, places_in, places_in_node, places_in_arguments, places_if, places_in_init, places_in_names, places_in_first, places_of_statement, places_of_form, places_of_else, places_of_block, places_of_body}
use Rattle.c_core.specs.declared.number.Spot.{Spot}
use Rattle.c_core.specs.declared.place.Place.{Place}
use Rattle.c_core.specs.declared.place.PlaceKind.TheVariants.{Statement, Branch, Loop, CallEnd}
use Rattle.author_runs.proofs.Each.{Each, each_contained, each_map}
use Rattle.author_runs.proofs.Traversed.{inside}

-- where statements stand among these places
abbrev standing : List Place → List Spot
standing ps = of_kind Statement ps

with_first : (b : Bool) (a : Spot) (xs ys zs : List Spot) → zs ≡ xs ++ ys
    → cond b (a ∷ zs) zs ≡ cond b (a ∷ xs) xs ++ ys
with_first true a xs ys zs e = ap (λ l. a ∷ l) e
with_first false a xs ys zs e = e

standing-append : (ps qs : List Place) → standing (ps ++ qs) ≡ standing ps ++ standing qs
standing-append [] qs = refl
standing-append (p ∷ ps) qs =
    with_first (same_kind Statement p.kind) p.spot (standing ps) (standing qs) (standing (ps ++ qs))
    (standing-append ps qs)

-- ---- none in expressions

none_both : (ps qs : List Place) → standing ps ≡ [] → standing qs ≡ [] → standing (ps ++ qs) ≡ []
none_both ps qs a b = standing-append ps qs ∙ rw a b

mutual
  none_in : (e : Exp) → standing (places_in e) ≡ []
  none_in (Expr spot ty n) = none_in_node n

  none_in_node : (n : Node) → standing (places_in_node n) ≡ []
  none_in_node (Const v) = refl
  none_in_node (Var o) = refl
  none_in_node (Index o is) = none_in_arguments is
  none_in_node (Unary op a) = none_in a
  none_in_node (Cast a) = none_in a
  none_in_node (Step op a) = none_in a
  none_in_node (Binary op a b) = none_both (places_in a) (places_in b) (none_in a) (none_in b)
  none_in_node (Logic k a b) = none_both (places_in a) (places_in b) (none_in a) (none_in b)
  none_in_node (Choose mark e a b) =
      none_both (places_in e ++ place Branch mark ∷ places_in a) (places_in b)
      (none_both (places_in e) (place Branch mark ∷ places_in a) (none_in e) (none_in a)) (none_in b)
  none_in_node (Comma a b) = none_both (places_in a) (places_in b) (none_in a) (none_in b)
  none_in_node (Assign op a b) = none_both (places_in a) (places_in b) (none_in a) (none_in b)
  none_in_node (Call callee es close) =
      none_both (places_in_arguments es) (place CallEnd close ∷ []) (none_in_arguments es) refl

  none_in_arguments : (es : Exps) → standing (places_in_arguments es) ≡ []
  none_in_arguments NoExp = refl
  none_in_arguments (MoreExp e es) = none_both (places_in e) (places_in_arguments es) (none_in e) (none_in_arguments es)

none_if : (e : Option Exp) → standing (places_if e) ≡ []
none_if None = refl
none_if (Some e) = none_in e

none_in_rows : (rows : List Exps) → standing (flat_map places_in_arguments rows) ≡ []
none_in_rows [] = refl
none_in_rows (es ∷ rows) =
    none_both (places_in_arguments es) (flat_map places_in_arguments rows) (none_in_arguments es) (none_in_rows rows)

none_in_init : (i : Init) → standing (places_in_init i) ≡ []
none_in_init Absent = refl
none_in_init (One e) = none_in e
none_in_init (Many es) = none_in_arguments es
none_in_init (Rows rows) = none_in_rows rows

none_in_names : (ns : Names) → standing (places_in_names ns) ≡ []
none_in_names NoName = refl
none_in_names (MoreName spot o i ns) =
    none_both (places_in_init i) (places_in_names ns) (none_in_init i) (none_in_names ns)

none_in_first : (i : First) → standing (places_in_first i) ≡ []
none_in_first NoFirst = refl
none_in_first (FirstExp e) = none_in e
none_in_first (FirstNames ns) = none_in_names ns

-- ---- those of statements

abbrev spots : List Stm → List Spot
spots ss = map spot_of_statement ss

both : (ps qs : List Place) (xs ys : List Stm) → standing ps ≡ spots xs → standing qs ≡ spots ys
    → standing (ps ++ qs) ≡ spots (xs ++ ys)
both ps qs xs ys a b =
    standing-append ps qs ∙ ap (λ l. l ++ standing qs) a ∙ ap (λ l. spots xs ++ l) b
    ∙ sym (map-append spot_of_statement xs ys)

after_none : (ps qs : List Place) (ys : List Stm) → standing ps ≡ [] → standing qs ≡ spots ys
    → standing (ps ++ qs) ≡ spots ys
after_none ps qs ys a b = both ps qs [] ys a b

then_none : (ps qs : List Place) (xs : List Stm) → standing ps ≡ spots xs → standing qs ≡ []
    → standing (ps ++ qs) ≡ spots xs
then_none ps qs xs a b =
    standing-append ps qs ∙ ap (λ l. l ++ standing qs) a ∙ ap (λ l. spots xs ++ l) b ∙ append-nil (spots xs)

mutual
  of_statement : (s : Stm) → standing (places_of_statement s) ≡ spots (statements_of s)
  of_statement (Stmt at f) = ap (λ l. at ∷ l) (of_form at f)

  of_form : (at : Spot) (f : Form) → standing (places_of_form at f) ≡ spots (statements_of_form f)
  of_form at Empty = refl
  of_form at (Do e) = none_in e
  of_form at (Declare ns) = none_in_names ns
  of_form at (Block b) = of_block b
  of_form at (If e a b) =
      both (place Branch at ∷ places_in e ++ places_of_statement a) (places_of_else b) (statements_of a)
      (statements_of_else b)
      (after_none (place Branch at ∷ places_in e) (places_of_statement a) (statements_of a) (none_in e)
      (of_statement a)) (of_else b)
  of_form at (While e b) =
      after_none (place Loop at ∷ place Branch at ∷ places_in e) (places_of_statement b) (statements_of b) (none_in e)
      (of_statement b)
  of_form at (DoWhile b e) =
      then_none (place Loop at ∷ place Branch at ∷ places_of_statement b) (places_in e) (statements_of b)
      (of_statement b) (none_in e)
  of_form at (For i e s b) =
      after_none (place Loop at ∷ place Branch at ∷ places_in_first i ++ places_if e ++ places_if s)
      (places_of_statement b) (statements_of b)
      (none_both (place Loop at ∷ place Branch at ∷ places_in_first i ++ places_if e) (places_if s)
      (none_both (place Loop at ∷ place Branch at ∷ places_in_first i) (places_if e) (none_in_first i) (none_if e))
      (none_if s)) (of_statement b)
  of_form at Break = refl
  of_form at Continue = refl
  of_form at (Return e) = none_if e
  of_form at (Label b) = of_statement b
  of_form at (Switch e b) =
      after_none (place Branch at ∷ places_in e) (places_of_block b) (statements_of_block b) (none_in e) (of_block b)

  of_else : (b : Else) → standing (places_of_else b) ≡ spots (statements_of_else b)
  of_else NoElse = refl
  of_else (OrElse b) = of_statement b

  of_block : (b : Stms) → standing (places_of_block b) ≡ spots (statements_of_block b)
  of_block NoStm = refl
  of_block (MoreStm s b) =
      both (places_of_statement s) (places_of_block b) (statements_of s) (statements_of_block b) (of_statement s)
      (of_block b)
  of_block (MoreCase spot l b) = of_block b

module _ (In : Spot → Type 0) where
  stand_in_body : (s : Stm) → ((a : Spot) → Contains (standing (places_of_body s)) a → In a)
      → Each (λ b. In (spot_of_statement b)) (inside s)
  stand_in_body (Stmt at f) h =
      each_map In spot_of_statement (statements_of_form f)
      (each_contained In (spots (statements_of_form f))
      (λ a c. h a (subst (λ (l : List Spot). Contains l a) (sym (of_form at f)) c)))

  pub stand : (fs : List Function)
      → ((a : Spot) → Contains (standing (flat_map (λ f. places_of_body f.body) fs)) a → In a)
      → Each (λ (f : Function). Each (λ b. In (spot_of_statement b)) (inside f.body)) fs
  stand [] h = tt
  stand (f ∷ fs) h =
      let own : List Spot = standing (places_of_body f.body) in
      let rest : List Spot = standing (flat_map (λ f. places_of_body f.body) fs) in
      let split : List Spot = standing (places_of_body f.body ++ flat_map (λ f. places_of_body f.body) fs) in
      let all : (a : Spot) → Contains (own ++ rest) a → In a = λ a c. h a
      (subst (λ (l : List Spot). Contains l a)
      (sym (standing-append (places_of_body f.body) (flat_map (λ f. places_of_body f.body) fs))) c) in (
        stand_in_body f.body (λ a c. all a (Contains-append_left own rest a c)),
        stand fs (λ a c. all a (Contains-append_right own rest a c)),
      )
