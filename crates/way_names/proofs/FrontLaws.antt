-- Names that all places see stand in front of the others.
use Rattle.std.proofs.Common.{◌≡◌, ℕ, refl, sym, ap, ◌∙◌, Bool, true, false, cond, List, [], ◌∷◌, ◌++◌, map, Option, Some, None}
use Rattle.std.specs.Option.{option_map}
use Rattle.std.proofs.lemmas.List.{append-nil, append_assoc, map-append}
use Rattle.c_core.specs.Tree.{Stm, Stmt, Form, Empty, Do, Declare, Block, If, While, DoWhile, For, Break, Continue, Return, Label, Switch, Else, NoElse, OrElse, Stms, NoStm, MoreStm, MoreCase, Function, Program}
use Rattle.c_core.specs.Parts.{declared_by, objects_of_first, same_spot}
use Rattle.c_core.specs.declared.number.Spot.{Spot}
use Rattle.c_core.specs.declared.place.PlaceKind.{PlaceKind}
use Rattle.c_core.specs.declared.place.PlaceKind.TheVariants.{Statement, Loop, Branch, CallEnd}
use Rattle.way_names.specs.Scopes.{locals_at}
use Rattle.way_names.specs.Visible.{Sight, sight, at_start, at_loop, fixed_before, names_at, names_or, seen_from, sights_in, sights_in_block, sights_in_body, sights_in_else, sights_in_form, sights_in_functions}

abbrev behind : List ℕ → Sight → Sight
behind front s = sight s.spot (front ++ s.names)

module _ (kind : PlaceKind) (front : List ℕ) where
  -- places that see these names first
  abbrev Behind : List Sight → List Sight → Type 0
  Behind xs ys = xs ≡ map (behind front) ys

  both : (us vs xs ys : List Sight) → Behind us xs → Behind vs ys → Behind (us ++ vs) (xs ++ ys)
  both us vs xs ys h k = ap (λ l. l ++ vs) h ∙ ap (λ l. map (behind front) xs ++ l) k ∙ sym (map-append (behind front) xs ys)

  loop_behind : (at : Spot) (names : List ℕ) (f : Form) → Behind (at_loop (front ++ names) at f) (at_loop names at f)
  loop_behind at names Empty = refl
  loop_behind at names (Do e) = refl
  loop_behind at names (Declare ns) = refl
  loop_behind at names (Block b) = refl
  loop_behind at names (If e a b) = refl
  loop_behind at names (While e b) = refl
  loop_behind at names (DoWhile b e) = refl
  loop_behind at names (For i e s b) = ap (λ ns. sight at ns ∷ []) (append_assoc front names (objects_of_first i))
  loop_behind at names Break = refl
  loop_behind at names Continue = refl
  loop_behind at names (Return e) = refl
  loop_behind at names (Label b) = refl
  loop_behind at names (Switch e b) = refl

  start_behind : (k : PlaceKind) (at : Spot) (names : List ℕ) (f : Form) → Behind (at_start k (front ++ names) at f) (at_start k names at f)
  start_behind Statement at names f = refl
  start_behind Loop at names f = loop_behind at names f
  start_behind Branch at names f = refl
  start_behind CallEnd at names f = refl

  mutual
    in_statement : (names : List ℕ) (s : Stm) → Behind (sights_in kind (front ++ names) s) (sights_in kind names s)
    in_statement names (Stmt at f) =
        both (at_start kind (front ++ names) at f) (sights_in_form kind (front ++ names) f) (at_start kind names at f) (sights_in_form kind names f)
        (start_behind kind at names f) (in_form names f)

    in_form : (names : List ℕ) (f : Form) → Behind (sights_in_form kind (front ++ names) f) (sights_in_form kind names f)
    in_form names Empty = refl
    in_form names (Do e) = refl
    in_form names (Declare ns) = refl
    in_form names (Block b) = in_block names b
    in_form names (If e a b) =
        both (sights_in kind (front ++ names) a) (sights_in_else kind (front ++ names) b) (sights_in kind names a) (sights_in_else kind names b)
        (in_statement names a) (in_else names b)
    in_form names (While e b) = in_statement names b
    in_form names (DoWhile b e) = in_statement names b
    in_form names (For i e s b) =
        ap (λ ns. sights_in kind ns b) (append_assoc front names (objects_of_first i)) ∙ in_statement (names ++ objects_of_first i) b
    in_form names Break = refl
    in_form names Continue = refl
    in_form names (Return e) = refl
    in_form names (Label b) = in_statement names b
    in_form names (Switch e b) = in_block names b

    in_else : (names : List ℕ) (b : Else) → Behind (sights_in_else kind (front ++ names) b) (sights_in_else kind names b)
    in_else names NoElse = refl
    in_else names (OrElse b) = in_statement names b

    in_block : (names : List ℕ) (b : Stms) → Behind (sights_in_block kind (front ++ names) b) (sights_in_block kind names b)
    in_block names NoStm = refl
    in_block names (MoreStm s b) =
        both (sights_in kind (front ++ names) s) (sights_in_block kind (front ++ names ++ declared_by s) b) (sights_in kind names s) (sights_in_block kind (names ++ declared_by s) b)
        (in_statement names s)
        (ap (λ ns. sights_in_block kind ns b) (append_assoc front names (declared_by s)) ∙ in_block (names ++ declared_by s) b)
    in_block names (MoreCase spot l b) = in_block names b

  in_body : (names : List ℕ) (s : Stm) → Behind (sights_in_body kind (front ++ names) s) (sights_in_body kind names s)
  in_body names (Stmt at f) = in_form names f

  in_functions : (fs : List Function) → Behind (sights_in_functions kind front fs) (sights_in_functions kind [] fs)
  in_functions [] = refl
  in_functions (f ∷ fs) =
      both (sights_in_body kind (front ++ f.params) f.body) (sights_in_functions kind front fs) (sights_in_body kind f.params f.body) (sights_in_functions kind [] fs)
      (in_body f.params f.body) (in_functions fs)

by_test : (b : Bool) (front names : List ℕ) (x y : Option (List ℕ)) → x ≡ option_map (λ ns. front ++ ns) y → cond b (Some (front ++ names)) x ≡ option_map (λ ns. front ++ ns) (cond b (Some names) y)
by_test true front names x y h = refl
by_test false front names x y h = h

seen_behind : (spot : Spot) (front : List ℕ) (ss : List Sight) → seen_from spot (map (behind front) ss) ≡ option_map (λ ns. front ++ ns) (seen_from spot ss)
seen_behind spot front [] = refl
seen_behind spot front (s ∷ ss) =
    by_test (same_spot s.spot spot) front s.names (seen_from spot (map (behind front) ss)) (seen_from spot ss) (seen_behind spot front ss)

or_behind : (front : List ℕ) (seen : Option (List ℕ)) → names_or front (option_map (λ ns. front ++ ns) seen) ≡ front ++ names_or [] seen
or_behind front None = sym (append-nil front)
or_behind front (Some names) = refl

pub fixed_first : (p : Program) (kind : PlaceKind) (spot : Spot) → names_at p kind spot ≡ fixed_before p spot ++ locals_at p kind spot
fixed_first p kind spot =
    let front : List ℕ = fixed_before p spot in
    ap (λ ss. names_or front (seen_from spot ss)) (in_functions kind front p.functions)
    ∙ ap (names_or front) (seen_behind spot front (sights_in_functions kind [] p.functions))
    ∙ or_behind front (seen_from spot (sights_in_functions kind [] p.functions))
