-- What is known of the bodies of a checked program: their calls by their ends, their statements by their places.
use Rattle.std.proofs.Common.{◌≡◌, true, List, [], ◌∷◌, map, Some}
use Rattle.std.proofs.lemmas.List.Elements.{Contains-append_left}
use Rattle.std.specs.List.{Contains, list_all}
use Rattle.c_core.specs.Tree.{Exp, Stm, Stmt, Function, Program}
use Rattle.c_core.specs.Parts.{exps_of, fulls_of_program, own_fulls_of, spot_of, spot_of_statement, statements_of, statements_of_program}
use Rattle.c_core.specs.Places.{aim_fits, is_named, spots_of_kind}
use Rattle.c_core.specs.Program.{IsProgram, places_rise}
use Rattle.c_core.specs.Scope.{function_nests, is_block}
use Rattle.c_core.specs.declared.number.Spot.{Spot}
use Rattle.c_core.specs.declared.place.PlaceKind.TheVariants.{Statement}
use Rattle.c_core.proofs.TextOrderLaws.{left, right, same_spot-self}
use Rattle.author_runs.proofs.Each.{Each, any_contained, each_both, each_flat}
use Rattle.author_runs.proofs.Known.{Ends, all_known}
use Rattle.author_runs.proofs.Places.{stand}
use Rattle.author_runs.proofs.Traversed.{AreKnown, IsBody, IsKnown, inside}

module _ (p : Program) where
  -- a statement stands there
  abbrev pub In : Spot → Type 0
  In spot = Contains (spots_of_kind Statement p) spot

  pub aim : (spot : Spot) → In spot → aim_fits p spot.line (Some spot.column) ≡ true
  aim spot h =
      any_contained (is_named spot.line (Some spot.column)) _ spot
      (Contains-append_left _ _ spot
      (Contains-append_left (spots_of_kind Statement p) (map spot_of (fulls_of_program p)) spot h))
      (same_spot-self spot)

  abbrev Calls : List Exp → Type 0
  Calls es = Each (IsKnown (Ends p)) es

  abbrev Fulls : List Exp → Type 0
  Fulls es = AreKnown (Ends p) es

  in_statements : places_rise p ≡ true
      → Each (λ (f : Function). Each (λ s. Fulls (own_fulls_of s)) (statements_of f.body)) p.functions
  in_statements rise =
      each_flat (λ s. Fulls (own_fulls_of s)) (λ (f : Function). statements_of f.body) p.functions
      (each_flat (λ e. Calls (exps_of e)) own_fulls_of (statements_of_program p)
      (each_flat (IsKnown (Ends p)) exps_of (fulls_of_program p) (all_known p rise)))

  one_body : (s : Stm) → is_block s ≡ true → Each (λ b. Fulls (own_fulls_of b)) (statements_of s)
      → Each (λ b. In (spot_of_statement b)) (inside s) → IsBody (Ends p) In s
  one_body (Stmt at f) block fulls stands = (
    block,
    each_both (λ b. In (spot_of_statement b)) (λ b. Fulls (own_fulls_of b))
        (inside (Stmt at f)) stands fulls.1,
  )

  each_body : (fs : List Function) → list_all function_nests fs ≡ true
      → Each (λ (f : Function). Each (λ s. Fulls (own_fulls_of s)) (statements_of f.body)) fs
      → Each (λ (f : Function). Each (λ b. In (spot_of_statement b)) (inside f.body)) fs
      → Each (λ (f : Function). IsBody (Ends p) In f.body) fs
  each_body [] nests fulls stands = tt
  each_body (f ∷ fs) nests fulls stands = (
    one_body f.body (left (is_block f.body) _ (left (function_nests f) _ nests)) fulls.0 stands.0,
    each_body fs (right (function_nests f) _ nests) fulls.1 stands.1,
  )

  pub bodies : IsProgram p → Each (λ (f : Function). IsBody (Ends p) In f.body) p.functions
  bodies checked =
      each_body p.functions checked.blocks (in_statements checked.in_order)
      (stand In p.functions (λ a c. c))
