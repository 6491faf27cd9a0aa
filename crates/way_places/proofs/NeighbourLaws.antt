-- The statement before a place is the first that is a neighbour there.
use Rattle.std.proofs.Common.{◌≡◌, refl, sym, ap, ◌∙◌, cond, List, [], ◌∷◌, ◌++◌, Option, Some, None, map}
use Rattle.std.proofs.lemmas.Grind.{flat_map-append}
use Rattle.c_core.specs.Tree as t
use Rattle.c_core.specs.Tree.{Stm, Form, Empty, Do, Declare, Block, If, While, DoWhile, For, Break, Continue, Return, Label, Switch, Stms, NoStm, MoreStm, MoreCase, Program}
use Rattle.c_core.specs.Parts.{spot_of_statement, same_spot, statements_of_program}
use Rattle.c_core.specs.Places.{before_in, before_in_form, before_in_statement, first_some, stmt_before}
use Rattle.c_core.specs.declared.number.Spot.{Spot}
use Rattle.way_places.specs.Maps.{first_in}
use Rattle.way_places.specs.Neighbours.{among, pairs_in, pairs_in_form, pairs_of}
use Rattle.way_places.specs.Seeking.{or_else}
use Rattle.way_places.proofs.FirstLaws.{first_in_both}

pub among_both : (xs ys : List Stm) → among (xs ++ ys) ≡ among xs ++ among ys
among_both xs ys = flat_map-append pairs_of xs ys

in_block : (spot : Spot) (b : Stms) → first_in (pairs_in b) spot ≡ before_in spot b
in_block spot NoStm = refl
in_block spot (MoreStm s NoStm) = refl
in_block spot (MoreStm s (MoreCase at l b)) = in_block spot b
in_block spot (MoreStm s (MoreStm behind b)) = ap (cond (same_spot (spot_of_statement behind) spot) (Some s)) (in_block spot (MoreStm behind b))
in_block spot (MoreCase at l b) = in_block spot b

in_form : (spot : Spot) (f : Form) → first_in (pairs_in_form f) spot ≡ before_in_form spot f
in_form spot (Block b) = in_block spot b
in_form spot (Switch e b) = in_block spot b
in_form spot _ = refl

in_statement : (spot : Spot) (s : Stm) → first_in (pairs_of s) spot ≡ before_in_statement spot s
in_statement spot (t.Stmt at f) = in_form spot f

pub first_or : {A : Type 0} (o : Option A) (os : List (Option A)) → first_some (o ∷ os) ≡ or_else o (first_some os)
first_or None os = refl
first_or (Some s) os = refl

in_all : (spot : Spot) (ss : List Stm) → first_in (among ss) spot ≡ first_some (map (before_in_statement spot) ss)
in_all spot [] = refl
in_all spot (s ∷ ss) =
    first_in_both (pairs_of s) (among ss) spot
    ∙ ap (λ o. or_else o (first_in (among ss) spot)) (in_statement spot s) ∙ ap (or_else (before_in_statement spot s)) (in_all spot ss)
    ∙ sym (first_or (before_in_statement spot s) (map (before_in_statement spot) ss))

pub before_is_neighbour : (p : Program) (spot : Spot) → first_in (among (statements_of_program p)) spot ≡ stmt_before p spot
before_is_neighbour p spot = in_all spot (statements_of_program p)
