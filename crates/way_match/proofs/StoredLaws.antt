-- A declaration of one object, or of another number of them.
use Rattle.std.proofs.Common.{◌≡◌, ◌≢◌, refl, sym, ap, List, [], ◌∷◌, length, get_or, None, arith}
use Rattle.c_core.specs.TreeView.{init_view, names_view}
use Rattle.c_core.specs.declared.tree.Declared.{Declared}
use Rattle.way_match.specs.Given.{stored_by_init, stored_by_names}

pub unless_one : (ds : List Declared) → length ds ≢ 1 → stored_by_names (names_view ds) ≡ None
unless_one [] h = refl
unless_one (d ∷ []) h = absurd (h refl)
unless_one (d ∷ e ∷ ds) h = refl

pub of_one : (ds : List Declared) (d : Declared) → length ds ≡ 1 → d ≡ get_or ds 0 d → stored_by_names (names_view ds) ≡ stored_by_init d.object (init_view d.init)
of_one [] d h is = cc
of_one (x ∷ []) d h is = sym (ap (λ y. stored_by_init y.object (init_view y.init)) is)
of_one (x ∷ e ∷ ds) d h is = absurd (omega arith)
