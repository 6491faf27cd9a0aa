-- The functions of a Rust program are those of its view.
use Rattle.std.proofs.Common.{◌≡◌, ◌<◌, ℕ, zero, suc, List, [], ◌∷◌, length, get_or, slice_get, Some, refl, ap, sym, ◌∙◌}
use Rattle.std.proofs.lemmas.Option.{slice_get_read}
use Rattle.std.specs.Option.{option_map}
use Rattle.c_core.specs.TreeView.{function_view, functions_view}
use Rattle.c_core.specs.declared.tree.Function.{Function}

pub functions_found : (fs : List Function) (i : ℕ) → option_map function_view (slice_get fs i) ≡ slice_get (functions_view fs) i
functions_found [] i = refl
functions_found (f ∷ fs) zero = refl
functions_found (f ∷ fs) (suc i) = functions_found fs i

pub functions_counted : (fs : List Function) → length (functions_view fs) ≡ length fs
functions_counted [] = refl
functions_counted (f ∷ fs) = ap (λ n. suc n) (functions_counted fs)

pub function_at : (fs : List Function) (n : ℕ) (f : Function) → n < length fs → f ≡ get_or fs n f → slice_get (functions_view fs) n ≡ Some (function_view f)
function_at fs n f l e = sym (functions_found fs n) ∙ ap (option_map function_view) (slice_get_read fs (length fs) n f refl l e)
