-- What is listed of the arms of a switch and of functions, and that this is what is drawn.
use Rattle.std.proofs.Common.{◌≡◌, ℕ, zero, suc, ◌+◌, ◌<◌, List, [], ◌∷◌, ◌++◌, Option, Some, None, length, drop, get_or, nat_eq, slice_get, refl, sym, ap, ◌∙◌, subst, ⊎_elim, arith, eq-eqb, true, true≢false}
use Rattle.std.specs.Prelude.{IsTrue}
use Rattle.std.specs.List.{Contains, flat_map}
use Rattle.std.specs.Option.{option_map}
use Rattle.std.proofs.lemmas.Bool.{or_cases, or_left, or_right}
use Rattle.std.proofs.lemmas.Bool.Decides.{nat_tests}
use Rattle.std.proofs.lemmas.List.Elements.{Contains-append_cases, Contains-append_left, Contains-append_right}
use Rattle.c_core.specs.Tree.{Program}
use Rattle.c_core.specs.TreeView.{function_view, functions_view, stmt_view, stmts_view, switch_view}
use Rattle.c_core.specs.declared.tree.Arm.{Arm, out-Arm}
use Rattle.c_core.specs.declared.tree.Function.{Function}
use Rattle.c_core.proofs.ArmLaws.{all_from}
use Rattle.c_calls.specs.Calling.{IsReached}
use Rattle.c_meaning.specs.Parts.{is_in}
use Rattle.c_draws.specs.Drawing.{draws_of_statement, draws_of_block, draws_if, draws_of_function, IsDrawn}
use Rattle.c_draws.specs.declared.places.DrawPlace.{DrawPlace}

pub draws_from : (p : Program) (arms : List Arm) (i : ℕ) (a : Arm) → i < length arms → a ≡ get_or arms i a → draws_of_block p (switch_view (drop i arms)) ≡ draws_of_block p (stmts_view (out-Arm a).body) ++ draws_of_block p (switch_view (drop (i + 1) arms))
draws_from p arms i a l e = all_from (draws_of_statement p) (draws_of_block p) refl (λ s b. refl) (λ b spot l. refl) arms i a l e

function_seen : (fs : List Function) (i : ℕ) → slice_get (functions_view fs) i ≡ option_map function_view (slice_get fs i)
function_seen [] i = refl
function_seen (f ∷ fs) zero = refl
function_seen (f ∷ fs) (suc i) = function_seen fs i

pub no_body : (p : Program) (fs : List Function) (i : ℕ) → None ≡ slice_get fs i → [] ≡ draws_if p (slice_get (functions_view fs) i)
no_body p fs i e = ap (λ o. draws_if p (option_map function_view o)) e ∙ sym (ap (draws_if p) (function_seen fs i))

pub body_of : (p : Program) (fs : List Function) (i : ℕ) (f : Function) → Some f ≡ slice_get fs i → draws_of_statement p (stmt_view f.body) ≡ draws_if p (slice_get (functions_view fs) i)
body_of p fs i f e = ap (λ o. draws_if p (option_map function_view o)) e ∙ sym (ap (draws_if p) (function_seen fs i))

-- each place that one of these functions draws at is drawn
pub all_drawn : (p : Program) (fs : List ℕ) → ((f : ℕ) → IsTrue (is_in f fs) → IsReached p f) → (x : DrawPlace) → Contains (flat_map (draws_of_function p) fs) x → IsDrawn p x
all_drawn p [] h x there = absurd (omega (arith, there.1))
all_drawn p (f ∷ fs) h x there =
    ⊎_elim (λ here. record { function = f; reached = h f (or_left _ _ (eq-eqb f f refl)); there = here })
    (λ later. all_drawn p fs (λ g m. h g (or_right _ _ m)) x later)
    (Contains-append_cases (draws_of_function p f) (flat_map (draws_of_function p) fs) x there)

same_number : (a b : ℕ) → nat_eq a b ≡ true → a ≡ b
same_number a b h = grind (arith, nat_tests)

-- where one of these functions draws is listed
pub all_listed : (p : Program) (fs : List ℕ) (f : ℕ) (x : DrawPlace) → IsTrue (is_in f fs) → Contains (draws_of_function p f) x → Contains (flat_map (draws_of_function p) fs) x
all_listed p [] f x m there = absurd (true≢false (sym m))
all_listed p (g ∷ fs) f x m there =
    ⊎_elim (λ same. Contains-append_left (draws_of_function p g) _ x (subst (λ k. Contains (draws_of_function p k) x) (same_number f g same) there))
    (λ later. Contains-append_right (draws_of_function p g) _ x (all_listed p fs f x later there))
    (or_cases (nat_eq f g) (is_in f fs) m)
