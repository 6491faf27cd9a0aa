-- The functions of a demo's programs call none with a body, so main reaches no cycle of calls.
use Rattle.std.proofs.Common.{◌≡◌, ℕ, zero, suc, ◌+◌, false, List, [], ◌∷◌, None, refl}
use Rattle.c_calls.specs.Calling.{IsCalledFrom, IsFirstRecursion, directly, further}
use Rattle.c_core.specs.Tree.{Exp, Program, Stms}
use Rattle.c_core.specs.declared.tree.Object.{Object}
use Rattle.c_meaning.specs.Parts.{calls, fulls_of_block, fulls_of_function, some_node, some_of}
use Rattle.demo_checks.proofs.Quiet.{never}
use Rattle.demo_run.specs.Typed.{correct_typed, loops, main_alone}
use Rattle.demo_binding.proofs.Suffixes.{last}

-- loops call none
no_calls : (f l k o : ℕ) (bs : List ℕ) (rest : Stms) → some_of (some_node (calls f)) (fulls_of_block rest) ≡ false → some_of (some_node (calls f)) (fulls_of_block (loops l k o bs rest)) ≡ false
no_calls f l k o [] rest none = none
no_calls f l k o (b ∷ bs) rest none = no_calls f (l + 1 + 1 + 1 + 1 + 1 + 1 + 1) (k + 1) (o + 1) bs rest none

module _ (objects : List Object) (body : Stms) (none : (f : ℕ) → some_of (some_node (calls f)) (fulls_of_block body) ≡ false) where
  abbrev p : Program
  p = main_alone objects body

  none_in : (h f : ℕ) → some_of (some_node (calls f)) (fulls_of_function p h) ≡ false
  none_in zero f = none f
  none_in (suc h) f = refl

  nothing_called : (es : List Exp) (g : ℕ) → ((f : ℕ) → some_of (some_node (calls f)) es ≡ false) → IsCalledFrom p es g → ⊥
  nothing_called es g free (directly f c) = never (some_of (some_node (calls f)) es) (free f) c.1
  nothing_called es g free (further f h l c) = never (some_of (some_node (calls h)) (fulls_of_function p f)) (none_in f h) c.1

  no_cycle : IsFirstRecursion p None
  no_cycle f r = nothing_called (fulls_of_function p f) f (none_in f) r.cycle

pub correct_is_straight : (bs : List ℕ) → IsFirstRecursion (correct_typed bs) None
correct_is_straight bs = no_cycle (correct_typed bs).objects (loops 4 1 0 bs (last bs)) (λ f. no_calls f 4 1 0 bs (last bs) refl)
