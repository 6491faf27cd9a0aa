-- What is read at a height is no higher.
use Rattle.std.proofs.Common.{◌≡◌, ℕ, ◌≤◌, nat_le, Bool, true, List, [], ◌∷◌, refl, arith, Some}
use Rattle.std.proofs.lemmas.Bool.Decides.{nat_tests}
use Rattle.c_tokens.specs.declared.token.Token.{Token}
use Rattle.c_parser.specs.Tree.{exps, Declared}
use Rattle.c_parser.specs.Heights.{heights, height_of_init, height_of_declared}
use Rattle.c_parser.specs.ReadStatements.{declares}
use Rattle.c_parser.specs.ReadItems.{is_low}
use Rattle.c_parser.proofs.SoundBlocks.{declares_sound}

at_most : (n h : ℕ) → n ≤ h → nat_le n h ≡ true
at_most n h le = grind (arith, nat_tests)

low : (h : ℕ) (ds : List Declared) → height_of_declared ds ≤ h → is_low h ds ≡ true
low h [] le = refl
low h (d ∷ ds) le = rw (at_most (heights (exps d.sizes)) h (omega arith), at_most (height_of_init d.init) h (omega arith)) (low h ds (omega arith))

pub declares_low : (b h : ℕ) (outside : Bool) (ts : List Token) (r : List Declared × List Token) → declares b h outside ts ≡ Some r → is_low h r.0 ≡ true
declares_low b h outside ts r e = low h r.0 (declares_sound b h outside ts r e).1
