-- The invariants of a demo, bound to its loops.
use Rattle.std.specs.Prelude.{ℕ, ◌+◌, true, List, [], ◌∷◌, codes}
use Rattle.c_core.specs.Tree.{Exp, Binary, Logic}
use Rattle.c_core.specs.declared.number.BinOp.TheVariants.{Le}
use Rattle.c_core.specs.declared.number.Spot.{Spot}
use Rattle.c_meaning.specs.Duties.{Placed}
use Rattle.c_tokens.specs.declared.token.Punct.TheVariants as sign
use Rattle.demo_laws.specs.DemoLines.{mark, name, number, word}
use Rattle.demo_laws.specs.Lines.{Piece, line_tokens}
use Rattle.demo_laws.specs.Source.{looped_at, spot_in}
use Rattle.demo_run.specs.Typed.{constant, int_exp, variable}

-- `0 <= xk && xk <= b`, on one line
abbrev pub range_pieces : ℕ → ℕ → List Piece
range_pieces k b =
    number 0 0 ∷ mark 1 (codes "<=") sign.LessEqual ∷ word 1 (name k) ∷ mark 1 (codes "&&") sign.AmpersandAmpersand ∷ word 1 (name k) ∷ mark 1 (codes "<=") sign.LessEqual ∷ number 1 b ∷ []

-- where its tokens stand
abbrev pub range_at : ℕ → ℕ → ℕ → Spot
range_at k b = spot_in (line_tokens 1 1 (range_pieces k b))

-- the same of an object, typed
abbrev pub range_test : ℕ → ℕ → (ℕ → Spot) → Exp
range_test o b at = int_exp (at 0) (Logic true (int_exp (at 0) (Binary Le (constant 0 (at 0)) (variable o (at 2)))) (int_exp (at 4) (Binary Le (variable o (at 4)) (constant b (at 6)))))

-- the invariants of loops, the first of which stands on this line, is the k-th and counts in object o
abbrev pub placed_ranges : ℕ → ℕ → ℕ → List ℕ → List Placed
placed_ranges l k o [] = []
placed_ranges l k o (b ∷ bs) =
    record { at_loop = true; spot = looped_at (l + 1) k b 0; test = range_test o b (range_at k b) } ∷ placed_ranges (l + 1 + 1 + 1 + 1 + 1 + 1 + 1) (k + 1) (o + 1) bs
