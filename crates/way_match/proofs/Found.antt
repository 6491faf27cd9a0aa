-- What a matcher has after all events is exactly what matches.
use Rattle.c_core.specs.Tree.{Program}
use Rattle.c_core.specs.View.{program_view}
use Rattle.c_core.specs.declared.program.Program as declared
use Rattle.way_match.specs.View.{segments_view}
use Rattle.way_match.specs.declared.point.Bound.{Bound}
use Rattle.std.proofs.Common.{◌≡◌, ℕ, suc, ◌+◌, false, List, [], ◌∷◌, ◌++◌, length, replicate, Option, Some, None, slice_get, refl, sym, ◌∙◌, ap, subst, arith}
use Rattle.std.proofs.lemmas.List.{append-nil}
use Rattle.way_match.specs.Points.{BoundSegment}
use Rattle.way_match.specs.Passing.{is_assumption}
use Rattle.way_match.specs.Matching.{Seen, Matches, MatchesFrom, Finds}
use Rattle.way_match.specs.inside.Steps.{step, begun, after_all, last_way, onto, positions_of}
use Rattle.way_match.proofs.Ways.{next, assumed, Way, Right, Rights, steps}

none_yet : (pr : Program) (es : List Seen) (ss rs : List BoundSegment) (r : BoundSegment) → Right pr es 0 (r ∷ rs) ss None
none_yet pr es ss rs r [] l = absurd l.way
none_yet pr es ss rs r (q ∷ qs) l = absurd (omega (arith, l.within))

nones : (pr : Program) (es : List Seen) (ss rs : List BoundSegment) (r : BoundSegment) → Rights pr es 0 (r ∷ rs) ss (replicate (suc (length ss)) None)
nones pr es [] rs r = none_yet pr es [] rs r
nones pr es (s ∷ ss) rs r = (none_yet pr es (s ∷ ss) rs r, nones pr es ss (r ∷ rs) s)

pub starts : (pr : Program) (es : List Seen) (ss : List BoundSegment) → Rights pr es 0 [] ss (Some [] ∷ replicate (length ss) None)
starts pr es [] = record { way = tt; within = omega arith; idle = refl }
starts pr es (s ∷ ss) = (record { way = tt; within = omega arith; idle = λ j lo hi. absurd (omega arith) }, nones pr es ss [] s)

pub runs : (program : declared.Program) (bound : Bound) (es rest : List Seen) (n : ℕ) (ws : List (Option (List ℕ))) →
    ((j : ℕ) → slice_get es (n + j) ≡ slice_get rest j) → Rights (program_view program) es n [] (segments_view bound) ws →
    Rights (program_view program) es (n + length rest) [] (segments_view bound) (after_all (record { program = program; bound = bound; count = n; ways = ws }) rest).ways
runs program bound es [] n ws agree r = let z : n + 0 ≡ n = omega arith in subst (λ (k : ℕ). Rights (program_view program) es k [] (segments_view bound) ws) (sym z) r
runs program bound es (e ∷ rest) n ws agree r =
    let p = program_view program in
    let ss = segments_view bound in
    let z : n + 0 ≡ n = omega arith in
    let here : slice_get es n ≡ Some e = subst (λ (k : ℕ). slice_get es k ≡ Some e) z (agree 0) in
    let on : Rights p es (suc n) [] ss (step p e n None false ss ws) = steps p es n e here ss [] None ws (λ qs w. w) r in
    let c : suc n ≡ n + 1 = omega arith in
    let m : n + 1 + length rest ≡ n + suc (length rest) = omega arith in
    let later : (j : ℕ) → slice_get es (n + 1 + j) ≡ slice_get rest j = λ j.
    let k : n + suc j ≡ n + 1 + j = omega arith in subst (λ (i : ℕ). slice_get es i ≡ slice_get rest j) k (agree (suc j)) in
    subst (λ (k : ℕ). Rights p es k [] ss (after_all (record { program = program; bound = bound; count = n + 1; ways = step p e n None false ss ws }) rest).ways) m
    (runs program bound es rest (n + 1) (step p e n None false ss ws) later (subst (λ (k : ℕ). Rights p es k [] ss (step p e n None false ss ws)) c on))

pub at_end : (pr : Program) (es : List Seen) (n : ℕ) (ss rs : List BoundSegment) (ws : List (Option (List ℕ))) → Rights pr es n rs ss ws → Right pr es n (onto rs ss) [] (last_way ws)
at_end pr es n [] rs [] r = absurd r
at_end pr es n [] rs (w ∷ []) r = r
at_end pr es n [] rs (w ∷ v ∷ ws) r = absurd r
at_end pr es n (s ∷ ss) rs [] r = absurd r
at_end pr es n (s ∷ []) rs (w ∷ []) r = absurd r.1
at_end pr es n (s ∷ t ∷ ss) rs (w ∷ []) r = absurd r.1
at_end pr es n (s ∷ ss) rs (w ∷ v ∷ ws) r = at_end pr es n ss (s ∷ rs) (v ∷ ws) r.1

-- positions in order, and last first
folded : (pr : Program) (es : List Seen) (ss rs : List BoundSegment) (ps qs : List ℕ) → Way pr es rs qs →
    MatchesFrom pr (record { events = next qs; assumes = assumed rs }) ss es ps → Way pr es (onto rs ss) (onto qs ps) × (next (onto qs ps) ≡ length es)
folded pr es [] rs [] qs w m = (w, m)
folded pr es [] rs (p ∷ ps) qs w m = absurd m
folded pr es (s ∷ ss) rs [] qs w m = absurd m
folded pr es (s ∷ ss) rs (p ∷ ps) qs w m = folded pr es ss (s ∷ rs) ps (p ∷ qs) (m.0, m.1, m.2, w) m.3

pub record Split (pr : Program) (es : List Seen) (ss rs : List BoundSegment) (zs : List ℕ) : Type 0 where
  pub before : List ℕ
  pub later : List ℕ
  pub is : zs ≡ onto before later
  pub way : Way pr es rs before
  pub matches : MatchesFrom pr (record { events = next before; assumes = assumed rs }) ss es later

narrower : (pr : Program) (es : List Seen) (s : BoundSegment) (ss rs : List BoundSegment) (zs qs ps : List ℕ) → zs ≡ onto qs ps → Way pr es (s ∷ rs) qs →
    MatchesFrom pr (record { events = next qs; assumes = is_assumption s.follow }) ss es ps → Split pr es (s ∷ ss) rs zs
narrower pr es s ss rs zs [] ps e w m = absurd w
narrower pr es s ss rs zs (p ∷ qs) ps e w m = record { before = qs; later = p ∷ ps; is = e; way = w.3; matches = (w.0, w.1, w.2, m) }

split : (pr : Program) (es : List Seen) (ss rs : List BoundSegment) (zs : List ℕ) → Way pr es (onto rs ss) zs → next zs ≡ length es → Split pr es ss rs zs
split pr es [] rs zs w e = record { before = zs; later = []; is = refl; way = w; matches = e }
split pr es (s ∷ ss) rs zs w e = let t = split pr es ss (s ∷ rs) zs w e in narrower pr es s ss rs zs t.before t.later t.is t.way t.matches

onto_onto : (xs ys zs : List ℕ) → onto xs (onto ys zs) ≡ onto (zs ++ xs) ys
onto_onto xs ys [] = refl
onto_onto xs ys (z ∷ zs) = onto_onto xs (z ∷ ys) zs

in_order : (pr : Program) (es : List Seen) (ss : List BoundSegment) (zs qs ps : List ℕ) → zs ≡ onto qs ps → Way pr es [] qs →
    MatchesFrom pr (record { events = next qs; assumes = false }) ss es ps → Matches pr ss es (onto [] zs)
in_order pr es ss zs (q ∷ qs) ps e w m = absurd w
in_order pr es ss zs [] ps e w m =
    let o : onto [] zs ≡ ps = ap (onto []) e ∙ onto_onto [] [] ps ∙ append-nil ps in
    subst (λ (xs : List ℕ). Matches pr ss es xs) (sym o) m

answers : (pr : Program) (es : List Seen) (ss : List BoundSegment) (w : Option (List ℕ)) → Right pr es (length es) (onto [] ss) [] w → Finds pr ss es (positions_of w)
answers pr es ss (Some zs) r = let t = split pr es ss [] zs r.way r.idle in in_order pr es ss zs t.before t.later t.is t.way t.matches
answers pr es ss None r = λ ps m. let f = folded pr es ss [] ps [] tt m in
    r (onto [] ps) (record { way = f.0; within = omega (arith, f.1); idle = f.1 })

pub found : (program : declared.Program) (bound : Bound) (es : List Seen) →
    Finds (program_view program) (segments_view bound) es (positions_of (last_way (after_all (begun program bound) es).ways))
found program bound es =
    let p = program_view program in
    let ss = segments_view bound in
    let zero_is : (j : ℕ) → 0 + j ≡ j = λ j. omega arith in
    let r = runs program bound es es 0 (Some [] ∷ replicate (length ss) None) (λ j. ap (slice_get es) (zero_is j)) (starts p es ss) in
    let l = at_end p es (0 + length es) ss [] _ r in
    answers p es ss _ (subst (λ (k : ℕ). Right p es k (onto [] ss) [] (last_way (after_all (begun program bound) es).ways)) (zero_is (length es)) l)
