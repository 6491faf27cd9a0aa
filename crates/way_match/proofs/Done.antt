-- What a matcher hands out at the end.
use Rattle.c_core.specs.View.{program_view}
use Rattle.c_core.specs.declared.program.Program.{Program}
use Rattle.std.proofs.Common.{◌≡◌, ℕ, zero, suc, ◌+◌, ◌<◌, List, [], ◌∷◌, ◌++◌, length, take, get_or, Option, Some, None, refl, sym, ◌∙◌, ap, subst, arith}
use Rattle.way_match.specs.View.{segments_view}
use Rattle.way_match.specs.declared.point.Bound.{Bound}
use Rattle.way_match.specs.declared.states.Node.{Node}
use Rattle.way_match.specs.Matching.{Seen, Finds}
use Rattle.way_match.specs.inside.Steps.{Matching, begun, after_all, last_way, positions_of, onto}
use Rattle.way_match.specs.inside.Arena.{chain, Held, way_of, IsHeld, ways_of, AreHeld}
use Rattle.way_match.proofs.Found.{found}

last_is : (ns : List Node) (k : ℕ) (live : List (Option ℕ)) (n : ℕ) (d : Option ℕ) → length live ≡ n + 1 →
    last_way (ways_of ns k live) ≡ way_of ns (k + n) (get_or live n d)
last_is ns k [] n d h = absurd (omega arith)
last_is ns k (w ∷ []) zero d h = let z : k ≡ k + 0 = omega arith in ap (λ (j : ℕ). way_of ns j w) z
last_is ns k (w ∷ []) (suc n) d h = absurd (omega arith)
last_is ns k (w ∷ v ∷ ws) zero d h = absurd (omega arith)
last_is ns k (w ∷ v ∷ ws) (suc n) d h =
    let z : suc k + n ≡ k + suc n = omega arith in
    last_is ns (suc k) (v ∷ ws) n d (omega arith) ∙ ap (λ (j : ℕ). way_of ns j (get_or (v ∷ ws) n d)) z

last_of_ways : (ns : List Node) (live : List (Option ℕ)) (n : ℕ) (x : Option ℕ) → length live ≡ n + 1 → x ≡ get_or live n x →
    last_way (ways_of ns 0 live) ≡ way_of ns n x
last_of_ways ns live n x h e =
    let z : 0 + n ≡ n = omega arith in last_is ns 0 live n x h ∙ ap (λ (j : ℕ). way_of ns j (get_or live n x)) z ∙ ap (way_of ns n) (sym e)

held_at : (ns : List Node) (k : ℕ) (live : List (Option ℕ)) (n : ℕ) (d : Option ℕ) → n < length live → AreHeld ns k live → IsHeld ns (k + n) (get_or live n d)
held_at ns k [] n d lt h = absurd (omega arith)
held_at ns k (w ∷ ws) zero d lt h = let z : k ≡ k + 0 = omega arith in subst (λ (j : ℕ). IsHeld ns j w) z h.0
held_at ns k (w ∷ ws) (suc n) d lt h =
    let z : suc k + n ≡ k + suc n = omega arith in subst (λ (j : ℕ). IsHeld ns j (get_or ws n d)) z (held_at ns (suc k) ws n d (omega arith) h.1)

pub last_held : (ns : List Node) (live : List (Option ℕ)) (n last : ℕ) (x : Option ℕ) → length live ≡ n + 1 → AreHeld ns 0 live →
    x ≡ get_or live n x → x ≡ Some last → Held ns n last
last_held ns live n last x l h e f =
    let z : 0 + n ≡ n = omega arith in
    let g : IsHeld ns n (get_or live n x) = subst (λ (j : ℕ). IsHeld ns j (get_or live n x)) z (held_at ns 0 live n x (omega arith) h) in
    subst (λ (o : Option ℕ). IsHeld ns n o) (sym e ∙ f) g

pub answer_some : (ns : List Node) (live : List (Option ℕ)) (n last : ℕ) (x : Option ℕ) (ways : List (Option (List ℕ))) (room : List ℕ) →
    ways_of ns 0 live ≡ ways → length live ≡ n + 1 → x ≡ get_or live n x → x ≡ Some last → room ≡ onto [] (chain ns n last) → Some room ≡ positions_of (last_way ways)
answer_some ns live n last x ways room v l e f r =
    let w : last_way ways ≡ Some (chain ns n last) = ap last_way (sym v) ∙ last_of_ways ns live n x l e ∙ ap (way_of ns n) f in
    ap Some r ∙ ap positions_of (sym w)

pub answer_none : (ns : List Node) (live : List (Option ℕ)) (n : ℕ) (x : Option ℕ) (ways : List (Option (List ℕ))) →
    ways_of ns 0 live ≡ ways → length live ≡ n + 1 → x ≡ get_or live n x → x ≡ None → None ≡ positions_of (last_way ways)
answer_none ns live n x ways v l e f =
    let w : last_way ways ≡ None = ap last_way (sym v) ∙ last_of_ways ns live n x l e ∙ ap (way_of ns n) f in
    ap positions_of (sym w)

pub exact_of : (m : Matching) (r : Option (List ℕ)) → r ≡ positions_of (last_way m.ways) → (program : Program) (bound : Bound) (es : List Seen) →
    m ≡ after_all (begun program bound) es → Finds (program_view program) (segments_view bound) es r
exact_of m r e program bound es s =
    let o : r ≡ positions_of (last_way (after_all (begun program bound) es).ways) = e ∙ ap (λ (x : Matching). positions_of (last_way x.ways)) s in
    subst (λ (x : Option (List ℕ)). Finds (program_view program) (segments_view bound) es x) (sym o) (found program bound es)

take_front : (xs ys : List ℕ) (n : ℕ) → n ≡ length xs → take n (xs ++ ys) ≡ xs
take_front [] ys zero e = refl
take_front [] ys (suc n) e = absurd (omega arith)
take_front (x ∷ xs) ys zero e = absurd (omega arith)
take_front (x ∷ xs) ys (suc n) e = ap (λ (t : List ℕ). x ∷ t) (take_front xs ys n (omega arith))

pub whole_room : (r xs ys : List ℕ) (n : ℕ) → n ≡ length xs → r ≡ take n (xs ++ ys) → r ≡ xs
whole_room r xs ys n e h = h ∙ take_front xs ys n e
