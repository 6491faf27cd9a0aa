-- How many waypoints segments hold.
use Rattle.std.proofs.Common.{◌≡◌, ◌∙◌, ◌+◌, ◌<◌, ◌≤◌, ◌^◌, ℕ, List, [], ◌∷◌, drop, length, refl, ap, ap₂, arith}
use Rattle.std.proofs.lemmas.List.{drop_all, length-append}
use Rattle.wv_schema.specs.declared.witness.Segment.{Segment}
use Rattle.way_bind.specs.Binding.{waypoints_in, waypoints_of}

abbrev pub count_in : List Segment → ℕ
count_in [] = 0
count_in (s ∷ ss) = length s.avoids + 1 + count_in ss

pub counted : (ss : List Segment) → length (waypoints_in ss) ≡ count_in ss
counted [] = refl
counted (s ∷ ss) = length-append (waypoints_of s) (waypoints_in ss) ∙ ap₂ (λ a b. a + b) (length-append s.avoids (s.follow ∷ [])) (counted ss)

-- segments whose waypoints all had room
pub few : (n room : ℕ) (ss : List Segment) → room + count_in ss ≡ 1073741823 + count_in (drop n ss) → length ss ≤ n → length (waypoints_in ss) < 2 ^ 30
few n room ss kept past =
    let rest : count_in (drop n ss) ≡ 0 = ap count_in (drop_all n ss past) in
    rw (counted ss) (omega (arith, kept, rest))
