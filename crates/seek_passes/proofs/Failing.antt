-- A violation completes all segments where it completes the last one.
use Rattle.std.proofs.Common.{◌≡◌, ℕ, suc, ◌+◌, ◌-◌, ◌<◌, Bool, true, false, not, ◌&&◌, ◌||◌, List, [], ◌∷◌, ◌++◌, length, map, take, drop, drop-cons, get_or, refl, sym, ◌∙◌, ap, ap₂, arith, Option}
use Rattle.std.proofs.lemmas.List.{length-map, map-append, take_all, take_more, length-take-le}
use Rattle.std.proofs.lemmas.List.Elements.{All-get_or}
use Rattle.c_core.specs.Tree.{Program}
use Rattle.c_core.specs.declared.number.Spot.{Spot}
use Rattle.c_meaning.specs.Cells.{Cell}
use Rattle.c_meaning.specs.declared.run.Event.{Event}
use Rattle.c_meaning.specs.declared.run.Event.TheVariants.{Fail}
use Rattle.circuits.specs.declared.net.Bit.{Bit}
use Rattle.circuits.specs.Net.{holds, Means, IsIn}
use Rattle.circuits.specs.Numbers.{AreIn}
use Rattle.seek_meaning.specs.Progress.{completes, completes_all, completes_from, stays}
use Rattle.sym_state.specs.declared.state.Sym.{Sym}
use Rattle.sym_state.specs.Standing.{stand}
use Rattle.way_match.specs.Passing.{passes, passes_any, is_assumption}
use Rattle.way_match.specs.Points.{Point, Assume, Target, Enter, Return, Branch, BoundSegment}
use Rattle.way_match.specs.View.{point_view, points_view, segment_view, each_segment_view}
use Rattle.way_match.specs.declared.point.BoundSegment.{BoundSegment as Segment}
use Rattle.way_match.specs.declared.point.Point.{Point as Waypoint}
use Rattle.seek_passes.specs.Telling.{Counts}
use Rattle.seek_passes.proofs.Several.{segments_length, segments_more}

nothing_more : (a b : Bool) → (b || (a && false)) ≡ b
nothing_more true true = refl
nothing_more true false = refl
nothing_more false true = refl
nothing_more false false = refl

yes_kept : (c : Bool) → c ≡ (c && true)
yes_kept true = refl
yes_kept false = refl

no_kept : (c : Bool) → false ≡ (c && false)
no_kept true = refl
no_kept false = refl

regrouped : (f b a : Bool) → (f && (b && not a)) ≡ ((f && not a) && b)
regrouped true true a = yes_kept (not a)
regrouped true false a = no_kept (not a)
regrouped false b a = refl

module _ (p : Program) (statement full : Spot) (call : Option Spot) (cells : List Cell) where
  abbrev violation : Event
  violation = Fail statement full call

  -- it passes no assumption, so what it has just completed doesn't count
  by_follow : (x : Point) (came assumes b : Bool) → (passes p x violation cells && (b || (assumes && (is_assumption x && came)))) ≡ (passes p x violation cells && b)
  by_follow (Assume spot test) came assumes b = refl
  by_follow (Target aim) came assumes b = ap (λ c. passes p (Target aim) violation cells && c) (nothing_more assumes b)
  by_follow (Enter close) came assumes b = refl
  by_follow (Return close test) came assumes b = refl
  by_follow (Branch spot way) came assumes b = refl

  -- the last segment decides
  last_decides : (came assumes : Bool) (ss : List BoundSegment) (s : BoundSegment) (bs : List Bool) (b : Bool) → length bs ≡ length ss
      → completes_from p violation cells came assumes (ss ++ s ∷ []) (bs ++ b ∷ []) ≡ ((passes p s.follow violation cells && not (passes_any p s.avoids violation cells)) && b)
  last_decides came assumes [] s [] b h = by_follow s.follow came assumes (stays p violation cells s b) ∙ regrouped (passes p s.follow violation cells) b (passes_any p s.avoids violation cells)
  last_decides came assumes [] s (c ∷ bs) b h = absurd (omega (arith, h))
  last_decides came assumes (t ∷ ss) s [] b h = absurd (omega (arith, h))
  last_decides came assumes (t ∷ ss) s (c ∷ bs) b h = last_decides (completes p violation cells came assumes t c) (is_assumption t.follow) ss s bs b (omega (arith, h))

-- ---- waypoints in turn
pub any_first : (p : Program) (E : Event) (cells : List Cell) (xs : List Waypoint) (i : ℕ) (x : Waypoint) → i < length xs → x ≡ get_or xs i x
    → passes_any p (points_view (drop i xs)) E cells ≡ (passes p (point_view x) E cells || passes_any p (points_view (drop (i + 1) xs)) E cells)
any_first p E cells xs i x lt e =
    let n : i + 1 ≡ suc i = omega arith in
    ap (λ ys. passes_any p (points_view ys) E cells) (drop-cons xs i x lt)
    ∙ ap (λ y. passes p (point_view y) E cells || passes_any p (points_view (drop (suc i) xs)) E cells) (sym e)
    ∙ ap (λ k. passes p (point_view x) E cells || passes_any p (points_view (drop k xs)) E cells) (sym n)

-- the one before n, and all before it
before_last : {A : Type 0} (xs : List A) (n : ℕ) (d : A) → length xs ≡ n → 0 < n → xs ≡ take (n - 1) xs ++ get_or xs (n - 1) d ∷ []
before_last xs n d h lt =
    let more : n - 1 + 1 ≡ n = omega (arith, lt) in
    sym (take_all n xs (omega (arith, h))) ∙ ap (λ k. take k xs) (sym more) ∙ take_more xs (n - 1) d (omega (arith, h, lt))

module _ (p : Program) (statement full : Spot) (call : Option Spot) (s : Sym) (ss : List Segment) (n : ℕ) (last : Segment) (same : length s.completed.items ≡ length ss) (many : n ≡ length ss) (some : 0 < n) (is_last : last ≡ get_or ss (n - 1) last) where
  -- the violation passes its follow and none of its avoids
  abbrev passed : List Cell → Bool
  passed cells = passes p (point_view last.follow) (Fail statement full call) cells && not (passes_any p (points_view last.avoids) (Fail statement full call) cells)

  decided : (d : Bit) (v : ℕ → Bool) (cells : List Cell)
      → completes_all p (each_segment_view ss) (Fail statement full call) cells (map (holds v s.net) s.completed.items) ≡ (passed cells && holds v s.net (get_or s.completed.items (n - 1) d))
  decided d v cells =
      let bits = s.completed.items in
      let lt : n - 1 < length ss = omega (arith, many, some) in
      let more : n - 1 + 1 ≡ n = omega (arith, some) in
      let front = each_segment_view (take (n - 1) ss) in
      let segments : each_segment_view ss ≡ front ++ segment_view last ∷ [] =
      ap each_segment_view (sym (take_all n ss (omega (arith, many)))) ∙ ap (λ k. each_segment_view (take k ss)) (sym more) ∙ segments_more ss (n - 1) last lt is_last in
      let before = map (holds v s.net) (take (n - 1) bits) in
      let values : map (holds v s.net) bits ≡ before ++ holds v s.net (get_or bits (n - 1) d) ∷ [] =
      ap (map (holds v s.net)) (before_last bits n d (same ∙ sym many) some) ∙ map-append (holds v s.net) (take (n - 1) bits) (get_or bits (n - 1) d ∷ []) in
      let level : length before ≡ length front =
      omega (arith, length-map (take (n - 1) bits) (holds v s.net), length-take-le (n - 1) bits (omega (arith, same, lt)), segments_length (take (n - 1) ss), length-take-le (n - 1) ss (omega (arith, lt))) in
      ap₂ (λ ts bs. completes_all p ts (Fail statement full call) cells bs) segments values ∙ last_decides p statement full call cells false false front (segment_view last) before (holds v s.net (get_or bits (n - 1) d)) level

  -- by whether it passes them, which no cell tells
  pub counts_where : (d : Bit) → AreIn s.net s.completed.items → ((cells : List Cell) → true ≡ passed cells) → Counts p (each_segment_view ss) statement full call s (get_or s.completed.items (n - 1) d)
  counts_where d inside all W h = record {
    inside = All-get_or (λ b. IsIn s.net b) s.completed.items (n - 1) d (omega (arith, same, many, some)) inside;
    is = λ v.
        let a = stand p v s in
        sym (h.counts (Fail statement full call) a.cells a.completed ∙ decided d v a.cells ∙ ap (λ b. b && holds v s.net (get_or s.completed.items (n - 1) d)) (sym (all a.cells)));
  }

  pub counts_nowhere : (r : Bit) → Means s.net r (λ v. false) → ((cells : List Cell) → false ≡ passed cells) → Counts p (each_segment_view ss) statement full call s r
  counts_nowhere r m none W h = record {
    inside = m.inside;
    is = λ v.
        let a = stand p v s in
        let d : Bit = record { node = 0; negated = false } in
        m.is v ∙ sym (h.counts (Fail statement full call) a.cells a.completed ∙ decided d v a.cells ∙ ap (λ b. b && holds v s.net (get_or s.completed.items (n - 1) d)) (sym (none a.cells)));
  }

-- there are no segments
pub none_counts : (p : Program) (statement full : Spot) (call : Option Spot) (s : Sym) (ss : List Segment) (r : Bit) → length ss ≡ 0 → Means s.net r (λ v. false) → Counts p (each_segment_view ss) statement full call s r
none_counts p statement full call s [] r h m = λ W g. record { inside = m.inside; is = λ v. m.is v ∙ sym (g.counts (Fail statement full call) (stand p v s).cells (stand p v s).completed) }
none_counts p statement full call s (t ∷ ss) r h m = absurd (omega (arith, h))
