-- What an event completes, one segment after the other.
use Rattle.std.proofs.Common.{◌≡◌, ◌+◌, ◌*◌, ◌≤◌, ◌<◌, ℕ, suc, Bool, true, false, cond, ◌||◌, List, [], ◌∷◌, ◌++◌, map, length, drop, drop-cons, take, get_or, append_assoc, append-nil, refl, sym, ap, ◌∙◌, subst, arith}
use Rattle.std.specs.List.{All, list_any}
use Rattle.std.proofs.lemmas.List.Elements.{All-append, All-cons, All-get_or, All-nil}
use Rattle.std.proofs.lemmas.List.Folds.{list_any-append}
use Rattle.std.proofs.lemmas.List.{at_drop_all, map-append, take_all, take_more}
use Rattle.circuits.specs.Net.{holds, opposite, Grown, Means, IsIn}
use Rattle.circuits.specs.declared.net.Bit.{Bit}
use Rattle.circuits.specs.declared.net.NetNode.{NetNode}
use Rattle.circuits.proofs.Nets.{grown_not, grown_then, opp, stays as holds_kept, wider}
use Rattle.seek_events.specs.Passed.{Passed, stays, completes, completed_from, completes_from}
use Rattle.seek_events.specs.Events.{AreAfter, IsAll, IsCompletion, IsHere, IsMoved, passed_in, values_in}
use Rattle.seek_events.specs.declared.segment.Passing.{Passing}
use Rattle.seek_events.specs.declared.segment.Moved.{Moved}
use Rattle.seek_events.proofs.Bits.{all_later, or_false, passed_kept, values_kept}

-- what the whole comes to under an input, where the run is here or elsewhere
abbrev pub whole_after : List NetNode → Bit → List Passing → List Bit → (ℕ → Bool) → List Bool
whole_after old here xs bits v =
    cond (holds v old here) (completed_from false false (map (passed_in old v) xs) (values_in old v bits)) (values_in old v bits)

-- some segments are done (out); with those that are left (xs, bits) it becomes what the whole gives
pub record IsSoFar (old new : List NetNode) (here : Bit) (xs : List Passing) (bits out : List Bit) (came : Bit) (assumes : Bool) (most : ℕ) (whole : (ℕ → Bool) → List Bool) : Type 0 where
  pub grown : Grown most old new
  pub came_in : IsIn new came
  pub out_in : All (IsIn new) out
  pub is : (v : ℕ → Bool) → values_in new v out
      ++ cond (holds v old here) (completed_from (holds v new came) assumes (map (passed_in old v) xs) (values_in old v bits)) (values_in old v bits)
      ≡ whole v

one_more : (h came assumes : Bool) (x : Passed) (b r next : Bool) (xs : List Passed) (bs front : List Bool) → r ≡ cond h (stays x b || came) b → next ≡ completes came assumes x b
    → (front ++ r ∷ []) ++ cond h (completed_from next x.assumes xs bs) bs ≡ front ++ cond h (completed_from came assumes (x ∷ xs) (b ∷ bs)) (b ∷ bs)
one_more true came assumes x b r next xs bs front e f =
    append_assoc front (r ∷ []) (completed_from next x.assumes xs bs)
    ∙ ap (λ y. front ++ y ∷ completed_from next x.assumes xs bs) e
    ∙ ap (λ n. front ++ (stays x b || came) ∷ completed_from n x.assumes xs bs) f
one_more false came assumes x b r next xs bs front e f = append_assoc front (r ∷ []) bs ∙ ap (λ y. front ++ y ∷ bs) e

module _ (old new next : List NetNode) (here came : Bit) (assumes : Bool) (x : Passing) (b : Bit) (most : ℕ) (g : Grown most old new) (here_in : IsIn old here) (x_in : IsHere old x) (b_in : IsIn old b) where
  -- one segment more
  pub so_far_on : (r : Moved) (xs : List Passing) (bits out : List Bit) (whole : (ℕ → Bool) → List Bool) → IsMoved new next here came assumes x b r
      → IsSoFar old new here (x ∷ xs) (b ∷ bits) out came assumes most whole → IsSoFar old next here xs bits (out ++ r.completed ∷ []) r.came x.assumes (most + 8) whole
  so_far_on r xs bits out whole s h = record {
    grown = grown_then most 8 (most + 8) old new next g s.grown (omega arith);
    came_in = s.passed.inside;
    out_in = All-append (IsIn next) out (r.completed ∷ []) (all_later out s.grown h.out_in) (All-cons (IsIn next) r.completed [] s.completed.inside (All-nil (IsIn next)));
    is = λ v.
        let completed : holds v next r.completed ≡ cond (holds v old here) (stays (passed_in old v x) (holds v old b) || holds v new came) (holds v old b) =
        s.completed.is v
        ∙ ap (λ t. cond t (stays (passed_in new v x) (holds v new b) || holds v new came) (holds v new b)) (holds_kept v most old new here g here_in)
        ∙ ap (λ y. cond (holds v old here) (stays y (holds v new b) || holds v new came) (holds v new b)) (passed_kept v x g x_in)
        ∙ ap (λ y. cond (holds v old here) (stays (passed_in old v x) y || holds v new came) y) (holds_kept v most old new b g b_in) in
        let passes : holds v next r.came ≡ completes (holds v new came) assumes (passed_in old v x) (holds v old b) =
        s.passed.is v ∙ ap (λ y. completes (holds v new came) assumes y (holds v new b)) (passed_kept v x g x_in)
        ∙ ap (λ y. completes (holds v new came) assumes (passed_in old v x) y) (holds_kept v most old new b g b_in) in
        let front : values_in next v (out ++ r.completed ∷ []) ≡ values_in new v out ++ holds v next r.completed ∷ [] =
        map-append (holds v next) out (r.completed ∷ []) ∙ ap (λ ys. ys ++ holds v next r.completed ∷ []) (values_kept v out s.grown h.out_in) in
        let after = cond (holds v old here) (completed_from (holds v next r.came) x.assumes (map (passed_in old v) xs) (values_in old v bits)) (values_in old v bits) in
        ap (λ ys. ys ++ after) front
        ∙ one_more (holds v old here) (holds v new came) assumes (passed_in old v x) (holds v old b) (holds v next r.completed) (holds v next r.came) (map (passed_in old v) xs) (values_in old v bits) (values_in new v out) completed passes
        ∙ h.is v;
  }

module _ (old new next : List NetNode) (came : Bit) (assumes : Bool) (x : Passing) (b : Bit) (most : ℕ) (g : Grown most old new) (x_in : IsHere old x) (b_in : IsIn old b) where
  -- one segment more at a violation
  pub all_on : (r : Bit) (xs : List Passing) (bits : List Bit) (whole : (ℕ → Bool) → Bool) → IsCompletion new next came assumes x b r
      → ((v : ℕ → Bool) → completes_from (holds v new came) assumes (map (passed_in old v) (x ∷ xs)) (values_in old v (b ∷ bits)) ≡ whole v)
      → (v : ℕ → Bool) → completes_from (holds v next r) x.assumes (map (passed_in old v) xs) (values_in old v bits) ≡ whole v
  all_on r xs bits whole s h = λ v.
      let passes : holds v next r ≡ completes (holds v new came) assumes (passed_in old v x) (holds v old b) =
      s.value.is v ∙ ap (λ y. completes (holds v new came) assumes y (holds v new b)) (passed_kept v x g x_in)
      ∙ ap (λ y. completes (holds v new came) assumes (passed_in old v x) y) (holds_kept v most old new b g b_in) in
      ap (λ n. completes_from n x.assumes (map (passed_in old v) xs) (values_in old v bits)) passes ∙ h v

-- before all segments
pub so_far_none : (net : List NetNode) (here always came : Bit) (xs : List Passing) (bits : List Bit) → Means net always (λ v. true) → came ≡ opposite always → IsSoFar net net here xs bits [] came false 0 (whole_after net here xs bits)
so_far_none net here always came xs bits m e =
    let c : Means net came (λ v. false) = opp e m in
    record {
      grown = grown_not 0 net;
      came_in = c.inside;
      out_in = All-nil (IsIn net);
      is = λ v. ap (λ n. cond (holds v net here) (completed_from n false (map (passed_in net v) xs) (values_in net v bits)) (values_in net v bits)) (c.is v);
    }

-- the one at an index
pub so_far_next : (old mid next : List NetNode) (here came : Bit) (assumes : Bool) (xs : List Passing) (bits out : List Bit) (d : Passing) (e : Bit) (i : ℕ) (r : Moved) (whole : (ℕ → Bool) → List Bool)
    → IsMoved mid next here came assumes (get_or xs i d) (get_or bits i e) r → IsSoFar old mid here (drop i xs) (drop i bits) out came assumes (8 * i) whole
    → IsIn old here → All (IsHere old) xs → All (IsIn old) bits → i < length xs → length bits ≡ length xs
    → IsSoFar old next here (drop (i + 1) xs) (drop (i + 1) bits) (out ++ r.completed ∷ []) r.came (get_or xs i d).assumes (8 * (i + 1)) whole
so_far_next old mid next here came assumes xs bits out d e i r whole s h here_in xs_in bits_in lt same =
    let lt' : i < length bits = omega arith in
    let n : i + 1 ≡ suc i = omega arith in
    let more : 8 * i + 8 ≡ 8 * (i + 1) = omega arith in
    let before : IsSoFar old mid here (get_or xs i d ∷ drop (suc i) xs) (get_or bits i e ∷ drop (suc i) bits) out came assumes (8 * i) whole =
    subst (λ ys. IsSoFar old mid here ys (get_or bits i e ∷ drop (suc i) bits) out came assumes (8 * i) whole) (drop-cons xs i d lt)
    (subst (λ bs. IsSoFar old mid here (drop i xs) bs out came assumes (8 * i) whole) (drop-cons bits i e lt') h) in
    subst (λ k. IsSoFar old next here (drop (i + 1) xs) (drop (i + 1) bits) (out ++ r.completed ∷ []) r.came (get_or xs i d).assumes k whole) more
    (subst (λ j. IsSoFar old next here (drop j xs) (drop j bits) (out ++ r.completed ∷ []) r.came (get_or xs i d).assumes (8 * i + 8) whole) (sym n)
    (so_far_on old mid next here came assumes (get_or xs i d) (get_or bits i e) (8 * i) h.grown here_in (All-get_or (IsHere old) xs i d lt xs_in) (All-get_or (IsIn old) bits i e lt' bits_in)
    r (drop (suc i) xs) (drop (suc i) bits) out whole s before))

nothing_left : (h : Bool) → ◌≡◌ {A = List Bool} (cond h [] []) []
nothing_left true = refl
nothing_left false = refl

-- after all segments
pub so_far_end : (old new : List NetNode) (here came : Bit) (assumes : Bool) (xs : List Passing) (bits out : List Bit) (i : ℕ)
    → IsSoFar old new here (drop i xs) (drop i bits) out came assumes (8 * i) (whole_after old here xs bits) → length xs ≤ i → i ≤ length xs → length bits ≡ length xs
    → AreAfter old new here xs bits out
so_far_end old new here came assumes xs bits out i h le ge same =
    let le' : length bits ≤ i = omega arith in
    record {
      grown = wider h.grown (omega arith);
      inside = h.out_in;
      values = λ v.
          let left = λ (ps : List Passed) (bs : List Bool). values_in new v out ++ cond (holds v old here) (completed_from (holds v new came) assumes ps bs) bs in
          sym (append-nil (values_in new v out))
          ∙ sym (ap (λ ys. values_in new v out ++ ys) (nothing_left (holds v old here)))
          ∙ sym (at_drop_all (λ bs. left [] (values_in old v bs)) bits i le')
          ∙ sym (at_drop_all (λ ys. left (map (passed_in old v) ys) (values_in old v (drop i bits))) xs i le)
          ∙ h.is v;
    }

-- some segments are completed by a violation; with those that are left it completes what the whole does
pub record IsAllSoFar (old new : List NetNode) (xs : List Passing) (bits : List Bit) (came : Bit) (assumes : Bool) (most : ℕ) (whole : (ℕ → Bool) → Bool) : Type 0 where
  pub grown : Grown most old new
  pub came_in : IsIn new came
  pub is : (v : ℕ → Bool) → completes_from (holds v new came) assumes (map (passed_in old v) xs) (values_in old v bits) ≡ whole v

abbrev pub whole_all : List NetNode → List Passing → List Bit → (ℕ → Bool) → Bool
whole_all old xs bits v = completes_from false false (map (passed_in old v) xs) (values_in old v bits)

pub all_none : (net : List NetNode) (always came : Bit) (xs : List Passing) (bits : List Bit) → Means net always (λ v. true) → came ≡ opposite always → IsAllSoFar net net xs bits came false 0 (whole_all net xs bits)
all_none net always came xs bits m e =
    let c : Means net came (λ v. false) = opp e m in
    record {
      grown = grown_not 0 net;
      came_in = c.inside;
      is = λ v. ap (λ n. completes_from n false (map (passed_in net v) xs) (values_in net v bits)) (c.is v);
    }

pub all_next : (old mid next : List NetNode) (came : Bit) (assumes : Bool) (xs : List Passing) (bits : List Bit) (d : Passing) (e : Bit) (i : ℕ) (r : Bit) (whole : (ℕ → Bool) → Bool)
    → IsCompletion mid next came assumes (get_or xs i d) (get_or bits i e) r → IsAllSoFar old mid (drop i xs) (drop i bits) came assumes (3 * i) whole
    → All (IsHere old) xs → All (IsIn old) bits → i < length xs → length bits ≡ length xs
    → IsAllSoFar old next (drop (i + 1) xs) (drop (i + 1) bits) r (get_or xs i d).assumes (3 * (i + 1)) whole
all_next old mid next came assumes xs bits d e i r whole s h xs_in bits_in lt same =
    let lt' : i < length bits = omega arith in
    let n : i + 1 ≡ suc i = omega arith in
    let before : (v : ℕ → Bool) → completes_from (holds v mid came) assumes (map (passed_in old v) (get_or xs i d ∷ drop (suc i) xs)) (values_in old v (get_or bits i e ∷ drop (suc i) bits)) ≡ whole v =
    subst (λ ys. (v : ℕ → Bool) → completes_from (holds v mid came) assumes (map (passed_in old v) ys) (values_in old v (get_or bits i e ∷ drop (suc i) bits)) ≡ whole v) (drop-cons xs i d lt)
    (subst (λ bs. (v : ℕ → Bool) → completes_from (holds v mid came) assumes (map (passed_in old v) (drop i xs)) (values_in old v bs) ≡ whole v) (drop-cons bits i e lt') h.is) in
    record {
      grown = grown_then (3 * i) 3 (3 * (i + 1)) old mid next h.grown s.grown (omega arith);
      came_in = s.value.inside;
      is = subst (λ j. (v : ℕ → Bool) → completes_from (holds v next r) (get_or xs i d).assumes (map (passed_in old v) (drop j xs)) (values_in old v (drop j bits)) ≡ whole v) (sym n)
          (all_on old mid next came assumes (get_or xs i d) (get_or bits i e) (3 * i) h.grown (All-get_or (IsHere old) xs i d lt xs_in) (All-get_or (IsIn old) bits i e lt' bits_in)
          r (drop (suc i) xs) (drop (suc i) bits) whole s before);
    }

pub all_end : (old new : List NetNode) (came : Bit) (assumes : Bool) (xs : List Passing) (bits : List Bit) (i : ℕ)
    → IsAllSoFar old new (drop i xs) (drop i bits) came assumes (3 * i) (whole_all old xs bits) → length xs ≤ i → i ≤ length xs → length bits ≡ length xs → IsAll old new xs bits came
all_end old new came assumes xs bits i h le ge same =
    let le' : length bits ≤ i = omega arith in
    record {
      grown = wider h.grown (omega arith);
      value = record {
        inside = h.came_in;
        is = λ v.
            sym (at_drop_all (λ bs. completes_from (holds v new came) assumes [] (values_in old v bs)) bits i le')
            ∙ sym (at_drop_all (λ ys. completes_from (holds v new came) assumes (map (passed_in old v) ys) (values_in old v (drop i bits))) xs i le)
            ∙ h.is v;
      };
    }

-- some of these bits are true
pub record IsSome (old new : List NetNode) (bits : List Bit) (some : Bit) (most : ℕ) : Type 0 where
  pub grown : Grown most old new
  pub value : Means new some (λ v. list_any (holds v old) bits)

pub some_none : (net : List NetNode) (always some : Bit) → Means net always (λ v. true) → some ≡ opposite always → IsSome net net [] some 0
some_none net always some m e = record { grown = grown_not 0 net; value = opp e m }

one_of : (p : Bit → Bool) (xs : List Bit) (x : Bit) → (list_any p xs || p x) ≡ list_any p (xs ++ x ∷ [])
one_of p xs x = sym (list_any-append p xs (x ∷ []) ∙ ap (λ b. list_any p xs || b) (sym (or_false (p x))))

pub some_next : (old mid new : List NetNode) (some next : Bit) (bits : List Bit) (d : Bit) (i : ℕ) → IsSome old mid (take i bits) some i → Grown 1 mid new → Means new next (λ v. holds v mid some || holds v mid (get_or bits i d))
    → All (IsIn old) bits → i < length bits → IsSome old new (take (i + 1) bits) next (i + 1)
some_next old mid new some next bits d i h g m bits_in lt =
    let x = get_or bits i d in
    let x_in : IsIn old x = All-get_or (IsIn old) bits i d lt bits_in in
    subst (λ bs. IsSome old new bs next (i + 1)) (sym (take_more bits i d lt)) (record {
      grown = grown_then i 1 (i + 1) old mid new h.grown g (omega arith);
      value = record {
        inside = m.inside;
        is = λ v. m.is v ∙ ap (λ b. b || holds v mid x) (h.value.is v) ∙ ap (λ b. list_any (holds v old) (take i bits) || b) (holds_kept v i old mid x h.grown x_in) ∙ one_of (holds v old) (take i bits) x;
      };
    })

pub some_end : (old new : List NetNode) (some : Bit) (bits : List Bit) (i : ℕ) → IsSome old new (take i bits) some i → length bits ≤ i → IsSome old new bits some i
some_end old new some bits i h le = subst (λ bs. IsSome old new bs some i) (take_all i bits le) h
