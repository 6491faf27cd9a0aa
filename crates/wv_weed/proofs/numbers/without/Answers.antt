use Rattle.std.proofs.Common.{rules, arith, sym, ap, subst, ◌≡◌, ℕ, List, false, true, length, drop, get_or, ◌<◌, ◌+◌, ◌++◌, [], ◌∷◌}
use Rattle.wv_weed.specs.Numbers.{unflagged}
use Rattle.wv_weed.proofs.Copied.{one_more_left, one_passed_over}
use Rattle.wv_weed.proofs.numbers.without.Goals as goal
use Rattle.wv_weed.proofs.numbers.without.Goals.{then-not-flags-at+in_ok-push, else-not-flags-at}

pub loop-at-preserved : goal.loop-at-preserved
loop-at-preserved c =
    let ns = c.args.numbers.now in
    let all = c.as_slice-all.result.now in
    let i = c.loop-at.at in
    let same : all ≡ ns = search rules in
    let lt : i < length ns = subst (λ (xs : List ℕ). i < length xs) same c.loop-at-test.true in
    let within : i < length c.args.flags.now = omega (arith, c.requires, lt) in
    elim c.if-not-flags-at.branch [
      | then-not-flags-at+in_ok-push w ↦
          let off : get_or c.args.flags.now i false ≡ false = search rules in
          let pushed : c.if-not-flags-at.others ≡ c.loop-at.others ++ get_or all i 0 ∷ [] = search rules in
          one_more_left c.args.flags.now ns c.loop-at.others c.if-not-flags-at.others i (get_or all i 0) lt within off
          (ap (λ (xs : List ℕ). get_or xs i 0) same) pushed c.loop-at.invariant
      | else-not-flags-at w ↦
          let on : get_or c.args.flags.now i false ≡ true = search rules in
          let stays : c.if-not-flags-at.others ≡ c.loop-at.others = search rules in
          let rest = unflagged (drop (i + 1) c.args.flags.now) (drop (i + 1) ns) in
          subst (λ (xs : List ℕ). xs ++ rest ≡ unflagged c.args.flags.now ns) (sym stays)
          (one_passed_over c.args.flags.now ns c.loop-at.others i lt within on c.loop-at.invariant)
    ]
