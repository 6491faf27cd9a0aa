-- Where the first line of a text ends.
use Rattle.std.proofs.Common.{◌≡◌, ◌==◌, ◌∙◌, ◌≤◌, not, ℕ, List, Bool, true, false, cond, nat_lt, length, take, Option, Some, None, refl, ap, arith}
use Rattle.std.specs.Prelude.{unwrap_or}
use Rattle.std.specs.List.{position_or_len}
use Rattle.std.proofs.lemmas.Bool.Decides.{nat_tests}
use Rattle.std.proofs.lemmas.List.Sums.{prefix_len-le-length}
use Rattle.witval.specs.Demos.{first_line}

-- a line feed's index, or the length where there is none
ends : (p n : ℕ) (b : Bool) → nat_lt p n ≡ b → p ≤ n → unwrap_or (cond b (Some p) None) n ≡ p
ends p n true e low = refl
ends p n false e low = at_end p n e low
  where
    at_end : (p n : ℕ) → nat_lt p n ≡ false → p ≤ n → n ≡ p
    at_end p n e low = grind (arith, nat_tests)

pub cut_at : (report : List ℕ) (found : Option ℕ) (end : ℕ) → found ≡ cond (nat_lt (position_or_len (λ b. b == 10) report) (length report)) (Some (position_or_len (λ b. b == 10) report)) None →
    end ≡ unwrap_or found (length report) → take end report ≡ first_line report
cut_at report found end is e =
    let p : ℕ = position_or_len (λ b. b == 10) report in
    ap (λ i. take i report) (e ∙ ap (λ o. unwrap_or o (length report)) is ∙ ends p (length report) (nat_lt p (length report)) refl (prefix_len-le-length (λ b. not (b == 10)) report))
