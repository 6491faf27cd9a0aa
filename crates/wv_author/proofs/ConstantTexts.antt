-- The texts of values, by their signs and sizes.
use Rattle.std.proofs.Common.{◌≡◌, ℕ, ℤ, pos, negsuc, suc, ◌-◌, ◌<◌, ◌≤◌, ◌^◌, ◌<ℤ◌, ◌≤ℤ◌, true, false, cond, ltb, List, [], ◌++◌, codes, decimal, append_assoc, arith, refl, sym, ap, ◌∙◌}
use Rattle.std.specs.Fmt.{signed_decimal}
use Rattle.std.specs.Str.{chars}
use Rattle.std.proofs.lemmas.List.{append-nil}
use Rattle.std.proofs.lemmas.Bool.{le-ltb, lt-ltb}
use Rattle.std.proofs.lemmas.Int.{ints}
use lib.Utf8.{encode}
use Rattle.wv_author.specs.Authored.{result_text}

below : (m n : ℕ) → m < n → ltb m n ≡ true
below m n h = lt-ltb m n h

not_below : (m n : ℕ) → n ≤ m → ltb m n ≡ false
not_below m n h = le-ltb m n h

-- what every such text begins with
abbrev after_equals : List ℕ → List ℕ
after_equals text = codes "\\result == " ++ text

least_joined : after_equals (codes "-9223372036854775807 - 1") ≡ codes "\\result == -9223372036854775807 - 1"
unfolding encode chars
least_joined = refl

minus_first : (n : ℕ) → codes "-" ++ decimal (suc n) ≡ signed_decimal (negsuc n)
unfolding encode chars
minus_first n = refl

pub least_text : (v : ℤ) → v <ℤ negsuc 9223372036854775806 → codes "\\result == -9223372036854775807 - 1" ≡ result_text v
unfolding result_text
least_text (pos n) h = absurd (omega (arith, ints))
least_text (negsuc n) h =
    let large : 9223372036854775807 ≤ n = omega (arith, ints) in
    sym least_joined ∙ ap (λ b. after_equals (cond b (codes "-" ++ decimal (suc n)) (codes "-9223372036854775807 - 1"))) (sym (not_below n (2 ^ 63 - 1) large))

pub signed_text : (v : ℤ) → negsuc 9223372036854775806 ≤ℤ v → v ≤ℤ pos 9223372036854775807 → codes "\\result == " ++ signed_decimal v ≡ result_text v
unfolding result_text
signed_text (pos n) h k =
    let small : n < 2 ^ 63 = omega (arith, ints) in
    ap after_equals (sym (append-nil (decimal n)) ∙ ap (λ b. decimal n ++ cond b [] (codes "ULL")) (sym (below n (2 ^ 63) small)))
signed_text (negsuc n) h k =
    let small : n < 2 ^ 63 - 1 = omega (arith, ints) in
    ap after_equals (sym (minus_first n) ∙ ap (λ b. cond b (codes "-" ++ decimal (suc n)) (codes "-9223372036854775807 - 1")) (sym (below n (2 ^ 63 - 1) small)))

pub unsigned_text : (v : ℤ) → pos 9223372036854775807 <ℤ v → codes "\\result == " ++ signed_decimal v ++ codes "ULL" ≡ result_text v
unfolding result_text
unsigned_text (pos n) h =
    let large : 2 ^ 63 ≤ n = omega (arith, ints) in
    append_assoc (codes "\\result == ") (decimal n) (codes "ULL") ∙ ap (λ b. after_equals (decimal n ++ cond b [] (codes "ULL"))) (sym (not_below n (2 ^ 63) large))
unsigned_text (negsuc n) h = absurd (omega (arith, ints))
