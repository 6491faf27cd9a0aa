use Rattle.std.proofs.Common.{◌≡◌, ◌+◌, false, ℕ, List, drop, codes, ap, sym, ◌∙◌}
use Rattle.std.specs.Str.{bytes_eq}
use Rattle.c_check.proofs.MainLaws.{number_behind, number_next}
use Rattle.c_check.proofs.main_function.number_of_main.Goals as goal

pub loop-function-preserved : goal.loop-function-preserved
loop-function-preserved c =
    let fs = c.args.functions.now in
    let i = c.loop-function.function-index in
    let f = c.function-item.result in
    let other : bytes_eq f.name (codes "main") ≡ false =
    ap (λ (s : List ℕ). bytes_eq s (codes "main")) (sym c.as_str.ensures) ∙ sym c.is_main.ensures ∙ c.if-is_main.false in
    ap (λ n. number_behind n (drop (i + 1) fs)) c.in_ok-number.ensures
    ∙ number_next fs i c.loop-function.number f c.loop-function-test.true c.function-item.is other
    ∙ c.loop-function.invariant
