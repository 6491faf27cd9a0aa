use Rattle.std.proofs.Common.{◌≡◌, ◌∙◌, ◌*◌, ◌-◌, ◌^◌, min, sym, ap, ap₂, arith}
use Rattle.sym_elements.proofs.Picked.{told_column, told_rows, few_told, many_told}
use Rattle.sym_elements.proofs.reading.told.Goals as goal

pub returns-then-digits-inner : goal.returns-then-digits-inner
returns-then-digits-inner c = c.numbers.ensures ∙ ap (λ n. min n (2 ^ 32 - 1)) (sym (told_column c.args.inner c.args.columns c.args.digits c.if-digits-inner.true))

pub returns-then-cells-from : goal.returns-then-cells-from
returns-then-cells-from c =
    ap₂ (λ a b. a * b) c.from.ensures c.from-2.ensures
    ∙ few_told c.args.columns c.numbers-2.result (2 ^ (c.args.digits - c.args.inner)) c.numbers-2.ensures (omega (arith, c.if-cells-from.true, c.from-3.ensures, ap₂ (λ a b. a * b) c.from.ensures c.from-2.ensures))
    ∙ ap (λ n. min n (2 ^ 32 - 1)) (sym (told_rows c.args.inner c.args.columns c.args.digits c.if-digits-inner.false))

pub returns : goal.returns
returns c =
    many_told c.args.columns c.numbers-2.result (2 ^ (c.args.digits - c.args.inner)) c.numbers-2.ensures (omega (arith, c.if-cells-from.false, c.from-3.ensures, ap₂ (λ a b. a * b) c.from.ensures c.from-2.ensures))
    ∙ ap (λ n. min n (2 ^ 32 - 1)) (sym (told_rows c.args.inner c.args.columns c.args.digits c.if-digits-inner.false))
