use Rattle.std.proofs.Common.{◌∙◌, ◌+◌, ◌≡◌, ap, sym, Some, drop, arith}
use Rattle.std.proofs.lemmas.List.{drop-drop}
use Rattle.wv_yaml.specs.Inline.{named}
use Rattle.wv_yaml.proofs.KeySteps.{key_quote}
use Rattle.wv_yaml.proofs.inline.key_of.Goals as goal

pub returns-then-is_quoted_start-clause-value : goal.returns-then-is_quoted_start-clause-value
returns-then-is_quoted_start-clause-value c =
    let text = c.args.text.now in
    let count = c.in_ok-name.count in
    let n : 1 + count ≡ count + 1 = omega arith in
    ap named (key_quote text c.rest.result c.does_begin_with-is_double.result (sym c.is_quoted_start.ensures ∙ c.if-is_quoted_start.true) c.does_begin_with-is_double.ensures c.rest.ensures.value)
    ∙ c.in_ok-name.ensures.value ∙ ap (λ xs. Some (c.in_ok-name.name, xs)) (ap (drop count) c.rest.ensures.value ∙ drop-drop count 1 text ∙ ap (λ k. drop k text) n)
