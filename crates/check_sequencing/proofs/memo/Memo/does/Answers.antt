use Rattle.std.proofs.Common.{◌≡◌, ℕ, sym, ap, ◌∙◌}
use Rattle.check_sequencing.specs.Effects.{is_marked}
use Rattle.check_sequencing.proofs.memo.Memo.does.Goals as goal

pub returns-in-Some-clause-told : goal.returns-in-Some-clause-told
returns-in-Some-clause-told c =
    let kept = c.requires c.args.object c.in-Some.marks.now (sym c.in-Some.ensures.value) in
    let same : c.is_marked.result ≡ is_marked c.in-Some.marks.now.items c.args.function =
    c.is_marked.ensures ∙ ap (λ marks. is_marked marks c.args.function) c.as_slice.ensures.value in
    (λ e. kept.sound c.args.function (sym same ∙ e), λ d. same ∙ kept.complete c.args.function d)
