use Rattle.std.proofs.Common.{◌++◌, ◌∙◌, ap, append_assoc, codes, decimal, string_bytes}
use Rattle.wv_report.specs.Report.{placed_kind}
use Rattle.wv_report.proofs.lines.add_obligation.Goals as goal

pub returns : goal.returns
returns c =
    c.in_ok-add_placed_kind.ensures ∙ ap (λ text. text ++ placed_kind c.args.duty) c.in_ok-write.ensures.bytes
    ∙ append_assoc (string_bytes c.args.out.now) (codes "obligation " ++ decimal c.args.index ++ codes " ") (placed_kind c.args.duty)
