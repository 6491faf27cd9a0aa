use Rattle.std.proofs.Common.{◌≡◌, ◌∙◌, ap, sym, subst, Option}
use Rattle.std.specs.Str.{chars}
use Rattle.wv_yaml.specs.declared.tree.Tree.{Tree}
use Rattle.yaml_lines.specs.Lines.{allowed, unmarked}
use Rattle.wv_yaml.specs.Document.{tree_of}
use Rattle.yaml_scalars.specs.Gives.{Fails}
use Rattle.wv_yaml.proofs.ReadSteps.{reads_on, reads_not, tree_by}
use Rattle.wv_yaml.proofs.reading.read_text.Goals as goal

pub returns-in-Ok : goal.returns-in-Ok
returns-in-Ok c =
    let cs : chars c.without_mark-unmarked.result.now ≡ unmarked (chars c.args.text.now) = c.without_mark-unmarked.ensures in
    reads_on _ _ c.in-Ok.tree _ (sym (ap allowed cs) ∙ (sym c.are_allowed.ensures ∙ c.if-not-are_allowed.false)) (sym (tree_by c.args.text.now _ cs) ∙ c.in-Ok.ensures) c.without_repeats.ensures

pub returns-in-Err : goal.returns-in-Err
returns-in-Err c =
    let cs : chars c.without_mark-unmarked.result.now ≡ unmarked (chars c.args.text.now) = c.without_mark-unmarked.ensures in
    let P : Option Tree → Type 0 = λ o. Fails c.in-Err.fault o in
    reads_not _ (tree_of c.args.text.now) c.in-Err.fault (sym (ap allowed cs) ∙ (sym c.are_allowed.ensures ∙ c.if-not-are_allowed.false)) (subst P (tree_by c.args.text.now _ cs) c.in-Err.ensures)
