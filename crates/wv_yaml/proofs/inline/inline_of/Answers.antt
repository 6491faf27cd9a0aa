use Rattle.std.proofs.Common.{◌∙◌, ap, sym, subst, Option, add-one}
use Rattle.std.proofs.lemmas.Bool.{cond-true}
use Rattle.std.specs.Str.{chars}
use Rattle.wv_yaml.specs.declared.tree.Tree.{Tree}
use Rattle.yaml_lines.specs.Lines.{joined}
use Rattle.wv_yaml.specs.Inline.{flow_text, begins_flow}
use Rattle.yaml_scalars.specs.Gives.{Gives}
use Rattle.wv_yaml.proofs.inline.inline_of.Goals as goal

pub returns-then-does_begin_flow : goal.returns-then-does_begin_flow
returns-then-does_begin_flow c =
    let P : Option Tree → Type 0 = λ o. Gives (λ (t : Tree). t) c.flow_text_of.result o in
    subst P (ap (flow_text c.args.depth) (c.in-Some.ensures ∙ ap (λ k. joined k (chars c.args.text.now) c.args.body.now) (add-one c.args.indent))
    ∙ sym (cond-true (begins_flow (chars c.args.text.now)) _ _ (sym c.does_begin_flow.ensures ∙ c.if-does_begin_flow.true))) c.flow_text_of.ensures
