use Rattle.std.proofs.Common.{◌∙◌, ap, sym, subst, Option, List, false}
use Rattle.wv_yaml.specs.declared.tree.Tree.{Tree}
use Rattle.yaml_scalars.specs.declared.token.Token.{Token}
use Rattle.yaml_lines.specs.Chunks.{◌>>=◌}
use Rattle.wv_yaml.specs.Flow.{flow}
use Rattle.yaml_scalars.specs.Tokens.{tokens}
use Rattle.yaml_scalars.specs.Gives.{Gives}
use Rattle.wv_yaml.proofs.KeySteps.{still_fails}
use Rattle.wv_yaml.proofs.inline.flow_text_of.Goals as goal

pub returns-in-Ok : goal.returns-in-Ok
returns-in-Ok c =
    let P : Option Tree → Type 0 = λ o. Gives (λ (t : Tree). t) c.flow_of.result o in
    subst P (ap (flow c.args.depth) c.as_slice.ensures.value ∙ sym (ap (λ (o : Option (List Token)). o >>= λ ts. flow c.args.depth ts) c.in-Ok.ensures)) c.flow_of.ensures

pub returns-in-Err : goal.returns-in-Err
returns-in-Err c = still_fails c.in-Err.fault (tokens false 0 c.args.text.now) (λ ts. flow c.args.depth ts) c.in-Err.ensures
