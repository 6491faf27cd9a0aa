use Rattle.std.proofs.Common.{◌≡◌, ◌∙◌, sym, ap, subst, ◌++◌, false}
use Rattle.wv_yaml.specs.Canon.{form, canon}
use Rattle.wv_yaml.specs.Document.{Spelled}
use Rattle.wv_yaml.proofs.CanonLaws.{canonical_spelled}
use Rattle.wv_yaml.proofs.writing.write.Goals as goal

pub returns : goal.returns
unfolding canon
returns c =
    let text : c.into_bytes.result.items ≡ canon c.args.tree.now =
    ap (λ v. v.items) c.into_bytes.ensures.value ∙ c.in_ok-write_value.ensures.text ∙ ap (λ xs. xs ++ form 0 false c.args.tree.now) c.new-out.ensures.bytes in
    record { text = text; spelled = subst (Spelled c.args.tree.now) (sym text) (canonical_spelled c.args.tree.now c.requires.collection c.requires.fits c.in_ok-write_value.ensures.utf8) }
