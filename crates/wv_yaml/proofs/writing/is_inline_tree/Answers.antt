use Rattle.std.proofs.Common.{◌∙◌, ap, sym, nat_eq}
use Rattle.wv_yaml.specs.Canon.{is_inline}
use Rattle.wv_yaml.proofs.WriteSteps.{end_by, list_inline, map_inline}
use Rattle.wv_yaml.proofs.writing.is_inline_tree.Goals as goal

pub returns-in-List : goal.returns-in-List
returns-in-List c = end_by c.in-List.items (nat_eq c.len.result 0) (ap (λ n. nat_eq n 0) c.len.ensures) ∙ sym (list_inline c.in-List.items) ∙ ap is_inline (sym c.in-List.is)

pub returns-in-Map : goal.returns-in-Map
returns-in-Map c = end_by c.in-Map.pairs (nat_eq c.len-in-Map.result 0) (ap (λ n. nat_eq n 0) c.len-in-Map.ensures) ∙ sym (map_inline c.in-Map.pairs) ∙ ap is_inline (sym c.in-Map.is)
