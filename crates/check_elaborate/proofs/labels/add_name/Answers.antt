use Rattle.std.proofs.Common.{ap, is_some, ◌∙◌}
use Rattle.std.specs.BTreeMap.{get_by}
use Rattle.std.specs.Ordering.{nat_cmp}
use Rattle.std.specs.Cmp.Lexicographic.{slice_cmp}
use Rattle.std.proofs.lemmas.Map.Text.{btree_map_updates_str}
use Rattle.check_elaborate.proofs.LabelLaws.{name_put}
use Rattle.check_elaborate.proofs.labels.add_name.Goals as goal

pub returns : goal.returns
returns c = λ w.
    ap is_some (btree_map_updates_str c.args.name.now c.args.names.now c.insert.new.self _ c.in_ok-insert.ensures.updates w)
    ∙ name_put c.args.name.now w (get_by (λ k. slice_cmp nat_cmp w k.now) c.args.names.now)
