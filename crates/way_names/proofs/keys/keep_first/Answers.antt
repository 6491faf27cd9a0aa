use Rattle.std.proofs.Common.{sym, ap, ◌∙◌}
use Rattle.std.specs.Option.{unwrap_or}
use Rattle.std.specs.Str.{bytes_eq}
use Rattle.std.proofs.lemmas.Map.Text.{btree_map_updates_str}
use Rattle.std.proofs.lemmas.Slice.Eq.{bytes_eq-Decides}
use Rattle.way_names.specs.Keys.{number_in}
use Rattle.way_names.proofs.KeyLaws.{first_is, kept_by}
use Rattle.way_names.proofs.keys.keep_first.Goals as goal

pub returns-clause-first : goal.returns-clause-first
returns-clause-first c =
    first_is (number_in c.args.numbers.now c.args.name.now) c.args.number c.unwrap_or-first.result
    (c.unwrap_or-first.ensures ∙ ap (λ o. unwrap_or o c.args.number) c.number_in.ensures)

pub returns-clause-kept : goal.returns-clause-kept
returns-clause-kept c = λ x.
    kept_by (bytes_eq c.args.name.now x) (number_in c.args.numbers.now x) (number_in c.args.numbers.now c.args.name.now) c.unwrap_or-first.result c.args.number (number_in c.insert.new.self x)
    (btree_map_updates_str c.args.name.now c.args.numbers.now c.insert.new.self _ c.in_ok-insert.ensures.updates x)
    (λ h. ap (number_in c.args.numbers.now) (sym ((bytes_eq-Decides c.args.name.now x).0 h)))
    (c.unwrap_or-first.ensures ∙ ap (λ o. unwrap_or o c.args.number) c.number_in.ensures)
