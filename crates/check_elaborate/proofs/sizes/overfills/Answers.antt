use Rattle.std.proofs.Common.{rules, ◌≡◌, ◌*◌, ℕ, nat_lt, sym, ap, ◌∙◌}
use Rattle.c_parser.specs.SourceView.{init_view}
use Rattle.c_parser.specs.declared.tree.RawInit.{RawInit}
use Rattle.check_rules.specs.Codes.{overfills}
use Rattle.check_elaborate.proofs.ListLaws.{count_of_views}
use Rattle.check_elaborate.proofs.sizes.overfills.Goals as goal

pub returns-in-Many : goal.returns-in-Many
returns-in-Many c =
    let rows : c.from.result ≡ c.args.rows = search rules in
    let columns : c.from-in-Many.result ≡ c.args.columns = search rules in
    ap (λ (n : ℕ). nat_lt (n * c.from-in-Many.result) c.len.result) rows
    ∙ ap (λ (n : ℕ). nat_lt (c.args.rows * n) c.len.result) columns
    ∙ ap (nat_lt (c.args.rows * c.args.columns)) (c.len.ensures ∙ sym (count_of_views c.in-Many.es))
    ∙ sym (ap (λ (i : RawInit). overfills c.args.rows c.args.columns (init_view i)) c.in-Many.is)
