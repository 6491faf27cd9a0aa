use Rattle.std.proofs.Common.{rules, ◌≡◌, ℕ, nat_lt, sym, ap, ◌∙◌}
use Rattle.check_elaborate.proofs.ListLaws.{count_of_views}
use Rattle.check_elaborate.proofs.sizes.is_longer.Goals as goal

pub returns : goal.returns
returns c =
    let from : c.from.result ≡ c.args.columns = search rules in
    ap (λ (n : ℕ). nat_lt n c.len.result) from ∙ ap (nat_lt c.args.columns) (c.len.ensures ∙ sym (count_of_views c.args.row.now.values))
