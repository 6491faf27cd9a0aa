use Rattle.std.proofs.Common.{◌≡◌, sym, ◌∙◌, rules, length}
use Rattle.way_match.proofs.Kept.{arrived, arrived_held}
use Rattle.way_match.proofs.states.arrives.Goals as goal

pub returns-in-Ok-clause-way : goal.returns-in-Ok-clause-way
returns-in-Ok-clause-way c = λ k h f.
    let l : c.len-at.result ≡ length c.args.nodes.now.items = search rules in
    arrived c.args.nodes.now.items c.push.new.self.items c.args.event k c.in-Some.previous c.len-at.result c.args.kept c.args.came
    (sym c.is_some.ensures ∙ c.if-is_some.false) c.in-Some.is (rw c.in-Ok.is at c.push.ensures.items) l f

pub returns-in-Ok-clause-held : goal.returns-in-Ok-clause-held
returns-in-Ok-clause-held c = λ k h f.
    let l : c.len-at.result ≡ length c.args.nodes.now.items = search rules in
    arrived_held c.args.nodes.now.items c.push.new.self.items c.args.event k c.in-Some.previous c.len-at.result c.args.came
    c.in-Some.is (rw c.in-Ok.is at c.push.ensures.items) l f
