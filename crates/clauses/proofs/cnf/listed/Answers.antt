use Rattle.std.proofs.Common.{◌≡◌, ◌∙◌, ap, arith, length}
use Rattle.clauses.specs.Tseitin.{clauses_below}
use Rattle.clauses.proofs.Pushed.{listed_none, listed_next}
use Rattle.clauses.proofs.cnf.listed.Goals as goal

pub loop-at-init : goal.loop-at-init
loop-at-init c = listed_none _ _ _ c.new-clauses.ensures

pub loop-at-preserved : goal.loop-at-preserved
loop-at-preserved c = listed_next _ _ _ c.loop-at.invariant c.in_ok-push_node.ensures

pub returns : goal.returns
returns c =
    let n : c.loop-at.at ≡ length c.args.net.now = omega (arith, c.requires.flagged) in
    c.loop-at.invariant ∙ ap (clauses_below c.args.flags.now c.args.net.now) n
