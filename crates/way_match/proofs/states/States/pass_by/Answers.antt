use Rattle.std.proofs.Common.{◌≡◌, ◌<◌, ◌-◌, length, None, refl, arith, rules}
use Rattle.way_match.proofs.PassedBy.{grown_none, passed_by, stay_passed_by}
use Rattle.way_match.proofs.RestLaws.{rested_all, still_without_last}
use Rattle.way_match.proofs.Turn.{blank_set, turned_held}
use Rattle.way_match.proofs.states.States.pass_by.Goals as goal

pub invariant_of-self : goal.invariant_of-self
invariant_of-self c =
    let l : c.len-last.result ≡ length c.args.self.now.live.items = search rules in
    let lt : c.len-last.result - 1 < length c.args.self.now.live.items = omega (arith, l, c.requires) in
    record {
      held = turned_held c.args.self.now.nodes.items c.args.self.now.nodes.items c.args.self.now.live.items (c.len-last.result - 1) None c.args.self.now.held (grown_none c.args.self.now.nodes.items) tt;
      blank = blank_set c.args.self.now.live.items (c.len-last.result - 1) None c.args.self.now.reach c.args.self.now.reach lt c.args.self.now.blank (omega arith) (λ h. refl);
    }

pub returns-clause-ways : goal.returns-clause-ways
returns-clause-ways c = λ p e n ss states none.
    let l : c.len-last.result ≡ length c.args.self.now.live.items = search rules in
    passed_by p e n c.args.self.now.nodes.items ss c.args.self.now.live.items (c.len-last.result - 1) c.args.self.now.held (omega (arith, l, states)) states none

pub returns-clause-passed : goal.returns-clause-passed
returns-clause-passed c = λ ss states passed.
    let l : c.len-last.result ≡ length c.args.self.now.live.items = search rules in
    stay_passed_by ss c.args.self.now.live.items c.args.self.now.low (c.len-last.result - 1) (omega (arith, l, states)) passed

pub returns-clause-rested : goal.returns-clause-rested
returns-clause-rested c = λ p e n ss states leaves.
    let l : c.len-last.result ≡ length c.args.self.now.live.items = search rules in
    rested_all p e n c.args.self.now.nodes.items ss c.args.self.now.live.items (c.len-last.result - 1) (omega (arith, l, states)) states leaves

pub returns-clause-still : goal.returns-clause-still
returns-clause-still c = λ still.
    let l : c.len-last.result ≡ length c.args.self.now.live.items = search rules in
    still_without_last c.args.self.now.live.items (c.len-last.result - 1) c.args.self.now.quiet (omega (arith, l, c.requires)) still
