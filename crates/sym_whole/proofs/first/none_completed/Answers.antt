use Rattle.std.proofs.Common.{◌≡◌, replicate, rules}
use Rattle.sym_whole.proofs.Starts.{no_segment, some_segment}
use Rattle.sym_whole.proofs.first.none_completed.Goals as goal

pub returns-then-segments-eq0 : goal.returns-then-segments-eq0
returns-then-segments-eq0 c =
    let all : c.in_ok-completed.completed.items ≡ replicate c.args.segments c.not.result = search rules in
    no_segment c.args.net.now c.args.segments c.yes-here.result c.not.result c.in_ok-completed.completed.items c.yes-here.ensures c.not.ensures all c.if-segments-eq0.true

pub returns : goal.returns
returns c =
    let all : c.in_ok-completed.completed.items ≡ replicate c.args.segments c.not.result = search rules in
    some_segment c.args.net.now c.args.segments c.yes-here.result c.not.result c.in_ok-completed.completed.items c.yes-here.ensures c.not.ensures all c.if-segments-eq0.false
